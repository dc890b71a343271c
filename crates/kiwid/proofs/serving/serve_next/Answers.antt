use Rattle.kiwid.proofs.Servings.{served_next}
use Rattle.kiwid.proofs.serving.serve_next.Goals as goal

pub returns-clause-served : goal.returns-clause-served
returns-clause-served g c =
    served_next _ _ _ (record { handed = _; taken = _; end = c.session-end.result }) _ _ c.in_ok-link.ensures.handed (record {
      served = c.session-end.ensures.served;
      reads_on = c.session-end.ensures.reads_on;
      ended = c.session-end.ensures.ended;
      read_fault = c.session-end.ensures.read_fault;
      write_fault = c.session-end.ensures.write_fault;
      whole = c.session-end.ensures.whole;
    }) c.close.ensures
