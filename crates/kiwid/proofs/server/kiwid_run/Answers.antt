-- The words ask for numbers in range, and the seats tell whether one of them served too few.
use Rattle.std.proofs.Common.{◌≡◌, ◌∙◌, sym, subst, inr, Option, Some}
use Rattle.kiwid.specs.declared.server.Status.{Status}
use Rattle.kiwid.specs.declared.words.Asked.{Asked}
use Rattle.kiwid.specs.Server.{EndsAsked, EndsRun}
use Rattle.kiwid.specs.Words.{asked_by}
use Rattle.kiwid.proofs.Numbers.{asked_in_range}
use Rattle.kiwid.proofs.Runs.{all_whole, opens_with, some_short}
use Rattle.kiwid.proofs.server.kiwid_run.Goals as goal
use Rattle.kiwid.proofs.server.kiwid_run.Goals.{in-Some-short_seat, in-None}

pub serve_bound-requires-clause-opens : goal.serve_bound-requires-clause-opens
serve_bound-requires-clause-opens g c κs within =
    let range = asked_in_range c.args.words.now c.in-Some.asked (sym c.read_words.ensures ∙ c.in-Some.is) in
    opens_with c.in-Some.asked.seats range.some_seats range.seats

pub returns-clause-ends : goal.returns-clause-ends
returns-clause-ends g c =
    let asked : Asked = c.in-Some.asked in
    let is : asked_by c.args.words.now ≡ Some asked = sym c.read_words.ensures ∙ c.in-Some.is in
    let h = c.in-Ok-serve_bound.ensures in
    let state = g.B.Bound.Listener.state in
    let old = g.B.Binder.faults c.args.binder.now in
    let new = g.B.Binder.faults c.bind.new.self in
    let served = c.in-Ok-serve_bound.served.items in
    subst (λ (o : Option Asked). EndsRun state old new o c.match-short_seat.status served) (sym is)
    (elim c.match-short_seat.branch [
      | in-Some-short_seat w ↦ subst (λ (s : Status). EndsAsked state old new asked s served) (sym w.status-is)
          (inr (h, some_short state asked.seats asked.sessions served c.deref.result.now h c.deref.ensures.value c.short_seat.result _ c.short_seat.ensures w.in-Some-short_seat.is))
      | in-None w ↦ subst (λ (s : Status). EndsAsked state old new asked s served) (sym w.status-is)
          (h, all_whole state asked.seats asked.sessions served c.deref.result.now h c.deref.ensures.value c.short_seat.result c.short_seat.ensures w.in-None.is)
    ])
