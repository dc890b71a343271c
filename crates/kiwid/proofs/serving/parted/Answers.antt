use Rattle.std.proofs.Common.{◌≡◌, ◌++◌, ◌∷◌, [], List, Result, length, ap, sym, ◌∙◌, subst, arith, append_assoc}
use Rattle.kw_model.specs.declared.memory.Memory.{Memory}
use Rattle.kiwid.specs.declared.serving.Served.{Served}
use Rattle.kiwid.specs.Seats.{AreParted}
use Rattle.kiwid.proofs.Parts.{all_of, parted_more}
use Rattle.kiwid.proofs.serving.parted.Goals as goal

pub loop-part-preserved : goal.loop-part-preserved
loop-part-preserved g c =
    let inv = c.loop-part.invariant in
    let first = c.in-Some.ensures {u = tt} in
    record {
      parted = parted_more {L = g.row.L.Denot} c.loop-part.yielded c.in-Some.part _ _ _ _ c.in_ok-pass.field-0 inv.parted c.in_ok-pass.was (cc (c.in_ok-push.ensures.items)) (cc (c.in_ok-push-2.ensures.items));
      whole = append_assoc c.loop-part.yielded (c.in-Some.part ∷ []) c.next.new.self.rest.items ∙ (ap (λ (ps : List (Result (Served g.row.L.Denot) Memory)). c.loop-part.yielded ++ ps) (sym first.steps.0) ∙ inv.whole);
    }

pub returns : goal.returns
returns g c =
    let inv = c.loop-part.invariant in
    let none = c.in-None.ensures {u = tt} in
    let rest : List (Result (Served g.row.L.Denot) Memory) = c.loop-part.part-iterator.rest.items in
    let empty : length rest ≡ 0 = omega (arith, none.steps.0) in
    subst (λ (ps : List (Result (Served g.row.L.Denot) Memory)). AreParted {L = g.row.L.Denot} ps c.loop-part.passes.items c.loop-part.rests.items) (all_of c.loop-part.yielded rest c.args.parts.items inv.whole empty) inv.parted
