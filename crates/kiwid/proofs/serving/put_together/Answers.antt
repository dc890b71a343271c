use Rattle.std.proofs.Common.{◌++◌, ◌∷◌, [], List, ap, sym, refl, ◌∙◌, append_assoc}
use Rattle.kw_table.specs.declared.pass.Pass.{Pass}
use Rattle.kiwid.specs.declared.serving.Served.{Served}
use Rattle.kiwid.specs.declared.serving.Rest.{Rest}
use Rattle.kiwid.specs.Seats.{rests_of}
use Rattle.kiwid.proofs.Parts.{mapped_more}
use Rattle.kiwid.proofs.serving.put_together.Goals as goal

pub loop-pass-preserved : goal.loop-pass-preserved
loop-pass-preserved g c =
    let inv = c.loop-pass.invariant in
    let first = c.in-Some.ensures {u = tt} in
    let served = c.loop-pass.served.items in
    let rest : Rest g.row.L.Denot = c.in-Some-next.field-0 in
    let left : List (Rest g.row.L.Denot) = c.next-in-loop-pass.new.self.rest.items in
    let more = mapped_more (λ (s : Served g.row.L.Denot). record { listener = s.listener; ends = s.ends }) served c.push.new.self.items (rests_of served) (record { pass = c.in-Some.pass; listener = rest.listener; ends = rest.ends }) refl c.in_ok-push.ensures.items in
    record {
      passes = mapped_more (λ (s : Served g.row.L.Denot). s.pass) served c.push.new.self.items c.loop-pass.yielded _ inv.passes c.in_ok-push.ensures.items;
      rests = ap (λ (rs : List (Rest g.row.L.Denot)). rs ++ left) more
          ∙ (append_assoc (rests_of served) (rest ∷ []) left ∙ (ap (λ (rs : List (Rest g.row.L.Denot)). rests_of served ++ rs) (sym c.in-Some-next.ensures.items) ∙ inv.rests));
      whole = append_assoc c.loop-pass.yielded (c.in-Some.pass ∷ []) c.next.new.self.rest.items ∙ (ap (λ (ps : List Pass). c.loop-pass.yielded ++ ps) (sym first.steps.0) ∙ inv.whole);
    }
