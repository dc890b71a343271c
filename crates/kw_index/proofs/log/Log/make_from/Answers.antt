use Rattle.std.proofs.Common.{◌≡◌, ◌+◌, ◌<◌, suc, None, [], length, slice_index_or, refl, ap, subst, arith, ◌∙◌}
use native.Mathlib.Numerals.{unary_clauses}
use Rattle.std.proofs.lemmas.List.{get_or_default}
use Rattle.kw_index.specs.Logs.{after, change_of, later}
use Rattle.kw_index.proofs.log.Log.make_from.Goals as goal

-- none is made yet
pub loop-count-init : goal.loop-count-init
unfolding after
loop-count-init c = (refl, refl)

-- one more is made: that of the next number
pub loop-count-preserved : goal.loop-count-preserved
unfolding after
loop-count-preserved c =
    let below : c.place.result < length c.self.inside.changes.items = grind (arith, c.self.invariant, c.place.ensures) in
    let read : c.index.result.now ≡ slice_index_or c.self.inside.changes.items c.place.result (record { placed = []; gone = 0; second = None }) = c.index.ensures ∙ get_or_default c.self.inside.changes.items c.place.result c.index.result.now (record { placed = []; gone = 0; second = None }) below in
    let here : c.index.result.now ≡ change_of c.args.self.now (later c.args.seen (suc c.loop-count.count)) = read ∙ rw (c.place.ensures, ← c.self.view_is) (simp unary_clauses refl) in
    let made : c.apply.new.self ≡ after c.args.self.now c.args.seen (suc c.loop-count.count) c.args.entries.now = rw (← c.loop-count.invariant.0, ← here) c.apply.ensures in
    let next : suc c.loop-count.count ≡ c.loop-count.count + 1 = omega arith in (
      subst (λ count. c.apply.new.self ≡ after c.args.self.now c.args.seen count c.args.entries.now) next made,
      ap (λ l. l.rows) c.apply.ensures ∙ c.loop-count.invariant.1,
    )
