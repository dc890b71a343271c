-- Each cell is kept or passed.
use Rattle.std.proofs.Common.{◌≡◌, ◌≤◌, ◌+◌, ◌-◌, arith, sym, ◌∙◌, get_or}
use Rattle.std.proofs.lemmas.Bool.{false≢true}
use Rattle.kw_cells.proofs.Rising.{any_cell}
use Rattle.kw_cells.proofs.Passing.{IsShown, key_started, key_hidden, key_ended, shown_here, shown_there, kept_on, kept_shown, passed_on}
use Rattle.kw_cells.proofs.keep.select_key.Goals as goal
use Rattle.kw_cells.proofs.keep.select_key.Goals.{else-may_stay-via-then-may_stay+else-is_picked, else-may_stay-via-else-may_stay}

pub loop-place-init : goal.loop-place-init
loop-place-init c = record {
  low = (let a = c.requires.key.some in omega arith);
  high = omega arith;
  so_far = key_started c.args.ordered.now c.args.needed.now c.requires.ordered c.requires.apart c.args.from c.args.end c.requires.key c.args.kept.now c.requires.before;
  shown = key_hidden c.args.ordered.now c.args.needed.now c.requires.ordered c.requires.apart c.args.from c.args.end c.requires.key c.args.kept.now any_cell c.requires.before;
}

pub loop-place-preserved : goal.loop-place-preserved
loop-place-preserved c =
    let i = c.loop-place.invariant in
    let next : c.loop-place.place - 1 + 1 ≡ c.loop-place.place = omega arith in
    let low : c.args.from ≤ c.loop-place.place - 1 = omega arith in
    record {
      low = low;
      high = omega (arith, i.high);
      so_far = passed_on c.args.ordered.now c.args.needed.now c.requires.ordered c.requires.apart c.args.from c.args.end c.requires.key c.loop-place.place (c.loop-place.place - 1) c.loop-place.shown c.loop-place.kept next low i.high i.so_far _ (elim c.else-may_stay.branch [
        | else-may_stay-via-then-may_stay+else-is_picked v ↦ λ may picked. false≢true (sym v.if-is_picked.false ∙ v.is_picked.ensures.1 picked)
        | else-may_stay-via-else-may_stay v ↦ λ may picked. false≢true (sym v.if-may_stay.false ∙ c.may_stay.ensures.1 may)
      ]) (shown_here c.args.ordered.now c.args.needed.now c.requires.ordered c.requires.apart c.args.from c.args.end c.requires.key c.loop-place.place (c.loop-place.place - 1) c.loop-place.shown c.loop-place.kept next low i.high i.so_far _ any_cell i.shown);
      shown = i.shown;
    }

pub loop-place-preserved-then-is_picked : goal.loop-place-preserved-then-is_picked
loop-place-preserved-then-is_picked c =
    let i = c.loop-place.invariant in
    let next : c.loop-place.place - 1 + 1 ≡ c.loop-place.place = omega arith in
    let low : c.args.from ≤ c.loop-place.place - 1 = omega arith in
    let picked = c.is_picked.ensures.0 c.if-is_picked.true in
    let may = c.may_stay.ensures.0 c.if-may_stay.true in
    let here : IsShown (get_or c.args.ordered.now (c.loop-place.place - 1) any_cell).key c.loop-place.shown c.loop-place.kept = shown_here c.args.ordered.now c.args.needed.now c.requires.ordered c.requires.apart c.args.from c.args.end c.requires.key c.loop-place.place (c.loop-place.place - 1) c.loop-place.shown c.loop-place.kept next low i.high i.so_far _ any_cell i.shown in
    rw c.push.ensures (record {
      low = low;
      high = omega (arith, i.high);
      so_far = kept_on c.args.ordered.now c.args.needed.now c.requires.ordered c.requires.apart c.args.from c.args.end c.requires.key c.loop-place.place (c.loop-place.place - 1) c.loop-place.shown c.loop-place.kept next low i.high i.so_far _ picked here may;
      shown = shown_there c.args.ordered.now c.args.needed.now c.requires.ordered c.requires.apart c.args.from c.args.end c.requires.key c.loop-place.place (c.loop-place.place - 1) c.loop-place.shown c.loop-place.kept next low i.high i.so_far _ any_cell _ (kept_shown c.args.ordered.now c.args.needed.now c.requires.ordered c.requires.apart c.args.from c.args.end c.requires.key c.loop-place.place (c.loop-place.place - 1) c.loop-place.shown c.loop-place.kept next low i.high i.so_far _ picked here may);
    })

pub push-requires : goal.push-requires
push-requires c = let i = c.loop-place.invariant in let few = i.so_far.few in let within = c.requires.key.within in (omega arith, omega (arith, few, within, i.high, c.requires.room, c.loop-place-test.true))

pub returns : goal.returns
returns c =
    let i = c.loop-place.invariant in
    let e : c.loop-place.place ≡ c.args.from = omega (arith, i.low, c.loop-place-test.false) in
    key_ended c.args.ordered.now c.args.needed.now c.requires.ordered c.requires.apart c.args.from c.args.end c.requires.key c.loop-place.kept (rw e at i.so_far)
