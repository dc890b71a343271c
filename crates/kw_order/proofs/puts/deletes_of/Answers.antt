use Rattle.std.proofs.Common.{arith, length, ap, sym, ◌∙◌, not, is_some}
use Rattle.std.proofs.lemmas.Bool.{true≢false}
use Rattle.kw_core.proofs.Attempts.{attempt_at}
use Rattle.kw_order.specs.Puts.{put_at}
use Rattle.kw_order.proofs.PutLists.{place_within}
use Rattle.kw_order.proofs.GapLists.{none_of}
use Rattle.kw_order.proofs.PickedDeletes.{picked_more, picked_same}
use Rattle.kw_order.proofs.puts.deletes_of.Goals as goal
use Rattle.kw_order.proofs.puts.deletes_of.Goals.{then-is_none+in_ok-push, else-is_none}

pub offset_bounds-attempts-put : goal.offset_bounds-attempts-put
offset_bounds-attempts-put c =
    omega (arith, place_within c.args.history.now c.args.puts.now c.requires.are c.loop-put.put-index c.loop-put-test.true, ap length c.attempts-attempts.ensures, c.attempts-attempts.type_inv)

pub bounds-attempts-put : goal.bounds-attempts-put
bounds-attempts-put c = omega (arith, place_within c.args.history.now c.args.puts.now c.requires.are c.loop-put.put-index c.loop-put-test.true, ap length c.attempts-attempts.ensures)

pub loop-put-preserved : goal.loop-put-preserved
loop-put-preserved c =
    let h = c.args.history.now in
    let shown = rw (attempt_at h c.attempts-attempts.result.now (put_at c.args.puts.now c.loop-put.put-index).place c.attempts-attempts.ensures) at c.is_none.ensures in
    elim c.if-is_none.branch [
      | then-is_none+in_ok-push w ↦ rw (w.deletes-is, w.in_ok-push.ensures.items)
          (picked_more h c.args.puts.now c.loop-put.deletes.items c.loop-put.put-index c.requires c.loop-put-test.true c.loop-put.invariant (none_of _ (shown ∙ ap not w.if-is_none.true)))
      | else-is_none w ↦ rw w.deletes-is
          (picked_same h c.args.puts.now c.loop-put.deletes.items c.loop-put.put-index c.loop-put.invariant (λ e. true≢false (sym (shown ∙ ap not w.if-is_none.false) ∙ ap is_some e)))
    ]
