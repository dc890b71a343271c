-- The events that freeze and gather the rows of a group and write the new ones: what each asks, and
-- what its seat knows.
use Rattle.std.proofs.Common.{◌≡◌, ◌+◌, ◌<◌, ◌≤◌, ◌∙◌, ℕ, Some, arith, ap, sym, subst, length, slice_get}
use Rattle.kw_words.specs.declared.kind.Kind.TheVariants as kind
use Rattle.kw_words.specs.declared.layout.Name.{Name}
use Rattle.kw_words.specs.declared.pend.Pend.{Pend}
use Rattle.kw_words.specs.declared.pend.Pend.TheVariants.{Idle, Pending, Stamped, Frozen}
use Rattle.kw_words.specs.declared.sizes.TheConstants.{SEATS}
use Rattle.kw_cells.specs.declared.limits.TheConstants.{MOST_NEEDED}
use Rattle.kw_words.specs.Pend.{IsPend}
use Rattle.kw_cells.specs.Kept.{AreRising, kept_of}
use Rattle.kw_cells.proofs.KeptOf.{kept_of-rising}
use Rattle.kw_world.specs.declared.activity.Activity.{Activity}
use Rattle.kw_world.specs.declared.activity.rebalance.freeze.Freeze.TheVariants as Freeze
use Rattle.kw_world.specs.declared.activity.rebalance.gather.Gather.TheVariants as Gather
use Rattle.kw_world.specs.declared.activity.rebalance.Rebalance.TheVariants as Rebalance
use Rattle.kw_world.specs.declared.activity.rebalance.write.Write.{Write}
use Rattle.kw_world.specs.declared.event.Choice.TheVariants.{Go}
use Rattle.kw_world.specs.declared.limits.TheConstants.{MOST_MARKS}
use Rattle.kw_world.specs.declared.local.Local.{Local}
use Rattle.kw_world.specs.declared.operation.Action.TheVariants.{Load}
use Rattle.kw_world.specs.ListTransitions.{link_name}
use Rattle.kw_world.specs.Sane.{IsActivity, IsEntry, entries_before, group_marks_by, needed_by}
use Rattle.kw_world.specs.Sizes.{product}
use Rattle.kw_world.specs.WorldView.{WorldView}
use Rattle.kw_core.proofs.Runs.{history-world}
use Rattle.kw_shape.specs.Infants.{nursing_of}
use Rattle.kw_shape.specs.Keyed.{IsPlanned}
use Rattle.kw_shape.specs.Plans.{Plans}
use Rattle.kw_reads.proofs.Keeps.{inv_holds}
use Rattle.kw_shape.proofs.Hands.{entries_few}
use Rattle.kw_shape.proofs.Worlds.{world-local}
use Rattle.kw_table.specs.declared.pass.Pass.{Pass}
use Rattle.kw_table.specs.declared.shared.Shared.{Shared}
use Rattle.kw_table.specs.Passes.{view, operation, Asks}
use Rattle.kw_table.specs.Views.{local_in}
use Rattle.kw_follow.specs.Following.{Follows}
use Rattle.kw_follow.proofs.Fronts.{seat_within}
use Rattle.kw_follow.proofs.OneEvent.{follows_ranges, follows_room, same_activity}
use Rattle.kw_follow.proofs.PutEvents.{asks_at}

module _ (s : Shared) (p : Pass) (l : Local) (f : Follows s p l) where
  -- the seat or the cell that its activity names is in range
  pub named_below : (a : Activity) → l.activity ≡ a → IsActivity product a
  named_below a is = subst (IsActivity product) is (follows_ranges s p l f).activity

  -- so many cells are remembered at most, and so many versions needed
  pub marks_room : (i : ℕ) → l.activity ≡ Activity.Rebalance (Rebalance.Freeze (Freeze.Look i)) → length l.rebalance.marks < MOST_MARKS
  marks_room i is =
      let below : i < SEATS = named_below (Activity.Rebalance (Rebalance.Freeze (Freeze.Look i))) is in
      let room : length l.rebalance.marks ≤ entries_before product l.rebalance + i = subst (λ a. length l.rebalance.marks ≤ group_marks_by product a l.rebalance) is (follows_room s p l f).rebalance.marks in
      omega (arith, below, room, entries_few product l.rebalance)

  pub needed_room : (i : ℕ) → l.activity ≡ Activity.Rebalance (Rebalance.Freeze (Freeze.Scan i)) → length l.rebalance.needed < MOST_NEEDED
  needed_room i is =
      let below : i < SEATS = named_below (Activity.Rebalance (Rebalance.Freeze (Freeze.Scan i))) is in
      let room : length l.rebalance.needed ≤ i = subst (λ a. length l.rebalance.needed ≤ needed_by product a) is (follows_room s p l f).rebalance.needed in
      omega (arith, below, room)

  pub needed_few : (a : Activity) → l.activity ≡ a → needed_by product a ≡ MOST_NEEDED → length l.rebalance.needed ≤ MOST_NEEDED
  needed_few a is most = subst (λ n. length l.rebalance.needed ≤ n) most (subst (λ b. length l.rebalance.needed ≤ needed_by product b) is (follows_room s p l f).rebalance.needed)

  -- the kept cells rise where a row is written
  pub kept_rises : (w : Write) → l.activity ≡ Activity.Rebalance (Rebalance.Write w) → AreRising l.rebalance.kept
  kept_rises w is = subst (λ (k : Local). AreRising k.rebalance.kept) (sym f.carries) (subst AreRising (sym kept) (kept_of-rising seat.rebalance.gathered seat.rebalance.needed))
    where
      seat : Local
      seat = local_in (view p)

      plans : Plans product seat.activity seat
      plans = (inv_holds product (view p).opening p.known.opens (view p).seen p.known.valid).shape.plans (view p).number seat
          (ap (λ (w : WorldView). slice_get w.locals (view p).number) (history-world product (view p).opening (view p).seen) ∙ world-local product (view p).opening (view p).seen (view p).number (seat_within p))

      kept : seat.rebalance.kept ≡ kept_of seat.rebalance.gathered seat.rebalance.needed
      kept = plans.kept (subst (λ a. IsPlanned (nursing_of a)) (sym (same_activity s p l f ∙ is)) tt)

-- an entry in range has a word
pub entry_fits : (e : Pend) → IsEntry product (Some e) → IsPend e
entry_fits Idle k = tt
entry_fits (Pending cell) k = omega (arith, k)
entry_fits (Stamped cell version) k = (omega (arith, k.0), k.1.0, k.1.1)
entry_fits Frozen k = tt

-- the load of a link
pub asks_taken_link : (s : Shared) (p : Pass) (l : Local) (n : Name) → Follows s p l → l.activity ≡ Activity.Rebalance (Rebalance.Gather Gather.Link) → n ≡ link_name l.rebalance.hand l.link → Asks s p Go (operation kind.LoadAfter n Load)
asks_taken_link s p l n f is name = subst (λ (m : Name). Asks s p Go (operation kind.LoadAfter m Load)) (sym name) (asks_at s p l (Activity.Rebalance (Rebalance.Gather Gather.Link)) f is tt)
