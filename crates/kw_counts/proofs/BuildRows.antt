-- A build takes no more rows than a group may be cut into.
use Rattle.std.proofs.Common.{ℕ, suc, ◌≡◌, ◌+◌, ◌*◌, ◌<◌, ◌≤◌, true, Some, List, arith, refl, sym, subst, slice_get, length}
use Rattle.kw_words.specs.declared.sizes.TheConstants.{MOST_GROUP}
use Rattle.kw_cells.specs.Cuts.{AreFilled}
use Rattle.kw_cells.specs.Kept.{HasFew, kept_of}
use Rattle.kw_cells.proofs.Enough.{rows_enough}
use Rattle.kw_cells.proofs.Even.{are_filled}
use Rattle.kw_cells.proofs.Few.{few_of_kept, few_within}
use Rattle.kw_cells.proofs.Rooms.{AreEnough}
use Rattle.kw_world.specs.declared.activity.Activity.{Activity}
use Rattle.kw_world.specs.declared.activity.rebalance.Rebalance.TheVariants as Rebalance
use Rattle.kw_world.specs.declared.event.Event.{Event}
use Rattle.kw_world.specs.declared.local.Local.{Local}
use Rattle.kw_world.specs.declared.opening.Opening.{Opening}
use Rattle.kw_world.specs.Opening.{IsOpening}
use Rattle.kw_world.specs.Sane.{IsKnown, needed_by}
use Rattle.kw_world.specs.Sizes.{Sizes}
use Rattle.kw_core.specs.Events.{is_valid, world}
use Rattle.kw_core.specs.Run.{Run, history}
use Rattle.kw_core.proofs.Runs.{history-world}
use Rattle.kw_shape.specs.Infants.{nursing_of}
use Rattle.kw_shape.specs.Keyed.{IsPlanned}
use Rattle.kw_shape.specs.Plans.{Plans}
use Rattle.kw_shape.specs.Shape.{Shape}
use Rattle.kw_shape.proofs.Planned.{IsPlan, plan_of}
use Rattle.kw_reads.proofs.Keeps.{inv_holds}
use Rattle.kw_counts.specs.Builds.{IsMostOfBuild, KeepsBuilds}

-- a seat that has its plan has looked at all scans, and may need as many pins
planned_needs : (z : Sizes) (a : Activity) → IsPlanned (nursing_of a) → needed_by z a ≡ 2 * z.seats
planned_needs z (Activity.Rebalance (Rebalance.Freeze f)) x = absurd x
planned_needs z _ x = refl

-- what it has taken
module _ (z : Sizes) (r : Run) (i : Shape z r) (t : ℕ) (l : Local) (g : slice_get r.world.locals t ≡ Some l) (x : IsPlanned (nursing_of l.activity)) (most : ℕ) (m : IsMostOfBuild z most) where
  known : IsKnown z r.world.rows l
  known = i.sane.locals t l g

  plans : Plans z l.activity l
  plans = i.plans t l g

  needed : length l.rebalance.needed ≤ 2 * z.seats
  needed = omega (arith, known.room.rebalance.needed, planned_needs z l.activity x)

  plan : IsPlan z.built l
  plan = plan_of z l.activity l plans x i.built needed

  few : HasFew z.built l.rebalance.kept
  few = subst (HasFew z.built) (sym (plans.kept x)) (few_within (length l.rebalance.needed + 1) z.built (kept_of l.rebalance.gathered l.rebalance.needed) (omega (arith, i.built, needed)) (few_of_kept l.rebalance.gathered l.rebalance.needed))

  filled : AreFilled z.built l.rebalance.kept l.rebalance.starts
  filled = subst (AreFilled z.built l.rebalance.kept) (sym (plans.starts x)) (are_filled z.built l.rebalance.kept plan.rising few)

  enough : AreEnough (MOST_GROUP * z.cells) z.built most
  enough = record { pairs = m.pairs; odd = m.odd; more = (let e : suc m.pairs ≡ m.pairs + 1 = omega arith in subst (λ n. MOST_GROUP * z.cells < n * (z.built + 1)) (sym e) m.more) }

  rows_few : length l.rebalance.taken ≤ most
  rows_few = omega (arith, known.ranges.rebalance.taken, rows_enough z.built l.rebalance.kept l.rebalance.starts plan.starts filled (MOST_GROUP * z.cells) most known.ranges.rebalance.few enough)

pub builds_hold : (z : Sizes) (o : Opening) → IsOpening z o → (es : List Event) → is_valid z o es ≡ true → KeepsBuilds z (world z o es)
builds_hold z o opening es ok = subst (KeepsBuilds z) (history-world z o es) (record { rows = λ t l g x most m. rows_few z (history z o es) (inv_holds z o opening es ok).shape t l g x most m })
