-- What a rebalance has seen where it stands.
use Rattle.std.proofs.Common.{◌≡◌, ◌≢◌, ◌<◌, ◌≤◌, ◌++◌, [], ◌∷◌, arith, refl, sym, ◌∙◌, ap, subst, length, length-append}
use Rattle.std.proofs.lemmas.Bool.{cases_lt}
use mathlib.Core.Logic.{⊎_elim}
use Rattle.kw_world.specs.declared.answer.Answer.{Answer}
use Rattle.kw_world.specs.declared.answer.Answer.TheVariants as answer
use Rattle.kw_world.specs.declared.activity.Activity.{Activity}
use Rattle.kw_world.specs.declared.activity.rebalance.Rebalance.TheVariants as Rebalance
use Rattle.kw_world.specs.declared.activity.rebalance.seek.Seek.TheVariants as Seek
use Rattle.kw_world.specs.declared.local.Local.{Local}
use Rattle.kw_world.specs.Sizes.{product}
use Rattle.kw_core.specs.Events.{event}
use Rattle.kw_laws.specs.Causes.{AskedAll}
use Rattle.kw_laws.proofs.CausesHold.{standing_holds}
use Rattle.kw_shape.proofs.Worlds.{world-local}
use Rattle.kw_table.specs.declared.pass.Pass.{Pass}
use Rattle.kw_table.specs.declared.shared.Shared.{Shared}
use Rattle.kw_table.specs.Passes.{view}
use Rattle.kw_table.specs.Views.{local_in}
use Rattle.kw_table.proofs.Prefixes.{prefix_trans}
use Rattle.kw_follow.specs.Calling.{now_in}
use Rattle.kw_follow.specs.Following.{Follows, GoesTo}
use Rattle.kw_follow.proofs.Fronts.{acts_of_saw, seat_within}
use Rattle.kw_follow.proofs.OneEvent.{same_activity}
use Rattle.kw_live_rebal.specs.declared.rebalancing.Rebalanced.{Rebalanced}
use Rattle.kw_live_rebal.specs.declared.rebalancing.Rebalanced.TheVariants.{NoRows, Spent}
use Rattle.kw_live_rebal.specs.Rebalancing.{HasEnded, SawNoRows, SawReplaced, SawSpent, SawWon, stands_after}
use Rattle.kw_live_rebal.specs.Standing.{HasSeenCause, SawSearch}

-- What was seen earlier is seen.

module _ {s : Shared} (o : Pass) {p q : Pass} (goes : GoesTo s p q) where
  pub spent_on : SawSpent o p → SawSpent o q
  spent_on m = record {
    activity = m.activity;
    at = m.at;
    choice = m.choice;
    told = m.told;
    saw = record { front = m.saw.front; later = m.saw.later; here = prefix_trans _ _ _ m.saw.here goes.seen; activity = m.saw.activity; tells = m.saw.tells };
    spent = m.spent;
  }

  pub search_on : SawSearch o p → SawSearch o q
  search_on m = record {
    choice = m.choice;
    told = m.told;
    saw = record { front = m.saw.front; later = m.saw.later; here = prefix_trans _ _ _ m.saw.here goes.seen; activity = m.saw.activity; tells = m.saw.tells };
  }

  pub won_on : SawWon o p → SawWon o q
  won_on m = record {
    choice = m.choice;
    told = m.told;
    saw = record { front = m.saw.front; later = m.saw.later; here = prefix_trans _ _ _ m.saw.here goes.seen; activity = m.saw.activity; tells = m.saw.tells };
    leads = m.leads;
    unmarked = m.unmarked;
  }

  pub replaced_on : SawReplaced o p → SawReplaced o q
  replaced_on m = record {
    activity = m.activity;
    choice = m.choice;
    told = m.told;
    saw = record { front = m.saw.front; later = m.saw.later; here = prefix_trans _ _ _ m.saw.here goes.seen; activity = m.saw.activity; tells = m.saw.tells };
    replaced = m.replaced;
    unlinked = m.unlinked;
  }

-- For want of rows.

-- a pass that began a search since, and is about to leave for want of rows, asked for each row in a
-- search since
pub no_rows_from : {s : Shared} {o p : Pass} {l : Local} → GoesTo s o p → Follows s p l → l.activity ≡ Activity.Leave answer.NoRows → SawSearch o p → SawNoRows o p
no_rows_from {s} {o} {p} {l} goes f is m =
    let why = standing_holds product (view p).opening p.known.opens (view p).seen p.known.valid (view p).number (local_in (view p)) (world-local product (view p).opening (view p).seen (view p).number (seat_within p)) (same_activity s p l f ∙ is) in
    let asked : AskedAll product (view p).opening (view p).seen (view p).number (view p).opening.rows why.0 (now_in p) = why.1 in
    let began : now_in o ≤ length m.saw.front = omega (arith, sym (ap length m.saw.later.1), length-append (view o).seen m.saw.later.0) in
    let front : length m.saw.front < now_in p = omega (arith, sym (ap length m.saw.here.1), length-append (m.saw.front ++ event (view o).number m.choice ∷ []) m.saw.here.0, length-append m.saw.front (event (view o).number m.choice ∷ [])) in
    record {
      first = why.0;
      asked = asked;
      since = ⊎_elim
          (λ (before : asked.begun < now_in o). absurd (asked.alone (length m.saw.front) _ _ (omega (arith, before, began)) front (acts_of_saw s o p (Activity.Rebalance (Rebalance.Seek Seek.First)) m.choice m.told goes m.saw)))
          (λ (since : now_in o ≤ asked.begun). since)
          (cases_lt asked.begun (now_in o));
    }

-- How a rebalance ends that is about to leave.

-- it has its cause, and stands where it is said to
pub record Ends (o p : Pass) (a : Activity) (r : Rebalanced) : Type 0 where
  pub stands : a ≡ stands_after r
  pub cause : HasEnded o p r

-- for want of rows, or as spent, as its answer says
pub ends_refused : {s : Shared} {o p : Pass} {l : Local} → GoesTo s o p → Follows s p l → (x : Answer) → l.activity ≡ Activity.Leave x → HasSeenCause o p (Activity.Leave x) l → (r : Rebalanced) → (x ≡ answer.NoRows → r ≡ NoRows) → (x ≢ answer.NoRows → r ≡ Spent) → Ends o p l.activity r
ends_refused {s} {o} {p} {l} goes f answer.NoRows is h r rows spent = subst (Ends o p l.activity) (sym (rows refl)) (record { stands = is; cause = no_rows_from goes f is h })
ends_refused {s} {o} {p} {l} goes f answer.Spent is h r rows spent = subst (Ends o p l.activity) (sym (spent (λ e. let x : answer.Spent ≡ answer.NoRows = e in cc))) (record { stands = is; cause = h })
ends_refused {s} {o} {p} {l} goes f _ is h r rows spent = absurd h
