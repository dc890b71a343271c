-- How a rebalance goes on: with the same row, at the row to which the seat moves, or it is over.
use Rattle.std.proofs.Common.{ℕ, ◌≡◌, refl, sym, ◌∙◌, subst}
use Rattle.kw_world.specs.declared.activity.Activity.{Activity}
use Rattle.kw_world.specs.declared.activity.rebalance.Rebalance.TheVariants as Rebalance
use Rattle.kw_world.specs.declared.activity.rebalance.engage.Engage.TheVariants as Engage
use Rattle.kw_world.specs.declared.event.Choice.{Choice}
use Rattle.kw_world.specs.declared.local.Local.{Local}
use Rattle.kw_world.specs.Sizes.{Sizes}
use Rattle.kw_core.specs.Stages.{IsBalancing}
use Rattle.kw_core.specs.Words.{Words}
use Rattle.kw_core.proofs.Arrows.{Arrow, builds, clock_is_spent, ends_at_clock, clock_serves, epoch_is_spent, ends_at_epoch, epoch_serves, finds_infant, finds_normal, finds_leader, finds_follower, finds_other_state, ends_at_state, normalises, engages, is_engaged, marks_link, marks_last, marks_led, decides, decides_not, ends_undecided, counts_next, claims_next, next_is_infant, next_leads, claims_not, ends_unclaimed, normalises_next, marks_next, begins_left, takes_leader, reaches_leader, leads_left, walks_left, head_follows, ends_at_head, none_is_left, ends_at_none, passes_left, ends_past, freezes_count, sees_idle, sees_unstamped, remembers, remembers_last, sees_frozen, sees_frozen_last, freezes_entry, freezes_last, looks_again, sees_quiet, sees_quiet_last, helps_scan, sees_drawn, sees_drawn_last, draws_for, settles_scan, settles_last, finds_drawn, finds_drawn_last, finds_no_scan, finds_no_scan_last, take_leads, takes_left, takes_no_more, takes_key, takes_version, keeps_taken, takes_left_key, keeps_left, keeps_no_more, looks_at_pin}
use Rattle.kw_core.proofs.Building.{Building, IsBuilding}
use Rattle.kw_core.proofs.BuiltNext.{IsAfterBuilding, built_keeps, built_next}
use Rattle.kw_core.proofs.Grouping.{GroupGoes, NextCounted, NextFrozen, NextGathered, counted_goes, counted_leads, frozen_goes, frozen_leads, gathered_goes, gathered_leads}
use Rattle.kw_shape.proofs.AfterBuilding.{look_goes}
use Rattle.kw_puts.proofs.BuiltStages.{pin_look_is}
use Rattle.kw_full.specs.Full.{IsEngaging}

-- the rebalance is over: the put tries again, or the call is to end
abbrev pub IsOver : Activity → Type 0
IsOver Activity.Retry = Unit {0}
IsOver (Activity.Leave answer) = Unit {0}
IsOver _ = ⊥

-- a seat that rebalances at the activity a comes to engage a row only where it was to engage that
-- before, or where it moves
pub data Goes (a : Activity) (l k : Local) : Type 0 where
  goes_on : IsBalancing k.activity → k.row ≡ l.row → k.lower ≡ l.lower → (IsEngaging k.activity → IsEngaging a) → Goes a l k
  moves_to : k.activity ≡ Activity.Rebalance (Rebalance.Engage Engage.Clock) → Goes a l k
  is_over : IsOver k.activity → Goes a l k

module _ (z : Sizes) (v : Words) (choice : Choice) (l : Local) (a : Activity) (k : Local) where
  -- new rows are taken, written and linked
  built_here : Building z v choice l a k → (b : Activity) → k.activity ≡ b → IsBuilding b → (IsEngaging b → ⊥) → IsBalancing b → Goes a l k
  built_here t b e y n x =
      let keeps = built_keeps z v choice l a k t (subst IsBuilding (sym e) y) in
      goes_on (subst IsBalancing (sym e) x) keeps.row keeps.lower (λ g. absurd (n (subst IsEngaging e g)))

  built_by : Building z v choice l a k → (b : Activity) → k.activity ≡ b → IsAfterBuilding b → Goes a l k
  built_by t Activity.Retry e n = is_over (subst IsOver (sym e) tt)
  built_by t (Activity.Leave answer) e n = is_over (subst IsOver (sym e) tt)
  built_by t (Activity.Rebalance (Rebalance.Engage Engage.Clock)) e n = moves_to e
  built_by t (Activity.Rebalance (Rebalance.Seek c)) e n = built_here t (Activity.Rebalance (Rebalance.Seek c)) e tt (λ g. g) tt
  built_by t (Activity.Rebalance (Rebalance.Write c)) e n = built_here t (Activity.Rebalance (Rebalance.Write c)) e tt (λ g. g) tt
  built_by t (Activity.Rebalance (Rebalance.Replace c)) e n = built_here t (Activity.Rebalance (Rebalance.Replace c)) e tt (λ g. g) tt
  built_by t _ e n = absurd n

  -- a part that has no event of its own goes on
  group_by : (m : Local) → m.row ≡ l.row → m.lower ≡ l.lower → GroupGoes m k → (IsEngaging k.activity → ⊥) → Goes a l k
  group_by m r o g n = goes_on g.next (g.row ∙ r) (g.lower ∙ o) (λ x. absurd (n x))

  counted_by : (count : ℕ) (m : Local) → m.row ≡ l.row → m.lower ≡ l.lower → NextCounted count m k → Goes a l k
  counted_by count m r o n = group_by m r o (counted_goes count m k n) (counted_leads (λ b. IsEngaging b → ⊥) (λ x. x) (λ x. x) count m k n)

  frozen_by : (m : Local) → m.row ≡ l.row → m.lower ≡ l.lower → NextFrozen m k → Goes a l k
  frozen_by m r o n = group_by m r o (frozen_goes m k n) (frozen_leads (λ b. IsEngaging b → ⊥) (λ x. x) (λ x. x) m k n)

  gathered_by : (m : Local) → m.row ≡ l.row → m.lower ≡ l.lower → NextGathered z m k → Goes a l k
  gathered_by m r o n = group_by m r o (gathered_goes z m k n) (gathered_leads (λ b. IsEngaging b → ⊥) (λ x. x) (λ x. x) z m k n)

-- each event of a rebalance
pub goes_by : (z : Sizes) (v : Words) (s : ℕ) (choice : Choice) (l : Local) (a : Activity) (k : Local) → Arrow z v s choice l a k → IsBalancing a → Goes a l k
goes_by z v s choice l a k (builds b m y t) x = built_by z v choice l a k t k.activity refl (built_next z v choice l a k t)
goes_by z v s choice l a k (clock_is_spent o t) x = is_over tt
goes_by z v s choice l a k (ends_at_clock t) x = is_over tt
goes_by z v s choice l a k (clock_serves o) x = goes_on tt refl refl (λ g. tt)
goes_by z v s choice l a k (epoch_is_spent o t) x = is_over tt
goes_by z v s choice l a k (ends_at_epoch t) x = is_over tt
goes_by z v s choice l a k (epoch_serves o) x = goes_on tt refl refl (λ g. tt)
goes_by z v s choice l a k (finds_infant seat e) x = goes_on tt refl refl (λ g. tt)
goes_by z v s choice l a k (finds_normal e) x = goes_on tt refl refl (λ g. tt)
goes_by z v s choice l a k (finds_leader c e) x = goes_on tt refl refl (λ g. absurd g)
goes_by z v s choice l a k (finds_follower q e) x = goes_on tt refl refl (λ g. absurd g)
goes_by z v s choice l a k (finds_other_state t) x = is_over tt
goes_by z v s choice l a k (ends_at_state t) x = is_over tt
goes_by z v s choice l a k (normalises seat) x = goes_on tt refl refl (λ g. tt)
goes_by z v s choice l a k (engages e) x = goes_on tt refl refl (λ g. absurd g)
goes_by z v s choice l a k (is_engaged d) x = goes_on tt refl refl (λ g. tt)
goes_by z v s choice l a k (marks_link count q c e) x = goes_on tt refl refl (λ g. absurd g)
goes_by z v s choice l a k (marks_last count c e) x = goes_on tt refl refl (λ g. absurd g)
goes_by z v s choice l a k (marks_led count m d n) x = counted_by z v choice l a k _ _ refl refl n
goes_by z v s choice l a k (decides count m next e n) x = counted_by z v choice l a k _ _ refl refl n
goes_by z v s choice l a k (decides_not count t) x = is_over tt
goes_by z v s choice l a k (ends_undecided count t) x = is_over tt
goes_by z v s choice l a k counts_next x = goes_on tt refl refl (λ g. absurd g)
goes_by z v s choice l a k (claims_next e) x = goes_on tt refl refl (λ g. absurd g)
goes_by z v s choice l a k (next_is_infant seat e) x = goes_on tt refl refl (λ g. absurd g)
goes_by z v s choice l a k (next_leads count e) x = goes_on tt refl refl (λ g. absurd g)
goes_by z v s choice l a k (claims_not t) x = is_over tt
goes_by z v s choice l a k (ends_unclaimed t) x = is_over tt
goes_by z v s choice l a k (normalises_next seat) x = goes_on tt refl refl (λ g. absurd g)
goes_by z v s choice l a k marks_next x = goes_on tt refl refl (λ g. absurd g)
goes_by z v s choice l a k (begins_left q e d) x = goes_on tt refl refl (λ g. absurd g)
goes_by z v s choice l a k (takes_leader q e) x = moves_to refl
goes_by z v s choice l a k (reaches_leader e) x = moves_to refl
goes_by z v s choice l a k (leads_left q e d) x = goes_on tt refl refl (λ g. absurd g)
goes_by z v s choice l a k (walks_left o) x = goes_on tt refl refl (λ g. absurd g)
goes_by z v s choice l a k (head_follows t e) x = is_over tt
goes_by z v s choice l a k (ends_at_head t) x = is_over tt
goes_by z v s choice l a k (none_is_left t e) x = is_over tt
goes_by z v s choice l a k (ends_at_none t) x = is_over tt
goes_by z v s choice l a k (passes_left t o) x = is_over tt
goes_by z v s choice l a k (ends_past t) x = is_over tt
goes_by z v s choice l a k freezes_count x = goes_on tt refl refl (λ g. absurd g)
goes_by z v s choice l a k (sees_idle j e) x = goes_on tt refl refl (λ g. absurd g)
goes_by z v s choice l a k (sees_unstamped j c e) x = goes_on tt refl refl (λ g. absurd g)
goes_by z v s choice l a k (remembers j c version e o) x = goes_on tt refl refl (λ g. absurd g)
goes_by z v s choice l a k (remembers_last j c version next e o n) x = frozen_by z v choice l a k _ refl refl n
goes_by z v s choice l a k (sees_frozen j e o) x = goes_on tt refl refl (λ g. absurd g)
goes_by z v s choice l a k (sees_frozen_last j next e o n) x = frozen_by z v choice l a k _ refl refl n
goes_by z v s choice l a k (freezes_entry j e o) x = goes_on tt refl refl (λ g. absurd g)
goes_by z v s choice l a k (freezes_last j next e o n) x = frozen_by z v choice l a k _ refl refl n
goes_by z v s choice l a k (looks_again j d) x = goes_on tt refl refl (λ g. absurd g)
goes_by z v s choice l a k (sees_quiet j e o) x = goes_on tt refl refl (λ g. absurd g)
goes_by z v s choice l a k (sees_quiet_last j e o) x = goes_on tt refl refl (λ g. absurd g)
goes_by z v s choice l a k (helps_scan j clock e) x = goes_on tt refl refl (λ g. absurd g)
goes_by z v s choice l a k (sees_drawn j version e o) x = goes_on tt refl refl (λ g. absurd g)
goes_by z v s choice l a k (sees_drawn_last j version e o) x = goes_on tt refl refl (λ g. absurd g)
goes_by z v s choice l a k (draws_for j) x = goes_on tt refl refl (λ g. absurd g)
goes_by z v s choice l a k (settles_scan j e o) x = goes_on tt refl refl (λ g. absurd g)
goes_by z v s choice l a k (settles_last j e o) x = goes_on tt refl refl (λ g. absurd g)
goes_by z v s choice l a k (finds_drawn j version e o) x = goes_on tt refl refl (λ g. absurd g)
goes_by z v s choice l a k (finds_drawn_last j version e o) x = goes_on tt refl refl (λ g. absurd g)
goes_by z v s choice l a k (finds_no_scan j e o) x = goes_on tt refl refl (λ g. absurd g)
goes_by z v s choice l a k (finds_no_scan_last j e o) x = goes_on tt refl refl (λ g. absurd g)
goes_by z v s choice l a k (looks_at_pin j next n) x = group_by z v choice l a k l refl refl (look_goes z _ _ _ next n) (pin_look_is (λ b. IsEngaging b → ⊥) (λ q g. g) (λ g. g) n)
goes_by z v s choice l a k (take_leads c e) x = goes_on tt refl refl (λ g. absurd g)
goes_by z v s choice l a k (takes_left m e f o) x = goes_on tt refl refl (λ g. absurd g)
goes_by z v s choice l a k (takes_no_more next e m n) x = gathered_by z v choice l a k _ refl refl n
goes_by z v s choice l a k takes_key x = goes_on tt refl refl (λ g. absurd g)
goes_by z v s choice l a k takes_version x = goes_on tt refl refl (λ g. absurd g)
goes_by z v s choice l a k keeps_taken x = goes_on tt refl refl (λ g. absurd g)
goes_by z v s choice l a k takes_left_key x = goes_on tt refl refl (λ g. absurd g)
goes_by z v s choice l a k (keeps_left m e o) x = goes_on tt refl refl (λ g. absurd g)
goes_by z v s choice l a k (keeps_no_more next m n) x = gathered_by z v choice l a k _ refl refl n
goes_by z v s choice l a k _ x = absurd x
