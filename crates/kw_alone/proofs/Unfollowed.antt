-- A seat that goes on alone goes left of no row from the leader of a follower on: that leader
-- follows no row, and its state stays until the seat goes on from it.
use Rattle.std.proofs.Common.{ℕ, ◌≡◌, ◌⊎◌, inl, inr, refl, sym, ap, subst}
use Rattle.kw_rows.specs.RowState.{IsTwo}
use Rattle.kw_rows.proofs.Named.{held_by}
use Rattle.kw_words.specs.declared.layout.Name.TheVariants as name
use Rattle.kw_words.specs.State.{state_of}
use Rattle.kw_world.specs.declared.activity.Activity.{Activity}
use Rattle.kw_world.specs.declared.activity.rebalance.Rebalance.TheVariants as Rebalance
use Rattle.kw_world.specs.declared.activity.rebalance.engage.Engage.TheVariants as Engage
use Rattle.kw_world.specs.declared.activity.rebalance.left.Left.TheVariants as Left
use Rattle.kw_world.specs.declared.activity.walk.Walk.TheVariants as Walk
use Rattle.kw_world.specs.declared.event.Choice.{Choice}
use Rattle.kw_world.specs.declared.event.Choice.TheVariants.{Begin, Go, Guess, Stop}
use Rattle.kw_world.specs.declared.local.Local.{Local}
use Rattle.kw_world.specs.declared.operation.Action.TheVariants.{Load}
use Rattle.kw_world.specs.LeftTransitions.{left_transition}
use Rattle.kw_world.specs.Sizes.{Sizes}
use Rattle.kw_world.specs.Step.{word}
use Rattle.kw_world.specs.Transition.{row_or_first}
use Rattle.kw_core.specs.Run.{Run}
use Rattle.kw_core.specs.Stages.{IsBalancing}
use Rattle.kw_core.specs.Words.{Words}
use Rattle.kw_core.proofs.Arrows.{Arrow, NextLook, looks, lists, NextLeftOver, goes_to_left_over, answers, ends_scan, scans_on, builds, begins, enters, settles, stops, sees_stamped, sees_neither, is_gone_by, helps, finds_stamped, finds_other, first_ends, list_ends, key_above, left_over_gone_by, gathers_left_over, finds_full, takes_full, announces_full, stamps_full, clears, tidies, leaves, clock_is_spent, ends_at_clock, clock_serves, epoch_is_spent, ends_at_epoch, epoch_serves, finds_infant, finds_normal, finds_leader, finds_follower, finds_other_state, ends_at_state, normalises, engages, is_engaged, marks_led, decides, begins_left, takes_leader, reaches_leader, head_follows, ends_at_head, none_is_left, ends_at_none, passes_left, ends_past, remembers_last, sees_frozen_last, freezes_last, takes_no_more, keeps_no_more, asks_of_pin, looks_at_pin}
use Rattle.kw_core.proofs.Building.{IsBuilding}
use Rattle.kw_core.proofs.BuiltNext.{IsAfterBuilding, built_next}
use Rattle.kw_core.proofs.Grouping.{counted_leads, frozen_leads, gathered_leads}
use Rattle.kw_core.proofs.Happens.{Happens}
use Rattle.kw_shape.specs.RowsIn.{rows_in, state_seen}
use Rattle.kw_shape.specs.Shape.{Shape}
use Rattle.kw_shape.proofs.LinkedRows.{balance_at}
use Rattle.kw_alone.specs.Clean.{FollowsNone, KnowsLeader}
use Rattle.kw_alone.specs.Known.{HaveLeaders}
use Rattle.kw_alone.specs.Marks.{IsMark, ends, moves}
use Rattle.kw_alone.proofs.Clearing.{IsLeftStart}
use Rattle.kw_puts.proofs.BuiltStages.{of_pin_is, pin_look_is}

-- new rows are taken, written and linked in a rebalance
building_balances : (a : Activity) → IsBuilding a → IsBalancing a
building_balances (Activity.Rebalance _) b = tt
building_balances _ b = absurd b

-- where one such event follows another, the seat knows no leader, and goes left of none; else it
-- comes to its new full row
after_knows : (v : Words) (a : Activity) (m : Local) → IsAfterBuilding a → KnowsLeader v a m
after_knows v Activity.Retry m n = tt
after_knows v (Activity.Leave answer) m n = tt
after_knows v (Activity.Rebalance (Rebalance.Engage Engage.Clock)) m n = tt
after_knows v (Activity.Rebalance (Rebalance.Seek b)) m n = tt
after_knows v (Activity.Rebalance (Rebalance.Write b)) m n = tt
after_knows v (Activity.Rebalance (Rebalance.Replace b)) m n = tt
after_knows v _ m n = absurd n

after_none : (v : Words) (a : Activity) (m : Local) → IsAfterBuilding a → (a ≡ Activity.Rebalance (Rebalance.Engage Engage.Clock)) ⊎ FollowsNone v a m
after_none v Activity.Retry m n = inr tt
after_none v (Activity.Leave answer) m n = inr tt
after_none v (Activity.Rebalance (Rebalance.Engage Engage.Clock)) m n = inl refl
after_none v (Activity.Rebalance (Rebalance.Seek b)) m n = inr tt
after_none v (Activity.Rebalance (Rebalance.Write b)) m n = inr tt
after_none v (Activity.Rebalance (Rebalance.Replace b)) m n = inr tt
after_none v _ m n = absurd n

module _ (v : Words) where
  look_knows : (z : Sizes) (j : ℕ) (m : Local) (nx : Activity) → NextLook z j nx → KnowsLeader v nx m
  look_knows z j m nx (looks h) = tt
  look_knows z j m nx (lists h) = tt

  left_over_knows : (m k : Local) → NextLeftOver m k → KnowsLeader v k.activity k
  left_over_knows m k (goes_to_left_over n e) = tt
  left_over_knows m k (answers e c) = tt
  left_over_knows m k (ends_scan e c d) = tt
  left_over_knows m k (scans_on r e c n d) = tt

module _ (z : Sizes) (r r' : Run) (s : ℕ) (choice : Choice) (l : Local) where
  abbrev v' : Words
  v' = word z r'.world

  -- a load leaves the states
  same_state : (q : ℕ) (w : Words) → w (name.State q) ≡ word z r.world (name.State q) → IsTwo ((rows_in (word z r.world)).state q) → IsTwo ((rows_in w).state q)
  same_state q w e two = subst IsTwo (ap (λ n. state_seen (state_of n)) (sym e)) two

  -- the seat of a follower knows its leader
  pub knows_leader : (a : Activity) (k : Local) → Arrow z (word z r.world) s choice l a k → Happens z r r' s choice l k a → Shape z r → HaveLeaders (rows_in (word z r.world)) r.ledger.rows → KnowsLeader v' k.activity k
  knows_leader a k (builds b m y w) h i f = after_knows v' k.activity k (built_next z (word z r.world) choice l b k w)
  knows_leader a k (finds_follower p e) h i f = same_state p v' (h.changed.loaded refl (name.State p)) (f l.row p (held_by r.ledger.rows s l.row ((balance_at a h i).fresh tt)) (ap state_seen e))
  knows_leader a k (sees_stamped j c version nx e n) h i f = look_knows v' z _ k nx n
  knows_leader a k (sees_neither j nx e n) h i f = look_knows v' z _ k nx n
  knows_leader a k (is_gone_by nx e n) h i f = look_knows v' z _ k nx n
  knows_leader a k (helps nx e n) h i f = look_knows v' z _ k nx n
  knows_leader a k (finds_stamped c version nx e n) h i f = look_knows v' z _ k nx n
  knows_leader a k (finds_other nx e n) h i f = look_knows v' z _ k nx n
  knows_leader a k (first_ends m e n) h i f = left_over_knows v' l k n
  knows_leader a k (list_ends m e n) h i f = left_over_knows v' l k n
  knows_leader a k (key_above m e n) h i f = left_over_knows v' l k n
  knows_leader a k (left_over_gone_by m e n) h i f = left_over_knows v' l k n
  knows_leader a k (gathers_left_over m n) h i f = left_over_knows v' _ k n
  knows_leader a k (marks_led count m d n) h i f = counted_leads (λ b. (x : Local) → KnowsLeader v' b x) (λ x. tt) (λ x. tt) _ _ k n k
  knows_leader a k (decides count m x e n) h i f = counted_leads (λ b. (x : Local) → KnowsLeader v' b x) (λ x. tt) (λ x. tt) _ _ k n k
  knows_leader a k (remembers_last j c version m e o n) h i f = frozen_leads (λ b. (x : Local) → KnowsLeader v' b x) (λ x. tt) (λ x. tt) _ k n k
  knows_leader a k (sees_frozen_last j m e o n) h i f = frozen_leads (λ b. (x : Local) → KnowsLeader v' b x) (λ x. tt) (λ x. tt) _ k n k
  knows_leader a k (freezes_last j m e o n) h i f = frozen_leads (λ b. (x : Local) → KnowsLeader v' b x) (λ x. tt) (λ x. tt) _ k n k
  knows_leader a k (takes_no_more m e x n) h i f = gathered_leads (λ b. (x : Local) → KnowsLeader v' b x) (λ x. tt) (λ x. tt) z _ k n k
  knows_leader a k (keeps_no_more m x n) h i f = gathered_leads (λ b. (x : Local) → KnowsLeader v' b x) (λ x. tt) (λ x. tt) z _ k n k
  knows_leader a k (asks_of_pin m o n) h i f = of_pin_is (λ b. KnowsLeader v' b m) tt tt tt tt tt tt n
  knows_leader a k (looks_at_pin j m n) h i f = pin_look_is (λ b. KnowsLeader v' b m) (λ q. tt) tt n
  knows_leader a k _ h i f = tt

  -- the event is a mark, or the next walk begins, or the seat still goes left of none
  pub follows_on : (a : Activity) (k : Local) → Arrow z (word z r.world) s choice l a k → Happens z r r' s choice l k a → FollowsNone (word z r.world) a l → IsMark a k.activity ⊎ (k.activity ≡ Activity.Walk Walk.Start) ⊎ FollowsNone v' k.activity k
  follows_on a k (builds b m y w) h f = which (after_none v' k.activity k (built_next z (word z r.world) choice l b k w))
    where
      which : (k.activity ≡ Activity.Rebalance (Rebalance.Engage Engage.Clock)) ⊎ FollowsNone v' k.activity k → IsMark b k.activity ⊎ (k.activity ≡ Activity.Walk Walk.Start) ⊎ FollowsNone v' k.activity k
      which (inl e) = inl (subst (IsMark b) (sym e) (moves b (building_balances b y)))
      which (inr n) = inr (inr n)
  follows_on a k (leaves answer) h f = inl (ends answer)
  follows_on a k (enters e) h f = inr (inl refl)
  follows_on a k (settles e) h f = inr (inl refl)
  follows_on a k (begins call c b) h f = absurd f
  follows_on a k (stops e) h f = absurd f
  follows_on a k (sees_stamped j c version nx e n) h f = absurd f
  follows_on a k (sees_neither j nx e n) h f = absurd f
  follows_on a k (is_gone_by nx e n) h f = absurd f
  follows_on a k (helps nx e n) h f = absurd f
  follows_on a k (finds_stamped c version nx e n) h f = absurd f
  follows_on a k (finds_other nx e n) h f = absurd f
  follows_on a k (first_ends m e n) h f = absurd f
  follows_on a k (list_ends m e n) h f = absurd f
  follows_on a k (key_above m e n) h f = absurd f
  follows_on a k (left_over_gone_by m e n) h f = absurd f
  follows_on a k (gathers_left_over m n) h f = absurd f
  follows_on a k (finds_full e) h f = absurd f
  follows_on a k (takes_full e) h f = absurd f
  follows_on a k (announces_full e) h f = absurd f
  follows_on a k (stamps_full e) h f = absurd f
  follows_on a k clears h f = absurd f
  follows_on a k (tidies n e) h f = absurd f
  follows_on a k (clock_is_spent o t) h f = inr (inr tt)
  follows_on a k (ends_at_clock t) h f = inr (inr tt)
  follows_on a k (clock_serves o) h f = inr (inr (same_state l.row v' (h.changed.loaded refl (name.State l.row)) f))
  follows_on a k (epoch_is_spent o t) h f = inr (inr tt)
  follows_on a k (ends_at_epoch t) h f = inr (inr tt)
  follows_on a k (epoch_serves o) h f = inr (inr (same_state l.row v' (h.changed.loaded refl (name.State l.row)) f))
  follows_on a k (finds_infant seat e) h f = absurd (subst IsTwo (ap state_seen e) f)
  follows_on a k (finds_normal e) h f = absurd (subst IsTwo (ap state_seen e) f)
  follows_on a k (finds_leader count e) h f = inr (inr tt)
  follows_on a k (finds_follower p e) h f = absurd (subst IsTwo (ap state_seen e) f)
  follows_on a k (finds_other_state t) h f = inr (inr tt)
  follows_on a k (ends_at_state t) h f = inr (inr tt)
  follows_on a k (normalises seat) h f = absurd f
  follows_on a k (engages e) h f = absurd f
  follows_on a k (is_engaged e) h f = absurd f
  follows_on a k (marks_led count m d n) h f = inr (inr (counted_leads (λ b. (x : Local) → FollowsNone v' b x) (λ x. tt) (λ x. tt) _ _ k n k))
  follows_on a k (decides count m x e n) h f = inr (inr (counted_leads (λ b. (x : Local) → FollowsNone v' b x) (λ x. tt) (λ x. tt) _ _ k n k))
  follows_on a k (takes_leader q e) h f = absurd f
  follows_on a k (reaches_leader e) h f = absurd f
  follows_on a k (head_follows t e) h f = absurd f
  follows_on a k (ends_at_head t) h f = absurd f
  follows_on a k (none_is_left t e) h f = absurd f
  follows_on a k (ends_at_none t) h f = absurd f
  follows_on a k (passes_left t o) h f = absurd f
  follows_on a k (ends_past t) h f = absurd f
  follows_on a k (remembers_last j c version m e o n) h f = inr (inr (frozen_leads (λ b. (x : Local) → FollowsNone v' b x) (λ x. tt) (λ x. tt) _ k n k))
  follows_on a k (sees_frozen_last j m e o n) h f = inr (inr (frozen_leads (λ b. (x : Local) → FollowsNone v' b x) (λ x. tt) (λ x. tt) _ k n k))
  follows_on a k (freezes_last j m e o n) h f = inr (inr (frozen_leads (λ b. (x : Local) → FollowsNone v' b x) (λ x. tt) (λ x. tt) _ k n k))
  follows_on a k (takes_no_more m e x n) h f = inr (inr (gathered_leads (λ b. (x : Local) → FollowsNone v' b x) (λ x. tt) (λ x. tt) z _ k n k))
  follows_on a k (keeps_no_more m x n) h f = inr (inr (gathered_leads (λ b. (x : Local) → FollowsNone v' b x) (λ x. tt) (λ x. tt) z _ k n k))
  follows_on a k (asks_of_pin m o n) h f = of_pin_is (λ b. IsMark a b ⊎ (b ≡ Activity.Walk Walk.Start) ⊎ FollowsNone v' b m) (inr (inr tt)) (inr (inr tt)) (inr (inr tt)) (inr (inr tt)) (inr (inl refl)) (inr (inr tt)) n
  follows_on a k (looks_at_pin j m n) h f = pin_look_is (λ b. IsMark a b ⊎ (b ≡ Activity.Walk Walk.Start) ⊎ FollowsNone v' b m) (λ q. (inr (inr tt))) (inr (inr tt)) n
  follows_on a k _ h f = inr (inr f)

  -- the way to the leader of a follower begins by a load, with a guess or without one
  left_loads : (c : Choice) → (left_transition c l).operation.action ≡ Load
  left_loads (Begin call) = refl
  left_loads Go = refl
  left_loads (Guess q) = refl
  left_loads Stop = refl

  no_left : (a : Activity) → IsBuilding a → IsLeftStart a → ⊥
  no_left (Activity.Rebalance (Rebalance.Seek _)) b x = x
  no_left (Activity.Rebalance (Rebalance.Write _)) b x = x
  no_left (Activity.Rebalance (Rebalance.Replace _)) b x = x
  no_left _ b x = b

  -- the leader that a guess takes follows none
  pub leader_follows_none : (a : Activity) (k : Local) → Arrow z (word z r.world) s choice l a k → Happens z r r' s choice l k a → IsLeftStart a → KnowsLeader (word z r.world) a l → k.activity ≡ Activity.Rebalance (Rebalance.Engage Engage.Clock) → FollowsNone v' k.activity k
  leader_follows_none a k (builds b m y w) h x f e = absurd (no_left b y x)
  leader_follows_none a k (begins_left q u d) h x f e = absurd (cc)
  leader_follows_none a k (takes_leader q u) h x f e = same_state (row_or_first l.rebalance.before) v' (h.changed.loaded (left_loads choice) (name.State (row_or_first l.rebalance.before))) f
  leader_follows_none a k (head_follows t u) h x f e = absurd (cc)
  leader_follows_none a k (ends_at_head t) h x f e = absurd (cc)
  leader_follows_none a k _ h x f e = absurd x

-- who goes left of none is not at the beginning of such a way
pub none_left : (v : Words) (a : Activity) (l : Local) → IsLeftStart a → FollowsNone v a l → ⊥
none_left v (Activity.Rebalance (Rebalance.Left Left.Start)) l x f = f
none_left v _ l x f = absurd x
