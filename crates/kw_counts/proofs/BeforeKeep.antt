-- The walk to the row before a full one: where it began in this window it names rows of the list
-- alone, and where a build took a row in this window its walk began in it, by induction over the
-- events.
use Rattle.std.proofs.Common.{ℕ, ◌≡◌, ◌≢◌, ◌⊎◌, inl, inr, ◌+◌, ◌==◌, ◌≤◌, Bool, true, false, None, Some, arith, refl, sym, ◌∙◌, ap, subst, slice_get, if◌then◌else◌}
use Rattle.std.proofs.lemmas.Bool.{cases_eq}
use Rattle.std.proofs.lemmas.Option.{same_Some}
use Rattle.kw_words.specs.declared.state.State.TheVariants.{Free}
use Rattle.kw_words.specs.State.{state_word}
use Rattle.kw_rows.specs.Ledger.{IsLive, Ledger}
use Rattle.kw_rows.proofs.Named.{normal_live}
use Rattle.kw_world.specs.declared.activity.Activity.{Activity}
use Rattle.kw_world.specs.declared.activity.rebalance.Rebalance.TheVariants as Rebalance
use Rattle.kw_world.specs.declared.activity.rebalance.replace.Replace.TheVariants as Replace
use Rattle.kw_world.specs.declared.activity.rebalance.seek.Seek.TheVariants as Seek
use Rattle.kw_world.specs.declared.event.Choice.{Choice}
use Rattle.kw_world.specs.declared.local.Local.{Local}
use Rattle.kw_world.specs.declared.opening.Opening.{Opening}
use Rattle.kw_world.specs.Sizes.{Sizes}
use Rattle.kw_world.specs.Step.{word}
use Rattle.kw_world.specs.Transition.{row_or_first}
use Rattle.kw_core.specs.Ledger.{ledger_at_first, with_visit}
use Rattle.kw_core.specs.Run.{Run, start}
use Rattle.kw_core.specs.Words.{next_in}
use Rattle.kw_core.proofs.Happens.{Happens, each_seat, found_at}
use Rattle.kw_shape.specs.RowsIn.{rows_in, state_seen}
use Rattle.kw_shape.specs.Search.{HasReachedNext}
use Rattle.kw_shape.specs.Shape.{Shape, Walks}
use Rattle.kw_shape.proofs.Comings.{Comes, IsGoingLeft, LeftBy, comes, goes_on, left_by, seeks, stays_out}
use Rattle.kw_shape.proofs.LinkedRows.{live_reached, search_at}
use Rattle.kw_shape.proofs.ShapeOpens.{each_rests}
use Rattle.kw_counts.specs.Counts.{Builds, Counts, build_taking, builds_after, counts_after, has_begun, is_live, no_counts, walks_after, wins_after, with_at, with_build}
use Rattle.kw_counts.specs.Walks.{IsAtBefore, IsOnWalk, IsSeeking, KeepsWalks, has_reached, has_reached_before, is_at, is_before, is_next}
use Rattle.kw_counts.proofs.BeforeSteps.{IsBeginAt, IsBeginning, StepsBefore, at_seeks, begins_anew, begins_at, begins_none, begins_not_at, goes_behind, left_before, reached_at, reaches, seeking_builds, stays_at, step_seeks, steps_before}
use Rattle.kw_counts.proofs.LiveRows.{lives_or_wins, unvisited_live}
use Rattle.kw_counts.proofs.Updates.{at_left, at_set}
use Rattle.kw_counts.proofs.WalksKeep.{Walked, candidate_named, is_beginning, row_named, walks_left, walks_most, walks_now, walks_other}

-- What is kept.

pub record WalkedBefore (z : Sizes) (r : Run) (c : Counts) : Type 0 where
  -- the rows of a walk that began in this window are in the list
  at : (t : ℕ) (k : Local) → slice_get r.world.locals t ≡ Some k → c.walks t ≡ c.wins → (p : ℕ) → IsAtBefore k.activity k → k.rebalance.before ≡ Some p → IsLive r.ledger.rows p
  reached : (t : ℕ) (k : Local) → slice_get r.world.locals t ≡ Some k → c.walks t ≡ c.wins → HasReachedNext k.activity → IsLive r.ledger.rows k.candidate
  -- no build took a row in a window that is yet to come, and one that took a row in this window has
  -- its walk in it
  upto : (t n : ℕ) → (c.builds t).begun ≡ Some n → n ≤ c.wins
  builds : (t : ℕ) (k : Local) → slice_get r.world.locals t ≡ Some k → IsSeeking k.activity k → (c.builds t).begun ≡ Some c.wins → c.walks t ≡ c.wins

-- Builds.

-- a seat that seeks the row before its own takes no row
builds_kept : (a : Activity) (s : ℕ) (l : Local) (found : ℕ) (g : Ledger) (wins : ℕ) (f : ℕ → Builds) (t : ℕ) → IsSeeking a l → builds_after a s l found g wins f t ≡ f t
builds_kept (Activity.Rebalance (Rebalance.Gather b)) s l found g wins f t x = absurd x
builds_kept (Activity.Rebalance (Rebalance.Seek Seek.Take)) s l found g wins f t x = absurd x
builds_kept _ s l found g wins f t x = refl

-- what is counted of a seat that does not act stays
pub builds_other : (a : Activity) (s : ℕ) (l : Local) (found : ℕ) (g : Ledger) (wins : ℕ) (f : ℕ → Builds) (t : ℕ) → t ≢ s → builds_after a s l found g wins f t ≡ f t
builds_other (Activity.Rebalance (Rebalance.Gather b)) s l found g wins f t d = at_left f s (record (f s) { begun = None }) t d
builds_other (Activity.Rebalance (Rebalance.Seek Seek.Take)) s l found g wins f t d = saw (found == state_word Free)
  where
    saw : (b : Bool) → (let h : ℕ → Builds = if b then with_at f s (build_taking wins (is_live (g.fates l.row).status) (f s)) else f in h) t ≡ f t
    saw true = at_left f s (build_taking wins (is_live (g.fates l.row).status) (f s)) t d
    saw false = refl
builds_other _ s l found g wins f t d = refl

-- a build takes rows in this window, or took some in one before it
taking_upto : (wins : ℕ) (live : Bool) (b : Builds) → ((n : ℕ) → b.begun ≡ Some n → n ≤ wins) → (n : ℕ) → (build_taking wins live b).begun ≡ Some n → n ≤ wins
taking_upto wins live b most n = saw (has_begun wins b.begun)
  where
    saw : (y : Bool) → (let x : Builds = if y then b else with_build wins live b in x).begun ≡ Some n → n ≤ wins
    saw true e = most n e
    saw false e = omega (arith, same_Some wins n e)

set_upto : (wins s : ℕ) (f : ℕ → Builds) (x : Builds) → ((t n : ℕ) → (f t).begun ≡ Some n → n ≤ wins) → ((n : ℕ) → x.begun ≡ Some n → n ≤ wins) → (t n : ℕ) → (with_at f s x t).begun ≡ Some n → n ≤ wins
set_upto wins s f x most new t n e = which (cases_eq t s)
  where
    which : (t ≡ s) ⊎ (t ≡ s → ⊥) → n ≤ wins
    which (inl q) = new n (ap (λ (b : Builds). b.begun) (sym (at_set f s x t q)) ∙ e)
    which (inr d) = most t n (ap (λ (b : Builds). b.begun) (sym (at_left f s x t d)) ∙ e)

pub builds_upto : (a : Activity) (s : ℕ) (l : Local) (found : ℕ) (g : Ledger) (wins : ℕ) (f : ℕ → Builds) → ((t n : ℕ) → (f t).begun ≡ Some n → n ≤ wins) → (t n : ℕ) → (builds_after a s l found g wins f t).begun ≡ Some n → n ≤ wins
builds_upto (Activity.Rebalance (Rebalance.Gather b)) s l found g wins f most t n e = set_upto wins s f (record (f s) { begun = None }) most (λ m q. let x : None ≡ Some m = q in absurd (cc)) t n e
builds_upto (Activity.Rebalance (Rebalance.Seek Seek.Take)) s l found g wins f most t n e = saw (found == state_word Free) e
  where
    saw : (b : Bool) → ((let h : ℕ → Builds = if b then with_at f s (build_taking wins (is_live (g.fates l.row).status) (f s)) else f in h) t).begun ≡ Some n → n ≤ wins
    saw true q = set_upto wins s f (build_taking wins (is_live (g.fates l.row).status) (f s)) most (taking_upto wins (is_live (g.fates l.row).status) (f s) (most s)) t n q
    saw false q = most t n q
builds_upto _ s l found g wins f most t n e = most t n e

-- One event.

module _ (z : Sizes) (r r' : Run) (s : ℕ) (choice : Choice) (l l' : Local) (a : Activity) (h : Happens z r r' s choice l l' a) (i : Shape z r) (c : Counts) (w : Walked z r c) (x : WalkedBefore z r c) where
  -- where a walk begins it is at a row of the list
  begins_live : (q : ℕ) → IsBeginAt (word z r.world) q → IsLive r.ledger.rows q
  begins_live q (inl e) = subst (IsLive r.ledger.rows) (sym (ap row_or_first i.rows.chain.leads) ∙ e) i.rows.chain.first_live
  begins_live q (inr e) = normal_live (rows_in (word z r.world)) r.ledger.rows q i.rows.states (ap state_seen e)

  -- the step by which the acting seat comes to its walk
  build_step : IsSeeking l'.activity l' → IsSeeking a l ⊎ IsBeginning a
  build_step y = which (comes z (word z r.world) s choice l a l' h.arrow)
    where
      which : Comes z (word z r.world) choice l a l' → IsSeeking a l ⊎ IsBeginning a
      which (stays_out n) = absurd (n (seeking_builds l'.activity l' y))
      which (seeks e f) = absurd (subst (λ b. IsSeeking b l') e y)
      which (goes_on o t) = step_seeks (word z r.world) l a l' o (steps_before z (word z r.world) choice l a l' t y)

  step : IsAtBefore l'.activity l' → StepsBefore (word z r.world) l a l'
  step y = which (at_seeks l'.activity l' y) (comes z (word z r.world) s choice l a l' h.arrow) (left_by z (word z r.world) s choice l a l' h.arrow)
    where
      which : IsSeeking l'.activity l' ⊎ IsGoingLeft l'.activity → Comes z (word z r.world) choice l a l' → LeftBy (word z r.world) l a l' ⊎ (IsGoingLeft l'.activity → ⊥) → StepsBefore (word z r.world) l a l'
      which (inl u) (stays_out n) q = absurd (n (seeking_builds l'.activity l' u))
      which (inl u) (seeks e f) q = absurd (subst (λ b. IsSeeking b l') e u)
      which (inl u) (goes_on o t) q = steps_before z (word z r.world) choice l a l' t u
      which (inr u) t (inl q) = left_before (word z r.world) l a l' q y
      which (inr u) t (inr n) = absurd (n u)

  -- on a walk that it is on it names rows of the list
  was_live : walks_after a s c.wins c.walks s ≡ c.wins → IsAtBefore a l → (p : ℕ) → l.rebalance.before ≡ Some p → IsLive r.ledger.rows p
  was_live e y p f = x.at s l h.knows (sym (walks_left a s c.wins c.walks s (begins_not_at a l y)) ∙ e) p (subst (λ b. IsAtBefore b l) (sym h.activity) y) f

  was_reached : walks_after a s c.wins c.walks s ≡ c.wins → IsAtBefore a l → HasReachedNext a → IsLive r.ledger.rows l.candidate
  was_reached e y q = x.reached s l h.knows (sym (walks_left a s c.wins c.walks s (begins_not_at a l y)) ∙ e) (subst HasReachedNext (sym h.activity) q)

  own_at : walks_after a s c.wins c.walks s ≡ c.wins → (p : ℕ) → IsAtBefore l'.activity l' → l'.rebalance.before ≡ Some p → IsLive r.ledger.rows p
  own_at e p y f = which (step y)
    where
      which : StepsBefore (word z r.world) l a l' → IsLive r.ledger.rows p
      which (begins_at q b g k n) = subst (IsLive r.ledger.rows) (same_Some q p (sym k ∙ f)) (begins_live q g)
      which (begins_none b k n) = let u : None ≡ Some p = sym k ∙ f in absurd (cc)
      which (begins_anew b n) = absurd (n y)
      which (stays_at m k n) = was_live e m p (sym k ∙ f)
      which (reaches q m b k g j) = was_live e m p (sym k ∙ f)
      which (goes_behind m b k n) = subst (IsLive r.ledger.rows) (same_Some l.candidate p (sym k ∙ f)) (was_reached e m b)

  own_reached : walks_after a s c.wins c.walks s ≡ c.wins → HasReachedNext l'.activity → IsLive r.ledger.rows l'.candidate
  own_reached e y = which (step (reached_at l'.activity l' y))
    where
      which : StepsBefore (word z r.world) l a l' → IsLive r.ledger.rows l'.candidate
      which (begins_at q b g k n) = absurd (n y)
      which (begins_none b k n) = absurd (n y)
      which (begins_anew b n) = absurd (n (reached_at l'.activity l' y))
      which (stays_at m k n) = absurd (n y)
      which (reaches q m b k g j) =
          let p = (search_at a h i).some b in
          subst (IsLive r.ledger.rows) (sym j) (i.rows.chain.linked p.0 q (was_live e m p.0 p.1) (subst (λ o. next_in (word z r.world) (row_or_first o) ≡ Some q) p.1 g))
      which (goes_behind m b k n) = absurd (n y)

  own_builds : IsSeeking l'.activity l' → (builds_after a s l (found_at z (word z r.world) a s choice l) r.ledger.rows c.wins c.builds s).begun ≡ Some c.wins → walks_after a s c.wins c.walks s ≡ c.wins
  own_builds y e = which (build_step y) (is_beginning a)
    where
      which : IsSeeking a l ⊎ IsBeginning a → IsBeginning a ⊎ (IsBeginning a → ⊥) → walks_after a s c.wins c.walks s ≡ c.wins
      which (inr b) u = walks_now a s c.wins c.walks b
      which (inl m) (inl b) = walks_now a s c.wins c.walks b
      which (inl m) (inr n) =
          let same = ap (λ (b : Builds). b.begun) (builds_kept a s l (found_at z (word z r.world) a s choice l) r.ledger.rows c.wins c.builds s m) in
          walks_left a s c.wins c.walks s n ∙ x.builds s l h.knows (subst (λ b. IsSeeking b l) (sym h.activity) m) (sym same ∙ e)

  -- Every seat.

  abbrev wins : ℕ
  wins = wins_after a l (found_at z (word z r.world) a s choice l) c.wins

  abbrev Lasts : Type 0
  Lasts = (wins ≡ c.wins) × ((q : ℕ) → IsLive r.ledger.rows q → IsLive r'.ledger.rows q)

  -- in a window that begins with the event no walk has begun, and no build has taken a row
  walks_lasts : (t : ℕ) → walks_after a s c.wins c.walks t ≡ wins → Lasts
  walks_lasts t e = which (lives_or_wins a h i c.wins)
    where
      which : ((a ≡ Activity.Rebalance (Rebalance.Replace Replace.Exchange)) × (wins ≡ c.wins + 1)) ⊎ Lasts → Lasts
      which (inl u) = absurd (omega (arith, u.1, e, walks_most a s c.wins c.walks w.begun t))
      which (inr u) = u

  builds_lasts : (t : ℕ) → (builds_after a s l (found_at z (word z r.world) a s choice l) r.ledger.rows c.wins c.builds t).begun ≡ Some wins → Lasts
  builds_lasts t e = which (lives_or_wins a h i c.wins)
    where
      which : ((a ≡ Activity.Rebalance (Rebalance.Replace Replace.Exchange)) × (wins ≡ c.wins + 1)) ⊎ Lasts → Lasts
      which (inl u) = absurd (omega (arith, u.1, builds_upto a s l (found_at z (word z r.world) a s choice l) r.ledger.rows c.wins c.builds x.upto t wins e))
      which (inr u) = u

  at_keeps : (t : ℕ) (k : Local) → slice_get r'.world.locals t ≡ Some k → walks_after a s c.wins c.walks t ≡ wins → (p : ℕ) → IsAtBefore k.activity k → k.rebalance.before ≡ Some p → IsLive r'.ledger.rows p
  at_keeps = each_seat h (λ t k. walks_after a s c.wins c.walks t ≡ wins → (p : ℕ) → IsAtBefore k.activity k → k.rebalance.before ≡ Some p → IsLive r'.ledger.rows p)
      (λ e p y f. let u = walks_lasts s e in u.1 p (own_at (e ∙ u.0) p y f))
      (λ t k d g e p y f. let u = walks_lasts t e in u.1 p (x.at t k g (sym (walks_other a s c.wins c.walks t d) ∙ e ∙ u.0) p y f))

  reached_keeps : (t : ℕ) (k : Local) → slice_get r'.world.locals t ≡ Some k → walks_after a s c.wins c.walks t ≡ wins → HasReachedNext k.activity → IsLive r'.ledger.rows k.candidate
  reached_keeps = each_seat h (λ t k. walks_after a s c.wins c.walks t ≡ wins → HasReachedNext k.activity → IsLive r'.ledger.rows k.candidate)
      (λ e y. let u = walks_lasts s e in u.1 l'.candidate (own_reached (e ∙ u.0) y))
      (λ t k d g e y. let u = walks_lasts t e in u.1 k.candidate (x.reached t k g (sym (walks_other a s c.wins c.walks t d) ∙ e ∙ u.0) y))

  builds_keep : (t : ℕ) (k : Local) → slice_get r'.world.locals t ≡ Some k → IsSeeking k.activity k → (builds_after a s l (found_at z (word z r.world) a s choice l) r.ledger.rows c.wins c.builds t).begun ≡ Some wins → walks_after a s c.wins c.walks t ≡ wins
  builds_keep = each_seat h (λ t k. IsSeeking k.activity k → (builds_after a s l (found_at z (word z r.world) a s choice l) r.ledger.rows c.wins c.builds t).begun ≡ Some wins → walks_after a s c.wins c.walks t ≡ wins)
      (λ y e. let u = builds_lasts s e in own_builds y (e ∙ ap Some u.0) ∙ sym u.0)
      (λ t k d g y e. let u = builds_lasts t e in let same = ap (λ (b : Builds). b.begun) (builds_other a s l (found_at z (word z r.world) a s choice l) r.ledger.rows c.wins c.builds t d) in walks_other a s c.wins c.walks t d ∙ x.builds t k g y (sym same ∙ e ∙ ap Some u.0) ∙ sym u.0)

  upto_keeps : (t n : ℕ) → (builds_after a s l (found_at z (word z r.world) a s choice l) r.ledger.rows c.wins c.builds t).begun ≡ Some n → n ≤ wins
  upto_keeps t n e = which (lives_or_wins a h i c.wins)
    where
      which : ((a ≡ Activity.Rebalance (Rebalance.Replace Replace.Exchange)) × (wins ≡ c.wins + 1)) ⊎ Lasts → n ≤ wins
      which (inl u) = omega (arith, u.1, builds_upto a s l (found_at z (word z r.world) a s choice l) r.ledger.rows c.wins c.builds x.upto t n e)
      which (inr u) = omega (arith, u.0, builds_upto a s l (found_at z (word z r.world) a s choice l) r.ledger.rows c.wins c.builds x.upto t n e)

  pub before_keeps : WalkedBefore z r' (counts_after a s l (found_at z (word z r.world) a s choice l) r.ledger.rows c)
  before_keeps = record { at = at_keeps; reached = reached_keeps; upto = upto_keeps; builds = builds_keep }

-- Where a run begins no seat is on a walk.
pub before_start : (z : Sizes) (o : Opening) → WalkedBefore z (start z o) no_counts
before_start z o = record {
  at = each_rests z o (λ t k. 0 ≡ 0 → (p : ℕ) → IsAtBefore k.activity k → k.rebalance.before ≡ Some p → IsLive (ledger_at_first o).rows p) (λ t e p y. absurd y);
  reached = each_rests z o (λ t k. 0 ≡ 0 → HasReachedNext k.activity → IsLive (ledger_at_first o).rows k.candidate) (λ t e y. absurd y);
  upto = λ t n e. let x : None ≡ Some n = e in absurd (cc);
  builds = each_rests z o (λ t k. IsSeeking k.activity k → None ≡ Some 0 → 0 ≡ 0) (λ t y. absurd y);
}

-- What is named.

live_named : (z : Sizes) (r : Run) (c : Counts) → Walked z r c → WalkedBefore z r c → (t : ℕ) (l : Local) → slice_get r.world.locals t ≡ Some l → c.walks t ≡ c.wins → (q : ℕ) → IsOnWalk l.activity l q → IsLive r.ledger.rows q
live_named z r c w x t l g e q n = which n
  where
    y : Walks (word z r.world) (with_visit r.ledger.rows t None) t l.activity l
    y = w.clean t l g e

    which : IsOnWalk l.activity l q → IsLive r.ledger.rows q
    which (is_at m f) = subst (IsLive r.ledger.rows) (sym f) (unvisited_live r.ledger.rows t l.row (row_named (word z r.world) (with_visit r.ledger.rows t None) t l.activity l y m))
    which (has_reached m f) = subst (IsLive r.ledger.rows) (sym f) (unvisited_live r.ledger.rows t l.candidate (candidate_named (word z r.world) (with_visit r.ledger.rows t None) t l.activity l y m))
    which (is_next m f) = unvisited_live r.ledger.rows t q ((y.at m).next q f).fresh
    which (is_before m f) = x.at t l g e q m f
    which (has_reached_before m f) = subst (IsLive r.ledger.rows) (sym f) (x.reached t l g e m)

-- it is in the list
pub walks_kept : (z : Sizes) (r : Run) (c : Counts) → Shape z r → Walked z r c → WalkedBefore z r c → KeepsWalks z r.world c
walks_kept z r c i w x = record {
  upto = w.begun;
  rows = λ t l g e q n. live_reached (word z r.world) r.ledger.rows i.rows.chain q (live_named z r c w x t l g e q n);
  builds = x.builds;
}
