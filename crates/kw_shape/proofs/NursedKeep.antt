-- Every event keeps what each seat knows of its infants, and of the row before its full one.
use Rattle.std.proofs.Common.{ℕ, zero, suc, ◌≡◌, ◌≢◌, ◌⊎◌, inl, inr, List, [], Some, None, refl, sym, ◌∙◌, ap, subst, slice_get}
use Rattle.kw_rows.specs.Ledger.{Fate, IsDead, IsHeld, Ledger}
use Rattle.kw_rows.specs.Rows.{WasLinked}
use Rattle.kw_rows.proofs.Named.{fresh_next, held_by}
use Rattle.kw_world.specs.declared.activity.Activity.{Activity}
use Rattle.kw_world.specs.declared.activity.rebalance.claim.Claim.TheVariants as Claim
use Rattle.kw_world.specs.declared.activity.rebalance.engage.Engage.TheVariants as Engage
use Rattle.kw_world.specs.declared.activity.rebalance.freeze.Freeze.TheVariants as Freeze
use Rattle.kw_world.specs.declared.activity.insert.Insert.TheVariants as Insert
use Rattle.kw_world.specs.declared.activity.look.Look.TheVariants as Look
use Rattle.kw_world.specs.declared.activity.put.Put.TheVariants as Put
use Rattle.kw_world.specs.declared.activity.rebalance.Rebalance.TheVariants as Rebalance
use Rattle.kw_world.specs.declared.activity.rebalance.replace.Replace.TheVariants as Replace
use Rattle.kw_world.specs.declared.activity.rebalance.seek.Seek.TheVariants as Seek
use Rattle.kw_world.specs.declared.event.Choice.{Choice}
use Rattle.kw_world.specs.declared.local.Local.{Local}
use Rattle.kw_world.specs.ClaimTransitions.{row_after}
use Rattle.kw_world.specs.Sizes.{Sizes}
use Rattle.kw_world.specs.Step.{word}
use Rattle.kw_core.specs.Run.{Run}
use Rattle.kw_core.specs.Stages.{IsAtRow, IsBalancing, IsVisiting}
use Rattle.kw_core.specs.Words.{Words, next_in}
use Rattle.kw_core.proofs.Arrows.{Arrow}
use Rattle.kw_core.proofs.Building.{IsBuilding}
use Rattle.kw_core.proofs.BuiltNext.{built_keeps}
use Rattle.kw_core.proofs.Frame.{WritesPass}
use Rattle.kw_core.proofs.Happens.{Happens}
use Rattle.kw_core.proofs.InfantFrames.{target_of}
use Rattle.kw_shape.proofs.AfterBuilding.{built_balancing, built_pass, built_visits}
use Rattle.kw_shape.proofs.Comings.{Comes, IsGoingLeft, LeftBy, comes, goes_by, goes_on, is_at_first, knows_leader, left_by, left_search, left_stays, saw_next, searching_builds, seeks, stays_out, unbuilt_nursing, unbuilt_search}
use Rattle.kw_shape.proofs.Engaging.{claims_there, marks_there}
use Rattle.kw_shape.proofs.InfantsStay.{infants_stable, measured, row_link, search_stable, taken_below}
use Rattle.kw_shape.proofs.InfantsKeep.{Own, nowhere, seeking}
use Rattle.kw_shape.proofs.InfantsOwn.{infants_own}
use Rattle.kw_shape.proofs.InfantsRely.{AreLinked, rely_infants}
use Rattle.kw_shape.proofs.LinkedRows.{balance_at, fresh_linked, held_dead, infants_at, linked_keeps, named_hand, named_of_group, search_at}
use Rattle.kw_shape.proofs.RowsKeep.{own_rely, others_kept, rely_rows}
use Rattle.kw_shape.proofs.RelyRows.{is_visiting}
use Rattle.kw_shape.proofs.SearchKeep.{search_by}
use Rattle.kw_shape.proofs.WonKeep.{head_open}
use Rattle.kw_shape.specs.Infants.{Infants}
use Rattle.kw_shape.specs.RowsIn.{rows_in}
use Rattle.kw_shape.specs.Search.{IsMeasured, Search}
use Rattle.kw_shape.specs.Shape.{Shape, Walks}

-- a seat that has taken no row owns none
none_taken : (g : Ledger) (t : ℕ) (taken : List ℕ) → taken ≡ [] → Own g t taken
none_taken g t taken e = record { owned = λ i q f. none i q (subst (λ xs. slice_get xs i ≡ Some q) e f); apart = λ i j q f h. none i q (subst (λ xs. slice_get xs i ≡ Some q) e f) }
  where
    none : {A : Type 0} (i q : ℕ) → slice_get [] i ≡ Some q → A
    none zero q f = let x : None ≡ Some q = f in absurd (cc)
    none (suc i) q f = let x : None ≡ Some q = f in absurd (cc)

-- a seat that goes left rebalances its row, is in its visit, and neither enters nor leaves
left_balances : (a : Activity) → IsGoingLeft a → IsBalancing a
left_balances (Activity.Rebalance _) x = tt
left_balances _ x = absurd x

left_visits : (a : Activity) → IsGoingLeft a → IsVisiting a
left_visits (Activity.Rebalance _) x = tt
left_visits _ x = absurd x

left_goes : (v : Words) (l : Local) (a : Activity) (k : Local) → LeftBy v l a k → IsBalancing a × IsVisiting a × (WritesPass a → ⊥)
left_goes v l a k (knows_leader leader e) = (tt, tt, λ x. x)
left_goes v l a k (is_at_first q e d) = (tt, tt, λ x. x)
left_goes v l a k (saw_next q e d) = (tt, tt, λ x. x)
left_goes v l a k (goes_by o) = (tt, tt, λ x. x)

searching_balances : (a : Activity) → IsBuilding a ⊎ IsGoingLeft a → IsBalancing a
searching_balances a (inl x) = built_balancing a x
searching_balances a (inr x) = left_balances a x

built_or : (a : Activity) → IsBuilding a ⊎ IsGoingLeft a → (IsGoingLeft a → ⊥) → IsBuilding a
built_or a (inl x) m = x
built_or a (inr x) m = absurd (m x)

module _ {z : Sizes} {r r' : Run} {s : ℕ} {choice : Choice} {l l' : Local} where
  -- Its infants.

  -- the acting seat
  pub infants_go : (a : Activity) → Arrow z (word z r.world) s choice l a l' → Happens z r r' s choice l l' a → Shape z r → Infants z (word z r'.world) r'.ledger.rows s l'.activity l'
  infants_go a b h i = which (comes z (word z r.world) s choice l a l' b)
    where
      which : Comes z (word z r.world) choice l a l' → Infants z (word z r'.world) r'.ledger.rows s l'.activity l'
      which (stays_out n) = nowhere z (word z r'.world) r'.ledger.rows s l'.activity l' (unbuilt_nursing l'.activity n)
      which (seeks e t) = subst (λ c. Infants z (word z r'.world) r'.ledger.rows s c l') (sym e) (seeking z (word z r'.world) r'.ledger.rows s (Activity.Rebalance (Rebalance.Seek Seek.First)) l' refl (none_taken r'.ledger.rows s l'.rebalance.taken t))
      which (goes_on o t) = infants_own a l' t h i.rows.states (row_link z r.world s l i.sane h.knows, (i.sane.locals s l h.knows).ranges.rebalance.number) (taken_below z r.world s l i.sane h.knows) (infants_at a h i)

  -- the row at which a seat acts was linked
  at_linked : (a : Activity) → Happens z r r' s choice l l' a → Shape z r → IsAtRow a → WasLinked r.ledger.rows l.row
  at_linked a h i x = fresh_linked r.ledger.rows s l.row ((subst (λ b. Walks (word z r.world) r.ledger.rows s b l) h.activity (i.walks s l h.knows)).at x).fresh

  -- so was the row after its full one
  next_linked : (a : Activity) → Happens z r r' s choice l l' a → Shape z r → IsBalancing a → next_in (word z r.world) l.row ≡ Some (row_after l) → WasLinked r.ledger.rows (row_after l)
  next_linked a h i x e = fresh_linked r.ledger.rows s (row_after l) (fresh_next (rows_in (word z r.world)) r.ledger.rows i.rows.closed s l.row (row_after l) ((balance_at a h i).fresh x) e)

  -- so was each row that the seat knows and on which it acts
  own_linked : (a : Activity) → Happens z r r' s choice l l' a → Shape z r → AreLinked r.ledger.rows l (target_of a)
  own_linked (Activity.Look Look.Help) h i = at_linked (Activity.Look Look.Help) h i tt
  own_linked (Activity.Put Put.Add) h i = at_linked (Activity.Put Put.Add) h i tt
  own_linked (Activity.Put Put.Key) h i = at_linked (Activity.Put Put.Key) h i tt
  own_linked (Activity.Put Put.Value) h i = at_linked (Activity.Put Put.Value) h i tt
  own_linked (Activity.Put Put.Announce) h i = at_linked (Activity.Put Put.Announce) h i tt
  own_linked (Activity.Put Put.Stamp) h i = at_linked (Activity.Put Put.Stamp) h i tt
  own_linked (Activity.Put Put.Version) h i = at_linked (Activity.Put Put.Version) h i tt
  own_linked (Activity.Insert Insert.Set) h i = at_linked (Activity.Insert Insert.Set) h i tt
  own_linked (Activity.Insert Insert.Exchange) h i = at_linked (Activity.Insert Insert.Exchange) h i tt
  own_linked (Activity.Put Put.Clear) h i = at_linked (Activity.Put Put.Clear) h i tt
  own_linked (Activity.Rebalance (Rebalance.Engage (Engage.Normal seat))) h i = fresh_linked r.ledger.rows s l.row ((balance_at (Activity.Rebalance (Rebalance.Engage (Engage.Normal seat))) h i).fresh tt)
  own_linked (Activity.Rebalance (Rebalance.Engage Engage.Lead)) h i = fresh_linked r.ledger.rows s l.row ((balance_at (Activity.Rebalance (Rebalance.Engage Engage.Lead)) h i).fresh tt)
  own_linked (Activity.Rebalance (Rebalance.Engage (Engage.MarkLink count))) h i = fresh_linked r.ledger.rows s l.row ((balance_at (Activity.Rebalance (Rebalance.Engage (Engage.MarkLink count))) h i).fresh tt)
  own_linked (Activity.Rebalance (Rebalance.Engage (Engage.Decide count))) h i = fresh_linked r.ledger.rows s l.row ((balance_at (Activity.Rebalance (Rebalance.Engage (Engage.Decide count))) h i).fresh tt)
  own_linked (Activity.Rebalance (Rebalance.Claim Claim.Exchange)) h i = next_linked (Activity.Rebalance (Rebalance.Claim Claim.Exchange)) h i tt (claims_there (Activity.Rebalance (Rebalance.Claim Claim.Exchange)) h i tt (balance_at (Activity.Rebalance (Rebalance.Claim Claim.Exchange)) h i).group).0.next
  own_linked (Activity.Rebalance (Rebalance.Claim (Claim.Normal seat))) h i = next_linked (Activity.Rebalance (Rebalance.Claim (Claim.Normal seat))) h i tt (claims_there (Activity.Rebalance (Rebalance.Claim (Claim.Normal seat))) h i tt (balance_at (Activity.Rebalance (Rebalance.Claim (Claim.Normal seat))) h i).group).0.next
  own_linked (Activity.Rebalance (Rebalance.Claim Claim.MarkLink)) h i = next_linked (Activity.Rebalance (Rebalance.Claim Claim.MarkLink)) h i tt (marks_there (Activity.Rebalance (Rebalance.Claim Claim.MarkLink)) h i tt (balance_at (Activity.Rebalance (Rebalance.Claim Claim.MarkLink)) h i).group).0.next
  own_linked (Activity.Rebalance (Rebalance.Freeze Freeze.Count)) h i = fresh_linked r.ledger.rows s l.rebalance.hand (named_hand (Activity.Rebalance (Rebalance.Freeze Freeze.Count)) tt h i)
  own_linked (Activity.Rebalance (Rebalance.Freeze (Freeze.Entry j))) h i = fresh_linked r.ledger.rows s l.rebalance.hand (named_hand (Activity.Rebalance (Rebalance.Freeze (Freeze.Entry j))) tt h i)
  own_linked (Activity.Rebalance (Rebalance.Replace Replace.Retire)) h i = fresh_linked r.ledger.rows s l.rebalance.hand (named_hand (Activity.Rebalance (Rebalance.Replace Replace.Retire)) tt h i)
  own_linked (Activity.Rebalance (Rebalance.Replace Replace.Exchange)) h i = (λ q o. fresh_linked r.ledger.rows s q (named_of_group (Activity.Rebalance (Rebalance.Replace Replace.Exchange)) tt h i q o), λ p f. fresh_linked r.ledger.rows s p ((search_at (Activity.Rebalance (Rebalance.Replace Replace.Exchange)) h i).fresh p tt f))
  own_linked (Activity.Rebalance (Rebalance.Seek Seek.Next)) h i = tt
  own_linked a h i = tt

  -- another seat
  pub infants_other : (a : Activity) → Happens z r r' s choice l l' a → Shape z r → (t : ℕ) (k : Local) → t ≢ s → slice_get r.world.locals t ≡ Some k → Infants z (word z r'.world) r'.ledger.rows t k.activity k
  infants_other a h i t k d g = infants_stable z r.world.rows (word z r.world) (word z r'.world) r.ledger.rows r'.ledger.rows t k.activity k (rely_infants a h t d i.rows.states (i.sane.locals s l h.knows).ranges.rebalance.number (infants_at a h i) (own_linked a h i)) (taken_below z r.world t k i.sane g) (i.infants t k g)

  -- The row before its full one.

  -- a dead row that some seat may name is dead still
  dead_stays : (a : Activity) → Happens z r r' s choice l l' a → Shape z r → (q : ℕ) → IsHeld r.ledger.rows q → IsDead r.ledger.rows q → IsDead r'.ledger.rows q
  dead_stays a h i q o d = ap (λ (f : Fate). f.status) (held_dead _ _ r.ledger.rows r'.ledger.rows q o d (linked_keeps a h i q (inr d))) ∙ d

  -- the acting seat goes on with the row that it knew
  search_on : (a : Activity) → Happens z r r' s choice l l' a → Shape z r → IsBalancing a → (IsVisiting a) → (WritesPass a → ⊥) → (IsMeasured l'.activity l' → l'.row ≡ l.row) → Search (word z r.world) r.ledger.rows s l'.activity l' → Search (word z r'.world) r'.ledger.rows s l'.activity l'
  search_on a h i x p n same was =
      let held : IsMeasured l'.activity l' → IsHeld r.ledger.rows l'.row = λ m. subst (IsHeld r.ledger.rows) (sym (same m)) (held_by r.ledger.rows s l.row ((balance_at a h i).fresh x)) in
      search_stable _ _ r.ledger.rows r'.ledger.rows s l'.activity l' (own_rely z r r' s choice l a l' h i p n) (λ m. dead_stays a h i l'.row (held m)) was

  -- on its way left
  left_go : (a : Activity) → LeftBy (word z r.world) l a l' → Happens z r r' s choice l l' a → Shape z r → Search (word z r'.world) r'.ledger.rows s l'.activity l'
  left_go a t h i =
      let x = left_goes (word z r.world) l a l' t in
      let y = balance_at a h i in
      search_on a h i x.0 x.1 x.2 (λ m. left_stays (word z r.world) l a l' t) (left_search (word z r.world) r.ledger.rows s _ i.rows l (y.fresh x.0) (y.lower x.0) a l' t (search_at a h i))

  -- by the way that it comes
  pub search_go : (a : Activity) → Arrow z (word z r.world) s choice l a l' → Happens z r r' s choice l l' a → Shape z r → Search (word z r'.world) r'.ledger.rows s l'.activity l'
  search_go a b h i = which (comes z (word z r.world) s choice l a l' b) (left_by z (word z r.world) s choice l a l' b)
    where
      which : Comes z (word z r.world) choice l a l' → LeftBy (word z r.world) l a l' ⊎ (IsGoingLeft l'.activity → ⊥) → Search (word z r'.world) r'.ledger.rows s l'.activity l'
      which c (inl t) = left_go a t h i
      which (stays_out n) (inr m) = unbuilt_search (word z r'.world) r'.ledger.rows s l'.activity l' n m
      which (seeks e t) (inr m) = subst (λ c. Search (word z r'.world) r'.ledger.rows s c l') (sym e) (record { some = λ x. absurd x; fresh = λ p x. absurd x; least = λ p x. absurd x; left = λ p x. absurd x; saw = λ x. absurd x })
      which (goes_on o t) (inr m) =
          let y = balance_at a h i in
          let was = search_by (word z r.world) r.ledger.rows s _ i.rows l (y.fresh (built_balancing a o)) (y.lower (built_balancing a o)) z choice a l' t (head_open z r i l.row) (search_at a h i) in
          search_on a h i (built_balancing a o) (built_visits a o).0 (built_pass a o) (λ x. (built_keeps z (word z r.world) choice l a l' t (built_or l'.activity (searching_builds l'.activity l' (measured l'.activity l' x)) m)).row) was

  -- another seat
  pub search_other : (a : Activity) → Happens z r r' s choice l l' a → Shape z r → (t : ℕ) (k : Local) → t ≢ s → slice_get r.world.locals t ≡ Some k → Search (word z r'.world) r'.ledger.rows t k.activity k
  search_other a h i t k d g = which (is_visiting k.activity)
    where
      which : IsVisiting k.activity ⊎ (IsVisiting k.activity → ⊥) → Search (word z r'.world) r'.ledger.rows t k.activity k
      which (inl x) = let p = (i.visits t k g).in_visit x in search_stable _ _ r.ledger.rows r'.ledger.rows t k.activity k (rely_rows a h i t p.since p.visits (others_kept a h t d ∙ p.visits)) (λ m. dead_stays a h i k.row (held_by r.ledger.rows t k.row ((i.balances t k g).fresh (searching_balances k.activity (searching_builds k.activity k (measured k.activity k m)))))) (i.search t k g)
      which (inr n) = unbuilt_search (word z r'.world) r'.ledger.rows t k.activity k (λ x. n (built_visits k.activity x).0) (λ x. n (left_visits k.activity x))
