-- Where the cells of a key begin among cells that rise.
use Rattle.std.proofs.Common.{ℕ, ◌≡◌, ◌<◌, ◌≤◌, ◌-◌, ltb, List, sym, ap, arith, length, get_or, inl, inr, ◌⊎◌}
use Rattle.std.proofs.lemmas.List.{get_or_default}
use Rattle.std.proofs.lemmas.Bool.{cases_lt}
use Rattle.std.proofs.lemmas.Bool.Decides.{nat_tests}
use Rattle.kw_cells.specs.Kept.{AreRising}
use Rattle.kw_cells.specs.Cuts.{index_of_key, key_at}
use Rattle.kw_cells.specs.declared.cell.Cell.{Cell}
use Rattle.kw_cells.proofs.Rising.{any_cell, keys_rise}
use Rattle.kw_cells.proofs.CutAt.{IsCut, cut_is}

module _ (kept : List Cell) (rising : AreRising kept) where
  -- the cells before the place have lesser keys, and those from it on have not
  place : (key : ℕ) → IsCut (λ k. ltb k key) kept (index_of_key kept key)
  place key = cut_is (λ k. ltb k key) (λ a b l e. grind (arith, nat_tests)) kept rising

  -- it is within the cells
  pub index_within : (key : ℕ) → index_of_key kept key ≤ length kept
  index_within key = (place key).within

  -- a key before the place is lesser
  pub lesser : (key k : ℕ) (d : Cell) → k < index_of_key kept key → (get_or kept k d).key < key
  lesser key k d g = let b = (place key).before k d g in grind (arith, nat_tests)

  -- and one from it on is not
  pub not_lesser : (key k : ℕ) (d : Cell) → index_of_key kept key ≤ k → k < length kept → key ≤ (get_or kept k d).key
  not_lesser key k d g l = let a = (place key).from_it k d g l in grind (arith, nat_tests)

  -- a place with lesser keys before it, and none from it on, is the key's
  pub index_is : (key first : ℕ) → first ≤ length kept → ((k : ℕ) (d : Cell) → k < first → (get_or kept k d).key < key) → ((k : ℕ) (d : Cell) → first ≤ k → k < length kept → key ≤ (get_or kept k d).key) → index_of_key kept key ≡ first
  index_is key first inside before from_it = go (cases_lt (index_of_key kept key) first)
    where
      go : ((index_of_key kept key < first) ⊎ (first ≤ index_of_key kept key)) → index_of_key kept key ≡ first
      go (inl h) = absurd (let a = not_lesser key (index_of_key kept key) any_cell (omega arith) (omega arith) in let b = before (index_of_key kept key) any_cell h in omega arith)
      go (inr h) = on (cases_lt first (index_of_key kept key))
        where
          on : ((first < index_of_key kept key) ⊎ (index_of_key kept key ≤ first)) → index_of_key kept key ≡ first
          on (inl g) = absurd (let w = index_within key in let a = lesser key first any_cell g in let b = from_it first any_cell (omega arith) (omega arith) in omega arith)
          on (inr g) = omega arith

  -- a cell's key does not begin behind it
  pub index_below : (at : ℕ) → at < length kept → index_of_key kept (key_at kept at) ≤ at
  index_below at l = go (cases_lt at (index_of_key kept (key_at kept at)))
    where
      go : ((at < index_of_key kept (key_at kept at)) ⊎ (index_of_key kept (key_at kept at) ≤ at)) → index_of_key kept (key_at kept at) ≤ at
      go (inl h) = absurd (let a = lesser (key_at kept at) at any_cell h in omega arith)
      go (inr h) = h

  -- nor before a place up to it at which a key begins
  pub index_beyond : (at b : ℕ) → b ≤ at → at < length kept → ((k : ℕ) → k < b → (get_or kept k any_cell).key < (get_or kept b any_cell).key) → b ≤ index_of_key kept (key_at kept at)
  index_beyond at b g l begins = go (cases_lt (index_of_key kept (key_at kept at)) b)
    where
      go : ((index_of_key kept (key_at kept at) < b) ⊎ (b ≤ index_of_key kept (key_at kept at))) → b ≤ index_of_key kept (key_at kept at)
      go (inl h) = absurd (
          let a = not_lesser (key_at kept at) (index_of_key kept (key_at kept at)) any_cell (omega arith) (omega arith) in
          let r = keys_rise kept rising b at any_cell g l in
          let f = begins (index_of_key kept (key_at kept at)) h in
          omega arith)
      go (inr h) = h

  -- a place of the key up to this one, before which another key stands, is where the key begins
  pub index_first : (at first : ℕ) → at < length kept → first ≤ at → (get_or kept first any_cell).key ≡ key_at kept at → (0 < first → (get_or kept (first - 1) any_cell).key ≡ key_at kept at → ⊥) → first ≡ index_of_key kept (key_at kept at)
  index_first at first l g same other = sym (index_is (key_at kept at) first (omega arith) before from_it)
    where
      before : (k : ℕ) (d : Cell) → k < first → (get_or kept k d).key < key_at kept at
      before k d h =
          let a = keys_rise kept rising k (first - 1) d (omega arith) (omega arith) in
          let b = keys_rise kept rising (first - 1) first any_cell (omega arith) (omega arith) in
          let e : (get_or kept (first - 1) d).key ≡ (get_or kept (first - 1) any_cell).key = ap (λ (c : Cell). c.key) (get_or_default kept (first - 1) d any_cell (omega arith)) in
          less (cases_lt (get_or kept (first - 1) any_cell).key (key_at kept at)) a b e
        where
          less : (((get_or kept (first - 1) any_cell).key < key_at kept at) ⊎ (key_at kept at ≤ (get_or kept (first - 1) any_cell).key)) → (get_or kept k d).key ≤ (get_or kept (first - 1) d).key → (get_or kept (first - 1) any_cell).key ≤ (get_or kept first any_cell).key → (get_or kept (first - 1) d).key ≡ (get_or kept (first - 1) any_cell).key → (get_or kept k d).key < key_at kept at
          less (inl m) a b e = omega arith
          less (inr m) a b e = absurd (other (omega arith) (omega arith))

      from_it : (k : ℕ) (d : Cell) → first ≤ k → k < length kept → key_at kept at ≤ (get_or kept k d).key
      from_it k d h m =
          let a = keys_rise kept rising first k d h m in
          let e : (get_or kept first d).key ≡ (get_or kept first any_cell).key = ap (λ (c : Cell). c.key) (get_or_default kept first d any_cell (omega arith)) in
          omega arith
