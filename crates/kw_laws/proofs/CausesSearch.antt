-- A search of the table, as it goes round: which rows it has asked, and what it found at each.
use Rattle.std.proofs.Common.{ℕ, ◌≡◌, ◌≢◌, ◌⊎◌, inl, inr, ◌+◌, ◌<◌, ◌≤◌, Bool, true, false, nat_lt, if◌then◌else◌, Some, List, [], ◌∷◌, ◌++◌, arith, refl, sym, ◌∙◌, ap, subst, length, length-append}
use Rattle.std.proofs.lemmas.Bool.{cases_lt}
use Rattle.std.proofs.lemmas.Bool.Decides.{nat_tests}
use Rattle.kw_words.specs.declared.state.State.TheVariants as state
use Rattle.kw_words.specs.State.{state_of, state_word}
use Rattle.kw_words.proofs.StateWords.{state_of-Free}
use Rattle.kw_world.specs.declared.activity.Activity.{Activity}
use Rattle.kw_world.specs.declared.activity.rebalance.Rebalance.TheVariants as Rebalance
use Rattle.kw_world.specs.declared.activity.rebalance.seek.Seek.TheVariants as Seek
use Rattle.kw_world.specs.declared.event.Event.{Event}
use Rattle.kw_world.specs.declared.opening.Opening.{Opening}
use Rattle.kw_world.specs.declared.operation.Operation.{Operation}
use Rattle.kw_world.specs.declared.rebalance.Rebalancing.{Rebalancing}
use Rattle.kw_world.specs.SeekTransitions.{row_behind}
use Rattle.kw_world.specs.Sizes.{Sizes}
use Rattle.kw_rows.specs.Events.{IsIn}
use Rattle.kw_laws.specs.Causes.{IsTrying, NotTried, SawPass, FoundTaken, TookRow, NoSearch, AskedAll, asking}
use Rattle.kw_laws.specs.Mirror.{Acts}
use Rattle.kw_laws.proofs.CausesLast.{acts_on, not_tried_lasts, taken_lasts, took_lasts, search_lasts}

-- Round the table.

-- of a search that began at this row, the row sought is the one of this number that it asks
abbrev pub IsTurn : ℕ → ℕ → ℕ → ℕ → Type 0
IsTurn first sought asked rows = ((first ≤ sought) × (sought + 1 ≡ asked + first)) ⊎ ((sought < first) × (asked + first ≡ rows + sought + 1))

-- the row was asked before the one that is sought
abbrev pub IsGoneBy : ℕ → ℕ → ℕ → Type 0
IsGoneBy first sought q = ((first ≤ q) × (q < sought)) ⊎ ((sought < first) × ((first ≤ q) ⊎ (q < sought)))

-- where the row behind stands
pub row_behind_is : (rows r : ℕ) → ((r + 1 < rows) × (row_behind rows r ≡ r + 1)) ⊎ ((rows ≤ r + 1) × (row_behind rows r ≡ 0))
row_behind_is rows r = saw (nat_lt (r + 1) rows) refl
  where
    saw : (b : Bool) → nat_lt (r + 1) rows ≡ b → ((r + 1 < rows) × ((if b then r + 1 else 0) ≡ r + 1)) ⊎ ((rows ≤ r + 1) × ((if b then r + 1 else 0) ≡ 0))
    saw true e = inl (grind (arith, nat_tests), refl)
    saw false e = inr (grind (arith, nat_tests), refl)

module _ (first sought asked rows : ℕ) where
  -- the next row is asked, and is one of the table
  pub turn_next : first < rows → sought < rows → asked < rows → IsTurn first sought asked rows → IsTurn first (row_behind rows sought) (asked + 1) rows × (row_behind rows sought < rows)
  turn_next f g h t = which t (row_behind_is rows sought)
    where
      which : IsTurn first sought asked rows → ((sought + 1 < rows) × (row_behind rows sought ≡ sought + 1)) ⊎ ((rows ≤ sought + 1) × (row_behind rows sought ≡ 0)) → IsTurn first (row_behind rows sought) (asked + 1) rows × (row_behind rows sought < rows)
      which (inl x) (inl y) = (inl (omega (arith, x.0, y.1), omega (arith, x.1, y.1)), omega (arith, y.0, y.1))
      which (inl x) (inr y) = (inr (omega (arith, x.0, x.1, y.0, y.1, h, g), omega (arith, x.1, y.0, y.1, g)), omega (arith, g, y.1))
      which (inr x) (inl y) = (inr (omega (arith, x.0, x.1, y.0, y.1, h), omega (arith, x.1, y.1)), omega (arith, y.0, y.1))
      which (inr x) (inr y) = absurd (omega (arith, x.0, y.0, f))

  -- the rows that were asked before it were so before, or the row that was sought is the one
  pub gone_by_next : first < rows → sought < rows → asked < rows → IsTurn first sought asked rows → (q : ℕ) → q < rows → IsGoneBy first (row_behind rows sought) q → IsGoneBy first sought q ⊎ (q ≡ sought)
  gone_by_next f g h t q w p = which t (row_behind_is rows sought) p (cases_lt q sought)
    where
      which : IsTurn first sought asked rows → ((sought + 1 < rows) × (row_behind rows sought ≡ sought + 1)) ⊎ ((rows ≤ sought + 1) × (row_behind rows sought ≡ 0)) → IsGoneBy first (row_behind rows sought) q → (q < sought) ⊎ (sought ≤ q) → IsGoneBy first sought q ⊎ (q ≡ sought)
      which (inl x) (inl y) (inl c) (inl d) = inl (inl (c.0, d))
      which (inl x) (inl y) (inl c) (inr d) = inr (omega (arith, c.1, y.1, d))
      which (inl x) (inl y) (inr c) d = absurd (omega (arith, c.0, y.1, x.0))
      which (inl x) (inr y) (inl c) d = absurd (omega (arith, c.1, y.1))
      which (inl x) (inr y) (inr (c, inl k)) (inl d) = inl (inl (k, d))
      which (inl x) (inr y) (inr (c, inl k)) (inr d) = inr (omega (arith, w, d, y.0))
      which (inl x) (inr y) (inr (c, inr k)) d = absurd (omega (arith, k, y.1))
      which (inr x) (inl y) (inl c) d = absurd (omega (arith, c.0, c.1, y.1, x.0))
      which (inr x) (inl y) (inr (c, inl k)) d = inl (inr (x.0, inl k))
      which (inr x) (inl y) (inr (c, inr k)) (inl d) = inl (inr (x.0, inr d))
      which (inr x) (inl y) (inr (c, inr k)) (inr d) = inr (omega (arith, k, d, y.1))
      which (inr x) (inr y) c d = absurd (omega (arith, x.0, y.0, f))

  -- once all are asked, each row was asked before the row that is sought, or is that one
  pub gone_by_all : sought < rows → rows ≤ asked → IsTurn first sought asked rows → (q : ℕ) → q < rows → IsGoneBy first sought q ⊎ (q ≡ sought)
  gone_by_all g h t q w = which t (cases_lt q sought) (cases_lt q first)
    where
      which : IsTurn first sought asked rows → (q < sought) ⊎ (sought ≤ q) → (q < first) ⊎ (first ≤ q) → IsGoneBy first sought q ⊎ (q ≡ sought)
      which (inl x) (inl d) k = inl (inl (omega (arith, x.1, h, g), d))
      which (inl x) (inr d) k = inr (omega (arith, x.1, h, g, w, d))
      which (inr x) (inl d) k = inl (inr (x.0, inr d))
      which (inr x) (inr d) (inl k) = inr (omega (arith, x.1, h, d, k))
      which (inr x) (inr d) (inr k) = inl (inr (x.0, inl k))

-- the row that is sought was not asked before
pub gone_by_other : (first sought q : ℕ) → IsGoneBy first sought q → q ≢ sought
gone_by_other first sought q (inl x) e = omega (arith, x.1, e)
gone_by_other first sought q (inr (x, inl y)) e = omega (arith, x, y, e)
gone_by_other first sought q (inr (x, inr y)) e = omega (arith, y, e)

-- no row was asked before the first one
pub none_gone_by : {A : Type 0} (first q : ℕ) → IsGoneBy first first q → A
none_gone_by first q (inl x) = absurd (omega (arith, x.0, x.1))
none_gone_by first q (inr x) = absurd (omega (arith, x.0))

-- Lists of rows.

pub in_front : (xs : List ℕ) (y q : ℕ) → IsIn xs q → IsIn (xs ++ y ∷ []) q
in_front [] y q t = absurd t
in_front (x ∷ xs) y q (inl e) = inl e
in_front (x ∷ xs) y q (inr t) = inr (in_front xs y q t)

pub in_last : (xs : List ℕ) (y : ℕ) → IsIn (xs ++ y ∷ []) y
in_last [] y = inl refl
in_last (x ∷ xs) y = inr (in_last xs y)

pub in_was : (xs : List ℕ) (y q : ℕ) → IsIn (xs ++ y ∷ []) q → IsIn xs q ⊎ (q ≡ y)
in_was [] y q (inl e) = inr e
in_was [] y q (inr t) = absurd t
in_was (x ∷ xs) y q (inl e) = inl (inl e)
in_was (x ∷ xs) y q (inr t) = which (in_was xs y q t)
  where
    which : IsIn xs q ⊎ (q ≡ y) → IsIn (x ∷ xs) q ⊎ (q ≡ y)
    which (inl c) = inl (inr c)
    which (inr c) = inr c

-- What is kept of a search.

-- before a search: row 0 is asked first, and no row is taken
pub record IsBeforeSearch (b : Rebalancing) : Type 0 where
  pub sought : b.sought ≡ 0
  pub asked : b.asked ≡ 1
  pub taken : b.taken ≡ []
  pub some : 0 < length b.starts

-- the seat began its search in its call, and of the rows that it asked each one was taken, or is
-- one that it took
pub record Searching (z : Sizes) (o : Opening) (es : List Event) (s first : ℕ) (b : Rebalancing) : Type 0 where
  pub begun : ℕ
  pub after : first < begun
  pub before : begun < length es
  pub row : ℕ
  pub found : ℕ
  pub begins : Acts z o es begun s (Activity.Rebalance (Rebalance.Seek Seek.First)) (asking row) found
  pub starts : b.starts ≡ begins.local.rebalance.starts
  pub within : row < o.rows
  pub sought : b.sought < o.rows
  pub turn : IsTurn row b.sought b.asked o.rows
  pub alone : NoSearch z o es s begun (length es)
  pub took : (q : ℕ) → IsIn b.taken q → TookRow z o es s begun (length es) q
  pub fewer : length b.taken < length b.starts
  pub gone_by : (q : ℕ) → q < o.rows → IsGoneBy row b.sought q → IsIn b.taken q ⊎ FoundTaken z o es s begun (length es) q

-- one more event, by which the seat begins no search, and asks for no row but the one that is
-- sought
pub searching_lasts : (z : Sizes) (o : Opening) (es : List Event) (e : Event) (s first : ℕ) (b : Rebalancing) → length es ≤ length (es ++ e ∷ []) → ((u found : ℕ) (op : Operation) → length es ≤ u → u < length (es ++ e ∷ []) → Acts z o (es ++ e ∷ []) u s (Activity.Rebalance (Rebalance.Seek Seek.First)) op found → ⊥) →
    ((q u found : ℕ) (a : Activity) (op : Operation) → q ≢ b.sought → length es ≤ u → u < length (es ++ e ∷ []) → IsTrying s q a op → Acts z o (es ++ e ∷ []) u s a op found → ⊥) → Searching z o es s first b → Searching z o (es ++ e ∷ []) s first b
searching_lasts z o es e s first b longer quiet untried t = record {
  begun = t.begun;
  after = t.after;
  before = omega (arith, longer, t.before);
  row = t.row;
  found = t.found;
  begins = acts_on z o es e t.begun s _ _ _ t.begins;
  starts = t.starts;
  within = t.within;
  sought = t.sought;
  turn = t.turn;
  alone = search_lasts z o es e s (length es) (length (es ++ e ∷ [])) longer inside t.begun quiet t.alone;
  took = λ q x. took_lasts z o es e s (length es) (length (es ++ e ∷ [])) longer t.begun q (t.took q x);
  fewer = t.fewer;
  gone_by = λ q w x. either q (gone_by_other t.row b.sought q x) (t.gone_by q w x);
}
  where
    inside : length es ≤ length es
    inside = omega arith

    either : (q : ℕ) → q ≢ b.sought → IsIn b.taken q ⊎ FoundTaken z o es s t.begun (length es) q → IsIn b.taken q ⊎ FoundTaken z o (es ++ e ∷ []) s t.begun (length (es ++ e ∷ [])) q
    either q n (inl x) = inl x
    either q n (inr x) = inr (taken_lasts z o es e s (length es) (length (es ++ e ∷ [])) longer inside t.begun q (λ u found a op f g d c. untried q u found a op n f g d c) x)

-- it began where it did
pub searching_begun : (z : Sizes) (o : Opening) (es : List Event) (e : Event) (s first : ℕ) (b : Rebalancing) (w : length es ≤ length (es ++ e ∷ [])) (quiet : (u found : ℕ) (op : Operation) → length es ≤ u → u < length (es ++ e ∷ []) → Acts z o (es ++ e ∷ []) u s (Activity.Rebalance (Rebalance.Seek Seek.First)) op found → ⊥) →
    (untried : (q u found : ℕ) (a : Activity) (op : Operation) → q ≢ b.sought → length es ≤ u → u < length (es ++ e ∷ []) → IsTrying s q a op → Acts z o (es ++ e ∷ []) u s a op found → ⊥) → (t : Searching z o es s first b) → (searching_lasts z o es e s first b w quiet untried t).begun ≡ t.begun
unfolding searching_lasts
searching_begun z o es e s first b w quiet untried t = refl

-- the number of a retired row that is asked for says nothing of the search
abbrev pub searching_number : (z : Sizes) (o : Opening) (es : List Event) (s first number : ℕ) (b : Rebalancing) → Searching z o es s first b → Searching z o es s first (record b { number = number })
searching_number z o es s first number b t = record { begun = t.begun; after = t.after; before = t.before; row = t.row; found = t.found; begins = t.begins; starts = t.starts; within = t.within; sought = t.sought; turn = t.turn; alone = t.alone; took = t.took; fewer = t.fewer; gone_by = t.gone_by }

-- The visits.

-- the seat found the row that it asks for retired with this number, since its search began, and has
-- asked for it no more: it looks at the visits
pub record AsksPassWords (z : Sizes) (o : Opening) (es : List Event) (s begun row number : ℕ) : Type 0 where
  pub at : ℕ
  pub after : begun ≤ at
  pub before : at < length es
  pub activity : Activity
  pub tries : IsTrying s row activity (asking row)
  pub found : ℕ
  pub retired : state_of found ≡ Some (state.Retired number)
  pub acts : Acts z o es at s activity (asking row) found
  pub final : NotTried z o es s at (length es) row

-- one more event, by which the seat does not ask for the row
module _ (z : Sizes) (o : Opening) (es : List Event) (e : Event) (s begun row number : ℕ) (untried : (u found : ℕ) (a : Activity) (op : Operation) → length es ≤ u → u < length (es ++ e ∷ []) → IsTrying s row a op → Acts z o (es ++ e ∷ []) u s a op found → ⊥) (t : AsksPassWords z o es s begun row number) where
  longer : length es ≤ length (es ++ e ∷ [])
  longer = omega (arith, length-append es (e ∷ []))

  final : NotTried z o (es ++ e ∷ []) s t.at (length (es ++ e ∷ [])) row
  final = let inside : length es ≤ length es = omega arith in not_tried_lasts z o es e s (length es) (length (es ++ e ∷ [])) longer inside t.at row untried t.final

  -- the visits are looked at still
  pub asks_lasts : AsksPassWords z o (es ++ e ∷ []) s begun row number
  asks_lasts = record { at = t.at; after = t.after; before = omega (arith, t.before, longer); activity = t.activity; tries = t.tries; found = t.found; retired = t.retired; acts = acts_on z o es e t.at s _ _ t.found t.acts; final = final }

  -- or a visit is seen that is not younger than the number: so the row was found taken
  pub asks_taken : SawPass z o (es ++ e ∷ []) s t.at (length (es ++ e ∷ [])) number → FoundTaken z o (es ++ e ∷ []) s begun (length (es ++ e ∷ [])) row
  asks_taken m = record {
    at = t.at;
    after = t.after;
    before = omega (arith, t.before, longer);
    activity = t.activity;
    op = asking row;
    tries = t.tries;
    found = t.found;
    acts = acts_on z o es e t.at s _ _ t.found t.acts;
    taken = not_free;
    gone_by = λ n f. inr (subst (SawPass z o (es ++ e ∷ []) s t.at (length (es ++ e ∷ []))) (same_number n f) m);
    final = final;
  }
    where
      not_free : t.found ≢ state_word state.Free
      not_free f = let x : Some (state.Retired number) ≡ Some state.Free = sym t.retired ∙ ap state_of f ∙ state_of-Free in cc

      same_number : (n : ℕ) → state_of t.found ≡ Some (state.Retired n) → number ≡ n
      same_number n f = let x : Some (state.Retired number) ≡ Some (state.Retired n) = sym t.retired ∙ f in cc

-- of a search that has asked all rows, the one that is sought too
pub asked_all : (z : Sizes) (o : Opening) (es : List Event) (s first : ℕ) (b : Rebalancing) → o.rows ≤ b.asked → (t : Searching z o es s first b) → IsIn b.taken b.sought ⊎ FoundTaken z o es s t.begun (length es) b.sought → AskedAll z o es s o.rows first (length es)
asked_all z o es s first b all t here = record {
  begun = t.begun;
  after = t.after;
  before = t.before;
  row = t.row;
  found = t.found;
  begins = t.begins;
  alone = t.alone;
  taken = b.taken;
  took = t.took;
  fewer = omega (arith, t.fewer, ap (λ xs. length xs) t.starts);
  asked = λ q w. which q w (gone_by_all t.row b.sought b.asked o.rows t.sought all t.turn q w);
}
  where
    which : (q : ℕ) → q < o.rows → IsGoneBy t.row b.sought q ⊎ (q ≡ b.sought) → IsIn b.taken q ⊎ FoundTaken z o es s t.begun (length es) q
    which q w (inl x) = t.gone_by q w x
    which q w (inr x) = subst (λ y. IsIn b.taken y ⊎ FoundTaken z o es s t.begun (length es) y) (sym x) here

-- and one that has not goes on to the next row
pub next_row : (z : Sizes) (o : Opening) (es : List Event) (s first : ℕ) (b : Rebalancing) → b.asked < o.rows → (t : Searching z o es s first b) → IsIn b.taken b.sought ⊎ FoundTaken z o es s t.begun (length es) b.sought → Searching z o es s first (record b { sought = row_behind o.rows b.sought; asked = b.asked + 1 })
next_row z o es s first b more t here =
    let turn = turn_next t.row b.sought b.asked o.rows t.within t.sought more t.turn in
    record {
      begun = t.begun;
      after = t.after;
      before = t.before;
      row = t.row;
      found = t.found;
      begins = t.begins;
      starts = t.starts;
      within = t.within;
      sought = turn.1;
      turn = turn.0;
      alone = t.alone;
      took = t.took;
      fewer = t.fewer;
      gone_by = λ q w x. which q w (gone_by_next t.row b.sought b.asked o.rows t.within t.sought more t.turn q w x);
    }
  where
    which : (q : ℕ) → q < o.rows → IsGoneBy t.row b.sought q ⊎ (q ≡ b.sought) → IsIn b.taken q ⊎ FoundTaken z o es s t.begun (length es) q
    which q w (inl x) = t.gone_by q w x
    which q w (inr x) = subst (λ y. IsIn b.taken y ⊎ FoundTaken z o es s t.begun (length es) y) (sym x) here
