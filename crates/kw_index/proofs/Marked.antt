-- Marks of rows: the row of each entry is marked.
use Rattle.std.proofs.Common.{◌≡◌, ◌≢◌, ℕ, ◌<◌, Bool, true, false, not, List, length, get_or, set, filter, All, AllPairs, ap, sym, ◌∙◌, length-set, arith}
use mathlib.Core.Bool.{false≢true}
use Rattle.std.specs.Prelude.{nat_lt, ◌==◌, ◌∷◌}
use Rattle.std.proofs.lemmas.Bool.Decides.{nat_tests}
use Rattle.std.proofs.lemmas.List.{get_or-set_other}
use Rattle.std.proofs.lemmas.List.Elements.{All-cons, All-append, All-filter, All-set}
use Rattle.std.proofs.lemmas.Grind.{get_or-set_at}
use Rattle.kw_index.specs.declared.entries.IndexEntry.{IndexEntry}
use Rattle.kw_index.specs.Entries.{AreMarked, without, with_entry}
use Rattle.kw_index.proofs.Filtered.{filter_all}
use Rattle.kw_index.proofs.Placed.{absent_without}

-- the entries without that of a row that none has
pub nothing_out : (row : ℕ) (list : List IndexEntry) → All (λ e. e.row ≢ row) list → list ≡ without row list
nothing_out row list absent = sym (filter_all (λ e. not (e.row == row)) list (λ k d above below. grind (arith, nat_tests, absent k d below)))

module _ (marks : List Bool) (list : List IndexEntry) (marked : AreMarked marks list) where
  -- no entry has a row that is not marked
  pub unmarked_absent : (row : ℕ) → get_or marks row true ≡ false → All (λ e. e.row ≢ row) list
  unmarked_absent row unmarked k d below same = absurd (false≢true (sym unmarked ∙ ap (λ n. get_or marks n true) (sym same) ∙ marked k d below true))

  -- the mark of a row says nothing of the entries of other rows
  pub marked_without : (row : ℕ) → AreMarked (set marks row false) (without row list)
  marked_without row k d below e =
      get_or-set_other marks row (get_or (without row list) k d).row false e (absent_without row list k d below)
      ∙ All-filter (λ f. not (f.row == row)) (λ f. (e : Bool) → get_or marks f.row e ≡ true) list marked k d below e

  -- one row more is marked
  pub marked_with : (row : ℕ) → row < length marks → AreMarked (set marks row true) list
  marked_with row in_range k d below e =
      grind (
        arith,
        λ (same : (get_or list k d).row ≡ row). get_or-set_at marks row (get_or list k d).row true e same in_range,
        λ (other : (get_or list k d).row ≢ row). get_or-set_other marks row (get_or list k d).row true e other,
        marked k d below e,
      )

-- an entry of a marked row is put in
pub marked_with_entry : (marks : List Bool) (list : List IndexEntry) (new : IndexEntry) → AreMarked marks list → ((e : Bool) → get_or marks new.row e ≡ true) → AreMarked marks (with_entry new list)
marked_with_entry marks list new marked here =
    All-append (λ f. (e : Bool) → get_or marks f.row e ≡ true) (filter (λ f. nat_lt f.least new.least) list) (new ∷ filter (λ f. nat_lt new.least f.least) list)
    (All-filter (λ f. nat_lt f.least new.least) (λ f. (e : Bool) → get_or marks f.row e ≡ true) list marked)
    (All-cons (λ f. (e : Bool) → get_or marks f.row e ≡ true) new (filter (λ f. nat_lt new.least f.least) list) here
    (All-filter (λ f. nat_lt new.least f.least) (λ f. (e : Bool) → get_or marks f.row e ≡ true) list marked))

-- an entry of a marked row takes the place of another, whose row is no longer marked
module _ (marks : List Bool) (list : List IndexEntry) (marked : AreMarked marks list) (distinct : AllPairs (λ e f. e.row ≢ f.row) list) (new : IndexEntry)
    (here : (e : Bool) → get_or marks new.row e ≡ true) (at over : ℕ) (in_range : at < length list) (over_is : (d : IndexEntry) → (get_or list at d).row ≡ over) (other : new.row ≢ over) where
  row_apart : (k : ℕ) (d : IndexEntry) → k < length list → k ≢ at → (get_or list k d).row ≢ over
  row_apart k d below elsewhere same = grind (arith, over_is d, distinct k at d, distinct at k d)

  none_over : All (λ e. e.row ≢ over) (set list at new)
  none_over k d below same =
      let elsewhere : k ≢ at = λ here'. other (sym (ap (λ f. f.row) (get_or-set_at list at k new d here' in_range)) ∙ same) in
      row_apart k d (omega (arith, below, length-set list at new)) elsewhere (sym (ap (λ f. f.row) (get_or-set_other list at k new d elsewhere)) ∙ same)

  pub marked_over : AreMarked (set marks over false) (set list at new)
  marked_over k d below e =
      get_or-set_other marks over (get_or (set list at new) k d).row false e (none_over k d below)
      ∙ All-set (λ f. (e : Bool) → get_or marks f.row e ≡ true) list at new here marked k d below e
