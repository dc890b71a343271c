-- What events leave of a row to those who walk along its list.
use Rattle.std.proofs.Common.{ℕ, ◌≡◌, ◌⊎◌, inl, inr, ◌<◌, ◌≤◌, Option, Some, None, arith, ◌∙◌}
use Rattle.kw_lists.specs.Counts.{count_below}
use Rattle.kw_lists.specs.Rows.{Row, IsOn}
use Rattle.kw_lists.specs.Changes.{inserted, MayInsert, Agree, Leaves}
use Rattle.kw_lists.proofs.Places.{cell_here, cell_old}
use Rattle.kw_lists.proofs.Counting.{count_grows, count_gains}
use Rattle.kw_lists.proofs.Same.{same_trans}

-- a row that agrees leaves all
pub agree_leaves : (n : ℕ) (r r' : Row) → Agree r r' → Leaves n r r'
agree_leaves n r r' a = record { listed = λ c e. a.listed c ∙ e; cell = a.cell; link = λ at o. inl (a.link at o) }

-- where a cell is linked in, one more is listed
pub insert_gains : (n : ℕ) (r r' : Row) (at : Option ℕ) (c : ℕ) → MayInsert r at c → c < n → Agree (inserted r at c) r' → count_below n r.listed < count_below n r'.listed
insert_gains n r r' at c m u a = count_gains n r.listed r'.listed c u m.unlisted (a.listed c ∙ cell_here r.listed c) (λ d e. a.listed d ∙ cell_old r.listed c d e)

-- and all that was there is left
pub insert_leaves : (n : ℕ) (r r' : Row) (at : Option ℕ) (c : ℕ) → MayInsert r at c → c < n → Agree (inserted r at c) r' → Leaves n r r'
insert_leaves n r r' at c m u a = record {
  listed = λ d e. a.listed d ∙ cell_old r.listed c d e;
  cell = λ d e. let s = a.cell d (cell_old r.listed c d e) in record { key = s.key; version = s.version };
  link = λ x o. inr (insert_gains n r r' at c m u a);
}

-- a link of the list stays one
pub on_left : (n : ℕ) (r r' : Row) (at : Option ℕ) → Leaves n r r' → IsOn r at → IsOn r' at
on_left n r r' None w o = tt
on_left n r r' (Some c) w o = w.listed c o

-- no fewer are listed
pub count_left : (n : ℕ) (r r' : Row) → Leaves n r r' → count_below n r.listed ≤ count_below n r'.listed
count_left n r r' w = count_grows n r.listed r'.listed w.listed

-- from row to row to row
pub leaves_trans : (n : ℕ) (r m r' : Row) → Leaves n r m → Leaves n m r' → Leaves n r r'
leaves_trans n r m r' w u = record {
  listed = λ c e. u.listed c (w.listed c e);
  cell = λ c e. same_trans r m r' c (w.cell c e) (u.cell c (w.listed c e));
  link = λ at o. which at (w.link at o) (u.link at (on_left n r m at w o));
}
  where
    which : (at : Option ℕ) → (m.link at ≡ r.link at) ⊎ (count_below n r.listed < count_below n m.listed) → (r'.link at ≡ m.link at) ⊎ (count_below n m.listed < count_below n r'.listed) → (r'.link at ≡ r.link at) ⊎ (count_below n r.listed < count_below n r'.listed)
    which at (inl x) (inl y) = inl (y ∙ x)
    which at (inr x) y = inr (omega (arith, x, count_left n m r' u))
    which at (inl x) (inr y) = inr (omega (arith, y, count_left n r m w))
