-- Where the new rows start that kept cells fill: the even cut.
use Rattle.std.specs.Prelude.{ℕ, zero, suc, ◌≡◌, ◌≤◌, ◌<◌, ◌+◌, ◌-◌, nat_lt, nat_le, if◌then◌else◌, List, [], ◌∷◌, Option, Some, None, length, slice_get, slice_index_or, slice_index, count_by}
use Rattle.kw_cells.specs.declared.cell.Cell.{Cell}

-- A cut is the list of the places in the cells at which its rows start. The cells are strictly
-- rising by key and version.

-- where the row of this number ends: where the next one starts, and the last one where the cells
-- end
abbrev pub end_of : List Cell → List ℕ → ℕ → ℕ
end_of kept starts i = slice_index_or starts (i + 1) (length kept)

-- these are the starts of a cut into rows of at most so many cells, the first from 0 on and each
-- other one with a cell at least; no key is in two rows
pub record AreCuts (limit : ℕ) (kept : List Cell) (starts : List ℕ) : Type 0 where
  pub some : 0 < length starts
  pub first : slice_index starts 0 ≡ 0
  pub within : (i : ℕ) → i + 1 < length starts → slice_index starts (i + 1) < length kept
  pub later : (i : ℕ) → i + 1 < length starts → slice_index starts i < slice_index starts (i + 1)
  pub most : (i : ℕ) → i < length starts → end_of kept starts i ≤ slice_index starts i + limit
  pub between : (i k m : ℕ) (d : Cell) → i < length starts → k < slice_index starts i → slice_index starts i ≤ m → m < length kept → (slice_index_or kept k d).key < (slice_index_or kept m d).key

-- a new row starts at `next` behind one that starts at `start`: at the first cell of a key, so that
-- the row before it has at most `limit` cells, and with this key's cells would have more
pub record IsNextStart (limit : ℕ) (kept : List Cell) (start next : ℕ) : Type 0 where
  pub later : start < next
  pub fits : next ≤ start + limit
  pub first : (i : ℕ) (d : Cell) → i < next → (slice_index_or kept i d).key < (slice_index_or kept next d).key
  pub within : start + limit < length kept
  pub full : (d : Cell) → (slice_index_or kept (start + limit) d).key ≡ (slice_index_or kept next d).key

-- each row is filled up to the limit before the next one starts: the first row starts at 0, and a
-- new one at a key's first cell exactly where the row's cells so far and this key's are together
-- more than `limit`
pub record AreStarts (limit : ℕ) (kept : List Cell) (starts : List ℕ) : Type 0 where
  pub some : 0 < length starts
  pub first : slice_index starts 0 ≡ 0
  pub next : (i : ℕ) → i + 1 < length starts → IsNextStart limit kept (slice_index starts i) (slice_index starts (i + 1))
  pub last : length kept ≤ slice_index starts (length starts - 1) + limit

-- the even cut: of the cuts into rows of at most `built` cells it has the fewest rows, of all cuts
-- with as few its longest row is shortest, and each row is filled up to that limit before the next
-- one starts
pub record AreEven (built : ℕ) (kept : List Cell) (starts : List ℕ) : Type 0 where
  pub limit : ℕ
  pub bounded : limit ≤ built
  pub each : AreStarts limit kept starts
  pub fewest : (others : List ℕ) → AreCuts built kept others → length starts ≤ length others
  pub shortest : (most : ℕ) (others : List ℕ) → AreCuts most kept others → length others ≤ length starts → limit ≤ most

-- the rows have at most `built` cells, two neighbours have more, and the keys of a row are below
-- those of the next
pub record AreFilled (built : ℕ) (kept : List Cell) (starts : List ℕ) : Type 0 where
  pub most : (i : ℕ) → i < length starts → end_of kept starts i ≤ slice_index starts i + built
  pub least : (i : ℕ) → i + 1 < length starts → slice_index starts i + built < end_of kept starts (i + 1)
  pub between : (i k m : ℕ) (d : Cell) → i < length starts → k < slice_index starts i → slice_index starts i ≤ m → m < length kept → (slice_index_or kept k d).key < (slice_index_or kept m d).key

-- The same list as a function of the kept cells.

-- how many of the cells have a lesser key: where this key's cells begin, since the cells are by
-- rising key
abbrev pub index_of_key : List Cell → ℕ → ℕ
index_of_key kept key = count_by (λ c. nat_lt c.key key) kept

-- the key of the cell at this place, 0 where there is none
abbrev pub key_at : List Cell → ℕ → ℕ
key_at kept place = (slice_index_or kept place (record { key = 0; place = 0; version = 0; value = None })).key

-- where the rows start from one that starts here on: where it cannot take all cells that are left,
-- the next one starts at the first cell of the key with which it would have too many. No more rows
-- than the first number: just so many where a key has too many cells for a row, since then no row
-- starts behind it
abbrev pub starts_from : ℕ → ℕ → List Cell → ℕ → List ℕ
starts_from zero limit kept start = []
starts_from (suc n) limit kept start = start ∷ behind (slice_get kept (start + limit)) (λ next. starts_from n limit kept next)
  where
    behind : Option Cell → (ℕ → List ℕ) → List ℕ
    behind (Some c) rows = rows (index_of_key kept c.key)
    behind None rows = []

-- where the rows start where each is filled up to the limit before the next one starts
unfoldable pub starts_at : ℕ → List Cell → List ℕ
starts_at limit kept = starts_from (length kept + 1) limit kept 0

-- the first limit from this one on with which there are no more than so many rows; of so many
-- limits, and else the one behind them
abbrev pub limit_from : ℕ → ℕ → List Cell → ℕ → ℕ
limit_from zero rows kept limit = limit
limit_from (suc n) rows kept limit = if nat_le (length (starts_at limit kept)) rows then limit else limit_from n rows kept (limit + 1)

-- the least limit with which there are no more rows than with `built`
unfoldable pub limit_of : ℕ → List Cell → ℕ
limit_of built kept = limit_from built (length (starts_at built kept)) kept 0

-- the even cut of kept cells
unfoldable pub starts_of : ℕ → List Cell → List ℕ
starts_of built kept = starts_at (limit_of built kept) kept
