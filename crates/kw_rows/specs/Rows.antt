-- The list of rows, said point by point: no list of all rows is built.
use Rattle.std.specs.Prelude.{ℕ, ◌≡◌, ◌≢◌, ◌⊎◌, ◌<◌, ◌≤◌, Bool, Option, Some, None}
use Rattle.kw_rows.specs.Ledger.{Ledger, IsLive, IsDead, IsHeld}
use Rattle.kw_rows.specs.RowState.{State}

-- what the structure reads of the words
pub record Rows : Type 0 where
  -- the first row
  pub head : Option ℕ
  -- of each row: the next one, whether that link is marked (it changes no more), whether no more
  -- cells are given, its least key, its state
  pub next : ℕ → Option ℕ
  pub marked : ℕ → Bool
  pub frozen : ℕ → Bool
  pub least : ℕ → ℕ
  pub state : ℕ → State

-- the link of the head, or of a row
abbrev pub leads : Rows → Option ℕ → Option ℕ
leads w None = w.head
leads w (Some x) = w.next x

-- the least key of what a link leads to, or none
abbrev pub bound : Rows → Option ℕ → Option ℕ
bound w None = None
bound w (Some y) = Some (w.least y)

-- no key of y is one of x: a row stands after x whose least key is at most that of y
pub record IsBefore (w : Rows) (x y : ℕ) : Type 0 where
  pub next : ℕ
  pub follows : w.next x ≡ Some next
  pub above : w.least next ≤ w.least y

-- the live rows are one list from the head, with rising least keys from 0
pub record Chain (w : Rows) (g : Ledger) : Type 0 where
  pub first : ℕ
  pub leads : w.head ≡ Some first
  pub first_live : IsLive g first
  pub first_least : w.least first ≡ 0
  pub linked : (x y : ℕ) → IsLive g x → w.next x ≡ Some y → IsLive g y
  pub rises : (x y : ℕ) → IsLive g x → w.next x ≡ Some y → w.least x < w.least y
  pub apart : (x y : ℕ) → IsLive g x → IsLive g y → (x ≡ y) ⊎ IsBefore w x y ⊎ IsBefore w y x

-- a row that a seat may name leads to one that it may name
pub record Closed (w : Rows) (g : Ledger) : Type 0 where
  pub linked : (x y : ℕ) → IsHeld g x → w.next x ≡ Some y → IsHeld g y
  pub later : (x y : ℕ) → IsHeld g x → w.next x ≡ Some y → IsDead g y → IsDead g x × ((g.fates x).gone ≤ (g.fates y).gone)
  pub rises : (x y : ℕ) → IsHeld g x → w.next x ≡ Some y → w.least x < w.least y
  pub upper : (x : ℕ) → IsHeld g x → (g.fates x).upper ≡ bound w (w.next x)

-- the key is in the range of the row
pub record HoldsKey (w : Rows) (g : Ledger) (x key : ℕ) : Type 0 where
  pub from : w.least x ≤ key
  pub below : (u : ℕ) → (g.fates x).upper ≡ Some u → key < u

-- it is linked, or was so since it was taken last
abbrev pub WasLinked : Ledger → ℕ → Type 0
WasLinked g x = IsLive g x ⊎ IsDead g x

-- a dead row and another that holds or held a key of it: one of them went before the other was
-- linked
abbrev pub Follows : Rows → Ledger → Type 0
Follows w g = (x y key : ℕ) → IsDead g x → WasLinked g y → HoldsKey w g x key → HoldsKey w g y key → x ≢ y → ((g.fates x).gone < (g.fates y).born) ⊎ IsDead g y × ((g.fates y).gone < (g.fates x).born)
