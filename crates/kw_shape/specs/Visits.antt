-- What holds of the visits of seats and of the numbers of retired rows: the words and the ledger
-- agree.
--
-- A seat is in a visit from the event that stores its epoch to the one that clears it. A number is
-- drawn at the epoch, which rises with it: so a number below the epoch of a visit that is on was
-- drawn before the visit began.
use Rattle.std.specs.Prelude.{ℕ, ◌≡◌, ◌<◌, ◌≤◌, Some, None}
use Rattle.kw_words.specs.declared.layout.Name.TheVariants as name
use Rattle.kw_words.specs.Plain.{pass_word}
use Rattle.kw_rows.specs.Ledger.{Ledger}
use Rattle.kw_world.specs.declared.activity.Activity.{Activity}
use Rattle.kw_world.specs.declared.local.Local.{Local}
use Rattle.kw_core.specs.Stages.{IsBusy, IsVisiting}
use Rattle.kw_core.specs.Words.{Words}

-- the seat is in a visit, of the epoch that it loaded
pub record IsInVisit (v : Words) (g : Ledger) (t : ℕ) (l : Local) : Type 0 where
  pub since : ℕ
  pub visits : g.visits t ≡ Some since
  pub word : v (name.Pass t) ≡ pass_word (Some l.epoch)

-- it is in none
pub record IsInNone (v : Words) (g : Ledger) (t : ℕ) : Type 0 where
  pub visits : g.visits t ≡ None
  pub word : v (name.Pass t) ≡ pass_word None

-- the visit of a seat: it is in one as long as its call says so, and the epoch that it loaded is
-- not above the present one
pub record Visits (v : Words) (g : Ledger) (t : ℕ) (a : Activity) (l : Local) : Type 0 where
  pub in_visit : IsVisiting a → IsInVisit v g t l
  pub in_none : (IsVisiting a → ⊥) → IsInNone v g t
  pub epoch : IsBusy a → (1 ≤ l.epoch) × (l.epoch ≤ v name.Epoch)
  -- a number below the epoch of its visit was drawn before the visit began
  pub before : (m at since : ℕ) → m < l.epoch → g.numbered m ≡ Some at → g.visits t ≡ Some since → at < since

-- numbers are drawn in order, below the present epoch
pub record Numbers (v : Words) (g : Ledger) : Type 0 where
  pub below : (m at : ℕ) → g.numbered m ≡ Some at → m < v name.Epoch
  pub rises : (m n x y : ℕ) → g.numbered m ≡ Some x → g.numbered n ≡ Some y → m < n → x < y
