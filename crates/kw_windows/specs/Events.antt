-- What one event may do: what a seat finds, which is the premise, and what is counted then. Where a
-- window is not over rows keep their places, and more of them may lead.
use Rattle.std.specs.Prelude.{ℕ, ◌≡◌, ◌≢◌, ◌⊎◌, ◌+◌, ◌<◌, ◌≤◌, true, false}
use Rattle.kw_windows.specs.Builders.{Stage, Builder, Elsewhere, Refused, Asking, Building, with_row, with_build, at_stage, anew}
use Rattle.kw_windows.specs.Windows.{Windows, Limits, taken}

-- no row is linked or unlinked, no window is over; rows that lead are live, and lead on
pub record Within (w w' : Windows) : Type 0 where
  pub live : (x : ℕ) → w'.live x ≡ w.live x
  pub linked : (x : ℕ) → w.leads x ≡ true → w.live x ≡ true
  pub leads : (x : ℕ) → w.leads x ≡ true → w'.leads x ≡ true
  pub least : (x : ℕ) → w.live x ≡ true → w'.least x ≡ w.least x
  pub wins : w'.wins ≡ w.wins
  pub before : w'.before ≡ w.before

-- no row comes into use, or none but y
abbrev pub UsesNone : Windows → Windows → Type 0
UsesNone w w' = (x : ℕ) → w'.used x ≡ true → w.used x ≡ true

abbrev pub UsesOne : Windows → Windows → ℕ → Type 0
UsesOne w w' y = (x : ℕ) → w'.used x ≡ true → (x ≡ y) ⊎ (w.used x ≡ true)

-- nothing is counted of any seat
pub record Rests (w w' : Windows) : Type 0 where
  pub within : Within w w'
  pub seats : (u : ℕ) → w'.seats u ≡ w.seats u
  pub used : UsesNone w w'

-- this is counted of seat t, and nothing of the others
pub record Counts (w w' : Windows) (t : ℕ) (c : Builder) : Type 0 where
  pub within : Within w w'
  pub own : w'.seats t ≡ c
  pub others : (u : ℕ) → u ≢ t → w'.seats u ≡ w.seats u

-- it goes to another stage, and takes no row
pub record Goes (w w' : Windows) (t : ℕ) (a : Stage) : Type 0 where
  pub counts : Counts w w' t (at_stage a (w.seats t))
  pub used : UsesNone w w'

-- its build takes the row y
pub record Takes (z : Limits) (w w' : Windows) (t y : ℕ) (c : Builder) : Type 0 where
  pub counts : Counts w w' t c
  pub seat : t < z.seats
  pub room : (w.seats t).held < z.build
  pub used : UsesOne w w' y

-- a build for the row r may take its first row in a window: a live row leads by then, and one that
-- is not was replaced
pub record MayBuild (z : Limits) (w : Windows) (r : ℕ) : Type 0 where
  pub below : r < z.rows
  pub leads : w.live r ≡ true → w.leads r ≡ true
  pub replaced : w.live r ≡ false → 1 ≤ w.wins

-- a seat may give its full row up: it is dead, or its build has taken no row in this window
abbrev pub MayLeave : Windows → Stage → Type 0
MayLeave w Elsewhere = ⊥
MayLeave w Refused = ⊥
MayLeave w (Asking r) = w.live r ≡ false
MayLeave w (Building r false) = Unit {0}
MayLeave w (Building r true) = w.live r ≡ false

-- p is a live row left of r
pub record IsLeft (w : Windows) (r p : ℕ) : Type 0 where
  pub live : w.live p ≡ true
  pub less : w.least p < w.least r

-- seat t replaces its row, and a window is over. Nothing is said of the rows of the next one
pub record Wins (z : Limits) (w w' : Windows) (t : ℕ) : Type 0 where
  pub own : w'.seats t ≡ at_stage Elsewhere (anew (w.seats t))
  pub others : (u : ℕ) → u ≢ t → w'.seats u ≡ anew (w.seats u)
  pub used : UsesNone w w'
  pub wins : w'.wins ≡ w.wins + 1
  pub before : w'.before ≡ taken z w

-- one event
pub data Event (z : Limits) (w w' : Windows) : Type 0 where
  rests : Rests w w' → Event z w w'
  -- a seat comes to a full row: to a live one, if it has built for a dead one in this window
  comes : (t r : ℕ) → (w.seats t).stage ≡ Elsewhere → (1 ≤ (w.seats t).deads → w.live r ≡ true) → Goes w w' t (Asking r) → Event z w w'
  -- its build takes a first row; one more in this window; or a first one in this window
  begins : (t r y : ℕ) → (w.seats t).stage ≡ Asking r → MayBuild z w r → Takes z w w' t y (with_build (w.live r) (with_row r (w.seats t))) → Event z w w'
  takes : (t r y : ℕ) → (w.seats t).stage ≡ Building r true → Takes z w w' t y (with_row r (w.seats t)) → Event z w w'
  resumes : (t r y : ℕ) → (w.seats t).stage ≡ Building r false → MayBuild z w r → Takes z w w' t y (with_build (w.live r) (with_row r (w.seats t))) → Event z w w'
  -- it goes on to the row before, which is replaced first: from a row for which it has taken none
  -- in this window, or from one for which it has, and then both are live
  turns : (t r p : ℕ) → (w.seats t).stage ≡ Building r false → Goes w w' t (Asking p) → Event z w w'
  moves : (t r p : ℕ) → (w.seats t).stage ≡ Building r true → w.live r ≡ true → IsLeft w r p → Goes w w' t (Asking p) → Event z w w'
  -- it goes on to the row that leads its own, for which it has taken none
  shifts : (t r p : ℕ) → (w.seats t).stage ≡ Asking r → (w.live r ≡ true → IsLeft w r p) → Goes w w' t (Asking p) → Event z w w'
  -- it gives its row up, or is refused
  leaves : (t : ℕ) → MayLeave w (w.seats t).stage → Goes w w' t Elsewhere → Event z w w'
  gives_up : (t : ℕ) → Goes w w' t Refused → Event z w w'
  wins : (t : ℕ) → Wins z w w' t → Event z w w'
