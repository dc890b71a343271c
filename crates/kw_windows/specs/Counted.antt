-- What every event keeps of the counts. The builds of one seat in one window are few: at most one
-- was for a dead row, and the others for leaders, each left of the one before. So the rows that it
-- takes are few too.
use Rattle.std.specs.Prelude.{ℕ, ◌≡◌, ◌+◌, ◌*◌, ◌≤◌, ◌&&◌, Bool, true, false, nat_lt, nat_le}
use Rattle.kw_lists.specs.Counts.{count_below}
use Rattle.kw_windows.specs.Builders.{Stage, Builder, Elsewhere, Refused, Asking, Building}
use Rattle.kw_windows.specs.Windows.{Windows, Limits, taken}

-- the row x leads, and stands right of r, or not left of it
abbrev pub is_right : Windows → ℕ → ℕ → Bool
is_right w r x = w.leads x && nat_lt (w.least r) (w.least x)

abbrev pub is_from : Windows → ℕ → ℕ → Bool
is_from w r x = w.leads x && nat_le (w.least r) (w.least x)

-- no build is counted of the seat
abbrev pub HasNone : Builder → Type 0
HasNone c = (c.lives ≡ 0) × (c.deads ≡ 0)

-- none for a live row is, and at most one for a dead row
abbrev pub HasDead : Builder → Type 0
HasDead c = (c.lives ≡ 0) × (c.deads ≤ 1)

-- those for live rows are no more than these rows, and at most one is for a dead row
abbrev pub HasFew : ℕ → (ℕ → Bool) → Builder → Type 0
HasFew rows f c = (c.lives ≤ count_below rows f) × (c.deads ≤ 1)

-- the builds that are counted of the seat, by its stage. Whoever has built for a dead row in this
-- window builds for live rows ever after, and goes left from each
abbrev pub HasBuilt : ℕ → Windows → Stage → Builder → Type 0
HasBuilt rows w Elsewhere c = HasDead c
HasBuilt rows w Refused c = HasFew rows w.leads c
HasBuilt rows w (Asking r) c = (w.live r ≡ true → HasFew rows (is_right w r) c) × (w.live r ≡ false → HasNone c)
HasBuilt rows w (Building r false) c = HasNone c
HasBuilt rows w (Building r true) c = (w.live r ≡ true → HasFew rows (is_from w r) c) × (w.live r ≡ false → HasDead c)

-- its builds pay for the rows that it took, the one at hand also for those that it may still take
abbrev pub HasPaid : ℕ → Stage → Builder → Type 0
HasPaid build Elsewhere c = c.taken ≤ build * (c.lives + c.deads)
HasPaid build Refused c = c.taken ≤ build * (c.lives + c.deads)
HasPaid build (Asking r) c = (c.held ≡ 0) × (c.taken ≤ build * (c.lives + c.deads))
HasPaid build (Building r false) c = (c.held ≤ build) × (c.taken ≤ build * (c.lives + c.deads))
HasPaid build (Building r true) c = (c.held ≤ build) × (c.taken + build ≤ build * (c.lives + c.deads) + c.held)

-- what is counted of one seat
pub record IsCounted (z : Limits) (w : Windows) (c : Builder) : Type 0 where
  pub builds : HasBuilt z.rows w c.stage c
  pub pays : HasPaid z.build c.stage c

-- no more rows lead than may
abbrev pub AreFew : Limits → Windows → Type 0
AreFew z w = count_below z.rows w.leads ≤ z.leaders

-- the most rows that one seat takes in one window, and that all take
abbrev pub most_of_seat : Limits → ℕ
most_of_seat z = z.build * (z.leaders + 1)

abbrev pub most_of_window : Limits → ℕ
most_of_window z = z.seats * most_of_seat z

-- all that is counted: before the first exchange no row is dead, and each row in use but the first
-- was taken
pub record AreCounted (z : Limits) (w : Windows) : Type 0 where
  pub seats : (t : ℕ) → IsCounted z w (w.seats t)
  pub first : w.wins ≡ 0 → (t : ℕ) → (w.seats t).deads ≡ 0
  pub before : w.before ≤ w.wins * most_of_window z
  pub used : count_below z.rows w.used ≤ taken z w + 1
