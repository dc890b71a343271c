-- How long a seat goes on while it alone makes events, whatever the other seats know and left half
-- done.
use Rattle.std.specs.Prelude.{ℕ, ◌≡◌, ◌≤◌, ◌++◌, List, length}
use Rattle.kw_world.specs.declared.event.Event.{Event}
use Rattle.kw_world.specs.declared.opening.Opening.{Opening}
use Rattle.kw_world.specs.Sizes.{product}
use Rattle.kw_alone.specs.Alone.{EndsAt, IsReadBy, MarksAt}
use Rattle.kw_alone.specs.Falls.{most_to_end, most_to_mark}
use Rattle.kw_alone.specs.Marks.{AreOf}

-- Wherever so many events stand together that are all of one seat, one of them ends its call, has
-- replaced the seat's full row, or goes on to the row before that; and one ends its call if that is
-- a get or a scan. Among more of them one ends its call, whatever that is.
pub record IsBounded (o : Opening) (events : List Event) : Type 0 where
  pub marks : (s : ℕ) (xs ys zs : List Event) → events ≡ (xs ++ ys) ++ zs → AreOf s ys → most_to_mark o.rows ≤ length ys → (i : ℕ) × MarksAt product o s xs ys i
  pub reads : (s : ℕ) (xs ys zs : List Event) → events ≡ (xs ++ ys) ++ zs → AreOf s ys → IsReadBy product o s xs → most_to_mark o.rows ≤ length ys → (i : ℕ) × EndsAt product o s xs ys i
  pub ends : (s : ℕ) (xs ys zs : List Event) → events ≡ (xs ++ ys) ++ zs → AreOf s ys → most_to_end o.rows ≤ length ys → (i : ℕ) × EndsAt product o s xs ys i
