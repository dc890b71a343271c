-- How code follows a pass: it holds what the pass's seat knows, but for the number of its calls and
-- the pairs of a scan.
--
-- A pass holds no count of its calls, and a map has no memory for the pairs of a scan: they go to
-- whoever asked for them. So the code has a local that is like that of the seat in all else, and
-- `Follows` says so: `knows` that the two are alike, and `carries` what stands in place of the
-- rest. The pairs that the seat has are `held`.
use Rattle.std.specs.Prelude.{◌≡◌, ℕ, List, []}
use mathlib.Core.List.{IsPrefix}
use Rattle.kw_world.specs.declared.activity.Activity.{Activity}
use Rattle.kw_world.specs.declared.local.Local.{Local}
use Rattle.kw_world.specs.Transition.{Outcome}
use Rattle.kw_table.specs.declared.pass.Pass.{Pass}
use Rattle.kw_table.specs.declared.shared.Shared.{Shared}
use Rattle.kw_table.specs.Passes.{view, IsPassOf}
use Rattle.kw_table.specs.Views.{local_in}

-- what code knows of what a seat knows
abbrev pub known : Local → Local
known l = record l { number = 0; pairs = [] }

-- what code that follows a seat has, where the seat knows this: it has no pairs, and counts the
-- call that it makes as its first one
abbrev pub carried : Local → Local
carried l = record l { number = 1; pairs = [] }

-- code goes from one local to another as each seat does by this that it may follow there, however
-- many calls that seat has begun and whichever pairs it has: it carries what the seat then knows,
-- and what it has in place of those two stays
pub record CarriesOn (next : Local → Outcome) (l m : Local) : Type 0 where
  pub carries : (begun : ℕ) (added : List (ℕ × ℕ)) → carried m ≡ carried (next (record l { number = begun; pairs = added })).local
  pub number : m.number ≡ l.number
  pub pairs : m.pairs ≡ l.pairs

-- the pairs that the pass's seat has added
abbrev pub held : Pass → List (ℕ × ℕ)
held p = (local_in (view p)).pairs

-- what the pass's seat does next
abbrev pub activity_in : Pass → Activity
activity_in p = (local_in (view p)).activity

-- the pass is one of the table, and the local is what its seat knows, as far as code knows it
pub record Follows (s : Shared) (p : Pass) (l : Local) : Type 0 where
  pub of_table : IsPassOf s p
  pub knows : known (local_in (view p)) ≡ known l
  pub carries : l ≡ carried (local_in (view p))

-- the pass went on: its number and the opening are as before, and it has seen what it had seen and
-- more
pub record GoesTo (s : Shared) (p q : Pass) : Type 0 where
  pub of_table : IsPassOf s q
  pub number : (view q).number ≡ (view p).number
  pub opening : (view q).opening ≡ (view p).opening
  pub seen : IsPrefix (view p).seen (view q).seen
