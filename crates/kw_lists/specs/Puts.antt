-- What a put that links its cell in knows on its way, while others link cells in.
--
-- `own` is the place of its cell, `lost` how many exchanges it has lost, `at` the link at which it
-- stands, `held` what this held when it was loaded.
use Rattle.std.specs.Prelude.{ℕ, ◌≡◌, ◌⊎◌, ◌<◌, ◌≤◌, false, Option, Some}
use Rattle.kw_lists.specs.Counts.{count_below}
use Rattle.kw_lists.specs.Rows.{Row, IsBehind, IsOn}
use Rattle.kw_lists.specs.Changes.{IsAhead, SameCell}

-- it is to load a link of the list behind which its cell stands; it has lost no more exchanges than
-- there are listed cells
pub record IsFrom (n : ℕ) (r : Row) (own lost : ℕ) (at : Option ℕ) : Type 0 where
  pub unlisted : r.listed own ≡ false
  pub on : IsOn r at
  pub behind : IsBehind r at own
  pub fewer : lost ≤ count_below n r.listed

-- it has loaded the link, which held none or a listed cell; the link holds the same still, or the
-- put has lost fewer exchanges than there are listed cells
pub record IsAt (n : ℕ) (r : Row) (own lost : ℕ) (at held : Option ℕ) : Type 0 where
  pub from : IsFrom n r own lost at
  pub known : IsOn r held
  pub grown : (r.link at ≡ held) ⊎ (lost < count_below n r.listed)

-- it is to exchange the link: its cell stands before what this held, and its own link holds the
-- same
pub record IsSet (n : ℕ) (r : Row) (own lost : ℕ) (at held : Option ℕ) : Type 0 where
  pub saw : IsAt n r own lost at held
  pub ahead : IsAhead r own held
  pub after : r.link (Some own) ≡ held

-- what an event leaves of the cell that the put is about to link in
pub record LeavesCell (r r' : Row) (own : ℕ) : Type 0 where
  pub unlisted : r'.listed own ≡ false
  pub cell : SameCell r r' own

-- and what an event of another seat leaves: its link too
pub record LeavesOwn (r r' : Row) (own : ℕ) : Type 0 where
  pub cell : LeavesCell r r' own
  pub after : r'.link (Some own) ≡ r.link (Some own)
