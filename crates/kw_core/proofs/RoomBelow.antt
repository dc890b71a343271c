-- A row that has room gives a cell of the table.
use Rattle.std.proofs.Common.{◌≡◌, ◌<◌, Bool, true, false, nat_lt, if◌then◌else◌, Option, Some, None}
use Rattle.kw_words.specs.declared.count.Count.{Count as Counted}
use Rattle.std.proofs.lemmas.Bool.{ltb-true}
use Rattle.kw_world.specs.PutTransitions.{has_room, given_of}
use Rattle.kw_world.specs.Sizes.{Sizes}

-- a row that has room has given fewer cells than it has
pub room_below : (z : Sizes) (c : Option Counted) → has_room z c ≡ true → given_of c < z.cells
room_below z (Some c) h = saw c.frozen h
  where
    saw : (b : Bool) → (if b then false else nat_lt c.given z.cells) ≡ true → c.given < z.cells
    saw true x = let y : false ≡ true = x in absurd (cc)
    saw false x = ltb-true c.given z.cells x
room_below z None h = let y : false ≡ true = h in absurd (cc)
