-- Pieces of an input, and what their readers give.
use Rattle.std.specs.Prelude.{◌≡◌, ℕ, List, [], ◌∷◌, Result, IfOk, Vec}
use Rattle.std.specs.List.{flat_map}
use Rattle.std.specs.declared.alloc.Global.{Global}
use Rattle.kw_line.specs.declared.item.Item.{Item}
use Rattle.kw_line.specs.declared.error.LineError.{LineError}
use Rattle.kw_line.specs.Cut.{lines}
use Rattle.kw_line.specs.Line.{AreLinesOf, IsFirstBadLine, IfBad}

-- what a reader gives for a piece: the items of its lines, or its first bad line, or the want of
-- memory
pub record IsRead (piece : List ℕ) (part : Result (Vec Item Global) LineError) : Type 0 where
  pub items : IfOk part (λ items. AreLinesOf piece items.items)
  pub bad : IfBad (IsFirstBadLine piece) part

-- what the readers give for these pieces, one for each
abbrev pub AreRead : List (List ℕ) → List (Result (Vec Item Global) LineError) → Type 0
AreRead [] [] = Unit {0}
AreRead (piece ∷ pieces) (part ∷ parts) = IsRead piece part × AreRead pieces parts
AreRead _ _ = ⊥

-- what the readers give for pieces whose lines, one piece after the other, are those of these bytes
pub record AreReadOf (bytes : List ℕ) (parts : List (Result (Vec Item Global) LineError)) : Type 0 where
  pub pieces : List (List ℕ)
  pub cut : lines bytes ≡ flat_map lines pieces
  pub each : AreRead pieces parts
