-- The lines that the generator makes.
use Rattle.std.specs.Prelude.{ℕ, zero, suc, ◌+◌, ◌-◌, ◌*◌, ◌/◌, ◌%◌, ◌^◌, ◌==◌, nat_lt, if◌then◌else◌, List, [], ◌∷◌, ◌++◌}
use Rattle.kw_model.specs.declared.call.Call.TheVariants as call
use Rattle.kw_line.specs.declared.item.Form.{Form}
use Rattle.kw_line.specs.declared.item.Form.TheVariants as form
use Rattle.kw_line.specs.declared.item.Item.{Item}
use Rattle.kw_line.specs.declared.item.Item.TheVariants as item
use Rattle.kw_app.specs.declared.generate.TheConstants.{MULTIPLIER, INCREMENT, MODULUS, DRAW_UNIT, KEYS, KINDS, DELETE_KIND}

-- what a draw makes of the generator's number
abbrev pub next : ℕ → ℕ
next x = (MULTIPLIER * x + INCREMENT) % MODULUS

-- what a draw gives that left this number
abbrev pub drawn : ℕ → ℕ
drawn x = x / DRAW_UNIT

-- the line of three draws: of eight kinds five are puts, one is a del and two are gets
abbrev pub line_of : ℕ → ℕ → ℕ → Item
line_of a b c = if nat_lt (a % KINDS) DELETE_KIND then item.Call (call.Put (b % KEYS) c) form.Put
    else (if (a % KINDS) == DELETE_KIND then item.Call (call.Del (b % KEYS)) form.Del
    else item.Call (call.Get (b % KEYS)) form.Get)

-- the line that the generator makes from this number on
abbrev pub line_after : ℕ → Item
line_after x = line_of (drawn (next x)) (drawn (next (next x))) (drawn (next (next (next x))))

-- this many lines from this number on, each of three draws
abbrev pub lines_after : ℕ → ℕ → List Item
lines_after x zero = []
lines_after x (suc n) = line_after x ∷ lines_after (next (next (next x))) n

-- a line that asks for all keys
abbrev pub of_all : Form → Item
of_all f = item.Call (call.Scan 0 (2 ^ 32 - 1)) f

-- the lines after them
abbrev pub last_lines : List Item
last_lines = item.Wait ∷ of_all form.Count ∷ of_all form.Sum ∷ of_all form.Least ∷ of_all form.Greatest ∷ []

-- the lines that are made from this number on: this many, and the last ones
abbrev pub generated : ℕ → ℕ → List Item
generated start count = lines_after (start % MODULUS) count ++ last_lines
