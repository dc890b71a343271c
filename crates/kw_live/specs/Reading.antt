-- What a reader knows once it has read a row.
use Rattle.std.specs.Prelude.{◌≡◌, ◌⊎◌, ℕ, ◌+◌, ◌*◌, ◌-◌, ◌<◌, ◌≤◌, ◌++◌, Bool, true, false, Option, Some, List, All, length}
use Rattle.kw_cells.specs.Cells.{shown_at, pairs_of}
use Rattle.kw_model.specs.declared.call.Call.{Call}
use Rattle.kw_model.specs.declared.call.Call.TheVariants.{Get, Scan}
use Rattle.kw_world.specs.declared.answer.Answer.TheVariants.{Pairs}
use Rattle.kw_world.specs.Answers.{answer_found}
use Rattle.kw_world.specs.declared.activity.Activity.{Activity}
use Rattle.kw_world.specs.declared.activity.look.Look.TheVariants as Look
use Rattle.kw_world.specs.declared.activity.read.Read.TheVariants as Read
use Rattle.kw_world.specs.declared.activity.walk.Walk.TheVariants as Walk
use Rattle.kw_world.specs.declared.limits.TheConstants.{NEWEST}
use Rattle.kw_world.specs.declared.local.Local.{Local}
use Rattle.kw_world.specs.Sizes.{Sizes, product}
use Rattle.kw_table.specs.declared.pass.Pass.{Pass}
use Rattle.kw_table.specs.Passes.{Makes}
use Rattle.kw_world.specs.declared.event.Choice.TheVariants.{Go}
use Rattle.kw_words.specs.declared.pend.Pend.{Pend}
use Rattle.kw_words.specs.declared.pend.Pend.TheVariants.{Idle}
use Rattle.kw_table.specs.declared.shared.Shared.{Shared}
use Rattle.kw_follow.specs.Calling.{KeepsCalls}
use Rattle.kw_follow.specs.Following.{Follows, GoesTo, held}
use Rattle.kw_follow.specs.Within.{looking}

-- the reader looks at the entries of the row
abbrev pub is_looking : Activity → Bool
is_looking (Activity.Look _) = true
is_looking _ = false

-- the reader goes along the row's list, or reads what it remembers and did not reach there
abbrev pub is_reading_list : Activity → Bool
is_reading_list (Activity.Read _) = true
is_reading_list _ = false

-- the reader goes along the row's list
abbrev pub is_listing : Activity → Bool
is_listing (Activity.Read Read.Start) = true
is_listing (Activity.Read Read.Link) = true
is_listing (Activity.Read Read.Key) = true
is_listing (Activity.Read Read.Version) = true
is_listing (Activity.Read Read.Value) = true
is_listing _ = false

-- the reader is at a cell that it remembers of the entries and did not reach in the list
abbrev pub is_at_remembered : Activity → Bool
is_at_remembered (Activity.Read Read.LeftOverKey) = true
is_at_remembered (Activity.Read Read.LeftOverValue) = true
is_at_remembered _ = false

-- nothing is announced in the entry
abbrev pub is_idle : Option Pend → Bool
is_idle (Some Idle) = true
is_idle _ = false

-- while a reader looks at entries, what the call wants is as it was
pub record LooksOn (l m : Local) : Type 0 where
  pub call : m.call ≡ l.call
  pub want : m.want ≡ l.want
  pub version : m.version ≡ l.version
  pub stage : is_looking m.activity ≡ false → m.activity ≡ Activity.Read Read.Start

-- how many events of looking a reader has yet to make at most, by the entry that it is at
abbrev pub look_ahead : Sizes → Activity → ℕ → ℕ
look_ahead z (Activity.Look (Look.Entry i)) looked = 4 * (z.seats - i) + 4
look_ahead z (Activity.Look Look.Key) looked = 4 * (z.seats - looked) + 3
look_ahead z (Activity.Look Look.Clock) looked = 4 * (z.seats - looked) + 2
look_ahead z (Activity.Look Look.Help) looked = 4 * (z.seats - looked) + 1
look_ahead z _ looked = 0

-- the same, of what code knows
abbrev pub looks_ahead : Local → ℕ
looks_ahead l = look_ahead product l.activity l.looked

-- the reader went on with its looks by one event or more, and has fewer to make
pub record LooksFurther (s : Shared) (p : Pass) (l : Local) (q : Pass) (m : Local) : Type 0 where
  pub goes : GoesTo s p q
  pub follows : Follows s q m
  pub calls : KeepsCalls p q
  pub held : held q ≡ held p
  pub looks : LooksOn l m
  pub fewer : looks_ahead m < looks_ahead l

-- what stays through all looks at the entries of a row
pub record IsLookingOn (s : Shared) (o : Pass) (l : Local) (p : Pass) (m : Local) : Type 0 where
  pub goes : GoesTo s o p
  pub follows : Follows s p m
  pub calls : KeepsCalls o p
  pub held : held p ≡ held o
  pub looks : LooksOn l m
  pub fewer : looks_ahead m ≤ looks_ahead l

-- a reader with this local, which stays as it is, has looked at the entries from the first of these
-- seats on to that of the other; nothing was announced in those before that one, of which it was
-- told this
pub record LooksUpTo (s : Shared) (p : Pass) (l : Local) (from entry told : ℕ) (q : Pass) : Type 0 where
  pub before : Pass
  pub on : IsLookingOn s p (looking from l) before (looking entry l)
  pub makes : Makes s before Go told q

-- a scan that wanted this key goes on with the next row, whose least key it then wants: it is above
-- the one that it wanted and not above the range, and the keys of all pairs of this row are below
-- it
pub record GoesOn (want upto version : ℕ) (m : Local) : Type 0 where
  pub activity : m.activity ≡ Activity.Walk Walk.Next
  pub rises : want < m.want
  pub within : m.want ≤ upto
  pub read : m.has_read ≡ true
  pub above : All (λ pair. pair.0 < m.want) (pairs_of m.gathered want upto version)

-- what a reader of this row gave: a get its answer, and a scan, which wanted this key at this
-- version, the pairs that the gathered cells show
abbrev pub HasReadAs : Option Call → ℕ → ℕ → Local → List (ℕ × ℕ) → List (ℕ × ℕ) → Type 0
HasReadAs (Some (Get key)) want version m before after = (m.activity ≡ Activity.Leave (answer_found (shown_at m.gathered NEWEST key))) × (after ≡ before)
HasReadAs (Some (Scan from upto)) want version m before after = (GoesOn want upto version m ⊎ (m.activity ≡ Activity.EndScan Pairs)) × (after ≡ before ++ pairs_of m.gathered want upto version)
HasReadAs _ want version m before after = Unit {0}

-- the same, of the call of the local with which the reader came to the row
abbrev pub HasRead : Local → Local → List (ℕ × ℕ) → List (ℕ × ℕ) → Type 0
HasRead l m before after = HasReadAs l.call l.want l.version m before after

-- how many events of reading a reader has yet to make at most, with so many cells reached on its
-- walk and so many remembered; the one by which it may begin behind a cell is not counted
abbrev pub read_ahead : Sizes → Activity → ℕ → ℕ → ℕ
read_ahead z (Activity.Read Read.Start) walked marks = 4 * (z.cells - walked) + 2 * marks + 1
read_ahead z (Activity.Read Read.Link) walked marks = 4 * (z.cells - walked) + 2 * marks + 1
read_ahead z (Activity.Read Read.Key) walked marks = 4 * (z.cells - walked) + 2 * marks + 4
read_ahead z (Activity.Read Read.Version) walked marks = 4 * (z.cells - walked) + 2 * marks + 3
read_ahead z (Activity.Read Read.Value) walked marks = 4 * (z.cells - walked) + 2 * marks + 2
read_ahead z (Activity.Read Read.LeftOverKey) walked marks = 2 * marks + 2
read_ahead z (Activity.Read Read.LeftOverValue) walked marks = 2 * marks + 1
read_ahead z _ walked marks = 0

-- the same, of what code knows
abbrev pub reads_ahead : Local → ℕ
reads_ahead l = read_ahead product l.activity l.walked (length l.remembered)

-- the reader went on along the list of its row by one event or more: it still reads the row, for
-- the same wanted key and with no pairs more, or it has read it to its end; and it has fewer events
-- to make
pub record ReadsOn (s : Shared) (p : Pass) (l : Local) (q : Pass) (m : Local) : Type 0 where
  pub goes : GoesTo s p q
  pub follows : Follows s q m
  pub calls : KeepsCalls p q
  pub call : m.call ≡ l.call
  pub version : m.version ≡ l.version
  pub on : is_reading_list m.activity ≡ true → (m.want ≡ l.want) × (held q ≡ held p)
  pub ends : is_reading_list m.activity ≡ false → HasRead l m (held p) (held q)
  pub fewer : reads_ahead m < reads_ahead l
