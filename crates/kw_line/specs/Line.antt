-- The lines of an input: which calls they make, and how each is written.
use Rattle.std.specs.Prelude.{ℕ, ◌≡◌, ◌+◌, ◌<◌, ◌^◌, List, [], ◌∷◌, ◌++◌, map, length, codes, decimal, Result, Ok, Err}
use Rattle.std.specs.List.{join_with_byte, AllByRecursion}
use Rattle.kw_model.specs.declared.call.Call.{Call}
use Rattle.kw_model.specs.declared.call.Call.TheVariants as call
use Rattle.kw_line.specs.declared.item.Form.{Form}
use Rattle.kw_line.specs.declared.item.Form.TheVariants as form
use Rattle.kw_line.specs.declared.item.Item.{Item}
use Rattle.kw_line.specs.declared.item.Item.TheVariants as item
use Rattle.kw_line.specs.declared.error.LineError.{LineError}
use Rattle.kw_line.specs.declared.error.LineError.TheVariants as error
use Rattle.kw_line.specs.declared.words.TheConstants.{SPACE}
use Rattle.kw_line.specs.Cut.{lines}

-- the word that a line of this form begins with
abbrev pub form_word : Form → List ℕ
form_word form.Put = codes "put"
form_word form.Del = codes "del"
form_word form.Get = codes "get"
form_word form.Sum = codes "sum"
form_word form.Count = codes "count"
form_word form.Least = codes "least"
form_word form.Greatest = codes "greatest"
form_word form.List = codes "list"

-- the numbers of a call, in the order in which they are written
abbrev pub arguments : Call → List ℕ
arguments (call.Put k v) = k ∷ v ∷ []
arguments (call.Del k) = k ∷ []
arguments (call.Get k) = k ∷ []
arguments (call.Scan a b) = a ∷ b ∷ []
arguments call.Pin = []
arguments (call.ScanAt a b) = a ∷ b ∷ []
arguments call.Unpin = []

-- a line of this form makes such a call
abbrev pub IsCallOf : Form → Call → Type 0
IsCallOf form.Put (call.Put k v) = Unit {0}
IsCallOf form.Del (call.Del k) = Unit {0}
IsCallOf form.Get (call.Get k) = Unit {0}
IsCallOf form.Sum (call.Scan a b) = Unit {0}
IsCallOf form.Count (call.Scan a b) = Unit {0}
IsCallOf form.Least (call.Scan a b) = Unit {0}
IsCallOf form.Greatest (call.Scan a b) = Unit {0}
IsCallOf form.List (call.Scan a b) = Unit {0}
IsCallOf _ _ = ⊥

-- its keys have 32 bits, and its value has 63; no text makes a call of pins
abbrev pub FitsCall : Call → Type 0
FitsCall (call.Put k v) = (k < 2 ^ 32) × (v < 2 ^ 63)
FitsCall (call.Del k) = k < 2 ^ 32
FitsCall (call.Get k) = k < 2 ^ 32
FitsCall (call.Scan a b) = (a < 2 ^ 32) × (b < 2 ^ 32)
FitsCall call.Pin = ⊥
FitsCall (call.ScanAt a b) = ⊥
FitsCall call.Unpin = ⊥

-- what a line may be: a call of its form whose numbers are in range, or a wait
abbrev pub IsItem : Item → Type 0
IsItem (item.Call c f) = IsCallOf f c × FitsCall c
IsItem item.Wait = Unit {0}

-- the words of an item: that of its form, and the numbers of its call without a sign or a leading
-- zero
abbrev pub item_words : Item → List (List ℕ)
item_words (item.Call c f) = form_word f ∷ map decimal (arguments c)
item_words item.Wait = codes "wait" ∷ []

-- a call as a line has it: a word and the numbers of the call, separated by one space each
abbrev pub call_text : List ℕ → Call → List ℕ
call_text word c = join_with_byte SPACE (word ∷ map decimal (arguments c))

-- the text of an item: its words, separated by one space each
unfoldable pub item_text : Item → List ℕ
item_text i = join_with_byte SPACE (item_words i)

-- the line is the text of an item
abbrev pub IsText : List ℕ → Type 0
IsText line = (i : Item) × IsItem i × (line ≡ item_text i)

-- the lines of these bytes are the texts of these items, one for one
pub record AreLinesOf (bytes : List ℕ) (items : List Item) : Type 0 where
  pub each : AllByRecursion IsItem items
  pub texts : lines bytes ≡ map item_text items

-- this line of the bytes, counted from 1, is the text of no item, and each line before it is the
-- text of one
pub record IsFirstBadLine (bytes : List ℕ) (number : ℕ) : Type 0 where
  pub before : List Item
  pub line : List ℕ
  pub after : List (List ℕ)
  pub number_is : number ≡ length before + 1
  pub cut : lines bytes ≡ map item_text before ++ line ∷ after
  pub each : AllByRecursion IsItem before
  pub bad : IsText line → ⊥

-- a line that is named is one of which this holds
abbrev pub IfBad : {X : Type 0} → (ℕ → Type 0) → Result X LineError → Type 0
IfBad Named (Ok x) = Unit {0}
IfBad Named (Err (error.Bad line)) = Named line
IfBad Named (Err error.Memory) = Unit {0}

-- the calls of an input, in line order
abbrev pub calls : List Item → List Call
calls [] = []
calls (item.Call c f ∷ items) = c ∷ calls items
calls (item.Wait ∷ items) = calls items

-- the forms of the lines that make them
abbrev pub forms : List Item → List Form
forms [] = []
forms (item.Call c f ∷ items) = f ∷ forms items
forms (item.Wait ∷ items) = forms items
