-- A run of good input whose updates are few has done all: each other status has a cause, and none
-- is there.
use Rattle.std.proofs.Common.{◌≡◌, ℕ, zero, suc, ◌+◌, ◌≤◌, ◌<◌, ◌^◌, List, [], ◌∷◌, ◌++◌, length, map, take, drop, Option, Some, None, inl, inr, refl, sym, ap, ◌∙◌, subst, arith, length-append}
use Rattle.std.specs.Prelude.{◌≢◌, IfSome, replicate}
use Rattle.std.proofs.lemmas.List.{append-nil, take-append-drop}
use Rattle.std.proofs.lemmas.List.Elements.{filter-append}
use Rattle.kw_model.specs.Counts.{CountRose}
use Rattle.kw_model.specs.declared.call.Call.TheVariants as call
use Rattle.kw_line.specs.declared.answer.Answer.{Answer}
use Rattle.kw_line.specs.declared.item.Form.TheVariants as form
use Rattle.kw_line.specs.declared.item.Item.{Item}
use Rattle.kw_line.specs.declared.item.Item.TheVariants as item
use Rattle.kw_line.specs.declared.parse.TheConstants.{MOST_BYTES}
use Rattle.kw_line.specs.Line.{AreLinesOf, item_text}
use Rattle.kw_line.proofs.Texts.{few_items}
use Rattle.kw_judge.specs.declared.verdict.Verdict.{Verdict}
use Rattle.kw_judge.specs.declared.verdict.Verdict.TheVariants as verdict
use Rattle.kw_rollup.specs.declared.item.RollItem.{RollItem}
use Rattle.kw_rollup.specs.declared.item.RollItem.TheVariants as roll
use Rattle.kw_rollup.specs.Lines.{AreRollLines, roll_text}
use Rattle.kw_rollup.proofs.Lines as points
use Rattle.kw_work.specs.LineOrder.{greatest_key}
use Rattle.kw_table.specs.declared.pass.Pass.{Pass}
use Rattle.kw_command.specs.declared.command.Command.{Command}
use Rattle.kw_command.specs.declared.command.Command.TheVariants as command
use Rattle.kw_command.specs.Words.{AreInRange}
use Rattle.kw_app.specs.declared.input.InputError.{InputError}
use Rattle.kw_app.specs.declared.input.InputError.TheVariants as error
use Rattle.kw_app.specs.declared.outcome.Outcome.{Outcome}
use Rattle.kw_app.specs.declared.outcome.Status.{Status}
use Rattle.kw_app.specs.declared.outcome.Status.TheVariants as status
use Rattle.kw_app.specs.declared.printed.Ending.{Ending}
use Rattle.kw_app.specs.declared.printed.Ending.TheVariants as ending
use Rattle.kw_app.specs.Answering.{IsAnswered, some_refused}
use Rattle.kw_app.specs.Asked.{asked_items, from_table, item_of, scan_items, updates_above, waits_before}
use Rattle.kw_app.specs.Completing.{AsksFew, HasDone}
use Rattle.kw_app.specs.Ending.{refusal_ending}
use Rattle.kw_app.specs.Ends.{IsBadInput, Prints, Reads, ReadsInput, Tells, WritesText}
use Rattle.kw_app.specs.Few.{AreFew, IsEnough, update_lines}
use Rattle.kw_app.specs.Generated.{generated}
use Rattle.kw_app.specs.Judging.{verdict_ending}
use Rattle.kw_app.specs.Status.{status_of}
use Rattle.kw_app.specs.Tables.{is_update, updates}
use Rattle.kw_app.proofs.FewUpdates.{complete}
use Rattle.kw_app.proofs.QuietGenerated.{generated_is_few}
use Rattle.kw_app.proofs.Scans.{asked_few}

-- How many updates are asked for lines of `rollup`: theirs.

updates_before : (is : List RollItem) (rest : List Item) → update_lines (map item_of is ++ rest) ≡ length (updates is) + update_lines rest
updates_before [] rest = omega arith
updates_before (roll.Put k v ∷ is) rest = let h = updates_before is rest in omega (arith, h)
updates_before (roll.Del k ∷ is) rest = let h = updates_before is rest in omega (arith, h)
updates_before (roll.Table ∷ is) rest = updates_before is rest

-- a wait and a scan are none
none_waited : (n : ℕ) (xs ys : List Item) → update_lines ((replicate n item.Wait ++ xs) ++ ys) ≡ update_lines (xs ++ ys)
none_waited zero xs ys = refl
none_waited (suc n) xs ys = none_waited n xs ys

none_scanned : (workers n : ℕ) (ys : List Item) → update_lines (scan_items workers n ++ ys) ≡ update_lines ys
none_scanned workers n ys = let h = none_waited (waits_before workers n) (item.Call (call.Scan 0 greatest_key) form.List ∷ item.Wait ∷ []) ys in omega (arith, h)

updates_mapped : (is : List RollItem) → update_lines (map item_of is) ≡ length (updates is)
updates_mapped [] = refl
updates_mapped (roll.Put k v ∷ is) = let h = updates_mapped is in omega (arith, h)
updates_mapped (roll.Del k ∷ is) = let h = updates_mapped is in omega (arith, h)
updates_mapped (roll.Table ∷ is) = updates_mapped is

updates_from : (workers n : ℕ) (is : List RollItem) → update_lines (from_table workers n is) ≡ length (updates is)
updates_from workers n [] = refl
updates_from workers n (roll.Put k v ∷ is) = let h = none_scanned workers (n + 1) (map item_of is) in let m = updates_mapped is in omega (arith, h, m)
updates_from workers n (roll.Del k ∷ is) = let h = none_scanned workers (n + 1) (map item_of is) in let m = updates_mapped is in omega (arith, h, m)
updates_from workers n (roll.Table ∷ is) = none_scanned workers (n + 1) (map item_of is) ∙ updates_mapped is

pub updates_asked_are : (workers : ℕ) (items : List RollItem) → update_lines (asked_items workers items) ≡ length (updates items)
updates_asked_are workers items =
    let q : ℕ = updates_above items in
    let first = updates_before (take q items) (from_table workers q (drop q items)) in
    let below = updates_from workers q (drop q items) in
    let whole : length (updates items) ≡ length (updates (take q items)) + length (updates (drop q items)) =
    ap length (ap updates (sym (take-append-drop q items)) ∙ filter-append is_update (take q items) (drop q items)) ∙ length-append (updates (take q items)) (updates (drop q items)) in
    omega (arith, first, below, whole)

-- What is said of a text of a run whose updates are few.

-- nothing, where no answer is a refusal
nothing_said : (workers rows : ℕ) (items : List Item) (answers : List Answer) (front : Option Pass) (end : Ending) → IsAnswered workers rows items answers front → length items < 2 ^ 32 → AreFew workers rows items
    → end ≡ refusal_ending (some_refused answers) → end ≡ ending.Done
nothing_said workers rows items answers front end are countable few is = is ∙ ap refusal_ending (complete workers rows items answers are.pass are.run countable few)

countable_lines : (bytes : List ℕ) (items : List Item) → length bytes ≤ MOST_BYTES → AreLinesOf bytes items → length items < 2 ^ 32
countable_lines bytes items short lines = let h = few_items bytes items [] (lines.texts ∙ sym (append-nil (map item_text items))) in omega (arith, h, short)

countable_asked : (workers : ℕ) (bytes : List ℕ) (items : List RollItem) → 0 < workers → workers < 2 ^ 31 → length bytes ≤ MOST_BYTES → AreRollLines bytes items → length (asked_items workers items) < 2 ^ 32
countable_asked workers bytes items some most short lines =
    let h = points.few_items bytes items [] (lines.texts ∙ sym (append-nil (map roll_text items))) in
    let k = asked_few workers items some in
    omega (arith, h, k, short)

-- nothing, or that a record is not good
abbrev pub SaysNothing : Command → Ending → Type 0
SaysNothing (command.Replay w r) end = end ≡ ending.Done
SaysNothing (command.Simulate r b) end = end ≡ ending.Done
SaysNothing command.Judge end = end ≢ ending.Refused
SaysNothing (command.Gen s n w r) end = end ≡ ending.Done
SaysNothing (command.Rollup g w r) end = end ≡ ending.Done

never_refused : (v : Verdict) (end : Ending) → end ≡ verdict_ending v → end ≢ ending.Refused
never_refused verdict.Yes end is e = cc
never_refused (verdict.Twice n) end is e = cc
never_refused (verdict.Unknown n) end is e = cc
never_refused (verdict.Missing n) end is e = cc
never_refused (verdict.Late m n) end is e = cc
never_refused (verdict.Wrong n) end is e = cc

says_nothing : (c : Command) (left : Option (List ℕ)) (front : Option Pass) (end : Ending) (Writes : List ℕ → Type 0) → AreInRange c → AsksFew c left → Tells c left front end Writes → SaysNothing c end
says_nothing (command.Replay w r) left front end Writes range few tells =
    let p : Prints (command.Replay w r) front end Writes few.0 = subst (λ l. IfSome l (Prints (command.Replay w r) front end Writes)) few.1.told tells in
    let replayed = p.is_printed in
    nothing_said w r replayed.items replayed.replies.answers front end replayed.replies.answered (countable_lines few.0 replayed.items p.short replayed.lines) (few.2 replayed.items replayed.lines) replayed.replies.ending_is
says_nothing (command.Simulate r b) left front end Writes range few tells =
    let p : Prints (command.Simulate r b) front end Writes few.0 = subst (λ l. IfSome l (Prints (command.Simulate r b) front end Writes)) few.1.told tells in
    p.is_printed.1
says_nothing command.Judge left front end Writes range few tells =
    let p : Prints command.Judge front end Writes few.0 = subst (λ l. IfSome l (Prints command.Judge front end Writes)) few.1.told tells in
    let v = p.is_printed.1.verdict_on in
    never_refused v.told end v.ending_is
says_nothing (command.Gen s n w r) left front end Writes range few tells =
    let summary = tells.is_summary in
    nothing_said w r (generated s n) summary.answers front end summary.answered (generated_is_few s n range.1.1) few summary.ending_is
says_nothing (command.Rollup g w r) left front end Writes range few tells =
    let p : Prints (command.Rollup g w r) front end Writes few.0 = subst (λ l. IfSome l (Prints (command.Rollup g w r) front end Writes)) few.1.told tells in
    let items = p.is_printed.items in
    let lines = p.is_printed.lines in
    let rolled = p.is_printed.rolled in
    nothing_said w r (asked_items w items) rolled.answers front end rolled.answered (countable_asked w few.0 items range.1.0 (omega (arith, range.1.1)) p.short lines)
    (subst (λ m. IsEnough w r m) (sym (updates_asked_are w items)) (few.2 items lines)) rolled.ending_is

-- Which status is left.

-- good input is not told as bad
good_input : (c : Command) (left : Option (List ℕ)) (line : ℕ) → AsksFew c left → (Reads c → IfSome left (IsBadInput c line)) → Reads c → ⊥
good_input (command.Replay w r) left line few bad reads = few.1.good line (subst (λ l. IfSome l (IsBadInput (command.Replay w r) line)) few.1.told (bad reads))
good_input (command.Simulate r b) left line few bad reads = few.1.good line (subst (λ l. IfSome l (IsBadInput (command.Simulate r b) line)) few.1.told (bad reads))
good_input command.Judge left line few bad reads = few.1.good line (subst (λ l. IfSome l (IsBadInput command.Judge line)) few.1.told (bad reads))
good_input (command.Gen s n w r) left line few bad reads = reads
good_input (command.Rollup g w r) left line few bad reads = few.1.good line (subst (λ l. IfSome l (IsBadInput (command.Rollup g w r) line)) few.1.told (bad reads))

all_done : (c : Command) → HasDone c status.Done
all_done (command.Replay w r) = inl refl
all_done (command.Simulate r b) = inl refl
all_done command.Judge = inl refl
all_done (command.Gen s n w r) = inl refl
all_done (command.Rollup g w r) = inl refl

pub memory_wanted : (c : Command) → HasDone c status.OutOfMemory
memory_wanted (command.Replay w r) = inr refl
memory_wanted (command.Simulate r b) = inr refl
memory_wanted command.Judge = inr (inr refl)
memory_wanted (command.Gen s n w r) = inr refl
memory_wanted (command.Rollup g w r) = inr refl

judged : (c : Command) → SaysNothing c ending.NotLegal → HasDone c status.NotLegal
judged (command.Replay w r) says = absurd cc
judged (command.Simulate r b) says = absurd cc
judged command.Judge says = inr (inl refl)
judged (command.Gen s n w r) says = absurd cc
judged (command.Rollup g w r) says = absurd cc

none_refused : (c : Command) → SaysNothing c ending.Refused → ⊥
none_refused (command.Replay w r) says = cc
none_refused (command.Simulate r b) says = cc
none_refused command.Judge says = says refl
none_refused (command.Gen s n w r) says = cc
none_refused (command.Rollup g w r) says = cc

-- what is written and read has one cause for each status
pub has_done : {S K : Type 0} (left : S → Option (List ℕ)) (faults : S → ℕ) (written : K → Option (List ℕ)) (counted : K → ℕ) (Asked : Command → Type 0) (c : Command) (o : Outcome) (s t : S) (k l : K)
    → WritesText written counted Asked (left s) o k l → ReadsInput left faults Asked o s t → o.status ≢ status.BadWords → Asked c → AreInRange c → AsksFew c (left s)
    → (CountRose (faults s) (faults t) → ⊥) → (CountRose (counted k) (counted l) → ⊥) → HasDone c o.status
has_done left faults written counted Asked c o s t k l writes reads words asked range few unfailed unbroken = at o.status refl
  where
    at : (st : Status) → o.status ≡ st → HasDone c st
    at status.Done e = all_done c
    at status.BadWords e = absurd (words e)
    at status.BadInput e = absurd (let h : Reads c → ⊥ = good_input c (left s) o.line few (λ it. reads.bad_input e c asked) in (reads.reads_nothing c asked h).2 e)
    at status.ReadFault e = absurd (unfailed (reads.read_fault e))
    at status.WriteFault e = absurd (unbroken (writes.write_fault e))
    at status.OutOfMemory e = memory_wanted c
    at status.NotLegal e = judged c (says_nothing c (left s) o.front ending.NotLegal _ range few (writes.not_legal e c asked))
    at status.Refused e = absurd (none_refused c (says_nothing c (left s) o.front ending.Refused _ range few (writes.refused e c asked)))

-- a command without a text does not tell bad words
pub words_are_good : (e : InputError) → status_of e ≢ status.BadWords
words_are_good error.Fault is = cc
words_are_good (error.Bad line) is = cc
words_are_good error.Memory is = cc
