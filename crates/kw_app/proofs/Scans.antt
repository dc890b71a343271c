-- What the scan of `rollup` is answered: the points that the accepted updates above it leave. And
-- the items that are asked: each is one that a line may be, and the scan is the first worker's.
use Rattle.std.proofs.Common.{ℕ, zero, suc, ◌≡◌, ◌⊎◌, inl, inr, ◌+◌, ◌-◌, ◌*◌, ◌/◌, ◌%◌, ◌≤◌, ◌<◌, Bool, true, false, IsTrue, All, List, [], ◌∷◌, ◌++◌, length, map, take, drop, Some, refl, sym, ap, ◌∙◌, subst, arith, append_assoc, length-append}
use Rattle.std.specs.Prelude.{replicate}
use Rattle.std.specs.List.{slice_get, flat_map, onto_first, AllByRecursion}
use Rattle.std.specs.Option.{option_map}
use Rattle.std.proofs.Math.Nat.{add-mul-mod_self_right, div-mul-le_self, mod-eq-sub-div-mul, mod-lt, mod_self}
use Rattle.std.proofs.lemmas.Bool.{false≢true, cases_lt}
use Rattle.std.proofs.lemmas.List.{append-nil, length-drop, length-map, take-append-drop}
use Rattle.std.proofs.lemmas.List.Elements.{All-cons, All-nil, filter-append}
use Rattle.std.proofs.lemmas.Option.{same_Some, slice_get-map, slice_get_within, get_or_from_slice_get}
use mathlib.Core.Logic.{⊎_elim}
use Rattle.kw_model.specs.Map.{Pairs, IsRising, between}
use Rattle.kw_model.specs.Legal.{IsRight, went, went_all}
use Rattle.kw_model.specs.declared.call.Call.{Call}
use Rattle.kw_model.specs.declared.call.Call.TheVariants as call
use Rattle.kw_model.specs.declared.call.Reply.{Reply}
use Rattle.kw_model.specs.declared.call.Reply.TheVariants as reply
use Rattle.kw_line.specs.declared.answer.Answer.{Answer}
use Rattle.kw_line.specs.declared.answer.Answer.TheVariants as answer
use Rattle.kw_line.specs.declared.item.Form.{Form}
use Rattle.kw_line.specs.declared.item.Form.TheVariants as form
use Rattle.kw_line.specs.declared.item.Item.{Item}
use Rattle.kw_line.specs.declared.item.Item.TheVariants as item
use Rattle.kw_line.specs.Answered.{IsReplyOf, answer_for, answers_for, is_range}
use Rattle.kw_line.specs.Line.{IsCallOf, IsItem, calls, forms}
use Rattle.kw_line.specs.Quiet.{blocks, quiet, quiet_in}
use Rattle.kw_rollup.specs.declared.item.RollItem.{RollItem}
use Rattle.kw_rollup.specs.declared.item.RollItem.TheVariants as roll
use Rattle.kw_rollup.specs.Lines.{IsRollItem}
use Rattle.kw_work.specs.declared.line.Line.{Line}
use Rattle.kw_work.specs.Dealing.{IsLine, blocks_of, dealt_by, line_at, lines_of, worker_of}
use Rattle.kw_work.specs.Lines.{IsItemOf}
use Rattle.kw_work.specs.LineOrder.{HaveForms, IsLegalIn, IsOrderOf, KeepsWorkers, QuietRight, accepted_above, calls_of, greatest_key, joined}
use Rattle.kw_work.proofs.AllKeys.{all_keys}
use Rattle.kw_work.proofs.Asked.{element_at, rises-went_all}
use Rattle.kw_work.proofs.Numbers.{calls-lines_of, joined-blocks_of, lines_are_items}
use Rattle.kw_work.proofs.Quieted.{quiet-blocks_of}
use Rattle.kw_work.proofs.QuietBlocks.{get_front, get_behind}
use Rattle.kw_work.proofs.QuietReplies.{quiet_right}
use Rattle.kw_work.proofs.WorkerOrders.{keeps_keys}
use Rattle.kw_app.specs.Asked.{IsFirstWorkers, asked_items, from_table, item_of, scan_items, updates_above, waits_before}
use Rattle.kw_app.specs.Tables.{AreWhole, accepted, accepted_all, is_update, points_scanned, updates}
use Rattle.kw_app.proofs.AnswerForms.{answers_at}
use Rattle.kw_app.proofs.TableLines.{many_first, scanned_is, updates_first}

-- Lines above the first table, and below it.

-- the line is no table
abbrev IsUpdate : RollItem → Type 0
IsUpdate i = i ≡ roll.Table → ⊥

-- all are updates
abbrev AreUpdates : List RollItem → Type 0
AreUpdates [] = Unit {0}
AreUpdates (i ∷ is) = IsUpdate i × AreUpdates is

updates_stand : (is : List RollItem) → AreUpdates (take (updates_above is) is)
updates_stand [] = tt
updates_stand (roll.Table ∷ is) = tt
updates_stand (roll.Put k v ∷ is) = ((λ e. cc), updates_stand is)
updates_stand (roll.Del k ∷ is) = ((λ e. cc), updates_stand is)

pub above_within : (is : List RollItem) → updates_above is ≤ length is
above_within [] = omega arith
above_within (roll.Table ∷ is) = omega arith
above_within (roll.Put k v ∷ is) = let h = above_within is in omega arith
above_within (roll.Del k ∷ is) = let h = above_within is in omega arith

-- no line is left, or a table is the first
abbrev BeginsWithTable : List RollItem → Type 0
BeginsWithTable is = (is ≡ []) ⊎ ((rest : List RollItem) × (is ≡ roll.Table ∷ rest))

table_stands : (is : List RollItem) → BeginsWithTable (drop (updates_above is) is)
table_stands [] = inl refl
table_stands (roll.Table ∷ is) = inr (is, refl)
table_stands (roll.Put k v ∷ is) = table_stands is
table_stands (roll.Del k ∷ is) = table_stands is

-- Items that make calls.

calls-append : (xs ys : List Item) → calls (xs ++ ys) ≡ calls xs ++ calls ys
calls-append [] ys = refl
calls-append (item.Call c f ∷ xs) ys = ap (λ (l : List Call). c ∷ l) (calls-append xs ys)
calls-append (item.Wait ∷ xs) ys = calls-append xs ys

forms-append : (xs ys : List Item) → forms (xs ++ ys) ≡ forms xs ++ forms ys
forms-append [] ys = refl
forms-append (item.Call c f ∷ xs) ys = ap (λ (l : List Form). f ∷ l) (forms-append xs ys)
forms-append (item.Wait ∷ xs) ys = forms-append xs ys

many_calls : (is : List RollItem) → AreUpdates is → length (calls (map item_of is)) ≡ length is
many_calls [] h = refl
many_calls (roll.Put k v ∷ is) h = ap suc (many_calls is h.1)
many_calls (roll.Del k ∷ is) h = ap suc (many_calls is h.1)
many_calls (roll.Table ∷ is) h = absurd (h.0 refl)

many_forms : (is : List RollItem) → AreUpdates is → length (forms (map item_of is)) ≡ length is
many_forms [] h = refl
many_forms (roll.Put k v ∷ is) h = ap suc (many_forms is h.1)
many_forms (roll.Del k ∷ is) h = ap suc (many_forms is h.1)
many_forms (roll.Table ∷ is) h = absurd (h.0 refl)

-- of lines each update makes one
calls_updates : (is : List RollItem) → length (calls (map item_of is)) ≡ length (updates is)
calls_updates [] = refl
calls_updates (roll.Put k v ∷ is) = ap suc (calls_updates is)
calls_updates (roll.Del k ∷ is) = ap suc (calls_updates is)
calls_updates (roll.Table ∷ is) = calls_updates is

-- and none asks for a range
forms_range : (is : List RollItem) (j : ℕ) (f : Form) → slice_get (forms (map item_of is)) j ≡ Some f → is_range f ≡ true → ⊥
forms_range [] j f e t = absurd (cc)
forms_range (roll.Table ∷ is) j f e t = forms_range is j f e t
forms_range (roll.Put k v ∷ is) zero f e t = false≢true (ap is_range (same_Some form.Put f e) ∙ t)
forms_range (roll.Del k ∷ is) zero f e t = false≢true (ap is_range (same_Some form.Del f e) ∙ t)
forms_range (roll.Put k v ∷ is) (suc j) f e t = forms_range is j f e t
forms_range (roll.Del k ∷ is) (suc j) f e t = forms_range is j f e t

-- waits make none
calls-waits : (n : ℕ) (xs : List Item) → calls (replicate n item.Wait ++ xs) ≡ calls xs
calls-waits zero xs = refl
calls-waits (suc n) xs = calls-waits n xs

forms-waits : (n : ℕ) (xs : List Item) → forms (replicate n item.Wait ++ xs) ≡ forms xs
forms-waits zero xs = refl
forms-waits (suc n) xs = forms-waits n xs

quiet-waits : (n : ℕ) (xs : List Item) → quiet (replicate n item.Wait ++ xs) ≡ quiet xs
quiet-waits zero xs = refl
quiet-waits (suc n) xs = quiet-waits n xs

-- the updates are a block
blocks-updates : (is : List RollItem) (after : List Item) → AreUpdates is → blocks (map item_of is ++ item.Wait ∷ after) ≡ map item_of is ∷ blocks after
blocks-updates [] after h = refl
blocks-updates (roll.Put k v ∷ is) after h = ap (onto_first (item_of (roll.Put k v))) (blocks-updates is after h.1)
blocks-updates (roll.Del k ∷ is) after h = ap (onto_first (item_of (roll.Del k))) (blocks-updates is after h.1)
blocks-updates (roll.Table ∷ is) after h = absurd (h.0 refl)

-- the scan
abbrev all_keys_scan : Item
all_keys_scan = item.Call (call.Scan 0 greatest_key) form.List

-- the scan and what stands behind it
scan_first : (workers items : ℕ) (more : List Item) → scan_items workers items ++ more ≡ replicate (waits_before workers items) item.Wait ++ all_keys_scan ∷ item.Wait ∷ more
scan_first workers items more = append_assoc (replicate (waits_before workers items) item.Wait) (all_keys_scan ∷ item.Wait ∷ []) more

-- The updates above the first table.

update_went : (m : Pairs) (i : RollItem) (c : Call) (f : Form) (r : Reply) → item_of i ≡ item.Call c f → IsReplyOf f r → accepted m i (answer_for f r) ≡ went m c r
update_went m (roll.Put k v) (call.Put q w) form.Put reply.Done e h = let a : k ≡ q = cc in let b : v ≡ w = cc in cc
update_went m (roll.Put k v) (call.Put q w) form.Put reply.NoRows e h = refl
update_went m (roll.Put k v) (call.Put q w) form.Put reply.Spent e h = refl
update_went m (roll.Del k) (call.Del q) form.Del reply.Done e h = let a : k ≡ q = cc in cc
update_went m (roll.Del k) (call.Del q) form.Del reply.NoRows e h = refl
update_went m (roll.Del k) (call.Del q) form.Del reply.Spent e h = refl
update_went m (roll.Put k v) (call.Put q w) form.Put (reply.Value x) e h = absurd (false≢true h)
update_went m (roll.Put k v) (call.Put q w) form.Put reply.Absent e h = absurd (false≢true h)
update_went m (roll.Put k v) (call.Put q w) form.Put (reply.Pairs ps) e h = absurd (false≢true h)
update_went m (roll.Put k v) (call.Put q w) form.Put reply.Stopped e h = absurd h
update_went m (roll.Put k v) (call.Put q w) form.Put reply.Held e h = absurd h
update_went m (roll.Put k v) (call.Put q w) form.Put reply.NotPinned e h = absurd h
update_went m (roll.Del k) (call.Del q) form.Del (reply.Value x) e h = absurd (false≢true h)
update_went m (roll.Del k) (call.Del q) form.Del reply.Absent e h = absurd (false≢true h)
update_went m (roll.Del k) (call.Del q) form.Del (reply.Pairs ps) e h = absurd (false≢true h)
update_went m (roll.Del k) (call.Del q) form.Del reply.Stopped e h = absurd h
update_went m (roll.Del k) (call.Del q) form.Del reply.Held e h = absurd h
update_went m (roll.Del k) (call.Del q) form.Del reply.NotPinned e h = absurd h
update_went m _ c f r e h = absurd cc

-- the points that the updates above leave are the map of the accepted calls
updates_went : (is : List RollItem) → AreUpdates is → (m : Pairs) (fs : List Form) (cs : List Call) (rs : List Reply)
    → ((i : ℕ) (f : Form) (r : Reply) → slice_get (forms (map item_of is) ++ fs) i ≡ Some f → slice_get rs i ≡ Some r → IsReplyOf f r)
    → accepted_all m is (take (length is) (answers_for (forms (map item_of is) ++ fs) rs)) ≡ went_all m (take (length is) (calls (map item_of is) ++ cs)) (take (length is) rs)
updates_went [] h m fs cs rs replied = refl
updates_went (roll.Put k v ∷ is) h m fs cs [] replied = refl
updates_went (roll.Put k v ∷ is) h m fs cs (r ∷ rs) replied =
    ap (λ (x : Pairs). accepted_all x is (take (length is) (answers_for (forms (map item_of is) ++ fs) rs))) (update_went m (roll.Put k v) (call.Put k v) form.Put r refl (replied 0 form.Put r refl refl))
    ∙ updates_went is h.1 (went m (call.Put k v) r) fs cs rs (λ i f s e g. replied (suc i) f s e g)
updates_went (roll.Del k ∷ is) h m fs cs [] replied = refl
updates_went (roll.Del k ∷ is) h m fs cs (r ∷ rs) replied =
    ap (λ (x : Pairs). accepted_all x is (take (length is) (answers_for (forms (map item_of is) ++ fs) rs))) (update_went m (roll.Del k) (call.Del k) form.Del r refl (replied 0 form.Del r refl refl))
    ∙ updates_went is h.1 (went m (call.Del k) r) fs cs rs (λ i f s e g. replied (suc i) f s e g)
updates_went (roll.Table ∷ is) h m fs cs rs replied = absurd (h.0 refl)

-- there are as many answers as calls
length-answers_for : (fs : List Form) (rs : List Reply) → length rs ≡ length fs → length (answers_for fs rs) ≡ length fs
length-answers_for [] rs same = refl
length-answers_for (f ∷ fs) [] same = absurd (cc)
length-answers_for (f ∷ fs) (r ∷ rs) same = ap suc (length-answers_for fs rs (omega arith))

same_number : (is : List Item) → length (forms is) ≡ length (calls is)
same_number [] = refl
same_number (item.Call c f ∷ is) = ap suc (same_number is)
same_number (item.Wait ∷ is) = same_number is

-- lines of items make calls of their forms, in range
have_forms : (n : ℕ) (items : List Item) → AllByRecursion IsItem items → HaveForms (lines_of n items)
unfolding lines_of
have_forms n [] all = All-nil (λ (l : Line). IsCallOf l.form l.call)
have_forms n (item.Call c f ∷ is) all = All-cons (λ (l : Line). IsCallOf l.form l.call) (line_at n c f) (lines_of (n + 1) is) all.0.0 (have_forms (n + 1) is all.1)
have_forms n (item.Wait ∷ is) all = have_forms (n + 1) is all.1

are_lines : (n : ℕ) (items : List Item) → AllByRecursion IsItem items → All IsLine (lines_of n items)
unfolding lines_of
are_lines n [] all = All-nil IsLine
are_lines n (item.Call c f ∷ is) all = All-cons IsLine (line_at n c f) (lines_of (n + 1) is) all.0 (are_lines (n + 1) is all.1)
are_lines n (item.Wait ∷ is) all = are_lines (n + 1) is all.1

-- A right reply to the scan.

right_scan : (m : Pairs) (r : Reply) → IsRight m (call.Scan 0 greatest_key) r → IsReplyOf form.List r → (answer_for form.List r ≡ answer.Spent) ⊎ (answer_for form.List r ≡ answer.Pairs (between 0 greatest_key m))
right_scan m reply.Spent h g = inl refl
right_scan m (reply.Pairs ps) h g = let e : ps ≡ between 0 greatest_key m = cc in inr (ap answer.Pairs e)
right_scan m reply.Done h g = absurd (false≢true g)
right_scan m (reply.Value v) h g = absurd (false≢true g)
right_scan m reply.Absent h g = absurd (false≢true g)
right_scan m reply.NoRows h g = absurd (false≢true g)
right_scan m reply.Stopped h g = absurd g
right_scan m reply.Held h g = absurd g
right_scan m reply.NotPinned h g = absurd g

-- the items that are asked are ones that a line may be
updates_are_items : (is : List RollItem) → AllByRecursion IsRollItem is → AllByRecursion IsItem (map item_of is)
updates_are_items [] h = tt
updates_are_items (roll.Put k v ∷ is) h = ((tt, h.0), updates_are_items is h.1)
updates_are_items (roll.Del k ∷ is) h = ((tt, h.0), updates_are_items is h.1)
updates_are_items (roll.Table ∷ is) h = (tt, updates_are_items is h.1)

items_append : (xs ys : List Item) → AllByRecursion IsItem xs → AllByRecursion IsItem ys → AllByRecursion IsItem (xs ++ ys)
items_append [] ys h g = g
items_append (x ∷ xs) ys h g = (h.0, items_append xs ys h.1 g)

waits_are_items : (n : ℕ) → AllByRecursion IsItem (replicate n item.Wait)
waits_are_items zero = tt
waits_are_items (suc n) = (tt, waits_are_items n)

taken : (n : ℕ) (is : List RollItem) → AllByRecursion IsRollItem is → AllByRecursion IsRollItem (take n is)
taken zero is h = tt
taken (suc n) [] h = tt
taken (suc n) (i ∷ is) h = (h.0, taken n is h.1)

dropped : (n : ℕ) (is : List RollItem) → AllByRecursion IsRollItem is → AllByRecursion IsRollItem (drop n is)
dropped zero is h = h
dropped (suc n) [] h = tt
dropped (suc n) (i ∷ is) h = dropped n is h.1

scan_is_items : (workers items : ℕ) → AllByRecursion IsItem (scan_items workers items)
scan_is_items workers items = items_append (replicate (waits_before workers items) item.Wait) (all_keys_scan ∷ item.Wait ∷ []) (waits_are_items (waits_before workers items)) ((tt, (omega arith, omega arith)), (tt, tt))

from_table_is_items : (workers n : ℕ) (is : List RollItem) → AllByRecursion IsRollItem is → AllByRecursion IsItem (from_table workers n is)
from_table_is_items workers n [] h = tt
from_table_is_items workers n (i ∷ is) h = ((updates_are_items (i ∷ []) (h.0, tt)).0, items_append (scan_items workers (n + 1)) (map item_of is) (scan_is_items workers (n + 1)) (updates_are_items is h.1))

pub asked_are_items : (workers : ℕ) (items : List RollItem) → AllByRecursion IsRollItem items → AllByRecursion IsItem (asked_items workers items)
asked_are_items workers items h =
    let p : ℕ = updates_above items in
    items_append (map item_of (take p items)) (from_table workers p (drop p items)) (updates_are_items (take p items) (taken p items h)) (from_table_is_items workers p (drop p items) (dropped p items h))

-- What the scan is answered.

-- what is asked, cut at the scan: where a table is the first line below the updates
module _ (workers : ℕ) (items rest : List RollItem) (table : drop (updates_above items) items ≡ roll.Table ∷ rest) where
  abbrev p : ℕ
  p = updates_above items

  abbrev ups : List RollItem
  ups = take (updates_above items) items

  abbrev k : ℕ
  k = waits_before workers (updates_above items + 1)

  abbrev below : List Item
  below = map item_of rest

  asked_is : asked_items workers items ≡ map item_of ups ++ item.Wait ∷ (replicate k item.Wait ++ all_keys_scan ∷ item.Wait ∷ below)
  asked_is =
      ap (λ (is : List RollItem). map item_of ups ++ from_table workers p is) table
      ∙ ap (λ (xs : List Item). map item_of ups ++ item.Wait ∷ xs) (scan_first workers (p + 1) below)

  -- behind the updates' calls stands the scan's
  calls_are : calls (asked_items workers items) ≡ calls (map item_of ups) ++ call.Scan 0 greatest_key ∷ calls below
  calls_are = ap calls asked_is ∙ (calls-append (map item_of ups) _ ∙ ap (λ (l : List Call). calls (map item_of ups) ++ l) (calls-waits k (all_keys_scan ∷ item.Wait ∷ below)))

  forms_are : forms (asked_items workers items) ≡ forms (map item_of ups) ++ form.List ∷ forms below
  forms_are = ap forms asked_is ∙ (forms-append (map item_of ups) _ ∙ ap (λ (l : List Form). forms (map item_of ups) ++ l) (forms-waits k (all_keys_scan ∷ item.Wait ∷ below)))

  quiet_is : quiet (asked_items workers items) ≡ quiet_in (map item_of ups) ++ true ∷ quiet below
  quiet_is =
      ap quiet asked_is ∙ (ap (flat_map quiet_in) (blocks-updates ups (replicate k item.Wait ++ all_keys_scan ∷ item.Wait ∷ below) (updates_stand items))
      ∙ ap (λ (l : List Bool). quiet_in (map item_of ups) ++ l) (quiet-waits k (all_keys_scan ∷ item.Wait ∷ below)))

  scan_call : slice_get (calls (asked_items workers items)) p ≡ Some (call.Scan 0 greatest_key)
  scan_call = ap (λ (l : List Call). slice_get l p) calls_are ∙ get_behind (calls (map item_of ups)) (call.Scan 0 greatest_key ∷ calls below) p 0 (let a = many_calls ups (updates_stand items) in let b = many_first items in omega arith)

  scan_form : slice_get (forms (asked_items workers items)) p ≡ Some form.List
  scan_form = ap (λ (l : List Form). slice_get l p) forms_are ∙ get_behind (forms (map item_of ups)) (form.List ∷ forms below) p 0 (let a = many_forms ups (updates_stand items) in let b = many_first items in omega arith)

  scan_quiet : slice_get (quiet (asked_items workers items)) p ≡ Some true
  scan_quiet =
      ap (λ (l : List Bool). slice_get l p) quiet_is
      ∙ get_behind (quiet_in (map item_of ups)) (true ∷ quiet below) p 0 (let a = many_forms ups (updates_stand items) in let b = many_first items in let c = length-map {B = Bool} (forms (map item_of ups)) in omega (arith, c))

  -- no other line asks for a range
  range_is_scan : (j : ℕ) (f : Form) → slice_get (forms (asked_items workers items)) j ≡ Some f → is_range f ≡ true → j ≡ p
  range_is_scan j f e t = which (cases_lt j (length above))
    where
      above : List Form
      above = forms (map item_of ups)

      many : length above ≡ p
      many = many_forms ups (updates_stand items) ∙ many_first items

      here : slice_get (above ++ form.List ∷ forms below) j ≡ Some f
      here = ap (λ (l : List Form). slice_get l j) (sym forms_are) ∙ e

      behind : (u : ℕ) → j ≡ length above + u → slice_get (form.List ∷ forms below) u ≡ Some f → j ≡ p
      behind zero at g = omega (arith, at, many)
      behind (suc u) at g = absurd (forms_range rest u f g t)

      which : (j < length above) ⊎ (length above ≤ j) → j ≡ p
      which (inl lt) = absurd (forms_range ups j f (sym (get_front above (form.List ∷ forms below) j lt) ∙ here) t)
      which (inr ge) = behind (j - length above) (omega (arith, ge)) (sym (get_behind above (form.List ∷ forms below) j (j - length above) (omega (arith, ge))) ∙ here)

  -- each update makes a call, and so does the scan
  many_asked : length (calls (asked_items workers items)) ≡ suc (length (updates items))
  many_asked =
      let a = ap length calls_are ∙ length-append (calls (map item_of ups)) (call.Scan 0 greatest_key ∷ calls below) in
      let b = many_calls ups (updates_stand items) in
      let c = many_first items in
      let d = calls_updates rest in
      let e = ap length (ap updates (sym (take-append-drop p items)) ∙ (filter-append is_update ups (drop p items) ∙ (ap (λ (us : List RollItem). us ++ updates (drop p items)) (updates_first items) ∙ ap (λ (is : List RollItem). ups ++ updates is) table))) ∙ length-append ups (updates rest) in
      omega (arith, a, b, c, d, e)

-- where a line is a table, the scan is the one line that asks for a range
pub scan_asked : (workers : ℕ) (items : List RollItem) → updates_above items < length items → slice_get (forms (asked_items workers items)) (updates_above items) ≡ Some form.List
scan_asked workers items w = go (table_stands items)
  where
    go : BeginsWithTable (drop (updates_above items) items) → slice_get (forms (asked_items workers items)) (updates_above items) ≡ Some form.List
    go (inl none) = absurd (omega (arith, w, length-drop (updates_above items) items, ap length none))
    go (inr table) = scan_form workers items table.0 table.1

pub scan_alone : (workers : ℕ) (items : List RollItem) → updates_above items < length items → (j : ℕ) (f : Form) → slice_get (forms (asked_items workers items)) j ≡ Some f → is_range f ≡ true → j ≡ updates_above items
scan_alone workers items w j f e t = go (table_stands items)
  where
    go : BeginsWithTable (drop (updates_above items) items) → j ≡ updates_above items
    go (inl none) = absurd (omega (arith, w, length-drop (updates_above items) items, ap length none))
    go (inr table) = range_is_scan workers items table.0 table.1 j f e t

-- A run of what is asked: its replies, and an order of its lines in which they are right.

module _ (workers : ℕ) (items : List RollItem) (rs : List Reply) (numbers : List ℕ) (each : AllByRecursion IsRollItem items) (long : length rs ≡ length (calls (asked_items workers items)))
    (replied : (i : ℕ) (f : Form) (r : Reply) → slice_get (forms (asked_items workers items)) i ≡ Some f → slice_get rs i ≡ Some r → IsReplyOf f r)
    (order : IsOrderOf (length (calls (asked_items workers items))) numbers) (legal : IsLegalIn (calls (asked_items workers items)) rs numbers) (keeps : KeepsWorkers workers (blocks_of 1 (asked_items workers items)) numbers) where
  abbrev asked : List Item
  asked = asked_items workers items

  abbrev answers : List Answer
  answers = answers_for (forms (asked_items workers items)) rs

  many_answers : length answers ≡ length (calls asked)
  many_answers = length-answers_for (forms asked) rs (long ∙ sym (same_number asked)) ∙ same_number asked

  lines_are : calls_of (joined (blocks_of 1 asked)) ≡ calls asked
  lines_are = ap calls_of (joined-blocks_of 1 asked) ∙ calls-lines_of 1 asked

  as_many : length (joined (blocks_of 1 asked)) ≡ length (calls asked)
  as_many = sym (length-map (joined (blocks_of 1 asked)) (λ (l : Line). l.call)) ∙ ap length lines_are

  right : QuietRight (blocks_of 1 asked) rs
  right =
      quiet_right (blocks_of 1 asked) rs numbers (long ∙ sym as_many) (subst (λ n. IsOrderOf n numbers) (sym as_many) order) (keeps_keys workers (blocks_of 1 asked) numbers keeps)
      (subst HaveForms (sym (joined-blocks_of 1 asked)) (have_forms 1 asked (asked_are_items workers items each))) (subst (λ cs. IsLegalIn cs rs numbers) (sym lines_are) legal)

  -- the points that the updates above the first table leave
  abbrev points : Pairs
  points = accepted_all [] (take (updates_above items) items) (take (updates_above items) answers)

  -- they are the map of the accepted lines above the scan
  points_are : (rest : List RollItem) → drop (updates_above items) items ≡ roll.Table ∷ rest → points ≡ accepted_above (calls asked) rs (updates_above items)
  points_are rest table =
      let q : ℕ = updates_above items in
      let us : List RollItem = take (updates_above items) items in
      let n : length us ≡ q = many_first items in
      let fs : forms asked ≡ forms (map item_of us) ++ form.List ∷ forms (map item_of rest) = forms_are workers items rest table in
      let cs : calls asked ≡ calls (map item_of us) ++ call.Scan 0 greatest_key ∷ calls (map item_of rest) = calls_are workers items rest table in
      let h = updates_went us (updates_stand items) [] (form.List ∷ forms (map item_of rest)) (call.Scan 0 greatest_key ∷ calls (map item_of rest)) rs (λ i f r e g. replied i f r (ap (λ (l : List Form). slice_get l i) fs ∙ e) g) in
      ap (λ (l : List Form). accepted_all [] us (take q (answers_for l rs))) fs
      ∙ (ap (λ j. accepted_all [] us (take j (answers_for (forms (map item_of us) ++ form.List ∷ forms (map item_of rest)) rs))) (sym n)
      ∙ (h ∙ (ap (λ j. went_all [] (take j (calls (map item_of us) ++ call.Scan 0 greatest_key ∷ calls (map item_of rest))) (take j rs)) n ∙ ap (λ (l : List Call). went_all [] (take q l) (take q rs)) (sym cs))))

  -- so the scan was refused, or it was answered by these points
  scan_answered : (rest : List RollItem) → drop (updates_above items) items ≡ roll.Table ∷ rest → (slice_get answers (updates_above items) ≡ Some answer.Spent) ⊎ (slice_get answers (updates_above items) ≡ Some (answer.Pairs points)) × IsRising points
  scan_answered rest table =
      let q : ℕ = updates_above items in
      let inside = slice_get_within (calls asked) q (call.Scan 0 greatest_key) (scan_call workers items rest table) in
      let r = element_at rs q (omega arith) in
      let l = element_at (joined (blocks_of 1 asked)) q (omega (arith, as_many)) in
      let c : l.0.call ≡ call.Scan 0 greatest_key =
      same_Some l.0.call (call.Scan 0 greatest_key) (sym (ap (λ (cs : List Call). slice_get cs q) (sym lines_are) ∙ (slice_get-map (λ (m : Line). m.call) (joined (blocks_of 1 asked)) q ∙ ap (option_map (λ (m : Line). m.call)) l.1)) ∙ scan_call workers items rest table) in
      let m : Pairs = accepted_above (calls_of (joined (blocks_of 1 asked))) rs q in
      let is_right : IsRight m l.0.call r.0 = right q l.0 r.0 l.1 r.1 (ap (λ (qs : List Bool). slice_get qs q) (quiet-blocks_of 1 asked) ∙ scan_quiet workers items rest table) in
      let given = right_scan m r.0 (subst (λ (d : Call). IsRight m d r.0) c is_right) (replied q form.List r.0 (scan_form workers items rest table) r.1) in
      let whole : between 0 greatest_key m ≡ m = all_keys (joined (blocks_of 1 asked)) rs q (subst (All IsLine) (sym (joined-blocks_of 1 asked)) (are_lines 1 asked (asked_are_items workers items each))) in
      let same : m ≡ points = ap (λ (cs : List Call). accepted_above cs rs q) lines_are ∙ sym (points_are rest table) in
      let rises : IsRising points = subst IsRising same (rises-went_all [] (take q (calls_of (joined (blocks_of 1 asked)))) (take q rs) tt) in
      let at : slice_get answers q ≡ Some (answer_for form.List r.0) = answers_at (forms asked) rs q form.List r.0 (scan_form workers items rest table) r.1 in
      told (answer_for form.List r.0) m at given (whole ∙ same) rises
    where
      told : (a : Answer) (m : Pairs) → slice_get answers (updates_above items) ≡ Some a → (a ≡ answer.Spent) ⊎ (a ≡ answer.Pairs (between 0 greatest_key m)) → between 0 greatest_key m ≡ points → IsRising points
          → (slice_get answers (updates_above items) ≡ Some answer.Spent) ⊎ (slice_get answers (updates_above items) ≡ Some (answer.Pairs points)) × IsRising points
      told a m at (inl e) same rises = inl (at ∙ ap Some e)
      told a m at (inr e) same rises = inr (at ∙ ap Some (e ∙ ap answer.Pairs same), rises)

  -- where the scan was not refused, the answers are what tables are made of
  pub are_whole : (slice_get answers (updates_above items) ≡ Some answer.Spent → ⊥) → updates_above items < length items → AreWhole items answers
  are_whole served w = go (table_stands items)
    where
      go : BeginsWithTable (drop (updates_above items) items) → AreWhole items answers
      go (inl none) = absurd (omega (arith, w, length-drop (updates_above items) items, ap length none))
      go (inr table) = by (scan_answered table.0 table.1)
        where
          by : (slice_get answers (updates_above items) ≡ Some answer.Spent) ⊎ (slice_get answers (updates_above items) ≡ Some (answer.Pairs points)) × IsRising points → AreWhole items answers
          by (inl e) = absurd (served e)
          by (inr g) =
              let is : points_scanned items answers ≡ points = scanned_is items answers (omega (arith, slice_get_within answers (updates_above items) (answer.Pairs points) g.0)) in
              record {
                many = many_answers ∙ many_asked workers items table.0 table.1;
                scan = g.0 ∙ ap (λ (ps : Pairs). Some (answer.Pairs ps)) (sym is);
                rising = subst IsRising (sym is) g.1;
              }

-- How many items are asked, and who scans.

length-waits : (n : ℕ) → length (replicate n item.Wait) ≡ n
length-waits zero = refl
length-waits (suc n) = ap suc (length-waits n)

from_table_few : (workers n : ℕ) (is : List RollItem) → 0 < workers → length (from_table workers n is) ≤ length is + workers + 1
from_table_few workers n [] some = omega arith
from_table_few workers n (i ∷ is) some =
    let a = length-append (scan_items workers (n + 1)) (map item_of is) in
    let b = length-append (replicate (waits_before workers (n + 1)) item.Wait) (all_keys_scan ∷ item.Wait ∷ []) in
    let c = length-waits (waits_before workers (n + 1)) in
    let d = length-map {B = Item} is item_of in
    omega (arith, a, b, c, d)

pub asked_few : (workers : ℕ) (items : List RollItem) → 0 < workers → length (asked_items workers items) ≤ length items + workers + 1
asked_few workers items some =
    let q : ℕ = updates_above items in
    let a = length-append (map item_of (take q items)) (from_table workers q (drop q items)) in
    let b = length-map {B = Item} (take q items) item_of in
    let c = from_table_few workers q (drop q items) some in
    let d = many_first items in
    let e = length-drop q items in
    let f = above_within items in
    omega (arith, a, b, c, d, e, f)

-- behind so many waits the scan's number is a multiple of the number of workers
number_is : (n m : ℕ) → 0 < m → (n + (m - 1 - n % m) + 1) % m ≡ 0
number_is n m some =
    let e : n % m ≡ n - n / m * m = mod-eq-sub-div-mul n m in
    let le : n / m * m ≤ n = div-mul-le_self n m in
    let lt : n % m < m = mod-lt n some in
    let f : n + (m - 1 - n % m) + 1 ≡ m + n / m * m = omega arith in
    ap (λ x. x % m) f ∙ (add-mul-mod_self_right m (n / m) m ∙ mod_self m)

-- no update asks for a range, and no wait does
no_range : (is : List RollItem) (j : ℕ) (c : Call) (f : Form) → slice_get (map item_of is) j ≡ Some (item.Call c f) → is_range f ≡ true → ⊥
no_range [] j c f e t = absurd cc
no_range (roll.Put k v ∷ is) zero c f e t = let g : form.Put ≡ f = cc in false≢true (ap is_range g ∙ t)
no_range (roll.Del k ∷ is) zero c f e t = let g : form.Del ≡ f = cc in false≢true (ap is_range g ∙ t)
no_range (roll.Table ∷ is) zero c f e t = absurd cc
no_range (i ∷ is) (suc j) c f e t = no_range is j c f e t

no_call : (n j : ℕ) (c : Call) (f : Form) → slice_get (replicate n item.Wait) j ≡ Some (item.Call c f) → ⊥
no_call zero j c f e = absurd cc
no_call (suc n) zero c f e = absurd cc
no_call (suc n) (suc j) c f e = no_call n j c f e

-- where an item asks for a range, it is the scan
pub record IsScanAt (n k j : ℕ) (c : Call) : Type 0 where
  pub place : j ≡ n + 1 + k
  pub call : c ≡ call.Scan 0 greatest_key

scan_place : (is rest : List RollItem) (k j : ℕ) (c : Call) (f : Form) → slice_get (map item_of is ++ item.Wait ∷ (replicate k item.Wait ++ all_keys_scan ∷ item.Wait ∷ map item_of rest)) j ≡ Some (item.Call c f) → is_range f ≡ true
    → IsScanAt (length is) k j c
scan_place is rest k j c f e t = ⊎_elim
    (λ (lt : j < length (map item_of is)). absurd (no_range is j c f (sym (get_front (map item_of is) (item.Wait ∷ behind) j lt) ∙ e) t))
    (λ (ge : length (map item_of is) ≤ j). go (j - length (map item_of is)) (let m = length-map {B = Item} is item_of in omega arith) (sym (get_behind (map item_of is) (item.Wait ∷ behind) j (j - length (map item_of is)) (omega arith)) ∙ e))
    (cases_lt j (length (map item_of is)))
  where
    behind : List Item
    behind = replicate k item.Wait ++ all_keys_scan ∷ item.Wait ∷ map item_of rest

    last : (u : ℕ) → j ≡ length is + 1 + (k + u) → slice_get (all_keys_scan ∷ item.Wait ∷ map item_of rest) u ≡ Some (item.Call c f) → IsScanAt (length is) k j c
    last zero at g = record { place = omega arith; call = cc }
    last (suc zero) at g = absurd cc
    last (suc (suc u)) at g = absurd (no_range rest u c f g t)

    go : (u : ℕ) → j ≡ length is + u → slice_get (item.Wait ∷ behind) u ≡ Some (item.Call c f) → IsScanAt (length is) k j c
    go zero at g = absurd cc
    go (suc u) at g = ⊎_elim
        (λ (lt : u < length (replicate k item.Wait)). absurd (no_call k u c f (sym (get_front (replicate k item.Wait) (all_keys_scan ∷ item.Wait ∷ map item_of rest) u lt) ∙ g)))
        (λ (ge : length (replicate k item.Wait) ≤ u). last (u - k) (let m = length-waits k in omega arith)
        (sym (get_behind (replicate k item.Wait) (all_keys_scan ∷ item.Wait ∷ map item_of rest) u (u - k) (let m = length-waits k in omega arith)) ∙ g))
        (cases_lt u (length (replicate k item.Wait)))

-- so the scan is the first worker's
pub first_workers : (workers : ℕ) (items : List RollItem) → 0 < workers → IsFirstWorkers workers (asked_items workers items)
first_workers workers items some i l e t = go (table_stands items)
  where
    q : ℕ
    q = updates_above items

    is_item : IsItemOf 1 (asked_items workers items) l
    is_item = subst (IsItemOf 1 (asked_items workers items)) (get_or_from_slice_get (lines_of 1 (asked_items workers items)) i l l e) (lines_are_items 1 (asked_items workers items) i l (slice_get_within (lines_of 1 (asked_items workers items)) i l e))

    go : BeginsWithTable (drop (updates_above items) items) → worker_of workers l ≡ 0
    go (inl none) =
        let all : asked_items workers items ≡ map item_of (take q items) = ap (λ (is : List RollItem). map item_of (take q items) ++ from_table workers q is) none ∙ append-nil (map item_of (take q items)) in
        absurd (no_range (take q items) is_item.0 l.call l.form (ap (λ (xs : List Item). slice_get xs is_item.0) (sym all) ∙ is_item.2) t)
    go (inr table) =
        let at = scan_place (take q items) table.0 (waits_before workers (q + 1)) is_item.0 l.call l.form (ap (λ (xs : List Item). slice_get xs is_item.0) (sym (asked_is workers items table.0 table.1)) ∙ is_item.2) t in
        let n : l.number ≡ q + 1 + waits_before workers (q + 1) + 1 = let a = is_item.1 in let b = at.place in let d = many_first items in omega arith in
        ap (λ (c : Call). dealt_by c l.number % workers) at.call ∙ (ap (λ x. x % workers) n ∙ number_is (q + 1) workers some)
