-- What a seat remembers, gathers and answers is in range where its parts are.
use Rattle.std.proofs.Common.{ℕ, zero, suc, ◌≡◌, ◌⊎◌, inl, inr, ◌+◌, ◌-◌, ◌<◌, ◌≤◌, Bool, true, false, Option, Some, None, List, [], ◌∷◌, arith, refl, sym, subst, All, length, nat_lt, if◌then◌else◌, unwrap_or, get_or, slice_get, slice_index, drop}
use Rattle.std.proofs.lemmas.List.Elements.{All-nil, All-cons, All-head, All-tail, All-contains, All-take, All-drop}
use Rattle.std.proofs.lemmas.List.Elements.{All-filter}
use Rattle.std.proofs.lemmas.List.Sums.{length-filter, count_by-le-length}
use Rattle.std.proofs.lemmas.Bool.Decides.{nat_tests}
use Rattle.std.proofs.lemmas.List.{get_or_past}
use Rattle.std.proofs.lemmas.Option.{same_Some, slice_get_cases, slice_get_within, get_or_from_slice_get}
use Rattle.kw_words.specs.declared.sizes.TheConstants.{KEY_END, VALUE_END, VERSION_END}
use Rattle.kw_words.specs.Plain.{IsValue, value_of_word, version_of_word}
use Rattle.kw_words.proofs.PlainWords.{number_word-number_of_word, IsCounted-number_of_word, value_word-value_of_word}
use Rattle.kw_words.specs.declared.scan.ScanWord.{ScanWord}
use Rattle.kw_words.specs.declared.scan.ScanWord.TheVariants.{Quiet, Waiting, Drawn}
use Rattle.kw_words.specs.declared.link.Link.{Link}
use Rattle.kw_words.specs.Scan.{scan_of}
use Rattle.kw_words.proofs.ScanWords.{IsScan-scan_of}
use Rattle.kw_cells.specs.declared.cell.Cell as kw_cell
use Rattle.kw_cells.specs.Cuts.{end_of}
use Rattle.kw_cells.specs.Cells.{best_of, value_in, shown_at, pairs_of}
use Rattle.kw_cells.specs.InOrder.{with_cell}
use Rattle.kw_cells.proofs.InOrder.{length-with_cell, with_cell-all}
use Rattle.kw_cells.specs.Pairs.{with_shown, pairs_along, pairs_between}
use Rattle.kw_cells.proofs.Best.{best_is}
use Rattle.kw_model.specs.declared.call.Call.{Call}
use Rattle.kw_model.specs.declared.call.Call.TheVariants.{Put, Del, Get, Scan, Pin, ScanAt, Unpin}
use Rattle.kw_world.specs.declared.answer.Answer.{Answer}
use Rattle.kw_world.specs.Answers.{answer_found}
use Rattle.kw_world.specs.declared.marks.Mark.{Mark}
use Rattle.kw_world.specs.declared.local.Local.{Local}
use Rattle.kw_world.specs.declared.event.Choice.{Choice}
use Rattle.kw_world.specs.declared.event.Choice.TheVariants.{Begin, Go, Guess, Stop}
use Rattle.kw_world.specs.Sizes.{Sizes}
use Rattle.kw_world.specs.Calls.{first_key, last_key, put_value}
use Rattle.kw_world.specs.Marks.{is_other, unmarked, lesser_of, least_mark}
use Rattle.kw_world.specs.Transition.{row_linked}
use Rattle.kw_world.specs.ScanTransitions.{version_settled, answer_or_stopped}
use Rattle.kw_world.specs.ReadTransitions.{cell_in_hand, gathering}
use Rattle.kw_world.specs.SeekTransitions.{infant}
use Rattle.kw_world.specs.WriteTransitions.{infant_cells}
use Rattle.kw_world.specs.Sane.{IsVersion, IsValueWord, IsLinkBelow, IsRowBelow, IsLocalBelow, IsCall, IsPair, IsAnswer, IsCopy}

-- Marks and versions.

-- the marks of other cells are in range
pub unmarked_in_range : (P : Mark → Type 0) (c : ℕ) (marks : List Mark) → All P marks → All P (unmarked c marks)
unmarked_in_range P c marks h = All-filter (is_other c) P marks h

-- and no more
pub unmarked_few : (c : ℕ) (marks : List Mark) → length (unmarked c marks) ≤ length marks
unmarked_few c marks = omega (arith, length-filter (is_other c) marks, count_by-le-length (is_other c) marks)

-- the mark of the least cell is one of them
pub least_holds : (P : Mark → Type 0) (marks : List Mark) (m : Mark) → least_mark marks ≡ Some m → All P marks → P m
least_holds P [] m e h = let x : None ≡ Some m = e in absurd (cc)
least_holds P (n ∷ marks) m e h = saw (least_mark marks) refl e (λ k f. least_holds P marks k f (All-tail P n marks h))
  where
    saw : (o : Option Mark) → least_mark marks ≡ o → Some (lesser_of n o) ≡ Some m → ((k : Mark) → least_mark marks ≡ Some k → P k) → P m
    saw None f g rest = subst P (same_Some n m g) (All-head P n marks h)
    saw (Some k) f g rest = which (nat_lt k.cell n.cell) g
      where
        which : (b : Bool) → Some (if b then k else n) ≡ Some m → P m
        which true x = subst P (same_Some k m x) (rest k f)
        which false x = subst P (same_Some n m x) (All-head P n marks h)

-- a version's word is its number, and 0 for none
pub unwrap_or-version_of_word : (w : ℕ) → unwrap_or (version_of_word w) 0 ≡ w
unwrap_or-version_of_word w = saw (version_of_word w) refl
  where
    saw : (x : Option ℕ) → version_of_word w ≡ x → unwrap_or x 0 ≡ w
    saw (Some n) e = rw e at (number_word-number_of_word w)
    saw None e = rw e at (number_word-number_of_word w)

-- the version of a cell's word
pub version_in_hand : (w : ℕ) → w < VERSION_END → IsVersion (unwrap_or (version_of_word w) 1)
version_in_hand w o = saw (version_of_word w) refl
  where
    saw : (x : Option ℕ) → version_of_word w ≡ x → IsVersion (unwrap_or x 1)
    saw (Some n) y =
        let same : n ≡ w = rw y at (number_word-number_of_word w) in
        let counted : 1 ≤ n = rw y at (IsCounted-number_of_word w) in
        (counted, omega (arith, same, o))
    saw None y = (omega arith, omega arith)

-- the version that a scan is settled at
pub version_of_scan : (w drawn : ℕ) → IsVersion drawn → IsVersion (version_settled (scan_of w) drawn)
version_of_scan w drawn h = saw (scan_of w) refl
  where
    saw : (x : Option ScanWord) → scan_of w ≡ x → IsVersion (version_settled x drawn)
    saw (Some Quiet) e = h
    saw (Some (Waiting clock)) e = h
    saw (Some (Drawn version)) e = IsScan-scan_of w (Drawn version) e
    saw None e = h

-- Cells and pairs.

-- what the gathered cells and the new one have
pub with_cell_in_range : (P : kw_cell.Cell → Type 0) (c : kw_cell.Cell) (cells : List kw_cell.Cell) → P c → All P cells → All P (with_cell c cells)
with_cell_in_range P c cells p h = with_cell-all P c cells p h

-- what is gathered, whether the cell is put there or not
pub gathered_in_range : (z : Sizes) (P : kw_cell.Cell → Type 0) (value : Option ℕ) (l : Local) → P (cell_in_hand value l) → All P l.gathered → All P (gathering z value l).gathered
gathered_in_range z P value l p h = which (nat_lt (length l.gathered) z.cells)
  where
    which : (b : Bool) → All P (if b then with_cell (cell_in_hand value l) l.gathered else l.gathered)
    which true = with_cell-all P (cell_in_hand value l) l.gathered p h
    which false = h

-- and no more cells than a row has
pub gathered_few : (z : Sizes) (value : Option ℕ) (l : Local) → length l.gathered ≤ z.cells → length (gathering z value l).gathered ≤ z.cells
gathered_few z value l u = which (nat_lt (length l.gathered) z.cells) refl
  where
    which : (b : Bool) → nat_lt (length l.gathered) z.cells ≡ b → length (if b then with_cell (cell_in_hand value l) l.gathered else l.gathered) ≤ z.cells
    which true e = let w : length l.gathered < z.cells = grind (arith, nat_tests) in omega (arith, w, length-with_cell (cell_in_hand value l) l.gathered)
    which false e = u

-- what a version shows is a value in range
pub shown_in_range : (cells : List kw_cell.Cell) (version key value : ℕ) → All IsCopy cells → shown_at cells version key ≡ Some value → value < VALUE_END
shown_in_range cells version key value h e = saw (best_of cells key version) refl e
  where
    saw : (o : Option kw_cell.Cell) → best_of cells key version ≡ o → value_in o ≡ Some value → value < VALUE_END
    saw (Some c) y x = subst IsValue x (All-contains IsCopy cells c h (best_is cells key version c y).among).2
    saw None y x = let f : None ≡ Some value = x in absurd (cc)

-- what a get answers is in range
pub answer_in_range : (cells : List kw_cell.Cell) (version key : ℕ) → All IsCopy cells → IsAnswer (answer_found (shown_at cells version key))
answer_in_range cells version key h = saw (shown_at cells version key) refl
  where
    saw : (o : Option ℕ) → shown_at cells version key ≡ o → IsAnswer (answer_found o)
    saw (Some value) e = shown_in_range cells version key value h e
    saw None e = tt

-- the pairs of some keys
pairs_range : (shown : ℕ → Option ℕ) (low n : ℕ) → ((k v : ℕ) → shown k ≡ Some v → v < VALUE_END) → low + n ≤ KEY_END → All IsPair (pairs_along shown low n)
unfolding pairs_along
pairs_range shown low zero h o = All-nil IsPair
pairs_range shown low (suc n) h o = saw (shown low) refl (pairs_range shown (suc low) n h (omega (arith, o)))
  where
    saw : (x : Option ℕ) → shown low ≡ x → All IsPair (pairs_along shown (suc low) n) → All IsPair (with_shown low x (pairs_along shown (suc low) n))
    saw (Some v) e rest = All-cons IsPair (low, v) (pairs_along shown (suc low) n) (omega (arith, o), h low v e) rest
    saw None e rest = rest

-- the pairs of a row's cells are in range
pub pairs_in_range : (cells : List kw_cell.Cell) (a b version : ℕ) → All IsCopy cells → a < KEY_END → b < KEY_END → All IsPair (pairs_of cells a b version)
unfolding pairs_between
pairs_in_range cells a b version h i o = pairs_range (shown_at cells version) a (suc b - a) (λ k v e. shown_in_range cells version k v h e) (omega (arith, i, o))

-- the value of a word
no_value : value_of_word 0 ≡ None
unfolding value_of_word
no_value = refl

pub value_in_range : (w : ℕ) → IsValueWord w → IsValue (value_of_word w)
value_in_range w (inl e) = subst (λ x. IsValue (value_of_word x)) (sym e) (subst IsValue (sym no_value) tt)
value_in_range w (inr h) = saw (value_of_word w) refl
  where
    saw : (x : Option ℕ) → value_of_word w ≡ x → IsValue x
    saw (Some v) e = let f : VALUE_END + v ≡ w = rw e at (value_word-value_of_word w h.0) in omega (arith, f, h.1)
    saw None e = tt

-- Calls and links.

pub first_in_range : (call : Option Call) → IsCall call → first_key call < KEY_END
first_in_range (Some (Put key value)) h = h.0
first_in_range (Some (Del key)) h = h
first_in_range (Some (Get key)) h = h
first_in_range (Some (Scan from upto)) h = h.0
first_in_range (Some Pin) h = absurd h
first_in_range (Some (ScanAt from upto)) h = absurd h
first_in_range (Some Unpin) h = absurd h
first_in_range None h = omega arith

pub last_in_range : (call : Option Call) → IsCall call → last_key call < KEY_END
last_in_range (Some (Put key value)) h = h.0
last_in_range (Some (Del key)) h = h
last_in_range (Some (Get key)) h = h
last_in_range (Some (Scan from upto)) h = h.1
last_in_range (Some Pin) h = absurd h
last_in_range (Some (ScanAt from upto)) h = absurd h
last_in_range (Some Unpin) h = absurd h
last_in_range None h = omega arith

pub put_in_range : (call : Option Call) → IsCall call → IsValue (put_value call)
put_in_range (Some (Put key value)) h = h.1
put_in_range (Some (Del key)) h = tt
put_in_range (Some (Get key)) h = tt
put_in_range (Some (Scan from upto)) h = tt
put_in_range (Some Pin) h = tt
put_in_range (Some (ScanAt from upto)) h = tt
put_in_range (Some Unpin) h = tt
put_in_range None h = tt

-- the row that a link leads to
pub linked_in_range : (rows r : ℕ) (x : Option Link) → IsLinkBelow rows x → row_linked x ≡ Some r → r < rows
linked_in_range rows r (Some link) h e = subst (IsRowBelow rows) e h
linked_in_range rows r None h e = let x : None ≡ Some r = e in absurd (cc)

-- the answer of a scan that may be stopped
pub stopped_in_range : (answer : Answer) (choice : Choice) → IsAnswer answer → IsAnswer (answer_or_stopped answer choice)
stopped_in_range answer (Begin call) h = h
stopped_in_range answer Go h = h
stopped_in_range answer (Guess r) h = h
stopped_in_range answer Stop h = tt

-- New rows.

-- the taken row at hand is one of the table's
pub infant_in_range : (rows : ℕ) (l : Local) → IsLocalBelow rows l → infant l < rows
infant_in_range rows l b = which (slice_get_cases l.rebalance.taken l.rebalance.at).1
  where
    which : ((x : ℕ) × (l.rebalance.at < length l.rebalance.taken) × (slice_get l.rebalance.taken l.rebalance.at ≡ Some x) × (get_or l.rebalance.taken l.rebalance.at x ≡ x)) ⊎ ((length l.rebalance.taken ≤ l.rebalance.at) × (slice_get l.rebalance.taken l.rebalance.at ≡ None)) → infant l < rows
    which (inl x) = b.rebalance.taken l.rebalance.at 0 x.1
    which (inr x) = subst (λ q. q < rows) (sym (get_or_past l.rebalance.taken l.rebalance.at 0 x.0)) (omega (arith, b.row))

-- what the kept cells have, the one that is written has
pub infant_cell_in_range : (P : kw_cell.Cell → Type 0) (l : Local) (j : ℕ) (c : kw_cell.Cell) → All P l.rebalance.kept → slice_get (infant_cells l) j ≡ Some c → P c
infant_cell_in_range P l j c h e =
    let n : ℕ = slice_index l.rebalance.starts l.rebalance.at in
    let g : All P (infant_cells l) = All-take P (end_of l.rebalance.kept l.rebalance.starts l.rebalance.at - n) (drop n l.rebalance.kept) (All-drop P n l.rebalance.kept h) in
    subst P (get_or_from_slice_get (infant_cells l) j c c e) (g j c (slice_get_within (infant_cells l) j c e))
