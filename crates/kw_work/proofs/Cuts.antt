-- Items cut into blocks: the lines of a block whose items are all calls, and the blocks of the
-- items from where a block begins.
use Rattle.std.proofs.Common.{◌≡◌, ℕ, zero, suc, ◌+◌, ◌-◌, ◌<◌, ◌≤◌, List, [], ◌∷◌, ◌++◌, length, map, take, drop, get_or, refl, ap, sym, ◌∙◌, subst, All, Some, slice_get, slice_range, arith, append_assoc, length-drop}
use Rattle.std.specs.List.{onto_first, AllByRecursion, AllWithin}
use Rattle.std.proofs.lemmas.List.{map-append, drop_more, get_or-take, get_or-drop, get_or_default, length-take-le, take_all}
use Rattle.std.proofs.lemmas.List.Folds.{drop_split}
use Rattle.std.proofs.lemmas.List.Elements.{All-nil, All-cons, All-head, All-tail, AllWithin-more}
use Rattle.kw_model.specs.declared.call.Call.{Call}
use Rattle.kw_line.specs.declared.item.Form.{Form}
use Rattle.kw_line.specs.declared.item.Item.{Item}
use Rattle.kw_line.specs.declared.item.Item.TheVariants as item
use Rattle.kw_work.specs.declared.line.Line.{Line}
use Rattle.kw_line.specs.Line.{IsItem}
use Rattle.kw_work.specs.Dealing.{Dealt, IsLine, IsCall, line_at, lines_of, blocks_of}

-- calls have a line each
pub length-lines_of : (n : ℕ) (is : List Item) → All IsCall is → length (lines_of n is) ≡ length is
unfolding lines_of
length-lines_of n [] all = refl
length-lines_of n (item.Call c f ∷ is) all = ap suc (length-lines_of (n + 1) is (All-tail IsCall (item.Call c f) is all))
length-lines_of n (item.Wait ∷ is) all = absurd (All-head IsCall item.Wait is all)

-- so a place of a line is one of an item
pub within_items : (n : ℕ) (is : List Item) (lines : List Line) (at : ℕ) → All IsCall is → lines_of n is ≡ lines → at < length lines → at < length is
within_items n is lines at all same lt = let long : length lines ≡ length is = ap length (sym same) ∙ length-lines_of n is all in omega arith

-- the line at a place is of the call there
pub slice_get-lines_of : (n : ℕ) (is : List Item) (i : ℕ) (d : Item) (c : Call) (f : Form) → All IsCall is → i < length is → get_or is i d ≡ item.Call c f → slice_get (lines_of n is) i ≡ Some (line_at (n + i) c f)
unfolding lines_of
slice_get-lines_of n [] i d c f all lt at = absurd (omega arith)
slice_get-lines_of n (item.Wait ∷ is) i d c f all lt at = absurd (All-head IsCall item.Wait is all)
slice_get-lines_of n (item.Call b g ∷ is) zero d c f all lt at =
    let same : line_at n b g ≡ line_at n c f = cc in
    ap Some same ∙ ap (λ m. Some (line_at m c f)) (omega arith)
slice_get-lines_of n (item.Call b g ∷ is) (suc i) d c f all lt at =
    slice_get-lines_of (n + 1) is i d c f (All-tail IsCall (item.Call b g) is all) (omega arith) at ∙ ap (λ m. Some (line_at m c f)) (omega arith)

-- calls up to a wait are the first block
blocks-wait : (n : ℕ) (xs is : List Item) → All IsCall xs → blocks_of n (xs ++ item.Wait ∷ is) ≡ lines_of n xs ∷ blocks_of (n + length xs + 1) is
unfolding blocks_of lines_of
blocks-wait n [] is all = ap (λ m. [] ∷ blocks_of m is) (omega arith)
blocks-wait n (item.Call c f ∷ xs) is all =
    ap (onto_first (line_at n c f)) (blocks-wait (n + 1) xs is (All-tail IsCall (item.Call c f) xs all)) ∙ ap (λ m. (line_at n c f ∷ lines_of (n + 1) xs) ∷ blocks_of m is) (omega arith)
blocks-wait n (item.Wait ∷ xs) is all = absurd (All-head IsCall item.Wait xs all)

-- calls up to the end are the one block
blocks-calls : (n : ℕ) (xs : List Item) → All IsCall xs → blocks_of n xs ≡ lines_of n xs ∷ []
unfolding blocks_of lines_of
blocks-calls n [] all = refl
blocks-calls n (item.Call c f ∷ xs) all = ap (onto_first (line_at n c f)) (blocks-calls (n + 1) xs (All-tail IsCall (item.Call c f) xs all))
blocks-calls n (item.Wait ∷ xs) all = absurd (All-head IsCall item.Wait xs all)

-- what holds from one place to another holds of what stands between them
pub all_between : (P : Item → Type 0) (xs : List Item) (low high : ℕ) → AllWithin P xs low high → high ≤ length xs → All P (slice_range xs low high)
all_between P xs low high all within k d lt =
    let long : length (take (high - low) (drop low xs)) ≡ high - low = length-take-le (high - low) (drop low xs) (subst (λ m. high - low ≤ m) (sym (length-drop low xs)) (omega arith)) in
    let inside : k < high - low = omega arith in
    subst P (sym (get_or-take (high - low) (drop low xs) k d inside ∙ get_or-drop low xs k d)) (all (low + k) d (omega arith) (omega arith))

-- the lines of each block
abbrev pub lists : List Dealt → List (List Line)
lists bs = map (λ (b : Dealt). b.lines) bs

-- one block more
pub lists-push : (bs : List Dealt) (b : Dealt) (ls : List Line) → b.lines ≡ ls → lists (bs ++ b ∷ []) ≡ lists bs ++ ls ∷ []
lists-push bs b ls is = map-append (λ (x : Dealt). x.lines) bs (b ∷ []) ∙ ap (λ x. lists bs ++ x ∷ []) is

-- an item that is no wait is a call
no_wait : (i : Item) → (i ≡ item.Wait → ⊥) → IsCall i
no_wait (item.Call c f) ne = tt
no_wait item.Wait ne = ne refl

-- one call more
pub more_calls : (items : List Item) (start i : ℕ) (d : Item) → i < length items → (get_or items i d ≡ item.Wait → ⊥) → AllWithin IsCall items start i → AllWithin IsCall items start (i + 1)
more_calls items start i d lt ne all = AllWithin-more IsCall items start i all (λ e. subst IsCall (get_or_default items i d e lt) (no_wait (get_or items i d) ne))

-- a wait ends the block at hand
pub deal_wait : (done later : List (List Line)) (lines : List Line) (start i : ℕ) (d : Item) (items : List Item) (all : List (List Line)) → i < length items → start ≤ i → All IsCall (slice_range items start i)
    → get_or items i d ≡ item.Wait → later ≡ done ++ lines ∷ [] → lines ≡ lines_of (start + 1) (slice_range items start i) → done ++ blocks_of (start + 1) (drop start items) ≡ all
    → later ++ blocks_of (i + 1 + 1) (drop (i + 1) items) ≡ all
deal_wait done later lines start i d items all lt le calls is push same old =
    let xs : List Item = slice_range items start i in
    let rest : List Item = drop (i + 1) items in
    let here : drop start items ≡ xs ++ item.Wait ∷ rest = drop_split items start i le ∙ ap (λ x. xs ++ x) (drop_more items i d lt ∙ ap (λ x. x ∷ rest) is) in
    let room : i - start ≤ length (drop start items) = subst (λ m. i - start ≤ m) (sym (length-drop start items)) (omega arith) in
    let long : length xs ≡ i - start = length-take-le (i - start) (drop start items) room in
    let number : start + 1 + length xs + 1 ≡ i + 1 + 1 = omega arith in
    let cut : blocks_of (start + 1) (drop start items) ≡ lines_of (start + 1) xs ∷ blocks_of (i + 1 + 1) rest = ap (blocks_of (start + 1)) here ∙ (blocks-wait (start + 1) xs rest calls ∙ ap (λ m. lines_of (start + 1) xs ∷ blocks_of m rest) number) in
    ap (λ x. x ++ blocks_of (i + 1 + 1) rest) push
    ∙ (append_assoc done (lines ∷ []) (blocks_of (i + 1 + 1) rest)
    ∙ (ap (λ x. done ++ x ∷ blocks_of (i + 1 + 1) rest) same
    ∙ (ap (λ x. done ++ x) (sym cut) ∙ old)))

-- the end ends the last block
pub deal_end : (done later : List (List Line)) (lines : List Line) (start : ℕ) (items : List Item) (all : List (List Line)) → All IsCall (slice_range items start (length items)) → later ≡ done ++ lines ∷ []
    → lines ≡ lines_of (start + 1) (slice_range items start (length items)) → done ++ blocks_of (start + 1) (drop start items) ≡ all → later ≡ all
deal_end done later lines start items all calls push same old =
    let xs : List Item = slice_range items start (length items) in
    let whole : xs ≡ drop start items = take_all (length items - start) (drop start items) (subst (λ m. m ≤ length items - start) (sym (length-drop start items)) (omega arith)) in
    push ∙ (ap (λ x. done ++ x ∷ []) same ∙ (ap (λ x. done ++ x) (sym (blocks-calls (start + 1) xs calls)) ∙ (ap (λ x. done ++ blocks_of (start + 1) x) whole ∙ old)))

-- a line before the first block's keeps what holds of the lines of every block
pub all_onto_first : (P : Line → Type 0) (l : Line) (bs : List (List Line)) → P l → All (λ b. All P b) bs → All (λ b. All P b) (onto_first l bs)
all_onto_first P l [] is all = All-cons (λ b. All P b) (l ∷ []) [] (All-cons P l [] is (All-nil P)) (All-nil (λ b. All P b))
all_onto_first P l (b ∷ bs) is all =
    All-cons (λ b. All P b) (l ∷ b) bs (All-cons P l b is (All-head (λ b. All P b) b bs all)) (All-tail (λ b. All P b) b bs all)

-- each line of the list makes a call of its form
abbrev pub AreLines : List Line → Type 0
AreLines ls = All IsLine ls

-- where each item is one, the lines of the blocks are
pub AreLines-blocks_of : (n : ℕ) (is : List Item) → AllByRecursion IsItem is → All AreLines (blocks_of n is)
unfolding blocks_of
AreLines-blocks_of n [] all = All-cons AreLines [] [] (All-nil IsLine) (All-nil AreLines)
AreLines-blocks_of n (item.Call c f ∷ is) all = all_onto_first IsLine (line_at n c f) (blocks_of (n + 1) is) all.0 (AreLines-blocks_of (n + 1) is all.1)
AreLines-blocks_of n (item.Wait ∷ is) all = All-cons AreLines [] (blocks_of (n + 1) is) (All-nil IsLine) (AreLines-blocks_of (n + 1) is all.1)

-- what holds of the lines of each block
lists_all : (bs : List Dealt) → All AreLines (lists bs) → All (λ (b : Dealt). AreLines b.lines) bs
lists_all [] all = All-nil (λ (b : Dealt). AreLines b.lines)
lists_all (b ∷ bs) all =
    All-cons (λ (x : Dealt). AreLines x.lines) b bs (All-head AreLines b.lines (lists bs) all) (lists_all bs (All-tail AreLines b.lines (lists bs) all))

-- the same of blocks that are those of the items
pub AreLines-dealt : (bs : List Dealt) (n : ℕ) (is : List Item) → lists bs ≡ blocks_of n is → AllByRecursion IsItem is → All (λ (b : Dealt). AreLines b.lines) bs
AreLines-dealt bs n is same all = lists_all bs (subst (λ x. All AreLines x) (sym same) (AreLines-blocks_of n is all))
