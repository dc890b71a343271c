-- The lines of an input: their numbers, and that the blocks have just these lines.
use Rattle.std.proofs.Common.{◌≡◌, ℕ, suc, ◌+◌, ◌<◌, ◌≤◌, ◌==◌, List, [], ◌∷◌, map, refl, ap, ◌∙◌, arith, All}
use Rattle.std.specs.List.{flat_map, onto_first}
use Rattle.std.proofs.lemmas.List.Elements.{All-nil, All-cons, All-head, All-tail, All-weaker}
use Rattle.std.proofs.lemmas.List.Kept.{AllPairs-cons, AllPairs-filter}
use Rattle.kw_line.specs.declared.item.Item.{Item}
use Rattle.kw_line.specs.declared.item.Item.TheVariants as item
use Rattle.kw_line.specs.Line.{calls, forms}
use Rattle.kw_work.specs.declared.line.Line.{Line}
use Rattle.kw_work.specs.Dealing.{line_at, lines_of, blocks_of, part, worker_of}
use Rattle.kw_work.specs.Lines.{IsItemOf, AreRising}
use Rattle.kw_work.proofs.Cuts.{all_onto_first}

-- one item more at the front
later : (n : ℕ) (i : Item) (is : List Item) (ls : List Line) → All (IsItemOf (n + 1) is) ls → All (IsItemOf n (i ∷ is)) ls
later n i is ls all = All-weaker (IsItemOf (n + 1) is) (IsItemOf n (i ∷ is)) (λ l at. let number = at.1 in (suc at.0, omega arith, at.2)) ls all

-- each line is the item of its number
pub lines_are_items : (n : ℕ) (is : List Item) → All (IsItemOf n is) (lines_of n is)
unfolding lines_of
lines_are_items n [] = All-nil (IsItemOf n [])
lines_are_items n (item.Call c f ∷ is) =
    All-cons (IsItemOf n (item.Call c f ∷ is)) (line_at n c f) (lines_of (n + 1) is) (0, omega arith, refl) (later n (item.Call c f) is (lines_of (n + 1) is) (lines_are_items (n + 1) is))
lines_are_items n (item.Wait ∷ is) = later n item.Wait is (lines_of (n + 1) is) (lines_are_items (n + 1) is)

-- the lines make the items' calls
pub calls-lines_of : (n : ℕ) (is : List Item) → map (λ (l : Line). l.call) (lines_of n is) ≡ calls is
unfolding lines_of
calls-lines_of n [] = refl
calls-lines_of n (item.Call c f ∷ is) = ap (λ x. c ∷ x) (calls-lines_of (n + 1) is)
calls-lines_of n (item.Wait ∷ is) = calls-lines_of (n + 1) is

-- the lines have the items' forms
pub forms-lines_of : (n : ℕ) (is : List Item) → map (λ (l : Line). l.form) (lines_of n is) ≡ forms is
unfolding lines_of
forms-lines_of n [] = refl
forms-lines_of n (item.Call c f ∷ is) = ap (λ x. f ∷ x) (forms-lines_of (n + 1) is)
forms-lines_of n (item.Wait ∷ is) = forms-lines_of (n + 1) is

-- the blocks, one after another, are the lines
pub joined-blocks_of : (n : ℕ) (is : List Item) → flat_map (λ b. b) (blocks_of n is) ≡ lines_of n is
unfolding blocks_of lines_of
joined-blocks_of n [] = refl
joined-blocks_of n (item.Call c f ∷ is) = first (line_at n c f) (blocks_of (n + 1) is) ∙ ap (λ x. line_at n c f ∷ x) (joined-blocks_of (n + 1) is)
  where
    first : (l : Line) (bs : List (List Line)) → flat_map (λ b. b) (onto_first l bs) ≡ l ∷ flat_map (λ b. b) bs
    first l [] = refl
    first l (b ∷ bs) = refl
joined-blocks_of n (item.Wait ∷ is) = joined-blocks_of (n + 1) is

-- the line's number is at least this one
abbrev IsFrom : ℕ → Line → Type 0
IsFrom n l = n ≤ l.number

-- from a greater number on is from a smaller one on
from_later : (n : ℕ) (bs : List (List Line)) → All (λ b. All (IsFrom (n + 1)) b) bs → All (λ b. All (IsFrom n) b) bs
from_later n bs all =
    All-weaker (λ b. All (IsFrom (n + 1)) b) (λ b. All (IsFrom n) b) (λ b each. All-weaker (IsFrom (n + 1)) (IsFrom n) (λ l from. omega arith) b each) bs all

-- no line of a block is numbered below the first item
from-blocks_of : (n : ℕ) (is : List Item) → All (λ b. All (IsFrom n) b) (blocks_of n is)
unfolding blocks_of
from-blocks_of n [] = All-cons (λ b. All (IsFrom n) b) [] [] (All-nil (IsFrom n)) (All-nil (λ b. All (IsFrom n) b))
from-blocks_of n (item.Call c f ∷ is) = all_onto_first (IsFrom n) (line_at n c f) (blocks_of (n + 1) is) (omega arith) (from_later n (blocks_of (n + 1) is) (from-blocks_of (n + 1) is))
from-blocks_of n (item.Wait ∷ is) = All-cons (λ b. All (IsFrom n) b) [] (blocks_of (n + 1) is) (All-nil (IsFrom n)) (from_later n (blocks_of (n + 1) is) (from-blocks_of (n + 1) is))

-- of two lines the first has the lower number
abbrev IsBefore : Line → Line → Type 0
IsBefore a b = a.number < b.number

-- no lines rise
rising-nil : AreRising []
rising-nil = λ i j d lt inside. absurd (omega arith)

-- a line with a lower number than all others before those of the first block
rising_onto_first : (n : ℕ) (l : Line) (bs : List (List Line)) → l.number ≡ n → All (λ b. All (IsFrom (n + 1)) b) bs → All AreRising bs → All AreRising (onto_first l bs)
rising_onto_first n l [] at from all = All-cons AreRising (l ∷ []) [] (AllPairs-cons IsBefore l [] (All-nil (IsBefore l)) rising-nil) (All-nil AreRising)
rising_onto_first n l (b ∷ bs) at from all =
    All-cons AreRising (l ∷ b) bs
    (AllPairs-cons IsBefore l b (All-weaker (IsFrom (n + 1)) (IsBefore l) (λ m low. omega arith) b (All-head (λ b. All (IsFrom (n + 1)) b) b bs from)) (All-head AreRising b bs all))
    (All-tail AreRising b bs all)

-- the lines of each block rise
rising-blocks_of : (n : ℕ) (is : List Item) → All AreRising (blocks_of n is)
unfolding blocks_of
rising-blocks_of n [] = All-cons AreRising [] [] rising-nil (All-nil AreRising)
rising-blocks_of n (item.Call c f ∷ is) = rising_onto_first n (line_at n c f) (blocks_of (n + 1) is) refl (from-blocks_of (n + 1) is) (rising-blocks_of (n + 1) is)
rising-blocks_of n (item.Wait ∷ is) = All-cons AreRising [] (blocks_of (n + 1) is) rising-nil (rising-blocks_of (n + 1) is)

-- and so do those of one worker
pub rising-part : (n workers worker : ℕ) (is : List Item) → All (λ b. AreRising (part workers worker b)) (blocks_of n is)
unfolding part
rising-part n workers worker is =
    All-weaker AreRising (λ b. AreRising (part workers worker b)) (λ b rising. AllPairs-filter IsBefore (λ l. worker_of workers l == worker) b rising) (blocks_of n is) (rising-blocks_of n is)
