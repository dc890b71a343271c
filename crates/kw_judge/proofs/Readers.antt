-- What readers of numbers, names and pairs find, and that nothing else would have been there.
use Rattle.std.proofs.Common.{ℕ, suc, ◌≡◌, ◌≢◌, ◌<◌, ◌≤◌, ◌^◌, leb, List, [], ◌∷◌, ◌++◌, Option, Bool, false, MatchOption, refl, sym, ◌∙◌, arith, ◌⊎◌, inl, inr}
use Rattle.std.specs.Fmt.{decimal}
use Rattle.std.specs.Bool.{then_some}
use Rattle.std.proofs.lemmas.Bool.{cases_lt, le-leb, lt-leb}
use Rattle.std.proofs.lemmas.Fmt.{decimal_injective}
use Rattle.kw_line.proofs.Parts.{HasNo}
use Rattle.kw_judge.proofs.Marks.{no_mark_decimal}

-- what is to be shown of bytes of which a number between two others is wanted
abbrev pub Between : ℕ → ℕ → List ℕ → Option ℕ → Type 0
Between least most bytes o = MatchOption o ((n : ℕ) → least ≤ n → n ≤ most → bytes ≢ decimal n) (λ n. (least ≤ n) × (n ≤ most) × (bytes ≡ decimal n))

pub between : (least most k : ℕ) (bytes : List ℕ) (b : Bool) → most < 2 ^ 64 → k < 2 ^ 64 → bytes ≡ decimal k → ((least ≤ k) × (b ≡ leb k most)) ⊎ ((k < least) × (b ≡ false)) → Between least most bytes (then_some b k)
between least most k bytes b m h e (inl s) = elim (cases_lt most k) as (λ _. Between least most bytes (then_some b k)) [
  | inl above ↦ rw (s.1, lt-leb k most above) (λ n lo hi f. absurd (omega (arith, decimal_injective n k (omega arith) (omega arith) (sym f ∙ e), hi, above)))
  | inr within ↦ rw (s.1, le-leb k most within) (s.0, within, e)
]
between least most k bytes b m h e (inr s) = rw s.1 (λ n lo hi f. absurd (omega (arith, decimal_injective n k (omega arith) (omega arith) (sym f ∙ e), lo, s.0)))

-- Cutting at the first byte of a kind.

later : (mark b : ℕ) (bs : List ℕ) → HasNo mark (b ∷ bs) → HasNo mark bs
later mark b bs h k d l = h (suc k) d (omega arith)

-- bytes are cut in one way
pub one_cut : (mark : ℕ) (a b x y : List ℕ) → HasNo mark a → HasNo mark b → a ++ mark ∷ x ≡ b ++ mark ∷ y → (a ≡ b) × (x ≡ y)
one_cut mark [] [] x y h k e = (refl, cc)
one_cut mark [] (b ∷ bs) x y h k e = let same : mark ≡ b = cc in absurd (k 0 0 (omega arith) (sym same))
one_cut mark (c ∷ cs) [] x y h k e = let same : c ≡ mark = cc in absurd (h 0 0 (omega arith) same)
one_cut mark (c ∷ cs) (b ∷ bs) x y h k e =
    let first : c ≡ b = cc in
    let rest : cs ++ mark ∷ x ≡ bs ++ mark ∷ y = cc in
    let i = one_cut mark cs bs x y (later mark c cs h) (later mark b bs k) rest in
    let tails = i.0 in
    (cc, i.1)

-- where the mark is nowhere, nothing is cut there
pub no_cut : (mark : ℕ) (a b x : List ℕ) → HasNo mark a → a ≡ b ++ mark ∷ x → ⊥
no_cut mark [] [] x h e = cc
no_cut mark [] (b ∷ bs) x h e = cc
no_cut mark (c ∷ cs) [] x h e = let same : c ≡ mark = cc in h 0 0 (omega arith) same
no_cut mark (c ∷ cs) (b ∷ bs) x h e = let rest : cs ≡ bs ++ mark ∷ x = cc in no_cut mark cs bs x (later mark c cs h) rest

-- Two numbers with a mark between them, of which one is not there.

pub no_first : (mark least most : ℕ) (text a b : List ℕ) → (48 ≤ mark → mark < 58 → ⊥) → most < 2 ^ 64 → text ≡ a ++ mark ∷ b → HasNo mark a → ((n : ℕ) → least ≤ n → n ≤ most → a ≢ decimal n) → (n : ℕ) (x : List ℕ) → least ≤ n → n ≤ most → text ≢ decimal n ++ mark ∷ x
no_first mark least most text a b o m e h none n x lo hi f = none n lo hi (one_cut mark a (decimal n) b x h (no_mark_decimal mark n o (omega arith)) (sym e ∙ f)).0

pub no_second : (mark least most : ℕ) (text a b : List ℕ) → (48 ≤ mark → mark < 58 → ⊥) → text ≡ a ++ mark ∷ b → HasNo mark a → ((n : ℕ) → least ≤ n → n ≤ most → b ≢ decimal n) → (m n : ℕ) → m < 2 ^ 64 → least ≤ n → n ≤ most → text ≢ decimal m ++ mark ∷ decimal n
no_second mark least most text a b o e h none m n small lo hi f = none n lo hi (one_cut mark a (decimal m) b (decimal n) h (no_mark_decimal mark m o small) (sym e ∙ f)).1
