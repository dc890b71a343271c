-- A list cut into chunks, of which each gives a part of what the whole gives.
use Rattle.std.proofs.Common.{◌≡◌, ℕ, suc, ◌+◌, ◌*◌, ◌/◌, ◌%◌, ◌<◌, ◌≤◌, min, List, [], ◌∷◌, ◌++◌, length, take, drop, get_or, All, IsOk, IfOk, OnOk, Result, Ok, Err, Vec, sym, subst, ap, ap₂, ◌∙◌, arith}
use Rattle.std.specs.List.{flat_map}
use Rattle.std.specs.Borrow.{Bor}
use Rattle.std.specs.Fork.{slice_chunk, GivesChunks}
use Rattle.std.specs.declared.alloc.Global.{Global}
use Rattle.std.proofs.lemmas.Bool.{cases_lt}
use Rattle.std.proofs.lemmas.List.{take_all, drop-drop}
use Rattle.std.proofs.lemmas.List.Concat.{flat_map-append}
use Rattle.std.proofs.lemmas.Nat.{div-add-mod', mod_below}
use Rattle.std.proofs.Math.Seq.{take-add}
use Rattle.std.proofs.Math.Nat.{add-mul, one-mul, suc-mul, zero-mul}
use mathlib.Core.Logic.{⊎_elim}
use denote.Param.Members.{Shared}
use Rattle.kw_model.specs.declared.memory.Memory.{Memory}
use Rattle.kw_line.specs.declared.answer.Answer.{Answer}
use Rattle.kw_line.specs.Answered.{text}
use Rattle.kw_beside.specs.Texts.{text_in}

-- the chunks of a list, as many as `chunks` makes, hold all of it
pub covered : (count len size : ℕ) → 0 < size → count ≡ len / size + min 1 (len % size) → len ≤ count * size
covered count len size some is =
    let q = len / size in let r = len % size in
    let whole : q * size + r ≡ len = div-add-mod' len size in
    let less : r < size = mod_below len size some in
    ⊎_elim
    (λ h. let e : count ≡ q + 1 = omega arith in let w = ap (λ n. n * size) e ∙ add-mul q 1 size in let o = one-mul size in omega arith)
    (λ h. let e : count ≡ q = omega arith in let w = ap (λ n. n * size) e in omega arith)
    (cases_lt 0 r)

-- where each part gives what its chunk does, the parts give what so many chunks do
flat_map-chunks : {X Y A : Type 0} (f : X → List A) (g : Y → List A) (size : ℕ) (xs : List X) (ys : List Y) → ((n : ℕ) (d : Y) → n < length ys → g (get_or ys n d) ≡ flat_map f (slice_chunk xs size n)) → flat_map g ys ≡ flat_map f (take (length ys * size) xs)
flat_map-chunks f g size xs [] each = ap (λ k. flat_map f (take k xs)) (sym (zero-mul size))
flat_map-chunks f g size xs (y ∷ ys) each =
    let next : (n : ℕ) → suc n * size ≡ size + n * size = λ n. omega (arith, suc-mul n size) in
    let first : g y ≡ flat_map f (take size xs) = each 0 y (omega arith) ∙ ap (λ k. flat_map f (take size (drop k xs))) (zero-mul size) in
    let rest : flat_map g ys ≡ flat_map f (take (length ys * size) (drop size xs)) =
    flat_map-chunks f g size (drop size xs) ys (λ n d lt. each (suc n) d (omega arith) ∙ ap (λ zs. flat_map f (take size zs)) (ap (λ k. drop k xs) (next n) ∙ sym (drop-drop (n * size) size xs))) in
    ap₂ (λ a b. a ++ b) first rest ∙ sym (flat_map-append f (take size xs) (take (length ys * size) (drop size xs))) ∙ ap (flat_map f) (sym (ap (λ k. take k xs) (next (length ys)) ∙ take-add size (length ys * size) xs))

-- what holds of each chunk and its part, by what a call ensures
pub at_each_chunk : {F X R : Type 0} (g : Shared F (ℕ × (Bor (List X) × Unit {0})) R) (f : F) (size : ℕ) (xs : List X) (rs : List R) (P : List X → R → Type 0) → GivesChunks g f size xs rs
    → ((start : ℕ) (chunk : Bor (List X)) (r : R) → g.post f (start, (chunk, tt)) r → P chunk.now r) → (n : ℕ) (d : R) → n < length rs → P (slice_chunk xs size n) (get_or rs n d)
at_each_chunk g f size xs rs P gives each = λ n d lt.
    let part = (gives n d lt).1 in
    subst (λ ys. P ys (get_or rs n d)) part.argument_is.value (each (n * size) part.argument (get_or rs n d) part.call)

-- the text of a part that was made
text_in_made : (part : Result (Vec ℕ Global) Memory) (bytes : List ℕ) → IsOk part → IfOk part (λ text. text.items ≡ bytes) → text_in part ≡ bytes
text_in_made (Ok text) bytes made same = same
text_in_made (Err memory) bytes made same = cc

-- the parts that the chunks of some answers make are, one after the other, the text of the answers
pub printed : (answers : List Answer) (size : ℕ) (parts : List (Result (Vec ℕ Global) Memory)) (result : Result (Vec ℕ Global) Memory) → 0 < size → length parts ≡ length answers / size + min 1 (length answers % size)
    → ((n : ℕ) (d : Result (Vec ℕ Global) Memory) → n < length parts → IfOk (get_or parts n d) (λ part. part.items ≡ text (slice_chunk answers size n))) → OnOk result (All IsOk parts) → IfOk result (λ bytes. bytes.items ≡ flat_map text_in parts) → IfOk result (λ bytes. bytes.items ≡ text answers)
printed answers size parts (Err memory) some count each made joined = joined
printed answers size parts (Ok bytes) some count each made joined =
    joined ∙ flat_map-chunks _ text_in size answers parts (λ n d lt. text_in_made (get_or parts n d) (text (slice_chunk answers size n)) (made n d lt) (each n d lt)) ∙ ap text (take_all (length parts * size) answers (covered (length parts) (length answers) size some count))
