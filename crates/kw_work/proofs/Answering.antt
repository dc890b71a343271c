-- Workers that answer their lines one worker after another.
use Rattle.std.proofs.Common.{◌≡◌, ℕ, ◌+◌, ◌<◌, List, [], ◌∷◌, ◌++◌, length, map, get_or, ap, sym, ◌∙◌, arith, Vec}
use Rattle.std.proofs.lemmas.Bool.{cases_eq}
use Rattle.std.proofs.lemmas.List.{map-append, get_or_append_left, get_or_push, length-map}
use mathlib.Core.Logic.{⊎_elim}
use Rattle.std.specs.declared.alloc.Global.{Global}
use Rattle.kw_work.specs.declared.line.Line.{Line}
use Rattle.kw_line.specs.declared.answer.Answer.{Answer}
use Rattle.kw_work.specs.Dealing.{part}
use Rattle.kw_work.specs.Collecting.{answers_of}

-- the first workers have as many answers as lines
abbrev pub AnswersFirst : ℕ → ℕ → List Line → List (Vec Answer Global) → Type 0
AnswersFirst first workers lines parts = (worker : ℕ) → worker < first → length (answers_of parts worker) ≡ length (part workers worker lines)

-- and so have these and the next one
pub answers_first_more : (first n : ℕ) (lines mine : List Line) (parts : List (Vec Answer Global)) (v : Vec Answer Global) → length parts ≡ first
    → mine ≡ part n first lines → length v.items ≡ length mine → AnswersFirst first n lines parts → AnswersFirst (first + 1) n lines (parts ++ v ∷ [])
answers_first_more first n lines mine parts v len is own each w lt =
    let items : Vec Answer Global → List Answer = λ (x : Vec Answer Global). x.items in
    let more : map items (parts ++ v ∷ []) ≡ map items parts ++ v.items ∷ [] = map-append items parts (v ∷ []) in
    let long : length (map items parts) ≡ length parts = length-map parts items in
    ⊎_elim
    (λ (same : w ≡ first).
    ap (λ x. length (get_or x w [])) more
    ∙ (ap length (get_or_push (map items parts) v.items [] w (omega arith)) ∙ (own ∙ ap length (is ∙ ap (λ k. part n k lines) (sym same)))))
    (λ (ne : (w ≡ first) → ⊥).
    let before : w < first = omega arith in
    ap (λ x. length (get_or x w [])) more ∙ (ap length (get_or_append_left (map items parts) (v.items ∷ []) [] w (omega arith)) ∙ each w before))
    (cases_eq w first)
