-- How what the workers have for their lines is put into line order.
use Rattle.std.specs.Prelude.{◌≡◌, ◌≢◌, ℕ, ◌<◌, List, [], ◌∷◌, ◌++◌, length, map, slice_index_or, Vec}
use Rattle.std.specs.declared.alloc.Global.{Global}
use Rattle.kw_line.specs.declared.answer.Answer.{Answer}
use Rattle.kw_line.specs.declared.answer.Answer.TheVariants.{Nothing}
use Rattle.kw_work.specs.declared.line.Line.{Line}
use Rattle.kw_work.specs.Dealing.{worker_of, part}

-- of each line in line order, what its worker has for it: the i-th that the worker has, for the
-- i-th of the worker's lines. The lines before these ones were dealt too, and `none` stands where a
-- worker has too few
unfoldable pub merge : {A : Type 0} → ℕ → (ℕ → List A) → A → List Line → List Line → List A
merge workers has none before [] = []
merge workers has none before (l ∷ ls) =
    slice_index_or (has (worker_of workers l)) (length (part workers (worker_of workers l) before)) none ∷ merge workers has none (before ++ l ∷ []) ls

-- what a worker answers
abbrev pub answers_of : List (Vec Answer Global) → ℕ → List Answer
answers_of parts worker = slice_index_or (map (λ (v : Vec Answer Global). v.items) parts) worker []

-- what stands where no worker has an answer
abbrev pub no_answer : Answer
no_answer = Nothing

-- each worker has as many answers as lines: one for each, in their order
abbrev pub AnswersEach : ℕ → List Line → List (Vec Answer Global) → Type 0
AnswersEach workers lines parts = (worker : ℕ) → worker < workers → length (answers_of parts worker) ≡ length (part workers worker lines)

-- each worker has as many answers as before
abbrev pub SameLengths : List (Vec Answer Global) → List (Vec Answer Global) → Type 0
SameLengths old new = (worker : ℕ) → length (answers_of new worker) ≡ length (answers_of old worker)

-- all answers but the one at this place of this worker's are as before
abbrev pub SameElse : ℕ → ℕ → List (Vec Answer Global) → List (Vec Answer Global) → Type 0
SameElse worker place old new =
    (w k : ℕ) → (w ≡ worker → k ≢ place) → slice_index_or (answers_of new w) k no_answer ≡ slice_index_or (answers_of old w) k no_answer
