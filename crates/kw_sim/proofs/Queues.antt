-- The first call of a queue.
use Rattle.std.proofs.Common.{ℕ, zero, suc, ◌≡◌, ◌≤◌, ◌-◌, List, ◌∷◌, ◌++◌, Option, Some, sym, ap, subst, ◌∙◌, arith}
use Rattle.std.specs.Prelude.{replicate}
use Rattle.std.specs.List.{AllByRecursion}
use Rattle.std.specs.Option.{option_to_list}
use Rattle.kw_model.specs.declared.call.Call.{Call}
use Rattle.kw_sim.specs.declared.queue.Run.{Run}
use Rattle.kw_sim.specs.Queue.{run_calls, all_calls, IsRun}

-- a run that is not empty begins with its call
one_less : (n : ℕ) (call : Call) (calls : List Call) → 1 ≤ n → replicate n call ++ calls ≡ call ∷ (replicate (n - 1) call ++ calls)
one_less zero call calls h = absurd (omega arith)
one_less (suc n) call calls h = let e : n ≡ suc n - 1 = omega arith in ap (λ (m : ℕ). call ∷ (replicate m call ++ calls)) e

-- the first run is not empty
pub first_is : (old : List Call) (first : Run) (later : List Run) → 1 ≤ first.count → run_calls first ++ all_calls later ≡ old → old ≡ first.call ∷ (replicate (first.count - 1) first.call ++ all_calls later)
first_is old first later h e = sym e ∙ one_less first.count first.call (all_calls later) h

-- the first run is empty, and the next one is not
pub next_is : (old : List Call) (first run : Run) (later rest : List Run) (o : Option Run) → first.count ≡ 0 → run_calls first ++ all_calls later ≡ old → o ≡ Some run → later ≡ option_to_list o ++ rest → AllByRecursion IsRun later → old ≡ run.call ∷ (replicate (run.count - 1) run.call ++ all_calls rest)
next_is old first run later rest o none e is l runs =
    let cut : later ≡ run ∷ rest = l ∙ ap (λ (x : Option Run). option_to_list x ++ rest) is in
    let some = (subst (AllByRecursion IsRun) cut runs).0.0 in
    sym e ∙ (ap (λ (n : ℕ). replicate n first.call ++ all_calls later) none ∙ (ap all_calls cut ∙ one_less run.count run.call (all_calls rest) some))
