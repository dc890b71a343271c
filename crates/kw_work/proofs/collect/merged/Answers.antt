use Rattle.std.proofs.Common.{rules, subst, ◌≡◌, ◌≢◌, ◌<◌, ◌≤◌, ℕ, [], ◌∷◌, ◌++◌, length, get_or, set, ◌+◌, replicate, refl, sym, ap, ◌∙◌, arith, List, Vec, take, get_or-set_same, get_or-set_other, Some, slice_get}
use Rattle.std.proofs.lemmas.Bool.{cases_eq}
use Rattle.std.proofs.lemmas.List.{get_or-replicate, get_or_read, take_all}
use Rattle.std.proofs.lemmas.Option.{get_or_from_slice_get, slice_get_within}
use mathlib.Core.Logic.{⊎_elim}
use Rattle.std.specs.declared.alloc.Global.{Global}
use Rattle.kw_work.specs.declared.line.Line.{Line}
use Rattle.kw_line.specs.declared.answer.Answer.{Answer}
use Rattle.kw_work.specs.Dealing.{part, worker_of}
use Rattle.kw_work.specs.Collecting.{merge, answers_of, no_answer, AnswersEach, SameLengths, SameElse}
use Rattle.kw_work.proofs.Shares.{part-nil, in_part}
use Rattle.kw_work.proofs.Merges.{merge-nil, next_at, collect_more, answers_of_is, part_at}
use Rattle.kw_work.proofs.collect.merged.Goals as goal

-- a worker's next answer is there
there : (n : ℕ) (parts now : List (Vec Answer Global)) (next : List ℕ) (lines : List Line) (i w x : ℕ) (d : Line) → length next ≡ n → AnswersEach n lines parts → SameLengths parts now
    → ((u : ℕ) → u < n → get_or next u 0 ≡ length (part n u (take i lines))) → i < length lines → w ≡ worker_of n (get_or lines i d) → w < n → x ≡ get_or next w x → x < length (answers_of now w)
there n parts now next lines i w x d len_next fit lens old lt is below at_x =
    let a : x ≡ length (part n w (take i lines)) = get_or_read next w x (omega arith) at_x 0 ∙ old w below in
    let b : length (part n w (take i lines)) < length (part n w lines) = in_part n w lines i d lt (sym is) in
    let e : length (answers_of parts w) ≡ length (part n w lines) = fit w below in
    let g = lens w in
    omega arith

-- the answers that are still to be taken are as they were
untaken : (n : ℕ) (parts now then : List (Vec Answer Global)) (next : List ℕ) (w x y : ℕ) → length next ≡ n → w < n → x ≡ get_or next w 0 → y ≡ x + 1
    → ((u k : ℕ) → u < n → get_or next u 0 ≤ k → get_or (answers_of now u) k no_answer ≡ get_or (answers_of parts u) k no_answer) → SameElse w x now then
    → (u k : ℕ) → u < n → get_or (set next w y) u 0 ≤ k → get_or (answers_of then u) k no_answer ≡ get_or (answers_of parts u) k no_answer
untaken n parts now then next w x y len below at_x step old else u k lt le = ⊎_elim
    (λ (same : u ≡ w).
    let e : get_or (set next w y) u 0 ≡ y = ap (λ v. get_or (set next w y) v 0) same ∙ get_or-set_same next w y 0 (omega arith) in
    let f : get_or next u 0 ≡ x = ap (λ v. get_or next v 0) same ∙ sym at_x in
    else u k (λ _. ne k (omega arith)) ∙ old u k lt (omega arith))
    (λ (apart : u ≢ w).
    let e : get_or (set next w y) u 0 ≡ get_or next u 0 = get_or-set_other next w u y 0 apart in
    else u k (λ is. absurd (apart is)) ∙ old u k lt (omega arith))
    (cases_eq u w)
  where
    ne : (m : ℕ) → x < m → m ≢ x
    ne m h is = omega arith

within_next : (next : List ℕ) (w n : ℕ) → length next ≡ n → w < n → w < length next
within_next next w n len below = omega arith

-- the answer that is taken is the one for the line
reads : (n : ℕ) (parts now : List (Vec Answer Global)) (next : List ℕ) (lines : List Line) (i w x : ℕ) (d : Line) → length next ≡ n
    → ((u : ℕ) → u < n → get_or next u 0 ≡ length (part n u (take i lines))) → w ≡ worker_of n (get_or lines i d) → w < n → x ≡ get_or next w x
    → get_or (answers_of parts w) x no_answer ≡ get_or (answers_of parts (worker_of n (get_or lines i d))) (length (part n (worker_of n (get_or lines i d)) (take i lines))) no_answer
reads n parts now next lines i w x d len_next old is below at_x =
    let k : x ≡ length (part n w (take i lines)) = get_or_read next w x (omega arith) at_x 0 ∙ old w below in
    ap (λ y. get_or (answers_of parts w) y no_answer) k ∙ ap (λ u. get_or (answers_of parts u) (length (part n u (take i lines))) no_answer) is

pub loop-at-init : goal.loop-at-init
loop-at-init c =
    let zeros : c.in_ok-next.next.items ≡ replicate c.workers-workers.result 0 = search rules in
    record {
      len = search rules;
      parts_len = c.requires.len ∙ sym c.workers-workers.ensures.workers;
      lengths = λ w. refl;
      rest = λ w k lt le. refl;
      next = λ w lt. ap (λ (x : List ℕ). get_or x w 0) zeros ∙ (get_or-replicate _ _ _ _ lt ∙ ap length (sym (part-nil c.workers-workers.result w)));
      answers = c.in_ok-answers.ensures.items ∙ (sym (merge-nil c.workers-workers.result (answers_of c.args.parts.items) no_answer []));
    }

-- the worker that takes a line takes the one at its place
its_worker : (n : ℕ) (lines : List Line) (i w : ℕ) (l : Line) → slice_get lines i ≡ Some l → w ≡ worker_of n l → w ≡ worker_of n (get_or lines i l)
its_worker n lines i w l at is = is ∙ ap (worker_of n) (sym (get_or_from_slice_get lines i l l at))

pub take_answer-answer-requires-clause-place : goal.take_answer-answer-requires-clause-place
take_answer-answer-requires-clause-place c =
    let inv = c.loop-at.invariant in
    let n = c.loop-at.next in
    let e : c.workers-workers.result ≡ c.args.block.now.workers = c.workers-workers.ensures.workers in
    there c.workers-workers.result _ _ _ _ _ _ _ _ (omega (arith, inv.len)) (subst (λ k. AnswersEach k c.args.block.now.lines c.args.parts.items) (sym e) c.requires.each) inv.lengths inv.next (slice_get_within _ _ _ c.line.ensures)
    (its_worker _ c.args.block.now.lines _ _ _ c.line.ensures c.worker-worker.ensures.worker) c.worker-worker.ensures.below c.index.ensures

pub overflow_add-index_mut : goal.overflow_add-index_mut
overflow_add-index_mut c =
    let inv = c.loop-at.invariant in
    let n = c.loop-at.next in
    let p = c.loop-at.parts in
    let e : c.workers-workers.result ≡ c.args.block.now.workers = c.workers-workers.ensures.workers in
    let below = c.worker-worker.ensures.below in
    let inside : c.worker-worker.result < length c.loop-at.parts.items = omega (arith, inv.parts_len) in
    let at = part_at c.loop-at.parts.items c.worker-worker.result inside in
    let v : Vec Answer Global = at.0 in
    let is : length (answers_of c.loop-at.parts.items c.worker-worker.result) ≡ length v.items = ap length (answers_of_is c.loop-at.parts.items c.worker-worker.result v inside (sym (at.1 v))) in
    let here : c.index_mut.result.now < length (answers_of c.loop-at.parts.items c.worker-worker.result) = there c.workers-workers.result _ _ _ _ _ _ _ _ (omega (arith, inv.len)) (subst (λ k. AnswersEach k c.args.block.now.lines c.args.parts.items) (sym e) c.requires.each) inv.lengths inv.next (slice_get_within _ _ _ c.line.ensures)
    (its_worker _ c.args.block.now.lines _ _ _ c.line.ensures c.worker-worker.ensures.worker) below c.index_mut.ensures.value in
    omega arith

pub loop-at-preserved : goal.loop-at-preserved
loop-at-preserved c =
    let inv = c.loop-at.invariant in
    let n = c.loop-at.next in
    let below = c.worker-worker.ensures.below in
    let len : length c.loop-at.next.items ≡ c.workers-workers.result = omega (arith, inv.len) in
    let lt = within_next c.loop-at.next.items c.worker-worker.result c.workers-workers.result len below in
    let at : c.index.result.now ≡ get_or c.loop-at.next.items c.worker-worker.result 0 = get_or_read c.loop-at.next.items c.worker-worker.result c.index.result.now lt c.index.ensures 0 in
    let again : c.index_mut.result.now ≡ get_or c.loop-at.next.items c.worker-worker.result 0 = get_or_read c.loop-at.next.items c.worker-worker.result c.index_mut.result.now lt c.index_mut.ensures.value 0 in
    let a : Answer = get_or (answers_of c.args.parts.items c.worker-worker.result) c.index.result.now no_answer in
    let is : c.take_answer-answer.result ≡ a = c.take_answer-answer.ensures.answer ∙ inv.rest c.worker-worker.result c.index.result.now below (omega arith) in
    let lines : List Line = c.args.block.now.lines in
    let within = slice_get_within lines _ _ c.line.ensures in
    let whose = its_worker c.workers-workers.result lines c.loop-at.at _ c.line.result c.line.ensures c.worker-worker.ensures.worker in
    record {
      len = search rules;
      parts_len = c.take_answer-answer.ensures.len ∙ inv.parts_len;
      lengths = λ w. c.take_answer-answer.ensures.lengths w ∙ inv.lengths w;
      rest = untaken c.workers-workers.result _ _ _ _ _ _ _ len below at (ap (λ k. k + 1) (again ∙ sym at)) inv.rest c.take_answer-answer.ensures.others;
      next = next_at _ _ _ _ _ _ _ len within whose below inv.next (ap (λ k. k + 1) again);
      answers = collect_more c.workers-workers.result (answers_of c.args.parts.items) no_answer _ _ _ _ _ a within inv.answers
          (reads c.workers-workers.result c.args.parts.items c.loop-at.parts.items c.loop-at.next.items _ c.loop-at.at c.worker-worker.result c.index.result.now _ len inv.next whose below c.index.ensures)
          (c.in_ok-push.ensures.items ∙ ap (λ (y : Answer). c.loop-at.answers.items ++ y ∷ []) is);
    }

pub returns : goal.returns
returns c =
    let all = take_all c.loop-at.at c.args.block.now.lines (subst (λ n. n ≤ c.loop-at.at) c.len-at-end.ensures c.loop-at-test.false) in
    c.loop-at.invariant.answers
    ∙ (ap (merge c.workers-workers.result (answers_of c.args.parts.items) no_answer []) all
    ∙ ap (λ k. merge k (answers_of c.args.parts.items) no_answer [] c.args.block.now.lines) c.workers-workers.ensures.workers)
