use Rattle.std.proofs.Common.{◌≡◌, ◌∷◌, ◌++◌, ◌+◌, [], List, suc, length, All, ap, sym, ◌∙◌, subst, arith, append-nil, append_assoc}
use Rattle.std.proofs.lemmas.List.{length_push, nil_from_length}
use Rattle.kw_table.specs.declared.pass.Pass.{Pass}
use Rattle.kw_app.specs.declared.rounds.Done.{Done}
use Rattle.kw_map.specs.Kiwi.{IsIdle}
use Rattle.kw_map.specs.Meetings.{AtEach}
use Rattle.kw_app.specs.Rounds.{AreDone, IsDone}
use Rattle.kw_app.proofs.Each.{each_push}
use Rattle.kw_app.proofs.sharing.finish_in_turn.Goals as goal

pub loop-pass-preserved : goal.loop-pass-preserved
loop-pass-preserved g c =
    let inv = c.loop-pass.invariant in
    let m = c.args.kiwi.now in
    let b = c.args.block.now in
    let pass : Pass = c.in-Some.pass in
    let done : Done = record { pass = c.work-answers.new.pass; answers = c.work-answers.result } in
    let is_done : IsDone m b pass done = record { idle = c.work-answers.ensures.idle; goes = c.work-answers.ensures.goes; works = c.work-answers.ensures.works } in
    let first = c.in-Some.ensures {u = tt} in
    let left : All (IsIdle m) (pass ∷ c.next.new.self.rest.items) = subst (All (IsIdle m)) first.steps.0 inv.idle in
    record {
      len = ap length c.in_ok-push.ensures.items ∙ (length_push c.loop-pass.dones.items done ∙ (ap (λ n. n + 1) inv.len ∙ sym (length_push c.loop-pass.yielded pass)));
      each = subst (AtEach (IsDone m b) (c.loop-pass.yielded ++ pass ∷ [])) (sym c.in_ok-push.ensures.items) (each_push (IsDone m b) c.loop-pass.yielded c.loop-pass.dones.items pass done inv.len inv.each is_done);
      whole = append_assoc c.loop-pass.yielded (pass ∷ []) c.next.new.self.rest.items ∙ (ap (λ (ps : List Pass). c.loop-pass.yielded ++ ps) (sym first.steps.0) ∙ inv.whole);
      idle = λ k d lt. left (suc k) d (omega arith);
    }

pub returns : goal.returns
returns g c =
    let inv = c.loop-pass.invariant in
    let none = c.in-None.ensures {u = tt} in
    let rest : List Pass = c.loop-pass.pass-iterator.rest.items in
    let empty : length rest ≡ 0 = omega (arith, none.steps.0) in
    let all : c.loop-pass.yielded ≡ c.args.passes.items =
    sym (append-nil c.loop-pass.yielded) ∙ (ap (λ (ps : List Pass). c.loop-pass.yielded ++ ps) (sym (nil_from_length rest empty)) ∙ inv.whole) in
    subst (λ (ps : List Pass). AreDone c.args.kiwi.now c.args.block.now ps c.loop-pass.dones.items) all (record { len = inv.len; each = inv.each })
