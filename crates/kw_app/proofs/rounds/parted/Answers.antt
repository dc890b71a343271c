use Rattle.std.proofs.Common.{◌≡◌, ◌∷◌, ◌++◌, ◌+◌, [], length, Ok, Vec, sym, ap, ◌∙◌, refl, subst}
use Rattle.std.specs.declared.alloc.Global.{Global}
use Rattle.std.proofs.lemmas.List.{length_push}
use Rattle.kw_table.specs.declared.pass.Pass.{Pass}
use Rattle.kw_map.specs.Meetings.{AtEach}
use Rattle.kw_line.specs.declared.answer.Answer.{Answer}
use Rattle.kw_app.specs.declared.rounds.Done.{Done}
use Rattle.kw_app.proofs.Each.{each_push}
use Rattle.kw_app.proofs.rounds.parted.Goals as goal

pub loop-done-preserved : goal.loop-done-preserved
loop-done-preserved c =
    let inv = c.loop-done.invariant in
    let d : Done = c.in-Some.done in
    let has_pass = λ (d : Done) (p : Pass). d.pass ≡ p in
    let has_part = λ (d : Done) (v : Vec Answer Global). d.answers ≡ Ok v in
    record {
      passes_len = ap length c.in_ok-push.ensures.items ∙ (length_push c.loop-done.passes.items d.pass ∙ (ap (λ n. n + 1) inv.passes_len ∙ sym (length_push c.loop-done.yielded d)));
      parts_len = ap length c.in_ok-push-2.ensures.items ∙ (length_push c.loop-done.parts.items c.in_ok-part.part ∙ (ap (λ n. n + 1) inv.parts_len ∙ sym (length_push c.loop-done.yielded d)));
      passes = subst (AtEach has_pass (c.loop-done.yielded ++ d ∷ [])) (sym c.in_ok-push.ensures.items) (each_push has_pass c.loop-done.yielded c.loop-done.passes.items d d.pass inv.passes_len inv.passes refl);
      parts = subst (AtEach has_part (c.loop-done.yielded ++ d ∷ [])) (sym c.in_ok-push-2.ensures.items) (each_push has_part c.loop-done.yielded c.loop-done.parts.items d c.in_ok-part.part inv.parts_len inv.parts c.in_ok-part.was);
    }
