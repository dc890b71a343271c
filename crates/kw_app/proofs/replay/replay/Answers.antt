-- The text of the replies to the lines of an input.
use Rattle.std.proofs.Common.{ℕ, List, refl, ◌∙◌, ap, subst}
use Rattle.kw_line.specs.declared.answer.Answer.{Answer}
use Rattle.kw_line.specs.declared.item.Item.{Item}
use Rattle.kw_line.specs.Answered.{text}
use Rattle.kw_line.specs.Line.{AreLinesOf}
use Rattle.kw_app.specs.Answering.{IsRun, opening, some_refused}
use Rattle.kw_app.specs.Ending.{refusal_ending}
use Rattle.kw_app.proofs.replay.replay.Goals as goal

pub returns-clause-text : goal.returns-clause-text
returns-clause-text g c =
    let items = c.in_ok-items.items.items in
    let answers = c.in_ok-front.answers.items in
    let begins = opening c.args.crew.now.workers c.args.crew.now.rows in
    record {
      items = items;
      lines = subst (λ (bytes : List ℕ). AreLinesOf bytes items) c.deref.ensures.value c.in_ok-items.ensures.items;
      replies = record {
        answers = answers;
        answered = record {
          pass = c.in_ok-front.front;
          front_is = refl;
          run = subst (λ (l : List Item). IsRun begins l answers c.in_ok-front.front) c.deref-2.ensures.value c.in_ok-front.ensures;
        };
        text_is = c.in_ok-text.ensures ∙ ap text c.deref-3.ensures.value;
        ending_is = c.of_answers-ending.ensures ∙ ap (λ (l : List Answer). refusal_ending (some_refused l)) c.deref-4.ensures.value;
      };
    }
