-- The answers to the generated lines, and their summary.
use Rattle.std.proofs.Common.{◌≡◌, ◌<◌, ◌^◌, Bool, true, false, List, length, Some, refl, sym, ◌∙◌, ap, subst}
use Rattle.kw_line.specs.declared.answer.Answer.{Answer}
use Rattle.kw_line.specs.declared.item.Item.{Item}
use Rattle.kw_app.specs.declared.printed.Ending.TheVariants as ending
use Rattle.kw_app.specs.Answering.{IsAnswered, IsRun, opening, some_refused}
use Rattle.kw_app.specs.Ending.{refusal_ending}
use Rattle.kw_app.specs.Generated.{generated}
use Rattle.kw_app.specs.Summary.{summary}
use Rattle.kw_app.proofs.QuietGenerated.{generated_answers, generated_is_few}
use Rattle.kw_app.proofs.gen_command.summarized.Goals as goal

-- where nothing is said of the replies none is a refusal
none_refused : (b : Bool) → refusal_ending b ≡ ending.Done → b ≡ false
none_refused true e = absurd cc
none_refused false e = refl

pub run_on_map-requires-clause-few : goal.run_on_map-requires-clause-few
run_on_map-requires-clause-few g c κs within =
    subst (λ (items : List Item). length items < 2 ^ 32) (sym (c.deref.ensures.value ∙ c.in_ok-items.ensures.lines)) (generated_is_few c.args.start c.args.count c.requires)

pub returns : goal.returns
returns g c =
    let items = generated c.args.start c.args.count in
    let workers = c.args.crew.now.workers in
    let rows = c.args.crew.now.rows in
    let answers : List Answer = c.in_ok-front.answers.items in
    let answered : IsAnswered workers rows items answers (Some c.in_ok-front.front) = record {
      pass = c.in_ok-front.front;
      front_is = refl;
      run = subst (λ (l : List Item). IsRun (opening workers rows) l answers c.in_ok-front.front) (c.deref.ensures.value ∙ c.in_ok-items.ensures.lines) c.in_ok-front.ensures;
    } in
    let text_is : c.in_ok-text.text.items ≡ summary items answers =
    c.in_ok-text.ensures ∙ (ap (λ (l : List Item). summary l c.deref-3.result.now) (c.deref-2.ensures.value ∙ c.in_ok-items.ensures.lines) ∙ ap (summary items) c.deref-3.ensures.value) in
    let ending_is : c.of_answers-ending.result ≡ refusal_ending (some_refused answers) =
    c.of_answers-ending.ensures ∙ ap (λ (l : List Answer). refusal_ending (some_refused l)) c.deref-4.ensures.value in
    record {
      answers = answers;
      answered = answered;
      text_is = text_is;
      ending_is = ending_is;
      quiet = λ none. text_is ∙ ap (summary items) (generated_answers c.args.start c.args.count workers rows answers (Some c.in_ok-front.front) c.args.crew.now.opens answered (none_refused (some_refused answers) (sym ending_is ∙ none)));
    }
