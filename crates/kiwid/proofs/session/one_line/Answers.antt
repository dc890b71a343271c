use Rattle.kiwid.proofs.Ways.{if_err, line_cut, line_done, line_stopped, on_both, plain_is, refused}
use Rattle.kiwid.proofs.session.one_line.Goals as goal

pub returns-in_default-clause-stops : goal.returns-in_default-clause-stops
returns-in_default-clause-stops g c = refused c.args.line.now _ c.refuse.result _ _ _ c.requires.few c.in_default.ensures c.refuse.ensures.refuses

pub returns-in_default-ask-clause-stops : goal.returns-in_default-ask-clause-stops
returns-in_default-ask-clause-stops g c =
    let is = plain_is c.in-Some-Plain.field-0 in
    line_stopped c.args.line.now _ _ _ _ _ _ c.requires.few (rw is at c.in-Some-Plain.ensures) (rw is at (rw c.in_default-ask.is at c.ask.ensures.stopped))

pub returns-clause-done : goal.returns-clause-done
returns-clause-done g c =
    let is = plain_is c.in-Some-Plain.field-0 in
    on_both c.say.result (λ text counted. (line_done c.args.line.now _ _ _ _ _ _ _ (rw is at c.in-Some-Plain.ensures) (rw is at c.in-Ok.ensures.answers) text, counted)) c.say.ensures.said c.say.ensures.counted

pub returns-clause-stops : goal.returns-clause-stops
returns-clause-stops g c =
    let is = plain_is c.in-Some-Plain.field-0 in
    if_err c.say.result (λ end. line_cut c.args.line.now _ end _ _ _ _ _ _ _ c.requires.few (rw is at c.in-Some-Plain.ensures) (rw is at c.in-Ok.ensures.answers)) c.say.ensures.stops
