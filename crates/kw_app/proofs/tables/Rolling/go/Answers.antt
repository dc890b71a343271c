-- One line: a table is printed, or an update made that was not refused.
use Rattle.std.proofs.Common.{◌≡◌, true, ap, ◌∙◌}
use Rattle.std.proofs.lemmas.Option.{slice_get_read}
use Rattle.std.proofs.lemmas.Result.{on_ok_weaker}
use Rattle.std.proofs.Common.{Some, refl}
use Rattle.kw_app.specs.Tables.{is_update}
use Rattle.kw_app.proofs.TableLines.{makes_update, table_goes, update_goes}
use Rattle.kw_app.proofs.tables.Rolling.go.Goals as goal

pub returns-in-Table : goal.returns-in-Table
returns-in-Table c = record {
  goes = on_ok_weaker c.print.result (λ text width items n e s. table_goes width items c.args.answers.now n c.args.self.now c.print.new.self s (e ∙ ap Some c.in-Table.is) text c.print.ensures.rollup c.print.ensures.refused c.print.ensures.next) c.print.ensures.text;
}

pub returns-in_default : goal.returns-in_default
returns-in_default c =
    let up : is_update c.args.item ≡ true = makes_update c.args.item c.in_default.not-Table in
    record {
      goes = on_ok_weaker c.update.result (λ pairs width items n e s. update_goes width items c.args.answers.now n c.args.self.now c.update.new.self s c.args.item c.index-answers-self.result e up (slice_get_read c.args.answers.now _ c.args.self.now.next c.index-answers-self.result refl (c.requires.next up) c.index-answers-self.is) pairs c.update.ensures.width c.update.ensures.refused c.update.ensures.next c.update.ensures.text) c.update.ensures.pairs;
    }
