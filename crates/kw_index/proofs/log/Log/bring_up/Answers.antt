use Rattle.std.proofs.Common.{◌≡◌, ◌<◌, arith, sym, ◌∙◌}
use Rattle.std.proofs.lemmas.Option.{same_Some}
use Rattle.kw_index.specs.Logs.{numbers}
use Rattle.kw_index.proofs.Brought.{nothing_made}
use Rattle.kw_index.proofs.log.Log.bring_up.Goals as goal

-- no change was made behind the one that was seen
pub returns-in-Some-clause-same : goal.returns-in-Some-clause-same
returns-in-Some-clause-same c e =
    let seen : c.in-Some.seen ≡ c.args.self.now.number = same_Some _ _ (sym c.in-Some.is ∙ e) in
    let few : c.in-Some.seen < numbers = grind (arith, c.well_formed) in
    c.make_from.ensures.made ∙ nothing_made c.args.self.now c.in-Some.seen c.args.entries.now seen few
