-- What is kept shows what the cells show.
use Rattle.std.proofs.Common.{◌-◌, ◌^◌, arith, inl, inr, get_or}
use Rattle.std.proofs.lemmas.List.Elements.{Contains-get_or}
use Rattle.kw_cells.proofs.Few.{has_few}
use Rattle.kw_cells.proofs.Shown.{shows_the_same, kept_given}
use Rattle.kw_cells.proofs.KeptOf.{kept_list_is}
use Rattle.kw_cells.proofs.keep.keep.Goals as goal

pub returns-clause-is : goal.returns-clause-is
returns-clause-is c = kept_list_is c.args.cells.now c.args.needed.now c.fill.new.kept c.requires.apart c.fill.ensures.exactly

pub returns-clause-given : goal.returns-clause-given
returns-clause-given c = kept_given c.args.cells.now c.args.needed.now c.fill.new.kept c.fill.ensures.exactly

pub returns-clause-few : goal.returns-clause-few
returns-clause-few c = has_few c.args.cells.now c.args.needed.now c.fill.new.kept c.fill.ensures.exactly

pub returns-clause-shows : goal.returns-clause-shows
returns-clause-shows c key i d l = shows_the_same c.args.cells.now c.args.needed.now c.fill.new.kept c.requires.apart c.fill.ensures.exactly key (get_or c.args.needed.now i d) (inl (Contains-get_or c.args.needed.now i d l))

pub returns-clause-shows_newest : goal.returns-clause-shows_newest
returns-clause-shows_newest c key version above = shows_the_same c.args.cells.now c.args.needed.now c.fill.new.kept c.requires.apart c.fill.ensures.exactly key version (inr above)

pub returns-clause-shows_last : goal.returns-clause-shows_last
returns-clause-shows_last c key = returns-clause-shows_newest c key (2 ^ 64 - 1) (λ i d l. let r = c.fill.ensures.in_range i d l in omega arith)
