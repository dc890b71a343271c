use Rattle.std.proofs.Common.{◌≡◌, ◌∙◌, ap, sym, subst}
use Rattle.std.proofs.lemmas.Result.{IfOk-weaker}
use Rattle.kw_words.specs.declared.layout.Name.{Name}
use Rattle.kw_words.specs.Layout.{IsWithin}
use Rattle.kw_world.proofs.Begins.{opened-word}
use Rattle.kw_world.proofs.Opens.{opened-sane}
use Rattle.kw_world.specs.Sane.{IsSane}
use Rattle.kw_world.specs.declared.opening.Opening.{Opening}
use Rattle.kw_world.specs.Sizes.{product}
use Rattle.kw_world.specs.WorldView.{WorldView}
use Rattle.kw_world.specs.Opening.{opened, opening_word}
use Rattle.kw_world.specs.Step.{word}
use Rattle.kw_world.proofs.world.World.open.Goals as goal

pub returns-clause-named : goal.returns-clause-named
returns-clause-named c =
    let o : Opening = record { rows = c.args.rows; seats = c.args.seats; clock = c.args.clock; epoch = c.args.epoch } in
    IfOk-weaker c.built.result (λ (w : WorldView). w ≡ opened product o)
    (λ (w : WorldView). (n : Name) → IsWithin product.seats product.cells o.rows n → word product w n ≡ opening_word o n)
    (λ w e n i. ap (λ (v : WorldView). word product v n) e ∙ opened-word product o n c.requires.sized i)
    c.built.ensures

pub returns-clause-sane : goal.returns-clause-sane
returns-clause-sane c =
    let o : Opening = record { rows = c.args.rows; seats = c.args.seats; clock = c.args.clock; epoch = c.args.epoch } in
    IfOk-weaker c.built.result (λ (w : WorldView). w ≡ opened product o) (λ (w : WorldView). IsSane product w)
    (λ w e. subst (IsSane product) (sym e) (opened-sane product o c.requires))
    c.built.ensures
