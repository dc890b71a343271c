use Rattle.std.proofs.Common.{◌∙◌, ap, sym, subst, length}
use Rattle.kw_world.specs.declared.opening.Opening.{Opening}
use Rattle.kw_world.specs.Opening.{opening_words}
use Rattle.kw_world.specs.Sizes.{product}
use Rattle.kw_table.specs.Slots.{IsLaid}
use Rattle.kw_table.proofs.Sharing.{opens}
use Rattle.kw_table.proofs.shared.Shared.open.Goals as goal

pub of_words-requires : goal.of_words-requires
of_words-requires c =
    let o : Opening = record { rows = c.args.rows; seats = c.args.passes; clock = c.args.clock; epoch = c.args.epoch } in
    opens _ _ (subst (IsLaid o.rows (opening_words product o)) (sym c.as_slice.ensures.value) c.in_ok-words.ensures)

pub invariant_of-shared-clause-words_are : goal.invariant_of-shared-clause-words_are
invariant_of-shared-clause-words_are c = c.in_ok-table.ensures.0 ∙ (ap length c.as_slice.ensures.value ∙ c.in_ok-words.ensures.memory_len)
