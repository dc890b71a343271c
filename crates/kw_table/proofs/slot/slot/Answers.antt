-- What else is said of a word's slot follows from where the word lies.
use Rattle.std.proofs.Common.{◌<◌, ◌≤◌, ◌⊎◌, ◌+◌, sym, ◌∙◌, subst}
use Rattle.kw_table.specs.declared.slot.TheConstants.{WORDS_A_LINE}
use Rattle.kw_table.specs.Slots.{slot, slots}
use Rattle.kw_table.proofs.Slots.{same_word, slot_below, lies_alone}
use Rattle.kw_table.proofs.slot.slot.Goals as goal

pub returns-clause-below : goal.returns-clause-below
returns-clause-below c = subst (λ n. n < slots c.args.rows) (sym c.slotted.ensures) (slot_below c.args.rows c.args.word c.requires.sized.some_rows c.requires.within)

pub returns-clause-distinct : goal.returns-clause-distinct
returns-clause-distinct c = λ other within same. same_word c.args.rows c.args.word other c.requires.within within (same ∙ c.slotted.ensures)

pub returns-clause-alone : goal.returns-clause-alone
returns-clause-alone c = λ is other within differ.
    subst (λ n. (n + WORDS_A_LINE ≤ slot c.args.rows other) ⊎ (slot c.args.rows other + WORDS_A_LINE ≤ n)) (sym c.slotted.ensures) (lies_alone c.args.rows c.args.word other c.requires.within within is differ)
