-- The words that are not 0 are written at their slots.
use Rattle.std.proofs.Common.{◌∙◌, refl, ap, sym, subst, replicate}
use Rattle.kw_words.specs.declared.layout.Name.TheVariants.{Clock, Epoch, Head, State}
use Rattle.kw_words.specs.declared.sizes.TheConstants.{SEATS, CELLS}
use Rattle.kw_words.specs.Layout.{words_of}
use Rattle.kw_table.specs.Slots.{IsLaid}
use Rattle.kw_table.proofs.Slots.{zeros_laid, laid_found}
use Rattle.kw_table.proofs.opening.opening_words.Goals as goal

pub returns : goal.returns
returns c =
    let rows = c.args.opening.rows in
    let some = c.requires.sized.some_rows in
    let made = c.in_ok-words.ensures.items_if_clones_equal (λ y same. same) ∙ ap (λ n. replicate n 0) c.slots.ensures in
    let zeros = subst (IsLaid rows (replicate (words_of SEATS CELLS rows) 0)) (sym made) (zeros_laid rows some) in
    let clock = laid_found rows _ _ _ Clock _ _ some tt c.slot.ensures.value refl zeros in
    let epoch = laid_found rows _ _ _ Epoch _ _ some tt c.slot-2.ensures.value refl clock in
    let head = laid_found rows _ _ _ Head _ _ some tt c.slot-3.ensures.value c.pack.ensures.value epoch in
    laid_found rows _ _ _ (State 0) _ _ some some c.slot-4.ensures.value c.pack-2.ensures.value head
