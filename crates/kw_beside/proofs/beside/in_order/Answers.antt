use Rattle.std.proofs.Common.{◌++◌, [], IsOk, is_ok, sym, ap, ap₂, ◌∙◌}
use Rattle.std.proofs.lemmas.List.{flat_map_more}
use Rattle.std.proofs.lemmas.List.Elements.{All-push}
use Rattle.kw_beside.specs.Texts.{text_in}
use Rattle.kw_beside.proofs.beside.in_order.Goals as goal

pub loop-part-preserved : goal.loop-part-preserved
loop-part-preserved c =
    let parts = c.loop-part.yielded in
    let part = c.in-Some.part in
    record {
      made = All-push IsOk parts part c.loop-part.invariant.made (ap is_ok c.in_ok-text.was);
      joined = c.in_ok-all.ensures ∙ (ap₂ (λ a b. a ++ b) c.loop-part.invariant.joined (ap text_in (sym c.in_ok-text.was)) ∙ flat_map_more text_in [] parts part);
    }
