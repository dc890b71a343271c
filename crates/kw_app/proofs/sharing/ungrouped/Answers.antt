use Rattle.std.proofs.Common.{◌∷◌, ◌++◌, [], List, Ok, Vec, map, ap, sym, ◌∙◌}
use Rattle.std.specs.declared.alloc.Global.{Global}
use Rattle.std.specs.declared.alloc.AllocError.{AllocError}
use Rattle.std.specs.declared.result.Result.{Result}
use Rattle.std.proofs.lemmas.List.{map-append, flat_map_more}
use Rattle.kw_app.specs.declared.rounds.Done.{Done}
use Rattle.kw_app.proofs.sharing.ungrouped.Goals as goal

pub loop-part-preserved : goal.loop-part-preserved
loop-part-preserved c =
    let inv = c.loop-part.invariant in
    let part : Result (Vec Done Global) AllocError = c.in-Some.part in
    let more : Vec Done Global = c.in_ok-more.more in
    record {
      groups = inv.groups ++ more ∷ [];
      parts_are = ap (λ (ps : List (Result (Vec Done Global) AllocError)). ps ++ part ∷ []) inv.parts_are
          ∙ (ap (λ (r : Result (Vec Done Global) AllocError). map {B = Result (Vec Done Global) AllocError} Ok inv.groups ++ r ∷ []) c.in_ok-more.was ∙ sym (map-append {B = Result (Vec Done Global) AllocError} Ok inv.groups (more ∷ [])));
      dones_are = c.in_ok-dones.ensures ∙ (ap (λ (ds : List Done). ds ++ more.items) inv.dones_are ∙ flat_map_more (λ (g : Vec Done Global). g.items) [] inv.groups more);
    }
