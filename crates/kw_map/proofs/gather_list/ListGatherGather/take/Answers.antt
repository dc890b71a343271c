-- The list that is kept has the pair at its end.
use Rattle.std.proofs.Common.{ap, ◌∙◌, ◌≡◌, ◌++◌, [], ◌∷◌, None, arith}
use Rattle.std.proofs.lemmas.Grind.{common_steps}
use Rattle.kw_model.specs.Map.{Pairs}
use Rattle.kw_map.specs.Gather.{last_key}
use Rattle.kw_map.proofs.TakeLemmas.{last_key-append}
use Rattle.kw_map.proofs.gather_list.ListGatherGather.take.Goals as goal

pub returns-clause-taken : goal.returns-clause-taken
returns-clause-taken c =
    let same = ap (λ s. s.pairs) c.self.view_is in
    let more : c.push.new.self ≡ c.args.self.now.pairs ++ (c.args.key, c.args.value) ∷ [] = grind (arith, common_steps) in
    record {
      last_is = ap (last_key None) more ∙ last_key-append None c.args.self.now.pairs ((c.args.key, c.args.value) ∷ []);
      follows = λ list e. more ∙ ap (λ (ps : Pairs). ps ++ (c.args.key, c.args.value) ∷ []) e;
    }
