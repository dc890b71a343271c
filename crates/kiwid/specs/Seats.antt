-- What seats hand back, as lists.
use Rattle.std.specs.Prelude.{◌≡◌, List, map, Ok}
use Rattle.std.specs.declared.result.Result.{Result}
use Rattle.kw_model.specs.declared.memory.Memory.{Memory}
use Rattle.kw_table.specs.declared.pass.Pass.{Pass}
use Rattle.kiwid.specs.declared.serving.Served.{Served}
use Rattle.kiwid.specs.declared.serving.Rest.{Rest}

-- the passes that were handed back
abbrev pub passes_of : {L : Type 0} → List (Served L) → List Pass
passes_of {L} served = map (λ (s : Served L). s.pass) served

-- and what was handed back beside each
abbrev pub rests_of : {L : Type 0} → List (Served L) → List (Rest L)
rests_of {L} served = map (λ (s : Served L). record { listener = s.listener; ends = s.ends }) served

-- no seat wanted memory, and these are the passes that they handed back and the rests
pub record AreParted {L : Type 0} (parts : List (Result (Served L) Memory)) (passes : List Pass) (rests : List (Rest L)) : Type 0 where
  pub served : List (Served L)
  pub parts_are : parts ≡ map Ok served
  pub passes_are : passes ≡ passes_of served
  pub rests_are : rests ≡ rests_of served
