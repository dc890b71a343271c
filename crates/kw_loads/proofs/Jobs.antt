-- What each job of `map_vec` ensures holds of all that it gives.
use Rattle.std.proofs.Common.{◌≡◌, slice_index_or, All, IfOk, Ok, Err, Vec, vec_len, arith}
use Rattle.std.specs.declared.alloc.Global.{Global}
use Rattle.std.specs.declared.result.Result.{Result}
use Rattle.std.specs.Fork.{GivesJobs}
use denote.Param.Members.{Shared}

pub all_given : {F J R E : Type 0} (g : Shared F (J × Unit {0}) R) (f : F) (jobs : Vec J Global) (P : R → Type 0) (made : Result (Vec R Global) E)
    → IfOk made (λ v. vec_len v ≡ vec_len jobs) → IfOk made (λ v. GivesJobs g f jobs.items v.items) → ((x : J) (r : R) → g.post f (x, tt) r → P r)
    → IfOk made (λ v. All P v.items)
all_given g f jobs P (Ok v) len gives each = λ i d lt.
    let w = v in
    let js = jobs in
    let job = (gives i d (omega (arith, len, lt))).1 in
    each job.job (slice_index_or v.items i d) job.call.met
all_given g f jobs P (Err x) len gives each = gives
