-- What holds of each call that `map_vec` made, by what a call ensures.
use Rattle.std.proofs.Common.{List, sym, subst, slice_index_or}
use denote.Param.Members.{Shared}
use Rattle.std.specs.Fork.{GivesJobs}
use Rattle.kw_map.specs.Meetings.{AtEach}

pub at_each : {F J R : Type 0} (g : Shared F (J × Unit {0}) R) (f : F) (js : List J) (rs : List R) (P : J → R → Type 0) → GivesJobs g f js rs → ((x : J) (r : R) → g.post f (x, tt) r → P x r) → AtEach P js rs
at_each g f js rs P gives each = λ i d e lt.
    let job = (gives i e lt).1 in
    subst (λ x. P x (slice_index_or rs i e)) (sym (job.job_is d)) (each job.job (slice_index_or rs i e) job.call.met)
