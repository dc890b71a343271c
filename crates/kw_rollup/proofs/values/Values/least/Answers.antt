use Rattle.std.proofs.Common.{List, ℕ, ◌≡◌, fold, min, ap, subst, ◌∙◌, MatchOption}
use Rattle.std.specs.List.{slice_get}
use Rattle.kw_rollup.proofs.Ends.{least_found}
use Rattle.kw_rollup.proofs.values.Values.least.Goals as goal

pub returns : goal.returns
returns c = λ v vs h.
    let lo = c.first_key_value.ensures in
    let P : List ℕ → Type 0 = λ xs. MatchOption (slice_get xs 0) (c.first.result ≡ 0) (λ x. c.first.result ≡ x) in
    c.least_of.ensures ∙ (ap (λ (xs : List ℕ). fold min c.value_or-start.result xs) c.deref-2.ensures.value ∙ least_found v vs c.args.self.now c.first.result c.value_or-start.result c.first_key_value.result h (subst P c.deref.ensures.value c.first.ensures) lo.variant lo.value lo.least c.value_or-start.ensures)
