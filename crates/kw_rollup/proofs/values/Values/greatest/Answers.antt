use Rattle.std.proofs.Common.{List, ℕ, ◌≡◌, fold, max, ap, subst, ◌∙◌, MatchOption}
use Rattle.std.specs.List.{slice_get}
use Rattle.kw_rollup.proofs.Ends.{greatest_found}
use Rattle.kw_rollup.proofs.values.Values.greatest.Goals as goal

pub returns : goal.returns
returns c = λ v vs h.
    let hi = c.last_key_value.ensures in
    let P : List ℕ → Type 0 = λ xs. MatchOption (slice_get xs 0) (c.first.result ≡ 0) (λ x. c.first.result ≡ x) in
    c.greatest_of.ensures ∙ (ap (λ (xs : List ℕ). fold max c.value_or-start.result xs) c.deref-2.ensures.value ∙ greatest_found v vs c.args.self.now c.first.result c.value_or-start.result c.last_key_value.result h (subst P c.deref.ensures.value c.first.ensures) hi.variant hi.value hi.greatest c.value_or-start.ensures)
