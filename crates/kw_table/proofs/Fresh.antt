-- A pass that was just cut off.
use Rattle.std.proofs.Common.{◌≡◌, ℕ, ◌+◌, ◌<◌, ◌⊎◌, inl, inr, List, [], ◌∷◌, ◌++◌, length, slice_index_or, arith, refl, ap, sym, ◌∙◌, subst}
use Rattle.std.proofs.Math.Seq.{get_or-append_seam}
use Rattle.std.proofs.lemmas.Bool.{cases_eq}
use Rattle.std.proofs.lemmas.List.{get_or-replicate, get_or_append_left}
use Rattle.kw_world.specs.declared.opening.Opening.{Opening}
use Rattle.kw_world.specs.Local.{resting}
use Rattle.kw_world.specs.Opening.{IsOpening}
use Rattle.kw_world.specs.Sizes.{product}
use Rattle.kw_world.specs.WorldView.{WorldView}
use Rattle.kw_core.specs.Events.{local_of, of_seat}
use Rattle.kw_core.proofs.Events.{valid-nil, world-nil}
use Rattle.kw_table.specs.Known.{IsKnown}
use Rattle.kw_table.specs.Views.{Mine, local_in, mine_in, rest_view}
use Rattle.kw_table.specs.Walks.{walks_from, walks_in}

module _ (n : ℕ) (o : Opening) (m rest : Mine) (is : rest ≡ (rest_view o n, [])) (cut : m ≡ (record rest.0 { count = 1 }, [])) where
  all : m ≡ (record (rest_view o n) { count = 1 }, [])
  all = cut ∙ ap (λ (r : Mine). (record r.0 { count = 1 }, [])) is

  -- it is a pass
  pub fresh_known : IsOpening product o → n < o.seats → IsKnown n m
  fresh_known opens inside = subst (IsKnown n) (sym all) record { number = refl; count = refl; empty = refl; seats = inside; opens = opens; valid = valid-nil product o }

  -- it has done nothing
  pub fresh_mine : mine_in m.0 ≡ []
  unfolding of_seat
  fresh_mine = ap (λ (k : Mine). mine_in k.0) all

  -- it has loaded no link
  pub fresh_walks : walks_in m.0 ≡ 0
  unfolding walks_from
  fresh_walks = ap (λ (k : Mine). walks_in k.0) all

  -- its seat is idle
  pub fresh_local : n < o.seats → local_in m.0 ≡ resting 0
  fresh_local inside = ap (λ (k : Mine). local_in k.0) all ∙ (ap (λ (w : WorldView). local_of w n) (world-nil product o) ∙ get_or-replicate o.seats n (resting 0) (resting 0) inside)

-- what holds of each element of a list, and of one more at its end, holds of each element then
pub each_pushed : {A : Type 0} (P : ℕ → A → Type 0) (xs : List A) (x : A) (n : ℕ) → length xs ≡ n → ((i : ℕ) (d : A) → i < n → P i (slice_index_or xs i d)) → P n x → (i : ℕ) (d : A) → i < n + 1 → P i (slice_index_or (xs ++ x ∷ []) i d)
each_pushed P xs x n len each own i d o = which (cases_eq i n)
  where
    last : slice_index_or (xs ++ x ∷ []) n d ≡ x
    last = subst (λ k. slice_index_or (xs ++ x ∷ []) k d ≡ x) len (get_or-append_seam xs x [] d)

    which : (i ≡ n) ⊎ (i ≡ n → ⊥) → P i (slice_index_or (xs ++ x ∷ []) i d)
    which (inl e) = subst (λ j. P j (slice_index_or (xs ++ x ∷ []) j d)) (sym e) (subst (P n) (sym last) own)
    which (inr ne) = subst (P i) (sym (get_or_append_left xs (x ∷ []) d i (omega (arith, o, len, ne)))) (each i d (omega (arith, o, ne)))
