-- Passes that meet, one after the other.
use Rattle.std.proofs.Common.{◌≡◌, ◌≢◌, ℕ, zero, suc, ◌+◌, ◌<◌, List, ◌∷◌, refl, length, slice_index_or, slice_set, sym, ◌∙◌, subst, arith, get_or-set_same, get_or-set_other}
use Rattle.std.proofs.lemmas.Bool.{cases_eq}
use mathlib.Core.Logic.{⊎_elim}
use mathlib.Core.List.{IsPrefix}
use Rattle.kw_table.specs.declared.pass.Pass.{Pass}
use Rattle.kw_table.specs.declared.pass.View.{View}
use Rattle.kw_table.specs.declared.shared.Shared.{Shared}
use Rattle.kw_table.specs.Passes.{view, IsPassOf}
use Rattle.kw_table.specs.Views.{Meets}
use Rattle.kw_map.specs.Meetings.{AtEach, Reaches, MeetsAt}
use Rattle.kw_table.proofs.Prefixes.{prefix_trans}

pub meets_trans : (u v w : View) → Meets u v → Meets v w → Meets u w
meets_trans u v w a b = record {
  number = b.number ∙ a.number;
  opening = b.opening ∙ a.opening;
  seen = prefix_trans u.seen v.seen w.seen a.seen b.seen;
  mine = b.mine ∙ a.mine;
  local = b.local ∙ a.local;
}

-- one pass more that the front has reached, where the front then is g
pub reached_more : (s : Shared) (f g : Pass) (xs ys : List Pass) (n : ℕ) (x y : Pass) → n < length ys
    → ((k : ℕ) (d e : Pass) → k < n → Reaches s f (slice_index_or xs k d) (slice_index_or ys k e)) → IsPrefix (view f).seen (view g).seen
    → ((d : Pass) → slice_index_or xs n d ≡ x) → Reaches s g x y
    → (k : ℕ) (d e : Pass) → k < n + 1 → Reaches s g (slice_index_or xs k d) (slice_index_or (slice_set ys n y) k e)
reached_more s f g xs ys n x y inside done longer is here k d e lt = ⊎_elim
    (λ (same : k ≡ n). subst (λ j. Reaches s g (slice_index_or xs j d) (slice_index_or (slice_set ys n y) j e)) (sym same)
    (subst (λ (q : Pass). Reaches s g (slice_index_or xs n d) q) (sym (get_or-set_same ys n y e inside)) (subst (λ (p : Pass). Reaches s g p y) (sym (is d)) here)))
    (λ (ne : k ≢ n). let r = done k d e (omega arith) in subst (λ (q : Pass). Reaches s g (slice_index_or xs k d) q) (sym (get_or-set_other ys n k y e ne))
    record { of_table = r.of_table; meets = r.meets; seen = prefix_trans (view (slice_index_or ys k e)).seen (view f).seen (view g).seen r.seen longer })
    (cases_eq k n)

-- the first pass and the others, in one list
pub meets_all : (s : Shared) (ps os ns : List Pass) (f g : Pass) → ps ≡ f ∷ os → IsPassOf s g → Meets (view f) (view g) → AtEach (MeetsAt s (view g).seen) os ns → AtEach (MeetsAt s (view g).seen) ps (g ∷ ns)
meets_all s ps os ns f g is at meets others =
    subst (λ (l : List Pass). AtEach (MeetsAt s (view g).seen) l (g ∷ ns)) (sym is) each
  where
    each : AtEach (MeetsAt s (view g).seen) (f ∷ os) (g ∷ ns)
    each zero d e lt = record { of_table = at; meets = meets; seen = refl }
    each (suc i) d e lt = others i d e (omega arith)
