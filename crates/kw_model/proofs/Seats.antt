-- What std says of its tree of snapshots, in the words of a finite map from seats.
use Rattle.std.proofs.Common.{ℕ, ◌≡◌, List, [], ◌∷◌, Option, Some, None, refl, sym, ap, ◌∙◌, cond, arith}
use Rattle.std.proofs.lemmas.Bool.Decides.{nat_tests}
use Rattle.std.specs.Map.{lookup}
use Rattle.std.specs.BTreeMap.{is_at}
use Rattle.std.specs.Ordering.{nat_cmp, eq_by_cmp}
use Rattle.std.specs.Cmp.{nat_cmp_total}
use Rattle.std.specs.FinMap.{from_entries, get, find, insert, remove, get-from_entries, get-insert, get-remove, same_map, nat_cmp-IsAntisymmetric}
use Rattle.kw_model.specs.Map.{Pairs}

-- entries by seat
abbrev pub Pins : Type 0
Pins = List (ℕ × Pairs)

-- the snapshot of a seat in the tree
abbrev pub at_seat : ℕ → Pins → Option Pairs
at_seat s es = lookup (is_at (nat_cmp s)) es

-- the first entry of a seat
find_is : (s : ℕ) (es : Pins) → find nat_cmp s es ≡ at_seat s es
find_is s [] = refl
find_is s (e ∷ es) = ap (cond (is_at (nat_cmp s) e.0) (Some e.1)) (find_is s es)

-- looking a seat up in the tree gives what the map of its entries has
pub seat_is : (s : ℕ) (es : Pins) → get (from_entries {R = nat_cmp} es) s ≡ at_seat s es
seat_is s es = get-from_entries nat_cmp_total es s ∙ find_is s es

-- the two tests for one seat
test_is : (s q : ℕ) → is_at (nat_cmp s) q ≡ eq_by_cmp nat_cmp q s
test_is s q = grind (arith, nat_tests)

-- a tree that has this snapshot more is the map with it inserted
pub inserted : (s : ℕ) (m : Pairs) (old new : Pins) → ((q : ℕ) → at_seat q new ≡ cond (is_at (nat_cmp s) q) (Some m) (at_seat q old)) → from_entries new ≡ insert (from_entries {R = nat_cmp} old) s m
inserted s m old new h = same_map nat_cmp_total nat_cmp-IsAntisymmetric _ _ (λ q.
    let a = seat_is q new in
    let b = seat_is q old in
    a ∙ h q ∙ sym (get-insert nat_cmp_total (from_entries old) s m q ∙ ap (λ t. cond t (Some m) (get (from_entries {R = nat_cmp} old) q)) (sym (test_is s q)) ∙ ap (cond (is_at (nat_cmp s) q) (Some m)) b))

-- a tree without the snapshot of a seat is the map with it removed
pub removed : (s : ℕ) (old new : Pins) → ((q : ℕ) → at_seat q new ≡ cond (is_at (nat_cmp s) q) None (at_seat q old)) → from_entries new ≡ remove (from_entries {R = nat_cmp} old) s
removed s old new h = same_map nat_cmp_total nat_cmp-IsAntisymmetric _ _ (λ q.
    let a = seat_is q new in
    let b = seat_is q old in
    a ∙ h q ∙ sym (get-remove nat_cmp_total (from_entries old) s q ∙ ap (λ t. cond t None (get (from_entries {R = nat_cmp} old) q)) (sym (test_is s q)) ∙ ap (cond (is_at (nat_cmp s) q) None) b))
