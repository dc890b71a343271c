-- The guess of entries, by the place of the first entry above the key.
use Rattle.std.proofs.Common.{◌≡◌, ℕ, ◌-◌, ◌<◌, ◌≤◌, true, false, List, length, get_or, All, AllPairs, ap, sym, arith}
use Rattle.std.specs.Prelude.{nat_le}
use Rattle.std.specs.List.Sorted.{IsPartitionPoint}
use Rattle.std.proofs.lemmas.Bool.Decides.{nat_tests}
use Rattle.std.proofs.lemmas.List.{get_or_default}
use Rattle.kw_index.specs.declared.entries.IndexEntry.{IndexEntry}
use Rattle.kw_index.specs.Entries.{IsNearest}

module _ (list : List IndexEntry) (rising : AllPairs (λ e f. e.least < f.least) list) (key at : ℕ) (in_range : at ≤ length list)
    (parted : IsPartitionPoint (λ e. nat_le e.least key ≡ true) (λ e. nat_le e.least key ≡ false) list at) where
  -- where the first entry is above the key, all are
  pub all_above : at ≡ 0 → All (λ e. key < e.least) list
  all_above none k d below = grind (arith, nat_tests, parted.1 k d (omega arith) below)

  -- else the entry before the place is the nearest
  pub nearest : (e : IndexEntry) → 0 < at → e ≡ get_or list (at - 1) e → IsNearest list key e
  nearest e some read = record {
    among = (at - 1, omega (arith, some, in_range), sym read);
    at_most = grind (arith, nat_tests, parted.0 (at - 1) e (omega arith) (omega arith), ap (λ f. f.least) read);
    greatest = λ k d below at_most.
        let last = get_or_default list (at - 1) e d (omega arith) in
        grind (arith, nat_tests, parted.1 k d, rising k (at - 1) d, ap (λ f. f.least) read, ap (λ f. f.least) last, λ (same : k ≡ at - 1). ap (λ n. (get_or list n d).least) same);
  }
