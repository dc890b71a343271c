-- A row that is written at once is a list.
use Rattle.std.proofs.Common.{ℕ, zero, suc, ◌≡◌, ◌⊎◌, inl, inr, ◌+◌, ◌<◌, ◌≤◌, Option, Some, None, arith, refl, sym, ◌∙◌, ap, subst}
use Rattle.std.proofs.lemmas.Bool.{cases_lt}
use Rattle.kw_lists.specs.Rows.{Row, Stands, IsBehind, IsNext, Leads, IsList}
use Rattle.kw_lists.specs.Built.{IsFirstFrom, LeadsFrom, IsBuilt}

module _ (n : ℕ) (r : Row) (s : IsBuilt n r) where
  -- a later place of one key has the greater version, and stands before
  same_key : (i j : ℕ) → i < j → j < n → r.key i ≡ r.key j → Stands r j i
  same_key i j u w e = which (s.rises i j u w)
    where
      which : (r.key i < r.key j) ⊎ (r.key i ≡ r.key j) × (r.version i < r.version j) → Stands r j i
      which (inl x) = absurd (omega arith)
      which (inr x) = inr (sym e, inl x.1)

  never_falls : (i j : ℕ) → i ≤ j → j < n → r.key i ≤ r.key j
  never_falls i j u w = which (cases_lt i j)
    where
      at : (r.key i < r.key j) ⊎ (r.key i ≡ r.key j) × (r.version i < r.version j) → r.key i ≤ r.key j
      at (inl x) = omega arith
      at (inr x) = omega (arith, x.0)

      which : (i < j) ⊎ (j ≤ i) → r.key i ≤ r.key j
      which (inl x) = at (s.rises i j x w)
      which (inr x) = let e : i ≡ j = omega arith in omega (arith, ap r.key e)

  -- the last place of the least key from here on is the first of all cells from here on
  first_of : (low e : ℕ) → IsFirstFrom n r low e → (d : ℕ) → d < n → low ≤ r.key d → (d ≡ e) ⊎ Stands r e d
  first_of low e f d u w = which (cases_lt (r.key e) (r.key d))
    where
      at : r.key e ≡ r.key d → (d < e) ⊎ (e ≤ d) → (d ≡ e) ⊎ Stands r e d
      at k (inl x) = inr (same_key d e x f.below (sym k))
      at k (inr x) = again (cases_lt e d)
        where
          again : (e < d) ⊎ (d ≤ e) → (d ≡ e) ⊎ Stands r e d
          again (inl y) = let z = f.top d y u in absurd (omega (arith, z, k))
          again (inr y) = inl (omega arith)

      which : (r.key e < r.key d) ⊎ (r.key d ≤ r.key e) → (d ≡ e) ⊎ Stands r e d
      which (inl x) = inr (inl x)
      which (inr x) = at (omega (arith, f.least d u w)) (cases_lt d e)

  -- a link whose cells behind it are those with a key from here on
  from_leads : (at : Option ℕ) (low : ℕ) (to : Option ℕ) → ((d : ℕ) → d < n → IsBehind r at d → low ≤ r.key d) → ((d : ℕ) → d < n → low ≤ r.key d → IsBehind r at d) → LeadsFrom n r low to → Leads r at to
  from_leads at low None back on f = record { none = λ d e b. let u = s.below d e in let x = f d u in let y = back d u b in omega (arith, x, y) }
  from_leads at low (Some e) back on f = record {
    listed = s.listed e f.below;
    behind = on e f.below f.from;
    first = λ d u b. let w = s.below d u in first_of low e f d w (back d w b);
  }

  -- behind a cell with an older one of its key stands this one next
  older_leads : (b : ℕ) → suc b < n → r.key b ≡ r.key (suc b) → IsNext r (Some (suc b)) b
  older_leads b u e = record {
    listed = s.listed b (omega arith);
    behind = same_key b (suc b) (omega arith) u e;
    first = λ d w x. which d (s.below d w) x (cases_lt d (suc b));
  }
    where
      equal : (d : ℕ) → d < suc b → Stands r (suc b) d → (d < b) ⊎ (b ≤ d) → (d ≡ b) ⊎ Stands r b d
      equal d v (inl x) c = let k = never_falls d (suc b) (omega arith) u in absurd (omega (arith, k, x))
      equal d v (inr x) (inl c) = inr (same_key d b c (omega arith) (sym x.0 ∙ sym e))
      equal d v (inr x) (inr c) = inl (omega arith)

      later : (d : ℕ) → d < n → suc b ≤ d → Stands r (suc b) d → (suc b < d) ⊎ (d ≤ suc b) → (d ≡ b) ⊎ Stands r b d
      later d w v (inl x) c = inr (inl (omega (arith, x, e)))
      later d w v (inr x) (inl c) = let k = same_key (suc b) d c w x.0 in absurd (omega (arith, k, x))
      later d w v (inr x) (inr c) = let k : d ≡ suc b = omega arith in let y = ap r.version k in absurd (omega (arith, x, y, k))

      which : (d : ℕ) → d < n → Stands r (suc b) d → (d < suc b) ⊎ (suc b ≤ d) → (d ≡ b) ⊎ Stands r b d
      which d w x (inl c) = equal d c x (cases_lt d b)
      which d w x (inr c) = later d w c x (cases_lt (suc b) d)

  -- behind the oldest cell of its key stand those of greater keys
  oldest_back : (c : ℕ) → c < n → ((b : ℕ) → c ≡ suc b → r.key b < r.key c) → (d : ℕ) → d < n → Stands r c d → r.key c + 1 ≤ r.key d
  oldest_back c u o d w (inl x) = omega arith
  oldest_back c u o d w (inr x) = absurd (which (cases_lt d c))
    where
      before : (c : ℕ) → d < c → c < n → r.key c ≡ r.key d → ((b : ℕ) → c ≡ suc b → r.key b < r.key c) → ⊥
      before zero v w k o = omega arith
      before (suc b) v w k o = let y = o b refl in let z = never_falls d b (omega arith) (omega arith) in omega (arith, y, z, k)

      later : (c < d) ⊎ (d ≤ c) → c ≤ d → ⊥
      later (inl y) v = let k = same_key c d y w x.0 in omega (arith, k, x)
      later (inr y) v = let k : d ≡ c = omega arith in let z = ap r.version k in omega (arith, x, z, k)

      which : (d < c) ⊎ (c ≤ d) → ⊥
      which (inl y) = before c y u x.0 o
      which (inr y) = later (cases_lt c d) y

  at_cell : (c : ℕ) → c < n → ((b : ℕ) → c ≡ suc b → r.key b < r.key c) → Leads r (Some c) (r.link (Some c))
  at_cell c u o = from_leads (Some c) (r.key c + 1) (r.link (Some c)) (oldest_back c u o) (λ d w k. inl (omega arith)) (s.oldest c u o)

  cell_leads : (c : ℕ) → c < n → Leads r (Some c) (r.link (Some c))
  cell_leads zero u = at_cell zero u (λ b e. absurd (omega arith))
  cell_leads (suc b) u = which (cases_lt (r.key b) (r.key (suc b)))
    where
      which : (r.key b < r.key (suc b)) ⊎ (r.key (suc b) ≤ r.key b) → Leads r (Some (suc b)) (r.link (Some (suc b)))
      which (inl x) = at_cell (suc b) u (λ d e. let k : b ≡ d = omega arith in let y = ap r.key k in omega (arith, y, x))
      which (inr x) =
          let e : r.key b ≡ r.key (suc b) = omega (arith, x, never_falls b (suc b) (omega arith) u) in
          subst (Leads r (Some (suc b))) (sym (s.older b u e)) (older_leads b u e)

  pub built_list : IsList r
  built_list None o = from_leads None 0 (r.link None) (λ d u b. omega arith) (λ d u w. tt) s.first
  built_list (Some c) o = cell_leads c (s.below c o)
