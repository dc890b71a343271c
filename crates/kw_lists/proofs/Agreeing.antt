-- A row that agrees with a list is a list: so an event is told by what it leaves, word by word.
use Rattle.std.proofs.Common.{ℕ, ◌≡◌, ◌⊎◌, inl, inr, true, false, Option, Some, None, refl, sym, ◌∙◌, subst}
use Rattle.kw_lists.specs.Rows.{Row, Stands, IsBehind, IsOn, Leads, IsList, IsSound, IsEmpty}
use Rattle.kw_lists.specs.Changes.{is_same, with_link, stored, Agree}
use Rattle.kw_lists.proofs.Places.{same_or, link_else}
use Rattle.kw_lists.proofs.Same.{same_back, stands_same, behind_same}

module _ (r r' : Row) (a : Agree r r') where
  -- a link of the later list was one of the earlier
  on_back : (at : Option ℕ) → IsOn r' at → IsOn r at
  on_back None o = o
  on_back (Some c) o = sym (a.listed c) ∙ o

  -- a listed cell was behind the link before
  behind_back : (at : Option ℕ) (d : ℕ) → IsOn r at → r.listed d ≡ true → IsBehind r' at d → IsBehind r at d
  behind_back None d o w b = b
  behind_back (Some c) d o w b = stands_same r' r c d (same_back r r' c (a.cell c o)) (same_back r r' d (a.cell d w)) b

  -- a link leads where it led
  leads : (at to : Option ℕ) → IsOn r at → Leads r at to → Leads r' at to
  leads at None o l = record { none = λ d e b. let w : r.listed d ≡ true = sym (a.listed d) ∙ e in l.none d w (behind_back at d o w b) }
  leads at (Some c) o l = record {
    listed = a.listed c ∙ l.listed;
    behind = behind_same r r' a.cell at c o (a.cell c l.listed) l.behind;
    first = λ d e b. let w : r.listed d ≡ true = sym (a.listed d) ∙ e in which d w (l.first d w (behind_back at d o w b));
  }
    where
      which : (d : ℕ) → r.listed d ≡ true → (d ≡ c) ⊎ Stands r c d → (d ≡ c) ⊎ Stands r' c d
      which d w (inl q) = inl q
      which d w (inr x) = inr (stands_same r r' c d (a.cell c l.listed) (a.cell d w) x)

  -- what agrees with a list is a list
  pub agreeing_list : IsList r → IsList r'
  agreeing_list l at o = let k = on_back at o in subst (Leads r' at) (sym (a.link at k)) (leads at (r.link at) k (l at k))

  -- of as many cells
  pub agreeing_sound : (n : ℕ) → IsSound n r → IsSound n r'
  agreeing_sound n s = record { list = agreeing_list s.list; below = λ c e. s.below c (sym (a.listed c) ∙ e) }

-- the link of an unlisted cell is none of the list
pub stored_agrees : (r : Row) (c : ℕ) (to : Option ℕ) → r.listed c ≡ false → Agree r (stored r c to)
stored_agrees r c to u = record { listed = λ d. refl; link = λ x o. which x o (same_or x (Some c)); cell = λ d e. record { key = refl; version = refl } }
  where
    which : (x : Option ℕ) → IsOn r x → (x ≡ Some c) ⊎ (is_same x (Some c) ≡ false) → with_link r.link (Some c) to x ≡ r.link x
    which x o (inl q) = let k : r.listed c ≡ true = subst (IsOn r) q o in absurd (cc (k, u))
    which x o (inr q) = link_else r.link (Some c) to x q

-- nothing is a list
pub empty_sound : (n : ℕ) (r : Row) → IsEmpty r → IsSound n r
empty_sound n r e = record { list = λ at o. leads at o; below = λ c u. let k = e.none c in absurd (cc (k, u)) }
  where
    leads : (at : Option ℕ) → IsOn r at → Leads r at (r.link at)
    leads None o = subst (Leads r None) (sym e.first) (record { none = λ d u b. let k = e.none d in cc (k, u) })
    leads (Some c) o = let k = e.none c in absurd (cc (k, o))
