-- The attempt beside the best gathered cell: it is the latest of those that are gathered.
--
-- Beside each gathered cell stands its attempt, and a cell of a row stands for one attempt; so the
-- attempt that is found by the place of a gathered cell is the one beside it. Of two cells of one
-- key and one version the one further on stands for the later attempt.
use Rattle.std.proofs.Common.{ℕ, zero, suc, ◌≡◌, ◌⊎◌, inl, inr, ◌<◌, ◌≤◌, ◌==◌, Bool, true, false, Option, Some, None, List, [], ◌∷◌, arith, refl, sym, ◌∙◌, ap, subst, length, get_or, All, Contains, if◌then◌else◌}
use Rattle.std.proofs.lemmas.Bool.{cases_lt, cases_eq}
use Rattle.std.proofs.lemmas.Bool.Decides.{nat_tests}
use Rattle.std.proofs.lemmas.Option.{same_Some}
use Rattle.kw_cells.specs.declared.cell.Cell as kw_cell
use Rattle.kw_cells.specs.Cells.{is_later, IsBest, best_of, value_in, shown_at}
use Rattle.kw_cells.proofs.Best.{best_is, none_fits}
use Rattle.kw_model.specs.declared.call.Call.{Call}
use Rattle.kw_world.specs.Sizes.{Sizes}
use Rattle.kw_core.specs.History.{History, attempt}
use Rattle.kw_core.specs.HistoryLaws.{IsGapOf, HasVersionUpTo, StandsUpTo, shows}
use Rattle.kw_core.specs.Run.{Origins, Run, id_at, id_of, best_id}
use Rattle.kw_rows.specs.Rows.{WasLinked}
use Rattle.kw_puts.specs.Below.{Below}
use Rattle.kw_reads.specs.Readers.{IsCopyOf, AreCopies}
use Rattle.kw_core.proofs.Arrows.{eq_from, eq_not}
use Rattle.kw_puts.proofs.CellsOf.{place_order}

-- what the attempt of a key is, of those gathered: it has at most this version, shows this, and
-- none of the others is after it
pub record Gives (h : History) (key version : ℕ) (o : Option ℕ) (value : Option ℕ) (ids : List ℕ) : Type 0 where
  pub gap : IsGapOf h key o
  pub bound : HasVersionUpTo h o version
  pub shown : shows h o ≡ value
  pub upto : (p : ℕ) → Contains ids p → (attempt h p).key ≡ key → (attempt h p).version ≤ version → StandsUpTo h o p

-- a cell that is not later
not_later : (c d : kw_cell.Cell) → is_later c d ≡ false → (c.version < d.version) ⊎ (c.version ≡ d.version) × (c.place ≤ d.place)
not_later c d e = which (cases_lt c.version d.version)
  where
    which : (c.version < d.version) ⊎ (d.version ≤ c.version) → (c.version < d.version) ⊎ (c.version ≡ d.version) × (c.place ≤ d.place)
    which (inl x) = inl x
    which (inr x) = inr (grind (arith, nat_tests), grind (arith, nat_tests))

-- a cell of the rest is one of the list
behind : (c d : kw_cell.Cell) (cells : List kw_cell.Cell) → Contains cells d → Contains (c ∷ cells) d
behind c d cells x = (suc x.0, omega (arith, x.1), x.2)

-- gathered cells are those of the row
pub copies_within : (n : ℕ) (h : History) (o : Origins) → ((q c p : ℕ) → o q c ≡ Some p → c < n) → (row : ℕ) (call : Option Call) (cells : List kw_cell.Cell) (ids : List ℕ) → AreCopies h o row call cells ids → All (λ (c : kw_cell.Cell). c.place < n) cells
copies_within n h o w row call [] ids x k d l = absurd (omega arith)
copies_within n h o w row call (c ∷ cells) [] x k d l = absurd x
copies_within n h o w row call (c ∷ cells) (p ∷ ids) x zero d l = w row c.place p x.0.origin
copies_within n h o w row call (c ∷ cells) (p ∷ ids) x (suc k) d l = copies_within n h o w row call cells ids x.1 k d (omega arith)

module _ (z : Sizes) (r : Run) (i : Below z r) (row : ℕ) (call : Option Call) where
  -- the cell beside an attempt
  cell_beside : (cells : List kw_cell.Cell) (ids : List ℕ) → AreCopies r.history r.origin row call cells ids → (n p : ℕ) → n < length ids → get_or ids n p ≡ p → (c : kw_cell.Cell) × Contains cells c × IsCopyOf r.history r.origin row call c p
  cell_beside [] [] x n p w e = absurd (omega arith)
  cell_beside [] (q ∷ ids) x n p w e = absurd x
  cell_beside (c ∷ cells) [] x n p w e = absurd x
  cell_beside (c ∷ cells) (q ∷ ids) x zero p w e = (c, (0, omega arith, refl), subst (IsCopyOf r.history r.origin row call c) e x.0)
  cell_beside (c ∷ cells) (q ∷ ids) x (suc n) p w e = let t = cell_beside cells ids x.1 n p (omega arith) e in (t.0, behind c t.0 cells t.1, t.2)

  -- the attempt beside a cell
  id_beside : (cells : List kw_cell.Cell) (ids : List ℕ) → AreCopies r.history r.origin row call cells ids → (n : ℕ) (c : kw_cell.Cell) → n < length cells → get_or cells n c ≡ c → (p : ℕ) × (id_at c.place cells ids ≡ Some p) × IsCopyOf r.history r.origin row call c p
  id_beside [] ids x n c w e = absurd (omega arith)
  id_beside (d ∷ cells) [] x n c w e = absurd x
  id_beside (d ∷ cells) (q ∷ ids) x zero c w e =
      let y : IsCopyOf r.history r.origin row call c q = subst (λ (u : kw_cell.Cell). IsCopyOf r.history r.origin row call u q) e x.0 in
      (q, saw (d.place == c.place) refl, y)
    where
      saw : (b : Bool) → (d.place == c.place) ≡ b → (if b then Some q else id_at c.place cells ids) ≡ Some q
      saw true f = refl
      saw false f = absurd (eq_not d.place c.place f (ap (λ (u : kw_cell.Cell). u.place) e))
  id_beside (d ∷ cells) (q ∷ ids) x (suc n) c w e =
      let t = id_beside cells ids x.1 n c (omega arith) e in
      (t.0, saw t.0 t.2 t.1 (d.place == c.place) refl, t.2)
    where
      saw : (p : ℕ) → IsCopyOf r.history r.origin row call c p → id_at c.place cells ids ≡ Some p → (b : Bool) → (d.place == c.place) ≡ b → (if b then Some q else id_at c.place cells ids) ≡ Some p
      saw p y f true g =
          let same : q ≡ p = same_Some q p (sym x.0.origin ∙ ap (r.origin row) (eq_from d.place c.place g) ∙ y.origin) in
          ap Some same
      saw p y f false g = f

  -- of one key and one version, the attempt of the cell further on is the later one
  later_one : WasLinked r.ledger.rows row → (b c p q : ℕ) → b < z.cells → r.origin row b ≡ Some p → r.origin row c ≡ Some q → (attempt r.history q).key ≡ (attempt r.history p).key → (attempt r.history q).version ≡ (attempt r.history p).version → c ≤ b → StandsUpTo r.history (Some p) q
  later_one m b c p q w x y e f o = which (cases_eq c b)
    where
      which : (c ≡ b) ⊎ (c ≡ b → ⊥) → StandsUpTo r.history (Some p) q
      which (inl u) = inl (same_Some q p (sym y ∙ ap (r.origin row) u ∙ x))
      which (inr u) = inr (inr (f, place_order i.puts i.history row c b q p m (omega (arith, o, u)) w y x e f))

  -- the attempt beside the best cell of a key
  pub best_gives : WasLinked r.ledger.rows row → (cells : List kw_cell.Cell) (ids : List ℕ) (key version : ℕ) → All (λ (c : kw_cell.Cell). c.place < z.cells) cells → AreCopies r.history r.origin row call cells ids → Gives r.history key version (best_id cells ids key version) (shown_at cells version key) ids
  best_gives m cells ids key version o x = go (best_of cells key version) refl
    where
      go : (o : Option kw_cell.Cell) → best_of cells key version ≡ o → Gives r.history key version (id_of o cells ids) (value_in o) ids
      go None e = record {
        gap = tt;
        bound = tt;
        shown = refl;
        upto = λ p w f g. none p (cell_beside cells ids x w.0 p w.1 w.2) f g;
      }
        where
          none : (p : ℕ) → (c : kw_cell.Cell) × Contains cells c × IsCopyOf r.history r.origin row call c p → (attempt r.history p).key ≡ key → (attempt r.history p).version ≤ version → ⊥
          none p (c, w, y) f g =
              let t = subst (λ (u : kw_cell.Cell). u.key ≡ key → version < u.version) w.2 (none_fits cells key version e w.0 c w.1) (sym y.key ∙ f) in
              omega (arith, t, y.version, g)
      go (Some b) e =
          let best = best_is cells key version b e in
          let t = id_beside cells ids x best.among.0 b best.among.1 best.among.2 in
          subst (λ o. Gives r.history key version o b.value ids) (sym t.1) (record {
            gap = record { is_put = t.2.stamped; key = t.2.key ∙ best.of_key };
            bound = omega (arith, t.2.version, best.in_bound);
            shown = t.2.value;
            upto = λ p w f g. after best t.0 t.2 p (cell_beside cells ids x w.0 p w.1 w.2) f g;
          })
        where
          after : IsBest cells key version b → (q : ℕ) → IsCopyOf r.history r.origin row call b q → (p : ℕ) → (c : kw_cell.Cell) × Contains cells c × IsCopyOf r.history r.origin row call c p → (attempt r.history p).key ≡ key → (attempt r.history p).version ≤ version → StandsUpTo r.history (Some q) p
          after best q u p (c, w, y) f g =
              which (not_later c b (subst (λ (n : kw_cell.Cell). n.key ≡ key → n.version ≤ version → is_later n b ≡ false) w.2 (best.greatest w.0 c w.1) (sym y.key ∙ f) (omega (arith, y.version, g))))
            where
              which : (c.version < b.version) ⊎ (c.version ≡ b.version) × (c.place ≤ b.place) → StandsUpTo r.history (Some q) p
              which (inl n) = inr (inl (omega (arith, n, y.version, u.version)))
              which (inr n) = later_one m b.place c.place q p (subst (λ (d : kw_cell.Cell). d.place < z.cells) best.among.2 (o best.among.0 b best.among.1)) u.origin y.origin (f ∙ sym best.of_key ∙ sym u.key) (y.version ∙ n.0 ∙ sym u.version) n.1
