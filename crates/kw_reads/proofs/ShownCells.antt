-- What gathered cells show is what their puts show: the best cell of a key at a version is that of
-- the greatest put. So cells that show the same as others have puts that show the same.
use Rattle.std.proofs.Common.{ℕ, ◌≡◌, ◌⊎◌, inl, inr, ◌<◌, ◌≤◌, All, Contains, false, List, Option, Some, None, arith, refl, sym, ◌∙◌, ap, subst, get_or}
use Rattle.std.proofs.lemmas.Bool.{cases_lt}
use Rattle.std.proofs.lemmas.Bool.Decides.{nat_tests}
use Rattle.std.proofs.lemmas.List.Elements.{All-contains, Contains-get_or}
use Rattle.std.proofs.lemmas.Option.{same_Some}
use Rattle.kw_cells.specs.declared.cell.Cell.{Cell}
use Rattle.kw_cells.specs.Cells.{is_later, AreApart, IsBest, best_of, value_in, shown_at}
use Rattle.kw_cells.specs.Kept.{ShowsTheSame}
use Rattle.kw_cells.proofs.Best.{best_is, best_of-best}
use Rattle.kw_core.specs.History.{History, attempt}
use Rattle.kw_kept.specs.Puts.{Greatest, Same, Shows, StandsUpTo, value_of}
use Rattle.kw_reads.specs.Contents.{puts_of}
use Rattle.kw_puts.specs.Builds.{IsCellOf, IsGathered}

-- the put of one of the cells, where the cells of places stand for these attempts
pub record IsPutIn (o : ℕ → Option ℕ) (cells : List Cell) (p : ℕ) : Type 0 where
  pub cell : Cell
  pub among : Contains cells cell
  pub origin : o cell.place ≡ Some p

-- of two cells of one key and version, the one at the lesser place is of the put that was added
-- first
abbrev pub AreInOrder : History → (ℕ → Option ℕ) → List Cell → Type 0
AreInOrder h o cells = (c d : Cell) (p e : ℕ) → Contains cells c → Contains cells d → c.place < d.place → o c.place ≡ Some p → o d.place ≡ Some e → (attempt h p).key ≡ (attempt h e).key → (attempt h p).version ≡ (attempt h e).version → (attempt h p).add < (attempt h e).add

-- a put and a cell of it, or neither
data AreBeside (h : History) (o : ℕ → Option ℕ) : Option ℕ → Option Cell → Type 0 where
  neither_is : AreBeside h o None None
  both_are : (p : ℕ) (c : Cell) → o c.place ≡ Some p → IsCellOf h c p → AreBeside h o (Some p) (Some c)

-- cells with the same parts are one
same_cell : (c d : Cell) → c.key ≡ d.key → c.place ≡ d.place → c.version ≡ d.version → c.value ≡ d.value → c ≡ d
same_cell c d e f g v = let x : record { key = c.key; place = c.place; version = c.version; value = c.value } ≡ d = rw (e, f, g, v) refl in x

-- a cell is not later that has a lesser version, or the same at no greater place
not_later : (c d : Cell) → (d.version < c.version) ⊎ (d.version ≡ c.version) × (d.place ≤ c.place) → is_later d c ≡ false
not_later c d (inl o) = grind (arith, nat_tests)
not_later c d (inr x) = let e = x.0 in let o = x.1 in grind (arith, nat_tests)

module _ (h : History) (o : ℕ → Option ℕ) where
  -- a gathered cell is of the put at its place
  pub cell_of : (c : Cell) (p : ℕ) → IsGathered h o c → o c.place ≡ Some p → IsCellOf h c p
  cell_of c p g e = subst (IsCellOf h c) (same_Some g.put p (sym g.origin ∙ e)) g.is

  -- gathered cells can be told apart
  pub gathered_apart : (cells : List Cell) → All (IsGathered h o) cells → AreApart cells
  gathered_apart cells all c d a b key version place =
      let g = All-contains (IsGathered h o) cells c all a in
      let x = cell_of d g.put (All-contains (IsGathered h o) cells d all b) (subst (λ n. o n ≡ Some g.put) place g.origin) in
      let value : c.value ≡ d.value = sym g.is.value ∙ x.value in
      same_cell c d key place version value

  module _ (cells : List Cell) (all : All (IsGathered h o) cells) (order : AreInOrder h o cells) where
    -- the cell of the greatest put is the best one
    best_of_greatest : (k u p : ℕ) (c : Cell) → Contains cells c → o c.place ≡ Some p → Greatest (puts_of h) (IsPutIn o cells) k u (Some p) → IsBest cells k u c
    best_of_greatest k u p c a e g = record {
      among = a;
      of_key = sym is.key ∙ (g.among p refl).1;
      in_bound = omega (arith, is.version, (g.among p refl).2);
      greatest = λ j d m f b. below (get_or cells j d) (Contains-get_or cells j d m) f b;
    }
      where
        is : IsCellOf h c p
        is = cell_of c p (All-contains (IsGathered h o) cells c all a) e

        -- a put that is not above the greatest has no later cell
        placed : (d : Cell) (q : ℕ) → Contains cells d → o d.place ≡ Some q → IsCellOf h d q → d.key ≡ k → StandsUpTo (puts_of h) (Some p) q → (d.version < c.version) ⊎ (d.version ≡ c.version) × (d.place ≤ c.place)
        placed d q m f i y up = which (cases_lt c.place d.place)
          where
            version : StandsUpTo (puts_of h) (Some p) q → (d.version < c.version) ⊎ (d.version ≡ c.version) × ((attempt h q).add ≤ (attempt h p).add)
            version (inl w) = inr (sym i.version ∙ ap (λ n. (attempt h n).version) w ∙ is.version, omega (arith, ap (λ n. (attempt h n).add) w))
            version (inr (inl w)) = inl (omega (arith, w, i.version, is.version))
            version (inr (inr w)) = inr (omega (arith, w.0, i.version, is.version), omega (arith, w.1))

            by_version : (d.version < c.version) ⊎ (d.version ≡ c.version) × ((attempt h q).add ≤ (attempt h p).add) → c.place < d.place → (d.version < c.version) ⊎ (d.version ≡ c.version) × (d.place ≤ c.place)
            by_version (inl w) n = inl w
            by_version (inr w) n =
                let key : (attempt h p).key ≡ (attempt h q).key = (g.among p refl).1 ∙ sym y ∙ sym i.key in
                absurd (omega (arith, w.1, order c d p q a m n e f key (is.version ∙ sym w.0 ∙ sym i.version)))

            rest : (d.version < c.version) ⊎ (d.version ≡ c.version) × ((attempt h q).add ≤ (attempt h p).add) → d.place ≤ c.place → (d.version < c.version) ⊎ (d.version ≡ c.version) × (d.place ≤ c.place)
            rest (inl w) n = inl w
            rest (inr w) n = inr (w.0, n)

            which : (c.place < d.place) ⊎ (d.place ≤ c.place) → (d.version < c.version) ⊎ (d.version ≡ c.version) × (d.place ≤ c.place)
            which (inl n) = by_version (version up) n
            which (inr n) = rest (version up) n

        below : (d : Cell) → Contains cells d → d.key ≡ k → d.version ≤ u → is_later d c ≡ false
        below d m f b =
            let x = All-contains (IsGathered h o) cells d all m in
            not_later c d (placed d x.put m x.origin x.is f (g.greatest x.put (record { cell = d; among = m; origin = x.origin }) (x.is.key ∙ f) (omega (arith, x.is.version, b))))

    -- the greatest put is beside the best cell
    beside : (k u : ℕ) (x : Option ℕ) → Greatest (puts_of h) (IsPutIn o cells) k u x → AreBeside h o x (best_of cells k u)
    beside k u None g = which (best_of cells k u) refl
      where
        which : (y : Option Cell) → best_of cells k u ≡ y → AreBeside h o None (best_of cells k u)
        which None e = subst (AreBeside h o None) (sym e) neither_is
        which (Some c) e =
            let b = best_is cells k u c e in
            let x = All-contains (IsGathered h o) cells c all b.among in
            absurd (g.greatest x.put (record { cell = c; among = b.among; origin = x.origin }) (x.is.key ∙ b.of_key) (omega (arith, x.is.version, b.in_bound)))
    beside k u (Some p) g =
        let x = (g.among p refl).0 in
        let b = best_of-best cells k u x.cell (gathered_apart cells all) (best_of_greatest k u p x.cell x.among x.origin g) in
        subst (AreBeside h o (Some p)) (sym b) (both_are p x.cell x.origin (cell_of x.cell p (All-contains (IsGathered h o) cells x.cell all x.among) x.origin))

-- what is beside one cell is one put, and shows its value
same_beside : (h : History) (o : ℕ → Option ℕ) (x y : Option ℕ) (c : Option Cell) → AreBeside h o x c → AreBeside h o y c → x ≡ y
same_beside h o x y c neither_is neither_is = refl
same_beside h o x y c (both_are p d e i) (both_are q b f j) = sym e ∙ f

-- and shows the value of that cell
value_beside : (h : History) (o : ℕ → Option ℕ) (x : Option ℕ) (c : Option Cell) → AreBeside h o x c → value_of (puts_of h) x ≡ value_in c
value_beside h o x c neither_is = refl
value_beside h o x c (both_are p d e i) = i.value

-- cells that show the same are of puts that show the same
pub shown_cells : (h : History) (o : ℕ → Option ℕ) (cells kept : List Cell) → All (IsGathered h o) cells → AreInOrder h o cells → All (IsGathered h o) kept → AreInOrder h o kept → (k u : ℕ) → ShowsTheSame cells kept k u → Shows (puts_of h) (IsPutIn o kept) (IsPutIn o cells) k u
shown_cells h o cells kept all order some rest k u same b t x y = which same
  where
    first : AreBeside h o b (best_of kept k u)
    first = beside h o kept some rest k u b x

    second : AreBeside h o t (best_of cells k u)
    second = beside h o cells all order k u t y

    which : (best_of kept k u ≡ best_of cells k u) ⊎ ((shown_at kept u k ≡ None) × (shown_at cells u k ≡ None)) → Same (puts_of h) b t
    which (inl e) = inl (same_beside h o b t (best_of cells k u) (subst (AreBeside h o b) e first) second)
    which (inr e) = inr (value_beside h o b (best_of kept k u) first ∙ e.0, value_beside h o t (best_of cells k u) second ∙ e.1)
