-- What is in a cell that stands for an attempt, be it the attempt's own or a copy; and how the
-- attempts of one row follow each other by their cells.
use Rattle.std.proofs.Common.{ℕ, ◌≡◌, ◌≢◌, ◌⊎◌, inl, inr, ◌<◌, ◌≤◌, true, Some, arith, sym, ◌∙◌, ap, length}
use Rattle.std.proofs.lemmas.Bool.{cases_eq, cases_lt}
use Rattle.kw_words.specs.declared.layout.Name.TheVariants as name
use Rattle.kw_world.specs.Sizes.{Sizes}
use Rattle.kw_world.specs.Step.{word}
use Rattle.kw_core.specs.History.{attempt}
use Rattle.kw_core.specs.Run.{Run}
use Rattle.kw_core.specs.Step.{Keeps}
use Rattle.kw_rows.specs.Rows.{WasLinked}
use Rattle.kw_puts.specs.Puts.{HasCell, IsCopyAt, Puts, key_in, value_in}
use Rattle.kw_puts.proofs.Owners.{cell_here}

module _ {z : Sizes} {r : Run} (i : Puts z r) where
  -- an own cell or a copy is that of an attempt of the record
  pub cell_within : (q c p : ℕ) → HasCell r.ledger.rows r.history q c p ⊎ IsCopyAt (word z r.world) r.ledger.rows r.history q c p → p < length r.history.attempts
  cell_within q c p (inl x) = x.within
  cell_within q c p (inr x) = x.within

  -- its key and its value stand there once it is announced
  pub cell_key : (q c p : ℕ) → HasCell r.ledger.rows r.history q c p ⊎ IsCopyAt (word z r.world) r.ledger.rows r.history q c p → (attempt r.history p).is_announced ≡ true → key_in (word z r.world) q c ≡ (attempt r.history p).key
  cell_key q c p (inl x) e = rw (x.row, x.cell) at ((i.body p x.within (cell_here r.ledger.rows r.history q c p x)).key e)
  cell_key q c p (inr x) e = x.key

  pub cell_value : (q c p : ℕ) → HasCell r.ledger.rows r.history q c p ⊎ IsCopyAt (word z r.world) r.ledger.rows r.history q c p → (attempt r.history p).is_announced ≡ true → value_in (word z r.world) q c ≡ (attempt r.history p).value
  cell_value q c p (inl x) e = rw (x.row, x.cell) at ((i.body p x.within (cell_here r.ledger.rows r.history q c p x)).value e)
  cell_value q c p (inr x) e = x.value

  -- and a version that stands there is its own
  pub cell_version : (q c p : ℕ) → HasCell r.ledger.rows r.history q c p ⊎ IsCopyAt (word z r.world) r.ledger.rows r.history q c p → word z r.world (name.Version q c) ≢ 0 → ((attempt r.history p).is_stamped ≡ true) × (word z r.world (name.Version q c) ≡ (attempt r.history p).version)
  cell_version q c p (inl x) n =
      let b = i.body p x.within (cell_here r.ledger.rows r.history q c p x) in
      let m : word z r.world (name.Version (attempt r.history p).row (attempt r.history p).cell) ≢ 0 = rw (x.row, x.cell) n in
      (b.stamped m, rw (x.row, x.cell) at (b.version m))
  cell_version q c p (inr x) n = (x.stamped, x.version)

  -- of two cells of a row whose attempts are of one key and one version, the attempt of the later
  -- cell was added later: copies stand before own cells and rise, what is copied was stamped before
  -- the row was linked, and own cells are given one after the other
  pub place_order : Keeps r.history → (q c d p p' : ℕ) → WasLinked r.ledger.rows q → c < d → d < z.cells → r.origin q c ≡ Some p → r.origin q d ≡ Some p' → (attempt r.history p).key ≡ (attempt r.history p').key → (attempt r.history p).version ≡ (attempt r.history p').version →
      (attempt r.history p).add < (attempt r.history p').add
  place_order k q c d p p' n o w e f x y = which (i.places.owner q c p n (omega (arith, o, w)) e) (i.places.owner q d p' n w f)
    where
      -- own cells are given one after the other
      own_add : HasCell r.ledger.rows r.history q c p → HasCell r.ledger.rows r.history q d p' → (p < p') ⊎ (p' ≤ p) → (p ≡ p') ⊎ (p ≡ p' → ⊥) → (attempt r.history p).add < (attempt r.history p').add
      own_add a b (inl g) u = k.laws.adds p p' g b.within
      own_add a b (inr g) (inl u) = absurd (omega (arith, o, a.cell, b.cell, ap (λ s. (attempt r.history s).cell) u))
      own_add a b (inr g) (inr u) = absurd (omega (arith, o, a.cell, b.cell, i.rises p' p (omega (arith, g, u)) a.within (b.row ∙ sym a.row) (cell_here r.ledger.rows r.history q d p' b)))

      which : HasCell r.ledger.rows r.history q c p ⊎ IsCopyAt (word z r.world) r.ledger.rows r.history q c p → HasCell r.ledger.rows r.history q d p' ⊎ IsCopyAt (word z r.world) r.ledger.rows r.history q d p' → (attempt r.history p).add < (attempt r.history p').add
      which (inl a) (inl b) = own_add a b (cases_lt p p') (cases_eq p p')
      which (inr a) (inl b) = omega (arith, a.earlier, b.born)
      which (inl a) (inr b) = absurd (omega (arith, o, i.places.above q d c p' p n w (omega (arith, o, w)) f b.earlier e a.born))
      which (inr a) (inr b) = copies (i.places.rank q c d p p' n o w e a.earlier f b.earlier)
        where
          copies : ((attempt r.history p).key < (attempt r.history p').key) ⊎ ((attempt r.history p).key ≡ (attempt r.history p').key) × ((attempt r.history p).version < (attempt r.history p').version) → (attempt r.history p).add < (attempt r.history p').add
          copies (inl g) = absurd (omega (arith, g, x))
          copies (inr g) = absurd (omega (arith, g.1, y))
