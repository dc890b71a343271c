-- What the entry of an attempt's seat says of a cell that stands for the attempt: the cell of an
-- announced attempt is listed, or the entry is its own, unless the attempt is lost; a copy is
-- listed. So of an attempt that is not lost a frozen entry says that the cell is listed.
use Rattle.std.proofs.Common.{ℕ, ◌≡◌, ◌⊎◌, inl, inr, ◌<◌, ◌≤◌, Bool, true, false, Some, arith, refl, sym, ◌∙◌, ap, subst, length, slice_get, if◌then◌else◌}
use Rattle.std.proofs.lemmas.Option.{same_Some}
use Rattle.kw_words.specs.declared.layout.Name.TheVariants as name
use Rattle.kw_words.specs.declared.pend.Pend.TheVariants as pend
use Rattle.kw_words.specs.declared.sizes.TheConstants.{VERSION_END}
use Rattle.kw_words.specs.Pend.{pend_of, pend_word}
use Rattle.kw_words.proofs.PendWords.{pend_of-Idle, pend_of-Pending, pend_of-Stamped, pend_of-Frozen}
use Rattle.kw_world.specs.declared.activity.Activity.{Activity}
use Rattle.kw_world.specs.declared.activity.put.Put.TheVariants as Put
use Rattle.kw_world.specs.declared.local.Local.{Local}
use Rattle.kw_world.specs.Sizes.{Sizes}
use Rattle.kw_world.specs.Marks.{mark_of}
use Rattle.kw_world.specs.Step.{word}
use Rattle.kw_core.specs.History.{History, LoadClock, attempt}
use Rattle.kw_core.specs.HistoryLaws.{IsPut}
use Rattle.kw_core.specs.Run.{Run}
use Rattle.kw_core.specs.Stages.{IsPutting, IsFresh, IsPublished}
use Rattle.kw_core.specs.Listed.{Listed}
use Rattle.kw_core.specs.Words.{Words}
use Rattle.kw_rows.specs.Rows.{WasLinked}
use Rattle.kw_puts.specs.Puts.{HasCell, IsCopyAt, IsCurrent, IsOver, IsPublishedAt, entry_of}
use Rattle.kw_puts.specs.Below.{Below}
use Rattle.kw_reads.specs.Readers.{IsReady, IsMarkOf}
use Rattle.kw_puts.specs.Here.{IsHere}
use Rattle.kw_puts.proofs.Owners.{true_false, published_puts, cell_here}

-- what the entry of the seat j in the row q says of a cell that stands for an attempt of this seat:
-- the attempt is stamped and the cell is listed, or the entry is the attempt's own
pub data EntrySays (v : Words) (f : Listed) (h : History) (q j c p : ℕ) : Type 0 where
  is_listed : IsPut h p → f q c ≡ true → EntrySays v f h q j c p
  is_pending : pend_of (v (name.Pend q j)) ≡ Some (pend.Pending c) → EntrySays v f h q j c p
  is_stamped : IsPut h p → pend_of (v (name.Pend q j)) ≡ Some (pend.Stamped c (attempt h p).version) → EntrySays v f h q j c p

-- a seat that puts has not announced its cell, or has
fresh_or_published : (a : Activity) → IsPutting a → IsFresh a ⊎ IsPublished a
fresh_or_published (Activity.Put Put.Key) p = inl tt
fresh_or_published (Activity.Put Put.Value) p = inl tt
fresh_or_published (Activity.Put Put.Announce) p = inl tt
fresh_or_published (Activity.Put Put.Clock) p = inr tt
fresh_or_published (Activity.Put Put.Stamp) p = inr tt
fresh_or_published (Activity.Put Put.Version) p = inr tt
fresh_or_published (Activity.Insert _) p = inr tt
fresh_or_published (Activity.Put Put.Clear) p = inr tt
fresh_or_published _ p = absurd p

module _ {z : Sizes} {r : Run} (k : Below z r) where
  -- the version of a stamped attempt is one that a word may hold
  pub version_ranges : (p : ℕ) → IsPut r.history p → (1 ≤ (attempt r.history p).version) × ((attempt r.history p).version < VERSION_END)
  version_ranges p s =
      let t = k.history.laws.loaded p s in
      let w = (k.shape.sane.each name.Clock tt).1 in
      (k.positions.clocked.positive _ LoadClock _ t, omega (arith, k.positions.clocked.past _ LoadClock _ t, w))

  -- an attempt for which a listed cell stands is stamped
  listed_stamped : (q c p : ℕ) → WasLinked r.ledger.rows q → r.origin q c ≡ Some p → r.listed q c ≡ true → IsPut r.history p
  listed_stamped q c p n o x = let cell = k.lists.cells q c n x in rw (same_Some p cell.put (sym o ∙ cell.origin)) cell.stamped

  -- and it is ready for every reader of the row
  pub listed_ready : (l : Local) (c p : ℕ) → IsPut r.history p → r.listed l.row c ≡ true → IsReady r.listed r.history l c p
  listed_ready l c p s x = record { stamped = s; noted = inr x }

  -- an entry that is that of an attempt which is not lost, as it is read
  own_entry : (q j p : ℕ) → p < length r.history.attempts → (attempt r.history p).is_lost ≡ false → word z r.world (name.Pend q j) ≡ entry_of (attempt r.history p) → (pend_of (word z r.world (name.Pend q j)) ≡ Some (pend.Pending (attempt r.history p).cell)) ⊎ IsPut r.history p × (pend_of (word z r.world (name.Pend q j)) ≡ Some (pend.Stamped (attempt r.history p).cell (attempt r.history p).version))
  own_entry q j p w n e = saw (attempt r.history p).is_stamped refl (rw n at e)
    where
      cell : (attempt r.history p).cell < z.cells
      cell = (k.puts.placed p w).cell

      saw : (b : Bool) → (attempt r.history p).is_stamped ≡ b → word z r.world (name.Pend q j) ≡ (if b then pend_word (pend.Stamped (attempt r.history p).cell (attempt r.history p).version) else pend_word (pend.Pending (attempt r.history p).cell)) → (pend_of (word z r.world (name.Pend q j)) ≡ Some (pend.Pending (attempt r.history p).cell)) ⊎ IsPut r.history p × (pend_of (word z r.world (name.Pend q j)) ≡ Some (pend.Stamped (attempt r.history p).cell (attempt r.history p).version))
      saw true s x =
          let y = version_ranges p s in
          inr (s, ap pend_of x ∙ pend_of-Stamped (attempt r.history p).cell (attempt r.history p).version (omega (arith, cell, k.shape.sane.sized.few_cells)) y.0 y.1)
      saw false s x = inl (ap pend_of x ∙ pend_of-Pending (attempt r.history p).cell (omega (arith, cell, k.shape.sane.sized.few_cells)))

  -- what the entry of its seat says of an announced attempt that is not lost, and whose own cell
  -- this is
  own_says : (q j c p : ℕ) → WasLinked r.ledger.rows q → HasCell r.ledger.rows r.history q c p → r.origin q c ≡ Some p → (attempt r.history p).seat ≡ j → (attempt r.history p).is_announced ≡ true → (attempt r.history p).is_lost ≡ false → EntrySays (word z r.world) r.listed r.history q j c p
  own_says q j c p m w x f a n = which (k.lists.old p w.within)
    where
      over : ((attempt r.history p).is_lost ≡ true) ⊎ ((attempt r.history p).is_announced ≡ false) → EntrySays (word z r.world) r.listed r.history q j c p
      over (inl x) = true_false x n
      over (inr x) = true_false a x

      which : IsCurrent (slice_get r.world.locals) r.seats r.history p ⊎ (IsHere r.ledger.rows r.history p → r.listed (attempt r.history p).row (attempt r.history p).cell ≡ true) ⊎ IsOver r.history p → EntrySays (word z r.world) r.listed r.history q j c p
      which (inr (inr o)) = over o.over
      which (inr (inl o)) = let y : r.listed q c ≡ true = rw (w.row, w.cell) at (o (cell_here r.ledger.rows r.history q c p w)) in is_listed (listed_stamped q c p m x y) y
      which (inl u) = stage (fresh_or_published u.local.activity u.putting)
        where
          own : (attempt r.history (r.seats (attempt r.history p).seat).own) ≡ attempt r.history p
          own = ap (attempt r.history) u.own

          read : (pend_of (word z r.world (name.Pend q j)) ≡ Some (pend.Pending (attempt r.history p).cell)) ⊎ IsPut r.history p × (pend_of (word z r.world (name.Pend q j)) ≡ Some (pend.Stamped (attempt r.history p).cell (attempt r.history p).version)) → EntrySays (word z r.world) r.listed r.history q j c p
          read (inl y) = is_pending (y ∙ ap (λ d. Some (pend.Pending d)) w.cell)
          read (inr y) = is_stamped y.0 (y.1 ∙ ap (λ d. Some (pend.Stamped d (attempt r.history p).version)) w.cell)

          stage : IsFresh u.local.activity ⊎ IsPublished u.local.activity → EntrySays (word z r.world) r.listed r.history q j c p
          stage (inl y) = true_false a (rw own at ((k.puts.owns (attempt r.history p).seat u.local u.knows u.putting).unannounced y))
          stage (inr y) =
              let o = k.puts.owns (attempt r.history p).seat u.local u.knows u.putting in
              let row : u.local.row ≡ q = sym o.row ∙ ap (λ y. y.row) own ∙ w.row in
              read (own_entry q j p w.within n (subst (λ y. word z r.world (name.Pend y j) ≡ entry_of (attempt r.history p)) row (subst (λ y. word z r.world (name.Pend u.local.row y) ≡ entry_of (attempt r.history p)) f (o.entry y ∙ ap entry_of own))))

  -- or which is copied there
  pub entry_says : (q j c p : ℕ) → WasLinked r.ledger.rows q → c < z.cells → r.origin q c ≡ Some p → (attempt r.history p).seat ≡ j → (attempt r.history p).is_announced ≡ true → (attempt r.history p).is_lost ≡ false → EntrySays (word z r.world) r.listed r.history q j c p
  entry_says q j c p m o x f a n = which (k.puts.places.owner q c p m o x)
    where
      which : HasCell r.ledger.rows r.history q c p ⊎ IsCopyAt (word z r.world) r.ledger.rows r.history q c p → EntrySays (word z r.world) r.listed r.history q j c p
      which (inl w) = own_says q j c p m w x f a n
      which (inr w) = is_listed w.stamped (k.lists.copied q c p m o x w.earlier)

  -- an attempt whose entry is stamped is not lost
  stamped_kept : (q j p c version : ℕ) → word z r.world (name.Pend q j) ≡ entry_of (attempt r.history p) → pend_of (word z r.world (name.Pend q j)) ≡ Some (pend.Stamped c version) → (attempt r.history p).is_lost ≡ false
  stamped_kept q j p c version e f = saw (attempt r.history p).is_lost refl
    where
      saw : (b : Bool) → (attempt r.history p).is_lost ≡ b → (attempt r.history p).is_lost ≡ false
      saw true y = let x : word z r.world (name.Pend q j) ≡ pend_word pend.Frozen = rw y at e in let u : Some pend.Frozen ≡ Some (pend.Stamped c version) = sym pend_of-Frozen ∙ sym (ap pend_of x) ∙ f in absurd (cc)
      saw false y = y

  -- the cell of a stamped entry is that of an attempt that is stamped with the entry's version
  pub stamped_owner : (q j c version : ℕ) → q < r.world.rows → j < z.seats → pend_of (word z r.world (name.Pend q j)) ≡ Some (pend.Stamped c version) → IsMarkOf r.history r.origin q (mark_of c version)
  stamped_owner q j c version w o e = which (k.puts.entry q j w o)
    where
      from : (p : ℕ) → r.origin q (attempt r.history p).cell ≡ Some p → (pend_of (word z r.world (name.Pend q j)) ≡ Some (pend.Pending (attempt r.history p).cell)) ⊎ IsPut r.history p × (pend_of (word z r.world (name.Pend q j)) ≡ Some (pend.Stamped (attempt r.history p).cell (attempt r.history p).version)) → IsMarkOf r.history r.origin q (mark_of c version)
      from p o (inl x) = let y : Some (pend.Pending (attempt r.history p).cell) ≡ Some (pend.Stamped c version) = sym x ∙ e in absurd (cc)
      from p o (inr x) =
          let y : Some (pend.Stamped (attempt r.history p).cell (attempt r.history p).version) ≡ Some (pend.Stamped c version) = sym x.1 ∙ e in
          let n : (attempt r.history p).cell ≡ c = cc in
          record { put = p; origin = subst (λ d. r.origin q d ≡ Some p) n o; stamped = x.0; version = cc }

      which : (word z r.world (name.Pend q j) ≡ pend_word pend.Idle) ⊎ (word z r.world (name.Pend q j) ≡ pend_word pend.Frozen) ⊎ IsPublishedAt (slice_get r.world.locals) q j → IsMarkOf r.history r.origin q (mark_of c version)
      which (inl x) = let y : Some (pend.Stamped c version) ≡ Some pend.Idle = sym e ∙ ap pend_of x ∙ pend_of-Idle in absurd (cc)
      which (inr (inl x)) = let y : Some (pend.Stamped c version) ≡ Some pend.Frozen = sym e ∙ ap pend_of x ∙ pend_of-Frozen in absurd (cc)
      which (inr (inr x)) =
          let puts = published_puts x.local.activity x.published in
          let own = k.puts.owns j x.local x.knows puts in
          let origin = (k.puts.given (r.seats j).own own.within (k.puts.present j x.local x.knows puts)).origin in
          let entry = subst (λ y. word z r.world (name.Pend y j) ≡ entry_of (attempt r.history (r.seats j).own)) x.row (own.entry x.published) in
          from (r.seats j).own (subst (λ y. r.origin y (attempt r.history (r.seats j).own).cell ≡ Some (r.seats j).own) (own.row ∙ x.row) origin) (own_entry q j (r.seats j).own own.within (stamped_kept q j (r.seats j).own c version entry e) entry)
