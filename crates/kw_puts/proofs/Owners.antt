-- Whose a cell is: the attempts that two seats are at work on have different cells, and an attempt
-- whose row was not used again has its cell alone.
use Rattle.std.proofs.Common.{ℕ, ◌≡◌, ◌≢◌, ◌⊎◌, inl, inr, arith, ◌<◌, ◌≤◌, Bool, true, false, Some, refl, sym, ◌∙◌, ap, subst, slice_get}
use Rattle.std.proofs.lemmas.Bool.{cases_lt}
use Rattle.std.proofs.lemmas.Option.{same_Some}
use Rattle.kw_words.specs.declared.layout.Name.TheVariants as name
use Rattle.kw_words.specs.declared.pend.Pend.TheVariants as pend
use Rattle.kw_words.specs.Pend.{pend_word}
use Rattle.kw_world.specs.declared.activity.Activity.{Activity}
use Rattle.kw_world.specs.declared.activity.put.Put.TheVariants as Put
use Rattle.kw_world.specs.declared.local.Local.{Local}
use Rattle.kw_world.specs.Sizes.{Sizes}
use Rattle.kw_world.specs.Step.{word}
use Rattle.kw_core.specs.declared.history.Attempt.{Attempt}
use Rattle.kw_core.specs.History.{History, attempt}
use Rattle.kw_core.specs.Run.{Run}
use Rattle.kw_core.specs.Stages.{IsAtRow, IsBalancing, IsBusy, IsPutting, IsPublished}
use Rattle.kw_rows.specs.Ledger.{Dead, Free, Infant, Ledger, Live, Status}
use Rattle.kw_rows.specs.Rows.{WasLinked}
use Rattle.kw_shape.specs.Shape.{Shape}
use Rattle.kw_shape.proofs.LinkedRows.{fresh_linked}
use Rattle.kw_puts.specs.Puts.{HasCell, IsHere, IsMadeIn, Puts, OwnsAttempt, IsPublishedAt, entry_of}

-- a contradiction of tests
pub true_false : {A : Type 0} {b : Bool} → b ≡ true → b ≡ false → A
true_false t f = let x : true ≡ false = sym t ∙ f in absurd (cc)

-- an attempt whose entry is pending is not lost
pub pending_kept : (p : Attempt) (c : ℕ) → entry_of p ≡ pend_word (pend.Pending c) → p.is_lost ≡ false
pending_kept p c e = saw p.is_lost refl
  where
    saw : (b : Bool) → p.is_lost ≡ b → p.is_lost ≡ false
    saw true y = let x : pend_word pend.Frozen ≡ pend_word (pend.Pending c) = rw y at e in absurd (omega (arith, x))
    saw false y = y

-- it is not stamped, and its cell is the one of the entry
pub pending_entry : (p : Attempt) (c : ℕ) → entry_of p ≡ pend_word (pend.Pending c) → (p.is_stamped ≡ false) × (p.cell ≡ c)
pending_entry p c e = saw p.is_stamped refl
  where
    saw : (b : Bool) → p.is_stamped ≡ b → (p.is_stamped ≡ false) × (p.cell ≡ c)
    saw true y = let x : pend_word (pend.Stamped p.cell p.version) ≡ pend_word (pend.Pending c) = rw (pending_kept p c e, y) at e in absurd (omega (arith, x))
    saw false y = let x : pend_word (pend.Pending p.cell) ≡ pend_word (pend.Pending c) = rw (pending_kept p c e, y) at e in (y, omega (arith, x))

-- a seat that has announced its cell puts, and a seat that puts is in a call
pub published_puts : (a : Activity) → IsPublished a → IsPutting a
published_puts (Activity.Put Put.Clock) p = tt
published_puts (Activity.Put Put.Stamp) p = tt
published_puts (Activity.Put Put.Version) p = tt
published_puts (Activity.Insert _) p = tt
published_puts (Activity.Put Put.Clear) p = tt
published_puts _ p = absurd p

pub puts_busy : (a : Activity) → IsPutting a → IsBusy a
puts_busy (Activity.Put Put.Key) p = tt
puts_busy (Activity.Put Put.Value) p = tt
puts_busy (Activity.Put Put.Announce) p = tt
puts_busy (Activity.Put Put.Clock) p = tt
puts_busy (Activity.Put Put.Stamp) p = tt
puts_busy (Activity.Put Put.Version) p = tt
puts_busy (Activity.Insert _) p = tt
puts_busy (Activity.Put Put.Clear) p = tt
puts_busy _ p = absurd p

-- a seat that is at the row of its key, one that puts, and one that rebalances are at a row that is
-- or was linked
pub row_linked : (z : Sizes) (r : Run) → Shape z r → (t : ℕ) (k : Local) → slice_get r.world.locals t ≡ Some k → IsAtRow k.activity → WasLinked r.ledger.rows k.row
row_linked z r i t k g x = fresh_linked r.ledger.rows t k.row ((i.walks t k g).at x).fresh

pub puts_at_row : (a : Activity) → IsPutting a → IsAtRow a
puts_at_row (Activity.Put Put.Key) p = tt
puts_at_row (Activity.Put Put.Value) p = tt
puts_at_row (Activity.Put Put.Announce) p = tt
puts_at_row (Activity.Put Put.Clock) p = tt
puts_at_row (Activity.Put Put.Stamp) p = tt
puts_at_row (Activity.Put Put.Version) p = tt
puts_at_row (Activity.Insert _) p = tt
puts_at_row (Activity.Put Put.Clear) p = tt
puts_at_row _ p = absurd p

pub puts_linked : (z : Sizes) (r : Run) → Shape z r → (t : ℕ) (k : Local) → slice_get r.world.locals t ≡ Some k → IsPutting k.activity → WasLinked r.ledger.rows k.row
puts_linked z r i t k g x = row_linked z r i t k g (puts_at_row k.activity x)

pub full_linked : (z : Sizes) (r : Run) → Shape z r → (t : ℕ) (k : Local) → slice_get r.world.locals t ≡ Some k → IsBalancing k.activity → WasLinked r.ledger.rows k.row
full_linked z r i t k g x = fresh_linked r.ledger.rows t k.row ((i.balances t k g).fresh x)

-- a row was linked, or was not
pub was_or_not : (g : Ledger) (q : ℕ) → WasLinked g q ⊎ (WasLinked g q → ⊥)
was_or_not g q = by (g.fates q).status refl
  where
    not : (x : Status) → (g.fates q).status ≡ x → x ≢ Live → x ≢ Dead → WasLinked g q → ⊥
    not x e m n (inl f) = m (sym e ∙ f)
    not x e m n (inr f) = n (sym e ∙ f)

    by : (x : Status) → (g.fates q).status ≡ x → WasLinked g q ⊎ (WasLinked g q → ⊥)
    by Free e = inr (not Free e (λ f. cc) (λ f. cc))
    by Infant e = inr (not Infant e (λ f. cc) (λ f. cc))
    by Live e = inl (inl e)
    by Dead e = inl (inr e)

-- The rows of attempts.

-- the row of an attempt was used again, or was not
pub is_here : (g : Ledger) (h : History) (p : ℕ) → IsHere g h p ⊎ (IsHere g h p → ⊥)
is_here g h p = which (was_or_not g (attempt h p).row) (cases_lt (attempt h p).add (g.fates (attempt h p).row).born)
  where
    which : WasLinked g (attempt h p).row ⊎ (WasLinked g (attempt h p).row → ⊥) → ((attempt h p).add < (g.fates (attempt h p).row).born) ⊎ ((g.fates (attempt h p).row).born ≤ (attempt h p).add) → IsHere g h p ⊎ (IsHere g h p → ⊥)
    which (inl k) (inl o) = inr (λ x. omega (arith, o, x.born))
    which (inl k) (inr o) = inl (record { linked = k; born = o })
    which (inr n) o = inr (λ x. n x.linked)

-- an attempt that was made in a row which is or was linked, since it was linked, is one whose row
-- was not
pub made_here : (g : Ledger) (h : History) (r p : ℕ) → WasLinked g r → IsMadeIn g h r p → IsHere g h p
made_here g h r p k x = record { linked = subst (WasLinked g) (sym x.row) k; born = subst (λ q. (g.fates q).born ≤ (attempt h p).add) (sym x.row) x.born }

-- so is one that has a cell there
pub cell_here : (g : Ledger) (h : History) (r c p : ℕ) → HasCell g h r c p → IsHere g h p
cell_here g h r c p x = made_here g h r p x.linked (record { row = x.row; born = x.born })

-- the entry of a seat in a row is pending with this cell
pub record IsPendingOf (z : Sizes) (r : Run) (q t c : ℕ) : Type 0 where
  pub local : Local
  pub knows : slice_get r.world.locals t ≡ Some local
  pub published : IsPublished local.activity
  pub row : local.row ≡ q
  pub unstamped : (attempt r.history (r.seats t).own).is_stamped ≡ false
  pub kept : (attempt r.history (r.seats t).own).is_lost ≡ false
  pub cell : (attempt r.history (r.seats t).own).cell ≡ c

module _ {z : Sizes} {r : Run} (i : Puts z r) where
  -- the own attempt of a seat that puts
  pub own_of : (t : ℕ) (k : Local) → slice_get r.world.locals t ≡ Some k → IsPutting k.activity → OwnsAttempt (word z r.world) r.history t k.activity k (r.seats t)
  own_of t k g p = i.owns t k g p

  -- the cell that a seat is at work on stands for its own attempt
  pub own_origin : (t : ℕ) (k : Local) → slice_get r.world.locals t ≡ Some k → IsPutting k.activity → r.origin k.row k.cell ≡ Some (r.seats t).own
  own_origin t k g p = let own = i.owns t k g p in rw (own.row, own.cell) at (i.given (r.seats t).own own.within (i.present t k g p)).origin

  -- a cell that an attempt has stands for this attempt
  pub cell_origin : (q c p : ℕ) → HasCell r.ledger.rows r.history q c p → r.origin q c ≡ Some p
  cell_origin q c p x = rw (x.row, x.cell) at (i.given p x.within (cell_here r.ledger.rows r.history q c p x)).origin

  -- an attempt that has the cell at which a seat is at work is the seat's own
  pub is_own : (t : ℕ) (k : Local) → slice_get r.world.locals t ≡ Some k → IsPutting k.activity → (p : ℕ) → HasCell r.ledger.rows r.history k.row k.cell p → p ≡ (r.seats t).own
  is_own t k g y p x = same_Some p (r.seats t).own (sym (cell_origin k.row k.cell p x) ∙ own_origin t k g y)

  -- two seats that put are at work on different cells
  pub cells_apart : (t s : ℕ) (k l : Local) → t ≢ s → slice_get r.world.locals t ≡ Some k → slice_get r.world.locals s ≡ Some l → IsPutting k.activity → IsPutting l.activity → k.row ≡ l.row → k.cell ≡ l.cell → ⊥
  cells_apart t s k l d g m x y e f =
      let same : (r.seats t).own ≡ (r.seats s).own = same_Some (r.seats t).own (r.seats s).own (sym (own_origin t k g x) ∙ rw (e, f) (own_origin s l m y)) in
      d (sym (i.owns t k g x).seat ∙ ap (λ q. (attempt r.history q).seat) same ∙ (i.owns s l m y).seat)

  -- the own attempts of two seats are different
  pub owns_apart : (t s : ℕ) (k l : Local) → t ≢ s → slice_get r.world.locals t ≡ Some k → slice_get r.world.locals s ≡ Some l → IsPutting k.activity → IsPutting l.activity → (r.seats t).own ≢ (r.seats s).own
  owns_apart t s k l d g m x y e = d (sym (i.owns t k g x).seat ∙ ap (λ q. (attempt r.history q).seat) e ∙ (i.owns s l m y).seat)

  -- the seat of a pending entry: it has announced a cell of the row, this cell, and its attempt is
  -- neither stamped nor lost
  pub entry_owner : (q t c : ℕ) → q < r.world.rows → t < z.seats → word z r.world (name.Pend q t) ≡ pend_word (pend.Pending c) → IsPendingOf z r q t c
  entry_owner q t c w o e = which (i.entry q t w o)
    where
      which : (word z r.world (name.Pend q t) ≡ pend_word pend.Idle) ⊎ (word z r.world (name.Pend q t) ≡ pend_word pend.Frozen) ⊎ IsPublishedAt (slice_get r.world.locals) q t → IsPendingOf z r q t c
      which (inl x) = let y : pend_word (pend.Pending c) ≡ pend_word pend.Idle = sym e ∙ x in absurd (omega (arith, y))
      which (inr (inl x)) = let y : pend_word (pend.Pending c) ≡ pend_word pend.Frozen = sym e ∙ x in absurd (omega (arith, y))
      which (inr (inr p)) =
          let own = i.owns t p.local p.knows (published_puts p.local.activity p.published) in
          let entry = sym (own.entry p.published) ∙ subst (λ x. word z r.world (name.Pend x t) ≡ pend_word (pend.Pending c)) (sym p.row) e in
          let st = pending_entry (attempt r.history (r.seats t).own) c entry in
          record { local = p.local; knows = p.knows; published = p.published; row = p.row; unstamped = st.0; kept = pending_kept (attempt r.history (r.seats t).own) c entry; cell = st.1 }

  -- an attempt for which the cell of a pending entry stands is the own one of the entry's seat
  pub pending_own : (q t c p : ℕ) → q < r.world.rows → t < z.seats → word z r.world (name.Pend q t) ≡ pend_word (pend.Pending c) → r.origin q c ≡ Some p → p ≡ (r.seats t).own
  pending_own q t c p w o e x =
      let n = entry_owner q t c w o e in
      let puts = published_puts n.local.activity n.published in
      let origin : r.origin q c ≡ Some (r.seats t).own = rw (n.row, sym (i.owns t n.local n.knows puts).cell ∙ n.cell) at (own_origin t n.local n.knows puts) in
      same_Some p (r.seats t).own (sym x ∙ origin)

  -- so the cell is its own
  pub pending_cell : (q t c p : ℕ) → q < r.world.rows → t < z.seats → word z r.world (name.Pend q t) ≡ pend_word (pend.Pending c) → r.origin q c ≡ Some p → HasCell r.ledger.rows r.history q c p
  pending_cell q t c p w o e x =
      let n = entry_owner q t c w o e in
      let puts = published_puts n.local.activity n.published in
      let own = i.owns t n.local n.knows puts in
      let here = i.present t n.local n.knows puts in
      let row : (attempt r.history (r.seats t).own).row ≡ q = own.row ∙ n.row in
      subst (HasCell r.ledger.rows r.history q c) (sym (pending_own q t c p w o e x)) (record {
        within = own.within;
        row = row;
        cell = n.cell;
        linked = subst (WasLinked r.ledger.rows) row here.linked;
        born = subst (λ y. (r.ledger.rows.fates y).born ≤ (attempt r.history (r.seats t).own).add) row here.born;
      })
