-- What a seat finds in its entry at the row of its put: an idle entry before it announces its cell,
-- one with its cell after that; or a frozen one.
use Rattle.std.proofs.Common.{ℕ, ◌≡◌, ◌⊎◌, inl, inr, ◌<◌, Bool, true, false, Some, arith, refl, sym, ◌∙◌, ap, subst, slice_get}
use Rattle.std.proofs.lemmas.Option.{slice_get_within}
use Rattle.kw_words.specs.declared.layout.Name.TheVariants as name
use Rattle.kw_words.specs.declared.pend.Pend.TheVariants.{Idle, Pending, Stamped, Frozen}
use Rattle.kw_words.specs.declared.sizes.TheConstants.{MOST_CELLS}
use Rattle.kw_words.specs.Pend.{pend_of, pend_word}
use Rattle.kw_words.proofs.PendWords.{pend_of-Idle, pend_of-Pending, pend_of-Stamped, pend_of-Frozen}
use Rattle.kw_world.specs.declared.activity.Activity.TheVariants as Activity
use Rattle.kw_world.specs.declared.activity.put.Put.TheVariants as Put
use Rattle.kw_world.specs.declared.local.Local.{Local}
use Rattle.kw_world.specs.Sane.{IsVersion}
use Rattle.kw_world.specs.Sizes.{Sizes}
use Rattle.kw_world.specs.Step.{word}
use Rattle.kw_core.specs.declared.history.Attempt.{Attempt}
use Rattle.kw_core.specs.History.{LoadClock, attempt}
use Rattle.kw_core.specs.HistoryLaws.{IsPut}
use Rattle.kw_reads.specs.Inv.{Inv}
use Rattle.kw_puts.specs.Puts.{entry_of, IsPublishedAt}
use Rattle.kw_core.specs.Run.{Run}
use Rattle.kw_core.specs.Stages.{IsPublished}
use Rattle.kw_laws.specs.Laws.{IsIdleOrFrozen, HasCellOrFrozen}
use Rattle.kw_puts.proofs.Owners.{published_puts}

-- the version of a stamped attempt is one
version_in_range : (z : Sizes) (r : Run) → Inv z r → (p : ℕ) → IsPut r.history p → IsVersion (attempt r.history p).version
version_in_range z r i p s =
    let t = i.history.laws.loaded p s in
    (i.positions.clocked.positive _ LoadClock _ t, omega (arith, i.positions.clocked.past _ LoadClock _ t, (i.shape.sane.each name.Clock tt).1))

-- the entry of an attempt has its cell, or is frozen
entry_has_cell : (e : Attempt) (cell w : ℕ) → e.cell ≡ cell → cell < MOST_CELLS → (e.is_stamped ≡ true → IsVersion e.version) → w ≡ entry_of e → HasCellOrFrozen cell (pend_of w)
entry_has_cell e cell w c o f h = saw e.is_lost refl e.is_stamped refl
  where
    saw : (b : Bool) → e.is_lost ≡ b → (d : Bool) → e.is_stamped ≡ d → HasCellOrFrozen cell (pend_of w)
    saw true u d y =
        let x : w ≡ pend_word Frozen = rw u at h in
        rw (x, pend_of-Frozen) tt
    saw false u true y =
        let x : w ≡ pend_word (Stamped e.cell e.version) = rw (u, y) at h in
        let g = f y in
        rw (x, pend_of-Stamped e.cell e.version (omega (arith, c, o)) g.0 g.1) c
    saw false u false y =
        let x : w ≡ pend_word (Pending e.cell) = rw (u, y) at h in
        rw (x, pend_of-Pending e.cell (omega (arith, c, o))) c

module _ (z : Sizes) (r : Run) (i : Inv z r) where
  seat : (t : ℕ) (l : Local) → slice_get r.world.locals t ≡ Some l → t < z.seats
  seat t l g = omega (arith, slice_get_within r.world.locals t l g, i.shape.sane.seats)

  -- a seat that has announced its cell finds its entry with it, or frozen
  pub finds_own : (t : ℕ) (l : Local) → slice_get r.world.locals t ≡ Some l → IsPublished l.activity → HasCellOrFrozen l.cell (pend_of (word z r.world (name.Pend l.row t)))
  finds_own t l g p =
      let o = i.puts.owns t l g (published_puts l.activity p) in
      entry_has_cell (attempt r.history (r.seats t).own) l.cell _ o.cell (omega (arith, (i.shape.sane.locals t l g).ranges.cell, i.shape.sane.sized.few_cells)) (λ s. version_in_range z r i (r.seats t).own s) (o.entry p)

  -- one that is to announce it finds its entry idle, or frozen
  pub finds_idle : (t : ℕ) (l : Local) → slice_get r.world.locals t ≡ Some l → l.activity ≡ Activity.Put Put.Announce → IsIdleOrFrozen (pend_of (word z r.world (name.Pend l.row t)))
  finds_idle t l g a = which (i.puts.entry l.row t (i.shape.sane.locals t l g).below.row (seat t l g))
    where
      which : (word z r.world (name.Pend l.row t) ≡ pend_word Idle) ⊎ (word z r.world (name.Pend l.row t) ≡ pend_word Frozen) ⊎ IsPublishedAt (slice_get r.world.locals) l.row t → IsIdleOrFrozen (pend_of (word z r.world (name.Pend l.row t)))
      which (inl e) = subst IsIdleOrFrozen (sym (ap pend_of e ∙ pend_of-Idle)) tt
      which (inr (inl e)) = subst IsIdleOrFrozen (sym (ap pend_of e ∙ pend_of-Frozen)) tt
      which (inr (inr p)) =
          let x : Some l ≡ Some p.local = sym g ∙ p.knows in
          let y : l ≡ p.local = cc in
          absurd (subst IsPublished a (subst (λ u. IsPublished u.activity) (sym y) p.published))
