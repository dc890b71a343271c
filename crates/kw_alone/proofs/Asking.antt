-- When a seat asks for a cell again: where it asked for one before, or where it has lost the cell
-- that it had, and then its row is frozen, since its entry is.
use Rattle.std.proofs.Common.{ℕ, ◌≡◌, ◌≢◌, ◌⊎◌, inl, inr, Bool, true, false, if◌then◌else◌, Option, Some, None, refl, sym, ◌∙◌, ap, subst}
use Rattle.std.proofs.lemmas.Bool.{cases_Bool}
use Rattle.kw_words.specs.declared.layout.Name.TheVariants as name
use Rattle.kw_words.specs.declared.pend.Pend.{Pend}
use Rattle.kw_words.specs.declared.pend.Pend.TheVariants as pend
use Rattle.kw_words.specs.Pend.{pend_of, pend_word}
use Rattle.kw_words.proofs.PendWords.{pend_word_of}
use Rattle.kw_world.specs.declared.activity.Activity.{Activity}
use Rattle.kw_world.specs.declared.activity.put.Put.TheVariants as Put
use Rattle.kw_world.specs.declared.event.Choice.{Choice}
use Rattle.kw_world.specs.declared.local.Local.{Local}
use Rattle.kw_world.specs.Sizes.{Sizes}
use Rattle.kw_world.specs.Step.{word}
use Rattle.kw_core.specs.Run.{Run}
use Rattle.kw_core.specs.Stages.{IsBalancing, IsDone, IsStaying}
use Rattle.kw_core.specs.Words.{Words}
use Rattle.kw_core.proofs.Arrows.{Arrow, IsNotOwn, builds, stores_key, stores_value, announces, announces_full, loads_clock, stamps, is_stamped, stamps_full, stores_version, inserts_behind, inserts_at_first, first_reaches, first_sees_none, reaches_cell, sees_none, key_before, key_same, key_after, version_before, version_after, stores_after, inserts, loses, clears, tidies}
use Rattle.kw_core.proofs.Building.{IsBuilding}
use Rattle.kw_core.proofs.Happens.{Happens}
use Rattle.kw_shape.specs.Shape.{Shape}
use Rattle.kw_shape.proofs.NextCalls.{arrow_tidies}
use Rattle.kw_laws.specs.Laws.{KeepsLaws, HasCellOrFrozen, IsIdleOrFrozen}
use Rattle.kw_alone.specs.Wins.{asks, has_cell}

-- the seat's entry is not as it left it
abbrev pub HasLostCell : Words → ℕ → Activity → Local → Type 0
HasLostCell v s (Activity.Put Put.Announce) l = v (name.Pend l.row s) ≢ pend_word pend.Idle
HasLostCell v s (Activity.Put Put.Stamp) l = IsNotOwn l.cell (v (name.Pend l.row s))
HasLostCell v s _ l = ⊥

-- Tests.

pub no_cell : (b : Bool) → (if b then false else false) ≡ true → ⊥
no_cell true e = absurd (cc)
no_cell false e = absurd (cc)

-- a seat that asks for a cell does not tidy, and has none
asks_untidy : (b c : Bool) → (if b then false else if c then false else true) ≡ true → b ≡ false
asks_untidy true c e = absurd (cc)
asks_untidy false c e = refl

asks_test : (b c : Bool) → b ≡ false → c ≡ false → (if b then false else if c then false else true) ≡ true
asks_test b c e f = rw (e, f) refl

built_none : (a : Activity) → IsBuilding a → has_cell a ≡ true → ⊥
built_none (Activity.Rebalance _) y e = absurd (cc)
built_none _ y e = y

-- Arrows.

-- a put that has a cell and asks for one again has lost it, unless it leaves
lost_by : (z : Sizes) (v : Words) (s : ℕ) (choice : Choice) (l : Local) (a : Activity) (k : Local) → Arrow z v s choice l a k → has_cell a ≡ true → IsStaying k.activity → asks k.activity k ≡ true → HasLostCell v s a l
lost_by z v s choice l a k (builds b m y t) c st e = absurd (built_none b y c)
lost_by z v s choice l a k stores_key c st e = absurd (no_cell l.tidies e)
lost_by z v s choice l a k stores_value c st e = absurd (no_cell l.tidies e)
lost_by z v s choice l a k (announces x) c st e = absurd (no_cell l.tidies e)
lost_by z v s choice l a k (announces_full x) c st e = x
lost_by z v s choice l a k loads_clock c st e = absurd (no_cell l.tidies e)
lost_by z v s choice l a k (stamps x) c st e = absurd (no_cell l.tidies e)
lost_by z v s choice l a k (is_stamped version x) c st e = absurd (no_cell l.tidies e)
lost_by z v s choice l a k (stamps_full x) c st e = x
lost_by z v s choice l a k stores_version c st e = absurd (no_cell l.tidies e)
lost_by z v s choice l a k (inserts_behind d o x) c st e = absurd (no_cell l.tidies e)
lost_by z v s choice l a k (inserts_at_first d x) c st e = absurd (no_cell l.tidies e)
lost_by z v s choice l a k (first_reaches d x) c st e = absurd (no_cell l.tidies e)
lost_by z v s choice l a k (first_sees_none x) c st e = absurd (no_cell l.tidies e)
lost_by z v s choice l a k (reaches_cell d x) c st e = absurd (no_cell l.tidies e)
lost_by z v s choice l a k (sees_none x) c st e = absurd (no_cell l.tidies e)
lost_by z v s choice l a k (key_before x) c st e = absurd (no_cell l.tidies e)
lost_by z v s choice l a k (key_same x) c st e = absurd (no_cell l.tidies e)
lost_by z v s choice l a k (key_after x) c st e = absurd (no_cell l.tidies e)
lost_by z v s choice l a k (version_before x) c st e = absurd (no_cell l.tidies e)
lost_by z v s choice l a k (version_after x) c st e = absurd (no_cell l.tidies e)
lost_by z v s choice l a k stores_after c st e = absurd (no_cell l.tidies e)
lost_by z v s choice l a k (inserts x) c st e = absurd (no_cell l.tidies e)
lost_by z v s choice l a k (loses x) c st e = absurd (no_cell l.tidies e)
lost_by z v s choice l a k clears c st e = absurd st
lost_by z v s choice l a k (tidies rows x) c st e = absurd (cc)
lost_by z v s choice l a k _ c st e = absurd (cc)

-- Events.

-- a seat that leaves is not at work
pub staying_done : (a : Activity) → IsStaying a → IsDone a → ⊥
staying_done (Activity.Leave answer) st d = st
staying_done Activity.Idle st d = d
staying_done _ st d = d

-- a frozen entry, by what it is not
idle_or_frozen : (w : ℕ) (x : Option Pend) → pend_of w ≡ x → IsIdleOrFrozen x → w ≢ pend_word pend.Idle → w ≡ pend_word pend.Frozen
idle_or_frozen w (Some pend.Idle) e k d = absurd (d (sym (pend_word_of w pend.Idle e)))
idle_or_frozen w (Some (pend.Pending cell)) e k d = absurd k
idle_or_frozen w (Some (pend.Stamped cell version)) e k d = absurd k
idle_or_frozen w (Some pend.Frozen) e k d = sym (pend_word_of w pend.Frozen e)
idle_or_frozen w None e k d = absurd k

own_or_frozen : (w cell : ℕ) (x : Option Pend) → pend_of w ≡ x → HasCellOrFrozen cell x → IsNotOwn cell w → w ≡ pend_word pend.Frozen
own_or_frozen w cell (Some pend.Idle) e k d = absurd k
own_or_frozen w cell (Some (pend.Pending other)) e k d = absurd (d.pending (e ∙ ap (λ c. Some (pend.Pending c)) k))
own_or_frozen w cell (Some (pend.Stamped other version)) e k d = absurd (d.stamped version (e ∙ ap (λ c. Some (pend.Stamped c version)) k))
own_or_frozen w cell (Some pend.Frozen) e k d = sym (pend_word_of w pend.Frozen e)
own_or_frozen w cell None e k d = absurd k

module _ {z : Sizes} {r r' : Run} {s : ℕ} {choice : Choice} {l l' : Local} where
  -- the entry of a cell that is lost is frozen
  pub lost_frozen : (a : Activity) → Happens z r r' s choice l l' a → KeepsLaws z r → HasLostCell (word z r.world) s a l → word z r.world (name.Pend l.row s) ≡ pend_word pend.Frozen
  lost_frozen (Activity.Put Put.Announce) h k x = idle_or_frozen _ _ refl (k.announces s l h.knows h.activity) x
  lost_frozen (Activity.Put Put.Stamp) h k x = own_or_frozen _ l.cell _ refl (k.stamps s l h.knows h.activity) x
  lost_frozen a h k x = absurd x

  -- a seat that tidies goes on to tidy, or leaves
  pub untidy : (a : Activity) → Happens z r r' s choice l l' a → Shape z r → IsStaying a → IsStaying l'.activity → l'.tidies ≡ false → l.tidies ≡ false
  untidy a h i st st' e = which l.tidies refl
    where
      goes : IsDone l'.activity ⊎ IsBalancing l'.activity × (l'.tidies ≡ true) → ⊥
      goes (inl d) = staying_done l'.activity st' d
      goes (inr t) = absurd (cc)

      at : l.tidies ≡ true → IsBalancing l.activity ⊎ IsDone l.activity → ⊥
      at t (inl b) = goes (arrow_tidies z (word z r.world) s choice l a l' h.arrow (subst IsBalancing h.activity b) t)
      at t (inr d) = staying_done a st (subst IsDone h.activity d)

      which : (b : Bool) → l.tidies ≡ b → l.tidies ≡ false
      which true t = absurd (at t (i.tidies s l h.knows t))
      which false t = t

  -- a seat that asks for a cell asked for one before, or has lost it
  pub asked_before : (a : Activity) → Happens z r r' s choice l l' a → Shape z r → IsStaying a → IsStaying l'.activity → asks l'.activity l' ≡ true → (asks a l ≡ true) ⊎ HasLostCell (word z r.world) s a l
  asked_before a h i st st' e = which (cases_Bool (has_cell a))
    where
      plain : l.tidies ≡ false
      plain = untidy a h i st st' (asks_untidy l'.tidies (has_cell l'.activity) e)

      which : (has_cell a ≡ true) ⊎ (has_cell a ≡ false) → (asks a l ≡ true) ⊎ HasLostCell (word z r.world) s a l
      which (inl c) = inr (lost_by z (word z r.world) s choice l a l' h.arrow c st' e)
      which (inr c) = inl (asks_test l.tidies (has_cell a) plain c)
