-- Which rows of the list lead after an event: those that led before, and one that its seat finds in
-- the normal state and makes a leader. A row that is linked now is still an infant of its seat.
use Rattle.std.proofs.Common.{ℕ, ◌≡◌, ◌⊎◌, inl, inr, true, false, Option, None, Some, refl, sym, ◌∙◌, ap, subst, length}
use Rattle.std.proofs.lemmas.Bool.{and_from, and_parts}
use Rattle.kw_words.specs.declared.layout.Name.TheVariants as name
use Rattle.kw_words.specs.declared.state.State.{State}
use Rattle.kw_words.specs.declared.state.State.TheVariants as state
use Rattle.kw_words.specs.State.{state_of}
use Rattle.kw_rows.specs.Ledger as fate
use Rattle.kw_rows.specs.Ledger.{Fate, IsLive, Status}
use Rattle.kw_rows.specs.RowState as row
use Rattle.kw_rows.specs.Rows.{WasLinked}
use Rattle.kw_rows.specs.States.{HasState}
use Rattle.kw_world.specs.declared.activity.Activity.{Activity}
use Rattle.kw_world.specs.declared.activity.rebalance.Rebalance.TheVariants as Rebalance
use Rattle.kw_world.specs.declared.activity.rebalance.replace.Replace.TheVariants as Replace
use Rattle.kw_world.specs.declared.event.Choice.{Choice}
use Rattle.kw_world.specs.declared.local.Local.{Local}
use Rattle.kw_world.specs.Sizes.{Sizes}
use Rattle.kw_world.specs.Step.{word}
use Rattle.kw_core.specs.Run.{Run}
use Rattle.kw_core.proofs.Happens.{Happens}
use Rattle.kw_shape.specs.RowsIn.{rows_in, state_seen}
use Rattle.kw_shape.specs.Shape.{Shape}
use Rattle.kw_shape.proofs.BuildEvents.{state_kept}
use Rattle.kw_shape.proofs.LinkedRows.{BecomesNow, ComesNow, linked_before, linked_fate, was_below}
use Rattle.kw_puts.proofs.Owners.{true_false}
use Rattle.kw_full.proofs.Leading.{EngagesNow, Leads, led_before}
use Rattle.kw_counts.specs.Counts.{is_live}
use Rattle.kw_counts.specs.Leaders.{is_leader, is_leading}
use Rattle.kw_counts.proofs.LiveRows.{live_not_dead}

-- Rows of the list.

live_is : (s : Status) → is_live s ≡ true → s ≡ fate.Live
live_is fate.Free e = let x : false ≡ true = e in absurd (cc)
live_is fate.Infant e = let x : false ≡ true = e in absurd (cc)
live_is fate.Live e = refl
live_is fate.Dead e = let x : false ≡ true = e in absurd (cc)

-- a row that leads is in the list, and its state says so
pub leading_parts : (z : Sizes) (r : Run) (x : ℕ) → is_leading z r x ≡ true → IsLive r.ledger.rows x × (is_leader ((rows_in (word z r.world)).state x) ≡ true)
leading_parts z r x e = let t = and_parts (is_live (r.ledger.rows.fates x).status) _ e in (live_is (r.ledger.rows.fates x).status t.0, t.1)

pub leading_from : (z : Sizes) (r : Run) (x : ℕ) → IsLive r.ledger.rows x → is_leader ((rows_in (word z r.world)).state x) ≡ true → is_leading z r x ≡ true
leading_from z r x live e = and_from (is_live (r.ledger.rows.fates x).status) _ (ap is_live live) e

-- the word of a leader's state
pub leader_word : (x : Option State) → is_leader (state_seen x) ≡ true → (count : ℕ) × (x ≡ Some (state.Leader count))
leader_word (Some state.Free) e = let y : false ≡ true = e in absurd (cc)
leader_word (Some (state.Infant seat)) e = let y : false ≡ true = e in absurd (cc)
leader_word (Some state.Normal) e = let y : false ≡ true = e in absurd (cc)
leader_word (Some (state.Leader count)) e = (count, refl)
leader_word (Some (state.Follower leader)) e = let y : false ≡ true = e in absurd (cc)
leader_word (Some (state.Retired number)) e = let y : false ≡ true = e in absurd (cc)
leader_word None e = let y : false ≡ true = e in absurd (cc)

module _ {z : Sizes} {r r' : Run} {s : ℕ} {choice : Choice} {l l' : Local} where
  -- a row of the list was in it, and its fate is as it was; or it is linked now
  pub live_was : (a : Activity) → Happens z r r' s choice l l' a → Shape z r → (q : ℕ) → IsLive r'.ledger.rows q →
      (IsLive r.ledger.rows q × (r'.ledger.rows.fates q ≡ r.ledger.rows.fates q)) ⊎ ComesNow (word z r.world) r.ledger.rows r'.ledger.rows s (length r.history.log) l a q
  live_was a h i q live = which (linked_before a h i q (inl live))
    where
      Was : Type 0
      Was = (IsLive r.ledger.rows q × (r'.ledger.rows.fates q ≡ r.ledger.rows.fates q)) ⊎ ComesNow (word z r.world) r.ledger.rows r'.ledger.rows s (length r.history.log) l a q

      becomes : BecomesNow r.ledger.rows r'.ledger.rows s (length r.history.log) q → Was
      becomes (inl e) = inl (sym (ap (λ (f : Fate). f.status) e) ∙ live, e)
      becomes (inr (inl g)) = live_not_dead _ live (ap (λ (f : Fate). f.status) g.fate)
      becomes (inr (inr f)) = let x : fate.Live ≡ fate.Free = sym live ∙ ap (λ (y : Fate). y.status) f.fate in absurd (cc)

      which : WasLinked r.ledger.rows q ⊎ ComesNow (word z r.world) r.ledger.rows r'.ledger.rows s (length r.history.log) l a q → Was
      which (inl k) = becomes (linked_fate a h i q k)
      which (inr y) = inr y

  -- a row that leads led before, or its seat makes it lead; its fate is as it was
  pub leading_was : (a : Activity) → Happens z r r' s choice l l' a → Shape z r → (x : ℕ) → is_leading z r' x ≡ true →
      ((is_leading z r x ≡ true) ⊎ EngagesNow (word z r.world) a l x) × IsLive r.ledger.rows x × (r'.ledger.rows.fates x ≡ r.ledger.rows.fates x)
  leading_was a h i x e = which (live_was a h i x (leading_parts z r' x e).0)
    where
      Was : Type 0
      Was = ((is_leading z r x ≡ true) ⊎ EngagesNow (word z r.world) a l x) × IsLive r.ledger.rows x × (r'.ledger.rows.fates x ≡ r.ledger.rows.fates x)

      led : IsLive r.ledger.rows x → Leads (word z r.world) x ⊎ EngagesNow (word z r.world) a l x → (is_leading z r x ≡ true) ⊎ EngagesNow (word z r.world) a l x
      led live (inl y) = inl (leading_from z r x live (ap (λ q. is_leader (state_seen q)) y.1))
      led live (inr y) = inr y

      word_now : (n : ℕ) × (state_of (word z r'.world (name.State x)) ≡ Some (state.Leader n))
      word_now = leader_word (state_of (word z r'.world (name.State x))) (leading_parts z r' x e).1

      -- a row that is linked now is an infant
      not_new : ComesNow (word z r.world) r.ledger.rows r'.ledger.rows s (length r.history.log) l a x → Was
      not_new y =
          let was : (rows_in (word z r.world)).state x ≡ row.Infant (r.ledger.rows.fates x).owner = subst (HasState (rows_in (word z r.world)) r.ledger.rows x) y.infant.status (i.rows.states x) in
          let now : (rows_in (word z r'.world)).state x ≡ row.Infant (r.ledger.rows.fates x).owner = state_kept (Activity.Rebalance (Rebalance.Replace Replace.Exchange)) (subst (Happens z r r' s choice l l') y.replaces h) i.sane x (λ u. u) ∙ was in
          true_false (leading_parts z r' x e).1 (ap is_leader now)

      which : (IsLive r.ledger.rows x × (r'.ledger.rows.fates x ≡ r.ledger.rows.fates x)) ⊎ ComesNow (word z r.world) r.ledger.rows r'.ledger.rows s (length r.history.log) l a x → Was
      which (inl y) = (led y.0 (led_before a h x word_now.0 (was_below z r i x (inl y.0)) word_now.1), y.0, y.1)
      which (inr y) = not_new y
