-- A row of the list stays in it, unless an event replaces a row; and what a seat may name that is
-- in no visit is in the list.
use Rattle.std.proofs.Common.{ℕ, suc, ◌≡◌, ◌≢◌, ◌⊎◌, inl, inr, ◌+◌, ◌==◌, Bool, true, false, None, Some, refl, sym, ◌∙◌, ap, if◌then◌else◌, length, eq-eqb, ne_eqb}
use Rattle.kw_words.specs.declared.state.State.TheVariants as state
use Rattle.kw_words.specs.State.{state_word}
use Rattle.kw_rows.specs.Ledger as rows
use Rattle.kw_rows.specs.Ledger.{Dead, Fate, IsDead, IsFresh, IsLive, Live}
use Rattle.kw_rows.specs.Rows.{Rows}
use Rattle.kw_rows.specs.Events.{ends}
use Rattle.kw_rows.specs.Structure.{Structure}
use Rattle.kw_rows.proofs.Kept.{All, kept}
use Rattle.kw_world.specs.declared.activity.Activity.{Activity}
use Rattle.kw_world.specs.declared.activity.draw.Draw.TheVariants as Draw
use Rattle.kw_world.specs.declared.activity.enter.Enter.TheVariants as Enter
use Rattle.kw_world.specs.declared.activity.rebalance.Rebalance.TheVariants as Rebalance
use Rattle.kw_world.specs.declared.activity.rebalance.replace.Replace.TheVariants as Replace
use Rattle.kw_world.specs.declared.activity.rebalance.seek.Seek.TheVariants as Seek
use Rattle.kw_world.specs.declared.event.Choice.{Choice}
use Rattle.kw_world.specs.declared.local.Local.{Local}
use Rattle.kw_world.specs.ReplaceTransitions.{replaced_link}
use Rattle.kw_world.specs.SeekTransitions.{infant}
use Rattle.kw_world.specs.Sizes.{Sizes}
use Rattle.kw_world.specs.Step.{word}
use Rattle.kw_core.specs.Ledger.{Ledger, fate_free, fate_taken, ledger_after, with_fate, with_visit}
use Rattle.kw_core.specs.Run.{Run}
use Rattle.kw_core.specs.Words.{Words}
use Rattle.kw_core.proofs.Happens.{Happens, found_at}
use Rattle.kw_shape.specs.Shape.{Shape}
use Rattle.kw_shape.proofs.LinkedRows.{BecomesNow, linked_fate}
use Rattle.kw_counts.specs.Counts.{has_replaced, wins_after}

-- Seats that are in no visit.

pub unvisited_live : (g : rows.Ledger) (t q : ℕ) → IsFresh (with_visit g t None) t q → IsLive g q
unvisited_live g t q (inl a) = a
unvisited_live g t q (inr a) = let x : None ≡ Some a.since = rw (eq-eqb t t refl) at a.visits in absurd (cc)

-- where a visit ends the rows are as they were
pub unvisited : (w : Rows) (g : rows.Ledger) (now t : ℕ) → Structure w g now → Structure w (with_visit g t None) (suc now)
unvisited w g now t s = record { chain = a.chain; closed = a.closed; states = a.states; marks = a.marks; pairs = a.pairs; follows = a.follows; past = a.past }
  where
    a : All w w g (with_visit g t None) now s
    a = kept w w g (with_visit g t None) now s (ends t (record {
      links = record { head = refl; next = λ x. refl; marked = λ x. refl; frozen = λ x. refl; least = λ x. refl };
      states = λ x. refl;
      fates = λ x. refl;
      numbered = λ m. refl;
      visits = rw (eq-eqb t t refl) refl;
      others = λ u d. rw (ne_eqb u t d) refl;
    }))

-- Rows that stay.

pub live_not_dead : {A : Type 0} (s : rows.Status) → s ≡ Live → s ≡ Dead → A
live_not_dead s a d = let x : Live ≡ Dead = sym a ∙ d in absurd (cc)

-- a row whose fate is set to one that is not dead is not, if it was not
set_not_dead : {A : Type 0} (f : ℕ → Fate) (x q : ℕ) (y : Fate) → (f q).status ≡ Live → (y.status ≡ Dead → A) → (if q == x then y else f q).status ≡ Dead → A
set_not_dead {A = A} f x q y a n = saw (q == x)
  where
    saw : (b : Bool) → (let z : Fate = if b then y else f q in z).status ≡ Dead → A
    saw true d = n d
    saw false d = live_not_dead _ a d

-- no other event than one that replaces a row takes one out of the list
not_undone : {A : Type 0} (z : Sizes) (a : Activity) (s : ℕ) (l : Local) (found : ℕ) (v : Words) (now : ℕ) (g : Ledger) (q : ℕ) → a ≢ Activity.Rebalance (Rebalance.Replace Replace.Exchange) → IsLive g.rows q → ((ledger_after z a s l found v now g).rows.fates q).status ≡ Dead → A
not_undone z (Activity.Rebalance (Rebalance.Replace Replace.Exchange)) s l found v now g q n a d = absurd (n refl)
not_undone {A = A} z (Activity.Rebalance (Rebalance.Seek Seek.Take)) s l found v now g q n a d = saw (found == state_word state.Free) d
  where
    saw : (b : Bool) → ((let x : Ledger = if b then record g { rows = with_fate g.rows l.rebalance.sought (fate_taken s now (g.rows.fates l.rebalance.sought)) } else g in x).rows.fates q).status ≡ Dead → A
    saw true e = set_not_dead g.rows.fates l.rebalance.sought q (fate_taken s now (g.rows.fates l.rebalance.sought)) a (λ x. let y : rows.Infant ≡ Dead = x in absurd (cc)) e
    saw false e = live_not_dead _ a e
not_undone {A = A} z (Activity.Rebalance (Rebalance.Seek Seek.Reclaim)) s l found v now g q n a d = saw (found == state_word (state.Retired l.rebalance.number)) d
  where
    saw : (b : Bool) → ((let x : Ledger = if b then record g { rows = with_fate g.rows l.rebalance.sought (fate_free (g.rows.fates l.rebalance.sought)) } else g in x).rows.fates q).status ≡ Dead → A
    saw true e = set_not_dead g.rows.fates l.rebalance.sought q (fate_free (g.rows.fates l.rebalance.sought)) a (λ x. let y : rows.Free ≡ Dead = x in absurd (cc)) e
    saw false e = live_not_dead _ a e
not_undone z (Activity.Rebalance (Rebalance.Seek Seek.GiveBack)) s l found v now g q n a d = set_not_dead g.rows.fates (infant l) q (fate_free (g.rows.fates (infant l))) a (λ x. let y : rows.Free ≡ Dead = x in absurd (cc)) d
not_undone z (Activity.Rebalance (Rebalance.Replace Replace.Number)) s l found v now g q n a d = live_not_dead _ a d
not_undone z (Activity.Enter Enter.Announce) s l found v now g q n a d = live_not_dead _ a d
not_undone z (Activity.Draw Draw.Wait) s l found v now g q n a d = live_not_dead _ a d
not_undone z _ s l found v now g q n a d = live_not_dead _ a d

module _ {z : Sizes} {r r' : Run} {s : ℕ} {choice : Choice} {l l' : Local} where
  pub lives_on : (a : Activity) → a ≢ Activity.Rebalance (Rebalance.Replace Replace.Exchange) → Happens z r r' s choice l l' a → Shape z r → (q : ℕ) → IsLive r.ledger.rows q → IsLive r'.ledger.rows q
  lives_on a n h i q live = which (linked_fate a h i q (inl live))
    where
      which : BecomesNow r.ledger.rows r'.ledger.rows s (length r.history.log) q → IsLive r'.ledger.rows q
      which (inl e) = ap (λ (f : Fate). f.status) e ∙ live
      which (inr (inl g)) = not_undone z a s l (found_at z (word z r.world) a s choice l) (word z r.world) (length r.history.log) r.ledger q n live (ap (λ (x : Ledger). (x.rows.fates q).status) (sym h.ledger) ∙ ap (λ (f : Fate). f.status) g.fate)
      which (inr (inr f)) = live_not_dead _ live f.dead

  -- an event replaces a row and ends the window, or each row of the list stays in it
  pub lives_or_wins : (a : Activity) → Happens z r r' s choice l l' a → Shape z r → (wins : ℕ) →
      ((a ≡ Activity.Rebalance (Rebalance.Replace Replace.Exchange)) × (wins_after a l (found_at z (word z r.world) a s choice l) wins ≡ wins + 1))
      ⊎ ((wins_after a l (found_at z (word z r.world) a s choice l) wins ≡ wins) × ((q : ℕ) → IsLive r.ledger.rows q → IsLive r'.ledger.rows q))
  lives_or_wins (Activity.Rebalance (Rebalance.Replace Replace.Exchange)) h i wins = saw (has_replaced l (word z r.world (replaced_link l.rebalance.before))) refl
    where
      saw : (b : Bool) → has_replaced l (word z r.world (replaced_link l.rebalance.before)) ≡ b →
          ((Activity.Rebalance (Rebalance.Replace Replace.Exchange) ≡ Activity.Rebalance (Rebalance.Replace Replace.Exchange)) × (wins_after (Activity.Rebalance (Rebalance.Replace Replace.Exchange)) l (word z r.world (replaced_link l.rebalance.before)) wins ≡ wins + 1))
          ⊎ ((wins_after (Activity.Rebalance (Rebalance.Replace Replace.Exchange)) l (word z r.world (replaced_link l.rebalance.before)) wins ≡ wins) × ((q : ℕ) → IsLive r.ledger.rows q → IsLive r'.ledger.rows q))
      saw true e = inl (refl, rw e refl)
      saw false e =
          let same : r'.ledger ≡ r.ledger = h.ledger ∙ rw e refl in
          inr (rw e refl, λ q live. ap (λ (x : Ledger). (x.rows.fates q).status) same ∙ live)
  lives_or_wins (Activity.Rebalance (Rebalance.Replace Replace.Number)) h i wins = inr (refl, lives_on _ (λ e. cc) h i)
  lives_or_wins a h i wins = inr (refl, lives_on a (λ e. cc) h i)
