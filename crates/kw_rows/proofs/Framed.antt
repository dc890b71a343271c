-- Every event but the replacing one leaves the list of rows as it was, and what held rows lead to;
-- and what is recorded is past.
use Rattle.std.proofs.Common.{ℕ, suc, ◌≡◌, ◌≢◌, ◌⊎◌, inl, inr, ◌<◌, Option, Some, None, arith, sym, ◌∙◌, subst}
use Rattle.std.proofs.lemmas.Bool.{cases_eq}
use Rattle.std.proofs.lemmas.Option.{same_Some}
use Rattle.kw_rows.specs.Ledger.{Ledger, Status, Free, Infant, Live, Dead, IsDead, IsHeld, Past}
use Rattle.kw_rows.specs.RowState.{State, Retired}
use Rattle.kw_rows.specs.Rows.{Rows, WasLinked}
use Rattle.kw_rows.specs.States.{IsDeadState, IsNumbered, HasState, States}
use Rattle.kw_rows.specs.Events.{SameLinks, SameLedger, Turns, Takes, GivesBack, Fills, Reclaims, Numbers, Visits}
use Rattle.kw_rows.proofs.Statuses.{not_infant, not_dead, not_free, dead_infant, dead_free}
use Rattle.kw_rows.proofs.Frames.{Frames}

-- a dead row has the state of one
pub dead_state : (w : Rows) (ledger : Ledger) (x : ℕ) → States w ledger → IsDead ledger x → IsDeadState ledger x (w.state x)
dead_state w ledger x s d = subst (HasState w ledger x) d (s x)

-- a free row was not linked
no_live_free : (s : Status) → s ≡ Free → (s ≡ Live) ⊎ (s ≡ Dead) → ⊥
no_live_free s e (inl a) = not_free s a e
no_live_free s e (inr a) = dead_free s a e

-- nor was an infant
no_live_infant : (s : Status) → s ≡ Infant → (s ≡ Live) ⊎ (s ≡ Dead) → ⊥
no_live_infant s e (inl a) = not_infant s a e
no_live_infant s e (inr a) = dead_infant s a e

-- a row that was never linked is not held
pub held_no : (ledger : Ledger) (x : ℕ) → (WasLinked ledger x → ⊥) → IsHeld ledger x → ⊥
held_no ledger x f (inl a) = f (inl a)
held_no ledger x f (inr h) = f (inr h.1.dead)

-- a retired row whose number was drawn before each visit that is on is not held
pub retired_no : (w : Rows) (ledger : Ledger) (x m : ℕ) → States w ledger → IsDead ledger x → w.state x ≡ Retired m → ((t since at : ℕ) → ledger.visits t ≡ Some since → ledger.numbered m ≡ Some at → at < since) → IsHeld ledger x → ⊥
retired_no w ledger x m s d r y (inl a) = not_dead (ledger.fates x).status a d
retired_no w ledger x m s d r y (inr h) =
    let n : IsNumbered ledger x m = subst (IsDeadState ledger x) r (dead_state w ledger x s d) in
    omega (arith, h.1.before, n.after, y h.0 h.1.since n.at h.1.visits n.drawn)

module _ (w w' : Rows) (ledger ledger' : Ledger) where
  -- nothing that the list reads has changed
  pub still : w'.head ≡ w.head → ((x : ℕ) → w'.next x ≡ w.next x) → ((x : ℕ) → w'.least x ≡ w.least x) → SameLedger ledger ledger' → Frames w w' ledger ledger'
  still h n l g = record {
    head = h;
    next = λ x a. n x;
    least = λ x a. l x;
    was = λ x a. g.fates x;
    stays = λ x a. g.fates x;
    visits = λ t since x p d b. sym (g.others.visits t) ∙ p;
  }

  -- no word of a link has changed, and nothing of the record
  pub links_still : SameLinks w w' → SameLedger ledger ledger' → Frames w w' ledger ledger'
  links_still l g = still l.head l.next l.least g

  -- a row that is not held has another state, and is not linked
  pub turned : (x : ℕ) (s : State) → Turns w w' ledger ledger' x s → (IsHeld ledger x → ⊥) → (WasLinked ledger' x → ⊥) → Frames w w' ledger ledger'
  turned x s t f k = record {
    head = t.sets.links.head;
    next = λ y a. t.sets.links.next y;
    least = λ y a. t.sets.links.least y;
    was = λ y a. t.fates y (λ q. k (subst (WasLinked ledger') q a));
    stays = λ y a. t.fates y (λ q. f (subst (IsHeld ledger) q a));
    visits = λ u since y p d b. sym (t.others.visits u) ∙ p;
  }

  -- a free row is taken
  pub taken : (x s : ℕ) → Takes w w' ledger ledger' x s → Frames w w' ledger ledger'
  taken x s e = turned x _ e.turns (held_no ledger x (no_live_free (ledger.fates x).status e.free)) (no_live_infant (ledger'.fates x).status e.status)

  -- an infant is given back
  pub given_back : (x : ℕ) → GivesBack w w' ledger ledger' x → Frames w w' ledger ledger'
  given_back x e = turned x _ e.turns (held_no ledger x (no_live_infant (ledger.fates x).status e.infant)) (no_live_free (ledger'.fates x).status e.status)

  -- a retired row is free again, which nobody held
  pub reclaimed : (x m : ℕ) → States w ledger → Reclaims w w' ledger ledger' x m → Frames w w' ledger ledger'
  reclaimed x m s e = turned x _ e.turns (retired_no w ledger x m s e.dead e.retired e.young) (no_live_free (ledger'.fates x).status e.status)

  -- words of an infant are written, which nobody sees
  pub filled : (x : ℕ) → Fills w w' ledger ledger' x → Frames w w' ledger ledger'
  filled x e = record {
    head = e.head;
    next = λ y a. e.next y (other y a);
    least = λ y a. e.least y (other y a);
    was = λ y a. e.ledger.fates y;
    stays = λ y a. e.ledger.fates y;
    visits = λ t since y p d b. sym (e.ledger.others.visits t) ∙ p;
  }
    where
      other : (y : ℕ) → WasLinked ledger y → y ≢ x
      other y a q = no_live_infant (ledger.fates x).status e.infant (subst (WasLinked ledger) q a)

  -- a number is drawn
  pub numbered : (now m : ℕ) → Numbers w w' ledger ledger' now m → Frames w w' ledger ledger'
  numbered now m e = record {
    head = e.links.head;
    next = λ y a. e.links.next y;
    least = λ y a. e.links.least y;
    was = λ y a. e.fates y;
    stays = λ y a. e.fates y;
    visits = λ t since y p d b. sym (e.visits t) ∙ p;
  }

  -- a visit that begins now holds no dead row, nor does one that has ended
  pub visited : (t : ℕ) (at : Option ℕ) → ((x since : ℕ) → at ≡ Some since → IsDead ledger x → since < (ledger.fates x).gone → ⊥) → Visits w w' ledger ledger' t at → Frames w w' ledger ledger'
  visited t at f e = record {
    head = e.links.head;
    next = λ y a. e.links.next y;
    least = λ y a. e.links.least y;
    was = λ y a. e.fates y;
    stays = λ y a. e.fates y;
    visits = λ u since y p d b. which u since y p d b (cases_eq u t);
  }
    where
      which : (u since y : ℕ) → ledger'.visits u ≡ Some since → IsDead ledger y → since < (ledger.fates y).gone → (u ≡ t) ⊎ (u ≡ t → ⊥) → ledger.visits u ≡ Some since
      which u since y p d b (inl q) = absurd (f y since (sym e.visits ∙ subst (λ v. ledger'.visits v ≡ Some since) q p) d b)
      which u since y p d b (inr q) = sym (e.others u q) ∙ p

  -- a visit begins: what went before is not held by it
  pub begun : (t now : ℕ) → Past ledger now → Visits w w' ledger ledger' t (Some now) → Frames w w' ledger ledger'
  begun t now b e = visited t (Some now) (λ x since q d l. omega (arith, same_Some now since q, b.gone x d, l)) e

  -- a visit ends
  pub ended : (t : ℕ) → Visits w w' ledger ledger' t None → Frames w w' ledger ledger'
  ended t e = visited t None (λ x since q. no_none since q) e
    where
      no_none : {A : Type 0} (since : ℕ) → None ≡ Some since → A
      no_none since q = absurd (cc)

  -- Visits and numbers are past.

  -- visits that stay began before
  pub visits_past : (now : ℕ) → Past ledger now → ((t : ℕ) → ledger'.visits t ≡ ledger.visits t) → (t since : ℕ) → ledger'.visits t ≡ Some since → since < suc now
  visits_past now b e t since p = omega (arith, b.begun t since (sym (e t) ∙ p))

  -- numbers that stay were drawn before
  pub numbers_past : (now : ℕ) → Past ledger now → ((m : ℕ) → ledger'.numbered m ≡ ledger.numbered m) → (m at : ℕ) → ledger'.numbered m ≡ Some at → at < suc now
  numbers_past now b e m at p = omega (arith, b.drawn m at (sym (e m) ∙ p))

  -- and the new one now
  pub number_past : (now m : ℕ) → Past ledger now → Numbers w w' ledger ledger' now m → (k at : ℕ) → ledger'.numbered k ≡ Some at → at < suc now
  number_past now m b e k at p = which (cases_eq k m)
    where
      which : (k ≡ m) ⊎ (k ≡ m → ⊥) → at < suc now
      which (inl q) = omega (arith, same_Some now at (sym e.drawn ∙ subst (λ v. ledger'.numbered v ≡ Some at) q p))
      which (inr q) = omega (arith, b.drawn k at (sym (e.others k q) ∙ p))

  -- a new visit begins now, the others began before
  pub visit_past : (now t : ℕ) (start : Option ℕ) → ((since : ℕ) → start ≡ Some since → since < suc now) → Past ledger now → Visits w w' ledger ledger' t start → (u since : ℕ) → ledger'.visits u ≡ Some since → since < suc now
  visit_past now t start f b e u since p = which (cases_eq u t)
    where
      which : (u ≡ t) ⊎ (u ≡ t → ⊥) → since < suc now
      which (inl q) = f since (sym e.visits ∙ subst (λ v. ledger'.visits v ≡ Some since) q p)
      which (inr q) = omega (arith, b.begun u since (sym (e.others u q) ∙ p))
