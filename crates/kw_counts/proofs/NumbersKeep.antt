-- The epoch is that of the opening and the numbers, and these are paid for by the exchanges that
-- replaced a row, by induction over the events: such an exchange lets its seat draw a number for
-- each row of its group, and no other event lets a seat draw one more.
use Rattle.std.proofs.Common.{ℕ, zero, suc, ◌≡◌, ◌⊎◌, inl, inr, ◌+◌, ◌*◌, ◌≤◌, Bool, true, false, Option, Some, None, List, [], ◌∷◌, arith, refl, sym, ◌∙◌, ap, subst, slice_get, slice_set, if◌then◌else◌}
use Rattle.std.proofs.lemmas.Option.{same_Some}
use Rattle.kw_words.specs.declared.layout.Name.TheVariants as name
use Rattle.kw_words.specs.declared.sizes.TheConstants.{MOST_GROUP}
use Rattle.kw_words.specs.Link.{link_word}
use Rattle.kw_words.proofs.LinkWords.{link_word_of}
use Rattle.kw_world.specs.declared.activity.Activity.{Activity}
use Rattle.kw_world.specs.declared.activity.rebalance.Rebalance.TheVariants as Rebalance
use Rattle.kw_world.specs.declared.activity.rebalance.replace.Replace.TheVariants as Replace
use Rattle.kw_world.specs.declared.event.Choice.{Choice}
use Rattle.kw_world.specs.declared.local.Local.{Local}
use Rattle.kw_world.specs.declared.opening.Opening.{Opening}
use Rattle.kw_world.specs.Opening.{IsOpening}
use Rattle.kw_world.specs.ReplaceTransitions.{replaced_link}
use Rattle.kw_world.specs.Sizes.{Sizes}
use Rattle.kw_world.specs.Step.{word}
use Rattle.kw_world.specs.WriteTransitions.{unmarked_link}
use Rattle.kw_core.specs.Run.{Run, start}
use Rattle.kw_core.proofs.Arrows.{Arrow}
use Rattle.kw_core.proofs.Happens.{Happens, chosen, found_at}
use Rattle.kw_core.proofs.InfantFrames.{epoch_stays, number_drawn}
use Rattle.kw_shape.specs.Epochs.{one_ahead}
use Rattle.kw_shape.specs.Won.{HasWon}
use Rattle.kw_shape.proofs.Comings.{Comes, comes, goes_on, seeks, stays_out, won_builds}
use Rattle.kw_shape.proofs.ShapeOpens.{all_resting, opens}
use Rattle.kw_shape.proofs.WonKeep.{WonBy, has_ahead, has_next, has_number, was_last, wins_now, won_by}
use Rattle.kw_rows.specs.Ledger.{Ledger}
use Rattle.kw_counts.specs.Counts.{Counts, counts_after, has_replaced, no_counts, numbers_after, wins_after}
use Rattle.kw_counts.specs.Numbers.{KeepsNumbers, owed, owing}

-- what all seats may still draw, with one seat's local set
owed-set : (ls : List Local) (s : ℕ) (l l' : Local) → slice_get ls s ≡ Some l → owed (slice_set ls s l') + owing l.activity l ≡ owed ls + owing l'.activity l'
owed-set [] s l l' e = let x : None ≡ Some l = e in absurd (cc)
owed-set (k ∷ ls) zero l l' e = let x = ap (λ (y : Local). owing y.activity y) (same_Some k l e) in omega (arith, x)
owed-set (k ∷ ls) (suc s) l l' e = omega (arith, owed-set ls s l l' e)

-- where none of them may, there is none
none_owed : (ls : List Local) → ((t : ℕ) (k : Local) → slice_get ls t ≡ Some k → owing k.activity k ≡ 0) → owed ls ≡ 0
none_owed [] f = refl
none_owed (k ∷ ls) f = omega (arith, f zero k refl, none_owed ls (λ t m e. f (suc t) m e))

one_at_most : (o : Option ℕ) → one_ahead o ≤ 1
one_at_most (Some r) = omega arith
one_at_most None = omega arith

-- a seat that has replaced no group may draw none
has_won : (a : Activity) → HasWon a ⊎ (HasWon a → ⊥)
has_won (Activity.Rebalance (Rebalance.Replace Replace.Normalise)) = inl tt
has_won (Activity.Rebalance (Rebalance.Replace Replace.Number)) = inl tt
has_won (Activity.Rebalance (Rebalance.Replace Replace.Retire)) = inl tt
has_won _ = inr (λ x. x)

owes_none : (a : Activity) (l : Local) → (HasWon a → ⊥) → owing a l ≡ 0
owes_none (Activity.Rebalance (Rebalance.Replace Replace.Normalise)) l n = absurd (n tt)
owes_none (Activity.Rebalance (Rebalance.Replace Replace.Number)) l n = absurd (n tt)
owes_none (Activity.Rebalance (Rebalance.Replace Replace.Retire)) l n = absurd (n tt)
owes_none _ l n = refl

-- the exchanges that replaced a row do not grow fewer
pub wins_grow : (a : Activity) (l : Local) (found n : ℕ) → n ≤ wins_after a l found n
wins_grow (Activity.Rebalance (Rebalance.Replace Replace.Exchange)) l found n = saw (has_replaced l found)
  where
    saw : (b : Bool) → n ≤ (if b then n + 1 else n)
    saw true = omega arith
    saw false = omega arith
wins_grow _ l found n = omega arith

-- over an event the numbers that were drawn and those that its seat may draw stay within what was
-- paid: it draws one that it might, or it replaces its row
module _ (z : Sizes) (r r' : Run) (s : ℕ) (choice : Choice) (l l' : Local) (n wins : ℕ) where
  abbrev IsPaid : Activity → Type 0
  IsPaid a = numbers_after a n + owing l'.activity l' + MOST_GROUP * wins ≤ n + owing a l + MOST_GROUP * wins_after a l (found_at z (word z r.world) a s choice l) wins

  pays_won : (a : Activity) (k : Local) → l' ≡ k → WonBy (word z r.world) l a k → IsPaid a
  pays_won a k e (wins_now f) =
      let one : wins_after a l (word z r.world (replaced_link l.rebalance.before)) wins ≡ wins + 1 = chosen (word z r.world (replaced_link l.rebalance.before)) (link_word (unmarked_link (Some l.row))) (wins + 1) wins (sym (link_word_of (word z r.world (replaced_link l.rebalance.before)) (unmarked_link (Some l.row)) f)) in
      omega (arith, ap (λ (m : Local). owing m.activity m) e, one)
  pays_won a k e (has_next o) = omega (arith, ap (λ (m : Local). owing m.activity m) e)
  pays_won a k e was_last = omega (arith, ap (λ (m : Local). owing m.activity m) e, one_at_most l.rebalance.second)
  pays_won a k e has_number = omega (arith, ap (λ (m : Local). owing m.activity m) e)
  pays_won a k e (has_ahead q f) = omega (arith, ap (λ (m : Local). owing m.activity m) e, ap one_ahead f)

  -- a seat that may draw none after the event
  pays_none : (a : Activity) → owing l'.activity l' ≡ 0 → IsPaid a
  pays_none (Activity.Rebalance (Rebalance.Replace Replace.Number)) e = omega (arith, e)
  pays_none (Activity.Rebalance (Rebalance.Replace Replace.Exchange)) e = omega (arith, e, wins_grow (Activity.Rebalance (Rebalance.Replace Replace.Exchange)) l (word z r.world (replaced_link l.rebalance.before)) wins)
  pays_none a e = omega (arith, e)

  pays : (a : Activity) → Arrow z (word z r.world) s choice l a l' → IsPaid a
  pays a t = which (has_won l'.activity)
    where
      won : HasWon l'.activity → Comes z (word z r.world) choice l a l' → IsPaid a
      won y (stays_out n) = absurd (n (won_builds l'.activity y))
      won y (seeks e f) = absurd (subst HasWon e y)
      won y (goes_on b u) = pays_won a l' refl (won_by z (word z r.world) choice l a l' u y)

      which : HasWon l'.activity ⊎ (HasWon l'.activity → ⊥) → IsPaid a
      which (inl y) = won y (comes z (word z r.world) s choice l a l' t)
      which (inr m) = pays_none a (owes_none l'.activity l' m)

module _ (z : Sizes) (o : Opening) (r r' : Run) (s : ℕ) (choice : Choice) (l l' : Local) (a : Activity) (h : Happens z r r' s choice l l' a) (g : Ledger) (c : Counts) (x : KeepsNumbers z o r.world c) where
  epoch_keeps : word z r'.world name.Epoch ≡ o.epoch + numbers_after a c.numbers
  epoch_keeps = by a h
    where
      by : (b : Activity) → Happens z r r' s choice l l' b → word z r'.world name.Epoch ≡ o.epoch + numbers_after b c.numbers
      by (Activity.Rebalance (Rebalance.Replace Replace.Number)) i = omega (arith, number_drawn i, x.epoch)
      by b i = epoch_stays b i (λ y. y) ∙ x.epoch

  pub numbers_keep : KeepsNumbers z o r'.world (counts_after a s l (found_at z (word z r.world) a s choice l) g c)
  numbers_keep = record {
    epoch = epoch_keeps;
    paid = omega (arith, x.paid, pays z r r' s choice l l' c.numbers c.wins a h.arrow, owed-set r.world.locals s l l' h.knows, ap owed h.locals, ap (λ b. owing b l) h.activity);
  }

-- Where a run begins none was drawn.
pub numbers_start : (z : Sizes) (o : Opening) → IsOpening z o → KeepsNumbers z o (start z o).world no_counts
numbers_start z o opening = record {
  epoch = omega (arith, opens z o opening name.Epoch tt);
  paid = omega (arith, none_owed (start z o).world.locals (λ t k e. ap (λ (m : Local). owing m.activity m) (all_resting o.seats t k e)));
}
