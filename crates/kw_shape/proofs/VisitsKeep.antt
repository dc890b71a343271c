-- Every event keeps what holds of the visits of seats and of the numbers: a seat stores the epoch
-- of its call as it enters, and clears it as it leaves.
use Rattle.std.proofs.Common.{ℕ, ◌≡◌, ◌≢◌, ◌⊎◌, inl, inr, ◌<◌, ◌≤◌, Some, None, arith, refl, sym, ◌∙◌, ap, subst, length, slice_get}
use Rattle.std.proofs.lemmas.Bool.{cases_eq}
use Rattle.std.proofs.lemmas.Option.{same_Some, slice_get_within}
use Rattle.kw_words.specs.declared.layout.Name.TheVariants as name
use Rattle.kw_words.specs.Plain.{pass_word}
use Rattle.kw_rows.specs.Ledger.{Past}
use Rattle.kw_world.specs.declared.activity.Activity.{Activity}
use Rattle.kw_world.specs.declared.activity.enter.Enter.TheVariants as Enter
use Rattle.kw_world.specs.declared.activity.rebalance.Rebalance.TheVariants as Rebalance
use Rattle.kw_world.specs.declared.activity.rebalance.replace.Replace.TheVariants as Replace
use Rattle.kw_world.specs.declared.event.Choice.{Choice}
use Rattle.kw_world.specs.declared.local.Local.{Local}
use Rattle.kw_world.specs.Sizes.{Sizes}
use Rattle.kw_world.specs.Step.{word}
use Rattle.kw_core.specs.Run.{Run}
use Rattle.kw_core.specs.Stages.{IsBalancing, IsBusy, IsVisiting}
use Rattle.kw_core.specs.Words.{Words}
use Rattle.kw_core.proofs.Arrows.{Arrow, begins, enters, enters_scan, sees_stamped, sees_neither, is_gone_by, helps, finds_stamped, finds_other, list_ends, key_above, left_over_gone_by, gathers_left_over, leaves, NextLook, looks, lists, NextLeftOver, goes_to_left_over, answers, ends_scan, scans_on, retries, enters_again, builds, first_ends, remembers_last, sees_frozen_last, freezes_last, takes_no_more, keeps_no_more, decides, marks_led, asks_of_pin, looks_at_pin}
use Rattle.kw_core.proofs.Grouping.{GroupGoes, counted_goes, frozen_goes, gathered_goes}
use Rattle.kw_core.proofs.BuiltNext.{built_goes}
use Rattle.kw_core.proofs.Fates.{number_of_drawn, numbers_stay, other_numbers, others_stay}
use Rattle.kw_core.proofs.Frame.{WritesPass, pass_kept}
use Rattle.kw_core.proofs.Happens.{Happens}
use Rattle.kw_core.proofs.InfantFrames.{epoch_stays, number_drawn}
use Rattle.kw_shape.specs.Visits.{Numbers, Visits}
use Rattle.kw_shape.specs.Shape.{Shape}
use Rattle.kw_shape.proofs.AfterBuilding.{after_visits, built_pass, built_visits, look_goes, no_call_of_pin}
use Rattle.kw_shape.proofs.RelyRows.{is_visiting}
use Rattle.kw_shape.proofs.RowsKeep.{others_kept, visit_begins, visit_ends, visit_taken_back}

-- What an arrow leaves of a visit.

-- it goes on, with the epoch of the call
abbrev StaysIn : Local → Local → Type 0
StaysIn l k = IsVisiting k.activity × IsBusy k.activity × (k.epoch ≡ l.epoch)

look_visits : (z : Sizes) (j : ℕ) (next : Activity) → NextLook z j next → IsVisiting next × IsBusy next
look_visits z j next (looks o) = (tt, tt)
look_visits z j next (lists o) = (tt, tt)

left_over_visits : (l k : Local) → NextLeftOver l k → StaysIn l k
left_over_visits l k (goes_to_left_over m o) = (tt, tt, refl)
left_over_visits l k (answers o n) = (tt, tt, refl)
left_over_visits l k (ends_scan o y n) = (tt, tt, refl)
left_over_visits l k (scans_on q o y n u) = (tt, tt, refl)

-- a seat that goes through the rows of its group is in its visit
balancing_visits : (a : Activity) → IsBalancing a → IsVisiting a × IsBusy a
balancing_visits (Activity.Rebalance b) x = (tt, tt)
balancing_visits _ x = absurd x

group_visits : (l k : Local) → GroupGoes l k → StaysIn l k
group_visits l k g = let x = balancing_visits k.activity g.next in (x.0, x.1, g.epoch)

-- a seat that is in a visit makes a call
pub visiting_busy : (a : Activity) → IsVisiting a → IsBusy a
visiting_busy Activity.Idle x = absurd x
visiting_busy _ x = tt

arrow_visits : (z : Sizes) (v : Words) (s : ℕ) (choice : Choice) (l : Local) (a : Activity) (k : Local) → Arrow z v s choice l a k → IsVisiting a → (WritesPass a → ⊥) → StaysIn l k
arrow_visits z v s choice l a k (builds b next y t) p n = let g = built_goes z v choice l b next t in let x = after_visits next.activity g.next in (x.0, x.1, g.epoch)
arrow_visits z v s choice l a k (begins call e b) p n = absurd p
arrow_visits z v s choice l a k (enters e) p n = absurd p
arrow_visits z v s choice l a k (enters_scan e) p n = absurd p
arrow_visits z v s choice l a k (leaves answer) p n = absurd (n tt)
arrow_visits z v s choice l a k (sees_stamped i c version next e y) p n = let x = look_visits z _ next y in (x.0, x.1, refl)
arrow_visits z v s choice l a k (sees_neither i next e y) p n = let x = look_visits z _ next y in (x.0, x.1, refl)
arrow_visits z v s choice l a k (is_gone_by next e y) p n = let x = look_visits z _ next y in (x.0, x.1, refl)
arrow_visits z v s choice l a k (helps next e y) p n = let x = look_visits z _ next y in (x.0, x.1, refl)
arrow_visits z v s choice l a k (finds_stamped c version next e y) p n = let x = look_visits z _ next y in (x.0, x.1, refl)
arrow_visits z v s choice l a k (finds_other next e y) p n = let x = look_visits z _ next y in (x.0, x.1, refl)
arrow_visits z v s choice l a k (first_ends next e y) p n = left_over_visits _ next y
arrow_visits z v s choice l a k (list_ends next e y) p n = left_over_visits _ next y
arrow_visits z v s choice l a k (key_above next e y) p n = left_over_visits _ next y
arrow_visits z v s choice l a k (left_over_gone_by next e y) p n = left_over_visits _ next y
arrow_visits z v s choice l a k (gathers_left_over next y) p n = left_over_visits _ next y
arrow_visits z v s choice l a k retries p n = absurd (n tt)
arrow_visits z v s choice l a k enters_again p n = absurd p
arrow_visits z v s choice l a k (remembers_last j c version next e o y) p n = let x = group_visits _ next (frozen_goes _ next y) in (x.0, x.1, x.2)
arrow_visits z v s choice l a k (sees_frozen_last j next e o y) p n = let x = group_visits _ next (frozen_goes _ next y) in (x.0, x.1, x.2)
arrow_visits z v s choice l a k (freezes_last j next e o y) p n = let x = group_visits _ next (frozen_goes _ next y) in (x.0, x.1, x.2)
arrow_visits z v s choice l a k (takes_no_more next e f y) p n = let x = group_visits _ next (gathered_goes z _ next y) in (x.0, x.1, x.2)
arrow_visits z v s choice l a k (keeps_no_more next f y) p n = let x = group_visits _ next (gathered_goes z _ next y) in (x.0, x.1, x.2)
arrow_visits z v s choice l a k (marks_led count next d y) p n = let x = group_visits _ next (counted_goes _ _ next y) in (x.0, x.1, x.2)
arrow_visits z v s choice l a k (decides count m next e y) p n = let x = group_visits _ next (counted_goes _ _ next y) in (x.0, x.1, x.2)
arrow_visits z v s choice l a k (asks_of_pin next c y) p n = absurd p
arrow_visits z v s choice l a k (looks_at_pin j next y) p n = let x = group_visits _ next (look_goes z _ _ _ next y) in (x.0, x.1, x.2)
arrow_visits z v s choice l a k _ p n = (tt, tt, refl)

module _ {z : Sizes} {r r' : Run} {s : ℕ} {choice : Choice} {l l' : Local} where
  -- the epoch does not fall
  epoch_rises : (a : Activity) → Happens z r r' s choice l l' a → word z r.world name.Epoch ≤ word z r'.world name.Epoch
  epoch_rises (Activity.Rebalance (Rebalance.Replace Replace.Number)) h = omega (arith, number_drawn h)
  epoch_rises a h = omega (arith, epoch_stays a h (λ x. x))

  -- a number below it stays drawn where it was, or undrawn
  pub old_number : (a : Activity) → Happens z r r' s choice l l' a → (m : ℕ) → m < word z r.world name.Epoch → r'.ledger.rows.numbered m ≡ r.ledger.rows.numbered m
  old_number (Activity.Rebalance (Rebalance.Replace Replace.Number)) h m o = other_numbers h m (λ e. omega (arith, o, e))
  old_number a h m o = numbers_stay a h (λ x. x) m

  -- the numbers are as they were, or one more is drawn
  numbers_by : (a : Activity) → Happens z r r' s choice l l' a → Past r.ledger.rows (length r.history.log) → Numbers (word z r.world) r.ledger.rows → Numbers (word z r'.world) r'.ledger.rows
  numbers_by (Activity.Rebalance (Rebalance.Replace Replace.Number)) h past n = record { below = λ m at e. below m at e (cases_eq m (word z r.world name.Epoch)); rises = λ m k x y e f o. rises m k x y e f o (cases_eq m (word z r.world name.Epoch)) (cases_eq k (word z r.world name.Epoch)) }
    where
      below : (m at : ℕ) → r'.ledger.rows.numbered m ≡ Some at → (m ≡ word z r.world name.Epoch) ⊎ (m ≡ word z r.world name.Epoch → ⊥) → m < word z r'.world name.Epoch
      below m at e (inl c) = omega (arith, c, number_drawn h)
      below m at e (inr d) = omega (arith, n.below m at (sym (other_numbers h m d) ∙ e), number_drawn h)

      now : (m at : ℕ) → m ≡ word z r.world name.Epoch → r'.ledger.rows.numbered m ≡ Some at → at ≡ length r.history.log
      now m at c e = same_Some at (length r.history.log) (sym e ∙ ap r'.ledger.rows.numbered c ∙ number_of_drawn h)

      rises : (m k x y : ℕ) → r'.ledger.rows.numbered m ≡ Some x → r'.ledger.rows.numbered k ≡ Some y → m < k → (m ≡ word z r.world name.Epoch) ⊎ (m ≡ word z r.world name.Epoch → ⊥) → (k ≡ word z r.world name.Epoch) ⊎ (k ≡ word z r.world name.Epoch → ⊥) → x < y
      rises m k x y e f o (inl c) (inl d) = absurd (omega (arith, o, c, d))
      rises m k x y e f o (inl c) (inr d) = absurd (omega (arith, o, c, n.below k y (sym (other_numbers h k d) ∙ f)))
      rises m k x y e f o (inr c) (inl d) = omega (arith, past.drawn m x (sym (other_numbers h m c) ∙ e), now k y d f)
      rises m k x y e f o (inr c) (inr d) = n.rises m k x y (sym (other_numbers h m c) ∙ e) (sym (other_numbers h k d) ∙ f) o
  numbers_by a h past n = record {
    below = λ m at e. omega (arith, n.below m at (sym (numbers_stay a h (λ x. x) m) ∙ e), epoch_stays a h (λ x. x));
    rises = λ m k x y e f. n.rises m k x y (sym (numbers_stay a h (λ x. x) m) ∙ e) (sym (numbers_stay a h (λ x. x) k) ∙ f);
  }

module _ (z : Sizes) (r r' : Run) (s : ℕ) (choice : Choice) (l : Local) (a : Activity) (l' : Local) (h : Happens z r r' s choice l l' a) (i : Shape z r) where
  -- the numbers are in order still
  pub numbers_keep : Numbers (word z r'.world) r'.ledger.rows
  numbers_keep = numbers_by a h i.rows.past i.numbers

  -- another seat is in its visit, or in none
  pub visits_other : (t : ℕ) (k : Local) → t ≢ s → slice_get r.world.locals t ≡ Some k → Visits (word z r'.world) r'.ledger.rows t k.activity k
  visits_other t k d g =
      let p = i.visits t k g in
      let o : t < z.seats = omega (arith, slice_get_within r.world.locals t k g, i.sane.seats) in
      let w = pass_kept a h t o (λ x e. d e) in
      let e = others_kept a h t d in
      record {
        in_visit = λ x. let q = p.in_visit x in record { since = q.since; visits = e ∙ q.visits; word = w ∙ q.word };
        in_none = λ x. let q = p.in_none x in record { visits = e ∙ q.visits; word = w ∙ q.word };
        epoch = λ x. let q = p.epoch x in (q.0, omega (arith, q.1, epoch_rises a h));
        before = λ m at since o u y. before p m at since o u (sym e ∙ y) (is_visiting k.activity);
      }
    where
      -- a seat that is in its visit has an epoch that is not above the present one
      before : Visits (word z r.world) r.ledger.rows t k.activity k → (m at since : ℕ) → m < k.epoch → r'.ledger.rows.numbered m ≡ Some at → r.ledger.rows.visits t ≡ Some since → IsVisiting k.activity ⊎ (IsVisiting k.activity → ⊥) → at < since
      before p m at since o u y (inl x) = p.before m at since o (sym (old_number a h m (omega (arith, o, (p.epoch (visiting_busy k.activity x)).1))) ∙ u) y
      before p m at since o u y (inr n) = let x : None ≡ Some since = sym (p.in_none n).visits ∙ y in absurd (cc)

  -- a seat that goes on in its visit
  goes_on : Visits (word z r.world) r.ledger.rows s a l → IsVisiting a → IsBusy a → (WritesPass a → ⊥) → StaysIn l l' → Visits (word z r'.world) r'.ledger.rows s l'.activity l'
  goes_on p x b n g =
      let w = pass_kept a h s h.seat (λ u e. n u) in
      let e = others_stay a h s (λ u e. n u) in
      let q = p.in_visit x in
      let c = p.epoch b in
      record {
        in_visit = λ u. record { since = q.since; visits = e ∙ q.visits; word = w ∙ q.word ∙ ap (λ n. pass_word (Some n)) (sym g.2) };
        in_none = λ u. absurd (u g.0);
        epoch = λ u. (omega (arith, c.0, g.2), omega (arith, c.1, g.2, epoch_rises a h));
        before = λ m at since o u y. p.before m at since (omega (arith, o, g.2)) (sym (old_number a h m (omega (arith, o, g.2, c.1))) ∙ u) (sym e ∙ y);
      }

-- a seat that enters begins its visit: every number that is drawn was drawn before
entered : (z : Sizes) (r r' : Run) (s : ℕ) (choice : Choice) (l l' : Local) → Happens z r r' s choice l l' (Activity.Enter Enter.Announce) → Shape z r → StaysIn l l' → Visits (word z r'.world) r'.ledger.rows s l'.activity l'
entered z r r' s choice l l' h i g =
    let p = subst (λ q. Visits (word z r.world) r.ledger.rows s q l) h.activity (i.visits s l h.knows) in
    let c = p.epoch tt in
    record {
      in_visit = λ x. record { since = length r.history.log; visits = visit_begins h; word = h.changed.same ∙ ap (λ n. pass_word (Some n)) (sym g.2) };
      in_none = λ x. absurd (x g.0);
      epoch = λ x. (omega (arith, c.0, g.2), omega (arith, c.1, g.2, epoch_rises (Activity.Enter Enter.Announce) h));
      before = λ m at since o u y. omega (arith, i.rows.past.drawn m at (sym (numbers_stay (Activity.Enter Enter.Announce) h (λ x. x) m) ∙ u), same_Some (length r.history.log) since (sym (visit_begins h) ∙ y));
    }

-- the acting seat is in its visit, or in none
pub visits_own : (z : Sizes) (r r' : Run) (s : ℕ) (choice : Choice) (l : Local) (a : Activity) (l' : Local) → Arrow z (word z r.world) s choice l a l' → Happens z r r' s choice l l' a → Shape z r → Visits (word z r'.world) r'.ledger.rows s l'.activity l'
visits_own z r r' s choice l a l' (builds b next y t) h i = let x = built_visits b y in goes_on z r r' s choice l b l' h i (subst (λ q. Visits (word z r.world) r.ledger.rows s q l) h.activity (i.visits s l h.knows)) x.0 x.1 (built_pass b y) (arrow_visits z (word z r.world) s choice l b l' (builds b next y t) x.0 (built_pass b y))
visits_own z r r' s choice l a l' (begins call e b) h i =
    let p = subst (λ q. Visits (word z r.world) r.ledger.rows s q l) h.activity (i.visits s l h.knows) in
    let q = p.in_none (λ x. x) in
    let e = others_stay Activity.Idle h s (λ x e. x) in
    record {
      in_visit = λ x. absurd x;
      in_none = λ x. record { visits = e ∙ q.visits; word = pass_kept Activity.Idle h s h.seat (λ x e. x) ∙ q.word };
      epoch = λ x. ((i.sane.each name.Epoch tt).0, omega (arith, epoch_rises Activity.Idle h));
      before = λ m at since o u y. let x : None ≡ Some since = sym (e ∙ q.visits) ∙ y in absurd (cc);
    }
visits_own z r r' s choice l a l' (enters e) h i = entered z r r' s choice l l' h i (tt, tt, refl)
visits_own z r r' s choice l a l' (enters_scan e) h i = entered z r r' s choice l l' h i (tt, tt, refl)
visits_own z r r' s choice l a l' (asks_of_pin next c n) h i = no_call_of_pin _ h i c
visits_own z r r' s choice l a l' (leaves answer) h i = record {
  in_visit = λ x. absurd x;
  in_none = λ x. record { visits = visit_ends answer h; word = h.changed.same };
  epoch = λ x. absurd x;
  before = λ m at since o u y. let x : None ≡ Some since = sym (visit_ends answer h) ∙ y in absurd (cc);
}
visits_own z r r' s choice l a l' retries h i =
    let p = subst (λ q. Visits (word z r.world) r.ledger.rows s q l) h.activity (i.visits s l h.knows) in
    let c = p.epoch tt in
    record {
      in_visit = λ x. absurd x;
      in_none = λ x. record { visits = visit_taken_back h; word = h.changed.same };
      epoch = λ x. (c.0, omega (arith, c.1, epoch_rises Activity.Retry h));
      before = λ m at since o u y. let x : None ≡ Some since = sym (visit_taken_back h) ∙ y in absurd (cc);
    }
visits_own z r r' s choice l a l' enters_again h i =
    let p = subst (λ q. Visits (word z r.world) r.ledger.rows s q l) h.activity (i.visits s l h.knows) in
    let q = p.in_none (λ x. x) in
    let e = others_stay (Activity.Enter Enter.LoadEpoch) h s (λ x e. x) in
    record {
      in_visit = λ x. absurd x;
      in_none = λ x. record { visits = e ∙ q.visits; word = pass_kept (Activity.Enter Enter.LoadEpoch) h s h.seat (λ x e. x) ∙ q.word };
      epoch = λ x. ((i.sane.each name.Epoch tt).0, omega (arith, epoch_rises (Activity.Enter Enter.LoadEpoch) h));
      before = λ m at since o u y. let x : None ≡ Some since = sym (e ∙ q.visits) ∙ y in absurd (cc);
    }
visits_own z r r' s choice l a l' b h i = goes_on z r r' s choice l _ l' h i (subst (λ q. Visits (word z r.world) r.ledger.rows s q l) h.activity (i.visits s l h.knows)) tt tt (λ x. x) (arrow_visits z (word z r.world) s choice l _ l' b tt (λ x. x))
