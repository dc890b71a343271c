-- What an event does to the attempts, the counts and the origins: a seat that is given a cell adds
-- one attempt, one to the count of its row, and one origin; every other event leaves the cells, and
-- announces or stamps one attempt at most.
use Rattle.std.proofs.Common.{ℕ, ◌≡◌, ◌⊎◌, inl, inr, ◌+◌, ◌<◌, ◌≤◌, ◌==◌, ◌&&◌, Bool, true, false, nat_lt, if◌then◌else◌, Option, Some, None, [], ◌∷◌, ◌++◌, arith, refl, sym, ◌∙◌, ap, subst, length, length-append, length-set, eq-eqb}
use Rattle.std.proofs.lemmas.Bool.{cases_eq, cases_lt, and_parts, lt-ltb}
use Rattle.kw_words.specs.declared.layout.Name.TheVariants as name
use Rattle.kw_words.specs.declared.count.Count.{Count as Counted}
use Rattle.kw_words.specs.Count.{count_of}
use Rattle.kw_world.specs.declared.activity.Activity.{Activity}
use Rattle.kw_world.specs.declared.activity.rebalance.freeze.Freeze.TheVariants as Freeze
use Rattle.kw_world.specs.declared.activity.put.Put.TheVariants as Put
use Rattle.kw_world.specs.declared.activity.rebalance.Rebalance.TheVariants as Rebalance
use Rattle.kw_world.specs.declared.activity.rebalance.write.Write.TheVariants as Write
use Rattle.kw_world.specs.declared.local.Local.{Local}
use Rattle.kw_world.specs.declared.event.Choice.{Choice}
use Rattle.kw_world.specs.Sizes.{Sizes}
use Rattle.kw_world.specs.Answers.{reply_of}
use Rattle.kw_world.specs.Calls.{first_key, put_value}
use Rattle.kw_world.specs.PutTransitions.{has_room, given_of}
use Rattle.kw_world.specs.Sane.{IsGiven}
use Rattle.kw_world.specs.Step.{word}
use Rattle.kw_core.specs.History.{History, attempt}
use Rattle.kw_core.specs.declared.history.Logged.{Logged}
use Rattle.kw_core.specs.declared.history.Attempt.{Attempt}
use Rattle.kw_core.specs.declared.history.Change.{Change}
use Rattle.kw_core.specs.declared.history.Change.TheVariants.{Nothing, Begins, Adds, Announces, Loses, Stamps, Ends}
use Rattle.kw_core.specs.Noted.{noted}
use Rattle.kw_core.specs.Run.{Run, Origins, with_origin, answering, drawing}
use Rattle.kw_core.specs.Words.{Words, given_in}
use Rattle.kw_core.proofs.NotedLaws.{attempt_set_same, attempt_push_new}
use Rattle.kw_core.proofs.Arrows.{eq_from}
use Rattle.kw_core.proofs.Happens.{Happens, log_entry}
use Rattle.kw_core.specs.Step.{Step, AttemptStep, as_it_was, is_added, is_announced, is_lost, is_stamped}
use Rattle.kw_shape.specs.RowsIn.{has_frozen}
use Rattle.kw_puts.specs.Freezes.{IsFrozen}
use Rattle.kw_puts.specs.Puts.{IsOver}
use Rattle.kw_puts.proofs.Owners.{true_false}
use Rattle.kw_core.proofs.Frame.{given-next}
use Rattle.kw_core.proofs.Copies.{origin_stays}
use Rattle.kw_core.proofs.FreezeFrame.{freezes_given}
use Rattle.kw_rows.specs.Rows.{WasLinked}
use Rattle.kw_shape.specs.Shape.{Shape}
use Rattle.kw_shape.proofs.LinkedRows.{linked_count_word, linked_keeps, not_hand}
use Rattle.kw_core.proofs.Changes.{Makes, makes_nothing, makes_begin, makes_add, makes_announce, makes_stamp, makes_help, makes_end, made, makes_lose}
use Rattle.kw_puts.proofs.RelyEntry.{attempt_left}

-- the attempt of a seat that is given a cell
abbrev pub added : Run → Words → ℕ → Local → Attempt
added r v s l = record { call = (r.seats s).call; seat = s; key = first_key l.call; value = put_value l.call; row = l.row; cell = given_in v l.row; add = length r.history.log; is_announced = false; announced = 0; is_stamped = false; version = 0; load = 0; at = 0; is_lost = false }

-- the event gives the seat a cell
pub record IsGiving (z : Sizes) (r : Run) (l : Local) (a : Activity) : Type 0 where
  pub takes : a ≡ Activity.Put Put.Add
  pub room : has_room z (count_of (word z r.world (name.Count l.row))) ≡ true

-- the attempt is the one that this event adds
pub record IsNew (z : Sizes) (r r' : Run) (s : ℕ) (l : Local) (a : Activity) (p : ℕ) : Type 0 where
  pub gives : IsGiving z r l a
  pub place : p ≡ length r.history.attempts
  pub is : attempt r'.history p ≡ added r (word z r.world) s l

-- over a change: an attempt was there, or is new
old_or_new : (z : Sizes) (r r' : Run) (s : ℕ) (choice : Choice) (l : Local) (a : Activity) (c : Change) (e : Logged) → Makes z (word z r.world) s choice l (r.seats s) r.origin a c → r'.history ≡ noted r.history e c → (p : ℕ) → p < length r'.history.attempts → (p < length r.history.attempts) ⊎ IsNew z r r' s l a p
old_or_new z r r' s choice l a c e (makes_nothing b) n p w = inl (subst (λ x. p < length x.attempts) n w)
old_or_new z r r' s choice l a c e (makes_begin call m) n p w = inl (subst (λ x. p < length x.attempts) n w)
old_or_new z r r' s choice l a c e (makes_add m) n p w = which (cases_lt p (length r.history.attempts))
  where
    ps : r'.history.attempts ≡ r.history.attempts ++ added r (word z r.world) s l ∷ []
    ps = ap (λ x. x.attempts) n

    which : (p < length r.history.attempts) ⊎ (length r.history.attempts ≤ p) → (p < length r.history.attempts) ⊎ IsNew z r r' s l a p
    which (inl x) = inl x
    which (inr x) =
        let last : p ≡ length r.history.attempts = omega (arith, w, x, ap length ps, length-append r.history.attempts (added r (word z r.world) s l ∷ [])) in
        inr (record { gives = record { takes = refl; room = m }; place = last; is = attempt_push_new r.history r'.history p (added r (word z r.world) s l) ps last })
old_or_new z r r' s choice l a c e (makes_announce m) n p w = inl (subst (λ x. p < x) (ap (λ x. length x.attempts) n ∙ length-set r.history.attempts (r.seats s).own _) w)
old_or_new z r r' s choice l a c e (makes_stamp m) n p w = inl (subst (λ x. p < x) (ap (λ x. length x.attempts) n ∙ length-set r.history.attempts (r.seats s).own _) w)
old_or_new z r r' s choice l a c e (makes_help q m k) n p w = inl (subst (λ x. p < x) (ap (λ x. length x.attempts) n ∙ length-set r.history.attempts q _) w)
old_or_new z r r' s choice l a c e (makes_lose j cell q x m k) n p w = inl (subst (λ x. p < x) (ap (λ x. length x.attempts) n ∙ length-set r.history.attempts q _) w)
old_or_new z r r' s choice l a c e (makes_end answer) n p w = inl (subst (λ x. p < length x.attempts) n w)

-- a stamp announces nothing
stamped_was : (h h' : History) (e : Logged) (q version load : ℕ) → h' ≡ noted h e (Stamps q version load) → (p : ℕ) → p < length h.attempts → (attempt h' p).is_announced ≡ true → (attempt h p).is_announced ≡ true
stamped_was h h' e q version load n p w x = which (cases_eq p q)
  where
    which : (p ≡ q) ⊎ (p ≡ q → ⊥) → (attempt h p).is_announced ≡ true
    which (inl y) =
        let u : p < length h.attempts → (attempt h' p).is_announced ≡ (attempt h p).is_announced = subst (λ k. k < length h.attempts → (attempt h' k).is_announced ≡ (attempt h k).is_announced) (sym y) (λ v. ap (λ k. k.is_announced) (attempt_set_same h h' q _ (ap (λ k. k.attempts) n) v)) in
        sym (u w) ∙ x
    which (inr y) = sym (ap (λ k. k.is_announced) (attempt_left h h' e p (Stamps q version load) y n w)) ∙ x

-- nor does a loss
lost_was : (h h' : History) (e : Logged) (q : ℕ) → h' ≡ noted h e (Loses q) → (p : ℕ) → p < length h.attempts → (attempt h' p).is_announced ≡ true → (attempt h p).is_announced ≡ true
lost_was h h' e q n p w x = which (cases_eq p q)
  where
    which : (p ≡ q) ⊎ (p ≡ q → ⊥) → (attempt h p).is_announced ≡ true
    which (inl y) =
        let u : p < length h.attempts → (attempt h' p).is_announced ≡ (attempt h p).is_announced = subst (λ k. k < length h.attempts → (attempt h' k).is_announced ≡ (attempt h k).is_announced) (sym y) (λ v. ap (λ k. k.is_announced) (attempt_set_same h h' q _ (ap (λ k. k.attempts) n) v)) in
        sym (u w) ∙ x
    which (inr y) = sym (ap (λ k. k.is_announced) (attempt_left h h' e p (Loses q) y n w)) ∙ x

-- over a change: an attempt that is announced was so, or is the seat's own and is announced now
announced_or_now : (z : Sizes) (r r' : Run) (s : ℕ) (choice : Choice) (l : Local) (a : Activity) (c : Change) (e : Logged) → Makes z (word z r.world) s choice l (r.seats s) r.origin a c → r'.history ≡ noted r.history e c → (p : ℕ) → p < length r.history.attempts → (attempt r'.history p).is_announced ≡ true → ((attempt r.history p).is_announced ≡ true) ⊎ (a ≡ Activity.Put Put.Announce) × (p ≡ (r.seats s).own)
announced_or_now z r r' s choice l a c e (makes_nothing b) n p w x = inl (sym (ap (λ k. k.is_announced) (attempt_left r.history r'.history e p Nothing tt n w)) ∙ x)
announced_or_now z r r' s choice l a c e (makes_begin call m) n p w x = inl (sym (ap (λ k. k.is_announced) (attempt_left r.history r'.history e p (Begins s (l.number + 1) call) tt n w)) ∙ x)
announced_or_now z r r' s choice l a c e (makes_add m) n p w x = inl (sym (ap (λ k. k.is_announced) (attempt_left r.history r'.history e p (Adds (r.seats s).call s (first_key l.call) (put_value l.call) l.row (given_in (word z r.world) l.row)) tt n w)) ∙ x)
announced_or_now z r r' s choice l a c e (makes_announce m) n p w x = which (cases_eq p (r.seats s).own)
  where
    which : (p ≡ (r.seats s).own) ⊎ (p ≡ (r.seats s).own → ⊥) → ((attempt r.history p).is_announced ≡ true) ⊎ ((Activity.Put Put.Announce) ≡ Activity.Put Put.Announce) × (p ≡ (r.seats s).own)
    which (inl y) = inr (refl, y)
    which (inr y) = inl (sym (ap (λ k. k.is_announced) (attempt_left r.history r'.history e p (Announces (r.seats s).own) y n w)) ∙ x)
announced_or_now z r r' s choice l a c e (makes_stamp m) n p w x = inl (stamped_was r.history r'.history e (r.seats s).own l.version (r.seats s).loaded n p w x)
announced_or_now z r r' s choice l a c e (makes_help q m k) n p w x = inl (stamped_was r.history r'.history e q l.helping (r.seats s).loaded n p w x)
announced_or_now z r r' s choice l a c e (makes_lose j cell q y m k) n p w x = inl (lost_was r.history r'.history e q n p w x)
announced_or_now z r r' s choice l a c e (makes_end answer) n p w x = inl (sym (ap (λ k. k.is_announced) (attempt_left r.history r'.history e p (Ends (r.seats s).call (reply_of answer l.pairs) (answering l.call l (r.seats s)) (drawing answer l (r.seats s))) tt n w)) ∙ x)

-- a row that gives no cell though it has not given all is frozen
pub no_room_frozen : (z : Sizes) (x : Option Counted) → IsGiven x → has_room z x ≡ false → given_of x < z.cells → has_frozen x ≡ true
no_room_frozen z (Some c) g e o = saw c.frozen e
  where
    saw : (b : Bool) → (if b then false else nat_lt c.given z.cells) ≡ false → b ≡ true
    saw true y = refl
    saw false y = let w : true ≡ false = sym (lt-ltb c.given z.cells o) ∙ y in absurd (cc)
no_room_frozen z None g e o = absurd g

-- one more cell of a row is asked for
pub given_more : (w w' : ℕ) → w' ≡ w + 1 → IsGiven (count_of w) → given_of (count_of w') ≡ given_of (count_of w) + 1
given_more w w' e g = ap (λ x. given_of (count_of x)) e ∙ given-next w _ refl g

module _ {z : Sizes} {r r' : Run} {s : ℕ} {choice : Choice} {l l' : Local} where
  -- an attempt was there, or is new
  pub attempt_was : (a : Activity) → Happens z r r' s choice l l' a → (p : ℕ) → p < length r'.history.attempts → (p < length r.history.attempts) ⊎ IsNew z r r' s l a p
  attempt_was a h = old_or_new z r r' s choice l a _ _ (made z (word z r.world) s choice l (r.seats s) r.origin a) h.history

  -- an announced attempt was so, or is the seat's own
  pub announced_was : (a : Activity) → Happens z r r' s choice l l' a → (p : ℕ) → p < length r.history.attempts → (attempt r'.history p).is_announced ≡ true → ((attempt r.history p).is_announced ≡ true) ⊎ (a ≡ Activity.Put Put.Announce) × (p ≡ (r.seats s).own)
  announced_was a h = announced_or_now z r r' s choice l a _ _ (made z (word z r.world) s choice l (r.seats s) r.origin a) h.history

  -- the attempts of a seat that is given a cell are one more
  pub one_more : Happens z r r' s choice l l' (Activity.Put Put.Add) → has_room z (count_of (word z r.world (name.Count l.row))) ≡ true → r'.history.attempts ≡ r.history.attempts ++ added r (word z r.world) s l ∷ []
  one_more h m = ap (λ x. x.attempts) (rw m at h.history)

  -- it is the last one
  pub one_more_is : Happens z r r' s choice l l' (Activity.Put Put.Add) → has_room z (count_of (word z r.world (name.Count l.row))) ≡ true → attempt r'.history (length r.history.attempts) ≡ added r (word z r.world) s l
  one_more_is h m = attempt_push_new r.history r'.history (length r.history.attempts) _ (one_more h m) refl

  -- and is one of the list
  pub one_more_within : Happens z r r' s choice l l' (Activity.Put Put.Add) → has_room z (count_of (word z r.world (name.Count l.row))) ≡ true → length r.history.attempts < length r'.history.attempts
  one_more_within h m = omega (arith, ap length (one_more h m), length-append r.history.attempts (added r (word z r.world) s l ∷ []))

  -- as many cells of a row that is or was linked were asked for as before, or one more is
  pub given_was : (a : Activity) → Happens z r r' s choice l l' a → Shape z r → (q : ℕ) → WasLinked r.ledger.rows q →
      (given_in (word z r'.world) q ≡ given_in (word z r.world) q) ⊎ (a ≡ Activity.Put Put.Add) × (q ≡ l.row)
  given_was (Activity.Put Put.Add) h i q w = which (cases_eq q l.row)
    where
      which : (q ≡ l.row) ⊎ (q ≡ l.row → ⊥) → (given_in (word z r'.world) q ≡ given_in (word z r.world) q) ⊎ ((Activity.Put Put.Add) ≡ Activity.Put Put.Add) × (q ≡ l.row)
      which (inl e) = inr (refl, e)
      which (inr d) = inl (ap (λ k. given_of (count_of k)) (linked_count_word (Activity.Put Put.Add) h i q w (λ x e. d e)))
  given_was (Activity.Rebalance (Rebalance.Freeze Freeze.Count)) h i q w = inl (which (cases_eq q l.rebalance.hand))
    where
      frozen : (x : Option Counted) → count_of (word z r.world (name.Count l.rebalance.hand)) ≡ x → IsGiven x → given_in (word z r'.world) l.rebalance.hand ≡ given_in (word z r.world) l.rebalance.hand
      frozen (Some c) e y = ap given_of (freezes_given h c e) ∙ ap given_of (sym e)
      frozen None e y = absurd y

      which : (q ≡ l.rebalance.hand) ⊎ (q ≡ l.rebalance.hand → ⊥) → given_in (word z r'.world) q ≡ given_in (word z r.world) q
      which (inl e) = rw e (frozen _ refl (i.sane.each (name.Count l.rebalance.hand) (i.sane.locals s l h.knows).below.rebalance.hand))
      which (inr d) = ap (λ k. given_of (count_of k)) (linked_count_word (Activity.Rebalance (Rebalance.Freeze Freeze.Count)) h i q w (λ x e. d e))
  given_was a h i q w = inl (ap (λ k. given_of (count_of k)) (linked_count_word a h i q w (λ x e. x)))

  -- a frozen row stays frozen
  pub stays_frozen : (a : Activity) → Happens z r r' s choice l l' a → Shape z r → (q : ℕ) → WasLinked r.ledger.rows q → IsFrozen (word z r.world) q → IsFrozen (word z r'.world) q
  stays_frozen a h i q w f = (linked_keeps a h i q w).frozen f

  -- an attempt that never gets a version is so still, or is the seat's own and is announced now
  pub over_stays : (a : Activity) → Happens z r r' s choice l l' a → Step r.history r'.history (log_entry z r a s choice l) → (p : ℕ) → p < length r.history.attempts → IsOver r.history p → IsOver r'.history p ⊎ (a ≡ Activity.Put Put.Announce) × (p ≡ (r.seats s).own)
  over_stays a h st p w o = which (st.attempts p (omega (arith, w, st.more_attempts)))
    where
      announced : (attempt r'.history p).is_stamped ≡ false → (attempt r'.history p).is_announced ≡ true → ((attempt r.history p).is_lost ≡ true → (attempt r'.history p).is_lost ≡ true) → ((attempt r.history p).is_lost ≡ true) ⊎ ((attempt r.history p).is_announced ≡ false) → IsOver r'.history p ⊎ (a ≡ Activity.Put Put.Announce) × (p ≡ (r.seats s).own)
      announced n x f (inl y) = inl (record { unstamped = n; over = inl (f y) })
      announced n x f (inr y) = by (announced_was a h p w x)
        where
          by : ((attempt r.history p).is_announced ≡ true) ⊎ (a ≡ Activity.Put Put.Announce) × (p ≡ (r.seats s).own) → IsOver r'.history p ⊎ (a ≡ Activity.Put Put.Announce) × (p ≡ (r.seats s).own)
          by (inl v) = true_false v y
          by (inr v) = inr v

      never : (attempt r.history p).is_announced ≡ true → (attempt r.history p).is_lost ≡ false → ((attempt r.history p).is_lost ≡ true) ⊎ ((attempt r.history p).is_announced ≡ false) → ⊥
      never x y (inl v) = true_false v y
      never x y (inr v) = true_false x v

      which : AttemptStep r.history r'.history p → IsOver r'.history p ⊎ (a ≡ Activity.Put Put.Announce) × (p ≡ (r.seats s).own)
      which (as_it_was v e) = inl (record { unstamped = rw e o.unstamped; over = rw e o.over })
      which (is_added x n e c y m u v j) = absurd (omega (arith, w, n))
      which (is_announced v n e) = announced (rw e o.unstamped) (rw e refl) (λ x. rw e x) o.over
      which (is_lost v n e) = inl (record { unstamped = rw e n; over = inl (rw e refl) })
      which (is_stamped version load v x n y u m b e put) = absurd (never x y o.over)

  -- the cell is given to the new attempt
  pub origin_new : Happens z r r' s choice l l' (Activity.Put Put.Add) → has_room z (count_of (word z r.world (name.Count l.row))) ≡ true → r'.origin l.row (given_in (word z r.world) l.row) ≡ Some (length r.history.attempts)
  origin_new h m = subst (λ o. o l.row (given_in (word z r.world) l.row) ≡ Some (length r.history.attempts)) (sym (rw m at h.origin)) (rw (eq-eqb l.row l.row refl, eq-eqb (given_in (word z r.world) l.row) (given_in (word z r.world) l.row) refl) refl)

  -- what a cell of a row that is or was linked stands for is as it was, or the cell is given now
  pub origin_was : (a : Activity) → Happens z r r' s choice l l' a → Shape z r → (q c : ℕ) → WasLinked r.ledger.rows q → (r'.origin q c ≡ r.origin q c) ⊎ IsGiving z r l a × (q ≡ l.row) × (c ≡ given_in (word z r.world) l.row) × (r'.origin q c ≡ Some (length r.history.attempts))
  origin_was (Activity.Put Put.Add) h i q c k = subst (λ o. (o q c ≡ r.origin q c) ⊎ IsGiving z r l (Activity.Put Put.Add) × (q ≡ l.row) × (c ≡ given_in (word z r.world) l.row) × (o q c ≡ Some (length r.history.attempts))) (sym h.origin) (saw (has_room z (count_of (word z r.world (name.Count l.row)))) refl)
    where
      at : (b : Bool) → ((q == l.row) && (c == given_in (word z r.world) l.row)) ≡ b → has_room z (count_of (word z r.world (name.Count l.row))) ≡ true → ((if b then Some (length r.history.attempts) else r.origin q c) ≡ r.origin q c) ⊎ IsGiving z r l (Activity.Put Put.Add) × (q ≡ l.row) × (c ≡ given_in (word z r.world) l.row) × ((if b then Some (length r.history.attempts) else r.origin q c) ≡ Some (length r.history.attempts))
      at true e m = let t = and_parts (q == l.row) (c == given_in (word z r.world) l.row) e in inr (record { takes = refl; room = m }, eq_from q l.row t.0, eq_from _ _ t.1, refl)
      at false e m = inl refl

      saw : (b : Bool) → has_room z (count_of (word z r.world (name.Count l.row))) ≡ b → ((let o : Origins = if b then with_origin r.origin l.row (given_in (word z r.world) l.row) (length r.history.attempts) else r.origin in o) q c ≡ r.origin q c) ⊎ IsGiving z r l (Activity.Put Put.Add) × (q ≡ l.row) × (c ≡ given_in (word z r.world) l.row) × ((let o : Origins = if b then with_origin r.origin l.row (given_in (word z r.world) l.row) (length r.history.attempts) else r.origin in o) q c ≡ Some (length r.history.attempts))
      saw true m = at _ refl m
      saw false m = inl refl
  origin_was (Activity.Rebalance (Rebalance.Write (Write.Version j))) h i q c k = inl (origin_stays (Activity.Rebalance (Rebalance.Write (Write.Version j))) h q c (λ x. not_hand (Activity.Rebalance (Rebalance.Write (Write.Version j))) h i tt q k x.0))
  origin_was a h i q c k = inl (ap (λ o. o q c) h.origin)
