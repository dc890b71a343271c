-- Where each reply is served by what stands before it, the replies are legal.
use Rattle.std.proofs.Common.{ℕ, Bool, true, false, ◌≡◌, inl, inr, List, [], ◌∷◌, Option, Some, None, refl, sym, ap, ◌∙◌, subst, arith, Contains, AllPairs, map, cond, leb, ◌&&◌}
use Rattle.std.proofs.lemmas.Bool.{false≢true}
use Rattle.std.proofs.lemmas.Bool.Decides.{nat_tests}
use Rattle.kw_model.specs.Map.{Pairs, IsRising, value_of, found, between}
use Rattle.kw_model.specs.Legal.{is_update, shown}
use Rattle.kw_model.specs.Snapshots.{State, empty, snapshot_of, pin_answer, scan_answer, unpin_answer}
use Rattle.kw_model.specs.LegalFor.{IsLegalFor, IsRightFor, state_went, is_pin}
use Rattle.kw_model.specs.declared.call.Call.{Call}
use Rattle.kw_model.specs.declared.call.Call.TheVariants.{Put, Del, Get, Scan, Pin, ScanAt, Unpin}
use Rattle.kw_model.specs.declared.call.Reply.{Reply}
use Rattle.kw_model.specs.declared.call.Reply.TheVariants as reply
use Rattle.kw_model.proofs.Pairs.{same_from_values, rises-between, value-between}
use Rattle.kw_model.proofs.Lookups.{value-went, rises-went, none_outside}
use Rattle.kw_model.proofs.Snapshots.{map-went, snapshot-went, snapshot-empty, left_by}
use Rattle.kw_order.specs.Served as served
use Rattle.kw_order.specs.LastOf.{IsLast}
use Rattle.kw_order.proofs.LastAmong.{IsLastAmong, last_unique, last_from_among, moves_on, stays}
use Rattle.kw_order.proofs.Among.{Among, among_from_contains, contains_from_among, InOrder, order_from_pairs}

module _ {X : Type 0} (seat_of : X → ℕ) (call : X → Call) (reply_of : X → Reply) (Before : X → X → Type 0)
    (asym : (p q : X) → Before p q → Before q p → ⊥) (trans : (p q r : X) → Before p q → Before q r → Before p r) (xs : List X) where
  -- whether a call updates the key, and whether it changes what the seat holds
  abbrev test : ℕ → X → Bool
  test k x = served.does_update seat_of call reply_of Before k x

  abbrev change : ℕ → X → Bool
  change s x = served.does_change seat_of call reply_of Before s x

  -- what an update shows, and whether a change leaves a snapshot
  abbrev shows : Option X → Option ℕ
  shows o = served.shows seat_of call reply_of Before o

  abbrev holds : Option X → Bool
  holds o = served.holds seat_of call reply_of Before o

  -- what the reply of x, which is this call, is served from
  abbrev IsServed : X → Call → Type 0
  IsServed x c = served.IsServedAt seat_of call reply_of Before xs x c

  -- the map m shows the last update of each key before y
  record IsOf (y : X) (m : Pairs) : Type 0 where
    rising : IsRising m
    each : (k : ℕ) → (u : Option X) × IsLast Before xs (test k) y u × (value_of k m ≡ shows u)

  -- what a seat holds whose last change is this one
  abbrev IsSnapshot : Option X → Option Pairs → Type 0
  IsSnapshot o None = holds o ≡ false
  IsSnapshot None (Some m) = ⊥
  IsSnapshot (Some y) (Some m) = (call y ≡ Pin) × IsOf y m

  -- the map shows the last update of each key that is not left in ys, and each snapshot those
  -- before the last change of its seat that is not left
  record Stands (t : State) (ys : List X) : Type 0 where
    rising : IsRising t.map
    inside : (y : X) → Among y ys → Contains xs y
    ordered : InOrder Before ys
    each : (k : ℕ) → (o : Option X) × IsLastAmong Before asym trans xs (test k) ys o × (value_of k t.map ≡ shows o)
    held : (s : ℕ) → (o : Option X) × IsLastAmong Before asym trans xs (change s) ys o × IsSnapshot o (snapshot_of s t)

  -- after a change that is no pin there is no snapshot, after a pin there is one
  none_held : (o : Option X) (p : Option Pairs) → IsSnapshot o p → holds o ≡ false → p ≡ None
  none_held o None i h = refl
  none_held None (Some m) i h = absurd i
  none_held (Some y) (Some m) i h = let e : is_pin (call y) ≡ true = rw i.0 refl in absurd (false≢true (sym h ∙ e))

  one_held : (o : Option X) (p : Option Pairs) → IsSnapshot o p → holds o ≡ true → (m : Pairs) × (p ≡ Some m)
  one_held o None i h = absurd (false≢true (sym i ∙ h))
  one_held o (Some m) i h = (m, refl)

  -- what it shows
  of_pin : (y : X) (p : Option Pairs) → IsSnapshot (Some y) p → call y ≡ Pin → (m : Pairs) × (p ≡ Some m) × IsOf y m
  of_pin y None i e = let h : is_pin (call y) ≡ true = rw e refl in absurd (false≢true (sym i ∙ h))
  of_pin y (Some m) i e = (m, refl, i.1)

  -- a scan has the pairs of a map in which each key shows what the scan has of it
  scanned : (x y : X) (a b : ℕ) (m : Pairs) → IsRising m → (w : served.IsScanned seat_of call reply_of Before xs x y a b) → ((k : ℕ) (o : Option X) → IsLast Before xs (test k) y o → value_of k m ≡ shows o) → w.pairs ≡ between a b m
  scanned x y a b m r w h = same_from_values 0 0 w.pairs (between a b m) w.rising (rises-between 0 a b m r) (λ k. at k (leb a k && leb k b) refl ∙ sym (value-between k a b m))
    where
      at : (k : ℕ) (c : Bool) → (leb a k && leb k b) ≡ c → value_of k w.pairs ≡ cond c (value_of k m) None
      at k true e = let f = w.each k (grind (arith, nat_tests)) (grind (arith, nat_tests)) in f.2 ∙ sym (h k f.0 f.1)
      at k false e = none_outside k a b w.pairs w.inside (λ l n. grind (arith, nat_tests))

  module _ (t : State) (x : X) (ys : List X) (s : Stands t (x ∷ ys)) where
    -- the last that is not left is the last before x
    last : (p : X → Bool) (o u : Option X) → IsLastAmong Before asym trans xs p (x ∷ ys) o → IsLast Before xs p x u → o ≡ u
    last p o u i l = last_unique Before asym trans xs p x o u (last_from_among Before asym trans xs p x ys o s.ordered i) l

    -- so the map shows the last update before x, and the seat of x holds what its last change left
    same : (k : ℕ) (o : Option X) → IsLast Before xs (test k) x o → value_of k t.map ≡ shows o
    same k o l = let e = s.each k in e.2 ∙ ap shows (last (test k) e.0 o e.1 l)

    snapshot : (o : Option X) → IsLast Before xs (change (seat_of x)) x o → IsSnapshot o (snapshot_of (seat_of x) t)
    snapshot o l = let e = s.held (seat_of x) in subst (λ u. IsSnapshot u (snapshot_of (seat_of x) t)) (last (change (seat_of x)) e.0 o e.1 l) e.2

    -- none, or one
    without : (w : served.IsWithout seat_of call reply_of Before xs x) → snapshot_of (seat_of x) t ≡ None
    without w = none_held w.0 (snapshot_of (seat_of x) t) (snapshot w.0 w.1) w.2

    holding : (w : served.IsHolding seat_of call reply_of Before xs x) → (m : Pairs) × (snapshot_of (seat_of x) t ≡ Some m)
    holding w = one_held w.0 (snapshot_of (seat_of x) t) (snapshot w.0 w.1) w.2

    -- the next reply is right
    right : IsServed x (call x) → IsRightFor t (seat_of x) (call x) (reply_of x)
    right h = at (call x) refl h
      where
        at : (c : Call) → call x ≡ c → IsServed x c → IsRightFor t (seat_of x) (call x) (reply_of x)
        at (Put k v) e (inl f) = rw f tt
        at (Put k v) e (inr d) = rw (e, d)
        at (Del k) e (inl f) = rw f tt
        at (Del k) e (inr d) = rw (e, d)
        at (Get k) e h = rw (e, h.2) (ap found (sym (same k h.0 h.1)))
        at (Scan a b) e (inl f) = rw f tt
        at (Scan a b) e (inr w) = rw (e, w.replied) (ap reply.Pairs (scanned x x a b t.map s.rising w same))
        at Pin e (inl f) = rw f tt
        at Pin e (inr (inl w)) = rw (e, w.1) (sym (ap pin_answer (without w.0)))
        at Pin e (inr (inr w)) = rw (e, w.1) (sym (ap pin_answer (holding w.0).1))
        at (ScanAt a b) e (inl f) = rw f tt
        at (ScanAt a b) e (inr (inl w)) = rw (e, w.1) (sym (ap (scan_answer a b) (without w.0)))
        at (ScanAt a b) e (inr (inr w)) =
            let i = of_pin w.pin (snapshot_of (seat_of x) t) (snapshot (Some w.pin) w.last) w.is_pin in
            let f : (k : ℕ) (o : Option X) → IsLast Before xs (test k) w.pin o → value_of k i.0 ≡ shows o = λ k o l. let g = i.2.each k in g.2 ∙ ap shows (last_unique Before asym trans xs (test k) w.pin g.0 o g.1 l) in
            rw (e, w.scanned.replied) (ap reply.Pairs (scanned x w.pin a b i.0 i.2.rising w.scanned f) ∙ sym (ap (scan_answer a b) i.1))
        at Unpin e (inl w) = rw (e, w.1) (sym (ap unpin_answer (without w.0)))
        at Unpin e (inr w) = rw (e, w.1) (sym (ap unpin_answer (holding w.0).1))

    -- the state after x
    abbrev later : State
    later = state_went t (seat_of x) (call x) (reply_of x)

    -- the map as it stands shows the last updates before x
    taken : IsOf x t.map
    taken = record { rising = s.rising; each = λ k. let e = s.each k in (e.0, last_from_among Before asym trans xs (test k) x ys e.0 s.ordered e.1, e.2) }

    -- what x leaves to its seat where it changes what this holds
    left : (c : Call) → call x ≡ c → IsSnapshot (Some x) (left_by t c)
    left (Put k v) e = rw e refl
    left (Del k) e = rw e refl
    left (Get k) e = rw e refl
    left (Scan a b) e = rw e refl
    left Pin e = (e, taken)
    left (ScanAt a b) e = rw e refl
    left Unpin e = rw e refl

    -- the state after x stands for what is left then
    next : IsServed x (call x) → Stands later ys
    next h = record {
      rising = subst IsRising (sym (map-went t (seat_of x) (call x) (reply_of x))) (rises-went t.map (call x) (reply_of x) s.rising);
      inside = λ y i. s.inside y (inr i);
      ordered = s.ordered.1;
      each = λ k. each k (is_update k (call x) (reply_of x)) refl;
      held = λ q. held q (change q x) refl;
    }
      where
        value : (k : ℕ) → value_of k later.map ≡ cond (is_update k (call x) (reply_of x)) (shown (call x)) (value_of k t.map)
        value k = ap (value_of k) (map-went t (seat_of x) (call x) (reply_of x)) ∙ value-went k t.map (call x) (reply_of x)

        each : (k : ℕ) (b : Bool) → is_update k (call x) (reply_of x) ≡ b → (o : Option X) × IsLastAmong Before asym trans xs (test k) ys o × (value_of k later.map ≡ shows o)
        each k true u = let e = s.each k in (Some x, moves_on Before asym trans xs (test k) x ys e.0 (s.inside x (inl refl)) s.ordered u e.1, value k ∙ rw u)
        each k false u = let e = s.each k in (e.0, stays Before asym trans xs (test k) x ys e.0 u e.1, value k ∙ rw u e.2)

        kept : (q : ℕ) (b : Bool) → change q x ≡ b → snapshot_of q later ≡ cond b (left_by t (call x)) (snapshot_of q t)
        kept q b u = snapshot-went q t (seat_of x) (call x) (reply_of x) (right h) ∙ ap (λ b. cond b (left_by t (call x)) (snapshot_of q t)) u

        held : (q : ℕ) (b : Bool) → change q x ≡ b → (o : Option X) × IsLastAmong Before asym trans xs (change q) ys o × IsSnapshot o (snapshot_of q later)
        held q true u = let e = s.held q in (Some x, moves_on Before asym trans xs (change q) x ys e.0 (s.inside x (inl refl)) s.ordered u e.1, subst (IsSnapshot (Some x)) (sym (kept q true u)) (left (call x) refl))
        held q false u = let e = s.held q in (e.0, stays Before asym trans xs (change q) x ys e.0 u e.1, subst (IsSnapshot e.0) (sym (kept q false u)) e.2)

  -- what is left is legal
  legal_left : (t : State) (ys : List X) → Stands t ys → ((x : X) → Contains xs x → IsServed x (call x)) → IsLegalFor t (map seat_of ys) (map call ys) (map reply_of ys)
  legal_left t [] s h = tt
  legal_left t (x ∷ ys) s h = let i = h x (s.inside x (inl refl)) in (right t x ys s i, legal_left (state_went t (seat_of x) (call x) (reply_of x)) ys (next t x ys s i) h)

  -- and so is all
  pub legal_from : AllPairs Before xs → ((x : X) → Contains xs x → IsServed x (call x)) → IsLegalFor empty (map seat_of xs) (map call xs) (map reply_of xs)
  legal_from o h = legal_left empty xs start h
    where
      start : Stands empty xs
      start = record {
        rising = tt;
        inside = contains_from_among xs;
        ordered = order_from_pairs Before xs o;
        each = λ k. (None, λ q i u. among_from_contains xs q i, refl);
        held = λ s. (None, λ q i u. among_from_contains xs q i, subst (IsSnapshot None) (sym (snapshot-empty s)) refl);
      }
