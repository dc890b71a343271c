-- The calls of the seats, by their numbers in the record, and how they stand in the order.
use Rattle.std.proofs.Common.{ℕ, ◌≡◌, ◌≢◌, ◌==◌, ◌<◌, ◌≤◌, ◌⊎◌, inl, inr, true, List, length, take, drop, get_or, Some, None, refl, sym, ap, ◌∙◌, subst, arith, eq-eqb}
use Rattle.std.specs.List.{slice_get}
use Rattle.std.specs.Prelude.{filter}
use Rattle.std.specs.Option.{option_map}
use Rattle.std.proofs.lemmas.Bool.{cases_lt}
use Rattle.std.proofs.lemmas.Bool.Decides.{Decides-eqb}
use Rattle.std.proofs.lemmas.List.{take-append-drop, get_or_past}
use Rattle.std.proofs.lemmas.Option.{same_Some, slice_get-map, slice_get-get_or, slice_get_within, get_or_from_slice_get, slice_get_cases}
use Rattle.kw_world.specs.declared.event.Event.{Event}
use Rattle.kw_world.specs.declared.opening.Opening.{Opening}
use Rattle.kw_world.specs.Opening.{IsOpening}
use Rattle.kw_world.specs.Sizes.{Sizes}
use Rattle.kw_core.specs.declared.history.CallLog.{CallLog}
use Rattle.kw_core.specs.History.{History, called, no_call}
use Rattle.kw_core.specs.Events.{is_valid}
use Rattle.kw_core.specs.Run.{history}
use Rattle.kw_laws.specs.SeatCalls.{CallSeen, calls_by, calls_of, calls_seen, seen}
use Rattle.kw_core.proofs.Events.{valid_front}
use Rattle.kw_laws.proofs.Records.{seats_kept}
use Rattle.kw_laws.proofs.MirrorKeeps.{mirrors_hold}
use Rattle.kw_laws.proofs.SeatCalls.{calls_apart}
use Rattle.kw_laws.proofs.LawProofs.{laws_hold}
use Rattle.kw_order.specs.Order.{IsOrder, IsPlaced}
use Rattle.kw_order.specs.SeatOrder.{calls_before, IsTurn, AllEnded}
use Rattle.kw_order.proofs.OrderProofs.{order_has_laws}
use Rattle.kw_order.proofs.Turns.{filtered_at, index_of, counted_once}

-- a call of the record, at its place
called_here : (h : History) (x : ℕ) → x < length h.calls → slice_get h.calls x ≡ Some (called h x)
unfolding called
called_here h x l = slice_get-get_or h.calls x no_call l

-- and back
called_is : (h : History) (x : ℕ) (c : CallLog) → slice_get h.calls x ≡ Some c → called h x ≡ c
unfolding called
called_is h x c e = get_or_from_slice_get h.calls x c no_call e

-- past the record no call has a place in the order
never_placed : (h : History) (x : ℕ) → length h.calls ≤ x → IsPlaced h x → ⊥
unfolding called no_call
never_placed h x l p = which (subst (λ (c : CallLog). (c.end ≢ None) ⊎ (c.put ≢ None)) (get_or_past h.calls x no_call l) p)
  where
    which : (no_call.end ≢ None) ⊎ (no_call.put ≢ None) → ⊥
    which (inl n) = n refl
    which (inr n) = n refl

-- the calls of a seat, as the seat's events show them, one by one
seen_at : (z : Sizes) (o : Opening) (es : List Event) (s k : ℕ) → slice_get (calls_seen z o s es) k ≡ option_map seen (slice_get (filter (λ (c : CallLog). c.seat == s) (history z o es).history.calls) k)
unfolding calls_seen calls_of calls_by
seen_at z o es s k = slice_get-map seen (filter (λ (c : CallLog). c.seat == s) (history z o es).history.calls) k

-- each number has one call
pub one_turn : (h : History) (s k x y : ℕ) → IsTurn h s k x → IsTurn h s k y → x ≡ y
one_turn h s k x y i j =
    counted_once (λ (c : CallLog). c.seat == s) h.calls x y (called h x) (called h y) (called_here h x i.within) (eq-eqb (called h x).seat s i.seat) (called_here h y j.within) (eq-eqb (called h y).seat s j.seat) (i.turn ∙ sym j.turn)

-- a call is seen among those of its seat, at its turn
pub seen_turn : (z : Sizes) (o : Opening) (es : List Event) (s k x : ℕ) → IsTurn (history z o es).history s k x → slice_get (calls_seen z o s es) k ≡ Some (seen (called (history z o es).history x))
seen_turn z o es s k x i =
    let h = (history z o es).history in
    let w = filtered_at (λ (c : CallLog). c.seat == s) h.calls x (called h x) (called_here h x i.within) (eq-eqb (called h x).seat s i.seat) in
    seen_at z o es s k ∙ ap (option_map seen) (ap (slice_get (filter (λ (c : CallLog). c.seat == s) h.calls)) (sym i.turn) ∙ w)

-- the number in the record of a call that is seen of a seat
pub record IsNamed (h : History) (s k : ℕ) (c : CallSeen) : Type 0 where
  pub place : ℕ
  pub turn : IsTurn h s k place
  pub is : seen (called h place) ≡ c

-- each that is seen has one
pub name_of : (z : Sizes) (o : Opening) (es : List Event) (s k : ℕ) (c : CallSeen) → slice_get (calls_seen z o s es) k ≡ Some c → IsNamed (history z o es).history s k c
name_of z o es s k c e = go (slice_get_cases (filter (λ (c : CallLog). c.seat == s) h.calls) k).1
  where
    h : History
    h = (history z o es).history

    of : List CallLog
    of = filter (λ (c : CallLog). c.seat == s) (history z o es).history.calls

    go : ((d : CallLog) × (k < length of) × (slice_get of k ≡ Some d) × (get_or of k d ≡ d)) ⊎ ((length of ≤ k) × (slice_get of k ≡ None)) → IsNamed h s k c
    go (inl w) =
        let p = index_of (λ (c : CallLog). c.seat == s) h.calls k w.0 w.2 in
        let d = called_is h p.place w.0 p.here in
        let shown : Some (seen w.0) ≡ Some c = sym (seen_at z o es s k ∙ ap (option_map seen) w.2) ∙ e in
        record {
          place = p.place;
          turn = record { within = slice_get_within h.calls p.place w.0 p.here; seat = ap (λ (c : CallLog). c.seat) d ∙ (Decides-eqb w.0.seat s).0 p.is_true; turn = p.before };
          is = ap seen d ∙ same_Some (seen w.0) c shown;
        }
    go (inr w) = let n = sym (seen_at z o es s k ∙ ap (option_map seen) w.1) ∙ e in absurd (cc)

-- a call has one seat and one turn
pub turn_apart : (h : History) (s t j k x : ℕ) → IsTurn h s j x → IsTurn h t k x → (s ≡ t) × (j ≡ k)
turn_apart h s t j k x a b =
    let e : s ≡ t = sym a.seat ∙ b.seat in
    (e, sym a.turn ∙ ap (λ q. calls_before q h x) e ∙ b.turn)

-- In a valid list from an opening.

module _ (z : Sizes) (o : Opening) (es : List Event) (opening : IsOpening z o) (ok : is_valid z o es ≡ true) where
  -- the record
  abbrev h : History
  h = (history z o es).history

  -- each call is one of a seat
  pub seat_within : (x : ℕ) → x < length h.calls → (called h x).seat < o.seats
  seat_within x l =
      let b = ((mirrors_hold z o opening es ok).calls x l).begins in
      let front = valid_front z o (take (called h x).first es) (drop (called h x).first es) (subst (λ q. is_valid z o q ≡ true) (sym (take-append-drop (called h x).first es)) ok) in
      let n : length b.before.locals ≡ o.seats = ap (λ w. length w.locals) (sym b.occurs.before) ∙ seats_kept z o (take (called h x).first es) front in
      let w = slice_get_within b.before.locals (called h x).seat b.local b.knows in
      omega arith

  -- and has its turn there
  pub turn_of : (x : ℕ) → x < length h.calls → (s : ℕ) × (k : ℕ) × (s < o.seats) × IsTurn h s k x
  turn_of x l = ((called h x).seat, calls_before (called h x).seat h x, seat_within x l, record { within = l; seat = refl; turn = refl })

  -- where all calls have ended, all of them have a place in the order
  pub all_placed : AllEnded z o es → (x : ℕ) → x < length h.calls → IsPlaced h x
  all_placed ended x l =
      let t = turn_of x l in
      let e = ended t.0 t.1 (seen (called h x)) t.2 (seen_turn z o es t.0 t.1 x t.3) in
      inl (λ n. let w : None ≡ Some e.0 = sym n ∙ e.1 in absurd (cc))

  -- of one seat's calls the earlier one stands first
  pub turns_kept : (xs : List ℕ) → IsOrder h xs → (s j k x y a b : ℕ) → s < o.seats → j < k → IsTurn h s j x → IsTurn h s k y → slice_get xs a ≡ Some x → slice_get xs b ≡ Some y → a < b
  turns_kept xs order s j k x y a b inside l i n e f =
      let laws = order_has_laws h (laws_hold z o opening es ok).history xs order in
      let w = (calls_apart z o s es opening ok inside).apart j k (seen (called h x)) (seen (called h y)) l (seen_turn z o es s j x i) (seen_turn z o es s k y n) in
      laws.precedes x y a b w.0 e f w.1 w.2

-- what has a place in the order is in the record
pub placed_within : (h : History) (x : ℕ) → IsPlaced h x → x < length h.calls
placed_within h x p = go (cases_lt x (length h.calls))
  where
    go : (x < length h.calls) ⊎ (length h.calls ≤ x) → x < length h.calls
    go (inl l) = l
    go (inr l) = absurd (never_placed h x l p)
