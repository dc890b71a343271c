-- The calls of a valid list of events: their ranges, and how they lie to one another.
use Rattle.std.proofs.Common.{ℕ, zero, suc, ◌≡◌, ◌+◌, ◌<◌, ◌≤◌, ◌⊎◌, inl, inr, Bool, true, false, ◌&&◌, cond, eqb, eq-eqb, Some, None, List, [], ◌∷◌, ◌++◌, arith, refl, sym, ap, subst, ◌∙◌, get_or, slice_get, length, length-append, take, drop, filter}
use Rattle.std.proofs.lemmas.Bool.{cases_eq, cases_lt, cases_order, and_parts, eqb-true}
use Rattle.std.proofs.lemmas.List.{take-append-drop, take_all, take_more, length-take-le}
use Rattle.std.proofs.lemmas.Option.{same_Some, slice_get_within, slice_get-get_or, get_or_from_slice_get}
use Rattle.std.proofs.Math.Seq.{drop-cons}
use Rattle.kw_model.specs.declared.call.Call.{Call}
use Rattle.kw_model.specs.declared.call.Call.TheVariants.{Put, Del, Get, Scan, Pin, ScanAt, Unpin}
use Rattle.kw_line.specs.Line.{FitsCall}
use Rattle.kw_world.specs.declared.activity.Activity.{Activity}
use Rattle.kw_world.specs.declared.activity.Activity.TheVariants as Activity
use Rattle.kw_world.specs.declared.event.Choice.{Choice}
use Rattle.kw_world.specs.declared.event.Choice.TheVariants.{Begin, Go, Guess, Stop}
use Rattle.kw_world.specs.declared.event.Event.{Event}
use Rattle.kw_world.specs.declared.local.Local.{Local}
use Rattle.kw_world.specs.declared.opening.Opening.{Opening}
use Rattle.kw_world.specs.Answers.{reply_of}
use Rattle.kw_world.specs.Opening.{IsOpening}
use Rattle.kw_world.specs.Local.{resting}
use Rattle.kw_world.specs.Sane.{IsCall}
use Rattle.kw_world.specs.Sizes.{Sizes}
use Rattle.kw_world.specs.WorldView.{WorldView}
use Rattle.kw_model.specs.declared.call.Reply.{Reply}
use Rattle.kw_core.specs.Events.{is_valid, is_valid_from, may_step, world, local_of, event}
use Rattle.kw_core.specs.History.{History, called, no_call}
use Rattle.kw_core.specs.declared.history.CallLog.{CallLog}
use Rattle.kw_core.specs.declared.history.End.{End}
use Rattle.kw_core.specs.HistoryLaws.{HistoryLaws}
use Rattle.kw_core.specs.Run.{history}
use Rattle.kw_core.proofs.Events.{MayCome, may_come, IsBegun, valid_front, of_seat-else}
use Rattle.kw_laws.specs.Mirror.{Mirrors, Occurs, begun, begins_by, is_begun}
use Rattle.kw_laws.specs.SeatCalls.{CallSeen, calls_seen, seen, seen_after, end_last, AreStill, IsStill}
use Rattle.kw_laws.proofs.EndedCalls.{valid_rest}
use Rattle.kw_laws.proofs.LawProofs.{laws_hold}
use Rattle.kw_laws.proofs.MirrorKeeps.{mirrors_hold}
use Rattle.kw_laws.proofs.MirrorSeats.{begun-snoc, begun-nil}
use Rattle.kw_laws.proofs.SeatCalls.{calls-none, calls_still, calls-own, calls_apart, calls_last}
use Rattle.kw_order.specs.SeatOrder.{calls_before, IsTurn}
use Rattle.kw_order.proofs.SeatOrders.{one_turn, seen_turn, seat_within}
use Rattle.kw_order.proofs.Turns.{counted, counted_more}

-- Numbers of calls in range.

pub fits_from : (c : Call) → IsCall (Some c) → FitsCall c
fits_from (Put k v) h = (omega (arith, h.0), omega (arith, h.1))
fits_from (Del k) h = omega (arith, h)
fits_from (Get k) h = omega (arith, h)
fits_from (Scan a b) h = (omega (arith, h.0), omega (arith, h.1))
fits_from Pin h = absurd h
fits_from (ScanAt a b) h = absurd h
fits_from Unpin h = absurd h

-- Calls that are counted.

-- a call that ends stays in the list
length-end_last : (n : ℕ) (reply : Reply) (cs : List CallSeen) → length (end_last n reply cs) ≡ length cs
unfolding end_last
length-end_last n reply [] = refl
length-end_last n reply (c ∷ []) = refl
length-end_last n reply (c ∷ d ∷ cs) = ap suc (length-end_last n reply (d ∷ cs))

-- an event of a seat adds a call just where it begins one
length-seen_after : (a : Activity) (choice : Choice) (l : Local) (n : ℕ) (cs : List CallSeen) → length (seen_after a choice l n cs) ≡ length cs + cond (is_begun a choice) 1 0
length-seen_after Activity.Idle (Begin call) l n cs = length-append cs _
length-seen_after Activity.Idle Go l n cs = omega arith
length-seen_after Activity.Idle (Guess r) l n cs = omega arith
length-seen_after Activity.Idle Stop l n cs = omega arith
length-seen_after (Activity.Leave answer) choice l n cs = omega (arith, length-end_last n (reply_of answer l.pairs) cs)
length-seen_after _ choice l n cs = omega arith

-- the call at a place of a shorter list is at that place of the longer one
still_at : (cs ds : List CallSeen) (i : ℕ) (c : CallSeen) → AreStill cs ds → slice_get cs i ≡ Some c → (d : CallSeen) × (slice_get ds i ≡ Some d) × IsStill c d
still_at [] ds i c h e = cc
still_at (b ∷ cs) [] i c h e = absurd h
still_at (b ∷ cs) (d ∷ ds) zero c h e = (d, refl, subst (λ x. IsStill x d) (same_Some b c e) h.0)
still_at (b ∷ cs) (d ∷ ds) (suc i) c h e = still_at cs ds i c h.1 e

-- where each element that passes one test passes another, the other one counts no fewer
pub counted_fewer : {X : Type 0} (f g : X → Bool) (xs : List X) (n : ℕ) → ((i : ℕ) (x : X) → i < n → slice_get xs i ≡ Some x → f x ≡ true → g x ≡ true) → counted f xs n ≤ counted g xs n
counted_fewer f g [] zero h = omega arith
counted_fewer f g [] (suc n) h = omega arith
counted_fewer f g (x ∷ xs) zero h = omega arith
counted_fewer {X} f g (x ∷ xs) (suc n) h = go (f x) (g x) (h 0 x (omega arith) refl) (counted_fewer f g xs n (λ i y l e t. h (suc i) y (omega arith) e t))
  where
    go : (a b : Bool) → (a ≡ true → b ≡ true) → counted f xs n ≤ counted g xs n → length (cond a (x ∷ filter f (take n xs)) (filter f (take n xs))) ≤ length (cond b (x ∷ filter g (take n xs)) (filter g (take n xs)))
    go true true t l = omega (arith, l)
    go true false t l = let z : false ≡ true = t refl in absurd (cc)
    go false true t l = omega (arith, l)
    go false false t l = l

-- The events of a valid list.

module _ (z : Sizes) (o : Opening) (es : List Event) (opening : IsOpening z o) (ok : is_valid z o es ≡ true) where
  abbrev h : History
  h = (history z o es).history

  pub laws : HistoryLaws h
  laws = (laws_hold z o opening es ok).history

  mirrors : Mirrors z o es h
  mirrors = mirrors_hold z o opening es ok

  whole : (n : ℕ) → is_valid z o (take n es ++ drop n es) ≡ true
  whole n = subst (λ q. is_valid z o q ≡ true) (sym (take-append-drop n es)) ok

  front : (n : ℕ) → is_valid z o (take n es) ≡ true
  front n = valid_front z o (take n es) (drop n es) (whole n)

  -- an event of the list may come where it does
  comes : (x : ℕ) (w : WorldView) (e : Event) → Occurs z o es x w e → MayCome o w e
  unfolding is_valid_from
  comes x w e t =
      let l = slice_get_within es x e t.stands in
      let rest : drop x es ≡ e ∷ drop (suc x) es = drop-cons es x e l ∙ ap (λ y. y ∷ drop (suc x) es) (get_or_from_slice_get es x e e t.stands) in
      let valid : is_valid_from z o (world z o (take x es)) (e ∷ drop (suc x) es) ≡ true = subst (λ q. is_valid_from z o (world z o (take x es)) q ≡ true) rest (valid_rest z o (take x es) (drop x es) (whole x)) in
      may_come o w e (subst (λ y. may_step o y e ≡ true) t.before (and_parts (may_step o (world z o (take x es)) e) _ valid).0)

  -- the numbers of each call are in range
  pub call_fits : (x : ℕ) → x < length h.calls → FitsCall (called h x).call
  call_fits x l =
      let b = (mirrors.calls x l).begins in
      let m = comes (called h x).first b.before (event (called h x).seat (Begin (called h x).call)) b.occurs in
      let same : m.local ≡ b.local = same_Some m.local b.local (sym m.knows ∙ b.knows) in
      fits_from (called h x).call (subst (λ a. IsBegun a (Begin (called h x).call)) (ap (λ (k : Local). k.activity) same ∙ b.idle) m.begins)

  -- each call begins and ends at an event
  pub first_within : (x : ℕ) → x < length h.calls → (called h x).first < length es
  first_within x l = let b = (mirrors.calls x l).begins in slice_get_within es (called h x).first _ b.occurs.stands

  pub end_within : (x : ℕ) (e : End) → x < length h.calls → (called h x).end ≡ Some e → e.at < length es
  end_within x e l f = let b = (mirrors.calls x l).ends e f in slice_get_within es e.at _ b.occurs.stands

  -- Calls of one seat.

  turn : (x : ℕ) → x < length h.calls → IsTurn h (called h x).seat (calls_before (called h x).seat h x) x
  turn x l = record { within = l; seat = refl; turn = refl }

  -- the earlier one had ended when the later one began
  pub earlier_ended : (s x y : ℕ) → (i : x < length h.calls) → (j : y < length h.calls) → (called h x).seat ≡ s → (called h y).seat ≡ s → calls_before s h x < calls_before s h y → (e : End) × ((called h x).end ≡ Some e) × (e.at < (called h y).first)
  earlier_ended s x y i j a b l =
      let inside : s < o.seats = omega (arith, a, seat_within z o es opening ok x i) in
      let t : IsTurn h s (calls_before s h x) x = record { within = i; seat = a; turn = refl } in
      let u : IsTurn h s (calls_before s h y) y = record { within = j; seat = b; turn = refl } in
      (calls_apart z o s es opening ok inside).apart (calls_before s h x) (calls_before s h y) (seen (called h x)) (seen (called h y)) l (seen_turn z o es s (calls_before s h x) x t) (seen_turn z o es s (calls_before s h y) y u)

  -- two that do not both end before the other are one
  same_call : (s x y : ℕ) → x < length h.calls → y < length h.calls → (called h x).seat ≡ s → (called h y).seat ≡ s → ((e : End) → (called h x).end ≡ Some e → e.at < (called h y).first → ⊥) → ((e : End) → (called h y).end ≡ Some e → e.at < (called h x).first → ⊥) → x ≡ y
  same_call s x y i j a b f g = which (cases_order (calls_before s h x) (calls_before s h y))
    where
      which : (calls_before s h x ≡ calls_before s h y) ⊎ ((calls_before s h x < calls_before s h y) ⊎ (calls_before s h y < calls_before s h x)) → x ≡ y
      which (inl e) = one_turn h s (calls_before s h x) x y (record { within = i; seat = a; turn = refl }) (record { within = j; seat = b; turn = sym e })
      which (inr (inl l)) = let w = earlier_ended s x y i j a b l in absurd (f w.0 w.1 w.2)
      which (inr (inr l)) = let w = earlier_ended s y x j i b a l in absurd (g w.0 w.1 w.2)

  -- one call ends at a position
  pub one_end : (x y : ℕ) (d e : End) → x < length h.calls → y < length h.calls → (called h x).end ≡ Some d → (called h y).end ≡ Some e → d.at ≡ e.at → x ≡ y
  one_end x y d e i j f g same =
      let s = (mirrors.calls x i).ends d f in
      let t = (mirrors.calls y j).ends e g in
      let both : Some (event (called h x).seat s.choice) ≡ Some (event (called h y).seat t.choice) = sym s.occurs.stands ∙ (ap (slice_get es) same ∙ t.occurs.stands) in
      let seats : (called h x).seat ≡ (called h y).seat = ap (λ (q : Event). q.seat) (same_Some (event (called h x).seat s.choice) (event (called h y).seat t.choice) both) in
      same_call (called h y).seat x y i j seats refl
      (λ k u l. omega (arith, l, ap (λ (q : End). q.at) (same_Some k d (sym u ∙ f)), same, (laws.ends y e g).0))
      (λ k u l. omega (arith, l, ap (λ (q : End). q.at) (same_Some k e (sym u ∙ g)), same, (laws.ends x d f).0))

  -- a seat makes one call at most that has not ended
  pub one_runs : (x y : ℕ) → x < length h.calls → y < length h.calls → (called h x).end ≡ None → (called h y).end ≡ None → (called h x).seat ≡ (called h y).seat → x ≡ y
  one_runs x y i j f g seats =
      same_call (called h y).seat x y i j seats refl
      (λ k u l. let w : None ≡ Some k = sym f ∙ u in absurd (cc))
      (λ k u l. let w : None ≡ Some k = sym g ∙ u in absurd (cc))

  -- The numbers of calls.

  -- a seat has begun as many calls as are seen of it
  begun_seen : (s n : ℕ) → n ≤ length es → begun z o s (take n es) ≡ length (calls_seen z o s (take n es))
  begun_seen s zero l = begun-nil z o s ∙ sym (ap length (calls-none z o s))
  begun_seen s (suc n) l = go (slice_get-get_or es n e inside) (begun_seen s n (omega arith)) (cases_eq e.seat s)
    where
      e : Event
      e = get_or es n (event 0 Go)

      inside : n < length es
      inside = omega arith

      xs : List Event
      xs = take n es

      more : take (suc n) es ≡ xs ++ e ∷ []
      more = let next : suc n ≡ n + 1 = omega arith in ap (λ m. take m es) next ∙ take_more es n (event 0 Go) inside

      valid : is_valid z o (xs ++ e ∷ []) ≡ true
      valid = subst (λ q. is_valid z o q ≡ true) more (front (suc n))

      go : slice_get es n ≡ Some (get_or es n e) → begun z o s xs ≡ length (calls_seen z o s xs) → (e.seat ≡ s) ⊎ (e.seat ≡ s → ⊥) → begun z o s (take (suc n) es) ≡ length (calls_seen z o s (take (suc n) es))
      go there so_far (inl own) =
          let c = comes n (world z o xs) e (record { stands = slice_get-get_or es n (event 0 Go) inside; before = refl }) in
          let known : local_of (world z o xs) s ≡ c.local = ap (local_of (world z o xs)) (sym own) ∙ get_or_from_slice_get (world z o xs).locals e.seat c.local (resting 0) c.knows in
          let is : e ≡ event s e.choice = ap (λ q. event q e.choice) own in
          let seen_now = ap (λ (q : Event). calls_seen z o s (xs ++ q ∷ [])) is ∙ calls-own z o s xs e.choice opening (subst (λ (q : Event). is_valid z o (xs ++ q ∷ []) ≡ true) is valid) in
          let grown = ap length seen_now ∙ length-seen_after (local_of (world z o xs) s).activity e.choice (local_of (world z o xs) s) (length xs) (calls_seen z o s xs) in
          let test : begins_by s e (slice_get (world z o xs).locals e.seat) ≡ is_begun (local_of (world z o xs) s).activity e.choice = ap (begins_by s e) c.knows ∙ (ap (λ b. b && is_begun c.local.activity e.choice) (eq-eqb e.seat s own) ∙ ap (λ (k : Local). is_begun k.activity e.choice) (sym known)) in
          ap (begun z o s) more ∙ (begun-snoc z o s xs e ∙ (ap (λ b. begun z o s xs + cond b 1 0) test ∙ (ap (λ k. k + cond (is_begun (local_of (world z o xs) s).activity e.choice) 1 0) so_far ∙ (sym grown ∙ ap (λ q. length (calls_seen z o s q)) (sym more)))))
      go there so_far (inr other) =
          let c = comes n (world z o xs) e (record { stands = slice_get-get_or es n (event 0 Go) inside; before = refl }) in
          let test : begins_by s e (slice_get (world z o xs).locals e.seat) ≡ false = ap (begins_by s e) c.knows ∙ ap (λ b. b && is_begun c.local.activity e.choice) (differ (eqb e.seat s) refl) in
          let same = calls_still z o s xs (e ∷ []) opening valid (of_seat-else s e.seat e.choice other) in
          let none : begun z o s xs + 0 ≡ begun z o s xs = omega arith in
          ap (begun z o s) more ∙ (begun-snoc z o s xs e ∙ (ap (λ b. begun z o s xs + cond b 1 0) test ∙ (none ∙ (so_far ∙ (sym (ap length same) ∙ ap (λ q. length (calls_seen z o s q)) (sym more))))))
        where
          differ : (b : Bool) → eqb e.seat s ≡ b → b ≡ false
          differ true t = absurd (other (eqb-true e.seat s t))
          differ false t = refl

  -- the number of a call is at least 1
  pub number_some : (x : ℕ) → x < length h.calls → 1 ≤ (called h x).number
  number_some x l =
      let m = mirrors.calls x l in
      let b = m.begins in
      let f = (called h x).first in
      let e : Event = event (called h x).seat (Begin (called h x).call) in
      let inside = slice_get_within es f e b.occurs.stands in
      let more : take (f + 1) es ≡ take f es ++ e ∷ [] = take_more es f e inside ∙ ap (λ y. take f es ++ y ∷ []) (get_or_from_slice_get es f e e b.occurs.stands) in
      let knows : slice_get (world z o (take f es)).locals (called h x).seat ≡ Some b.local = subst (λ w. slice_get w.locals (called h x).seat ≡ Some b.local) (sym b.occurs.before) b.knows in
      let test : begins_by (called h x).seat e (slice_get (world z o (take f es)).locals e.seat) ≡ true = ap (begins_by (called h x).seat e) knows ∙ (ap (λ q. q && is_begun b.local.activity e.choice) (eq-eqb (called h x).seat (called h x).seat refl) ∙ ap (λ a. is_begun a e.choice) b.idle) in
      omega (arith, m.number, ap (begun z o (called h x).seat) more, begun-snoc z o (called h x).seat (take f es) e, ap {B = ℕ} (λ q. cond q 1 0) test)

  -- and no more than there are calls of its seat up to it
  pub number_few : (x : ℕ) → x < length h.calls → (called h x).number ≤ calls_before (called h x).seat h x + 1
  number_few x l = which (cases_lt (calls_before s h x + 1) (length (calls_seen z o s (take n es))))
    where
      s : ℕ
      s = (called h x).seat

      n : ℕ
      n = (called h x).first + 1

      inside : s < o.seats
      inside = seat_within z o es opening ok x l

      within : n ≤ length es
      within = omega (arith, first_within x l)

      number : (called h x).number ≡ length (calls_seen z o s (take n es))
      number = (mirrors.calls x l).number ∙ begun_seen s n within

      still : AreStill (calls_seen z o s (take n es)) (calls_seen z o s es)
      still = subst (λ q. AreStill (calls_seen z o s (take n es)) (calls_seen z o s q)) (take-append-drop n es) (calls_last z o s (take n es) (drop n es) opening (whole n))

      later : (c : CallSeen) → slice_get (calls_seen z o s (take n es)) (calls_before s h x + 1) ≡ Some c → ⊥
      later c e =
          let t = still_at (calls_seen z o s (take n es)) (calls_seen z o s es) (calls_before s h x + 1) c still e in
          let soon = (calls_apart z o s (take n es) opening (front n) inside).first (calls_before s h x + 1) c e in
          let all = calls_apart z o s es opening ok inside in
          let own = seen_turn z o es s (calls_before s h x) x (turn x l) in
          let w = all.apart (calls_before s h x) (calls_before s h x + 1) (seen (called h x)) t.0 (omega arith) own t.1 in
          let ends = all.end (calls_before s h x) (seen (called h x)) w.0 own w.1 in
          omega (arith, soon, length-take-le n es within, t.2.first, w.2, ends.0)

      which : (calls_before s h x + 1 < length (calls_seen z o s (take n es))) ⊎ (length (calls_seen z o s (take n es)) ≤ calls_before s h x + 1) → (called h x).number ≤ calls_before s h x + 1
      which (inl more) = absurd (later (get_or (calls_seen z o s (take n es)) (calls_before s h x + 1) (seen no_call)) (slice_get-get_or (calls_seen z o s (take n es)) (calls_before s h x + 1) (seen no_call) more))
      which (inr few) = omega (arith, number, few)

  here : (y : ℕ) → y < length h.calls → slice_get h.calls y ≡ Some (called h y)
  unfolding called
  here y k = slice_get-get_or h.calls y no_call k

  -- so where all ended calls are counted, it is no more than these
  pub number_counted : (g : CallLog → Bool) (x : ℕ) → x < length h.calls → ((y : ℕ) (e : End) → y < length h.calls → (called h y).end ≡ Some e → g (called h y) ≡ true) → g (called h x) ≡ true → (called h x).number ≤ length (filter g h.calls)
  number_counted g x l ended told =
      let before = counted_fewer (λ (c : CallLog). eqb c.seat s) g h.calls x (λ i c k e t. earlier i c k e (eqb-true c.seat s t)) in
      let one = counted_more g h.calls x (length h.calls) (called h x) l (here x l) told in
      omega (arith, number_few x l, before, one, ap (λ q. length (filter g q)) (take_all (length h.calls) h.calls (omega arith)))
    where
      s : ℕ
      s = (called h x).seat

      earlier : (i : ℕ) (c : CallLog) → i < x → slice_get h.calls i ≡ Some c → c.seat ≡ s → g c ≡ true
      earlier i c k e t =
          let inside : i < length h.calls = omega (arith, k, l) in
          let is : called h i ≡ c = same_Some (called h i) c (sym (here i inside) ∙ e) in
          let seat : (called h i).seat ≡ s = ap (λ (q : CallLog). q.seat) is ∙ t in
          let w = earlier_ended s i x inside l seat refl (counted_more (λ (q : CallLog). eqb q.seat s) h.calls i x c k e (eq-eqb c.seat s t)) in
          ap g (sym is) ∙ ended i w.0 inside w.1
