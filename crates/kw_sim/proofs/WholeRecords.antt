-- The record of a trace, put together from the places of its calls.
use Rattle.std.proofs.Common.{ℕ, zero, suc, ◌≡◌, ◌+◌, ◌<◌, ◌≤◌, ◌⊎◌, inl, inr, Bool, true, false, ◌||◌, cond, is_some, Option, Some, None, List, [], ◌∷◌, ◌++◌, map, filter, Contains, arith, refl, sym, ap, subst, ◌∙◌, slice_get, length, length-append}
use Rattle.std.specs.List.{AllByRecursion, flat_map}
use Rattle.std.proofs.lemmas.Bool.{cases_lt}
use Rattle.std.proofs.lemmas.List.{append-nil, length-map}
use Rattle.std.proofs.lemmas.List.Concat.{flat_map-append}
use Rattle.std.proofs.lemmas.Option.{same_Some}
use Rattle.kw_line.specs.Line.{FitsCall}
use Rattle.kw_line.specs.declared.words.TheConstants.{LINE_FEED}
use Rattle.kw_world.specs.Opening.{IsOpening}
use Rattle.kw_world.specs.Sizes.{product}
use Rattle.kw_core.specs.Events.{is_valid}
use Rattle.kw_core.specs.History.{History, attempt, called}
use Rattle.kw_core.specs.HistoryLaws.{HistoryLaws, Makes}
use Rattle.kw_model.specs.declared.call.Call.{Call}
use Rattle.kw_model.specs.declared.call.Call.TheVariants.{Put, Del, Get, Scan, Pin, ScanAt, Unpin}
use Rattle.kw_model.specs.declared.call.Reply.{Reply}
use Rattle.kw_core.specs.declared.history.CallLog.{CallLog}
use Rattle.kw_core.specs.declared.history.End.{End}
use Rattle.kw_core.proofs.Attempts.{in_range}
use Rattle.kw_order.specs.declared.points.CallName.{CallName}
use Rattle.kw_order.specs.Legal.{IsLegalOrder, reply_or_done}
use Rattle.kw_order.specs.Order.{IsOrder, IsPlaced}
use Rattle.kw_order.specs.OrderLaws.{OrderLaws}
use Rattle.kw_order.specs.Points.{AreNames, name_of}
use Rattle.kw_order.specs.Trace.{TraceView, history_of}
use Rattle.kw_order.proofs.SeatOrders.{placed_within, seat_within}
use Rattle.kw_judge.specs.declared.record.Name.{Name}
use Rattle.kw_judge.specs.declared.record.DoneCall.{DoneCall}
use Rattle.kw_judge.specs.declared.record.OpenCall.{OpenCall}
use Rattle.kw_judge.specs.declared.record.TheConstants.{RECORD_SEATS, MOST_POSITION, MOST_CALLS}
use Rattle.kw_judge.specs.Record.{RecordView, IsRecord, IsRecordText, IsName, IsDone, IsOpen, IsUpdate, Once, record_text}
use Rattle.kw_judge.specs.Good.{Recorded, answered, unanswered}
use Rattle.kw_judge.specs.Texts.{done_text, open_text, order_text}
use Rattle.kw_judge.proofs.Calls.{record_call_from_fits}
use Rattle.kw_judge.proofs.RecordTexts.{text_is_record}
use Rattle.kw_sim.specs.declared.recording.LinePlace.{LinePlace}
use Rattle.kw_sim.specs.declared.recording.Section.TheVariants.{Done, Open}
use Rattle.kw_sim.specs.Printed.{judged}
use Rattle.kw_sim.specs.Recorded.{IsDoneOf, IsOpenOf, AreDone, AreOpen, IsRecordAt, has_line, IsTooMany}
use Rattle.kw_sim.specs.Sections.{stands_by, stands_at, IsPlaceOf, ArePlaces, line_by, line_of, lines_at, AreWithin}
use Rattle.kw_sim.proofs.Gathered.{place_within}
use Rattle.kw_sim.proofs.GoodRecords.{mapped_at, at_mapped, map_alike, map_twice, has_place, name_at, recorded_at, last_of, good, names, names_once}
use Rattle.kw_sim.proofs.TraceCalls as facts
use Rattle.kw_sim.proofs.TraceReplies.{reply_fits}

-- The line of a call.

abbrev done_at : History → LinePlace → DoneCall
done_at h p = record { name = name_at h p.call; first = (called h p.call).first; last = p.at; call = (called h p.call).call; reply = reply_or_done (called h p.call).end }

abbrev open_at : History → LinePlace → OpenCall
open_at h p = record { name = name_at h p.call; first = (called h p.call).first; call = (called h p.call).call }

-- what the call of a place of the first section ended with
done_end : (h : History) (p : LinePlace) → IsPlaceOf h Done p → (called h p.call).end ≡ Some (record { at = p.at; reply = reply_or_done (called h p.call).end })
done_end h p e = go (called h p.call).end refl
  where
    go : (o : Option End) → (called h p.call).end ≡ o → (called h p.call).end ≡ Some (record { at = p.at; reply = reply_or_done (called h p.call).end })
    go None f = let z : None ≡ Some p.at = sym (ap (λ x. stands_by Done x (called h p.call).put (called h p.call).seat) f) ∙ e in absurd (cc)
    go (Some q) f =
        let at : q.at ≡ p.at = same_Some q.at p.at (sym (ap (λ x. stands_by Done x (called h p.call).put (called h p.call).seat) f) ∙ e) in
        f ∙ (ap (λ a. Some (record { at = a; reply = q.reply })) at ∙ ap (λ x. Some (record { at = p.at; reply = reply_or_done x })) (sym f))

-- what is known of the call of a place of the second one
record Runs (h : History) (p : LinePlace) : Type 0 where
  end : (called h p.call).end ≡ None
  put : ℕ
  stamped : (called h p.call).put ≡ Some put
  seat : (called h p.call).seat ≡ p.at

runs : (h : History) (p : LinePlace) → IsPlaceOf h Open p → Runs h p
runs h p e = go (called h p.call).end (called h p.call).put refl refl
  where
    go : (o : Option End) (q : Option ℕ) → (called h p.call).end ≡ o → (called h p.call).put ≡ q → Runs h p
    go (Some x) q f g = let z : None ≡ Some p.at = sym (ap (λ y. stands_by Open y (called h p.call).put (called h p.call).seat) f) ∙ e in absurd (cc)
    go None None f g = let z : None ≡ Some p.at = sym (ap (λ y. stands_by Open None y (called h p.call).seat) g) ∙ (sym (ap (λ y. stands_by Open y (called h p.call).put (called h p.call).seat) f) ∙ e) in absurd (cc)
    go None (Some x) f g = record {
      end = f;
      put = x;
      stamped = g;
      seat = same_Some (called h p.call).seat p.at (sym (ap (λ y. stands_by Open None y (called h p.call).seat) g) ∙ (sym (ap (λ y. stands_by Open y (called h p.call).put (called h p.call).seat) f) ∙ e));
    }

no_end : (o : Option End) (e : End) → o ≡ None → o ≡ Some e → ⊥
no_end None e a b = cc
no_end (Some x) e a b = cc

-- Lists.

all_from : {X : Type 0} (P : X → Type 0) (xs : List X) → ((i : ℕ) (x : X) → slice_get xs i ≡ Some x → P x) → AllByRecursion P xs
all_from P [] f = tt
all_from P (x ∷ xs) f = (f 0 x refl, all_from P xs (λ i y e. f (suc i) y e))

-- an element of two lists is in the first one or in the second one
get_either : {X : Type 0} (xs ys : List X) (i : ℕ) (x : X) → slice_get (xs ++ ys) i ≡ Some x → (slice_get xs i ≡ Some x) ⊎ ((k : ℕ) × (i ≡ length xs + k) × (slice_get ys k ≡ Some x))
get_either [] ys i x e = inr (i, omega arith, e)
get_either (y ∷ xs) ys zero x e = inl e
get_either {X} (y ∷ xs) ys (suc i) x e = which (get_either xs ys i x e)
  where
    which : (slice_get xs i ≡ Some x) ⊎ ((k : ℕ) × (i ≡ length xs + k) × (slice_get ys k ≡ Some x)) → (slice_get xs i ≡ Some x) ⊎ ((k : ℕ) × (suc i ≡ length (y ∷ xs) + k) × (slice_get ys k ≡ Some x))
    which (inl f) = inl f
    which (inr (k, f, g)) = inr (k, omega (arith, f), g)

get_first : {X : Type 0} (xs ys : List X) (i : ℕ) (x : X) → slice_get xs i ≡ Some x → slice_get (xs ++ ys) i ≡ Some x
get_first [] ys i x e = cc
get_first (y ∷ xs) ys zero x e = e
get_first (y ∷ xs) ys (suc i) x e = get_first xs ys i x e

get_second : {X : Type 0} (xs ys : List X) (k : ℕ) (x : X) → slice_get ys k ≡ Some x → slice_get (xs ++ ys) (length xs + k) ≡ Some x
get_second [] ys k x e = let z : k ≡ 0 + k = omega arith in subst (λ j. slice_get ys j ≡ Some x) z e
get_second (y ∷ xs) ys k x e = let z : suc (length xs + k) ≡ suc (length xs) + k = omega arith in subst (λ j. slice_get (y ∷ (xs ++ ys)) j ≡ Some x) z (get_second xs ys k x e)

-- no call has a line in both sections, so together these have as many lines as there are calls with
-- one
count_both : (cs : List CallLog) → length (filter (λ (c : CallLog). is_some (stands_at Done c)) cs) + length (filter (λ (c : CallLog). is_some (stands_at Open c)) cs) ≡ length (filter has_line cs)
count_both [] = refl
count_both (c ∷ cs) = go (is_some (stands_at Done c)) (is_some (stands_at Open c)) (has_line c) (one c.end c.put) (count_both cs)
  where
    one : (e : Option End) (p : Option ℕ) → cond (is_some (stands_by Done e p c.seat)) 1 0 + cond (is_some (stands_by Open e p c.seat)) 1 0 ≡ cond (is_some e || is_some p) 1 0
    one None None = refl
    one None (Some p) = refl
    one (Some e) None = refl
    one (Some e) (Some p) = refl

    go : (a b d : Bool) → cond a 1 0 + cond b 1 0 ≡ cond d 1 0 → length (filter (λ (x : CallLog). is_some (stands_at Done x)) cs) + length (filter (λ (x : CallLog). is_some (stands_at Open x)) cs) ≡ length (filter has_line cs) →
        length (cond a (c ∷ filter (λ (x : CallLog). is_some (stands_at Done x)) cs) (filter (λ (x : CallLog). is_some (stands_at Done x)) cs)) + length (cond b (c ∷ filter (λ (x : CallLog). is_some (stands_at Open x)) cs) (filter (λ (x : CallLog). is_some (stands_at Open x)) cs)) ≡ length (cond d (c ∷ filter has_line cs) (filter has_line cs))
    go true true true e f = cc
    go true true false e f = cc
    go true false true e f = omega (arith, f)
    go true false false e f = cc
    go false true true e f = omega (arith, f)
    go false true false e f = cc
    go false false true e f = cc
    go false false false e f = f

-- The record.

module _ (t : TraceView) (opening : IsOpening product t.opening) (ok : is_valid product t.opening t.events ≡ true) (ps qs : List LinePlace) (p_are : ArePlaces (history_of t) Done ps) (q_are : ArePlaces (history_of t) Open qs) where
  abbrev h : History
  h = history_of t

  laws : HistoryLaws h
  laws = facts.laws product t.opening t.events opening ok

  fits : (x : ℕ) → x < length h.calls → FitsCall (called h x).call
  fits = facts.call_fits product t.opening t.events opening ok

  count : length ps + length qs ≡ length (filter has_line h.calls)
  count = omega (arith, p_are.count, q_are.count, count_both h.calls)

  -- too many lines are too many calls
  pub too_many : MOST_CALLS < length ps + length qs → IsTooMany t
  too_many l = omega (arith, l, count)

  -- each place is that of a call
  pub done_within : AreWithin h ps
  done_within i p e = place_within h Done p (p_are.each i p e)

  pub open_within : AreWithin h qs
  open_within i p e = place_within h Open p (q_are.each i p e)

  abbrev calls_listed : List ℕ
  calls_listed = map (λ (p : LinePlace). p.call) ps ++ map (λ (p : LinePlace). p.call) qs

  placed : (i x : ℕ) → slice_get calls_listed i ≡ Some x → IsPlaced h x
  placed i x e = which (get_either (map (λ (p : LinePlace). p.call) ps) (map (λ (p : LinePlace). p.call) qs) i x e)
    where
      which : (slice_get (map (λ (p : LinePlace). p.call) ps) i ≡ Some x) ⊎ ((k : ℕ) × (i ≡ length (map (λ (p : LinePlace). p.call) ps) + k) × (slice_get (map (λ (p : LinePlace). p.call) qs) k ≡ Some x)) → IsPlaced h x
      which (inl f) =
          let p = mapped_at (λ (p : LinePlace). p.call) ps i x f in
          subst (IsPlaced h) p.2 (inl (λ n. let z : None ≡ Some (record { at = p.0.at; reply = reply_or_done (called h p.0.call).end }) = sym n ∙ done_end h p.0 (p_are.each i p.0 p.1) in cc))
      which (inr (k, a, f)) =
          let p = mapped_at (λ (p : LinePlace). p.call) qs k x f in
          let w = runs h p.0 (q_are.each k p.0 p.1) in
          subst (IsPlaced h) p.2 (inr (λ n. let z : None ≡ Some w.put = sym n ∙ w.stamped in cc))

  every : (x : ℕ) → IsPlaced h x → (i : ℕ) × (slice_get calls_listed i ≡ Some x)
  every x p = go (called h x).end (called h x).put refl refl p
    where
      go : (e : Option End) (q : Option ℕ) → (called h x).end ≡ e → (called h x).put ≡ q → IsPlaced h x → (i : ℕ) × (slice_get calls_listed i ≡ Some x)
      go (Some e) q f g p =
          let w = p_are.every (record { at = e.at; call = x }) (ap (λ y. stands_by Done y (called h x).put (called h x).seat) f) in
          (w.0, get_first (map (λ (p : LinePlace). p.call) ps) (map (λ (p : LinePlace). p.call) qs) w.0 x (at_mapped (λ (p : LinePlace). p.call) ps w.0 _ w.1))
      go None (Some q) f g p =
          let w = q_are.every (record { at = (called h x).seat; call = x }) (ap (λ y. stands_by Open y (called h x).put (called h x).seat) f ∙ ap (λ y. stands_by Open None y (called h x).seat) g) in
          (length (map (λ (p : LinePlace). p.call) ps) + w.0, get_second (map (λ (p : LinePlace). p.call) ps) (map (λ (p : LinePlace). p.call) qs) w.0 x (at_mapped (λ (p : LinePlace). p.call) qs w.0 _ w.1))
      go None None f g (inl n) = absurd (n f)
      go None None f g (inr n) = absurd (n g)

  -- no call is listed twice
  apart : {s : _} (xs : List LinePlace) (i j x : ℕ) → ArePlaces h s xs → slice_get (map (λ (p : LinePlace). p.call) xs) i ≡ Some x → slice_get (map (λ (p : LinePlace). p.call) xs) j ≡ Some x → i ≡ j
  apart xs i j x a e f = which (cases_lt i j) (cases_lt j i)
    where
      never : (k l : ℕ) → k < l → slice_get (map (λ (p : LinePlace). p.call) xs) k ≡ Some x → slice_get (map (λ (p : LinePlace). p.call) xs) l ≡ Some x → ⊥
      never k l w g n =
          let p = mapped_at (λ (p : LinePlace). p.call) xs k x g in
          let q = mapped_at (λ (p : LinePlace). p.call) xs l x n in
          a.apart k l p.0 q.0 w p.1 q.1 (p.2 ∙ sym q.2)

      which : (i < j) ⊎ (j ≤ i) → (j < i) ⊎ (i ≤ j) → i ≡ j
      which (inl l) _ = absurd (never i j l e f)
      which (inr l) (inl k) = absurd (never j i k f e)
      which (inr l) (inr k) = omega arith

  -- nor in both sections
  not_both : (i k x : ℕ) → slice_get (map (λ (p : LinePlace). p.call) ps) i ≡ Some x → slice_get (map (λ (p : LinePlace). p.call) qs) k ≡ Some x → ⊥
  not_both i k x e f =
      let p = mapped_at (λ (p : LinePlace). p.call) ps i x e in
      let q = mapped_at (λ (p : LinePlace). p.call) qs k x f in
      let w = runs h q.0 (q_are.each k q.0 q.1) in
      no_end (called h p.0.call).end _ (ap (λ y. (called h y).end) (p.2 ∙ sym q.2) ∙ w.end) (done_end h p.0 (p_are.each i p.0 p.1))

  once : Once calls_listed
  once i j x e f = which (get_either (map (λ (p : LinePlace). p.call) ps) (map (λ (p : LinePlace). p.call) qs) i x e) (get_either (map (λ (p : LinePlace). p.call) ps) (map (λ (p : LinePlace). p.call) qs) j x f)
    where
      xs : List ℕ
      xs = map (λ (p : LinePlace). p.call) ps

      ys : List ℕ
      ys = map (λ (p : LinePlace). p.call) qs

      which : (slice_get (map (λ (p : LinePlace). p.call) ps) i ≡ Some x) ⊎ ((k : ℕ) × (i ≡ length (map (λ (p : LinePlace). p.call) ps) + k) × (slice_get (map (λ (p : LinePlace). p.call) qs) k ≡ Some x)) → (slice_get (map (λ (p : LinePlace). p.call) ps) j ≡ Some x) ⊎ ((k : ℕ) × (j ≡ length (map (λ (p : LinePlace). p.call) ps) + k) × (slice_get (map (λ (p : LinePlace). p.call) qs) k ≡ Some x)) → i ≡ j
      which (inl a) (inl b) = apart ps i j x p_are a b
      which (inl a) (inr (k, u, b)) = absurd (not_both i k x a b)
      which (inr (k, u, a)) (inl b) = absurd (not_both j k x b a)
      which (inr (k, u, a)) (inr (l, v, b)) = omega (arith, u, v, apart qs k l x q_are a b)

  -- Its lines.

  abbrev done : List DoneCall
  done = map (done_at h) ps

  abbrev open_calls : List OpenCall
  open_calls = map (open_at h) qs

  are_done : AreDone h done
  are_done = record { each = each; every = all; rises = rises }
    where
      each : (i : ℕ) (d : DoneCall) → slice_get done i ≡ Some d → (x : ℕ) × IsDoneOf h x d
      each i d e =
          let p = mapped_at (done_at h) ps i d e in
          (p.0.call, subst (IsDoneOf h p.0.call) p.2 (record { name = refl; first = refl; call = refl; end = done_end h p.0 (p_are.each i p.0 p.1) }))

      all : (x : ℕ) (d : DoneCall) → IsDoneOf h x d → Contains done d
      all x d is =
          let w = p_are.every (record { at = d.last; call = x }) (ap (λ y. stands_by Done y (called h x).put (called h x).seat) is.end) in
          let same : done_at h (record { at = d.last; call = x }) ≡ d = parts _ d.name _ d.first d.last _ d.call _ d.reply (sym is.name) (sym is.first) (sym is.call) (ap reply_or_done is.end) in
          has_place done d w.0 (at_mapped (done_at h) ps w.0 _ w.1 ∙ ap Some same)
        where
          parts : (a b : Name) (f g l : ℕ) (c k : Call) (r q : Reply) → a ≡ b → f ≡ g → c ≡ k → r ≡ q → let u : DoneCall = record { name = a; first = f; last = l; call = c; reply = r } in let v : DoneCall = record { name = b; first = g; last = l; call = k; reply = q } in u ≡ v
          parts a b f g l c k r q e1 e2 e3 e4 = cc

      rises : (i j : ℕ) (a b : DoneCall) → i < j → slice_get done i ≡ Some a → slice_get done j ≡ Some b → a.last < b.last
      rises i j a b l e f =
          let p = mapped_at (done_at h) ps i a e in
          let q = mapped_at (done_at h) ps j b f in
          let pe = p_are.each i p.0 p.1 in
          let qe = p_are.each j q.0 q.1 in
          which p.0 q.0 (p_are.sorted i j p.0 q.0 l p.1 q.1) (λ same. p_are.apart i j p.0 q.0 l p.1 q.1 (facts.one_end product t.opening t.events opening ok p.0.call q.0.call _ _ (place_within h Done p.0 pe) (place_within h Done q.0 qe) (done_end h p.0 pe) (done_end h q.0 qe) same)) (ap (λ (d : DoneCall). d.last) p.2) (ap (λ (d : DoneCall). d.last) q.2)
        where
          which : (p q : LinePlace) → p.at ≤ q.at → (p.at ≡ q.at → ⊥) → p.at ≡ a.last → q.at ≡ b.last → a.last < b.last
          which p q le ne u v = go (cases_lt p.at q.at)
            where
              go : (p.at < q.at) ⊎ (q.at ≤ p.at) → a.last < b.last
              go (inl w) = omega (arith, w, u, v)
              go (inr w) = absurd (ne (omega arith))

  are_open : AreOpen h open_calls
  are_open = record { each = each; every = all; rises = rises }
    where
      each : (i : ℕ) (d : OpenCall) → slice_get open_calls i ≡ Some d → (x : ℕ) × IsOpenOf h x d
      each i d e =
          let p = mapped_at (open_at h) qs i d e in
          let w = runs h p.0 (q_are.each i p.0 p.1) in
          (p.0.call, subst (IsOpenOf h p.0.call) p.2 (record { name = refl; first = refl; call = refl; runs = w.end; stamped = (w.put, w.stamped) }))

      all : (x : ℕ) (d : OpenCall) → IsOpenOf h x d → Contains open_calls d
      all x d is =
          let w = q_are.every (record { at = (called h x).seat; call = x }) (ap (λ y. stands_by Open y (called h x).put (called h x).seat) is.runs ∙ ap (λ y. stands_by Open None y (called h x).seat) is.stamped.1) in
          let same : open_at h (record { at = (called h x).seat; call = x }) ≡ d = parts _ d.name _ d.first _ d.call (sym is.name) (sym is.first) (sym is.call) in
          has_place open_calls d w.0 (at_mapped (open_at h) qs w.0 _ w.1 ∙ ap Some same)
        where
          parts : (a b : Name) (f g : ℕ) (c k : Call) → a ≡ b → f ≡ g → c ≡ k → let u : OpenCall = record { name = a; first = f; call = c } in let v : OpenCall = record { name = b; first = g; call = k } in u ≡ v
          parts a b f g c k e1 e2 e3 = cc

      rises : (i j : ℕ) (a b : OpenCall) → i < j → slice_get open_calls i ≡ Some a → slice_get open_calls j ≡ Some b → a.name.seat < b.name.seat
      rises i j a b l e f =
          let p = mapped_at (open_at h) qs i a e in
          let q = mapped_at (open_at h) qs j b f in
          let pe = q_are.each i p.0 p.1 in
          let qe = q_are.each j q.0 q.1 in
          let u = runs h p.0 pe in
          let v = runs h q.0 qe in
          which p.0 q.0 (q_are.sorted i j p.0 q.0 l p.1 q.1) (λ same. q_are.apart i j p.0 q.0 l p.1 q.1 (facts.one_runs product t.opening t.events opening ok p.0.call q.0.call (place_within h Open p.0 pe) (place_within h Open q.0 qe) u.end v.end (u.seat ∙ (same ∙ sym v.seat)))) (sym u.seat ∙ ap (λ (d : OpenCall). d.name.seat) p.2) (sym v.seat ∙ ap (λ (d : OpenCall). d.name.seat) q.2)
        where
          which : (p q : LinePlace) → p.at ≤ q.at → (p.at ≡ q.at → ⊥) → p.at ≡ a.name.seat → q.at ≡ b.name.seat → a.name.seat < b.name.seat
          which p q le ne u v = go (cases_lt p.at q.at)
            where
              go : (p.at < q.at) ⊎ (q.at ≤ p.at) → a.name.seat < b.name.seat
              go (inl w) = omega (arith, w, u, v)
              go (inr w) = absurd (ne (omega arith))

  -- the calls of the lines are those that are listed
  calls : map answered done ++ map unanswered open_calls ≡ map (recorded_at h) calls_listed
  calls = joined (map answered done) (map unanswered open_calls) (map (λ (p : LinePlace). p.call) ps) (map (λ (p : LinePlace). p.call) qs)
      (map_twice answered (done_at h) ps ∙ (map_alike (λ p. answered (done_at h p)) (λ p. recorded_at h p.call) ps (λ i p e. one i p e) ∙ sym (map_twice (recorded_at h) (λ (p : LinePlace). p.call) ps)))
      (map_twice unanswered (open_at h) qs ∙ (map_alike (λ p. unanswered (open_at h p)) (λ p. recorded_at h p.call) qs (λ i p e. other i p e) ∙ sym (map_twice (recorded_at h) (λ (p : LinePlace). p.call) qs)))
    where
      one : (i : ℕ) (p : LinePlace) → slice_get ps i ≡ Some p → answered (done_at h p) ≡ recorded_at h p.call
      one i p e = ap (λ o. record { name = name_at h p.call; first = (called h p.call).first; last = o; call = (called h p.call).call; reply = reply_or_done (called h p.call).end }) (sym (ap last_of (done_end h p (p_are.each i p e))))

      other : (i : ℕ) (p : LinePlace) → slice_get qs i ≡ Some p → unanswered (open_at h p) ≡ recorded_at h p.call
      other i p e = ap (λ o. record { name = name_at h p.call; first = (called h p.call).first; last = last_of o; call = (called h p.call).call; reply = reply_or_done o }) (sym (runs h p (q_are.each i p e)).end)

      joined : (cs bs : List Recorded) (xs ys : List ℕ) → cs ≡ map (recorded_at h) xs → bs ≡ map (recorded_at h) ys → cs ++ bs ≡ map (recorded_at h) (xs ++ ys)
      joined cs bs xs ys e f = ap (λ q. q ++ bs) e ∙ (ap (λ q. map (recorded_at h) xs ++ q) f ∙ sym (both xs ys))
        where
          both : (us vs : List ℕ) → map (recorded_at h) (us ++ vs) ≡ map (recorded_at h) us ++ map (recorded_at h) vs
          both [] vs = refl
          both (u ∷ us) vs = let b = both us vs in cc

  module _ (seats : t.opening.seats ≤ RECORD_SEATS) (short : length t.events ≤ MOST_POSITION) (few : length ps + length qs ≤ MOST_CALLS) where
    ended_told : (y : ℕ) (e : End) → y < length h.calls → (called h y).end ≡ Some e → has_line (called h y) ≡ true
    ended_told y e l f = ap (λ o. is_some o || is_some (called h y).put) f

    told : (x : ℕ) → IsPlaced h x → has_line (called h x) ≡ true
    told x p = go (called h x).end (called h x).put refl refl p
      where
        go : (e : Option End) (q : Option ℕ) → (called h x).end ≡ e → (called h x).put ≡ q → IsPlaced h x → has_line (called h x) ≡ true
        go (Some e) q f g p = ap (λ o. is_some o || is_some (called h x).put) f
        go None (Some q) f g p = ap (λ o. is_some o || is_some (called h x).put) f ∙ ap is_some g
        go None None f g (inl n) = absurd (n f)
        go None None f g (inr n) = absurd (n g)

    -- names are in range
    name_fits : (x : ℕ) → IsPlaced h x → IsName (name_at h x)
    name_fits x p =
        let l = placed_within h x p in (
          omega (arith, seat_within product t.opening t.events opening ok x l, seats),
          facts.number_some product t.opening t.events opening ok x l,
          omega (arith, facts.number_counted product t.opening t.events opening ok has_line x l ended_told (told x p), count, few),
        )

    done_fits : (i : ℕ) (d : DoneCall) → slice_get done i ≡ Some d → IsDone d
    done_fits i d e =
        let p = mapped_at (done_at h) ps i d e in
        let pe = p_are.each i p.0 p.1 in
        let l = place_within h Done p.0 pe in
        let end = done_end h p.0 pe in
        let placed_here : IsPlaced h p.0.call = inl (λ n. let z : None ≡ Some (record { at = p.0.at; reply = reply_or_done (called h p.0.call).end }) = sym n ∙ end in cc) in
        subst IsDone p.2 (record {
          name = name_fits p.0.call placed_here;
          rising = omega (arith, (laws.ends p.0.call _ end).0);
          last = omega (arith, facts.end_within product t.opening t.events opening ok p.0.call _ l end, short);
          call = record_call_from_fits (called h p.0.call).call (fits p.0.call l);
          reply = reply_fits h laws fits p.0.call _ l end;
        })

    open_fits : (i : ℕ) (d : OpenCall) → slice_get open_calls i ≡ Some d → IsOpen d
    open_fits i d e =
        let p = mapped_at (open_at h) qs i d e in
        let pe = q_are.each i p.0 p.1 in
        let l = place_within h Open p.0 pe in
        let w = runs h p.0 pe in
        let placed_here : IsPlaced h p.0.call = inr (λ n. let z : None ≡ Some w.put = sym n ∙ w.stamped in cc) in
        let put = laws.is_put p.0.call w.put w.stamped in
        let made = (laws.attempted w.put (in_range h w.put put.0)).makes in
        subst IsOpen p.2 (record {
          name = name_fits p.0.call placed_here;
          first = omega (arith, facts.first_within product t.opening t.events opening ok p.0.call l, short);
          update = update (called h p.0.call).call (attempt h w.put).key (attempt h w.put).value (subst (λ x. Makes (called h x).call (attempt h w.put).key (attempt h w.put).value) put.1 made);
          call = record_call_from_fits (called h p.0.call).call (fits p.0.call l);
        })
      where
        update : (c : Call) (key : ℕ) (value : Option ℕ) → Makes c key value → IsUpdate c
        update (Put k v) key value m = tt
        update (Del k) key value m = tt
        update (Get k) key value m = m
        update (Scan a b) key value m = m
        update Pin key value m = absurd m
        update (ScanAt a b) key value m = absurd m
        update Unpin key value m = absurd m

    module _ (names_are : List CallName) (are : AreNames h names_are) (one : (xs : List ℕ) → IsOrder h xs → xs ≡ are.order) (order_laws : OrderLaws h are.order) (legal : IsLegalOrder h are.order) where
      abbrev written : RecordView
      written = record { done = done; open_calls = open_calls; order = map judged names_are }

      order_is : map judged names_are ≡ map (name_at h) are.order
      order_is = ap (map judged) are.each ∙ map_twice judged (name_of h) are.order

      is_record : IsRecord written
      is_record = record {
        each_done = all_from IsDone done done_fits;
        each_open = all_from IsOpen open_calls open_fits;
        each_name = subst (AllByRecursion IsName) (sym order_is) (all_from IsName (map (name_at h) are.order) (λ i n e. let x = mapped_at (name_at h) are.order i n e in subst IsName x.2 (name_fits x.0 (are.is_order.placed i x.0 x.1))));
        once = names_once h laws calls_listed once placed every written calls;
        few = omega (arith, few, ap length (names h laws calls_listed once placed every written calls), length-map calls_listed (name_at h), length-append (map (λ (p : LinePlace). p.call) ps) (map (λ (p : LinePlace). p.call) qs), length-map ps (λ (p : LinePlace). p.call), length-map qs (λ (p : LinePlace). p.call));
      }

      -- the lines of the calls
      done_lines : (xs : List LinePlace) → ((i : ℕ) (p : LinePlace) → slice_get xs i ≡ Some p → IsPlaceOf h Done p) → flat_map (λ line. line ++ LINE_FEED ∷ []) (map done_text (map (done_at h) xs)) ≡ lines_at h xs
      done_lines [] f = refl
      done_lines (p ∷ xs) f =
          let rest = done_lines xs (λ i q e. f (suc i) q e) in
          let first : done_text (done_at h p) ++ LINE_FEED ∷ [] ≡ line_of (called h p.call) = ap (λ o. line_by (called h p.call) o ++ LINE_FEED ∷ []) (sym (done_end h p (f 0 p refl))) in
          ap (λ u. u ++ flat_map (λ line. line ++ LINE_FEED ∷ []) (map done_text (map (done_at h) xs))) first ∙ ap (λ u. line_of (called h p.call) ++ u) rest

      open_lines : (xs : List LinePlace) → ((i : ℕ) (p : LinePlace) → slice_get xs i ≡ Some p → IsPlaceOf h Open p) → flat_map (λ line. line ++ LINE_FEED ∷ []) (map open_text (map (open_at h) xs)) ≡ lines_at h xs
      open_lines [] f = refl
      open_lines (p ∷ xs) f =
          let rest = open_lines xs (λ i q e. f (suc i) q e) in
          let first : open_text (open_at h p) ++ LINE_FEED ∷ [] ≡ line_of (called h p.call) = ap (λ o. line_by (called h p.call) o ++ LINE_FEED ∷ []) (sym (runs h p (f 0 p refl)).end) in
          ap (λ u. u ++ flat_map (λ line. line ++ LINE_FEED ∷ []) (map open_text (map (open_at h) xs))) first ∙ ap (λ u. line_of (called h p.call) ++ u) rest

      text_is : (lines_at h ps ++ lines_at h qs) ++ (order_text (map judged names_are) ++ LINE_FEED ∷ []) ≡ record_text written
      text_is =
          let f : List ℕ → List ℕ = λ line. line ++ LINE_FEED ∷ [] in
          let front = flat_map-append f (map done_text done) (map open_text open_calls) in
          let all = flat_map-append f (map done_text done ++ map open_text open_calls) (order_text (map judged names_are) ∷ []) in
          sym (all ∙ (ap (λ u. u ++ flat_map f (order_text (map judged names_are) ∷ [])) (front ∙ (ap (λ u. u ++ flat_map f (map open_text open_calls)) (done_lines ps p_are.each) ∙ ap (λ u. lines_at h ps ++ u) (open_lines qs q_are.each))) ∙ ap (λ u. (lines_at h ps ++ lines_at h qs) ++ u) (append-nil (order_text (map judged names_are) ++ LINE_FEED ∷ []))))

      -- these bytes are its text
      pub whole_record : (bytes : List ℕ) → bytes ≡ (lines_at h ps ++ lines_at h qs) ++ (order_text (map judged names_are) ++ LINE_FEED ∷ []) → IsRecordAt t bytes
      whole_record bytes e = record {
        written = written;
        recorded = record { done = are_done; open_calls = are_open; names = names_are; are_names = are; one = one; order = refl };
        good = good h laws calls_listed once placed every written calls are.order are.is_order order_laws legal order_is;
        text = subst (λ b. IsRecordText b written) (sym (e ∙ text_is)) (text_is_record written is_record);
        bytes_are = e ∙ text_is;
        few = omega (arith, few, count);
      }
