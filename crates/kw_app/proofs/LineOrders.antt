-- The order of the calls of a run, read as an order of the lines.
use Rattle.std.proofs.Common.{ℕ, ◌≡◌, ◌≢◌, ◌<◌, ◌≤◌, ◌⊎◌, inl, inr, true, List, [], ◌++◌, length, map, take, drop, get_or, All, Option, Some, None, refl, sym, ap, ◌∙◌, subst, arith}
use Rattle.std.specs.List.{slice_get}
use Rattle.std.specs.Option.{option_map}
use Rattle.std.proofs.lemmas.Bool.{cases_lt}
use Rattle.std.proofs.lemmas.List.{take-append-drop, take_at, take_all, length-map}
use Rattle.std.proofs.lemmas.List.Concat.{flat_map-append}
use Rattle.std.proofs.lemmas.Option.{same_Some, slice_get-map, slice_get_within, get_or_from_slice_get}
use Rattle.kw_words.specs.declared.sizes.TheConstants.{SPENT}
use Rattle.kw_model.specs.declared.call.Call.TheVariants.{Scan}
use Rattle.kw_model.specs.declared.call.Reply.{Reply}
use Rattle.kw_model.specs.declared.call.Reply.TheVariants as reply
use Rattle.kw_model.specs.Map.{Pairs}
use Rattle.kw_world.specs.declared.event.Event.{Event}
use Rattle.kw_world.specs.declared.opening.Opening.{Opening}
use Rattle.kw_world.specs.Opening.{IsOpening}
use Rattle.kw_world.specs.Sizes.{product}
use Rattle.kw_core.specs.declared.history.End.{End}
use Rattle.kw_core.specs.History.{History, called}
use Rattle.kw_core.specs.HistoryLaws.{EndsWith, HistoryLaws}
use Rattle.kw_core.specs.Events.{is_valid}
use Rattle.kw_core.specs.Run.{history}
use Rattle.kw_laws.specs.Clocks.{IsBehindScan, IsScan}
use Rattle.kw_laws.specs.SeatCalls.{CallSeen, seen}
use Rattle.kw_laws.proofs.Clocks.{refusals_hold}
use Rattle.kw_laws.proofs.LawProofs.{laws_hold}
use Rattle.kw_map.specs.Refusals.{HasReason}
use Rattle.kw_order.specs.Order.{IsOrder}
use Rattle.kw_order.specs.OrderLaws.{OrderLaws}
use Rattle.kw_order.specs.Legal.{call_of}
use Rattle.kw_order.specs.Legal as order
use Rattle.kw_order.specs.SeatOrder.{IsTurn, AllEnded}
use Rattle.kw_order.proofs.MapOrders.{order_of_map}
use Rattle.kw_order.proofs.OneOrder.{order_exists, order_unique}
use Rattle.kw_order.proofs.OrderProofs.{order_has_laws}
use Rattle.kw_order.proofs.SeatOrders.{name_of, one_turn, seen_turn, turn_of, turn_apart, placed_within, all_placed, turns_kept}
use Rattle.kw_work.specs.declared.line.Line.{Line}
use Rattle.kw_work.specs.Dealing.{worker_of, part}
use Rattle.kw_work.specs.LineOrder.{IsOrderOf, StandsBefore, IsLegalIn, AreOfLines, calls_of, joined, lines_before, KeepsBlocks}
use Rattle.kw_work.proofs.Asked.{element_at}
use Rattle.kw_work.proofs.Collected.{map-merge}
use Rattle.kw_work.proofs.MadeCalls.{lines_in_order, lines_legal, lines_before_by}
use Rattle.kw_app.specs.Recorded.{asked, asks, AreReplies, EndsBefore, IsWithin, no_call, recorded, reply_at, reply_of, seat_calls}
use Rattle.kw_app.specs.Running.{AreInBlocks}
use Rattle.kw_app.specs.Headline.{HasTops, IsOrderOfCalls, KeepsPrecedence, line_calls}
use Rattle.kw_app.proofs.Merging.{length-merge}
use Rattle.kw_app.proofs.LineOrdersPlaces.{across, own_before, in_part, share_of, own_before_more, own_before_once, own_before_grows, merged_at}

-- another line than line i made a scan
pub record HasOtherScan (made : List CallSeen) (i : ℕ) : Type 0 where
  pub place : ℕ
  pub apart : place ≢ i
  pub call : CallSeen
  pub here : slice_get made place ≡ Some call
  pub scans : IsScan call.call

-- what has ended before a place has ended
pub has_end : (n : ℕ) (e : Option End) → EndsBefore n e → (d : End) × (e ≡ Some d) × (d.at < n)
has_end n None h = absurd h
has_end n (Some d) h = (d, refl, h)

-- the first blocks have the first lines
joined_front : (k : ℕ) (blocks : List (List Line)) → take (lines_before k blocks) (joined blocks) ≡ joined (take k blocks)
joined_front k blocks =
    let whole : joined blocks ≡ joined (take k blocks) ++ joined (drop k blocks) = ap joined (sym (take-append-drop k blocks)) ∙ flat_map-append (λ b. b) (take k blocks) (drop k blocks) in
    ap (take (lines_before k blocks)) whole ∙ take_at (joined (take k blocks)) (joined (drop k blocks)) (lines_before k blocks) refl

-- A list of events in which each seat has just the calls of its lines, and all have ended.

module _ (o : Opening) (E : List Event) (lines : List Line) (opening : IsOpening product o) (ok : is_valid product o E ≡ true)
    (asks_are : (w : ℕ) → w < o.seats → asked (seat_calls o E w) ≡ asks (part o.seats w lines)) (ended : (w : ℕ) → w < o.seats → All (IsWithin 0 (length E)) (seat_calls o E w)) where
  -- what happened
  abbrev h : History
  h = (history product o E).history

  -- call x of the record is that of line i
  pub record IsLineOf (i x : ℕ) : Type 0 where
    pub line : Line
    pub here : slice_get lines i ≡ Some line
    pub turn : IsTurn h (worker_of o.seats line) (own_before o.seats (worker_of o.seats line) lines i) x

  -- the worker of a line is one of the seats
  seated : (l : Line) → worker_of o.seats l < o.seats
  seated l = let some = opening.some_seats in omega arith

  -- each line has its call
  call_named : (i : ℕ) (l : Line) → slice_get lines i ≡ Some l → (x : ℕ) × IsLineOf i x
  call_named i l e =
      let w : ℕ = worker_of o.seats l in
      let k : ℕ = own_before o.seats w lines i in
      let c = across (λ (c : CallSeen). c.call) (λ (m : Line). m.call) (seat_calls o E w) (part o.seats w lines) k l (asks_are w (seated l)) (in_part o.seats i lines l e) in
      let n = name_of product o E w k c.0 c.1 in
      (n.place, record { line = l; here = e; turn = n.turn })

  -- and each call its line
  line_named : (x : ℕ) → x < length h.calls → (i : ℕ) × IsLineOf i x
  line_named x lt =
      let t = turn_of product o E opening ok x lt in
      let l = across (λ (m : Line). m.call) (λ (c : CallSeen). c.call) (part o.seats t.0 lines) (seat_calls o E t.0) t.1 (seen (called h x)) (sym (asks_are t.0 t.2)) (seen_turn product o E t.0 t.1 x t.3) in
      let s = share_of o.seats t.0 t.1 lines l.0 l.1 in
      let moved : IsTurn h t.0 (own_before o.seats t.0 lines s.place) x = subst (λ k. IsTurn h t.0 k x) (sym s.before) t.3 in
      (s.place, record { line = l.0; here = s.here; turn = subst (λ w. IsTurn h w (own_before o.seats w lines s.place) x) (sym s.worker) moved })

  -- a call has one line
  one_line : (i j x : ℕ) → IsLineOf i x → IsLineOf j x → i ≡ j
  one_line i j x a b =
      let w : ℕ = worker_of o.seats a.line in
      let v : ℕ = worker_of o.seats b.line in
      let both = turn_apart h w v (own_before o.seats w lines i) (own_before o.seats v lines j) x a.turn b.turn in
      own_before_once o.seats w i j lines a.line b.line a.here b.here refl (sym both.0) (both.1 ∙ ap (λ u. own_before o.seats u lines j) (sym both.0))

  -- and a line has one call
  one_call : (i x y : ℕ) → IsLineOf i x → IsLineOf i y → x ≡ y
  one_call i x y a b =
      let same : b.line ≡ a.line = same_Some b.line a.line (sym b.here ∙ a.here) in
      let w : ℕ = worker_of o.seats a.line in
      one_turn h w (own_before o.seats w lines i) x y a.turn (subst (λ (l : Line). IsTurn h (worker_of o.seats l) (own_before o.seats (worker_of o.seats l) lines i) y) same b.turn)

  -- what is seen of the call of a line
  seen_here : (i x : ℕ) (a : IsLineOf i x) → slice_get (seat_calls o E (worker_of o.seats a.line)) (own_before o.seats (worker_of o.seats a.line) lines i) ≡ Some (seen (called h x))
  seen_here i x a = seen_turn product o E (worker_of o.seats a.line) (own_before o.seats (worker_of o.seats a.line) lines i) x a.turn

  -- it is the call of the line in line order
  made_here : (i x : ℕ) → IsLineOf i x → slice_get (line_calls o E lines) i ≡ Some (seen (called h x))
  made_here i x a =
      let w : ℕ = worker_of o.seats a.line in
      let k : ℕ = own_before o.seats w lines i in
      merged_at o.seats (seat_calls o E) no_call lines i a.line a.here ∙ ap Some (get_or_from_slice_get (seat_calls o E w) k (seen (called h x)) no_call (seen_here i x a))

  -- the line asks what it asks
  asks_here : (i x : ℕ) → IsLineOf i x → slice_get (calls_of lines) i ≡ Some (call_of h x)
  asks_here i x a =
      let w : ℕ = worker_of o.seats a.line in
      let k : ℕ = own_before o.seats w lines i in
      let l = across (λ (m : Line). m.call) (λ (c : CallSeen). c.call) (part o.seats w lines) (seat_calls o E w) k (seen (called h x)) (sym (asks_are w (seated a.line))) (seen_here i x a) in
      let same : l.0 ≡ a.line = same_Some l.0 a.line (sym l.1 ∙ in_part o.seats i lines a.line a.here) in
      slice_get-map (λ (m : Line). m.call) lines i ∙ (ap (option_map (λ (m : Line). m.call)) a.here ∙ (ap (λ (m : Line). Some m.call) (sym same) ∙ ap Some l.2))

  -- each call of a seat lies within the list
  within : (w k : ℕ) (c : CallSeen) → w < o.seats → slice_get (seat_calls o E w) k ≡ Some c → IsWithin 0 (length E) c
  within w k c lt e = subst (λ (d : CallSeen). IsWithin 0 (length E) d) (get_or_from_slice_get (seat_calls o E w) k c c e) (ended w lt k c (slice_get_within (seat_calls o E w) k c e))

  -- so do the lines' calls
  pub all_within : All (IsWithin 0 (length E)) (line_calls o E lines)
  all_within i d lt =
      let l = element_at lines i (let w = length-merge o.seats (seat_calls o E) no_call [] lines in omega arith) in
      let x = call_named i l.0 l.1 in
      subst (λ (c : CallSeen). IsWithin 0 (length E) c) (sym (get_or_from_slice_get (line_calls o E lines) i (seen (called h x.0)) d (made_here i x.0 x.1)))
      (within (worker_of o.seats x.1.line) (own_before o.seats (worker_of o.seats x.1.line) lines i) (seen (called h x.0)) (seated x.1.line) (seen_here i x.0 x.1))

  -- and ask what the lines ask
  pub all_asked : asked (line_calls o E lines) ≡ calls_of lines
  all_asked = map-merge (λ (c : CallSeen). c.call) (λ (m : Line). m.call) o.seats (seat_calls o E) no_call [] lines (let some = opening.some_seats in omega arith) asks_are

  -- the call of a line that was refused has its reason, where each seat's calls have
  pub line_caused : ((w : ℕ) → w < o.seats → All (HasReason o E w) (seat_calls o E w)) → (i : ℕ) (l : Line) (c : CallSeen) → slice_get lines i ≡ Some l → slice_get (line_calls o E lines) i ≡ Some c → HasReason o E (worker_of o.seats l) c
  line_caused causes i l c e f =
      let w : ℕ = worker_of o.seats l in
      let k : ℕ = own_before o.seats w lines i in
      let d = across (λ (c : CallSeen). c.call) (λ (m : Line). m.call) (seat_calls o E w) (part o.seats w lines) k l (asks_are w (seated l)) (in_part o.seats i lines l e) in
      subst (HasReason o E w) (same_Some (get_or (seat_calls o E w) k no_call) c (sym (merged_at o.seats (seat_calls o E) no_call lines i l e) ∙ f))
      (causes w (seated l) k no_call (slice_get_within (seat_calls o E w) k d.0 d.1))

  -- the call of a line has a reply that the line may have, where each seat's calls have
  pub line_replied : ((w : ℕ) → w < o.seats → AreReplies (part o.seats w lines) (seat_calls o E w)) → AreReplies lines (line_calls o E lines)
  line_replied replied i l c e f =
      let w : ℕ = worker_of o.seats l in
      let k : ℕ = own_before o.seats w lines i in
      let here = in_part o.seats i lines l e in
      let d = across (λ (c : CallSeen). c.call) (λ (m : Line). m.call) (seat_calls o E w) (part o.seats w lines) k l (asks_are w (seated l)) here in
      let at : get_or (seat_calls o E w) k no_call ≡ c = same_Some (get_or (seat_calls o E w) k no_call) c (sym (merged_at o.seats (seat_calls o E) no_call lines i l e) ∙ f) in
      replied w (seated l) k l c here (d.1 ∙ ap Some (sym (get_or_from_slice_get (seat_calls o E w) k d.0 no_call d.1) ∙ at))

  -- all calls have ended
  all_ended : AllEnded product o E
  all_ended s k c lt e = let d = has_end (length E) c.end (within s k c lt e).ends in (d.0, d.1)

  -- and its reply is recorded for the line
  replies_here : (i x : ℕ) → IsLineOf i x → slice_get (recorded o.seats (seat_calls o E) lines) i ≡ Some (order.reply_of h x)
  replies_here i x a =
      let e = all_ended (worker_of o.seats a.line) (own_before o.seats (worker_of o.seats a.line) lines i) (seen (called h x)) (seated a.line) (seen_here i x a) in
      slice_get-map reply_of (line_calls o E lines) i ∙ (ap (option_map reply_of) (made_here i x a) ∙ ap Some (ap reply_at e.1 ∙ sym (ap order.reply_or_done e.1)))

  -- a line whose scan was refused stands beside another one, unless the clock began at its bound
  pub scan_beside : (i from upto at : ℕ) (c : CallSeen) → slice_get (line_calls o E lines) i ≡ Some c → c.call ≡ Scan from upto → c.end ≡ Some (record { at = at; reply = reply.Spent }) → (SPENT ≤ o.clock) ⊎ HasOtherScan (line_calls o E lines) i
  scan_beside i from upto at c e asks ends =
      let l = element_at lines i (let w = length-merge o.seats (seat_calls o E) no_call [] lines in let inside = slice_get_within (line_calls o E lines) i c e in omega arith) in
      let x = call_named i l.0 l.1 in
      let same : c ≡ seen (called h x.0) = same_Some c (seen (called h x.0)) (sym e ∙ made_here i x.0 x.1) in
      which x.0 x.1 (refusals_hold product o opening E ok x.0 from upto at x.1.turn.within (ap (λ (d : CallSeen). d.call) (sym same) ∙ asks, ap (λ (d : CallSeen). d.end) (sym same) ∙ ends))
    where
      which : (x : ℕ) → IsLineOf i x → (SPENT ≤ o.clock) ⊎ IsBehindScan h x at → (SPENT ≤ o.clock) ⊎ HasOtherScan (line_calls o E lines) i
      which x a (inl high) = inl high
      which x a (inr b) =
          let n = line_named b.other b.within in
          inr (record {
            place = n.0;
            apart = λ q. b.apart (one_call i b.other x (subst (λ j. IsLineOf j b.other) q n.1) a);
            call = seen (called h b.other);
            here = made_here n.0 b.other n.1;
            scans = b.scans;
          })

  -- the line of each call of the record
  pick : (x : ℕ) → (x < length h.calls) ⊎ (length h.calls ≤ x) → ℕ
  pick x (inl lt) = (line_named x lt).0
  pick x (inr past) = 0

  pub line_of : ℕ → ℕ
  line_of x = pick x (cases_lt x (length h.calls))

  line_here : (x : ℕ) → x < length h.calls → IsLineOf (line_of x) x
  unfolding line_of pick
  line_here x lt = go (cases_lt x (length h.calls))
    where
      go : (w : (x < length h.calls) ⊎ (length h.calls ≤ x)) → IsLineOf (pick x w) x
      go (inl l) = (line_named x l).1
      go (inr past) = absurd (omega arith)

  -- The lines in the order of their calls.

  module _ (ys : List ℕ) (is_order : IsOrder h ys) (laws : OrderLaws h ys) where
    -- each call that stands there is that of its line
    placed : (a x : ℕ) → slice_get ys a ≡ Some x → IsLineOf (line_of x) x
    placed a x e = line_here x (placed_within h x (is_order.placed a x e))

    -- the calls are those of the lines
    pub of_lines : AreOfLines (calls_of lines) (recorded o.seats (seat_calls o E) lines) (call_of h) (order.reply_of h) line_of ys
    of_lines = record {
      every = every;
      once = λ a b x y e f same. laws.once a b y (e ∙ ap Some (one_call (line_of y) x y (subst (λ i. IsLineOf i x) same (placed a x e)) (placed b y f))) f;
      calls = λ a x e. asks_here (line_of x) x (placed a x e);
      replies = λ a x e. replies_here (line_of x) x (placed a x e);
    }
      where
        every : (i : ℕ) → i < length (calls_of lines) → (a : ℕ) × (x : ℕ) × (slice_get ys a ≡ Some x) × (line_of x ≡ i)
        every i lt =
            let l = element_at lines i (let w = length-map lines (λ (m : Line). m.call) in omega arith) in
            let x = call_named i l.0 l.1 in
            let a = is_order.every x.0 (all_placed product o E opening ok all_ended x.0 x.1.turn.within) in
            (a.0, x.0, a.1, one_line (line_of x.0) i x.0 (line_here x.0 x.1.turn.within) x.1)

    -- the pairs of a scan are those of the tops at its version
    has_tops : HistoryLaws h → (x from upto at : ℕ) (pairs : Pairs) → EndsWith h x (Scan from upto) at (reply.Pairs pairs) → HasTops h x from upto pairs
    has_tops history x from upto at pairs ends =
        let s = history.scanned x from upto at pairs ends in
        record { drawn = s.draw; draw = s.drawn; tops = laws.tops x from upto at pairs s.draw ends s.drawn; no_others = laws.no_others x from upto at pairs ends }

    -- the lines stand as their calls do
    pub of_calls : HistoryLaws h → IsOrderOfCalls o E (line_calls o E lines) (map line_of ys)
    of_calls history = record {
      places = ys;
      is_order = is_order;
      only = λ xs other. order_unique h history xs ys other is_order;
      as_many = length-map ys line_of;
      made_by = λ a i x e f.
          let same : line_of x ≡ i = same_Some (line_of x) i (sym (slice_get-map line_of ys a ∙ ap (option_map line_of) f) ∙ e) in
          subst (λ k. slice_get (line_calls o E lines) k ≡ Some (seen (called h x))) same (made_here (line_of x) x (placed a x f));
      scans = λ a x from upto at pairs e ends. has_tops history x from upto at pairs ends;
    }

    -- where the call of line i has ended before that of line j began, it stands before it
    stand_apart : (i j : ℕ) → ((x y : ℕ) → IsLineOf i x → IsLineOf j y → EndsBefore (called h y).first (called h x).end) → StandsBefore (map line_of ys) i j
    stand_apart i j early = lines_before_by line_of ys i j (λ a b x y e f p q. before a b x y e f (early x y (subst (λ k. IsLineOf k x) p (placed a x e)) (subst (λ k. IsLineOf k y) q (placed b y f))))
      where
        before : (a b x y : ℕ) → slice_get ys a ≡ Some x → slice_get ys b ≡ Some y → EndsBefore (called h y).first (called h x).end → a < b
        before a b x y e f ends = let d = has_end (called h y).first (called h x).end ends in laws.precedes x y a b d.0 e f d.1 d.2

    -- so the order keeps what came before what
    pub precedence_kept : KeepsPrecedence (line_calls o E lines) (map line_of ys)
    precedence_kept i j c d e f early = stand_apart i j (λ x y p q.
        let s : c ≡ seen (called h x) = same_Some c (seen (called h x)) (sym e ∙ made_here i x p) in
        let t : d ≡ seen (called h y) = same_Some d (seen (called h y)) (sym f ∙ made_here j y q) in
        subst (λ (r : CallSeen). EndsBefore (called h y).first r.end) s (subst (λ (r : CallSeen). EndsBefore r.first c.end) t early))

    -- and the lines of one worker
    pub shares_kept : (i j : ℕ) (l m : Line) → i < j → slice_get lines i ≡ Some l → slice_get lines j ≡ Some m → worker_of o.seats l ≡ worker_of o.seats m → StandsBefore (map line_of ys) i j
    shares_kept i j l m lt e f same = lines_before_by line_of ys i j (λ a b x y g k p q. stands a b x y g k (subst (λ i. IsLineOf i x) p (placed a x g)) (subst (λ j. IsLineOf j y) q (placed b y k)))
      where
        stands : (a b x y : ℕ) → slice_get ys a ≡ Some x → slice_get ys b ≡ Some y → IsLineOf i x → IsLineOf j y → a < b
        stands a b x y g k p q =
            let s : worker_of o.seats p.line ≡ worker_of o.seats l = ap (worker_of o.seats) (same_Some p.line l (sym p.here ∙ e)) in
            let t : worker_of o.seats q.line ≡ worker_of o.seats l = ap (worker_of o.seats) (same_Some q.line m (sym q.here ∙ f)) ∙ sym same in
            let w : ℕ = worker_of o.seats l in
            turns_kept product o E opening ok ys is_order w (own_before o.seats w lines i) (own_before o.seats w lines j) x y a b (seated l) (own_before_more o.seats w i j lines l lt e refl)
            (subst (λ v. IsTurn h v (own_before o.seats v lines i) x) s p.turn) (subst (λ v. IsTurn h v (own_before o.seats v lines j) y) t q.turn) g k

    -- and the blocks
    pub blocks_kept : (blocks : List (List Line)) → joined blocks ≡ lines → AreInBlocks o o.seats blocks E → KeepsBlocks blocks (map line_of ys)
    blocks_kept blocks is apart k i j early late = stand_apart i j (λ x y p q. go x y p q (cases_lt (length blocks) k))
      where
        front : take (lines_before k blocks) lines ≡ joined (take k blocks)
        front = ap (take (lines_before k blocks)) (sym is) ∙ joined_front k blocks

        go : (x y : ℕ) → IsLineOf i x → IsLineOf j y → (length blocks < k) ⊎ (k ≤ length blocks) → EndsBefore (called h y).first (called h x).end
        go x y p q (inl past) =
            let all : lines_before k blocks ≡ length lines = ap (λ q. length (joined q)) (take_all k blocks (omega arith)) ∙ ap length is in
            let inside = slice_get_within lines j q.line q.here in
            absurd (omega arith)
        go x y p q (inr le) =
            let v : ℕ = worker_of o.seats p.line in
            let w : ℕ = worker_of o.seats q.line in
            let s : ℕ = own_before o.seats v lines i in
            let t : ℕ = own_before o.seats w lines j in
            let c : CallSeen = seen (called h x) in
            let d : CallSeen = seen (called h y) in
            let first : s < length (part o.seats v (joined (take k blocks))) = subst (λ qs. s < length (part o.seats v qs)) front (own_before_more o.seats v i (lines_before k blocks) lines p.line early p.here refl) in
            let last : length (part o.seats w (joined (take k blocks))) ≤ t = subst (λ qs. length (part o.seats w qs) ≤ t) front (own_before_grows o.seats w (lines_before k blocks) j lines late) in
            let m = seen_here i x p in
            let n = seen_here j y q in
            let ends = apart k v w s t c d le (seated p.line) (seated q.line) first (slice_get_within (seat_calls o E v) s c m) last (slice_get_within (seat_calls o E w) t d n) in
            subst (λ (r : CallSeen). EndsBefore d.first r.end) (get_or_from_slice_get (seat_calls o E v) s c c m)
            (subst (λ (r : CallSeen). EndsBefore r.first (get_or (seat_calls o E v) s c).end) (get_or_from_slice_get (seat_calls o E w) t d d n) ends)

  -- an order of the lines in which their replies are right, and which keeps what came before what
  pub record AreOrdered (blocks : List (List Line)) : Type 0 where
    pub asks_all : asked (line_calls o E lines) ≡ calls_of lines
    pub ended_all : All (IsWithin 0 (length E)) (line_calls o E lines)
    pub numbers : List ℕ
    pub order : IsOrderOf (length (calls_of lines)) numbers
    pub of_calls : IsOrderOfCalls o E (line_calls o E lines) numbers
    pub legal : IsLegalIn (calls_of lines) (recorded o.seats (seat_calls o E) lines) numbers
    pub precedence : KeepsPrecedence (line_calls o E lines) numbers
    pub shares : (i j : ℕ) (l m : Line) → i < j → slice_get lines i ≡ Some l → slice_get lines j ≡ Some m → worker_of o.seats l ≡ worker_of o.seats m → StandsBefore numbers i j
    pub cuts : KeepsBlocks blocks numbers

  -- there is one: that of the calls
  pub lines_ordered : (blocks : List (List Line)) → joined blocks ≡ lines → AreInBlocks o o.seats blocks E → AreOrdered blocks
  lines_ordered blocks is apart =
      let laws = (laws_hold product o opening E ok).history in
      let ys = order_exists h laws in
      let of_order = order_has_laws h laws ys.0 ys.1 in
      let calls = of_lines ys.0 ys.1 of_order in
      let rs : List Reply = recorded o.seats (seat_calls o E) lines in
      record {
        asks_all = all_asked;
        ended_all = all_within;
        numbers = map line_of ys.0;
        order = lines_in_order (calls_of lines) rs (call_of h) (order.reply_of h) line_of ys.0 calls;
        of_calls = of_calls ys.0 ys.1 of_order laws;
        legal = lines_legal (calls_of lines) rs (call_of h) (order.reply_of h) line_of ys.0 calls (order_of_map h laws ys.0 ys.1);
        precedence = precedence_kept ys.0 ys.1 of_order;
        shares = shares_kept ys.0 ys.1 of_order;
        cuts = blocks_kept ys.0 ys.1 of_order blocks is apart;
      }
