-- The replies to quiet lines are those in line order, of the map of the accepted lines above them.
use Rattle.std.proofs.Common.{ℕ, true, ◌≡◌, suc, ◌<◌, ◌≤◌, ◌⊎◌, inl, inr, List, [], length, map, take, get_or, Some, refl, sym, ap, ap₂, ◌∙◌, subst, arith}
use Rattle.std.specs.List.{slice_get, range_with_len, flat_map}
use Rattle.std.specs.Option.{option_map}
use Rattle.std.proofs.lemmas.Bool.{cases_lt, cases_order, false≢true}
use Rattle.std.proofs.lemmas.List.{length-map, take-map, get_or_past}
use Rattle.std.proofs.lemmas.List.FromFn.{get_or-range_with_len, length-range_with_len}
use Rattle.std.proofs.lemmas.Option.{slice_get-map, slice_get-get_or, slice_get_within, get_or_from_slice_get}
use Rattle.kw_model.specs.Map.{Pairs, after, answer, answers, found}
use Rattle.kw_model.specs.Legal.{IsRight, is_update, may_refuse, went, went_all}
use Rattle.kw_model.specs.declared.call.Call.{Call}
use Rattle.kw_model.specs.declared.call.Call.TheVariants.{Put, Del, Get, Scan, Pin, ScanAt, Unpin}
use Rattle.kw_model.specs.declared.call.Reply.{Reply}
use Rattle.kw_model.specs.declared.call.Reply.TheVariants as reply
use Rattle.kw_model.proofs.Replies.{right_is}
use Rattle.kw_line.specs.Line.{IsCallOf}
use Rattle.kw_line.specs.Answered as form
use Rattle.kw_work.specs.declared.line.Line.{Line}
use Rattle.kw_work.specs.Lines.{quiet_lines}
use Rattle.kw_work.specs.LineOrder.{IsOrderOf, StandsBefore, IsLegalIn, call_at, reply_at, key_of, joined, calls_of, lines_before, map_in, accepted_above, KeepsKeys, HaveForms, NoneRefused, QuietRight, IsAnswered, QuietServed}
use Rattle.kw_work.proofs.LastShown.{AreAlike}
use Rattle.kw_work.proofs.Asked.{from_take, in_take, element_at, map_after, right_at, answered_at, same_value, same_map, same_range}
use Rattle.kw_work.proofs.LineOrders.{listed}
use Rattle.kw_work.proofs.LineCalls.{scan_form, update_form, update_key, went_after, refused_range}
use Rattle.kw_work.proofs.QuietBlocks.{InStillBlock, quiet_block}

-- the number at a place of numbers from 0 on
number_at : (n i u : ℕ) → slice_get (range_with_len 0 n) i ≡ Some u → (i < n) × (u ≡ i)
number_at n i u e =
    let w = length-range_with_len 0 n in
    let v = slice_get_within (range_with_len 0 n) i u e in
    let l : i < n = omega arith in
    let x = get_or_from_slice_get (range_with_len 0 n) i u 0 e in
    let y = get_or-range_with_len 0 n i 0 l in
    (l, omega arith)

-- and back
at_number : (n i : ℕ) → i < n → slice_get (range_with_len 0 n) i ≡ Some i
at_number n i l =
    let w = length-range_with_len 0 n in
    let y : get_or (range_with_len 0 n) i 0 ≡ i = get_or-range_with_len 0 n i 0 l ∙ omega arith in
    slice_get-get_or (range_with_len 0 n) i 0 (omega arith) ∙ ap Some y

module _ (blocks : List (List Line)) (rs : List Reply) (xs : List ℕ) (long : length rs ≡ length (joined blocks)) (o : IsOrderOf (length (joined blocks)) xs) (keeps : KeepsKeys blocks xs) where
  -- the lines
  abbrev lines : List Line
  lines = joined blocks

  -- how many there are
  abbrev many : ℕ
  many = length (joined blocks)

  -- what line u asks
  abbrev asks : ℕ → Call
  asks u = call_at (calls_of (joined blocks)) u

  -- what it was answered
  abbrev replies : ℕ → Reply
  replies u = reply_at rs u

  -- a line asks its call
  asked : (u : ℕ) (l : Line) → slice_get lines u ≡ Some l → asks u ≡ l.call
  asked u l e = get_or_from_slice_get (calls_of lines) u l.call _ (slice_get-map (λ (l : Line). l.call) lines u ∙ ap (option_map (λ (l : Line). l.call)) e)

  -- which is one of its form
  formed : HaveForms (joined blocks) → (u : ℕ) (l : Line) → slice_get lines u ≡ Some l → IsCallOf l.form l.call
  formed forms u l e = subst (λ (m : Line). IsCallOf m.form m.call) (get_or_from_slice_get lines u l l e) (forms u l (slice_get_within lines u l e))

  -- the reply of a number
  replied : (u : ℕ) → u < many → slice_get rs u ≡ Some (replies u)
  replied u h = slice_get-get_or rs u _ (let w = long in omega arith)

  -- past the lines nothing is asked that updates a key
  past : (u : ℕ) → many ≤ u → asks u ≡ Get 0
  past u h = get_or_past (calls_of lines) u _ (let w = length-map lines (λ (l : Line). l.call) in omega arith)

  -- where no update was refused each call leaves the map as if it was answered
  each_went : HaveForms (joined blocks) → NoneRefused (joined blocks) rs → (u : ℕ) (m : Pairs) → went m (asks u) (replies u) ≡ after m (asks u)
  each_went forms served u m = go (cases_lt u many)
    where
      go : (u < many) ⊎ (many ≤ u) → went m (asks u) (replies u) ≡ after m (asks u)
      go (inl h) =
          let l = element_at lines u h in
          subst (λ c. went m c (replies u) ≡ after m c) (sym (asked u l.0 l.1)) (went_after l.0.form l.0.call (replies u) m (formed forms u l.0 l.1) (served u l.0 (replies u) l.1 (replied u h)))
      go (inr h) = subst (λ c. went m c (replies u) ≡ after m c) (sym (past u h)) refl

  -- line u sets or takes away key k
  abbrev Updates : ℕ → ℕ → Type 0
  Updates k u = is_update k (asks u) (replies u) ≡ true

  -- it is one of the lines
  is_line : (k u : ℕ) → Updates k u → u < many
  is_line k u t = go (cases_lt u many)
    where
      go : (u < many) ⊎ (many ≤ u) → u < many
      go (inl h) = h
      go (inr h) = absurd (false≢true (subst (λ c. is_update k c (replies u) ≡ true) (past u h) t))

  -- with the key
  record IsUpdate (k u : ℕ) : Type 0 where
    line : Line
    here : slice_get lines u ≡ Some line
    key : key_of line.call ≡ Some k

  -- so is each update
  update_of : (k u : ℕ) → Updates k u → IsUpdate k u
  update_of k u t =
      let l = element_at lines u (is_line k u t) in
      record { line = l.0; here = l.1; key = update_key l.0.call k (replies u) (subst (λ c. is_update k c (replies u) ≡ true) (asked u l.0 l.1) t) }

  -- and is of the form of an update
  updating : HaveForms (joined blocks) → (k u : ℕ) (l : Line) → slice_get lines u ≡ Some l → Updates k u → form.is_update l.form ≡ true
  updating forms k u l e t = update_form l.form l.call k (replies u) (formed forms u l e) (subst (λ c. is_update k c (replies u) ≡ true) (asked u l e) t)

  -- the updates of key k stand on the same side of line i in both orders
  abbrev IsSettled : ℕ → ℕ → Type 0
  IsSettled k i = (u : ℕ) → Updates k u → (u < i → StandsBefore xs u i) × (i < u → StandsBefore xs i u)

  -- then the lines before it are alike for the key
  alike : (k i a : ℕ) → slice_get xs a ≡ Some i → IsSettled k i → AreAlike asks replies k (take a xs) (take i (range_with_len 0 many))
  alike k i a at s = record { there = there; back = back; order = order }
    where
      there : (p u : ℕ) → slice_get (take a xs) p ≡ Some u → Updates k u → (q : ℕ) × (slice_get (take i (range_with_len 0 many)) q ≡ Some u)
      there p u e t = go (cases_order u i)
        where
          w : (p < a) × (slice_get xs p ≡ Some u)
          w = from_take a p xs u e

          go : (u ≡ i) ⊎ ((u < i) ⊎ (i < u)) → (q : ℕ) × (slice_get (take i (range_with_len 0 many)) q ≡ Some u)
          go (inl same) = let b = o.once p a i (w.1 ∙ ap Some same) at in let c = w.0 in absurd (omega arith)
          go (inr (inl h)) = (u, in_take i u (range_with_len 0 many) u h (at_number many u (is_line k u t)))
          go (inr (inr h)) = let b = (s u t).1 h a p at w.1 in let c = w.0 in absurd (omega arith)

      back : (q u : ℕ) → slice_get (take i (range_with_len 0 many)) q ≡ Some u → Updates k u → (p : ℕ) × (slice_get (take a xs) p ≡ Some u)
      back q u e t =
          let w = from_take i q (range_with_len 0 many) u e in
          let v = number_at many q u w.1 in
          let p = o.every u (is_line k u t) in
          let b = (s u t).0 (omega arith) p.0 a p.1 at in
          (p.0, in_take a p.0 xs u b p.1)

      order : (c d p q u v : ℕ) → slice_get (take i (range_with_len 0 many)) c ≡ Some u → slice_get (take i (range_with_len 0 many)) d ≡ Some v → slice_get (take a xs) p ≡ Some u → slice_get (take a xs) q ≡ Some v → Updates k u → Updates k v → c < d → p < q
      order c d p q u v e f g h t r l =
          let x = number_at many c u (from_take i c (range_with_len 0 many) u e).1 in
          let y = number_at many d v (from_take i d (range_with_len 0 many) v f).1 in
          let m = update_of k u t in
          let n = update_of k v r in
          keeps.keys u v k m.line n.line (omega arith) m.here n.here m.key n.key p q (from_take a p xs u g).1 (from_take a q xs v h).1

  -- the updates of a line's own key do
  key_settled : (k i : ℕ) (l : Line) → slice_get lines i ≡ Some l → key_of l.call ≡ Some k → IsSettled k i
  key_settled k i l e f u t =
      let m = update_of k u t in
      (λ h. keeps.keys u i k m.line l h m.here e m.key f, λ h. keeps.keys i u k l m.line h e m.here f m.key)

  -- and so do all updates, for a line of a block without updates
  block_settled : HaveForms (joined blocks) → (k i : ℕ) → InStillBlock blocks i → IsSettled k i
  block_settled forms k i s u t = (λ h. go h (cases_lt u (lines_before s.block blocks)), λ h. to h (cases_lt u (lines_before (suc s.block) blocks)))
    where
      m : IsUpdate k u
      m = update_of k u t

      go : u < i → (u < lines_before s.block blocks) ⊎ (lines_before s.block blocks ≤ u) → StandsBefore xs u i
      go h (inl b) = keeps.cuts s.block u i b s.from
      go h (inr b) = absurd (false≢true (sym (s.still u m.line b (let w = s.to in omega arith) m.here) ∙ updating forms k u m.line m.here t))

      to : i < u → (u < lines_before (suc s.block) blocks) ⊎ (lines_before (suc s.block) blocks ≤ u) → StandsBefore xs i u
      to h (inl b) = absurd (false≢true (sym (s.still u m.line (let w = s.from in omega arith) b m.here) ∙ updating forms k u m.line m.here t))
      to h (inr b) = keeps.cuts (suc s.block) i u s.to b

  -- a quiet line is answered alike in both orders
  same_answer : HaveForms (joined blocks) → (i a : ℕ) (l : Line) → slice_get xs a ≡ Some i → slice_get lines i ≡ Some l → slice_get (flat_map quiet_lines blocks) i ≡ Some true → (c : Call) → l.call ≡ c
      → answer (map_after asks replies [] (take a xs)) c ≡ answer (map_after asks replies [] (take i (range_with_len 0 many))) c
  same_answer forms i a l at e q (Put k v) is = refl
  same_answer forms i a l at e q (Del k) is = refl
  same_answer forms i a l at e q (Get k) is =
      ap found (same_value asks replies k (take a xs) (take i (range_with_len 0 many)) (alike k i a at (key_settled k i l e (ap key_of is))))
  same_answer forms i a l at e q (Scan b c) is =
      let r = scan_form l.form b c (subst (IsCallOf l.form) is (formed forms i l e)) in
      let s = quiet_block blocks i l e q r in
      ap reply.Pairs (same_range asks replies b c (take a xs) (take i (range_with_len 0 many)) (λ k. alike k i a at (block_settled forms k i s)))
  same_answer forms i a l at e q Pin is = refl
  same_answer forms i a l at e q (ScanAt b c) is = refl
  same_answer forms i a l at e q Unpin is = refl

  -- the reply to a line is right where the line stands
  right_reply : IsLegalIn (calls_of lines) rs xs → (i a : ℕ) (l : Line) (r : Reply) → slice_get xs a ≡ Some i → slice_get lines i ≡ Some l → slice_get rs i ≡ Some r → IsRight (map_after asks replies [] (take a xs)) l.call r
  right_reply legal i a l r at e f =
      subst (λ s. IsRight (map_after asks replies [] (take a xs)) l.call s) (get_or_from_slice_get rs i r _ f)
      (subst (λ c. IsRight (map_after asks replies [] (take a xs)) c (replies i)) (asked i l e) (right_at asks replies [] xs a i legal at))

  -- in line order all lines ask their calls
  asked_all : map asks (range_with_len 0 many) ≡ calls_of lines
  asked_all =
      let n : length (calls_of lines) ≡ many = length-map lines (λ (l : Line). l.call) in
      ap (λ n. map asks (range_with_len 0 n)) (sym n) ∙ listed (calls_of lines) _

  -- and have their replies
  replied_all : map replies (range_with_len 0 many) ≡ rs
  replied_all = ap (λ n. map replies (range_with_len 0 n)) (sym long) ∙ listed rs _

  -- the map after the first lines in line order is that of those that were accepted
  accepted_first : (i : ℕ) → map_after asks replies [] (take i (range_with_len 0 many)) ≡ accepted_above (calls_of lines) rs i
  accepted_first i =
      ap₂ (went_all []) (sym (take-map asks i (range_with_len 0 many)) ∙ ap (take i) asked_all) (sym (take-map replies i (range_with_len 0 many)) ∙ ap (take i) replied_all)

  -- all lines are alike for each key in both orders
  alike_all : (k : ℕ) → AreAlike asks replies k xs (range_with_len 0 many)
  alike_all k = record {
    there = λ p u e t. (u, at_number many u (is_line k u t));
    back = λ q u e t. o.every u (is_line k u t);
    order = λ c d p q u v e f g h t r l.
        let x = number_at many c u e in
        let y = number_at many d v f in
        let m = update_of k u t in
        let n = update_of k v r in
        keeps.keys u v k m.line n.line (omega arith) m.here n.here m.key n.key p q g h;
  }

  -- so they leave the map of the accepted lines
  pub accepted_whole : map_in (calls_of (joined blocks)) rs xs ≡ went_all [] (calls_of (joined blocks)) rs
  accepted_whole =
      same_map asks replies xs (range_with_len 0 many) alike_all ∙ ap₂ (went_all []) asked_all replied_all

  -- a quiet line is answered of the map of the accepted lines above it
  pub quiet_right : HaveForms (joined blocks) → IsLegalIn (calls_of (joined blocks)) rs xs → QuietRight blocks rs
  quiet_right forms legal i l r e f q = (right_is (accepted_above (calls_of lines) rs i) l.call r).1 (go ((right_is (map_after asks replies [] (take a.0 xs)) l.call r).0 (right_reply legal i a.0 l r a.1 e f)))
    where
      a : (a : ℕ) × (slice_get xs a ≡ Some i)
      a = o.every i (slice_get_within lines i l e)

      go : (r ≡ answer (map_after asks replies [] (take a.0 xs)) l.call) ⊎ (may_refuse l.call r ≡ true) → (r ≡ answer (accepted_above (calls_of lines) rs i) l.call) ⊎ (may_refuse l.call r ≡ true)
      go (inl h) = inl (h ∙ same_answer forms i a.0 l a.1 e q l.call refl ∙ ap (λ m. answer m l.call) (accepted_first i))
      go (inr h) = inr h

  -- what the map answers in line order
  in_line_order : HaveForms (joined blocks) → NoneRefused (joined blocks) rs → (i : ℕ) → i < many → slice_get (answers [] (calls_of lines)) i ≡ Some (answer (map_after asks replies [] (take i (range_with_len 0 many))) (asks i))
  in_line_order forms served i l =
      subst (λ cs. slice_get (answers [] cs) i ≡ Some (answer (map_after asks replies [] (take i (range_with_len 0 many))) (asks i))) asked_all
      (answered_at asks replies [] (range_with_len 0 many) i i (each_went forms served) (at_number many i l))

  -- the replies to quiet lines are those in line order
  pub quiet_answered : HaveForms (joined blocks) → NoneRefused (joined blocks) rs → IsLegalIn (calls_of (joined blocks)) rs xs → QuietServed blocks rs
  quiet_answered forms served legal i l r e f q = go ((right_is (map_after asks replies [] (take a.0 xs)) l.call r).0 (right_reply legal i a.0 l r a.1 e f))
    where
      inside : i < many
      inside = slice_get_within lines i l e

      a : (a : ℕ) × (slice_get xs a ≡ Some i)
      a = o.every i (slice_get_within lines i l e)

      go : (r ≡ answer (map_after asks replies [] (take a.0 xs)) l.call) ⊎ (may_refuse l.call r ≡ true) → IsAnswered l r (slice_get (answers [] (calls_of lines)) i)
      go (inl h) = inl (in_line_order forms served i inside ∙ ap Some (ap (answer (map_after asks replies [] (take i (range_with_len 0 many)))) (asked i l e) ∙ sym (h ∙ same_answer forms i a.0 l a.1 e q l.call refl)))
      go (inr h) = inr (refused_range l.form l.call r (formed forms i l e) (served i l r e f) h, h)
