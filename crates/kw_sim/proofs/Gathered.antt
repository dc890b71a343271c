-- The calls of a section: gathered one by one, and sorted by what their lines stand by.
use Rattle.std.proofs.Common.{ℕ, zero, suc, ◌≡◌, ◌≢◌, ◌+◌, ◌-◌, ◌<◌, ◌≤◌, ◌⊎◌, inl, inr, Bool, true, false, cond, is_some, List, [], ◌∷◌, ◌++◌, Some, None, arith, refl, sym, ap, subst, ◌∙◌, nat_cmp, is_lt, get_or, slice_get, length, length-append, take, filter, IsPermutation, Contains, map, append_assoc}
use Rattle.std.specs.Ordering.{ordering_then}
use Rattle.std.proofs.lemmas.Bool.{cases_lt, cases_eq}
use Rattle.std.proofs.lemmas.Option.{slice_get_within, get_or_from_slice_get, slice_get-get_or}
use Rattle.std.proofs.lemmas.List.{get_or_past, take_all, take_more, append-nil}
use Rattle.std.proofs.lemmas.List.Concat.{flat_map-append}
use Rattle.std.proofs.lemmas.List.Filters.{length-filter_more}
use Rattle.std.proofs.lemmas.List.Sorted.{All-permutation, Contains-permutation, length_permutation}
use Rattle.kw_core.specs.History.{History, called, no_call}
use Rattle.kw_core.specs.declared.history.CallLog.{CallLog}
use Rattle.kw_laws.proofs.Occurs.{get_old, get_was, get_last}
use Rattle.kw_line.specs.declared.words.TheConstants.{LINE_FEED}
use Rattle.kw_judge.specs.declared.record.Name.{Name}
use Rattle.kw_judge.specs.Texts.{order_text}
use Rattle.kw_order.specs.declared.points.CallName.{CallName}
use Rattle.kw_order.proofs.Lexicographic.{first_not_less, last_from}
use Rattle.kw_order.proofs.SortedPuts.{apart_moved}
use Rattle.kw_sim.specs.declared.recording.LinePlace.{LinePlace}
use Rattle.kw_sim.specs.declared.recording.Section.{Section}
use Rattle.kw_sim.specs.declared.recording.Section.TheVariants.{Done, Open}
use Rattle.kw_sim.specs.Printed.{judged}
use Rattle.kw_sim.specs.Sections.{stands_at, IsPlaceOf, ArePlacesBelow, ArePlaces, line_of, lines_at}

-- the first call is yet to be looked at
pub places_none : (h : History) (s : Section) → ArePlacesBelow h s 0 []
places_none h s = record {
  each = λ i p e. cc;
  below = λ i p e. cc;
  every = λ p l e. absurd (omega arith);
  rises = λ i j p q l e f. cc;
  count = refl;
}

-- what the test of a call counts
count_more : (h : History) (s : Section) (n : ℕ) (b : Bool) → n < length h.calls → is_some (stands_at s (called h n)) ≡ b → length (filter (λ (c : CallLog). is_some (stands_at s c)) (take (n + 1) h.calls)) ≡ length (filter (λ (c : CallLog). is_some (stands_at s c)) (take n h.calls)) + cond b 1 0
unfolding called
count_more h s n b l e = length-filter_more (λ (c : CallLog). is_some (stands_at s c)) h.calls n no_call l ∙ ap (λ t. length (filter (λ (c : CallLog). is_some (stands_at s c)) (take n h.calls)) + cond t 1 0) e

-- one more call has a line
pub places_more : (h : History) (s : Section) (n : ℕ) (ps : List LinePlace) (p : LinePlace) → n < length h.calls → ArePlacesBelow h s n ps → IsPlaceOf h s p → p.call ≡ n → ArePlacesBelow h s (n + 1) (ps ++ p ∷ [])
places_more h s n ps p l c is at = record { each = each; below = below; every = every; rises = rises; count = count }
  where
    each : (i : ℕ) (q : LinePlace) → slice_get (ps ++ p ∷ []) i ≡ Some q → IsPlaceOf h s q
    each i q e = which (get_was ps p i q e)
      where
        which : (slice_get ps i ≡ Some q) ⊎ ((i ≡ length ps) × (p ≡ q)) → IsPlaceOf h s q
        which (inl f) = c.each i q f
        which (inr f) = subst (IsPlaceOf h s) f.1 is

    below : (i : ℕ) (q : LinePlace) → slice_get (ps ++ p ∷ []) i ≡ Some q → q.call < n + 1
    below i q e = which (get_was ps p i q e)
      where
        which : (slice_get ps i ≡ Some q) ⊎ ((i ≡ length ps) × (p ≡ q)) → q.call < n + 1
        which (inl f) = omega (arith, c.below i q f)
        which (inr f) = omega (arith, at, ap (λ (x : LinePlace). x.call) f.1)

    every : (q : LinePlace) → q.call < n + 1 → IsPlaceOf h s q → (i : ℕ) × (slice_get (ps ++ p ∷ []) i ≡ Some q)
    every q k e = which (cases_lt q.call n)
      where
        same : q.call ≡ n → p ≡ q
        same f = both p.at q.at p.call q.call (let z : Some p.at ≡ Some q.at = sym is ∙ (ap (λ x. stands_at s (called h x)) (at ∙ sym f) ∙ e) in cc) (at ∙ sym f)
          where
            both : (a b x y : ℕ) → a ≡ b → x ≡ y → let u : LinePlace = record { at = a; call = x } in let v : LinePlace = record { at = b; call = y } in u ≡ v
            both a b x y f g = cc

        which : (q.call < n) ⊎ (n ≤ q.call) → (i : ℕ) × (slice_get (ps ++ p ∷ []) i ≡ Some q)
        which (inl f) = let w = c.every q f e in (w.0, get_old ps p w.0 q w.1)
        which (inr f) = (length ps, get_last ps p ∙ ap Some (same (omega arith)))

    rises : (i j : ℕ) (q r : LinePlace) → i < j → slice_get (ps ++ p ∷ []) i ≡ Some q → slice_get (ps ++ p ∷ []) j ≡ Some r → q.call < r.call
    rises i j q r k e f = which (get_was ps p i q e) (get_was ps p j r f)
      where
        short : j < length ps + 1
        short = omega (arith, slice_get_within (ps ++ p ∷ []) j r f, length-append ps (p ∷ []))

        which : (slice_get ps i ≡ Some q) ⊎ ((i ≡ length ps) × (p ≡ q)) → (slice_get ps j ≡ Some r) ⊎ ((j ≡ length ps) × (p ≡ r)) → q.call < r.call
        which (inl u) (inl v) = c.rises i j q r k u v
        which (inl u) (inr v) = omega (arith, c.below i q u, at, ap (λ (x : LinePlace). x.call) v.1)
        which (inr u) (inl v) = absurd (omega (arith, u.0, slice_get_within ps j r v))
        which (inr u) (inr v) = absurd (omega (arith, u.0, v.0))

    count : length (ps ++ p ∷ []) ≡ length (filter (λ (x : CallLog). is_some (stands_at s x)) (take (n + 1) h.calls))
    count = omega (arith, length-append ps (p ∷ []), c.count, count_more h s n true l (ap is_some (ap (λ x. stands_at s (called h x)) (sym at) ∙ is)))

-- one more call has none
pub places_same : (h : History) (s : Section) (n : ℕ) (ps : List LinePlace) → n < length h.calls → ArePlacesBelow h s n ps → stands_at s (called h n) ≡ None → ArePlacesBelow h s (n + 1) ps
places_same h s n ps l c none = record {
  each = c.each;
  below = λ i p e. omega (arith, c.below i p e);
  every = every;
  rises = c.rises;
  count = omega (arith, c.count, count_more h s n false l (ap is_some none));
}
  where
    every : (q : LinePlace) → q.call < n + 1 → IsPlaceOf h s q → (i : ℕ) × (slice_get ps i ≡ Some q)
    every q k e = which (cases_eq q.call n)
      where
        which : (q.call ≡ n) ⊎ (q.call ≡ n → ⊥) → (i : ℕ) × (slice_get ps i ≡ Some q)
        which (inl f) = let z : None ≡ Some q.at = sym none ∙ (ap (λ x. stands_at s (called h x)) (sym f) ∙ e) in absurd (cc)
        which (inr f) = c.every q (omega arith) e

-- past the history no call has a line
stands_nowhere : (s : Section) → stands_at s no_call ≡ None
unfolding no_call
stands_nowhere Done = refl
stands_nowhere Open = refl

pub place_within : (h : History) (s : Section) (p : LinePlace) → IsPlaceOf h s p → p.call < length h.calls
unfolding called
place_within h s p e = which (cases_lt p.call (length h.calls))
  where
    which : (p.call < length h.calls) ⊎ (length h.calls ≤ p.call) → p.call < length h.calls
    which (inl l) = l
    which (inr l) = let z : None ≡ Some p.at = sym (stands_nowhere s) ∙ (ap (stands_at s) (sym (get_or_past h.calls p.call no_call l)) ∙ e) in absurd (cc)

-- neighbours that are not the wrong way round make a sorted list
sorted_far : (ps : List LinePlace) (d : LinePlace) → ((k : ℕ) → k + 1 < length ps → (get_or ps k d).at ≤ (get_or ps (k + 1) d).at) → (i n : ℕ) → i + n + 1 < length ps → (get_or ps i d).at ≤ (get_or ps (i + n + 1) d).at
sorted_far ps d f i zero w = subst (λ j. (get_or ps i d).at ≤ (get_or ps j d).at) (omega arith) (f i (omega arith))
sorted_far ps d f i (suc n) w =
    let far : (get_or ps i d).at ≤ (get_or ps (i + n + 1 + 1) d).at = omega (arith, sorted_far ps d f i n (omega arith), f (i + n + 1) (omega arith)) in
    subst (λ j. (get_or ps i d).at ≤ (get_or ps j d).at) (omega arith) far

-- the sorted calls are those that were gathered
pub sorted_places : (h : History) (s : Section) (ps sorted : List LinePlace) → ArePlacesBelow h s (length h.calls) ps → IsPermutation ps sorted →
    ((k : ℕ) (d : LinePlace) → 0 ≤ k → k + 1 < length sorted → is_lt (ordering_then (nat_cmp (get_or sorted (k + 1) d).at (get_or sorted k d).at) (nat_cmp (get_or sorted (k + 1) d).call (get_or sorted k d).call)) ≡ false) → ArePlaces h s sorted
sorted_places h s ps sorted c moved near = record { each = each; every = every; apart = apart; sorted = in_order; count = count }
  where
    blank : LinePlace
    blank = record { at = 0; call = 0 }

    each : (i : ℕ) (p : LinePlace) → slice_get sorted i ≡ Some p → IsPlaceOf h s p
    each i p e = subst (IsPlaceOf h s) (get_or_from_slice_get sorted i p blank e)
        (All-permutation (IsPlaceOf h s) ps sorted moved (λ k d v. c.each k (get_or ps k d) (slice_get-get_or ps k d v)) i blank (slice_get_within sorted i p e))

    every : (p : LinePlace) → IsPlaceOf h s p → (i : ℕ) × (slice_get sorted i ≡ Some p)
    every p e = from (c.every p (place_within h s p e) e)
      where
        from : (i : ℕ) × (slice_get ps i ≡ Some p) → (i : ℕ) × (slice_get sorted i ≡ Some p)
        from (i, w) = at (Contains-permutation ps sorted p moved (i, slice_get_within ps i p w, get_or_from_slice_get ps i p p w))
          where
            at : Contains sorted p → (i : ℕ) × (slice_get sorted i ≡ Some p)
            at (j, v, f) = (j, slice_get-get_or sorted j p v ∙ ap Some f)

    apart : (i j : ℕ) (p q : LinePlace) → i < j → slice_get sorted i ≡ Some p → slice_get sorted j ≡ Some q → p.call ≢ q.call
    apart i j p q l e f g =
        apart_moved (λ (x : LinePlace). x.call) ps sorted blank moved before i j l (slice_get_within sorted j q f) (ap (λ (x : LinePlace). x.call) (get_or_from_slice_get sorted i p blank e) ∙ (g ∙ ap (λ (x : LinePlace). x.call) (sym (get_or_from_slice_get sorted j q blank f))))
      where
        before : (a b : ℕ) → a < b → b < length ps → (get_or ps a blank).call ≡ (get_or ps b blank).call → ⊥
        before a b w v t = omega (arith, c.rises a b (get_or ps a blank) (get_or ps b blank) w (slice_get-get_or ps a blank (omega arith)) (slice_get-get_or ps b blank v), t)

    in_order : (i j : ℕ) (p q : LinePlace) → i < j → slice_get sorted i ≡ Some p → slice_get sorted j ≡ Some q → p.at ≤ q.at
    in_order i j p q l e f =
        let far : (get_or sorted i blank).at ≤ (get_or sorted j blank).at = subst (λ x. (get_or sorted i blank).at ≤ (get_or sorted x blank).at) (omega arith) (sorted_far sorted blank (λ k w. last_from _ _ (first_not_less _ (nat_cmp (get_or sorted (k + 1) blank).call (get_or sorted k blank).call) (near k blank (omega arith) w))) i (j - i - 1) (omega (arith, slice_get_within sorted j q f))) in
        omega (arith, far, ap (λ (x : LinePlace). x.at) (get_or_from_slice_get sorted i p blank e), ap (λ (x : LinePlace). x.at) (get_or_from_slice_get sorted j q blank f))

    count : length sorted ≡ length (filter (λ (x : CallLog). is_some (stands_at s x)) h.calls)
    count = length_permutation ps sorted moved ∙ (c.count ∙ ap (λ xs. length (filter (λ (x : CallLog). is_some (stands_at s x)) xs)) (take_all (length h.calls) h.calls (omega arith)))

-- one more line is there
pub lines_more : (h : History) (ps : List LinePlace) (i : ℕ) (d : LinePlace) (out old new : List ℕ) (c : CallLog) → i < length ps → c ≡ called h (get_or ps i d).call → out ≡ old ++ lines_at h (take i ps) → new ≡ out ++ line_of c → new ≡ old ++ lines_at h (take (i + 1) ps)
lines_more h ps i d out old new c l is so_far grown =
    let f : LinePlace → List ℕ = λ p. line_of (called h p.call) in
    let more : lines_at h (take (i + 1) ps) ≡ lines_at h (take i ps) ++ line_of (called h (get_or ps i d).call) = ap (lines_at h) (take_more ps i d l) ∙ (flat_map-append f (take i ps) (get_or ps i d ∷ []) ∙ ap (λ t. lines_at h (take i ps) ++ t) (append-nil (line_of (called h (get_or ps i d).call)))) in
    grown ∙ (ap (λ t. t ++ line_of c) so_far ∙ (ap (λ x. (old ++ lines_at h (take i ps)) ++ line_of x) is ∙ (append_assoc old (lines_at h (take i ps)) (line_of (called h (get_or ps i d).call)) ∙ ap (λ t. old ++ t) (sym more))))

-- the text of a record, piece by piece
pub text_built : (h k : History) (ps us qs vs : List LinePlace) (ns : List Name) (names : List CallName) (first second third last : List ℕ) → first ≡ [] → k ≡ h → us ≡ ps → vs ≡ qs → second ≡ first ++ lines_at k us → third ≡ second ++ lines_at k vs → last ≡ (third ++ order_text ns) ++ LINE_FEED ∷ [] → ns ≡ map judged names → last ≡ (lines_at h ps ++ lines_at h qs) ++ (order_text (map judged names) ++ LINE_FEED ∷ [])
text_built h k ps us qs vs ns names first second third last none same up vq a b c nn =
    let e1 : second ≡ lines_at h ps = a ∙ (ap (λ x. x ++ lines_at k us) none ∙ (ap (λ x. lines_at x us) same ∙ ap (lines_at h) up)) in
    let e2 : third ≡ lines_at h ps ++ lines_at h qs = b ∙ (ap (λ x. x ++ lines_at k vs) e1 ∙ (ap (λ x. lines_at h ps ++ lines_at x vs) same ∙ ap (λ x. lines_at h ps ++ lines_at h x) vq)) in
    c ∙ (ap (λ x. (x ++ order_text ns) ++ LINE_FEED ∷ []) e2 ∙ (ap (λ x. ((lines_at h ps ++ lines_at h qs) ++ order_text x) ++ LINE_FEED ∷ []) nn ∙ append_assoc (lines_at h ps ++ lines_at h qs) (order_text (map judged names)) (LINE_FEED ∷ [])))
