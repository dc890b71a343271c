-- The map of the accepted lines, line by line, and that a scan of all keys gives the whole of it.
use Rattle.std.proofs.Common.{ℕ, zero, suc, ◌≡◌, ◌<◌, ◌≤◌, ◌⊎◌, inl, inr, Bool, true, false, not, ◌&&◌, ◌==◌, cond, leb, List, [], ◌∷◌, take, Option, Some, None, refl, sym, ap, ap₂, ◌∙◌, subst, arith, All}
use Rattle.std.specs.List.{slice_get}
use Rattle.std.specs.Option.{option_map}
use Rattle.std.proofs.lemmas.Bool.{cases_lt}
use Rattle.std.proofs.lemmas.Bool.Decides.{nat_tests}
use Rattle.std.proofs.lemmas.List.{length-map}
use Rattle.std.proofs.lemmas.Option.{same_Some, slice_get-map, slice_get_within, get_or_from_slice_get}
use Rattle.kw_model.specs.Map.{Pairs, IsRising, value_of, between}
use Rattle.kw_model.specs.Legal.{may_refuse, went, went_all, is_update, shown, last_shown}
use Rattle.kw_model.specs.declared.call.Call.{Call}
use Rattle.kw_model.specs.declared.call.Call.TheVariants.{Put, Del, Get, Scan, Pin, ScanAt, Unpin}
use Rattle.kw_model.specs.declared.call.Reply.{Reply}
use Rattle.kw_model.proofs.Lookups.{value-went_all}
use Rattle.kw_model.proofs.Pairs.{same_from_values, rises-between, value-between}
use Rattle.kw_line.specs.Line.{FitsCall}
use Rattle.kw_work.specs.declared.line.Line.{Line}
use Rattle.kw_work.specs.Dealing.{IsLine}
use Rattle.kw_work.specs.LineOrder.{calls_of, greatest_key, accepted_above}
use Rattle.kw_work.proofs.Asked.{from_take, element_at, rises-went_all}

-- with one call more the map is the one after that call
pub went_all-more : (m : Pairs) (cs : List Call) (rs : List Reply) (i : ℕ) (c : Call) (r : Reply) → slice_get cs i ≡ Some c → slice_get rs i ≡ Some r
    → went_all m (take (suc i) cs) (take (suc i) rs) ≡ went (went_all m (take i cs) (take i rs)) c r
went_all-more m [] rs i c r e f = absurd (cc)
went_all-more m (d ∷ cs) [] i c r e f = absurd (cc)
went_all-more m (d ∷ cs) (s ∷ rs) zero c r e f = ap₂ (went m) (same_Some d c e) (same_Some s r f)
went_all-more m (d ∷ cs) (s ∷ rs) (suc i) c r e f = went_all-more (went m d s) cs rs i c r e f

-- each call's keys have their bits
abbrev AllFit : List Call → Type 0
AllFit cs = (p : ℕ) (c : Call) → slice_get cs p ≡ Some c → FitsCall c

-- so no call updates a key with more
no_update : (k : ℕ) (c : Call) (r : Reply) → FitsCall c → greatest_key < k → is_update k c r ≡ false
no_update k c r h l = go c h
  where
    and_false : (b : Bool) → (b && false) ≡ false
    and_false true = refl
    and_false false = refl

    other : (q : ℕ) → q ≤ greatest_key → (b : Bool) → (b && (k == q)) ≡ false
    other q h b = let e : (k == q) ≡ false = grind (arith, nat_tests) in ap (λ x. b && x) e ∙ and_false b

    go : (c : Call) → FitsCall c → is_update k c r ≡ false
    go (Put q v) h = other q (let w = h.0 in omega arith) (not (may_refuse (Put q v) r))
    go (Del q) h = other q (omega arith) (not (may_refuse (Del q) r))
    go (Get q) h = and_false (not (may_refuse (Get q) r))
    go (Scan a b) h = and_false (not (may_refuse (Scan a b) r))
    go Pin h = absurd h
    go (ScanAt a b) h = absurd h
    go Unpin h = absurd h

-- and it keeps what it showed before
shows_nothing : (k : ℕ) (cs : List Call) (rs : List Reply) (before : Option ℕ) → AllFit cs → greatest_key < k → last_shown k cs rs before ≡ before
shows_nothing k [] rs before h l = refl
shows_nothing k (c ∷ cs) [] before h l = refl
shows_nothing k (c ∷ cs) (r ∷ rs) before h l =
    ap (λ b. last_shown k cs rs (cond b (shown c) before)) (no_update k c r (h 0 c refl) l) ∙ shows_nothing k cs rs before (λ p d e. h (suc p) d e) l

-- the pairs of all keys are the map
pairs_of_all : (cs : List Call) (rs : List Reply) → AllFit cs → between 0 greatest_key (went_all [] cs rs) ≡ went_all [] cs rs
pairs_of_all cs rs h =
    same_from_values 0 0 (between 0 greatest_key m) m (rises-between 0 0 greatest_key m rises) rises (λ k. value-between k 0 greatest_key m ∙ at k (cases_lt greatest_key k))
  where
    m : Pairs
    m = went_all [] cs rs

    rises : IsRising (went_all [] cs rs)
    rises = rises-went_all [] cs rs tt

    none_past : (b : Bool) (o : Option ℕ) → o ≡ None → cond b o None ≡ o
    none_past true o e = refl
    none_past false o e = sym e

    inside : (k : ℕ) → k ≤ greatest_key → (leb 0 k && leb k greatest_key) ≡ true
    inside k l = grind (arith, nat_tests)

    at : (k : ℕ) → (greatest_key < k) ⊎ (k ≤ greatest_key) → cond (leb 0 k && leb k greatest_key) (value_of k (went_all [] cs rs)) None ≡ value_of k (went_all [] cs rs)
    at k (inl l) = none_past (leb 0 k && leb k greatest_key) (value_of k (went_all [] cs rs)) (value-went_all k [] cs rs ∙ shows_nothing k cs rs None h l)
    at k (inr l) = ap (λ b. cond b (value_of k (went_all [] cs rs)) None) (inside k l)

-- the calls of lines have keys in range
fits_at : (lines : List Line) → All IsLine lines → AllFit (calls_of lines)
fits_at lines all p c e =
    let n = length-map lines (λ (l : Line). l.call) in
    let w = slice_get_within (calls_of lines) p c e in
    let l = element_at lines p (omega arith) in
    let line : IsLine l.0 = subst IsLine (get_or_from_slice_get lines p l.0 l.0 l.1) (all p l.0 (omega arith)) in
    let call : l.0.call ≡ c = same_Some l.0.call c (sym (slice_get-map (λ (l : Line). l.call) lines p ∙ ap (option_map (λ (l : Line). l.call)) l.1) ∙ e) in
    subst FitsCall call line.1

-- so a scan of all keys gives the map of the accepted lines
pub all_keys : (lines : List Line) (rs : List Reply) (i : ℕ) → All IsLine lines → between 0 greatest_key (accepted_above (calls_of lines) rs i) ≡ accepted_above (calls_of lines) rs i
all_keys lines rs i all = pairs_of_all (take i (calls_of lines)) (take i rs) (λ p c e. fits_at lines all p c (from_take i p (calls_of lines) c e).1)
