-- What seats did on a new map, and how a run of them ends.
use Rattle.std.proofs.Common.{ℕ, ◌≡◌, ◌≤◌, ◌<◌, List, [], ◌∷◌, map, length, get_or, All, IfOk, MatchOption, Option, None, Some, Result, Ok, Err, refl, sym, ap, ◌∙◌, subst, ⊎_elim, arith}
use Rattle.std.proofs.lemmas.List.{get_or-map, length-map}
use Rattle.kw_model.specs.Counts.{CountRose, last_count}
use Rattle.kw_words.specs.declared.sizes.TheConstants.{SEATS}
use Rattle.kw_world.specs.declared.opening.Opening.{Opening}
use Rattle.kw_world.specs.Opening.{IsOpening}
use Rattle.kw_world.specs.Sizes.{product}
use Rattle.kw_laws.specs.SeatCalls.{calls_seen}
use Rattle.kw_table.specs.declared.pass.Pass.{Pass}
use Rattle.kw_table.specs.Passes.{IsFresh, view}
use Rattle.kw_follow.specs.Calling.{calls_in}
use Rattle.kw_map.specs.declared.kiwi.Kiwi.{Kiwi}
use Rattle.kw_map.specs.Meetings.{AtEach, front_seen}
use Rattle.kiwid.specs.declared.serving.Seat.{Seat}
use Rattle.kiwid.specs.declared.serving.Served.{Served}
use Rattle.kiwid.specs.Links.{ListenerState, IsNew}
use Rattle.kiwid.specs.Seats.{passes_of}
use Rattle.kiwid.specs.Server.{BeganAnew, HasServed, SomeShort, new_map}
use Rattle.kiwid.specs.Serving.{HaveMet, IsSeatServed}

-- a map may begin with as many seats as words may ask for
pub opens_with : (n : ℕ) → 1 ≤ n → n ≤ SEATS → IsOpening product (new_map n)
opens_with n some few = record {
  sized = record { some_seats = omega arith; few_seats = omega arith; some_cells = omega arith; few_cells = omega arith; some_rows = omega arith; few_rows = omega arith };
  some_seats = some;
  few_seats = few;
  some_clock = omega arith;
  clock = omega arith;
  some_epoch = omega arith;
  epoch = omega arith;
  built = omega arith;
  fits = omega arith;
}

-- what holds of each of a list holds of what was made from its elements
pub all_of_map : {X Y : Type 0} (f : X → Y) (P : Y → Type 0) (xs : List X) (ys : List Y) → map f xs ≡ ys → All P ys → (k : ℕ) (d : X) → k < length xs → P (f (get_or xs k d))
all_of_map f P xs ys e all k d lt = subst P (ap (λ l. get_or l k (f d)) (sym e) ∙ get_or-map f xs k d (f d) lt) (all k (f d) (omega (arith, ap length e, length-map xs f)))

-- the element at a place
element_at : {X : Type 0} (xs : List X) (k : ℕ) → k < length xs → X
element_at [] k lt = absurd (omega arith)
element_at (x ∷ xs) k lt = x

-- a count that rose from 0 is above 0
some_fault : (old new : ℕ) → old ≡ 0 → CountRose old new → 0 < new
some_fault old new none rose = ⊎_elim (λ (h : old < new). omega arith) (λ (h : new ≡ last_count). omega arith) rose

module _ {L : Type 0} (state : L → ListenerState) (m : Kiwi) (n k : ℕ) where
  -- what a seat did
  abbrev Did : Seat L → Served L → Type 0
  Did s d = IsSeatServed m k s.pass d.pass (state s.listener) (state d.listener) d.ends

  -- the seat at a place began with the pass and the listener at that place
  began : (passes : List Pass) (bound : List L) (seats : List (Seat L)) (i : ℕ) (d : Served L) (e : Seat L)
      → ((j : ℕ) (p : Pass) → j < length passes → IsFresh m j (get_or passes j p)) → All (λ (l : L). IsNew (state l)) bound
      → map (λ (s : Seat L). s.pass) seats ≡ passes → map (λ (s : Seat L). s.listener) seats ≡ bound
      → i < length seats → Did (get_or seats i e) d → BeganAnew state m k i d
  began passes bound seats i d e fresh new passes_are bound_is lt did = record {
    pass = (get_or seats i e).pass;
    fresh = subst (IsFresh m i) (ap (λ (ps : List Pass). get_or ps i e.pass) (sym passes_are) ∙ get_or-map (λ (s : Seat L). s.pass) seats i e e.pass lt) (fresh i e.pass (omega (arith, ap length passes_are, length-map seats (λ (s : Seat L). s.pass))));
    listener = state (get_or seats i e).listener;
    new = all_of_map (λ (s : Seat L). s.listener) (λ (l : L). IsNew (state l)) seats bound bound_is new i e lt;
    served = did;
  }

  -- a seat that began with the pass of this number has the calls of this number
  own_calls : (o : Opening) (served : List (Served L)) (i : ℕ) (d : Served L) → HaveMet o (passes_of served) → i < length served → BeganAnew state m k i (get_or served i d)
      → calls_seen product o i (front_seen (passes_of served)) ≡ calls_in (get_or served i d).pass
  own_calls o served i d met lt b =
      let p : Pass = (get_or served i d).pass in
      let calls : calls_in p ≡ calls_seen product o (view p).number (front_seen (passes_of served)) =
      all_of_map (λ (s : Served L). s.pass) (λ (q : Pass). calls_in q ≡ calls_seen product o (view q).number (front_seen (passes_of served))) served (passes_of served) refl met.calls i d lt in
      let number : (view p).number ≡ i = b.served.serves.stays.goes.number ∙ b.fresh.number in
      ap (λ j. calls_seen product o j (front_seen (passes_of served))) (sym number) ∙ sym calls

  -- so did all seats of a new map
  module _ (passes : List Pass) (bound : List L) (seats : List (Seat L)) (opens : m.opening ≡ new_map n) (many : length passes ≡ n)
      (fresh : (j : ℕ) (p : Pass) → j < length passes → IsFresh m j (get_or passes j p)) (new : All (λ (l : L). IsNew (state l)) bound)
      (passes_are : map (λ (s : Seat L). s.pass) seats ≡ passes) (bound_is : map (λ (s : Seat L). s.listener) seats ≡ bound) where
    has_served : (served : List (Served L)) → length served ≡ length seats → AtEach Did seats served → HaveMet m.opening (passes_of served) → HasServed state n k served
    has_served served same did met = record {
      kiwi = m;
      opening = opens;
      len = same ∙ seats_many;
      each = each;
      met = met_anew;
      all_calls = λ i d lt. own_calls (new_map n) served i d met_anew (below i lt) (each i d (below i lt));
    }
      where
        seats_many : length seats ≡ n
        seats_many = sym (length-map seats (λ (s : Seat L). s.pass)) ∙ (ap length passes_are ∙ many)

        below : (i : ℕ) → i < n → i < length served
        below i lt = omega (arith, same, seats_many)

        met_anew : HaveMet (new_map n) (passes_of served)
        met_anew = subst (λ (o : Opening). HaveMet o (passes_of served)) opens met

        each : (i : ℕ) (d : Served L) → i < length served → BeganAnew state m k i (get_or served i d)
        each i d lt =
            let below : i < length seats = omega (arith, same) in
            let e : Seat L = element_at seats i below in
            began passes bound seats i (get_or served i d) e fresh new passes_are bound_is below (did i e d below)

    -- the same of what a call answers
    pub if_served : {V E : Type 0} (r : Result V E) (items : V → List (Served L)) (size : V → ℕ) → ((v : V) → size v ≡ length (items v)) → (all : ℕ) → all ≡ length seats
        → IfOk r (λ v. size v ≡ all) → IfOk r (λ v. AtEach Did seats (items v)) → IfOk r (λ v. HaveMet m.opening (passes_of (items v))) → IfOk r (λ v. HasServed state n k (items v))
    if_served (Ok v) items size sized all all_is len did met = has_served (items v) (sym (sized v) ∙ (len ∙ all_is)) did met
    if_served (Err e) items size sized all all_is len did met = tt

module _ {L : Type 0} (state : L → ListenerState) (n k : ℕ) (served looked : List (Served L)) (h : HasServed state n k served) (is : looked ≡ served) where
  -- whether a seat of those that were looked at served fewer links than asked for, and which
  abbrev pub IsShort : Option ℕ → Type 0
  IsShort r = MatchOption r (All (λ (d : Served L). k ≤ length d.ends) looked) (λ at. (at < length looked) × ((d : Served L) → length (get_or looked at d).ends < k))

  -- if none did, each served just as many
  pub all_whole : (r : Option ℕ) → IsShort r → r ≡ None → All (λ (d : Served L). length d.ends ≡ k) served
  all_whole r told none = λ i d lt.
      let least : All (λ (x : Served L). k ≤ length x.ends) served = subst (All (λ (x : Served L). k ≤ length x.ends)) is (subst IsShort none told) in
      let at_least = least i d lt in
      let most = (h.each i d lt).served.most in
      omega arith

  -- if one did, its listener failed
  pub some_short : (r : Option ℕ) (at : ℕ) → IsShort r → r ≡ Some at → SomeShort state k served
  some_short r at told some =
      let there : (at < length served) × ((d : Served L) → length (get_or served at d).ends < k) = subst (λ (l : List (Served L)). (at < length l) × ((d : Served L) → length (get_or l at d).ends < k)) is (subst IsShort some told) in
      (at, there.0, λ d. let b = h.each at d there.0 in (there.1 d, some_fault b.listener.faults (state (get_or served at d).listener).faults b.new.faults (b.served.fewer (there.1 d))))
