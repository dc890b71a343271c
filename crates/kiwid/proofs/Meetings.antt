-- Passes that have met after their sessions, and what their seats then hand back.
use Rattle.std.proofs.Common.{ℕ, zero, suc, ◌≡◌, ◌<◌, List, [], ◌∷◌, ◌++◌, length, take, drop, map, slice_index_or, All, IfOk, Ok, Err, true, Result, Vec, vec_len, refl, sym, ap, ◌∙◌, subst, arith, append-nil}
use Rattle.std.proofs.lemmas.List.{drop_all, length-map, take_all}
use Rattle.std.proofs.lemmas.List.Elements.{All-from_recursion}
use Rattle.std.specs.List.{AllByRecursion}
use Rattle.std.specs.declared.alloc.Global.{Global}
use denote.Param.Members.{Shared}
use Rattle.std.specs.Fork.{GivesJobs}
use Rattle.kw_model.specs.declared.memory.Memory.{Memory}
use Rattle.kw_world.specs.declared.event.Event.{Event}
use Rattle.kw_world.specs.declared.local.Local.{Local}
use Rattle.kw_world.specs.declared.opening.Opening.{Opening}
use Rattle.kw_world.specs.Sizes.{product}
use Rattle.kw_core.specs.Events.{is_valid, of_seat}
use Rattle.kw_laws.specs.SeatCalls.{calls_seen}
use Rattle.kw_laws.proofs.SeatCalls.{calls_still}
use Rattle.kw_table.specs.declared.pass.Pass.{Pass}
use Rattle.kw_table.specs.Passes.{IsPassOf, view}
use Rattle.kw_table.specs.Views.{Meets}
use Rattle.kw_table.proofs.Prefixes.{prefix_trans}
use Rattle.kw_table.proofs.Stepping.{rest_is_others}
use Rattle.kw_follow.specs.Calling.{calls_in}
use Rattle.kw_map.specs.declared.kiwi.Kiwi.{Kiwi}
use Rattle.kw_map.specs.Meetings.{AtEach, MeetsAt, front_seen}
use Rattle.kw_map.proofs.Ordering.{pass_ordered}
use Rattle.kiwid.specs.declared.serving.Seat.{Seat}
use Rattle.kiwid.specs.declared.serving.Served.{Served}
use Rattle.kiwid.specs.declared.serving.Rest.{Rest}
use Rattle.kiwid.specs.declared.session.SessionEnd.{SessionEnd}
use Rattle.kiwid.specs.Lines.{StaysIdle}
use Rattle.kiwid.specs.Links.{ListenerState}
use Rattle.kiwid.specs.Seats.{AreParted, passes_of, rests_of}
use Rattle.kiwid.specs.Serving.{HaveMet, IsSeatServed, Serves, Sessions}
use Rattle.kiwid.specs.Session.{AreCaused}
use Rattle.kiwid.proofs.Passes.{pass_caused}

-- a pass's calls are the same after a meeting
calls_met : (q r : Pass) → Meets (view q) (view r) → calls_in r ≡ calls_in q
calls_met q r meets =
    let o : Opening = (view q).opening in
    let n : ℕ = (view q).number in
    let es : List Event = (view r).seen in
    let mine : of_seat n es ≡ of_seat n (view q).seen = ap (λ k. of_seat k es) (sym meets.number) ∙ meets.mine in
    let valid : is_valid product o es ≡ true = subst (λ (x : Opening). is_valid product x es ≡ true) meets.opening r.known.valid in
    ap (λ (x : Opening). calls_seen product x (view r).number es) meets.opening ∙ (ap (λ k. calls_seen product o k es) meets.number
    ∙ (ap (calls_seen product o n) (sym meets.seen.1)
    ∙ calls_still product o n (view q).seen meets.seen.0 q.known.opens (ap (is_valid product o) meets.seen.1 ∙ valid) (rest_is_others (view q) es n meets.seen mine)))

-- an idle pass that met is idle
stays_met : (m : Kiwi) (E : List Event) (p q r : Pass) → StaysIdle m p q → MeetsAt m E q r → StaysIdle m p r
stays_met m E p q r s met = record {
  idle = record { of_map = met.of_table; idle = ap (λ (l : Local). l.activity) met.meets.local ∙ s.idle.idle };
  goes = record { of_table = met.of_table; number = met.meets.number ∙ s.goes.number; opening = met.meets.opening ∙ s.goes.opening; seen = prefix_trans (view p).seen (view q).seen (view r).seen s.goes.seen met.meets.seen };
}

-- what a seat did it did also where its pass then met others
serves_met : (m : Kiwi) (E : List Event) (p q r : Pass) (old new : ListenerState) (ends : List SessionEnd) → Serves m p q old new ends → MeetsAt m E q r → Serves m p r old new ends
serves_met m E p q r old new ends s met = record {
  stays = stays_met m E p q r s.stays met;
  links = s.links;
  ends_are = s.ends_are;
  sessions = subst (Sessions s.links (calls_in p)) (sym (calls_met q r met.meets)) s.sessions;
  coming = s.coming;
  closed = s.closed;
  out = s.out;
  never_falls = s.never_falls;
}

-- the element at a place
element_at : {X : Type 0} (xs : List X) (i : ℕ) → i < length xs → (x : X) × ((d : X) → slice_index_or xs i d ≡ x)
element_at [] i lt = absurd (omega arith)
element_at (x ∷ xs) zero lt = (x, λ d. refl)
element_at (x ∷ xs) (suc i) lt = element_at xs i (omega arith)

-- a relation place by place, with one place more in front
each_cons : {X Y : Type 0} (R : X → Y → Type 0) (x : X) (y : Y) (xs : List X) (ys : List Y) → R x y → AtEach R xs ys → AtEach R (x ∷ xs) (y ∷ ys)
each_cons R x y xs ys h t zero d e lt = h
each_cons R x y xs ys h t (suc i) d e lt = t i d e (omega arith)

-- what holds of each call that `map_vec` made
pub at_each : {F J R : Type 0} (g : Shared F (J × Unit {0}) R) (f : F) (js : List J) (rs : List R) (P : J → R → Type 0) → GivesJobs g f js rs → ((x : J) (r : R) → g.post f (x, tt) r → P x r) → AtEach P js rs
at_each g f js rs P gives each = λ i d e lt.
    let job = (gives i e lt).1 in
    subst (λ x. P x (slice_index_or rs i e)) (sym (job.job_is d)) (each job.job (slice_index_or rs i e) job.call.met)

-- what is written over a list of the same length takes its place
pub written_over : {A : Type 0} (xs ys : List A) (n : ℕ) → length xs ≡ n → length ys ≡ n → take n (xs ++ drop (length xs) ys) ≡ xs
written_over xs ys n a b = ap (λ x. take n (xs ++ x)) (drop_all (length xs) ys (omega arith)) ∙ (ap (take n) (append-nil xs) ∙ take_all n xs (omega arith))

-- passes that met have seen one list of events, and the calls in it have one legal order
pub have_met : (m : Kiwi) (ps qs : List Pass) → length qs ≡ length ps → AtEach (MeetsAt m (front_seen qs)) ps qs → HaveMet m.opening qs
have_met m ps qs same met = record {
  seen = λ i d lt. (at i d lt).seen;
  calls = λ i d lt.
      let q : Pass = slice_index_or qs i d in
      ap (λ (o : Opening). calls_seen product o (view q).number (view q).seen) (at i d lt).of_table.1 ∙ ap (calls_seen product m.opening (view q).number) (at i d lt).seen;
  causes = λ i d lt.
      let q : Pass = slice_index_or qs i d in
      subst (λ (es : List Event). AreCaused m.opening es q) (at i d lt).seen (subst (λ (o : Opening). AreCaused o (view q).seen q) (at i d lt).of_table.1 (pass_caused q));
  ordered = λ i d lt. pass_ordered (slice_index_or qs i d);
}
  where
    at : (i : ℕ) (d : Pass) → (lt : i < length qs) → MeetsAt m (front_seen qs) (slice_index_or ps i (element_at ps i (omega arith)).0) (slice_index_or qs i d)
    at i d lt = met i (element_at ps i (omega arith)).0 d (omega arith)

module _ {L : Type 0} (m : Kiwi) (n : ℕ) (state : L → ListenerState) where
  -- what a seat that hands back this did
  abbrev pub SeatDone : Seat L → Served L → Type 0
  SeatDone s d = IsSeatServed m n s.pass d.pass (state s.listener) (state d.listener) d.ends

  -- the same, of what is handed back with the pass that then met others
  seat_met : (E : List Event) (s : Seat L) (d e : Served L) → SeatDone s d → MeetsAt m E d.pass e.pass → d.listener ≡ e.listener → d.ends ≡ e.ends → SeatDone s e
  seat_met E s d e done met same ends =
      subst (λ (x : L). IsSeatServed m n s.pass e.pass (state s.listener) (state x) e.ends) same
      (subst (λ (x : List SessionEnd). IsSeatServed m n s.pass e.pass (state s.listener) (state d.listener) x) ends
      (record { serves = serves_met m E s.pass d.pass e.pass (state s.listener) (state d.listener) d.ends done.serves met; most = done.most; fewer = done.fewer }))

  -- so did all seats
  pub seats_met : (E : List Event) (ss : List (Seat L)) (ds es : List (Served L)) → length ds ≡ length ss → length es ≡ length ds
      → AtEach (λ (s : Seat L) (r : Result (Served L) Memory). IfOk r (SeatDone s)) ss (map Ok ds) → AtEach (MeetsAt m E) (passes_of ds) (passes_of es) → rests_of es ≡ rests_of ds → AtEach SeatDone ss es
  seats_met E [] ds es a b done met rests = λ i d e lt. absurd (omega arith)
  seats_met E (s ∷ ss) [] es a b done met rests = absurd (omega arith)
  seats_met E (s ∷ ss) (d ∷ ds) [] a b done met rests = absurd (omega arith)
  seats_met E (s ∷ ss) (d ∷ ds) (e ∷ es) a b done met rests =
      let head : Rest L = record { listener = d.listener; ends = d.ends } in
      let same : record { listener = e.listener; ends = e.ends } ≡ head = ap (λ (rs : List (Rest L)). slice_index_or rs 0 head) rests in
      each_cons SeatDone s e ss es
      (seat_met E s d e (done 0 s (Ok d) (omega arith)) (met 0 d.pass e.pass (omega arith)) (sym (ap (λ (r : Rest L). r.listener) same)) (sym (ap (λ (r : Rest L). r.ends) same)))
      (seats_met E ss ds es (omega arith) (omega arith) (λ i x y lt. done (suc i) x y (omega arith)) (λ i x y lt. met (suc i) x y (omega arith)) (ap (drop 1) rests))

  -- what the seats handed back, each from its thread, where it did not want memory
  abbrev pub AreDone : List (Seat L) → List (Result (Served L) Memory) → Type 0
  AreDone ss parts = AtEach (λ (s : Seat L) (r : Result (Served L) Memory). IfOk r (SeatDone s)) ss parts

  -- the passes among it are of the map
  all_of_map : (ss : List (Seat L)) (ds : List (Served L)) → length ds ≡ length ss → AreDone ss (map Ok ds) → AllByRecursion (IsPassOf m) (passes_of ds)
  all_of_map ss [] same done = tt
  all_of_map [] (d ∷ ds) same done = absurd (omega arith)
  all_of_map (s ∷ ss) (d ∷ ds) same done = ((done 0 s (Ok d) (omega arith)).serves.stays.idle.of_map, all_of_map ss ds (omega arith) (λ i x y lt. done (suc i) x y (omega arith)))

  -- the same, taken apart
  module _ (ss : List (Seat L)) (parts : List (Result (Served L) Memory)) (passes : List Pass) (rests : List (Rest L)) (same : length parts ≡ length ss) (done : AreDone ss parts) (p : AreParted parts passes rests) where
    as_many : length p.served ≡ length ss
    as_many = sym (length-map {B = Result (Served L) Memory} p.served Ok) ∙ (sym (ap length p.parts_are) ∙ same)

    each_done : AreDone ss (map Ok p.served)
    each_done = subst (AreDone ss) p.parts_are done

    pub are_of_map : All (IsPassOf m) passes
    are_of_map = subst (All (IsPassOf m)) (sym p.passes_are) (All-from_recursion (IsPassOf m) (passes_of p.served) (all_of_map ss p.served as_many each_done))

    -- and put together again, once the passes have met
    as_many_met : (qs : List Pass) (es : List (Served L)) → length qs ≡ length passes → passes_of es ≡ qs → length es ≡ length p.served
    as_many_met qs es len is = sym (length-map es (λ (s : Served L). s.pass)) ∙ (ap length is ∙ (len ∙ (ap length p.passes_are ∙ length-map p.served (λ (s : Served L). s.pass))))

    pub len_served : (r : Result (Vec (Served L) Global) Memory) (qs : List Pass) (n : ℕ) → length qs ≡ length passes → IfOk r (λ v. passes_of v.items ≡ qs) → length ss ≡ n → IfOk r (λ v. vec_len v ≡ n)
    len_served (Err e) qs n len is count = tt
    len_served (Ok v) qs n len is count = let a = as_many_met qs v.items len is in let b = as_many in omega (arith, v.ok.0)

    pub each_served : (r : Result (Vec (Served L) Global) Memory) (qs : List Pass) → length qs ≡ length passes → AtEach (MeetsAt m (front_seen qs)) passes qs → IfOk r (λ v. passes_of v.items ≡ qs) → IfOk r (λ v. rests_of v.items ≡ rests)
        → IfOk r (λ v. AtEach SeatDone ss v.items)
    each_served (Err e) qs len met is rest = tt
    each_served (Ok v) qs len met is rest =
        seats_met (front_seen qs) ss p.served v.items as_many (as_many_met qs v.items len is) each_done
        (subst (λ l. AtEach (MeetsAt m (front_seen qs)) l (passes_of v.items)) p.passes_are (subst (AtEach (MeetsAt m (front_seen qs)) passes) (sym is) met))
        (rest ∙ p.rests_are)

-- the passes of all have met
pub met_served : {L : Type 0} (m : Kiwi) (ps qs : List Pass) (r : Result (Vec (Served L) Global) Memory) → length qs ≡ length ps → AtEach (MeetsAt m (front_seen qs)) ps qs → IfOk r (λ v. passes_of v.items ≡ qs) → IfOk r (λ v. HaveMet m.opening (passes_of v.items))
met_served m ps qs (Err e) len met is = tt
met_served m ps qs (Ok v) len met is = subst (HaveMet m.opening) (sym is) (have_met m ps qs len met)
