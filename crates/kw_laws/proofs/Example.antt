-- The example keeps the laws: they can be kept.
use Rattle.std.proofs.Common.{ℕ, zero, suc, ◌≡◌, ◌+◌, ◌<◌, ◌≤◌, ◌⊎◌, inl, inr, List, [], ◌∷◌, Option, Some, None, true, false, arith, sym, ap, subst, slice_get, refl}
use Rattle.std.proofs.lemmas.Option.{same_Some}
use Rattle.std.proofs.lemmas.Bool.{cases_eq, ne_eqb}
use Rattle.kw_core.specs.declared.history.Logged.{Logged}
use Rattle.kw_core.specs.declared.history.End.{End}
use Rattle.kw_core.specs.declared.history.Drawn.{Drawn}
use Rattle.kw_core.specs.History.{attempt, called, no_attempt, no_call, Put, Get, Scan, Reply, Value, Absent, Pairs, Kind, LoadEpoch, LoadClock, Draw, Stands}
use Rattle.kw_laws.specs.Example.{events, example}
use Rattle.kw_core.specs.HistoryLaws.{HistoryLaws, Attempted, DrawLogged, Got, Scanned, ScanKey, IsEarly, IsPut, EndsWith, Answers}

-- the times of the attempt
attempted : (p : ℕ) → p < 1 → Attempted example p
unfolding attempt called
attempted zero w = record {
  call = omega arith;
  seat = refl;
  makes = (refl, refl);
  begun = omega arith;
  announced = λ e. omega arith;
  is_announced = λ e. refl;
  load = λ e. omega arith;
  at = λ e. omega arith;
  end = λ e d w. let z : 5 ≡ d.at = ap (λ (q : End). q.at) (same_Some _ _ w) in omega (arith, z);
}
attempted (suc p) w = absurd (omega arith)

-- the one put
one_put : (p : ℕ) → IsPut example p → p ≡ 0
unfolding attempt no_attempt
one_put zero s = refl
one_put (suc p) s = let z : false ≡ true = s in cc

-- equal events have one clock
same_clock : (a b : Logged) → Some a ≡ Some b → a.clock ≡ b.clock
same_clock a b e = ap (λ (q : Logged). q.clock) (same_Some a b e)

-- P holds of each event, by its position
abbrev Each : (ℕ → Logged → Type 0) → ℕ → List Logged → Type 0
Each P n [] = Unit {0}
Each P n (e ∷ es) = P n e × Each P (n + 1) es

-- and so of the one at a position
each_at : (P : ℕ → Logged → Type 0) (n : ℕ) (es : List Logged) → Each P n es → (i : ℕ) (e : Logged) → slice_get es i ≡ Some e → P (n + i) e
each_at P n [] a i e s = let z : None ≡ Some e = s in absurd (cc)
each_at P n (d ∷ es) a zero e s = let z : n ≡ n + 0 = omega arith in subst (λ m. P m e) z (subst (P n) (same_Some d e s) a.0)
each_at P n (d ∷ es) a (suc i) e s = subst (λ m. P m e) (omega arith) (each_at P (n + 1) es a.1 i e s)

-- the clock was 1 up to position 9, and 2 then
abbrev HasClock : ℕ → Logged → Type 0
HasClock x e = ((x ≤ 9) × (e.clock ≡ 1)) ⊎ ((10 ≤ x) × (e.clock ≡ 2))

-- it holds of the example
clocks : Each HasClock 0 events
clocks = (inl (omega arith, refl), (inl (omega arith, refl), (inl (omega arith, refl), (inl (omega arith, refl), (inl (omega arith, refl), (inl (omega arith, refl), (inl (omega arith, refl), (inl (omega arith, refl), (inl (omega arith, refl), (inl (omega arith, refl), (inr (omega arith, refl), (inr (omega arith, refl), (inr (omega arith, refl), tt)))))))))))))

-- the clock at an event
clock_at : (x : ℕ) (k : Kind) (c : ℕ) → Stands example x k c → ((x ≤ 9) × (c ≡ 1)) ⊎ ((10 ≤ x) × (c ≡ 2))
clock_at x k c s = subst (λ m. ((m ≤ 9) × (c ≡ 1)) ⊎ ((10 ≤ m) × (c ≡ 2))) (omega arith) (each_at HasClock 0 events clocks x (record { seat = s.seat; kind = k; clock = c }) s.logged)

-- the clock does not fall
clock : (x y : ℕ) (a b : Kind) (c d : ℕ) → Stands example x a c → Stands example y b d → x ≤ y → c ≤ d
clock x y a b c d s t w = omega (arith, clock_at x a c s, clock_at y b d t)

-- no attempt but the put is announced
early_put : (k f q : ℕ) → IsEarly example k f q → q ≡ 0
unfolding attempt no_attempt
early_put k f zero e = refl
early_put k f (suc q) e = let z : false ≡ true = e.is_announced in cc

-- what the gets answered
got : (x key at : ℕ) (reply : Reply) → EndsWith example x (Get key) at reply → Got example x key at reply
unfolding attempt called no_call no_attempt
got zero key at reply e = let z : Put 5 7 ≡ Get key = e.0 in absurd (cc)
got (suc zero) key at reply e =
    let z : Get 5 ≡ Get key = e.0 in let k : 5 ≡ key = cc in
    let y = same_Some _ _ e.1 in
    let a : 7 ≡ at = ap (λ (q : End). q.at) y in
    let r : Value 7 ≡ reply = ap (λ (q : End). q.reply) y in
    subst (λ k. Got example 1 k at reply) k (subst (λ a. Got example 1 5 a reply) a (subst (Got example 1 5 7) r (record {
      gap = Some 0;
      knows = record { gap = record { is_put = refl; key = refl }; reply = refl; early = λ q i. let z = early_put 5 6 q i in inr (subst (λ q. IsPut example q) (sym z) refl, inl z) };
      before_end = λ p n. let z : 0 ≡ p = same_Some 0 p n in subst (λ q. (attempt example q).at < 7) z (omega arith);
      answer = λ v n. refl;
    })))
got (suc (suc zero)) key at reply e = let z : Scan 0 9 ≡ Get key = e.0 in absurd (cc)
got (suc (suc (suc zero))) key at reply e =
    let z : Get 6 ≡ Get key = e.0 in let k : 6 ≡ key = cc in
    let y = same_Some _ _ e.1 in
    let a : 12 ≡ at = ap (λ (q : End). q.at) y in
    let r : Absent ≡ reply = ap (λ (q : End). q.reply) y in
    subst (λ k. Got example 3 k at reply) k (subst (λ a. Got example 3 6 a reply) a (subst (Got example 3 6 12) r (record {
      gap = None;
      knows = record { gap = tt; reply = refl; early = λ q i. let z : 5 ≡ 6 = subst (λ q. (attempt example q).key ≡ 6) (early_put 6 11 q i) i.key in absurd (omega (arith, z)) };
      before_end = λ p n. let z : None ≡ Some p = n in absurd (cc);
      answer = λ v n. refl;
    })))
got (suc (suc (suc (suc x)))) key at reply e = let z : None ≡ Some (record { at = at; reply = reply }) = e.1 in absurd (cc)

-- where the scan drew its version
drawn : (x : ℕ) (d : Drawn) → (called example x).draw ≡ Some d → DrawLogged example d
unfolding called no_call
drawn zero d e = let z : None ≡ Some d = e in absurd (cc)
drawn (suc zero) d e = let z : None ≡ Some d = e in absurd (cc)
drawn (suc (suc zero)) d e = subst (DrawLogged example) (same_Some _ _ e) (record {
  kind = Draw;
  is_draw = tt;
  stands = record { seat = 0; logged = refl };
  later = λ y k c w s. omega (arith, clock_at y k c s, w);
})
drawn (suc (suc (suc zero))) d e = let z : None ≡ Some d = e in absurd (cc)
drawn (suc (suc (suc (suc x)))) d e = let z : None ≡ Some d = e in absurd (cc)

-- what the scan gave for a key
scanned_key : (key : ℕ) → (5 ≡ key) ⊎ (5 ≡ key → ⊥) → (o : Option ℕ) × ScanKey example key 1 9 ((5, 7) ∷ []) o
unfolding attempt called no_call no_attempt
scanned_key key (inl e) = subst (λ k. (o : Option ℕ) × ScanKey example k 1 9 ((5, 7) ∷ []) o) e (
  Some 0,
  record {
    gap = record { is_put = refl; key = refl };
    version = omega arith;
    reply = refl;
    early = λ q i. let z = early_put 5 9 q i in inr (subst (λ q. IsPut example q) (sym z) refl, λ v. inl z);
  },
)
scanned_key key (inr n) = (
  None,
  record {
    gap = tt;
    version = tt;
    reply = rw (ne_eqb key 5 (λ e. n (sym e))) refl;
    early = λ q i. absurd (n (subst (λ q. (attempt example q).key ≡ key) (early_put key 9 q i) i.key));
  },
)

-- and for all keys
scanned : (x from to at : ℕ) (pairs : List (ℕ × ℕ)) → EndsWith example x (Scan from to) at (Pairs pairs) → Scanned example x from to at pairs
unfolding attempt called no_call no_attempt
scanned zero from to at pairs e = let z : Put 5 7 ≡ Scan from to = e.0 in absurd (cc)
scanned (suc zero) from to at pairs e = let z : Get 5 ≡ Scan from to = e.0 in absurd (cc)
scanned (suc (suc zero)) from to at pairs e =
    let z : Scan 0 9 ≡ Scan from to = e.0 in let f : 0 ≡ from = cc in let t : 9 ≡ to = cc in
    let y = same_Some _ _ e.1 in
    let a : 10 ≡ at = ap (λ (q : End). q.at) y in
    let w : Pairs ((5, 7) ∷ []) ≡ Pairs pairs = ap (λ (q : End). q.reply) y in
    let r : ((5, 7) ∷ []) ≡ pairs = cc in
    subst (λ f. Scanned example 2 f to at pairs) f (subst (λ t. Scanned example 2 0 t at pairs) t (subst (λ a. Scanned example 2 0 9 a pairs) a (subst (Scanned example 2 0 9 10) r (record {
      draw = record { at = 9; version = 1 };
      drawn = refl;
      first = omega arith;
      before_end = omega arith;
      rises = (omega arith, omega arith, tt);
      keys = λ key u v. scanned_key key (cases_eq 5 key);
    }))))
scanned (suc (suc (suc zero))) from to at pairs e = let z : Get 6 ≡ Scan from to = e.0 in absurd (cc)
scanned (suc (suc (suc (suc x)))) from to at pairs e = let z : None ≡ Some (record { at = at; reply = Pairs pairs }) = e.1 in absurd (cc)

-- each reply fits its call
ends : (x : ℕ) (e : End) → (called example x).end ≡ Some e → ((called example x).first < e.at) × Answers (called example x).call (called example x).put e.reply
unfolding called no_call
ends zero e s = subst (λ (e : End). (0 < e.at) × Answers (Put 5 7) (Some 0) e.reply) (same_Some _ _ s) (omega arith, (0, refl))
ends (suc zero) e s = subst (λ (e : End). (6 < e.at) × Answers (Get 5) None e.reply) (same_Some _ _ s) (omega arith, tt)
ends (suc (suc zero)) e s = subst (λ (e : End). (8 < e.at) × Answers (Scan 0 9) None e.reply) (same_Some _ _ s) (omega arith, tt)
ends (suc (suc (suc zero))) e s = subst (λ (e : End). (11 < e.at) × Answers (Get 6) None e.reply) (same_Some _ _ s) (omega arith, tt)
ends (suc (suc (suc (suc x)))) e s = let z : None ≡ Some e = s in absurd (cc)

-- a put of a call is its attempt
is_put : (x p : ℕ) → (called example x).put ≡ Some p → IsPut example p × ((attempt example p).call ≡ x)
unfolding attempt called no_call
is_put zero p s = subst (λ p. IsPut example p × ((attempt example p).call ≡ 0)) (same_Some _ _ s) (refl, refl)
is_put (suc zero) p s = let z : None ≡ Some p = s in absurd (cc)
is_put (suc (suc zero)) p s = let z : None ≡ Some p = s in absurd (cc)
is_put (suc (suc (suc zero))) p s = let z : None ≡ Some p = s in absurd (cc)
is_put (suc (suc (suc (suc x)))) p s = let z : None ≡ Some p = s in absurd (cc)

-- the first events and the numbers
first_at : (x : ℕ) → x < 4 → ((x ≡ 0) × ((called example x).first ≡ 0) × ((called example x).seat ≡ 0) × ((called example x).number ≡ 1)) ⊎ ((x ≡ 1) × ((called example x).first ≡ 6) × ((called example x).seat ≡ 1) × ((called example x).number ≡ 1))
    ⊎ ((x ≡ 2) × ((called example x).first ≡ 8) × ((called example x).seat ≡ 0) × ((called example x).number ≡ 2)) ⊎ ((x ≡ 3) × ((called example x).first ≡ 11) × ((called example x).seat ≡ 1) × ((called example x).number ≡ 2))
unfolding called
first_at zero w = inl (refl, refl, refl, refl)
first_at (suc zero) w = inr (inl (refl, refl, refl, refl))
first_at (suc (suc zero)) w = inr (inr (inl (refl, refl, refl, refl)))
first_at (suc (suc (suc zero))) w = inr (inr (inr (refl, refl, refl, refl)))
first_at (suc (suc (suc (suc x)))) w = absurd (omega arith)

-- a call begins with a load of the epoch
begins : (x : ℕ) → x < 4 → (clock : ℕ) × Stands example (called example x).first LoadEpoch clock
unfolding called
begins zero w = (1, record { seat = 0; logged = refl })
begins (suc zero) w = (1, record { seat = 1; logged = refl })
begins (suc (suc zero)) w = (1, record { seat = 0; logged = refl })
begins (suc (suc (suc zero))) w = (2, record { seat = 1; logged = refl })
begins (suc (suc (suc (suc x)))) w = absurd (omega arith)

-- so it keeps the laws
pub example_has_laws : HistoryLaws example
unfolding attempt called
example_has_laws = record {
  attempted = attempted;
  adds = λ p q w v. absurd (omega (arith, w, v));
  is_put = is_put;
  has_put = λ p s. subst (λ p. (called example (attempt example p).call).put ≡ Some p) (sym (one_put p s)) refl;
  kept = λ p s. subst (λ p. (attempt example p).is_lost ≡ false) (sym (one_put p s)) refl;
  clock = clock;
  loaded = λ p s. subst (λ p. Stands example (attempt example p).load LoadClock (attempt example p).version) (sym (one_put p s)) (record { seat = 0; logged = refl });
  drawn = drawn;
  ends = ends;
  got = got;
  scanned = scanned;
  firsts = λ x y v w e. let a = first_at x v in let b = first_at y w in omega (arith, a, b, e);
  numbers = λ x y v w e f. let a = first_at x v in let b = first_at y w in omega (arith, a, b, e, f);
  begins = begins;
}
