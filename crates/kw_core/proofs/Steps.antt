-- The laws of a history are kept by each event.
use Rattle.std.proofs.Common.{ℕ, zero, suc, ◌≡◌, ◌+◌, ◌<◌, ◌≤◌, ◌⊎◌, inl, inr, List, [], ◌∷◌, ◌++◌, Option, Some, None, true, false, arith, sym, ◌∙◌, ap, subst, length, slice_get, refl, length-append}
use Rattle.std.proofs.lemmas.Bool.{cases_lt}
use Rattle.std.proofs.lemmas.Option.{same_Some, slice_get_within}
use Rattle.std.proofs.lemmas.List.{get_or_past}
use Rattle.kw_core.specs.History.{History, Logged, Attempt, End, Kind, attempt, called, no_attempt, Stands}
use Rattle.kw_core.specs.Grows.{AttemptGrows, Grows}
use Rattle.kw_core.specs.Step.{now, AttemptStep, as_it_was, is_added, is_announced, is_lost, is_stamped, CallStep, begins, gets_put, ends, Step}

-- the log with one more entry
get-append_old : (es : List Logged) (e : Logged) (x : ℕ) (d : Logged) → slice_get es x ≡ Some d → slice_get (es ++ e ∷ []) x ≡ Some d
get-append_old [] e x d s = let z : None ≡ Some d = s in absurd (cc)
get-append_old (c ∷ es) e zero d s = s
get-append_old (c ∷ es) e (suc x) d s = get-append_old es e x d s

-- what stands in a list with one more element
get-append_cases : (es : List Logged) (e : Logged) (x : ℕ) (d : Logged) → slice_get (es ++ e ∷ []) x ≡ Some d → (slice_get es x ≡ Some d) ⊎ ((x ≡ length es) × (e ≡ d))
get-append_cases [] e zero d s = inr (refl, same_Some e d s)
get-append_cases [] e (suc x) d s = let z : None ≡ Some d = s in absurd (cc)
get-append_cases (c ∷ es) e zero d s = inl s
get-append_cases (c ∷ es) e (suc x) d s = which (get-append_cases es e x d s)
  where
    which : (slice_get es x ≡ Some d) ⊎ ((x ≡ length es) × (e ≡ d)) → (slice_get es x ≡ Some d) ⊎ ((suc x ≡ suc (length es)) × (e ≡ d))
    which (inl f) = inl f
    which (inr f) = inr (ap suc f.0, f.1)

-- what stood still stands
pub stands_lasts : (h h' : History) (e : Logged) → Step h h' e → (x : ℕ) (k : Kind) (c : ℕ) → Stands h x k c → Stands h' x k c
stands_lasts h h' e s x k c t = record { seat = t.seat; logged = subst (λ es. slice_get es x ≡ Some (record { seat = t.seat; kind = k; clock = c })) (sym s.log) (get-append_old h.log e x _ t.logged) }

-- what stands is past
pub stands_before : (h : History) (x : ℕ) (k : Kind) (c : ℕ) → Stands h x k c → x < now h
stands_before h x k c t = slice_get_within h.log x _ t.logged

-- what stands before now stood
pub stands_was : (h h' : History) (e : Logged) → Step h h' e → (x : ℕ) (k : Kind) (c : ℕ) → Stands h' x k c → Stands h x k c ⊎ ((x ≡ now h) × (k ≡ e.kind) × (c ≡ e.clock))
stands_was h h' e s x k c t = which (get-append_cases h.log e x _ (subst (λ es. slice_get es x ≡ Some (record { seat = t.seat; kind = k; clock = c })) s.log t.logged))
  where
    which : (slice_get h.log x ≡ Some (record { seat = t.seat; kind = k; clock = c })) ⊎ ((x ≡ length h.log) × (e ≡ record { seat = t.seat; kind = k; clock = c })) → Stands h x k c ⊎ ((x ≡ now h) × (k ≡ e.kind) × (c ≡ e.clock))
    which (inl f) = inl (record { seat = t.seat; logged = f })
    which (inr f) = inr (f.0, ap (λ (q : Logged). q.kind) (sym f.1), ap (λ (q : Logged). q.clock) (sym f.1))

-- the new event stands at its place
pub new_stands : (h h' : History) (e : Logged) → Step h h' e → Stands h' (now h) e.kind e.clock
new_stands h h' e s = record { seat = e.seat; logged = subst (λ es. slice_get es (length h.log) ≡ Some e) (sym s.log) (at h.log) }
  where
    at : (es : List Logged) → slice_get (es ++ e ∷ []) (length es) ≡ Some e
    at [] = refl
    at (c ∷ es) = at es

-- one event more
pub now_grows : (h h' : History) (e : Logged) → Step h h' e → now h' ≡ now h + 1
now_grows h h' e s = let a = ap length s.log in omega (arith, a, length-append h.log (e ∷ []))

-- an announced attempt is one of the list
pub announced_within : (h : History) (p : ℕ) → (attempt h p).is_announced ≡ true → p < length h.attempts
unfolding attempt no_attempt
announced_within h p s = which (cases_lt p (length h.attempts))
  where
    which : (p < length h.attempts) ⊎ (length h.attempts ≤ p) → p < length h.attempts
    which (inl x) = x
    which (inr x) = let e : attempt h p ≡ no_attempt = get_or_past h.attempts p no_attempt x in let f : false ≡ true = sym (ap (λ (q : Attempt). q.is_announced) e) ∙ s in absurd (cc)

-- so is one that is stamped
pub stamped_within : (h : History) (p : ℕ) → (attempt h p).is_stamped ≡ true → p < length h.attempts
unfolding attempt no_attempt
stamped_within h p s = which (cases_lt p (length h.attempts))
  where
    which : (p < length h.attempts) ⊎ (length h.attempts ≤ p) → p < length h.attempts
    which (inl x) = x
    which (inr x) = let e : attempt h p ≡ no_attempt = get_or_past h.attempts p no_attempt x in let f : false ≡ true = sym (ap (λ (q : Attempt). q.is_stamped) e) ∙ s in absurd (cc)

-- what stays of an attempt
pub record Stays (h h' : History) (p : ℕ) : Type 0 where
  pub grows : AttemptGrows h h' (now h) p
  pub call : (attempt h' p).call ≡ (attempt h p).call
  pub seat : (attempt h' p).seat ≡ (attempt h p).seat
  pub newly : (attempt h' p).is_announced ≡ true → (attempt h' p).announced < now h → (attempt h p).is_announced ≡ true

-- an old attempt keeps what is known of it
pub attempt_stays : (h h' : History) (p : ℕ) → p < length h.attempts → AttemptStep h h' p → Stays h h' p
attempt_stays h h' p w (as_it_was v e) = record {
  grows = record { key = rw e refl; value = rw e refl; add = rw e refl; announced = λ a. (rw e a, rw e refl); stamped = λ a. (rw e a, rw e refl, rw e refl, rw e refl); lost = λ a. rw e a };
  call = rw e refl;
  seat = rw e refl;
  newly = λ a b. rw e at a;
}
attempt_stays h h' p w (is_added a n e c s m x y z) = absurd (omega (arith, w, n))
attempt_stays h h' p w (is_announced v n e) = record {
  grows = record { key = rw e refl; value = rw e refl; add = rw e refl; announced = λ a. let z : false ≡ true = sym n ∙ a in absurd (cc); stamped = λ a. (rw e a, rw e refl, rw e refl, rw e refl); lost = λ a. rw e a };
  call = rw e refl;
  seat = rw e refl;
  newly = λ a b. let z = ap (λ (q : Attempt). q.announced) e in absurd (omega (arith, z, b));
}
attempt_stays h h' p w (is_lost v n e) = record {
  grows = record { key = rw e refl; value = rw e refl; add = rw e refl; announced = λ a. (rw e a, rw e refl); stamped = λ a. (rw e a, rw e refl, rw e refl, rw e refl); lost = λ a. rw e refl };
  call = rw e refl;
  seat = rw e refl;
  newly = λ a b. rw e at a;
}
attempt_stays h h' p w (is_stamped version load v a n k r x y e put) = record {
  grows = record { key = rw e refl; value = rw e refl; add = rw e refl; announced = λ a. (rw e a, rw e refl); stamped = λ a. let z : false ≡ true = sym n ∙ a in absurd (cc); lost = λ a. rw e a };
  call = rw e refl;
  seat = rw e refl;
  newly = λ a b. rw e at a;
}

-- each one
pub old_stays : (h h' : History) (e : Logged) → Step h h' e → (p : ℕ) → p < length h.attempts → Stays h h' p
old_stays h h' e s p w = attempt_stays h h' p w (s.attempts p (omega (arith, w, s.more_attempts)))

-- what stays of a call
pub record CallStays (h h' : History) (x : ℕ) : Type 0 where
  pub seat : (called h' x).seat ≡ (called h x).seat
  pub number : (called h' x).number ≡ (called h x).number
  pub call : (called h' x).call ≡ (called h x).call
  pub first : (called h' x).first ≡ (called h x).first
  pub put : (p : ℕ) → (called h x).put ≡ Some p → (called h' x).put ≡ Some p
  pub end : (e : End) → (called h' x).end ≡ Some e → ((called h' x).end ≡ (called h x).end) × ((called h' x).answer ≡ (called h x).answer) × ((called h' x).draw ≡ (called h x).draw) × ((called h' x).put ≡ (called h x).put)
      ⊎ ((called h x).end ≡ None) × (e.at ≡ now h) × ((called h' x).put ≡ (called h x).put)

-- nothing is not something
pub none_some : {A : Type 0} (o : Option A) (a : A) → o ≡ None → o ≡ Some a → ⊥
none_some o a n s = let z : None ≡ Some a = sym n ∙ s in cc

-- an old call keeps what is known of it
call_stays : (h h' : History) (e : Logged) (x : ℕ) → x < length h.calls → CallStep h h' e x → CallStays h h' x
call_stays h h' e x w (as_it_was v f) = record { seat = rw f refl; number = rw f refl; call = rw f refl; first = rw f refl; put = λ p q. rw f q; end = λ d q. inl (rw f refl, rw f refl, rw f refl, rw f refl) }
call_stays h h' e x w (begins c n f a b d g k m) = absurd (omega (arith, w, n))
call_stays h h' e x w (gets_put p v n f r i j) = record {
  seat = rw f refl;
  number = rw f refl;
  call = rw f refl;
  first = rw f refl;
  put = λ q t. absurd (none_some _ q n t);
  end = λ d q. absurd (none_some _ d r (rw f at q));
}
call_stays h h' e x w (ends reply answer draw v n f a b m) = record {
  seat = rw f refl;
  number = rw f refl;
  call = rw f refl;
  first = rw f refl;
  put = λ q t. rw f t;
  end = λ d q. let z : Some (record { at = now h; reply = reply }) ≡ Some d = rw f at q in inr (n, ap (λ (c : End). c.at) (sym (same_Some _ d z)), rw f refl);
}

-- each one
pub old_call : (h h' : History) (e : Logged) → Step h h' e → (x : ℕ) → x < length h.calls → CallStays h h' x
old_call h h' e s x w = call_stays h h' e x w (s.calls x (omega (arith, w, s.more_calls)))

-- what was announced stays, and what is announced now stands at `now`
pub step_grows : (h h' : History) (e : Logged) → Step h h' e → Grows h h' (now h)
step_grows h h' e s = record { old = λ p w. (old_stays h h' e s p w).grows; newly = λ q a w. newly q a w }
  where
    within : (q : ℕ) → (attempt h' q).is_announced ≡ true → q < length h'.attempts
    within q a = announced_within h' q a

    newly : (q : ℕ) → (attempt h' q).is_announced ≡ true → (attempt h' q).announced < now h → (q < length h.attempts) × ((attempt h q).is_announced ≡ true)
    newly q a w = which (s.attempts q (within q a))
      where
        which : AttemptStep h h' q → (q < length h.attempts) × ((attempt h q).is_announced ≡ true)
        which (as_it_was v f) = (v, rw f at a)
        which (is_added d n f c t m x y z) = let u : false ≡ true = sym y ∙ (rw f at a) in absurd (cc)
        which (is_announced v n f) = let z = ap (λ (q : Attempt). q.announced) f in absurd (omega (arith, z, w))
        which (is_lost v n f) = (v, rw f at a)
        which (is_stamped version load v b n k r x y f put) = (v, b)
