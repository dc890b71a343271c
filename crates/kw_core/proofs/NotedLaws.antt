-- The history that is folded along keeps the laws.
use Rattle.std.proofs.Common.{ℕ, ◌≡◌, ◌≢◌, ◌+◌, ◌<◌, ◌≤◌, ◌⊎◌, inl, inr, [], ◌∷◌, ◌++◌, Some, None, true, arith, sym, ◌∙◌, ap, subst, length, set, refl, length-append}
use Rattle.std.proofs.lemmas.Bool.{cases_eq, cases_lt}
use Rattle.std.proofs.lemmas.List.{get_or-set_same, get_or-set_other, length-set, get_or_append_left}
use Rattle.std.proofs.Math.Seq.{get_or-append_seam}
use Rattle.kw_core.specs.History.{History, Logged, Attempt, CallLog, attempt, called, no_attempt, no_call}
use Rattle.kw_core.specs.Step.{AttemptStep, as_it_was, is_added, is_announced, is_lost, is_stamped, CallStep, begins, gets_put, ends, Step, Keeps}
use Rattle.kw_core.specs.Noted.{Change, Nothing, Begins, Adds, Announces, Loses, Stamps, Ends, noted, nothing_yet, MayLog, MayNote}
use Rattle.kw_core.proofs.StepLaws.{keeps, no_end, no_put, no_draw}
use Rattle.kw_core.proofs.Attempts.{in_range}

-- attempts after a write, and after a push
pub attempt_set_same : (h h' : History) (p : ℕ) (a : Attempt) → h'.attempts ≡ set h.attempts p a → p < length h.attempts → attempt h' p ≡ a
unfolding attempt
attempt_set_same h h' p a e w = rw e (get_or-set_same h.attempts p a no_attempt w)

-- another attempt
pub attempt_set_other : (h h' : History) (p q : ℕ) (a : Attempt) → h'.attempts ≡ set h.attempts p a → q ≢ p → attempt h' q ≡ attempt h q
unfolding attempt
attempt_set_other h h' p q a e n = rw e (get_or-set_other h.attempts p q a no_attempt n)

-- an old attempt
pub attempt_push_old : (h h' : History) (q : ℕ) (a : Attempt) → h'.attempts ≡ h.attempts ++ a ∷ [] → q < length h.attempts → attempt h' q ≡ attempt h q
unfolding attempt
attempt_push_old h h' q a e w = rw e (get_or_append_left h.attempts (a ∷ []) no_attempt q w)

-- the new attempt
pub attempt_push_new : (h h' : History) (q : ℕ) (a : Attempt) → h'.attempts ≡ h.attempts ++ a ∷ [] → q ≡ length h.attempts → attempt h' q ≡ a
unfolding attempt
attempt_push_new h h' q a e w = rw (e, w) (get_or-append_seam h.attempts a [] no_attempt)

-- an attempt of the same list
pub attempt_same : (h h' : History) (q : ℕ) → h'.attempts ≡ h.attempts → attempt h' q ≡ attempt h q
unfolding attempt
attempt_same h h' q e = rw e refl

-- calls after a write, and after a push
pub called_set_same : (h h' : History) (p : ℕ) (a : CallLog) → h'.calls ≡ set h.calls p a → p < length h.calls → called h' p ≡ a
unfolding called
called_set_same h h' p a e w = rw e (get_or-set_same h.calls p a no_call w)

-- another call
pub called_set_other : (h h' : History) (p q : ℕ) (a : CallLog) → h'.calls ≡ set h.calls p a → q ≢ p → called h' q ≡ called h q
unfolding called
called_set_other h h' p q a e n = rw e (get_or-set_other h.calls p q a no_call n)

-- an old call
pub called_push_old : (h h' : History) (q : ℕ) (a : CallLog) → h'.calls ≡ h.calls ++ a ∷ [] → q < length h.calls → called h' q ≡ called h q
unfolding called
called_push_old h h' q a e w = rw e (get_or_append_left h.calls (a ∷ []) no_call q w)

-- the new call
pub called_push_new : (h h' : History) (q : ℕ) (a : CallLog) → h'.calls ≡ h.calls ++ a ∷ [] → q ≡ length h.calls → called h' q ≡ a
unfolding called
called_push_new h h' q a e w = rw (e, w) (get_or-append_seam h.calls a [] no_call)

-- a call of the same list
pub called_same : (h h' : History) (q : ℕ) → h'.calls ≡ h.calls → called h' q ≡ called h q
unfolding called
called_same h h' q e = rw e refl

-- a place below one more is below, or the last
old_or_new : (n m x : ℕ) → m ≡ n + 1 → x < m → (x < n) ⊎ (x ≡ n)
old_or_new n m x e w = which (cases_lt x n)
  where
    which : (x < n) ⊎ (n ≤ x) → (x < n) ⊎ (x ≡ n)
    which (inl y) = inl y
    which (inr y) = inr (omega arith)

module _ (h : History) (e : Logged) (k : Keeps h) (m : MayLog h e) where
  -- attempts and calls that no one touched
  same_attempts : (h' : History) → h'.attempts ≡ h.attempts → (p : ℕ) → p < length h'.attempts → AttemptStep h h' p
  same_attempts h' f p w = as_it_was (omega (arith, w, ap length f)) (attempt_same h h' p f)

  -- and calls
  same_calls : (h' : History) → h'.calls ≡ h.calls → (x : ℕ) → x < length h'.calls → CallStep h h' e x
  same_calls h' f x w = as_it_was (omega (arith, w, ap length f)) (called_same h h' x f)

  -- one attempt is written
  one_attempt : (h' : History) (q : ℕ) (a : Attempt) → h'.attempts ≡ set h.attempts q a → (attempt h' q ≡ a → AttemptStep h h' q) → q < length h.attempts → (p : ℕ) → p < length h'.attempts → AttemptStep h h' p
  one_attempt h' q a f g v p w = which (cases_eq p q)
    where
      which : (p ≡ q) ⊎ (p ≡ q → ⊥) → AttemptStep h h' p
      which (inl i) = subst (AttemptStep h h') (sym i) (g (attempt_set_same h h' q a f v))
      which (inr n) = as_it_was (omega (arith, w, ap length f, length-set h.attempts q a)) (attempt_set_other h h' q p a f n)

  -- one call is written
  one_call : (h' : History) (y : ℕ) (c : CallLog) → h'.calls ≡ set h.calls y c → (called h' y ≡ c → CallStep h h' e y) → y < length h.calls → (x : ℕ) → x < length h'.calls → CallStep h h' e x
  one_call h' y c f g v x w = which (cases_eq x y)
    where
      which : (x ≡ y) ⊎ (x ≡ y → ⊥) → CallStep h h' e x
      which (inl i) = subst (CallStep h h' e) (sym i) (g (called_set_same h h' y c f v))
      which (inr n) = as_it_was (omega (arith, w, ap length f, length-set h.calls y c)) (called_set_other h h' y x c f n)

  -- a change that may happen is a step
  pub noted_step : (c : Change) → MayNote h e c → Step h (noted h e c) e
  noted_step Nothing a = record { log = refl; attempts = same_attempts (noted h e Nothing) refl; calls = same_calls (noted h e Nothing) refl; more_attempts = omega arith; more_calls = omega arith; clock = m.clock; draws = m.draws }
  noted_step (Begins seat number call) a = let h' = noted h e (Begins seat number call) in record {
    log = refl;
    attempts = same_attempts h' refl;
    calls = λ x w. at x (old_or_new (length h.calls) (length h'.calls) x (length-append h.calls _) w);
    more_attempts = omega arith;
    more_calls = omega (arith, length-append {A = CallLog});
    clock = m.clock;
    draws = m.draws;
  }
    where
      at : (x : ℕ) → (x < length h.calls) ⊎ (x ≡ length h.calls) → CallStep h (noted h e (Begins seat number call)) e x
      at x (inl v) = as_it_was v (called_push_old h (noted h e (Begins seat number call)) x _ refl v)
      at x (inr v) = begins _ v (called_push_new h (noted h e (Begins seat number call)) x _ refl v) refl refl refl refl a.0 a.1
  noted_step (Adds call seat key value row cell) a = let h' = noted h e (Adds call seat key value row cell) in record {
    log = refl;
    calls = same_calls h' refl;
    attempts = λ x w. at x (old_or_new (length h.attempts) (length h'.attempts) x (length-append h.attempts _) w);
    more_calls = omega arith;
    more_attempts = omega (arith, length-append {A = Attempt});
    clock = m.clock;
    draws = m.draws;
  }
    where
      at : (x : ℕ) → (x < length h.attempts) ⊎ (x ≡ length h.attempts) → AttemptStep h (noted h e (Adds call seat key value row cell)) x
      at x (inl v) = as_it_was v (attempt_push_old h (noted h e (Adds call seat key value row cell)) x _ refl v)
      at x (inr v) = is_added _ v (attempt_push_new h (noted h e (Adds call seat key value row cell)) x _ refl v) a.0 a.1 a.2 refl refl refl
  noted_step (Announces p) a = let h' = noted h e (Announces p) in record {
    log = refl;
    calls = same_calls h' refl;
    attempts = one_attempt h' p _ refl (λ f. is_announced a.0 a.1 f) a.0;
    more_calls = omega arith;
    more_attempts = omega (arith, length-set {A = Attempt});
    clock = m.clock;
    draws = m.draws;
  }
  noted_step (Loses p) a = let h' = noted h e (Loses p) in record {
    log = refl;
    calls = same_calls h' refl;
    attempts = one_attempt h' p _ refl (λ f. is_lost a.0 a.1 f) a.0;
    more_calls = omega arith;
    more_attempts = omega (arith, length-set {A = Attempt});
    clock = m.clock;
    draws = m.draws;
  }
  noted_step (Stamps p version load) a = let h' = noted h e (Stamps p version load) in record {
    log = refl;
    attempts = one_attempt h' p _ refl (λ f. is_stamped version load a.within a.is_announced a.not_stamped a.not_lost a.runs a.after a.stands f put) a.within;
    calls = one_call h' (attempt h p).call _ refl (λ f. gets_put p y a.no_put f a.runs (rw stamped refl) (rw stamped refl)) y;
    more_calls = omega (arith, length-set {A = CallLog});
    more_attempts = omega (arith, length-set {A = Attempt});
    clock = m.clock;
    draws = m.draws;
  }
    where
      y : (attempt h p).call < length h.calls
      y = (k.laws.attempted p a.within).call

      put : (called (noted h e (Stamps p version load)) (attempt h p).call).put ≡ Some p
      put = ap (λ (c : CallLog). c.put) (called_set_same h (noted h e (Stamps p version load)) (attempt h p).call _ refl y)

      stamped : attempt (noted h e (Stamps p version load)) p ≡ record (attempt h p) { is_stamped = true; version = version; load = load; at = length h.log }
      stamped = attempt_set_same h (noted h e (Stamps p version load)) p _ refl a.within
  noted_step (Ends x reply answer draw) a = let h' = noted h e (Ends x reply answer draw) in record {
    log = refl;
    attempts = same_attempts h' refl;
    calls = one_call h' x _ refl (λ f. ends reply answer draw a.0 a.1 f a.2 a.3 a.4) a.0;
    more_attempts = omega arith;
    more_calls = omega (arith, length-set {A = CallLog});
    clock = m.clock;
    draws = m.draws;
  }

  -- and so keeps the laws
  pub noted_keeps : (c : Change) → MayNote h e c → Keeps (noted h e c)
  noted_keeps c a = keeps h (noted h e c) e k (noted_step c a)

-- zero is least
none_at : (x : ℕ) → 0 ≤ x
none_at x = omega arith

-- where nothing happened yet, the laws hold
pub nothing_keeps : Keeps nothing_yet
nothing_keeps = record {
  laws = record {
    attempted = λ p w. absurd (omega arith);
    adds = λ p q v w. absurd (omega arith);
    is_put = λ x p f. let z : None ≡ Some p = sym (no_put nothing_yet x (none_at x)) ∙ f in absurd (cc);
    has_put = λ p t. let w = in_range nothing_yet p t in absurd (omega (arith, w));
    kept = λ p t. let w = in_range nothing_yet p t in absurd (omega (arith, w));
    clock = λ x y a b c d t u w. let z : None ≡ Some (record { seat = t.seat; kind = a; clock = c }) = t.logged in absurd (cc);
    loaded = λ p t. let w = in_range nothing_yet p t in absurd (omega (arith, w));
    drawn = λ x d f. let z : None ≡ Some d = sym (no_draw nothing_yet x (none_at x)) ∙ f in absurd (cc);
    ends = λ x d f. let z : None ≡ Some d = sym (no_end nothing_yet x (none_at x)) ∙ f in absurd (cc);
    got = λ x key at r a. let z : None ≡ Some (record { at = at; reply = r }) = sym (no_end nothing_yet x (none_at x)) ∙ a.1 in absurd (cc);
    scanned = λ x from to at ps a. let z = sym (no_end nothing_yet x (none_at x)) ∙ a.1 in absurd (cc);
    firsts = λ x y v w f. absurd (omega arith);
    numbers = λ x y v w f g. absurd (omega arith);
    begins = λ x v. absurd (omega arith);
  };
  past = record { add = λ p w. absurd (omega arith); announced = λ p w t. absurd (omega arith); at = λ p w t. absurd (omega arith); first = λ x w. absurd (omega arith) };
}
