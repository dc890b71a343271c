-- The laws of a history are kept by each event.
use Rattle.std.proofs.Common.{ℕ, ◌≡◌, ◌≢◌, ◌+◌, ◌<◌, ◌≤◌, ◌⊎◌, inl, inr, List, Option, Some, None, Bool, true, false, arith, sym, ◌∙◌, ap, subst, length, refl}
use Rattle.std.proofs.lemmas.Bool.{cases_lt}
use Rattle.std.proofs.lemmas.Option.{same_Some}
use Rattle.std.proofs.lemmas.List.{get_or_past}
use Rattle.kw_core.specs.History.{History, Logged, Attempt, CallLog, End, Drawn, Kind, LoadEpoch, LoadClock, Get, Scan, Reply, Value, Pairs, attempt, called, no_call, Stands}
use Rattle.kw_core.specs.HistoryLaws.{Attempted, Got, Scanned, IsPut, IsPutOf, IsGapOf, Makes, Answers, GetKey, ScanKey, RisesWithin, DrawLogged, EndsWith}
use Rattle.kw_core.specs.Grows.{Grows}
use Rattle.kw_core.specs.Step.{now, AttemptStep, as_it_was, is_added, is_announced, is_lost, is_stamped, MayEnd, CallStep, begins, gets_put, ends, Step, Keeps}
use Rattle.kw_core.proofs.Attempts.{in_range}
use Rattle.kw_core.proofs.Lasts.{get_lasts, scan_lasts}
use Rattle.kw_core.proofs.Steps.{stands_lasts, stands_before, stands_was, new_stands, now_grows, Stays, old_stays, CallStays, old_call, none_some, step_grows}

-- no test is both
pub false_true : {A : Type 0} (b : Bool) → b ≡ false → b ≡ true → A
false_true b f t = let z : false ≡ true = sym f ∙ t in absurd (cc)

-- past the end of the list there is no call
past_is : (h : History) (x : ℕ) → length h.calls ≤ x → called h x ≡ no_call
unfolding called
past_is h x past = get_or_past h.calls x no_call past

-- so it has no put
pub no_put : (h : History) (x : ℕ) → length h.calls ≤ x → (called h x).put ≡ None
unfolding no_call
no_put h x past = ap (λ (c : CallLog). c.put) (past_is h x past)

-- no end
pub no_end : (h : History) (x : ℕ) → length h.calls ≤ x → (called h x).end ≡ None
unfolding no_call
no_end h x past = ap (λ (c : CallLog). c.end) (past_is h x past)

-- and no draw
pub no_draw : (h : History) (x : ℕ) → length h.calls ≤ x → (called h x).draw ≡ None
unfolding no_call
no_draw h x past = ap (λ (c : CallLog). c.draw) (past_is h x past)

module _ (h h' : History) (e : Logged) (k : Keeps h) (s : Step h h' e) where
  -- the first facts of an attempt that was there
  record Base (p : ℕ) : Type 0 where
    call : (attempt h' p).call < length h'.calls
    seat : (called h' (attempt h' p).call).seat ≡ (attempt h' p).seat
    makes : Makes (called h' (attempt h' p).call).call (attempt h' p).key (attempt h' p).value
    -- how a call began
    begun : (called h' (attempt h' p).call).first < (attempt h' p).add

  -- what was known of each old attempt
  base : (p : ℕ) → p < length h.attempts → Base p
  base p w = record {
    call = omega (arith, st.call, t.call, s.more_calls);
    seat = ap (λ q. (called h' q).seat) st.call ∙ cs.seat ∙ t.seat ∙ sym st.seat;
    makes = subst (λ a. Makes a (attempt h' p).key (attempt h' p).value) (sym (ap (λ q. (called h' q).call) st.call ∙ cs.call))
        (subst (λ n. Makes (called h (attempt h p).call).call n (attempt h' p).value) (sym st.grows.key) (subst (λ v. Makes (called h (attempt h p).call).call (attempt h p).key v) (sym st.grows.value) t.makes));
    begun = omega (arith, t.begun, ap (λ q. (called h' q).first) st.call, cs.first, st.grows.add);
  }
    where
      t : Attempted h p
      t = k.laws.attempted p w

      st : Stays h h' p
      st = old_stays h h' e s p w

      cs : CallStays h h' (attempt h p).call
      cs = old_call h h' e s (attempt h p).call t.call

  -- a put that was stamped before the end of its call
  old_end : (p : ℕ) (w : p < length h.attempts) → IsPut h p → (d : End) → (called h' (attempt h' p).call).end ≡ Some d → (attempt h' p).at < d.at
  old_end p w t d f = which (cs.end d (subst (λ q. (called h' q).end ≡ Some d) st.call f))
    where
      st : Stays h h' p
      st = old_stays h h' e s p w

      cs : CallStays h h' (attempt h p).call
      cs = old_call h h' e s (attempt h p).call (k.laws.attempted p w).call

      which : ((called h' (attempt h p).call).end ≡ (called h (attempt h p).call).end) × ((called h' (attempt h p).call).answer ≡ (called h (attempt h p).call).answer) × ((called h' (attempt h p).call).draw ≡ (called h (attempt h p).call).draw) × ((called h' (attempt h p).call).put ≡ (called h (attempt h p).call).put)
          ⊎ ((called h (attempt h p).call).end ≡ None) × (d.at ≡ now h) × ((called h' (attempt h p).call).put ≡ (called h (attempt h p).call).put) → (attempt h' p).at < d.at
      which (inl a) = omega (arith, (st.grows.stamped t).3, (k.laws.attempted p w).end t d (sym a.0 ∙ subst (λ q. (called h' q).end ≡ Some d) st.call f))
      which (inr a) = omega (arith, (st.grows.stamped t).3, k.past.at p w t, a.1)

  -- one that is stamped now: its call has not ended
  new_end : (p : ℕ) → p < length h.attempts → (attempt h p).is_stamped ≡ false → (called h (attempt h p).call).end ≡ None → (called h' (attempt h p).call).put ≡ Some p → (d : End) → (called h' (attempt h' p).call).end ≡ Some d → ⊥
  new_end p w n r put d f = which (cs.end d g)
    where
      st : Stays h h' p
      st = old_stays h h' e s p w

      cs : CallStays h h' (attempt h p).call
      cs = old_call h h' e s (attempt h p).call (k.laws.attempted p w).call

      g : (called h' (attempt h p).call).end ≡ Some d
      g = subst (λ q. (called h' q).end ≡ Some d) st.call f

      which : ((called h' (attempt h p).call).end ≡ (called h (attempt h p).call).end) × ((called h' (attempt h p).call).answer ≡ (called h (attempt h p).call).answer) × ((called h' (attempt h p).call).draw ≡ (called h (attempt h p).call).draw) × ((called h' (attempt h p).call).put ≡ (called h (attempt h p).call).put)
          ⊎ ((called h (attempt h p).call).end ≡ None) × (d.at ≡ now h) × ((called h' (attempt h p).call).put ≡ (called h (attempt h p).call).put) → ⊥
      which (inl a) = none_some _ d r (sym a.0 ∙ g)
      which (inr a) = false_true _ n (k.laws.is_put (attempt h p).call p (sym a.2 ∙ put)).0

  -- the times of an attempt, by what happened to it
  attempted_at : (p : ℕ) → AttemptStep h h' p → Attempted h' p
  attempted_at p (as_it_was v f) = let t = k.laws.attempted p v in let b = base p v in record {
    call = b.call;
    seat = b.seat;
    makes = b.makes;
    begun = b.begun;
    announced = λ a. rw f (t.announced (rw f at a));
    is_announced = λ a. rw f (t.is_announced (rw f at a));
    load = λ a. rw f (t.load (rw f at a));
    at = λ a. rw f (t.at (rw f at a));
    end = λ a d g. old_end p v (rw f at a) d g;
  }
  attempted_at p (is_added a n f c m x y z w) = let cs = old_call h h' e s a.call c in record {
    call = rw f (omega (arith, c, s.more_calls));
    seat = rw f (cs.seat ∙ m);
    makes = rw f (subst (λ q. Makes q a.key a.value) (sym cs.call) x);
    begun = rw f (omega (arith, cs.first, k.past.first a.call c, y));
    announced = λ t. false_true _ z (rw f at t);
    is_announced = λ t. false_true _ w (rw f at t);
    load = λ t. false_true _ w (rw f at t);
    at = λ t. false_true _ w (rw f at t);
    end = λ t d g. false_true _ w (rw f at t);
  }
  attempted_at p (is_announced v n f) = let t = k.laws.attempted p v in let b = base p v in record {
    call = b.call;
    seat = b.seat;
    makes = b.makes;
    begun = b.begun;
    announced = λ a. rw f (k.past.add p v);
    is_announced = λ a. rw f refl;
    load = λ a. false_true _ n (t.is_announced (rw f at a));
    at = λ a. false_true _ n (t.is_announced (rw f at a));
    end = λ a d g. false_true _ n (t.is_announced (rw f at a));
  }
  attempted_at p (is_lost v n f) = let t = k.laws.attempted p v in let b = base p v in record {
    call = b.call;
    seat = b.seat;
    makes = b.makes;
    begun = b.begun;
    announced = λ a. rw f (t.announced (rw f at a));
    is_announced = λ a. rw f (t.is_announced (rw f at a));
    load = λ a. rw f (t.load (rw f at a));
    at = λ a. rw f (t.at (rw f at a));
    end = λ a d g. old_end p v (rw f at a) d g;
  }
  attempted_at p (is_stamped version load v an n l r x y f put) = let t = k.laws.attempted p v in let b = base p v in record {
    call = b.call;
    seat = b.seat;
    makes = b.makes;
    begun = b.begun;
    announced = λ a. rw f (t.announced an);
    is_announced = λ a. rw f an;
    load = λ a. rw f x;
    at = λ a. rw f (stands_before h load LoadClock version y);
    end = λ a d g. absurd (new_end p v n r put d g);
  }

  -- the times of each attempt
  attempted : (p : ℕ) → p < length h'.attempts → Attempted h' p
  attempted p w = attempted_at p (s.attempts p w)

  -- an attempt was there, or was added now
  add_of : (p : ℕ) → p < length h'.attempts → ((p < length h.attempts) × ((attempt h' p).add ≡ (attempt h p).add)) ⊎ ((p ≡ length h.attempts) × ((attempt h' p).add ≡ now h))
  add_of p w = which (s.attempts p w)
    where
      which : AttemptStep h h' p → ((p < length h.attempts) × ((attempt h' p).add ≡ (attempt h p).add)) ⊎ ((p ≡ length h.attempts) × ((attempt h' p).add ≡ now h))
      which (as_it_was v f) = inl (v, rw f refl)
      which (is_added a n f c m x y z u) = inr (n, rw f y)
      which (is_announced v n f) = inl (v, rw f refl)
      which (is_lost v n f) = inl (v, rw f refl)
      which (is_stamped version load v an n l r x y f put) = inl (v, rw f refl)

  -- adds rise
  adds : (p q : ℕ) → p < q → q < length h'.attempts → (attempt h' p).add < (attempt h' q).add
  adds p q w v = which (add_of p (omega arith)) (add_of q v)
    where
      which : ((p < length h.attempts) × ((attempt h' p).add ≡ (attempt h p).add)) ⊎ ((p ≡ length h.attempts) × ((attempt h' p).add ≡ now h)) → ((q < length h.attempts) × ((attempt h' q).add ≡ (attempt h q).add)) ⊎ ((q ≡ length h.attempts) × ((attempt h' q).add ≡ now h)) → (attempt h' p).add < (attempt h' q).add
      which (inl a) (inl b) = omega (arith, k.laws.adds p q w b.0, a.1, b.1)
      which (inl a) (inr b) = omega (arith, k.past.add p a.0, a.1, b.1)
      which (inr a) _ = absurd (omega (arith, a.0, w, v, s_length))
        where
          s_length : q < length h.attempts + 1
          s_length = at (add_of q v)
            where
              at : ((q < length h.attempts) × ((attempt h' q).add ≡ (attempt h q).add)) ⊎ ((q ≡ length h.attempts) × ((attempt h' q).add ≡ now h)) → q < length h.attempts + 1
              at (inl c) = omega (arith, c.0)
              at (inr c) = omega (arith, c.0)

  -- a stamped attempt stays the put of its call
  put_lasts : (x p : ℕ) → IsPut h p × ((attempt h p).call ≡ x) → IsPut h' p × ((attempt h' p).call ≡ x)
  put_lasts x p a = let st = old_stays h h' e s p (in_range h p a.0) in ((st.grows.stamped a.0).0, st.call ∙ a.1)

  -- a put of a call is its attempt
  is_put : (x p : ℕ) → (called h' x).put ≡ Some p → IsPut h' p × ((attempt h' p).call ≡ x)
  is_put x p a = which (cases_lt x (length h'.calls))
    where
      at : CallStep h h' e x → IsPut h' p × ((attempt h' p).call ≡ x)
      at (as_it_was v f) = put_lasts x p (k.laws.is_put x p (rw f at a))
      at (begins c n f x' y z d m q) = absurd (none_some _ p z (rw f at a))
      at (gets_put q v n f r i j) = let z : q ≡ p = same_Some q p (rw f at a) in subst (λ p. IsPut h' p × ((attempt h' p).call ≡ x)) z (i, j)
      at (ends reply answer draw v n f y z m) = put_lasts x p (k.laws.is_put x p (rw f at a))

      which : (x < length h'.calls) ⊎ (length h'.calls ≤ x) → IsPut h' p × ((attempt h' p).call ≡ x)
      which (inl w) = at (s.calls x w)
      which (inr past) = absurd (none_some _ p (no_put h' x past) a)

  -- the call of a put that stays
  has_old : (p : ℕ) → p < length h.attempts → IsPut h p → (called h' (attempt h' p).call).put ≡ Some p
  has_old p v t = let st = old_stays h h' e s p v in let cs = old_call h h' e s (attempt h p).call (k.laws.attempted p v).call in subst (λ q. (called h' q).put ≡ Some p) (sym st.call) (cs.put p (k.laws.has_put p t))

  -- and the other way round
  has_put : (p : ℕ) → IsPut h' p → (called h' (attempt h' p).call).put ≡ Some p
  has_put p t = at (s.attempts p (in_range h' p t))
    where
      at : AttemptStep h h' p → (called h' (attempt h' p).call).put ≡ Some p
      at (as_it_was v f) = has_old p v (rw f at t)
      at (is_added a n f c m x y z w) = false_true _ w (rw f at t)
      at (is_announced v n f) = has_old p v (rw f at t)
      at (is_lost v n f) = has_old p v (rw f at t)
      at (is_stamped version load v an n l r x y f put) = subst (λ q. (called h' q).put ≡ Some p) (sym (old_stays h h' e s p v).call) put

  -- no put is lost
  kept : (p : ℕ) → IsPut h' p → (attempt h' p).is_lost ≡ false
  kept p t = at (s.attempts p (in_range h' p t))
    where
      at : AttemptStep h h' p → (attempt h' p).is_lost ≡ false
      at (as_it_was v f) = rw f (k.laws.kept p (rw f at t))
      at (is_added a n f c m x y z w) = false_true _ w (rw f at t)
      at (is_announced v n f) = rw f (k.laws.kept p (rw f at t))
      at (is_lost v n f) = false_true _ n (rw f at t)
      at (is_stamped version load v an n l r x y f put) = rw f l

  -- the clock does not fall
  clock : (x y : ℕ) (a b : Kind) (c d : ℕ) → Stands h' x a c → Stands h' y b d → x ≤ y → c ≤ d
  clock x y a b c d t u w = which (stands_was h h' e s x a c t) (stands_was h h' e s y b d u)
    where
      which : Stands h x a c ⊎ ((x ≡ now h) × (a ≡ e.kind) × (c ≡ e.clock)) → Stands h y b d ⊎ ((y ≡ now h) × (b ≡ e.kind) × (d ≡ e.clock)) → c ≤ d
      which (inl i) (inl j) = k.laws.clock x y a b c d i j w
      which (inl i) (inr j) = omega (arith, s.clock x a c i, j.2)
      which (inr i) (inl j) = absurd (omega (arith, i.0, w, stands_before h y b d j))
      which (inr i) (inr j) = omega (arith, i.2, j.2)

  -- a version was loaded from the clock
  loaded : (p : ℕ) → IsPut h' p → Stands h' (attempt h' p).load LoadClock (attempt h' p).version
  loaded p t = at (s.attempts p (in_range h' p t))
    where
      at : AttemptStep h h' p → Stands h' (attempt h' p).load LoadClock (attempt h' p).version
      at (as_it_was v f) = rw f (stands_lasts h h' e s _ LoadClock _ (k.laws.loaded p (rw f at t)))
      at (is_added a n f c m x y z w) = false_true _ w (rw f at t)
      at (is_announced v n f) = rw f (stands_lasts h h' e s _ LoadClock _ (k.laws.loaded p (rw f at t)))
      at (is_lost v n f) = false_true _ n (rw f at t)
      at (is_stamped version load v an n l r x y f put) = rw f (stands_lasts h h' e s load LoadClock version y)

  -- a draw stays below the clock
  draw_lasts : (d : Drawn) → DrawLogged h d → d.version < e.clock → DrawLogged h' d
  draw_lasts d g w = record { kind = g.kind; is_draw = g.is_draw; stands = stands_lasts h h' e s d.at g.kind d.version g.stands; later = λ y a c v t. later y a c v (stands_was h h' e s y a c t) }
    where
      later : (y : ℕ) (a : Kind) (c : ℕ) → d.at < y → Stands h y a c ⊎ ((y ≡ now h) × (a ≡ e.kind) × (c ≡ e.clock)) → d.version < c
      later y a c v (inl t) = g.later y a c v t
      later y a c v (inr t) = omega (arith, w, t.2)

  -- a version was drawn
  drawn : (x : ℕ) (d : Drawn) → (called h' x).draw ≡ Some d → DrawLogged h' d
  drawn x d a = which (cases_lt x (length h'.calls))
    where
      old : (called h x).draw ≡ Some d → DrawLogged h' d
      old b = draw_lasts d (k.laws.drawn x d b) (s.draws x d b)

      at : CallStep h h' e x → DrawLogged h' d
      at (as_it_was v f) = old (rw f at a)
      at (begins c n f x' y z g m q) = absurd (none_some _ d g (rw f at a))
      at (gets_put q v n f r i j) = old (rw f at a)
      at (ends reply answer draw v n f y z m) = let g = z d (rw f at a) in draw_lasts d g.0 g.1

      which : (x < length h'.calls) ⊎ (length h'.calls ≤ x) → DrawLogged h' d
      which (inl w) = at (s.calls x w)
      which (inr past) = absurd (none_some _ d (no_draw h' x past) a)

  -- a call that ended earlier, or ends now
  ended : (x : ℕ) (d : End) → (called h' x).end ≡ Some d → CallStep h h' e x
  ended x d a = which (cases_lt x (length h'.calls))
    where
      which : (x < length h'.calls) ⊎ (length h'.calls ≤ x) → CallStep h h' e x
      which (inl w) = s.calls x w
      which (inr past) = absurd (none_some _ d (no_end h' x past) a)

  -- each reply fits its call
  ends_law : (x : ℕ) (d : End) → (called h' x).end ≡ Some d → ((called h' x).first < d.at) × Answers (called h' x).call (called h' x).put d.reply
  ends_law x d a = at (ended x d a)
    where
      at : CallStep h h' e x → ((called h' x).first < d.at) × Answers (called h' x).call (called h' x).put d.reply
      at (as_it_was v f) = rw f (k.laws.ends x d (rw f at a))
      at (begins c n f x' y z g m q) = absurd (none_some _ d y (rw f at a))
      at (gets_put q v n f r i j) = absurd (none_some _ d r (rw f at a))
      at (ends reply answer draw v n f y z m) =
          let g : record { at = now h; reply = reply } ≡ d = same_Some _ d (rw f at a) in
          subst (λ (d : End). ((called h' x).first < d.at) × Answers (called h' x).call (called h' x).put d.reply) g (rw f (k.past.first x v, y))

  -- the put before a gap was stamped before
  gap_before : (key : ℕ) (o : Option ℕ) (at : ℕ) → IsGapOf h key o → ((p : ℕ) → o ≡ Some p → (attempt h p).at < at) → (p : ℕ) → o ≡ Some p → (attempt h' p).at < at
  gap_before key o at g w p n = let t : IsPutOf h key p = subst (IsGapOf h key) n g in omega (arith, w p n, ((old_stays h h' e s p (in_range h p t.is_put)).grows.stamped t.is_put).3)

  -- what a get answered
  got : (x key at : ℕ) (reply : Reply) → EndsWith h' x (Get key) at reply → Got h' x key at reply
  got x key at reply a = which (ended x _ a.1)
    where
      grows : Grows h h' (now h)
      grows = step_grows h h' e s

      which : CallStep h h' e x → Got h' x key at reply
      which (as_it_was v f) = let g = k.laws.got x key at reply (rw f at a.0, rw f at a.1) in record {
        gap = g.gap;
        knows = rw f (get_lasts h h' (now h) key (called h x).first reply g.gap grows (omega (arith, k.past.first x v)) g.knows);
        before_end = gap_before key g.gap at g.knows.gap g.before_end;
        answer = λ v r. rw f (g.answer v r);
      }
      which (begins c n f x' y z g m q) = absurd (none_some _ _ y (rw f at a.1))
      which (gets_put q v n f r i j) = absurd (none_some _ _ r (rw f at a.1))
      which (ends reply' answer draw v n f y z m) =
          let b = same_Some _ _ (rw f at a.1) in
          let t : now h ≡ at = ap (λ (d : End). d.at) b in
          let r : reply' ≡ reply = ap (λ (d : End). d.reply) b in
          let c : (called h x).call ≡ Get key = rw f at a.0 in
          from t (subst (λ q. MayEnd h (Get key) (called h x).first q answer draw) r (subst (λ q. MayEnd h q (called h x).first reply' answer draw) c m))
        where
          from : now h ≡ at → (gap : Option ℕ) × GetKey h key (called h x).first reply gap × ((v : ℕ) → reply ≡ Value v → answer ≡ gap) → Got h' x key at reply
          from t (gap, g, w) = record {
            gap = gap;
            knows = rw f (get_lasts h h' (now h) key (called h x).first reply gap grows (omega (arith, k.past.first x v)) g);
            before_end = gap_before key gap at g.gap (λ p n. let u : IsPutOf h key p = subst (IsGapOf h key) n g.gap in omega (arith, t, k.past.at p (in_range h p u.is_put) u.is_put));
            answer = λ v r. rw f (w v r);
          }

  -- what a scan gave
  scanned : (x from to at : ℕ) (pairs : List (ℕ × ℕ)) → EndsWith h' x (Scan from to) at (Pairs pairs) → Scanned h' x from to at pairs
  scanned x from to at pairs a = which (ended x _ a.1)
    where
      grows : Grows h h' (now h)
      grows = step_grows h h' e s

      lasts : (d : Drawn) → DrawLogged h d → (key : ℕ) → (o : Option ℕ) × ScanKey h key d.version d.at pairs o → (o : Option ℕ) × ScanKey h' key d.version d.at pairs o
      lasts d g key (o, c) = (o, scan_lasts h h' (now h) key d.version d.at pairs o grows (omega (arith, stands_before h d.at g.kind d.version g.stands)) c)

      which : CallStep h h' e x → Scanned h' x from to at pairs
      which (as_it_was v f) = let g = k.laws.scanned x from to at pairs (rw f at a.0, rw f at a.1) in record {
        draw = g.draw;
        drawn = rw f g.drawn;
        first = rw f g.first;
        before_end = g.before_end;
        rises = g.rises;
        keys = λ key y z. lasts g.draw (k.laws.drawn x g.draw g.drawn) key (g.keys key y z);
      }
      which (begins c n f x' y z g m q) = absurd (none_some _ _ y (rw f at a.1))
      which (gets_put q v n f r i j) = absurd (none_some _ _ r (rw f at a.1))
      which (ends reply' answer draw v n f y z m) =
          let b = same_Some _ _ (rw f at a.1) in
          let t : now h ≡ at = ap (λ (d : End). d.at) b in
          let r : reply' ≡ Pairs pairs = ap (λ (d : End). d.reply) b in
          let c : (called h x).call ≡ Scan from to = rw f at a.0 in
          result t (subst (λ q. MayEnd h (Scan from to) (called h x).first q answer draw) r (subst (λ q. MayEnd h q (called h x).first reply' answer draw) c m))
        where
          result : now h ≡ at → (d : Drawn) × (draw ≡ Some d) × ((called h x).first < d.at) × RisesWithin from to pairs × ((key : ℕ) → from ≤ key → key ≤ to → (o : Option ℕ) × ScanKey h key d.version d.at pairs o) → Scanned h' x from to at pairs
          result t (d, i, w, u, g) = let l = (z d i).0 in record {
            draw = d;
            drawn = rw f i;
            first = rw f w;
            before_end = omega (arith, t, stands_before h d.at l.kind d.version l.stands);
            rises = u;
            keys = λ key y z. lasts d l key (g key y z);
          }

  -- the first event and the number of a call
  data Begun (x : ℕ) : Type 0 where
    earlier : x < length h.calls → (called h' x).first ≡ (called h x).first → (called h' x).seat ≡ (called h x).seat → (called h' x).number ≡ (called h x).number → Begun x
    at_now : x ≡ length h.calls → (called h' x).first ≡ now h → e.kind ≡ LoadEpoch → ((y : ℕ) → y < length h.calls → (called h y).seat ≡ (called h' x).seat → (called h y).number ≢ (called h' x).number) → Begun x

  begun : (x : ℕ) → x < length h'.calls → Begun x
  begun x w = at (s.calls x w)
    where
      at : CallStep h h' e x → Begun x
      at (as_it_was v f) = earlier v (rw f refl) (rw f refl) (rw f refl)
      at (begins c n f x' y z g m q) = at_now n (rw f x') m (λ u v i. rw f (q u v (rw f at i)))
      at (gets_put q v n f r i j) = earlier v (rw f refl) (rw f refl) (rw f refl)
      at (ends reply answer draw v n f y z m) = earlier v (rw f refl) (rw f refl) (rw f refl)

  -- first events differ
  firsts : (x y : ℕ) → x < length h'.calls → y < length h'.calls → (called h' x).first ≡ (called h' y).first → x ≡ y
  firsts x y v w f = which (begun x v) (begun y w)
    where
      which : Begun x → Begun y → x ≡ y
      which (earlier a b c d) (earlier a' b' c' d') = k.laws.firsts x y a a' (omega (arith, b, b', f))
      which (earlier a b c d) (at_now a' b' c' d') = absurd (omega (arith, k.past.first x a, b, b', f))
      which (at_now a b c d) (earlier a' b' c' d') = absurd (omega (arith, k.past.first y a', b, b', f))
      which (at_now a b c d) (at_now a' b' c' d') = omega (arith, a, a')

  -- and names
  numbers : (x y : ℕ) → x < length h'.calls → y < length h'.calls → (called h' x).seat ≡ (called h' y).seat → (called h' x).number ≡ (called h' y).number → x ≡ y
  numbers x y v w f g = which (begun x v) (begun y w)
    where
      which : Begun x → Begun y → x ≡ y
      which (earlier a b c d) (earlier a' b' c' d') = k.laws.numbers x y a a' (sym c ∙ f ∙ c') (sym d ∙ g ∙ d')
      which (earlier a b c d) (at_now a' b' c' d') = absurd (d' x a (sym c ∙ f) (sym d ∙ g))
      which (at_now a b c d) (earlier a' b' c' d') = absurd (d y a' (sym c' ∙ sym f) (sym d' ∙ sym g))
      which (at_now a b c d) (at_now a' b' c' d') = omega (arith, a, a')

  -- a call begins with a load of the epoch
  begins_law : (x : ℕ) → x < length h'.calls → (clock : ℕ) × Stands h' (called h' x).first LoadEpoch clock
  begins_law x w = which (begun x w)
    where
      which : Begun x → (clock : ℕ) × Stands h' (called h' x).first LoadEpoch clock
      which (earlier a b c d) = let t = k.laws.begins x a in (t.0, subst (λ q. Stands h' q LoadEpoch t.0) (sym b) (stands_lasts h h' e s _ LoadEpoch t.0 t.1))
      which (at_now a b c d) = (e.clock, subst (λ q. Stands h' q LoadEpoch e.clock) (sym b) (subst (λ q. Stands h' (now h) q e.clock) c (new_stands h h' e s)))

  -- all adds are past
  past_add : (p : ℕ) → p < length h'.attempts → (attempt h' p).add < now h'
  past_add p w = which (add_of p w)
    where
      which : ((p < length h.attempts) × ((attempt h' p).add ≡ (attempt h p).add)) ⊎ ((p ≡ length h.attempts) × ((attempt h' p).add ≡ now h)) → (attempt h' p).add < now h'
      which (inl a) = omega (arith, k.past.add p a.0, a.1, now_grows h h' e s)
      which (inr a) = omega (arith, a.1, now_grows h h' e s)

  -- all announcements
  past_announced : (p : ℕ) → p < length h'.attempts → (attempt h' p).is_announced ≡ true → (attempt h' p).announced < now h'
  past_announced p w t = at (s.attempts p w)
    where
      at : AttemptStep h h' p → (attempt h' p).announced < now h'
      at (as_it_was v f) = omega (arith, k.past.announced p v (rw f at t), ap (λ (a : Attempt). a.announced) f, now_grows h h' e s)
      at (is_added a n f c m x y z w) = false_true _ z (rw f at t)
      at (is_announced v n f) = omega (arith, ap (λ (a : Attempt). a.announced) f, now_grows h h' e s)
      at (is_lost v n f) = omega (arith, k.past.announced p v (rw f at t), ap (λ (a : Attempt). a.announced) f, now_grows h h' e s)
      at (is_stamped version load v an n l r x y f put) = omega (arith, k.past.announced p v an, ap (λ (a : Attempt). a.announced) f, now_grows h h' e s)

  -- all stamps
  past_at : (p : ℕ) → p < length h'.attempts → IsPut h' p → (attempt h' p).at < now h'
  past_at p w t = at (s.attempts p w)
    where
      at : AttemptStep h h' p → (attempt h' p).at < now h'
      at (as_it_was v f) = omega (arith, k.past.at p v (rw f at t), ap (λ (a : Attempt). a.at) f, now_grows h h' e s)
      at (is_added a n f c m x y z w) = false_true _ w (rw f at t)
      at (is_announced v n f) = omega (arith, k.past.at p v (rw f at t), ap (λ (a : Attempt). a.at) f, now_grows h h' e s)
      at (is_lost v n f) = false_true _ n (rw f at t)
      at (is_stamped version load v an n l r x y f put) = omega (arith, ap (λ (a : Attempt). a.at) f, now_grows h h' e s)

  -- and all first events
  past_first : (x : ℕ) → x < length h'.calls → (called h' x).first < now h'
  past_first x w = which (begun x w)
    where
      which : Begun x → (called h' x).first < now h'
      which (earlier a b c d) = omega (arith, k.past.first x a, b, now_grows h h' e s)
      which (at_now a b c d) = omega (arith, b, now_grows h h' e s)

  -- so a step keeps all laws
  pub keeps : Keeps h'
  keeps = record {
    laws = record {
      attempted = attempted;
      adds = adds;
      is_put = is_put;
      has_put = has_put;
      kept = kept;
      clock = clock;
      loaded = loaded;
      drawn = drawn;
      ends = ends_law;
      got = got;
      scanned = scanned;
      firsts = firsts;
      numbers = numbers;
      begins = begins_law;
    };
    past = record { add = past_add; announced = past_announced; at = past_at; first = past_first };
  }
