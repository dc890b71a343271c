-- Events at their positions, over one more event: what was at a position stays there, the new event
-- is at the end, and what is said of the events between two positions says nothing of it.
use Rattle.std.proofs.Common.{ℕ, zero, suc, ◌≡◌, ◌⊎◌, inl, inr, ◌<◌, ◌≤◌, Some, None, List, [], ◌∷◌, ◌++◌, arith, refl, sym, ◌∙◌, ap, subst, length, slice_get}
use Rattle.std.specs.Prelude.{take}
use Rattle.std.proofs.lemmas.List.{take-append-le, take_all}
use Rattle.std.proofs.lemmas.Option.{slice_get_within, same_Some}
use Rattle.kw_words.specs.declared.kind.Kind.{Kind}
use Rattle.kw_model.specs.declared.call.Call.{Call}
use Rattle.kw_model.specs.declared.call.Reply.{Reply}
use Rattle.kw_world.specs.declared.activity.Activity.{Activity}
use Rattle.kw_world.specs.declared.event.Event.{Event}
use Rattle.kw_world.specs.declared.event.StepDone.TheVariants.{Ended}
use Rattle.kw_world.specs.declared.opening.Opening.{Opening}
use Rattle.kw_world.specs.declared.operation.Operation.{Operation}
use Rattle.kw_world.specs.Sizes.{Sizes}
use Rattle.kw_world.specs.WorldView.{WorldView}
use Rattle.kw_world.specs.Step.{step}
use Rattle.kw_core.specs.Events.{world, event}
use Rattle.kw_core.specs.declared.history.Logged.{Logged}
use Rattle.kw_core.specs.declared.history.Attempt.{Attempt}
use Rattle.kw_core.specs.declared.history.Drawn.{Drawn}
use Rattle.kw_laws.specs.Mirror.{Occurs, Acts, IsLogged, BeginsCall, EndsCall, NoEnd, NoLoad, DrawsVersion, TakesCell, StampedBy, StampedAt}

-- Lists with one more element.

-- what is there stays
pub get_old : {A : Type 0} (xs : List A) (y : A) (x : ℕ) (d : A) → slice_get xs x ≡ Some d → slice_get (xs ++ y ∷ []) x ≡ Some d
get_old [] y x d s = let z : None ≡ Some d = s in absurd (cc)
get_old (c ∷ xs) y zero d s = s
get_old (c ∷ xs) y (suc x) d s = get_old xs y x d s

-- what is there was there, or is last
pub get_was : {A : Type 0} (xs : List A) (y : A) (x : ℕ) (d : A) → slice_get (xs ++ y ∷ []) x ≡ Some d → (slice_get xs x ≡ Some d) ⊎ ((x ≡ length xs) × (y ≡ d))
get_was [] y zero d s = inr (refl, same_Some y d s)
get_was [] y (suc x) d s = let z : None ≡ Some d = s in absurd (cc)
get_was (c ∷ xs) y zero d s = inl s
get_was {A} (c ∷ xs) y (suc x) d s = which (get_was xs y x d s)
  where
    which : (slice_get xs x ≡ Some d) ⊎ ((x ≡ length xs) × (y ≡ d)) → (slice_get xs x ≡ Some d) ⊎ ((suc x ≡ suc (length xs)) × (y ≡ d))
    which (inl f) = inl f
    which (inr f) = inr (ap suc f.0, f.1)

-- the last is there
pub get_last : {A : Type 0} (xs : List A) (y : A) → slice_get (xs ++ y ∷ []) (length xs) ≡ Some y
get_last [] y = refl
get_last (c ∷ xs) y = get_last xs y

-- Events.

module _ (z : Sizes) (o : Opening) (es : List Event) where
  -- an event is at a position of the list
  pub occurs_within : (x : ℕ) (w : WorldView) (d : Event) → Occurs z o es x w d → x < length es
  occurs_within x w d t = slice_get_within es x d t.stands

module _ (z : Sizes) (o : Opening) (es : List Event) (e : Event) where
  -- it stays there
  pub occurs_lasts : (x : ℕ) (w : WorldView) (d : Event) → Occurs z o es x w d → Occurs z o (es ++ e ∷ []) x w d
  occurs_lasts x w d t =
      let i : x ≤ length es = omega (arith, occurs_within z o es x w d t) in
      record { stands = get_old es e x d t.stands; before = ap (world z o) (take-append-le x es (e ∷ []) i) ∙ t.before }

  -- the new one is at the end
  pub occurs_now : Occurs z o (es ++ e ∷ []) (length es) (world z o es) e
  occurs_now =
      let i : length es ≤ length es = omega arith in
      record { stands = get_last es e; before = ap (world z o) (take-append-le (length es) es (e ∷ []) i ∙ take_all (length es) es i) }

  -- an event of the longer list was there, or is the new one
  pub occurs_was : (x : ℕ) (w : WorldView) (d : Event) → Occurs z o (es ++ e ∷ []) x w d → Occurs z o es x w d ⊎ ((x ≡ length es) × (e ≡ d) × (world z o es ≡ w))
  occurs_was x w d t = which (get_was es e x d t.stands)
    where
      which : (slice_get es x ≡ Some d) ⊎ ((x ≡ length es) × (e ≡ d)) → Occurs z o es x w d ⊎ ((x ≡ length es) × (e ≡ d) × (world z o es ≡ w))
      which (inl f) =
          let i : x ≤ length es = omega (arith, slice_get_within es x d f) in
          inl (record { stands = f; before = sym (ap (world z o) (take-append-le x es (e ∷ []) i)) ∙ t.before })
      which (inr f) = inr (f.0, f.1, sym occurs_now.before ∙ subst (λ u. world z o (take u (es ++ e ∷ [])) ≡ w) f.0 t.before)

  -- What is said of a position.

  pub acts_lasts : (x s : ℕ) (a : Activity) (op : Operation) (found : ℕ) → Acts z o es x s a op found → Acts z o (es ++ e ∷ []) x s a op found
  acts_lasts x s a op found t = record { before = t.before; choice = t.choice; local = t.local; occurs = occurs_lasts x t.before (event s t.choice) t.occurs; knows = t.knows; activity = t.activity; operates = t.operates; finds = t.finds }

  pub logged_lasts : (x : ℕ) (q : Logged) → IsLogged z o es x q → IsLogged z o (es ++ e ∷ []) x q
  unfolding acts_lasts
  logged_lasts x q t = record { activity = t.activity; op = t.op; found = t.found; acts = acts_lasts x q.seat t.activity t.op t.found t.acts; kind = t.kind; clock = t.clock }

  pub begins_lasts : (x s : ℕ) (call : Call) → BeginsCall z o es x s call → BeginsCall z o (es ++ e ∷ []) x s call
  begins_lasts x s call t = record { before = t.before; local = t.local; occurs = occurs_lasts x t.before _ t.occurs; knows = t.knows; idle = t.idle }

  pub ends_lasts : (x s : ℕ) (reply : Reply) → EndsCall z o es x s reply → EndsCall z o (es ++ e ∷ []) x s reply
  ends_lasts x s reply t = record { before = t.before; choice = t.choice; occurs = occurs_lasts x t.before _ t.occurs; ends = t.ends }

  pub draws_lasts : (d : Drawn) → DrawsVersion z o es d → DrawsVersion z o (es ++ e ∷ []) d
  draws_lasts d t = record { seat = t.seat; activity = t.activity; kind = t.kind; is_draw = t.is_draw; acts = acts_lasts d.at t.seat t.activity _ d.version t.acts }

  pub takes_lasts : (x s row cell : ℕ) → TakesCell z o es x s row cell → TakesCell z o (es ++ e ∷ []) x s row cell
  takes_lasts x s row cell t = record { found = t.found; acts = acts_lasts x s _ _ t.found t.acts; room = t.room; given = t.given; below = t.below }

  -- What is said of the events between two positions.

  -- an event that ends a call was there, or is the new one
  pub ends_was : (x s : ℕ) (reply : Reply) → EndsCall z o (es ++ e ∷ []) x s reply → EndsCall z o es x s reply ⊎ ((x ≡ length es) × (e.seat ≡ s) × ((step z (world z o es) e).done ≡ Ended reply))
  ends_was x s reply t = which (occurs_was x t.before (event s t.choice) t.occurs)
    where
      which : Occurs z o es x t.before (event s t.choice) ⊎ ((x ≡ length es) × (e ≡ event s t.choice) × (world z o es ≡ t.before)) → EndsCall z o es x s reply ⊎ ((x ≡ length es) × (e.seat ≡ s) × ((step z (world z o es) e).done ≡ Ended reply))
      which (inl f) = inl (record { before = t.before; choice = t.choice; occurs = f; ends = t.ends })
      which (inr f) = inr (f.0, ap (λ (q : Event). q.seat) f.1, rw (f.1, f.2) t.ends)

  -- no call ended before a position of the shorter list
  pub no_end_lasts : (s x y : ℕ) → y ≤ length es → NoEnd z o es s x y → NoEnd z o (es ++ e ∷ []) s x y
  no_end_lasts s x y i n u reply f g t = which (ends_was u s reply t)
    where
      which : EndsCall z o es u s reply ⊎ ((u ≡ length es) × (e.seat ≡ s) × ((step z (world z o es) e).done ≡ Ended reply)) → ⊥
      which (inl k) = n u reply f g k
      which (inr k) = omega (arith, k.0, g, i)

  -- nor did the new event end one
  pub no_end_more : (s x : ℕ) → NoEnd z o es s x (length es) → ((reply : Reply) → e.seat ≡ s → (step z (world z o es) e).done ≡ Ended reply → ⊥) → NoEnd z o (es ++ e ∷ []) s x (length (es ++ e ∷ []))
  no_end_more s x n m u reply f g t = which (ends_was u s reply t)
    where
      which : EndsCall z o es u s reply ⊎ ((u ≡ length es) × (e.seat ≡ s) × ((step z (world z o es) e).done ≡ Ended reply)) → ⊥
      which (inl k) = n u reply f (occurs_within z o es u k.before (event s k.choice) k.occurs) k
      which (inr k) = m reply k.1 k.2

  -- no load of the clock before a position of the shorter list
  pub no_load_lasts : (s x y : ℕ) → y ≤ length es → NoLoad z o es s x y → NoLoad z o (es ++ e ∷ []) s x y
  no_load_lasts s x y i n u w choice f g t k = which (occurs_was u w (event s choice) t)
    where
      which : Occurs z o es u w (event s choice) ⊎ ((u ≡ length es) × (e ≡ event s choice) × (world z o es ≡ w)) → ⊥
      which (inl c) = n u w choice f g c k
      which (inr c) = omega (arith, c.0, g, i)

  -- an attempt that was stamped
  pub stamped_by_lasts : (q : Attempt) (s : ℕ) (by from : Activity) (k : Kind) → StampedBy z o es q s by from k → StampedBy z o (es ++ e ∷ []) q s by from k
  stamped_by_lasts q s by from k t = record {
    stamps = acts_lasts q.at s by _ _ t.stamps;
    loads = acts_lasts q.load s from _ _ t.loads;
    last = no_load_lasts s q.load q.at (omega (arith, occurs_within z o es q.at t.stamps.before (event s t.stamps.choice) t.stamps.occurs)) t.last;
  }

  pub stamped_lasts : (q : Attempt) → StampedAt z o es q → StampedAt z o (es ++ e ∷ []) q
  stamped_lasts q (inl t) = inl (stamped_by_lasts q q.seat _ _ _ t)
  stamped_lasts q (inr t) = inr (t.0, stamped_by_lasts q t.0 _ _ _ t.1)
