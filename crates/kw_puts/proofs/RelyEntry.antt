-- What an event leaves to another seat of its entry, its attempt and its calls. A seat that helps
-- may stamp the attempt of another one: entry, attempt and call change at once, and nothing else of
-- that seat. A seat that freezes the entry of another one loses its attempt where the entry was
-- pending.
use Rattle.std.proofs.Common.{ℕ, ◌≡◌, ◌≢◌, ◌⊎◌, inl, inr, ◌+◌, ◌<◌, ◌≤◌, Bool, true, false, Option, Some, arith, refl, sym, ◌∙◌, ap, subst, length, length-append, length-set, set, slice_get}
use Rattle.std.proofs.lemmas.Bool.{cases_eq}
use Rattle.std.proofs.lemmas.Option.{same_Some, slice_get_within}
use Rattle.kw_words.specs.declared.layout.Name.TheVariants as name
use Rattle.kw_words.specs.declared.pend.Pend.{Pend}
use Rattle.kw_words.specs.declared.pend.Pend.TheVariants as pend
use Rattle.kw_words.specs.Pend.{pend_word}
use Rattle.kw_world.specs.declared.answer.Answer.{Answer}
use Rattle.kw_world.specs.declared.activity.Activity.{Activity}
use Rattle.kw_world.specs.declared.activity.rebalance.freeze.Freeze.TheVariants as Freeze
use Rattle.kw_world.specs.declared.activity.look.Look.TheVariants as Look
use Rattle.kw_world.specs.declared.activity.put.Put.TheVariants as Put
use Rattle.kw_world.specs.declared.activity.rebalance.Rebalance.TheVariants as Rebalance
use Rattle.kw_world.specs.declared.local.Local.{Local}
use Rattle.kw_world.specs.declared.event.Choice.{Choice}
use Rattle.kw_world.specs.Sizes.{Sizes}
use Rattle.kw_world.specs.Sane.{IsActivity, IsKnown}
use Rattle.kw_world.specs.Step.{word}
use Rattle.kw_core.specs.History.{History, attempt, called}
use Rattle.kw_core.specs.declared.history.Attempt.{Attempt}
use Rattle.kw_core.specs.declared.history.Logged.{Logged}
use Rattle.kw_core.specs.declared.history.Change.{Change}
use Rattle.kw_core.specs.declared.history.Change.TheVariants.{Nothing, Begins, Adds, Announces, Loses, Stamps, Ends}
use Rattle.kw_core.specs.Noted.{noted}
use Rattle.kw_core.specs.Run.{Run, Origins, helping, freezing, losing}
use Rattle.kw_core.specs.declared.seat_log.SeatLog.{SeatLog}
use Rattle.kw_core.specs.Stages.{IsBusy, IsPutting, IsPublished, IsFresh, IsUnstamped, IsStamped, IsHelp, HasSeenPending}
use Rattle.kw_core.specs.Words.{Words}
use Rattle.kw_puts.specs.Puts.{HasCell, Helps, IsPublishedAt, OwnsAttempt, entry_of}
use Rattle.kw_puts.specs.Freezes.{IsToFreeze, IsUnsettled}
use Rattle.kw_puts.specs.Below.{Below}
use Rattle.kw_core.proofs.NotedLaws.{attempt_set_same, attempt_set_other, attempt_push_old, attempt_push_new, attempt_same, called_set_same, called_set_other, called_push_old, called_push_new, called_same}
use Rattle.kw_core.proofs.Happens.{Happens, chosen, not_chosen, exchanged, not_exchanged}
use Rattle.kw_core.proofs.FreezeFrame.{FreezesEntry, entry_frozen, entry_left}
use Rattle.kw_core.proofs.InfantFrames.{entry_stays}
use Rattle.kw_shape.proofs.LinkedRows.{linked_entry}
use Rattle.kw_puts.proofs.Owners.{IsPendingOf, true_false, own_origin, owns_apart, pending_cell, pending_own, pending_entry, entry_owner, published_puts, puts_busy, puts_linked}
use Rattle.kw_core.proofs.Changes.{Makes, makes_nothing, makes_begin, makes_add, makes_announce, makes_stamp, makes_help, makes_end, made, makes_lose}
use Rattle.kw_core.proofs.Happens.{log_entry}
use Rattle.kw_words.proofs.Refusals.{none_unless}
use Rattle.kw_puts.proofs.Rely.{RelyHistory, RelyEntry, as_it_was, is_helped, is_frozen, before_announced, while_pending}

-- The record, for another seat.

none_new : {A : Type 0} (n m x : ℕ) → m ≡ n → n ≤ x → x < m → A
none_new n m x e o w = absurd (omega (arith, e, o, w))

last_new : (n m x : ℕ) → m ≡ n + 1 → n ≤ x → x < m → x ≡ n
last_new n m x e o w = omega (arith, e, o, w)

-- a call that is given a put goes on
pub put_runs : (h h' : History) (x y : ℕ) (o : Option ℕ) → h'.calls ≡ set h.calls y (record (called h y) { put = o }) → x < length h.calls → (called h' x).end ≡ (called h x).end
put_runs h h' x y o n w = which (cases_eq x y)
  where
    which : (x ≡ y) ⊎ (x ≡ y → ⊥) → (called h' x).end ≡ (called h x).end
    which (inl u) = subst (λ q. (called h' q).end ≡ (called h q).end) (sym u) (ap (λ q. q.end) (called_set_same h h' y _ n (subst (λ q. q < length h.calls) u w)))
    which (inr u) = ap (λ q. q.end) (called_set_other h h' y x _ n u)

-- what the change of the acting seat leaves to another one: new attempts, new calls and calls that
-- end are its own
pub change_apart : (h h' : History) (e : Logged) (z : Sizes) (v : Words) (s : ℕ) (choice : Choice) (l : Local) (g : SeatLog) (o : Origins) (a : Activity) (c : Change) → Makes z v s choice l g o a c → ((answer : Answer) → a ≡ Activity.Leave answer → (called h g.call).seat ≡ s) → h' ≡ noted h e c → (t : ℕ) → t ≢ s → RelyHistory h h' t
change_apart h h' e z v s choice l g o a c (makes_nothing b) f n t d = record {
  fresh = λ p i w. none_new _ _ p (ap (λ x. length x.attempts) n) i w;
  begun = λ x i w. none_new _ _ x (ap (λ y. length y.calls) n) i w;
  runs = λ x w y. ap (λ c. c.end) (called_same h h' x (ap (λ y. y.calls) n));
}
change_apart h h' e z v s choice l g o a c (makes_begin call m) f n t d =
    let cs = ap (λ y. y.calls) n in
    record {
      fresh = λ p i w. none_new _ _ p (ap (λ x. length x.attempts) n) i w;
      begun = λ x i w u. d (sym u ∙ ap (λ q. q.seat) (called_push_new h h' x _ cs (last_new _ _ x (ap length cs ∙ length-append h.calls _) i w)));
      runs = λ x w y. ap (λ q. q.end) (called_push_old h h' x _ cs w);
    }
change_apart h h' e z v s choice l g o a c (makes_add m) f n t d =
    let ps = ap (λ y. y.attempts) n in
    record {
      fresh = λ p i w u. d (sym u ∙ ap (λ q. q.seat) (attempt_push_new h h' p _ ps (last_new _ _ p (ap length ps ∙ length-append h.attempts _) i w)));
      begun = λ x i w. none_new _ _ x (ap (λ y. length y.calls) n) i w;
      runs = λ x w y. ap (λ q. q.end) (called_same h h' x (ap (λ y. y.calls) n));
    }
change_apart h h' e z v s choice l g o a c (makes_announce m) f n t d = record {
  fresh = λ p i w. none_new _ _ p (ap (λ x. length x.attempts) n ∙ length-set h.attempts _ _) i w;
  begun = λ x i w. none_new _ _ x (ap (λ y. length y.calls) n) i w;
  runs = λ x w y. ap (λ q. q.end) (called_same h h' x (ap (λ y. y.calls) n));
}
change_apart h h' e z v s choice l g o a c (makes_stamp m) f n t d = record {
  fresh = λ p i w. none_new _ _ p (ap (λ x. length x.attempts) n ∙ length-set h.attempts _ _) i w;
  begun = λ x i w. none_new _ _ x (ap (λ y. length y.calls) n ∙ length-set h.calls _ _) i w;
  runs = λ x w y. put_runs h h' x (attempt h g.own).call _ (ap (λ y. y.calls) n) w;
}
change_apart h h' e z v s choice l g o a c (makes_help q m k) f n t d = record {
  fresh = λ p i w. none_new _ _ p (ap (λ x. length x.attempts) n ∙ length-set h.attempts _ _) i w;
  begun = λ x i w. none_new _ _ x (ap (λ y. length y.calls) n ∙ length-set h.calls _ _) i w;
  runs = λ x w y. put_runs h h' x (attempt h q).call _ (ap (λ y. y.calls) n) w;
}
change_apart h h' e z v s choice l g o a c (makes_lose j cell q x m k) f n t d = record {
  fresh = λ p i w. none_new _ _ p (ap (λ x. length x.attempts) n ∙ length-set h.attempts _ _) i w;
  begun = λ x i w. none_new _ _ x (ap (λ y. length y.calls) n) i w;
  runs = λ x w y. ap (λ q. q.end) (called_same h h' x (ap (λ y. y.calls) n));
}
change_apart h h' e z v s choice l g o a c (makes_end answer) f n t d = record {
  fresh = λ p i w. none_new _ _ p (ap (λ x. length x.attempts) n) i w;
  begun = λ x i w. none_new _ _ x (ap (λ y. length y.calls) n ∙ length-set h.calls _ _) i w;
  runs = λ x w y. ap (λ q. q.end) (called_set_other h h' g.call x _ (ap (λ y. y.calls) n) (λ u. d (sym y ∙ ap (λ q. (called h q).seat) u ∙ f answer refl)));
}

-- The attempt and the put of another seat.

-- the change is not of this attempt, and gives no put to this call
abbrev pub IsAway : History → ℕ → Change → Type 0
IsAway h p (Announces q) = p ≢ q
IsAway h p (Loses q) = p ≢ q
IsAway h p (Stamps q version load) = p ≢ q
IsAway h p _ = Unit {0}

abbrev pub IsPutAway : History → ℕ → Change → Type 0
IsPutAway h x (Stamps q version load) = x ≢ (attempt h q).call
IsPutAway h x _ = Unit {0}

pub attempt_left : (h h' : History) (e : Logged) (p : ℕ) (c : Change) → IsAway h p c → h' ≡ noted h e c → p < length h.attempts → attempt h' p ≡ attempt h p
attempt_left h h' e p Nothing d n w = attempt_same h h' p (ap (λ x. x.attempts) n)
attempt_left h h' e p (Begins seat number call) d n w = attempt_same h h' p (ap (λ x. x.attempts) n)
attempt_left h h' e p (Adds call seat key value row cell) d n w = attempt_push_old h h' p _ (ap (λ x. x.attempts) n) w
attempt_left h h' e p (Announces q) d n w = attempt_set_other h h' q p _ (ap (λ x. x.attempts) n) d
attempt_left h h' e p (Loses q) d n w = attempt_set_other h h' q p _ (ap (λ x. x.attempts) n) d
attempt_left h h' e p (Stamps q version load) d n w = attempt_set_other h h' q p _ (ap (λ x. x.attempts) n) d
attempt_left h h' e p (Ends x reply answer draw) d n w = attempt_same h h' p (ap (λ x. x.attempts) n)

pub put_left : (h h' : History) (e : Logged) (x : ℕ) (c : Change) → IsPutAway h x c → h' ≡ noted h e c → x < length h.calls → (called h' x).put ≡ (called h x).put
put_left h h' e x Nothing d n w = ap (λ q. q.put) (called_same h h' x (ap (λ x. x.calls) n))
put_left h h' e x (Begins seat number call) d n w = ap (λ q. q.put) (called_push_old h h' x _ (ap (λ x. x.calls) n) w)
put_left h h' e x (Adds call seat key value row cell) d n w = ap (λ q. q.put) (called_same h h' x (ap (λ x. x.calls) n))
put_left h h' e x (Announces q) d n w = ap (λ q. q.put) (called_same h h' x (ap (λ x. x.calls) n))
put_left h h' e x (Loses q) d n w = ap (λ q. q.put) (called_same h h' x (ap (λ x. x.calls) n))
put_left h h' e x (Stamps q version load) d n w = ap (λ q. q.put) (called_set_other h h' (attempt h q).call x _ (ap (λ x. x.calls) n) d)
put_left h h' e x (Ends y reply answer draw) d n w = which (cases_eq x y)
  where
    which : (x ≡ y) ⊎ (x ≡ y → ⊥) → (called h' x).put ≡ (called h x).put
    which (inl u) = subst (λ q. (called h' q).put ≡ (called h q).put) (sym u) (ap (λ q. q.put) (called_set_same h h' y _ (ap (λ x. x.calls) n) (subst (λ q. q < length h.calls) u w)))
    which (inr u) = ap (λ q. q.put) (called_set_other h h' y x _ (ap (λ x. x.calls) n) u)

-- The entry.

-- the seat freezes an entry
abbrev pub IsFreeze : Activity → Type 0
IsFreeze (Activity.Rebalance (Rebalance.Freeze (Freeze.Entry i))) = Unit {0}
IsFreeze _ = ⊥

freezes_one : (t : ℕ) (a : Activity) → FreezesEntry t a → IsFreeze a
freezes_one t (Activity.Rebalance (Rebalance.Freeze (Freeze.Entry i))) x = tt
freezes_one t _ x = absurd x

module _ (z : Sizes) (r r' : Run) (s : ℕ) (choice : Choice) (l l' : Local) (i : Below z r) (t : ℕ) (k : Local) (d : t ≢ s) (g : slice_get r.world.locals t ≡ Some k) where
  inside : t < z.seats
  inside = omega (arith, slice_get_within r.world.locals t k g, i.shape.sane.seats)

  -- the attempt that the acting seat announces or stamps is not that of another seat
  away : (a : Activity) (c : Change) → l.activity ≡ a → slice_get r.world.locals s ≡ Some l → Makes z (word z r.world) s choice l (r.seats s) r.origin a c → (IsHelp a → ⊥) → (IsFreeze a → ⊥) → IsPutting k.activity → IsAway r.history (r.seats t).own c
  away a c is m (makes_nothing b) n u p = tt
  away a c is m (makes_begin call e) n u p = tt
  away a c is m (makes_add e) n u p = tt
  away a c is m (makes_announce e) n u p = owns_apart i.puts t s k l d g m p (subst IsPutting (sym is) tt)
  away a c is m (makes_stamp e) n u p = owns_apart i.puts t s k l d g m p (subst IsPutting (sym is) tt)
  away a c is m (makes_help q e f) n u p = absurd (n tt)
  away a c is m (makes_lose j cell q x e f) n u p = absurd (u tt)
  away a c is m (makes_end answer) n u p = tt

  -- nor is the call that gets a put
  put_away : (a : Activity) (c : Change) → l.activity ≡ a → slice_get r.world.locals s ≡ Some l → Makes z (word z r.world) s choice l (r.seats s) r.origin a c → (IsHelp a → ⊥) → IsBusy k.activity → IsPutAway r.history (r.seats t).call c
  put_away a c is m (makes_nothing b) n p = tt
  put_away a c is m (makes_begin call e) n p = tt
  put_away a c is m (makes_add e) n p = tt
  put_away a c is m (makes_announce e) n p = tt
  put_away a c is m (makes_stamp e) n p = λ u.
      let own = i.puts.owns s l m (subst IsPutting (sym is) tt) in
      let mine = i.positions.calling t k g p in
      let other = i.positions.calling s l m (subst IsBusy (sym is) tt) in
      d (sym mine.seat ∙ ap (λ q. (called r.history q).seat) (u ∙ own.call) ∙ other.seat)
  put_away a c is m (makes_help q e f) n p = absurd (n tt)
  put_away a c is m (makes_lose j cell q x e f) n p = tt
  put_away a c is m (makes_end answer) n p = tt

  -- an event that helps no one and freezes no entry
  pub entry_apart : (a : Activity) → Happens z r r' s choice l l' a → (IsHelp a → ⊥) → (IsFreeze a → ⊥) → RelyEntry (word z r.world) (word z r'.world) r.history r'.history t k.activity k (r.seats t)
  entry_apart a h n u =
      let m = made z (word z r.world) s choice l (r.seats s) r.origin a in
      as_it_was
      (λ p. linked_entry a h i.shape k.row t (puts_linked z r i.shape t k g p) inside (λ x e f. d f) (λ x e f. n x) (λ x e. u (freezes_one t a x)))
      (λ p. attempt_left r.history r'.history _ (r.seats t).own _ (away a _ h.activity h.knows m n u p) h.history (i.puts.owns t k g p).within)
      (λ p. put_left r.history r'.history _ (r.seats t).call _ (put_away a _ h.activity h.knows m n p) h.history (i.positions.calling t k g p).within)

-- A seat that helps.

-- a seat that has announced its cell and is not stamped is about to load the clock or to stamp
unstamped : (a : Activity) → IsPublished a → (IsStamped a → ⊥) → IsUnstamped a
unstamped (Activity.Put Put.Clock) p n = tt
unstamped (Activity.Put Put.Stamp) p n = tt
unstamped (Activity.Put Put.Version) p n = absurd (n tt)
unstamped (Activity.Insert _) p n = absurd (n tt)
unstamped (Activity.Put Put.Clear) p n = absurd (n tt)
unstamped _ p n = absurd p

module _ (z : Sizes) (r r' : Run) (s : ℕ) (choice : Choice) (l l' : Local) (i : Below z r) (t : ℕ) (k : Local) (d : t ≢ s) (g : slice_get r.world.locals t ≡ Some k) (h : Happens z r r' s choice l l' (Activity.Look Look.Help)) where
  helper : Helps r.history r.origin l.activity l (r.seats s)
  helper = i.puts.helps s l h.knows (subst HasSeenPending (sym h.activity) tt)

  below : k.row < r.world.rows
  below = (i.shape.sane.locals t k g).below.row

  -- the exchange that is not made changes nothing
  lost_change : word z r.world (name.Pend l.row l.looked) ≢ pend_word (pend.Pending l.saw) → r'.history ≡ noted r.history (log_entry z r (Activity.Look Look.Help) s choice l) Nothing
  lost_change n = h.history ∙ ap (λ c. noted r.history (log_entry z r (Activity.Look Look.Help) s choice l) c) (not_chosen _ _ _ Nothing n)

  lost_entry : word z r.world (name.Pend l.row l.looked) ≢ pend_word (pend.Pending l.saw) → word z r'.world (name.Pend k.row t) ≡ word z r.world (name.Pend k.row t)
  lost_entry n = which (cases_eq k.row l.row) (cases_eq t l.looked)
    where
      which : (k.row ≡ l.row) ⊎ (k.row ≡ l.row → ⊥) → (t ≡ l.looked) ⊎ (t ≡ l.looked → ⊥) → word z r'.world (name.Pend k.row t) ≡ word z r.world (name.Pend k.row t)
      which (inl e) (inl f) = rw (e, f) (not_exchanged _ _ _ _ h.changed.same n)
      which (inr e) f = entry_stays (Activity.Look Look.Help) h k.row t below (inside z r r' s choice l l' i t k d g) (λ x. e x.0)
      which (inl e) (inr f) = entry_stays (Activity.Look Look.Help) h k.row t below (inside z r r' s choice l l' i t k d g) (λ x. f x.1)

  -- the one that is made stamps the attempt that was seen
  won_change : word z r.world (name.Pend l.row l.looked) ≡ pend_word (pend.Pending l.saw) → r'.history ≡ noted r.history (log_entry z r (Activity.Look Look.Help) s choice l) (Stamps helper.put l.helping (r.seats s).loaded)
  won_change e = h.history ∙ ap (λ c. noted r.history (log_entry z r (Activity.Look Look.Help) s choice l) c) (chosen _ _ _ Nothing e ∙ ap (λ x. helping x l.helping (r.seats s).loaded) helper.origin)

  -- its cell is that of the entry's seat
  saw_cell : word z r.world (name.Pend l.row l.looked) ≡ pend_word (pend.Pending l.saw) → HasCell r.ledger.rows r.history l.row l.saw helper.put
  saw_cell e = pending_cell i.puts l.row l.looked l.saw helper.put known.below.row known.ranges.looked e helper.origin
    where
      known : IsKnown z r.world.rows l
      known = i.shape.sane.locals s l h.knows

  -- it was not that of the seat looked at
  won_other : word z r.world (name.Pend l.row l.looked) ≡ pend_word (pend.Pending l.saw) → t ≢ l.looked → RelyEntry (word z r.world) (word z r'.world) r.history r'.history t k.activity k (r.seats t)
  won_other e n =
      as_it_was
      (λ p. entry_stays (Activity.Look Look.Help) h k.row t below (inside z r r' s choice l l' i t k d g) (λ x. n x.1))
      (λ p. let own = i.puts.owns t k g p in attempt_left r.history r'.history _ (r.seats t).own (Stamps helper.put l.helping (r.seats s).loaded) (λ u. n (sym own.seat ∙ ap (λ q. (attempt r.history q).seat) u ∙ helper.seat)) (won_change e) own.within)
      (λ p. let c = i.positions.calling t k g p in
      put_left r.history r'.history _ (r.seats t).call (Stamps helper.put l.helping (r.seats s).loaded)
      (λ u. n (sym c.seat ∙ ap (λ q. (called r.history q).seat) u ∙ (i.history.laws.attempted helper.put (saw_cell e).within).seat ∙ helper.seat)) (won_change e) c.within)

  -- the seat looked at has announced a cell of this row
  at_entry : word z r.world (name.Pend l.row l.looked) ≡ pend_word (pend.Pending l.saw) → t ≡ l.looked → IsPublished k.activity × (k.row ≡ l.row)
  at_entry e f = which (i.puts.entry l.row t (i.shape.sane.locals s l h.knows).below.row (inside z r r' s choice l l' i t k d g))
    where
      which : (word z r.world (name.Pend l.row t) ≡ pend_word pend.Idle) ⊎ (word z r.world (name.Pend l.row t) ≡ pend_word pend.Frozen) ⊎ IsPublishedAt (slice_get r.world.locals) l.row t → IsPublished k.activity × (k.row ≡ l.row)
      which (inl x) = let y : pend_word (pend.Pending l.saw) ≡ pend_word pend.Idle = sym e ∙ (rw f at x) in absurd (omega (arith, y))
      which (inr (inl x)) = let y : pend_word (pend.Pending l.saw) ≡ pend_word pend.Frozen = sym e ∙ (rw f at x) in absurd (omega (arith, y))
      which (inr (inr p)) = let x = same_Some p.local k (sym p.knows ∙ g) in (subst (λ u. IsPublished u.activity) x p.published, subst (λ (u : Local). u.row ≡ l.row) x p.row)

  -- the seat looked at is helped
  won_own : word z r.world (name.Pend l.row l.looked) ≡ pend_word (pend.Pending l.saw) → t ≡ l.looked → IsPublished k.activity → k.row ≡ l.row → RelyEntry (word z r.world) (word z r'.world) r.history r'.history t k.activity k (r.seats t)
  won_own e f y q =
      let p = published_puts k.activity y in
      let own = i.puts.owns t k g p in
      let c = i.positions.calling t k g (puts_busy k.activity p) in
      let word_is : word z r.world (name.Pend k.row t) ≡ pend_word (pend.Pending l.saw) = rw (q, f) e in
      let st = pending_entry (attempt r.history (r.seats t).own) l.saw (sym (own.entry y) ∙ word_is) in
      let known = i.shape.sane.locals s l h.knows in
      let same : helper.put ≡ (r.seats t).own = pending_own i.puts l.row l.looked l.saw helper.put known.below.row known.ranges.looked e helper.origin ∙ ap (λ x. (r.seats x).own) (sym f) in
      let cell_is : l.saw ≡ k.cell = sym st.1 ∙ own.cell in
      let n : r'.history ≡ noted r.history (log_entry z r (Activity.Look Look.Help) s choice l) (Stamps (r.seats t).own l.helping (r.seats s).loaded) = subst (λ x. r'.history ≡ noted r.history (log_entry z r (Activity.Look Look.Help) s choice l) (Stamps x l.helping (r.seats s).loaded)) same (won_change e) in
      is_helped l.helping (r.seats s).loaded (unstamped k.activity y (λ x. true_false (own.stamped x) st.0))
      (subst (λ x. word z r.world (name.Pend k.row t) ≡ pend_word (pend.Pending x)) cell_is word_is)
      (subst (λ x. word z r'.world (name.Pend k.row t) ≡ pend_word (pend.Stamped x l.helping)) cell_is (rw (q, f) (exchanged _ _ _ _ h.changed.same e)))
      st.0
      (attempt_set_same r.history r'.history (r.seats t).own _ (ap (λ x. x.attempts) n) own.within)
      (none_unless _ (λ x u. true_false (subst (λ j. (attempt r.history j).is_stamped ≡ true) (sym (c.own x u)) (i.history.laws.is_put (r.seats t).call x u).0) st.0))
      (ap (λ x. x.put) (called_set_same r.history r'.history (r.seats t).call _ (ap (λ x. x.calls) n ∙ ap (λ x. set r.history.calls x (record (called r.history x) { put = Some (r.seats t).own })) own.call) c.within))

  pub entry_helped : RelyEntry (word z r.world) (word z r'.world) r.history r'.history t k.activity k (r.seats t)
  entry_helped = which (cases_eq (word z r.world (name.Pend l.row l.looked)) (pend_word (pend.Pending l.saw))) (cases_eq t l.looked)
    where
      which : (word z r.world (name.Pend l.row l.looked) ≡ pend_word (pend.Pending l.saw)) ⊎ (word z r.world (name.Pend l.row l.looked) ≡ pend_word (pend.Pending l.saw) → ⊥) → (t ≡ l.looked) ⊎ (t ≡ l.looked → ⊥) → RelyEntry (word z r.world) (word z r'.world) r.history r'.history t k.activity k (r.seats t)
      which (inr n) f =
          as_it_was (λ p. lost_entry n)
          (λ p. attempt_left r.history r'.history _ (r.seats t).own Nothing tt (lost_change n) (i.puts.owns t k g p).within)
          (λ p. put_left r.history r'.history _ (r.seats t).call Nothing tt (lost_change n) (i.positions.calling t k g p).within)
      which (inl e) (inr n) = won_other e n
      which (inl e) (inl f) = let x = at_entry e f in won_own e f x.0 x.1

-- A seat that freezes.

-- a seat that has a cell has announced it, or has not, and any other seat has none
pub fresh_published : (a : Activity) → IsFresh a ⊎ IsPublished a ⊎ (IsPutting a → ⊥)
fresh_published (Activity.Put Put.Key) = inl tt
fresh_published (Activity.Put Put.Value) = inl tt
fresh_published (Activity.Put Put.Announce) = inl tt
fresh_published (Activity.Put Put.Clock) = inr (inl tt)
fresh_published (Activity.Put Put.Stamp) = inr (inl tt)
fresh_published (Activity.Put Put.Version) = inr (inl tt)
fresh_published (Activity.Insert _) = inr (inl tt)
fresh_published (Activity.Put Put.Clear) = inr (inl tt)
fresh_published _ = inr (inr (λ p. p))

pub fresh_puts : (a : Activity) → IsFresh a → IsPutting a
fresh_puts (Activity.Put Put.Key) p = tt
fresh_puts (Activity.Put Put.Value) p = tt
fresh_puts (Activity.Put Put.Announce) p = tt
fresh_puts _ p = absurd p

-- the entry of an announced attempt is not idle
entry_not_idle : (p : Attempt) → entry_of p ≡ pend_word pend.Idle → ⊥
entry_not_idle p e = saw p.is_lost p.is_stamped refl refl
  where
    saw : (b c : Bool) → p.is_lost ≡ b → p.is_stamped ≡ c → ⊥
    saw true c x y = let w : pend_word pend.Frozen ≡ pend_word pend.Idle = rw x at e in omega (arith, w)
    saw false true x y = let w : pend_word (pend.Stamped p.cell p.version) ≡ pend_word pend.Idle = rw (x, y) at e in omega (arith, w)
    saw false false x y = let w : pend_word (pend.Pending p.cell) ≡ pend_word pend.Idle = rw (x, y) at e in omega (arith, w)

module _ (z : Sizes) (r r' : Run) (s : ℕ) (choice : Choice) (l l' : Local) (i : Below z r) (j : ℕ) (h : Happens z r r' s choice l l' (Activity.Rebalance (Rebalance.Freeze (Freeze.Entry j)))) where
  row_below : l.rebalance.hand < r.world.rows
  row_below = (i.shape.sane.locals s l h.knows).below.rebalance.hand

  seat_below : j < z.seats
  seat_below = subst (IsActivity z) h.activity (i.shape.sane.locals s l h.knows).ranges.activity

  -- the change of the record, by what was found in the entry
  changes : (x : Pend) → l.rebalance.entry ≡ x → word z r.world (name.Pend l.rebalance.hand j) ≡ pend_word l.rebalance.entry → r'.history ≡ noted r.history (log_entry z r (Activity.Rebalance (Rebalance.Freeze (Freeze.Entry j))) s choice l) (freezing x l.rebalance.hand r.origin)
  changes x e f = h.history ∙ ap (λ c. noted r.history (log_entry z r (Activity.Rebalance (Rebalance.Freeze (Freeze.Entry j))) s choice l) c) (chosen _ _ _ Nothing f ∙ ap (λ y. freezing y l.rebalance.hand r.origin) e)

  -- an exchange that is not made changes nothing
  pub not_frozen : word z r.world (name.Pend l.rebalance.hand j) ≢ pend_word l.rebalance.entry → r'.history ≡ noted r.history (log_entry z r (Activity.Rebalance (Rebalance.Freeze (Freeze.Entry j))) s choice l) Nothing
  not_frozen d = h.history ∙ ap (λ c. noted r.history (log_entry z r (Activity.Rebalance (Rebalance.Freeze (Freeze.Entry j))) s choice l) c) (not_chosen _ _ _ Nothing d)

  -- a pending entry is that of the seat's own attempt, which is lost
  module _ (c : ℕ) (e : l.rebalance.entry ≡ pend.Pending c) (f : word z r.world (name.Pend l.rebalance.hand j) ≡ pend_word l.rebalance.entry) where
    pub pends : IsPendingOf z r l.rebalance.hand j c
    pends = entry_owner i.puts l.rebalance.hand j c row_below seat_below (f ∙ ap pend_word e)

    pub loser : OwnsAttempt (word z r.world) r.history j pends.local.activity pends.local (r.seats j)
    loser = i.puts.owns j pends.local pends.knows (published_puts pends.local.activity pends.published)

    pub loses_own : r'.history ≡ noted r.history (log_entry z r (Activity.Rebalance (Rebalance.Freeze (Freeze.Entry j))) s choice l) (Loses (r.seats j).own)
    loses_own =
        let origin : r.origin l.rebalance.hand c ≡ Some (r.seats j).own = rw (pends.row, sym loser.cell ∙ pends.cell) at (own_origin i.puts j pends.local pends.knows (published_puts pends.local.activity pends.published)) in
        changes (pend.Pending c) e f ∙ ap (λ x. noted r.history (log_entry z r (Activity.Rebalance (Rebalance.Freeze (Freeze.Entry j))) s choice l) (losing x)) origin

module _ (z : Sizes) (r r' : Run) (s : ℕ) (choice : Choice) (l l' : Local) (i : Below z r) (t : ℕ) (k : Local) (d : t ≢ s) (g : slice_get r.world.locals t ≡ Some k) (j : ℕ) (h : Happens z r r' s choice l l' (Activity.Rebalance (Rebalance.Freeze (Freeze.Entry j)))) where
  its_row : k.row < r.world.rows
  its_row = (i.shape.sane.locals t k g).below.row

  -- where the record does not change, and the entry of the seat is not the one that is frozen
  unchanged : r'.history ≡ noted r.history (log_entry z r (Activity.Rebalance (Rebalance.Freeze (Freeze.Entry j))) s choice l) Nothing → (IsPutting k.activity → word z r'.world (name.Pend k.row t) ≡ word z r.world (name.Pend k.row t)) → RelyEntry (word z r.world) (word z r'.world) r.history r'.history t k.activity k (r.seats t)
  unchanged n e =
      as_it_was e
      (λ p. attempt_left r.history r'.history _ (r.seats t).own Nothing tt n (i.puts.owns t k g p).within)
      (λ p. put_left r.history r'.history _ (r.seats t).call Nothing tt n (i.positions.calling t k g p).within)

  -- an entry of another row, or of another seat
  elsewhere : (k.row ≡ l.rebalance.hand → t ≡ j → ⊥) → word z r'.world (name.Pend k.row t) ≡ word z r.world (name.Pend k.row t)
  elsewhere n = entry_stays (Activity.Rebalance (Rebalance.Freeze (Freeze.Entry j))) h k.row t its_row (inside z r r' s choice l l' i t k d g) (λ x. n x.0 x.1)

  -- the exchange that is not made
  left : word z r.world (name.Pend l.rebalance.hand j) ≢ pend_word l.rebalance.entry → RelyEntry (word z r.world) (word z r'.world) r.history r'.history t k.activity k (r.seats t)
  left n = unchanged (not_frozen z r r' s choice l l' i j h n) (λ p. which (cases_eq k.row l.rebalance.hand) (cases_eq t j))
    where
      which : (k.row ≡ l.rebalance.hand) ⊎ (k.row ≡ l.rebalance.hand → ⊥) → (t ≡ j) ⊎ (t ≡ j → ⊥) → word z r'.world (name.Pend k.row t) ≡ word z r.world (name.Pend k.row t)
      which (inl e) (inl f) = rw (e, f) (entry_left j h n)
      which (inr e) f = elsewhere (λ u w. e u)
      which (inl e) (inr f) = elsewhere (λ u w. f w)

  -- an idle entry is frozen: no attempt is lost, and a seat whose entry it is has not announced its
  -- cell
  idle : l.rebalance.entry ≡ pend.Idle → word z r.world (name.Pend l.rebalance.hand j) ≡ pend_word l.rebalance.entry → RelyEntry (word z r.world) (word z r'.world) r.history r'.history t k.activity k (r.seats t)
  idle e f = which (cases_eq k.row l.rebalance.hand) (cases_eq t j)
    where
      same : r'.history ≡ noted r.history (log_entry z r (Activity.Rebalance (Rebalance.Freeze (Freeze.Entry j))) s choice l) Nothing
      same = changes z r r' s choice l l' i j h pend.Idle e f

      here : k.row ≡ l.rebalance.hand → t ≡ j → RelyEntry (word z r.world) (word z r'.world) r.history r'.history t k.activity k (r.seats t)
      here x y = by (fresh_published k.activity)
        where
          was : word z r.world (name.Pend k.row t) ≡ pend_word pend.Idle
          was = rw (x, y) (f ∙ ap pend_word e)

          by : IsFresh k.activity ⊎ IsPublished k.activity ⊎ (IsPutting k.activity → ⊥) → RelyEntry (word z r.world) (word z r'.world) r.history r'.history t k.activity k (r.seats t)
          by (inl p) =
              let puts = fresh_puts k.activity p in
              is_frozen (rw (x, y) (entry_frozen j h f))
              (before_announced p (attempt_left r.history r'.history _ (r.seats t).own Nothing tt same (i.puts.owns t k g puts).within))
              (put_left r.history r'.history _ (r.seats t).call Nothing tt same (i.positions.calling t k g (puts_busy k.activity puts)).within)
          by (inr (inl p)) = absurd (entry_not_idle (attempt r.history (r.seats t).own) (sym ((i.puts.owns t k g (published_puts k.activity p)).entry p) ∙ was))
          by (inr (inr n)) = unchanged same (λ p. absurd (n p))

      which : (k.row ≡ l.rebalance.hand) ⊎ (k.row ≡ l.rebalance.hand → ⊥) → (t ≡ j) ⊎ (t ≡ j → ⊥) → RelyEntry (word z r.world) (word z r'.world) r.history r'.history t k.activity k (r.seats t)
      which (inl x) (inl y) = here x y
      which (inr x) y = unchanged same (λ p. elsewhere (λ u w. x u))
      which (inl x) (inr y) = unchanged same (λ p. elsewhere (λ u w. y w))

  -- a pending entry is frozen: the attempt of the seat that has announced it is lost
  pending : (c : ℕ) → l.rebalance.entry ≡ pend.Pending c → word z r.world (name.Pend l.rebalance.hand j) ≡ pend_word l.rebalance.entry → RelyEntry (word z r.world) (word z r'.world) r.history r'.history t k.activity k (r.seats t)
  pending c e f = which (cases_eq t j)
    where
      n : r'.history ≡ noted r.history (log_entry z r (Activity.Rebalance (Rebalance.Freeze (Freeze.Entry j))) s choice l) (Loses (r.seats j).own)
      n = loses_own z r r' s choice l l' i j h c e f

      w : IsPendingOf z r l.rebalance.hand j c
      w = pends z r r' s choice l l' i j h c e f

      apart : (t ≡ j → ⊥) → RelyEntry (word z r.world) (word z r'.world) r.history r'.history t k.activity k (r.seats t)
      apart y =
          as_it_was (λ p. elsewhere (λ u q. y q))
          (λ p. attempt_left r.history r'.history _ (r.seats t).own (Loses (r.seats j).own) (owns_apart i.puts t j k w.local y g w.knows p (published_puts w.local.activity w.published)) n (i.puts.owns t k g p).within)
          (λ p. put_left r.history r'.history _ (r.seats t).call (Loses (r.seats j).own) tt n (i.positions.calling t k g p).within)

      here : t ≡ j → RelyEntry (word z r.world) (word z r'.world) r.history r'.history t k.activity k (r.seats t)
      here y =
          let is : w.local ≡ k = same_Some w.local k (sym w.knows ∙ rw (sym y) g) in
          let published : IsPublished k.activity = subst (λ (x : Local). IsPublished x.activity) is w.published in
          let row : k.row ≡ l.rebalance.hand = subst (λ (x : Local). x.row ≡ l.rebalance.hand) is w.row in
          let puts = published_puts k.activity published in
          let own = i.puts.owns t k g puts in
          let unstamped_now : (attempt r.history (r.seats t).own).is_stamped ≡ false = rw y w.unstamped in
          let cell : c ≡ k.cell = sym w.cell ∙ ap (λ x. (attempt r.history (r.seats x).own).cell) (sym y) ∙ own.cell in
          let loses : r'.history ≡ noted r.history (log_entry z r (Activity.Rebalance (Rebalance.Freeze (Freeze.Entry j))) s choice l) (Loses (r.seats t).own) = rw y n in
          is_frozen (rw (row, y) (entry_frozen j h f))
          (while_pending (unstamped k.activity published (λ x. true_false (own.stamped x) unstamped_now)) (rw (row, y) (f ∙ ap pend_word e ∙ ap (λ x. pend_word (pend.Pending x)) cell)) unstamped_now
          (attempt_set_same r.history r'.history (r.seats t).own _ (ap (λ x. x.attempts) loses) own.within))
          (put_left r.history r'.history _ (r.seats t).call (Loses (r.seats t).own) tt loses (i.positions.calling t k g (puts_busy k.activity puts)).within)

      which : (t ≡ j) ⊎ (t ≡ j → ⊥) → RelyEntry (word z r.world) (word z r'.world) r.history r'.history t k.activity k (r.seats t)
      which (inl y) = here y
      which (inr y) = apart y

  -- an event that freezes an entry, or tries to
  pub entry_freezes : RelyEntry (word z r.world) (word z r'.world) r.history r'.history t k.activity k (r.seats t)
  entry_freezes = which (cases_eq (word z r.world (name.Pend l.rebalance.hand j)) (pend_word l.rebalance.entry))
    where
      by : (x : Pend) → l.rebalance.entry ≡ x → IsUnsettled x → word z r.world (name.Pend l.rebalance.hand j) ≡ pend_word l.rebalance.entry → RelyEntry (word z r.world) (word z r'.world) r.history r'.history t k.activity k (r.seats t)
      by pend.Idle e u f = idle e f
      by (pend.Pending c) e u f = pending c e f
      by (pend.Stamped c version) e u f = absurd u
      by pend.Frozen e u f = absurd u

      which : (word z r.world (name.Pend l.rebalance.hand j) ≡ pend_word l.rebalance.entry) ⊎ (word z r.world (name.Pend l.rebalance.hand j) ≡ pend_word l.rebalance.entry → ⊥) → RelyEntry (word z r.world) (word z r'.world) r.history r'.history t k.activity k (r.seats t)
      which (inl f) = by l.rebalance.entry refl (subst (λ x. IsToFreeze x l) h.activity (i.puts.tries s l h.knows)) f
      which (inr n) = left n
