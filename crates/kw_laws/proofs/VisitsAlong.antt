-- The visits of seats along a list of events: the ledger has those that the events say, and the
-- numbers that were drawn, the word of a seat says the epoch of its visit, a seat may name each row
-- to which it has come in its visit, a row that is given free was reached by none, and no event
-- touches a word, but a state, of a row that its seat cannot reach.
use Rattle.std.proofs.Common.{ℕ, ◌≡◌, ◌⊎◌, inl, inr, ◌+◌, ◌<◌, ◌≤◌, true, Some, None, List, [], ◌∷◌, ◌++◌, arith, refl, sym, ◌∙◌, ap, subst, length, slice_get, length-append}
use Rattle.std.specs.Prelude.{take}
use Rattle.std.proofs.lemmas.Bool.{cases_eq, cases_lt}
use Rattle.std.proofs.lemmas.List.{take_all}
use Rattle.std.proofs.lemmas.Option.{same_Some, slice_get_within}
use Rattle.kw_words.specs.declared.kind.Kind.TheVariants as kind
use Rattle.kw_words.specs.declared.layout.Name.TheVariants as name
use Rattle.kw_words.specs.declared.state.State.TheVariants as state
use Rattle.kw_words.specs.Plain.{pass_word}
use Rattle.kw_words.specs.State.{state_word}
use Rattle.kw_rows.specs.Ledger.{IsFresh, IsHeld, Ledger}
use Rattle.kw_rows.specs.RowState as row
use Rattle.kw_rows.proofs.Framed.{retired_no}
use Rattle.kw_rows.proofs.Named.{fresh_next, held_by}
use Rattle.kw_world.specs.declared.activity.Activity.{Activity}
use Rattle.kw_world.specs.declared.activity.enter.Enter.TheVariants as Enter
use Rattle.kw_world.specs.declared.activity.rebalance.Rebalance.TheVariants as Rebalance
use Rattle.kw_world.specs.declared.activity.rebalance.replace.Replace.TheVariants as Replace
use Rattle.kw_world.specs.declared.activity.rebalance.seek.Seek.TheVariants as Seek
use Rattle.kw_world.specs.declared.activity.read.Read.TheVariants as Read
use Rattle.kw_world.specs.declared.event.Event.{Event}
use Rattle.kw_world.specs.declared.local.Local.{Local}
use Rattle.kw_world.specs.declared.opening.Opening.{Opening}
use Rattle.kw_world.specs.declared.operation.Action.TheVariants.{Exchange, Store}
use Rattle.kw_world.specs.declared.operation.Operation.{Operation}
use Rattle.kw_world.specs.Opening.{IsOpening}
use Rattle.kw_world.specs.Operation.{word_after}
use Rattle.kw_world.specs.Sizes.{Sizes}
use Rattle.kw_world.specs.Step.{step, word}
use Rattle.kw_world.specs.Table.{transition}
use Rattle.kw_world.specs.WalkTransitions.{offered}
use Rattle.kw_world.specs.WorldView.{WorldView}
use Rattle.kw_core.specs.Events.{is_valid, may_step, world}
use Rattle.kw_core.specs.History.{History}
use Rattle.kw_core.specs.Run.{Run, goes_on, history, logged, noted_by, start}
use Rattle.kw_core.specs.Words.{next_in}
use Rattle.kw_core.proofs.Events.{may_come, world-nil, world-snoc}
use Rattle.kw_core.proofs.Fates.{number_of_drawn, others_stay}
use Rattle.kw_core.proofs.Frame.{WritesPass, pass_kept}
use Rattle.kw_core.proofs.Happens.{Happens, happens}
use Rattle.kw_core.proofs.Runs.{goes_on-moved, goes_on-world}
use Rattle.kw_reads.specs.Inv.{Inv}
use Rattle.kw_reads.proofs.Keeps.{inv_goes_on}
use Rattle.kw_reads.proofs.Opens.{inv_start}
use Rattle.kw_shape.specs.Shape.{Shape}
use Rattle.kw_shape.specs.Visits.{Visits}
use Rattle.kw_shape.specs.RowsIn.{rows_in}
use Rattle.kw_shape.specs.Sought.{Sought}
use Rattle.kw_shape.proofs.BuildEvents.{dead_by_state, word_says}
use Rattle.kw_shape.proofs.LinkedRows.{all_young}
use Rattle.kw_shape.proofs.VisitsKeep.{old_number}
use Rattle.kw_shape.proofs.RowsKeep.{others_kept, visit_begins, visit_ends, visit_taken_back, rely_rows}
use Rattle.kw_laws.specs.Causes.{reclaiming}
use Rattle.kw_laws.specs.Mirror.{Acts, operation}
use Rattle.kw_laws.specs.Reach.{DrawsNumber, EndsVisit, HasBeenAt, HasComeTo, IsEnding, IsInVisit, HasReached, IsNamed, IsRowWord, IsWithinReach, Reclaims, is_led, is_named}
use Rattle.kw_laws.proofs.Acting.{acting_now, acts_now}
use Rattle.kw_laws.proofs.Along.{holds_along}
use Rattle.kw_laws.proofs.CausesLast.{acts_was}
use Rattle.kw_laws.proofs.NamedRows.{IsTouched, named_fresh, named_visits, of_infant, of_named, touched}
use Rattle.kw_laws.proofs.Occurs.{occurs_now}
use Rattle.kw_laws.proofs.VisitsOver.{been_was, come_after, come_was, in_visit_lasts, in_visit_next, in_visit_one_less, in_visit_was, within_reach_lasts}
use Rattle.kw_shape.proofs.Worlds.{world-seats}

-- where a row that is retired with this number is given free, at position x: the number was drawn
-- before each visit that is on began, and no seat has reached the row in such a visit
pub record IsFreed (z : Sizes) (o : Opening) (es : List Event) (g : Ledger) (x q number : ℕ) : Type 0 where
  pub at : ℕ
  pub numbered : g.numbered number ≡ Some at
  pub young : (t u : ℕ) → IsInVisit z o es t u x → at < u
  pub unreached : (t : ℕ) → HasBeenAt z o es x t q → ⊥

-- what is kept along a list
pub record KeepsVisits (z : Sizes) (o : Opening) (es : List Event) (r : Run) : Type 0 where
  pub inv : Inv z r
  pub world : world z o es ≡ r.world
  pub now : length r.history.log ≡ length es
  -- a visit of the ledger is on, and one that is on is in the ledger, and its epoch in the seat's
  -- word
  pub begun : (t u : ℕ) → r.ledger.rows.visits t ≡ Some u → IsInVisit z o es t u (length es)
  pub on : (t u : ℕ) (p : IsInVisit z o es t u (length es)) → (r.ledger.rows.visits t ≡ Some u) × (word z r.world (name.Pass t) ≡ pass_word (Some p.begins.epoch))
  -- a number that is drawn is in the ledger
  pub drawn : (y d number : ℕ) → DrawsNumber z o es y d number → r.ledger.rows.numbered number ≡ Some y
  -- a seat may name the rows to which it has come
  pub fresh : (t u x q : ℕ) → IsInVisit z o es t u (length es) → HasComeTo z o es t u x q → IsFresh r.ledger.rows t q
  -- and each event touches such a row, or an infant of its seat
  pub touches : (x s found q : ℕ) (b : Activity) (op : Operation) → Acts z o es x s b op found → IsRowWord op.name q → IsWithinReach z o es x s q
  pub freed : (x s q number : ℕ) → Reclaims z o es x s q number → IsFreed z o es r.ledger.rows x q number

-- a seat that made an event is one of the table
pub acting_seat : (z : Sizes) (o : Opening) (es : List Event) (x s : ℕ) (a : Activity) (op : Operation) (found : ℕ) → Acts z o es x s a op found → s < o.seats
acting_seat z o es x s a op found t = omega (arith, slice_get_within t.before.locals s t.local t.knows, ap (λ (w : WorldView). length w.locals) t.occurs.before, world-seats z o (take x es))

-- the same name of a state, and the same number of a retired one
same_state : (p q : ℕ) → name.State p ≡ name.State q → p ≡ q
same_state p q e = cc

same_number : (m n : ℕ) → Exchange (state_word (state.Retired m)) (state_word state.Free) ≡ Exchange (state_word (state.Retired n)) (state_word state.Free) → m ≡ n
same_number m n e = let x : state_word (state.Retired m) ≡ state_word (state.Retired n) = cc in omega (arith, x)

-- One more event.

module _ (z : Sizes) (o : Opening) (es : List Event) (e : Event) (r r' : Run) (l l' : Local) (a : Activity) (h : Happens z r r' e.seat (offered r.world.rows e.choice) l l' a) (i' : Inv z r') (led' : world z o (es ++ e ∷ []) ≡ r'.world) (k : KeepsVisits z o es r) where
  longer : length (es ++ e ∷ []) ≡ length es + 1
  longer = omega (arith, length-append es (e ∷ []))

  -- the event of such an activity
  abbrev happens_at : (b : Activity) → a ≡ b → Happens z r r' e.seat (offered r.world.rows e.choice) l l' b
  happens_at b is = subst (λ c. Happens z r r' e.seat (offered r.world.rows e.choice) l l' c) is h

  -- Visits that begin and end.

  -- a seat that leaves, or tries again, ends its visit
  ends_here : (b : Activity) → a ≡ b → IsEnding b → (transition z b e.seat (offered r.world.rows e.choice) l).operation ≡ operation kind.ClearPass (name.Pass e.seat) (Store (pass_word None)) → EndsVisit z o (es ++ e ∷ []) (length es) e.seat
  ends_here b is x f = record { activity = b; ends = x; found = word z r.world (name.Pass e.seat); acts = acts_now z o es e r r' l l' a h k.world b _ is f }

  -- no other event takes one back
  ends_by : (t : ℕ) → EndsVisit z o (es ++ e ∷ []) (length es) t → (e.seat ≡ t) × IsEnding a
  ends_by t d =
      let n = acting_now z o es e r r' l l' a h k.world (length es) t d.activity _ d.found refl d.acts in
      (n.seat, subst IsEnding (sym n.activity) d.ends)

  -- a visit that is on, and is not ended, is neither begun nor ended
  unended : (b : Activity) → a ≡ b → (t u : ℕ) → r.ledger.rows.visits t ≡ Some u → (EndsVisit z o (es ++ e ∷ []) (length es) t → ⊥) → WritesPass b → t ≡ e.seat → ⊥
  unended (Activity.Enter Enter.Announce) is t u on n x d =
      let p = subst (λ c. Visits (word z r.world) r.ledger.rows e.seat c l) (h.activity ∙ is) (k.inv.shape.visits e.seat l h.knows) in
      let y : None ≡ Some u = sym (p.in_none (λ c. c)).visits ∙ subst (λ c. r.ledger.rows.visits c ≡ Some u) d on in
      cc
  unended (Activity.Leave answer) is t u on n x d = n (subst (EndsVisit z o (es ++ e ∷ []) (length es)) (sym d) (ends_here (Activity.Leave answer) is tt refl))
  unended Activity.Retry is t u on n x d = n (subst (EndsVisit z o (es ++ e ∷ []) (length es)) (sym d) (ends_here Activity.Retry is tt refl))
  unended _ is t u on n x d = x

  -- a visit that begins now is on
  begins_here : a ≡ Activity.Enter Enter.Announce → IsInVisit z o (es ++ e ∷ []) e.seat (length es) (length (es ++ e ∷ []))
  begins_here is = record {
    begins = record { epoch = l.epoch; found = word z r.world (name.Pass e.seat); acts = acts_now z o es e r r' l l' a h k.world (Activity.Enter Enter.Announce) _ is refl };
    after = omega (arith, longer);
    within = omega arith;
    runs = λ y f g d. omega (arith, f, g, longer);
  }

  -- Visits of the ledger.

  begun_on : (t u : ℕ) → r'.ledger.rows.visits t ≡ Some u → IsInVisit z o (es ++ e ∷ []) t u (length (es ++ e ∷ []))
  begun_on t u f = which (cases_eq t e.seat)
    where
      own : (b : Activity) → a ≡ b → r'.ledger.rows.visits e.seat ≡ Some u → IsInVisit z o (es ++ e ∷ []) e.seat u (length (es ++ e ∷ []))
      own (Activity.Enter Enter.Announce) is g =
          let same : length es ≡ u = sym k.now ∙ same_Some (length r.history.log) u (sym (visit_begins (happens_at (Activity.Enter Enter.Announce) is)) ∙ g) in
          subst (λ y. IsInVisit z o (es ++ e ∷ []) e.seat y (length (es ++ e ∷ []))) same (begins_here is)
      own (Activity.Leave answer) is g = let y : None ≡ Some u = sym (visit_ends answer (happens_at (Activity.Leave answer) is)) ∙ g in absurd (cc)
      own Activity.Retry is g = let y : None ≡ Some u = sym (visit_taken_back (happens_at Activity.Retry is)) ∙ g in absurd (cc)
      own (Activity.Read Read.Link) is g = in_visit_next z o es e e.seat u (λ d. subst IsEnding is (ends_by e.seat d).1) (k.begun e.seat u (sym (others_stay (Activity.Read Read.Link) (happens_at (Activity.Read Read.Link) is) e.seat (λ x c. x)) ∙ g))
      own b is g = in_visit_next z o es e e.seat u (λ d. subst IsEnding is (ends_by e.seat d).1) (k.begun e.seat u (sym (others_stay b (happens_at b is) e.seat (λ x c. x)) ∙ g))

      which : (t ≡ e.seat) ⊎ (t ≡ e.seat → ⊥) → IsInVisit z o (es ++ e ∷ []) t u (length (es ++ e ∷ []))
      which (inl c) = subst (λ y. IsInVisit z o (es ++ e ∷ []) y u (length (es ++ e ∷ []))) (sym c) (own a refl (subst (λ y. r'.ledger.rows.visits y ≡ Some u) c f))
      which (inr c) = in_visit_next z o es e t u (λ d. c (sym (ends_by t d).0)) (k.begun t u (sym (others_kept a h t c) ∙ f))

  on_next : (t u : ℕ) (p : IsInVisit z o (es ++ e ∷ []) t u (length (es ++ e ∷ []))) → (r'.ledger.rows.visits t ≡ Some u) × (word z r'.world (name.Pass t) ≡ pass_word (Some p.begins.epoch))
  on_next t u p = which (cases_lt u (length es))
    where
      seats : t < z.seats
      seats = omega (arith, acting_seat z o (es ++ e ∷ []) u t _ _ p.begins.found p.begins.acts, world-seats z o es, ap (λ (w : WorldView). length w.locals) k.world, k.inv.shape.sane.seats)

      which : (u < length es) ⊎ (length es ≤ u) → (r'.ledger.rows.visits t ≡ Some u) × (word z r'.world (name.Pass t) ≡ pass_word (Some p.begins.epoch))
      which (inl f) =
          let same : length es ≤ length es = omega arith in
          let was = k.on t u (in_visit_was z o es e t u (length es) same (in_visit_one_less z o es e t u f p)) in
          let quiet = unended a refl t u was.0 (p.runs (length es) f (omega (arith, longer))) in
          (others_stay a h t quiet ∙ was.0, pass_kept a h t seats quiet ∙ was.1)
      which (inr f) =
          let at : u ≡ length es = omega (arith, f, p.after, longer) in
          let n = acting_now z o es e r r' l l' a h k.world u t _ _ p.begins.found at p.begins.acts in (
            subst (λ y. r'.ledger.rows.visits y ≡ Some u) n.seat (visit_begins (happens_at (Activity.Enter Enter.Announce) n.activity) ∙ ap Some (k.now ∙ sym at)),
            subst (λ (x : Operation). word z r'.world x.name ≡ word_after x.action (word z r.world x.name)) n.operates h.changed.same,
          )

  -- Numbers.

  -- one that was drawn before is in the ledger still
  number_stays : (number at : ℕ) → r.ledger.rows.numbered number ≡ Some at → r'.ledger.rows.numbered number ≡ Some at
  number_stays number at f = old_number a h number (k.inv.shape.numbers.below number at f) ∙ f

  drawn_on : (y d number : ℕ) → DrawsNumber z o (es ++ e ∷ []) y d number → r'.ledger.rows.numbered number ≡ Some y
  drawn_on y d number t = which (acts_was z o es e y d (Activity.Rebalance (Rebalance.Replace Replace.Number)) _ number t)
    where
      which : DrawsNumber z o es y d number ⊎ (y ≡ length es) → r'.ledger.rows.numbered number ≡ Some y
      which (inl c) = number_stays number y (k.drawn y d number c)
      which (inr c) =
          let n = acting_now z o es e r r' l l' a h k.world y d (Activity.Rebalance (Rebalance.Replace Replace.Number)) _ number c t in
          subst (λ x. r'.ledger.rows.numbered x ≡ Some y) n.finds (number_of_drawn (happens_at (Activity.Rebalance (Rebalance.Replace Replace.Number)) n.activity) ∙ ap Some (k.now ∙ sym c))

  -- Rows that are given free.

  -- a row that was given free before
  freed_before : (x q number : ℕ) → x < length es → IsFreed z o es r.ledger.rows x q number → IsFreed z o (es ++ e ∷ []) r'.ledger.rows x q number
  freed_before x q number w f = record {
    at = f.at;
    numbered = number_stays number f.at f.numbered;
    young = λ t u p. f.young t u (in_visit_was z o es e t u x (omega (arith, w)) p);
    unreached = λ t d. f.unreached t (been_was z o es e x t q (omega (arith, w)) d);
  }

  -- one that is given free now: the seat has looked at each visit
  freed_here : a ≡ Activity.Rebalance (Rebalance.Seek Seek.Reclaim) → word z r.world (name.State l.rebalance.sought) ≡ state_word (state.Retired l.rebalance.number) → IsFreed z o (es ++ e ∷ []) r'.ledger.rows (length es) l.rebalance.sought l.rebalance.number
  freed_here is retired = record {
    at = drawn.0;
    numbered = number_stays l.rebalance.number drawn.0 drawn.1;
    young = λ t u p. young t u drawn.0 (k.on t u (was t u p)).0 drawn.1;
    unreached = λ t d. unheld (held_by r.ledger.rows t l.rebalance.sought (k.fresh t d.since d.at l.rebalance.sought (was t d.since d.pass) (come_was z o es e t d.since d.at l.rebalance.sought d.by d.came)));
  }
    where
      same : length es ≤ length es
      same = omega arith

      was : (t u : ℕ) → IsInVisit z o (es ++ e ∷ []) t u (length es) → IsInVisit z o es t u (length es)
      was t u p = in_visit_was z o es e t u (length es) same p

      drawn : (at : ℕ) × (r.ledger.rows.numbered l.rebalance.number ≡ Some at)
      drawn = (subst (λ b. Sought z (word z r.world) r.ledger.rows e.seat b l) (h.activity ∙ is) (k.inv.shape.sought e.seat l h.knows)).drawn tt

      young : (t since at : ℕ) → r.ledger.rows.visits t ≡ Some since → r.ledger.rows.numbered l.rebalance.number ≡ Some at → at < since
      young = all_young (happens_at (Activity.Rebalance (Rebalance.Seek Seek.Reclaim)) is) k.inv.shape

      unheld : IsHeld r.ledger.rows l.rebalance.sought → ⊥
      unheld =
          let f : (rows_in (word z r.world)).state l.rebalance.sought ≡ row.Retired l.rebalance.number = word_says _ (state.Retired l.rebalance.number) (k.inv.shape.sane.locals e.seat l h.knows).ranges.rebalance.number retired in
          retired_no (rows_in (word z r.world)) r.ledger.rows l.rebalance.sought l.rebalance.number k.inv.shape.rows.states (dead_by_state (rows_in (word z r.world)) r.ledger.rows l.rebalance.sought l.rebalance.number k.inv.shape.rows.states f) f young

  freed_on : (x s q number : ℕ) → Reclaims z o (es ++ e ∷ []) x s q number → IsFreed z o (es ++ e ∷ []) r'.ledger.rows x q number
  freed_on x s q number t = which (acts_was z o es e x s (Activity.Rebalance (Rebalance.Seek Seek.Reclaim)) _ _ t)
    where
      which : Reclaims z o es x s q number ⊎ (x ≡ length es) → IsFreed z o (es ++ e ∷ []) r'.ledger.rows x q number
      which (inl c) = freed_before x q number (slice_get_within es x _ c.occurs.stands) (k.freed x s q number c)
      which (inr c) =
          let n = acting_now z o es e r r' l l' a h k.world x s (Activity.Rebalance (Rebalance.Seek Seek.Reclaim)) (reclaiming q number) _ c t in
          let line : reclaiming l.rebalance.sought l.rebalance.number ≡ reclaiming q number = ap (λ b. (transition z b e.seat (offered r.world.rows e.choice) l).operation) (sym n.activity) ∙ n.operates in
          let row : l.rebalance.sought ≡ q = same_state _ _ (ap (λ (y : Operation). y.name) line) in
          let same : l.rebalance.number ≡ number = same_number _ _ (ap (λ (y : Operation). y.action) line) in
          subst (λ y. IsFreed z o (es ++ e ∷ []) r'.ledger.rows y q number) (sym c)
          (subst (λ y. IsFreed z o (es ++ e ∷ []) r'.ledger.rows (length es) y number) row
          (subst (λ y. IsFreed z o (es ++ e ∷ []) r'.ledger.rows (length es) l.rebalance.sought y) same
          (freed_here n.activity (ap (λ y. word z r.world (name.State y)) row ∙ n.finds ∙ ap (λ y. state_word (state.Retired y)) (sym same)))))

  -- Rows that are come to.

  -- those of before the event
  fresh_old : (t u x q : ℕ) → IsInVisit z o (es ++ e ∷ []) t u (length (es ++ e ∷ [])) → x ≤ length es → HasComeTo z o (es ++ e ∷ []) t u x q → IsFresh r'.ledger.rows t q
  fresh_old t u x q p w c =
      let same : length es ≤ length es = omega arith in
      let f : u < length es = omega (arith, come_after z o (es ++ e ∷ []) t u x q c, w) in
      let was = in_visit_was z o es e t u (length es) same (in_visit_one_less z o es e t u f p) in
      (rely_rows a h k.inv.shape t u (k.on t u was).0 (on_next t u p).0).fresh q (k.fresh t u x q was (come_was z o es e t u x q w c))

  -- the world at the end
  last_world : (x : ℕ) → length (es ++ e ∷ []) ≤ x → world z o (take x (es ++ e ∷ [])) ≡ r'.world
  last_world x w = ap (world z o) (take_all x (es ++ e ∷ []) w) ∙ led'

  fresh_on : (t u : ℕ) → IsInVisit z o (es ++ e ∷ []) t u (length (es ++ e ∷ [])) → (x q : ℕ) → HasComeTo z o (es ++ e ∷ []) t u x q → IsFresh r'.ledger.rows t q
  fresh_on t u p _ _ (is_named x q m f g y n) = which (cases_lt x (length (es ++ e ∷ [])))
    where
      which : (x < length (es ++ e ∷ [])) ⊎ (length (es ++ e ∷ []) ≤ x) → IsFresh r'.ledger.rows t q
      which (inl w) = fresh_old t u x q p (omega (arith, w, longer)) (is_named x q m f g y n)
      which (inr w) =
          let knows : slice_get r'.world.locals t ≡ Some m = subst (λ (v : WorldView). slice_get v.locals t ≡ Some m) (last_world x w) y in
          let i = i'.shape in
          named_fresh (word z r'.world) r'.ledger.rows i.rows.closed t m.activity m (i.walks t m knows) (i.balances t m knows) (i.search t m knows) (i.won t m knows) q n
  fresh_on t u p _ _ (is_led x y b q c f g n) = which (fresh_on t u p x b c) (cases_lt y (length (es ++ e ∷ [])))
    where
      which : IsFresh r'.ledger.rows t b → (y < length (es ++ e ∷ [])) ⊎ (length (es ++ e ∷ []) ≤ y) → IsFresh r'.ledger.rows t q
      which d (inl w) = fresh_old t u y q p (omega (arith, w, longer)) (is_led x y b q c f g n)
      which d (inr w) = fresh_next (rows_in (word z r'.world)) r'.ledger.rows i'.shape.rows.closed t b q d (subst (λ (v : WorldView). next_in (word z v) b ≡ Some q) (last_world y w) n)

  -- What the event touches.

  touches_here : (q : ℕ) → IsRowWord (transition z a e.seat (offered r.world.rows e.choice) l).operation.name q → IsWithinReach z o (es ++ e ∷ []) (length es) e.seat q
  touches_here q w = which (touched z e.seat (offered r.world.rows e.choice) l l.activity q (shape.search e.seat l h.knows).some (shape.infants e.seat l h.knows).hand (shape.balances e.seat l h.knows).next (shape.balances e.seat l h.knows).hands (subst (λ b. IsRowWord (transition z b e.seat (offered r.world.rows e.choice) l).operation.name q) (sym h.activity) w))
    where
      shape : Shape z r
      shape = k.inv.shape

      now : world z o (take (length es) (es ++ e ∷ [])) ≡ r.world
      now = (occurs_now z o es e).before ∙ k.world

      knows : slice_get (world z o (take (length es) (es ++ e ∷ []))).locals e.seat ≡ Some l
      knows = ap (λ (v : WorldView). slice_get v.locals e.seat) now ∙ h.knows

      -- a row that the seat names
      named : (p : ℕ) → IsNamed l.activity l p → HasReached z o (es ++ e ∷ []) (length es) e.seat p
      named p n =
          let v = (shape.visits e.seat l h.knows).in_visit (named_visits l.activity l p n) in
          let on = k.begun e.seat v.since v.visits in
          record { since = v.since; pass = in_visit_lasts z o es e e.seat v.since (length es) on; reached = is_named (length es) p l on.after (omega (arith, longer)) knows n }

      which : IsTouched l.activity l q → IsWithinReach z o (es ++ e ∷ []) (length es) e.seat q
      which (of_named n) = inl (named q n)
      which (of_infant n) = inr (record { local = l; knows = knows; nursed = n })

  touches_on : (x s found q : ℕ) (b : Activity) (op : Operation) → Acts z o (es ++ e ∷ []) x s b op found → IsRowWord op.name q → IsWithinReach z o (es ++ e ∷ []) x s q
  touches_on x s found q b op t w = which (acts_was z o es e x s b op found t)
    where
      which : Acts z o es x s b op found ⊎ (x ≡ length es) → IsWithinReach z o (es ++ e ∷ []) x s q
      which (inl c) = within_reach_lasts z o es e x s q (omega (arith, slice_get_within es x _ c.occurs.stands)) (k.touches x s found q b op c w)
      which (inr c) =
          let n = acting_now z o es e r r' l l' a h k.world x s b op found c t in
          subst (λ y. IsWithinReach z o (es ++ e ∷ []) y s q) (sym c) (subst (λ y. IsWithinReach z o (es ++ e ∷ []) (length es) y q) n.seat (touches_here q (subst (λ (y : Operation). IsRowWord y.name q) (sym n.operates) w)))

  -- all of it after the event
  pub visits_next : KeepsVisits z o (es ++ e ∷ []) r'
  visits_next = record {
    inv = i';
    world = led';
    now = let x = ap (λ (y : History). length y.log) h.history in omega (arith, x, length-append r.history.log (logged e.seat (transition z a e.seat (offered r.world.rows e.choice) l).operation.kind (word z r.world name.Clock) ∷ []), longer, k.now);
    begun = begun_on;
    on = on_next;
    drawn = drawn_on;
    fresh = λ t u x q p. fresh_on t u p x q;
    touches = touches_on;
    freed = freed_on;
  }

-- one event that may come
visits_on : (z : Sizes) (o : Opening) (es : List Event) (e : Event) (r : Run) → may_step o r.world e ≡ true → KeepsVisits z o es r → KeepsVisits z o (es ++ e ∷ []) (goes_on z r e)
visits_on z o es e r may k =
    let c = may_come o r.world e may in
    let noted : goes_on z r e ≡ noted_by z r e c.local = goes_on-moved z r e c.local c.knows c.moves in
    let w : world z o (es ++ e ∷ []) ≡ (goes_on z r e).world = world-snoc z o es e ∙ ap (λ (x : WorldView). (step z x e).world) k.world ∙ sym (goes_on-world z r e) in
    let h = happens z r e c.local k.inv.shape.sane c.begins c.knows c.moves in
    subst (KeepsVisits z o (es ++ e ∷ [])) (sym noted) (visits_next z o es e r (noted_by z r e c.local) c.local _ c.local.activity h (subst (Inv z) noted (inv_goes_on z o r e may k.inv)) (w ∙ ap (λ (x : Run). x.world) noted) k)

-- no event
visits_start : (z : Sizes) (o : Opening) → IsOpening z o → KeepsVisits z o [] (start z o)
visits_start z o opening = record {
  inv = inv_start z o opening;
  world = world-nil z o;
  now = refl;
  begun = λ t u f. let x : None ≡ Some u = f in absurd (cc);
  on = λ t u p. absurd (nothing _ p.begins.acts.occurs.stands);
  fresh = λ t u x q p c. absurd (nothing _ p.begins.acts.occurs.stands);
  drawn = λ y d number t. absurd (nothing _ t.occurs.stands);
  touches = λ x s found q b op t w. absurd (nothing _ t.occurs.stands);
  freed = λ x s q number t. absurd (nothing _ t.occurs.stands);
}
  where
    nothing : (e : Event) → None ≡ Some e → ⊥
    nothing e g = cc

-- every valid list
pub visits_along : (z : Sizes) (o : Opening) → IsOpening z o → (es : List Event) → is_valid z o es ≡ true → KeepsVisits z o es (history z o es)
visits_along z o opening = holds_along z o (KeepsVisits z o) (visits_on z o) (visits_start z o opening)
