-- The shape holds where nothing happened.
use Rattle.std.proofs.Common.{ℕ, zero, suc, ◌≡◌, ◌⊎◌, inl, inr, ◌*◌, ◌<◌, ◌≤◌, true, false, Some, None, arith, refl, sym, ◌∙◌, ap, subst}
use Rattle.kw_core.specs.Stages.{IsBalancing, IsDone}
use Rattle.std.proofs.lemmas.Bool.{cases_lt}
use Rattle.std.proofs.lemmas.Option.{slice_get_within}
use Rattle.kw_world.specs.declared.activity.Activity.TheVariants as Activity
use Rattle.kw_world.specs.declared.limits.TheConstants.{TIDY_SHARE}
use Rattle.kw_words.specs.declared.layout.Name.{Name}
use Rattle.kw_words.specs.declared.layout.Name.TheVariants as name
use Rattle.kw_world.specs.Sizes.{Sizes}
use Rattle.kw_world.specs.declared.opening.Opening.{Opening}
use Rattle.std.specs.Prelude.{replicate}
use Rattle.kw_words.specs.declared.state.State.TheVariants.{Normal}
use Rattle.kw_words.specs.Layout.{IsWithin, place_of, row_start}
use Rattle.kw_words.specs.Count.{count_of}
use Rattle.kw_words.specs.Link.{link_of, link_word}
use Rattle.kw_words.specs.State.{state_of, state_word}
use Rattle.kw_words.proofs.StateWords.{state_of-Free, state_of-Normal}
use Rattle.kw_world.specs.Local.{resting}
use Rattle.kw_world.specs.Transition.{row_linked}
use Rattle.kw_world.specs.PutTransitions.{given_of}
use Rattle.kw_world.specs.Opening.{IsOpening, opened, opening_word, link_to}
pub use Rattle.kw_world.proofs.Opens.{all_resting, each_rests}
use Rattle.kw_world.proofs.Opens.{opened-sane}
use Rattle.kw_world.proofs.Begins.{opened-word}
use Rattle.kw_shape.specs.Rooms.{adders, drawers}
use Rattle.kw_world.specs.Step.{word}
use Rattle.kw_core.specs.Words.{built_in, next_in, given_in}
use Rattle.kw_core.specs.Ledger.{fate_at_first, ledger_at_first}
use Rattle.kw_core.specs.Run.{start}
use Rattle.kw_core.proofs.Beyond.{beyond}
use Rattle.kw_rows.specs.Ledger.{Free, Infant, Live, Dead, IsDead, IsHeld, IsLive}
use Rattle.kw_rows.specs.RowState as row
use Rattle.kw_rows.specs.RowState.{IsEngaged}
use Rattle.kw_rows.specs.Rows.{Chain, bound}
use Rattle.kw_rows.specs.States.{IsLiveState, Marks, States}
use Rattle.kw_rows.specs.Structure.{Structure}
use Rattle.kw_shape.specs.Visits.{Visits}
use Rattle.kw_shape.specs.RowsIn.{has_frozen, has_mark, rows_in, state_seen}
use Rattle.kw_shape.specs.Balances.{Balances}
use Rattle.kw_shape.specs.Infants.{HasLostNone, Infants}
use Rattle.kw_shape.specs.Search.{Search}
use Rattle.kw_shape.specs.Sought.{Sought}
use Rattle.kw_shape.specs.Hands.{IsToRetire}
use Rattle.kw_shape.specs.Won.{Won}
use Rattle.kw_shape.proofs.SoughtKeep.{unsought}
use Rattle.kw_shape.proofs.Comings.{unbuilt_search}
use Rattle.kw_shape.proofs.InfantsKeep.{nowhere}
use Rattle.kw_shape.proofs.WonKeep.{unwon}
use Rattle.kw_shape.proofs.BalancesKeep.{outside}
use Rattle.kw_shape.proofs.PlansKeep.{unplanned}
use Rattle.kw_shape.specs.Plans.{Plans}
use Rattle.kw_shape.specs.Epochs.{numberers}
use Rattle.kw_shape.specs.Keyed.{IsOfCell, IsRest, Keyed, Keys}
use Rattle.kw_words.specs.Pend.{pend_of}
use Rattle.kw_words.specs.Plain.{built_of_word, cell_of_link_word, key_of_word}
use Rattle.kw_words.proofs.PlainWords.{built_of_word-zero}
use Rattle.kw_words.proofs.PendWords.{pend_of-Idle}
use Rattle.kw_shape.specs.Shape.{Kinds, Shape, Walks}
use Rattle.kw_shape.proofs.RelyRows.{walks_outside}

no_adders : (n q : ℕ) → adders q (replicate n (resting 0)) ≡ 0
no_adders zero q = refl
no_adders (suc n) q = omega (arith, no_adders n q)

no_drawers : (m n : ℕ) → drawers m (replicate n (resting 0)) ≡ 0
no_drawers m zero = refl
no_drawers m (suc n) = omega (arith, no_drawers m n)

no_numberers : (n : ℕ) → numberers (replicate n (resting 0)) ≡ 0
no_numberers zero = refl
no_numberers (suc n) = omega (arith, no_numberers n)

no_cell : cell_of_link_word 0 ≡ None
unfolding cell_of_link_word
no_cell = refl

pub none_given : given_of (count_of 0) ≡ 0
unfolding count_of
none_given = refl

no_link : row_linked (link_of 0) ≡ None
unfolding link_of
no_link = refl

no_mark : has_mark (link_of 0) ≡ false
unfolding link_of
no_mark = refl

not_frozen : has_frozen (count_of 0) ≡ false
unfolding count_of
not_frozen = refl

to_first : row_linked (link_of (link_word (link_to 0))) ≡ Some 0
unfolding link_of
to_first = refl

least_key : key_of_word 0 ≡ 0
unfolding key_of_word
least_key = refl

module _ (z : Sizes) (o : Opening) (i : IsOpening z o) where
  pub opens : (n : Name) → IsWithin z.seats z.cells o.rows n → word z (opened z o) n ≡ opening_word o n
  opens n w = opened-word z o n i.sized w

  pub given-none : (q : ℕ) → q < o.rows → given_in (word z (opened z o)) q ≡ 0
  given-none q w = ap (λ x. given_of (count_of x)) (opens (name.Count q) w) ∙ none_given

  -- a row that the table does not have has words of 0, as all rows but the first
  word-none : (n : Name) (q : ℕ) → (q < o.rows → IsWithin z.seats z.cells o.rows n) → row_start z.seats z.cells q ≤ place_of z.seats z.cells n → opening_word o n ≡ 0 → word z (opened z o) n ≡ 0
  word-none n q w b e = which (cases_lt q o.rows)
    where
      which : (q < o.rows) ⊎ (o.rows ≤ q) → word z (opened z o) n ≡ 0
      which (inl p) = opens n (w p) ∙ e
      which (inr p) = beyond z (opened z o) n q (opened-sane z o i).words p b

  next-none : (q : ℕ) → next_in (word z (opened z o)) q ≡ None
  next-none q = ap (λ x. row_linked (link_of x)) (word-none (name.Next q) q (λ x. x) (omega arith) refl) ∙ no_link

  mark-none : (q : ℕ) → (rows_in (word z (opened z o))).marked q ≡ false
  mark-none q = ap (λ x. has_mark (link_of x)) (word-none (name.Next q) q (λ x. x) (omega arith) refl) ∙ no_mark

  frozen-none : (q : ℕ) → (rows_in (word z (opened z o))).frozen q ≡ false
  frozen-none q = ap (λ x. has_frozen (count_of x)) (word-none (name.Count q) q (λ x. x) (omega arith) refl) ∙ not_frozen

  -- the first row is normal, and every other one free
  first-normal : word z (opened z o) (name.State 0) ≡ state_word Normal
  first-normal = opens (name.State 0) i.sized.some_rows

  first-state : (rows_in (word z (opened z o))).state 0 ≡ row.Normal
  first-state = ap (λ x. state_seen (state_of x)) first-normal ∙ ap state_seen state_of-Normal

  other-state : (q : ℕ) → (rows_in (word z (opened z o))).state (suc q) ≡ row.Free
  other-state q = ap (λ x. state_seen (state_of x)) (word-none (name.State (suc q)) (suc q) (λ x. x) (omega arith) refl) ∙ ap state_seen state_of-Free

  -- only the first row is in the list, and none was unlinked
  only_first : (q : ℕ) → IsLive (ledger_at_first o).rows q → q ≡ 0
  only_first zero a = refl
  only_first (suc q) a = let x : Free ≡ Live = a in absurd (cc)

  none_dead : {A : Type 0} (q : ℕ) → IsDead (ledger_at_first o).rows q → A
  none_dead zero a = let x : Live ≡ Dead = a in absurd (cc)
  none_dead (suc q) a = let x : Free ≡ Dead = a in absurd (cc)

  -- nor is any taken
  none_infant : {A : Type 0} (q : ℕ) → ((ledger_at_first o).rows.fates q).status ≡ Infant → A
  none_infant zero e = let x : Live ≡ Infant = e in absurd (cc)
  none_infant (suc q) e = let x : Free ≡ Infant = e in absurd (cc)

  -- no row is held but the first, which has no next row
  held_live : (q : ℕ) → IsHeld (ledger_at_first o).rows q → IsLive (ledger_at_first o).rows q
  held_live q (inl a) = a
  held_live q (inr h) = none_dead q h.1.dead

  no_next : {A : Type 0} (q n : ℕ) → next_in (word z (opened z o)) q ≡ Some n → A
  no_next q n e = let x : None ≡ Some n = sym (next-none q) ∙ e in absurd (cc)

  no_mark_of : {A : Type 0} (q : ℕ) → (rows_in (word z (opened z o))).marked q ≡ true → A
  no_mark_of q e = let x : false ≡ true = sym (mark-none q) ∙ e in absurd (cc)

  chain_starts : Chain (rows_in (word z (opened z o))) (ledger_at_first o).rows
  chain_starts = record {
    first = 0;
    leads = ap (λ x. row_linked (link_of x)) (opens name.Head tt) ∙ to_first;
    first_live = refl;
    first_least = ap key_of_word (opens (name.Least 0) i.sized.some_rows) ∙ least_key;
    linked = λ q n a e. no_next q n e;
    rises = λ q n a e. no_next q n e;
    apart = λ q n a b. inl (only_first q a ∙ sym (only_first n b));
  }

  states_start : States (rows_in (word z (opened z o))) (ledger_at_first o).rows
  states_start zero = subst (IsLiveState (rows_in (word z (opened z o))) (ledger_at_first o).rows 0) (sym first-state) tt
  states_start (suc q) = other-state q

  -- no row leads a group
  no_leader : {A : Type 0} (q n : ℕ) → (rows_in (word z (opened z o))).state q ≡ row.Leader n → A
  no_leader zero n e = let x : row.Normal ≡ row.Leader n = sym first-state ∙ e in absurd (cc)
  no_leader (suc q) n e = let x : row.Free ≡ row.Leader n = sym (other-state q) ∙ e in absurd (cc)

  marks_start : (q : ℕ) → Marks (rows_in (word z (opened z o))) (ledger_at_first o).rows q
  marks_start q = record {
    engaged = λ a e. no_mark_of q e;
    decided = λ m a o e. no_leader q m e;
    frozen = λ a e. let x : false ≡ true = sym (frozen-none q) ∙ e in absurd (cc);
    buried = λ d. none_dead q d;
  }

  structure_starts : Structure (rows_in (word z (opened z o))) (ledger_at_first o).rows 0
  structure_starts = record {
    chain = chain_starts;
    closed = record {
      linked = λ q n a e. no_next q n e;
      later = λ q n a e d. no_next q n e;
      rises = λ q n a e. no_next q n e;
      upper = λ q a. ap (bound (rows_in (word z (opened z o)))) (sym (next-none q));
    };
    states = states_start;
    marks = marks_start;
    pairs = λ q. record { next = λ a e. no_leader q 2 e; claimed = λ a d e. none_dead q d; together = λ p a d e. none_dead q d };
    follows = λ x y key d w p q n. none_dead x d;
    past = record { gone = λ q d. none_dead q d; begun = λ t since e. let x : None ≡ Some since = e in absurd (cc); drawn = λ m at e. let x : None ≡ Some at = e in absurd (cc) };
  }

  beyond_starts : (q : ℕ) → o.rows ≤ q → (fate_at_first o q).status ≡ Free
  beyond_starts zero w = absurd (omega (arith, w, i.sized.some_rows))
  beyond_starts (suc q) w = refl

  visits_start : (t : ℕ) → t < z.seats → Visits (word z (opened z o)) (ledger_at_first o).rows t Activity.Idle (resting 0)
  visits_start t w = record {
    in_visit = λ x. absurd x;
    in_none = λ x. record { visits = refl; word = opens (name.Pass t) w };
    epoch = λ x. absurd x;
    before = λ m at since o e f. let x : None ≡ Some at = e in absurd (cc);
  }

  -- no entry names a cell, no first link leads to one, and no row was built with any
  keyed_starts : (q : ℕ) → Keyed z (word z (opened z o)) (ledger_at_first o).rows q
  keyed_starts q = record {
    named = λ j c p x. absurd (subst (IsOfCell c) (ap pend_of (word-none (name.Pend q j) q (λ w. (w, p)) (omega arith) refl) ∙ pend_of-Idle) x);
    first = λ c x. let y : None ≡ Some c = sym (ap cell_of_link_word (word-none (name.First q) q (λ w. w) (omega arith) refl) ∙ no_cell) ∙ x in absurd (cc);
    built = λ c x. absurd (omega (arith, x, none_built));
  }
    where
      none_built : built_in (word z (opened z o)) q ≡ 0
      none_built = ap built_of_word (word-none (name.Least q) q (λ w. w) (omega arith) refl) ∙ built_of_word-zero

  pub shape_starts : Shape z (start z o)
  shape_starts = record {
    sane = opened-sane z o i;
    built = i.built;
    fits = i.fits;
    room = λ q w. omega (arith, given-none q w, no_adders o.seats q, i.sized.some_cells);
    clock = omega (arith, opens name.Clock tt, no_drawers z.seats o.seats, i.clock);
    rows = structure_starts;
    beyond = beyond_starts;
    keyed = λ q k. keyed_starts q;
    epoch = omega (arith, opens name.Epoch tt, no_numberers o.seats, i.epoch);
    rest = each_rests z o (λ t l. IsRest z l.activity l) (λ t x. absurd x);
    keys = each_rests z o (λ t l. Keys z (word z (opened z o)) (ledger_at_first o).rows l.activity l) (λ t. record { own = λ x. absurd x; list = λ c x. absurd x; marks = λ x. absurd x; saw = λ x. absurd x; key = λ x. absurd x; gathered = λ x. absurd x });
    plans = each_rests z o (λ t l. Plans z l.activity l) (λ t. unplanned z Activity.Idle (resting 0) refl);
    infants = each_rests z o (λ t l. Infants z (word z (opened z o)) (ledger_at_first o).rows t l.activity l) (λ t. nowhere z (word z (opened z o)) (ledger_at_first o).rows t Activity.Idle (resting 0) refl);
    none_lost = each_rests z o (λ t l. HasLostNone (ledger_at_first o).rows t l.activity l) (λ t q x. none_infant q x.status);
    search = each_rests z o (λ t l. Search (word z (opened z o)) (ledger_at_first o).rows t l.activity l) (λ t. unbuilt_search (word z (opened z o)) (ledger_at_first o).rows t Activity.Idle (resting 0) (λ x. x) (λ x. x));
    won = each_rests z o (λ t l. Won (ledger_at_first o).rows t l.activity l) (λ t. unwon (ledger_at_first o).rows t Activity.Idle (resting 0) (λ x. x));
    numbers = record { below = λ m at e. let x : None ≡ Some at = e in absurd (cc); rises = λ m n x y e f. let u : None ≡ Some x = e in absurd (cc) };
    tidies = each_rests z o (λ t l. l.tidies ≡ true → IsBalancing l.activity ⊎ IsDone l.activity) (λ t e. let y : false ≡ true = e in cc);
    offered = each_rests z o (λ t l. l.tidies ≡ true → o.rows < TIDY_SHARE * l.epoch) (λ t e. let y : false ≡ true = e in cc);
    no_pin = each_rests z o (λ t l. l.pin ≡ None) (λ t. refl);
    kinds = each_rests z o (λ t l. Kinds l.activity l) (λ t. record { kind = tt; range = λ x. absurd x });
    visits = λ t l g. each_rests z o (λ t l. t < z.seats → Visits (word z (opened z o)) (ledger_at_first o).rows t l.activity l) visits_start t l g (omega (arith, slice_get_within (opened z o).locals t l g, (opened-sane z o i).seats));
    outside = λ t w. refl;
    sought = each_rests z o (λ t l. Sought z (word z (opened z o)) (ledger_at_first o).rows t l.activity l) (λ t. unsought z (word z (opened z o)) (ledger_at_first o).rows t Activity.Idle (resting 0) (λ x. x, λ x. x));
    unretired = each_rests z o (λ t l. (q : ℕ) → IsToRetire l.activity l q → IsEngaged ((rows_in (word z (opened z o))).state q)) (λ t q x. absurd x);
    walks = each_rests z o (λ t l. Walks (word z (opened z o)) (ledger_at_first o).rows t l.activity l) (λ t. walks_outside (word z (opened z o)) (ledger_at_first o).rows t Activity.Idle (resting 0) (λ x. x));
    balances = each_rests z o (λ t l. Balances (word z (opened z o)) (ledger_at_first o).rows t l.activity l) (λ t. outside (word z (opened z o)) (ledger_at_first o).rows t Activity.Idle (resting 0) (λ x. x) tt);
  }
