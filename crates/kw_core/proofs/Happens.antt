-- An event, as the laws see it: what it found, and what it left, over a run that is any that it may
-- have led to.
--
-- A goal over a free run after the event shows no list that was set and no place. In a clause for
-- one activity the line of the table, the change of the record and the seat's log compute.
use Rattle.std.proofs.Common.{ℕ, ◌≡◌, ◌≢◌, ◌⊎◌, inl, inr, ◌<◌, ◌==◌, Bool, true, false, nat_lt, Some, arith, refl, sym, ◌∙◌, subst, length, slice_get, slice_set, length-set, if◌then◌else◌, eq-eqb, ne_eqb}
use Rattle.std.proofs.lemmas.Bool.{cases_eq}
use Rattle.std.proofs.lemmas.Option.{slice_get_within, same_Some}
use Rattle.kw_words.specs.declared.layout.Name.{Name}
use Rattle.kw_words.specs.declared.layout.Name.TheVariants as name
use Rattle.kw_words.specs.Layout.{IsWithin, place_of}
use Rattle.kw_words.proofs.Places.{place_below}
use Rattle.kw_world.specs.declared.activity.Activity.{Activity}
use Rattle.kw_world.specs.declared.local.Local.{Local}
use Rattle.kw_world.specs.declared.event.Choice.{Choice}
use Rattle.kw_world.specs.declared.event.Choice.TheVariants.{Begin, Go, Guess, Stop}
use Rattle.kw_world.specs.declared.event.Event.{Event}
use Rattle.kw_world.specs.declared.operation.Action.TheVariants.{Load, Exchange}
use Rattle.kw_world.specs.Operation.{word_after}
use Rattle.kw_world.specs.Sizes.{Sizes}
use Rattle.kw_world.specs.Transition.{Transition}
use Rattle.kw_world.specs.WalkTransitions.{offered}
use Rattle.kw_world.specs.Table.{transition}
use Rattle.kw_world.specs.Sane.{IsSane, IsOffered}
use Rattle.kw_world.specs.Step.{word, transition_of, transition_at, followed, is_skipped}
use Rattle.kw_world.proofs.Frame.{word-same, word-other, word-loaded}
use Rattle.kw_world.proofs.Lists.{get-set_same, get-set_other}
use Rattle.kw_world.proofs.Transitions.{in_table, offered_below}
use Rattle.kw_core.specs.declared.history.Logged.{Logged}
use Rattle.kw_core.specs.declared.history.Change.{Change}
use Rattle.kw_core.specs.Noted.{noted}
use Rattle.kw_core.specs.Run.{Run, change_of, seat_after, settled_scan, with_settled, origins_after, logged, noted_by}
use Rattle.kw_core.specs.Words.{Words}
use Rattle.kw_world.proofs.Skipping.{skipped_offered}
use Rattle.kw_core.proofs.Events.{IsBegun}
use Rattle.kw_core.proofs.Arrows.{Arrow, arrow}
use Rattle.kw_core.specs.Ledger.{ledger_after}
use Rattle.kw_core.specs.Listed.{listed_after}

-- the words changed as a line of the table says
pub record Changed (z : Sizes) (rows : ℕ) (v v' : Words) (it : Transition) : Type 0 where
  pub same : v' it.operation.name ≡ word_after it.operation.action (v it.operation.name)
  pub other : (n : Name) → IsWithin z.seats z.cells rows n → n ≢ it.operation.name → v' n ≡ v n
  pub loaded : it.operation.action ≡ Load → (n : Name) → v' n ≡ v n

-- the word that the event of an activity finds
abbrev pub found_at : Sizes → Words → Activity → ℕ → Choice → Local → ℕ
found_at z v a s choice l = v (transition z a s choice l).operation.name

-- the entry of an event in the log
abbrev pub log_entry : Sizes → Run → Activity → ℕ → Choice → Local → Logged
log_entry z r a s choice l = logged s (transition z a s choice l).operation.kind (word z r.world name.Clock)

-- the change of an event
abbrev pub change_at : Sizes → Run → Activity → ℕ → Choice → Local → Change
change_at z r a s choice l = change_of z a s choice l (found_at z (word z r.world) a s choice l) (r.seats s) r.origin

-- from r to r' the seat s, which knows l and is at the activity a, makes an event, and knows l'
-- after it
pub record Happens (z : Sizes) (r r' : Run) (s : ℕ) (choice : Choice) (l l' : Local) (a : Activity) : Type 0 where
  -- the seat, what it knows, and what it chooses
  pub activity : l.activity ≡ a
  pub knows : slice_get r.world.locals s ≡ Some l
  pub seat : s < z.seats
  pub begins : IsBegun a choice
  pub moves : is_skipped a choice ≡ false
  pub offers : IsOffered r.world.rows choice
  -- the world
  pub rows : r'.world.rows ≡ r.world.rows
  pub words : length r'.world.words ≡ length r.world.words
  pub locals : r'.world.locals ≡ slice_set r.world.locals s l'
  pub named : IsWithin z.seats z.cells r.world.rows (transition z a s choice l).operation.name
  pub changed : Changed z r.world.rows (word z r.world) (word z r'.world) (transition z a s choice l)
  pub arrow : Arrow z (word z r.world) s choice l a l'
  pub next : l' ≡ (followed r.world.rows (transition z a s choice l) (found_at z (word z r.world) a s choice l)).local
  -- the record
  pub history : r'.history ≡ noted r.history (logged s (transition z a s choice l).operation.kind (word z r.world name.Clock)) (change_of z a s choice l (found_at z (word z r.world) a s choice l) (r.seats s) r.origin)
  pub log : r'.seats s ≡ seat_after z a choice l (found_at z (word z r.world) a s choice l) l'.activity (r.seats s) r.origin r.history (r.settled s)
  pub logs : (t : ℕ) → t ≢ s → r'.seats t ≡ r.seats t
  pub settled : r'.settled ≡ with_settled (settled_scan a s l (found_at z (word z r.world) a s choice l) (r.seats s)) r.settled
  pub ledger : r'.ledger ≡ ledger_after z a s l (found_at z (word z r.world) a s choice l) (word z r.world) (length r.history.log) r.ledger
  pub listed : r'.listed ≡ listed_after a l (found_at z (word z r.world) a s choice l) r.listed
  pub origin : r'.origin ≡ origins_after z a l (found_at z (word z r.world) a s choice l) r.origin r.history

-- Every event that is noted happens.

begun_offered : (a : Activity) (rows : ℕ) (choice : Choice) → IsBegun a choice → IsBegun a (offered rows choice)
begun_offered Activity.Idle rows (Begin call) h = h
begun_offered Activity.Idle rows Go h = tt
begun_offered Activity.Idle rows (Guess q) h = saw (nat_lt q rows)
  where
    saw : (b : Bool) → IsBegun Activity.Idle (if b then Guess q else Go)
    saw true = tt
    saw false = tt
begun_offered Activity.Idle rows Stop h = tt
begun_offered _ rows choice h = tt

pub happens : (z : Sizes) (r : Run) (e : Event) (l : Local) → IsSane z r.world → IsBegun l.activity e.choice → slice_get r.world.locals e.seat ≡ Some l → is_skipped l.activity e.choice ≡ false →
    Happens z r (noted_by z r e l) e.seat (offered r.world.rows e.choice) l (followed r.world.rows (transition z l.activity e.seat (offered r.world.rows e.choice) l) (found_at z (word z r.world) l.activity e.seat (offered r.world.rows e.choice) l)).local l.activity
unfolding transition_of
happens z r e l sane begins knows moves =
    let inside = slice_get_within r.world.locals e.seat l knows in
    let within = in_table z r.world e l sane inside knows in
    let it = transition_at z r.world e l in
    record {
      activity = refl;
      knows = knows;
      seat = omega (arith, inside, sane.seats);
      begins = begun_offered l.activity r.world.rows e.choice begins;
      moves = skipped_offered l.activity r.world.rows e.choice moves;
      offers = offered_below r.world.rows e.choice;
      rows = refl;
      words = length-set r.world.words (place_of z.seats z.cells it.operation.name) _;
      locals = refl;
      named = within;
      changed = record {
        same = word-same z r.world e.seat it (omega (arith, sane.words, place_below z.seats z.cells r.world.rows it.operation.name sane.sized.some_rows within));
        other = λ n i d. word-other z r.world e.seat it n i within d;
        loaded = λ q n. word-loaded z r.world e.seat it n q;
      };
      arrow = arrow z r.world.rows (word z r.world) e.seat (offered r.world.rows e.choice) l l.activity (begun_offered l.activity r.world.rows e.choice begins) (skipped_offered l.activity r.world.rows e.choice moves);
      next = refl;
      history = refl;
      log = rw (eq-eqb e.seat e.seat refl) refl;
      logs = λ t d. rw (ne_eqb t e.seat d) refl;
      settled = refl;
      ledger = refl;
      listed = refl;
      origin = refl;
    }

-- What each seat knows after it.

module _ {z : Sizes} {r r' : Run} {s : ℕ} {choice : Choice} {l l' : Local} {a : Activity} where
  -- the acting seat
  pub knows_next : Happens z r r' s choice l l' a → slice_get r'.world.locals s ≡ Some l'
  knows_next h = subst (λ x. slice_get x s ≡ Some l') (sym h.locals) (get-set_same r.world.locals s l' (slice_get_within r.world.locals s l h.knows))

  -- another seat
  pub knows_other : Happens z r r' s choice l l' a → (t : ℕ) → t ≢ s → slice_get r'.world.locals t ≡ slice_get r.world.locals t
  knows_other h t d = subst (λ x. slice_get x t ≡ slice_get r.world.locals t) (sym h.locals) (get-set_other r.world.locals s t l' d)

  -- a fact of every seat is one of the acting seat and of every other one
  pub each_seat : Happens z r r' s choice l l' a → (P : ℕ → Local → Type 0) → P s l' → ((t : ℕ) (k : Local) → t ≢ s → slice_get r.world.locals t ≡ Some k → P t k) →
      (t : ℕ) (k : Local) → slice_get r'.world.locals t ≡ Some k → P t k
  each_seat h P own others t k g = which (cases_eq t s)
    where
      which : (t ≡ s) ⊎ (t ≡ s → ⊥) → P t k
      which (inl e) =
          let x : Some l' ≡ Some k = sym (knows_next h) ∙ subst (λ q. slice_get r'.world.locals q ≡ Some k) e g in
          subst (λ q. P q k) (sym e) (subst (P s) (same_Some l' k x) own)
      which (inr d) = others t k d (sym (knows_other h t d) ∙ g)

-- Exchanges, and what is tested by a word.

-- a test that is true
pub chosen : {A : Type 0} (x y : ℕ) (p q : A) → x ≡ y → (if x == y then p else q) ≡ p
chosen x y p q e = rw (eq-eqb x y e) refl

-- a test that is not true
pub not_chosen : {A : Type 0} (x y : ℕ) (p q : A) → x ≢ y → (if x == y then p else q) ≡ q
not_chosen x y p q d = rw (ne_eqb x y d) refl

-- an exchange that is made
pub exchanged : (n' n x y : ℕ) → n' ≡ word_after (Exchange x y) n → n ≡ x → n' ≡ y
exchanged n' n x y e h = e ∙ chosen n x y n h

-- an exchange that is not made
pub not_exchanged : (n' n x y : ℕ) → n' ≡ word_after (Exchange x y) n → n ≢ x → n' ≡ n
not_exchanged n' n x y e h = e ∙ not_chosen n x y n h
