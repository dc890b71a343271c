-- What a seat has met of the row that it is about to engage: the row is full, or its link is
-- marked. No event takes that back, as long as the seat is there.
use Rattle.std.proofs.Common.{ℕ, ◌≡◌, ◌⊎◌, inl, inr, ◌<◌, ◌≤◌, Bool, true, false, nat_lt, Option, None, Some, arith, refl, sym, ◌∙◌, ap, length, if◌then◌else◌}
use Rattle.std.proofs.lemmas.Bool.Decides.{nat_tests}
use Rattle.kw_words.specs.declared.count.Count.{Count as Counted}
use Rattle.kw_rows.specs.Rows as rows
use Rattle.kw_rows.specs.Rows.{WasLinked}
use Rattle.kw_world.specs.declared.activity.Activity.{Activity}
use Rattle.kw_world.specs.declared.event.Choice.{Choice}
use Rattle.kw_world.specs.declared.local.Local.{Local}
use Rattle.kw_world.specs.PutTransitions.{given_of, has_room}
use Rattle.kw_world.specs.Sane.{IsGiven}
use Rattle.kw_world.specs.Sizes.{Sizes}
use Rattle.kw_world.specs.Step.{word}
use Rattle.kw_core.specs.declared.history.Attempt.{Attempt}
use Rattle.kw_core.specs.History.{History, attempt}
use Rattle.kw_core.specs.Run.{Run}
use Rattle.kw_core.specs.Step.{AttemptStep, Step, as_it_was, is_added, is_announced, is_lost, is_stamped}
use Rattle.kw_core.specs.Words.{given_in}
use Rattle.kw_core.proofs.Happens.{Happens, log_entry}
use Rattle.kw_core.proofs.Steps.{Stays, old_stays}
use Rattle.kw_shape.specs.RowsIn.{has_frozen, rows_in}
use Rattle.kw_shape.proofs.LinkedRows.{StaysLinked, linked_given, linked_keeps}
use Rattle.kw_reads.specs.Inv.{Inv}
use Rattle.kw_reads.proofs.HistoryKeeps.{history_step}
use Rattle.kw_full.specs.Full.{HasStamped}
use Rattle.kw_full.proofs.MarkLasts.{mark_lasts}

-- what seat t has met of row q, where its call has this key, and it tidies or not
pub data HasMet (z : Sizes) (r : Run) (t q key : ℕ) (tidies : Bool) : Type 0 where
  met_full : rows.HoldsKey (rows_in (word z r.world)) r.ledger.rows q key → (tidies ≡ false → z.cells ≤ given_in (word z r.world) q) → (tidies ≡ true → HasStamped r t q) → HasMet z r t q key tidies
  met_marked : (rows_in (word z r.world)).marked q ≡ true → HasMet z r t q key tidies

-- a row that gives no cell is frozen, or has given all
room_or_full : (z : Sizes) (c : Counted) (b : Bool) → c.frozen ≡ b → (if b then false else nat_lt c.given z.cells) ≡ false → (c.frozen ≡ true) ⊎ (z.cells ≤ c.given)
room_or_full z c true e f = inl e
room_or_full z c false e f = inr (grind (arith, nat_tests))

pub no_room : (z : Sizes) (x : Option Counted) → IsGiven x → has_room z x ≡ false → (has_frozen x ≡ true) ⊎ (z.cells ≤ given_of x)
no_room z (Some c) g e = room_or_full z c c.frozen refl e
no_room z None g e = absurd g

-- the attempt that the log of a seat has as its own, and the call, stay
pub record IsSameOwn (r r' : Run) (t : ℕ) : Type 0 where
  pub own : (r'.seats t).own ≡ (r.seats t).own
  pub call : (r'.seats t).call ≡ (r.seats t).call

-- an attempt stays one of its row
row_stays : (h h' : History) (p : ℕ) → p < length h.attempts → AttemptStep h h' p → (attempt h' p).row ≡ (attempt h p).row
row_stays h h' p w (as_it_was u e) = ap (λ (y : Attempt). y.row) e
row_stays h h' p w (is_added y n e c m k u i t) = absurd (omega (arith, w, n))
row_stays h h' p w (is_announced u n e) = ap (λ (y : Attempt). y.row) e
row_stays h h' p w (is_lost u n e) = ap (λ (y : Attempt). y.row) e
row_stays h h' p w (is_stamped version load u b n k c i t e put) = ap (λ (y : Attempt). y.row) e

module _ (z : Sizes) (r r' : Run) (s : ℕ) (choice : Choice) (l l' : Local) (a : Activity) (h : Happens z r r' s choice l l' a) (v : Inv z r) where
  -- a row that is or was in the list holds the keys that it held
  holds_on : (q key : ℕ) → WasLinked r.ledger.rows q → rows.HoldsKey (rows_in (word z r.world)) r.ledger.rows q key → rows.HoldsKey (rows_in (word z r'.world)) r'.ledger.rows q key
  holds_on q key k x = record { from = omega (arith, x.from, y.least); below = λ u e. x.below u (sym y.upper ∙ e) }
    where
      y : StaysLinked (word z r.world) (word z r'.world) r.ledger.rows r'.ledger.rows q
      y = linked_keeps a h v.shape q k

  stamped_on : (t q : ℕ) → WasLinked r.ledger.rows q → IsSameOwn r r' t → HasStamped r t q → HasStamped r' t q
  stamped_on t q k same x = record {
    within = omega (arith, same.own, x.within, st.more_attempts);
    seat = ap (λ n. (attempt r'.history n).seat) same.own ∙ y.seat ∙ x.seat;
    call = ap (λ n. (attempt r'.history n).call) same.own ∙ y.call ∙ x.call ∙ sym same.call;
    made = record {
      row = ap (λ n. (attempt r'.history n).row) same.own ∙ row_stays r.history r'.history (r.seats t).own x.within (st.attempts (r.seats t).own (omega (arith, x.within, st.more_attempts))) ∙ x.made.row;
      born = omega (arith, (linked_keeps a h v.shape q k).born, x.made.born, ap (λ n. (attempt r'.history n).add) same.own, y.grows.add);
    };
    stamped = ap (λ n. (attempt r'.history n).is_stamped) same.own ∙ (y.grows.stamped x.stamped).0;
  }
    where
      st : Step r.history r'.history (log_entry z r a s choice l)
      st = history_step z r r' s choice l a l' h v

      y : Stays r.history r'.history (r.seats t).own
      y = old_stays r.history r'.history (log_entry z r a s choice l) st (r.seats t).own x.within

  pub met_on : (t q key : ℕ) (tidies : Bool) → WasLinked r.ledger.rows q → (tidies ≡ true → IsSameOwn r r' t) → HasMet z r t q key tidies → HasMet z r' t q key tidies
  met_on t q key tidies k same (met_full holds given stamped) = met_full (holds_on q key k holds) (λ e. omega (arith, given e, linked_given a h v.shape q k)) (λ e. stamped_on t q k (same e) (stamped e))
  met_on t q key tidies k same (met_marked m) = met_marked (mark_lasts a h v.shape q k m)
