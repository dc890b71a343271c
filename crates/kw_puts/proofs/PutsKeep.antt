-- Every event keeps what holds of the attempts, their cells and their entries: the group, from one
-- lemma for each part of it.
use Rattle.std.proofs.Common.{ℕ, slice_get}
use Rattle.kw_world.specs.declared.activity.Activity.{Activity}
use Rattle.kw_world.specs.declared.local.Local.{Local}
use Rattle.kw_world.specs.declared.event.Choice.{Choice}
use Rattle.kw_world.specs.Sizes.{Sizes}
use Rattle.kw_world.specs.Step.{word}
use Rattle.kw_core.specs.Step.{Keeps}
use Rattle.kw_core.specs.Run.{Run}
use Rattle.kw_core.specs.Stages.{IsPutting, HasSeenPending}
use Rattle.kw_shape.specs.Shape.{Shape}
use Rattle.kw_puts.specs.Puts.{OwnsAttempt, Helps, IsHere, Puts}
use Rattle.kw_puts.specs.Freezes.{IsToFreeze, Freezes, Remembers}
use Rattle.kw_puts.specs.Below.{Below}
use Rattle.kw_core.specs.Step.{Step}
use Rattle.kw_core.proofs.Happens.{log_entry}
use Rattle.kw_core.proofs.Happens.{Happens, each_seat}
use Rattle.kw_puts.proofs.RelyProof.{rely}
use Rattle.kw_puts.proofs.StablePuts.{owns_stable, helps_stable}
use Rattle.kw_puts.proofs.AttemptCells.{placed_keeps, given_keeps, places_keep, rises_keep, body_keeps}
use Rattle.kw_puts.proofs.OwnAttempts.{owns_own}
use Rattle.kw_puts.proofs.HereStays.{present_other, present_own}
use Rattle.kw_puts.proofs.DoneAttempts.{old_keeps}
use Rattle.kw_puts.proofs.Entries.{entry_keeps, saw_at_row, tries_own, helps_own}
use Rattle.kw_puts.proofs.Copying.{whole_keeps, words_keep}
use Rattle.kw_puts.proofs.DeadRows.{born_keeps, dead_keeps, gone_keeps}
use Rattle.kw_puts.proofs.Owners.{row_linked}
use Rattle.kw_puts.proofs.TakingKeeps.{gathers_keep}
use Rattle.kw_puts.proofs.Freezes.{freezes_own, freezes_other}
use Rattle.kw_puts.proofs.Marking.{remembers_own, remembers_other}

-- the attempts, their cells and their entries, after every event
pub puts_keep : (z : Sizes) (r r' : Run) (s : ℕ) (choice : Choice) (l : Local) (a : Activity) (l' : Local) → Happens z r r' s choice l l' a → Below z r → Step r.history r'.history (log_entry z r a s choice l) → Shape z r' → Keeps r'.history → Puts z r'
puts_keep z r r' s choice l a l' h i st after k = record {
  placed = placed_keeps z r r' s choice l a l' h i st;
  given = given_keeps z r r' s choice l a l' h.arrow h i st after;
  places = places_keep z r r' s choice l a l' h i st;
  rises = rises_keep z r r' s choice l a l' h.arrow h i st;
  body = body_keeps z r r' s choice l a l' h.arrow h i st;
  owns = each_seat h (λ t k. IsPutting k.activity → OwnsAttempt (word z r'.world) r'.history t k.activity k (r'.seats t))
      (owns_own z r r' s choice l a l' h.arrow h i st after k)
      (λ t k d g p. owns_stable z r r' t k (rely z r r' s choice l a l' h i st t k d g) p (i.puts.owns t k g p));
  present = each_seat h (λ t k. IsPutting k.activity → IsHere r'.ledger.rows r'.history (r'.seats t).own) (present_own a h i st) (λ t k d g. present_other a h i st t k (h.logs t d) g);
  old = old_keeps z r r' s choice l a l' h.arrow h i st;
  entry = entry_keeps z r r' s choice l a l' h.arrow h i;
  tries = each_seat h (λ t k. IsToFreeze k.activity k) (tries_own z r r' s choice l a l' h.arrow) (λ t k d g. i.puts.tries t k g);
  freezes = each_seat h (λ t k. Freezes z (word z r'.world) (slice_get r'.world.locals) k.activity k) (freezes_own z r r' s choice l a l' h.arrow h i after) (λ t k d g. freezes_other z r r' s choice l a l' h i t k g);
  remembers = each_seat h (λ t k. Remembers z r'.ledger.rows r'.history r'.origin r'.listed k.activity k) (remembers_own z r r' s choice l a l' h.arrow h i st after) (λ t k d g. remembers_other z r r' s choice l a l' h i st t k g);
  helps = each_seat h (λ t k. HasSeenPending k.activity → Helps r'.history r'.origin k.activity k (r'.seats t))
      (helps_own z r r' s choice l a l' h.arrow h i st)
      (λ t k d g p. helps_stable z r r' t k (rely z r r' s choice l a l' h i st t k d g) (row_linked z r i.shape t k g (saw_at_row k.activity p)) (i.puts.helps t k g p));
  born = born_keeps z r r' s choice l a l' h i st;
  dead = dead_keeps z r r' s choice l a l' h i st;
  gone = gone_keeps z r r' s choice l a l' h i st;
  builds = λ t k g. let x = gathers_keep z r r' s choice l a l' h i st t k g in record {
    gathering = x.gathering;
    gathered = x.gathered;
    collected = x.collected;
    kept = x.kept;
    holds = x.holds;
    whole = whole_keeps z r r' s choice l a l' h i st t k g;
    words = words_keep z r r' s choice l a l' h i st t k g;
  };
}
