-- Every event keeps what the rows have kept of the stamped puts, with what a reader of a row may
-- say of them, and it keeps all of the invariant; so does every valid list.
use Rattle.std.proofs.Common.{ℕ, ◌≡◌, true, List, sym, subst}
use Rattle.kw_world.specs.declared.activity.Activity.{Activity}
use Rattle.kw_world.specs.declared.event.Choice.{Choice}
use Rattle.kw_world.specs.declared.local.Local.{Local}
use Rattle.kw_world.specs.Sizes.{Sizes}
use Rattle.kw_core.specs.Run.{Run, goes_on, noted_by, history}
use Rattle.kw_core.proofs.Happens.{Happens, happens}
use Rattle.kw_puts.specs.Below.{Below}
use Rattle.kw_reads.specs.Contents.{Contents}
use Rattle.kw_reads.specs.Inv.{Inv, lower}
use Rattle.kw_reads.proofs.FrontsKeep.{front_keeps}
use Rattle.kw_reads.proofs.RowsKept.{borns_keeps, over_keeps, past_keeps, inside_keeps, older_keeps, unpinned_keeps, kept_keeps, dead_keeps, needs_keeps}
use Rattle.kw_reads.proofs.LaterKeeps.{later_keeps}
use Rattle.kw_world.specs.declared.event.Event.{Event}
use Rattle.kw_world.specs.declared.opening.Opening.{Opening}
use Rattle.kw_world.specs.Opening.{IsOpening}
use Rattle.kw_world.specs.WalkTransitions.{offered}
use Rattle.kw_core.specs.Events.{may_step, is_valid}
use Rattle.kw_core.proofs.Events.{may_come}
use Rattle.kw_core.proofs.Runs.{goes_on-moved, holds_of_history}
use Rattle.kw_reads.proofs.HistoryKeeps.{may_note}
use Rattle.kw_puts.proofs.PutsHold.{below_keeps}
use Rattle.kw_reads.proofs.ReadersKeep.{Before, readers_keep}
use Rattle.kw_reads.proofs.RepliesKeep.{replies_keep}
use Rattle.kw_reads.proofs.Opens.{inv_start}

pub contents_keep : (z : Sizes) (r r' : Run) (s : ℕ) (choice : Choice) (l : Local) (a : Activity) (l' : Local) → Happens z r r' s choice l l' a → Inv z r → Below z r' → Contents z r'
contents_keep z r r' s choice l a l' h i after = record {
  borns = borns_keeps z r r' s choice l a l' h i after;
  over = over_keeps z r r' s choice l a l' h i after;
  past = past_keeps z r r' s choice l a l' h i after;
  inside = inside_keeps z r r' s choice l a l' h i after;
  older = older_keeps z r r' s choice l a l' h i after;
  unpinned = unpinned_keeps z r r' s choice l a l' h i after;
  kept = kept_keeps z r r' s choice l a l' h i after;
  dead = dead_keeps z r r' s choice l a l' h i after;
  later = later_keeps z r r' s choice l a l' h i after i.contents;
  needs = needs_keeps z r r' s choice l a l' h i after;
  front = front_keeps z r r' s choice l a l' h i i.contents;
}

-- one event, over a free run
pub inv_keeps : (z : Sizes) (r r' : Run) (s : ℕ) (choice : Choice) (l : Local) (a : Activity) (l' : Local) → Happens z r r' s choice l l' a → Inv z r → Inv z r'
inv_keeps z r r' s choice l a l' h i =
    let after = below_keeps z r r' s choice l a l' h (lower i) (may_note z r r' s choice l a l' h i) in
    let before : Before z r r' = record { inv = i; after = after } in
    let readers = readers_keep z r r' s choice l a l' h before in
    let contents = contents_keep z r r' s choice l a l' h i after in
    record { shape = after.shape; history = after.history; puts = after.puts; lists = after.lists; positions = after.positions; readers = readers; contents = contents; replies = replies_keep z r r' s choice l a l' h before readers contents }

-- one event that may come
pub inv_goes_on : (z : Sizes) (o : Opening) (r : Run) (e : Event) → may_step o r.world e ≡ true → Inv z r → Inv z (goes_on z r e)
inv_goes_on z o r e may i =
    let c = may_come o r.world e may in
    subst (Inv z) (sym (goes_on-moved z r e c.local c.knows c.moves))
    (inv_keeps z r (noted_by z r e c.local) e.seat (offered r.world.rows e.choice) c.local c.local.activity _ (happens z r e c.local i.shape.sane c.begins c.knows c.moves) i)

-- every valid list
pub inv_holds : (z : Sizes) (o : Opening) → IsOpening z o → (es : List Event) → is_valid z o es ≡ true → Inv z (history z o es)
inv_holds z o opening es ok = holds_of_history z o (Inv z) (inv_goes_on z o) (inv_start z o opening) es ok
