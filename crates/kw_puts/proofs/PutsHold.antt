-- An event that the record may note keeps all that holds below the readers.
use Rattle.std.proofs.Common.{ℕ, ◌≡◌, true, sym, subst}
use Rattle.kw_words.specs.declared.kind.Kind.{Kind}
use Rattle.kw_words.specs.declared.layout.Name.TheVariants as name
use Rattle.kw_world.specs.declared.activity.Activity.{Activity}
use Rattle.kw_world.specs.declared.event.Choice.{Choice}
use Rattle.kw_world.specs.declared.event.Event.{Event}
use Rattle.kw_world.specs.declared.local.Local.{Local}
use Rattle.kw_world.specs.declared.opening.Opening.{Opening}
use Rattle.kw_world.specs.Opening.{IsOpening}
use Rattle.kw_world.specs.WalkTransitions.{offered}
use Rattle.kw_world.specs.Sizes.{Sizes}
use Rattle.kw_world.specs.Step.{word, transition_of}
use Rattle.kw_core.specs.Events.{may_step}
use Rattle.kw_core.specs.Noted.{MayLog, MayNote}
use Rattle.kw_core.specs.Run.{Run, goes_on, noted_by, logged, start}
use Rattle.kw_core.specs.Step.{Keeps, Step}
use Rattle.kw_core.proofs.Events.{may_come}
use Rattle.kw_core.proofs.Happens.{Happens, happens, log_entry, change_at}
use Rattle.kw_core.proofs.NotedLaws.{noted_keeps, noted_step, nothing_keeps}
use Rattle.kw_core.proofs.Runs.{goes_on-moved}
use Rattle.kw_shape.proofs.ShapeKeeps.{shape_keeps}
use Rattle.kw_shape.proofs.ShapeOpens.{shape_starts}
use Rattle.kw_puts.specs.Below.{Below, MayTake}
use Rattle.kw_puts.proofs.PositionsKeep.{positions_keep}
use Rattle.kw_puts.proofs.PutsKeep.{puts_keep}
use Rattle.kw_puts.proofs.ListsKeep.{lists_keep, lists_start}
use Rattle.kw_puts.proofs.PutsOpen.{puts_start, positions_start}

-- the log may take every event: no clock in it is later, and every version drawn is earlier
may_log : (z : Sizes) (r : Run) (s : ℕ) (kind : Kind) → Below z r → MayLog r.history (logged s kind (word z r.world name.Clock))
may_log z r s kind i = record {
  clock = λ x k c t. i.positions.clocked.past x k c t;
  draws = λ x d e. let f = i.history.laws.drawn x d e in i.positions.clocked.drawn d.at f.kind d.version f.is_draw f.stands;
}

-- one event of the record
pub noted_is_step : (z : Sizes) (r r' : Run) (s : ℕ) (choice : Choice) (l : Local) (a : Activity) (l' : Local) → Happens z r r' s choice l l' a → Below z r →
    MayNote r.history (log_entry z r a s choice l) (change_at z r a s choice l) → Step r.history r'.history (log_entry z r a s choice l)
noted_is_step z r r' s choice l a l' h i m = subst (λ x. Step r.history x (log_entry z r a s choice l)) (sym h.history)
    (noted_step r.history (log_entry z r a s choice l) i.history (may_log z r s _ i) (change_at z r a s choice l) m)

-- the record keeps its laws
pub noted_is_kept : (z : Sizes) (r r' : Run) (s : ℕ) (choice : Choice) (l : Local) (a : Activity) (l' : Local) → Happens z r r' s choice l l' a → Below z r →
    MayNote r.history (log_entry z r a s choice l) (change_at z r a s choice l) → Keeps r'.history
noted_is_kept z r r' s choice l a l' h i m = subst Keeps (sym h.history)
    (noted_keeps r.history (log_entry z r a s choice l) i.history (may_log z r s _ i) (change_at z r a s choice l) m)

-- one event, over a free run
pub below_keeps : (z : Sizes) (r r' : Run) (s : ℕ) (choice : Choice) (l : Local) (a : Activity) (l' : Local) → Happens z r r' s choice l l' a → Below z r →
    MayNote r.history (log_entry z r a s choice l) (change_at z r a s choice l) → Below z r'
below_keeps z r r' s choice l a l' h i m =
    let st = noted_is_step z r r' s choice l a l' h i m in
    let shape = shape_keeps z r r' s choice l a l' h i.shape in
    let kept = noted_is_kept z r r' s choice l a l' h i m in
    let puts = puts_keep z r r' s choice l a l' h i st shape kept in
    record { shape = shape; history = kept; puts = puts; lists = lists_keep z r r' s choice l a l' h i st puts; positions = positions_keep z r r' s choice l a l' h i st shape kept puts }

-- one event that may come
pub below_goes_on : (z : Sizes) (o : Opening) (r : Run) (e : Event) → Below z r → may_step o r.world e ≡ true → MayTake z r e → Below z (goes_on z r e)
unfolding transition_of
below_goes_on z o r e i may m =
    let c = may_come o r.world e may in
    subst (Below z) (sym (goes_on-moved z r e c.local c.knows c.moves))
    (below_keeps z r (noted_by z r e c.local) e.seat (offered r.world.rows e.choice) c.local c.local.activity _ (happens z r e c.local i.shape.sane c.begins c.knows c.moves) i (m c.local c.knows))

-- where nothing happened
pub below_starts : (z : Sizes) (o : Opening) → IsOpening z o → Below z (start z o)
below_starts z o i = record { shape = shape_starts z o i; history = nothing_keeps; puts = puts_start z o i; lists = lists_start z o i; positions = positions_start z o i }
