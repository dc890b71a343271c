-- The record mirrors the events of every valid list, by one induction from the front.
use Rattle.std.proofs.Common.{◌≡◌, true, Some, None, List, [], ◌∷◌, ◌++◌, arith, refl, sym, ◌∙◌, ap, subst}
use Rattle.kw_world.specs.declared.activity.Activity.{Activity}
use Rattle.kw_world.specs.declared.local.Local.{Local}
use Rattle.kw_world.specs.declared.event.Event.{Event}
use Rattle.kw_world.specs.declared.opening.Opening.{Opening}
use Rattle.kw_world.specs.Sizes.{Sizes}
use Rattle.kw_world.specs.WorldView.{WorldView}
use Rattle.kw_world.specs.Opening.{IsOpening}
use Rattle.kw_world.specs.WalkTransitions.{offered}
use Rattle.kw_world.specs.Step.{step}
use Rattle.kw_core.specs.Events.{world, may_step, is_valid}
use Rattle.kw_core.specs.Run.{Run, goes_on, noted_by, start, history}
use Rattle.kw_core.specs.Stages.{IsStamp, IsHelp}
use Rattle.kw_core.specs.Step.{Keeps}
use Rattle.kw_reads.specs.Inv.{Inv}
use Rattle.kw_laws.specs.Mirror.{Mirrors}
use Rattle.kw_core.proofs.Events.{may_come, world-snoc, world-nil}
use Rattle.kw_core.proofs.Runs.{goes_on-world, goes_on-moved, history-snoc}
use Rattle.kw_core.proofs.Happens.{Happens, happens}
use Rattle.kw_reads.proofs.Keeps.{inv_goes_on}
use Rattle.kw_shape.proofs.ShapeOpens.{all_resting}
use Rattle.kw_reads.proofs.Opens.{inv_start}
use Rattle.kw_laws.proofs.Along.{holds_along}
use Rattle.kw_laws.proofs.Mirroring.{Kept, events_keep, log_keeps}
use Rattle.kw_laws.proofs.MirrorSeats.{begun-nil, numbers_keep, running_keeps, loads_keep, stamp_keeps, help_keeps}
use Rattle.kw_laws.proofs.MirrorAttempts.{attempts_keep}
use Rattle.kw_laws.proofs.MirrorCalls.{calls_keep, all_calls_keep, all_attempts_keep}
use Rattle.kw_laws.proofs.MirrorStamps.{all_announced_keep, all_stamped_keep}
use Rattle.kw_laws.specs.MirrorReads.{MirrorsReads, GetsRead}
use Rattle.kw_reads.proofs.Keeps.{inv_holds}
use Rattle.kw_laws.proofs.MirrorReads.{KeptReads, kept_reads, reads_start, gets_read}
use Rattle.kw_laws.proofs.MirrorScans.{KeptScans}

-- one event, over a free run
kept : (z : Sizes) (o : Opening) (es : List Event) (e : Event) (r r' : Run) (l l' : Local) (a : Activity) → Happens z r r' e.seat (offered r.world.rows e.choice) l l' a → Inv z r → Keeps r'.history → Kept z o es r → world z o (es ++ e ∷ []) ≡ r'.world → Kept z o (es ++ e ∷ []) r'
kept z o es e r r' l l' a h i j k w = record {
  world = w;
  mirrors = record {
    events = events_keep z o es e r r' l l' a h k;
    log = log_keeps z o es e r r' l l' a h k;
    calls = calls_keep z o es e r r' l l' a h i j k;
    attempts = attempts_keep z o es e r r' l l' a h i k;
    all_calls = all_calls_keep z o es e r r' l l' a h i j k;
    all_attempts = all_attempts_keep z o es e r r' l l' a h i j k;
    all_announced = all_announced_keep z o es e r r' l l' a h i k;
    all_stamped = all_stamped_keep z o es e r r' l l' a h i k;
  };
  numbers = numbers_keep z o es e r r' l l' a h k;
  running = running_keeps z o es e r r' l l' a h k;
  loads = loads_keep z o es e r r' l l' a h k;
  stamp = stamp_keeps z o es e r r' l l' a h k;
  help = help_keeps z o es e r r' l l' a h k;
}

-- what every event keeps, the mirror, and what draws and answers are
record Whole (z : Sizes) (o : Opening) (es : List Event) (r : Run) : Type 0 where
  inv : Inv z r
  kept : Kept z o es r
  reads : KeptReads z o es r

-- one event that may come
kept_goes_on : (z : Sizes) (o : Opening) (es : List Event) (e : Event) (r : Run) → may_step o r.world e ≡ true → Whole z o es r → Whole z o (es ++ e ∷ []) (goes_on z r e)
kept_goes_on z o es e r may k =
    let i = k.inv in
    let j = inv_goes_on z o r e may i in
    let c = may_come o r.world e may in
    let noted : goes_on z r e ≡ noted_by z r e c.local = goes_on-moved z r e c.local c.knows c.moves in
    let w : world z o (es ++ e ∷ []) ≡ (goes_on z r e).world = world-snoc z o es e ∙ ap (λ (x : WorldView). (step z x e).world) k.kept.world ∙ sym (goes_on-world z r e) in
    let h = happens z r e c.local i.shape.sane c.begins c.knows c.moves in
    subst (Whole z o (es ++ e ∷ [])) (sym noted) (record {
      inv = subst (Inv z) noted j;
      kept = kept z o es e r (noted_by z r e c.local) c.local _ c.local.activity h i (subst (λ (x : Run). Keeps x.history) noted j.history) k.kept (w ∙ ap (λ (x : Run). x.world) noted);
      reads = kept_reads z o es e r (noted_by z r e c.local) c.local _ c.local.activity h i k.kept k.reads (history-snoc z o es e ∙ ap (λ x. goes_on z x e) k.reads.led ∙ noted);
    })

-- no event
kept_start : (z : Sizes) (o : Opening) → Kept z o [] (start z o)
kept_start z o = record {
  world = world-nil z o;
  mirrors = record {
    events = refl;
    log = λ x q g. let y : None ≡ Some q = g in absurd (cc);
    calls = λ x w. absurd (omega (arith, w));
    attempts = λ p w. absurd (omega (arith, w));
    all_calls = λ x s call t. absurd (nothing _ t.occurs.stands);
    all_attempts = λ x s q cell t. absurd (nothing _ t.acts.occurs.stands);
    all_announced = λ x s q cell b t. absurd (nothing _ t.occurs.stands);
    all_stamped = λ x s q seat cell version b kd t. absurd (nothing _ t.occurs.stands);
  };
  numbers = λ t l g. ap (λ (m : Local). m.number) (all_resting o.seats t l g) ∙ sym (begun-nil z o t);
  running = λ x t l w n s g. absurd (omega (arith, w));
  loads = λ t u w choice f g. absurd (omega (arith, g));
  stamp = λ t l g u. absurd (subst (λ (m : Local). IsStamp m.activity) (all_resting o.seats t l g) u);
  help = λ t l g u. absurd (subst (λ (m : Local). IsHelp m.activity) (all_resting o.seats t l g) u);
}
  where
    nothing : (e : Event) → None ≡ Some e → ⊥
    nothing e g = cc

-- every valid list from an opening
whole_holds : (z : Sizes) (o : Opening) → IsOpening z o → (es : List Event) → is_valid z o es ≡ true → Whole z o es (history z o es)
whole_holds z o opening = holds_along z o (Whole z o) (kept_goes_on z o) (record { inv = inv_start z o opening; kept = kept_start z o; reads = reads_start z o })

-- its record mirrors its events
pub mirrors_hold : (z : Sizes) (o : Opening) → IsOpening z o → (es : List Event) → is_valid z o es ≡ true → Mirrors z o es (history z o es).history
mirrors_hold z o opening es ok = (whole_holds z o opening es ok).kept.mirrors

-- and says of draws and answers what they say
pub reads_mirrored : (z : Sizes) (o : Opening) → IsOpening z o → (es : List Event) → is_valid z o es ≡ true → MirrorsReads z o es (history z o es).history
reads_mirrored z o opening es ok = (whole_holds z o opening es ok).reads.mirrors

-- and each scan that has its version has settled for it
pub scans_settled : (z : Sizes) (o : Opening) → IsOpening z o → (es : List Event) → is_valid z o es ≡ true → KeptScans z o es (history z o es)
scans_settled z o opening es ok = (whole_holds z o opening es ok).reads.scans

-- and of each get that answered a value whose it is
pub gets_mirrored : (z : Sizes) (o : Opening) → IsOpening z o → (es : List Event) → is_valid z o es ≡ true → GetsRead z o es (history z o es).history
gets_mirrored z o opening es ok = gets_read z o es (history z o es).history (inv_holds z o opening es ok).history.laws (reads_mirrored z o opening es ok)
