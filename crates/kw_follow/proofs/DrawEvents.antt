-- The events by which a scan gets its version and is over: what each asks, and what follows.
use Rattle.std.proofs.Common.{◌≡◌, ℕ, refl, sym, ◌∙◌, ap, subst}
use Rattle.kw_words.specs.declared.kind.Kind.TheVariants as kind
use Rattle.kw_words.specs.declared.layout.Name.TheVariants.{Scan}
use Rattle.kw_words.specs.declared.scan.ScanWord.TheVariants.{Quiet, Waiting, Drawn}
use Rattle.kw_words.specs.Scan.{IsScan, scan_word}
use Rattle.kw_world.specs.declared.activity.Activity.{Activity}
use Rattle.kw_world.specs.declared.answer.Answer.{Answer}
use Rattle.kw_world.specs.declared.event.Choice.{Choice}
use Rattle.kw_world.specs.declared.local.Local.{Local}
use Rattle.kw_world.specs.declared.operation.Action.TheVariants.{Store}
use Rattle.kw_world.specs.Sane.{IsLocal}
use Rattle.kw_world.specs.ScanTransitions.{answer_or_stopped}
use Rattle.kw_world.specs.Sizes.{product}
use Rattle.kw_world.specs.Step.{next_of, transition_of}
use Rattle.kw_world.specs.Table.{transition}
use Rattle.kw_world.specs.Transition.{leave}
use Rattle.kw_world.specs.WalkTransitions.{offered}
use Rattle.kw_core.specs.Stages.{IsBusy}
use Rattle.kw_table.specs.declared.pass.Pass.{Pass}
use Rattle.kw_table.specs.declared.shared.Shared.{Shared}
use Rattle.kw_table.specs.Passes.{view, operation, Asks}
use Rattle.kw_follow.specs.Following.{Follows}
use Rattle.kw_follow.specs.Within.{IsDrawing, IsWithinCall}
use Rattle.kw_follow.proofs.Ends.{offered_stopped}
use Rattle.kw_follow.proofs.OneEvent.{asks, begins_in, moves_in}

-- a scan that gets its version is in the middle of its call
pub draw_within : (a : Activity) → IsDrawing a → IsWithinCall a
draw_within (Activity.Draw _) d = tt
draw_within _ d = absurd d

-- the words of a scan are in range
pub waiting_fits : (l : Local) → IsLocal product l → IsScan (Waiting l.waiting)
waiting_fits l k = k.waiting

pub drawn_fits : (l : Local) → IsLocal product l → IsScan (Drawn l.drawn)
drawn_fits l k = k.drawn

-- the store that ends a scan, whatever the choice
pub asks_clear : (s : Shared) (p : Pass) (c : Choice) (l : Local) (answer : Answer) (n x : ℕ) → Follows s p l → l.activity ≡ Activity.EndScan answer → n ≡ (view p).number → x ≡ scan_word Quiet → Asks s p c (operation kind.ClearScan (Scan n) (Store x))
unfolding transition_of
asks_clear s p c l answer n x f is number word =
    let busy : IsBusy l.activity = subst IsBusy (sym is) tt in
    subst (λ m. Asks s p c (operation kind.ClearScan (Scan m) (Store x))) (sym number)
    (subst (λ w. Asks s p c (operation kind.ClearScan (Scan (view p).number) (Store w))) (sym word)
    (asks s p c l s.opening.rows (view p).number (offered s.opening.rows c) _ f (begins_in s p l c f busy) (moves_in s p l c f busy) refl refl refl (ap (λ a. (transition product a (view p).number (offered s.opening.rows c) l).operation) (sym is))))

-- and what follows is what the line says
pub clears_at : (rows : ℕ) (c : Choice) (answer : Answer) (l : Local) (told : ℕ) → l.activity ≡ Activity.EndScan answer → leave (answer_or_stopped answer c) l ≡ next_of product rows (offered rows c) l told
unfolding transition_of
clears_at rows c answer l told is =
    ap (λ a. leave a l) (sym (offered_stopped rows c answer))
    ∙ ap (λ a. (transition product a 0 (offered rows c) l).next rows told) (sym is)
