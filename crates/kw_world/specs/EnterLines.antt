-- The lines of a call that begins a visit, and of a scan or a pin that gets its version.
use Rattle.std.specs.Prelude.{ℕ, Some}
use Rattle.kw_words.specs.declared.layout.Name.TheVariants.{Clock, Epoch, Pass, Scan, Pin}
use Rattle.kw_words.specs.declared.kind.Kind.TheVariants as kind
use Rattle.kw_words.specs.declared.scan.ScanWord.TheVariants.{Waiting, Drawn}
use Rattle.kw_words.specs.Scan.{scan_of, scan_word}
use Rattle.kw_words.specs.Plain.{pass_word}
use Rattle.kw_world.specs.declared.activity.Activity.{Activity}
use Rattle.kw_world.specs.declared.answer.Answer.TheVariants.{Done}
use Rattle.kw_world.specs.declared.local.Local.{Local}
use Rattle.kw_world.specs.declared.event.Choice.{Choice}
use Rattle.kw_world.specs.declared.operation.Action.TheVariants.{Load, Store, Add, Exchange}
use Rattle.kw_world.specs.Sizes.{Sizes}
use Rattle.kw_world.specs.Transition.{Transition, at, to}
use Rattle.kw_world.specs.ScanTransitions.{entered, clock_seen, version_settled, settled}
use Rattle.kw_world.specs.declared.activity.enter.Enter.{Enter}
use Rattle.kw_world.specs.declared.activity.draw.Draw.{Draw}

-- the lines of beginning a visit
abbrev pub enter_lines : Sizes → Enter → ℕ → Choice → Local → Transition
enter_lines z Enter.Announce s choice l = at kind.StorePass (Pass s) (Store (pass_word (Some l.epoch))) (λ _. entered l.call l)
enter_lines z Enter.LoadEpoch s choice l = at kind.LoadEpoch Epoch Load (λ e. to (Activity.Enter Enter.Announce) (record l { epoch = e }))

-- the lines of a scan or a pin that gets its version
abbrev pub draw_lines : Sizes → Draw → ℕ → Choice → Local → Transition
draw_lines z Draw.Clock s choice l = at kind.LoadClock Clock Load (λ c. clock_seen c l)
draw_lines z Draw.Wait s choice l = at kind.StoreWaiting (Scan s) (Store (scan_word (Waiting l.waiting))) (λ _. to (Activity.Draw Draw.Version) l)
draw_lines z Draw.Version s choice l = at kind.Draw Clock (Add 1) (λ v. to (Activity.Draw Draw.Settle) (record l { drawn = v }))
draw_lines z Draw.Settle s choice l = at kind.Settle (Scan s) (Exchange (scan_word (Waiting l.waiting)) (scan_word (Drawn l.drawn))) (λ w. settled (version_settled (scan_of w) l.drawn) l)
draw_lines z Draw.Pin s choice l = at kind.StorePin (Pin s) (Store (scan_word (Drawn l.version))) (λ _. to (Activity.EndScan Done) (record l { pin = Some l.version }))
