-- The lines by which the rows of the group are frozen and the scans and pins are looked at.
use Rattle.std.specs.Prelude.{ℕ, ◌==◌}
use Rattle.kw_words.specs.declared.layout.Name.TheVariants.{Clock, Scan, Pin, Count, Pend}
use Rattle.kw_words.specs.declared.kind.Kind.TheVariants as kind
use Rattle.kw_words.specs.declared.pend.Pend.TheVariants as pend
use Rattle.kw_words.specs.declared.sizes.TheConstants.{FROZEN_BIT}
use Rattle.kw_words.specs.declared.scan.ScanWord.TheVariants.{Waiting, Drawn}
use Rattle.kw_words.specs.Pend.{pend_of, pend_word}
use Rattle.kw_words.specs.Scan.{scan_of, scan_word}
use Rattle.kw_world.specs.declared.activity.Activity.{Activity}
use Rattle.kw_world.specs.declared.activity.rebalance.Rebalance.TheVariants as Rebalance
use Rattle.kw_world.specs.declared.local.Local.{Local}
use Rattle.kw_world.specs.declared.event.Choice.{Choice}
use Rattle.kw_world.specs.declared.operation.Action.TheVariants.{Load, Add, Or, Exchange}
use Rattle.kw_world.specs.Sizes.{Sizes}
use Rattle.kw_world.specs.Transition.{Transition, at, to}
use Rattle.kw_world.specs.FreezeTransitions.{count_frozen, freeze_seen, entry_tried, scan_seen, scan_helped, pin_seen}
use Rattle.kw_world.specs.declared.activity.rebalance.freeze.Freeze.{Freeze}

-- the lines of freezing
abbrev pub freeze_lines : Sizes → Freeze → ℕ → Choice → Local → Transition
freeze_lines z Freeze.Count s choice l = at kind.FreezeCount (Count l.rebalance.hand) (Or FROZEN_BIT) (λ _. count_frozen l)
freeze_lines z (Freeze.Look i) s choice l = at kind.LoadPend (Pend l.rebalance.hand i) Load (λ w. freeze_seen z i (pend_of w) l)
freeze_lines z (Freeze.Entry i) s choice l = at kind.FreezePend (Pend l.rebalance.hand i) (Exchange (pend_word l.rebalance.entry) (pend_word pend.Frozen)) (λ w. entry_tried z i (w == pend_word l.rebalance.entry) l)
freeze_lines z (Freeze.Scan i) s choice l = at kind.LoadScan (Scan i) Load (λ w. scan_seen z i (scan_of w) l)
freeze_lines z (Freeze.Draw i) s choice l = at kind.HelpDraw Clock (Add 1) (λ v. to (Activity.Rebalance (Rebalance.Freeze (Freeze.Settle i))) (record l { rebalance = record l.rebalance { drawn = v } }))
freeze_lines z (Freeze.Settle i) s choice l = at kind.HelpSettle (Scan i) (Exchange (scan_word (Waiting l.rebalance.waiting)) (scan_word (Drawn l.rebalance.drawn))) (λ w. scan_helped z i (scan_of w) l)
freeze_lines z (Freeze.Pin i) s choice l = at kind.LoadPin (Pin i) Load (λ w. pin_seen z i (scan_of w) l)
