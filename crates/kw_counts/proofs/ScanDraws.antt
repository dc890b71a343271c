-- Where a seat comes to help a scan: it has just looked at it, or drawn for it.
use Rattle.std.proofs.Common.{ℕ, ◌≡◌, Some, refl, sym, ap, subst}
use Rattle.kw_words.specs.declared.layout.Name.TheVariants as name
use Rattle.kw_words.specs.declared.scan.ScanWord.TheVariants.{Waiting}
use Rattle.kw_words.specs.Scan.{scan_of}
use Rattle.kw_world.specs.declared.activity.Activity.{Activity}
use Rattle.kw_world.specs.declared.activity.rebalance.freeze.Freeze.TheVariants as Freeze
use Rattle.kw_world.specs.declared.activity.rebalance.Rebalance.TheVariants as Rebalance
use Rattle.kw_world.specs.declared.event.Choice.{Choice}
use Rattle.kw_world.specs.declared.local.Local.{Local}
use Rattle.kw_world.specs.Sizes.{Sizes}
use Rattle.kw_core.specs.Words.{Words}
use Rattle.kw_core.proofs.Arrows.{Arrow, NextLook, looks, lists, NextLeftOver, goes_to_left_over, answers, ends_scan, scans_on, sees_stamped, sees_neither, is_gone_by, helps, finds_stamped, finds_other, first_ends, list_ends, key_above, left_over_gone_by, gathers_left_over, helps_scan, draws_for, builds, asks_of_pin, looks_at_pin}
use Rattle.kw_core.proofs.Arrows.{freezes_last, keeps_no_more, remembers_last, sees_frozen_last, takes_no_more, marks_led, decides}
use Rattle.kw_core.proofs.BuiltNext.{built_next}
use Rattle.kw_core.proofs.Grouping.{counted_leads, frozen_leads, gathered_leads}
use Rattle.kw_puts.specs.Positions.{HelpsScan}
use Rattle.kw_puts.proofs.BuiltStages.{after_helps, of_pin_is, pin_look_is}

-- the activities by which a seat helps the scan of seat i
abbrev pub looking : ℕ → Activity
looking i = Activity.Rebalance (Rebalance.Freeze (Freeze.Scan i))

abbrev pub drawing_for : ℕ → Activity
drawing_for i = Activity.Rebalance (Rebalance.Freeze (Freeze.Draw i))

abbrev pub settling_for : ℕ → Activity
settling_for i = Activity.Rebalance (Rebalance.Freeze (Freeze.Settle i))

-- a seat that helps this scan has just seen since when it waits, or has just drawn for it
pub data HelpsNow (v : Words) (l : Local) (a : Activity) (k : Local) (i : ℕ) : Type 0 where
  has_looked : (clock : ℕ) → a ≡ looking i → scan_of (v (name.Scan i)) ≡ Some (Waiting clock) → k.rebalance.waiting ≡ clock → HelpsNow v l a k i
  has_drawn : a ≡ drawing_for i → k.activity ≡ settling_for i → k.rebalance.waiting ≡ l.rebalance.waiting → HelpsNow v l a k i

look_helps_not : (z : Sizes) (j i : ℕ) (next : Activity) → NextLook z j next → HelpsScan i next → ⊥
look_helps_not z j i next (looks w) x = x
look_helps_not z j i next (lists w) x = x

left_over_helps_not : (l k : Local) (i : ℕ) → NextLeftOver l k → HelpsScan i k.activity → ⊥
left_over_helps_not l k i (goes_to_left_over m w) x = x
left_over_helps_not l k i (answers w e) x = x
left_over_helps_not l k i (ends_scan w e f) x = x
left_over_helps_not l k i (scans_on r w e f o) x = x

pub helps_now : (z : Sizes) (v : Words) (s : ℕ) (choice : Choice) (l : Local) (a : Activity) (k : Local) (i : ℕ) → Arrow z v s choice l a k → HelpsScan i k.activity → HelpsNow v l a k i
helps_now z v s choice l a k i (helps_scan j clock e) x = has_looked clock (ap looking (sym x)) (subst (λ q. scan_of (v (name.Scan q)) ≡ Some (Waiting clock)) (sym x) e) refl
helps_now z v s choice l a k i (draws_for j) x = has_drawn (ap drawing_for (sym x)) (ap settling_for (sym x)) refl
helps_now z v s choice l a k i (builds b next y u) x = after_helps i next.activity (built_next z v choice l b next u) x
helps_now z v s choice l a k i (sees_stamped j c version next e n) x = absurd (look_helps_not z _ i next n x)
helps_now z v s choice l a k i (sees_neither j next e n) x = absurd (look_helps_not z _ i next n x)
helps_now z v s choice l a k i (is_gone_by next e n) x = absurd (look_helps_not z _ i next n x)
helps_now z v s choice l a k i (helps next e n) x = absurd (look_helps_not z _ i next n x)
helps_now z v s choice l a k i (finds_stamped c version next e n) x = absurd (look_helps_not z _ i next n x)
helps_now z v s choice l a k i (finds_other next e n) x = absurd (look_helps_not z _ i next n x)
helps_now z v s choice l a k i (first_ends next e n) x = absurd (left_over_helps_not _ next i n x)
helps_now z v s choice l a k i (list_ends next e n) x = absurd (left_over_helps_not _ next i n x)
helps_now z v s choice l a k i (key_above next e n) x = absurd (left_over_helps_not _ next i n x)
helps_now z v s choice l a k i (left_over_gone_by next e n) x = absurd (left_over_helps_not _ next i n x)
helps_now z v s choice l a k i (gathers_left_over next n) x = absurd (left_over_helps_not _ next i n x)
helps_now z v s choice l a k i (remembers_last j c version next e o n) x = absurd (frozen_leads (λ b. HelpsScan i b → ⊥) (λ y. y) (λ y. y) _ next n x)
helps_now z v s choice l a k i (sees_frozen_last j next e o n) x = absurd (frozen_leads (λ b. HelpsScan i b → ⊥) (λ y. y) (λ y. y) _ next n x)
helps_now z v s choice l a k i (freezes_last j next e o n) x = absurd (frozen_leads (λ b. HelpsScan i b → ⊥) (λ y. y) (λ y. y) _ next n x)
helps_now z v s choice l a k i (takes_no_more next e none n) x = absurd (gathered_leads (λ b. HelpsScan i b → ⊥) (λ y. y) (λ y. y) z _ next n x)
helps_now z v s choice l a k i (keeps_no_more next none n) x = absurd (gathered_leads (λ b. HelpsScan i b → ⊥) (λ y. y) (λ y. y) z _ next n x)
helps_now z v s choice l a k i (marks_led count next d n) x = absurd (counted_leads (λ b. HelpsScan i b → ⊥) (λ y. y) (λ y. y) _ _ next n x)
helps_now z v s choice l a k i (decides count m next e n) x = absurd (counted_leads (λ b. HelpsScan i b → ⊥) (λ y. y) (λ y. y) _ _ next n x)
helps_now z v s choice l a k i (asks_of_pin next o n) x = absurd (of_pin_is (λ b. HelpsScan i b → ⊥) (λ y. y) (λ y. y) (λ y. y) (λ y. y) (λ y. y) (λ y. y) n x)
helps_now z v s choice l a k i (looks_at_pin j next n) x = absurd (pin_look_is (λ b. HelpsScan i b → ⊥) (λ q y. y) (λ y. y) n x)
helps_now z v s choice l a k i _ x = absurd x
