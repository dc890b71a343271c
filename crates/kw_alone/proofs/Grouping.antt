-- The events by which the rows of a group are frozen, the scans are looked at, and the cells of the
-- group are gathered.
use Rattle.std.proofs.Common.{ℕ, ◌≡◌, inr, ◌+◌, ◌<◌, ◌≤◌, arith, refl, sym, ◌∙◌, ap, subst}
use Rattle.kw_words.specs.declared.layout.Name.TheVariants as name
use Rattle.kw_words.specs.declared.pend.Pend.TheVariants as pend
use Rattle.kw_words.specs.Pend.{pend_word}
use Rattle.kw_words.specs.Plain.{value_of_word}
use Rattle.kw_words.proofs.PendWords.{pend_word_of}
use Rattle.kw_world.specs.declared.activity.Activity.{Activity}
use Rattle.kw_world.specs.declared.activity.rebalance.Rebalance.TheVariants as Rebalance
use Rattle.kw_world.specs.declared.activity.rebalance.freeze.Freeze.TheVariants as Freeze
use Rattle.kw_world.specs.declared.event.Choice.{Choice}
use Rattle.kw_world.specs.declared.local.Local.{Local}
use Rattle.kw_world.specs.TakeTransitions.{keeping}
use Rattle.kw_world.specs.Sizes.{Sizes}
use Rattle.kw_world.specs.Table.{transition}
use Rattle.kw_core.specs.Words.{Words}
use Rattle.kw_core.proofs.Arrows.{Arrow, builds, freezes_count, sees_idle, sees_unstamped, remembers, remembers_last, sees_frozen, sees_frozen_last, freezes_entry, freezes_last, looks_again, sees_quiet, sees_quiet_last, helps_scan, sees_drawn, sees_drawn_last, draws_for, settles_scan, settles_last, finds_drawn, finds_drawn_last, finds_no_scan, finds_no_scan_last, take_leads, takes_left, takes_no_more, takes_key, takes_version, keeps_taken, takes_left_key, keeps_left, keeps_no_more, looks_at_pin}
use Rattle.kw_core.proofs.Building.{IsBuilding}
use Rattle.kw_core.proofs.Grouping.{NextFrozen, freezes_ahead, froze_all, NextGathered, gathers_ahead, gathered_all}
use Rattle.kw_core.proofs.Happens.{Changed, chosen, not_chosen}
use Rattle.kw_core.proofs.Pinning.{NextPinLook, sees_pin, sees_pin_last, sees_no_pin, sees_no_pin_last}
use Rattle.kw_alone.specs.Facts.{Facts}
use Rattle.kw_alone.specs.Falls.{Falls}
use Rattle.kw_alone.specs.Prices.{ahead_price, first_seek_price, rows_left, scan_price}
use Rattle.kw_alone.specs.Rest.{rest, places_price, gathered_places}
use Rattle.kw_alone.proofs.Counting.{gathered_most}
use Rattle.kw_alone.proofs.Prices.{left_most}

-- a rebalance goes through the rows of its group, or through the scans
abbrev pub IsGrouping : Activity → Type 0
IsGrouping (Activity.Rebalance (Rebalance.Freeze _)) = Unit {0}
IsGrouping (Activity.Rebalance (Rebalance.Gather _)) = Unit {0}
IsGrouping _ = ⊥

not_building : (a : Activity) → IsBuilding a → IsGrouping a → ⊥
not_building (Activity.Rebalance (Rebalance.Seek _)) b w = w
not_building (Activity.Rebalance (Rebalance.Write _)) b w = w
not_building (Activity.Rebalance (Rebalance.Replace _)) b w = w
not_building _ b w = b

module _ (z : Sizes) (rows : ℕ) (v v' : Words) where
  -- the row at hand is frozen
  frozen_falls : (a : Activity) (l m next : Local) → NextFrozen m next → ahead_price z m.rebalance.ahead + 1 + scan_price z rows ≤ rest z rows v a l → Falls z rows v v' a l next
  frozen_falls a l m next (freezes_ahead r e) k = inr (inr (omega (arith, k, ap (ahead_price z) e)))
  frozen_falls a l m next (froze_all e) k = inr (inr (omega (arith, k)))

  -- the row at hand is gathered
  gathered_falls : (a : Activity) (l m next : Local) → NextGathered z m next → places_price z m.rebalance + 5 + first_seek_price z rows ≤ rest z rows v a l → Falls z rows v v' a l next
  gathered_falls a l m next (gathers_ahead r e) k = inr (inr (omega (arith, k, ap rows_left e)))
  gathered_falls a l m next (gathered_all e) k = inr (inr (omega (arith, k)))

  -- a pin is looked at
  pin_look_falls : (i w : ℕ) (l next : Local) → i < z.seats → NextPinLook z i w l next → Falls z rows v v' (Activity.Rebalance (Rebalance.Freeze (Freeze.Pin i))) l next
  pin_look_falls i w l next h (sees_pin version e k) = inr (inr (omega (arith, h)))
  pin_look_falls i w l next h (sees_pin_last version e k) = inr (inr (omega (arith, h, left_most l.rebalance.second)))
  pin_look_falls i w l next h (sees_no_pin e k) = inr (inr (omega (arith, h)))
  pin_look_falls i w l next h (sees_no_pin_last e k) = inr (inr (omega (arith, h, left_most l.rebalance.second)))

-- the gathered cells stay
pub gathered_stays : (z : Sizes) (m next : Local) → NextGathered z m next → next.rebalance.gathered ≡ m.rebalance.gathered
gathered_stays z m next (gathers_ahead r e) = refl
gathered_stays z m next (gathered_all e) = refl

pub grouping_falls : (z : Sizes) (rows : ℕ) (v v' : Words) (s : ℕ) (choice : Choice) (a : Activity) (l next : Local) → Arrow z v s choice l a next → IsGrouping a → Changed z rows v v' (transition z a s choice l) → Facts z rows v v' a l next → Falls z rows v v' a l next
grouping_falls z rows v v' s choice a l next (builds b k y t) w c f = absurd (not_building b y w)
grouping_falls z rows v v' s choice a l next freezes_count w c f = inr (inr (omega arith))
grouping_falls z rows v v' s choice a l next (sees_idle k e) w c f =
    let x : v' (name.Pend l.rebalance.hand k) ≡ pend_word pend.Idle = c.loaded refl (name.Pend l.rebalance.hand k) ∙ sym (pend_word_of (v (name.Pend l.rebalance.hand k)) pend.Idle e) in
    inr (inr (omega (arith, f.range, chosen {A = ℕ} (v' (name.Pend l.rebalance.hand k)) (pend_word pend.Idle) 0 2 x)))
grouping_falls z rows v v' s choice a l next (sees_unstamped k d e) w c f =
    let x : v' (name.Pend l.rebalance.hand k) ≡ pend_word (pend.Pending d) = c.loaded refl (name.Pend l.rebalance.hand k) ∙ sym (pend_word_of (v (name.Pend l.rebalance.hand k)) (pend.Pending d) e) in
    inr (inr (omega (arith, f.range, chosen {A = ℕ} (v' (name.Pend l.rebalance.hand k)) (pend_word (pend.Pending d)) 0 2 x)))
grouping_falls z rows v v' s choice a l next (remembers k d version e h) w c f = inr (inr (omega (arith, f.range)))
grouping_falls z rows v v' s choice a l next (remembers_last k d version n e h y) w c f = frozen_falls z rows v v' a l _ next y (omega (arith, f.range))
grouping_falls z rows v v' s choice a l next (sees_frozen k e h) w c f = inr (inr (omega (arith, f.range)))
grouping_falls z rows v v' s choice a l next (sees_frozen_last k n e h y) w c f = frozen_falls z rows v v' a l l next y (omega (arith, f.range))
grouping_falls z rows v v' s choice a l next (freezes_entry k e h) w c f = inr (inr (omega (arith, f.range)))
grouping_falls z rows v v' s choice a l next (freezes_last k n e h y) w c f = frozen_falls z rows v v' a l l next y (omega (arith, f.range))
grouping_falls z rows v v' s choice a l next (looks_again k e) w c f = inr (inr (omega (arith, f.range, not_chosen {A = ℕ} (v (name.Pend l.rebalance.hand k)) (pend_word l.rebalance.entry) 0 2 e)))
grouping_falls z rows v v' s choice a l next (sees_quiet k e h) w c f = inr (inr (omega (arith, f.range)))
grouping_falls z rows v v' s choice a l next (sees_quiet_last k e h) w c f = inr (inr (omega (arith, f.range, left_most l.rebalance.second)))
grouping_falls z rows v v' s choice a l next (helps_scan k d e) w c f = inr (inr (omega (arith, f.range)))
grouping_falls z rows v v' s choice a l next (sees_drawn k d e h) w c f = inr (inr (omega (arith, f.range)))
grouping_falls z rows v v' s choice a l next (sees_drawn_last k d e h) w c f = inr (inr (omega (arith, f.range, left_most l.rebalance.second)))
grouping_falls z rows v v' s choice a l next (draws_for k) w c f = inr (inr (omega arith))
grouping_falls z rows v v' s choice a l next (settles_scan k e h) w c f = inr (inr (omega arith))
grouping_falls z rows v v' s choice a l next (settles_last k e h) w c f = inr (inr (omega (arith, left_most l.rebalance.second)))
grouping_falls z rows v v' s choice a l next (finds_drawn k d e h) w c f = inr (inr (omega arith))
grouping_falls z rows v v' s choice a l next (finds_drawn_last k d e h) w c f = inr (inr (omega (arith, left_most l.rebalance.second)))
grouping_falls z rows v v' s choice a l next (finds_no_scan k e h) w c f = inr (inr (omega arith))
grouping_falls z rows v v' s choice a l next (finds_no_scan_last k e h) w c f = inr (inr (omega (arith, left_most l.rebalance.second)))
grouping_falls z rows v v' s choice a l next (looks_at_pin k m n) w c f = pin_look_falls z rows v v' k _ l m f.range n
grouping_falls z rows v v' s choice a l next (take_leads d e) w c f = inr (inr (omega arith))
grouping_falls z rows v v' s choice a l next (takes_left m e h k) w c f = inr (inr (omega arith))
grouping_falls z rows v v' s choice a l next (takes_no_more n e k y) w c f = gathered_falls z rows v v' a l l next y (omega arith)
grouping_falls z rows v v' s choice a l next takes_key w c f = inr (inr (omega arith))
grouping_falls z rows v v' s choice a l next takes_version w c f = inr (inr (omega arith))
grouping_falls z rows v v' s choice a l next keeps_taken w c f = inr (inr (omega (arith, f.gathers tt, gathered_most z next.rebalance.gathered)))
grouping_falls z rows v v' s choice a l next takes_left_key w c f = inr (inr (omega arith))
grouping_falls z rows v v' s choice a l next (keeps_left m e h) w c f = inr (inr (omega (arith, f.gathers tt, gathered_most z next.rebalance.gathered)))
grouping_falls z rows v v' s choice a l next (keeps_no_more n h y) w c f =
    let more : gathered_places z l.rebalance.gathered < gathered_places z kept.rebalance.gathered = subst (λ x. gathered_places z l.rebalance.gathered < gathered_places z x) (gathered_stays z kept next y) (f.gathers tt) in
    gathered_falls z rows v v' a l kept next y (omega (arith, more, gathered_most z kept.rebalance.gathered))
  where
    kept : Local
    kept = keeping z (value_of_word (v (name.Value l.rebalance.hand l.place))) l
grouping_falls z rows v v' s choice a l next _ w c f = absurd w
