-- The events of a reader at its row: at the entries, along the list, and at what it remembers.
use Rattle.std.proofs.Common.{ℕ, ◌≡◌, inr, ◌+◌, ◌*◌, ◌-◌, ◌<◌, ◌≤◌, if◌then◌else◌, false, Some, arith, refl, sym, ap, subst, length}
use Rattle.kw_world.specs.declared.activity.Activity.{Activity}
use Rattle.kw_world.specs.declared.activity.look.Look.TheVariants as Look
use Rattle.kw_world.specs.declared.activity.read.Read.TheVariants as Read
use Rattle.kw_world.specs.declared.event.Choice.{Choice}
use Rattle.kw_world.specs.declared.local.Local.{Local}
use Rattle.kw_world.specs.Sizes.{Sizes}
use Rattle.kw_core.specs.Stages.{is_put}
use Rattle.kw_core.specs.Words.{Words, least_in}
use Rattle.kw_core.proofs.Arrows.{Arrow, builds, sees_pending, sees_stamped, sees_neither, is_wanted, is_gone_by, loads_to_help, helps, finds_stamped, finds_other, begins_behind, begins_at_first, first_leads, first_ends, list_leads, list_ends, key_below, key_within, key_above, loads_version, gathers_listed, left_over_wanted, left_over_gone_by, gathers_left_over, NextLook, looks, lists, NextLeftOver, goes_to_left_over, answers, ends_scan, scans_on}
use Rattle.kw_core.proofs.Building.{IsBuilding}
use Rattle.kw_alone.specs.Facts.{Facts, IsRightOf}
use Rattle.kw_alone.specs.Falls.{Falls}
use Rattle.kw_alone.specs.Prices.{list_price, look_price, put_price}
use Rattle.kw_alone.specs.Rest.{up, rest, after_row}
use Rattle.kw_alone.proofs.Counting.{less_up, no_longer, shorter, up_times}
use Rattle.kw_alone.proofs.Prices.{after_same, after_some, not_put}

-- a reader is at its row
abbrev pub IsReader : Activity → Type 0
IsReader (Activity.Look _) = Unit {0}
IsReader (Activity.Read _) = Unit {0}
IsReader _ = ⊥

not_building : (a : Activity) → IsBuilding a → IsReader a → ⊥
not_building (Activity.Rebalance _) b w = w
not_building _ b w = b

module _ (z : Sizes) (rows : ℕ) (v v' : Words) (ups : (b : ℕ) → up v' rows b ≡ up v rows b) where
  -- the next entry, or the list
  look_falls : (a : Activity) (j : ℕ) (l m : Local) (nx : Activity) → NextLook z j nx → length m.remembered ≤ z.seats → 4 * (z.seats - j) + list_price z + after_row z rows v m < rest z rows v a l → Falls z rows v v' a l (record m { activity = nx })
  look_falls a j l m nx (looks h) w k = inr (inr (omega (arith, k, after_same z rows v v' ups m)))
  look_falls a j l m nx (lists h) w k = inr (inr (omega (arith, k, after_same z rows v v' ups m, w)))

  -- fewer rows are above the row to the right
  right_up : (m : Local) (r : ℕ) → IsRightOf rows v m r → up v rows m.upper + 1 ≤ up v rows m.lower
  right_up m r g = let k : up v rows (least_in v r) < up v rows m.lower = less_up v rows m.lower r g.row (subst (λ x. m.lower < x) g.least g.above) in subst (λ x. up v rows x + 1 ≤ up v rows m.lower) (sym g.least) (omega (arith, k))

  -- the next remembered cell, or the row is read
  left_over_falls : (a : Activity) (l m next : Local) → NextLeftOver m next → ((r : ℕ) → m.next ≡ Some r → IsRightOf rows v m r) → 2 * length m.remembered + 1 + after_row z rows v m ≤ rest z rows v a l → Falls z rows v v' a l next
  left_over_falls a l m next (goes_to_left_over k e) right h = inr (inr (omega (arith, h, after_same z rows v v' ups m, shorter m.remembered k e)))
  left_over_falls a l m next (answers e s) right h = inr (inr (omega (arith, h, after_some z rows v m)))
  left_over_falls a l m next (ends_scan e s d) right h = let k : after_row z rows v m ≡ up v rows m.lower * look_price z + 2 = rw s refl in inr (inr (omega (arith, h, k)))
  left_over_falls a l m next (scans_on r e s n d) right h =
      let k : after_row z rows v m ≡ up v rows m.lower * look_price z + 2 = rw s refl in
      let p : is_put m.call ≡ false = not_put m.call s in
      let x : (if is_put m.call then 2 * up v' rows m.upper + 1 + put_price z rows else up v' rows m.upper * look_price z + 1 + look_price z) ≡ up v' rows m.upper * look_price z + 1 + look_price z = rw p refl in
      let y : up v' rows m.upper * look_price z ≡ up v rows m.upper * look_price z = ap (λ n. n * look_price z) (ups m.upper) in
      inr (inr (omega (arith, h, k, x, y, up_times (up v rows m.upper) (up v rows m.lower) (look_price z) (right_up m r (right r n)))))

pub reader_falls : (z : Sizes) (rows : ℕ) (v v' : Words) (s : ℕ) (choice : Choice) (a : Activity) (l next : Local) → Arrow z v s choice l a next → IsReader a → Facts z rows v v' a l next → Falls z rows v v' a l next
reader_falls z rows v v' s choice a l next (builds b k y t) w f = absurd (not_building b y w)
reader_falls z rows v v' s choice a l next (sees_pending k c e) w f = inr (inr (omega (arith, f.range, after_same z rows v v' (f.ups tt) l)))
reader_falls z rows v v' s choice a l next (sees_stamped k c version nx e y) w f = look_falls z rows v v' (f.ups tt) a (k + 1) l (record l { remembered = next.remembered }) nx y f.remembered (omega (arith, f.range))
reader_falls z rows v v' s choice a l next (sees_neither k nx e y) w f = look_falls z rows v v' (f.ups tt) a (k + 1) l l nx y f.remembered (omega (arith, f.range))
reader_falls z rows v v' s choice a l next (is_wanted e) w f = inr (inr (omega (arith, after_same z rows v v' (f.ups tt) l)))
reader_falls z rows v v' s choice a l next (is_gone_by nx e y) w f = look_falls z rows v v' (f.ups tt) (Activity.Look Look.Key) (l.looked + 1) l l nx y f.remembered (omega arith)
reader_falls z rows v v' s choice a l next loads_to_help w f = inr (inr (omega (arith, after_same z rows v v' (f.ups tt) l)))
reader_falls z rows v v' s choice a l next (helps nx e y) w f = look_falls z rows v v' (f.ups tt) (Activity.Look Look.Help) (l.looked + 1) l (record l { remembered = next.remembered }) nx y f.remembered (omega arith)
reader_falls z rows v v' s choice a l next (finds_stamped c version nx e y) w f = look_falls z rows v v' (f.ups tt) (Activity.Look Look.Help) (l.looked + 1) l (record l { remembered = next.remembered }) nx y f.remembered (omega arith)
reader_falls z rows v v' s choice a l next (finds_other nx e y) w f = look_falls z rows v v' (f.ups tt) (Activity.Look Look.Help) (l.looked + 1) l l nx y f.remembered (omega arith)
reader_falls z rows v v' s choice a l next (begins_behind c o e) w f = inr (inr (omega (arith, after_same z rows v v' (f.ups tt) l)))
reader_falls z rows v v' s choice a l next (begins_at_first c e) w f = inr (inr (omega (arith, after_same z rows v v' (f.ups tt) l)))
reader_falls z rows v v' s choice a l next (first_leads c e) w f = inr (inr (omega (arith, f.reads_on tt c e, no_longer c l.remembered, after_same z rows v v' (f.ups tt) l)))
reader_falls z rows v v' s choice a l next (first_ends n e y) w f = left_over_falls z rows v v' (f.ups tt) (Activity.Read Read.Start) l l next y (f.right tt) (omega arith)
reader_falls z rows v v' s choice a l next (list_leads c e) w f = inr (inr (omega (arith, f.reads_on tt c e, no_longer c l.remembered, after_same z rows v v' (f.ups tt) l)))
reader_falls z rows v v' s choice a l next (list_ends n e y) w f = left_over_falls z rows v v' (f.ups tt) (Activity.Read Read.Link) l l next y (f.right tt) (omega arith)
reader_falls z rows v v' s choice a l next (key_below e) w f = inr (inr (omega (arith, after_same z rows v v' (f.ups tt) l)))
reader_falls z rows v v' s choice a l next (key_within e g) w f = inr (inr (omega (arith, after_same z rows v v' (f.ups tt) l)))
reader_falls z rows v v' s choice a l next (key_above n e y) w f = left_over_falls z rows v v' (f.ups tt) (Activity.Read Read.Key) l l next y (f.right tt) (omega arith)
reader_falls z rows v v' s choice a l next loads_version w f = inr (inr (omega (arith, after_same z rows v v' (f.ups tt) l)))
reader_falls z rows v v' s choice a l next gathers_listed w f = inr (inr (omega (arith, after_same z rows v v' (f.ups tt) l)))
reader_falls z rows v v' s choice a l next (left_over_wanted e) w f = inr (inr (omega (arith, after_same z rows v v' (f.ups tt) l)))
reader_falls z rows v v' s choice a l next (left_over_gone_by n e y) w f = left_over_falls z rows v v' (f.ups tt) (Activity.Read Read.LeftOverKey) l l next y (f.right tt) (omega arith)
reader_falls z rows v v' s choice a l next (gathers_left_over n y) w f = left_over_falls z rows v v' (f.ups tt) (Activity.Read Read.LeftOverValue) l _ next y (λ r n. let g = f.right tt r n in record { row = g.row; least = g.least; above = g.above }) (omega arith)
reader_falls z rows v v' s choice a l next _ w f = absurd w
