-- The events by which a call begins, walks to its row and ends.
use Rattle.std.proofs.Common.{ℕ, ◌≡◌, inl, inr, ◌+◌, ◌*◌, ◌<◌, Bool, true, false, arith, refl, ◌∙◌}
use Rattle.kw_world.specs.declared.activity.Activity.{Activity}
use Rattle.kw_world.specs.declared.activity.enter.Enter.TheVariants as Enter
use Rattle.kw_world.specs.declared.event.Choice.{Choice}
use Rattle.kw_world.specs.declared.local.Local.{Local}
use Rattle.kw_world.specs.Sizes.{Sizes}
use Rattle.kw_core.specs.Stages.{is_put}
use Rattle.kw_core.specs.Words.{Words, least_in}
use Rattle.kw_core.proofs.Arrows.{Arrow, builds, begins, enters, enters_scan, is_spent, waits, stores_waiting, draws, settles_empty, settles, starts_at_head, guesses, guess_fails, takes_head, guess_serves, guess_is_above, stops, puts_in_last, reads_last, reaches_next, walks_on, puts_before, reads_before, clears_scan, leaves, retries, enters_again, asks_of_pin, settles_pin, stores_pin, clears_pin}
use Rattle.kw_core.proofs.Building.{IsBuilding}
use Rattle.kw_core.proofs.Pinning.{NextOfPin, pins, is_held, reads_no_pin, reads_no_key, reads_at_pin, unpins, unpins_none}
use Rattle.kw_alone.specs.Facts.{Facts}
use Rattle.kw_alone.specs.Falls.{Falls}
use Rattle.kw_alone.specs.Marks.{ends}
use Rattle.kw_alone.specs.Prices.{look_price, put_price}
use Rattle.kw_alone.specs.Rest.{up, walk_price}
use Rattle.kw_alone.proofs.Counting.{less_up, up_times}
use Rattle.kw_alone.proofs.Prices.{after_most, put_walks, reader_walks, walk_some, walk_most, after_same, walk_same}

-- a call is at its beginning, on its way or at its end
abbrev pub IsOnWay : Activity → Type 0
IsOnWay Activity.Idle = Unit {0}
IsOnWay (Activity.Enter _) = Unit {0}
IsOnWay (Activity.Draw _) = Unit {0}
IsOnWay (Activity.Walk _) = Unit {0}
IsOnWay (Activity.EndScan answer) = Unit {0}
IsOnWay Activity.ClearPin = Unit {0}
IsOnWay Activity.Retry = Unit {0}
IsOnWay (Activity.Leave answer) = Unit {0}
IsOnWay _ = ⊥

not_building : (a : Activity) → IsBuilding a → IsOnWay a → ⊥
not_building (Activity.Rebalance _) b w = w
not_building _ b w = b

-- a call of a pin is over, or has less to do than one that has yet to draw, or begins its walk
of_pin_falls : (z : Sizes) (rows : ℕ) (v v' : Words) (l next : Local) → NextOfPin l next → Falls z rows v v' (Activity.Enter Enter.Announce) l next
of_pin_falls z rows v v' l next (pins e g) = inr (inr (omega arith))
of_pin_falls z rows v v' l next (is_held version e g) = inr (inr (omega arith))
of_pin_falls z rows v v' l next (reads_no_pin from upto e g) = inr (inr (omega arith))
of_pin_falls z rows v v' l next (reads_no_key from upto version e g h) = inr (inr (omega arith))
of_pin_falls z rows v v' l next (reads_at_pin from upto version e g h) = inr (inl refl)
of_pin_falls z rows v v' l next (unpins version e g) = inr (inr (omega arith))
of_pin_falls z rows v v' l next (unpins_none e g) = inr (inr (omega arith))

pub way_falls : (z : Sizes) (rows : ℕ) (v v' : Words) (s : ℕ) (choice : Choice) (a : Activity) (l next : Local) → Arrow z v s choice l a next → IsOnWay a → Facts z rows v v' a l next → Falls z rows v v' a l next
way_falls z rows v v' s choice a l next (builds b k y t) w f = absurd (not_building b y w)
way_falls z rows v v' s choice a l next (begins call c b) w f = inr (inr (omega arith))
way_falls z rows v v' s choice a l next (enters e) w f = inr (inl refl)
way_falls z rows v v' s choice a l next (enters_scan e) w f = inr (inr (omega arith))
way_falls z rows v v' s choice a l next (asks_of_pin k o n) w f = of_pin_falls z rows v v' l k n
way_falls z rows v v' s choice a l next (is_spent h) w f = inr (inr (omega arith))
way_falls z rows v v' s choice a l next (waits h) w f = inr (inr (omega arith))
way_falls z rows v v' s choice a l next stores_waiting w f = inr (inr (omega arith))
way_falls z rows v v' s choice a l next draws w f = inr (inr (omega arith))
way_falls z rows v v' s choice a l next (settles_empty e) w f = inr (inr (omega arith))
way_falls z rows v v' s choice a l next (settles e) w f = inr (inl refl)
way_falls z rows v v' s choice a l next (settles_pin e) w f = inr (inr (omega arith))
way_falls z rows v v' s choice a l next stores_pin w f = inr (inr (omega arith))
way_falls z rows v v' s choice a l next starts_at_head w f = inr (inr (omega (arith, walk_most z rows v' next)))
way_falls z rows v v' s choice a l next (guesses r c e) w f = inr (inr (omega arith))
way_falls z rows v v' s choice a l next guess_fails w f = inr (inr (omega arith))
way_falls z rows v v' s choice a l next takes_head w f = inr (inr (omega (arith, walk_most z rows v' next)))
way_falls z rows v v' s choice a l next (guess_serves h) w f = inr (inr (omega (arith, walk_most z rows v' next)))
way_falls z rows v v' s choice a l next (guess_is_above h) w f = inr (inr (omega arith))
way_falls z rows v v' s choice a l next (stops e) w f = inr (inr (omega (arith, walk_some z rows v l)))
way_falls z rows v v' s choice a l next (puts_in_last e n) w f = inr (inr (omega (arith, put_walks z rows v l e)))
way_falls z rows v v' s choice a l next (reads_last e n) w f = inr (inr (omega (arith, reader_walks z rows v l e, after_most z rows v l, after_same z rows v v' (f.ups tt) l)))
way_falls z rows v v' s choice a l next (reaches_next q e) w f = inr (inr (omega (arith, walk_same z rows v v' (f.ups tt) l)))
way_falls z rows v v' s choice a l next (walks_on h) w f = inr (inr (step (is_put l.call) refl))
  where
    less : up v rows (least_in v l.candidate) < up v rows l.lower
    less = less_up v rows l.lower l.candidate f.candidate (f.climbs refl)

    step : (b : Bool) → is_put l.call ≡ b → walk_price z rows v' next + 1 < walk_price z rows v l
    step true e =
        let k : walk_price z rows v' next ≡ 2 * up v rows (least_in v l.candidate) + 1 + put_price z rows = walk_same z rows v v' (f.ups tt) next ∙ put_walks z rows v next e in
        omega (arith, k, less, put_walks z rows v l e)
    step false e =
        let k : walk_price z rows v' next ≡ up v rows (least_in v l.candidate) * look_price z + 1 + look_price z = walk_same z rows v v' (f.ups tt) next ∙ reader_walks z rows v next e in
        omega (arith, k, reader_walks z rows v l e, up_times (up v rows (least_in v l.candidate)) (up v rows l.lower) (look_price z) (omega (arith, less)))
way_falls z rows v v' s choice a l next (puts_before e h) w f = inr (inr (omega (arith, put_walks z rows v l e)))
way_falls z rows v v' s choice a l next (reads_before e h) w f = inr (inr (omega (arith, reader_walks z rows v l e, after_most z rows v l, after_same z rows v v' (f.ups tt) l)))
way_falls z rows v v' s choice a l next (clears_scan answer) w f = inr (inr (omega arith))
way_falls z rows v v' s choice a l next clears_pin w f = inr (inr (omega arith))
way_falls z rows v v' s choice a l next (leaves answer) w f = inl (ends answer)
way_falls z rows v v' s choice a l next retries w f = inr (inr (omega arith))
way_falls z rows v v' s choice a l next enters_again w f = inr (inr (omega arith))
way_falls z rows v v' s choice a l next _ w f = absurd w
