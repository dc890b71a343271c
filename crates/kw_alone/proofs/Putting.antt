-- The events of a put or a delete at its row, and those by which its cell is inserted.
use Rattle.std.proofs.Common.{ℕ, ◌≡◌, inr, Option, Some, None, arith, refl, ◌∙◌}
use Rattle.kw_words.specs.Plain.{cell_link_word}
use Rattle.kw_words.specs.State.{state_of}
use Rattle.kw_words.specs.declared.layout.Name.TheVariants as name
use Rattle.kw_world.specs.declared.activity.Activity.{Activity}
use Rattle.kw_world.specs.declared.event.Choice.{Choice}
use Rattle.kw_world.specs.declared.local.Local.{Local}
use Rattle.kw_world.specs.declared.operation.Action.TheVariants.{Load}
use Rattle.kw_world.specs.ListTransitions.{cell_guess, first_operation, link_name}
use Rattle.kw_world.specs.Sizes.{Sizes}
use Rattle.kw_world.specs.Table.{transition}
use Rattle.kw_core.specs.Words.{Words}
use Rattle.kw_core.proofs.Arrows.{Arrow, builds, finds_room, finds_full, takes_cell, takes_full, stores_key, stores_value, announces, announces_full, loads_clock, stamps, is_stamped, stamps_full, stores_version, inserts_behind, inserts_at_first, first_reaches, first_sees_none, reaches_cell, sees_none, key_before, key_same, key_after, version_before, version_after, stores_after, inserts, loses, clears, tidies}
use Rattle.kw_core.proofs.Building.{IsBuilding}
use Rattle.kw_core.proofs.Happens.{Changed, chosen, not_chosen}
use Rattle.kw_alone.specs.Facts.{Facts}
use Rattle.kw_alone.specs.Falls.{Falls}
use Rattle.kw_alone.specs.Prices.{insert_price}
use Rattle.kw_alone.proofs.Counting.{leads_to, leads_nowhere}
use Rattle.kw_alone.proofs.Prices.{same_lost, state_most}

-- a put or a delete is at its row
abbrev pub IsAtPut : Activity → Type 0
IsAtPut (Activity.Put _) = Unit {0}
IsAtPut (Activity.Insert _) = Unit {0}
IsAtPut _ = ⊥

not_building : (a : Activity) → IsBuilding a → IsAtPut a → ⊥
not_building (Activity.Rebalance _) b w = w
not_building _ b w = b

-- a walk along a list begins by a load, with a guess or without one
first_loads : (guess : Option ℕ) (l : Local) → (first_operation guess l).action ≡ Load
first_loads (Some cell) l = refl
first_loads None l = refl

pub putting_falls : (z : Sizes) (rows : ℕ) (v v' : Words) (s : ℕ) (choice : Choice) (a : Activity) (l next : Local) → Arrow z v s choice l a next → IsAtPut a → Changed z rows v v' (transition z a s choice l) → Facts z rows v v' a l next → Falls z rows v v' a l next
putting_falls z rows v v' s choice a l next (builds b k y t) w c f = absurd (not_building b y w)
putting_falls z rows v v' s choice a l next (finds_room e) w c f = inr (inr (omega arith))
putting_falls z rows v v' s choice a l next (finds_full e) w c f = inr (inr (omega (arith, state_most (state_of (v' (name.State l.row))))))
putting_falls z rows v v' s choice a l next (takes_cell e) w c f = inr (inr (omega arith))
putting_falls z rows v v' s choice a l next (takes_full e) w c f = inr (inr (omega (arith, state_most (state_of (v' (name.State l.row))))))
putting_falls z rows v v' s choice a l next stores_key w c f = inr (inr (omega arith))
putting_falls z rows v v' s choice a l next stores_value w c f = inr (inr (omega arith))
putting_falls z rows v v' s choice a l next (announces e) w c f = inr (inr (omega arith))
putting_falls z rows v v' s choice a l next (announces_full e) w c f = inr (inr (omega (arith, state_most (state_of (v' (name.State l.row))))))
putting_falls z rows v v' s choice a l next loads_clock w c f = inr (inr (omega arith))
putting_falls z rows v v' s choice a l next (stamps e) w c f = inr (inr (omega arith))
putting_falls z rows v v' s choice a l next (is_stamped version e) w c f = inr (inr (omega arith))
putting_falls z rows v v' s choice a l next (stamps_full e) w c f = inr (inr (omega (arith, state_most (state_of (v' (name.State l.row))))))
putting_falls z rows v v' s choice a l next stores_version w c f = inr (inr (omega arith))
putting_falls z rows v v' s choice a l next (inserts_behind d o e) w c f = inr (inr (omega arith))
putting_falls z rows v v' s choice a l next (inserts_at_first d e) w c f = inr (inr (omega arith))
putting_falls z rows v v' s choice a l next (first_reaches d e) w c f =
    let x : v' (link_name l.row l.link) ≡ cell_link_word (Some d) = c.loaded (first_loads (cell_guess choice l) l) (link_name l.row l.link) ∙ leads_to (v (link_name l.row l.link)) d e in
    inr (inr (omega (arith, f.walked tt, chosen (v' (link_name l.row l.link)) (cell_link_word (Some d)) 0 (insert_price z) x)))
putting_falls z rows v v' s choice a l next (first_sees_none e) w c f =
    let x : v' (link_name l.row l.link) ≡ cell_link_word None = c.loaded (first_loads (cell_guess choice l) l) (link_name l.row l.link) ∙ leads_nowhere (v (link_name l.row l.link)) (f.links tt) e in
    inr (inr (omega (arith, chosen (v' (link_name l.row l.link)) (cell_link_word None) 0 (insert_price z) x)))
putting_falls z rows v v' s choice a l next (reaches_cell d e) w c f =
    let x : v' (link_name l.row l.link) ≡ cell_link_word (Some d) = c.loaded refl (link_name l.row l.link) ∙ leads_to (v (link_name l.row l.link)) d e in
    inr (inr (omega (arith, f.walked tt, chosen (v' (link_name l.row l.link)) (cell_link_word (Some d)) 0 (insert_price z) x)))
putting_falls z rows v v' s choice a l next (sees_none e) w c f =
    let x : v' (link_name l.row l.link) ≡ cell_link_word None = c.loaded refl (link_name l.row l.link) ∙ leads_nowhere (v (link_name l.row l.link)) (f.links tt) e in
    inr (inr (omega (arith, chosen (v' (link_name l.row l.link)) (cell_link_word None) 0 (insert_price z) x)))
putting_falls z rows v v' s choice a l next (key_before e) w c f = inr (inr (omega arith))
putting_falls z rows v v' s choice a l next (key_same e) w c f = let k = same_lost (v' (link_name l.row l.link)) (v (link_name l.row l.link)) (cell_link_word l.held) (insert_price z) (c.loaded refl (link_name l.row l.link)) in inr (inr (omega (arith, k)))
putting_falls z rows v v' s choice a l next (key_after e) w c f = let k = same_lost (v' (link_name l.row l.link)) (v (link_name l.row l.link)) (cell_link_word l.held) (insert_price z) (c.loaded refl (link_name l.row l.link)) in inr (inr (omega (arith, k)))
putting_falls z rows v v' s choice a l next (version_before e) w c f = inr (inr (omega arith))
putting_falls z rows v v' s choice a l next (version_after e) w c f = let k = same_lost (v' (link_name l.row l.link)) (v (link_name l.row l.link)) (cell_link_word l.held) (insert_price z) (c.loaded refl (link_name l.row l.link)) in inr (inr (omega (arith, k)))
putting_falls z rows v v' s choice a l next stores_after w c f = let k = same_lost (v' (link_name l.row l.link)) (v (link_name l.row l.link)) (cell_link_word l.held) (insert_price z) (f.apart refl) in inr (inr (omega (arith, k)))
putting_falls z rows v v' s choice a l next (inserts e) w c f = inr (inr (omega arith))
putting_falls z rows v v' s choice a l next (loses e) w c f = inr (inr (omega (arith, not_chosen (v (link_name l.row l.link)) (cell_link_word l.held) 0 (insert_price z) e)))
putting_falls z rows v v' s choice a l next clears w c f = inr (inr (omega arith))
putting_falls z rows v v' s choice a l next (tidies n e) w c f = inr (inr (omega (arith, state_most (state_of (v' (name.State l.row))))))
putting_falls z rows v v' s choice a l next _ w c f = absurd w
