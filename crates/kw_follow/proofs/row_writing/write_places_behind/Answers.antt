use Rattle.std.proofs.Common.{◌≤◌, ◌∙◌, ℕ, arith, ap, length, refl, subst, sym}
use Rattle.std.proofs.lemmas.Option.{slice_get_past}
use Rattle.kw_words.specs.declared.layout.Name.TheVariants.{Version}
use Rattle.kw_words.specs.Plain.{version_word}
use Rattle.kw_world.specs.declared.activity.rebalance.write.Write.TheVariants as Write
use Rattle.kw_world.specs.WriteTransitions.{infant_cells, version_in}
use Rattle.kw_follow.specs.BuildsOn.{at_cell}
use Rattle.kw_follow.specs.Following.{Follows}
use Rattle.kw_follow.proofs.RowWriting.{asks_word, behind_next, none_written}
use Rattle.kw_follow.proofs.row_writing.write_places_behind.Goals as goal
use Rattle.kw_follow.proofs.Advancing.{advances_as, advances_none}

pub infant_cells-cells-requires : goal.infant_cells-cells-requires
infant_cells-cells-requires c = c.requires.ranges

pub loop-place-init : goal.loop-place-init
loop-place-init c = advances_none (subst (λ (n : ℕ). Follows c.args.shared.now c.args.pass.now (at_cell n c.args.local.now)) (ap length (sym c.infant_cells-cells.ensures.cells)) c.requires.follows)

pub store_infant-requires : goal.store_infant-requires
store_infant-requires c =
    let behind : length (infant_cells c.args.local.now) ≤ c.loop-place.place = omega (arith, ap length c.infant_cells-cells.ensures.cells) in
    let next = advances_as (behind_next c.loop-place.place c.args.local.now (omega arith) behind) c.loop-place.invariant in
    asks_word c.args.local.now (Write.Version c.loop-place.place) next.follows (ap (λ row. Version row c.loop-place.place) c.infant-row.ensures)
    (c.pack_version-none.ensures.value ∙ ap (λ o. version_word (version_in o)) (sym (slice_get_past (infant_cells c.args.local.now) c.loop-place.place behind))) refl

pub loop-place-preserved : goal.loop-place-preserved
loop-place-preserved c =
    let behind : length (infant_cells c.args.local.now) ≤ c.loop-place.place = omega (arith, ap length c.infant_cells-cells.ensures.cells) in
    let next = advances_as (behind_next c.loop-place.place c.args.local.now (omega arith) behind) c.loop-place.invariant in
    none_written c.args.local.now c.loop-place.place behind next c.store_infant.ensures
