use Rattle.std.proofs.Common.{ℕ, ◌≡◌, ◌<◌, Some, length, slice_get, arith, refl, sym, ◌∙◌, ap, subst}
use Rattle.std.proofs.lemmas.List.{length-replicate}
use Rattle.std.proofs.lemmas.Option.{same_Some}
use Rattle.kw_words.specs.Layout.{IsSized}
use Rattle.kw_world.specs.declared.activity.Activity.TheVariants as Activity
use Rattle.kw_world.specs.declared.activity.walk.Walk.TheVariants as Walk
use Rattle.kw_world.specs.declared.local.Local.{Local}
use Rattle.kw_world.specs.declared.opening.Opening.{Opening}
use Rattle.kw_world.specs.declared.part.Part.TheVariants as part
use Rattle.kw_world.specs.Local.{resting}
use Rattle.kw_world.specs.Opening.{opened}
use Rattle.kw_world.specs.Parts.{part_of}
use Rattle.kw_world.specs.Sane.{IsKnown, IsSane}
use Rattle.kw_world.specs.Sizes.{Sizes, product}
use Rattle.kw_world.specs.WorldView.{WorldView}
use Rattle.kw_world.proofs.Lists.{get-set_same}
use Rattle.kw_world.proofs.Opens.{all_resting, none_room, rests_known, with_local-sane}
use Rattle.kw_core_tests.proofs.rows.before_a_walk.Goals as goal

-- the world that was opened
abbrev small : Opening
small = record { rows = 3; seats = 2; clock = 7; epoch = 9 }

-- a seat that is about to begin a walk, and knows nothing else
abbrev starting : Local
starting = record (resting 0) { activity = Activity.Walk Walk.Start }

starts_known : (z : Sizes) (rows : ℕ) → IsSized z.seats z.cells rows → IsKnown z rows starting
starts_known z rows sized =
    let k : IsKnown z rows (resting 0) = rests_known z rows 0 sized in
    record {
      ranges = record {
        activity = tt;
        call = tt;
        pin = tt;
        epoch = k.ranges.epoch;
        want = k.ranges.want;
        lower = k.ranges.lower;
        built = k.ranges.built;
        upper = k.ranges.upper;
        waiting = k.ranges.waiting;
        drawn = k.ranges.drawn;
        version = k.ranges.version;
        pairs = k.ranges.pairs;
        looked = k.ranges.looked;
        saw = k.ranges.saw;
        helping = k.ranges.helping;
        marks = k.ranges.marks;
        place = k.ranges.place;
        place_version = k.ranges.place_version;
        place_key = k.ranges.place_key;
        copies = k.ranges.copies;
        cell = k.ranges.cell;
        link = k.ranges.link;
        held = k.ranges.held;
        walked = k.ranges.walked;
        lost = k.ranges.lost;
        rebalance = k.ranges.rebalance;
      };
      below = record { row = k.below.row; candidate = k.below.candidate; next = k.below.next; rebalance = k.below.rebalance };
      room = record { remembered = k.room.remembered; gathered = k.room.gathered; rebalance = none_room z (Activity.Walk Walk.Start) (λ t. t) };
    }

-- what the seat knew at the opening
rested : (w : WorldView) (l : Local) → w ≡ opened product small → slice_get w.locals 1 ≡ Some l → l ≡ resting 0
rested w l opens known = all_resting 2 1 l (sym (ap (λ (v : WorldView). slice_get v.locals 1) opens) ∙ known)

inside : (w : WorldView) → w ≡ opened product small → 1 < length w.locals
inside w opens = omega (arith, ap (λ (v : WorldView). length v.locals) opens, length-replicate 2 (resting 0))

pub returns-clause-sane : goal.returns-clause-sane
returns-clause-sane c =
    let w : WorldView = c.in_ok-world.world in
    let l : Local = c.local_mut.result.now in
    let sane : IsSane product w = c.in_ok-world.ensures.sane in
    let known : IsKnown product w.rows (record l { activity = Activity.Walk Walk.Start }) =
    subst (λ (x : Local). IsKnown product w.rows (record x { activity = Activity.Walk Walk.Start })) (sym (rested w l c.in_ok-world.ensures.world c.local_mut.ensures.value)) (starts_known product w.rows sane.sized) in
    with_local-sane product w 1 (record l { activity = Activity.Walk Walk.Start }) sane (inside w c.in_ok-world.ensures.world) known

pub returns-clause-part : goal.returns-clause-part
returns-clause-part c = λ choice k at.
    let w : WorldView = c.in_ok-world.world in
    let l : Local = record c.local_mut.result.now { activity = Activity.Walk Walk.Start } in
    let is : l ≡ k = same_Some l k (sym (get-set_same w.locals 1 l (inside w c.in_ok-world.ensures.world)) ∙ at) in
    subst (λ (x : Local). part_of choice x ≡ part.Rows) is refl
