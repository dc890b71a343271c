use Rattle.std.proofs.Common.{length, arith, ap}
use Rattle.std.proofs.lemmas.List.{length-set}
use Rattle.kw_world.specs.Sizes.{product}
use Rattle.kw_world.specs.WorldView.{WorldView}
use Rattle.kw_world.proofs.Begins.{length-opened}
use Rattle.kw_core_tests.proofs.world.a_clone_is_a_world_of_its_own.Goals as goal

-- a word set leaves the number of words, which the clone has from the opened world
pub word-requires : goal.word-requires
word-requires g c =
    omega (
      arith,
      c.place-place.ensures.below,
      length-set c.in_ok-copy.copy.words c.place-place.result 8,
      ap (λ (w : WorldView). length w.words) c.set_word.ensures,
      ap (λ (w : WorldView). length w.words) c.in_ok-copy.ensures,
      ap (λ (w : WorldView). length w.words) c.in_ok-world.ensures,
      length-opened product (record { rows = 3; seats = 2; clock = 7; epoch = 9 }),
    )
