use Rattle.std.proofs.Common.{Some, arith, sym, subst}
use Rattle.std.proofs.lemmas.List.Elements.{All-nil}
use Rattle.kw_model.specs.declared.call.Call.TheVariants.{Scan}
use Rattle.kw_world.specs.declared.activity.Activity.TheVariants as Activity
use Rattle.kw_world.specs.declared.activity.read.Read.TheVariants as Read
use Rattle.kw_world.specs.declared.local.Local.{Local}
use Rattle.kw_world.specs.Local.{resting}
use Rattle.kw_world.specs.Sane.{IsLocal, IsPair, IsMark, IsCopy}
use Rattle.kw_world.specs.Sizes.{product}
use Rattle.kw_world.proofs.Opens.{none_ranges}
use Rattle.kw_core_tests.proofs.put.at_a_value.Goals as goal

-- the scan, from what an idle seat knows
abbrev reading : Local → Local
reading l = record l { activity = Activity.Read Read.LeftOverValue; call = Some (Scan 2 9); want = 2; version = 5; place_version = 3; place_key = 4 }

in_range : IsLocal product (reading (resting 0))
in_range = record {
  activity = tt;
  call = (omega arith, omega arith);
  pin = tt;
  epoch = (omega arith, omega arith);
  want = omega arith;
  lower = omega arith;
  built = omega arith;
  upper = omega arith;
  waiting = (omega arith, omega arith);
  drawn = (omega arith, omega arith);
  version = (omega arith, omega arith);
  pairs = All-nil IsPair;
  looked = omega arith;
  saw = omega arith;
  helping = (omega arith, omega arith);
  marks = All-nil (IsMark product);
  place = omega arith;
  place_version = (omega arith, omega arith);
  place_key = omega arith;
  copies = All-nil IsCopy;
  cell = omega arith;
  link = tt;
  held = tt;
  walked = omega arith;
  lost = omega arith;
  rebalance = none_ranges product;
}

pub returns-clause-ranges : goal.returns-clause-ranges
returns-clause-ranges c = subst (λ (l : Local). IsLocal product (reading l)) (sym c.idle-local.ensures) in_range
