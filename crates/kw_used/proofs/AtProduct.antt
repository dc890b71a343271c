-- What an update costs at the product's sizes, and that a new table of theirs has enough for few.
use Rattle.std.proofs.Common.{◌≡◌, ◌-◌, ◌*◌, ◌/◌, ◌≤◌, List, arith, refl}
use Rattle.std.proofs.Math.Nat.{mul-le-mul_right}
use Rattle.kw_words.specs.declared.sizes.TheConstants.{MOST_NEW_ROWS}
use Rattle.kw_world.specs.declared.event.Event.{Event}
use Rattle.kw_world.specs.declared.opening.Opening.{Opening}
use Rattle.kw_world.specs.Opening.{IsOpening}
use Rattle.kw_world.specs.Sizes.{product}
use Rattle.kw_counts.specs.Bank.{all_updates}
use Rattle.kw_used.specs.Few.{HasEnough, HasEnoughNew, update_price, update_share}
use Rattle.kw_used.specs.Used.{IsPriceOf}

-- a share of updates pays for as many builds as there are seats, and two more
pub update_pays : IsPriceOf product MOST_NEW_ROWS update_share update_price
update_pays = record {
  most = record { pairs = (MOST_NEW_ROWS - 1) / 2; odd = refl; more = omega arith };
  cells = omega arith;
  pays = omega arith;
}

-- the rows that are left over are enough for the numbers too
pub enough_new : (o : Opening) (es : List Event) → IsOpening product o → o.clock ≡ 1 → o.epoch ≡ 1 → HasEnoughNew o es → HasEnough product o es update_share update_price
enough_new o es opening clock epoch x =
    let once : 1 * (update_price * all_updates product o es) ≤ o.seats * (update_price * all_updates product o es) = mul-le-mul_right (update_price * all_updates product o es) opening.some_seats in
    record {
      room = omega (arith, x.rows);
      late = omega (arith, x.rows, once, epoch);
      versions = omega (arith, x.scans, clock);
    }
