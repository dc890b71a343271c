-- The updates pay for the rows that are taken.
use Rattle.std.proofs.Common.{ℕ, ◌≡◌, ◌⊎◌, inl, inr, ◌+◌, ◌*◌, ◌<◌, ◌≤◌, false, arith}
use Rattle.std.proofs.lemmas.Bool.{cases_lt}
use Rattle.std.proofs.Math.Nat.{mul-le-mul_left, mul-le-mul_right}
use Rattle.kw_lists.specs.Counts.{count_below}
use Rattle.kw_windows.specs.Sums.{sum_below}
use Rattle.kw_windows.specs.Windows.{Windows, Limits, taken}
use Rattle.kw_windows.specs.Counted.{AreCounted, AreFew, most_of_seat, most_of_window}
use Rattle.kw_windows.specs.Prices.{HavePaid, IsPrice}
use Rattle.kw_windows.proofs.Counting.{count_left_out, count_picked_out}
use Rattle.kw_windows.proofs.Summing.{sum_most}
use Rattle.kw_windows.proofs.Building.{one_build, no_build}
use Rattle.kw_windows.proofs.Keeping.{taken_most}

module _ (z : Limits) (w : Windows) (share price updates : ℕ) where
  -- so many times what a share pays for is paid
  shares_pay : (n : ℕ) → IsPrice z share price → n * share ≤ updates → n * (z.build * (z.leaders + 2)) ≤ price * updates
  shares_pay n enough have = omega (arith, mul-le-mul_left n enough, mul-le-mul_left price have, same)
    where
      same : n * (price * share) ≡ price * (n * share)
      same = grind arith

  -- a row leads, and this window is paid too
  pays_now : AreFew z w → AreCounted z w → IsPrice z share price → (w.wins + 1) * share ≤ updates → taken z w ≤ z.seats * (price * updates)
  pays_now few k enough have = omega (arith, taken_most z w few k, less, swap, mul-le-mul_left z.seats (shares_pay (w.wins + 1) enough have))
    where
      less : z.seats * ((w.wins + 1) * most_of_seat z) ≤ z.seats * ((w.wins + 1) * (z.build * (z.leaders + 2)))
      less =
          let one : z.build * (z.leaders + 1) ≤ z.build * (z.leaders + 2) = mul-le-mul_left z.build (omega arith) in
          mul-le-mul_left z.seats (mul-le-mul_left (w.wins + 1) one)

      swap : (w.wins + 1) * most_of_window z ≡ z.seats * ((w.wins + 1) * most_of_seat z)
      swap = grind arith

  -- none leads, and each seat has built once at most in this window
  pays_over : count_below z.rows w.leads ≡ 0 → 1 ≤ w.wins → AreCounted z w → IsPrice z share price → w.wins * share ≤ updates → taken z w ≤ z.seats * (price * updates)
  pays_over none some k enough have = omega (arith, k.before, here, mul-le-mul_right (z.seats * z.build) some, all, mul-le-mul_left z.seats (shares_pay w.wins enough have))
    where
      here : sum_below z.seats (λ t. (w.seats t).taken) ≤ z.seats * z.build
      here = sum_most z.seats (λ t. (w.seats t).taken) z.build (λ t u. one_build z w (w.seats t) none (k.seats t))

      all : z.seats * (w.wins * (z.build * (z.leaders + 2))) ≡ w.wins * most_of_window z + w.wins * (z.seats * z.build)
      all = grind arith

  -- none leads, and no window is over: none is taken
  pays_first : count_below z.rows w.leads ≡ 0 → w.wins ≡ 0 → AreCounted z w → taken z w ≤ 0
  pays_first none zero k =
      let before : w.wins * most_of_window z ≡ 0 = rw zero (omega arith) in
      omega (arith, k.before, before, sum_most z.seats (λ t. (w.seats t).taken) 0 (λ t u. no_build z w (w.seats t) none (k.first zero t) (k.seats t)))

  pub updates_pay : AreFew z w → AreCounted z w → IsPrice z share price → HavePaid z w share updates → taken z w ≤ z.seats * (price * updates)
  updates_pay few k enough have = leads (cases_lt 0 (count_below z.rows w.leads))
    where
      over : count_below z.rows w.leads ≡ 0 → (0 < w.wins) ⊎ (w.wins ≤ 0) → taken z w ≤ z.seats * (price * updates)
      over none (inl x) = pays_over none (omega (arith, x)) k enough have.over
      over none (inr x) = omega (arith, pays_first none (omega (arith, x)) k)

      leads : (0 < count_below z.rows w.leads) ⊎ (count_below z.rows w.leads ≤ 0) → taken z w ≤ z.seats * (price * updates)
      leads (inl x) =
          let r = count_picked_out z.rows w.leads (omega (arith, x)) in
          pays_now few k enough (have.now r.0 r.1 r.2)
      leads (inr x) = over (omega (arith, x)) (cases_lt 0 w.wins)

  -- so a row is left
  pub row_left : AreFew z w → AreCounted z w → IsPrice z share price → HavePaid z w share updates → z.seats * (price * updates) + 1 < z.rows → (x : ℕ) × (x < z.rows) × (w.used x ≡ false)
  row_left few k enough have room = count_left_out z.rows w.used (omega (arith, k.used, updates_pay few k enough have, room))
