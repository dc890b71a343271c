-- How the prices compare that go by a test, by a state or by what comes after the row at hand.
use Rattle.std.proofs.Common.{ℕ, ◌≡◌, ◌+◌, ◌*◌, ◌<◌, ◌≤◌, ◌==◌, if◌then◌else◌, Bool, true, false, Option, Some, None, arith, refl, ap}
use Rattle.std.proofs.Math.Nat.{mul-le-mul_right}
use Rattle.kw_words.specs.declared.state.State.{State}
use Rattle.kw_words.specs.declared.state.State.TheVariants as state
use Rattle.kw_model.specs.declared.call.Call.{Call}
use Rattle.kw_model.specs.declared.call.Call.TheVariants.{Put, Del, Get, Scan, Pin, ScanAt, Unpin}
use Rattle.kw_world.specs.declared.local.Local.{Local}
use Rattle.kw_world.specs.Calls.{is_scan}
use Rattle.kw_world.specs.Sizes.{Sizes}
use Rattle.kw_core.specs.Stages.{is_put}
use Rattle.kw_core.specs.Words.{Words}
use Rattle.kw_alone.specs.Prices.{look_price, put_price, start_price, ahead_price, row_freeze_price, rows_left}
use Rattle.kw_alone.specs.Rest.{up, state_price, infant_price, after_row, walk_price}
use Rattle.kw_alone.proofs.Counting.{most_up}

-- States.

pub state_most : (x : Option State) → state_price x ≤ 4
state_most (Some (state.Infant seat)) = omega arith
state_most (Some state.Normal) = omega arith
state_most (Some state.Free) = omega arith
state_most (Some (state.Leader n)) = omega arith
state_most (Some (state.Follower r)) = omega arith
state_most (Some (state.Retired n)) = omega arith
state_most None = omega arith

pub infant_most : (x : Option State) → infant_price x ≤ 2
infant_most (Some (state.Infant seat)) = omega arith
infant_most (Some state.Normal) = omega arith
infant_most (Some state.Free) = omega arith
infant_most (Some (state.Leader n)) = omega arith
infant_most (Some (state.Follower r)) = omega arith
infant_most (Some (state.Retired n)) = omega arith
infant_most None = omega arith

-- The rows of a group.

pub left_most : (x : Option ℕ) → rows_left x ≤ 1
left_most (Some r) = omega arith
left_most None = omega arith

pub ahead_most : (z : Sizes) (x : Option ℕ) → ahead_price z x ≤ row_freeze_price z
ahead_most z (Some r) = omega arith
ahead_most z None = omega arith

-- Calls.

-- a scan is no put
pub not_put : (call : Option Call) → is_scan call ≡ true → is_put call ≡ false
not_put (Some (Put k x)) e = absurd (cc e)
not_put (Some (Del k)) e = absurd (cc e)
not_put (Some (Get k)) e = refl
not_put (Some (Scan b c)) e = refl
not_put (Some Pin) e = refl
not_put (Some (ScanAt b c)) e = refl
not_put (Some Unpin) e = refl
not_put None e = refl

-- the price of a lost exchange goes by the word of the link
pub same_lost : (x y w p : ℕ) → x ≡ y → (if x == w then 0 else p) ≡ (if y == w then 0 else p)
same_lost x y w p e = ap (λ u. if u == w then 0 else p) e

module _ (z : Sizes) (rows : ℕ) (v : Words) where
  pub after_some : (m : Local) → 1 ≤ after_row z rows v m
  after_some m = met (is_scan m.call)
    where
      met : (b : Bool) → 1 ≤ (if b then up v rows m.lower * look_price z + 2 else 1)
      met true = omega arith
      met false = omega arith

  pub after_most : (m : Local) → after_row z rows v m ≤ up v rows m.lower * look_price z + 2
  after_most m = met (is_scan m.call)
    where
      met : (b : Bool) → (if b then up v rows m.lower * look_price z + 2 else 1) ≤ up v rows m.lower * look_price z + 2
      met true = omega arith
      met false = omega arith

  pub put_walks : (l : Local) → is_put l.call ≡ true → walk_price z rows v l ≡ 2 * up v rows l.lower + 1 + put_price z rows
  put_walks l e = rw e refl

  pub reader_walks : (l : Local) → is_put l.call ≡ false → walk_price z rows v l ≡ up v rows l.lower * look_price z + 1 + look_price z
  reader_walks l e = rw e refl

  pub walk_some : (l : Local) → 1 ≤ walk_price z rows v l
  walk_some l = met (is_put l.call)
    where
      met : (b : Bool) → 1 ≤ (if b then 2 * up v rows l.lower + 1 + put_price z rows else up v rows l.lower * look_price z + 1 + look_price z)
      met true = omega arith
      met false = omega arith

  -- a walk from any row costs no more than from the beginning
  pub walk_most : (m : Local) → walk_price z rows v m + 1 < start_price z rows
  walk_most m = met (is_put m.call)
    where
      u : up v rows m.lower ≤ rows
      u = most_up v rows m.lower

      met : (b : Bool) → (if b then 2 * up v rows m.lower + 1 + put_price z rows else up v rows m.lower * look_price z + 1 + look_price z) + 1 < start_price z rows
      met true = omega (arith, u)
      met false = omega (arith, mul-le-mul_right (look_price z) u)

-- where the least keys stay, so do the prices that count rows
module _ (z : Sizes) (rows : ℕ) (v v' : Words) (ups : (b : ℕ) → up v' rows b ≡ up v rows b) where
  pub after_same : (m : Local) → after_row z rows v' m ≡ after_row z rows v m
  after_same m = met (is_scan m.call)
    where
      met : (b : Bool) → (if b then up v' rows m.lower * look_price z + 2 else 1) ≡ (if b then up v rows m.lower * look_price z + 2 else 1)
      met true = ap (λ x. x * look_price z + 2) (ups m.lower)
      met false = refl

  pub walk_same : (m : Local) → walk_price z rows v' m ≡ walk_price z rows v m
  walk_same m = met (is_put m.call)
    where
      met : (b : Bool) → (if b then 2 * up v' rows m.lower + 1 + put_price z rows else up v' rows m.lower * look_price z + 1 + look_price z) ≡ (if b then 2 * up v rows m.lower + 1 + put_price z rows else up v rows m.lower * look_price z + 1 + look_price z)
      met true = ap (λ x. 2 * x + 1 + put_price z rows) (ups m.lower)
      met false = ap (λ x. x * look_price z + 1 + look_price z) (ups m.lower)
