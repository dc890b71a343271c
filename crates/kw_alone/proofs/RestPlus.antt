-- The rest, with that of the walk that is still to begin, falls with each event that is no mark.
use Rattle.std.proofs.Common.{ℕ, ◌≡◌, ◌⊎◌, inl, inr, ◌+◌, ◌*◌, ◌<◌, ◌≤◌, true, false, if◌then◌else◌, arith, refl, sym, ◌∙◌, ap}
use Rattle.std.proofs.lemmas.Bool.{cases_Bool}
use Rattle.kw_rows.specs.Ledger.{Ledger}
use Rattle.kw_world.specs.declared.activity.Activity.{Activity}
use Rattle.kw_world.specs.declared.activity.draw.Draw.TheVariants as Draw
use Rattle.kw_world.specs.declared.activity.enter.Enter.TheVariants as Enter
use Rattle.kw_world.specs.declared.activity.rebalance.Rebalance.TheVariants as Rebalance
use Rattle.kw_world.specs.declared.activity.rebalance.replace.Replace.TheVariants as Replace
use Rattle.kw_world.specs.declared.activity.walk.Walk.TheVariants as Walk
use Rattle.kw_world.specs.declared.event.Choice.{Choice}
use Rattle.kw_world.specs.declared.local.Local.{Local}
use Rattle.kw_world.specs.Sizes.{Sizes}
use Rattle.kw_core.specs.Words.{Words}
use Rattle.kw_core.proofs.Arrows.{Arrow, builds, begins, enters, enters_scan, is_spent, waits, stores_waiting, draws, settles_empty, settles, starts_at_head, guesses, guess_fails, retries, enters_again, asks_of_pin, settles_pin, stores_pin}
use Rattle.kw_core.proofs.Building.{Building, IsBuilding, makes_normal, makes_last_normal, draws_number, retires_ahead, retires_row, retires_and_leaves}
use Rattle.kw_core.specs.Stages.{IsBalancing}
use Rattle.kw_alone.specs.Fair.{IsFair, IsStart}
use Rattle.kw_alone.specs.Falls.{Most, most_rest}
use Rattle.kw_alone.specs.Rest.{rest}
use Rattle.kw_alone.specs.Steady.{IsLed, IsOnWay}
use Rattle.kw_alone.specs.Wins as wins
use Rattle.kw_alone.specs.Wins.{rest_plus}
use Rattle.kw_puts.proofs.BuiltStages.{of_pin_is}

-- By activity.

-- a fair seat has begun its walk
pub fair_begun : (v : Words) (g : Ledger) (a : Activity) (l : Local) → IsFair v g a l → wins.begins a ≡ false
fair_begun v g Activity.Idle l f = absurd f
fair_begun v g (Activity.Enter _) l f = absurd f
fair_begun v g (Activity.Draw _) l f = absurd f
fair_begun v g Activity.Retry l f = absurd f
fair_begun v g (Activity.Rebalance (Rebalance.Replace Replace.Normalise)) l f = absurd f
fair_begun v g (Activity.Rebalance (Rebalance.Replace Replace.Number)) l f = absurd f
fair_begun v g (Activity.Rebalance (Rebalance.Replace Replace.Retire)) l f = absurd f
fair_begun v g (Activity.Rebalance (Rebalance.Replace _)) l f = refl
fair_begun v g (Activity.Rebalance _) l f = refl
fair_begun v g _ l f = refl

-- as long as the walk is still to begin something is left
rest_some : (z : Sizes) (rows : ℕ) (v : Words) (a : Activity) (l : Local) → wins.begins a ≡ true → 1 ≤ rest z rows v a l
rest_some z rows v Activity.Idle l e = omega arith
rest_some z rows v (Activity.Enter Enter.LoadEpoch) l e = omega arith
rest_some z rows v (Activity.Enter Enter.Announce) l e = omega arith
rest_some z rows v (Activity.Draw Draw.Clock) l e = omega arith
rest_some z rows v (Activity.Draw Draw.Wait) l e = omega arith
rest_some z rows v (Activity.Draw Draw.Version) l e = omega arith
rest_some z rows v (Activity.Draw Draw.Settle) l e = omega arith
rest_some z rows v (Activity.Draw Draw.Pin) l e = omega arith
rest_some z rows v Activity.Retry l e = omega arith
rest_some z rows v (Activity.Rebalance (Rebalance.Replace Replace.Normalise)) l e = omega arith
rest_some z rows v (Activity.Rebalance (Rebalance.Replace Replace.Number)) l e = omega arith
rest_some z rows v (Activity.Rebalance (Rebalance.Replace Replace.Retire)) l e = omega arith
rest_some z rows v (Activity.Rebalance (Rebalance.Replace _)) l e = absurd (cc)
rest_some z rows v (Activity.Rebalance _) l e = absurd (cc)
rest_some z rows v _ l e = absurd (cc)

-- The sum.

module _ (z : Sizes) (rows : ℕ) (v : Words) (a : Activity) (l : Local) where
  plus_begins : wins.begins a ≡ true → rest_plus z rows v a l ≡ most_rest z rows + rest z rows v a l
  plus_begins e = ap (λ b. if b then most_rest z rows + rest z rows v a l else rest z rows v a l) e

  plus_begun : wins.begins a ≡ false → rest_plus z rows v a l ≡ rest z rows v a l
  plus_begun e = ap (λ b. if b then most_rest z rows + rest z rows v a l else rest z rows v a l) e

  -- it has a bound, where the rest has one
  pub plus_most : Most z rows v a l → rest_plus z rows v a l ≤ 2 * most_rest z rows
  plus_most m = which (cases_Bool (wins.begins a))
    where
      which : (wins.begins a ≡ true) ⊎ (wins.begins a ≡ false) → rest_plus z rows v a l ≤ 2 * most_rest z rows
      which (inl e) = omega (arith, plus_begins e, m)
      which (inr e) = omega (arith, plus_begun e, m)

module _ (z : Sizes) (rows : ℕ) (v v' : Words) (a : Activity) (l l' : Local) where
  -- it falls where the rest does, unless a walk is to begin that was not
  pub plus_falls : (wins.begins a ≡ false → wins.begins l'.activity ≡ false) → rest z rows v' l'.activity l' < rest z rows v a l → rest_plus z rows v' l'.activity l' < rest_plus z rows v a l
  plus_falls f less = which (cases_Bool (wins.begins a)) (cases_Bool (wins.begins l'.activity))
    where
      which : (wins.begins a ≡ true) ⊎ (wins.begins a ≡ false) → (wins.begins l'.activity ≡ true) ⊎ (wins.begins l'.activity ≡ false) → rest_plus z rows v' l'.activity l' < rest_plus z rows v a l
      which (inl e) (inl g) = omega (arith, plus_begins z rows v a l e, plus_begins z rows v' l'.activity l' g, less)
      which (inl e) (inr g) = omega (arith, plus_begins z rows v a l e, plus_begun z rows v' l'.activity l' g, less)
      which (inr e) (inr g) = omega (arith, plus_begun z rows v a l e, plus_begun z rows v' l'.activity l' g, less)
      which (inr e) (inl g) = let y : true ≡ false = sym g ∙ f e in absurd (cc)

  -- and where the walk begins
  pub plus_starts : wins.begins a ≡ true → l'.activity ≡ Activity.Walk Walk.Start → rest_plus z rows v' l'.activity l' < rest_plus z rows v a l
  plus_starts e g =
      let here : rest_plus z rows v' l'.activity l' ≡ most_rest z rows = ap (λ b. rest_plus z rows v' b l') g in
      omega (arith, here, plus_begins z rows v a l e, rest_some z rows v a l e)

-- Where the walk is still to begin.

-- the seat comes nearer to it, or to the end of its call
pub begun_on : (z : Sizes) (v : Words) (s : ℕ) (choice : Choice) (l : Local) (a : Activity) (k : Local) → Arrow z v s choice l a k → wins.begins a ≡ true → (v' : Words) (g' : Ledger) → IsOnWay v' g' k.activity k × IsLed v' g' k.activity k
begun_on z v s choice l a k (builds b m y t) e v' g' = by b k t e
  where
    by : (c : Activity) (n : Local) → Building z v choice l c n → wins.begins c ≡ true → IsOnWay v' g' n.activity n × IsLed v' g' n.activity n
    by c n (makes_normal o) e = (inl refl, tt)
    by c n (makes_last_normal o) e = (inl refl, tt)
    by c n draws_number e = (inl refl, tt)
    by c n (retires_ahead q f) e = (inl refl, tt)
    by c n (retires_row f u) e = (inl refl, tt)
    by c n (retires_and_leaves f u) e = (inr (inr tt), tt)
    by c n _ e = absurd (cc)
begun_on z v s choice l a k (begins call c b) e v' g' = (inl refl, tt)
begun_on z v s choice l a k (enters c) e v' g' = (inr (inl tt), tt)
begun_on z v s choice l a k (enters_scan c) e v' g' = (inl refl, tt)
begun_on z v s choice l a k (asks_of_pin next o n) e v' g' = of_pin_is (λ b. IsOnWay v' g' b next × IsLed v' g' b next) (inl refl, tt) (inr (inr tt), tt) (inr (inr tt), tt) (inr (inr tt), tt) (inr (inl tt), tt) (inr (inr tt), tt) n
begun_on z v s choice l a k (is_spent o) e v' g' = (inr (inr tt), tt)
begun_on z v s choice l a k (waits o) e v' g' = (inl refl, tt)
begun_on z v s choice l a k stores_waiting e v' g' = (inl refl, tt)
begun_on z v s choice l a k draws e v' g' = (inl refl, tt)
begun_on z v s choice l a k (settles_empty c) e v' g' = (inr (inr tt), tt)
begun_on z v s choice l a k (settles c) e v' g' = (inr (inl tt), tt)
begun_on z v s choice l a k (settles_pin c) e v' g' = (inl refl, tt)
begun_on z v s choice l a k stores_pin e v' g' = (inr (inr tt), tt)
begun_on z v s choice l a k retries e v' g' = (inl refl, tt)
begun_on z v s choice l a k enters_again e v' g' = (inl refl, tt)
begun_on z v s choice l a k _ e v' g' = absurd (cc)

-- it does not move there
pub begun_stays : (z : Sizes) (v : Words) (s : ℕ) (choice : Choice) (l : Local) (a : Activity) (k : Local) → Arrow z v s choice l a k → wins.begins a ≡ true → IsBalancing k.activity → wins.begins k.activity ≡ true
begun_stays z v s choice l a k (builds b m y t) e d = by b k t e d
  where
    by : (c : Activity) (n : Local) → Building z v choice l c n → wins.begins c ≡ true → IsBalancing n.activity → wins.begins n.activity ≡ true
    by c n (makes_normal o) e d = refl
    by c n (makes_last_normal o) e d = refl
    by c n draws_number e d = refl
    by c n (retires_ahead q f) e d = refl
    by c n (retires_row f u) e d = absurd d
    by c n (retires_and_leaves f u) e d = absurd d
    by c n _ e d = absurd (cc)
begun_stays z v s choice l a k (begins call c b) e d = absurd d
begun_stays z v s choice l a k (enters c) e d = absurd d
begun_stays z v s choice l a k (enters_scan c) e d = absurd d
begun_stays z v s choice l a k (asks_of_pin next o n) e d = of_pin_is (λ b. IsBalancing b → wins.begins b ≡ true) (λ y. absurd y) (λ y. absurd y) (λ y. absurd y) (λ y. absurd y) (λ y. absurd y) (λ y. absurd y) n d
begun_stays z v s choice l a k (is_spent o) e d = absurd d
begun_stays z v s choice l a k (waits o) e d = absurd d
begun_stays z v s choice l a k stores_waiting e d = absurd d
begun_stays z v s choice l a k draws e d = absurd d
begun_stays z v s choice l a k (settles_empty c) e d = absurd d
begun_stays z v s choice l a k (settles c) e d = absurd d
begun_stays z v s choice l a k (settles_pin c) e d = absurd d
begun_stays z v s choice l a k stores_pin e d = absurd d
begun_stays z v s choice l a k retries e d = absurd d
begun_stays z v s choice l a k enters_again e d = absurd d
begun_stays z v s choice l a k _ e d = absurd (cc)

-- from its beginning on the seat knows no row before
start_not_built : (a : Activity) → IsBuilding a → IsStart a → ⊥
start_not_built (Activity.Rebalance _) y x = x
start_not_built _ y x = y

pub start_led : (z : Sizes) (v : Words) (s : ℕ) (choice : Choice) (l : Local) (a : Activity) (k : Local) → Arrow z v s choice l a k → IsStart a → (v' : Words) (g' : Ledger) → IsLed v' g' k.activity k
start_led z v s choice l a k (builds b m y t) x v' g' = absurd (start_not_built b y x)
start_led z v s choice l a k starts_at_head x v' g' = tt
start_led z v s choice l a k (guesses q c e) x v' g' = tt
start_led z v s choice l a k guess_fails x v' g' = tt
start_led z v s choice l a k _ x v' g' = absurd x

-- and rebalances none
pub start_walks : (a : Activity) → IsStart a → IsBalancing a → ⊥
start_walks (Activity.Walk Walk.Start) x b = b
start_walks _ x b = x
