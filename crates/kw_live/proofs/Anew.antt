-- How a put or a delete begins anew, after a rebalance: it takes its epoch back, loads another one,
-- and announces that.
use Rattle.std.proofs.Common.{◌≡◌, ℕ, true, Option, Some, None, refl, ◌∙◌, ap}
use Rattle.kw_model.specs.declared.call.Call.{Call}
use Rattle.kw_model.specs.declared.call.Call.TheVariants.{Put, Del, Get, Scan, Pin, ScanAt, Unpin}
use Rattle.kw_world.specs.declared.activity.Activity.TheVariants as Activity
use Rattle.kw_world.specs.declared.activity.enter.Enter.TheVariants as Enter
use Rattle.kw_world.specs.declared.activity.walk.Walk.TheVariants as Walk
use Rattle.kw_world.specs.declared.event.Choice.TheVariants.{Go}
use Rattle.kw_world.specs.declared.local.Local.{Local}
use Rattle.kw_world.specs.ScanTransitions.{entered}
use Rattle.kw_core.specs.Stages.{is_put}
use Rattle.kw_puts.proofs.Owners.{true_false}
use Rattle.kw_live.proofs.Drawing.{IsLine, by_transition}

-- the epoch is taken back
pub takes_back : (rows : ℕ) (l m : Local) (told : ℕ) → l.activity ≡ Activity.Retry → IsLine rows Go l m told → m ≡ record l { activity = Activity.Enter Enter.LoadEpoch }
takes_back rows l m told is line = by_transition rows Activity.Retry Go l m told is line

-- the present epoch is loaded
pub loads_anew : (rows : ℕ) (l m : Local) (told : ℕ) → l.activity ≡ Activity.Enter Enter.LoadEpoch → IsLine rows Go l m told → m ≡ record l { epoch = told; activity = Activity.Enter Enter.Announce }
loads_anew rows l m told is line = by_transition rows (Activity.Enter Enter.LoadEpoch) Go l m told is line

-- a put that announces its epoch is to begin its walk
pub starts_anew : (rows : ℕ) (l m : Local) (told : ℕ) → l.activity ≡ Activity.Enter Enter.Announce → is_put l.call ≡ true → IsLine rows Go l m told → m.activity ≡ Activity.Walk Walk.Start
starts_anew rows l m told is put line = ap (λ (k : Local). k.activity) (by_transition rows (Activity.Enter Enter.Announce) Go l m told is line) ∙ starts l.call put
  where
    starts : (call : Option Call) → is_put call ≡ true → (entered call l).local.activity ≡ Activity.Walk Walk.Start
    starts (Some (Put key value)) p = refl
    starts (Some (Del key)) p = refl
    starts (Some (Get key)) p = true_false p refl
    starts (Some (Scan from upto)) p = true_false p refl
    starts (Some Pin) p = true_false p refl
    starts (Some (ScanAt from upto)) p = true_false p refl
    starts (Some Unpin) p = true_false p refl
    starts None p = true_false p refl
