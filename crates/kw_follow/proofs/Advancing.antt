-- Events of a rebalance between which code leaves most of its local where it was, one by one.
use Rattle.std.proofs.Common.{◌≡◌, ◌∙◌, ℕ, refl, sym, ap, subst}
use Rattle.kw_world.specs.declared.activity.Activity.{Activity}
use Rattle.kw_world.specs.declared.event.Choice.TheVariants.{Go}
use Rattle.kw_world.specs.declared.local.Local.{Local}
use Rattle.kw_world.specs.Sizes.{product}
use Rattle.kw_world.specs.Step.{next_of}
use Rattle.kw_world.specs.Table.{transition}
use Rattle.kw_world.specs.Transition.{Outcome, outcome}
use Rattle.kw_table.specs.declared.pass.Pass.{Pass}
use Rattle.kw_table.specs.declared.shared.Shared.{Shared}
use Rattle.kw_table.specs.Passes.{Makes}
use Rattle.kw_follow.specs.Following.{Follows}
use Rattle.kw_follow.specs.Reaching.{Advances}
use Rattle.kw_follow.proofs.Carrying.{IsGoingOn}
use Rattle.kw_follow.proofs.OneEvent.{Went, went_held}
use Rattle.kw_follow.proofs.PutEvents.{next_at}
use Rattle.kw_follow.proofs.Reaching.{reaches_by, reaches_none, went_by}

-- nothing has happened yet
pub advances_none : {s : Shared} {p : Pass} {l : Local} → Follows s p l → Advances s p p l
advances_none f = let r = reaches_none f in record { goes = r.goes; follows = r.follows; calls = r.calls; held = refl }

-- the local may be named otherwise
pub advances_as : {s : Shared} {p q : Pass} {l m : Local} → l ≡ m → Advances s p q l → Advances s p q m
advances_as {s} {p} {q} is b = subst (Advances s p q) is b

-- one event is made, and what code then has is what its line says
pub advances_by : {s : Shared} {p q : Pass} {told : ℕ} (a : Activity) (l m : Local) → Follows s p l → l.activity ≡ a → IsGoingOn a → Makes s p Go told q → m ≡ ((transition product a 0 Go l).next s.opening.rows told).local → Advances s p q m
advances_by {s} {p} {q} {told} a l m f is going makes line =
    let x : Outcome = (transition product a 0 Go l).next s.opening.rows told in
    let goes : outcome m x.done ≡ next_of product s.opening.rows Go l told = ap (λ (k : Local). outcome k x.done) line ∙ next_at s.opening.rows a l told is in
    let w : Went s p q Go l m x.done told = went_by l m x.done f makes goes in
    let on : IsGoingOn l.activity = subst IsGoingOn (sym is) going in
    let r = reaches_by w on in
    record { goes = r.goes; follows = r.follows; calls = r.calls; held = went_held w on refl }
