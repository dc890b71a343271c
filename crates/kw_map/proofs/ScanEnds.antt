-- Where a scan stands once it has entered.
use Rattle.std.proofs.Common.{ℕ, ◌≡◌, ◌≤◌, Option, Some, inl, inr, refl, sym, ap, ◌∙◌, subst, slice_get}
use Rattle.kw_model.specs.declared.call.Call.TheVariants.{Scan}
use Rattle.kw_world.specs.declared.answer.Answer.{Answer}
use Rattle.kw_world.specs.declared.answer.Answer.TheVariants as answer
use Rattle.kw_world.specs.declared.activity.Activity.{Activity}
use Rattle.kw_world.specs.declared.activity.walk.Walk.TheVariants as Walk
use Rattle.kw_world.specs.declared.local.Local.{Local}
use Rattle.kw_world.specs.Calls.{first_key, is_scan}
use Rattle.kw_world.specs.Sizes.{product}
use Rattle.kw_world.specs.WorldView.{WorldView}
use Rattle.kw_core.specs.Run.{history}
use Rattle.kw_core.specs.Stages.{IsCovering, is_walking}
use Rattle.kw_laws.proofs.LawProofs.{laws_hold}
use Rattle.kw_core.proofs.Runs.{history-world}
use Rattle.kw_shape.proofs.Worlds.{world-local}
use Rattle.kw_table.specs.declared.pass.Pass.{Pass}
use Rattle.kw_table.specs.declared.shared.Shared.{Shared}
use Rattle.kw_table.specs.Passes.{view}
use Rattle.kw_table.specs.Views.{local_in}
use Rattle.kw_follow.specs.Following.{Follows}
use Rattle.kw_live.specs.Stages.{HasEntered}
use Rattle.kw_follow.proofs.Fronts.{seat_within}
use Rattle.kw_map.specs.Gather.{IsBelow}
use Rattle.kw_map.specs.Scanning.{IsBetween}
use Rattle.kw_map.proofs.TakeLemmas.{IsBelow-le}

-- A scan that has entered.

-- what the seat of a pass knows is among the locals of the world
pass_local : (p : Pass) → slice_get (history product (view p).opening (view p).seen).world.locals (view p).number ≡ Some (local_in (view p))
pass_local p =
    ap (λ (w : WorldView). slice_get w.locals (view p).number) (history-world product (view p).opening (view p).seen)
    ∙ world-local product (view p).opening (view p).seen (view p).number (seat_within p)

-- a scan that is to begin its walk wants no key below its range
wants_from : (s : Shared) (p : Pass) (l : Local) (from upto : ℕ) → Follows s p l → l.call ≡ Some (Scan from upto) → l.activity ≡ Activity.Walk Walk.Start → from ≤ l.want
wants_from s p l from upto f call start =
    let k : Local = local_in (view p) in
    let asks : k.call ≡ Some (Scan from upto) = sym (ap (λ (x : Local). x.call) f.carries) ∙ call in
    let at : k.activity ≡ (Activity.Walk Walk.Start) = sym (ap (λ (x : Local). x.activity) f.carries) ∙ start in
    let wants : l.want ≡ k.want = ap (λ (x : Local). x.want) f.carries in
    let below = (laws_hold product (view p).opening p.known.opens (view p).seen p.known.valid).below (view p).number k (pass_local p) (ap is_scan asks) (subst IsCovering (sym at) tt) in
    let least : from ≤ k.want = subst (λ x. first_key x ≤ k.want) asks below.from in
    subst (λ x. from ≤ x) (sym wants) least

-- a scan that has entered, and does not leave, is between rows
pub entered_between : {S : Type 0} (last : S → Option ℕ) (into : S) (s : Shared) (p : Pass) (l : Local) (from upto : ℕ) → Follows s p l → l.call ≡ Some (Scan from upto) → HasEntered (Scan from upto) l.activity →
    ((x : Answer) → l.activity ≡ Activity.Leave x → ⊥) → IsBelow (last into) from → IsBetween last into l
entered_between {S} last into s p l from upto f call entered stays above = saw l.activity refl entered
  where
    saw : (a : Activity) → l.activity ≡ a → HasEntered (Scan from upto) a → IsBetween last into l
    saw (Activity.Walk Walk.Start) is h = inl (ap is_walking is, IsBelow-le (last into) from l.want (wants_from s p l from upto f call is) above)
    saw (Activity.EndScan answer.Pairs) is h = inr is
    saw (Activity.Leave r) is h = absurd (stays r is)
    saw _ is h = absurd h

-- one that leaves has found the versions spent
pub entered_spent : (from upto : ℕ) (l : Local) (r : Answer) → l.activity ≡ Activity.Leave r → HasEntered (Scan from upto) l.activity → l.activity ≡ Activity.Leave answer.Spent
entered_spent from upto l r is entered = is ∙ ap Activity.Leave (saw r (subst (HasEntered (Scan from upto)) is entered))
  where
    saw : (x : Answer) → HasEntered (Scan from upto) (Activity.Leave x) → x ≡ answer.Spent
    saw answer.Spent h = refl
    saw _ h = absurd h
