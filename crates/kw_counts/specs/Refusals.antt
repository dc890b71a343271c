-- Up to when no update is refused, and none tidies: the premise of what is said of leaders and of
-- builds.
use Rattle.std.specs.Prelude.{ℕ, ◌≡◌, ◌<◌, Some, length}
use Rattle.kw_model.specs.declared.call.Call.{Call}
use Rattle.kw_model.specs.declared.call.Call.TheVariants.{Del, Put}
use Rattle.kw_model.specs.declared.call.Reply.{Reply}
use Rattle.kw_model.specs.declared.call.Reply.TheVariants.{NoRows, Spent}
use Rattle.kw_world.specs.Sizes.{Sizes}
use Rattle.kw_core.specs.History.{History, called}
use Rattle.kw_core.specs.declared.history.End.{End}
use Rattle.kw_core.specs.Run.{Run}
use Rattle.kw_full.specs.Shares.{IsUntidied}

-- a put or a delete is refused with this reply
abbrev pub IsRefusal : Call → Reply → Type 0
IsRefusal (Put key value) NoRows = Unit {0}
IsRefusal (Put key value) Spent = Unit {0}
IsRefusal (Del key) NoRows = Unit {0}
IsRefusal (Del key) Spent = Unit {0}
IsRefusal _ _ = ⊥

-- no call has ended so
abbrev pub HasNoRefusal : History → Type 0
HasNoRefusal h = (x : ℕ) (e : End) → x < length h.calls → (called h x).end ≡ Some e → IsRefusal (called h x).call e.reply → ⊥

-- no put and no delete was refused, and none is offered to tidy its row
pub record IsBeforeRefusals (z : Sizes) (r : Run) : Type 0 where
  pub untidied : IsUntidied z r.world
  pub none : HasNoRefusal r.history
