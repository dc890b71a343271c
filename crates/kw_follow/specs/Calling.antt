-- How the calls of a pass go on in what it has seen.
use Rattle.std.specs.Prelude.{◌≡◌, ℕ, ◌<◌, ◌≤◌, List, [], ◌∷◌, ◌++◌, length}
use Rattle.kw_model.specs.declared.call.Call.{Call}
use Rattle.kw_model.specs.declared.call.Reply.{Reply}
use Rattle.kw_world.specs.Sizes.{product}
use Rattle.kw_laws.specs.SeatCalls.{CallSeen, calls_seen, begun_at, ended_at}
use Rattle.kw_table.specs.declared.pass.Pass.{Pass}
use Rattle.kw_table.specs.Passes.{view}

-- the calls of the pass's seat in what it has seen
abbrev pub calls_in : Pass → List CallSeen
calls_in p = calls_seen product (view p).opening (view p).number (view p).seen

-- how many events the pass has seen
abbrev pub now_in : Pass → ℕ
now_in p = length (view p).seen

-- the pass's calls are as they were
abbrev pub KeepsCalls : Pass → Pass → Type 0
KeepsCalls p q = calls_in q ≡ calls_in p

-- a call begins, after what the pass had seen
pub record Opens (p q : Pass) (call : Call) : Type 0 where
  pub first : ℕ
  pub number : ℕ
  pub begins : now_in p ≤ first
  pub calls : calls_in q ≡ calls_in p ++ begun_at first number call ∷ []

-- the last call ends with this reply, within what the pass has now seen
pub record Closes (p q : Pass) (reply : Reply) : Type 0 where
  pub last : ℕ
  pub ends : last < now_in q
  pub calls : (earlier : List CallSeen) (c : CallSeen) → calls_in p ≡ earlier ++ c ∷ [] → calls_in q ≡ earlier ++ ended_at last reply c ∷ []

-- the pass made one whole call, which was its next one, within what it has seen since
pub record Calls (p q : Pass) (call : Call) (reply : Reply) : Type 0 where
  pub first : ℕ
  pub last : ℕ
  pub number : ℕ
  pub begins : now_in p ≤ first
  pub ends : last < now_in q
  pub calls : calls_in q ≡ calls_in p ++ ended_at last reply (begun_at first number call) ∷ []
