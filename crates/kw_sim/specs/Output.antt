-- What a script's bytes print.
use Rattle.std.specs.Prelude.{ℕ, ◌≡◌, List, ◌++◌}
use Rattle.kw_order.specs.declared.points.CallName.{CallName}
use Rattle.kw_order.specs.Order.{IsOrder}
use Rattle.kw_order.specs.Legal.{IsLegalOrder}
use Rattle.kw_order.specs.OrderLaws.{OrderLaws}
use Rattle.kw_order.specs.Points.{AreNames}
use Rattle.kw_order.specs.Trace.{history_of}
use Rattle.kw_sim.specs.declared.command.Command.{Command}
use Rattle.kw_sim.specs.Script.{AreLinesOf}
use Rattle.kw_sim.specs.Printed.{order_line}
use Rattle.kw_sim.specs.State.{State}
use Rattle.kw_sim.specs.Meaning.{script_state}

-- the bytes are what was printed, and then the names of the calls in their order: the only order of
-- these calls. It is legal: the calls, asked one after the other in it of the empty map of one
-- thread, have the replies that they had; and it keeps precedence
pub record IsOutputAt (st : State) (bytes : List ℕ) : Type 0 where
  pub names : List CallName
  pub are_names : AreNames (history_of st.trace) names
  pub one : (xs : List ℕ) → IsOrder (history_of st.trace) xs → xs ≡ are_names.order
  pub legal : IsLegalOrder (history_of st.trace) are_names.order
  pub laws : OrderLaws (history_of st.trace) are_names.order
  pub bytes_are : bytes ≡ st.text ++ order_line names

-- the bytes are what the commands print whose texts are the lines of the script, and then the order
-- of the calls
pub record IsOutputOf (rows : ℕ) (script bytes : List ℕ) : Type 0 where
  pub commands : List Command
  pub lines : AreLinesOf rows script commands
  pub output : IsOutputAt (script_state rows commands) bytes

-- the state is what the commands lead to whose texts are the lines of the script
pub record IsStateOf (rows : ℕ) (script : List ℕ) (st : State) : Type 0 where
  pub commands : List Command
  pub lines : AreLinesOf rows script commands
  pub is : st ≡ script_state rows commands
