-- What there is while a script runs.
use Rattle.std.specs.Prelude.{ℕ, List, [], unwrap_or, slice_get, slice_set}
use Rattle.kw_model.specs.declared.call.Call.{Call}
use Rattle.kw_order.specs.Trace.{TraceView}

-- the events that were made, the calls that each seat is still to make, and what is printed so far
pub record State : Type 0 where
  pub trace : TraceView
  pub queues : List (List Call)
  pub text : List ℕ

-- the calls that a seat is still to make
abbrev pub queue_of : ℕ → State → List Call
queue_of s st = unwrap_or (slice_get st.queues s) []

-- with other calls for a seat
abbrev pub with_queue : ℕ → List Call → State → State
with_queue s calls st = record st { queues = slice_set st.queues s calls }
