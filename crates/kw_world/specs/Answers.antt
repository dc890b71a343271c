-- What a call is about to answer, and the reply that it makes with the pairs that the seat has.
use Rattle.std.specs.Prelude.{ℕ, Option, Some, None, List}
use Rattle.kw_model.specs.declared.call.Reply.{Reply}
use Rattle.kw_model.specs.declared.call.Reply.TheVariants as reply
use Rattle.kw_world.specs.declared.answer.Answer.{Answer}
use Rattle.kw_world.specs.declared.answer.Answer.TheVariants.{Done, Value, Absent, Pairs, NoRows, Spent, Stopped, Held, NotPinned}

-- what a value, or none, is answered as
abbrev pub answer_found : Option ℕ → Answer
answer_found (Some value) = Value value
answer_found None = Absent

-- the reply that an answer makes with these pairs
abbrev pub reply_of : Answer → List (ℕ × ℕ) → Reply
reply_of Done pairs = reply.Done
reply_of (Value value) pairs = reply.Value value
reply_of Absent pairs = reply.Absent
reply_of Pairs pairs = reply.Pairs pairs
reply_of NoRows pairs = reply.NoRows
reply_of Spent pairs = reply.Spent
reply_of Stopped pairs = reply.Stopped
reply_of Held pairs = reply.Held
reply_of NotPinned pairs = reply.NotPinned
