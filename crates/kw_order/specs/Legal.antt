-- The calls of an order with their seats and their replies.
use Rattle.std.specs.Prelude.{ℕ, Option, Some, None, List, map}
use Rattle.kw_model.specs.Snapshots.{empty}
use Rattle.kw_model.specs.LegalFor.{IsLegalFor}
use Rattle.kw_core.specs.History.{History, called, Call, Reply, Done}
use Rattle.kw_core.specs.declared.history.End.{End}

-- what the call was answered: a call that has not ended counts as done
abbrev pub reply_or_done : Option End → Reply
reply_or_done None = Done
reply_or_done (Some e) = e.reply

-- the reply of a call
abbrev pub reply_of : History → ℕ → Reply
reply_of h x = reply_or_done (called h x).end

-- what was asked
abbrev pub call_of : History → ℕ → Call
call_of h x = (called h x).call

-- who asked
abbrev pub seat_of : History → ℕ → ℕ
seat_of h x = (called h x).seat

-- the calls, each asked by its seat in this order of the empty map of one thread, where nobody
-- holds a snapshot, have the replies that they had
abbrev pub IsLegalOrder : History → List ℕ → Type 0
IsLegalOrder h xs = IsLegalFor empty (map (seat_of h) xs) (map (call_of h) xs) (map (reply_of h) xs)
