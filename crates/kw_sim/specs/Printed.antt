-- What is printed of a script: a line for each call that ends, a line where a kind of event did not
-- come, and the order of the calls.
use Rattle.std.specs.Prelude.{ℕ, List, [], ◌∷◌, ◌++◌, map, codes}
use Rattle.kw_model.specs.declared.call.Call.{Call}
use Rattle.kw_model.specs.declared.call.Reply.{Reply}
use Rattle.kw_world.specs.declared.event.StepDone.{StepDone}
use Rattle.kw_world.specs.declared.event.StepDone.TheVariants.{Moved, Ended, Skipped}
use Rattle.kw_line.specs.declared.words.TheConstants.{LINE_FEED, SPACE}
use Rattle.kw_order.specs.declared.points.CallName.{CallName}
use Rattle.kw_judge.specs.declared.record.Name.{Name}
use Rattle.kw_judge.specs.declared.print.TheConstants.{COLON}
use Rattle.kw_judge.specs.Texts.{call_text, reply_text, name_text, order_text}

-- the line of a call that has ended: its name, the call as a script has it, and its reply
abbrev pub ended_line : ℕ → ℕ → Call → Reply → List ℕ
ended_line seat number call reply = name_text (record { seat = seat; number = number }) ++ SPACE ∷ call_text call ++ COLON ∷ SPACE ∷ reply_text reply ++ LINE_FEED ∷ []

-- what an event of a seat prints, where the seat makes this call: a line if the call has ended with
-- it
abbrev pub done_text : ℕ → ℕ → Call → StepDone → List ℕ
done_text seat number call Moved = []
done_text seat number call (Ended reply) = ended_line seat number call reply
done_text seat number call Skipped = []

-- the line that says that no event of the kind was made
abbrev pub missed_line : List ℕ
missed_line = codes "missed" ++ LINE_FEED ∷ []

-- the name of a call, as a record has it
abbrev pub judged : CallName → Name
judged name = record { seat = name.seat; number = name.number }

-- the line that says in which order these calls stand
abbrev pub order_line : List CallName → List ℕ
order_line names = order_text (map judged names) ++ LINE_FEED ∷ []
