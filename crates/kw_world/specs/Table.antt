-- The table of events.
--
-- One line for each activity of a seat, in the order in which a call goes through them. A line says
-- which kind of event it is, which word it acts on, what it does to that word, and what follows
-- from what the operation tells the seat: the word that was found, and nothing for a store. A line
-- is a `Transition`; a row is always one of the map's. Whatever a line needs beyond that has a name
-- of its own, in the file of its section: ScanTransitions for the beginning of a call and a scan's
-- version, WalkTransitions for the walk, ReadTransitions for reading a row, PutTransitions for
-- putting, ListTransitions for a walk along a row's list, and for inserting the cell of a put
-- there. A rebalance has EngageTransitions for its beginning, ClaimTransitions for the row that
-- goes along, LeftTransitions for the way from a follower to its leader, FreezeTransitions for the
-- entries of its rows and the scans, TakeTransitions for their cells, SeekTransitions for free
-- rows, WriteTransitions for new rows, and ReplaceTransitions for the exchange of the one for the
-- others; GroupPlaces has the rows of its group. A put that sees a full row comes to it
-- (`to_rebalance`).
--
-- Three steps of a call have no event, and so no line: the arrival at the row of the wanted key
-- (`arrive`), the end of a row's cells (`row_read`, which `to_left_over` goes on to after the last
-- one), and the arrival at a full row (`to_rebalance`). They are passed through in what follows
-- from the event before them.
--
-- `transition` is by cases on the activity alone, so that each line computes for every choice and
-- every local. What a choice decides is given to a definition by cases on the choice (`begun`,
-- `start_transition`, `walk_transition`, `answer_or_stopped`, `seek_first_transition`,
-- `left_transition`, `before_transition`), or on the cell that it guesses (`begins_list`). The
-- sizes come first. The number of rows is not among them: which operation a line makes does not
-- depend on it, since `offered` has taken every guess at a row that does not exist for `Go` before
-- an event comes here. It is given to what follows, where a search along the table ends with its
-- last row (`at_rows`); every other line leaves it out (`at`).
use Rattle.std.specs.Prelude.{ℕ, None}
use Rattle.kw_words.specs.declared.layout.Name.TheVariants.{Epoch, Pass, Scan, Pin}
use Rattle.kw_words.specs.declared.kind.Kind.TheVariants as kind
use Rattle.kw_words.specs.declared.scan.ScanWord.TheVariants.{Quiet}
use Rattle.kw_words.specs.Scan.{scan_word}
use Rattle.kw_words.specs.Plain.{pass_word}
use Rattle.kw_world.specs.declared.activity.Activity.{Activity}
use Rattle.kw_world.specs.declared.answer.Answer.TheVariants.{Done}
use Rattle.kw_world.specs.declared.activity.enter.Enter.TheVariants as Enter
use Rattle.kw_world.specs.declared.activity.rebalance.Rebalance.TheVariants as Rebalance
use Rattle.kw_world.specs.declared.local.Local.{Local}
use Rattle.kw_world.specs.declared.event.Choice.{Choice}
use Rattle.kw_world.specs.declared.operation.Action.TheVariants.{Load, Store}
use Rattle.kw_world.specs.Sizes.{Sizes}
use Rattle.kw_world.specs.Transition.{Transition, at, to, leave, ended}
use Rattle.kw_world.specs.ScanTransitions.{begun, answer_or_stopped}
use Rattle.kw_world.specs.EnterLines.{enter_lines, draw_lines}
use Rattle.kw_world.specs.WalkLines.{walk_lines}
use Rattle.kw_world.specs.ReadLines.{look_lines, read_lines}
use Rattle.kw_world.specs.PutLines.{put_lines, insert_lines}
use Rattle.kw_world.specs.EngageLines.{engage_lines, claim_lines, left_lines}
use Rattle.kw_world.specs.FreezeLines.{freeze_lines}
use Rattle.kw_world.specs.GatherLines.{gather_lines}
use Rattle.kw_world.specs.SeekLines.{seek_lines}
use Rattle.kw_world.specs.WriteLines.{write_lines}
use Rattle.kw_world.specs.ReplaceLines.{replace_lines}

-- the line of an activity, for the seat s with this choice and this local
abbrev pub transition : Sizes → Activity → ℕ → Choice → Local → Transition
-- a call begins
transition z Activity.Idle s choice l = at kind.LoadEpoch Epoch Load (λ e. begun choice e l)
transition z (Activity.Enter a) s choice l = enter_lines z a s choice l
transition z (Activity.Draw a) s choice l = draw_lines z a s choice l
transition z (Activity.Walk a) s choice l = walk_lines z a s choice l
transition z (Activity.Look a) s choice l = look_lines z a s choice l
transition z (Activity.Read a) s choice l = read_lines z a s choice l
-- a scan is over
transition z (Activity.EndScan answer) s choice l = at kind.ClearScan (Scan s) (Store (scan_word Quiet)) (λ _. leave (answer_or_stopped answer choice) l)
-- a pin is taken back
transition z Activity.ClearPin s choice l = at kind.ClearPin (Pin s) (Store (scan_word Quiet)) (λ _. leave Done (record l { pin = None }))
transition z (Activity.Put a) s choice l = put_lines z a s choice l
transition z (Activity.Insert a) s choice l = insert_lines z a s choice l
-- the call ends
transition z (Activity.Leave answer) s choice l = at kind.ClearPass (Pass s) (Store (pass_word None)) (λ _. ended answer l)
-- a put tries again, after a rebalance
transition z Activity.Retry s choice l = at kind.ClearPass (Pass s) (Store (pass_word None)) (λ _. to (Activity.Enter Enter.LoadEpoch) l)
transition z (Activity.Rebalance (Rebalance.Engage a)) s choice l = engage_lines z a s choice l
transition z (Activity.Rebalance (Rebalance.Claim a)) s choice l = claim_lines z a s choice l
transition z (Activity.Rebalance (Rebalance.Left a)) s choice l = left_lines z a s choice l
transition z (Activity.Rebalance (Rebalance.Freeze a)) s choice l = freeze_lines z a s choice l
transition z (Activity.Rebalance (Rebalance.Gather a)) s choice l = gather_lines z a s choice l
transition z (Activity.Rebalance (Rebalance.Seek a)) s choice l = seek_lines z a s choice l
transition z (Activity.Rebalance (Rebalance.Write a)) s choice l = write_lines z a s choice l
transition z (Activity.Rebalance (Rebalance.Replace a)) s choice l = replace_lines z a s choice l
