-- What an event adds to the log of its seat, known before the event but for whether the seat goes
-- on to a cell of its row.
use Rattle.std.specs.Prelude.{ℕ, ◌<◌, ◌≤◌, ◌==◌, if◌then◌else◌, None, unwrap_or, [], insert, length}
use Rattle.kw_words.specs.declared.scan.ScanWord.TheVariants.{Waiting}
use Rattle.kw_words.specs.Scan.{scan_word}
use Rattle.kw_words.specs.Count.{count_of}
use Rattle.kw_world.specs.declared.activity.Activity.{Activity}
use Rattle.kw_world.specs.declared.activity.draw.Draw.TheVariants as Draw
use Rattle.kw_world.specs.declared.activity.rebalance.engage.Engage.TheVariants as Engage
use Rattle.kw_world.specs.declared.activity.rebalance.freeze.Freeze.TheVariants as Freeze
use Rattle.kw_world.specs.declared.activity.look.Look.TheVariants as Look
use Rattle.kw_world.specs.declared.activity.put.Put.TheVariants as Put
use Rattle.kw_world.specs.declared.activity.read.Read.TheVariants as Read
use Rattle.kw_world.specs.declared.activity.rebalance.Rebalance.TheVariants as Rebalance
use Rattle.kw_world.specs.declared.local.Local.{Local}
use Rattle.kw_world.specs.declared.event.Choice.{Choice}
use Rattle.kw_world.specs.declared.event.Choice.TheVariants.{Begin, Go, Guess, Stop}
use Rattle.kw_world.specs.Sizes.{Sizes}
use Rattle.kw_world.specs.PutTransitions.{has_room}
use Rattle.kw_core.specs.History.{History}
use Rattle.kw_core.specs.Run.{SeatLog, Origins, log_read, index_gathered}
use Rattle.kw_core.specs.declared.seat_log.Remark.{Remark}
use Rattle.kw_core.specs.declared.seat_log.Remark.TheVariants.{Same, BeginsCall, LooksFirst, LoadsClock, DrawsVersion, ReadsRow, GathersListed, GathersLeftOver, GetsCell}

-- a call begins
abbrev pub remark_begun : Choice → History → Remark
remark_begun (Begin call) h = BeginsCall (length h.calls)
remark_begun Go h = Same
remark_begun (Guess r) h = Same
remark_begun Stop h = Same

-- what the event of an activity adds, where the seat with this choice and local found this word,
-- and the version in the word of its scan was drawn at `settled`
abbrev pub remark_of : Sizes → Activity → Choice → Local → ℕ → Origins → History → ℕ → Remark
remark_of z Activity.Idle choice l found o h settled = remark_begun choice h
remark_of z (Activity.Draw Draw.Clock) choice l found o h settled = LoadsClock (length h.log)
remark_of z (Activity.Draw Draw.Version) choice l found o h settled = DrawsVersion (length h.log)
remark_of z (Activity.Draw Draw.Settle) choice l found o h settled = if found == scan_word (Waiting l.waiting) then Same else DrawsVersion settled
remark_of z (Activity.Look (Look.Entry i)) choice l found o h settled = if i == 0 then LooksFirst (length h.log) else Same
remark_of z (Activity.Look Look.Clock) choice l found o h settled = LoadsClock (length h.log)
remark_of z (Activity.Read Read.Start) choice l found o h settled = ReadsRow l.row
remark_of z (Activity.Read Read.Link) choice l found o h settled = ReadsRow l.row
remark_of z (Activity.Read Read.Key) choice l found o h settled = ReadsRow l.row
remark_of z (Activity.Read Read.Value) choice l found o h settled = GathersListed (unwrap_or (o l.row l.place) 0) (index_gathered l found)
remark_of z (Activity.Read Read.LeftOverKey) choice l found o h settled = ReadsRow l.row
remark_of z (Activity.Read Read.LeftOverValue) choice l found o h settled = GathersLeftOver (unwrap_or (o l.row l.place) 0) (index_gathered l found) l.row
remark_of z (Activity.Put Put.Add) choice l found o h settled = if has_room z (count_of found) then GetsCell (length h.attempts) else Same
remark_of z (Activity.Put Put.Clock) choice l found o h settled = LoadsClock (length h.log)
remark_of z (Activity.Rebalance (Rebalance.Engage Engage.Clock)) choice l found o h settled = LoadsClock (length h.log)
remark_of z (Activity.Rebalance (Rebalance.Freeze (Freeze.Draw i))) choice l found o h settled = DrawsVersion (length h.log)
remark_of z _ choice l found o h settled = Same

-- the log with what an event adds after which the seat goes on to the activity `next`
abbrev pub remarked : Remark → Activity → SeatLog → SeatLog
remarked Same next g = g
remarked (BeginsCall x) next g = record g { call = x; own = 0; ids = []; read = None }
remarked (LooksFirst at) next g = record g { looked = at; ids = []; read = None }
remarked (LoadsClock at) next g = record g { loaded = at }
remarked (DrawsVersion at) next g = record g { drawn = at }
remarked (ReadsRow row) next g = log_read next row g
remarked (GathersListed p at) next g = record g { ids = insert g.ids at p }
remarked (GathersLeftOver p at row) next g = log_read next row (record g { ids = insert g.ids at p })
remarked (GetsCell p) next g = record g { own = p }

-- the log has room for one more gathered cell at its place, where there is one
abbrev pub HasRoomFor : ℕ → Remark → SeatLog → Type 0
HasRoomFor cells (GathersListed p at) g = (length g.ids < cells) × (at ≤ length g.ids)
HasRoomFor cells (GathersLeftOver p at row) g = (length g.ids < cells) × (at ≤ length g.ids)
HasRoomFor cells _ g = Unit {0}
