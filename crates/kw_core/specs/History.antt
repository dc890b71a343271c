-- What a list of events did: its log, the puts and deletes that were given a cell, and the calls.
use Rattle.std.specs.Prelude.{ℕ, ◌≡◌, false, Some, None, List, slice_get, get_or}
pub use Rattle.kw_model.specs.declared.call.Call.{Call}
pub use Rattle.kw_model.specs.declared.call.Call.TheVariants.{Put, Del, Get, Scan, Pin, ScanAt, Unpin}
pub use Rattle.kw_model.specs.declared.call.Reply.{Reply}
pub use Rattle.kw_model.specs.declared.call.Reply.TheVariants.{Done, Value, Absent, Pairs, NoRows, Spent, Stopped, Held, NotPinned}
pub use Rattle.kw_words.specs.declared.kind.Kind.{Kind}
pub use Rattle.kw_words.specs.declared.kind.Kind.TheVariants.{LoadEpoch, LoadClock, Draw, HelpDraw}
pub use Rattle.kw_core.specs.declared.history.Logged.{Logged}
pub use Rattle.kw_core.specs.declared.history.Attempt.{Attempt}
pub use Rattle.kw_core.specs.declared.history.End.{End}
pub use Rattle.kw_core.specs.declared.history.Drawn.{Drawn}
pub use Rattle.kw_core.specs.declared.history.CallLog.{CallLog}

-- the events, the attempts and the calls
pub record Record : Type 0 where
  pub log : List Logged
  pub attempts : List Attempt
  pub calls : List CallLog

-- a history is seen as these lists
abbrev pub History : Type 0
History = Record

-- what stands past the end of the attempts: nothing that was announced or stamped
unfoldable pub no_attempt : Attempt
no_attempt = record { call = 0; seat = 0; key = 0; value = None; row = 0; cell = 0; add = 0; is_announced = false; announced = 0; is_stamped = false; version = 0; load = 0; at = 0; is_lost = false }

-- what stands past the end of the calls: nothing that ended or has a put
unfoldable pub no_call : CallLog
no_call = record { seat = 0; number = 0; call = Get 0; first = 0; end = None; put = None; answer = None; draw = None }

-- the attempt of this number, the call of this number
unfoldable pub attempt : History → ℕ → Attempt
attempt h p = get_or h.attempts p no_attempt

-- the call of this number
unfoldable pub called : History → ℕ → CallLog
called h x = get_or h.calls x no_call

-- at this position stands an event of this kind, and the clock was this
pub record Stands (h : History) (x : ℕ) (kind : Kind) (clock : ℕ) : Type 0 where
  pub seat : ℕ
  pub logged : slice_get h.log x ≡ Some (record { seat = seat; kind = kind; clock = clock })
