-- What a scan drew and what a get answered, in the words of the events: the seat's own draw and the
-- settle by which it has its version, with the draw and the settle of the seat that helped it if
-- one did, and the load of the cell whose value is answered: that of the put, or a copy of it.
use Rattle.std.specs.Prelude.{ℕ, ◌≡◌, ◌⊎◌, ◌<◌, Some, List, length, take}
use Rattle.kw_words.specs.declared.kind.Kind.TheVariants as kind
use Rattle.kw_words.specs.declared.layout.Name.TheVariants as name
use Rattle.kw_words.specs.declared.scan.ScanWord.TheVariants.{Waiting, Drawn}
use Rattle.kw_words.specs.Plain.{value_of_word}
use Rattle.kw_words.specs.Scan.{scan_word}
use Rattle.kw_world.specs.declared.activity.Activity.{Activity}
use Rattle.kw_world.specs.declared.activity.draw.Draw.TheVariants as Draw
use Rattle.kw_world.specs.declared.activity.rebalance.freeze.Freeze.TheVariants as Freeze
use Rattle.kw_world.specs.declared.activity.read.Read.TheVariants as Read
use Rattle.kw_world.specs.declared.activity.rebalance.Rebalance.TheVariants as Rebalance
use Rattle.kw_world.specs.declared.event.Event.{Event}
use Rattle.kw_world.specs.declared.opening.Opening.{Opening}
use Rattle.kw_world.specs.declared.operation.Action.TheVariants.{Load, Add, Exchange}
use Rattle.kw_world.specs.declared.operation.Operation.{Operation}
use Rattle.kw_world.specs.Sizes.{Sizes}
use Rattle.kw_core.specs.History.{History, Get, Value, attempt, called}
use Rattle.kw_core.specs.HistoryLaws.{EndsWith}
use Rattle.kw_core.specs.declared.history.End.{End}
use Rattle.kw_core.specs.declared.history.Drawn as drawn
use Rattle.kw_core.specs.Run.{history}
use Rattle.kw_laws.specs.Mirror.{Acts, operation}

-- the exchange by which a seat that waits with this clock settles for a version
abbrev pub settling : ℕ → ℕ → ℕ → Operation
settling seat clock version = operation kind.Settle (name.Scan seat) (Exchange (scan_word (Waiting clock)) (scan_word (Drawn version)))

-- the exchange by which a seat settles for a version the scan of another one, which waits with this
-- clock
abbrev pub helping : ℕ → ℕ → ℕ → Operation
helping seat clock version = operation kind.HelpSettle (name.Scan seat) (Exchange (scan_word (Waiting clock)) (scan_word (Drawn version)))

-- another seat drew this version for the scan of this seat, at this position, and after that,
-- before the last position, it settled the scan, which still waited with this clock
pub record WasHelped (z : Sizes) (o : Opening) (es : List Event) (s clock at version till : ℕ) : Type 0 where
  pub helper : ℕ
  pub draws : Acts z o es at helper (Activity.Rebalance (Rebalance.Freeze (Freeze.Draw s))) (operation kind.HelpDraw name.Clock (Add 1)) version
  pub settle : ℕ
  pub after : at < settle
  pub before : settle < till
  pub settles : Acts z o es settle helper (Activity.Rebalance (Rebalance.Freeze (Freeze.Settle s))) (helping s clock version) (scan_word (Waiting clock))

-- the scan of this seat has its version, which was drawn at this position: the seat drew, and after
-- that an exchange of its entry either won, and left the version that it drew, or found there the
-- version that another seat had drawn for it
pub record HasSettled (z : Sizes) (o : Opening) (es : List Event) (s at version : ℕ) : Type 0 where
  pub draw : ℕ
  pub drew : ℕ
  pub draws : Acts z o es draw s (Activity.Draw Draw.Version) (operation kind.Draw name.Clock (Add 1)) drew
  pub settle : ℕ
  pub after : draw < settle
  pub clock : ℕ
  pub found : ℕ
  pub settles : Acts z o es settle s (Activity.Draw Draw.Settle) (settling s clock drew) found
  pub entry : (draw ≡ at) × (drew ≡ version) × (found ≡ scan_word (Waiting clock)) ⊎ (found ≡ scan_word (Drawn version)) × WasHelped z o es s clock at version settle

-- a reader loads the value of the cell in hand
abbrev pub IsLoadingValue : Activity → Type 0
IsLoadingValue (Activity.Read Read.Value) = Unit {0}
IsLoadingValue (Activity.Read Read.LeftOverValue) = Unit {0}
IsLoadingValue _ = ⊥

-- the seat has read the value of a cell that stood for this attempt then, after the first position
-- and before the last
pub record HasRead (z : Sizes) (o : Opening) (es : List Event) (h : History) (s first last p : ℕ) : Type 0 where
  pub within : p < length h.attempts
  pub at : ℕ
  pub after : first < at
  pub before : at < last
  pub found : ℕ
  pub activity : Activity
  pub loads : IsLoadingValue activity
  pub row : ℕ
  pub cell : ℕ
  pub origin : (history z o (take at es)).origin row cell ≡ Some p
  pub acts : Acts z o es at s activity (operation kind.LoadValue (name.Value row cell) Load) found
  pub value : value_of_word found ≡ (attempt h p).value

-- the put whose value a get answered is one whose cell, or a copy of it, it read within its call
pub record AnswersFrom (z : Sizes) (o : Opening) (es : List Event) (h : History) (x at v : ℕ) : Type 0 where
  pub put : ℕ
  pub answer : (called h x).answer ≡ Some put
  pub shown : (attempt h put).value ≡ Some v
  pub reads : HasRead z o es h (called h x).seat (called h x).first at put

-- the record says of draws and answers what the events say
pub record MirrorsReads (z : Sizes) (o : Opening) (es : List Event) (h : History) : Type 0 where
  -- a scan settled for the version that it ended with, which its own seat drew, or one that helped
  -- it
  pub draws : (x : ℕ) (d : drawn.Drawn) → x < length h.calls → (called h x).draw ≡ Some d → HasSettled z o es (called h x).seat d.at d.version
  -- a call that ended with the answer of an attempt has read the attempt's cell, or a copy of it
  pub answers : (x p : ℕ) (e : End) → x < length h.calls → (called h x).end ≡ Some e → (called h x).answer ≡ Some p → HasRead z o es h (called h x).seat (called h x).first e.at p

-- each get that answered a value has it from a put whose cell it read, or a copy of it
abbrev pub GetsRead : Sizes → Opening → List Event → History → Type 0
GetsRead z o es h = (x key at v : ℕ) → x < length h.calls → EndsWith h x (Get key) at (Value v) → AnswersFrom z o es h x at v
