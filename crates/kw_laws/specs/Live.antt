-- Where a seat arrives, the row was in the list while the seat could know of it.
use Rattle.std.specs.Prelude.{ℕ, ◌≡◌, ◌≤◌, true, false, Some, List, length, slice_get, take}
use Rattle.kw_words.specs.declared.kind.Kind.TheVariants as kind
use Rattle.kw_words.specs.declared.layout.Name.TheVariants as name
use Rattle.kw_words.specs.Plain.{pass_word}
use Rattle.kw_world.specs.declared.activity.Activity.TheVariants as Activity
use Rattle.kw_world.specs.declared.activity.draw.Draw.TheVariants as Draw
use Rattle.kw_world.specs.declared.activity.enter.Enter.TheVariants as Enter
use Rattle.kw_world.specs.declared.event.Event.{Event}
use Rattle.kw_world.specs.declared.local.Local.{Local}
use Rattle.kw_world.specs.declared.opening.Opening.{Opening}
use Rattle.kw_world.specs.declared.operation.Action.TheVariants.{Store, Add}
use Rattle.kw_world.specs.Calls.{is_scan}
use Rattle.kw_world.specs.Sizes.{Sizes}
use Rattle.kw_world.specs.Step.{word}
use Rattle.kw_core.specs.Events.{world}
use Rattle.kw_core.specs.Stages.{IsAtRow}
use Rattle.kw_shape.specs.ReachedRows.{IsReached}
use Rattle.kw_laws.specs.Mirror.{Acts, operation}
use Rattle.kw_laws.specs.MirrorReads.{HasSettled}

-- at some position of the list, not before this one, the row was reached from Head along links
pub record WasReached (z : Sizes) (o : Opening) (es : List Event) (q since : ℕ) : Type 0 where
  pub at : ℕ
  pub not_before : since ≤ at
  pub within : at ≤ length es
  pub saw : IsReached (word z (world z o (take at es))) q

-- at position x the seat announces the epoch of a visit
pub record StoresPass (z : Sizes) (o : Opening) (es : List Event) (x s : ℕ) : Type 0 where
  pub epoch : ℕ
  pub found : ℕ
  pub acts : Acts z o es x s (Activity.Enter Enter.Announce) (operation kind.StorePass (name.Pass s) (Store (pass_word (Some epoch)))) found

-- at position x the seat itself draws a version for its scan; the scan may yet get one that another
-- seat draws for it
pub record DrawsHere (z : Sizes) (o : Opening) (es : List Event) (x s : ℕ) : Type 0 where
  pub version : ℕ
  pub acts : Acts z o es x s (Activity.Draw Draw.Version) (operation kind.Draw name.Clock (Add 1)) version

-- the row at which a put, a delete or a get has arrived was reached from Head along links at some
-- position not before the one at which the seat stored its pass word. The row that a scan reads was
-- reached so at some position not before the draw whose version went into the word of the scan, be
-- it the seat's own or that of a seat which helped it; and not before the seat's own draw
pub record IsLiveRow (z : Sizes) (o : Opening) (es : List Event) (t : ℕ) (l : Local) : Type 0 where
  pub visited : is_scan l.call ≡ false → (since : ℕ) → StoresPass z o es since t → WasReached z o es l.row since
  -- there is such a draw, and it found the version of the scan
  pub settled : is_scan l.call ≡ true → (at : ℕ) × HasSettled z o es t at l.version
  pub drew : is_scan l.call ≡ true → (at version : ℕ) → HasSettled z o es t at version → WasReached z o es l.row at
  pub drew_itself : is_scan l.call ≡ true → (since : ℕ) → DrawsHere z o es since t → WasReached z o es l.row since

-- each seat that is at the row of its key
abbrev pub AreLive : Sizes → Opening → List Event → Type 0
AreLive z o es = (t : ℕ) (l : Local) → slice_get (world z o es).locals t ≡ Some l → IsAtRow l.activity → IsLiveRow z o es t l
