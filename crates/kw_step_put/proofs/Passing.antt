-- What follows at the end of a row does not hang on what the seat did last.
use Rattle.std.proofs.Common.{ℕ, ◌≡◌, Option, Some, None, refl}
use Rattle.kw_model.specs.declared.call.Call.{Call}
use Rattle.kw_model.specs.declared.call.Call.TheVariants.{Put, Del, Get, Scan, Pin, ScanAt, Unpin}
use Rattle.kw_world.specs.declared.activity.Activity.{Activity}
use Rattle.kw_world.specs.declared.local.Local.{Local}
use Rattle.kw_world.specs.declared.marks.Mark.{Mark}
use Rattle.kw_world.specs.Marks.{least_mark}
use Rattle.kw_world.specs.ReadTransitions.{row_read, scan_on, left_over_of, to_left_over}

-- how a scan goes on
scan_on-any : (o : Option ℕ) (upto : ℕ) (a : Activity) (l : Local) → scan_on o upto (record l { activity = a }) ≡ scan_on o upto l
scan_on-any None upto a l = refl
scan_on-any (Some r) upto a l = refl

-- the end of a row
row_read-any : (c : Option Call) (a : Activity) (l : Local) → row_read c (record l { activity = a }) ≡ row_read c l
row_read-any (Some (Put key value)) a l = refl
row_read-any (Some (Del key)) a l = refl
row_read-any (Some (Get key)) a l = refl
row_read-any (Some (Scan from upto)) a l = scan_on-any l.next upto a _
row_read-any (Some Pin) a l = refl
row_read-any (Some (ScanAt from upto)) a l = refl
row_read-any (Some Unpin) a l = refl
row_read-any None a l = refl

-- the next remembered cell
left_over_of-any : (m : Option Mark) (a : Activity) (l : Local) → left_over_of m (record l { activity = a }) ≡ left_over_of m l
left_over_of-any (Some m) a l = refl
left_over_of-any None a l = row_read-any l.call a l

-- what is left once the walk is over
pub to_left_over-any : (a : Activity) (l : Local) → to_left_over (record l { activity = a }) ≡ to_left_over l
to_left_over-any a l = left_over_of-any (least_mark l.remembered) a l
