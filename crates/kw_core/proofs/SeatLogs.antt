-- What an event leaves of the log of its seat: which activities set which part.
use Rattle.std.proofs.Common.{ℕ, ◌≡◌, ◌≢◌, [], length, ◌==◌, Bool, true, false, if◌then◌else◌, Some, None, arith, refl, ap}
use Rattle.kw_words.specs.declared.scan.ScanWord.TheVariants.{Waiting}
use Rattle.kw_words.specs.Scan.{scan_word}
use Rattle.kw_words.specs.Count.{count_of}
use Rattle.kw_world.specs.declared.activity.Activity.{Activity}
use Rattle.kw_world.specs.declared.activity.draw.Draw.TheVariants as Draw
use Rattle.kw_world.specs.declared.activity.rebalance.freeze.Freeze.TheVariants as Freeze
use Rattle.kw_world.specs.declared.activity.look.Look.TheVariants as Look
use Rattle.kw_world.specs.declared.activity.put.Put.TheVariants as Put
use Rattle.kw_world.specs.declared.activity.read.Read.TheVariants as Read
use Rattle.kw_world.specs.declared.activity.rebalance.Rebalance.TheVariants as Rebalance
use Rattle.kw_world.specs.declared.activity.rebalance.engage.Engage.TheVariants as Engage
use Rattle.kw_world.specs.declared.activity.rebalance.gather.Gather.TheVariants as Gather
use Rattle.kw_world.specs.declared.activity.rebalance.replace.Replace.TheVariants as Replace
use Rattle.kw_world.specs.declared.activity.rebalance.seek.Seek.TheVariants as Seek
use Rattle.kw_world.specs.declared.activity.rebalance.write.Write.TheVariants as Write
use Rattle.kw_world.specs.declared.local.Local.{Local}
use Rattle.kw_world.specs.declared.event.Choice.{Choice}
use Rattle.kw_world.specs.Sizes.{Sizes}
use Rattle.kw_world.specs.PutTransitions.{has_room}
use Rattle.kw_core.specs.History.{History}
use Rattle.kw_core.specs.Run.{SeatLog, Origins, seat_after, log_settled, log_gathered, index_gathered, is_at_cell}
use Rattle.kw_core.specs.Stages.{IsPublished, IsReading, IsUnderway}
use Rattle.kw_core.proofs.Happens.{chosen, not_chosen}

-- a part that both branches of a test leave alone
pub either : {A B : Type 0} (f : A → B) (b : Bool) (x y : A) (c : B) → f x ≡ c → f y ≡ c → f (if b then x else y) ≡ c
either f true x y c e h = e
either f false x y c e h = h

-- a scan that tries to settle keeps every part of its log but where its version was drawn
pub settled_same : {B : Type 0} (f : SeatLog → B) (clock found settled : ℕ) (g : SeatLog) → f (record g { drawn = settled }) ≡ f g → f (log_settled clock found settled g) ≡ f g
settled_same f clock found settled g e = either f (found == scan_word (Waiting clock)) g (record g { drawn = settled }) (f g) refl e

-- the activity does not draw, nor does it learn where another seat drew for it
abbrev pub IsNoDraw : Activity → Type 0
IsNoDraw Activity.Idle = ⊥
IsNoDraw (Activity.Draw Draw.Version) = ⊥
IsNoDraw (Activity.Draw Draw.Settle) = ⊥
IsNoDraw (Activity.Rebalance (Rebalance.Freeze (Freeze.Draw i))) = ⊥
IsNoDraw _ = Unit {0}

-- the event may be the last one in a row
abbrev pub IsEnding : Activity → Type 0
IsEnding (Activity.Read Read.Start) = Unit {0}
IsEnding (Activity.Read Read.Link) = Unit {0}
IsEnding (Activity.Read Read.Key) = Unit {0}
IsEnding (Activity.Read Read.LeftOverKey) = Unit {0}
IsEnding (Activity.Read Read.LeftOverValue) = Unit {0}
IsEnding _ = ⊥

module _ (z : Sizes) (choice : Choice) (l : Local) (found : ℕ) (next : Activity) (g : SeatLog) (o : Origins) (h : History) (settled : ℕ) where
  -- a seat's call stays its call until it ends
  pub call_kept : (a : Activity) → IsUnderway a → (seat_after z a choice l found next g o h settled).call ≡ g.call
  call_kept Activity.Idle u = absurd u
  call_kept (Activity.Draw Draw.Settle) u = settled_same (λ (q : SeatLog). q.call) l.waiting found settled g refl
  call_kept (Activity.Look (Look.Entry i)) u = either (λ (q : SeatLog). q.call) (i == 0) (record g { looked = length h.log; ids = []; read = None }) g g.call refl refl
  call_kept (Activity.Read Read.Start) u = either (λ (q : SeatLog). q.call) (is_at_cell next) g (record g { read = Some l.row }) g.call refl refl
  call_kept (Activity.Read Read.Link) u = either (λ (q : SeatLog). q.call) (is_at_cell next) g (record g { read = Some l.row }) g.call refl refl
  call_kept (Activity.Read Read.Key) u = either (λ (q : SeatLog). q.call) (is_at_cell next) g (record g { read = Some l.row }) g.call refl refl
  call_kept (Activity.Read Read.LeftOverKey) u = either (λ (q : SeatLog). q.call) (is_at_cell next) g (record g { read = Some l.row }) g.call refl refl
  call_kept (Activity.Read Read.LeftOverValue) u = let k = log_gathered (o l.row l.place) (index_gathered l found) g in either (λ (q : SeatLog). q.call) (is_at_cell next) k (record k { read = Some l.row }) g.call refl refl
  call_kept (Activity.Put Put.Add) u = either (λ (q : SeatLog). q.call) (has_room z (count_of found)) (record g { own = length h.attempts }) g g.call refl refl
  call_kept (Activity.Rebalance (Rebalance.Engage Engage.Clock)) u = refl
  call_kept (Activity.Rebalance (Rebalance.Freeze Freeze.Count)) u = refl
  call_kept (Activity.Rebalance (Rebalance.Gather Gather.Link)) u = refl
  call_kept (Activity.Rebalance (Rebalance.Seek Seek.Next)) u = refl
  call_kept (Activity.Rebalance (Rebalance.Write Write.Count)) u = refl
  call_kept (Activity.Rebalance (Rebalance.Replace Replace.First)) u = refl
  call_kept _ u = refl

  -- the draw of a scan stays its draw
  pub draw_kept : (a : Activity) → IsNoDraw a → (seat_after z a choice l found next g o h settled).drawn ≡ g.drawn
  draw_kept Activity.Idle u = absurd u
  draw_kept (Activity.Draw Draw.Version) u = absurd u
  draw_kept (Activity.Draw Draw.Settle) u = absurd u
  draw_kept (Activity.Rebalance (Rebalance.Freeze (Freeze.Draw i))) u = absurd u
  draw_kept (Activity.Look (Look.Entry i)) u = either (λ (q : SeatLog). q.drawn) (i == 0) (record g { looked = length h.log; ids = []; read = None }) g g.drawn refl refl
  draw_kept (Activity.Read Read.Start) u = either (λ (q : SeatLog). q.drawn) (is_at_cell next) g (record g { read = Some l.row }) g.drawn refl refl
  draw_kept (Activity.Read Read.Link) u = either (λ (q : SeatLog). q.drawn) (is_at_cell next) g (record g { read = Some l.row }) g.drawn refl refl
  draw_kept (Activity.Read Read.Key) u = either (λ (q : SeatLog). q.drawn) (is_at_cell next) g (record g { read = Some l.row }) g.drawn refl refl
  draw_kept (Activity.Read Read.LeftOverKey) u = either (λ (q : SeatLog). q.drawn) (is_at_cell next) g (record g { read = Some l.row }) g.drawn refl refl
  draw_kept (Activity.Read Read.LeftOverValue) u = let k = log_gathered (o l.row l.place) (index_gathered l found) g in either (λ (q : SeatLog). q.drawn) (is_at_cell next) k (record k { read = Some l.row }) g.drawn refl refl
  draw_kept (Activity.Put Put.Add) u = either (λ (q : SeatLog). q.drawn) (has_room z (count_of found)) (record g { own = length h.attempts }) g g.drawn refl refl
  draw_kept (Activity.Rebalance (Rebalance.Engage Engage.Clock)) u = refl
  draw_kept _ u = refl

  -- a reader that has looked at the first entry looked where it looked
  pub look_kept : (a : Activity) → IsReading a → (seat_after z a choice l found next g o h settled).looked ≡ g.looked
  look_kept (Activity.Look (Look.Entry i)) u = ap (λ (q : SeatLog). q.looked) (not_chosen i 0 (record g { looked = length h.log; ids = []; read = None }) g (λ e. omega (arith, u, e)))
  look_kept (Activity.Look _) u = refl
  look_kept (Activity.Read Read.Version) u = refl
  look_kept (Activity.Read Read.Value) u = refl
  look_kept (Activity.Read Read.LeftOverValue) u = let k = log_gathered (o l.row l.place) (index_gathered l found) g in either (λ (q : SeatLog). q.looked) (is_at_cell next) k (record k { read = Some l.row }) g.looked refl refl
  look_kept (Activity.Read _) u = either (λ (q : SeatLog). q.looked) (is_at_cell next) g (record g { read = Some l.row }) g.looked refl refl
  look_kept _ u = absurd u

  -- the attempt of a seat that has announced it stays its own
  pub own_kept : (a : Activity) → IsPublished a → (seat_after z a choice l found next g o h settled).own ≡ g.own
  own_kept (Activity.Put Put.Clock) u = refl
  own_kept (Activity.Put Put.Stamp) u = refl
  own_kept (Activity.Put Put.Version) u = refl
  own_kept (Activity.Insert _) u = refl
  own_kept (Activity.Put Put.Clear) u = refl
  own_kept _ u = absurd u

  -- a reader that does not go on to a cell has read the row
  pub read_to_end : (a : Activity) → IsEnding a → is_at_cell next ≡ false → (seat_after z a choice l found next g o h settled).read ≡ Some l.row
  read_to_end (Activity.Read Read.Start) u e = rw e refl
  read_to_end (Activity.Read Read.Link) u e = rw e refl
  read_to_end (Activity.Read Read.Key) u e = rw e refl
  read_to_end (Activity.Read Read.LeftOverKey) u e = rw e refl
  read_to_end (Activity.Read Read.LeftOverValue) u e = rw e refl
  read_to_end _ u e = absurd u

  -- a scan that settles by its own exchange keeps its log
  pub settle_kept : found ≡ scan_word (Waiting l.waiting) → seat_after z (Activity.Draw Draw.Settle) choice l found next g o h settled ≡ g
  settle_kept e = chosen found (scan_word (Waiting l.waiting)) g (record g { drawn = settled }) e

  -- one that another seat has settled has the draw of that seat
  pub settle_lost : found ≢ scan_word (Waiting l.waiting) → seat_after z (Activity.Draw Draw.Settle) choice l found next g o h settled ≡ record g { drawn = settled }
  settle_lost d = not_chosen found (scan_word (Waiting l.waiting)) g (record g { drawn = settled }) d
