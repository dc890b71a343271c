-- Which calls a seat makes that rebalances, reads, or is refused; and that a seat which tidies, or
-- has refused an update, is none where no update was refused and none is offered to tidy.
use Rattle.std.proofs.Common.{ℕ, ◌≡◌, ◌⊎◌, inl, inr, ◌*◌, ◌≤◌, Bool, true, false, Option, None, Some, List, arith, refl, sym, ◌∙◌, ap, subst, slice_get, length}
use Rattle.std.proofs.Math.Nat.{mul-le-mul_left}
use Rattle.kw_words.specs.declared.layout.Name.TheVariants as name
use Rattle.kw_model.specs.declared.call.Call.{Call}
use Rattle.kw_model.specs.declared.call.Call.TheVariants.{Del, Get, Put, Scan, Pin, ScanAt, Unpin}
use Rattle.kw_windows.specs.Builders.{Elsewhere}
use Rattle.kw_world.specs.declared.activity.Activity.{Activity}
use Rattle.kw_world.specs.declared.activity.draw.Draw.TheVariants as Draw
use Rattle.kw_world.specs.declared.activity.rebalance.Rebalance.TheVariants as Rebalance
use Rattle.kw_world.specs.declared.activity.rebalance.freeze.Freeze.TheVariants as Freeze
use Rattle.kw_world.specs.declared.activity.rebalance.engage.Engage.TheVariants as Engage
use Rattle.kw_world.specs.declared.answer.Answer.{Answer}
use Rattle.kw_world.specs.declared.answer.Answer.TheVariants as answer
use Rattle.kw_world.specs.declared.event.Choice.{Choice}
use Rattle.kw_world.specs.declared.limits.TheConstants.{TIDY_SHARE}
use Rattle.kw_world.specs.declared.local.Local.{Local}
use Rattle.kw_world.specs.Answers.{reply_of}
use Rattle.kw_world.specs.Sizes.{Sizes}
use Rattle.kw_world.specs.Step.{word}
use Rattle.kw_world.specs.Table.{transition}
use Rattle.kw_core.specs.History.{History, called}
use Rattle.kw_core.specs.declared.history.CallLog.{CallLog}
use Rattle.kw_core.specs.Noted.{noted}
use Rattle.kw_core.specs.Run.{Run, answering, change_of, drawing, logged}
use Rattle.kw_core.specs.Stages.{IsBalancing, IsBusy, IsDone, is_put}
use Rattle.kw_core.proofs.Building.{IsBuilding}
use Rattle.kw_core.proofs.Happens.{Happens, found_at}
use Rattle.kw_core.proofs.NotedLaws.{called_set_same}
use Rattle.kw_shape.specs.Shape.{IsKind, IsPutCall, IsReadCall, IsScanCall, Kinds, Shape}
use Rattle.kw_puts.specs.Positions.{Calling}
use Rattle.kw_reads.specs.Inv.{Inv}
use Rattle.kw_laws.proofs.EndedCalls.{ended_within}
use Rattle.kw_counts.specs.Refusals.{HasNoRefusal, IsRefusal}
use Rattle.kw_full.specs.Shares.{IsUntidied}
use Rattle.kw_used.specs.Seats.{leaving, refusing}
use Rattle.kw_used.proofs.Turns.{IsReader, begun_after}

-- Calls.

-- an update makes updates
pub update_put : (c : Option Call) → IsPutCall c → is_put c ≡ true
update_put (Some (Put key value)) x = refl
update_put (Some (Del key)) x = refl
update_put (Some (Get key)) x = absurd x
update_put (Some (Scan from upto)) x = absurd x
update_put (Some Pin) x = absurd x
update_put (Some (ScanAt from upto)) x = absurd x
update_put (Some Unpin) x = absurd x
update_put None x = absurd x

-- a reader makes none
read_no_put : (c : Option Call) → IsReadCall c → is_put c ≡ false
read_no_put (Some (Put key value)) x = absurd x
read_no_put (Some (Del key)) x = absurd x
read_no_put (Some (Get key)) x = refl
read_no_put (Some (Scan from upto)) x = refl
read_no_put (Some Pin) x = refl
read_no_put (Some (ScanAt from upto)) x = refl
read_no_put (Some Unpin) x = refl
read_no_put None x = absurd x

scan_no_put : (c : Option Call) → IsScanCall c → is_put c ≡ false
scan_no_put (Some (Put key value)) x = absurd x
scan_no_put (Some (Del key)) x = absurd x
scan_no_put (Some (Get key)) x = absurd x
scan_no_put (Some (Scan from upto)) x = refl
scan_no_put (Some Pin) x = refl
scan_no_put (Some (ScanAt from upto)) x = refl
scan_no_put (Some Unpin) x = refl
scan_no_put None x = absurd x

pub reader_no_put : (a : Activity) (l : Local) → IsReader a → Kinds a l → is_put l.call ≡ false
reader_no_put (Activity.Draw Draw.Pin) l x k = absurd k.kind
reader_no_put (Activity.Draw _) l x k = scan_no_put l.call k.kind
reader_no_put (Activity.Look _) l x k = read_no_put l.call k.kind
reader_no_put (Activity.Read _) l x k = read_no_put l.call k.kind
reader_no_put (Activity.EndScan a) l x k = scan_no_put l.call k.kind.0
reader_no_put _ l x k = absurd x

-- so it is refused as no update is
pub leaves_elsewhere : (a : Answer) (c : Option Call) → is_put c ≡ false → leaving a c ≡ Elsewhere
leaves_elsewhere answer.Done c e = refl
leaves_elsewhere (answer.Value v) c e = refl
leaves_elsewhere answer.Absent c e = refl
leaves_elsewhere answer.Pairs c e = refl
leaves_elsewhere answer.NoRows c e = ap refusing e
leaves_elsewhere answer.Spent c e = ap refusing e
leaves_elsewhere answer.Stopped c e = refl
leaves_elsewhere answer.Held c e = refl
leaves_elsewhere answer.NotPinned c e = refl

-- a seat that rebalances makes an update
pub balancing_puts : (a : Activity) (l : Local) → IsBalancing a → IsKind a l → IsPutCall l.call
balancing_puts (Activity.Rebalance (Rebalance.Engage (Engage.Decide count))) l x k = k.0
balancing_puts (Activity.Rebalance (Rebalance.Engage Engage.Clock)) l x k = k
balancing_puts (Activity.Rebalance (Rebalance.Engage Engage.Epoch)) l x k = k
balancing_puts (Activity.Rebalance (Rebalance.Engage Engage.State)) l x k = k
balancing_puts (Activity.Rebalance (Rebalance.Engage (Engage.Normal seat))) l x k = k
balancing_puts (Activity.Rebalance (Rebalance.Engage Engage.Lead)) l x k = k
balancing_puts (Activity.Rebalance (Rebalance.Engage (Engage.MarkLink count))) l x k = k
balancing_puts (Activity.Rebalance (Rebalance.Claim _)) l x k = k
balancing_puts (Activity.Rebalance (Rebalance.Left _)) l x k = k
balancing_puts (Activity.Rebalance (Rebalance.Freeze (Freeze.Pin i))) l x k = absurd k
balancing_puts (Activity.Rebalance (Rebalance.Freeze _)) l x k = k
balancing_puts (Activity.Rebalance (Rebalance.Gather _)) l x k = k
balancing_puts (Activity.Rebalance (Rebalance.Seek _)) l x k = k
balancing_puts (Activity.Rebalance (Rebalance.Write _)) l x k = k
balancing_puts (Activity.Rebalance (Rebalance.Replace _)) l x k = k
balancing_puts _ l x k = absurd x

-- where new rows are built the build at hand is as it was
pub after_building : (a : Activity) (begun : Option ℕ) → IsBuilding a → begun_after a begun ≡ begun
after_building (Activity.Rebalance (Rebalance.Seek _)) begun x = refl
after_building (Activity.Rebalance (Rebalance.Write _)) begun x = refl
after_building (Activity.Rebalance (Rebalance.Replace _)) begun x = refl
after_building _ begun x = absurd x

-- an update that leaves at no stage of its own is not refused
pub leave_cases : (a : Answer) (c : Option Call) → (leaving a c ≡ Elsewhere) ⊎ (is_put c ≡ true) × ((a ≡ answer.NoRows) ⊎ (a ≡ answer.Spent))
leave_cases answer.Done c = inl refl
leave_cases (answer.Value v) c = inl refl
leave_cases answer.Absent c = inl refl
leave_cases answer.Pairs c = inl refl
leave_cases answer.NoRows c = saw (is_put c) refl
  where
    saw : (b : Bool) → is_put c ≡ b → (refusing (is_put c) ≡ Elsewhere) ⊎ (is_put c ≡ true) × ((answer.NoRows ≡ answer.NoRows) ⊎ (answer.NoRows ≡ answer.Spent))
    saw true e = inr (e, inl refl)
    saw false e = inl (ap refusing e)
leave_cases answer.Spent c = saw (is_put c) refl
  where
    saw : (b : Bool) → is_put c ≡ b → (refusing (is_put c) ≡ Elsewhere) ⊎ (is_put c ≡ true) × ((answer.Spent ≡ answer.NoRows) ⊎ (answer.Spent ≡ answer.Spent))
    saw true e = inr (e, inr refl)
    saw false e = inl (ap refusing e)
leave_cases answer.Stopped c = inl refl
leave_cases answer.Held c = inl refl
leave_cases answer.NotPinned c = inl refl

-- Seats that tidy.

balances_busy : (a : Activity) → IsBalancing a ⊎ IsDone a → IsBusy a
balances_busy Activity.Idle (inl x) = absurd x
balances_busy Activity.Idle (inr x) = absurd x
balances_busy _ x = tt

-- there is none where none is offered to tidy
pub tidies_none : {A : Type 0} (z : Sizes) (r : Run) → Shape z r → IsUntidied z r.world → (t : ℕ) (l : Local) → slice_get r.world.locals t ≡ Some l → l.tidies ≡ true → A
tidies_none z r i plain t l g e =
    let most : TIDY_SHARE * l.epoch ≤ TIDY_SHARE * word z r.world name.Epoch = mul-le-mul_left TIDY_SHARE ((i.visits t l g).epoch (balances_busy l.activity (i.tidies t l g e))).1 in
    absurd (omega (arith, i.offered t l g e, most, plain))

-- Updates that were refused.

put_refused : (c : Call) → is_put (Some c) ≡ true → (a : Answer) (pairs : List (ℕ × ℕ)) → (a ≡ answer.NoRows) ⊎ (a ≡ answer.Spent) → IsRefusal c (reply_of a pairs)
put_refused (Put key value) e a pairs (inl f) = subst (λ b. IsRefusal (Put key value) (reply_of b pairs)) (sym f) tt
put_refused (Put key value) e a pairs (inr f) = subst (λ b. IsRefusal (Put key value) (reply_of b pairs)) (sym f) tt
put_refused (Del key) e a pairs (inl f) = subst (λ b. IsRefusal (Del key) (reply_of b pairs)) (sym f) tt
put_refused (Del key) e a pairs (inr f) = subst (λ b. IsRefusal (Del key) (reply_of b pairs)) (sym f) tt
put_refused (Get key) e a pairs f = let x : false ≡ true = e in absurd (cc)
put_refused (Scan from upto) e a pairs f = let x : false ≡ true = e in absurd (cc)
put_refused Pin e a pairs f = let x : false ≡ true = e in absurd (cc)
put_refused (ScanAt from upto) e a pairs f = let x : false ≡ true = e in absurd (cc)
put_refused Unpin e a pairs f = let x : false ≡ true = e in absurd (cc)

-- a seat that leaves ends its call with this answer
module _ (z : Sizes) (r r' : Run) (s : ℕ) (choice : Choice) (l l' : Local) (a : Activity) (h : Happens z r r' s choice l l' a) (v : Inv z r) (b : Answer) (e : a ≡ Activity.Leave b) where
  abbrev x : ℕ
  x = (r.seats s).call

  own : Calling r.history s l.activity l (r.seats s)
  own = v.positions.calling s l h.knows (subst IsBusy (sym (h.activity ∙ e)) tt)

  abbrev log : CallLog
  log = record (called r.history x) { end = Some (record { at = length r.history.log; reply = reply_of b l.pairs }); answer = answering l.call l (r.seats s); draw = drawing b l (r.seats s) }

  log_is : called r'.history x ≡ log
  log_is =
      let n = subst (λ y. r'.history ≡ noted r.history (logged s (transition z a s choice l).operation.kind (word z r.world name.Clock)) (change_of z y s choice l (found_at z (word z r.world) a s choice l) (r.seats s) r.origin)) e h.history in
      called_set_same r.history r'.history x log (ap (λ (y : History). y.calls) n) own.within

  pub call_ends : (called r'.history (r.seats s).call).end ≡ Some (record { at = length r.history.log; reply = reply_of b l.pairs })
  call_ends = ap (λ (d : CallLog). d.end) log_is

  -- so it has refused an update
  pub refuses_one : {A : Type 0} → HasNoRefusal r'.history → is_put l.call ≡ true → (b ≡ answer.NoRows) ⊎ (b ≡ answer.Spent) → A
  refuses_one none put f = absurd (none x _ (ended_within r'.history x _ call_ends) call_ends refusal)
    where
      refusal : IsRefusal (called r'.history x).call (reply_of b l.pairs)
      refusal = subst (λ c. IsRefusal c (reply_of b l.pairs)) (sym (ap (λ (d : CallLog). d.call) log_is)) (put_refused (called r.history x).call (ap is_put (sym own.call) ∙ put) b l.pairs f)
