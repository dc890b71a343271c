-- What all seats have asked of the map in a run: as many updates as its lines, and no more scans
-- than it has items.
use Rattle.std.proofs.Common.{ℕ, suc, true, ◌≡◌, ◌≢◌, ◌<◌, ◌≤◌, List, [], ◌∷◌, length, refl, sym, ap, ◌∙◌, arith}
use Rattle.std.specs.Prelude.{sum_by}
use Rattle.std.proofs.lemmas.List.Sums.{sum_by-cons}
use Rattle.kw_windows.specs.Sums.{sum_below}
use Rattle.kw_windows.proofs.Summing.{sum_same}
use Rattle.kw_model.specs.declared.call.Call.{Call}
use Rattle.kw_model.specs.declared.call.Call.TheVariants.{Del, Get, Put, Scan, Pin, ScanAt, Unpin}
use Rattle.kw_world.specs.declared.event.Event.{Event}
use Rattle.kw_world.specs.declared.opening.Opening.{Opening}
use Rattle.kw_world.specs.Opening.{IsOpening}
use Rattle.kw_world.specs.Sizes.{product}
use Rattle.kw_core.specs.declared.history.CallLog.{CallLog}
use Rattle.kw_core.specs.History.{called}
use Rattle.kw_core.specs.Events.{is_valid}
use Rattle.kw_core.specs.Run.{history}
use Rattle.kw_laws.specs.SeatCalls.{CallSeen, calls_by, calls_of, calls_seen}
use Rattle.kw_laws.proofs.SeatLists.{call_at, seen_by, seen_by-other}
use Rattle.kw_order.proofs.SeatOrders.{seat_within}
use Rattle.kw_counts.specs.Bank.{all_updates, update_one, updates_in}
use Rattle.kw_counts.specs.Draws.{all_scans, scan_one, scans_in}
use Rattle.kw_line.specs.declared.item.Item.{Item}
use Rattle.kw_line.specs.Line.{calls}
use Rattle.kw_work.specs.declared.line.Line.{Line}
use Rattle.kw_work.specs.Dealing.{part, lines_of}
use Rattle.kw_work.proofs.Numbers.{calls-lines_of}
use Rattle.kw_app.specs.Few.{update_lines, updates_asked}
use Rattle.kw_app.specs.Recorded.{asked, asks, seat_calls}
use Rattle.kw_app.proofs.PartSums.{few_calls, share, shares_together, sum_beyond}

-- Counts of calls, as sums over what they ask.

updates_by_asked : (cs : List CallSeen) → updates_in cs ≡ sum_by update_one (asked cs)
updates_by_asked [] = refl
updates_by_asked (c ∷ cs) = omega (arith, updates_by_asked cs, sum_by-cons update_one c.call (asked cs))

updates_by_calls : (cs : List Call) → updates_asked cs ≡ sum_by update_one cs
updates_by_calls [] = refl
updates_by_calls (c ∷ cs) = omega (arith, updates_by_calls cs, sum_by-cons update_one c cs)

scans_by_asked : (cs : List CallSeen) → scans_in cs ≡ sum_by scan_one (asked cs)
scans_by_asked [] = refl
scans_by_asked (c ∷ cs) = omega (arith, scans_by_asked cs, sum_by-cons scan_one c.call (asked cs))

-- a call is one scan at most
one_scan : (c : Call) → scan_one c ≤ 1
one_scan (Put key value) = omega arith
one_scan (Del key) = omega arith
one_scan (Get key) = omega arith
one_scan (Scan from upto) = omega arith
one_scan Pin = omega arith
one_scan (ScanAt from upto) = omega arith
one_scan Unpin = omega arith

few_scans : (cs : List Call) → sum_by scan_one cs ≤ length cs
few_scans [] = omega arith
few_scans (c ∷ cs) = omega (arith, few_scans cs, sum_by-cons scan_one c cs, one_scan c)

-- where no call is the seat's, none is seen of it
none_seen : (s : ℕ) (cs : List CallLog) → ((y : ℕ) → y < length cs → (call_at cs y).seat ≢ s) → seen_by s cs ≡ []
none_seen s [] f = refl
none_seen s (c ∷ cs) f = seen_by-other s c cs (f 0 (omega arith)) ∙ none_seen s cs (λ y w. f (suc y) (omega (arith, w)))

-- A list of events in which each seat has just the calls of its lines.

module _ (o : Opening) (E : List Event) (opening : IsOpening product o) (ok : is_valid product o E ≡ true) (items : List Item)
    (asks_are : (w : ℕ) → w < o.seats → asked (seat_calls o E w) ≡ asks (part o.seats w (lines_of 1 items))) where
  -- a seat that the run does not have makes no call
  no_calls : (t : ℕ) → o.seats ≤ t → seat_calls o E t ≡ []
  unfolding calls_seen calls_of calls_by called
  no_calls t past = none_seen t (history product o E).history.calls (λ y lt e. let inside = seat_within product o E opening ok y lt in omega (arith, inside, e, past))

  -- a count of the calls of all seats, as a sum over the calls of the items
  all_calls : (cost : Call → ℕ) (count : List CallSeen → ℕ) → ((cs : List CallSeen) → count cs ≡ sum_by cost (asked cs)) → sum_below product.seats (λ t. count (calls_seen product o t E)) ≡ sum_by cost (calls items)
  all_calls cost count is =
      let one : ℕ → ℕ = λ t. count (calls_seen product o t E) in
      let lines : List Line = lines_of 1 items in
      sum_beyond o.seats product.seats one opening.few_seats (λ t past. ap count (no_calls t past) ∙ is [])
      ∙ (sum_same o.seats (share cost o.seats opening.some_seats lines) one (λ t lt. is (calls_seen product o t E) ∙ ap (sum_by cost) (asks_are t lt))
      ∙ (shares_together cost o.seats opening.some_seats lines ∙ ap (sum_by cost) (calls-lines_of 1 items)))

  -- all seats have begun as many updates as there are lines of them
  pub all_updates-lines : all_updates product o E ≡ update_lines items
  all_updates-lines = all_calls update_one updates_in updates_by_asked ∙ sym (updates_by_calls (calls items))

  -- and no more scans than there are items
  pub all_scans-few : all_scans product o E ≤ length items
  all_scans-few = omega (arith, all_calls scan_one scans_in scans_by_asked, few_scans (calls items), few_calls items)
