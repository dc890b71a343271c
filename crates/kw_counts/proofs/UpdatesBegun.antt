-- Each call that has a put is a put or a delete of some seat, so no more have one than all seats
-- have begun.
use Rattle.std.proofs.Common.{ℕ, suc, ◌≡◌, ◌⊎◌, inl, inr, ◌+◌, ◌<◌, ◌≤◌, Option, None, Some, List, [], ◌∷◌, arith, refl, sym, ◌∙◌, ap, get_or}
use Rattle.std.proofs.lemmas.Bool.{cases_eq}
use Rattle.kw_windows.specs.Sums.{sum_below}
use Rattle.kw_windows.proofs.Summing.{sum_grows, sum_one_changed}
use Rattle.kw_model.specs.declared.call.Call.{Call}
use Rattle.kw_model.specs.declared.call.Call.TheVariants.{Del, Get, Put, Scan, Pin, ScanAt, Unpin}
use Rattle.kw_world.specs.declared.event.Event.{Event}
use Rattle.kw_world.specs.declared.opening.Opening.{Opening}
use Rattle.kw_world.specs.Sizes.{Sizes}
use Rattle.kw_core.specs.declared.history.CallLog.{CallLog}
use Rattle.kw_core.specs.History.{attempt, called, no_call}
use Rattle.kw_core.specs.HistoryLaws.{Makes}
use Rattle.kw_core.specs.Run.{Run, history}
use Rattle.kw_core.proofs.Attempts.{in_range}
use Rattle.kw_laws.specs.SeatCalls.{calls_by, calls_of, calls_seen}
use Rattle.kw_laws.proofs.SeatLists.{seen_by, seen_by-other, seen_by-own}
use Rattle.kw_reads.specs.Inv.{Inv}
use Rattle.kw_counts.specs.Bank.{all_updates, put_one, puts_in, update_one, updates_in}

-- the call has a put only if it is a put or a delete of a seat of the table
record IsUpdateOf (seats : ℕ) (c : CallLog) : Type 0 where
  seat : c.seat < seats
  update : update_one c.call ≡ 1

-- what one seat has begun with one more call
one_more_by : (t : ℕ) (c : CallLog) (cs : List CallLog) → updates_in (seen_by t cs) ≤ updates_in (seen_by t (c ∷ cs))
one_more_by t c cs = which (cases_eq c.seat t)
  where
    which : (c.seat ≡ t) ⊎ (c.seat ≡ t → ⊥) → updates_in (seen_by t cs) ≤ updates_in (seen_by t (c ∷ cs))
    which (inl e) = omega (arith, ap updates_in (seen_by-own t c cs e))
    which (inr d) = omega (arith, ap updates_in (seen_by-other t c cs d))

few_puts : (seats : ℕ) (cs : List CallLog) → ((x p : ℕ) → (get_or cs x no_call).put ≡ Some p → IsUpdateOf seats (get_or cs x no_call)) → puts_in cs ≤ sum_below seats (λ t. updates_in (seen_by t cs))
few_puts seats [] f = omega arith
few_puts seats (c ∷ cs) f = which (few_puts seats cs (λ x p e. f (suc x) p e)) c.put refl
  where
    which : puts_in cs ≤ sum_below seats (λ t. updates_in (seen_by t cs)) → (o : Option ℕ) → c.put ≡ o → puts_in (c ∷ cs) ≤ sum_below seats (λ t. updates_in (seen_by t (c ∷ cs)))
    which rest None e = omega (arith, ap put_one e, rest, sum_grows seats (λ t. updates_in (seen_by t cs)) (λ t. updates_in (seen_by t (c ∷ cs))) (λ t w. one_more_by t c cs))
    which rest (Some p) e =
        let u = f 0 p e in
        let one : sum_below seats (λ t. updates_in (seen_by t (c ∷ cs))) + updates_in (seen_by c.seat cs) ≡ sum_below seats (λ t. updates_in (seen_by t cs)) + updates_in (seen_by c.seat (c ∷ cs)) = sum_one_changed seats c.seat (λ t. updates_in (seen_by t cs)) (λ t. updates_in (seen_by t (c ∷ cs))) u.seat (λ t n. ap updates_in (seen_by-other t c cs (λ i. n (sym i)))) in
        omega (arith, ap put_one e, rest, one, ap updates_in (seen_by-own c.seat c cs refl), u.update)

-- a call that makes a put is one
makes_update : (call : Call) (key : ℕ) (value : Option ℕ) → Makes call key value → update_one call ≡ 1
makes_update (Put k v) key value m = refl
makes_update (Del k) key value m = refl
makes_update (Get k) key value m = absurd m
makes_update (Scan from upto) key value m = absurd m
makes_update Pin key value m = absurd m
makes_update (ScanAt from upto) key value m = absurd m
makes_update Unpin key value m = absurd m

updates_of : (z : Sizes) (r : Run) → Inv z r → (x p : ℕ) → (called r.history x).put ≡ Some p → IsUpdateOf z.seats (called r.history x)
updates_of z r v x p e =
    let t = v.history.laws.is_put x p e in
    let within = in_range r.history p t.0 in
    let a = v.history.laws.attempted p within in
    record {
      seat = omega (arith, (v.puts.placed p within).seat, a.seat, ap (λ y. (called r.history y).seat) t.1);
      update = ap (λ y. update_one (called r.history y).call) (sym t.1) ∙ makes_update (called r.history (attempt r.history p).call).call (attempt r.history p).key (attempt r.history p).value a.makes;
    }

pub updates_begun : (z : Sizes) (o : Opening) (es : List Event) → Inv z (history z o es) → puts_in (history z o es).history.calls ≤ all_updates z o es
unfolding called calls_seen calls_of calls_by
updates_begun z o es v = few_puts z.seats (history z o es).history.calls (updates_of z (history z o es) v)
