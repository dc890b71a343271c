-- What every valid list keeps of the rows that seats can reach.
use Rattle.std.proofs.Common.{ℕ, ◌≡◌, ◌⊎◌, inl, inr, ◌≤◌, true, Option, Some, None, List, arith, sym, ◌∙◌, ap, subst, length, slice_get}
use Rattle.std.proofs.lemmas.List.{take_all}
use Rattle.std.proofs.lemmas.Option.{same_Some}
use Rattle.kw_words.specs.declared.layout.Name.TheVariants as name
use Rattle.kw_words.specs.declared.state.State.{State}
use Rattle.kw_words.specs.declared.state.State.TheVariants as state
use Rattle.kw_words.specs.State.{state_of}
use Rattle.kw_rows.specs.Ledger.{IsFresh, Ledger}
use Rattle.kw_rows.specs.RowState as row
use Rattle.kw_rows.specs.States.{HasState, States}
use Rattle.kw_world.specs.declared.event.Event.{Event}
use Rattle.kw_world.specs.declared.local.Local.{Local}
use Rattle.kw_world.specs.declared.opening.Opening.{Opening}
use Rattle.kw_world.specs.Opening.{IsOpening}
use Rattle.kw_world.specs.Sizes.{Sizes}
use Rattle.kw_world.specs.Step.{word}
use Rattle.kw_world.specs.WorldView.{WorldView}
use Rattle.kw_core.specs.Events.{is_valid, local_of, world}
use Rattle.kw_core.specs.Run.{Run, history}
use Rattle.kw_core.specs.Stages.{IsVisiting}
use Rattle.kw_core.specs.Words.{Words}
use Rattle.kw_shape.proofs.RelyRows.{is_visiting}
use Rattle.kw_shape.proofs.SoughtKeep.{fresh_late}
use Rattle.kw_shape.specs.Infants.{IsInfantOf}
use Rattle.kw_shape.specs.RowsIn.{rows_in, state_seen}
use Rattle.kw_laws.specs.Reach.{HasComeTo, IsInVisit, IsOwnInfant, IsThere, KeepsRows}
use Rattle.kw_laws.proofs.NamedRows.{fresh_reached, fresh_taken}
use Rattle.kw_laws.proofs.VisitsAlong.{KeepsVisits, acting_seat, visits_along}
use Rattle.kw_shape.proofs.Worlds.{world-local}

-- a state that reads as that of an infant is one
infant_seen : (s : Option State) (t : ℕ) → state_seen s ≡ row.Infant t → s ≡ Some (state.Infant t)
infant_seen (Some state.Free) t e = let x : row.Free ≡ row.Infant t = e in absurd (cc)
infant_seen (Some (state.Infant u)) t e = let x : row.Infant u ≡ row.Infant t = e in ap (λ y. Some (state.Infant y)) (cc)
infant_seen (Some state.Normal) t e = let x : row.Normal ≡ row.Infant t = e in absurd (cc)
infant_seen (Some (state.Leader n)) t e = let x : row.Leader n ≡ row.Infant t = e in absurd (cc)
infant_seen (Some (state.Follower p)) t e = let x : row.Follower p ≡ row.Infant t = e in absurd (cc)
infant_seen (Some (state.Retired n)) t e = let x : row.Retired n ≡ row.Infant t = e in absurd (cc)
infant_seen None t e = let x : row.Free ≡ row.Infant t = e in absurd (cc)

-- the state of an infant names its seat
infant_state : (v : Words) (g : Ledger) (t q : ℕ) → States (rows_in v) g → IsInfantOf g t q → state_of (v (name.State q)) ≡ Some (state.Infant t)
infant_state v g t q states x =
    let e : (rows_in v).state q ≡ row.Infant (g.fates q).owner = subst (HasState (rows_in v) g q) x.status (states q) in
    infant_seen (state_of (v (name.State q))) t (e ∙ ap row.Infant x.owner)

module _ (z : Sizes) (o : Opening) (es : List Event) (r : Run) (k : KeepsVisits z o es r) where
  -- what is there for a seat, where the world is that of the run
  there : (t u x q : ℕ) (p : IsInVisit z o es t u (length es)) → HasComeTo z o es t u x q → IsThere z r.world q p.begins.epoch
  there t u x q p c = record {
    taken = fresh_taken (word z r.world) r.ledger.rows k.inv.shape.rows.states q t fresh;
    linked = λ s e. fresh_reached (word z r.world) r.ledger.rows k.inv.shape.rows.states q t s k.inv.shape.rows.chain fresh e;
    late = λ n e. omega (arith, same (is_visiting local.activity), fresh_late z r k.inv.shape t q n local knows fresh (ap state_seen e));
  }
    where
      fresh : IsFresh r.ledger.rows t q
      fresh = k.fresh t u x q p c

      local : Local
      local = local_of (world z o es) t

      knows : slice_get r.world.locals t ≡ Some local
      knows = ap (λ (w : WorldView). slice_get w.locals t) (sym k.world) ∙ world-local z o es t (acting_seat z o es u t _ _ p.begins.found p.begins.acts)

      -- the epoch that the seat announced is the one that it knows
      same : IsVisiting local.activity ⊎ (IsVisiting local.activity → ⊥) → p.begins.epoch ≡ local.epoch
      same (inl y) = sym (k.on t u p).1 ∙ ((k.inv.shape.visits t local knows).in_visit y).word
      same (inr y) = let w : None ≡ Some u = sym ((k.inv.shape.visits t local knows).in_none y).visits ∙ (k.on t u p).0 in absurd (cc)

  infants : (t q : ℕ) → IsOwnInfant z o es (length es) t q → state_of (word z r.world (name.State q)) ≡ Some (state.Infant t)
  infants t q d =
      let all : length es ≤ length es = omega arith in
      let knows : slice_get r.world.locals t ≡ Some d.local = subst (λ (w : WorldView). slice_get w.locals t ≡ Some d.local) (ap (world z o) (take_all (length es) es all) ∙ k.world) d.knows in
      infant_state (word z r.world) r.ledger.rows t q k.inv.shape.rows.states ((k.inv.shape.infants t d.local knows).owned d.nursed.0 q d.nursed.1 d.nursed.2)

-- every valid list from an opening
pub reach_holds : (z : Sizes) (o : Opening) → IsOpening z o → (es : List Event) → is_valid z o es ≡ true → KeepsRows z o es
reach_holds z o opening es v =
    let k = visits_along z o opening es v in
    record {
      there = λ t u x q p c. subst (λ w. IsThere z w q p.begins.epoch) (sym k.world) (there z o es (history z o es) k t u x q p c);
      infants = λ t q d. subst (λ (w : WorldView). state_of (word z w (name.State q)) ≡ Some (state.Infant t)) (sym k.world) (infants z o es (history z o es) k t q d);
      touches = k.touches;
      reclaims = λ x s q number y d t u f n p.
          let young = k.freed x s q number f in
          omega (arith, young.young t u p, same_Some y young.at (sym (k.drawn y d number n) ∙ young.numbered));
      unreached = λ x s q number t f. (k.freed x s q number f).unreached t;
    }
