-- Each event of a valid list is one of the laws of windows.
use Rattle.std.proofs.Common.{ℕ, ◌≡◌, ◌⊎◌, inl, inr, ◌+◌, false, None, Some, arith, refl, sym, ◌∙◌, ap, subst, length, eq-eqb, ne_eqb}
use Rattle.std.proofs.lemmas.Bool.{cases_eq}
use Rattle.kw_words.specs.declared.state.State.TheVariants.{Free}
use Rattle.kw_words.specs.Link.{link_of, link_word}
use Rattle.kw_words.specs.State.{state_word}
use Rattle.kw_words.proofs.LinkWords.{link_word_of}
use Rattle.kw_rows.specs.Ledger.{IsLive}
use Rattle.kw_windows.specs.Windows.{Limits, taken}
use Rattle.kw_windows.specs.Events.{Event}
use Rattle.kw_world.specs.declared.activity.Activity.{Activity}
use Rattle.kw_world.specs.declared.activity.rebalance.Rebalance.TheVariants as Rebalance
use Rattle.kw_world.specs.declared.activity.rebalance.replace.Replace.TheVariants as Replace
use Rattle.kw_world.specs.declared.activity.rebalance.seek.Seek.TheVariants as Seek
use Rattle.kw_world.specs.declared.event.Choice.{Choice}
use Rattle.kw_world.specs.declared.local.Local.{Local}
use Rattle.kw_world.specs.Sizes.{Sizes}
use Rattle.kw_world.specs.Step.{word}
use Rattle.kw_world.specs.WriteTransitions.{unmarked_link}
use Rattle.kw_core.specs.Run.{Run}
use Rattle.kw_core.proofs.Building.{Building, building}
use Rattle.kw_core.proofs.Happens.{Happens, found_at}
use Rattle.kw_shape.specs.Shape.{Shape}
use Rattle.kw_shape.proofs.LinkedRows.{ComesNow, found_open}
use Rattle.kw_counts.specs.Builds.{IsMostOfBuild, KeepsBuilds}
use Rattle.kw_counts.specs.Counts.{Counts, counts_after, one_more_at, wins_after}
use Rattle.kw_counts.specs.Refusals.{IsBeforeRefusals}
use Rattle.kw_counts.proofs.LiveRows.{lives_or_wins}
use Rattle.kw_full.specs.Shares.{IsUntidied}
use Rattle.kw_used.specs.Seats.{limits_of, windows_of}
use Rattle.kw_used.proofs.BuildTurns.{taken_turn, won_turn}
use Rattle.kw_used.proofs.Facts.{Facts}
use Rattle.kw_used.proofs.Lasting.{TakesNone}
use Rattle.kw_used.proofs.Steps.{one_event}
use Rattle.kw_used.proofs.Taking.{takes_event}
use Rattle.kw_used.proofs.Turns.{turn}
use Rattle.kw_used.proofs.Winning.{wins_event}

-- What an exchange finds.

-- an exchange that finds the link to its row replaces it
won_by : (a : Activity) (l : Local) (found n : ℕ) → a ≡ Activity.Rebalance (Rebalance.Replace Replace.Exchange) → found ≡ link_word (unmarked_link (Some l.row)) → wins_after a l found n ≡ n + 1
won_by a l found n e f = ap (λ b. wins_after b l found n) e ∙ rw (eq-eqb _ _ f) refl

-- and one that replaces it finds that
found_by : (a : Activity) (l : Local) (found n : ℕ) → a ≡ Activity.Rebalance (Rebalance.Replace Replace.Exchange) → wins_after a l found n ≡ n + 1 → found ≡ link_word (unmarked_link (Some l.row))
found_by a l found n e w = which (cases_eq found (link_word (unmarked_link (Some l.row))))
  where
    which : (found ≡ link_word (unmarked_link (Some l.row))) ⊎ (found ≡ link_word (unmarked_link (Some l.row)) → ⊥) → found ≡ link_word (unmarked_link (Some l.row))
    which (inl q) = q
    which (inr d) = let same : wins_after a l found n ≡ n = ap (λ b. wins_after b l found n) e ∙ rw (ne_eqb _ _ d) refl in absurd (omega (arith, w, same))

-- an event takes a row, or takes none
is_taking : (a : Activity) (found : ℕ) → (a ≡ Activity.Rebalance (Rebalance.Seek Seek.Take)) × (found ≡ state_word Free) ⊎ TakesNone a found
is_taking (Activity.Rebalance (Rebalance.Seek Seek.Take)) found = which (cases_eq found (state_word Free))
  where
    which : (found ≡ state_word Free) ⊎ (found ≡ state_word Free → ⊥) → (Activity.Rebalance (Rebalance.Seek Seek.Take) ≡ Activity.Rebalance (Rebalance.Seek Seek.Take)) × (found ≡ state_word Free) ⊎ TakesNone (Activity.Rebalance (Rebalance.Seek Seek.Take)) found
    which (inl q) = inl (refl, q)
    which (inr d) = inr (λ e. d)
is_taking _ found = inr (λ e. cc)

module _ (z : Sizes) (r r' : Run) (s : ℕ) (choice : Choice) (l l' : Local) (a : Activity) (h : Happens z r r' s choice l l' a) (c c' : Counts) (f : Facts z r c) (i' : Shape z r')
    (counted : c' ≡ counts_after a s l (found_at z (word z r.world) a s choice l) r.ledger.rows c) (plain : IsUntidied z r.world) (plain' : IsBeforeRefusals z r')
    (rows build : ℕ) (table : rows ≡ r.world.rows) (most : IsMostOfBuild z build) (few : KeepsBuilds z r'.world) (before : ℕ) (took : ℕ → ℕ) where
  abbrev found : ℕ
  found = found_at z (word z r.world) a s choice l

  abbrev limits : Limits
  limits = limits_of z rows (length r.world.locals) build

  -- with so many rows taken in the windows that are over then, and in this one
  abbrev pub Goes : Type 0
  Goes = (before' : ℕ) × (took' : ℕ → ℕ) × Event limits (windows_of z r c before took) (windows_of z r' c' before' took')

  wins_are : c'.wins ≡ wins_after a l found c.wins
  wins_are = ap (λ (x : Counts). x.wins) counted

  -- at this activity
  at : (b : Activity) → a ≡ b → Happens z r r' s choice l l' b
  at b q = subst (Happens z r r' s choice l l') q h

  counted_at : (b : Activity) → a ≡ b → c' ≡ counts_after b s l (found_at z (word z r.world) b s choice l) r.ledger.rows c
  counted_at b q = subst (λ y. c' ≡ counts_after y s l (found_at z (word z r.world) y s choice l) r.ledger.rows c) q counted

  -- the way that it goes
  taking_way : Happens z r r' s choice l l' (Activity.Rebalance (Rebalance.Seek Seek.Take)) → Building z (word z r.world) choice l (Activity.Rebalance (Rebalance.Seek Seek.Take)) l'
  taking_way g = subst (Building z (word z r.world) choice l (Activity.Rebalance (Rebalance.Seek Seek.Take))) (sym g.next) (building z r.world.rows (word z r.world) s choice l (Activity.Rebalance (Rebalance.Seek Seek.Take)) tt)

  exchanging_way : Happens z r r' s choice l l' (Activity.Rebalance (Rebalance.Replace Replace.Exchange)) → Building z (word z r.world) choice l (Activity.Rebalance (Rebalance.Replace Replace.Exchange)) l'
  exchanging_way g = subst (Building z (word z r.world) choice l (Activity.Rebalance (Rebalance.Replace Replace.Exchange))) (sym g.next) (building z r.world.rows (word z r.world) s choice l (Activity.Rebalance (Rebalance.Replace Replace.Exchange)) tt)

  -- a row is replaced
  replaces_row : a ≡ Activity.Rebalance (Rebalance.Replace Replace.Exchange) → wins_after a l found c.wins ≡ c.wins + 1 → Goes
  replaces_row q w =
      let g = at (Activity.Rebalance (Rebalance.Replace Replace.Exchange)) q in
      let e = subst (λ b. found_at z (word z r.world) b s choice l ≡ link_word (unmarked_link (Some l.row))) q (found_by a l found c.wins q w) in
      let normal = won_turn z (word z r.world) choice 0 None l l' (exchanging_way g) (found_open g f.inv.shape e) in
      (taken limits (windows_of z r c before took), λ t. 0, wins_event z r r' s choice l l' g c f.known c' (counted_at (Activity.Rebalance (Rebalance.Replace Replace.Exchange)) q) (wins_are ∙ w) normal limits before took)

  -- none is
  module _ (same : wins_after a l found c.wins ≡ c.wins) (lasts : (q : ℕ) → IsLive r.ledger.rows q → IsLive r'.ledger.rows q) where
    unwon : (q : ℕ) → ComesNow (word z r.world) r.ledger.rows r'.ledger.rows s (length r.history.log) l a q → ⊥
    unwon q y = omega (arith, same, won_by a l found c.wins y.replaces (ap (λ b. found_at z (word z r.world) b s choice l) y.replaces ∙ y.won))

    found_not : a ≡ Activity.Rebalance (Rebalance.Replace Replace.Exchange) → link_of found ≡ Some (record { row = Some l.row; marked = false }) → ⊥
    found_not q e = omega (arith, same, won_by a l found c.wins q (sym (link_word_of found (unmarked_link (Some l.row)) e)))

    lasts_goes : Goes
    lasts_goes = which (is_taking a found)
      where
        which : (a ≡ Activity.Rebalance (Rebalance.Seek Seek.Take)) × (found ≡ state_word Free) ⊎ TakesNone a found → Goes
        which (inl q) =
            let g = at (Activity.Rebalance (Rebalance.Seek Seek.Take)) q.0 in
            let free = subst (λ b. found_at z (word z r.world) b s choice l ≡ state_word Free) q.0 q.1 in
            let one = taken_turn z (word z r.world) choice 0 None l l' (taking_way g) free in
            let no = subst (λ b. (x : ℕ) → ComesNow (word z r.world) r.ledger.rows r'.ledger.rows s (length r.history.log) l b x → ⊥) q.0 unwon in
            (before, one_more_at took s, takes_event z r r' s choice l l' g c f lasts no c' (counted_at (Activity.Rebalance (Rebalance.Seek Seek.Take)) q.0) (wins_are ∙ same) before took free one rows build table most few)
        which (inr n) = (before, took, one_event z r r' s choice l l' a h c f i' lasts unwon found_not c' counted (wins_are ∙ same) before took n limits plain plain' (turn z (word z r.world) choice c.wins (c.builds s).begun s l a l' h.arrow))

  pub any_event : Goes
  any_event = which (lives_or_wins a h f.inv.shape c.wins)
    where
      which : (a ≡ Activity.Rebalance (Rebalance.Replace Replace.Exchange)) × (wins_after a l found c.wins ≡ c.wins + 1) ⊎ (wins_after a l found c.wins ≡ c.wins) × ((q : ℕ) → IsLive r.ledger.rows q → IsLive r'.ledger.rows q) → Goes
      which (inl u) = replaces_row u.0 u.1
      which (inr u) = lasts_goes u.0 u.1
