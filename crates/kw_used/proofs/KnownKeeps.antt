-- What is known of the builds, by induction over the events.
use Rattle.std.proofs.Common.{ℕ, zero, suc, ◌≡◌, ◌≢◌, ◌⊎◌, inl, inr, ◌+◌, ◌==◌, ◌≤◌, Bool, true, false, None, Some, arith, refl, sym, ◌∙◌, ap, subst, slice_get, length, if◌then◌else◌, ne_eqb}
use Rattle.std.proofs.lemmas.Bool.{cases_eq}
use Rattle.kw_words.specs.declared.state.State.TheVariants.{Free}
use Rattle.kw_words.specs.State.{state_word}
use Rattle.kw_rows.specs.Ledger as fate
use Rattle.kw_rows.specs.Ledger.{Dead, Fate, IsDead, IsLive, Ledger, Live}
use Rattle.kw_world.specs.declared.activity.Activity.{Activity}
use Rattle.kw_world.specs.declared.activity.walk.Walk.TheVariants as Walk
use Rattle.kw_world.specs.declared.activity.rebalance.Rebalance.TheVariants as Rebalance
use Rattle.kw_world.specs.declared.activity.rebalance.replace.Replace.TheVariants as Replace
use Rattle.kw_world.specs.declared.activity.rebalance.seek.Seek.TheVariants as Seek
use Rattle.kw_world.specs.declared.event.Choice.{Choice}
use Rattle.kw_world.specs.declared.local.Local.{Local}
use Rattle.kw_world.specs.declared.opening.Opening.{Opening}
use Rattle.kw_world.specs.Sizes.{Sizes}
use Rattle.kw_world.specs.Step.{word}
use Rattle.kw_core.specs.Ledger.{ledger_at_first}
use Rattle.kw_core.specs.Run.{Run, start}
use Rattle.kw_core.proofs.Building.{IsBuilding}
use Rattle.kw_core.proofs.Happens.{Happens, each_seat, found_at}
use Rattle.kw_shape.specs.Shape.{Shape}
use Rattle.kw_shape.proofs.LinkedRows.{GoesNow, dead_before}
use Rattle.kw_shape.proofs.ShapeOpens.{each_rests}
use Rattle.kw_reads.specs.Contents.{HasRow}
use Rattle.kw_reads.proofs.Floors.{IsOnWay, row_from}
use Rattle.kw_counts.specs.Counts.{Builds, Counts, build_taking, builds_after, counts_after, has_begun, is_live, no_counts, walks_after, wins_after, with_at, with_build}
use Rattle.kw_counts.specs.Walks.{KeepsWalks}
use Rattle.kw_counts.proofs.BeforeKeep.{builds_other, builds_upto}
use Rattle.kw_counts.proofs.BeforeSteps.{IsBeginning}
use Rattle.kw_counts.proofs.LiveRows.{lives_or_wins}
use Rattle.kw_counts.proofs.Updates.{at_left, at_set}
use Rattle.kw_counts.proofs.WalksKeep.{walks_left, walks_now, walks_other}
use Rattle.kw_used.specs.Seats.{in_window}
use Rattle.kw_used.proofs.BuildMoves.{move_live, rows_on}
use Rattle.kw_used.proofs.Facts.{IsMoving, Known}

-- Windows.

-- what is counted of a build that takes a row is of this window, or was counted before
taking_window : (wins : ℕ) (live : Bool) (b : Builds) → b.window ≤ wins → (build_taking wins live b).window ≤ wins
taking_window wins live b o = saw (has_begun wins b.begun)
  where
    saw : (y : Bool) → (let x : Builds = if y then b else with_build wins live b in x).window ≤ wins
    saw true = o
    saw false = omega arith

set_window : (wins s : ℕ) (f : ℕ → Builds) (x : Builds) → ((t : ℕ) → (f t).window ≤ wins) → x.window ≤ wins → (t : ℕ) → (with_at f s x t).window ≤ wins
set_window wins s f x most new t = which (cases_eq t s)
  where
    which : (t ≡ s) ⊎ (t ≡ s → ⊥) → (with_at f s x t).window ≤ wins
    which (inl e) = omega (arith, ap (λ (b : Builds). b.window) (at_set f s x t e), new)
    which (inr d) = omega (arith, ap (λ (b : Builds). b.window) (at_left f s x t d), most t)

window_upto : (a : Activity) (s : ℕ) (l : Local) (found : ℕ) (g : Ledger) (wins : ℕ) (f : ℕ → Builds) → ((t : ℕ) → (f t).window ≤ wins) → (t : ℕ) → (builds_after a s l found g wins f t).window ≤ wins
window_upto (Activity.Rebalance (Rebalance.Gather b)) s l found g wins f most t = set_window wins s f (record (f s) { begun = None }) most (most s) t
window_upto (Activity.Rebalance (Rebalance.Seek Seek.Take)) s l found g wins f most t = saw (found == state_word Free)
  where
    saw : (b : Bool) → ((let h : ℕ → Builds = if b then with_at f s (build_taking wins (is_live (g.fates l.row).status) (f s)) else f in h) t).window ≤ wins
    saw true = set_window wins s f (build_taking wins (is_live (g.fates l.row).status) (f s)) most (taking_window wins (is_live (g.fates l.row).status) (f s) (most s)) t
    saw false = most t
window_upto _ s l found g wins f most t = most t

-- in a window that begins now nothing is counted
none_over : {A : Type 0} (n : ℕ) (b : Builds) (m : ℕ) → b.window ≤ n → 1 ≤ in_window (n + 1) b m → A
none_over n b m o u = let e : in_window (n + 1) b m ≡ 0 = rw (ne_eqb b.window (n + 1) (λ e. omega (arith, o, e))) refl in absurd (omega (arith, u, e))

-- Walks.

-- a seat that is on its way takes no row and replaces none, and begins a walk or is on one
record OnWay (a : Activity) (s : ℕ) (l : Local) (found : ℕ) (g : Ledger) (wins : ℕ) (f : ℕ → Builds) : Type 0 where
  builds : builds_after a s l found g wins f s ≡ f s
  walks : IsBeginning a ⊎ HasRow a × (IsBeginning a → ⊥)

on_way : (a : Activity) (s : ℕ) (l : Local) (found : ℕ) (g : Ledger) (wins : ℕ) (f : ℕ → Builds) → IsOnWay a → OnWay a s l found g wins f
on_way (Activity.Walk Walk.Start) s l found g wins f x = record { builds = refl; walks = inl tt }
on_way (Activity.Walk Walk.First) s l found g wins f x = record { builds = refl; walks = inl tt }
on_way (Activity.Rebalance b) s l found g wins f x = absurd x
on_way _ s l found g wins f x = record { builds = refl; walks = inr (x, λ y. y) }

-- One event.

module _ (z : Sizes) (r r' : Run) (s : ℕ) (choice : Choice) (l l' : Local) (a : Activity) (h : Happens z r r' s choice l l' a) (i : Shape z r) (c : Counts) (w : KeepsWalks z r.world c) (k : Known z r c) where
  abbrev found : ℕ
  found = found_at z (word z r.world) a s choice l

  abbrev wins : ℕ
  wins = wins_after a l found c.wins

  abbrev builds : ℕ → Builds
  builds = builds_after a s l found r.ledger.rows c.wins c.builds

  abbrev Lasts : Type 0
  Lasts = (wins ≡ c.wins) × ((q : ℕ) → IsLive r.ledger.rows q → IsLive r'.ledger.rows q)

  abbrev Won : Type 0
  Won = (a ≡ Activity.Rebalance (Rebalance.Replace Replace.Exchange)) × (wins ≡ c.wins + 1)

  -- a build is counted only in a window that lasts
  deads_last : (t : ℕ) → 1 ≤ in_window wins (builds t) (builds t).deads → Lasts
  deads_last t o = which (lives_or_wins a h i c.wins)
    where
      which : Won ⊎ Lasts → Lasts
      which (inl u) = none_over c.wins (builds t) (builds t).deads (window_upto a s l found r.ledger.rows c.wins c.builds k.window t) (subst (λ n. 1 ≤ in_window n (builds t) (builds t).deads) u.1 o)
      which (inr u) = u

  walks_keep : (t : ℕ) (m : Local) → slice_get r'.world.locals t ≡ Some m → HasRow m.activity → 1 ≤ in_window wins (builds t) (builds t).deads → walks_after a s c.wins c.walks t ≡ wins
  walks_keep = each_seat h (λ t m. HasRow m.activity → 1 ≤ in_window wins (builds t) (builds t).deads → walks_after a s c.wins c.walks t ≡ wins) own others
    where
      own : HasRow l'.activity → 1 ≤ in_window wins (builds s) (builds s).deads → walks_after a s c.wins c.walks s ≡ wins
      own x o = which y.walks ∙ sym u.0
        where
          u : Lasts
          u = deads_last s o

          y : OnWay a s l found r.ledger.rows c.wins c.builds
          y = on_way a s l found r.ledger.rows c.wins c.builds (row_from z (word z r.world) s choice l a l' h.arrow x).0

          was : 1 ≤ in_window c.wins (c.builds s) (c.builds s).deads
          was = subst (λ (b : Builds). 1 ≤ in_window c.wins b b.deads) y.builds (subst (λ n. 1 ≤ in_window n (builds s) (builds s).deads) u.0 o)

          which : IsBeginning a ⊎ HasRow a × (IsBeginning a → ⊥) → walks_after a s c.wins c.walks s ≡ c.wins
          which (inl b) = walks_now a s c.wins c.walks b
          which (inr b) = walks_left a s c.wins c.walks s b.1 ∙ k.walks s l h.knows (subst HasRow (sym h.activity) b.0) was

      others : (t : ℕ) (m : Local) → t ≢ s → slice_get r.world.locals t ≡ Some m → HasRow m.activity → 1 ≤ in_window wins (builds t) (builds t).deads → walks_after a s c.wins c.walks t ≡ wins
      others t m d g x o =
          let u = deads_last t o in
          let was = subst (λ (b : Builds). 1 ≤ in_window c.wins b b.deads) (builds_other a s l found r.ledger.rows c.wins c.builds t d) (subst (λ n. 1 ≤ in_window n (builds t) (builds t).deads) u.0 o) in
          walks_other a s c.wins c.walks t d ∙ k.walks t m g x was ∙ sym u.0

  -- a build that has taken a row in this window has taken it in one that lasts
  begun_lasts : (t : ℕ) → (builds t).begun ≡ Some wins → Lasts
  begun_lasts t e = which (lives_or_wins a h i c.wins)
    where
      which : Won ⊎ Lasts → Lasts
      which (inl u) = absurd (omega (arith, u.1, builds_upto a s l found r.ledger.rows c.wins c.builds k.begun t wins e))
      which (inr u) = u

  moves_keep : (t : ℕ) (m : Local) → slice_get r'.world.locals t ≡ Some m → IsMoving m.activity m → (builds t).begun ≡ Some wins → IsLive r'.ledger.rows m.row
  moves_keep = each_seat h (λ t m. IsMoving m.activity m → (builds t).begun ≡ Some wins → IsLive r'.ledger.rows m.row) own others
    where
      own : IsMoving l'.activity l' → (builds s).begun ≡ Some wins → IsLive r'.ledger.rows l'.row
      own x e = let u = begun_lasts s e in u.1 l'.row (move_live z r r' s choice l l' a h c k i w x (e ∙ ap Some u.0))

      others : (t : ℕ) (m : Local) → t ≢ s → slice_get r.world.locals t ≡ Some m → IsMoving m.activity m → (builds t).begun ≡ Some wins → IsLive r'.ledger.rows m.row
      others t m d g x e =
          let u = begun_lasts t e in
          let same = ap (λ (b : Builds). b.begun) (builds_other a s l found r.ledger.rows c.wins c.builds t d) in
          u.1 m.row (k.moves t m g x (sym same ∙ e ∙ ap Some u.0))

  none_keeps : (t : ℕ) (m : Local) → slice_get r'.world.locals t ≡ Some m → IsBuilding m.activity → (builds t).begun ≡ None → length m.rebalance.taken ≡ 0
  none_keeps = each_seat h (λ t m. IsBuilding m.activity → (builds t).begun ≡ None → length m.rebalance.taken ≡ 0)
      (λ x e. rows_on z r r' s choice l l' a h c k x e)
      (λ t m d g x e. k.none t m g x (sym (ap (λ (b : Builds). b.begun) (builds_other a s l found r.ledger.rows c.wins c.builds t d)) ∙ e))

  grows : c.wins ≤ wins
  grows = which (lives_or_wins a h i c.wins)
    where
      which : Won ⊎ Lasts → c.wins ≤ wins
      which (inl u) = omega (arith, u.1)
      which (inr u) = omega (arith, u.0)

  gone_keeps : (q : ℕ) → IsDead r'.ledger.rows q → 1 ≤ wins
  gone_keeps q d = which (dead_before a h i q d) (lives_or_wins a h i c.wins)
    where
      which : IsDead r.ledger.rows q × (r'.ledger.rows.fates q ≡ r.ledger.rows.fates q) ⊎ GoesNow r.ledger.rows r'.ledger.rows s (length r.history.log) q → Won ⊎ Lasts → 1 ≤ wins
      which (inl x) u = omega (arith, k.gone q x.0, grows)
      which (inr x) (inl u) = omega (arith, u.1)
      which (inr x) (inr u) = let y : Live ≡ Dead = sym (u.1 q x.live) ∙ d in absurd (cc)

  pub known_keeps : Known z r' (counts_after a s l found r.ledger.rows c)
  known_keeps = record {
    walks = walks_keep;
    moves = moves_keep;
    none = none_keeps;
    window = λ t. omega (arith, window_upto a s l found r.ledger.rows c.wins c.builds k.window t, grows);
    begun = λ t n e. omega (arith, builds_upto a s l found r.ledger.rows c.wins c.builds k.begun t n e, grows);
    gone = gone_keeps;
  }

-- Where a run begins no build is counted, and no row has gone.
pub known_start : (z : Sizes) (o : Opening) → Known z (start z o) no_counts
known_start z o = record {
  walks = each_rests z o (λ t m. HasRow m.activity → 1 ≤ 0 → 0 ≡ 0) (λ t x e. refl);
  moves = each_rests z o (λ t m. IsMoving m.activity m → None ≡ Some 0 → IsLive (ledger_at_first o).rows m.row) (λ t x. absurd x);
  none = each_rests z o (λ t m. IsBuilding m.activity → None ≡ None → length m.rebalance.taken ≡ 0) (λ t x. absurd x);
  window = λ t. omega arith;
  begun = λ t n e. let x : None ≡ Some n = e in absurd (cc);
  gone = never;
}
  where
    never : (q : ℕ) → IsDead (ledger_at_first o).rows q → 1 ≤ 0
    never zero d = let x : Live ≡ Dead = d in absurd (cc)
    never (suc q) d = let x : fate.Free ≡ Dead = d in absurd (cc)
