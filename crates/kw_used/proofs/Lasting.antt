-- An event that replaces no row, as one of the laws of windows: what they see of the rows stays,
-- and of the seats but for the one that acts.
use Rattle.std.proofs.Common.{ℕ, ◌≡◌, ◌≢◌, ◌⊎◌, inl, inr, Bool, Option, refl, sym, ◌∙◌, ap, subst, length, eq-eqb, ne_eqb}
use Rattle.std.proofs.lemmas.Bool.{and_parts, cases_eq}
use Rattle.kw_words.specs.declared.state.State.TheVariants.{Free}
use Rattle.kw_words.specs.State.{state_word}
use Rattle.kw_rows.specs.Ledger.{IsLive, Ledger}
use Rattle.kw_windows.specs.Builders.{Builder, Stage, at_stage}
use Rattle.kw_windows.specs.Windows.{Limits, Windows}
use Rattle.kw_windows.specs.Events.{Counts, Event, Goes, UsesNone, Within, rests}
use Rattle.kw_world.specs.declared.activity.Activity.{Activity}
use Rattle.kw_world.specs.declared.activity.rebalance.Rebalance.TheVariants as Rebalance
use Rattle.kw_world.specs.declared.activity.rebalance.seek.Seek.TheVariants as Seek
use Rattle.kw_world.specs.declared.event.Choice.{Choice}
use Rattle.kw_world.specs.declared.local.Local.{Local}
use Rattle.kw_world.specs.Sizes.{Sizes}
use Rattle.kw_world.specs.Step.{word}
use Rattle.kw_core.specs.Run.{Run}
use Rattle.kw_core.proofs.Happens.{Happens, found_at, knows_next, knows_other}
use Rattle.kw_shape.proofs.LinkedRows.{ComesNow}
use Rattle.kw_reads.specs.Inv.{Inv}
use Rattle.kw_counts.specs.Counts as ledger
use Rattle.kw_counts.specs.Counts.{Builds, build_taking, builds_after, counts_after, ever_after, is_live, with_at}
use Rattle.kw_counts.proofs.BeforeKeep.{builds_other}
use Rattle.kw_used.specs.Seats.{builder_at, builder_of, held_at, in_window, stage_at, windows_of}
use Rattle.kw_used.proofs.RowsStay.{leads_same, least_same, live_same}
use Rattle.kw_used.proofs.Turns.{begun_after}

-- What an event counts that takes no row.

-- the event takes no row
abbrev pub TakesNone : Activity → ℕ → Type 0
TakesNone a found = a ≡ Activity.Rebalance (Rebalance.Seek Seek.Take) → found ≢ state_word Free

-- no row comes into use
pub ever_same : (a : Activity) (l : Local) (found : ℕ) (f : ℕ → Bool) (q : ℕ) → TakesNone a found → ever_after a l found f q ≡ f q
ever_same (Activity.Rebalance (Rebalance.Seek Seek.Take)) l found f q n = rw (ne_eqb found (state_word Free) (n refl)) refl
ever_same _ l found f q n = refl

-- no build is counted, and the build at hand took rows when it did
pub record CountsNone (wins : ℕ) (begun : Option ℕ) (b b' : Builds) : Type 0 where
  pub begun_is : b'.begun ≡ begun
  pub lives : in_window wins b' b'.lives ≡ in_window wins b b.lives
  pub deads : in_window wins b' b'.deads ≡ in_window wins b b.deads

pub counts_none : (a : Activity) (s : ℕ) (l : Local) (found : ℕ) (g : Ledger) (wins : ℕ) (f : ℕ → Builds) → TakesNone a found → CountsNone wins (begun_after a (f s).begun) (f s) (builds_after a s l found g wins f s)
counts_none (Activity.Rebalance (Rebalance.Gather b)) s l found g wins f n = rw (eq-eqb s s refl) (record { begun_is = refl; lives = refl; deads = refl })
counts_none (Activity.Rebalance (Rebalance.Seek Seek.Take)) s l found g wins f n = rw (ne_eqb found (state_word Free) (n refl)) (record { begun_is = refl; lives = refl; deads = refl })
counts_none _ s l found g wins f n = record { begun_is = refl; lives = refl; deads = refl }

-- a builder, by its parts
abbrev builder : Stage → ℕ → ℕ → ℕ → ℕ → Builder
builder a h l d t = record { stage = a; held = h; lives = l; deads = d; taken = t }

-- builders that agree in each part
pub eq_builder : (a a' : Stage) (h h' l l' d d' t t' : ℕ) → a' ≡ a → h' ≡ h → l' ≡ l → d' ≡ d → t' ≡ t → builder a' h' l' d' t' ≡ builder a h l d t
eq_builder a a' h h' l l' d d' t t' e f g i j = rw (e, f, g, i, j) refl

pub eq_seat : (wins wins' : ℕ) (b b' : Builds) (t t' : ℕ) (x x' : Option Local) → wins' ≡ wins → b' ≡ b → t' ≡ t → x' ≡ x → builder_of wins' b' t' x' ≡ builder_of wins b t x
eq_seat wins wins' b b' t t' x x' e f g i = rw (e, f, g, i) refl

-- One event that replaces no row.

module _ (z : Sizes) (r r' : Run) (s : ℕ) (choice : Choice) (l l' : Local) (a : Activity) (h : Happens z r r' s choice l l' a) (v : Inv z r)
    (lasts : (q : ℕ) → IsLive r.ledger.rows q → IsLive r'.ledger.rows q) (unwon : (q : ℕ) → ComesNow (word z r.world) r.ledger.rows r'.ledger.rows s (length r.history.log) l a q → ⊥)
    (c c' : ledger.Counts) (counted : c' ≡ counts_after a s l (found_at z (word z r.world) a s choice l) r.ledger.rows c) (same_wins : c'.wins ≡ c.wins) (before : ℕ) (taken taken' : ℕ → ℕ) where
  abbrev w : Windows
  w = windows_of z r c before taken

  abbrev w' : Windows
  w' = windows_of z r' c' before taken'

  abbrev found : ℕ
  found = found_at z (word z r.world) a s choice l

  pub within : Within w w'
  within = record {
    live = live_same z r r' s choice l l' a h v lasts unwon;
    linked = λ x e. (and_parts _ _ e).0;
    leads = leads_same z r r' s choice l l' a h v lasts unwon;
    least = least_same z r r' s choice l l' a h v lasts unwon;
    wins = same_wins;
    before = refl;
  }

  -- the seats that do not act
  pub others : ((u : ℕ) → u ≢ s → taken' u ≡ taken u) → (u : ℕ) → u ≢ s → w'.seats u ≡ w.seats u
  others same u d = eq_seat c.wins c'.wins (c.builds u) (c'.builds u) (taken u) (taken' u) _ _ same_wins (ap (λ (x : ledger.Counts). x.builds u) counted ∙ builds_other a s l found r.ledger.rows c.wins c.builds u d) (same u d) (knows_other h u d)

  -- the one that does, before the event and after it
  pub was : w.seats s ≡ builder_at (stage_at c.wins (c.builds s).begun a l) (length l.rebalance.taken) c.wins (c.builds s) (taken s)
  was = ap (builder_of c.wins (c.builds s) (taken s)) h.knows ∙ ap (λ b. builder_at (stage_at c.wins (c.builds s).begun b l) (length l.rebalance.taken) c.wins (c.builds s) (taken s)) h.activity

  pub is : w'.seats s ≡ builder_at (stage_at c.wins (c'.builds s).begun l'.activity l') (length l'.rebalance.taken) c.wins (c'.builds s) (taken' s)
  is = eq_seat c.wins c'.wins (c'.builds s) (c'.builds s) (taken' s) (taken' s) _ _ same_wins refl refl (knows_next h)

  pub counts_to : ((u : ℕ) → u ≢ s → taken' u ≡ taken u) → (x : Builder) → w'.seats s ≡ x → Counts w w' s x
  counts_to same x e = record { within = within; own = e; others = others same }

  -- It takes no row.
  module _ (none : TakesNone a found) (same : (u : ℕ) → taken' u ≡ taken u) where
    uses_none : UsesNone w w'
    uses_none x e = sym (ap (λ (y : ledger.Counts). y.ever x) counted ∙ ever_same a l found c.ever x none) ∙ e

    builds : CountsNone c.wins (begun_after a (c.builds s).begun) (c.builds s) (c'.builds s)
    builds = subst (λ (y : ledger.Counts). CountsNone c.wins (begun_after a (c.builds s).begun) (c.builds s) (y.builds s)) (sym counted) (counts_none a s l found r.ledger.rows c.wins c.builds none)

    -- the seat is at this stage now
    abbrev stage : Stage
    stage = stage_at c.wins (begun_after a (c.builds s).begun) l'.activity l'

    stage_is : stage_at c.wins (c'.builds s).begun l'.activity l' ≡ stage
    stage_is = ap (λ b. stage_at c.wins b l'.activity l') builds.begun_is

    -- it stays at its stage
    pub rests_event : (n : Limits) → stage ≡ stage_at c.wins (c.builds s).begun a l → held_at stage (length l'.rebalance.taken) ≡ held_at (stage_at c.wins (c.builds s).begun a l) (length l.rebalance.taken) → Event n w w'
    rests_event n e f = rests (record { within = within; seats = seats; used = uses_none })
      where
        own : w'.seats s ≡ w.seats s
        own = is ∙ eq_builder _ _ _ _ _ _ _ _ _ _ (stage_is ∙ e) (ap (λ b. held_at b (length l'.rebalance.taken)) stage_is ∙ f) builds.lives builds.deads (same s) ∙ sym was

        seats : (u : ℕ) → w'.seats u ≡ w.seats u
        seats u = which (cases_eq u s)
          where
            which : (u ≡ s) ⊎ (u ≡ s → ⊥) → w'.seats u ≡ w.seats u
            which (inl e) = subst (λ t. w'.seats t ≡ w.seats t) (sym e) own
            which (inr d) = others (λ t m. same t) u d

    -- it goes to a stage at which it holds no rows
    pub goes : (y : Stage) → stage ≡ y → ((n : ℕ) → held_at y n ≡ 0) → Goes w w' s y
    goes y e f = record {
      counts = counts_to (λ u d. same u) (at_stage y (w.seats s)) (is ∙ eq_builder _ _ _ _ _ _ _ _ _ _ (stage_is ∙ e) (ap (λ b. held_at b (length l'.rebalance.taken)) (stage_is ∙ e) ∙ f (length l'.rebalance.taken)) builds.lives builds.deads (same s) ∙ sym (ap (at_stage y) was));
      used = uses_none;
    }

    -- the stage at which it was
    pub stage_was : (w.seats s).stage ≡ stage_at c.wins (c.builds s).begun a l
    stage_was = ap (λ (b : Builder). b.stage) was
