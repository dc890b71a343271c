-- A seat replaces its row: a window is over, and the seats are counted anew.
use Rattle.std.proofs.Common.{ℕ, ◌≡◌, ◌≢◌, ◌+◌, ◌≤◌, Bool, true, false, Option, None, Some, arith, refl, sym, ◌∙◌, ap, slice_get, length, ne_eqb}
use Rattle.kw_model.specs.declared.call.Call.{Call}
use Rattle.kw_windows.specs.Builders.{Asking, Building, Elsewhere, Refused, Stage, anew, at_stage, stage_anew}
use Rattle.kw_windows.specs.Windows.{Limits, Windows, taken}
use Rattle.kw_windows.specs.Events.{Event, wins}
use Rattle.kw_world.specs.declared.activity.Activity.{Activity}
use Rattle.kw_world.specs.declared.activity.rebalance.Rebalance.TheVariants as Rebalance
use Rattle.kw_world.specs.declared.activity.rebalance.replace.Replace.TheVariants as Replace
use Rattle.kw_world.specs.declared.answer.Answer.{Answer}
use Rattle.kw_world.specs.declared.answer.Answer.TheVariants as answer
use Rattle.kw_world.specs.declared.event.Choice.{Choice}
use Rattle.kw_world.specs.declared.local.Local.{Local}
use Rattle.kw_world.specs.ReplaceTransitions.{replaced_link}
use Rattle.kw_world.specs.Sizes.{Sizes}
use Rattle.kw_world.specs.Step.{word}
use Rattle.kw_core.specs.Run.{Run}
use Rattle.kw_core.specs.Stages.{is_put}
use Rattle.kw_core.proofs.Happens.{Happens, knows_next, knows_other}
use Rattle.kw_counts.specs.Counts as ledger
use Rattle.kw_counts.specs.Counts.{Builds, counts_after}
use Rattle.kw_used.specs.Seats.{builder_of, building, held_at, in_window, leaving, refusing, stage_at, windows_of}
use Rattle.kw_used.proofs.Facts.{Known}

-- a number of builds is none in a window that begins now
over : (n : ℕ) (b : Builds) (m : ℕ) → b.window ≤ n → in_window (n + 1) b m ≡ 0
over n b m o = rw (ne_eqb b.window (n + 1) (λ e. omega (arith, o, e))) refl

-- a build that goes on has taken no row there
building_anew : (n r : ℕ) (begun : Option ℕ) → ((m : ℕ) → begun ≡ Some m → m ≤ n) → building (n + 1) r begun ≡ stage_anew (building n r begun)
building_anew n r None upto = refl
building_anew n r (Some m) upto = ap (Building r) (ne_eqb m (n + 1) (λ e. omega (arith, upto m refl, e)))

refusing_anew : (b : Bool) → refusing b ≡ stage_anew (refusing b)
refusing_anew true = refl
refusing_anew false = refl

leaving_anew : (a : Answer) (c : Option Call) → leaving a c ≡ stage_anew (leaving a c)
leaving_anew answer.NoRows c = refusing_anew (is_put c)
leaving_anew answer.Spent c = refusing_anew (is_put c)
leaving_anew _ c = refl

stage_begins : (n : ℕ) (begun : Option ℕ) (a : Activity) (l : Local) → ((m : ℕ) → begun ≡ Some m → m ≤ n) → stage_at (n + 1) begun a l ≡ stage_anew (stage_at n begun a l)
stage_begins n begun (Activity.Rebalance (Rebalance.Seek _)) l upto = building_anew n l.row begun upto
stage_begins n begun (Activity.Rebalance (Rebalance.Write _)) l upto = building_anew n l.row begun upto
stage_begins n begun (Activity.Rebalance (Rebalance.Replace Replace.Start)) l upto = building_anew n l.row begun upto
stage_begins n begun (Activity.Rebalance (Rebalance.Replace Replace.GuessedLeast)) l upto = building_anew n l.row begun upto
stage_begins n begun (Activity.Rebalance (Rebalance.Replace Replace.First)) l upto = building_anew n l.row begun upto
stage_begins n begun (Activity.Rebalance (Rebalance.Replace Replace.Next)) l upto = building_anew n l.row begun upto
stage_begins n begun (Activity.Rebalance (Rebalance.Replace Replace.NextLeast)) l upto = building_anew n l.row begun upto
stage_begins n begun (Activity.Rebalance (Rebalance.Replace Replace.Exchange)) l upto = building_anew n l.row begun upto
stage_begins n begun (Activity.Leave a) l upto = leaving_anew a l.call
stage_begins n begun _ l upto = refl

held_anew : (a : Stage) (m : ℕ) → held_at (stage_anew a) m ≡ held_at a m
held_anew Elsewhere m = refl
held_anew Refused m = refl
held_anew (Asking r) m = refl
held_anew (Building r b) m = refl

seat_begins : (n t : ℕ) (b : Builds) (x : Option Local) → b.window ≤ n → ((m : ℕ) → b.begun ≡ Some m → m ≤ n) → builder_of (n + 1) b 0 x ≡ anew (builder_of n b t x)
seat_begins n t b (Some l) o upto =
    let e = stage_begins n b.begun l.activity l upto in
    rw (e, held_anew (stage_at n b.begun l.activity l) (length l.rebalance.taken), over n b b.lives o, over n b b.deads o) refl
seat_begins n t b None o upto = rw (over n b b.lives o, over n b b.deads o) refl

module _ (z : Sizes) (r r' : Run) (s : ℕ) (choice : Choice) (l l' : Local) (h : Happens z r r' s choice l l' (Activity.Rebalance (Rebalance.Replace Replace.Exchange))) (c : ledger.Counts) (known : Known z r c)
    (c' : ledger.Counts) (counted : c' ≡ counts_after (Activity.Rebalance (Rebalance.Replace Replace.Exchange)) s l (word z r.world (replaced_link l.rebalance.before)) r.ledger.rows c) (one_more : c'.wins ≡ c.wins + 1) (normal : l'.activity ≡ Activity.Rebalance (Rebalance.Replace Replace.Normalise)) (n : Limits) (before : ℕ) (rows : ℕ → ℕ) where
  abbrev w : Windows
  w = windows_of z r c before rows

  abbrev w' : Windows
  w' = windows_of z r' c' (taken n w) (λ t. 0)

  same : (u : ℕ) → c'.builds u ≡ c.builds u
  same u = ap (λ (y : ledger.Counts). y.builds u) counted

  others : (u : ℕ) → u ≢ s → w'.seats u ≡ anew (w.seats u)
  others u d = rw (one_more, same u, knows_other h u d) (seat_begins c.wins (rows u) (c.builds u) (slice_get r.world.locals u) (known.window u) (known.begun u))

  own : w'.seats s ≡ at_stage Elsewhere (anew (w.seats s))
  own = rw (one_more, same s, knows_next h, normal, over c.wins (c.builds s) (c.builds s).lives (known.window s), over c.wins (c.builds s) (c.builds s).deads (known.window s)) refl

  pub wins_event : Event n w w'
  wins_event = wins s (record { own = own; others = others; used = λ x e. sym (ap (λ (y : ledger.Counts). y.ever x) counted) ∙ e; wins = one_more; before = refl })
