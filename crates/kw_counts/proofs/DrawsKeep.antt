-- The clock is that of the opening and the draws, and a seat draws at most once for each wait of a
-- scan, by induction over the events.
--
-- A seat that has drawn for the present wait of a scan is about to settle it, for no seat looks at
-- a scan that still waits but to draw for it. So one that looks at a waiting scan has not drawn for
-- that wait, and nor has it when it draws.
use Rattle.std.proofs.Common.{ℕ, ◌≡◌, ◌≢◌, ◌⊎◌, inl, inr, ◌+◌, ◌<◌, ◌≤◌, Some, arith, refl, sym, ◌∙◌, ap, subst, slice_get}
use Rattle.std.proofs.lemmas.Bool.{cases_eq}
use Rattle.kw_words.specs.declared.layout.Name.TheVariants as name
use Rattle.kw_words.specs.declared.scan.ScanWord.TheVariants.{Quiet, Waiting, Drawn}
use Rattle.kw_words.specs.Scan.{scan_of, scan_word}
use Rattle.kw_words.proofs.ScanWords.{scan_word_of}
use Rattle.kw_world.specs.declared.activity.Activity.{Activity}
use Rattle.kw_world.specs.declared.activity.draw.Draw.TheVariants as Draw
use Rattle.kw_world.specs.declared.activity.rebalance.freeze.Freeze.TheVariants as Freeze
use Rattle.kw_world.specs.declared.activity.rebalance.Rebalance.TheVariants as Rebalance
use Rattle.kw_world.specs.declared.event.Choice.{Choice}
use Rattle.kw_world.specs.declared.local.Local.{Local}
use Rattle.kw_world.specs.declared.opening.Opening.{Opening}
use Rattle.kw_world.specs.Opening.{IsOpening}
use Rattle.kw_world.specs.Sane.{IsActivity}
use Rattle.kw_world.specs.Sizes.{Sizes}
use Rattle.kw_world.specs.Step.{word}
use Rattle.kw_core.specs.Run.{Run, start}
use Rattle.kw_core.proofs.Frame.{unwritten}
use Rattle.kw_core.proofs.FreezeFrame.{DrawsVersion, clock_stays, helper_raises}
use Rattle.kw_core.proofs.Happens.{Happens, each_seat, exchanged}
use Rattle.kw_shape.proofs.ShapeOpens.{all_resting, opens}
use Rattle.kw_puts.specs.Positions.{Draws as ScanDraws, HasLoaded, HelpsScan, IsHelped}
use Rattle.kw_puts.proofs.Helpers.{ScanStep, is_kept, begins_to_wait, waits_no_more, scan_step}
use Rattle.kw_puts.proofs.OwnScans.{loaded_from}
use Rattle.kw_reads.specs.Inv.{Inv, lower}
use Rattle.kw_counts.specs.Counts.{Draws, draws_after, no_draws, with_draw}
use Rattle.kw_counts.specs.Draws.{all_draws}
use Rattle.kw_counts.proofs.ScanDraws.{HelpsNow, has_drawn, has_looked, drawing_for, helps_now, looking, settling_for}
use Rattle.kw_counts.proofs.Updates.{at_left, at_set, cases_pair, more_at, none_drawn, one_draw_more, pair_left, pair_set}

-- What is kept.

-- seat t has drawn for the scan of seat i, and is about to settle it
abbrev IsToSettle : ℕ → ℕ → Activity → Type 0
IsToSettle t i (Activity.Draw Draw.Settle) = t ≡ i
IsToSettle t i (Activity.Rebalance (Rebalance.Freeze (Freeze.Settle j))) = i ≡ j
IsToSettle t i _ = ⊥

-- a seat is about to draw for its own scan, or for that of seat i
abbrev IsToDraw : Activity → Type 0
IsToDraw (Activity.Draw Draw.Version) = Unit {0}
IsToDraw _ = ⊥

abbrev IsToHelp : ℕ → Activity → Type 0
IsToHelp i (Activity.Rebalance (Rebalance.Freeze (Freeze.Draw j))) = i ≡ j
IsToHelp i _ = ⊥

-- a seat that helps the scan of seat i does so for one of its waits, and has drawn for none after
-- that; nor for this one where it is about to draw. Where the scan still waits as it did then, it
-- is since the clock that the seat saw
record Helped (z : Sizes) (r : Run) (d : Draws) (t : ℕ) (k : Local) (i : ℕ) : Type 0 where
  upto : d.last t i ≤ d.looked t
  looked : d.looked t ≤ d.waits i
  behind : IsToHelp i k.activity → d.last t i < d.looked t
  same : (clock : ℕ) → word z r.world (name.Scan i) ≡ scan_word (Waiting clock) → d.looked t ≡ d.waits i → clock ≡ k.rebalance.waiting

-- a seat draws for later and later waits of a scan; where it has drawn for the last one, and the
-- scan still waits, it is about to settle it
pub record Drawing (z : Sizes) (o : Opening) (r : Run) (d : Draws) : Type 0 where
  pub clock : word z r.world name.Clock ≡ o.clock + all_draws z d
  pub once : (t i : ℕ) → d.drew t i ≤ d.last t i
  pub past : (t i : ℕ) → d.last t i ≤ d.waits i
  settles : (t : ℕ) (k : Local) → slice_get r.world.locals t ≡ Some k → (i clock : ℕ) → i < z.seats → word z r.world (name.Scan i) ≡ scan_word (Waiting clock) → d.last t i ≡ d.waits i → IsToSettle t i k.activity
  draws : (t : ℕ) (k : Local) → slice_get r.world.locals t ≡ Some k → IsToDraw k.activity → d.last t t < d.waits t
  helps : (t : ℕ) (k : Local) → slice_get r.world.locals t ≡ Some k → (i : ℕ) → HelpsScan i k.activity → Helped z r d t k i

-- a word that says what was drawn does not say that a scan waits
drawn_not : (u clock : ℕ) → scan_word (Drawn u) ≢ scan_word (Waiting clock)
drawn_not u clock e = omega (arith, e)

-- a scan waits since one clock
one_clock : (b c : ℕ) → scan_word (Waiting b) ≡ scan_word (Waiting c) → b ≡ c
one_clock b c e = omega (arith, e)

-- a seat helps a scan of the table
helped_within : (z : Sizes) (i : ℕ) (a : Activity) → HelpsScan i a → IsActivity z a → i < z.seats
helped_within z i (Activity.Rebalance (Rebalance.Freeze (Freeze.Draw j))) x w = subst (λ q. q < z.seats) (sym x) w
helped_within z i (Activity.Rebalance (Rebalance.Freeze (Freeze.Settle j))) x w = subst (λ q. q < z.seats) (sym x) w
helped_within z i _ x w = absurd x

draw_loaded : (a : Activity) → IsToDraw a → HasLoaded a
draw_loaded (Activity.Draw Draw.Version) x = tt
draw_loaded _ x = absurd x

-- What an event leaves.

-- seats that do not draw leave what was drawn last
last_left : (a : Activity) (s : ℕ) (d : Draws) (t i : ℕ) → (DrawsVersion a → ⊥) → (draws_after a s d).last t i ≡ d.last t i
last_left (Activity.Draw Draw.Version) s d t i n = absurd (n tt)
last_left (Activity.Rebalance (Rebalance.Freeze (Freeze.Draw j))) s d t i n = absurd (n tt)
last_left _ s d t i n = refl

-- and a seat that does not act draws nothing, and looks at nothing
last_other : (a : Activity) (s : ℕ) (d : Draws) (t i : ℕ) → t ≢ s → (draws_after a s d).last t i ≡ d.last t i
last_other (Activity.Draw Draw.Version) s d t i n = pair_left d.last s s (d.waits s) t i (λ e k. n e)
last_other (Activity.Rebalance (Rebalance.Freeze (Freeze.Draw j))) s d t i n = pair_left d.last s j (d.looked s) t i (λ e k. n e)
last_other _ s d t i n = refl

looked_other : (a : Activity) (s : ℕ) (d : Draws) (t : ℕ) → t ≢ s → (draws_after a s d).looked t ≡ d.looked t
looked_other (Activity.Draw Draw.Version) s d t n = refl
looked_other (Activity.Rebalance (Rebalance.Freeze (Freeze.Scan j))) s d t n = at_left d.looked s (d.waits j) t n
looked_other _ s d t n = refl

-- one more wait is counted where a scan begins to wait
waits_left : (a : Activity) (s : ℕ) (d : Draws) (i : ℕ) → (i ≡ s → a ≢ Activity.Draw Draw.Wait) → (draws_after a s d).waits i ≡ d.waits i
waits_left (Activity.Draw Draw.Wait) s d i n = at_left d.waits s (d.waits s + 1) i (λ e. n e refl)
waits_left (Activity.Rebalance (Rebalance.Freeze (Freeze.Draw j))) s d i n = refl
waits_left _ s d i n = refl

waits_more : (a : Activity) (s : ℕ) (d : Draws) (i : ℕ) → i ≡ s → a ≡ Activity.Draw Draw.Wait → (draws_after a s d).waits i ≡ d.waits i + 1
waits_more a s d i e is = subst (λ b. (draws_after b s d).waits i ≡ d.waits i + 1) (sym is) (at_set d.waits s (d.waits s + 1) i e ∙ ap (λ q. d.waits q + 1) (sym e))

waits_grow : (a : Activity) (s : ℕ) (d : Draws) (i : ℕ) → d.waits i ≤ (draws_after a s d).waits i
waits_grow (Activity.Draw Draw.Wait) s d i = more_at d.waits s i
waits_grow (Activity.Rebalance (Rebalance.Freeze (Freeze.Draw j))) s d i = omega arith
waits_grow _ s d i = omega arith

-- a scan that waits after an event began to wait with it, or waited before it since the same clock
data Waits (z : Sizes) (r : Run) (s : ℕ) (a : Activity) (i clock : ℕ) : Type 0 where
  begins : i ≡ s → a ≡ Activity.Draw Draw.Wait → Waits z r s a i clock
  waited : word z r.world (name.Scan i) ≡ scan_word (Waiting clock) → (i ≡ s → a ≢ Activity.Draw Draw.Wait) → Waits z r s a i clock

-- One event.

module _ (z : Sizes) (o : Opening) (r r' : Run) (s : ℕ) (choice : Choice) (l l' : Local) (a : Activity) (h : Happens z r r' s choice l l' a) (v : Inv z r) (d : Draws) (x : Drawing z o r d) where
  waits : (i clock : ℕ) → i < z.seats → word z r'.world (name.Scan i) ≡ scan_word (Waiting clock) → Waits z r s a i clock
  waits i clock w e = which (scan_step z r r' s choice l l' (lower v) a h i w)
    where
      which : ScanStep z r r' s l a i → Waits z r s a i clock
      which (is_kept f n) = waited (sym f ∙ e) n
      which (begins_to_wait q is f) = begins q is
      which (waits_no_more n f) = absurd (n clock e)

  -- what is known of the seat that acts
  within : (i : ℕ) (b : Activity) → Happens z r r' s choice l l' b → HelpsScan i b → i < z.seats
  within i b g y = helped_within z i b y (subst (IsActivity z) g.activity (v.shape.sane.locals s l g.knows).ranges.activity)

  own_settles : (b : Activity) → Happens z r r' s choice l l' b → (i clock : ℕ) → i < z.seats → word z r.world (name.Scan i) ≡ scan_word (Waiting clock) → d.last s i ≡ d.waits i → IsToSettle s i b
  own_settles b g i clock w e f = subst (IsToSettle s i) g.activity (x.settles s l g.knows i clock w e f)

  own_helps : (b : Activity) → Happens z r r' s choice l l' b → (i : ℕ) → HelpsScan i b → Helped z r d s l i
  own_helps b g i y = x.helps s l g.knows i (subst (HelpsScan i) (sym g.activity) y)

  -- The clock.

  clock_keeps : word z r'.world name.Clock ≡ o.clock + all_draws z (draws_after a s d)
  clock_keeps = by a h
    where
      by : (b : Activity) → Happens z r r' s choice l l' b → word z r'.world name.Clock ≡ o.clock + all_draws z (draws_after b s d)
      by (Activity.Draw Draw.Version) g =
          let up : word z r'.world name.Clock ≡ word z r.world name.Clock + 1 = g.changed.same in
          omega (arith, up, x.clock, one_draw_more z d s s (d.waits s) g.seat g.seat)
      by (Activity.Rebalance (Rebalance.Freeze (Freeze.Draw i))) g = omega (arith, helper_raises i g, x.clock, one_draw_more z d s i (d.looked s) g.seat (within i _ g refl))
      by b g = clock_stays b g (λ y. y) ∙ x.clock

  -- For which wait a seat drew last.

  once_keeps : (t i : ℕ) → (draws_after a s d).drew t i ≤ (draws_after a s d).last t i
  once_keeps t i = by a h
    where
      draws_once : (j wait : ℕ) → d.last s j < wait → (with_draw s j wait d).drew t i ≤ (with_draw s j wait d).last t i
      draws_once j wait below = which (cases_pair t s i j)
        where
          which : ((t ≡ s) × (i ≡ j)) ⊎ (t ≡ s → i ≡ j → ⊥) → (with_draw s j wait d).drew t i ≤ (with_draw s j wait d).last t i
          which (inl p) = omega (arith, pair_set d.drew s j (d.drew s j + 1) t i p.0 p.1, pair_set d.last s j wait t i p.0 p.1, x.once s j, below)
          which (inr n) = omega (arith, pair_left d.drew s j (d.drew s j + 1) t i n, pair_left d.last s j wait t i n, x.once t i)

      by : (b : Activity) → Happens z r r' s choice l l' b → (draws_after b s d).drew t i ≤ (draws_after b s d).last t i
      by (Activity.Draw Draw.Version) g = draws_once s (d.waits s) (x.draws s l g.knows (subst IsToDraw (sym g.activity) tt))
      by (Activity.Rebalance (Rebalance.Freeze (Freeze.Draw j))) g = draws_once j (d.looked s) ((own_helps _ g j refl).behind (subst (IsToHelp j) (sym g.activity) refl))
      by b g = x.once t i

  past_keeps : (t i : ℕ) → (draws_after a s d).last t i ≤ (draws_after a s d).waits i
  past_keeps t i = by a h
    where
      draws_past : (j wait : ℕ) → wait ≤ d.waits j → (with_draw s j wait d).last t i ≤ d.waits i
      draws_past j wait most = which (cases_pair t s i j)
        where
          which : ((t ≡ s) × (i ≡ j)) ⊎ (t ≡ s → i ≡ j → ⊥) → (with_draw s j wait d).last t i ≤ d.waits i
          which (inl p) = omega (arith, pair_set d.last s j wait t i p.0 p.1, most, ap d.waits p.1)
          which (inr n) = omega (arith, pair_left d.last s j wait t i n, x.past t i)

      by : (b : Activity) → Happens z r r' s choice l l' b → (draws_after b s d).last t i ≤ (draws_after b s d).waits i
      by (Activity.Draw Draw.Wait) g = omega (arith, x.past t i, more_at d.waits s i)
      by (Activity.Draw Draw.Version) g = draws_past s (d.waits s) (omega arith)
      by (Activity.Rebalance (Rebalance.Freeze (Freeze.Draw j))) g = draws_past j (d.looked s) (own_helps _ g j refl).looked
      by b g = x.past t i

  -- Who has drawn for the present wait.

  settles_keeps : (t : ℕ) (k : Local) → slice_get r'.world.locals t ≡ Some k → (i clock : ℕ) → i < z.seats → word z r'.world (name.Scan i) ≡ scan_word (Waiting clock) → (draws_after a s d).last t i ≡ (draws_after a s d).waits i → IsToSettle t i k.activity
  settles_keeps = each_seat h (λ t k. (i clock : ℕ) → i < z.seats → word z r'.world (name.Scan i) ≡ scan_word (Waiting clock) → (draws_after a s d).last t i ≡ (draws_after a s d).waits i → IsToSettle t i k.activity) own others
    where
      -- for a wait that begins nobody has
      begins_not : {A : Type 0} (t i : ℕ) → (draws_after a s d).last t i ≡ d.last t i → i ≡ s → a ≡ Activity.Draw Draw.Wait → (draws_after a s d).last t i ≡ (draws_after a s d).waits i → A
      begins_not t i kept q is f = absurd (omega (arith, f, kept, waits_more a s d i q is, x.past t i))

      others : (t : ℕ) (k : Local) → t ≢ s → slice_get r.world.locals t ≡ Some k → (i clock : ℕ) → i < z.seats → word z r'.world (name.Scan i) ≡ scan_word (Waiting clock) → (draws_after a s d).last t i ≡ (draws_after a s d).waits i → IsToSettle t i k.activity
      others t k n g i clock w e f = which (waits i clock w e)
        where
          which : Waits z r s a i clock → IsToSettle t i k.activity
          which (begins q is) = begins_not t i (last_other a s d t i n) q is f
          which (waited u m) = x.settles t k g i clock w u (sym (last_other a s d t i n) ∙ f ∙ waits_left a s d i m)

      own : (i clock : ℕ) → i < z.seats → word z r'.world (name.Scan i) ≡ scan_word (Waiting clock) → (draws_after a s d).last s i ≡ (draws_after a s d).waits i → IsToSettle s i l'.activity
      own i clock w e f = which (waits i clock w e)
        where
          -- a scan that is settled waits no more
          settled_own : Happens z r r' s choice l l' (Activity.Draw Draw.Settle) → word z r.world (name.Scan i) ≡ scan_word (Waiting clock) → s ≡ i → ⊥
          settled_own g u q = which (p.waits tt)
            where
              p : ScanDraws (word z r.world) r.history s (r.ledger.waits s) (r.settled s) (Activity.Draw Draw.Settle) l (r.seats s)
              p = subst (λ b. ScanDraws (word z r.world) r.history s (r.ledger.waits s) (r.settled s) b l (r.seats s)) g.activity (v.positions.draws s l g.knows)

              which : (word z r.world (name.Scan s) ≡ scan_word (Waiting l.waiting)) ⊎ IsHelped (word z r.world) r.history s (r.ledger.waits s) (r.settled s) → ⊥
              which (inl c) = drawn_not l.drawn clock (sym (exchanged _ _ _ _ g.changed.same c) ∙ subst (λ j. word z r'.world (name.Scan j) ≡ scan_word (Waiting clock)) (sym q) e)
              which (inr c) = drawn_not c.version clock (sym c.word ∙ subst (λ j. word z r.world (name.Scan j) ≡ scan_word (Waiting clock)) (sym q) u)

          settled_helped : (j : ℕ) → Happens z r r' s choice l l' (settling_for j) → word z r.world (name.Scan i) ≡ scan_word (Waiting clock) → d.last s i ≡ d.waits i → i ≡ j → ⊥
          settled_helped j g u y q =
              let p = own_helps _ g i q in
              let since : clock ≡ l.rebalance.waiting = p.same clock u (omega (arith, y, p.upto, p.looked)) in
              let found : word z r.world (name.Scan j) ≡ scan_word (Waiting l.rebalance.waiting) = ap (λ m. word z r.world (name.Scan m)) (sym q) ∙ u ∙ ap (λ m. scan_word (Waiting m)) since in
              drawn_not l.rebalance.drawn clock (sym (exchanged _ _ _ _ g.changed.same found) ∙ ap (λ m. word z r'.world (name.Scan m)) (sym q) ∙ e)

          by : (b : Activity) → Happens z r r' s choice l l' b → word z r.world (name.Scan i) ≡ scan_word (Waiting clock) → (draws_after b s d).last s i ≡ d.waits i → IsToSettle s i l'.activity
          by (Activity.Draw Draw.Version) g u y = draws (cases_eq i s)
            where
              draws : (i ≡ s) ⊎ (i ≡ s → ⊥) → IsToSettle s i l'.activity
              draws (inl q) = subst (IsToSettle s i) (sym (ap (λ (k : Local). k.activity) g.next)) (sym q)
              draws (inr n) = absurd (own_settles _ g i clock w u (sym (pair_left d.last s s (d.waits s) s i (λ p q. n q)) ∙ y))
          by (Activity.Rebalance (Rebalance.Freeze (Freeze.Draw j))) g u y = draws (cases_eq i j)
            where
              draws : (i ≡ j) ⊎ (i ≡ j → ⊥) → IsToSettle s i l'.activity
              draws (inl q) = subst (IsToSettle s i) (sym (ap (λ (k : Local). k.activity) g.next)) q
              draws (inr n) = absurd (own_settles _ g i clock w u (sym (pair_left d.last s j (d.looked s) s i (λ p q. n q)) ∙ y))
          by (Activity.Draw Draw.Settle) g u y = absurd (settled_own g u (own_settles _ g i clock w u y))
          by (Activity.Rebalance (Rebalance.Freeze (Freeze.Settle j))) g u y = absurd (settled_helped j g u y (own_settles _ g i clock w u y))
          by b g u y = absurd (own_settles b g i clock w u y)

          which : Waits z r s a i clock → IsToSettle s i l'.activity
          which (begins q is) = begins_not s i (last_left a s d s i (subst (λ b. DrawsVersion b → ⊥) (sym is) (λ y. y))) q is f
          which (waited u m) = by a h u (f ∙ waits_left a s d i m)

  -- a scan that is about to draw has not drawn for this wait
  draws_keeps : (t : ℕ) (k : Local) → slice_get r'.world.locals t ≡ Some k → IsToDraw k.activity → (draws_after a s d).last t t < (draws_after a s d).waits t
  draws_keeps = each_seat h (λ t k. IsToDraw k.activity → (draws_after a s d).last t t < (draws_after a s d).waits t) own (λ t k n g y. omega (arith, x.draws t k g y, last_other a s d t t n, waits_grow a s d t))
    where
      own : IsToDraw l'.activity → (draws_after a s d).last s s < (draws_after a s d).waits s
      own y = which (loaded_from z (word z r.world) s choice l a l' h.arrow (draw_loaded l'.activity y))
        where
          which : ((a ≡ Activity.Draw Draw.Clock) × (l' ≡ record l { waiting = word z r.world name.Clock; activity = Activity.Draw Draw.Wait })) ⊎ ((a ≡ Activity.Draw Draw.Wait) × (l' ≡ record l { activity = Activity.Draw Draw.Version })) → (draws_after a s d).last s s < (draws_after a s d).waits s
          which (inl p) = absurd (subst (λ (k : Local). IsToDraw k.activity) p.1 y)
          which (inr p) = omega (arith, x.past s s, last_left a s d s s (subst (λ b. DrawsVersion b → ⊥) (sym p.0) (λ q. q)), waits_more a s d s refl p.0)

  -- Seats that help.

  helps_keeps : (t : ℕ) (k : Local) → slice_get r'.world.locals t ≡ Some k → (i : ℕ) → HelpsScan i k.activity → Helped z r' (draws_after a s d) t k i
  helps_keeps = each_seat h (λ t k. (i : ℕ) → HelpsScan i k.activity → Helped z r' (draws_after a s d) t k i) own others
    where
      others : (t : ℕ) (k : Local) → t ≢ s → slice_get r.world.locals t ≡ Some k → (i : ℕ) → HelpsScan i k.activity → Helped z r' (draws_after a s d) t k i
      others t k n g i y = record {
        upto = omega (arith, u.upto, last_other a s d t i n, looked_other a s d t n);
        looked = omega (arith, u.looked, looked_other a s d t n, waits_grow a s d i);
        behind = λ b. omega (arith, u.behind b, last_other a s d t i n, looked_other a s d t n);
        same = λ clock e f. which clock f (waits i clock (helped_within z i k.activity y (v.shape.sane.locals t k g).ranges.activity) e);
      }
        where
          u : Helped z r d t k i
          u = x.helps t k g i y

          which : (clock : ℕ) → (draws_after a s d).looked t ≡ (draws_after a s d).waits i → Waits z r s a i clock → clock ≡ k.rebalance.waiting
          which clock f (begins q is) = absurd (omega (arith, f, looked_other a s d t n, waits_more a s d i q is, u.looked))
          which clock f (waited e m) = u.same clock e (sym (looked_other a s d t n) ∙ f ∙ waits_left a s d i m)

      own : (i : ℕ) → HelpsScan i l'.activity → Helped z r' (draws_after a s d) s l' i
      own i y = which (helps_now z (word z r.world) s choice l a l' i h.arrow y)
        where
          w : i < z.seats
          w = helps_in (helps_now z (word z r.world) s choice l a l' i h.arrow y)
            where
              helps_in : HelpsNow (word z r.world) l a l' i → i < z.seats
              helps_in (has_looked since is e k) = subst (IsActivity z) (h.activity ∙ is) (v.shape.sane.locals s l h.knows).ranges.activity
              helps_in (has_drawn is to k) = subst (IsActivity z) (h.activity ∙ is) (v.shape.sane.locals s l h.knows).ranges.activity

          looks : (since : ℕ) → Happens z r r' s choice l l' (looking i) → scan_of (word z r.world (name.Scan i)) ≡ Some (Waiting since) → l'.rebalance.waiting ≡ since → Helped z r' (draws_after (looking i) s d) s l' i
          looks since g e k = record {
            upto = omega (arith, x.past s i, now);
            looked = omega (arith, now);
            behind = λ b. omega (arith, x.past s i, now, not_yet (cases_eq (d.last s i) (d.waits i)));
            same = λ clock f q. one_clock clock since (sym f ∙ g.changed.loaded refl (name.Scan i) ∙ was) ∙ sym k;
          }
            where
              was : word z r.world (name.Scan i) ≡ scan_word (Waiting since)
              was = sym (scan_word_of _ (Waiting since) e)

              now : (draws_after (looking i) s d).looked s ≡ d.waits i
              now = at_set d.looked s (d.waits i) s refl

              not_yet : (d.last s i ≡ d.waits i) ⊎ (d.last s i ≡ d.waits i → ⊥) → d.last s i ≢ d.waits i
              not_yet (inl q) = absurd (own_settles _ g i since w was q)
              not_yet (inr n) = n

          draws : Happens z r r' s choice l l' (drawing_for i) → l'.activity ≡ settling_for i → l'.rebalance.waiting ≡ l.rebalance.waiting → Helped z r' (draws_after (drawing_for i) s d) s l' i
          draws g to k = record {
            upto = omega (arith, pair_set d.last s i (d.looked s) s i refl refl);
            looked = u.looked;
            behind = λ b. absurd (subst (IsToHelp i) to b);
            same = λ clock f q. u.same clock (sym (unwritten (drawing_for i) g (name.Scan i) w (λ c. cc)) ∙ f) q ∙ sym k;
          }
            where
              u : Helped z r d s l i
              u = own_helps _ g i refl

          which : HelpsNow (word z r.world) l a l' i → Helped z r' (draws_after a s d) s l' i
          which (has_looked since is e k) = subst (λ b. Helped z r' (draws_after b s d) s l' i) (sym is) (looks since (subst (Happens z r r' s choice l l') is h) e k)
          which (has_drawn is to k) = subst (λ b. Helped z r' (draws_after b s d) s l' i) (sym is) (draws (subst (Happens z r r' s choice l l') is h) to k)

  pub drawing_keeps : Drawing z o r' (draws_after a s d)
  drawing_keeps = record {
    clock = clock_keeps;
    once = once_keeps;
    past = past_keeps;
    settles = settles_keeps;
    draws = draws_keeps;
    helps = helps_keeps;
  }

-- Where a run begins no scan waits, and no seat makes a call.
pub drawing_start : (z : Sizes) (o : Opening) → IsOpening z o → Drawing z o (start z o) no_draws
drawing_start z o opening = record {
  clock = omega (arith, opens z o opening name.Clock tt, none_drawn z);
  once = λ t i. omega arith;
  past = λ t i. omega arith;
  settles = λ t k g i clock w e f. let quiet : scan_word Quiet ≡ scan_word (Waiting clock) = sym (opens z o opening (name.Scan i) w) ∙ e in absurd (omega (arith, quiet));
  draws = λ t k g y. absurd (subst (λ (m : Local). IsToDraw m.activity) (all_resting o.seats t k g) y);
  helps = λ t k g i y. absurd (subst (λ (m : Local). HelpsScan i m.activity) (all_resting o.seats t k g) y);
}
