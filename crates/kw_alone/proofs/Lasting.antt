-- A seat that makes all events ends its call: by three turns at most it comes to where all rows
-- that it names are in the list, and from there a triple falls with each of its events.
use Rattle.std.proofs.Common.{ℕ, suc, ◌≡◌, ◌⊎◌, inl, inr, ◌+◌, ◌*◌, ◌<◌, ◌≤◌, ◌++◌, ◌∷◌, [], true, List, arith, refl, sym, ◌∙◌, ap, subst, length}
use Rattle.kw_rows.specs.Ledger.{Ledger, IsLive}
use Rattle.kw_windows.specs.Triples.{IsWithin, Triple, weight}
use Rattle.kw_windows.specs.Triples as triples
use Rattle.kw_windows.proofs.Falling.{weighs_less, weighs_most}
use Rattle.kw_world.specs.declared.activity.Activity.{Activity}
use Rattle.kw_world.specs.declared.activity.rebalance.Rebalance.TheVariants as Rebalance
use Rattle.kw_world.specs.declared.activity.rebalance.engage.Engage.TheVariants as Engage
use Rattle.kw_world.specs.declared.activity.rebalance.replace.Replace.TheVariants as Replace
use Rattle.kw_world.specs.declared.activity.walk.Walk.TheVariants as Walk
use Rattle.kw_world.specs.declared.event.Event.{Event}
use Rattle.kw_world.specs.declared.local.Local.{Local}
use Rattle.kw_world.specs.declared.opening.Opening.{Opening}
use Rattle.kw_world.specs.Opening.{IsOpening}
use Rattle.kw_world.specs.Sizes.{Sizes, product}
use Rattle.kw_world.specs.Step.{word}
use Rattle.kw_world.specs.WalkTransitions.{offered}
use Rattle.kw_world.specs.WorldView.{WorldView}
use Rattle.kw_core.specs.Events.{is_valid, local_of, world}
use Rattle.kw_core.specs.Run.{history}
use Rattle.kw_core.specs.Stages.{IsBalancing}
use Rattle.kw_core.specs.Words.{Words}
use Rattle.kw_core.proofs.Events.{valid_front}
use Rattle.kw_core.proofs.Runs.{history-world}
use Rattle.kw_shape.proofs.Worlds.{shape_holds, world-rows}
use Rattle.kw_alone.specs.Alone.{EndsAt, IsEnd, activity_after, left_after}
use Rattle.kw_alone.specs.Clean.{FollowsNone, IsClean, KnowsLeader}
use Rattle.kw_alone.specs.Falls.{events_to_end, most_rest, most_to_end}
use Rattle.kw_alone.specs.Marks.{AreOf, IsMark, ends, wins, moves}
use Rattle.kw_alone.specs.Steady.{AreSteady, IsSteady, triple_after}
use Rattle.kw_alone.proofs.Bounding.{few_to_end, most_falls, turns_and_falls}
use Rattle.kw_alone.proofs.Clearing.{IsLeftStart, StaysClean, moves_clean}
use Rattle.kw_alone.proofs.Knowing.{both_hold}
use Rattle.kw_alone.proofs.Steadying.{steady_falls, steady_within}
use Rattle.kw_alone.proofs.Turning.{Made, comes_behind, comes_here, falls_after, here_valid, made, more_valid, most_after, seat_inside}
use Rattle.kw_alone.proofs.Unfollowed.{follows_on, knows_leader, leader_follows_none, none_left}

-- Marks.

-- a mark ends the call, has replaced a row, or begins the rebalance of another one
sort_mark : (a b : Activity) → IsMark a b → IsEnd a b ⊎ (b ≡ Activity.Rebalance (Rebalance.Replace Replace.Normalise)) ⊎ IsBalancing a × (b ≡ Activity.Rebalance (Rebalance.Engage Engage.Clock))
sort_mark a b (ends answer) = inl (answer, refl)
sort_mark a b wins = inr (inl refl)
sort_mark a b (moves d at) = inr (inr (at, refl))

-- What is asked of a measure.

-- The worlds from which on a triple of the seat falls: those at the beginning of a walk, where a
-- row has been replaced, and at a full row that is in the list. In them all its events lower the
-- triple, but for the last one of its call.
pub record Measures (z : Sizes) (o : Opening) (s : ℕ) (good : List Event → Type 0) (triple : List Event → Triple) : Type 0 where
  pub begins : (es : List Event) → is_valid z o es ≡ true → activity_after z o s es ≡ Activity.Walk Walk.Start → good es
  pub wins : (es : List Event) → is_valid z o es ≡ true → activity_after z o s es ≡ Activity.Rebalance (Rebalance.Replace Replace.Normalise) → good es
  pub moves : (es : List Event) → is_valid z o es ≡ true → activity_after z o s es ≡ Activity.Rebalance (Rebalance.Engage Engage.Clock) → IsLive (history z o es).ledger.rows (local_of (world z o es) s).row → good es
  pub falls : (es : List Event) (e : Event) → is_valid z o (es ++ e ∷ []) ≡ true → e.seat ≡ s → good es → IsEnd (activity_after z o s es) (activity_after z o s (es ++ e ∷ [])) ⊎ good (es ++ e ∷ []) × triples.Falls (triple es) (triple (es ++ e ∷ []))
  pub few : (es : List Event) → is_valid z o es ≡ true → s < o.seats → (triple es).wins ≤ o.rows + 1
  pub within : (es : List Event) → is_valid z o es ≡ true → s < o.seats → IsWithin o.rows (2 * most_rest z o.rows) (triple es)

-- One event.

-- what is known of it where the seat goes along rows of the list, over the words and the ledger
-- after it
abbrev ClearGoes : Words → Ledger → Local → Local → Type 0
ClearGoes v g l k = StaysClean g l.activity k × KnowsLeader v k.activity k × (IsLeftStart l.activity → k.activity ≡ Activity.Rebalance (Rebalance.Engage Engage.Clock) → FollowsNone v k.activity k)

-- and where it goes left of no row besides
abbrev LedGoes : Words → Ledger → Local → Local → Type 0
LedGoes v g l k = StaysClean g l.activity k × (IsMark l.activity k.activity ⊎ (k.activity ≡ Activity.Walk Walk.Start) ⊎ FollowsNone v k.activity k)

module _ (z : Sizes) (o : Opening) (opening : IsOpening z o) (es : List Event) (e : Event) (ok : is_valid z o (es ++ e ∷ []) ≡ true) where
  abbrev v : Words
  v = word z (history z o es).world

  abbrev v' : Words
  v' = word z (history z o (es ++ e ∷ [])).world

  abbrev g : Ledger
  g = (history z o es).ledger.rows

  abbrev g' : Ledger
  g' = (history z o (es ++ e ∷ [])).ledger.rows

  before : is_valid z o es ≡ true
  before = valid_front z o es (e ∷ []) ok

  clear_made : (m : Made z o es e) → IsClean g m.local.activity m.local × KnowsLeader v m.local.activity m.local → ClearGoes v' g' m.local m.next
  clear_made m c =
      let h = m.happens in
      let b = both_hold z o opening es before in
      let i = b.inv.shape in
      let rows = history z o es in
      let rows' = history z o (es ++ e ∷ []) in
      let choice = offered (history z o es).world.rows e.choice in (
        moves_clean z rows rows' e.seat choice m.local m.local.activity m.next h.arrow h i (b.known.taken e.seat m.local h.knows) c.0,
        knows_leader z rows rows' e.seat choice m.local m.local.activity m.next h.arrow h i b.known.leaders,
        λ x u. leader_follows_none z rows rows' e.seat choice m.local m.local.activity m.next h.arrow h x c.1 u,
      )

  led_made : (m : Made z o es e) → IsClean g m.local.activity m.local × FollowsNone v m.local.activity m.local → LedGoes v' g' m.local m.next
  led_made m c =
      let h = m.happens in
      let b = both_hold z o opening es before in
      let rows = history z o es in
      let rows' = history z o (es ++ e ∷ []) in
      let choice = offered (history z o es).world.rows e.choice in (
        moves_clean z rows rows' e.seat choice m.local m.local.activity m.next h.arrow h b.inv.shape (b.known.taken e.seat m.local h.knows) c.0,
        follows_on z rows rows' e.seat choice m.local m.local.activity m.next h.arrow h c.1,
      )

  -- what holds of what the seat knows before and after it holds so after the lists
  over : (s : ℕ) → e.seat ≡ s → (P : Local → Type 0) (Q : Local → Local → Type 0) → ((m : Made z o es e) → P m.local → Q m.local m.next) → P (local_of (world z o es) s) → Q (local_of (world z o es) s) (local_of (world z o (es ++ e ∷ [])) s)
  over s own P Q f p =
      let m = made z o es e opening ok in
      let was : local_of (world z o es) s ≡ m.local = subst (λ n. local_of (world z o es) n ≡ m.local) own m.was in
      let is : local_of (world z o (es ++ e ∷ [])) s ≡ m.next = subst (λ n. local_of (world z o (es ++ e ∷ [])) n ≡ m.next) own m.is in
      subst (λ (x : Local). Q (local_of (world z o es) s) x) (sym is) (subst (λ (x : Local). Q x m.next) (sym was) (f m (subst P was p)))

-- The way to such a world.

module _ (z : Sizes) (o : Opening) (s : ℕ) (good : List Event → Type 0) (triple : List Event → Triple) where
  -- how high the seat stands: at any world, from which it has three turns at most; where it goes
  -- along rows of the list, with two; where it goes left of none, with one; and where the triple
  -- falls
  abbrev AreClear : List Event → Type 0
  AreClear es = IsClean (history z o es).ledger.rows (activity_after z o s es) (local_of (world z o es) s) × KnowsLeader (word z (history z o es).world) (activity_after z o s es) (local_of (world z o es) s)

  abbrev AreLed : List Event → Type 0
  AreLed es = IsClean (history z o es).ledger.rows (activity_after z o s es) (local_of (world z o es) s) × FollowsNone (word z (history z o es).world) (activity_after z o s es) (local_of (world z o es) s)

  abbrev Height : List Event → ℕ → Type 0
  Height es n =
      (left_after z o s es + 1 + 2 * (most_rest z o.rows + 1) + most_falls z o.rows ≤ n) ⊎ AreClear es × (left_after z o s es + 1 + (most_rest z o.rows + 1) + most_falls z o.rows ≤ n) ⊎ AreLed es × (left_after z o s es + 1 + most_falls z o.rows ≤ n) ⊎ good es × (weight o.rows (2 * most_rest z o.rows) (triple es) < n)

  -- the event is the last of the call, or the seat stands lower after it
  abbrev Lowers : List Event → Event → ℕ → Type 0
  Lowers es e n = IsEnd (activity_after z o s es) (activity_after z o s (es ++ e ∷ [])) ⊎ (m : ℕ) × (m < n) × Height (es ++ e ∷ []) m

  module _ (opening : IsOpening z o) (m : Measures z o s good triple) (es : List Event) (e : Event) (ok : is_valid z o (es ++ e ∷ []) ≡ true) (own : e.seat ≡ s) where
    abbrev next : List Event
    next = es ++ e ∷ []

    inside : s < o.seats
    inside = subst (λ n. n < o.seats) own (made z o es e opening ok).seat

    few : left_after z o s next ≤ most_rest z o.rows
    few = most_after z o next s opening ok inside

    -- it falls, as the events of all seats do
    falls : IsMark (activity_after z o s es) (activity_after z o s next) ⊎ (activity_after z o s next ≡ Activity.Walk Walk.Start) ⊎ (left_after z o s next < left_after z o s es)
    falls = subst (λ n. IsMark (activity_after z o n es) (activity_after z o n next) ⊎ (activity_after z o n next ≡ Activity.Walk Walk.Start) ⊎ (left_after z o n next < left_after z o n es)) own (falls_after z o es e opening ok)

    -- it comes to a world from which the triple falls
    arrives : (n : ℕ) → most_falls z o.rows < n → good next → Lowers es e n
    arrives n less g = inr (most_falls z o.rows, less, inr (inr (inr (g, weighs_most o.rows (2 * most_rest z o.rows) (o.rows + 1) (triple next) (m.few next ok inside) (m.within next ok inside)))))

    -- it is a mark
    marks : (n : ℕ) → most_falls z o.rows < n → (IsBalancing (activity_after z o s es) → activity_after z o s next ≡ Activity.Rebalance (Rebalance.Engage Engage.Clock) → Lowers es e n) → IsMark (activity_after z o s es) (activity_after z o s next) → Lowers es e n
    marks n less moved k = which (sort_mark (activity_after z o s es) (activity_after z o s next) k)
      where
        which : IsEnd (activity_after z o s es) (activity_after z o s next) ⊎ (activity_after z o s next ≡ Activity.Rebalance (Rebalance.Replace Replace.Normalise)) ⊎ IsBalancing (activity_after z o s es) × (activity_after z o s next ≡ Activity.Rebalance (Rebalance.Engage Engage.Clock)) → Lowers es e n
        which (inl x) = inl x
        which (inr (inl x)) = arrives n less (m.wins next ok x)
        which (inr (inr x)) = moved x.0 x.1

    -- a mark, the beginning of a walk, or an event that lowers what the seat has left
    turns : (n : ℕ) → most_falls z o.rows < n → (IsBalancing (activity_after z o s es) → activity_after z o s next ≡ Activity.Rebalance (Rebalance.Engage Engage.Clock) → Lowers es e n) → (left_after z o s next < left_after z o s es → Lowers es e n) → Lowers es e n
    turns n less moved fell = which falls
      where
        which : IsMark (activity_after z o s es) (activity_after z o s next) ⊎ (activity_after z o s next ≡ Activity.Walk Walk.Start) ⊎ (left_after z o s next < left_after z o s es) → Lowers es e n
        which (inl k) = marks n less moved k
        which (inr (inl b)) = arrives n less (m.begins next ok b)
        which (inr (inr k)) = fell k

    -- at its new full row it knows no leader and has no row before
    far_on : (n : ℕ) → left_after z o s es + 1 + 2 * (most_rest z o.rows + 1) + most_falls z o.rows ≤ n → Lowers es e n
    far_on n h = turns n (omega (arith, h)) moved (λ k. inr (left_after z o s next + 1 + 2 * (most_rest z o.rows + 1) + most_falls z o.rows, omega (arith, h, k), inl (omega arith)))
      where
        moved : IsBalancing (activity_after z o s es) → activity_after z o s next ≡ Activity.Rebalance (Rebalance.Engage Engage.Clock) → Lowers es e n
        moved at c =
            let clean = subst (λ a. IsClean (history z o next).ledger.rows a (local_of (world z o next) s) × KnowsLeader (word z (history z o next).world) a (local_of (world z o next) s)) (sym c) (tt, tt) in
            inr (left_after z o s next + 1 + (most_rest z o.rows + 1) + most_falls z o.rows, omega (arith, h, few), inr (inl (clean, omega arith)))

    clear_on : (n : ℕ) → AreClear es → left_after z o s es + 1 + (most_rest z o.rows + 1) + most_falls z o.rows ≤ n → Lowers es e n
    clear_on n c h =
        which (over z o opening es e ok s own (λ (l : Local). IsClean (history z o es).ledger.rows l.activity l × KnowsLeader (word z (history z o es).world) l.activity l) (ClearGoes (word z (history z o next).world) (history z o next).ledger.rows) (clear_made z o opening es e ok) c)
      where
        less : most_falls z o.rows < n
        less = omega (arith, h)

        which : ClearGoes (word z (history z o next).world) (history z o next).ledger.rows (local_of (world z o es) s) (local_of (world z o next) s) → Lowers es e n
        which (inl (k, live), knows, led) = marks n less (λ at b. moved (live b) b) k
          where
            moved : IsLeftStart (activity_after z o s es) ⊎ IsLive (history z o next).ledger.rows (local_of (world z o next) s).row → activity_after z o s next ≡ Activity.Rebalance (Rebalance.Engage Engage.Clock) → Lowers es e n
            moved (inr x) b = arrives n less (m.moves next ok b x)
            moved (inl x) b =
                let clean = subst (λ a. IsClean (history z o next).ledger.rows a (local_of (world z o next) s)) (sym b) tt in
                inr (left_after z o s next + 1 + most_falls z o.rows, omega (arith, h, few), inr (inr (inl ((clean, led x b), omega arith))))
        which (inr (clean, remains), knows, led) = turns n less (λ at b. absurd (remains at b)) (λ k. inr (left_after z o s next + 1 + (most_rest z o.rows + 1) + most_falls z o.rows, omega (arith, h, k), inr (inl ((clean, knows), omega arith))))

    led_on : (n : ℕ) → AreLed es → left_after z o s es + 1 + most_falls z o.rows ≤ n → Lowers es e n
    led_on n c h =
        which (over z o opening es e ok s own (λ (l : Local). IsClean (history z o es).ledger.rows l.activity l × FollowsNone (word z (history z o es).world) l.activity l) (LedGoes (word z (history z o next).world) (history z o next).ledger.rows) (led_made z o opening es e ok) c)
      where
        less : most_falls z o.rows < n
        less = omega (arith, h)

        which : LedGoes (word z (history z o next).world) (history z o next).ledger.rows (local_of (world z o es) s) (local_of (world z o next) s) → Lowers es e n
        which (inl (k, live), on) = marks n less (λ at b. moved (live b) b) k
          where
            moved : IsLeftStart (activity_after z o s es) ⊎ IsLive (history z o next).ledger.rows (local_of (world z o next) s).row → activity_after z o s next ≡ Activity.Rebalance (Rebalance.Engage Engage.Clock) → Lowers es e n
            moved (inr x) b = arrives n less (m.moves next ok b x)
            moved (inl x) b = absurd (none_left (word z (history z o es).world) (activity_after z o s es) (local_of (world z o es) s) x c.1)
        which (inr (clean, remains), inl k) = marks n less (λ at b. absurd (remains at b)) k
        which (inr (clean, remains), inr (inl b)) = arrives n less (m.begins next ok b)
        which (inr (clean, remains), inr (inr none)) = turns n less (λ at b. absurd (remains at b)) (λ k. inr (left_after z o s next + 1 + most_falls z o.rows, omega (arith, h, k), inr (inr (inl ((clean, none), omega arith)))))

    near_on : (n : ℕ) → good es → weight o.rows (2 * most_rest z o.rows) (triple es) < n → Lowers es e n
    near_on n g h = which (m.falls es e ok own g)
      where
        which : IsEnd (activity_after z o s es) (activity_after z o s next) ⊎ good next × triples.Falls (triple es) (triple next) → Lowers es e n
        which (inl x) = inl x
        which (inr x) = inr (weight o.rows (2 * most_rest z o.rows) (triple es), h, inr (inr (inr (x.0, weighs_less o.rows (2 * most_rest z o.rows) (triple es) (triple next) (m.within next ok inside) x.1))))

    lowers : (n : ℕ) → Height es n → Lowers es e n
    lowers n (inl h) = far_on n h
    lowers n (inr (inl h)) = clear_on n h.0 h.1
    lowers n (inr (inr (inl h))) = led_on n h.0 h.1
    lowers n (inr (inr (inr h))) = near_on n h.0 h.1

  -- nobody stands at no height
  none_at_rest : (es : List Event) (n : ℕ) → Height es n → n ≤ 0 → ⊥
  none_at_rest es n (inl h) less = omega (arith, h, less)
  none_at_rest es n (inr (inl h)) less = omega (arith, h.1, less)
  none_at_rest es n (inr (inr (inl h))) less = omega (arith, h.1, less)
  none_at_rest es n (inr (inr (inr h))) less = omega (arith, h.1, less)

  -- so it ends its call before its height is used up
  module _ (opening : IsOpening z o) (m : Measures z o s good triple) where
    ends_within : (xs ys : List Event) → is_valid z o (xs ++ ys) ≡ true → AreOf s ys → (n : ℕ) → Height xs n → n ≤ length ys → (i : ℕ) × EndsAt z o s xs ys i
    ends_within xs [] ok of n h less = absurd (none_at_rest xs n h less)
    ends_within xs (e ∷ ys) ok of n h less = which (lowers opening m xs e (here_valid z o xs e ys ok) own n h) (ends_within (xs ++ e ∷ []) ys (more_valid z o xs e ys ok) (λ k d w. of (suc k) d (omega (arith, w))))
      where
        own : e.seat ≡ s
        own = of 0 e (omega arith)

        which : Lowers xs e n → ((k : ℕ) → Height (xs ++ e ∷ []) k → k ≤ length ys → (i : ℕ) × EndsAt z o s (xs ++ e ∷ []) ys i) → (i : ℕ) × EndsAt z o s xs (e ∷ ys) i
        which (inl x) more = (0, comes_here IsEnd z o s xs e ys own (subst (λ q. IsEnd (activity_after z o q xs) (activity_after z o q (xs ++ e ∷ []))) (sym own) x))
        which (inr x) more = let t = more x.0 x.2 (omega (arith, x.1, less)) in (suc t.0, comes_behind IsEnd z o s xs e ys t.0 t.1)

    call_ends : (xs ys : List Event) → is_valid z o (xs ++ ys) ≡ true → AreOf s ys → events_to_end z o.rows ≤ length ys → (i : ℕ) × EndsAt z o s xs ys i
    call_ends xs [] ok of less = absurd (omega (arith, less, turns_and_falls z o.rows))
    call_ends xs (e ∷ ys) ok of less =
        let few = most_after z o xs s opening (valid_front z o xs (e ∷ ys) ok) (seat_inside z o s opening xs e ys ok (of 0 e (omega arith))) in
        ends_within xs (e ∷ ys) ok of (events_to_end z o.rows) (inl (omega (arith, few, turns_and_falls z o.rows))) less

-- at the product's sizes
product_ends : (o : Opening) (s : ℕ) (good : List Event → Type 0) (triple : List Event → Triple) → IsOpening product o → Measures product o s good triple → (xs ys : List Event) → is_valid product o (xs ++ ys) ≡ true → AreOf s ys → most_to_end o.rows ≤ length ys → (i : ℕ) × EndsAt product o s xs ys i
product_ends o s good triple opening m xs ys ok of less =
    let rows : 1 ≤ o.rows = subst (λ n. 1 ≤ n) (ap (λ (x : WorldView). x.rows) (history-world product o xs) ∙ world-rows product o xs) (shape_holds product o xs opening (valid_front product o xs ys ok)).sane.sized.some_rows in
    call_ends product o s good triple opening m xs ys ok of (omega (arith, less, few_to_end o.rows rows))

-- Such a measure.

-- the triple of a seat that stands so is such a measure
measures : (z : Sizes) (o : Opening) (s : ℕ) → z.built < z.cells → IsOpening z o → Measures z o s (AreSteady z o s) (triple_after z o s)
measures z o s room opening = record {
  begins = λ es ok e. at es e (record { way = inr (inl tt); clean = tt; led = tt });
  wins = λ es ok e. at es e (record { way = inl refl; clean = tt; led = tt });
  moves = λ es ok e live. at es e (record { way = inr (inr live); clean = tt; led = tt });
  falls = λ es e ok own steady. steady_falls z o s room opening es e ok own steady;
  few = λ es ok inside. (steady_within z o s opening es ok inside).0;
  within = λ es ok inside. (steady_within z o s opening es ok inside).1;
}
  where
    at : {a : Activity} (es : List Event) → activity_after z o s es ≡ a → IsSteady (word z (history z o es).world) (history z o es).ledger.rows a (local_of (world z o es) s) → AreSteady z o s es
    at es e steady = subst (λ b. IsSteady (word z (history z o es).world) (history z o es).ledger.rows b (local_of (world z o es) s)) (sym e) steady

pub lasts : (z : Sizes) (o : Opening) (s : ℕ) → IsOpening z o → z.built < z.cells → (xs ys : List Event) → is_valid z o (xs ++ ys) ≡ true → AreOf s ys → events_to_end z o.rows ≤ length ys → (i : ℕ) × EndsAt z o s xs ys i
lasts z o s opening room xs ys ok of less = call_ends z o s (AreSteady z o s) (triple_after z o s) opening (measures z o s room opening) xs ys ok of less

-- at the product's sizes
pub ends_at_last : (o : Opening) (s : ℕ) → IsOpening product o → (xs ys : List Event) → is_valid product o (xs ++ ys) ≡ true → AreOf s ys → most_to_end o.rows ≤ length ys → (i : ℕ) × EndsAt product o s xs ys i
ends_at_last o s opening xs ys ok of less = product_ends o s (AreSteady product o s) (triple_after product o s) opening (measures product o s (omega arith) opening) xs ys ok of less
