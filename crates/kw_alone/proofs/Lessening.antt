-- Each event of a seat that goes on alone, from the beginning of a walk on, ends its call or lowers
-- its three numbers in their order.
use Rattle.std.proofs.Common.{ℕ, ◌≡◌, ◌⊎◌, inl, inr, ◌<◌, ◌≤◌, true, false, Some, arith, refl, sym, ◌∙◌, ap, subst, length}
use Rattle.kw_words.specs.Link.{link_of}
use Rattle.std.proofs.lemmas.Bool.{cases_Bool}
use Rattle.kw_rows.specs.Ledger.{Ledger, IsLive}
use Rattle.kw_windows.specs.Triples as triples
use Rattle.kw_world.specs.declared.activity.Activity.{Activity}
use Rattle.kw_world.specs.declared.activity.put.Put.TheVariants as Put
use Rattle.kw_world.specs.declared.activity.rebalance.Rebalance.TheVariants as Rebalance
use Rattle.kw_world.specs.declared.activity.rebalance.engage.Engage.TheVariants as Engage
use Rattle.kw_world.specs.declared.activity.rebalance.left.Left.TheVariants as Left
use Rattle.kw_world.specs.declared.activity.rebalance.replace.Replace.TheVariants as Replace
use Rattle.kw_world.specs.declared.activity.walk.Walk.TheVariants as Walk
use Rattle.kw_world.specs.declared.answer.Answer.{Answer}
use Rattle.kw_world.specs.declared.event.Choice.{Choice}
use Rattle.kw_world.specs.declared.local.Local.{Local}
use Rattle.kw_world.specs.ReplaceTransitions.{replaced_link}
use Rattle.kw_world.specs.Sizes.{Sizes}
use Rattle.kw_world.specs.Step.{word}
use Rattle.kw_world.specs.Transition.{row_linked, row_or_first}
use Rattle.kw_world.specs.WriteTransitions.{unmarked_link}
use Rattle.kw_core.specs.Run.{Run}
use Rattle.kw_core.specs.Stages.{IsBalancing, IsStaying, IsUnderway}
use Rattle.kw_core.specs.Words.{Words, least_in}
use Rattle.kw_core.proofs.Arrows.{Arrow, builds, begins_left, ends_at_head, head_follows, takes_leader}
use Rattle.kw_core.proofs.Building.{Building, IsBuilding, is_marked_before, is_replaced, replaces_row}
use Rattle.kw_core.proofs.Happens.{Happens, knows_next}
use Rattle.kw_shape.specs.RowsIn.{has_mark}
use Rattle.kw_shape.proofs.LinkedRows.{ComesNow, found_open}
use Rattle.kw_full.specs.Full.{IsEngaging}
use Rattle.kw_alone.specs.Alone.{IsEnd}
use Rattle.kw_alone.specs.Fair.{IsFair, IsStart}
use Rattle.kw_alone.specs.Known.{Taken}
use Rattle.kw_alone.specs.Marks as marks
use Rattle.kw_alone.specs.Marks.{IsMark}
use Rattle.kw_alone.specs.Rest.{rest}
use Rattle.kw_alone.specs.Steady.{IsLed, IsOnWay, IsSteady}
use Rattle.kw_alone.specs.Wins.{begins, moves_left, rest_plus, triple, wins_left}
use Rattle.kw_alone.proofs.Asking.{HasLostCell}
use Rattle.kw_alone.proofs.Balancing.{Goes, IsOver, goes_by, goes_on, is_over, moves_to}
use Rattle.kw_alone.proofs.Clearing.{IsLeftStart, StaysClean, moves_clean}
use Rattle.kw_alone.proofs.Comparing.{falls_first, falls_second, falls_third}
use Rattle.kw_alone.proofs.Drawing.{facts_hold}
use Rattle.kw_alone.proofs.Falling.{event_falls}
use Rattle.kw_alone.proofs.GoingOn.{underway_stays}
use Rattle.kw_alone.proofs.GoingStays.{still_unled}
use Rattle.kw_alone.proofs.Living.{live_stays}
use Rattle.kw_alone.proofs.Moving.{LeftOf, leads_by}
use Rattle.kw_alone.proofs.MovesLeft.{balancing_or_not, moves_else, moves_fall, moves_most, moves_stay, moves_there, was_live}
use Rattle.kw_alone.proofs.RestPlus.{begun_on, begun_stays, fair_begun, plus_falls, plus_starts, start_led, start_walks}
use Rattle.kw_alone.proofs.Staying.{StaysFair, fair_begins, fair_stays}
use Rattle.kw_alone.proofs.Steps.{Steps}
use Rattle.kw_alone.proofs.Winning.{IsExchange, wins_fall}
use Rattle.kw_alone.proofs.WinsLeft.{wins_stay}

-- Activities.

-- a rebalance begins, or the seat has moved
abbrev IsClock : Activity → Type 0
IsClock a = a ≡ Activity.Rebalance (Rebalance.Engage Engage.Clock)

clock_or_not : (a : Activity) → IsClock a ⊎ (IsClock a → ⊥)
clock_or_not (Activity.Rebalance (Rebalance.Engage Engage.Clock)) = inl refl
clock_or_not (Activity.Rebalance (Rebalance.Engage _)) = inr (λ e. absurd (cc))
clock_or_not (Activity.Rebalance _) = inr (λ e. absurd (cc))
clock_or_not _ = inr (λ e. absurd (cc))

staying_or_not : (a : Activity) → IsStaying a ⊎ ((answer : Answer) × (a ≡ Activity.Leave answer))
staying_or_not (Activity.Leave answer) = inr (answer, refl)
staying_or_not _ = inl tt

balancing_underway : (a : Activity) → IsBalancing a → IsUnderway a
balancing_underway (Activity.Rebalance _) b = tt
balancing_underway _ b = absurd b

left_not_built : (a : Activity) → IsBuilding a → IsLeftStart a → ⊥
left_not_built (Activity.Rebalance (Rebalance.Left _)) y x = y
left_not_built (Activity.Rebalance _) y x = x
left_not_built _ y x = y

module _ (v : Words) (g : Ledger) where
  on_way : (a : Activity) (l : Local) → IsOnWay v g a l → ((answer : Answer) × (a ≡ Activity.Leave answer)) ⊎ IsUnderway a
  on_way Activity.Idle l w = absurd w
  on_way (Activity.Leave answer) l w = inl (answer, refl)
  on_way _ l w = inr tt

  -- what its way is
  ways : (a : Activity) (l : Local) → IsOnWay v g a l → (begins a ≡ true) ⊎ IsStart a ⊎ IsFair v g a l
  ways Activity.Idle l w = absurd w
  ways _ l w = w

  fair_way : (a : Activity) (l : Local) → IsFair v g a l → IsOnWay v g a l
  fair_way Activity.Idle l f = absurd f
  fair_way _ l f = inr (inr f)

  lost_way : (s : ℕ) (a : Activity) (l : Local) → IsOnWay v g a l → HasLostCell v s a l → IsLive g l.row
  lost_way s (Activity.Put Put.Announce) l (inl e) x = absurd (cc)
  lost_way s (Activity.Put Put.Announce) l (inr (inl y)) x = absurd y
  lost_way s (Activity.Put Put.Announce) l (inr (inr f)) x = f
  lost_way s (Activity.Put Put.Stamp) l (inl e) x = absurd (cc)
  lost_way s (Activity.Put Put.Stamp) l (inr (inl y)) x = absurd y
  lost_way s (Activity.Put Put.Stamp) l (inr (inr f)) x = f
  lost_way s a l w x = absurd x

  engaging_way : (a : Activity) (l : Local) → IsOnWay v g a l → IsEngaging a → IsLive g l.row
  engaging_way (Activity.Rebalance (Rebalance.Engage _)) l (inl e) x = absurd (cc)
  engaging_way (Activity.Rebalance (Rebalance.Engage _)) l (inr (inl y)) x = absurd y
  engaging_way (Activity.Rebalance (Rebalance.Engage _)) l (inr (inr f)) x = f
  engaging_way a l w x = absurd x

-- an exchange that finds the unmarked link replaces the row
open_wins : (z : Sizes) (v : Words) (s : ℕ) (choice : Choice) (l : Local) (a : Activity) (k : Local) → Arrow z v s choice l a k → IsExchange a → link_of (v (replaced_link l.rebalance.before)) ≡ Some (unmarked_link (Some l.row)) → k.activity ≡ Activity.Rebalance (Rebalance.Replace Replace.Normalise)
open_wins z v s choice l a k (builds b m y t) x f = by b k t x
  where
    by : (c : Activity) (n : Local) → Building z v choice l c n → IsExchange c → n.activity ≡ Activity.Rebalance (Rebalance.Replace Replace.Normalise)
    by c n (replaces_row e) x = refl
    by c n (is_marked_before m e w) x = let y : true ≡ false = ap has_mark (sym e ∙ f) in absurd (cc)
    by c n (is_replaced m d w) x = absurd (d (ap row_linked f))
    by c n _ x = absurd x
open_wins z v s choice l a k _ x f = absurd x

-- the seat moves to the leader that it knows
left_row : (z : Sizes) (v : Words) (s : ℕ) (choice : Choice) (l : Local) (a : Activity) (k : Local) → Arrow z v s choice l a k → IsLeftStart a → IsClock k.activity → k.row ≡ row_or_first l.rebalance.before
left_row z v s choice l a k (builds b m y t) x e = absurd (left_not_built b y x)
left_row z v s choice l a k (takes_leader q c) x e = refl
left_row z v s choice l a k (begins_left q c d) x e = absurd (cc)
left_row z v s choice l a k (head_follows t c) x e = absurd (cc)
left_row z v s choice l a k (ends_at_head t) x e = absurd (cc)
left_row z v s choice l a k _ x e = absurd x

module _ {z : Sizes} {r r' : Run} {s : ℕ} {choice : Choice} {l l' : Local} {a : Activity} (x : Steps z r r' s choice l l' a) (y : IsSteady (word z r.world) r.ledger.rows a l) where
  abbrev v : Words
  v = word z r.world

  abbrev v' : Words
  v' = word z r'.world

  abbrev before : triples.Triple
  before = triple z r.world.rows v r.ledger.rows a l

  abbrev after : triples.Triple
  after = triple z r.world.rows v' r'.ledger.rows l'.activity l'

  -- the call is over, or the numbers fall
  abbrev pub Lessens : Type 0
  Lessens = IsEnd a l'.activity ⊎ IsSteady v' r'.ledger.rows l'.activity l' × triples.Falls before after

  -- no row is linked, unless the row is replaced
  none_comes : (l'.activity ≡ Activity.Rebalance (Rebalance.Replace Replace.Normalise) → ⊥) → (q : ℕ) → ComesNow v r.ledger.rows r'.ledger.rows s (length r.history.log) l a q → ⊥
  none_comes n q c = n (open_wins z v s choice l a l' x.happens.arrow (subst IsExchange (sym c.replaces) tt) (found_open (subst (Happens z r r' s choice l l') c.replaces x.happens) x.inv.shape c.won))

  clean_there : StaysClean r'.ledger.rows a l'
  clean_there = moves_clean z r r' s choice l a l' x.happens.arrow x.happens x.inv.shape (subst (λ b. Taken b l) x.happens.activity (x.known.taken s l x.happens.knows)) y.clean

  lost : HasLostCell v s a l → IsLive r.ledger.rows l.row
  lost = lost_way v r.ledger.rows s a l y.way

  there : IsEngaging a → IsLive r.ledger.rows l.row
  there = engaging_way v r.ledger.rows a l y.way

  -- A move.

  move_live : IsBalancing a → IsClock l'.activity → IsLive r'.ledger.rows l'.row
  move_live b e = which clean_there
    where
      led : IsLeftStart a ⊎ IsLive r'.ledger.rows l'.row → IsLive r'.ledger.rows l'.row
      led (inl c) = subst (IsLive r'.ledger.rows) (sym (left_row z v s choice l a l' x.happens.arrow c e)) (leader a refl c y.led)
        where
          leader : (d : Activity) → a ≡ d → IsLeftStart d → IsLed v r.ledger.rows a l → IsLive r'.ledger.rows (row_or_first l.rebalance.before)
          leader (Activity.Rebalance (Rebalance.Left Left.Start)) f u k = live_stays (Activity.Rebalance (Rebalance.Left Left.Start)) (subst (Happens z r r' s choice l l') f x.happens) x.inv.shape tt _ (subst (λ b. IsLed v r.ledger.rows b l) f k).live
          leader _ f u k = absurd u
      led (inr k) = k

      which : StaysClean r'.ledger.rows a l' → IsLive r'.ledger.rows l'.row
      which (inl (m, k)) = led (k e)
      which (inr (c, n)) = absurd (n b e)

  move_falls : IsBalancing a → IsClock l'.activity → Lessens
  move_falls b e = which (ways v r.ledger.rows a l y.way)
    where
      none : (q : ℕ) → ComesNow v r.ledger.rows r'.ledger.rows s (length r.history.log) l a q → ⊥
      none = none_comes (λ f. let k : Activity.Rebalance (Rebalance.Replace Replace.Normalise) ≡ Activity.Rebalance (Rebalance.Engage Engage.Clock) = sym f ∙ e in absurd (cc))

      live : IsLive r'.ledger.rows l'.row
      live = move_live b e

      which : (begins a ≡ true) ⊎ IsStart a ⊎ IsFair v r.ledger.rows a l → Lessens
      which (inl g) = let k : true ≡ false = sym (begun_stays z v s choice l a l' x.happens.arrow g (subst IsBalancing (sym e) tt)) ∙ ap begins e in absurd (cc)
      which (inr (inl g)) = absurd (start_walks a g b)
      which (inr (inr f)) =
          let left : LeftOf v l l' = (leads_by z r r' s choice l a l' x.happens.arrow x f y.clean y.led).0 b e in
          let lower : l'.lower ≡ least_in v' l'.row = (x.after.shape.balances s l' (knows_next x.happens)).lower (subst IsBalancing (sym e) tt) in
          let fewer = moves_fall x none live lower left.less in
          let was = moves_there r.world.rows v r.ledger.rows a l b (fair_begun v r.ledger.rows a l f) in
          let is = moves_there r.world.rows v' r'.ledger.rows l'.activity l' (subst IsBalancing (sym e) tt) (ap begins e) in
          let wins = wins_stay x (balancing_underway a b) (subst IsStaying (sym e) tt) lost there (λ c t n u. left.led (still_unled a x.happens x.inv.shape l'.row (was_live x none l'.row live) u)) in
          inr (subst (λ c. IsSteady v' r'.ledger.rows c l') (sym e) (record { way = inr (inr live); clean = tt; led = tt }), falls_second before after wins (omega (arith, fewer, was, is)))

  -- A mark.

  mark_falls : (b c : Activity) → a ≡ b → l'.activity ≡ c → IsMark b c → Lessens
  mark_falls b c e f (marks.ends answer) = inl (answer, e)
  mark_falls b c e f marks.wins =
      let won = wins_fall (subst (Steps z r r' s choice l l') e x) f in
      inr (subst (λ d. IsSteady v' r'.ledger.rows d l') (sym f) (record { way = inl refl; clean = tt; led = tt }), falls_first before after (subst (λ d. wins_left z r.world.rows v' r'.ledger.rows l'.activity l' < wins_left z r.world.rows v r.ledger.rows d l) (sym e) won))
  mark_falls b c e f (marks.moves d at) = move_falls (subst IsBalancing (sym e) at) f

  -- Another event.

  module _ (st : IsUnderway a) (unmoved : IsBalancing a → IsClock l'.activity → ⊥) where
    wins_less : wins_left z r.world.rows v' r'.ledger.rows l'.activity l' ≤ wins_left z r.world.rows v r.ledger.rows a l
    wins_less = which (staying_or_not l'.activity)
      where
        which : IsStaying l'.activity ⊎ ((answer : Answer) × (l'.activity ≡ Activity.Leave answer)) → wins_left z r.world.rows v' r'.ledger.rows l'.activity l' ≤ wins_left z r.world.rows v r.ledger.rows a l
        which (inl st') = wins_stay x st st' lost there (λ b t e u. unmoved b e)
        which (inr (answer, e)) = let none : wins_left z r.world.rows v' r'.ledger.rows l'.activity l' ≡ 0 = ap (λ b. wins_left z r.world.rows v' r'.ledger.rows b l') e in omega (arith, none)

    -- where no rebalance goes on
    moves_plain : (IsBalancing a → ⊥) ⊎ (begins a ≡ true) → moves_left r.world.rows v' r'.ledger.rows l'.activity l' ≤ moves_left r.world.rows v r.ledger.rows a l
    moves_plain n = omega (arith, moves_most r.world.rows v' r'.ledger.rows l'.activity l', moves_else r.world.rows v r.ledger.rows a l (underway_stays a st) n)

    -- where one goes on
    moves_less : IsFair v r.ledger.rows a l → IsFair v' r'.ledger.rows l'.activity l' → moves_left r.world.rows v' r'.ledger.rows l'.activity l' ≤ moves_left r.world.rows v r.ledger.rows a l
    moves_less f f' = which (balancing_or_not a)
      where
        over : (b : Activity) → l'.activity ≡ b → IsOver b → moves_left r.world.rows v' r'.ledger.rows l'.activity l' ≤ moves_left r.world.rows v r.ledger.rows a l
        over Activity.Retry e o = absurd (subst (λ b. IsFair v' r'.ledger.rows b l') e f')
        over (Activity.Leave answer) e o = let none : moves_left r.world.rows v' r'.ledger.rows l'.activity l' ≡ 0 = ap (λ b. moves_left r.world.rows v' r'.ledger.rows b l') e in omega (arith, none)
        over _ e o = absurd o

        goes : IsBalancing a → Goes a l l' → moves_left r.world.rows v' r'.ledger.rows l'.activity l' ≤ moves_left r.world.rows v r.ledger.rows a l
        goes b (is_over o) = over l'.activity refl o
        goes b (moves_to e) = absurd (unmoved b e)
        goes b (goes_on c same low n) =
            let fewer = moves_stay x (none_comes (λ e. subst (λ d. IsFair v' r'.ledger.rows d l') e f')) low in
            omega (arith, fewer, moves_there r.world.rows v r.ledger.rows a l b (fair_begun v r.ledger.rows a l f), moves_there r.world.rows v' r'.ledger.rows l'.activity l' c (fair_begun v' r'.ledger.rows l'.activity l' f'))

        which : IsBalancing a ⊎ (IsBalancing a → ⊥) → moves_left r.world.rows v' r'.ledger.rows l'.activity l' ≤ moves_left r.world.rows v r.ledger.rows a l
        which (inl b) = goes b (goes_by z v s choice l a l' x.happens.arrow b)
        which (inr n) = moves_plain (inl n)

    -- the third number falls with the rest, or as the walk begins
    rest_less : (begins a ≡ false → IsFair v' r'.ledger.rows l'.activity l') → (l'.activity ≡ Activity.Walk Walk.Start) ⊎ (rest z r.world.rows v' l'.activity l' < rest z r.world.rows v a l) → rest_plus z r.world.rows v' l'.activity l' < rest_plus z r.world.rows v a l
    rest_less f (inl e) = which (cases_Bool (begins a))
      where
        which : (begins a ≡ true) ⊎ (begins a ≡ false) → rest_plus z r.world.rows v' l'.activity l' < rest_plus z r.world.rows v a l
        which (inl g) = plus_starts z r.world.rows v v' a l l' g e
        which (inr g) = absurd (subst (λ b. IsFair v' r'.ledger.rows b l') e (f g))
    rest_less f (inr less) = plus_falls z r.world.rows v v' a l l' (λ g. fair_begun v' r'.ledger.rows l'.activity l' (f g)) less

    fall : (begins a ≡ false → IsFair v' r'.ledger.rows l'.activity l') → IsOnWay v' r'.ledger.rows l'.activity l' → IsLed v' r'.ledger.rows l'.activity l' → moves_left r.world.rows v' r'.ledger.rows l'.activity l' ≤ moves_left r.world.rows v r.ledger.rows a l →
        IsMark a l'.activity ⊎ (l'.activity ≡ Activity.Walk Walk.Start) ⊎ (rest z r.world.rows v' l'.activity l' < rest z r.world.rows v a l) → StaysClean r'.ledger.rows a l' → Lessens
    fall f way led fewer (inl m) c = mark_falls a l'.activity refl refl m
    fall f way led fewer (inr t) (inl (m, k)) = mark_falls a l'.activity refl refl m
    fall f way led fewer (inr t) (inr (c, n)) = inr (record { way = way; clean = c; led = led }, falls_third before after wins_less fewer (rest_less f t))

    falls : IsMark a l'.activity ⊎ (l'.activity ≡ Activity.Walk Walk.Start) ⊎ (rest z r.world.rows v' l'.activity l' < rest z r.world.rows v a l)
    falls = event_falls z r r' s choice l l' a x.happens (facts_hold z r r' s choice l a l' x.happens x.laws x.inv x.after x.known)

    by_way : (begins a ≡ true) ⊎ IsStart a ⊎ IsFair v r.ledger.rows a l → Lessens
    by_way (inl e) =
        let n = begun_on z v s choice l a l' x.happens.arrow e v' r'.ledger.rows in
        fall (λ g. let k : true ≡ false = sym e ∙ g in absurd (cc)) n.0 n.1 (moves_plain (inr e)) falls clean_there
    by_way (inr (inl e)) = which (fair_begins z r r' s choice l a l' x.happens.arrow x.happens x.inv.shape e)
      where
        which : StaysFair v' r'.ledger.rows a l' → Lessens
        which (inl m) = mark_falls a l'.activity refl refl m
        which (inr f) = fall (λ g. f) (fair_way v' r'.ledger.rows l'.activity l' f) (start_led z v s choice l a l' x.happens.arrow e v' r'.ledger.rows) (moves_plain (inl (start_walks a e))) falls clean_there
    by_way (inr (inr f)) = which (fair_stays z r r' s choice l a l' x.happens.arrow x.happens x.inv.shape x.laws f)
      where
        which : StaysFair v' r'.ledger.rows a l' → Lessens
        which (inl m) = mark_falls a l'.activity refl refl m
        which (inr f') = fall (λ g. f') (fair_way v' r'.ledger.rows l'.activity l' f') (leads_by z r r' s choice l a l' x.happens.arrow x f y.clean y.led).1 (moves_less f f') falls clean_there

  -- each event
  pub lessens : Lessens
  lessens = which (on_way v r.ledger.rows a l y.way) (balancing_or_not a) (clock_or_not l'.activity)
    where
      which : ((answer : Answer) × (a ≡ Activity.Leave answer)) ⊎ IsUnderway a → IsBalancing a ⊎ (IsBalancing a → ⊥) → IsClock l'.activity ⊎ (IsClock l'.activity → ⊥) → Lessens
      which (inl e) b c = inl e
      which (inr st) (inl b) (inl c) = move_falls b c
      which (inr st) (inl b) (inr n) = by_way st (λ u c. n c) (ways v r.ledger.rows a l y.way)
      which (inr st) (inr n) c = by_way st (λ b u. n b) (ways v r.ledger.rows a l y.way)
