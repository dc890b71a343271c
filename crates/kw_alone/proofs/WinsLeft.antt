-- No event of a seat that goes on in its call adds to the rows that it may yet replace: it pays for
-- a row that it engages, since that was to go, or since the seat tidies it.
use Rattle.std.proofs.Common.{ℕ, ◌≡◌, ◌≢◌, ◌⊎◌, inl, inr, ◌+◌, ◌≤◌, Bool, true, false, if◌then◌else◌, arith, refl, sym, ◌∙◌, ap, subst, length}
use Rattle.std.proofs.lemmas.Bool.{cases_Bool, cases_eq}
use Rattle.kw_words.specs.declared.layout.Name.TheVariants as name
use Rattle.kw_words.specs.declared.state.State.TheVariants as state
use Rattle.kw_words.specs.State.{state_of, state_word}
use Rattle.kw_lists.specs.Counts.{count_below}
use Rattle.kw_rows.specs.Ledger.{Ledger, IsLive}
use Rattle.kw_rows.specs.RowState as row
use Rattle.kw_windows.proofs.Counting.{count_one_more, count_upto}
use Rattle.kw_world.specs.declared.activity.Activity.{Activity}
use Rattle.kw_world.specs.declared.activity.rebalance.Rebalance.TheVariants as Rebalance
use Rattle.kw_world.specs.declared.activity.rebalance.engage.Engage.TheVariants as Engage
use Rattle.kw_world.specs.declared.event.Choice.{Choice}
use Rattle.kw_world.specs.declared.local.Local.{Local}
use Rattle.kw_world.specs.Sizes.{Sizes}
use Rattle.kw_world.specs.Step.{word}
use Rattle.kw_core.specs.Run.{Run}
use Rattle.kw_core.specs.Stages.{IsBalancing, IsDone, IsPutClear, IsStaying, IsUnderway, is_put}
use Rattle.kw_core.specs.Words.{Words}
use Rattle.kw_core.proofs.Arrows.{Arrow, builds, engages, is_engaged}
use Rattle.kw_core.proofs.Building.{IsBuilding}
use Rattle.kw_core.proofs.Happens.{Happens, not_exchanged}
use Rattle.kw_shape.specs.RowsIn.{rows_in, state_seen}
use Rattle.kw_shape.proofs.BuildEvents.{word_says}
use Rattle.kw_shape.proofs.LinkedRows.{ComesNow}
use Rattle.kw_shape.proofs.NextCalls.{arrow_call, arrow_from}
use Rattle.kw_full.specs.Full.{IsEngaging, IsUnled}
use Rattle.kw_alone.specs.Wins.{asks, engaging, is_leading, is_to_go, is_unled, one_unled, to_tidy, wins_left}
use Rattle.kw_alone.proofs.Asking.{HasLostCell, staying_done, untidy}
use Rattle.kw_alone.proofs.Balancing.{Goes, IsOver, goes_by, goes_on, is_over, moves_to}
use Rattle.kw_alone.proofs.Going.{IsToGo, going_by, going_test}
use Rattle.kw_alone.proofs.GoingOn.{going_was, lead_or_not, underway_stays}
use Rattle.kw_alone.proofs.GoingStays.{IsLead, StaysLive, live_was, others_lead, still_leads, still_unled}
use Rattle.kw_alone.proofs.NewRows.{new_stays}
use Rattle.kw_alone.proofs.Steps.{Steps}

-- The numbers, by activity.

-- what is counted of a seat that does not leave
pub wins_there : (z : Sizes) (rows : ℕ) (v : Words) (g : Ledger) (a : Activity) (l : Local) → IsStaying a → wins_left z rows v g a l ≡ (if is_put l.call then count_below rows (is_to_go z v g a l) + to_tidy v a l else 0)
wins_there z rows v g (Activity.Leave answer) l st = absurd st
wins_there z rows v g _ l st = refl

-- the seat is about to engage its row, or is not
engaging_or_not : (a : Activity) → IsEngaging a ⊎ (IsEngaging a → ⊥)
engaging_or_not (Activity.Rebalance (Rebalance.Engage Engage.Clock)) = inl tt
engaging_or_not (Activity.Rebalance (Rebalance.Engage Engage.Epoch)) = inl tt
engaging_or_not (Activity.Rebalance (Rebalance.Engage Engage.State)) = inl tt
engaging_or_not (Activity.Rebalance (Rebalance.Engage (Engage.Normal seat))) = inl tt
engaging_or_not (Activity.Rebalance (Rebalance.Engage Engage.Lead)) = inl tt
engaging_or_not _ = inr (λ x. x)

-- and counts one more where the row is not engaged
engaging_is : (v : Words) (a : Activity) (l : Local) → IsEngaging a → engaging v a l ≡ one_unled ((rows_in v).state l.row)
engaging_is v (Activity.Rebalance (Rebalance.Engage Engage.Clock)) l x = refl
engaging_is v (Activity.Rebalance (Rebalance.Engage Engage.Epoch)) l x = refl
engaging_is v (Activity.Rebalance (Rebalance.Engage Engage.State)) l x = refl
engaging_is v (Activity.Rebalance (Rebalance.Engage (Engage.Normal seat))) l x = refl
engaging_is v (Activity.Rebalance (Rebalance.Engage Engage.Lead)) l x = refl
engaging_is v _ l x = absurd x

pub engaging_none : (v : Words) (a : Activity) (l : Local) → (IsEngaging a → ⊥) → engaging v a l ≡ 0
engaging_none v (Activity.Rebalance (Rebalance.Engage Engage.Clock)) l n = absurd (n tt)
engaging_none v (Activity.Rebalance (Rebalance.Engage Engage.Epoch)) l n = absurd (n tt)
engaging_none v (Activity.Rebalance (Rebalance.Engage Engage.State)) l n = absurd (n tt)
engaging_none v (Activity.Rebalance (Rebalance.Engage (Engage.Normal seat))) l n = absurd (n tt)
engaging_none v (Activity.Rebalance (Rebalance.Engage Engage.Lead)) l n = absurd (n tt)
engaging_none v _ l n = refl

-- one more row, unless the put is done
pub tidy_done : (v : Words) (a : Activity) (l : Local) → l.tidies ≡ true → to_tidy v a l ≡ engaging v a l
tidy_done v a l e = ap (λ b. if b then engaging v a l else 1) e

pub tidy_plain : (v : Words) (a : Activity) (l : Local) → l.tidies ≡ false → to_tidy v a l ≡ 1
tidy_plain v a l e = ap (λ b. if b then engaging v a l else 1) e

-- 1 or none
one_most : (s : row.State) → one_unled s ≤ 1
one_most s = which (is_unled s)
  where
    which : (b : Bool) → (if b then 1 else 0) ≤ 1
    which true = omega arith
    which false = omega arith

pub tidy_most : (v : Words) (a : Activity) (l : Local) → to_tidy v a l ≤ 1
tidy_most v a l = which (cases_Bool l.tidies) (engaging_or_not a)
  where
    which : (l.tidies ≡ true) ⊎ (l.tidies ≡ false) → IsEngaging a ⊎ (IsEngaging a → ⊥) → to_tidy v a l ≤ 1
    which (inl e) (inl g) = omega (arith, tidy_done v a l e, engaging_is v a l g, one_most ((rows_in v).state l.row))
    which (inl e) (inr n) = omega (arith, tidy_done v a l e, engaging_none v a l n)
    which (inr e) g = omega (arith, tidy_plain v a l e)

-- none for a row that is engaged
one_none : (s : row.State) → (is_unled s ≡ true → ⊥) → one_unled s ≡ 0
one_none s n = which (is_unled s) n
  where
    which : (b : Bool) → (b ≡ true → ⊥) → ◌≡◌ {A = ℕ} (if b then 1 else 0) 0
    which true n = absurd (n refl)
    which false n = refl

-- no more than there were
one_fewer : (s t : row.State) → (is_unled t ≡ true → is_unled s ≡ true) → one_unled t ≤ one_unled s
one_fewer s t f = which (is_unled s) (is_unled t) f
  where
    which : (b c : Bool) → (c ≡ true → b ≡ true) → (if c then 1 else 0) ≤ (if b then 1 else 0)
    which b false f = omega arith
    which true true f = omega arith
    which false true f = let x : false ≡ true = f refl in absurd (cc)

over_not_engaging : (a : Activity) → IsOver a → IsEngaging a → ⊥
over_not_engaging Activity.Retry o x = x
over_not_engaging (Activity.Leave answer) o x = x
over_not_engaging _ o x = o

clear_not_lead : (a : Activity) → IsPutClear a → IsLead a → ⊥
clear_not_lead (Activity.Rebalance _) c x = c
clear_not_lead _ c x = x

lead_not_built : (a : Activity) → IsBuilding a → IsLead a → ⊥
lead_not_built (Activity.Rebalance (Rebalance.Engage _)) y x = y
lead_not_built _ y x = x

lead_engages : (a : Activity) → IsLead a → IsEngaging a
lead_engages (Activity.Rebalance (Rebalance.Engage Engage.Lead)) x = tt
lead_engages _ x = absurd x

lead_balances : (a : Activity) → IsLead a → IsBalancing a
lead_balances (Activity.Rebalance (Rebalance.Engage Engage.Lead)) x = tt
lead_balances _ x = absurd x

-- a row that was found normal is a leader now, and the seat is to mark its link
lead_next : (z : Sizes) (v : Words) (s : ℕ) (choice : Choice) (l : Local) (a : Activity) (k : Local) → Arrow z v s choice l a k → IsLead a → v (name.State l.row) ≡ state_word state.Normal → IsEngaging k.activity → ⊥
lead_next z v s choice l a k (builds b m y t) x e g = lead_not_built b y x
lead_next z v s choice l a k (engages f) x e g = g
lead_next z v s choice l a k (is_engaged d) x e g = d e
lead_next z v s choice l a k _ x e g = absurd x

-- a seat that asks for a cell, if it tidies or not
asks_lead : (a : Activity) (l : Local) → IsLead a → l.tidies ≡ false → asks a l ≡ true
asks_lead (Activity.Rebalance (Rebalance.Engage Engage.Lead)) l x e = rw e refl
asks_lead _ l x e = absurd x

unled_is : (s : row.State) → s ≡ row.Normal → IsUnled s
unled_is s e = subst IsUnled (sym e) tt

module _ {z : Sizes} {r r' : Run} {s : ℕ} {choice : Choice} {l l' : Local} {a : Activity} (x : Steps z r r' s choice l l' a) (st : IsUnderway a) (st' : IsStaying l'.activity) (live : HasLostCell (word z r.world) s a l → IsLive r.ledger.rows l.row) (there : IsEngaging a → IsLive r.ledger.rows l.row) where
  abbrev v : Words
  v = word z r.world

  abbrev v' : Words
  v' = word z r'.world

  -- One row.

  -- it was to go, if it led where it leads
  pub row_back : (q : ℕ) → (IsLive r.ledger.rows q → is_leading ((rows_in v').state q) ≡ true → is_leading ((rows_in v).state q) ≡ true) → is_to_go z v' r'.ledger.rows l'.activity l' q ≡ true → is_to_go z v r.ledger.rows a l q ≡ true
  row_back q f e = which (live_was a x.happens x.inv.shape q t.0)
    where
      t : IsToGo z v' r'.ledger.rows l'.activity l' q
      t = going_by z v' r'.ledger.rows l'.activity l' q e

      which : StaysLive r.ledger.rows r'.ledger.rows q ⊎ ComesNow v r.ledger.rows r'.ledger.rows s (length r.history.log) l a q → is_to_go z v r.ledger.rows a l q ≡ true
      which (inl c) = going_test z v r.ledger.rows a l q (going_was a x.happens x.inv.shape x.laws (λ w. x.frozen.entries l.row s (inl w) x.happens.seat) live st st' q c (f c.live) t)
      which (inr c) = absurd (new_stays (subst (Happens z r r' s choice l l') c.replaces x.happens) x.inv.shape l'.activity q x.room (subst (λ b. ComesNow v r.ledger.rows r'.ledger.rows s (length r.history.log) l b q) c.replaces c) t)

  -- All rows.

  abbrev before : ℕ
  before = count_below r.world.rows (is_to_go z v r.ledger.rows a l)

  abbrev after : ℕ
  after = count_below r.world.rows (is_to_go z v' r'.ledger.rows l'.activity l')

  -- no more are to go, where each that leads did
  counts : ((q : ℕ) → IsLive r.ledger.rows q → is_leading ((rows_in v').state q) ≡ true → is_leading ((rows_in v).state q) ≡ true) → after ≤ before
  counts f = count_upto r.world.rows (is_to_go z v r.ledger.rows a l) (is_to_go z v' r'.ledger.rows l'.activity l') (λ q o e. row_back q (f q) e)

  counts_plain : (IsLead a → ⊥) → after ≤ before
  counts_plain n = counts (λ q k e. still_leads a x.happens x.inv.shape n q k e)

  -- an exchange that is lost makes no leader
  lost_leads : (b : Activity) → a ≡ b → IsLead b → v (name.State l.row) ≢ state_word state.Normal → (q : ℕ) → IsLive r.ledger.rows q → is_leading ((rows_in v').state q) ≡ true → is_leading ((rows_in v).state q) ≡ true
  lost_leads (Activity.Rebalance (Rebalance.Engage Engage.Lead)) e y d q k f = which (cases_eq q l.row)
    where
      h : Happens z r r' s choice l l' (Activity.Rebalance (Rebalance.Engage Engage.Lead))
      h = subst (Happens z r r' s choice l l') e x.happens

      which : (q ≡ l.row) ⊎ (q ≡ l.row → ⊥) → is_leading ((rows_in v).state q) ≡ true
      which (inl c) = subst (λ p. is_leading ((rows_in v).state p) ≡ true) (sym c) (ap (λ w. is_leading (state_seen (state_of w))) (sym (not_exchanged _ _ _ _ h.changed.same d)) ∙ subst (λ p. is_leading ((rows_in v').state p) ≡ true) c f)
      which (inr c) = others_lead (Activity.Rebalance (Rebalance.Engage Engage.Lead)) h x.inv.shape tt q k c f
  lost_leads _ e y d q k f = absurd y

  counts_lost : IsLead a → v (name.State l.row) ≢ state_word state.Normal → after ≤ before
  counts_lost y d = counts (lost_leads a refl y d)

  -- one that is made may add the row of the seat
  counts_won : IsLead a → after ≤ before + 1
  counts_won y = count_one_more r.world.rows l.row (is_to_go z v r.ledger.rows a l) (is_to_go z v' r'.ledger.rows l'.activity l') (λ q e. which q (cases_eq q l.row) e)
    where
      which : (q : ℕ) → (q ≡ l.row) ⊎ (q ≡ l.row → ⊥) → is_to_go z v' r'.ledger.rows l'.activity l' q ≡ true → (q ≡ l.row) ⊎ (is_to_go z v r.ledger.rows a l q ≡ true)
      which q (inl c) e = inl c
      which q (inr c) e = inr (row_back q (λ k f. others_lead a x.happens x.inv.shape y q k c f) e)

  -- which was to go, as it is full, unless the seat tidies
  counts_full : IsLead a → l.tidies ≡ false → v (name.State l.row) ≡ state_word state.Normal → after ≤ before
  counts_full y plain e = count_upto r.world.rows (is_to_go z v r.ledger.rows a l) (is_to_go z v' r'.ledger.rows l'.activity l') (λ q o f. which q (cases_eq q l.row) f)
    where
      normal : (rows_in v).state l.row ≡ row.Normal
      normal = word_says _ state.Normal tt e

      was : is_to_go z v r.ledger.rows a l l.row ≡ true
      was =
          let k = x.full.rows s l x.happens.knows (subst IsEngaging (sym x.happens.activity) (lead_engages a y)) (unled_is _ normal) in
          going_test z v r.ledger.rows a l l.row (k.live, inr (asks_lead a l y plain, record { unled = ap is_unled normal; full = k.given plain; holds = k.holds }))

      which : (q : ℕ) → (q ≡ l.row) ⊎ (q ≡ l.row → ⊥) → is_to_go z v' r'.ledger.rows l'.activity l' q ≡ true → is_to_go z v r.ledger.rows a l q ≡ true
      which q (inl c) f = subst (λ p. is_to_go z v r.ledger.rows a l p ≡ true) (sym c) was
      which q (inr c) f = row_back q (λ k g. others_lead a x.happens x.inv.shape y q k c g) f

  -- With the row that may be tidied.

  -- a put that is not done
  plain_sum : l.tidies ≡ false → after ≤ before
  plain_sum plain = which (lead_or_not a)
    where
      word_or : IsLead a → (v (name.State l.row) ≡ state_word state.Normal) ⊎ (v (name.State l.row) ≡ state_word state.Normal → ⊥) → after ≤ before
      word_or y (inl e) = counts_full y plain e
      word_or y (inr d) = counts_lost y d

      which : IsLead a ⊎ (IsLead a → ⊥) → after ≤ before
      which (inl y) = word_or y (cases_eq (v (name.State l.row)) (state_word state.Normal))
      which (inr n) = counts_plain n

  -- one that was done before, and tidies
  tidy_sum : IsBalancing a → l.tidies ≡ true → (l'.activity ≡ Activity.Rebalance (Rebalance.Engage Engage.Clock) → is_unled ((rows_in v').state l'.row) ≡ true → ⊥) → after + engaging v' l'.activity l' ≤ before + engaging v a l
  tidy_sum at e moved = which (lead_or_not a)
    where
      -- the row that is engaged
      goes : Goes a l l' → engaging v' l'.activity l' ≤ engaging v a l
      goes (is_over o) = omega (arith, engaging_none v' l'.activity l' (over_not_engaging l'.activity o))
      goes (moves_to m) = omega (arith, engaging_is v' l'.activity l' (subst IsEngaging (sym m) tt), one_none ((rows_in v').state l'.row) (moved m))
      goes (goes_on b same low f) = here (engaging_or_not l'.activity)
        where
          here : IsEngaging l'.activity ⊎ (IsEngaging l'.activity → ⊥) → engaging v' l'.activity l' ≤ engaging v a l
          here (inl g) = omega (arith, engaging_is v' l'.activity l' g, engaging_is v a l (f g), ap (λ q. one_unled ((rows_in v').state q)) same, one_fewer ((rows_in v).state l.row) ((rows_in v').state l.row) (still_unled a x.happens x.inv.shape l.row (there (f g))))
          here (inr n) = omega (arith, engaging_none v' l'.activity l' n)

      gone : engaging v' l'.activity l' ≤ engaging v a l
      gone = goes (goes_by z v s choice l a l' x.happens.arrow at)

      word_or : IsLead a → (v (name.State l.row) ≡ state_word state.Normal) ⊎ (v (name.State l.row) ≡ state_word state.Normal → ⊥) → after + engaging v' l'.activity l' ≤ before + engaging v a l
      word_or y (inl w) =
          let none : engaging v' l'.activity l' ≡ 0 = engaging_none v' l'.activity l' (lead_next z v s choice l a l' x.happens.arrow y w) in
          let one : engaging v a l ≡ 1 = engaging_is v a l (lead_engages a y) ∙ ap one_unled (word_says _ state.Normal tt w) in
          omega (arith, none, one, counts_won y)
      word_or y (inr d) = omega (arith, counts_lost y d, gone)

      which : IsLead a ⊎ (IsLead a → ⊥) → after + engaging v' l'.activity l' ≤ before + engaging v a l
      which (inl y) = word_or y (cases_eq (v (name.State l.row)) (state_word state.Normal))
      which (inr n) = omega (arith, counts_plain n, gone)

  -- either
  sum : (IsBalancing a → l.tidies ≡ true → l'.activity ≡ Activity.Rebalance (Rebalance.Engage Engage.Clock) → is_unled ((rows_in v').state l'.row) ≡ true → ⊥) → after + to_tidy v' l'.activity l' ≤ before + to_tidy v a l
  sum moved = which (cases_Bool l'.tidies) (cases_Bool l.tidies)
    where
      begun : l'.tidies ≡ true → l.tidies ≡ false → IsPutClear a ⊎ (l.tidies ≡ true) → after + to_tidy v' l'.activity l' ≤ before + to_tidy v a l
      begun e f (inl c) = omega (arith, tidy_most v' l'.activity l', tidy_plain v a l f, counts_plain (clear_not_lead a c))
      begun e f (inr g) = absurd (cc)

      at : IsBalancing l.activity ⊎ IsDone l.activity → IsBalancing a
      at (inl b) = subst IsBalancing x.happens.activity b
      at (inr d) = absurd (staying_done a (underway_stays a st) (subst IsDone x.happens.activity d))

      which : (l'.tidies ≡ true) ⊎ (l'.tidies ≡ false) → (l.tidies ≡ true) ⊎ (l.tidies ≡ false) → after + to_tidy v' l'.activity l' ≤ before + to_tidy v a l
      which (inr e) f = let plain : l.tidies ≡ false = untidy a x.happens x.inv.shape (underway_stays a st) st' e in omega (arith, tidy_plain v' l'.activity l' e, tidy_plain v a l plain, plain_sum plain)
      which (inl e) (inr f) = begun e f (arrow_from z v s choice l a l' x.happens.arrow e)
      which (inl e) (inl f) = let b = at (x.inv.shape.tidies s l x.happens.knows f) in omega (arith, tidy_done v' l'.activity l' e, tidy_done v a l f, tidy_sum b f (moved b f))

  -- the first number does not rise
  pub wins_stay : (IsBalancing a → l.tidies ≡ true → l'.activity ≡ Activity.Rebalance (Rebalance.Engage Engage.Clock) → is_unled ((rows_in v').state l'.row) ≡ true → ⊥) → wins_left z r.world.rows v' r'.ledger.rows l'.activity l' ≤ wins_left z r.world.rows v r.ledger.rows a l
  wins_stay moved = omega (arith, wins_there z r.world.rows v' r'.ledger.rows l'.activity l' st', wins_there z r.world.rows v r.ledger.rows a l (underway_stays a st), which (is_put l.call) (is_put l'.call) (ap is_put (arrow_call z v s choice l a l' x.happens.arrow st).0))
    where
      which : (b c : Bool) → c ≡ b → (if c then after + to_tidy v' l'.activity l' else 0) ≤ (if b then before + to_tidy v a l else 0)
      which true true e = sum moved
      which false false e = omega arith
      which true false e = omega arith
      which false true e = absurd (cc)
