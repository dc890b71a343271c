-- How many links of rows a seat has loaded: one more after an event of its own that loads one, and
-- no more after any other event.
use Rattle.std.proofs.Common.{◌≡◌, ◌≢◌, ℕ, ◌+◌, ◌-◌, ◌^◌, min, List, [], ◌∷◌, ◌++◌, Some, refl, ap, sym, ◌∙◌, arith, append-nil, eq-eqb, ne_eqb}
use Rattle.std.proofs.lemmas.Bool.{cases_eq}
use Rattle.std.proofs.lemmas.List.{append_cancel_left, append_cancel_right}
use mathlib.Core.Logic.{⊎_elim}
use mathlib.Core.List.{IsPrefix}
use Rattle.kw_words.specs.declared.kind.Kind.{Kind}
use Rattle.kw_world.specs.declared.event.Choice.{Choice}
use Rattle.kw_world.specs.declared.event.Event.{Event}
use Rattle.kw_world.specs.declared.opening.Opening.{Opening}
use Rattle.kw_world.specs.Opening.{opened}
use Rattle.kw_world.specs.Sizes.{product}
use Rattle.kw_world.specs.Step.{step, kind_of}
use Rattle.kw_world.specs.WorldView.{WorldView}
use Rattle.kw_core.specs.Events.{walked, world, of_seat, event}
use Rattle.kw_core.proofs.Events.{of_seat-append, of_seat-here, of_seat_own, of_seat_other}
use Rattle.kw_table.specs.declared.pass.View.{View}
use Rattle.kw_table.specs.Views.{transition_in, Steps, Looks}
use Rattle.kw_table.specs.Walks.{walks_by, walks_of, walks_at, walks_from, walks_in}

walks-nil : (n : ℕ) (w : WorldView) → walks_from n w [] ≡ 0
unfolding walks_from
walks-nil n w = refl

walks-cons : (n : ℕ) (w : WorldView) (e : Event) (es : List Event) → walks_from n w (e ∷ es) ≡ walks_at n w e + walks_from n (step product w e).world es
unfolding walks_from
walks-cons n w e es = refl

-- another seat's event loads none
walks_at-else : (n : ℕ) (w : WorldView) (e : Event) → e.seat ≢ n → walks_at n w e ≡ 0
unfolding walks_at
walks_at-else n w e ne = rw (ne_eqb e.seat n ne) refl

-- the seat's event loads what its kind does
walks_at-here : (n : ℕ) (w : WorldView) (c : Choice) (kind : Kind) → kind_of product w (event n c) ≡ Some kind → walks_at n w (event n c) ≡ walks_by kind
unfolding walks_at
walks_at-here n w c kind is = rw (eq-eqb n n refl) (ap walks_of is)

-- the links that two lists load
walks-append : (n : ℕ) (w : WorldView) (xs ys : List Event) → walks_from n w (xs ++ ys) ≡ walks_from n w xs + walks_from n (walked product w xs) ys
unfolding walked
walks-append n w [] ys = let none = walks-nil n w in omega arith
walks-append n w (e ∷ xs) ys =
    let whole = walks-cons n w e (xs ++ ys) in let first = walks-cons n w e xs in let rest = walks-append n (step product w e).world xs ys in omega arith

-- other seats' events load none
walks-else : (n : ℕ) (w : WorldView) (es : List Event) → of_seat n es ≡ [] → walks_from n w es ≡ 0
walks-else n w [] none = walks-nil n w
walks-else n w (e ∷ es) none = ⊎_elim
    (λ (is : e.seat ≡ n). let own = of_seat_own n e es is in absurd cc)
    (λ (ne : e.seat ≢ n).
    let first = walks_at-else n w e ne in
    let rest = walks-else n (step product w e).world es (sym (of_seat_other n e es ne) ∙ none) in
    let whole = walks-cons n w e es in omega arith)
    (cases_eq e.seat n)

-- a longer list with no more events of the seat loads no more
walks_still : (n : ℕ) (o : Opening) (xs ys : List Event) → IsPrefix xs ys → of_seat n ys ≡ of_seat n xs → walks_from n (opened product o) ys ≡ walks_from n (opened product o) xs
walks_still n o xs ys longer same =
    let w : WorldView = opened product o in
    let others : of_seat n longer.0 ≡ [] = append_cancel_left (of_seat n xs) (of_seat n longer.0) [] (sym (of_seat-append n xs longer.0) ∙ (ap (of_seat n) longer.1 ∙ (same ∙ sym (append-nil (of_seat n xs))))) in
    let none = walks-else n (walked product w xs) longer.0 others in
    let both = walks-append n w xs longer.0 in
    let whole : walks_from n w (xs ++ longer.0) ≡ walks_from n w ys = ap (walks_from n w) longer.1 in
    omega arith

-- the seat's next event loads what its kind does, and the events between are other seats'
walks_next : (n : ℕ) (o : Opening) (xs front : List Event) (c : Choice) (kind : Kind) → IsPrefix xs front → of_seat n (front ++ event n c ∷ []) ≡ of_seat n xs ++ event n c ∷ []
    → kind_of product (world product o front) (event n c) ≡ Some kind → walks_from n (opened product o) (front ++ event n c ∷ []) ≡ walks_from n (opened product o) xs + walks_by kind
unfolding world
walks_next n o xs front c kind later own is =
    let w : WorldView = opened product o in
    let here : WorldView = walked product w front in
    let e : Event = event n c in
    let parted : of_seat n front ++ e ∷ [] ≡ of_seat n xs ++ e ∷ [] = ap (λ l. of_seat n front ++ l) (sym (of_seat-here n c)) ∙ (sym (of_seat-append n front (e ∷ [])) ∙ own) in
    let before = walks_still n o xs front later (append_cancel_right (of_seat n front) (of_seat n xs) (e ∷ []) parted) in
    let last = walks_at-here n here c kind is in
    let one = walks-cons n here e [] in
    let none = walks-nil n (step product here e).world in
    let both = walks-append n w front (e ∷ []) in
    omega arith

-- a pass that made a step has loaded what the step's kind does, and no more
pub walks_on : (v w : View) (c : Choice) (told : ℕ) → Steps v c told w → walks_in w ≡ walks_in v + walks_by (transition_in v c).operation.kind
walks_on v w c told steps =
    let own : of_seat v.number (steps.front ++ event v.number c ∷ []) ≡ of_seat v.number v.seen ++ event v.number c ∷ [] =
    ap (of_seat v.number) (sym steps.seen) ∙ (ap (λ n. of_seat n w.seen) (sym steps.number) ∙ steps.mine) in
    ap (λ n. walks_from n (opened product w.opening) w.seen) steps.number
    ∙ (ap (λ (o : Opening). walks_from v.number (opened product o) w.seen) steps.opening
    ∙ (ap (walks_from v.number (opened product v.opening)) steps.seen
    ∙ walks_next v.number v.opening v.seen steps.front c (transition_in v c).operation.kind steps.later own steps.kind))

-- a look loads none
pub walks_looked : (v w : View) → Looks v w → walks_in w ≡ walks_in v
walks_looked v w looks =
    let own : of_seat v.number w.seen ≡ of_seat v.number v.seen = ap (λ n. of_seat n w.seen) (sym looks.number) ∙ looks.mine in
    ap (λ n. walks_from n (opened product w.opening) w.seen) looks.number
    ∙ (ap (λ (o : Opening). walks_from v.number (opened product o) w.seen) looks.opening
    ∙ walks_still v.number v.opening v.seen w.seen looks.seen own)

-- as a pass counts them
pub counted_looked : (v w : View) (walked : ℕ) → walked ≡ min (2 ^ 64 - 1) (walks_in v) → Looks v w → walked ≡ min (2 ^ 64 - 1) (walks_in w)
counted_looked v w walked is looks = is ∙ ap (min (2 ^ 64 - 1)) (sym (walks_looked v w looks))

pub counted_next : (walked next before after more : ℕ) → walked ≡ min (2 ^ 64 - 1) before → next ≡ min (2 ^ 64 - 1) (walked + more) → after ≡ before + more → next ≡ min (2 ^ 64 - 1) after
counted_next walked next before after more is counts grows = omega (arith, is, counts, grows)
