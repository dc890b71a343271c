-- The law of a step: whatever the table is, a step of a pass keeps the rule, and adds its event to
-- the one list.
use Rattle.std.proofs.Common.{◌≡◌, ◌≢◌, ℕ, ◌+◌, ◌<◌, ◌≤◌, ◌%◌, ◌^◌, ◌==◌, bit_or, true, false, List, [], ◌∷◌, ◌++◌, length, slice_index, slice_get, set, Some, refl, ap, sym, ◌∙◌, subst, arith, append-nil, le_refl, get_or-set_same}
use Rattle.std.proofs.lemmas.List.{append_cancel_left}
use mathlib.Core.Logic.{⊎_elim}
use mathlib.Core.Option.{some}
use mathlib.Core.List.{IsPrefix}
use lib.ListN.{get_elem?}
use prog.Atomic.{either}
use Rattle.atomic_table.specs.Table.{keeps, Allows}
use Rattle.atomic_table.proofs.Lists.{at_set}
use Rattle.kw_words.specs.declared.layout.Name.{Name}
use Rattle.kw_words.specs.Layout.{IsWithin, place_of}
use Rattle.kw_world.specs.declared.event.Choice.{Choice}
use Rattle.kw_world.specs.declared.event.Event.{Event}
use Rattle.kw_world.specs.declared.local.Local.{Local}
use Rattle.kw_world.specs.declared.opening.Opening.{Opening}
use Rattle.kw_world.specs.declared.operation.Action.{Action}
use Rattle.kw_world.specs.declared.operation.Action.TheVariants.{Load, Store, Add, Or, Exchange}
use Rattle.kw_world.specs.Local.{resting}
use Rattle.kw_world.specs.Opening.{IsOpening}
use Rattle.kw_world.specs.Operation.{word_after, told_by, CanHappen}
use Rattle.kw_world.specs.Transition.{Transition}
use Rattle.kw_world.specs.WalkTransitions.{offered}
use Rattle.kw_world.specs.Sane.{IsSane}
use Rattle.kw_world.specs.Sizes.{product}
use Rattle.kw_world.specs.Step.{word, transition_of, transition_at, after, followed, is_skipped, kind_of, Stepped}
use Rattle.kw_world.specs.WorldView.{WorldView}
use Rattle.kw_world.proofs.Transitions.{event_can_happen, in_table}
use Rattle.kw_world.proofs.Steps.{step-moved, kind_of-moved}
use Rattle.kw_core.specs.Events.{local_of, world, may_begin, is_valid, of_seat, event}
use Rattle.kw_core.proofs.Events.{world-append, world-snoc, valid-snoc, may_step_from, local_still, of_seat-append, of_seat-here, of_seat-else}
use Rattle.kw_shape.proofs.Worlds.{world-rows, world-seats, world-local, world_sane}
use Rattle.kw_table.specs.declared.pass.View.{View}
use Rattle.kw_table.specs.Views.{local_in, mine_in, transition_in, Steps, Mine, StepsFor}
use Rattle.kw_table.specs.Rules.{Owns, Fits, Rule}
use Rattle.kw_table.specs.Slots.{slot, IsLaid}
use Rattle.kw_table.proofs.Slots.{laid_written}
use Rattle.kw_table.proofs.Prefixes.{prefix_self, prefix_longer}

-- the events that a view of the seat has not seen are of other seats
pub rest_is_others : (v : View) (es : List Event) (n : ℕ) (p : IsPrefix v.seen es) → of_seat n es ≡ of_seat n v.seen → of_seat n p.0 ≡ []
rest_is_others v es n p own =
    append_cancel_left (of_seat n v.seen) (of_seat n p.0) [] (sym (of_seat-append n v.seen p.0) ∙ (ap (of_seat n) p.1 ∙ (own ∙ sym (append-nil (of_seat n v.seen)))))

-- so the seat knows in the whole world what it knows in the world that the view has seen
pub local_is : (o : Opening) (v : View) (es : List Event) (n : ℕ) (p : IsPrefix v.seen es) → of_seat n es ≡ of_seat n v.seen → local_of (world product o es) n ≡ local_of (world product o v.seen) n
local_is o v es n p own =
    ap (λ l. local_of (world product o l) n) (sym p.1) ∙ (ap (λ w. local_of w n) (world-append product o v.seen p.0) ∙ local_still product (world product o v.seen) n p.0 (rest_is_others v es n p own))

-- a view that may not act for the event's seat fits as before
fits_longer : (o : Opening) (es : List Event) (v : View) (s : ℕ) (c : Choice) → Fits o es v → (Owns v s → ⊥) → Fits o (es ++ event s c ∷ []) v
fits_longer o es v s c fits not = record {
  seen = prefix_longer v.seen es _ fits.seen;
  told = prefix_longer v.told es _ fits.told;
  seats = fits.seats;
  own = λ n owns. of_seat-append n es (event s c ∷ []) ∙ (ap (λ l. of_seat n es ++ l) (of_seat-else n s c (λ is. not (subst (Owns v) (sym is) owns))) ∙ (append-nil (of_seat n es) ∙ fits.own n owns));
}

-- the seats are apart as before if a view is replaced by one of no more seats
pub apart_fewer : (views : List View) (id : ℕ) (v w : View) → get_elem? views id ≡ some v → ((n : ℕ) → Owns w n → Owns v n)
    → ((i j n : ℕ) (a b : View) → get_elem? views i ≡ some a → get_elem? views j ≡ some b → Owns a n → Owns b n → i ≡ j)
    → (i j n : ℕ) (a b : View) → get_elem? (set views id w) i ≡ some a → get_elem? (set views id w) j ≡ some b → Owns a n → Owns b n → i ≡ j
apart_fewer views id v w at fewer apart i j n a b at_i at_j own_a own_b =
    let p = back i a at_i own_a in let q = back j b at_j own_b in apart i j n p.0 q.0 p.1 q.1 p.2 q.2
  where
    back : (k : ℕ) (u : View) → get_elem? (set views id w) k ≡ some u → Owns u n → (x : View) × (get_elem? views k ≡ some x) × Owns x n
    back k u at_k own = ⊎_elim
        (λ (t : (k ≡ id) × (w ≡ u)). (v, subst (λ m. get_elem? views m ≡ some v) (sym t.0) at, fewer n (subst (λ (x : View). Owns x n) (sym t.1) own)))
        (λ (t : (k ≢ id) × (get_elem? views k ≡ some u)). (u, t.1, own))
        (at_set views id k w u at_k)

-- the list goes on by an event of the view v, which becomes w
abbrev after_event : View → List Event → Choice → View
after_event v es c = record { number = v.number; count = v.count; opening = v.opening; seen = es ++ event v.number c ∷ []; told = v.told }

-- what must be known of a seat before it makes its next event, with this choice
pub record IsReady (m : Mine) (c : Choice) : Type 0 where
  pub one : m.0.count ≡ 1
  pub opens : IsOpening product m.0.opening
  pub begins : may_begin (local_in m.0).activity c ≡ true
  pub moves : is_skipped (local_in m.0).activity c ≡ false

-- what is known of that event, where these are all events so far
record Comes (v : View) (c : Choice) (es : List Event) : Type 0 where
  inside : v.number < v.opening.seats
  some_rows : 1 ≤ v.opening.rows
  within : IsWithin product.seats product.cells v.opening.rows (transition_in v c).operation.name
  here : local_of (world product v.opening es) v.number ≡ local_in v
  valid : is_valid product v.opening (es ++ event v.number c ∷ []) ≡ true
  can : CanHappen (transition_in v c).operation.action (word product (world product v.opening es) (transition_in v c).operation.name)
  kind : kind_of product (world product v.opening es) (event v.number c) ≡ Some (transition_in v c).operation.kind
  leads : world product v.opening (es ++ event v.number c ∷ []) ≡ after product (world product v.opening es) v.number (transition_in v c)

-- the event is the one that the whole world has for the seat
comes : (m : Mine) (c : Choice) (es : List Event) → IsReady m c → is_valid product m.0.opening es ≡ true → Fits m.0.opening es m.0 → Comes m.0 c es
comes m c es ready valid fits =
    let v : View = m.0 in
    let o : Opening = v.opening in
    let n : ℕ = v.number in
    let w : WorldView = world product o es in
    let e : Event = event n c in
    let owns : Owns v n = (le_refl n, omega (arith, ready.one)) in
    let inside : n < o.seats = fits.seats n owns in
    let here : local_of w n ≡ local_in v = local_is o v es n fits.seen (fits.own n owns) in
    let knows : slice_get w.locals n ≡ Some (local_in v) = world-local product o es n inside ∙ ap Some here in
    let line : transition_at product w e (local_in v) ≡ transition_in v c = ap (λ k. transition_of product n (offered k c) (local_in v)) (world-rows product o es) in
    let sane : IsSane product w = world_sane product o ready.opens es valid in
    let seat : n < length w.locals = omega (arith, inside, world-seats product o es) in
    let can = event_can_happen product w e (local_in v) sane seat knows in
    let within = in_table product w e (local_in v) sane seat knows in record {
      inside = inside;
      some_rows = ready.opens.sized.some_rows;
      within = subst (λ k. IsWithin product.seats product.cells k (transition_in v c).operation.name) (world-rows product o es) (subst (λ (r : Transition). IsWithin product.seats product.cells w.rows r.operation.name) line within);
      here = here;
      valid = valid-snoc product o es e valid (may_step_from o w e (local_in v) inside ready.begins knows ready.moves);
      can = subst (λ (r : Transition). CanHappen r.operation.action (word product w r.operation.name)) line can;
      kind = kind_of-moved product w e (local_in v) knows ready.moves ∙ ap (λ (r : Transition). Some r.operation.kind) line;
      leads = world-snoc product o es e ∙ (ap (λ (x : Stepped). x.world) (step-moved product w e (local_in v) knows ready.moves) ∙ ap (after product w n) line);
    }

-- where the word of the next event lies
abbrev pub slot_in : View → Choice → ℕ
slot_in v c = slot v.opening.rows (transition_in v c).operation.name

-- the word of the event is the one at its slot
word_at : (v : View) (c : Choice) (es : List Event) (ws : List ℕ) → Comes v c es → IsLaid v.opening.rows (world product v.opening es).words ws
    → slice_index ws (slot_in v c) ≡ word product (world product v.opening es) (transition_in v c).operation.name
unfolding word
word_at v c es ws comes laid = laid.each (transition_in v c).operation.name comes.within

-- the words after the event are those of the table after its operation
words_after : (v : View) (c : Choice) (es : List Event) (ws : List ℕ) (y : ℕ) → Comes v c es → IsLaid v.opening.rows (world product v.opening es).words ws
    → y ≡ word_after (transition_in v c).operation.action (word product (world product v.opening es) (transition_in v c).operation.name)
    → IsLaid v.opening.rows (world product v.opening (es ++ event v.number c ∷ [])).words (set ws (slot_in v c) y)
words_after v c es ws y comes laid is =
    let name : Name = (transition_in v c).operation.name in
    let place : ℕ = place_of product.seats product.cells name in
    subst (λ (l : List ℕ). IsLaid v.opening.rows l (set ws (slot_in v c) y))
    (ap (set (world product v.opening es).words place) is ∙ sym (ap (λ (q : WorldView). q.words) comes.leads))
    (laid_written v.opening.rows y name (world product v.opening es).words ws comes.some_rows comes.within laid)

-- what the seat knows after the event follows from what it is told
local_after : (v : View) (c : Choice) (es : List Event) (told : ℕ) → Comes v c es
    → told ≡ told_by (transition_in v c).operation.action (word product (world product v.opening es) (transition_in v c).operation.name)
    → local_of (world product v.opening (es ++ event v.number c ∷ [])) v.number ≡ ((transition_in v c).next v.opening.rows told).local
local_after v c es told comes is =
    let w : WorldView = world product v.opening es in
    let l : Local = (followed w.rows (transition_in v c) (word product w (transition_in v c).operation.name)).local in
    ap (λ (q : WorldView). local_of q v.number) comes.leads
    ∙ (get_or-set_same w.locals v.number l (resting 0) (omega (arith, comes.inside, world-seats product v.opening es)) ∙ (ap (λ t. ((transition_in v c).next w.rows t).local) (sym is) ∙ ap (λ k. ((transition_in v c).next k told).local) (world-rows product v.opening es)))

-- A step on the word of the next event, which becomes f of what it was; its answer is g of it.
pub steps : (slots id : ℕ) (m : Mine) (c : Choice) (f g : ℕ → ℕ) → IsReady m c
    → ((n : ℕ) → CanHappen (transition_in m.0 c).operation.action n → f n ≡ word_after (transition_in m.0 c).operation.action n)
    → ((n : ℕ) → told_by (transition_in m.0 c).operation.action (g n) ≡ told_by (transition_in m.0 c).operation.action n)
    → Allows (Rule m.0.opening) slots id m (slot_in m.0 c) f (λ n. StepsFor c m (g n))
steps slots id m c f g ready leaves tells s holds _ at small =
    let v : View = m.0 in
    let o : Opening = v.opening in
    let es : List Event = holds.0 in
    let kept = holds.1 in
    let n : ℕ = v.number in
    let a : Action = (transition_in v c).operation.action in
    let fits : Fits o es v = kept.fits id v at in
    let owns : Owns v n = (le_refl n, omega (arith, ready.one)) in
    let it : Comes v c es = comes m c es ready kept.valid fits in
    let found : ℕ = word product (world product o es) (transition_in v c).operation.name in
    let all : List Event = es ++ event n c ∷ [] in
    let w : View = after_event v es c in
    let x : ℕ = slice_index s.words (slot_in v c) in
    let same : x ≡ found = word_at v c es s.words it kept.words in
    let leaves_it : f x ≡ word_after a found = ap f same ∙ leaves found it.can in
    let told : told_by a (g x) ≡ told_by a found = tells x ∙ ap (told_by a) same in
    let telling : Steps v c (told_by a (g x)) w = record {
      number = refl;
      count = refl;
      opening = refl;
      front = es;
      later = fits.seen;
      seen = refl;
      valid = it.valid;
      mine = of_seat-append n es (event n c ∷ []) ∙ (ap (λ l. l ++ of_seat n (event n c ∷ [])) (fits.own n owns) ∙ ap (λ l. mine_in v ++ l) (of_seat-here n c));
      here = it.here;
      kind = it.kind;
      told_there = told;
      local = local_after v c es (told_by a (g x)) it told;
    } in (
      w,
      keeps,
      tt,
      (
        all,
        record {
          valid = it.valid;
          words = words_after v c es s.words (f x) it kept.words leaves_it;
          fits = λ j u at_j. ⊎_elim
              (λ (t : (j ≡ id) × (w ≡ u)). subst (Fits o all) t.1 record { seen = prefix_self all; told = prefix_longer v.told es _ fits.told; seats = fits.seats; own = λ k _. refl })
              (λ (t : (j ≢ id) × (get_elem? s.views j ≡ some u)). fits_longer o es u n c (kept.fits j u t.1) (λ theirs. t.0 (kept.apart j id n u v t.1 at theirs owns)))
              (at_set s.views id j w u at_j);
          apart = apart_fewer s.views id v w at (λ k h. h) kept.apart;
        },
      ),
      (refl, telling),
    )

-- the five laws, one for each action
module _ (slots id : ℕ) (m : Mine) (c : Choice) (ready : IsReady m c) where
  pub steps_by_load : (transition_in m.0 c).operation.action ≡ Load → Allows (Rule m.0.opening) slots id m (slot_in m.0 c) (λ n. n) (StepsFor c m)
  steps_by_load is = steps slots id m c (λ n. n) (λ n. n) ready (λ n _. ap (λ a. word_after a n) (sym is)) (λ n. refl)

  pub steps_by_store : (stored : ℕ) → (transition_in m.0 c).operation.action ≡ Store stored → Allows (Rule m.0.opening) slots id m (slot_in m.0 c) (λ _. stored) (λ _. StepsFor c m stored)
  steps_by_store stored is = steps slots id m c (λ _. stored) (λ _. stored) ready (λ n _. ap (λ a. word_after a n) (sym is)) (λ n. ap (λ a. told_by a stored) is ∙ ap (λ a. told_by a n) (sym is))

  pub steps_by_add : (number : ℕ) → (transition_in m.0 c).operation.action ≡ Add number → Allows (Rule m.0.opening) slots id m (slot_in m.0 c) (λ n. (n + number) % 2 ^ 64) (StepsFor c m)
  steps_by_add number is = steps slots id m c (λ n. (n + number) % 2 ^ 64) (λ n. n) ready (λ n can. fits n (subst (λ a. CanHappen a n) is can) ∙ ap (λ a. word_after a n) (sym is)) (λ n. refl)
    where
      fits : (n : ℕ) → n + number < 2 ^ 64 → (n + number) % 2 ^ 64 ≡ n + number
      fits n small = omega (arith, small)

  pub steps_by_or : (bits : ℕ) → (transition_in m.0 c).operation.action ≡ Or bits → Allows (Rule m.0.opening) slots id m (slot_in m.0 c) (λ n. bit_or n bits) (StepsFor c m)
  steps_by_or bits is = steps slots id m c (λ n. bit_or n bits) (λ n. n) ready (λ n _. ap (λ a. word_after a n) (sym is)) (λ n. refl)

  pub steps_by_exchange : (expected stored : ℕ) → (transition_in m.0 c).operation.action ≡ Exchange expected stored
      → Allows (Rule m.0.opening) slots id m (slot_in m.0 c) (λ n. either (n == expected) stored n) (StepsFor c m)
  steps_by_exchange expected stored is = steps slots id m c (λ n. either (n == expected) stored n) (λ n. n) ready (λ n _. exchanged n ∙ ap (λ a. word_after a n) (sym is)) (λ n. refl)
    where
      exchanged : (n : ℕ) → either (n == expected) stored n ≡ word_after (Exchange expected stored) n
      exchanged n = refl
