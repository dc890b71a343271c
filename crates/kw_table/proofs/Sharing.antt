-- What keeps the rule and makes no event: the opening, a look, a cut of a view, and a join of two.
use Rattle.std.proofs.Common.{◌≡◌, ◌≢◌, ℕ, zero, suc, ◌+◌, ◌-◌, ◌<◌, ◌⊎◌, List, [], ◌∷◌, ◌++◌, set, length, refl, ap, sym, ◌∙◌, subst, arith, append-nil, inl, inr, append_assoc}
use Rattle.std.proofs.lemmas.List.{set-get_or}
use mathlib.Core.Logic.{⊎_elim}
use mathlib.Core.Option.{some, some-injective, some-ne-none}
use mathlib.Core.List.{IsPrefix}
use lib.ListN.{get_elem?}
use Rattle.atomic_table.specs.Table.{keeps, Allows, Splits, Joins, opening}
use Rattle.atomic_table.proofs.Lists.{at_set, set_else}
use Rattle.kw_world.specs.declared.event.Event.{Event}
use Rattle.kw_world.specs.declared.opening.Opening.{Opening}
use Rattle.kw_world.specs.Opening.{opening_words}
use Rattle.kw_world.specs.Sizes.{product}
use Rattle.kw_world.specs.WorldView.{WorldView}
use Rattle.kw_core.specs.Events.{is_valid, of_seat}
use Rattle.kw_core.proofs.Events.{of_seat-append, valid_front, valid-nil, world-nil}
use Rattle.kw_table.specs.declared.pass.View.{View}
use Rattle.kw_table.specs.Views.{Mine, LooksFor, CatchesFor, rest_view, spent_view, note_of, told_of}
use Rattle.kw_table.specs.Rules.{Owns, Fits, Kept, Rule}
use Rattle.kw_table.specs.Slots.{IsLaid}
use Rattle.kw_table.proofs.Prefixes.{prefix_self, prefix_nil}
use Rattle.kw_table.proofs.Stepping.{local_is, apart_fewer, rest_is_others}

-- the table at the start: no event, and one view for all seats
pub opens : (o : Opening) (ws : List ℕ) → IsLaid o.rows (opening_words product o) ws → Rule o (opening ws [] (rest_view o 0))
opens o ws is = (
  [],
  record {
    valid = valid-nil product o;
    words = subst (λ (w : WorldView). IsLaid o.rows w.words ws) (sym (world-nil product o)) is;
    fits = λ i v at. subst (Fits o []) (only i v at).1 record { seen = prefix_self []; told = prefix_self []; seats = λ n h. let p = h.1 in omega arith; own = λ n _. refl };
    apart = λ i j n v w at_i at_j _ _. (only i v at_i).0 ∙ sym (only j w at_j).0;
  },
)
  where
    only : (i : ℕ) (v : View) → get_elem? (rest_view o 0 ∷ []) i ≡ some v → (i ≡ 0) × (rest_view o 0 ≡ v)
    only zero v at = (refl, some-injective (rest_view o 0) v at)
    only (suc i) v at = absurd (some-ne-none v (sym at))

-- one view is replaced by one of no more seats that fits
replaced : (o : Opening) (ws : List ℕ) (views : List View) (es : List Event) (id : ℕ) (v w : View) → Kept o ws views es → get_elem? views id ≡ some v
    → ((n : ℕ) → Owns w n → Owns v n) → Fits o es w → Kept o ws (set views id w) es
replaced o ws views es id v w kept at fewer fits = record {
  valid = kept.valid;
  words = kept.words;
  fits = λ j u at_j. ⊎_elim
      (λ (t : (j ≡ id) × (w ≡ u)). subst (Fits o es) t.1 fits)
      (λ (t : (j ≢ id) × (get_elem? views j ≡ some u)). kept.fits j u t.1)
      (at_set views id j w u at_j);
  apart = apart_fewer views id v w at fewer kept.apart;
}

abbrev after_look : View → List Event → View
after_look v es = record { number = v.number; count = v.count; opening = v.opening; seen = es; told = v.told }

-- a look, at any word, learns the whole list
pub looks : (slots id : ℕ) (m : Mine) (i : ℕ) → m.0.count ≡ 1 → Allows (Rule m.0.opening) slots id m i (λ n. n) (λ _. LooksFor m)
looks slots id m i one s holds _ at small =
    let v : View = m.0 in
    let o : Opening = v.opening in
    let es : List Event = holds.0 in
    let fits : Fits o es v = holds.1.fits id v at in
    let owns : Owns v v.number = (omega arith, omega arith) in
    let w : View = after_look v es in
    let kept = replaced o s.words s.views es id v w holds.1 at (λ n h. h) record { seen = prefix_self es; told = fits.told; seats = fits.seats; own = λ n _. refl } in (
      w,
      keeps,
      tt,
      (es, subst (λ ws. Kept o ws (set s.views id w) es) (sym (set-get_or s.words i 0)) kept),
      (
        refl,
        record {
          number = refl;
          count = refl;
          opening = refl;
          seen = fits.seen;
          told = fits.told;
          valid = holds.1.valid;
          mine = fits.own v.number owns;
          local = local_is o v es v.number fits.seen (fits.own v.number owns);
        },
      ),
    )

at_snoc_where : {A : Type 0} (l : List A) (a b : A) (j : ℕ) → get_elem? (l ++ a ∷ []) j ≡ some b → (get_elem? l j ≡ some b) ⊎ ((j ≡ length l) × (a ≡ b))
at_snoc_where [] a b zero e = inr (refl, some-injective a b e)
at_snoc_where [] a b (suc j) e = absurd (some-ne-none b (sym e))
at_snoc_where (x ∷ xs) a b zero e = inl e
at_snoc_where (x ∷ xs) a b (suc j) e = ⊎_elim (λ h. inl h) (λ t. inr (ap suc t.0, t.1)) (at_snoc_where xs a b j e)

-- a view is cut in two that share no seat
cuts : (o : Opening) (id : ℕ) (v left right : View) → ((n : ℕ) → Owns left n → Owns v n) → ((n : ℕ) → Owns right n → Owns v n) → ((n : ℕ) → Owns left n → Owns right n → ⊥)
    → ((es : List Event) → Fits o es v → Fits o es left) → ((es : List Event) → Fits o es v → Fits o es right) → Splits (Rule o) id v left right
cuts o id v left right in_left in_right never fits_left fits_right s holds at = (
  holds.0,
  record {
    valid = holds.1.valid;
    words = holds.1.words;
    fits = λ j u at_j. ⊎_elim
        (λ (h : get_elem? cut j ≡ some u). half.fits j u h)
        (λ (t : (j ≡ length cut) × (right ≡ u)). subst (Fits o holds.0) t.1 (fits_right holds.0 (holds.1.fits id v at)))
        (at_snoc_where cut right u j at_j);
    apart = λ i j n a b at_i at_j own_a own_b. ⊎_elim
        (λ (h : get_elem? cut i ≡ some a). ⊎_elim
        (λ (k : get_elem? cut j ≡ some b). half.apart i j n a b h k own_a own_b)
        (λ (t : (j ≡ length cut) × (right ≡ b)). absurd (other i a n h own_a (subst (λ (x : View). Owns x n) (sym t.1) own_b)))
        (at_snoc_where cut right b j at_j))
        (λ (t : (i ≡ length cut) × (right ≡ a)). ⊎_elim
        (λ (k : get_elem? cut j ≡ some b). absurd (other j b n k own_b (subst (λ (x : View). Owns x n) (sym t.1) own_a)))
        (λ (u : (j ≡ length cut) × (right ≡ b)). t.0 ∙ sym u.0)
        (at_snoc_where cut right b j at_j))
        (at_snoc_where cut right a i at_i);
  },
)
  where
    cut : List View
    cut = set s.views id left

    half : Kept o s.words cut holds.0
    half = replaced o s.words s.views holds.0 id v left holds.1 at in_left (fits_left holds.0 (holds.1.fits id v at))

    other : (k : ℕ) (u : View) (n : ℕ) → get_elem? cut k ≡ some u → Owns u n → Owns right n → ⊥
    other k u n at_k own theirs = ⊎_elim
        (λ (t : (k ≡ id) × (left ≡ u)). never n (subst (λ (x : View). Owns x n) (sym t.1) own) theirs)
        (λ (t : (k ≢ id) × (get_elem? s.views k ≡ some u)). t.0 (holds.1.apart k id n u v t.1 at own (in_right n theirs)))
        (at_set s.views id k left u at_k)

-- a note has seen as much, and acts for no seat
pub notes : (o : Opening) (id : ℕ) (v : View) → Splits (Rule o) id v v (note_of v)
notes o id v = cuts o id v v (note_of v) (λ n h. h) (λ n h. let p = h.1 in absurd (omega arith)) (λ n h k. let p = k.1 in omega arith) (λ es f. f)
    (λ es f. record { seen = f.seen; told = prefix_nil es; seats = λ n h. let p = h.1 in absurd (omega arith); own = λ n h. let p = h.1 in absurd (omega arith) })

-- the first seat is cut off
pub deals : (o : Opening) (id : ℕ) (v : View) → 0 < v.count → Splits (Rule o) id v record v { number = v.number + 1; count = v.count - 1 } record v { count = 1 }
deals o id v some_left = cuts o id v record v { number = v.number + 1; count = v.count - 1 } record v { count = 1 }
    (λ n h. in_rest n h) (λ n h. in_one n h) (λ n h k. let p = h.0 in let q = k.1 in omega arith)
    (λ es f. record { seen = f.seen; told = f.told; seats = λ n h. f.seats n (in_rest n h); own = λ n h. f.own n (in_rest n h) })
    (λ es f. record { seen = f.seen; told = f.told; seats = λ n h. f.seats n (in_one n h); own = λ n h. f.own n (in_one n h) })
  where
    in_rest : (n : ℕ) → Owns record v { number = v.number + 1; count = v.count - 1 } n → Owns v n
    in_rest n h = let p = h.0 in let q = h.1 in (omega arith, omega arith)

    in_one : (n : ℕ) → Owns record v { count = 1 } n → Owns v n
    in_one n h = let p = h.0 in let q = h.1 in (omega arith, omega arith)

spent_fits : (o : Opening) (es : List Event) → Fits o es spent_view
spent_fits o es = record { seen = prefix_nil es; told = prefix_nil es; seats = λ n h. let p = h.1 in absurd (omega arith); own = λ n h. let p = h.1 in absurd (omega arith) }

-- two views are joined: the first becomes `both`, of the same seats, and the other is spent
joined : (o : Opening) (id other : ℕ) (v w both : View) → ((n : ℕ) → Owns both n → Owns v n)
    → ((es : List Event) → Fits o es v → Fits o es w → Fits o es both) → Joins (Rule o) id v other w both spent_view
joined o id other v w both same fits s holds at apart at_other =
    let old : get_elem? s.views other ≡ some w = sym (set_else s.views id other both apart) ∙ at_other in
    let half = replaced o s.words s.views holds.0 id v both holds.1 at same (fits holds.0 (holds.1.fits id v at) (holds.1.fits other w old)) in
    (holds.0, replaced o s.words (set s.views id both) holds.0 other w spent_view half at_other (λ n h. let p = h.1 in absurd (omega arith)) (spent_fits o holds.0))

pub hears : (o : Opening) (id other : ℕ) (v w : View) → Joins (Rule o) id v other w (told_of v w.seen) spent_view
hears o id other v w = joined o id other v w (told_of v w.seen) (λ n h. h) (λ es f g. record { seen = f.seen; told = g.seen; seats = f.seats; own = f.own })

nil_right : {A : Type 0} (xs ys : List A) → xs ++ ys ≡ [] → ys ≡ []
nil_right [] ys e = e
nil_right (x ∷ xs) ys e = absurd cc

-- where a beginning has all events of a seat, so has a longer beginning
still_all : (es : List Event) (v w : View) (n : ℕ) → IsPrefix v.seen w.seen → IsPrefix w.seen es → of_seat n es ≡ of_seat n v.seen → of_seat n es ≡ of_seat n w.seen
still_all es v w n p q own =
    let whole : IsPrefix v.seen es = (p.0 ++ q.0, sym (append_assoc v.seen p.0 q.0) ∙ (ap (λ l. l ++ q.0) p.1 ∙ q.1)) in
    let none : of_seat n q.0 ≡ [] = nil_right (of_seat n p.0) (of_seat n q.0) (sym (of_seat-append n p.0 q.0) ∙ rest_is_others v es n whole own) in
    ap (of_seat n) (sym q.1) ∙ (of_seat-append n w.seen q.0 ∙ (ap (λ l. of_seat n w.seen ++ l) none ∙ append-nil (of_seat n w.seen)))

-- a pass that was told of a longer list may see just that list
pub catches : (slots id : ℕ) (m : Mine) (i : ℕ) → m.0.count ≡ 1 → IsPrefix m.0.seen m.0.told → Allows (Rule m.0.opening) slots id m i (λ n. n) (λ _. CatchesFor m)
catches slots id m i one longer s holds _ at small =
    let v : View = m.0 in
    let o : Opening = v.opening in
    let es : List Event = holds.0 in
    let fits : Fits o es v = holds.1.fits id v at in
    let owns : Owns v v.number = (omega arith, omega arith) in
    let w : View = after_look v v.told in
    let all : (n : ℕ) → Owns v n → of_seat n es ≡ of_seat n v.told = λ n h. still_all es v w n longer fits.told (fits.own n h) in
    let mine : of_seat v.number v.told ≡ of_seat v.number v.seen = sym (all v.number owns) ∙ fits.own v.number owns in
    let kept = replaced o s.words s.views es id v w holds.1 at (λ n h. h) record { seen = fits.told; told = fits.told; seats = fits.seats; own = all } in (
      w,
      keeps,
      tt,
      (es, subst (λ ws. Kept o ws (set s.views id w) es) (sym (set-get_or s.words i 0)) kept),
      (
        refl,
        record {
          number = refl;
          count = refl;
          opening = refl;
          seen = longer;
          told = prefix_self v.told;
          valid = valid_front product o v.told fits.told.0 (ap (is_valid product o) fits.told.1 ∙ holds.1.valid);
          mine = mine;
          local = local_is o v v.told v.number longer mine;
        },
        refl,
      ),
    )

-- the two looks, as a call asks them
pub looks_at : (slots id : ℕ) (m : Mine) (i : ℕ) (key : Opening) → m.0.count ≡ 1 → m.0.opening ≡ key → Allows (Rule key) slots id m i (λ n. n) (λ _. LooksFor m)
looks_at slots id m i key one same = subst (λ (o : Opening). Allows (Rule o) slots id m i (λ n. n) (λ _. LooksFor m)) same (looks slots id m i one)

pub catches_at : (slots id : ℕ) (m : Mine) (i : ℕ) (key : Opening) → m.0.count ≡ 1 → m.0.opening ≡ key → IsPrefix m.0.seen m.0.told → Allows (Rule key) slots id m i (λ n. n) (λ _. CatchesFor m)
catches_at slots id m i key one same longer = subst (λ (o : Opening). Allows (Rule o) slots id m i (λ n. n) (λ _. CatchesFor m)) same (catches slots id m i one longer)
