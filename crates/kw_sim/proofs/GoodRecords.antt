-- A record that has the calls of a history, each once, and their order is good.
use Rattle.std.proofs.Common.{ℕ, zero, suc, ◌≡◌, ◌<◌, Option, Some, None, List, [], ◌∷◌, map, Contains, arith, refl, sym, ap, subst, ◌∙◌, slice_get, unwrap_or}
use Rattle.std.specs.Option.{option_map}
use Rattle.std.proofs.lemmas.Option.{same_Some, slice_get-map, slice_get-get_or, slice_get_within, get_or_from_slice_get}
use Rattle.kw_model.specs.declared.call.Call.{Call}
use Rattle.kw_model.specs.declared.call.Reply.{Reply}
use Rattle.kw_model.specs.Snapshots.{empty}
use Rattle.kw_model.specs.LegalFor.{IsLegalFor}
use Rattle.kw_core.specs.History.{History, called}
use Rattle.kw_core.specs.declared.history.End.{End}
use Rattle.kw_core.specs.HistoryLaws.{HistoryLaws}
use Rattle.kw_order.specs.Order.{IsOrder, IsPlaced}
use Rattle.kw_order.specs.OrderLaws.{OrderLaws}
use Rattle.kw_order.specs.Legal.{IsLegalOrder, reply_or_done, seat_of, call_of, reply_of}
use Rattle.kw_order.proofs.SeatOrders.{placed_within}
use Rattle.kw_judge.specs.declared.record.Name.{Name}
use Rattle.kw_judge.specs.Record.{RecordView, Once, names_of}
use Rattle.kw_judge.specs.Good.{Recorded, calls_of, no_call, call_named, calls_in_order, EndedBefore, IsGood}
use Rattle.kw_judge.proofs.Standing.{names_are, found_at}
use Rattle.kw_sim.specs.Recorded.{call_name}

-- the element of a list that was mapped
pub mapped_at : {A B : Type 0} (f : A → B) (xs : List A) (i : ℕ) (b : B) → slice_get (map f xs) i ≡ Some b → (a : A) × (slice_get xs i ≡ Some a) × (f a ≡ b)
mapped_at f [] i b e = cc
mapped_at f (x ∷ xs) zero b e = (x, refl, same_Some (f x) b e)
mapped_at f (x ∷ xs) (suc i) b e = mapped_at f xs i b e

pub at_mapped : {A B : Type 0} (f : A → B) (xs : List A) (i : ℕ) (a : A) → slice_get xs i ≡ Some a → slice_get (map f xs) i ≡ Some (f a)
at_mapped f xs i a e = slice_get-map f xs i ∙ ap (option_map f) e

-- lists that are mapped alike, element by element
pub map_alike : {A B : Type 0} (f g : A → B) (xs : List A) → ((i : ℕ) (a : A) → slice_get xs i ≡ Some a → f a ≡ g a) → map f xs ≡ map g xs
map_alike f g [] h = refl
map_alike f g (x ∷ xs) h = let a = h 0 x refl in let b = map_alike f g xs (λ i y e. h (suc i) y e) in cc

pub map_twice : {A B C : Type 0} (g : B → C) (f : A → B) (xs : List A) → map g (map f xs) ≡ map (λ x. g (f x)) xs
map_twice g f [] = refl
map_twice g f (x ∷ xs) = let b = map_twice g f xs in cc

-- what a list has stands at a place of it, and the other way round
pub at_place : {X : Type 0} (xs : List X) (x : X) → Contains xs x → (k : ℕ) × (slice_get xs k ≡ Some x)
at_place xs x (k, l, e) = (k, slice_get-get_or xs k x l ∙ ap Some e)

pub has_place : {X : Type 0} (xs : List X) (x : X) (k : ℕ) → slice_get xs k ≡ Some x → Contains xs x
has_place xs x k e = (k, slice_get_within xs k x e, get_or_from_slice_get xs k x x e)

-- the position at which a call ended
abbrev pub last_of : Option End → Option ℕ
last_of None = None
last_of (Some e) = Some e.at

-- the name of a call of the history, and the call as a record has it
abbrev pub name_at : History → ℕ → Name
name_at h x = call_name (called h x)

abbrev pub recorded_at : History → ℕ → Recorded
recorded_at h x = record { name = name_at h x; first = (called h x).first; last = last_of (called h x).end; call = (called h x).call; reply = reply_or_done (called h x).end }

module _ (h : History) (laws : HistoryLaws h) (L : List ℕ) (once : Once L) (placed : (i x : ℕ) → slice_get L i ≡ Some x → IsPlaced h x) (every : (x : ℕ) → IsPlaced h x → (i : ℕ) × (slice_get L i ≡ Some x)) where
  -- calls with one name are one
  same_call : (x y : ℕ) → IsPlaced h x → IsPlaced h y → name_at h x ≡ name_at h y → x ≡ y
  same_call x y p q e = laws.numbers x y (placed_within h x p) (placed_within h y q) (ap (λ (n : Name). n.seat) e) (ap (λ (n : Name). n.number) e)

  module _ (r : RecordView) (calls : calls_of r ≡ map (recorded_at h) L) where
    pub names : names_of r ≡ map (name_at h) L
    names = names_are r ∙ (ap (map (λ (c : Recorded). c.name)) calls ∙ map_twice (λ (c : Recorded). c.name) (recorded_at h) L)

    pub names_once : Once (names_of r)
    names_once i j n e f =
        let a = mapped_at (name_at h) L i n (ap (λ ns. slice_get ns i) (sym names) ∙ e) in
        let b = mapped_at (name_at h) L j n (ap (λ ns. slice_get ns j) (sym names) ∙ f) in
        let same = same_call a.0 b.0 (placed i a.0 a.1) (placed j b.0 b.1) (a.2 ∙ sym b.2) in
        once i j b.0 (a.1 ∙ ap Some same) b.1

    -- the call of a name is the one that has it
    named : (x : ℕ) → IsPlaced h x → call_named r (name_at h x) ≡ recorded_at h x
    named x p =
        let w = every x p in
        let there : slice_get (calls_of r) w.0 ≡ Some (recorded_at h x) = ap (λ cs. slice_get cs w.0) calls ∙ at_mapped (recorded_at h) L w.0 x w.1 in
        let once_in : Once (map (λ (c : Recorded). c.name) (calls_of r)) = subst (λ (ns : List Name). Once ns) (names_are r) names_once in
        ap (λ (o : Option Recorded). unwrap_or o no_call) (found_at (calls_of r) (name_at h x) w.0 once_in (at_mapped (λ (c : Recorded). c.name) (calls_of r) w.0 (recorded_at h x) there)) ∙ get_or_from_slice_get (calls_of r) w.0 (recorded_at h x) no_call there

    pub good : (xs : List ℕ) → IsOrder h xs → OrderLaws h xs → IsLegalOrder h xs → r.order ≡ map (name_at h) xs → IsGood r
    good xs is order legal e = record { once = order_once; known = known; every = all; precedes = precedes; legal = right }
      where
        in_order : calls_in_order r ≡ map (recorded_at h) xs
        in_order = ap (map (call_named r)) e ∙ (map_twice (call_named r) (name_at h) xs ∙ map_alike (λ x. call_named r (name_at h x)) (recorded_at h) xs (λ i x w. named x (is.placed i x w)))

        order_once : Once r.order
        order_once i j n f g =
            let a = mapped_at (name_at h) xs i n (ap (λ ns. slice_get ns i) (sym e) ∙ f) in
            let b = mapped_at (name_at h) xs j n (ap (λ ns. slice_get ns j) (sym e) ∙ g) in
            let same = same_call a.0 b.0 (is.placed i a.0 a.1) (is.placed j b.0 b.1) (a.2 ∙ sym b.2) in
            order.once i j b.0 (a.1 ∙ ap Some same) b.1

        known : (n : Name) → Contains r.order n → Contains (names_of r) n
        known n c =
            let p = at_place r.order n c in
            let a = mapped_at (name_at h) xs p.0 n (ap (λ ns. slice_get ns p.0) (sym e) ∙ p.1) in
            let w = every a.0 (is.placed p.0 a.0 a.1) in
            has_place (names_of r) n w.0 (ap (λ ns. slice_get ns w.0) names ∙ (at_mapped (name_at h) L w.0 a.0 w.1 ∙ ap Some a.2))

        all : (n : Name) → Contains (names_of r) n → Contains r.order n
        all n c =
            let p = at_place (names_of r) n c in
            let a = mapped_at (name_at h) L p.0 n (ap (λ ns. slice_get ns p.0) (sym names) ∙ p.1) in
            let w = is.every a.0 (placed p.0 a.0 a.1) in
            has_place r.order n w.0 (ap (λ ns. slice_get ns w.0) e ∙ (at_mapped (name_at h) xs w.0 a.0 w.1 ∙ ap Some a.2))

        ended : (o : Option End) (end : ℕ) → last_of o ≡ Some end → (q : End) × (o ≡ Some q) × (q.at ≡ end)
        ended None end f = cc
        ended (Some q) end f = (q, refl, same_Some q.at end f)

        precedes : (i j : ℕ) (a b : Recorded) → slice_get (calls_in_order r) i ≡ Some a → slice_get (calls_in_order r) j ≡ Some b → j < i → EndedBefore a b → ⊥
        precedes i j a b f g l (end, last, before) =
            let x = mapped_at (recorded_at h) xs i a (ap (λ cs. slice_get cs i) (sym in_order) ∙ f) in
            let y = mapped_at (recorded_at h) xs j b (ap (λ cs. slice_get cs j) (sym in_order) ∙ g) in
            let q = ended (called h x.0).end end (ap (λ (c : Recorded). c.last) x.2 ∙ last) in
            let first : (called h y.0).first ≡ b.first = ap (λ (c : Recorded). c.first) y.2 in
            omega (arith, l, order.precedes x.0 y.0 i j q.0 x.1 y.1 q.1 (omega (arith, q.2, before, first)))

        right : IsLegalFor empty (map (λ (c : Recorded). c.name.seat) (calls_in_order r)) (map (λ (c : Recorded). c.call) (calls_in_order r)) (map (λ (c : Recorded). c.reply) (calls_in_order r))
        right =
            let who : map (seat_of h) xs ≡ map (λ (c : Recorded). c.name.seat) (calls_in_order r) = sym (ap (map (λ (c : Recorded). c.name.seat)) in_order ∙ map_twice (λ (c : Recorded). c.name.seat) (recorded_at h) xs) in
            let asked : map (call_of h) xs ≡ map (λ (c : Recorded). c.call) (calls_in_order r) = sym (ap (map (λ (c : Recorded). c.call)) in_order ∙ map_twice (λ (c : Recorded). c.call) (recorded_at h) xs) in
            let told : map (reply_of h) xs ≡ map (λ (c : Recorded). c.reply) (calls_in_order r) = sym (ap (map (λ (c : Recorded). c.reply)) in_order ∙ map_twice (λ (c : Recorded). c.reply) (recorded_at h) xs) in
            let by_replies : IsLegalFor empty (map (seat_of h) xs) (map (call_of h) xs) (map (λ (c : Recorded). c.reply) (calls_in_order r)) = subst (λ (rs : List Reply). IsLegalFor empty (map (seat_of h) xs) (map (call_of h) xs) rs) told legal in
            let by_calls : IsLegalFor empty (map (seat_of h) xs) (map (λ (c : Recorded). c.call) (calls_in_order r)) (map (λ (c : Recorded). c.reply) (calls_in_order r)) = subst (λ (cs : List Call). IsLegalFor empty (map (seat_of h) xs) cs (map (λ (c : Recorded). c.reply) (calls_in_order r))) asked by_replies in
            subst (λ (seats : List ℕ). IsLegalFor empty seats (map (λ (c : Recorded). c.call) (calls_in_order r)) (map (λ (c : Recorded). c.reply) (calls_in_order r))) who by_calls
