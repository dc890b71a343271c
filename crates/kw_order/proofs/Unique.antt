-- A call has one rank.
use Rattle.std.proofs.Common.{ℕ, ◌≡◌, ◌+◌, ◌<◌, ◌≤◌, ◌⊎◌, inl, inr, List, Option, Some, None, arith, sym, ◌∙◌, ap, subst, refl}
use Rattle.std.proofs.lemmas.Option.{same_Some}
use Rattle.kw_core.specs.History.{History, attempt, called, Call, Put, Del, Get, Scan, Pin, ScanAt, Unpin, Reply, Done, Value, Absent, Pairs, NoRows, Spent, Stopped}
use Rattle.kw_core.specs.declared.history.Drawn.{Drawn}
use Rattle.kw_core.specs.HistoryLaws.{StandsBefore, HistoryLaws, EndsWith, Answers}
use Rattle.kw_order.specs.Order.{IsPoint, IsGap, IsFirstGap, Rank, HasRank, of_put, behind, at_first, of_scan, of_pin, of_first, StandsFirst, put_rank}
use Rattle.kw_order.proofs.PutPoints.{point_unique}
use Rattle.kw_order.proofs.Keys.{StandsAtMost, before_cases, same_add}
use Rattle.kw_order.proofs.Calls.{get_no_put, scan_no_put, pin_no_put, snapshot_no_put, unpin_no_put}
use Rattle.kw_order.proofs.Separate.{same_get, get_not_first, first_moved}

-- of two first gaps neither is before the other
pub first_gap_unique : (h : History) → HistoryLaws h → (key f : ℕ) (g g' : Option ℕ) → IsFirstGap h key f g → IsFirstGap h key f g' → g ≡ g'
first_gap_unique h l key f None None a b = refl
first_gap_unique h l key f None (Some q) a b = absurd (b.first None a.serves tt)
first_gap_unique h l key f (Some p) None a b = absurd (a.first None b.serves tt)
first_gap_unique h l key f (Some p) (Some q) a b = which (before_cases h p q) (before_cases h q p)
  where
    which : StandsAtMost h q p ⊎ StandsBefore h p q → StandsAtMost h p q ⊎ StandsBefore h q p → Some p ≡ Some q
    which (inl x) (inl y) = ap Some (same_add h l p q a.serves.gap.is_put b.serves.gap.is_put (omega (arith, x, y)))
    which (inr x) _ = absurd (b.first (Some p) a.serves x)
    which (inl x) (inr y) = absurd (a.first (Some q) b.serves y)

-- a get has one gap
pub gap_unique : (h : History) → HistoryLaws h → (x key : ℕ) (r : Reply) (g g' : Option ℕ) → IsGap h x key r g → IsGap h x key r g' → g ≡ g'
gap_unique h l x key (Value v) g g' a b = a ∙ sym b
gap_unique h l x key Absent g g' a b = first_gap_unique h l key (called h x).first g g' a b
gap_unique h l x key _ g g' a b = absurd a

-- a call that stands at its first event has no put
pub first_no_put : (h : History) → HistoryLaws h → (x p at : ℕ) (c : Call) (r : Reply) → EndsWith h x c at r → StandsFirst c r → (called h x).put ≡ Some p → ⊥
first_no_put h l x p at c r e i w = which c r e.0 i (subst (λ q. Answers q (called h x).put r) e.0 (l.ends x _ e.1).1)
  where
    none : (called h x).put ≡ None → ⊥
    none n = let y : None ≡ Some p = sym n ∙ w in cc

    which : (c : Call) (r : Reply) → (called h x).call ≡ c → StandsFirst c r → Answers c (called h x).put r → ⊥
    which (Get k) r f i a = get_no_put h l x p k f w
    which (Scan from to) r f i a = scan_no_put h l x p from to f w
    which Pin r f i a = pin_no_put h l x p f w
    which (ScanAt from to) r f i a = snapshot_no_put h l x p from to f w
    which Unpin r f i a = unpin_no_put h l x p f w
    which (Put k v) NoRows f i a = none a
    which (Put k v) Spent f i a = none a
    which (Del k) NoRows f i a = none a
    which (Del k) Spent f i a = none a
    which (Put k v) Stopped f i a = a
    which (Del k) Stopped f i a = a
    which _ _ f i a = i

-- the rank of a call with a put
pub put_unique : (h : History) → HistoryLaws h → (x p a : ℕ) (s : Rank) → (called h x).put ≡ Some p → IsPoint h p a → HasRank h x s → put_rank h p a ≡ s
put_unique h l x p a s e i (of_put q b f j) =
    let w = same_Some p q (sym e ∙ f) in
    let z = point_unique h q a b (subst (λ u. IsPoint h u a) w i) j in
    let y : (attempt h p).add ≡ (attempt h q).add = ap (λ u. (attempt h u).add) w in cc
put_unique h l x p a s e i (behind key at reply q b f g j y) = absurd (get_no_put h l x p key f.0 e)
put_unique h l x p a s e i (at_first key at reply o f g y) = absurd (get_no_put h l x p key f.0 e)
put_unique h l x p a s e i (of_scan from to at pairs d f g) = absurd (scan_no_put h l x p from to f.0 e)
put_unique h l x p a s e i (of_pin at d f g) = absurd (pin_no_put h l x p f.0 e)
put_unique h l x p a s e i (of_first c at reply f g) = absurd (first_no_put h l x p at c reply f g e)

-- the rank of a get of this gap
data GetRank (h : History) (x : ℕ) (g : Option ℕ) : Rank → Type 0 where
  is_behind : (p a : ℕ) → g ≡ Some p → IsPoint h p a → (called h x).first < a → GetRank h x g (record { at = a; add = (attempt h p).add; tail = (called h x).first + 1 })
  is_first : ((p a : ℕ) → g ≡ Some p → IsPoint h p a → a ≤ (called h x).first) → GetRank h x g (record { at = (called h x).first; add = 0; tail = (called h x).first + 1 })

-- any rank of a get is one of its gap
get_rank : (h : History) → HistoryLaws h → (x key at : ℕ) (reply : Reply) (g : Option ℕ) (s : Rank) → EndsWith h x (Get key) at reply → IsGap h x key reply g → HasRank h x s → GetRank h x g s
get_rank h l x key at reply g s e i (of_put q b f j) = absurd (get_no_put h l x q key e.0 f)
get_rank h l x key at reply g s e i (behind key' at' reply' q b f k j y) =
    let t = same_get h x key key' at at' reply reply' e f in
    let n = gap_unique h l x key reply g (Some q) i (subst (λ u. IsGap h x u reply (Some q)) t.0 (subst (λ u. IsGap h x key' u (Some q)) t.2 k)) in
    is_behind q b n j y
get_rank h l x key at reply g s e i (at_first key' at' reply' o f k y) =
    let t = same_get h x key key' at at' reply reply' e f in
    let n = gap_unique h l x key reply g o i (subst (λ u. IsGap h x u reply o) t.0 (subst (λ u. IsGap h x key' u o) t.2 k)) in
    is_first (λ p a w j. y p a (sym n ∙ w) j)
get_rank h l x key at reply g s e i (of_scan from to at' pairs d f k) = let c : Get key ≡ Scan from to = sym e.0 ∙ f.0 in absurd (cc)
get_rank h l x key at reply g s e i (of_pin at' d f k) = let c : Get key ≡ Pin = sym e.0 ∙ f.0 in absurd (cc)
get_rank h l x key at reply g s e i (of_first c at' reply' f k) = absurd (get_not_first h l x key at reply e (first_moved h x at' at c (Get key) reply' reply f e k))

-- and there is one
get_unique : (h : History) (x : ℕ) (g : Option ℕ) (r s : Rank) → GetRank h x g r → GetRank h x g s → r ≡ s
get_unique h x g r s (is_behind p a n i y) (is_behind q b m j z) =
    let w = same_Some p q (sym n ∙ m) in
    let v = point_unique h q a b (subst (λ u. IsPoint h u a) w i) j in
    let t : (attempt h p).add ≡ (attempt h q).add = ap (λ u. (attempt h u).add) w in cc
get_unique h x g r s (is_behind p a n i y) (is_first z) = absurd (omega (arith, y, z p a n i))
get_unique h x g r s (is_first z) (is_behind p a n i y) = absurd (omega (arith, y, z p a n i))
get_unique h x g r s (is_first y) (is_first z) = refl

-- the rank of a scan
scan_unique : (h : History) → HistoryLaws h → (x from to at : ℕ) (pairs : List (ℕ × ℕ)) (d : Drawn) (s : Rank) → EndsWith h x (Scan from to) at (Pairs pairs) → (called h x).draw ≡ Some d → HasRank h x s →
    ◌≡◌ {A = Rank} (record { at = d.at; add = 0; tail = (called h x).first + 1 }) s
scan_unique h l x from to at pairs d s e w (of_put q b f j) = absurd (scan_no_put h l x q from to e.0 f)
scan_unique h l x from to at pairs d s e w (behind key at' reply q b f g j y) = let c : Get key ≡ Scan from to = sym f.0 ∙ e.0 in absurd (cc)
scan_unique h l x from to at pairs d s e w (at_first key at' reply o f g y) = let c : Get key ≡ Scan from to = sym f.0 ∙ e.0 in absurd (cc)
scan_unique h l x from to at pairs d s e w (of_scan from' to' at' pairs' d' f g) = let t : d.at ≡ d'.at = ap (λ (q : Drawn). q.at) (same_Some d d' (sym w ∙ g)) in cc
scan_unique h l x from to at pairs d s e w (of_pin at' d' f g) = let c : Pin ≡ Scan from to = sym f.0 ∙ e.0 in absurd (cc)
scan_unique h l x from to at pairs d s e w (of_first c at' reply f g) = absurd (first_moved h x at' at c (Scan from to) reply (Pairs pairs) f e g)

-- the rank of a pin
pin_unique : (h : History) → HistoryLaws h → (x at : ℕ) (d : Drawn) (s : Rank) → EndsWith h x Pin at Done → (called h x).draw ≡ Some d → HasRank h x s →
    ◌≡◌ {A = Rank} (record { at = d.at; add = 0; tail = (called h x).first + 1 }) s
pin_unique h l x at d s e w (of_put q b f j) = absurd (pin_no_put h l x q e.0 f)
pin_unique h l x at d s e w (behind key at' reply q b f g j y) = let c : Get key ≡ Pin = sym f.0 ∙ e.0 in absurd (cc)
pin_unique h l x at d s e w (at_first key at' reply o f g y) = let c : Get key ≡ Pin = sym f.0 ∙ e.0 in absurd (cc)
pin_unique h l x at d s e w (of_scan from to at' pairs d' f g) = let c : Scan from to ≡ Pin = sym f.0 ∙ e.0 in absurd (cc)
pin_unique h l x at d s e w (of_pin at' d' f g) = let t : d.at ≡ d'.at = ap (λ (q : Drawn). q.at) (same_Some d d' (sym w ∙ g)) in cc
pin_unique h l x at d s e w (of_first c at' reply f g) = absurd (first_moved h x at' at c Pin reply Done f e g)

-- the rank of a call that stands at its first event
first_unique : (h : History) → HistoryLaws h → (x at : ℕ) (c : Call) (r : Reply) (s : Rank) → EndsWith h x c at r → StandsFirst c r → HasRank h x s →
    ◌≡◌ {A = Rank} (record { at = (called h x).first; add = 0; tail = (called h x).first + 1 }) s
first_unique h l x at c r s e w (of_put q b f j) = absurd (first_no_put h l x q at c r e w f)
first_unique h l x at c r s e w (behind key at' reply q b f g j y) = absurd (get_not_first h l x key at' reply f (first_moved h x at at' c (Get key) r reply e f w))
first_unique h l x at c r s e w (at_first key at' reply o f g y) = refl
first_unique h l x at c r s e w (of_scan from to at' pairs d f g) = absurd (first_moved h x at at' c (Scan from to) r (Pairs pairs) e f w)
first_unique h l x at c r s e w (of_pin at' d f g) = absurd (first_moved h x at at' c Pin r Done e f w)
first_unique h l x at c r s e w (of_first c' at' reply f g) = refl

-- each call has one rank
pub rank_unique : (h : History) → HistoryLaws h → (x : ℕ) (r s : Rank) → HasRank h x r → HasRank h x s → r ≡ s
rank_unique h l x r s (of_put p a e i) k = put_unique h l x p a s e i k
rank_unique h l x r s (behind key at reply p a e g i y) k = get_unique h x (Some p) r s (is_behind p a refl i y) (get_rank h l x key at reply (Some p) s e g k)
rank_unique h l x r s (at_first key at reply o e g y) k = get_unique h x o r s (is_first y) (get_rank h l x key at reply o s e g k)
rank_unique h l x r s (of_scan from to at pairs d e g) k = scan_unique h l x from to at pairs d s e g k
rank_unique h l x r s (of_pin at d e g) k = pin_unique h l x at d s e g k
rank_unique h l x r s (of_first c at reply e i) k = first_unique h l x at c reply s e i k
