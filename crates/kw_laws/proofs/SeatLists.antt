-- The calls of one seat, among the calls of all: what a push and a write leave of them; calls in
-- turn, and calls that go on.
use Rattle.std.proofs.Common.{ℕ, zero, suc, ◌≡◌, ◌≢◌, ◌⊎◌, inl, inr, ◌+◌, ◌==◌, ◌<◌, ◌≤◌, Some, List, [], ◌∷◌, ◌++◌, arith, refl, sym, ◌∙◌, ap, length, map, get_or, set, eq-eqb, ne_eqb}
use Rattle.std.specs.Prelude.{filter}
use Rattle.std.proofs.lemmas.Bool.{cases_eq}
use Rattle.std.proofs.lemmas.List.{map-append}
use Rattle.std.proofs.lemmas.List.Elements.{filter-append}
use Rattle.kw_model.specs.declared.call.Reply.{Reply}
use Rattle.kw_core.specs.declared.history.CallLog.{CallLog}
use Rattle.kw_core.specs.declared.history.End.{End}
use Rattle.kw_core.specs.History.{no_call}
use Rattle.kw_laws.specs.SeatCalls.{CallSeen, seen, ended_at, end_last, AreInTurn, IsStill, AreStill}

-- what is seen of the calls of seat s among these
abbrev pub seen_by : ℕ → List CallLog → List CallSeen
seen_by s cs = map seen (filter (λ (c : CallLog). c.seat == s) cs)

-- the call at a place
abbrev pub call_at : List CallLog → ℕ → CallLog
call_at cs y = get_or cs y no_call

-- a call of the seat
pub seen_by-own : (s : ℕ) (c : CallLog) (cs : List CallLog) → c.seat ≡ s → seen_by s (c ∷ cs) ≡ seen c ∷ seen_by s cs
seen_by-own s c cs e = rw (eq-eqb c.seat s e) refl

-- a call of another seat
pub seen_by-other : (s : ℕ) (c : CallLog) (cs : List CallLog) → c.seat ≢ s → seen_by s (c ∷ cs) ≡ seen_by s cs
seen_by-other s c cs d = rw (ne_eqb c.seat s d) refl

-- one more call
pub seen_by-push : (s : ℕ) (cs : List CallLog) (c : CallLog) → seen_by s (cs ++ c ∷ []) ≡ seen_by s cs ++ seen_by s (c ∷ [])
seen_by-push s cs c = ap (λ q. map seen q) (filter-append (λ (c : CallLog). c.seat == s) cs (c ∷ [])) ∙ map-append seen _ _

-- two calls are not the seat's, or the same is seen of them
abbrev pub AreAlike : ℕ → CallLog → CallLog → Type 0
AreAlike s c d = ((c.seat ≢ s) × (d.seat ≢ s)) ⊎ ((d.seat ≡ c.seat) × (seen d ≡ seen c))

-- calls that are alike one by one
pub seen_by-alike : (s : ℕ) (cs ds : List CallLog) → length ds ≡ length cs → ((y : ℕ) → y < length cs → AreAlike s (call_at cs y) (call_at ds y)) → seen_by s ds ≡ seen_by s cs
seen_by-alike s [] [] n f = refl
seen_by-alike s [] (d ∷ ds) n f = absurd (omega (arith, n))
seen_by-alike s (c ∷ cs) [] n f = absurd (omega (arith, n))
seen_by-alike s (c ∷ cs) (d ∷ ds) n f = which (f 0 (omega arith)) (seen_by-alike s cs ds (omega (arith, n)) (λ y w. f (suc y) (omega (arith, w))))
  where
    same : d.seat ≡ c.seat → seen d ≡ seen c → seen_by s ds ≡ seen_by s cs → (c.seat ≡ s) ⊎ (c.seat ≡ s → ⊥) → seen_by s (d ∷ ds) ≡ seen_by s (c ∷ cs)
    same t e rest (inl i) = seen_by-own s d ds (t ∙ i) ∙ ap (λ q. q ∷ seen_by s ds) e ∙ ap (λ q. seen c ∷ q) rest ∙ sym (seen_by-own s c cs i)
    same t e rest (inr n) = seen_by-other s d ds (λ i. n (sym t ∙ i)) ∙ rest ∙ sym (seen_by-other s c cs n)

    which : AreAlike s c d → seen_by s ds ≡ seen_by s cs → seen_by s (d ∷ ds) ≡ seen_by s (c ∷ cs)
    which (inl x) rest = seen_by-other s d ds x.1 ∙ rest ∙ sym (seen_by-other s c cs x.0)
    which (inr x) rest = same x.0 x.1 rest (cases_eq c.seat s)

-- calls of other seats alone
seen_by-none : (s : ℕ) (cs : List CallLog) → ((y : ℕ) → y < length cs → (call_at cs y).seat ≢ s) → seen_by s cs ≡ []
seen_by-none s [] f = refl
seen_by-none s (c ∷ cs) f = seen_by-other s c cs (f 0 (omega arith)) ∙ seen_by-none s cs (λ y w. f (suc y) (omega (arith, w)))

-- the last call of the seat, at this place, is written
pub record IsLastSet (s : ℕ) (cs : List CallLog) (x : ℕ) (d : CallLog) : Type 0 where
  pub before : List CallSeen
  pub was : seen_by s cs ≡ before ++ seen (call_at cs x) ∷ []
  pub is : seen_by s (set cs x d) ≡ before ++ seen d ∷ []

pub seen_by-last : (s : ℕ) (cs : List CallLog) (x : ℕ) (d : CallLog) → x < length cs → (call_at cs x).seat ≡ s → d.seat ≡ s → ((y : ℕ) → y < length cs → (call_at cs y).seat ≡ s → y ≤ x) → IsLastSet s cs x d
seen_by-last s [] x d w e f g = absurd (omega (arith, w))
seen_by-last s (c ∷ cs) zero d w e f g =
    let none : seen_by s cs ≡ [] = seen_by-none s cs (λ y v i. let n = g (suc y) (omega (arith, v)) i in omega (arith, n)) in
    record { before = []; was = seen_by-own s c cs e ∙ ap (λ q. seen c ∷ q) none; is = seen_by-own s d cs f ∙ ap (λ q. seen d ∷ q) none }
seen_by-last s (c ∷ cs) (suc x) d w e f g = which (cases_eq c.seat s) (seen_by-last s cs x d (omega (arith, w)) e f (λ y v i. let n = g (suc y) (omega (arith, v)) i in omega (arith, n)))
  where
    which : (c.seat ≡ s) ⊎ (c.seat ≡ s → ⊥) → IsLastSet s cs x d → IsLastSet s (c ∷ cs) (suc x) d
    which (inl i) rest = record { before = seen c ∷ rest.before; was = seen_by-own s c cs i ∙ ap (λ q. seen c ∷ q) rest.was; is = seen_by-own s c (set cs x d) i ∙ ap (λ q. seen c ∷ q) rest.is }
    which (inr n) rest = record { before = rest.before; was = seen_by-other s c cs n ∙ rest.was; is = seen_by-other s c (set cs x d) n ∙ rest.is }

-- the last call ends
pub end_last-snoc : (n : ℕ) (reply : Reply) (cs : List CallSeen) (c : CallSeen) → end_last n reply (cs ++ c ∷ []) ≡ cs ++ ended_at n reply c ∷ []
unfolding end_last
end_last-snoc n reply [] c = refl
end_last-snoc n reply (b ∷ []) c = refl
end_last-snoc n reply (b ∷ d ∷ cs) c = ap (λ q. b ∷ q) (end_last-snoc n reply (d ∷ cs) c)

-- Calls in turn.

-- so they are below any greater bound
pub in_turn-more : (low : ℕ) (cs : List CallSeen) (high more : ℕ) → AreInTurn low cs high → high ≤ more → AreInTurn low cs more
in_turn-more low [] high more h o = omega (arith, h, o)
in_turn-more low (c ∷ cs) high more h o = (h.0, h.1, h.2, h.3, in_turn-more (h.0.at + 1) cs high more h.4 o)

-- one more call that begins where the others have ended
pub in_turn-snoc : (low : ℕ) (cs : List CallSeen) (mid : ℕ) (c : CallSeen) (e : End) (high : ℕ) → AreInTurn low cs mid → mid ≤ c.first → c.end ≡ Some e → c.first < e.at → e.at < high → AreInTurn low (cs ++ c ∷ []) high
in_turn-snoc low [] mid c e high h o is f g = (e, is, omega (arith, h, o), f, omega (arith, g))
in_turn-snoc low (b ∷ cs) mid c e high h o is f g = (h.0, h.1, h.2, h.3, in_turn-snoc (h.0.at + 1) cs mid c e high h.4 o is f g)

-- Calls that go on.

-- each call is still the same
pub is_still : (c : CallSeen) → IsStill c c
is_still c = record { number = refl; call = refl; first = refl; end = λ e h. h }

-- longer lists still have the calls
pub still-push : (cs ds : List CallSeen) → AreStill cs (cs ++ ds)
still-push [] ds = tt
still-push (c ∷ cs) ds = (is_still c, still-push cs ds)

-- so has the same list
pub still-same : (cs : List CallSeen) → AreStill cs cs
still-same [] = tt
still-same (c ∷ cs) = (is_still c, still-same cs)

-- only the last call is another
pub still-last : (cs : List CallSeen) (c d : CallSeen) → IsStill c d → AreStill (cs ++ c ∷ []) (cs ++ d ∷ [])
still-last [] c d h = (h, tt)
still-last (b ∷ cs) c d h = (is_still b, still-last cs c d h)

-- over two longer lists
pub still-trans : (bs cs ds : List CallSeen) → AreStill bs cs → AreStill cs ds → AreStill bs ds
still-trans [] cs ds h k = tt
still-trans (b ∷ bs) [] ds h k = absurd h
still-trans (b ∷ bs) (c ∷ cs) [] h k = absurd k
still-trans (b ∷ bs) (c ∷ cs) (d ∷ ds) h k = (record { number = k.0.number ∙ h.0.number; call = k.0.call ∙ h.0.call; first = k.0.first ∙ h.0.first; end = λ e i. k.0.end e (h.0.end e i) }, still-trans bs cs ds h.1 k.1)
