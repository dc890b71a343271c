-- How many calls have a put, over an event: one more where an attempt is stamped, and the attempts
-- that are stamped are one more then too.
use Rattle.std.proofs.Common.{ℕ, zero, suc, ◌≡◌, ◌≢◌, ◌⊎◌, inl, inr, ◌+◌, ◌<◌, ◌≤◌, true, false, List, [], ◌∷◌, ◌++◌, Some, arith, refl, sym, ◌∙◌, ap, subst, length, length-append, set, get_or}
use Rattle.std.proofs.lemmas.Bool.{cases_eq, cases_lt}
use Rattle.kw_world.specs.declared.activity.Activity.{Activity}
use Rattle.kw_world.specs.declared.activity.look.Look.TheVariants as Look
use Rattle.kw_world.specs.declared.activity.put.Put.TheVariants as Put
use Rattle.kw_world.specs.declared.event.Choice.{Choice}
use Rattle.kw_world.specs.declared.local.Local.{Local}
use Rattle.kw_world.specs.Sizes.{Sizes}
use Rattle.kw_core.specs.declared.history.Attempt.{Attempt}
use Rattle.kw_core.specs.declared.history.CallLog.{CallLog}
use Rattle.kw_core.specs.declared.history.Change.{Change}
use Rattle.kw_core.specs.declared.history.Change.TheVariants.{Adds, Announces, Begins, Ends, Loses, Nothing, Stamps}
use Rattle.kw_core.specs.declared.history.Logged.{Logged}
use Rattle.kw_core.specs.declared.seat_log.SeatLog.{SeatLog}
use Rattle.kw_core.specs.History.{History, attempt, called, no_call}
use Rattle.kw_core.specs.HistoryLaws.{IsPut}
use Rattle.kw_core.specs.Noted.{MayNote, calls_after, noted}
use Rattle.kw_core.specs.Run.{Origins}
use Rattle.kw_core.specs.Step.{Keeps}
use Rattle.kw_core.specs.Words.{Words}
use Rattle.kw_core.proofs.Attempts.{in_range}
use Rattle.kw_core.proofs.Changes.{Makes, makes_add, makes_announce, makes_begin, makes_end, makes_help, makes_lose, makes_nothing, makes_stamp}
use Rattle.kw_core.proofs.NotedLaws.{attempt_push_new, attempt_push_old, attempt_same, attempt_set_other, attempt_set_same}
use Rattle.kw_counts.specs.Bank.{put_one, puts_in}

-- 1 for a change by which an attempt is stamped
abbrev pub stamps_of : Change → ℕ
stamps_of (Stamps p version load) = 1
stamps_of _ = 0

-- Calls.

puts_in-push : (cs : List CallLog) (c : CallLog) → puts_in (cs ++ c ∷ []) ≡ puts_in cs + put_one c.put
puts_in-push [] c = omega arith
puts_in-push (d ∷ cs) c = omega (arith, puts_in-push cs c)

puts_in-set : (cs : List CallLog) (x : ℕ) (c : CallLog) → x < length cs → puts_in (set cs x c) + put_one (get_or cs x no_call).put ≡ puts_in cs + put_one c.put
puts_in-set [] x c w = absurd (omega (arith, w))
puts_in-set (d ∷ cs) zero c w = omega arith
puts_in-set (d ∷ cs) (suc x) c w = omega (arith, puts_in-set cs x c (omega (arith, w)))

-- a call that is written
puts-written : (h : History) (x : ℕ) (c : CallLog) → x < length h.calls → puts_in (set h.calls x c) + put_one (called h x).put ≡ puts_in h.calls + put_one c.put
unfolding called
puts-written h x c w = puts_in-set h.calls x c w

pub puts_noted : (h : History) (e : Logged) (c : Change) → Keeps h → MayNote h e c → puts_in (calls_after h c) ≡ puts_in h.calls + stamps_of c
puts_noted h e Nothing k m = omega arith
puts_noted h e (Begins seat number call) k m = puts_in-push h.calls _
puts_noted h e (Adds call seat key value row cell) k m = omega arith
puts_noted h e (Announces p) k m = omega arith
puts_noted h e (Loses p) k m = omega arith
puts_noted h e (Stamps p version load) k m = omega (arith, puts-written h (attempt h p).call (record (called h (attempt h p).call) { put = Some p }) (k.laws.attempted p m.within).call, ap put_one m.no_put)
puts_noted h e (Ends x reply answer draw) k m = omega (arith, puts-written h x (record (called h x) { end = Some (record { at = length h.log; reply = reply }); answer = answer; draw = draw }) m.0)

-- Attempts.

same_was : (h h' : History) → h'.attempts ≡ h.attempts → (p : ℕ) → IsPut h' p → IsPut h p
same_was h h' e p x = sym (ap (λ (q : Attempt). q.is_stamped) (attempt_same h h' p e)) ∙ x

set_was : (h h' : History) (p : ℕ) (a : Attempt) → h'.attempts ≡ set h.attempts p a → p < length h.attempts → a.is_stamped ≡ (attempt h p).is_stamped → (q : ℕ) → IsPut h' q → IsPut h q
set_was h h' p a e o k q x = which (cases_eq q p)
  where
    which : (q ≡ p) ⊎ (q ≡ p → ⊥) → IsPut h q
    which (inl y) = subst (IsPut h) (sym y) (sym k ∙ sym (ap (λ (b : Attempt). b.is_stamped) (attempt_set_same h h' p a e o)) ∙ subst (IsPut h') y x)
    which (inr d) = sym (ap (λ (b : Attempt). b.is_stamped) (attempt_set_other h h' p q a e d)) ∙ x

-- where none is stamped now, each that is was so
pub none_noted : (h : History) (e : Logged) (c : Change) → MayNote h e c → stamps_of c ≡ 0 → (p : ℕ) → IsPut (noted h e c) p → IsPut h p
none_noted h e Nothing m n p x = same_was h (noted h e Nothing) refl p x
none_noted h e (Begins seat number call) m n p x = same_was h (noted h e (Begins seat number call)) refl p x
none_noted h e (Adds call seat key value row cell) m n p x = which (cases_lt p (length h.attempts))
  where
    h' : History
    h' = noted h e (Adds call seat key value row cell)

    which : (p < length h.attempts) ⊎ (length h.attempts ≤ p) → IsPut h p
    which (inl o) = sym (ap (λ (b : Attempt). b.is_stamped) (attempt_push_old h h' p _ refl o)) ∙ x
    which (inr o) =
        let w = in_range h' p x in
        let i : p ≡ length h.attempts = omega (arith, o, w, length-append {A = Attempt}) in
        let f : false ≡ true = sym (ap (λ (b : Attempt). b.is_stamped) (attempt_push_new h h' p _ refl i)) ∙ x in
        absurd (cc)
none_noted h e (Announces q) m n p x = set_was h (noted h e (Announces q)) q _ refl m.0 refl p x
none_noted h e (Loses q) m n p x = set_was h (noted h e (Loses q)) q _ refl m.0 refl p x
none_noted h e (Stamps q version load) m n p x = absurd (omega (arith, n))
none_noted h e (Ends y reply answer draw) m n p x = same_was h (noted h e (Ends y reply answer draw)) refl p x

-- only a put that is to stamp, and a reader that is to help, stamp one
pub no_stamps : (z : Sizes) (v : Words) (s : ℕ) (choice : Choice) (l : Local) (g : SeatLog) (o : Origins) (a : Activity) (c : Change) → Makes z v s choice l g o a c → a ≢ Activity.Look Look.Help → a ≢ Activity.Put Put.Stamp → stamps_of c ≡ 0
no_stamps z v s choice l g o a c (makes_nothing b) n m = refl
no_stamps z v s choice l g o a c (makes_begin call e) n m = refl
no_stamps z v s choice l g o a c (makes_add e) n m = refl
no_stamps z v s choice l g o a c (makes_announce e) n m = refl
no_stamps z v s choice l g o a c (makes_stamp e) n m = absurd (m refl)
no_stamps z v s choice l g o a c (makes_help p e f) n m = absurd (n refl)
no_stamps z v s choice l g o a c (makes_lose i j p e f q) n m = refl
no_stamps z v s choice l g o a c (makes_end answer) n m = refl
