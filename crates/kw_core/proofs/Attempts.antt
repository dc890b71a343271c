-- Attempts and calls in their lists.
use Rattle.std.proofs.Common.{ℕ, ◌≡◌, ◌<◌, ◌≤◌, ◌⊎◌, inl, inr, false, true, sym, ◌∙◌, ap, length, get_or, List, None, refl}
use Rattle.std.proofs.lemmas.Bool.{cases_lt}
use Rattle.std.proofs.lemmas.List.{get_or_past, get_or_read}
use Rattle.kw_core.specs.History.{History, Attempt, CallLog, attempt, called, no_attempt, no_call}
use Rattle.kw_core.specs.HistoryLaws.{IsPut}
use Rattle.kw_core.specs.History.{History, Attempt, CallLog, attempt, called, no_attempt, no_call}
use Rattle.kw_core.specs.HistoryLaws.{IsPut}

-- a stamped attempt is one of the list
pub in_range : (h : History) (p : ℕ) → IsPut h p → p < length h.attempts
unfolding attempt no_attempt
in_range h p s = which (cases_lt p (length h.attempts))
  where
    which : (p < length h.attempts) ⊎ (length h.attempts ≤ p) → p < length h.attempts
    which (inl x) = x
    which (inr x) = let e : attempt h p ≡ no_attempt = get_or_past h.attempts p no_attempt x in let f : false ≡ true = sym (ap (λ (q : Attempt). q.is_stamped) e) ∙ s in absurd (cc)

-- what a place of the list of attempts holds
pub attempt_read : (h : History) (p : ℕ) (a : Attempt) → a ≡ get_or h.attempts p a → p < length h.attempts → a ≡ attempt h p
unfolding attempt
attempt_read h p a e w = get_or_read h.attempts p a w e no_attempt

-- what a place of the list of calls holds
pub called_read : (h : History) (x : ℕ) (c : CallLog) → c ≡ get_or h.calls x c → x < length h.calls → c ≡ called h x
unfolding called
called_read h x c e w = get_or_read h.calls x c w e no_call

-- what the code reads at a place of the list of attempts
pub attempt_at : (h : History) (list : List Attempt) (p : ℕ) → list ≡ h.attempts →
    get_or list p (record { call = 0; value = None; seat = 0; key = 0; row = 0; cell = 0; add = 0; announced = 0; version = 0; load = 0; at = 0; is_announced = false; is_stamped = false; is_lost = false }) ≡ attempt h p
unfolding attempt no_attempt
attempt_at h list p e = rw e refl
