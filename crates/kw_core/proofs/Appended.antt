-- What is added and what is then set are together the event with its change.
use Rattle.std.proofs.Common.{ℕ, ◌≡◌, ◌-◌, ◌++◌, ◌∷◌, [], List, arith, refl, length, length-append, subst, sym, ap, ◌∙◌}
use Rattle.kw_core.specs.History.{History, Logged, Attempt, CallLog, attempt, called}
use Rattle.kw_core.specs.Noted.{Change, Nothing, Begins, Adds, Announces, Loses, Stamps, Ends, IsWithin, attempts_after, calls_after, noted}
use Rattle.kw_core.specs.Appended.{appended, attempts_set, calls_set}

-- the event that was appended stands last
pub last_position : (h : History) (e : Logged) (c : Change) → length (appended h e c).log - 1 ≡ length h.log
last_position h e c = omega (arith, length-append {A = Logged})

-- a change that is within a history still is when its event is appended
pub within_appended : (h : History) (e : Logged) (c : Change) → IsWithin h c → IsWithin (appended h e c) c
unfolding attempt
within_appended h e (Announces p) w = w
within_appended h e (Loses p) w = w
within_appended h e (Stamps p version load) w = w
within_appended h e (Ends x reply answer draw) w = w
within_appended h e Nothing w = tt
within_appended h e (Begins seat number call) w = tt
within_appended h e (Adds call seat key value row cell) w = tt

-- the attempts
pub attempts_settled : (h : History) (e : Logged) (c : Change) → attempts_set (length h.log) (appended h e c) c ≡ attempts_after h c
unfolding attempt
attempts_settled h e (Announces p) = refl
attempts_settled h e (Loses p) = refl
attempts_settled h e (Stamps p version load) = refl
attempts_settled h e (Ends x reply answer draw) = refl
attempts_settled h e Nothing = refl
attempts_settled h e (Begins seat number call) = refl
attempts_settled h e (Adds call seat key value row cell) = refl

-- the calls
pub calls_settled : (h : History) (e : Logged) (c : Change) → calls_set (length h.log) (appended h e c) c ≡ calls_after h c
unfolding attempt called
calls_settled h e (Announces p) = refl
calls_settled h e (Loses p) = refl
calls_settled h e (Stamps p version load) = refl
calls_settled h e (Ends x reply answer draw) = refl
calls_settled h e Nothing = refl
calls_settled h e (Begins seat number call) = refl
calls_settled h e (Adds call seat key value row cell) = refl

-- a history that was appended to and then settled
pub settled_noted : (h h1 h2 : History) (e : Logged) (c : Change) → h1 ≡ appended h e c → h2.log ≡ h1.log → h2.attempts ≡ attempts_set (length h1.log - 1) h1 c → h2.calls ≡ calls_set (length h1.log - 1) h1 c → h2 ≡ noted h e c
settled_noted h h1 h2 e c is log attempts calls =
    let last : length h1.log - 1 ≡ length h.log = subst (λ (x : History). length x.log - 1 ≡ length h.log) (sym is) (last_position h e c) in
    let l : h2.log ≡ h.log ++ e ∷ [] = log ∙ ap (λ (x : History). x.log) is in
    let a : h2.attempts ≡ attempts_after h c = attempts ∙ ap (λ (n : ℕ). attempts_set n h1 c) last ∙ ap (λ (x : History). attempts_set (length h.log) x c) is ∙ attempts_settled h e c in
    let k : h2.calls ≡ calls_after h c = calls ∙ ap (λ (n : ℕ). calls_set n h1 c) last ∙ ap (λ (x : History). calls_set (length h.log) x c) is ∙ calls_settled h e c in
    joined l a k
  where
    joined : {log : List Logged} {attempts : List Attempt} {calls : List CallLog} → h2.log ≡ log → h2.attempts ≡ attempts → h2.calls ≡ calls → h2 ≡ record { log = log; attempts = attempts; calls = calls }
    joined x y z = rw (← x, ← y, ← z) refl
