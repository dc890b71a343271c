-- Bytes are the text of a record or have a first bad line, and one first bad line at most.
use Rattle.std.proofs.Common.{◌≡◌, ℕ, ◌<◌, ◌≤◌, List, [], ◌∷◌, ◌++◌, length, refl, sym, ◌∙◌, ap, subst, arith, append_assoc}
use Rattle.std.proofs.lemmas.Bool.{cases_lt}
use Rattle.std.proofs.lemmas.List.{append-nil}
use mathlib.Core.Logic.{⊎_elim}
use Rattle.kw_judge.specs.Record.{RecordView, IsRecord, IsRecordText, IsFirstBad, IsBadAfter, Begins, record_lines}

-- no lines of a record have a bad one after those that begin a record
not_bad : (r : RecordView) (before after : List (List ℕ)) → IsRecord r → record_lines r ≡ before ++ after → IsBadAfter before after → ⊥
not_bad r before [] fits e bad = bad r fits (e ∙ append-nil before)
not_bad r before (line ∷ after) fits e bad = bad (record { whole = r; fits = fits; rest = after; texts = e ∙ sym (append_assoc before (line ∷ []) after) })

-- no bytes have both a record and a bad line
pub record_or_bad : (bytes : List ℕ) (r : RecordView) (at : ℕ) → IsRecordText bytes r → IsFirstBad bytes at → ⊥
record_or_bad bytes r at h k = not_bad r k.before k.after h.fits (sym h.texts ∙ k.cut) k.bad

-- a list that begins as another one and is longer goes on with the other one's next element
record GoesOn (xs ys zs : List (List ℕ)) : Type 0 where
  pub next : List ℕ
  pub others : List (List ℕ)
  pub left : List (List ℕ)
  pub longer : zs ≡ xs ++ next ∷ others
  pub after : ys ≡ next ∷ left

goes_on : (xs ys zs ws : List (List ℕ)) → xs ++ ys ≡ zs ++ ws → length xs < length zs → GoesOn xs ys zs
goes_on [] ys [] ws e lt = absurd (omega arith)
goes_on [] ys (z ∷ zs) ws e lt = record { next = z; others = zs; left = zs ++ ws; longer = refl; after = e }
goes_on (x ∷ xs) ys [] ws e lt = absurd (omega arith)
goes_on (x ∷ xs) ys (z ∷ zs) ws e lt =
    let first : z ≡ x = cc in
    let rest : xs ++ ys ≡ zs ++ ws = cc in
    let g = goes_on xs ys zs ws rest (omega arith) in
    record {
      next = g.next;
      others = g.others;
      left = g.left;
      longer = ap (λ (l : List ℕ). l ∷ zs) first ∙ ap (λ (l : List (List ℕ)). x ∷ l) g.longer;
      after = g.after;
    }

-- lines that begin a record do not go beyond a bad line
not_beyond : (xs ys zs ws : List (List ℕ)) → xs ++ ys ≡ zs ++ ws → IsBadAfter xs ys → Begins zs → length xs < length zs → ⊥
not_beyond xs ys zs ws e bad begins lt =
    let g = goes_on xs ys zs ws e lt in
    let at : Begins (xs ++ g.next ∷ []) → ⊥ = subst (IsBadAfter xs) g.after bad in
    at (record {
      whole = begins.whole;
      fits = begins.fits;
      rest = g.others ++ begins.rest;
      texts = begins.texts ∙ (ap (λ (l : List (List ℕ)). l ++ begins.rest) g.longer
          ∙ (append_assoc xs (g.next ∷ g.others) begins.rest ∙ sym (append_assoc xs (g.next ∷ []) (g.others ++ begins.rest))));
    })

-- there is one first bad line at most
pub same_bad_record_line : (bytes : List ℕ) (m n : ℕ) → IsFirstBad bytes m → IsFirstBad bytes n → m ≡ n
same_bad_record_line bytes m n h k =
    let same : h.before ++ h.after ≡ k.before ++ k.after = sym h.cut ∙ k.cut in
    let place : length h.before ≡ length k.before = ⊎_elim
    (λ (lt : length h.before < length k.before). absurd (not_beyond h.before h.after k.before k.after same h.bad k.begins lt))
    (λ (le : length k.before ≤ length h.before). ⊎_elim
    (λ (lt : length k.before < length h.before). absurd (not_beyond k.before k.after h.before h.after (sym same) k.bad h.begins lt))
    (λ (ge : length h.before ≤ length k.before). omega arith)
    (cases_lt (length k.before) (length h.before)))
    (cases_lt (length h.before) (length k.before)) in
    omega (arith, place, h.number_is, k.number_is)
