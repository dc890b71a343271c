-- Each kind has a name of its own.
use Rattle.std.proofs.Common.{ℕ, ◌≡◌, ◌≢◌, ◌<◌, ◌+◌, ◌⊎◌, inl, inr, List, Some, get_or, refl, subst, ap, ◌∙◌, arith, Option}
use Rattle.kw_words.specs.declared.kind.TheConstants.Kind.{ALL}
use Rattle.kw_words.specs.declared.kind.Kind.{Kind}
use Rattle.kw_words.specs.declared.kind.Kind.TheVariants.{LoadEpoch, StorePass, ClearPass, LoadCount, AddCount, StoreKey, StoreValue, Announce, LoadClock, Stamp, StoreVersion, ClearPend, LoadPend, LoadKey, LoadValue, LoadVersion, HelpStamp, StoreWaiting, Draw, Settle, ClearScan, LoadHead, LoadLink, LoadLeast, LoadState, Engage, FreezeCount, FreezePend, LoadScan, HelpDraw, HelpSettle, TakeRow, StoreInfant, Replace, Normalise, GiveBack, Number, StoreRetired, LoadPass, Reclaim, MarkLink, LoadNextCount, Decide, EngageNext, LoadAfter, StoreAfter, Insert, StorePin, LoadPin, ClearPin}
use Rattle.kw_words.specs.Kind.{name_of, index_in_kinds}
use Rattle.std.specs.List.{find}
use Rattle.std.specs.Str.{bytes_eq}

-- the first kind of a name
kind_named : List ℕ → Option Kind
kind_named name = find (λ kind. bytes_eq (name_of kind) name) ALL

-- a number below the next is below or the same
split : (p i : ℕ) → p < i + 1 → (p < i) ⊎ (p ≡ i)
split p i h = grind arith

-- a kind is found by its name
kind_named-name_of : (kind : Kind) → kind_named (name_of kind) ≡ Some kind
unfolding kind_named
kind_named-name_of LoadEpoch = refl
kind_named-name_of StorePass = refl
kind_named-name_of ClearPass = refl
kind_named-name_of LoadCount = refl
kind_named-name_of AddCount = refl
kind_named-name_of StoreKey = refl
kind_named-name_of StoreValue = refl
kind_named-name_of Announce = refl
kind_named-name_of LoadClock = refl
kind_named-name_of Stamp = refl
kind_named-name_of StoreVersion = refl
kind_named-name_of ClearPend = refl
kind_named-name_of LoadPend = refl
kind_named-name_of LoadKey = refl
kind_named-name_of LoadValue = refl
kind_named-name_of LoadVersion = refl
kind_named-name_of HelpStamp = refl
kind_named-name_of StoreWaiting = refl
kind_named-name_of Draw = refl
kind_named-name_of Settle = refl
kind_named-name_of ClearScan = refl
kind_named-name_of LoadHead = refl
kind_named-name_of LoadLink = refl
kind_named-name_of LoadLeast = refl
kind_named-name_of LoadState = refl
kind_named-name_of Engage = refl
kind_named-name_of FreezeCount = refl
kind_named-name_of FreezePend = refl
kind_named-name_of LoadScan = refl
kind_named-name_of HelpDraw = refl
kind_named-name_of HelpSettle = refl
kind_named-name_of TakeRow = refl
kind_named-name_of StoreInfant = refl
kind_named-name_of Replace = refl
kind_named-name_of Normalise = refl
kind_named-name_of GiveBack = refl
kind_named-name_of Number = refl
kind_named-name_of StoreRetired = refl
kind_named-name_of LoadPass = refl
kind_named-name_of Reclaim = refl
kind_named-name_of MarkLink = refl
kind_named-name_of LoadNextCount = refl
kind_named-name_of Decide = refl
kind_named-name_of EngageNext = refl
kind_named-name_of LoadAfter = refl
kind_named-name_of StoreAfter = refl
kind_named-name_of Insert = refl
kind_named-name_of StorePin = refl
kind_named-name_of LoadPin = refl
kind_named-name_of ClearPin = refl

-- a kind stands at its place
pub kind_at : (kind : Kind) → get_or ALL (index_in_kinds kind) LoadEpoch ≡ kind
kind_at LoadEpoch = refl
kind_at StorePass = refl
kind_at ClearPass = refl
kind_at LoadCount = refl
kind_at AddCount = refl
kind_at StoreKey = refl
kind_at StoreValue = refl
kind_at Announce = refl
kind_at LoadClock = refl
kind_at Stamp = refl
kind_at StoreVersion = refl
kind_at ClearPend = refl
kind_at LoadPend = refl
kind_at LoadKey = refl
kind_at LoadValue = refl
kind_at LoadVersion = refl
kind_at HelpStamp = refl
kind_at StoreWaiting = refl
kind_at Draw = refl
kind_at Settle = refl
kind_at ClearScan = refl
kind_at LoadHead = refl
kind_at LoadLink = refl
kind_at LoadLeast = refl
kind_at LoadState = refl
kind_at Engage = refl
kind_at FreezeCount = refl
kind_at FreezePend = refl
kind_at LoadScan = refl
kind_at HelpDraw = refl
kind_at HelpSettle = refl
kind_at TakeRow = refl
kind_at StoreInfant = refl
kind_at Replace = refl
kind_at Normalise = refl
kind_at GiveBack = refl
kind_at Number = refl
kind_at StoreRetired = refl
kind_at LoadPass = refl
kind_at Reclaim = refl
kind_at MarkLink = refl
kind_at LoadNextCount = refl
kind_at Decide = refl
kind_at EngageNext = refl
kind_at LoadAfter = refl
kind_at StoreAfter = refl
kind_at Insert = refl
kind_at StorePin = refl
kind_at LoadPin = refl
kind_at ClearPin = refl

-- one more kind that has not the name
pub one_more : (name : List ℕ) (i : ℕ) → ((k : Kind) → index_in_kinds k < i → name_of k ≢ name) → name_of (get_or ALL i LoadEpoch) ≢ name → (k : Kind) → index_in_kinds k < i + 1 → name_of k ≢ name
one_more name i before here k h e = which (index_in_kinds k) refl (split (index_in_kinds k) i h)
  where
    which : (p : ℕ) → index_in_kinds k ≡ p → (p < i) ⊎ (p ≡ i) → ⊥
    which p q (inl l) = before k (rw q l) e
    which p q (inr r) = here (subst (λ j. name_of (get_or ALL j LoadEpoch) ≡ name) (q ∙ r) (rw (kind_at k) e))

-- kinds of one name are one kind
pub name_of-same : (p q : Kind) → name_of p ≡ name_of q → p ≡ q
name_of-same p q e = let a = kind_named-name_of p in let b = kind_named-name_of q in let f = ap kind_named e in cc
