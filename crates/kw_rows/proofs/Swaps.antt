-- A part of the list, of any length, is exchanged for another: what the list itself sees of a group
-- that is replaced.
use Rattle.std.proofs.Common.{ℕ, ◌≡◌, ◌≢◌, ◌<◌, Option, Some, List, ◌∷◌}
use Rattle.kw_rows.specs.Ledger.{Ledger, Infant, IsLive, IsDead}
use Rattle.kw_rows.specs.Rows.{Rows, leads, bound}
use Rattle.kw_rows.specs.Events.{IsIn, Links, Rises}
use Rattle.kw_rows.proofs.Chains.{IsLink}

pub record Swaps (w w' : Rows) (ledger ledger' : Ledger) (now : ℕ) (p : Option ℕ) (r : ℕ) (rest : List ℕ) (after : Option ℕ) (n : ℕ) (more : List ℕ) : Type 0 where
  -- before it
  pub link : IsLink ledger p
  pub found : leads w p ≡ Some r
  pub group : Links w.next r rest after
  pub new : Links w.next n more after
  pub infants : (x : ℕ) → IsIn (n ∷ more) x → (ledger.fates x).status ≡ Infant
  pub least : w.least n ≡ w.least r
  pub rises : Rises w.least n more
  pub below : (x b : ℕ) → IsIn (n ∷ more) x → after ≡ Some b → w.least x < w.least b
  pub past : (x : ℕ) → IsDead ledger x → (ledger.fates x).gone < now
  pub begun : (t since : ℕ) → ledger.visits t ≡ Some since → since < now
  -- after it
  pub leads_on : leads w' p ≡ Some n
  pub others : (q : Option ℕ) → q ≢ p → leads w' q ≡ leads w q
  pub leasts : (x : ℕ) → w'.least x ≡ w.least x
  pub visits : (t : ℕ) → ledger'.visits t ≡ ledger.visits t
  pub gone_dead : (x : ℕ) → IsIn (r ∷ rest) x → IsDead ledger' x
  pub gone_now : (x : ℕ) → IsIn (r ∷ rest) x → (ledger'.fates x).gone ≡ now
  pub come : (x : ℕ) → IsIn (n ∷ more) x → IsLive ledger' x
  pub come_born : (x : ℕ) → IsIn (n ∷ more) x → now < (ledger'.fates x).born
  pub come_upper : (x : ℕ) → IsIn (n ∷ more) x → (ledger'.fates x).upper ≡ bound w (w.next x)
  pub born : (x : ℕ) → (IsIn (n ∷ more) x → ⊥) → (ledger'.fates x).born ≡ (ledger.fates x).born
  pub status : (x : ℕ) → (IsIn (r ∷ rest) x → ⊥) → (IsIn (n ∷ more) x → ⊥) → (ledger'.fates x).status ≡ (ledger.fates x).status
  pub gone : (x : ℕ) → (IsIn (r ∷ rest) x → ⊥) → (IsIn (n ∷ more) x → ⊥) → (ledger'.fates x).gone ≡ (ledger.fates x).gone
  pub upper : (x : ℕ) → (IsIn (n ∷ more) x → ⊥) → (ledger'.fates x).upper ≡ (ledger.fates x).upper
