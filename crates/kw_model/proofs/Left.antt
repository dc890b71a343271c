-- What is left to be asked, while the seats, calls and replies of a list are gone through.
use Rattle.std.proofs.Common.{ℕ, ◌≡◌, List, length}
use Rattle.kw_model.specs.Snapshots.{State, empty}
use Rattle.kw_model.specs.LegalFor.{IsLegalFor}
use Rattle.kw_model.specs.declared.call.Call.{Call}
use Rattle.kw_model.specs.declared.call.Reply.{Reply}

-- what is left of the seats, calls and replies, asked from this state, decides
pub record Left (ss : List ℕ) (cs : List Call) (rs : List Reply) (t : State) (us : List ℕ) (ds : List Call) (qs : List Reply) : Type 0 where
  pub seats : length us ≡ length ds
  pub long : length ds ≡ length qs
  pub there : IsLegalFor empty ss cs rs → IsLegalFor t us ds qs
  pub back : IsLegalFor t us ds qs → IsLegalFor empty ss cs rs
