-- What a listener over memory is seen as.
use Rattle.std.specs.Prelude.{ℕ, ◌≡◌, List, Option, Some, map}
use Rattle.kiwid.specs.declared.links.Link.{Link}
use Rattle.kiwid.specs.Links.{ListenerState, link_state}

-- the links still to be handed out, those that were taken back, how many are out, and the count of
-- faults
pub record MemLinks (I O : Type 0) : Type 0 where
  pub coming : List (Link I O)
  pub closed : List (Link I O)
  pub out : ℕ
  pub faults : ℕ

-- the same, by what is told of the ends of its links: it tells both lists
abbrev pub mem_state : {I O : Type 0} → (I → Option (List ℕ)) → (I → ℕ) → (O → Option (List ℕ)) → (O → ℕ) → MemLinks I O → ListenerState
mem_state left read_faults written write_faults s = record {
  faults = s.faults;
  out = s.out;
  coming = Some (map (link_state left read_faults written write_faults) s.coming);
  closed = Some (map (link_state left read_faults written write_faults) s.closed);
}

-- no fault is counted, and no link is out
abbrev pub IsUnused : {I O : Type 0} → MemLinks I O → Type 0
IsUnused s = (s.faults ≡ 0) × (s.out ≡ 0)

-- what a binder over memory is seen as: the listeners that are left, and the count of faults
pub record MemBound (I O : Type 0) : Type 0 where
  pub listeners : List (MemLinks I O)
  pub faults : ℕ
