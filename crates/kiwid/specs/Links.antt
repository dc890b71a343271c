-- What is known of links, and of those who hand them out.
use Rattle.std.specs.Prelude.{ℕ, ◌≡◌, ◌+◌, List, [], ◌∷◌, ◌++◌, Option, None, Some, ⊤}
use Rattle.kw_model.specs.Counts.{CountRose}
use Rattle.kiwid.specs.declared.links.Link.{Link}

-- what is known of a link: what its input has left and what its output has written, where these
-- tell that, and how many reads and writes failed so far
pub record LinkState : Type 0 where
  pub left : Option (List ℕ)
  pub written : Option (List ℕ)
  pub read_faults : ℕ
  pub write_faults : ℕ

-- the same, by what is told of its input and of its output
abbrev pub link_state : {I O : Type 0} → (I → Option (List ℕ)) → (I → ℕ) → (O → Option (List ℕ)) → (O → ℕ) → Link I O → LinkState
link_state left read_faults written write_faults link = record { left = left link.input; written = written link.output; read_faults = read_faults link.input; write_faults = write_faults link.output }

-- what is known of a listener: how many tries to hand out a link failed so far, how many links are
-- out, and, where it tells them, those still to be handed out and those that were taken back
pub record ListenerState : Type 0 where
  pub faults : ℕ
  pub out : ℕ
  pub coming : Option (List LinkState)
  pub closed : Option (List LinkState)

-- a list that is told begins with these links, and loses them
abbrev pub Loses : Option (List LinkState) → Option (List LinkState) → List LinkState → Type 0
Loses None new links = ⊤
Loses (Some xs) None links = ⊥
Loses (Some xs) (Some ys) links = xs ≡ links ++ ys

-- a list that is told grows by these links
abbrev pub Gains : Option (List LinkState) → Option (List LinkState) → List LinkState → Type 0
Gains None new links = ⊤
Gains (Some xs) None links = ⊥
Gains (Some xs) (Some ys) links = ys ≡ xs ++ links

-- the next link was handed out
pub record HandsOut (old new : ListenerState) (link : LinkState) : Type 0 where
  pub coming : Loses old.coming new.coming (link ∷ [])
  pub closed : new.closed ≡ old.closed
  pub out : new.out ≡ old.out + 1

-- no link was handed out, since something failed, which was counted
pub record HandsNone (old new : ListenerState) : Type 0 where
  pub rose : CountRose old.faults new.faults
  pub coming : new.coming ≡ old.coming
  pub closed : new.closed ≡ old.closed
  pub out : new.out ≡ old.out

-- a link that was out was taken back
pub record TakesBack (old new : ListenerState) (link : LinkState) : Type 0 where
  pub closed : Gains old.closed new.closed (link ∷ [])
  pub coming : new.coming ≡ old.coming
  pub out : new.out + 1 ≡ old.out
  pub faults : new.faults ≡ old.faults

-- a listener of which nothing was asked yet: no fault is counted, and no link is out
pub record IsNew (s : ListenerState) : Type 0 where
  pub faults : s.faults ≡ 0
  pub out : s.out ≡ 0
