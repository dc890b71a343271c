-- What connections over TCP are seen as.
use Rattle.std.specs.Prelude.{ℕ, None}
use Rattle.kiwid.specs.Links.{ListenerState}

-- a bound port, as one seat accepts connections: the count of faults, and how many links are out
pub record TcpState : Type 0 where
  pub faults : ℕ
  pub out : ℕ

-- the same, of a listener: it tells no links
abbrev pub untold : TcpState → ListenerState
untold s = record { faults = s.faults; out = s.out; coming = None; closed = None }
