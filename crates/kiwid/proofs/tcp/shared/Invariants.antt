use Rattle.std.proofs.Common.{◌≡◌, All, vec_len}
use Rattle.kiwid.specs.Links.{IsNew}
use Rattle.kiwid.specs.Tcp.{TcpState, untold}
use Rattle.kiwid.proofs.tcp.shared.Given as goal

abbrev pub invariant-loop : goal.invariant-loop
invariant-loop l = record { len : vec_len l.bound ≡ l.counter; new : All (λ (s : TcpState). IsNew (untold s)) l.bound.items }
