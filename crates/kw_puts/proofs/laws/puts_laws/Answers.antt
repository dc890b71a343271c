use Rattle.kw_puts.proofs.PutsHold.{below_goes_on, below_starts}
use Rattle.kw_puts.proofs.laws.puts_laws.Goals as goal

pub returns : goal.returns
returns c = record { opens = λ z o i. below_starts z o i; keeps = λ z o r e i may m. below_goes_on z o r e i may m }
