use Rattle.kw_kept.proofs.ReaderKnows.{reader_knows}
use Rattle.kw_kept.specs.Readers.{on_sets}
use Rattle.kw_kept.proofs.laws.reader_laws.Goals as goal

pub returns : goal.returns
returns c = λ puts a k v best r. reader_knows puts (on_sets a) k v best r
