-- Fewer versions than a row has room for leave few enough cells of a key.
use Rattle.std.proofs.Common.{◌+◌, arith, length}
use Rattle.kw_words.specs.declared.sizes.TheConstants.{BUILT}
use Rattle.kw_cells.proofs.Few.{few_within}
use Rattle.kw_words_tests.proofs.keep.expect_starts.Goals as goal

pub pack_rows-starts-requires-clause-few : goal.pack_rows-starts-requires-clause-few
pack_rows-starts-requires-clause-few g c = few_within (length c.args.needed.now + 1) BUILT c.keep.new.kept (omega arith) c.keep.ensures.few
