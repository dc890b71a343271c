use Rattle.kw_rows.proofs.Kept.{kept}
use Rattle.kw_rows.proofs.laws.row_laws.Goals as goal

pub returns : goal.returns
returns c = record {
  chain = λ w w2 g g2 now s e. (kept w w2 g g2 now s e).chain;
  closed = λ w w2 g g2 now s e. (kept w w2 g g2 now s e).closed;
  states = λ w w2 g g2 now s e. (kept w w2 g g2 now s e).states;
  marks = λ w w2 g g2 now s e. (kept w w2 g g2 now s e).marks;
  pairs = λ w w2 g g2 now s e. (kept w w2 g g2 now s e).pairs;
  follows = λ w w2 g g2 now s e. (kept w w2 g g2 now s e).follows;
  past = λ w w2 g g2 now s e. (kept w w2 g g2 now s e).past;
  fresh = λ w w2 g g2 now s e. (kept w w2 g g2 now s e).fresh;
  group = λ w w2 g g2 now s e. (kept w w2 g g2 now s e).group;
}
