use Rattle.kw_lists.proofs.Same.{behind_same}
use Rattle.kw_lists.proofs.Leaving.{agree_leaves, insert_leaves, leaves_trans, on_left}
use Rattle.kw_lists.proofs.laws.leave_laws.Goals as goal

pub returns : goal.returns
returns c = record {
  agree = agree_leaves;
  insert = insert_leaves;
  trans = leaves_trans;
  on = on_left;
  behind = λ n r after at d w o s b. behind_same r after w.cell at d o s b;
}
