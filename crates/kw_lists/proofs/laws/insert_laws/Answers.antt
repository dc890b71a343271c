use Rattle.kw_lists.proofs.Places.{cell_here, cell_old, cell_or}
use Rattle.kw_lists.proofs.Inserting.{inserted_list, inserted_sound}
use Rattle.kw_lists.proofs.Agreeing.{agreeing_list, agreeing_sound, stored_agrees, empty_sound}
use Rattle.kw_lists.proofs.laws.insert_laws.Goals as goal

pub returns : goal.returns
returns c = record {
  list = λ r at c l m. inserted_list r l at c m;
  sound = λ n r at c s m u. inserted_sound r s.list at c m n u s;
  added = λ r at c. cell_here r.listed c;
  kept = λ r at c d e. cell_old r.listed c d e;
  only = λ r at c d e. cell_or r.listed c d e;
  stored = stored_agrees;
  agrees = agreeing_list;
  agrees_sound = λ n r after a s. agreeing_sound r after a n s;
  empty = empty_sound;
}
