use Rattle.kw_work.proofs.Numbers.{lines_are_items, calls-lines_of, forms-lines_of, joined-blocks_of, rising-part}
use Rattle.kw_work.proofs.Quieted.{forms-blocks_of, quiet-blocks_of}
use Rattle.kw_work.proofs.Onces.{IsPermutation-all_parts}
use Rattle.kw_work.proofs.laws.dealing_laws.Goals as goal

pub returns : goal.returns
returns c = record {
  items = lines_are_items;
  calls = calls-lines_of;
  forms = forms-lines_of;
  blocks = joined-blocks_of;
  cut = forms-blocks_of;
  quiet = quiet-blocks_of;
  rising = rising-part;
  once = IsPermutation-all_parts;
}
