use Rattle.kw_words.specs.declared.sizes.TheConstants.{MOST_NEW_ROWS}
use Rattle.kw_world.specs.Sizes as sizes
use Rattle.kw_counts.proofs.BankHold.{bank_holds}
use Rattle.kw_counts.proofs.EngagersHold.{engagers_hold}
use Rattle.kw_used.specs.Few.{update_price, update_share}
use Rattle.kw_used.proofs.AtProduct.{enough_new, update_pays}
use Rattle.kw_used.proofs.NeverRefused.{never_refused}
use Rattle.kw_used.proofs.laws.few_laws.Goals as goal

pub returns : goal.returns
returns c = record {
  never = λ z o es build share price i cost v enough. never_refused z o i build share price cost (engagers_hold z o i) (bank_holds z o i) es v enough;
  pays = update_pays;
  product = λ o es i clock epoch v enough. never_refused sizes.product o i MOST_NEW_ROWS update_share update_price update_pays (engagers_hold sizes.product o i) (bank_holds sizes.product o i) es v (enough_new o es i clock epoch enough);
}
