use Rattle.std.proofs.Common.{◌≡◌, subst}
use Rattle.kw_table.specs.declared.pass.Pass.{Pass}
use Rattle.kw_follow.specs.Reaching.{Advances}
use Rattle.kw_follow.proofs.Reaching.{advances_trans}
use Rattle.kw_live.proofs.walking.locate.Goals.{in-Walk-Start, in-Walk+in-First-1, in-Idle-1}
use Rattle.kw_live.proofs.walking.locate.Goals as goal

pub returns-clause-on : goal.returns-clause-on
returns-clause-on c =
    let walked = λ (p : Pass) (is : c.match-local.pass ≡ p). subst (λ (q : Pass). Advances c.args.shared.now q c.walk.new.pass c.walk.new.local) is c.walk.ensures.on in
    elim c.match-local.branch [
      | in-Walk-Start w ↦ advances_trans w.set_out.ensures.on (walked _ w.pass-is)
      | in-Walk+in-First-1 w ↦ walked _ w.pass-is
      | in-Idle-1 w ↦ walked _ w.pass-is
    ]
