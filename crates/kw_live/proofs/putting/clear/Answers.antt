use Rattle.std.proofs.Common.{◌≡◌, if◌then◌else◌, subst, sym}
use Rattle.kw_world.specs.declared.local.Local.{Local}
use Rattle.kw_live.specs.declared.putting.TryPut.TheVariants.{Done, Tidies}
use Rattle.kw_live.specs.Putting.{stands_after}
use Rattle.kw_live.proofs.PutStages.{clears}
use Rattle.kw_live.proofs.putting.clear.Goals.{then-tidies, else-tidies}
use Rattle.kw_live.proofs.putting.clear.Goals as goal

pub returns-clause-stands : goal.returns-clause-stands
returns-clause-stands c = elim c.if-tidies.branch [
  | then-tidies w ↦ subst (λ (k : Local). k.activity ≡ stands_after (if k.tidies then Tidies else Done)) (sym w.local-is) (clears c.requires.follows c.requires.activity w.go.ensures)
  | else-tidies w ↦ subst (λ (k : Local). k.activity ≡ stands_after (if k.tidies then Tidies else Done)) (sym w.local-is) (clears c.requires.follows c.requires.activity w.go_put.ensures)
]
