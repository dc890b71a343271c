use Rattle.std.proofs.Common.{◌≡◌, length, All, IfOk, Vec, sym, subst, arith, rules}
use Rattle.std.specs.declared.alloc.AllocError.{AllocError}
use Rattle.std.specs.declared.alloc.Global.{Global}
use Rattle.std.specs.declared.result.Result.{Result}
use Rattle.kw_app.specs.declared.rounds.Done.{Done}
use Rattle.kw_table.specs.declared.pass.Pass.{Pass}
use Rattle.kw_map.specs.Kiwi.{IsIdle}
use Rattle.kw_app.specs.Rounds.{AreDone}
use Rattle.kw_app.proofs.Groups.{all_of_group, done_of_groups, flat}
use Rattle.kw_app.proofs.MapVec.{at_each}
use Rattle.kw_app.proofs.sharing.finish_all.Goals as goal

pub map_vec-requires-after_bounds : goal.map_vec-requires-after_bounds
map_vec-requires-after_bounds g c κs within = λ i x lt at.
    let m = c.args.kiwi.now in
    let gs = c.in_ok-groups.groups in
    let all : All (IsIdle m) (flat gs.items) = subst (All (IsIdle m)) (sym c.in_ok-groups.ensures) c.requires.idle in
    (subst (λ (y : Vec Pass Global). All (IsIdle m) y.items) (sym at) (all_of_group (IsIdle m) gs.items all i x lt), c.requires.lines)

pub returns : goal.returns
returns g c =
    let m = c.args.kiwi.now in
    let b = c.args.block.now in
    let gs = c.in_ok-groups.groups in
    let parts = c.in_ok-parts.parts in
    let as_many : length parts.items ≡ length gs.items = omega (arith, c.in_ok-parts.ensures.len) in
    done_of_groups m b c.args.passes.items gs.items parts.items c.ungrouped.result c.in_ok-groups.ensures as_many
    (at_each _ _ gs.items parts.items (λ (x : Vec Pass Global) (r : Result (Vec Done Global) AllocError). IfOk r (λ v. AreDone m b x.items v.items)) c.in_ok-parts.ensures.each (λ x r post. search rules))
    c.ungrouped.ensures
