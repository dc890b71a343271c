-- What a pass's seat knows is in range.
use Rattle.std.proofs.Common.{◌≡◌, ◌<◌, sym, arith, subst}
use Rattle.kw_world.specs.declared.local.Local.{Local}
use Rattle.kw_world.specs.Sane.{IsKnown}
use Rattle.kw_world.specs.Sizes.{product}
use Rattle.kw_shape.proofs.Worlds.{world-rows, world-local, world_sane}
use Rattle.kw_table.specs.declared.pass.Pass.{Pass}
use Rattle.kw_table.specs.declared.pass.View.{View}
use Rattle.kw_table.specs.Passes.{view}
use Rattle.kw_table.specs.Views.{local_in}

-- what the seat knows is in range
pub known_in : (p : Pass) (l : Local) → l ≡ local_in (view p) → IsKnown product (view p).opening.rows l
known_in p l is =
    let v : View = view p in
    let inside : v.number < v.opening.seats = omega (arith, p.known.seats, p.known.number) in
    let known = (world_sane product v.opening p.known.opens v.seen p.known.valid).locals v.number (local_in v) (world-local product v.opening v.seen v.number inside) in
    subst (λ k. IsKnown product (view p).opening.rows k) (sym is) (subst (λ n. IsKnown product n (local_in v)) (world-rows product v.opening v.seen) known)
