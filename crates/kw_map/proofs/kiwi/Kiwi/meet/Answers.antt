use Rattle.std.proofs.Common.{◌∙◌, ap}
use Rattle.kw_world.specs.declared.local.Local.{Local}
use Rattle.kw_table.specs.declared.pass.Pass.{Pass}
use Rattle.kw_table.specs.Passes.{IsPassOf, view}
use Rattle.kw_table.specs.Views.{Meets}
use Rattle.kw_map.specs.declared.kiwi.Kiwi.{Kiwi}
use Rattle.kw_map.specs.Kiwi.{IsIdle}
use Rattle.kw_map.proofs.kiwi.Kiwi.meet.Goals as goal

-- a pass that met is idle as it was
idle_met : (m : Kiwi) (p q : Pass) → IsPassOf m q → Meets (view p) (view q) → IsIdle m p → IsIdle m q
idle_met m p q of meets i = record { of_map = of; idle = ap (λ (l : Local). l.activity) meets.local ∙ i.idle }

pub meet-requires-clause-one : goal.meet-requires-clause-one
meet-requires-clause-one c = rw (c.self.view_is, c.a.view_is) c.requires.one

pub meet-requires-clause-other : goal.meet-requires-clause-other
meet-requires-clause-other c = rw (c.self.view_is, c.b.view_is) c.requires.other

pub returns : goal.returns
returns c =
    let m : Kiwi = c.self.inside.shared in
    let one = c.meet.ensures.one in
    let other = c.meet.ensures.other in
    rw (← c.self.view_is, ← c.a.view_is, ← c.b.view_is) record {
      one = one;
      other = other;
      same = c.meet.ensures.same;
      idle = (λ i. idle_met m c.a.inside.seat c.meet.new.a one.0 one.1 i, λ i. idle_met m c.b.inside.seat c.meet.new.b other.0 other.1 i);
    }
