use Rattle.std.proofs.Common.{rules, refl, sym, ap, subst}
use Rattle.kw_index.specs.Entries.{AreMarked}
use Rattle.kw_index.proofs.Lawful.{lawful_without}
use Rattle.kw_index.proofs.Placed.{taken_out, none_out, absent_without}
use Rattle.kw_index.proofs.Marked.{nothing_out, marked_without}
use Rattle.kw_index.proofs.entries.Entries.remove.Goals as goal

-- no entry has a row that is not marked
pub returns-then-is_absent-clause-list : goal.returns-then-is_absent-clause-list
returns-then-is_absent-clause-list c =
    ap (λ list. record { rows = c.args.self.now.rows; list = list }) (nothing_out c.args.row c.args.self.now.list (c.if-is_absent.ensures.absent refl))

-- the entry of the row stood at the place, and the others are as lawful as before
pub invariant_of-self : goal.invariant_of-self
invariant_of-self c =
    let lawful = c.self.invariant.lawful in
    let out = taken_out c.self.inside.list.items lawful.distinct c.args.row c.in-Some.at (search rules) in
    record {
      lawful = rw (c.remove.ensures.items, out) (lawful_without _ _ lawful c.args.row);
      room = rw c.remove.ensures.capacity c.self.invariant.room;
      sized = search rules;
      marked = rw (c.remove.ensures.items, out) (marked_without _ _ c.self.invariant.marked c.args.row);
    }

pub returns-in-Some-clause-list : goal.returns-in-Some-clause-list
returns-in-Some-clause-list c =
    let out = taken_out c.self.inside.list.items c.self.invariant.lawful.distinct c.args.row c.in-Some.at (search rules) in
    rw (← c.self.view_is, c.remove.ensures.items, out) refl

-- no entry has the row
pub invariant_of-self-in_default : goal.invariant_of-self-in_default
invariant_of-self-in_default c =
    let out = none_out c.self.inside.list.items c.self.invariant.lawful.distinct c.args.row (search rules) in
    record {
      lawful = c.self.invariant.lawful;
      room = c.self.invariant.room;
      sized = search rules;
      marked = subst (AreMarked _) (sym out) (marked_without _ _ c.self.invariant.marked c.args.row);
    }

pub returns-in_default-clause-list : goal.returns-in_default-clause-list
returns-in_default-clause-list c =
    let out = none_out c.self.inside.list.items c.self.invariant.lawful.distinct c.args.row (search rules) in
    rw (← c.self.view_is) (ap (λ list. record { rows = c.self.inside.rows; list = list }) out)

-- so no entry is left that has it
pub returns-in-Some-clause-absent : goal.returns-in-Some-clause-absent
returns-in-Some-clause-absent c =
    let out = taken_out c.self.inside.list.items c.self.invariant.lawful.distinct c.args.row c.in-Some.at (search rules) in
    rw (c.remove.ensures.items, out) (absent_without c.args.row c.self.inside.list.items)

pub returns-in_default-clause-absent : goal.returns-in_default-clause-absent
returns-in_default-clause-absent c =
    let out = none_out c.self.inside.list.items c.self.invariant.lawful.distinct c.args.row (search rules) in
    rw out (absent_without c.args.row c.self.inside.list.items)
