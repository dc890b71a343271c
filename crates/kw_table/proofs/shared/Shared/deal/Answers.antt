use Rattle.std.proofs.Common.{rules, ◌≡◌, ◌-◌, ◌^◌, min, ap, sym, arith}
use Rattle.kw_table.proofs.Slots.{some_slots}
use Rattle.kw_table.proofs.Sharing.{deals}
use Rattle.kw_table.proofs.Fresh.{fresh_known, fresh_mine, fresh_walks, fresh_local}
use Rattle.kw_table.specs.Views.{Mine}
use Rattle.kw_table.proofs.shared.Shared.deal.Goals as goal

pub split_seat-seat-requires : goal.split_seat-seat-requires
split_seat-seat-requires c =
    let some = some_slots c.args.self.now in
    let is : c.args.rest.now.me.0.count ≡ c.args.self.now.opening.seats - c.args.number = ap (λ (m : Mine). m.0.count) c.requires.rest in
    let inside = c.requires.some in
    (c.requires.table, omega arith, deals _ _ c.args.rest.now.me.0 (omega arith))

pub invariant_of-result : goal.invariant_of-result
invariant_of-result c = record {
  known = fresh_known c.args.number c.args.self.now.opening c.split_seat-seat.result.me c.args.rest.now.me c.requires.rest c.split_seat-seat.ensures.4 c.args.self.now.opens c.requires.some;
  counted = ap (min (2 ^ 64 - 1)) (sym (fresh_walks c.args.number c.args.self.now.opening c.split_seat-seat.result.me c.args.rest.now.me c.requires.rest c.split_seat-seat.ensures.4));
}

pub returns-clause-pass : goal.returns-clause-pass
returns-clause-pass c =
    let mine = fresh_mine c.args.number c.args.self.now.opening c.split_seat-seat.result.me c.args.rest.now.me c.requires.rest c.split_seat-seat.ensures.4 in
    let local = fresh_local c.args.number c.args.self.now.opening c.split_seat-seat.result.me c.args.rest.now.me c.requires.rest c.split_seat-seat.ensures.4 c.requires.some in
    record { of_table = search rules; number = search rules; seen = search rules; mine = mine; local = local }
