use Rattle.std.proofs.Common.{rules, ◌≡◌, ◌≢◌, ◌<◌, All, length, true, sym, ap, subst, arith, ◌∙◌}
use Rattle.std.specs.List.{insert}
use Rattle.std.proofs.lemmas.List.Edits.{length-insert}
use Rattle.std.proofs.lemmas.List.{get_or-set_same, get_or_default}
use Rattle.kw_index.specs.Entries.{IsLawful}
use Rattle.kw_index.proofs.Lawful.{lawful_with_entry, length_at_most}
use Rattle.kw_index.proofs.Placed.{put_in, put_over}
use Rattle.kw_index.proofs.Marked.{marked_with, marked_with_entry, marked_over}
use Rattle.kw_index.proofs.entries.Entries.insert.Goals as goal

-- the entry took the place of the one with its least key, whose row has none any more
pub invariant_of-self : goal.invariant_of-self
invariant_of-self c =
    let found = rw c.deref-2.ensures.value at c.if-has_least_at.ensures in
    let over = put_over c.self.inside.list.items c.self.invariant.lawful.rising c.args.entry c.count_below-at.result (rw (← c.deref.ensures.value) c.count_below-at.ensures.bound) (rw (← c.deref.ensures.value) c.count_below-at.ensures.parted) found.here found.same in
    let in_marks : c.args.entry.row < length c.self.inside.marks.items = rw c.self.invariant.sized (subst (λ l. c.args.entry.row < l.rows) (sym c.self.view_is) c.requires.in_range) in
    record {
      lawful = rw over (lawful_with_entry _ _ c.self.invariant.lawful c.args.entry (subst (λ l. c.args.entry.row < l.rows) (sym c.self.view_is) c.requires.in_range) (subst (λ l. All (λ e. e.row ≢ c.args.entry.row) l.list) (sym c.self.view_is) c.requires.new_row));
      room = c.self.invariant.room;
      sized = search rules;
      marked = marked_over _ _ (marked_with _ _ c.self.invariant.marked c.args.entry.row in_marks) c.self.invariant.lawful.distinct c.args.entry (λ e. get_or-set_same c.self.inside.marks.items c.args.entry.row true e in_marks) c.count_below-at.result c.index.result.now.row found.here (λ d. ap (λ e. e.row) (get_or_default c.self.inside.list.items c.count_below-at.result d c.index.result.now found.here ∙ sym c.index.ensures)) (λ same. subst (λ l. All (λ e. e.row ≢ c.args.entry.row) l.list) (sym c.self.view_is) c.requires.new_row c.count_below-at.result c.index.result.now found.here (ap (λ e. e.row) (sym c.index.ensures) ∙ sym same));
    }

pub returns-then-has_least_at : goal.returns-then-has_least_at
returns-then-has_least_at c =
    let found = rw c.deref-2.ensures.value at c.if-has_least_at.ensures in
    let over = put_over c.self.inside.list.items c.self.invariant.lawful.rising c.args.entry c.count_below-at.result (rw (← c.deref.ensures.value) c.count_below-at.ensures.bound) (rw (← c.deref.ensures.value) c.count_below-at.ensures.parted) found.here found.same in
    rw (← c.self.view_is) (ap (λ list. record { rows = c.self.inside.rows; list = list }) over)

-- there is room for one more, since with it there are at most as many as rows
pub unreachable-requires : goal.unreachable-requires
unreachable-requires c =
    let put = put_in c.self.inside.list.items c.self.invariant.lawful.rising c.args.entry c.count_below-at.result (rw (← c.deref.ensures.value) c.count_below-at.ensures.bound) (rw (← c.deref.ensures.value) c.count_below-at.ensures.parted) (rw c.deref-2.ensures.value at c.if-has_least_at.ensures) in
    let few = length_at_most c.self.inside.rows _ (subst (IsLawful c.self.inside.rows) (sym put) (lawful_with_entry _ _ c.self.invariant.lawful c.args.entry (subst (λ l. c.args.entry.row < l.rows) (sym c.self.view_is) c.requires.in_range) (subst (λ l. All (λ e. e.row ≢ c.args.entry.row) l.list) (sym c.self.view_is) c.requires.new_row))) in
    let longer = length-insert c.self.inside.list.items c.count_below-at.result c.args.entry (rw (← c.deref.ensures.value) c.count_below-at.ensures.bound) in
    grind (arith, few, longer, c.self.invariant.room, c.insert.ensures.full)

-- the entry stands between the lesser and the greater least keys
pub invariant_of-self-else-is_err : goal.invariant_of-self-else-is_err
invariant_of-self-else-is_err c =
    let put = put_in c.self.inside.list.items c.self.invariant.lawful.rising c.args.entry c.count_below-at.result (rw (← c.deref.ensures.value) c.count_below-at.ensures.bound) (rw (← c.deref.ensures.value) c.count_below-at.ensures.parted) (rw c.deref-2.ensures.value at c.if-has_least_at.ensures) in
    let items : c.insert.new.self.items ≡ insert c.self.inside.list.items c.count_below-at.result c.args.entry = search rules in
    let in_marks : c.args.entry.row < length c.self.inside.marks.items = rw c.self.invariant.sized (subst (λ l. c.args.entry.row < l.rows) (sym c.self.view_is) c.requires.in_range) in
    record {
      lawful = rw (items, put) (lawful_with_entry _ _ c.self.invariant.lawful c.args.entry (subst (λ l. c.args.entry.row < l.rows) (sym c.self.view_is) c.requires.in_range) (subst (λ l. All (λ e. e.row ≢ c.args.entry.row) l.list) (sym c.self.view_is) c.requires.new_row));
      room = omega (arith, c.self.invariant.room, c.insert.ensures.capacity);
      sized = search rules;
      marked = rw (items, put) (marked_with_entry _ _ c.args.entry (marked_with _ _ c.self.invariant.marked c.args.entry.row in_marks) (λ e. get_or-set_same c.self.inside.marks.items c.args.entry.row true e in_marks));
    }

pub returns-else-is_err : goal.returns-else-is_err
returns-else-is_err c =
    let put = put_in c.self.inside.list.items c.self.invariant.lawful.rising c.args.entry c.count_below-at.result (rw (← c.deref.ensures.value) c.count_below-at.ensures.bound) (rw (← c.deref.ensures.value) c.count_below-at.ensures.parted) (rw c.deref-2.ensures.value at c.if-has_least_at.ensures) in
    let items : c.insert.new.self.items ≡ insert c.self.inside.list.items c.count_below-at.result c.args.entry = search rules in
    rw (← c.self.view_is) (ap (λ list. record { rows = c.self.inside.rows; list = list }) (items ∙ put))
