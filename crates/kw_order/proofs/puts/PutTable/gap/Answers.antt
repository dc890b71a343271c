use Rattle.std.proofs.Common.{arith, ◌≡◌, ◌<◌, ◌-◌, length, sym, ap, ◌∙◌, subst, not, true, false, Some, is_some}
use Rattle.kw_core.specs.History.{attempt}
use Rattle.kw_core.proofs.Attempts.{attempt_at}
use Rattle.kw_order.specs.Puts.{HasGap}
use Rattle.kw_order.specs.declared.puts.StampedPut.{StampedPut}
use Rattle.kw_order.proofs.PutLists.{place_within, can_split, put_read}
use Rattle.kw_order.proofs.GapLists.{none_reached, other_key, after_delete, after_value}
use Rattle.kw_order.proofs.puts.PutTable.gap.Goals as goal
use Rattle.kw_order.proofs.puts.PutTable.gap.Goals.{then-last-key-via-then-last-key, then-last-key-via-else-last-key+then-is_none}

pub count_until-until-requires : goal.count_until-until-requires
count_until-until-requires c =
    rw (c.deref.ensures.value, c.deref-2.ensures.value)
    (can_split c.args.history.now c.requires.laws c.args.self.now.puts.items c.args.self.now.points.items c.requires.table.puts.are c.requires.table.points c.args.key c.args.first)

pub returns-then-until-eq0 : goal.returns-then-until-eq0
returns-then-until-eq0 c =
    let split = rw (c.deref.ensures.value, c.deref-2.ensures.value) at c.count_until-until.ensures in
    none_reached c.args.history.now c.requires.laws c.args.self.now.puts.items c.args.self.now.points.items c.requires.table.puts c.requires.table.points c.args.key c.args.first _ split
    (λ i v k. absurd (omega (arith, v, c.if-until-eq0.true)))

pub offset_bounds-attempts-last : goal.offset_bounds-attempts-last
offset_bounds-attempts-last c =
    let split = rw (c.deref.ensures.value, c.deref-2.ensures.value) at c.count_until-until.ensures in
    let within : c.count_until-until.result - 1 < length c.args.self.now.puts.items = omega (arith, split.within, c.if-until-eq0.false) in
    let read = put_read c.args.self.now.puts.items (c.count_until-until.result - 1) c.index-last.result.now c.index-last.ensures within in
    omega (arith, ap (λ (put : StampedPut). put.place) read, place_within c.args.history.now c.args.self.now.puts.items c.requires.table.puts.are _ within, ap length c.attempts.ensures, c.attempts.type_inv)

pub bounds-attempts-last : goal.bounds-attempts-last
bounds-attempts-last c =
    let split = rw (c.deref.ensures.value, c.deref-2.ensures.value) at c.count_until-until.ensures in
    let within : c.count_until-until.result - 1 < length c.args.self.now.puts.items = omega (arith, split.within, c.if-until-eq0.false) in
    let read = put_read c.args.self.now.puts.items (c.count_until-until.result - 1) c.index-last.result.now c.index-last.ensures within in
    omega (arith, ap (λ (put : StampedPut). put.place) read, place_within c.args.history.now c.args.self.now.puts.items c.requires.table.puts.are _ within, ap length c.attempts.ensures)

pub returns-then-last-key : goal.returns-then-last-key
returns-then-last-key c =
    let split = rw (c.deref.ensures.value, c.deref-2.ensures.value) at c.count_until-until.ensures in
    let within : c.count_until-until.result - 1 < length c.args.self.now.puts.items = omega (arith, split.within, c.if-until-eq0.false) in
    let read = put_read c.args.self.now.puts.items (c.count_until-until.result - 1) c.index-last.result.now c.index-last.ensures within in
    let h = c.args.history.now in
    elim c.then-last-key.branch [
      | then-last-key-via-then-last-key w ↦
          other_key h c.requires.laws c.args.self.now.puts.items c.args.self.now.points.items c.requires.table.puts c.requires.table.points c.args.key c.args.first _ split (omega (arith, c.if-until-eq0.false))
          (λ k. w.if-last-key.true (ap (λ (put : StampedPut). put.key) read ∙ k))
      | then-last-key-via-else-last-key+then-is_none w ↦
          after_delete h c.requires.laws c.args.self.now.puts.items c.args.self.now.points.items c.requires.table.puts c.requires.table.points c.args.key c.args.first _ split (omega (arith, c.if-until-eq0.false))
          (sym (ap (λ (put : StampedPut). put.key) read) ∙ w.if-last-key.false)
          (subst (λ (put : StampedPut). is_some (attempt h put.place).value ≡ false) read (rw (attempt_at h w.attempts.result.now c.index-last.result.now.place w.attempts.ensures) at (w.is_none.ensures ∙ ap not w.if-is_none.true)))
    ]

pub count_until-later-requires : goal.count_until-later-requires
count_until-later-requires c =
    rw (c.deref-3.ensures.value, c.deref-4.ensures.value)
    (can_split c.args.history.now c.requires.laws c.args.self.now.deletes.items c.args.self.now.points.items c.requires.table.deletes.are c.requires.table.points c.args.key c.args.first)

pub returns-in-Some : goal.returns-in-Some
returns-in-Some c =
    let h = c.args.history.now in
    let split = rw (c.deref.ensures.value, c.deref-2.ensures.value) at c.count_until-until.ensures in
    let later = rw (c.deref-3.ensures.value, c.deref-4.ensures.value) at c.count_until-later.ensures in
    let within : c.count_until-until.result - 1 < length c.args.self.now.puts.items = omega (arith, split.within, c.if-until-eq0.false) in
    let read = put_read c.args.self.now.puts.items (c.count_until-until.result - 1) c.index-last.result.now c.index-last.ensures within in
    let r = after_value h c.requires.laws c.args.self.now.puts.items c.args.self.now.points.items c.requires.table.puts c.requires.table.points c.args.key c.args.first _ split
    c.args.self.now.deletes.items c.requires.table.deletes _ later (omega (arith, c.if-until-eq0.false)) (sym (ap (λ (put : StampedPut). put.key) read) ∙ c.if-last-key.false)
    (subst (λ (put : StampedPut). is_some (attempt h put.place).value ≡ true) read (rw (attempt_at h c.attempts.result.now c.index-last.result.now.place c.attempts.ensures) at c.if-is_none.ensures)) c.requires.serving in
    let delete = c.in-Some.ensures.lookup.3.1 (record { key = 0; version = 0; add = 0; place = 0 }) in
    subst (λ (put : StampedPut). HasGap h c.args.key c.args.first (Some put.place)) (sym (rw c.deref-5.ensures.value at delete)) r.1

pub returns-in-None : goal.returns-in-None
returns-in-None c =
    let h = c.args.history.now in
    let split = rw (c.deref.ensures.value, c.deref-2.ensures.value) at c.count_until-until.ensures in
    let later = rw (c.deref-3.ensures.value, c.deref-4.ensures.value) at c.count_until-later.ensures in
    let within : c.count_until-until.result - 1 < length c.args.self.now.puts.items = omega (arith, split.within, c.if-until-eq0.false) in
    let read = put_read c.args.self.now.puts.items (c.count_until-until.result - 1) c.index-last.result.now c.index-last.ensures within in
    let r = after_value h c.requires.laws c.args.self.now.puts.items c.args.self.now.points.items c.requires.table.puts c.requires.table.points c.args.key c.args.first _ split
    c.args.self.now.deletes.items c.requires.table.deletes _ later (omega (arith, c.if-until-eq0.false)) (sym (ap (λ (put : StampedPut). put.key) read) ∙ c.if-last-key.false)
    (subst (λ (put : StampedPut). is_some (attempt h put.place).value ≡ true) read (rw (attempt_at h c.attempts.result.now c.index-last.result.now.place c.attempts.ensures) at c.if-is_none.ensures)) c.requires.serving in
    absurd (omega (arith, r.0, c.in-None.ensures.lookup.3, ap length c.deref-5.ensures.value))
