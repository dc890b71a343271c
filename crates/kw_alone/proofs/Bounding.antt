-- No more is left of anything than at the beginning of a walk; and how the numbers of events
-- compare within which a mark comes, and the end of a call.
use Rattle.std.proofs.Common.{ℕ, ◌≡◌, ◌+◌, ◌*◌, ◌-◌, ◌<◌, ◌≤◌, ◌==◌, if◌then◌else◌, Bool, true, false, arith, length}
use Rattle.std.proofs.Math.Nat.{mul-le-mul_left, mul-le-mul_right}
use Rattle.kw_words.specs.declared.layout.Name.TheVariants as name
use Rattle.kw_words.specs.declared.state.State.TheVariants as state
use Rattle.kw_words.specs.Pend.{pend_word}
use Rattle.kw_words.specs.Plain.{cell_link_word}
use Rattle.kw_words.specs.State.{state_of, state_word}
use Rattle.kw_world.specs.declared.activity.Activity.{Activity}
use Rattle.kw_world.specs.declared.activity.draw.Draw.{Draw}
use Rattle.kw_world.specs.declared.activity.enter.Enter.{Enter}
use Rattle.kw_world.specs.declared.activity.insert.Insert.{Insert}
use Rattle.kw_world.specs.declared.activity.look.Look.{Look}
use Rattle.kw_world.specs.declared.activity.put.Put.{Put}
use Rattle.kw_world.specs.declared.activity.read.Read.{Read}
use Rattle.kw_world.specs.declared.activity.rebalance.Rebalance.{Rebalance}
use Rattle.kw_world.specs.declared.activity.rebalance.claim.Claim.{Claim}
use Rattle.kw_world.specs.declared.activity.rebalance.engage.Engage.{Engage}
use Rattle.kw_world.specs.declared.activity.rebalance.freeze.Freeze.{Freeze}
use Rattle.kw_world.specs.declared.activity.rebalance.gather.Gather.{Gather}
use Rattle.kw_world.specs.declared.activity.rebalance.left.Left.{Left}
use Rattle.kw_world.specs.declared.activity.rebalance.replace.Replace.{Replace}
use Rattle.kw_world.specs.declared.activity.rebalance.seek.Seek.{Seek}
use Rattle.kw_world.specs.declared.activity.rebalance.write.Write.{Write}
use Rattle.kw_world.specs.declared.activity.walk.Walk.{Walk}
use Rattle.kw_world.specs.declared.local.Local.{Local}
use Rattle.kw_world.specs.ClaimTransitions.{row_after}
use Rattle.kw_world.specs.ListTransitions.{link_name}
use Rattle.kw_world.specs.Sizes.{Sizes, product}
use Rattle.kw_core.specs.Words.{Words}
use Rattle.kw_words.specs.declared.sizes.TheConstants.{SEATS}
use Rattle.kw_alone.specs.Falls.{HasFew, Most, events_to_end, events_to_mark, most_rest, most_to_end, most_to_mark}
use Rattle.kw_alone.specs.Prices.{insert_price, look_price, row_price, row_words, seek_price, write_price}
use Rattle.kw_alone.specs.Rest.{after_row, infant_price, lost_price, entry_price, state_price}
use Rattle.kw_alone.proofs.Counting.{most_up, one_more}
use Rattle.kw_alone.proofs.Prices.{after_most, ahead_most, infant_most, left_most, state_most, walk_most}

-- Rows that are taken, and those that are not asked for, against all rows.

-- all rows but one, and one
all_rows : (rows k : ℕ) → rows * k ≤ (rows - 1) * k + k
all_rows rows k =
    let h : rows * k ≤ ((rows - 1) + 1) * k = mul-le-mul_right k (omega arith) in
    omega (arith, h, one_more (rows - 1) k)

-- a row that is taken costs no more than one that is asked for
taken_cost : (rows n k w : ℕ) → n ≤ rows → w ≤ k → n * w ≤ (rows - 1) * k + k
taken_cost rows n k w h g =
    let a : n * w ≤ rows * w = mul-le-mul_right w h in
    let b : rows * w ≤ rows * k = mul-le-mul_left rows g in
    omega (arith, a, b, all_rows rows k)

-- fewer rows are taken than were asked for
asked_cost : (rows asked n k w : ℕ) → n < asked → asked ≤ rows → w ≤ k → (rows - asked) * k + n * w + w ≤ (rows - 1) * k + k
asked_cost rows asked n k w h o g =
    let a : (n + 1) * w ≤ asked * w = mul-le-mul_right w (omega (arith, h)) in
    let b : asked * w ≤ asked * k = mul-le-mul_left asked g in
    let c : ((rows - asked) + asked) * k ≡ (rows - asked) * k + asked * k = grind arith in
    let d : ((rows - asked) + asked) * k ≤ rows * k = mul-le-mul_right k (omega (arith, o)) in
    omega (arith, a, b, c, d, one_more n w, all_rows rows k)

-- a test that chooses between two numbers gives no more than both
either : (b : Bool) (x y most : ℕ) → x ≤ most → y ≤ most → (if b then x else y) ≤ most
either true x y most h g = h
either false x y most h g = g

module _ (z : Sizes) (rows : ℕ) (v : Words) where
  lost_most : (l : Local) → lost_price z v l ≤ insert_price z
  lost_most l = either (v (link_name l.row l.link) == cell_link_word l.held) 0 (insert_price z) (insert_price z) (omega arith) (omega arith)

  entry_most : (i : ℕ) (l : Local) → entry_price v i l ≤ 2
  entry_most i l = either (v (name.Pend l.rebalance.hand i) == pend_word l.rebalance.entry) 0 2 2 (omega arith) (omega arith)

  -- the rows to the right of a reader
  right_most : (l : Local) → after_row z rows v l ≤ rows * look_price z + 2
  right_most l = omega (arith, after_most z rows v l, mul-le-mul_right (look_price z) (most_up v rows l.lower))

  write_most : (n at k : ℕ) → n ≤ rows → k ≤ row_words z → write_price z rows n at k ≤ most_rest z rows
  write_most n at k h g =
      let a : (n - (at + 1)) * row_words z ≤ n * row_words z = mul-le-mul_right (row_words z) (omega arith) in
      omega (arith, a, g, h, taken_cost rows n (row_price z) (row_words z) h (omega arith))

  seek_most : (asked n k : ℕ) → n < asked → asked ≤ rows → k ≤ z.seats + 3 → seek_price z rows asked n k ≤ most_rest z rows
  seek_most asked n k h o g = omega (arith, h, o, g, asked_cost rows asked n (row_price z) (row_words z) h o (omega arith))

  -- Each family.

  walks_most : (b : Walk) (l : Local) → Most z rows v (Activity.Walk b) l
  walks_most Walk.Start l = omega arith
  walks_most Walk.First l = omega arith
  walks_most Walk.GuessedLeast l = omega arith
  walks_most Walk.Next l = omega (arith, walk_most z rows v l)
  walks_most Walk.NextLeast l = omega (arith, walk_most z rows v l)

  looks_most : (b : Look) (l : Local) → Most z rows v (Activity.Look b) l
  looks_most (Look.Entry i) l = omega (arith, right_most l)
  looks_most Look.Key l = omega (arith, right_most l)
  looks_most Look.Clock l = omega (arith, right_most l)
  looks_most Look.Help l = omega (arith, right_most l)

  reads_most : (b : Read) (l : Local) → length l.remembered ≤ z.seats → Most z rows v (Activity.Read b) l
  reads_most Read.Start l h = omega (arith, h, right_most l)
  reads_most Read.Link l h = omega (arith, h, right_most l)
  reads_most Read.Key l h = omega (arith, h, right_most l)
  reads_most Read.Version l h = omega (arith, h, right_most l)
  reads_most Read.Value l h = omega (arith, h, right_most l)
  reads_most Read.LeftOverKey l h = omega (arith, h, right_most l)
  reads_most Read.LeftOverValue l h = omega (arith, h, right_most l)

  puts_most : (b : Put) (l : Local) → Most z rows v (Activity.Put b) l
  puts_most Put.Count l = omega arith
  puts_most Put.Add l = omega arith
  puts_most Put.Key l = omega arith
  puts_most Put.Value l = omega arith
  puts_most Put.Announce l = omega arith
  puts_most Put.Clock l = omega arith
  puts_most Put.Stamp l = omega arith
  puts_most Put.Version l = omega arith
  puts_most Put.Clear l = omega arith

  inserts_most : (b : Insert) (l : Local) → Most z rows v (Activity.Insert b) l
  inserts_most Insert.Start l = omega arith
  inserts_most Insert.Link l = omega arith
  inserts_most Insert.Key l = omega (arith, lost_most l)
  inserts_most Insert.Version l = omega (arith, lost_most l)
  inserts_most Insert.Set l = omega (arith, lost_most l)
  inserts_most Insert.Exchange l = omega (arith, lost_most l)

  engages_most : (b : Engage) (l : Local) → Most z rows v (Activity.Rebalance (Rebalance.Engage b)) l
  engages_most Engage.Clock l = omega (arith, state_most (state_of (v (name.State l.row))))
  engages_most Engage.Epoch l = omega (arith, state_most (state_of (v (name.State l.row))))
  engages_most Engage.State l = omega (arith, state_most (state_of (v (name.State l.row))))
  engages_most (Engage.Normal seat) l = omega (arith, either (v (name.State l.row) == state_word (state.Infant seat)) 4 (2 + state_price (state_of (v (name.State l.row)))) 6 (omega arith) (omega (arith, state_most (state_of (v (name.State l.row))))))
  engages_most Engage.Lead l = omega (arith, either (v (name.State l.row) == state_word state.Normal) 1 (2 + state_price (state_of (v (name.State l.row)))) 6 (omega arith) (omega (arith, state_most (state_of (v (name.State l.row))))))
  engages_most (Engage.MarkLink count) l = omega arith
  engages_most (Engage.Decide count) l = omega arith

  claims_most : (b : Claim) (l : Local) → Most z rows v (Activity.Rebalance (Rebalance.Claim b)) l
  claims_most Claim.Count l = omega arith
  claims_most Claim.Exchange l = omega (arith, infant_most (state_of (v (name.State (row_after l)))))
  claims_most (Claim.Normal seat) l = omega (arith, either (v (name.State (row_after l)) == state_word (state.Infant seat)) 0 (infant_price (state_of (v (name.State (row_after l))))) 2 (omega arith) (infant_most (state_of (v (name.State (row_after l))))))
  claims_most Claim.MarkLink l = omega arith

  lefts_most : (b : Left) (l : Local) → Most z rows v (Activity.Rebalance (Rebalance.Left b)) l
  lefts_most Left.Start l = omega arith
  lefts_most Left.Next l = omega (arith, most_up v rows l.rebalance.least)
  lefts_most Left.NextLeast l = omega (arith, most_up v rows l.rebalance.least)

  freezes_most : (b : Freeze) (l : Local) → Most z rows v (Activity.Rebalance (Rebalance.Freeze b)) l
  freezes_most Freeze.Count l = omega (arith, ahead_most z l.rebalance.ahead)
  freezes_most (Freeze.Look i) l = omega (arith, ahead_most z l.rebalance.ahead)
  freezes_most (Freeze.Entry i) l = omega (arith, ahead_most z l.rebalance.ahead, entry_most i l)
  freezes_most (Freeze.Scan i) l = omega arith
  freezes_most (Freeze.Draw i) l = omega arith
  freezes_most (Freeze.Settle i) l = omega arith
  freezes_most (Freeze.Pin i) l = omega arith

  gathers_most : (b : Gather) (l : Local) → Most z rows v (Activity.Rebalance (Rebalance.Gather b)) l
  gathers_most Gather.Link l = omega (arith, left_most l.rebalance.ahead)
  gathers_most Gather.Key l = omega (arith, left_most l.rebalance.ahead)
  gathers_most Gather.Version l = omega (arith, left_most l.rebalance.ahead)
  gathers_most Gather.Value l = omega (arith, left_most l.rebalance.ahead)
  gathers_most Gather.LeftOverKey l = omega (arith, left_most l.rebalance.ahead)
  gathers_most Gather.LeftOverValue l = omega (arith, left_most l.rebalance.ahead)

  seeks_most : (b : Seek) (l : Local) → HasFew z rows (Activity.Rebalance (Rebalance.Seek b)) l → Most z rows v (Activity.Rebalance (Rebalance.Seek b)) l
  seeks_most Seek.First l f = seek_most l.rebalance.asked (length l.rebalance.taken) (z.seats + 3) (f.fewer tt) f.asked (omega arith)
  seeks_most Seek.Next l f = seek_most l.rebalance.asked (length l.rebalance.taken) (z.seats + 3) (f.fewer tt) f.asked (omega arith)
  seeks_most (Seek.Pass i) l f = seek_most l.rebalance.asked (length l.rebalance.taken) (z.seats - i + 2) (f.fewer tt) f.asked (omega arith)
  seeks_most Seek.Reclaim l f = seek_most l.rebalance.asked (length l.rebalance.taken) 2 (f.fewer tt) f.asked (omega arith)
  seeks_most Seek.Take l f = seek_most l.rebalance.asked (length l.rebalance.taken) 1 (f.fewer tt) f.asked (omega arith)
  seeks_most Seek.GiveBack l f = omega (arith, f.taken, f.asked)

  writes_most : (b : Write) (l : Local) → length l.rebalance.taken ≤ rows → Most z rows v (Activity.Rebalance (Rebalance.Write b)) l
  writes_most Write.Count l h = write_most (length l.rebalance.taken) l.rebalance.at (4 + z.seats + 4 * z.cells) h (omega arith)
  writes_most Write.Least l h = write_most (length l.rebalance.taken) l.rebalance.at (3 + z.seats + 4 * z.cells) h (omega arith)
  writes_most Write.Next l h = write_most (length l.rebalance.taken) l.rebalance.at (2 + z.seats + 4 * z.cells) h (omega arith)
  writes_most Write.First l h = write_most (length l.rebalance.taken) l.rebalance.at (1 + z.seats + 4 * z.cells) h (omega arith)
  writes_most (Write.Entry i) l h = write_most (length l.rebalance.taken) l.rebalance.at (z.seats - i + 4 * z.cells) h (omega arith)
  writes_most (Write.Key j) l h = write_most (length l.rebalance.taken) l.rebalance.at (4 * (z.cells - (j + 1)) + 4) h (omega arith)
  writes_most (Write.Value j) l h = write_most (length l.rebalance.taken) l.rebalance.at (4 * (z.cells - (j + 1)) + 3) h (omega arith)
  writes_most (Write.Version j) l h = write_most (length l.rebalance.taken) l.rebalance.at (4 * (z.cells - (j + 1)) + 2) h (omega arith)
  writes_most (Write.After j) l h = write_most (length l.rebalance.taken) l.rebalance.at (4 * (z.cells - (j + 1)) + 1) h (omega arith)

  replaces_most : (b : Replace) (l : Local) → length l.rebalance.taken ≤ rows → Most z rows v (Activity.Rebalance (Rebalance.Replace b)) l
  replaces_most Replace.Start l h = omega (arith, h)
  replaces_most Replace.GuessedLeast l h = omega (arith, h)
  replaces_most Replace.First l h = omega (arith, h)
  replaces_most Replace.Next l h = omega (arith, h, most_up v rows l.rebalance.least)
  replaces_most Replace.NextLeast l h = omega (arith, h, most_up v rows l.rebalance.least)
  replaces_most Replace.Exchange l h = omega (arith, h)
  replaces_most Replace.Normalise l h = omega (arith, h)
  replaces_most Replace.Number l h = omega (arith, left_most l.rebalance.ahead)
  replaces_most Replace.Retire l h = omega (arith, left_most l.rebalance.ahead)

  rebalances_most : (b : Rebalance) (l : Local) → HasFew z rows (Activity.Rebalance b) l → Most z rows v (Activity.Rebalance b) l
  rebalances_most (Rebalance.Engage b) l f = engages_most b l
  rebalances_most (Rebalance.Claim b) l f = claims_most b l
  rebalances_most (Rebalance.Left b) l f = lefts_most b l
  rebalances_most (Rebalance.Freeze b) l f = freezes_most b l
  rebalances_most (Rebalance.Gather b) l f = gathers_most b l
  rebalances_most (Rebalance.Seek b) l f = seeks_most b l f
  rebalances_most (Rebalance.Write b) l f = writes_most b l (omega (arith, f.taken, f.asked))
  rebalances_most (Rebalance.Replace b) l f = replaces_most b l (omega (arith, f.taken, f.asked))

  enters_most : (b : Enter) (l : Local) → Most z rows v (Activity.Enter b) l
  enters_most Enter.LoadEpoch l = omega arith
  enters_most Enter.Announce l = omega arith

  draws_most : (b : Draw) (l : Local) → Most z rows v (Activity.Draw b) l
  draws_most Draw.Clock l = omega arith
  draws_most Draw.Wait l = omega arith
  draws_most Draw.Version l = omega arith
  draws_most Draw.Settle l = omega arith
  draws_most Draw.Pin l = omega arith

  pub most : (a : Activity) (l : Local) → HasFew z rows a l → Most z rows v a l
  most Activity.Idle l f = omega arith
  most (Activity.Enter b) l f = enters_most b l
  most (Activity.Draw b) l f = draws_most b l
  most (Activity.Walk b) l f = walks_most b l
  most (Activity.Look b) l f = looks_most b l
  most (Activity.Read b) l f = reads_most b l f.remembered
  most (Activity.EndScan answer) l f = omega arith
  most Activity.ClearPin l f = omega arith
  most (Activity.Put b) l f = puts_most b l
  most (Activity.Insert b) l f = inserts_most b l
  most (Activity.Rebalance b) l f = rebalances_most b l f
  most Activity.Retry l f = omega arith
  most (Activity.Leave answer) l f = omega arith

-- The product's sizes.

-- a table of some rows has room for all these events
pub few_to_mark : (rows : ℕ) → 1 ≤ rows → events_to_mark product rows ≤ most_to_mark rows
few_to_mark rows h = omega (arith, h)

-- The end of a call.

-- how many times the triple of a seat may fall
abbrev pub most_falls : Sizes → ℕ → ℕ
most_falls z rows = (rows + 1 + 1) * (rows + 1) * (2 * most_rest z rows + 1)

-- three turns of a seat, and all these
room : (rows m : ℕ) → 3 * (m + 1) + (rows + 1 + 1) * (rows + 1) * (2 * m + 1) ≤ (2 + (rows + 1) * (rows + 2)) * (2 * m + 2)
room rows m =
    let turned : (rows + 1 + 1) * (rows + 1) * (2 * m + 1) ≡ (rows + 1) * (rows + 2) * (2 * m + 1) = grind arith in
    let more : (rows + 1) * (rows + 2) * (2 * m + 1) ≤ (rows + 1) * (rows + 2) * (2 * m + 2) = mul-le-mul_left ((rows + 1) * (rows + 2)) (omega arith) in
    let parts : (2 + (rows + 1) * (rows + 2)) * (2 * m + 2) ≡ 2 * (2 * m + 2) + (rows + 1) * (rows + 2) * (2 * m + 2) = grind arith in
    omega (arith, turned, more, parts)

pub turns_and_falls : (z : Sizes) (rows : ℕ) → 3 * (most_rest z rows + 1) + most_falls z rows ≤ events_to_end z rows
turns_and_falls z rows = room rows (most_rest z rows)

-- what grows as the rows, so many times, grows as their third power
scaled : (rows e c : ℕ) → 1 ≤ rows → e ≤ 32 * c * (rows + 1) → (2 + (rows + 1) * (rows + 2)) * e ≤ 64 * c * ((rows + 1) * (rows + 1) * (rows + 1))
scaled rows e c some few =
    let twice : 2 * (rows + 1) ≤ (rows + 1) * (rows + 1) = mul-le-mul_right (rows + 1) (omega (arith, some)) in
    let square : (rows + 1) * (rows + 2) ≡ (rows + 1) * (rows + 1) + (rows + 1) = grind arith in
    let times : 2 + (rows + 1) * (rows + 2) ≤ 2 * ((rows + 1) * (rows + 1)) = omega (arith, twice, square, some) in
    let first : (2 + (rows + 1) * (rows + 2)) * e ≤ (2 + (rows + 1) * (rows + 2)) * (32 * c * (rows + 1)) = mul-le-mul_left (2 + (rows + 1) * (rows + 2)) few in
    let second : (2 + (rows + 1) * (rows + 2)) * (32 * c * (rows + 1)) ≤ 2 * ((rows + 1) * (rows + 1)) * (32 * c * (rows + 1)) = mul-le-mul_right (32 * c * (rows + 1)) times in
    let third : 2 * ((rows + 1) * (rows + 1)) * (32 * c * (rows + 1)) ≡ 64 * c * ((rows + 1) * (rows + 1) * (rows + 1)) = grind arith in
    omega (arith, first, second, third)

-- a table of some rows has room for all these events
pub few_to_end : (rows : ℕ) → 1 ≤ rows → events_to_end product rows ≤ most_to_end rows
few_to_end rows h = scaled rows (events_to_mark product rows) (SEATS * SEATS) h (few_to_mark rows h)
