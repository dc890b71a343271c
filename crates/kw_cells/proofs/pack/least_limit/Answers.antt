-- Below the even share no limit is enough, and at `BUILT` there are just so many rows.
use Rattle.std.proofs.Common.{◌≡◌, ◌<◌, ◌≤◌, ◌+◌, ◌*◌, List, ℕ, sym, ap, ◌∙◌, arith, length, inl, inr, ◌⊎◌}
use Rattle.std.proofs.lemmas.Bool.{cases_lt, false≢true}
use Rattle.std.proofs.lemmas.Grind.{div_ceil_times}
use Rattle.kw_cells.specs.Cuts.{starts_at}
use Rattle.kw_words.specs.declared.sizes.TheConstants.{BUILT}
use Rattle.kw_cells.proofs.Enough.{full_rows}
use Rattle.kw_cells.proofs.Even.{built_some, built_within, share_bounded, share_low, limit_is}
use Rattle.kw_cells.proofs.pack.least_limit.Goals as goal

pub starts_at-requires-clause-rows : goal.starts_at-requires-clause-rows
starts_at-requires-clause-rows c = full_rows c.args.cells.now c.requires.rising c.requires.few c.requires.room

pub div_ceil-limit-requires : goal.div_ceil-limit-requires
div_ceil-limit-requires c = let s = built_some BUILT c.args.cells.now c.requires.rising c.requires.few in let e : c.len-rows.result ≡ length (starts_at BUILT c.args.cells.now) = c.len-rows.ensures.value ∙ ap (λ (x : List ℕ). length x) c.starts_at.ensures in omega arith

pub loop-limit-init : goal.loop-limit-init
loop-limit-init c = record {
  rows = rows;
  bounded = share_bounded BUILT c.args.cells.now c.requires.rising c.requires.few c.div_ceil-limit.result near;
  lower = λ q l. share_low BUILT c.args.cells.now c.requires.rising c.requires.few c.div_ceil-limit.result q near l;
}
  where
    rows : c.len-rows.result ≡ length (starts_at BUILT c.args.cells.now)
    rows = c.len-rows.ensures.value ∙ ap (λ (x : List ℕ). length x) c.starts_at.ensures

    near : c.div_ceil-limit.result * length (starts_at BUILT c.args.cells.now) < length c.args.cells.now + length (starts_at BUILT c.args.cells.now)
    near =
        let some = built_some BUILT c.args.cells.now c.requires.rising c.requires.few in
        let d = div_ceil_times (length c.args.cells.now) (length (starts_at BUILT c.args.cells.now)) some in
        rw (c.div_ceil-limit.ensures, rows) (d.1)

pub all_fit-requires-clause-rows : goal.all_fit-requires-clause-rows
all_fit-requires-clause-rows c = let s = built_some BUILT c.args.cells.now c.requires.rising c.requires.few in let e = c.loop-limit.invariant.rows in omega arith

pub all_fit-requires-clause-no_more : goal.all_fit-requires-clause-no_more
all_fit-requires-clause-no_more c = λ some. (let w = built_within BUILT c.args.cells.now c.requires.rising c.requires.few some in let e = c.loop-limit.invariant.rows in omega arith)

pub loop-limit-preserved : goal.loop-limit-preserved
loop-limit-preserved c = record { rows = c.loop-limit.invariant.rows; bounded = omega arith; lower = λ q l. lower q l (cases_lt q c.loop-limit.limit) }
  where
    more : ((length (starts_at BUILT c.args.cells.now) < length (starts_at c.loop-limit.limit c.args.cells.now)) ⊎ (length (starts_at c.loop-limit.limit c.args.cells.now) ≤ length (starts_at BUILT c.args.cells.now))) → length (starts_at BUILT c.args.cells.now) < length (starts_at c.loop-limit.limit c.args.cells.now)
    more (inl h) = h
    more (inr h) = absurd (false≢true (sym c.if-not-all_fit.true ∙ c.all_fit.ensures.1 (let e = c.loop-limit.invariant.rows in omega arith)))

    lower : (q : ℕ) → q < c.loop-limit.limit + 1 → ((q < c.loop-limit.limit) ⊎ (c.loop-limit.limit ≤ q)) → length (starts_at BUILT c.args.cells.now) < length (starts_at q c.args.cells.now)
    lower q l (inl h) = c.loop-limit.invariant.lower q h
    lower q l (inr h) = let e : q ≡ c.loop-limit.limit = omega arith in rw e (more (cases_lt (length (starts_at BUILT c.args.cells.now)) (length (starts_at c.loop-limit.limit c.args.cells.now))))

pub returns-else-not-all_fit : goal.returns-else-not-all_fit
returns-else-not-all_fit c = limit_is BUILT c.args.cells.now c.loop-limit.limit (let m = c.all_fit.ensures.0 c.if-not-all_fit.false in let e = c.loop-limit.invariant.rows in omega arith) c.loop-limit.invariant.lower

pub returns-after-loop-limit : goal.returns-after-loop-limit
returns-after-loop-limit c = limit_is BUILT c.args.cells.now c.loop-limit.limit (let b = c.loop-limit.invariant.bounded in let e : c.loop-limit.limit ≡ BUILT = omega arith in rw e (omega arith)) c.loop-limit.invariant.lower
