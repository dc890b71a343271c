use Rattle.std.proofs.Common.{refl}
use Rattle.kw_rollup.proofs.Lines.{no_series, no_minute, key_is_read}
use Rattle.kw_rollup.proofs.parse.key.Goals as goal

pub returns-in_err-series : goal.returns-in_err-series
returns-in_err-series c = rw c.from_residual.ensures (no_series c.args.words.now (c.in_err-series.ensures {u = tt}))

pub returns-in_err-minute : goal.returns-in_err-minute
returns-in_err-minute c =
    let s = c.in_ok-series.ensures {u = tt} in
    rw c.from_residual-in_err-minute.ensures (no_minute c.args.words.now c.number_below.new.words c.in_ok-series.series s.1 (c.in_err-minute.ensures {u = tt}))

pub returns : goal.returns
returns c =
    let s = c.in_ok-series.ensures {u = tt} in
    let m = c.in_ok-minute.ensures {u = tt} in
    key_is_read c.args.words.now c.number_below.new.words c.number_below-2.new.words c.in_ok-series.series c.in_ok-minute.minute _ s.0 m.0 refl s.1 m.1
