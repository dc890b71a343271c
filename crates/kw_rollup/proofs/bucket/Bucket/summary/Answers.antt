use Rattle.kw_rollup.specs.Buckets.{series_of, minute_of}
use Rattle.kw_rollup.proofs.Ends.{summary_is}
use Rattle.kw_rollup.proofs.bucket.Bucket.summary.Goals as goal

pub returns : goal.returns
returns c = λ vs l h. summary_is vs c.args.self.now (series_of c.args.first) (minute_of c.args.first) _ _ c.least.ensures c.greatest.ensures l h
