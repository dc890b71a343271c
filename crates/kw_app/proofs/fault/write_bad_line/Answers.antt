-- The words, the digits and the line feed, one after the other.
use Rattle.std.proofs.Common.{◌≡◌, ℕ, List, [], ◌∷◌, ◌++◌, codes, decimal, ◌∙◌, subst}
use Rattle.std.specs.Io.KnownBytes.{Appends}
use Rattle.kw_io.specs.Bytes.{AppendsPrefix}
use Rattle.kw_line.specs.declared.words.TheConstants.{LINE_FEED}
use Rattle.kw_app.proofs.Streams.{at_error, on_error, prefix_of_first, prefix_of_second}
use Rattle.kw_app.proofs.fault.write_bad_line.Goals as goal

pub returns-in_err-write_all-clause-prefix : goal.returns-in_err-write_all-clause-prefix
returns-in_err-write_all-clause-prefix g c =
    at_error c.from_residual.result (prefix_of_first _ _ (codes "bad line ") (decimal c.args.line ++ LINE_FEED ∷ []) c.in_err-write_all.ensures.prefix)

pub returns-in_err-write_all-2-clause-prefix : goal.returns-in_err-write_all-2-clause-prefix
returns-in_err-write_all-2-clause-prefix g c =
    let digits : c.as_bytes.result.now ≡ decimal c.args.line = c.as_bytes.ensures.value ∙ c.format.ensures.text in
    let part = subst (λ (t : List ℕ). AppendsPrefix (g.K.Sink.written c.write_all.new.sink) (g.K.Sink.written c.write_all-2.new.sink) t) digits c.in_err-write_all-2.ensures.prefix in
    at_error c.from_residual-in_err-write_all-2.result
    (prefix_of_second _ _ _ (codes "bad line ") (decimal c.args.line ++ LINE_FEED ∷ []) c.in_ok-write_all.ensures.all (prefix_of_first _ _ (decimal c.args.line) (LINE_FEED ∷ []) part))

pub returns-clause-prefix : goal.returns-clause-prefix
returns-clause-prefix g c =
    let digits : c.as_bytes.result.now ≡ decimal c.args.line = c.as_bytes.ensures.value ∙ c.format.ensures.text in
    let part = subst (λ (t : List ℕ). Appends (g.K.Sink.written c.write_all.new.sink) (g.K.Sink.written c.write_all-2.new.sink) t) digits c.in_ok-write_all-2.ensures.all in
    on_error c.write_all-3.result
    (λ h. prefix_of_second _ _ _ (codes "bad line ") (decimal c.args.line ++ LINE_FEED ∷ []) c.in_ok-write_all.ensures.all (prefix_of_second _ _ _ (decimal c.args.line) (LINE_FEED ∷ []) part h))
    c.write_all-3.ensures.prefix
