use Rattle.std.proofs.Common.{sym, ◌∙◌}
use Rattle.kw_line.proofs.Decimals.{not_a_number, number-from_parse, from_no_value, from_value, IsUtf8-decimal}
use Rattle.kw_line.proofs.number.number.Goals as goal

pub returns-then-not-may_be_number : goal.returns-then-not-may_be_number
returns-then-not-may_be_number c = not_a_number c.args.bytes.now (c.may_be_number.ensures.other c.if-not-may_be_number.true)

pub returns-in_err-ok : goal.returns-in_err-ok
returns-in_err-ok c = rw c.from_residual.ensures (λ n l e.
    from_no_value c.from_utf8.result _ _ _ (sym c.ok.ensures.value ∙ c.in_err-ok.was {u = tt}) c.from_utf8.ensures.cases (λ _ h. h.0 (rw e (IsUtf8-decimal n l))))

pub returns : goal.returns
returns c =
    let same = from_value c.from_utf8.result _ _ _ (sym c.ok.ensures.value ∙ c.in_ok-ok.was {u = tt}) c.from_utf8.ensures.cases in
    let plain = c.may_be_number.ensures.plain c.if-not-may_be_number.false in
    rw c.ok-2.ensures.value (number-from_parse c.args.bytes.now c.parse.result (rw same.0 at c.parse.ensures.value.0) plain.0 plain.1)
