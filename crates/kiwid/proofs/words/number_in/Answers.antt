-- Digits that are not read as a number of 32 bits are no digit, or have a number that is too great.
use Rattle.std.proofs.Common.{◌≡◌, ◌∙◌, ap, true}
use Rattle.std.specs.List.{list_all}
use Rattle.std.specs.Char.{is_ascii_digit}
use Rattle.kw_command.specs.Words.{number_in}
use Rattle.kiwid.proofs.Numbers.{unread}
use Rattle.kiwid.proofs.words.number_in.Goals as goal

pub returns-in_err-number : goal.returns-in_err-number
returns-in_err-number c =
    let each : list_all is_ascii_digit c.text-text.result.now ≡ true = cc in
    c.from_residual.ensures ∙ (unread c.args.most c.text-text.result.now each c.if-text-gt-MOST_DIGITS.false c.parse.result c.ok.result c.parse.ensures.value.0 c.in_err-number.was c.ok.ensures.variant c.ranges.most.fits
    ∙ ap (number_in 1 c.args.most) c.text-text.ensures)
