use Rattle.std.proofs.Common.{◌≡◌, length, sym, arith}
use Rattle.std.proofs.lemmas.Grind.{common_steps}
use Rattle.resp.proofs.Digits.{number_in_none, number_in_is, no_digit, too_large, digit_is, number_ends}
use Rattle.resp.proofs.numbers.number_of.Goals as goal

pub returns-in_default : goal.returns-in_default
returns-in_default c =
    let none : length c.args.text.now ≡ 0 = omega arith in
    sym (number_in_none c.args.limit c.args.text.now none)

pub returns-then-not-is_ascii_digit : goal.returns-then-not-is_ascii_digit
returns-then-not-is_ascii_digit c = grind (arith, common_steps, number_in_is, no_digit)

pub returns-then-limit-value : goal.returns-then-limit-value
returns-then-limit-value c = grind (arith, common_steps, digit_is, number_in_is, too_large)

pub returns : goal.returns
returns c = grind (arith, common_steps, number_in_is, number_ends)
