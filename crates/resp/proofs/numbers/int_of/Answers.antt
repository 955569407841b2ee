use Rattle.std.proofs.Common.{◌+◌, ◌^◌, arith}
use Rattle.resp.proofs.Digits.{number_below}
use Rattle.resp.proofs.numbers.int_of.Goals as goal

pub below_zero-requires : goal.below_zero-requires
below_zero-requires c =
    let low = number_below (2 ^ 63 + 1) _ c.in_ok-number_of-in-45.field-0 c.in_ok-number_of-in-45.ensures in
    omega (arith, low)

pub not_below_zero-requires : goal.not_below_zero-requires
not_below_zero-requires c = number_below (2 ^ 63) _ c.in_ok-length_of-in-43.field-0 c.in_ok-length_of-in-43.ensures

pub not_below_zero-requires-in-len1-up : goal.not_below_zero-requires-in-len1-up
not_below_zero-requires-in-len1-up c = number_below (2 ^ 63) _ c.in_ok-length_of-in-len1-up.field-0 c.in_ok-length_of-in-len1-up.ensures
