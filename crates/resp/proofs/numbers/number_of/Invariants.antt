use Rattle.std.proofs.Common.{◌≡◌, ◌<◌, length, drop}
use Rattle.resp.proofs.Digits.{number_after}
use Rattle.resp.proofs.numbers.number_of.Given as goal

-- what is left after the digits so far
abbrev pub invariant-loop-digit : goal.invariant-loop-digit
invariant-loop-digit l = (number_after l.limit l.number (drop l.digit-index l.text) ≡ number_after l.limit 0 l.text) × (l.number < l.limit) × (0 < length l.text)
