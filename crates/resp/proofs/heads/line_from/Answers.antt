use Rattle.std.proofs.Common.{◌≡◌, ℕ, length, drop, ap, ◌∙◌, arith}
use Rattle.resp.specs.Reading.{text_until_line_end}
use Rattle.resp.proofs.Lines.{text_short, from_searched}
use Rattle.resp.proofs.heads.line_from.Goals as goal

pub split_at-requires-2 : goal.split_at-requires-2
split_at-requires-2 c = omega (arith, text_short c.split_at.result.1.now, ap (length {A = ℕ}) c.line_of.ensures.text, c.split_at.ensures.back_len)

pub returns-clause-line : goal.returns-clause-line
returns-clause-line c = λ clean.
    let text : c.line_of.result.0.now ≡ text_until_line_end (drop c.args.searched c.args.bytes.now) = c.line_of.ensures.text ∙ ap text_until_line_end c.split_at.ensures.back in
    let is = from_searched c.args.bytes.now c.args.searched c.requires clean c.line_of.result.0.now text in
    (c.split_at-2.ensures.front ∙ is.0, c.split_at-2.ensures.back ∙ is.1)
