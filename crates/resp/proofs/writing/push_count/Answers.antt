use Rattle.std.proofs.Common.{rules}
use Rattle.std.proofs.lemmas.Fmt.{decimal_digit}
use Rattle.resp.proofs.writing.push_count.Goals as goal

pub returns-then-count-lt10-clause-line : goal.returns-then-count-lt10-clause-line
returns-then-count-lt10-clause-line c = rw (decimal_digit c.args.count c.if-count-lt10.true) (search rules)
