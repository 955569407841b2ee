use Rattle.std.proofs.Common.{rules, ◌==◌, ◌||◌, nat_lt, length}
use Rattle.std.proofs.lemmas.Iterator.Splits.{YieldsList-from_slice_split}
use Rattle.std.proofs.lemmas.Iterator.Consumers.{YieldsList-from_filter, map_from_collect}
use borrow.Author.Tests.{tests}
use Rattle.redis_bytes.proofs.names.lines_in.Goals as goal

pub returns : goal.returns
returns c = map_from_collect _ c.collect.ensures.ran
    (YieldsList-from_filter _ (λ f. nat_lt 0 (length f))
    (YieldsList-from_slice_split _ (λ b. b == 10 || b == 13) c.args.text.now (cc) (cc) (cc) (λ x b q k. search (rules, tests)))
    c.filter.ensures.closure (λ x b q k. search (rules, tests)))
