use Rattle.redis_routing.proofs.RegisteredNames.{takes_none}
use Rattle.redis_routing.proofs.words.takes_second_in_any_case.Goals as goal

pub returns-then-first-gt-LONGEST_FIRST_WORD : goal.returns-then-first-gt-LONGEST_FIRST_WORD
returns-then-first-gt-LONGEST_FIRST_WORD c = takes_none c.args.first.now c.if-first-gt-LONGEST_FIRST_WORD.true
