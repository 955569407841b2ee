use Rattle.std.proofs.Common.{rules, arith}
use Rattle.std.proofs.lemmas.List.Sorted.{IsPermutation-trans}
use Rattle.redis_combiners.proofs.ByKey.{sorted_by_key}
use Rattle.redis_combiners.proofs.maps.by_key.Goals as goal

pub returns-clause-same : goal.returns-clause-same
returns-clause-same c = grind (arith, IsPermutation-trans)

pub returns-clause-ascending : goal.returns-clause-ascending
returns-clause-ascending c = sorted_by_key c.sort_unstable_by.new.self.items c.sort_unstable_by.ensures.sorted (λ a r f' k. search rules)
