use Rattle.redis_routing.proofs.TableRows.{tables_with-empty}
use Rattle.redis_routing.proofs.registry.Registry.new.Goals as goal

pub returns-clause-tables : goal.returns-clause-tables
returns-clause-tables c = rw c.new.ensures.empty tables_with-empty
