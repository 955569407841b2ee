use Rattle.std.proofs.lemmas.List.{take_rest}
use Rattle.resp.proofs.HeadGrammar.{searched_on}
use Rattle.resp.proofs.heads.searched_of.Goals as goal

pub returns-in_default-kind_of-clause-zeros : goal.returns-in_default-kind_of-clause-zeros
returns-in_default-kind_of-clause-zeros c = searched_on c.args.line.now _ c.args.searched c.saturating_sub.result c.zeros_of.result c.in-len1-up.len_at_least (take_rest c.args.line.now 1) c.saturating_sub.ensures c.zeros_of.ensures.zeros
