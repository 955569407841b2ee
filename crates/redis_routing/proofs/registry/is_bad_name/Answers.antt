use Rattle.std.proofs.Common.{◌∙◌, ap}
use Rattle.std.specs.Prelude.{not}
use Rattle.redis_routing.proofs.RegisteredNames.{bad_name_cut, bad_name_alone}
use Rattle.redis_routing.proofs.registry.is_bad_name.Goals as goal

pub returns-in-Some : goal.returns-in-Some
returns-in-Some c = ap not c.are_words.ensures ∙ bad_name_cut c.args.name.now c.in-Some.first.now c.in-Some.second.now c.in-Some.ensures.0 c.in-Some.ensures.1

pub returns-in-None : goal.returns-in-None
returns-in-None c = c.lacks_word.ensures ∙ bad_name_alone c.args.name.now c.in-None.ensures
