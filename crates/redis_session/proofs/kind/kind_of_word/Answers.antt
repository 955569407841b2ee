use Rattle.std.proofs.Common.{◌∙◌, ap}
use Rattle.redis_routing.specs.Upper.{upper}
use Rattle.redis_session.specs.SharedNames.{kind_of_name}
use Rattle.redis_session.proofs.TableNames.{kind_of_name-long}
use Rattle.redis_session.proofs.kind.kind_of_word.Goals as goal

pub returns-then-word-gt-LONGEST_NAME : goal.returns-then-word-gt-LONGEST_NAME
returns-then-word-gt-LONGEST_NAME c = kind_of_name-long c.args.word.now c.if-word-gt-LONGEST_NAME.true

pub returns : goal.returns
returns c = c.kind_of_name.ensures ∙ ap kind_of_name (c.make_ascii_uppercase.ensures.after ∙ ap upper c.copy_from_slice.ensures.after)
