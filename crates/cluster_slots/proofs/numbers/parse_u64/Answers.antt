use Rattle.std.proofs.Common.{◌∙◌, ap}
use Rattle.cluster_slots.specs.Number.{number_in}
use Rattle.cluster_slots.proofs.Numerals.{number-ok, number-err, number-not_text}
use Rattle.cluster_slots.proofs.numbers.parse_u64.Goals as goal

pub returns-in_default : goal.returns-in_default
returns-in_default c = number-not_text 64 c.args.arg.now c.in_default.ensures.cases.0

pub returns-in-Ok-parse : goal.returns-in-Ok-parse
returns-in-Ok-parse c = number-ok 64 c.in-Ok.text.now c.in-Ok-parse.number c.in-Ok-parse.ensures.value.0 ∙ ap (number_in 64) c.in-Ok.ensures.cases.0

pub returns-in-Err : goal.returns-in-Err
returns-in-Err c = number-err 64 c.in-Ok.text.now c.in-Err.ensures.value.0 ∙ ap (number_in 64) c.in-Ok.ensures.cases.0
