use Rattle.std.proofs.Common.{map, refl}
use Rattle.slotroute_serve.specs.MapLines.{made_in, range_line}
use Rattle.slotroute_serve.proofs.NoMapLine.{no_map_line}
use Rattle.slotroute_serve.proofs.input.add_line.Goals as goal

pub returns-in_ok-push-in-Some-clause-good : goal.returns-in_ok-push-in-Some-clause-good
returns-in_ok-push-in-Some-clause-good c = λ _. range_line c.in-Some.range (rw c.in-Some.is at c.in_ok-range.ensures) c.in_ok-push-in-Some.ensures.items refl

pub returns-in-None-clause-bad : goal.returns-in-None-clause-bad
returns-in-None-clause-bad c = no_map_line c.register_line.result (map (λ field. field.now) c.args.fields.now) (made_in c.args.made.now) (rw c.in-None.is at c.in_ok-range.ensures) c.register_line.ensures.bad
