use Rattle.std.proofs.Common.{◌≡◌}
use Rattle.session_core.specs.declared.part.Cause.TheVariants.{GivenUp}
use Rattle.session_core.specs.Part.{PartState, phase_ended}
use Rattle.session_machine.proofs.PartLists.{first_mapped}
use Rattle.session_machine.proofs.call.end_all.Given as goal

abbrev pub invariant-loop-index : goal.invariant-loop-index
invariant-loop-index l = l.parts ≡ first_mapped {X = PartState} (λ p. record p { phase = phase_ended GivenUp p.phase }) l.index l.initial.parts
