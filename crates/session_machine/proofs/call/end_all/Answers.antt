use Rattle.std.proofs.Common.{ap, ◌∙◌, get_or, set, arith, List}
use Rattle.session_core.specs.declared.part.Cause.TheVariants.{GivenUp}
use Rattle.session_core.specs.Part.{PartState, phase_ended}
use Rattle.session_machine.proofs.PartLists.{mapped_next, mapped_all}
use Rattle.session_machine.proofs.call.end_all.Goals as goal

abbrev ended : PartState → PartState
ended p = record p { phase = phase_ended GivenUp p.phase }

pub loop-index-preserved : goal.loop-index-preserved
loop-index-preserved c =
    let d = c.index-parts-index.result in
    let x = get_or c.loop-index.parts c.loop-index.index d in
    let is = c.loop-index.invariant in
    ap (set c.loop-index.parts c.loop-index.index) c.note_ended.ensures
    ∙ ap (λ (ps : List PartState). set ps c.loop-index.index (ended x)) is
    ∙ mapped_next ended c.loop-index.index c.args.parts.now x d c.loop-index-test.true (ap (λ (ps : List PartState). get_or ps c.loop-index.index d) is)

pub returns : goal.returns
returns c = c.loop-index.invariant ∙ mapped_all ended c.loop-index.index c.args.parts.now (omega arith)
