use Rattle.std.proofs.Common.{length, refl}
use Rattle.std.proofs.lemmas.Option.{slice_get_read}
use Rattle.session_core.specs.declared.ordered_part.OrderedPart.{OrderedPart}
use Rattle.session_core.proofs.Places.{set_changed}
use Rattle.session_core.proofs.ordered_parts.mark.Goals as goal

pub returns : goal.returns
returns c =
    let parts = c.args.parts.now.items in
    set_changed (λ (part : OrderedPart). record part { status = c.args.status }) c.args.index parts c.index.result.now (slice_get_read parts (length parts) c.args.index c.index.result.now refl c.requires c.index.ensures)
