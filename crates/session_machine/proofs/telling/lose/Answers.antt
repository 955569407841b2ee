use Rattle.std.proofs.Common.{sym, subst, List}
use Rattle.session_core.specs.State.{CallState}
use Rattle.session_machine.specs.Kept.{CanFollow}
use Rattle.session_machine.proofs.telling.lose.Goals as goal

pub follow-requires : goal.follow-requires
follow-requires c =
    subst (λ (cs : List CallState). CanFollow c.args.first c.args.call c.args.part cs c.args.places.now.items c.args.callers.now) (sym c.note_lost.ensures) c.requires
