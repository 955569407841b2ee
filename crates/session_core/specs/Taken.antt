-- What a call of `take` returns.
use Rattle.std.specs.Prelude.{◌≡◌, ◌≤◌, ◌⊎◌, [], length}
use Rattle.session_core.specs.declared.link.Taken.{Taken}
use Rattle.session_core.specs.declared.link.Taken.TheVariants.{Nothing, Reply, Broken}
use Rattle.session_core.specs.Channel.{Channel}
use Rattle.session_core.specs.Reply.{IsUnfinished, IsForSome}
use Rattle.session_core.specs.LinkEvents.{Happens, Take, Break}

abbrev pub IsTaken : Channel → Taken → Channel → Type 0
-- Nothing came. Or what came is for some request, and is the beginning of a message that can still
-- be short enough.
IsTaken old Nothing new = (new ≡ old) × ((old.heard ≡ [])
    ⊎ (IsForSome old × IsUnfinished old.heard × (length old.heard ≤ old.most)))
IsTaken old (Reply ticket reply) new = Happens old (Take ticket reply.items) new
IsTaken old (Broken cause) new = Happens old (Break cause) new
