use Rattle.std.proofs.Common.{length, refl}
use Rattle.std.proofs.lemmas.Option.{slice_get_read}
use Rattle.session_core.proofs.Arrivals.{part_forgotten}
use Rattle.session_core.proofs.heard.forget_some.Goals as goal

pub returns-clause-rest : goal.returns-clause-rest
returns-clause-rest c =
    let arrivals = c.args.earlier.now.items in
    part_forgotten arrivals c.index.result.now c.args.count (slice_get_read arrivals (length arrivals) 0 c.index.result.now refl c.requires.some c.index.ensures) c.if-there-count.false
