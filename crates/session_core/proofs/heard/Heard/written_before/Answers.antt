use Rattle.std.proofs.Common.{◌≡◌, Some, sym, arith}
use Rattle.std.specs.List.{slice_get}
use Rattle.std.proofs.lemmas.Grind.{common_steps}
use Rattle.session_core.proofs.Arrivals.{first_written}
use Rattle.session_core.proofs.heard.Heard.written_before.Goals as goal

pub returns-in-Some-clause-first : goal.returns-in-Some-clause-first
returns-in-Some-clause-first c =
    let first : slice_get c.self.inside.earlier.items 0 ≡ Some c.in-Some.first.now = grind (arith, common_steps) in
    rw (← c.self.view_is) (sym (first_written c.self.inside.earlier.items c.self.inside.last c.in-Some.first.now first c.self.invariant.0))
