use Rattle.std.proofs.Common.{◌≡◌, ℕ, List, Some, length, refl, subst}
use Rattle.std.specs.Prelude.{slice_get}
use Rattle.std.proofs.lemmas.Option.{slice_get_read}
use Rattle.redis_session.specs.Directory.{Directory, IsPrimary}
use Rattle.redis_session.proofs.directory.Directory.primary.Goals as goal

pub returns : goal.returns
returns c =
    let node = c.in_ok-node.field-0.now in
    let numbers = c.deref.result.now in
    let found = c.in_ok-node.ensures.lookup in
    subst (λ (d : Directory). IsPrimary node d) c.self.view_is (c.self.invariant.primaries_are c.args.place node
    (subst (λ (ns : List ℕ). slice_get ns c.args.place ≡ Some node) c.deref.ensures.value (slice_get_read numbers (length numbers) c.args.place node refl found.3.0 found.1)))
