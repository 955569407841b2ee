use Rattle.std.proofs.Common.{◌≡◌, ◌∙◌, ◌||◌, refl, ap, Some, slice_get, arith}
use Rattle.std.specs.Str.{bytes_eq}
use Rattle.std.proofs.lemmas.Option.{slice_get_read}
use Rattle.redis_routing.specs.ReadOnly.{is_among}
use Rattle.redis_routing.specs.Upper.{upper}
use Rattle.redis_routing.specs.Inner.NameSpots.{spot_of, names_in_trees}
use Rattle.redis_routing.proofs.NameSets.{among-insert}
use Rattle.redis_routing.proofs.NameSpots.{among-set, set_same, at_their_spots-reached, at_their_spots-set}
use Rattle.redis_routing.proofs.read_only.ReadOnlyNames.insert.Goals as goal

pub invariant_of-self-in_err-insert : goal.invariant_of-self-in_err-insert
invariant_of-self-in_err-insert c =
    let there : slice_get c.reach.new.trees.items c.spot_of-spot.result ≡ Some c.index_mut.result.now = slice_get_read _ _ _ _ refl c.in_ok-reach.ensures.reached c.index_mut.ensures.value in
    rw (set_same c.reach.new.trees.items c.spot_of-spot.result c.index_mut.result.now c.insert.new.self there c.in_err-insert.ensures.err)
    (at_their_spots-reached _ _ c.self.invariant c.in_ok-reach.ensures.names c.in_ok-reach.ensures.spots)

pub returns-in_err-insert-clause-unchanged : goal.returns-in_err-insert-clause-unchanged
returns-in_err-insert-clause-unchanged c = grind (arith, slice_get, slice_get_read, set_same)

pub invariant_of-self-2 : goal.invariant_of-self-2
invariant_of-self-2 c =
    let there : slice_get c.reach.new.trees.items c.spot_of-spot.result ≡ Some c.index_mut.result.now = slice_get_read _ _ _ _ refl c.in_ok-reach.ensures.reached c.index_mut.ensures.value in
    at_their_spots-set c.in_ok-name.name.items _ _ _ _
    (at_their_spots-reached _ _ c.self.invariant c.in_ok-reach.ensures.names c.in_ok-reach.ensures.spots)
    (c.spot_of-spot.ensures ∙ ap spot_of c.deref.ensures.value) there
    (λ q. among-insert q c.in_ok-name.name.items c.in_ok-name.name _ _ c.in_ok-insert.ensures.keys refl)

pub returns-clause-inserted : goal.returns-clause-inserted
returns-clause-inserted c = λ q.
    let there : slice_get c.reach.new.trees.items c.spot_of-spot.result ≡ Some c.index_mut.result.now = slice_get_read _ _ _ _ refl c.in_ok-reach.ensures.reached c.index_mut.ensures.value in
    let before : is_among (names_in_trees c.reach.new.trees.items) q ≡ is_among c.args.self.now q = ap (λ names. is_among names q) (c.in_ok-reach.ensures.names ∙ c.self.view_is) in
    let spelt : bytes_eq q c.in_ok-name.name.items ≡ bytes_eq q (upper c.args.name.now) = ap (bytes_eq q) c.in_ok-name.ensures in
    among-set c.in_ok-name.name.items c.reach.new.trees.items c.spot_of-spot.result c.index_mut.result.now c.insert.new.self there
    (λ q. among-insert q c.in_ok-name.name.items c.in_ok-name.name _ _ c.in_ok-insert.ensures.keys refl) q
    ∙ (λ i. spelt i || before i)
