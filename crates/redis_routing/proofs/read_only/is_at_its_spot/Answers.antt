use Rattle.std.proofs.Common.{◌≡◌, ◌∙◌, ap, sym, refl, slice_get, Some}
use Rattle.std.proofs.lemmas.Option.{slice_get_read}
use Rattle.redis_routing.specs.Inner.NameSpots.{is_in}
use Rattle.redis_routing.proofs.NameSets.{among_keys}
use Rattle.redis_routing.proofs.read_only.is_at_its_spot.Goals as goal

pub returns-in-Some : goal.returns-in-Some
returns-in-Some c =
    let got : slice_get c.args.trees.now c.spot_of.result ≡ Some c.in-Some.tree.now = slice_get_read _ _ _ _ refl c.in-Some.ensures.lookup.3.0 c.in-Some.ensures.lookup.1 in
    c.contains.ensures ∙ among_keys c.args.name.now c.in-Some.tree.now.keys
    ∙ ap (is_in c.args.name.now) (sym got ∙ ap (slice_get c.args.trees.now) c.spot_of.ensures)
