use Rattle.std.proofs.Common.{◌≡◌, ◌/◌, ℕ, List, length, sym, ap, ◌∙◌}
use Rattle.cluster_slots.specs.ArgPattern.{width_of}
use Rattle.redis_combiners.proofs.KeyPlaces.{length-heads}
use Rattle.redis_bytes.proofs.PartNumbers.{are_keys}
use Rattle.redis_bytes.proofs.places.keys_of.Goals as goal

pub returns : goal.returns
returns c = λ own is.
    let w = width_of c.args.pattern in
    let keys = are_keys c.args.pattern c.args.list.now own is in
    let part : c.own_part.result.now ≡ keys.own = c.own_part.ensures keys.own keys.own_is in
    ap (λ (xs : List ℕ). length xs / c.width.result) part ∙ ap (λ n. length keys.own / n) c.width.ensures
    ∙ sym (ap (length {A = ℕ}) keys.keys_are ∙ length-heads w (length keys.own / w) keys.own)
