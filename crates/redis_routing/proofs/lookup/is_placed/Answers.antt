use Rattle.std.proofs.Common.{sym, ap, ◌∙◌, arith}
use Rattle.std.proofs.lemmas.Bool.{le-ltb}
use Rattle.redis_routing.specs.Places.{word_hash, row_of}
use Rattle.redis_routing.proofs.Placed.{named_at_place, no_name_at_place}
use Rattle.redis_routing.proofs.lookup.is_placed.Goals as goal

pub returns-then-place-words : goal.returns-then-place-words
returns-then-place-words c = named_at_place (λ n. n.now) (λ n. row_of c.args.places.now (word_hash n)) c.args.words.now c.args.word.now c.row_of-place.result _ _ c.requires.placed (c.row_of-place.ensures ∙ ap (row_of c.args.places.now) c.word_hash.ensures) c.if-place-words.true c.eq.ensures

pub returns-else-place-words : goal.returns-else-place-words
returns-else-place-words c =
    le-ltb c.row_of-place.result _ c.if-place-words.false
    ∙ sym (no_name_at_place (λ n. n.now) (λ n. row_of c.args.places.now (word_hash n)) c.args.words.now c.args.word.now c.row_of-place.result c.requires.placed (c.row_of-place.ensures ∙ ap (row_of c.args.places.now) c.word_hash.ensures) (λ d inside. absurd (omega arith)))
