use Rattle.std.proofs.Common.{◌≡◌, ℕ, ◌*◌, ◌/◌, ◌++◌, ◌∷◌, [], Some, ap, sym, ◌∙◌, append_assoc, arith, length, slice_index}
use Rattle.std.specs.Prelude.{option_map}
use Rattle.std.proofs.lemmas.List.FromFn.{map-range_with_len_more}
use Rattle.redis_combiners.specs.KeyPlaces.{places}
use Rattle.redis_combiners.proofs.KeyPlaces.{heads, length-heads, places_are}
use Rattle.redis_combiners.proofs.places.add_places.Goals as goal

pub loop-i-preserved : goal.loop-i-preserved
loop-i-preserved c =
    let old = c.args.all.now.items in
    let own = c.in-Some.own.now in
    let w = c.width-width.result in
    let i = c.loop-i.i in
    let f : ℕ → ℕ = λ j. slice_index own (w * j) / w in
    c.in_ok-push.ensures.items
    ∙ ap (λ xs. xs ++ f i ∷ []) c.loop-i.invariant
    ∙ append_assoc old (heads w own i) (f i ∷ [])
    ∙ ap (λ xs. old ++ xs) (sym (map-range_with_len_more f 0 i i (omega arith)))

pub returns-clause-count : goal.returns-clause-count
returns-clause-count c =
    let own = c.in-Some.own.now in
    let w = c.width-width.result in
    let found : places c.args.pattern c.args.list.now ≡ Some (heads w own (length own / w)) = places_are c.args.pattern c.args.list.now own w c.width-width.ensures c.in-Some.ensures c.if-own-width-ne0.false in
    sym (ap (option_map length) found ∙ ap Some (length-heads w (length own / w) own))

pub returns-clause-added : goal.returns-clause-added
returns-clause-added c =
    let old = c.args.all.now.items in
    let own = c.in-Some.own.now in
    let w = c.width-width.result in
    let found : places c.args.pattern c.args.list.now ≡ Some (heads w own (length own / w)) = places_are c.args.pattern c.args.list.now own w c.width-width.ensures c.in-Some.ensures c.if-own-width-ne0.false in
    let done : c.loop-i.i ≡ length own / w = omega arith in
    ap Some (c.loop-i.invariant ∙ ap (λ n. old ++ heads w own n) done) ∙ sym (ap (option_map (λ xs. old ++ xs)) found)
