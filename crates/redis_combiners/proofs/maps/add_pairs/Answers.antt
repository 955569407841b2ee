use Rattle.std.proofs.Common.{◌∷◌, ◌++◌, [], ◌≡◌, ap, ◌∙◌, map, Some, arith, rules, to_z, of_z, w64, FitsSigned}
use Rattle.std.specs.Int.{w128}
use Rattle.std.proofs.lemmas.Grind.{common_steps}
use Rattle.std.proofs.lemmas.Int.{ints}
use Rattle.std.proofs.lemmas.List.{append-nil}
use Rattle.resp_core.specs.Reply.{bulk_string_of, int_of}
use Rattle.resp_core.specs.View.{view}
use Rattle.redis_combiners.specs.KeyNumbers.{pairs_among}
use Rattle.redis_combiners.specs.Totals.{total_at}
use Rattle.redis_combiners.proofs.ByKey.{total_with, total_with_more}
use Rattle.redis_combiners.proofs.KeyNumbers.{pairs_next}
use Rattle.redis_combiners.proofs.maps.add_pairs.Goals as goal

pub loop-key-preserved : goal.loop-key-preserved
loop-key-preserved c q =
    let key = c.in-Some-into_bulk_string.bytes in
    let n = c.in-Some-as_int.n in
    let old = c.loop-key.totals.items in
    let rest = c.next-in-Some.new.self.rest.items in
    let left = pairs_among (map view rest) in
    let b : Some key.items ≡ bulk_string_of (view c.in-Some.key) = rw c.in-Some-into_bulk_string.is at c.into_bulk_string.ensures in
    let m : Some n ≡ int_of (view c.in-Some-next.number) = rw c.in-Some-as_int.is at c.as_int.ensures in
    let next = pairs_next c.in-Some.key c.in-Some-next.number c.loop-key.rest.rest.items c.next.new.self.rest.items rest key.items n c.in-Some.ensures.items c.in-Some-next.ensures.items b m in
    let same : to_z w128 (of_z w128 c.from.result) ≡ n = (let f : FitsSigned w64 n = search rules in omega (arith, ints, c.from.ensures)) in
    let added : total_at q c.add_number.new.totals.items ≡ total_at q (old ++ (key.items, n) ∷ []) = c.in_ok-place.ensures q ∙ ap (λ z. total_at q (old ++ (key.items, z) ∷ [])) same in
    total_with_more q old c.add_number.new.totals.items ((key.items, n) ∷ []) left added
    ∙ ap (total_with q old) next
    ∙ c.loop-key.invariant q

pub returns-in_default-next : goal.returns-in_default-next
returns-in_default-next c q = let left = c.loop-key.invariant q in grind (arith, common_steps)

pub returns-in_default-into_bulk_string : goal.returns-in_default-into_bulk_string
returns-in_default-into_bulk_string c q = let left = c.loop-key.invariant q in grind (arith, common_steps)

pub returns-in_default-as_int : goal.returns-in_default-as_int
returns-in_default-as_int c q = let left = c.loop-key.invariant q in grind (arith, common_steps)

pub returns : goal.returns
returns c q = let left = c.loop-key.invariant q in grind (arith, common_steps, append-nil)
