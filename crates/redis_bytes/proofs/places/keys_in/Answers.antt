use Rattle.std.proofs.Common.{◌≡◌, ◌+◌, ◌≤◌, [], ℕ, List, Some, length, get_or, take, ap, ◌∙◌, arith}
use Rattle.std.specs.List.{sum_by}
use Rattle.std.proofs.lemmas.List.{take_all}
use Rattle.std.proofs.lemmas.List.Sums.{sum_by_more, sum_by-take-le}
use Rattle.redis_combiners.specs.KeyPlaces.{places}
use Rattle.redis_bytes.proofs.Combined.{length_of_zip}
use Rattle.redis_bytes.proofs.PartNumbers.{list_at}
use Rattle.redis_bytes.proofs.places.keys_in.Goals as goal

pub loop-list-preserved : goal.loop-list-preserved
loop-list-preserved c = λ keys are few.
    let f : List ℕ → ℕ = λ own. length own in
    let i = c.loop-list.list-index in
    let at = list_at c.args.pattern c.args.routes.now keys i c.loop-list-item.result are c.loop-list-test.true c.loop-list-item.is in
    let own = get_or keys i [] in
    let listed : places c.args.pattern c.deref.result.now ≡ Some own = ap (places c.args.pattern) c.deref.ensures.value ∙ at.1 in
    let count : c.keys_of.result ≡ length own = c.keys_of.ensures own listed in
    let so_far = c.loop-list.invariant keys are few in
    let more : sum_by f (take (i + 1) keys) ≡ sum_by f (take i keys) + length own = sum_by_more f keys i [] at.0 in
    let most : sum_by f (take (i + 1) keys) ≤ sum_by f keys = sum_by-take-le f keys (i + 1) in
    omega (arith, c.saturating_add-count.ensures, count, so_far, more, most, few)

pub returns : goal.returns
returns c = λ keys are few.
    let long = length_of_zip (λ route own. places c.args.pattern route.1.items ≡ Some own) c.args.routes.now keys are in
    c.loop-list.invariant keys are few ∙ ap (sum_by (λ (own : List ℕ). length own)) (take_all c.loop-list.list-index keys (omega (arith, long, c.loop-list-test.false)))
