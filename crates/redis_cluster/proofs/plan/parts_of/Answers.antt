use Rattle.std.proofs.Common.{◌≡◌, ◌+◌, ◌<◌, ℕ, zero, suc, List, [], ◌∷◌, ◌++◌, Some, ap, sym, ◌∙◌, arith, length, map, option_map, take, get_or, slice_get}
use Rattle.std.proofs.lemmas.Grind.{common_steps}
use Rattle.std.proofs.lemmas.List.{length-map, take_all}
use Rattle.std.proofs.lemmas.Option.{none-some, same_Some}
use Rattle.redis_routing.specs.Command.{Arguments}
use Rattle.redis_routing.specs.Split.{split_part, slots_of}
use Rattle.redis_cluster.proofs.plan.parts_of.Goals as goal

-- what is found by a slot is that of the slot of this number
at_slot : {X P : Type 0} (slot : X → ℕ) (part_of : ℕ → P) (xs : List X) (n : ℕ) (part : P) →
    Some part ≡ option_map (λ x. part_of (slot x)) (slice_get xs n) → (n < length (map slot xs)) × (part ≡ part_of (get_or (map slot xs) n 0))
at_slot slot part_of [] n part e = absurd (none-some part (sym e))
at_slot slot part_of (x ∷ xs) zero part e = (omega arith, same_Some part (part_of (slot x)) e)
at_slot slot part_of (x ∷ xs) (suc n) part e = let later = at_slot slot part_of xs n part e in (omega arith, later.1)

-- one part more
parts_more : (part_of : ℕ → Arguments) (parts : List (List (List ℕ))) (part : List (List ℕ)) (slots : List ℕ) (n : ℕ) →
    map (map Some) parts ≡ map part_of (take n slots) → (n < length slots) × (map Some part ≡ part_of (get_or slots n 0)) →
    map (map Some) (parts ++ part ∷ []) ≡ map part_of (take (n + 1) slots)
parts_more part_of parts part slots n so_far next = grind (arith, common_steps)

pub loop-number-preserved : goal.loop-number-preserved
loop-number-preserved g c =
    let split = c.args.split.now in
    let next = at_slot (λ r. r.0.slot) (split_part split) split.routes c.loop-number.number _ c.in_ok-part.ensures in
    rw c.in_ok-push.ensures.items
    (parts_more (split_part split) c.loop-number.parts.items c.in_ok-part.field-0 (slots_of split.routes) c.loop-number.number c.loop-number.invariant next)

pub returns : goal.returns
returns g c =
    let slots = slots_of c.args.split.now.routes in
    let so_far : map (map Some) c.loop-number.parts.items ≡ map (split_part c.args.split.now) (take c.loop-number.number slots) = c.loop-number.invariant in
    so_far ∙ ap (map (split_part c.args.split.now)) (take_all c.loop-number.number slots (omega (arith, length-map c.args.split.now.routes (λ r. r.0.slot))))
