-- Of items with a place each: every item stands at its place.
use Rattle.std.proofs.Common.{◌≡◌, ℕ, zero, suc, ◌<◌, Bool, true, false, cond, List, [], ◌∷◌, length, map, get_or, Option, Some, None, ap, sym, ◌∙◌, arith}
use Rattle.std.proofs.lemmas.Grind.{common_steps}
use Rattle.std.specs.Prelude.{nat_eq, nat_lt, ◌&&◌}
use Rattle.std.specs.List.{range_with_len, list_all}
use Rattle.std.proofs.lemmas.List.FromFn.{length-map-range_with_len, get_or-map-range_with_len}
use Rattle.resp_core.specs.Reply.{Reply}
use Rattle.cluster_slots.specs.Lists.{all_some}
use Rattle.redis_combiners.specs.ByPlaces.{items_of_index, single, by_places}
use Rattle.resp_core.proofs.Cases.{by_test}
use Rattle.redis_combiners.proofs.Arranging.{items_at-cons}
use Rattle.redis_combiners.proofs.Lists.{all_some_at, all_some_length}

single_is : (xs : List Reply) (x : Reply) → single xs ≡ Some x → xs ≡ x ∷ []
single_is xs x h1 = grind (arith)

-- an item is among those of its place
stands : (ps : List ℕ) (xs : List Reply) (j : ℕ) (d : Reply) → j < length ps → length xs ≡ length ps → 0 < length (items_of_index (get_or ps j 0) ps xs)
stands [] xs j d l n = absurd (omega arith)
stands (p ∷ ps) [] j d l n = absurd (omega arith)
stands (p ∷ ps) (x ∷ xs) zero d l n = grind (arith, common_steps)
stands (p ∷ ps) (x ∷ xs) (suc j) d l n = grind (arith, common_steps, stands ps xs j d (omega arith) (omega arith))

only_one : (ps : List ℕ) (xs : List Reply) (j : ℕ) (y d : Reply) → items_of_index (get_or ps j 0) ps xs ≡ y ∷ [] → j < length ps → length xs ≡ length ps → get_or xs j d ≡ y
only_one [] xs j y d e l n = absurd (omega arith)
only_one (p ∷ ps) [] j y d e l n = absurd (omega arith)
only_one (p ∷ ps) (x ∷ xs) zero y d e l n = grind (arith, common_steps)
only_one (p ∷ ps) (x ∷ xs) (suc j) y d e l n = later (nat_eq p (get_or ps j 0)) (stands ps xs j d (omega arith) (omega arith)) (λ h. only_one ps xs j y d h (omega arith) (omega arith)) (sym (items_at-cons (get_or ps j 0) p ps x xs) ∙ e)
  where
    later : (b : Bool) → 0 < length (items_of_index (get_or ps j 0) ps xs) → (items_of_index (get_or ps j 0) ps xs ≡ y ∷ [] → get_or xs j d ≡ y) → cond b (x ∷ items_of_index (get_or ps j 0) ps xs) (items_of_index (get_or ps j 0) ps xs) ≡ y ∷ [] → get_or xs j d ≡ y
    later true some here h = let none : items_of_index (get_or ps j 0) ps xs ≡ [] = cc in absurd (omega (arith, ap length none))
    later false some here h = here h

within_at : (n : ℕ) (ps : List ℕ) (j : ℕ) → list_all (λ p. nat_lt p n) ps ≡ true → j < length ps → get_or ps j 0 < n
within_at n [] j e l = absurd (omega arith)
within_at n (p ∷ ps) zero e l = grind (arith, common_steps)
within_at n (p ∷ ps) (suc j) e l = within_at n ps j (rest (nat_lt p n) e) (omega arith)
  where
    rest : (b : Bool) → (b && list_all (λ q. nat_lt q n) ps) ≡ true → list_all (λ q. nat_lt q n) ps ≡ true
    rest true h = h
    rest false h = absurd (cc)

-- element j stands at place j
pub at_own_place : (ps : List ℕ) (xs out : List Reply) (d : Reply) → length xs ≡ length ps → by_places ps xs ≡ Some out → (j : ℕ) → j < length ps → get_or out (get_or ps j 0) d ≡ get_or xs j d
at_own_place ps xs out d n e j l = by_test (list_all (λ p. nat_lt p (length ps)) ps)
    (λ t. let f : ℕ → Option Reply = λ k. single (items_of_index k ps xs) in
    let place = get_or ps j 0 in
    let below : place < length ps = within_at (length ps) ps j t l in
    let all : all_some (map f (range_with_len 0 (length ps))) ≡ Some out = sym (ap (λ b. cond b (all_some (map f (range_with_len 0 (length ps)))) None) t) ∙ e in
    let long : length (map f (range_with_len 0 (length ps))) ≡ length ps = length-map-range_with_len f 0 (length ps) in
    let one : f place ≡ Some (get_or out place d) = sym (get_or-map-range_with_len f 0 (length ps) place place None below (omega arith)) ∙ all_some_at (map f (range_with_len 0 (length ps))) out place d all (omega arith) in
    sym (only_one ps xs j (get_or out place d) d (single_is (items_of_index place ps xs) (get_or out place d) one) l n))
    (λ f. absurd (refused (sym (ap (λ b. cond b (all_some (map (λ k. single (items_of_index k ps xs)) (range_with_len 0 (length ps)))) None) f) ∙ e)))
  where
    refused : None ≡ Some out → ⊥
    refused h = cc

-- a place is one of the whole
pub own_place_within : (ps : List ℕ) (xs out : List Reply) → by_places ps xs ≡ Some out → (j : ℕ) → j < length ps → get_or ps j 0 < length out
own_place_within ps xs out e j l = by_test (list_all (λ p. nat_lt p (length ps)) ps)
    (λ t. let f : ℕ → Option Reply = λ k. single (items_of_index k ps xs) in
    let below : get_or ps j 0 < length ps = within_at (length ps) ps j t l in
    let all : all_some (map f (range_with_len 0 (length ps))) ≡ Some out = sym (ap (λ b. cond b (all_some (map f (range_with_len 0 (length ps)))) None) t) ∙ e in
    omega (arith, all_some_length (map f (range_with_len 0 (length ps))) out all, length-map-range_with_len f 0 (length ps)))
    (λ f. absurd (refused (sym (ap (λ b. cond b (all_some (map (λ k. single (items_of_index k ps xs)) (range_with_len 0 (length ps)))) None) f) ∙ e)))
  where
    refused : None ≡ Some out → ⊥
    refused h = cc
