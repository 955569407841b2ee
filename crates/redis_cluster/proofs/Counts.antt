-- How often numbers stand in lists, and sums that count.
use Rattle.std.proofs.Common.{◌≡◌, ℕ, ◌+◌, ◌*◌, ◌<◌, List, [], ◌∷◌, ◌++◌, true, false, cond, refl, ap, ◌∙◌, arith}
use Rattle.std.specs.Prelude.{nat_eq}
use Rattle.std.specs.List.{sum_by, list_any}
use Rattle.std.proofs.lemmas.Bool.Decides.{nat_tests}
use Rattle.std.proofs.lemmas.List.Sums.{sum_by-cons, sum_by-append, sum_by_push}
use Rattle.std.proofs.lemmas.Grind.{common_steps}
use Rattle.resp_core.proofs.Cases.{by_test}
use Rattle.redis_cluster.specs.Orders.{times}

-- a number is itself
pub same_number : (n : ℕ) → nat_eq n n ≡ true
same_number n = grind (arith, nat_tests)

-- a list whose first number it is has it once more
pub times_here : (n x : ℕ) (xs : List ℕ) → nat_eq n x ≡ true → times n (x ∷ xs) ≡ 1 + times n xs
times_here n x xs here = sum_by-cons (λ y. cond (nat_eq n y) 1 0) x xs ∙ ap (λ b. cond b 1 0 + times n xs) here

-- a list with another first number has it no more often
pub times_there : (n x : ℕ) (xs : List ℕ) → nat_eq n x ≡ false → times n (x ∷ xs) ≡ times n xs
times_there n x xs there = grind (arith, common_steps)

-- two lists have a number as often as both together
pub times-append : (n : ℕ) (xs ys : List ℕ) → times n (xs ++ ys) ≡ times n xs + times n ys
times-append n xs ys = sum_by-append (λ y. cond (nat_eq n y) 1 0) xs ys

-- with the number at its end a list has it once more
pub times_push : (n : ℕ) (xs : List ℕ) → times n (xs ++ n ∷ []) ≡ times n xs + 1
times_push n xs = sum_by_push (λ y. cond (nat_eq n y) 1 0) xs n ∙ ap (λ b. times n xs + cond b 1 0) (same_number n)

-- a number that stands in a list is found there
pub found : (n : ℕ) (xs : List ℕ) → 0 < times n xs → list_any (λ x. nat_eq n x) xs ≡ true
found n [] some = absurd (omega arith)
found n (x ∷ xs) some = by_test (nat_eq n x) (λ here. rw here refl) (λ there. rw there (found n xs (omega (arith, times_there n x xs there))))

-- a number that does not stand in a list is not found there
pub not_found : (n : ℕ) (xs : List ℕ) → times n xs ≡ 0 → list_any (λ x. nat_eq n x) xs ≡ false
not_found n [] none = refl
not_found n (x ∷ xs) none = by_test (nat_eq n x) (λ here. absurd (omega (arith, times_here n x xs here))) (λ there. rw there (not_found n xs (omega (arith, times_there n x xs there))))

-- a sum of nothing is nothing
pub sum_none : {X : Type 0} (xs : List X) → sum_by (λ x. 0) xs ≡ 0
sum_none [] = refl
sum_none (x ∷ xs) = omega (arith, sum_by-cons (λ y. 0) x xs, sum_none xs)

-- a sum of two functions is the sum of both sums
pub sum_both : {X : Type 0} (f g h : X → ℕ) → ((x : X) → h x ≡ f x + g x) → (xs : List X) → sum_by h xs ≡ sum_by f xs + sum_by g xs
sum_both f g h e [] = refl
sum_both f g h e (x ∷ xs) = omega (arith, sum_by-cons f x xs, sum_by-cons g x xs, sum_by-cons h x xs, e x, sum_both f g h e xs)

-- functions that give the same have one sum
pub sum_alike : {X : Type 0} (f g : X → ℕ) → ((x : X) → f x ≡ g x) → (xs : List X) → sum_by f xs ≡ sum_by g xs
sum_alike f g e [] = refl
sum_alike f g e (x ∷ xs) = omega (arith, sum_by-cons f x xs, sum_by-cons g x xs, e x, sum_alike f g e xs)

-- once more is one more
pub one_more : (n w : ℕ) → (1 + n) * w ≡ w + n * w
one_more n w = grind arith

-- once is one
pub once_times : (w : ℕ) → 1 * w ≡ w
once_times w = omega arith

-- what is added wherever a number stands is added as often as it stands there
pub sum_at : (n w : ℕ) (xs : List ℕ) → sum_by (λ x. cond (nat_eq n x) w 0) xs ≡ times n xs * w
sum_at n w [] = omega arith
sum_at n w (x ∷ xs) = grind (arith, common_steps, sum_by-cons, by_test, times_here, one_more (times n xs) w, times_there, sum_at n w xs)
