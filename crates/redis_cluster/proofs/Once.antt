-- When an order names each number once, and when it doesn't.
use Rattle.std.proofs.Common.{◌≡◌, ℕ, zero, suc, ◌+◌, ◌*◌, ◌<◌, ◌≤◌, List, [], ◌∷◌, false, cond, All, inl, inr, refl, sym, ◌∙◌, arith, length, take, get_or}
use Rattle.std.specs.Prelude.{nat_eq}
use Rattle.std.specs.List.{sum_by}
use Rattle.std.proofs.lemmas.Bool.{cases_lt}
use Rattle.std.proofs.lemmas.Bool.Decides.{nat_tests}
use Rattle.std.proofs.lemmas.List.Sums.{sum_by-cons, sum_by_more, sum_by-take-le}
use Rattle.std.proofs.lemmas.Grind.{common_steps}
use Rattle.resp_core.proofs.Cases.{by_test}
use Rattle.redis_cluster.specs.Orders.{times, NamesOnce}
use Rattle.redis_cluster.proofs.Counts.{same_number, times_here, times_there}
use Rattle.redis_cluster.proofs.Orders.{below, below_same, sum_by_times}

-- a sum of ones is the length
sum_ones : (xs : List ℕ) → sum_by (λ x. 1) xs ≡ length xs
sum_ones [] = refl
sum_ones (x ∷ xs) = omega (arith, sum_by-cons (λ y. 1) x xs, sum_ones xs)

-- numbers below n stand there, in all, as often as the list is long
times_in_all : (n : ℕ) (order : List ℕ) → All (λ k. k < n) order → below n (λ k. times k order) ≡ length order
times_in_all n order small =
    below_same n (λ k. times k order) (λ k. times k order * 1) (λ k l. omega arith) ∙ sym (sum_by_times (λ k. 1) n order small) ∙ sum_ones order

-- n values of at most 1 have a sum of at most n
below_most : (n : ℕ) (f : ℕ → ℕ) → ((k : ℕ) → k < n → f k ≤ 1) → below n f ≤ n
below_most zero f most = omega arith
below_most (suc n) f most = omega (arith, most 0 (omega arith), below_most n (λ k. f (suc k)) (λ k l. most (suc k) (omega arith)))

-- n values of at most 1 with the sum n are 1 each
below_full : (n : ℕ) (f : ℕ → ℕ) → ((k : ℕ) → k < n → f k ≤ 1) → below n f ≡ n → (k : ℕ) → k < n → f k ≡ 1
below_full zero f most full k l = absurd (omega arith)
below_full (suc n) f most full zero l = omega (arith, most 0 (omega arith), below_most n (λ k. f (suc k)) (λ k l. most (suc k) (omega arith)))
below_full (suc n) f most full (suc k) l =
    below_full n (λ j. f (suc j)) (λ j h. most (suc j) (omega arith)) (omega (arith, most 0 (omega arith), below_most n (λ j. f (suc j)) (λ j h. most (suc j) (omega arith)))) k (omega arith)

-- n values of 1 have the sum n
below_ones : (n : ℕ) (f : ℕ → ℕ) → ((k : ℕ) → k < n → f k ≡ 1) → below n f ≡ n
below_ones zero f one = refl
below_ones (suc n) f one = omega (arith, one 0 (omega arith), below_ones n (λ k. f (suc k)) (λ k l. one (suc k) (omega arith)))

-- An order of n numbers below n, none of them twice, names each number below n once.
pub names_once_from : (n : ℕ) (order : List ℕ) → length order ≡ n → All (λ k. k < n) order → ((k : ℕ) → times k order ≤ 1) → NamesOnce n order
names_once_from n order long small apart = record {
  below = small;
  once = below_full n (λ k. times k order) (λ k l. apart k) (times_in_all n order small ∙ long);
}

-- An order that names each number below n once has n numbers.
pub length-names_once : (n : ℕ) (order : List ℕ) → NamesOnce n order → length order ≡ n
length-names_once n order names = sym (times_in_all n order names.below) ∙ below_ones n (λ k. times k order) names.once

-- a number that is none of the elements stands in a list no time
never : (k : ℕ) (xs : List ℕ) → ((i d : ℕ) → i < length xs → nat_eq k (get_or xs i d) ≡ false) → times k xs ≡ 0
never k [] other = refl
never k (x ∷ xs) other = times_there k x xs (other 0 0 (omega arith)) ∙ never k xs (λ i d l. other (suc i) d (omega arith))

-- No number stands twice in an order that names each once.
pub names_once-apart : (n : ℕ) (order : List ℕ) → NamesOnce n order → (k : ℕ) → times k order ≤ 1
names_once-apart n order names k = elim (cases_lt k n) as (λ _. times k order ≤ 1) [
  | inl small ↦ omega (arith, names.once k small)
  | inr large ↦ omega (arith, never k order (λ i d l. let less : get_or order i d < n = names.below i d l in grind (arith, nat_tests)))
]

-- an element of a list stands there
pub stands : (xs : List ℕ) (i d : ℕ) → i < length xs → 1 ≤ times (get_or xs i d) xs
stands [] i d l = absurd (omega arith)
stands (x ∷ xs) zero d l = omega (arith, times_here x x xs (same_number x))
stands (x ∷ xs) (suc i) d l = grind (arith, common_steps, stands xs i d (omega arith))

-- an element at two places stands in a list twice
pub twice : (xs : List ℕ) (i j d : ℕ) → i < j → j < length xs → get_or xs i d ≡ get_or xs j d → 2 ≤ times (get_or xs i d) xs
twice [] i j d l m same = absurd (omega arith)
twice (x ∷ xs) i zero d l m same = absurd (omega arith)
twice (x ∷ xs) zero (suc j) d l m same = grind (arith, common_steps)
twice (x ∷ xs) (suc i) (suc j) d l m same = grind (arith, common_steps, twice xs i j d (omega arith) (omega arith) same)

-- An order with a number that is not below n doesn't name each number once.
pub too_large : (n : ℕ) (order : List ℕ) (i d : ℕ) → i < length order → n ≤ get_or order i d → NamesOnce n order → ⊥
too_large n order i d l large names = omega (arith, names.below i d l)

-- An order of another length than n doesn't name each number below n once.
pub of_other_length : (n : ℕ) (order : List ℕ) → (length order ≡ n → ⊥) → NamesOnce n order → ⊥
of_other_length n order other names = other (length-names_once n order names)

-- one element more adds one to how often it stands there
pub times_more : (k : ℕ) (xs : List ℕ) (i d : ℕ) → i < length xs → times k (take (i + 1) xs) ≡ times k (take i xs) + cond (nat_eq k (get_or xs i d)) 1 0
times_more k xs i d l = sum_by_more (λ x. cond (nat_eq k x) 1 0) xs i d l

-- the first elements have a number no more often than all
pub times-take : (k : ℕ) (xs : List ℕ) (i : ℕ) → times k (take i xs) ≤ times k xs
times-take k xs i = sum_by-take-le (λ x. cond (nat_eq k x) 1 0) xs i

-- no number stands twice in a list whose elements differ
pub apart_from : (xs : List ℕ) → ((i j d : ℕ) → i < j → j < length xs → get_or xs i d ≡ get_or xs j d → ⊥) → (k : ℕ) → times k xs ≤ 1
apart_from [] differ k = omega arith
apart_from (x ∷ xs) differ k =
    by_test (nat_eq k x)
    (λ here. omega (arith, times_here k x xs here, never k xs (λ i d l. let other : get_or xs i d ≡ x → ⊥ = λ e. differ 0 (suc i) d (omega arith) (omega arith) (sym e) in grind (arith, nat_tests))))
    (λ there. omega (arith, times_there k x xs there, apart_from xs (λ i j d l m. differ (suc i) (suc j) d (omega arith) (omega arith)) k))
