-- Orders that name each number once: what is taken in such an order, and how far a loop over it has come.
use Rattle.std.proofs.Common.{◌≡◌, ℕ, zero, suc, ◌+◌, ◌*◌, ◌<◌, ◌≤◌, List, [], ◌∷◌, ◌++◌, false, cond, Option, Some, None, option_and_then, All, refl, sym, ap, ◌∙◌, arith, length, map, take, drop, get_or, zero-add}
use Rattle.std.specs.Prelude.{nat_eq, slice_get}
use Rattle.std.specs.List.{sum_by, flat_map}
use Rattle.std.specs.Option.{option_to_list}
use Rattle.std.proofs.lemmas.Bool.Decides.{nat_tests}
use Rattle.std.proofs.lemmas.Grind.{flat_map-append}
use Rattle.std.proofs.lemmas.List.{take-append-drop, map-append}
use Rattle.std.proofs.lemmas.List.Elements.{All-head, All-tail}
use Rattle.std.proofs.lemmas.List.Sums.{sum_by-cons, sum_by-append}
use Rattle.std.proofs.lemmas.Option.{slice_get-map}
use Rattle.std.proofs.lemmas.Grind.{common_steps}
use Rattle.redis_cluster.specs.Orders.{times, NamesOnce, in_order}
use Rattle.redis_cluster.proofs.Counts.{same_number, times-append, times_push, once_times}

-- the sum of a function's values at the numbers below n
abbrev pub below : ℕ → (ℕ → ℕ) → ℕ
below zero f = 0
below (suc n) f = f 0 + below n (λ k. f (suc k))

-- functions that agree below n have one sum
pub below_same : (n : ℕ) (f g : ℕ → ℕ) → ((k : ℕ) → k < n → f k ≡ g k) → below n f ≡ below n g
below_same zero f g e = refl
below_same (suc n) f g e = omega (arith, e 0 (omega arith), below_same n (λ k. f (suc k)) (λ k. g (suc k)) (λ k l. e (suc k) (omega arith)))

-- a sum of two functions is the sum of both sums
below_plus : (n : ℕ) (f g : ℕ → ℕ) → below n (λ k. f k + g k) ≡ below n f + below n g
below_plus zero f g = refl
below_plus (suc n) f g = omega (arith, below_plus n (λ k. f (suc k)) (λ k. g (suc k)))

-- a function that is 0 below n has the sum 0
below_none : (n : ℕ) (f : ℕ → ℕ) → ((k : ℕ) → k < n → f k ≡ 0) → below n f ≡ 0
below_none zero f e = refl
below_none (suc n) f e = omega (arith, e 0 (omega arith), below_none n (λ k. f (suc k)) (λ k l. e (suc k) (omega arith)))

-- a function that is 0 at each number but one has its value there as its sum
below_one : (n k w : ℕ) (f : ℕ → ℕ) → k < n → f k ≡ w → ((j : ℕ) → (nat_eq j k ≡ false) → f j ≡ 0) → below n f ≡ w
below_one zero k w f l e none = absurd (omega arith)
below_one (suc n) zero w f l e none = omega (arith, e, below_none n (λ j. f (suc j)) (λ j l. none (suc j) (grind (arith, nat_tests))))
below_one (suc n) (suc k) w f l e none = omega (arith, none 0 (grind (arith, nat_tests)), below_one n k w (λ j. f (suc j)) (omega arith) e (λ j d. none (suc j) (grind (arith, nat_tests))))

-- one number more adds the function's value there
weighed : (f : ℕ → ℕ) (k : ℕ) (order : List ℕ) (j : ℕ) → times j (k ∷ order) * f j ≡ cond (nat_eq j k) (f k) 0 + times j order * f j
weighed f k order j = grind (arith, common_steps)

-- a sum over a list of numbers below n, by how often each stands there
pub sum_by_times : (f : ℕ → ℕ) (n : ℕ) (order : List ℕ) → All (λ k. k < n) order → sum_by f order ≡ below n (λ j. times j order * f j)
sum_by_times f n [] l = sym (below_none n (λ j. times j [] * f j) (λ j h. omega arith))
sum_by_times f n (k ∷ order) l =
    sum_by-cons f k order
    ∙ ap (λ s. f k + s) (sum_by_times f n order (λ i d h. l (suc i) d (omega arith)))
    ∙ ap (λ s. s + below n (λ j. times j order * f j)) (sym (below_one n k (f k) (λ j. cond (nat_eq j k) (f k) 0) (l 0 0 (omega arith)) (ap (λ b. cond b (f k) 0) (same_number k)) (λ j d. ap (λ b. cond b (f k) 0) d)))
    ∙ sym (below_plus n (λ j. cond (nat_eq j k) (f k) 0) (λ j. times j order * f j))
    ∙ sym (below_same n _ _ (λ j h. weighed f k order j))

-- a sum over a list is a sum over its places
below_list : {X : Type 0} (f : X → ℕ) (xs : List X) → below (length xs) (λ k. sum_by f (option_to_list (slice_get xs k))) ≡ sum_by f xs
below_list f [] = refl
below_list f (x ∷ xs) = ap (λ s. 0 + f x + s) (below_list f xs) ∙ ap (λ s. s + sum_by f xs) (zero-add (f x)) ∙ sym (sum_by-cons f x xs)

-- a sum over pieces is the sum of the sums over each
pub sum-flat_map : {X Y : Type 0} (f : Y → ℕ) (h : X → List Y) (xs : List X) → sum_by f (flat_map h xs) ≡ sum_by (λ x. sum_by f (h x)) xs
sum-flat_map f h [] = refl
sum-flat_map f h (x ∷ xs) = sum_by-append f (h x) (flat_map h xs) ∙ ap (λ s. sum_by f (h x) + s) (sum-flat_map f h xs) ∙ sym (sum_by-cons (λ y. sum_by f (h y)) x xs)

-- What is taken in an order that names each place once has the same sums.
pub sum-in_order : {X : Type 0} (f : X → ℕ) (xs : List X) (order : List ℕ) → NamesOnce (length xs) order → sum_by f (in_order xs order) ≡ sum_by f xs
sum-in_order f xs order names =
    let g : ℕ → ℕ = λ k. sum_by f (option_to_list (slice_get xs k)) in
    sum-flat_map f (λ k. option_to_list (slice_get xs k)) order
    ∙ sum_by_times g (length xs) order names.below
    ∙ below_same (length xs) (λ j. times j order * g j) g (λ j h. ap (λ t. t * g j) (names.once j h) ∙ once_times (g j))
    ∙ below_list f xs

-- the values of a function may be taken before or after the order
pub map-in_order : {X Y : Type 0} (f : X → Y) (xs : List X) (order : List ℕ) → map f (in_order xs order) ≡ in_order (map f xs) order
map-in_order f xs [] = refl
map-in_order f xs (k ∷ order) = grind (arith, common_steps, map-append, slice_get-map, map-in_order f xs order)

-- a number stands as often in another order
pub times-in_order : (n : ℕ) (xs order : List ℕ) → NamesOnce (length xs) order → times n (in_order xs order) ≡ times n xs
times-in_order n xs order names = sum-in_order (λ x. cond (nat_eq n x) 1 0) xs order names

-- an element of a list is there
there_within : {X : Type 0} (xs : List X) (k : ℕ) → k < length xs → slice_get xs k ≡ None → ⊥
there_within [] k l e = absurd (omega arith)
there_within (x ∷ xs) zero l e = cc
there_within (x ∷ xs) (suc k) l e = there_within xs k (omega arith) e

-- the j-th element taken is the one at the j-th place
pub get-in_order : {X : Type 0} (xs : List X) (order : List ℕ) → All (λ k. k < length xs) order → (j : ℕ)
    → slice_get (in_order xs order) j ≡ option_and_then (λ k. slice_get xs k) (slice_get order j)
get-in_order xs [] small j = refl
get-in_order xs (k ∷ order) small j = one (slice_get xs k) refl (get-in_order xs order (All-tail (λ n. n < length xs) k order small)) j
  where
    one : (o : Option _) → slice_get xs k ≡ o
        → ((i : ℕ) → slice_get (in_order xs order) i ≡ option_and_then (λ n. slice_get xs n) (slice_get order i)) → (i : ℕ)
        → slice_get (option_to_list o ++ in_order xs order) i ≡ option_and_then (λ n. slice_get xs n) (slice_get (k ∷ order) i)
    one None e rest i = absurd (there_within xs k (All-head (λ n. n < length xs) k order small) e)
    one (Some x) e rest zero = sym e
    one (Some x) e rest (suc i) = rest i

-- as many are taken as there are places
pub length-in_order : {X : Type 0} (xs : List X) (order : List ℕ) → All (λ k. k < length xs) order → length (in_order xs order) ≡ length order
length-in_order xs [] small = refl
length-in_order xs (k ∷ order) small = one (slice_get xs k) refl (length-in_order xs order (All-tail (λ n. n < length xs) k order small))
  where
    one : (o : Option _) → slice_get xs k ≡ o → length (in_order xs order) ≡ length order → length (option_to_list o ++ in_order xs order) ≡ suc (length order)
    one None e rest = absurd (there_within xs k (All-head (λ n. n < length xs) k order small) e)
    one (Some x) e rest = ap suc rest

-- at some places and then others, what is taken at both
pub in_order-append : {X : Type 0} (xs : List X) (us vs : List ℕ) → in_order xs (us ++ vs) ≡ in_order xs us ++ in_order xs vs
in_order-append xs us vs = flat_map-append (λ k. option_to_list (slice_get xs k)) us vs

-- one place more adds its element at the end
pub in_order_more : {X : Type 0} (xs : List X) (order : List ℕ) (i k : ℕ) (x : X) → i < length order → k ≡ get_or order i 0
    → slice_get xs k ≡ Some x → in_order xs (take (i + 1) order) ≡ in_order xs (take i order) ++ x ∷ []
in_order_more xs order i k x within at is = grind (arith, common_steps)

-- all that is taken is what was taken so far, and then what is left
pub in_order_split : {X : Type 0} (xs : List X) (order : List ℕ) (i : ℕ) → in_order xs order ≡ in_order xs (take i order) ++ in_order xs (drop i order)
in_order_split xs order i = ap (in_order xs) (sym (take-append-drop i order)) ∙ in_order-append xs (take i order) (drop i order)

-- a number that stands at most once in a list does so among those taken so far
pub apart_front : (xs order : List ℕ) (i n : ℕ) → NamesOnce (length xs) order → times n xs ≤ 1 → times n (in_order xs (take i order)) ≤ 1
apart_front xs order i n names apart = grind (arith, common_steps, in_order_split xs order i, times-append n (in_order xs (take i order)) (in_order xs (drop i order)), times-in_order n xs order names)

-- The number that comes next was not taken before, where none stands twice.
pub not_before : (xs order : List ℕ) (i k x : ℕ) → NamesOnce (length xs) order → ((n : ℕ) → times n xs ≤ 1) → i < length order
    → k ≡ get_or order i 0 → slice_get xs k ≡ Some x → times x (in_order xs (take i order)) ≡ 0
not_before xs order i k x names apart within at is = grind (arith, common_steps, in_order_more xs order i k x within, times_push x (in_order xs (take i order)), apart_front xs order (i + 1) x names (apart x))
