-- The tuples of a slot by their numbers, counted from 0: which items are theirs, and that each number is one of its own slot alone.
use Rattle.std.proofs.Common.{◌≡◌, ℕ, zero, suc, ◌+◌, ◌<◌, List, [], ◌∷◌, ◌++◌, true, cond, Some, Less, refl, sym, ap, ◌∙◌, arith, length, get_or}
use Rattle.std.specs.Prelude.{nat_eq, slice_get}
use Rattle.std.specs.List.{AllByRecursion}
use Rattle.std.specs.List.Sorted.{IsStrictlySortedBy}
use Rattle.std.specs.Ordering.{nat_cmp}
use Rattle.std.specs.Option.{option_to_list}
use Rattle.std.proofs.lemmas.Bool.Decides.{nat_tests}
use Rattle.std.proofs.lemmas.Grind.{common_steps}
use Rattle.cluster_slots.specs.KeySlot.{key_slot}
use Rattle.resp_core.proofs.Cases.{by_test}
use Rattle.redis_cluster.specs.MultiKey.{KeyTuple, tuples_of_slot}
use Rattle.redis_cluster.specs.Orders.{times, in_order}
use Rattle.redis_cluster.specs.SlotItems.{items_of_slot}
use Rattle.redis_cluster.proofs.Counts.{times_here}

-- the numbers of the tuples whose key has the slot, where the first tuple has this number
abbrev pub numbers_from : ℕ → ℕ → List KeyTuple → List ℕ
numbers_from slot number [] = []
numbers_from slot number (t ∷ ts) = cond (nat_eq (key_slot t.key) slot) (number ∷ numbers_from slot (number + 1) ts) (numbers_from slot (number + 1) ts)

-- the numbers of a slot's tuples
abbrev pub numbers_of_slot : ℕ → List KeyTuple → List ℕ
numbers_of_slot slot ts = numbers_from slot 0 ts

-- the slot of a tuple by its number
abbrev pub slot_at : List KeyTuple → ℕ → KeyTuple → ℕ
slot_at ts k d = key_slot (get_or ts k d).key

-- an element at the first place comes first
taken_here : {X : Type 0} (all : List X) (n : ℕ) (x : X) (rest : List ℕ) → slice_get all n ≡ Some x → in_order all (n ∷ rest) ≡ x ∷ in_order all rest
taken_here all n x rest is = ap (λ o. option_to_list o ++ in_order all rest) is

-- the items of a slot, where the first is number n of all
items_of_slot_from : {X : Type 0} (all rs : List X) (n slot : ℕ) (ts : List KeyTuple) → length rs ≡ length ts
    → ((k : ℕ) → slice_get all (n + k) ≡ slice_get rs k) → items_of_slot slot ts rs ≡ in_order all (numbers_from slot n ts)
items_of_slot_from all rs n slot [] l at = refl
items_of_slot_from all [] n slot (t ∷ ts) l at = absurd (omega arith)
items_of_slot_from all (r ∷ rs) n slot (t ∷ ts) l at =
    let first : slice_get all n ≡ Some r = ap (slice_get all) (omega arith) ∙ at 0 in
    let rest : items_of_slot slot ts rs ≡ in_order all (numbers_from slot (n + 1) ts) = items_of_slot_from all rs (n + 1) slot ts (omega arith) (λ k. ap (slice_get all) (omega arith) ∙ at (suc k)) in
    by_test (nat_eq (key_slot t.key) slot)
    (λ here. rw here (ap (λ xs. r ∷ xs) rest ∙ sym (taken_here all n r (numbers_from slot (n + 1) ts) first)))
    (λ there. rw there rest)

-- The items of a slot are those at the numbers of its tuples.
pub items_of_slot_is : {X : Type 0} (slot : ℕ) (ts : List KeyTuple) (rs : List X) → length rs ≡ length ts → items_of_slot slot ts rs ≡ in_order rs (numbers_of_slot slot ts)
items_of_slot_is slot ts rs l = items_of_slot_from rs rs 0 slot ts l (λ k. ap (slice_get rs) (omega arith))

-- as many numbers are counted on as the slot has tuples
length-numbers : (n slot : ℕ) (ts : List KeyTuple) → length (numbers_from slot n ts) ≡ length (tuples_of_slot slot ts)
length-numbers n slot [] = refl
length-numbers n slot (t ∷ ts) = grind (arith, common_steps, length-numbers (n + 1) slot ts)

-- a slot has as many numbers as tuples
pub length-numbers_of_slot : (slot : ℕ) (ts : List KeyTuple) → length (numbers_of_slot slot ts) ≡ length (tuples_of_slot slot ts)
length-numbers_of_slot slot ts = length-numbers 0 slot ts

-- a slot has as many items as tuples
pub length-items_of_slot : {X : Type 0} (slot : ℕ) (ts : List KeyTuple) (rs : List X) → length rs ≡ length ts → length (items_of_slot slot ts rs) ≡ length (tuples_of_slot slot ts)
length-items_of_slot slot [] rs l = refl
length-items_of_slot slot (t ∷ ts) [] l = absurd (omega arith)
length-items_of_slot slot (t ∷ ts) (r ∷ rs) l = grind (arith, common_steps, length-items_of_slot slot ts rs (omega arith))

-- numbers counted on from n lie above those below n
above : (x n slot : ℕ) (ts : List KeyTuple) → x < n → AllByRecursion (λ y. nat_cmp x y ≡ Less) (numbers_from slot n ts)
above x n slot [] under = tt
above x n slot (t ∷ ts) under = grind (arith, common_steps, above x (n + 1) slot ts (omega arith))

-- numbers counted on ascend
ascending : (n slot : ℕ) (ts : List KeyTuple) → IsStrictlySortedBy nat_cmp (numbers_from slot n ts)
unfolding IsStrictlySortedBy
ascending n slot [] = tt
ascending n slot (t ∷ ts) =
    by_test (nat_eq (key_slot t.key) slot)
    (λ here. rw here (above n (n + 1) slot ts (omega arith), ascending (n + 1) slot ts))
    (λ there. rw there (ascending (n + 1) slot ts))

-- a number below the first is not counted on to
times_below : (k n slot : ℕ) (ts : List KeyTuple) → k < n → times k (numbers_from slot n ts) ≡ 0
times_below k n slot [] l = refl
times_below k n slot (t ∷ ts) l = grind (arith, common_steps, times_below k (n + 1) slot ts (omega arith))

-- a number that is counted on to is among them once, if the tuple has the slot
times_from : (n k slot : ℕ) (d : KeyTuple) (ts : List KeyTuple) → k < length ts
    → times (n + k) (numbers_from slot n ts) ≡ cond (nat_eq (slot_at ts k d) slot) 1 0
times_from n k slot d [] l = absurd (omega arith)
times_from n zero slot d (t ∷ ts) l =
    let none : times (n + 0) (numbers_from slot (n + 1) ts) ≡ 0 = times_below (n + 0) (n + 1) slot ts (omega arith) in
    let same : nat_eq (n + 0) n ≡ true = grind (arith, nat_tests) in
    by_test (nat_eq (key_slot t.key) slot)
    (λ here. rw here (times_here (n + 0) n (numbers_from slot (n + 1) ts) same ∙ ap (λ c. 1 + c) none))
    (λ there. rw there none)
times_from n (suc k) slot d (t ∷ ts) l = grind (arith, common_steps, times_from (n + 1) k slot d ts (omega arith))

-- A tuple's number stands once among those of its own slot, and never among those of another.
pub times-numbers : (k slot : ℕ) (d : KeyTuple) (ts : List KeyTuple) → k < length ts
    → times k (numbers_of_slot slot ts) ≡ cond (nat_eq (slot_at ts k d) slot) 1 0
times-numbers k slot d ts l = ap (λ m. times m (numbers_of_slot slot ts)) (omega arith) ∙ times_from 0 k slot d ts l
