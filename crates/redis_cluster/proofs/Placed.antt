-- The numbers of all slots share out the tuples, so what the parts add to the reply is what the whole command adds.
use Rattle.std.proofs.Common.{◌≡◌, ℕ, zero, suc, ◌+◌, ◌<◌, ◌≤◌, List, [], ◌∷◌, true, cond, Some, option_and_then, All, sym, ap, ◌∙◌, arith, length, map, get_or}
use Rattle.std.specs.Prelude.{nat_eq, slice_get}
use Rattle.std.specs.List.{flat_map}
use Rattle.std.proofs.lemmas.Bool.{eqb-true}
use Rattle.std.proofs.lemmas.List.{same_lists}
use Rattle.std.proofs.lemmas.List.Elements.{All-nil, All-append}
use Rattle.std.proofs.lemmas.Option.{same_Some, slice_get-get_or}
use Rattle.std.proofs.lemmas.Grind.{common_steps}
use Rattle.resp_core.proofs.Cases.{by_test}
use Rattle.redis_cluster.specs.MultiKey.{KeyTuple}
use Rattle.redis_cluster.specs.Unsplit.{TupleResult}
use Rattle.redis_cluster.specs.Orders.{times, NamesOnce, in_order}
use Rattle.redis_cluster.specs.SlotItems.{items_of_slot}
use Rattle.redis_cluster.proofs.Counts.{same_number, times_there, sum_alike}
use Rattle.redis_cluster.proofs.Fold.{NamesSlots}
use Rattle.redis_cluster.proofs.Orders.{sum-flat_map, map-in_order, get-in_order}
use Rattle.redis_cluster.proofs.Places.{numbers_from, numbers_of_slot, slot_at, times-numbers, items_of_slot_is}

-- the slot of a tuple is named once
pub named_at : (slots : List ℕ) (ts : List KeyTuple) (k : ℕ) (d : KeyTuple) → NamesSlots slots ts → k < length ts → times (slot_at ts k d) slots ≡ 1
named_at slots [] k d named l = absurd (omega arith)
named_at slots (t ∷ ts) zero d named l = named.0
named_at slots (t ∷ ts) (suc k) d named l = named_at slots ts k d named.1 (omega arith)

-- numbers that are counted on stay below where the count ends
within : (n slot : ℕ) (ts : List KeyTuple) (m : ℕ) → n + length ts ≤ m → All (λ k. k < m) (numbers_from slot n ts)
within n slot [] m l = All-nil (λ k. k < m)
within n slot (t ∷ ts) m l = grind (arith, common_steps, within (n + 1) slot ts m (omega arith))

-- a slot's numbers are numbers of tuples
pub numbers_within : (slot : ℕ) (ts : List KeyTuple) → All (λ k. k < length ts) (numbers_of_slot slot ts)
numbers_within slot ts = within 0 slot ts (length ts) (omega arith)

-- the numbers of all slots are numbers of tuples
all_within : (slots : List ℕ) (ts : List KeyTuple) → All (λ k. k < length ts) (flat_map (λ slot. numbers_of_slot slot ts) slots)
all_within [] ts = All-nil (λ k. k < length ts)
all_within (slot ∷ slots) ts = All-append (λ k. k < length ts) (numbers_of_slot slot ts) (flat_map (λ s. numbers_of_slot s ts) slots) (numbers_within slot ts) (all_within slots ts)

-- The numbers of all slots, one list after the other, name the number of each tuple once.
pub numbers_share_out : (slots : List ℕ) (ts : List KeyTuple) → NamesSlots slots ts → NamesOnce (length ts) (flat_map (λ slot. numbers_of_slot slot ts) slots)
numbers_share_out slots ts named = record {
  below = all_within slots ts;
  once = λ k l.
      let d : KeyTuple = record { key = []; extras = [] } in
      sum-flat_map (λ x. cond (nat_eq k x) 1 0) (λ slot. numbers_of_slot slot ts) slots
      ∙ sum_alike (λ slot. times k (numbers_of_slot slot ts)) (λ slot. cond (nat_eq (slot_at ts k d) slot) 1 0) (λ slot. times-numbers k slot d ts l) slots
      ∙ named_at slots ts k d named l;
}

-- a number that a list has stands at some place
pub stands_at : (n : ℕ) (xs : List ℕ) → 0 < times n xs → (i : ℕ) × (slice_get xs i ≡ Some n)
stands_at n [] some = absurd (omega arith)
stands_at n (x ∷ xs) some =
    by_test (nat_eq n x)
    (λ here. (0, ap Some (sym (eqb-true n x here))))
    (λ there. let rest = stands_at n xs (omega (arith, times_there n x xs there)) in (suc rest.0, rest.1))

-- the number of each tuple stands among those of its slot
pub number_stands : (ts : List KeyTuple) (k : ℕ) (d : KeyTuple) → k < length ts → (j : ℕ) × (slice_get (numbers_of_slot (slot_at ts k d) ts) j ≡ Some k)
number_stands ts k d l =
    let s = slot_at ts k d in
    let own : nat_eq s s ≡ true = same_number s in
    let once : times k (numbers_of_slot s ts) ≡ 1 = times-numbers k s d ts l ∙ ap (λ b. cond b 1 0) own in
    stands_at k (numbers_of_slot s ts) (omega arith)

-- a function of the results of a slot is that function of all results, at the slot's numbers
pub map-items_of_slot : {X : Type 0} (f : TupleResult → X) (slot : ℕ) (ts : List KeyTuple) (rs : List TupleResult) → length rs ≡ length ts
    → map f (items_of_slot slot ts rs) ≡ in_order (map f rs) (numbers_of_slot slot ts)
map-items_of_slot f slot ts rs l = ap (map f) (items_of_slot_is slot ts rs l) ∙ map-in_order f rs (numbers_of_slot slot ts)

-- the j-th of what stands at the numbers of a slot stands at its j-th number
at_number : {X : Type 0} (xs : List X) (slot : ℕ) (ts : List KeyTuple) (j k : ℕ) → length xs ≡ length ts
    → slice_get (numbers_of_slot slot ts) j ≡ Some k → slice_get (in_order xs (numbers_of_slot slot ts)) j ≡ slice_get xs k
at_number xs slot ts j k l is = grind (arith, get-in_order, numbers_of_slot, numbers_within, option_and_then)

-- Lists of one element for each tuple are the same if they agree at the numbers of each slot that is named.
pub same_at_numbers : {X : Type 0} (slots : List ℕ) (ts : List KeyTuple) (xs ys : List X) → length xs ≡ length ts → length ys ≡ length ts → NamesSlots slots ts
    → ((slot : ℕ) → times slot slots ≡ 1 → in_order xs (numbers_of_slot slot ts) ≡ in_order ys (numbers_of_slot slot ts)) → xs ≡ ys
same_at_numbers slots ts xs ys l m named agree =
    let d : KeyTuple = record { key = []; extras = [] } in
    same_lists xs ys (omega arith) (λ k c h.
    let short : k < length ts = omega arith in
    let s = slot_at ts k d in
    let place = number_stands ts k d short in
    let same : slice_get xs k ≡ slice_get ys k =
    sym (at_number xs s ts place.0 k l place.1) ∙ ap (λ zs. slice_get zs place.0) (agree s (named_at slots ts k d named short)) ∙ at_number ys s ts place.0 k m place.1 in
    same_Some (get_or xs k c) (get_or ys k c) (sym (slice_get-get_or xs k c h) ∙ same ∙ slice_get-get_or ys k c (omega arith)))
