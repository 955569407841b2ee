-- One array of the items of the parts, in the order of the keys, is what the command combines.
use Rattle.std.proofs.Common.{◌≡◌, ℕ, suc, ◌<◌, ◌≤◌, List, [], ◌∷◌, inl, inr, Some, length, get_or, refl, sym, ap, ◌∙◌, arith}
use Rattle.std.proofs.lemmas.Grind.{common_steps}
use Rattle.std.specs.Prelude.{nat_eq, slice_get}
use Rattle.std.specs.List.{AllZip}
use Rattle.std.proofs.lemmas.Bool.{cases_lt, eq-eqb, eqb-false, eqb-true, ne_eqb}
use Rattle.std.proofs.lemmas.List.{length-map}
use Rattle.std.proofs.lemmas.Option.{get_or_from_slice_get, same_Some, slice_get_within}
use Rattle.resp_core.specs.Reply.{Reply, array, array_of, replies_of}
use Rattle.resp_core.proofs.Cases.{by_test}
use Rattle.resp_core.proofs.Views.{items_in-replies_of}
use Rattle.cluster_slots.specs.KeySlot.{key_slot}
use Rattle.redis_combiners.specs.ByPlaces.{items_of_index}
use Rattle.redis_routing.specs.Split.{Split, IsSplit, slots_of}
use Rattle.redis_routing.specs.declared.policy.ResponsePolicy.TheVariants.{CombineArrays}
use Rattle.redis_cluster.specs.Joined.{AreMerged}
use Rattle.redis_cluster.specs.MultiKey.{KeyTuple, list, form_by_policy}
use Rattle.redis_cluster.specs.Orders.{times}
use Rattle.redis_cluster.specs.Plan.{tuples_in_split}
use Rattle.redis_cluster.specs.SlotItems.{items_of_slot}
use Rattle.redis_cluster.proofs.Once.{twice}
use Rattle.redis_cluster.proofs.SplitTuples.{is_split_to}
use Rattle.redis_bytes.specs.Merged.{ArePlaces, IsOneArray, arrays_of}
use Rattle.redis_bytes.specs.Replies.{AreCombined}

-- a number that stands in a list once at most has one place there
module _ (slots : List ℕ) (apart : (n : ℕ) → times n slots ≤ 1) where
  not_later : (i j slot : ℕ) → i < j → slice_get slots i ≡ Some slot → slice_get slots j ≡ Some slot → ⊥
  not_later i j slot before at too =
      let first = get_or_from_slice_get slots i slot 0 at in
      let same : get_or slots i 0 ≡ get_or slots j 0 = first ∙ sym (get_or_from_slice_get slots j slot 0 too) in
      omega (arith, twice slots i j 0 before (slice_get_within slots j slot too) same, apart (get_or slots i 0))

  pub one_place : (i j slot : ℕ) → slice_get slots i ≡ Some slot → slice_get slots j ≡ Some slot → i ≡ j
  one_place i j slot at too = elim (cases_lt i j) as (λ _. i ≡ j) [
    | inl before ↦ absurd (not_later i j slot before at too)
    | inr other ↦ elim (cases_lt j i) as (λ _. i ≡ j) [ inl after ↦ absurd (not_later j i slot after too at) | inr same ↦ omega (arith, other, same) ]
  ]

  -- a key has the place of a number if it has the number's slot
  pub same_test : (number slot place own : ℕ) → slice_get slots number ≡ Some slot → slice_get slots place ≡ Some own → nat_eq place number ≡ nat_eq own slot
  same_test number slot place own is at = grind (arith, common_steps, by_test, eqb-true, eq-eqb, same_Some, ne_eqb, eqb-false, one_place)

  -- the items of a slot are those at the places of its number
  items_by_number : (number slot : ℕ) → slice_get slots number ≡ Some slot → (places : List ℕ) (ts : List KeyTuple) (values : List Reply)
      → AllZip (λ place t. slice_get slots place ≡ Some (key_slot t.key)) places ts → length values ≡ length places → items_of_index number places values ≡ items_of_slot slot ts values
  items_by_number number slot is [] [] [] are same = refl
  items_by_number number slot is [] [] (v ∷ values) are same = absurd (omega (arith, same))
  items_by_number number slot is [] (t ∷ ts) values are same = absurd are
  items_by_number number slot is (p ∷ places) [] values are same = absurd are
  items_by_number number slot is (p ∷ places) (t ∷ ts) [] are same = absurd (omega (arith, same))
  items_by_number number slot is (p ∷ places) (t ∷ ts) (v ∷ values) are same = grind (arith, common_steps, same_test, by_test, items_by_number number slot is places ts values are.1 (omega (arith, same)))

-- arrays of the items of slots, slot by slot
arrays_at : (f : ℕ → List Reply) (slots : List ℕ) (lists : List (List Reply)) → length lists ≡ length slots
    → ((number slot : ℕ) → slice_get slots number ≡ Some slot → get_or lists number [] ≡ f slot) → AllZip (λ slot reply. array_of reply ≡ Some (f slot)) slots (arrays_of lists)
arrays_at f [] [] same each = tt
arrays_at f [] (xs ∷ lists) same each = absurd (omega (arith, same))
arrays_at f (s ∷ slots) [] same each = absurd (omega (arith, same))
arrays_at f (s ∷ slots) (xs ∷ lists) same each = (
  ap Some (items_in-replies_of xs ∙ each 0 s refl),
  arrays_at f slots lists (omega (arith, same)) (λ number slot is. each (suc number) slot is),
)

pub length_of_zip : {X Y : Type 0} (R : X → Y → Type 0) (xs : List X) (ys : List Y) → AllZip R xs ys → length xs ≡ length ys
length_of_zip R [] [] are = refl
length_of_zip R [] (y ∷ ys) are = absurd are
length_of_zip R (x ∷ xs) [] are = absurd are
length_of_zip R (x ∷ xs) (y ∷ ys) are = omega (arith, length_of_zip R xs ys are.1)

-- The one array is that of the command.
pub one_array_combined : (split : Split) → IsSplit split → split.policy ≡ CombineArrays → (places : List ℕ) → ArePlaces split places → (bytes combined : List ℕ)
    → IsOneArray (length split.routes) places bytes combined → AreCombined split bytes combined
one_array_combined split held policy places are bytes combined one =
    let slots = slots_of split.routes in
    let ts = tuples_in_split split in
    let values = one.values in
    let to = is_split_to split held in
    let many : length slots ≡ length split.routes = length-map split.routes (λ r. r.0.slot) in
    let as_many : length (arrays_of one.lists) ≡ length split.routes = length-map one.lists (λ items. array (replies_of items)) ∙ one.all in
    let merged : AreMerged ts slots (arrays_of one.lists) values = record {
      each = one.each ∙ length_of_zip (λ place t. slice_get slots place ≡ Some (key_slot t.key)) places ts are;
      of_slots = arrays_at (λ slot. items_of_slot slot ts values) slots one.lists (one.all ∙ sym many) (λ number slot is.
          sym (one.of_lists number (omega (arith, slice_get_within slots number slot is, many)))
          ∙ items_by_number slots to.apart number slot is places ts values are one.each);
    } in
    record {
      replies = arrays_of one.lists;
      answered = record { all = as_many; are = one.are };
      one = array (replies_of values);
      made = record { each = as_many; form = list; form_is = ap form_by_policy policy; outcome_is = (values, merged, refl) };
      written = one.written;
    }
