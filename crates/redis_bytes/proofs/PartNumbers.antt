-- The number of the part of each key, as it is put list by list.
use Rattle.std.proofs.Common.{◌≡◌, ℕ, zero, suc, ◌+◌, ◌*◌, ◌/◌, ◌%◌, ◌<◌, ◌≤◌, List, [], ◌∷◌, true, false, cond, All, Option, Some, None, Vec, Global, length, map, get_or, take, refl, sym, ap, subst, ◌∙◌, arith, slice_index, eqb, get_or-set_same, get_or-set_other}
use Rattle.std.proofs.lemmas.Grind.{common_steps}
use Rattle.std.proofs.Math.ListN.{set}
use Rattle.std.specs.Prelude.{nat_eq, slice_get, option_and_then}
use Rattle.std.specs.List.{AllZip, flat_map, sum_by}
use Rattle.std.proofs.lemmas.Bool.{ne_eqb, eqb-true, eqb-false}
use Rattle.std.proofs.lemmas.Bool.Decides.{nat_tests}
use Rattle.std.proofs.lemmas.List.{length-append, length-map}
use Rattle.std.proofs.lemmas.List.FromFn.{get_or-map-range_with_len}
use Rattle.std.proofs.lemmas.List.Elements.{All-head, All-tail}
use Rattle.std.proofs.lemmas.List.Sums.{sum_by-cons}
use Rattle.std.proofs.lemmas.Option.{none-some, same_Some, slice_get_within}
use Rattle.resp_core.proofs.Cases.{by_test}
use Rattle.cluster_slots.specs.ArgPattern.{width_of}
use Rattle.cluster_slots.specs.KeySlot.{key_slot}
use Rattle.cluster_slots.specs.SlotRoute.{SlotRoute}
use Rattle.cluster_slots.specs.declared.arg_pattern.MultiSlotArgPattern.{MultiSlotArgPattern}
use Rattle.redis_combiners.specs.KeyPlaces.{own_arguments, places, tuple_places}
use Rattle.redis_combiners.proofs.KeyPlaces.{heads, length-heads, places_are}
use Rattle.redis_routing.specs.RoutingInfo.{route_list, route_lists}
use Rattle.redis_routing.specs.Split.{Split, IsSplit, slots_of}
use Rattle.redis_cluster.specs.MultiKey.{KeyTuple}
use Rattle.redis_cluster.specs.Orders.{times}
use Rattle.redis_cluster.specs.Plan.{tuples_in_split}
use Rattle.redis_cluster.proofs.Fold.{NamesSlots}
use Rattle.redis_cluster.proofs.Once.{length-names_once, times_more}
use Rattle.redis_cluster.proofs.Placed.{named_at, numbers_share_out, stands_at}
use Rattle.redis_cluster.proofs.Places.{numbers_of_slot, slot_at, times-numbers}
use Rattle.redis_cluster.proofs.PlacesOfKeys.{places_of_keys}
use Rattle.redis_cluster.proofs.SplitPlaces.{places_of_part}
use Rattle.redis_cluster.proofs.SplitTuples.{is_split_to}
use Rattle.redis_bytes.proofs.Combined.{one_place}

-- ---- the keys of one list

-- the keys of a list are those of its own part, tuple by tuple
pub record AreKeys (pattern : MultiSlotArgPattern) (list keys : List ℕ) : Type 0 where
  pub own : List ℕ
  pub own_is : own_arguments pattern list ≡ Some own
  pub keys_are : keys ≡ heads (width_of pattern) own (length own / width_of pattern)

by_own : (pattern : MultiSlotArgPattern) (list own keys : List ℕ) → own_arguments pattern list ≡ Some own → tuple_places (width_of pattern) own ≡ Some keys → AreKeys pattern list keys
by_own pattern list own keys is found =
    let w = width_of pattern in
    by_test (eqb (length own % w) 0)
    (λ whole.
    let at : places pattern list ≡ Some keys = ap (option_and_then (tuple_places w)) is ∙ found in
    record {
      own = own;
      own_is = is;
      keys_are = same_Some keys (heads w own (length own / w)) (sym at ∙ places_are pattern list own w refl (sym is) (eqb-true (length own % w) 0 whole));
    })
    (λ broken. absurd (none-some keys (rw broken at found)))

by_option : (pattern : MultiSlotArgPattern) (list keys : List ℕ) (own : Option (List ℕ)) → own_arguments pattern list ≡ own → option_and_then (tuple_places (width_of pattern)) own ≡ Some keys → AreKeys pattern list keys
by_option pattern list keys None is found = absurd (none-some keys found)
by_option pattern list keys (Some own) is found = by_own pattern list own keys is found

pub are_keys : (pattern : MultiSlotArgPattern) (list keys : List ℕ) → places pattern list ≡ Some keys → AreKeys pattern list keys
are_keys pattern list keys is = by_option pattern list keys (own_arguments pattern list) refl is

pub key_at : (w n i : ℕ) (own : List ℕ) → i < n → get_or (heads w own n) i 0 ≡ slice_index own (w * i) / w
key_at w n i own few = get_or-map-range_with_len (λ j. slice_index own (w * j) / w) 0 n i i 0 few (omega arith)

-- the keys of a list, by its own part and the width of a tuple
pub key_of_list : (pattern : MultiSlotArgPattern) (list keys own : List ℕ) (w i : ℕ) (are : AreKeys pattern list keys) → own ≡ are.own → w ≡ width_of pattern
    → (length keys ≡ length own / w) × (i < length own / w → get_or keys i 0 ≡ slice_index own (w * i) / w)
key_of_list pattern list keys own w i are own_is w_is = grind (arith, common_steps, length-heads, key_at, slice_index)

-- ---- a number is put at the keys of a list

-- the number stands at the first keys, and elsewhere what was there
abbrev pub HasNumber : List ℕ → List ℕ → ℕ → ℕ → List ℕ → Type 0
HasNumber old keys number i now = (k : ℕ) → k < length old → slice_index now k ≡ cond (nat_eq (times k (take i keys)) 0) (slice_index old k) number

module _ (old now keys : List ℕ) (number i : ℕ) (few : i < length keys) (long : length now ≡ length old) (so_far : HasNumber old keys number i now) where
  abbrev key : ℕ
  key = get_or keys i 0

  more : (k : ℕ) → times k (take (i + 1) keys) ≡ times k (take i keys) + cond (nat_eq k key) 1 0
  more k = times_more k keys i 0 few

  other : (k : ℕ) → nat_eq k key ≡ false → k < length old → slice_index now k ≡ cond (nat_eq (times k (take (i + 1) keys)) 0) (slice_index old k) number
  other k there within = grind (arith, more k, slice_index old k)

  pub key_put : key < length now → HasNumber old keys number (i + 1) (set now key number)
  key_put room = λ k within.
      by_test (nat_eq k key)
      (λ here.
      let some : times k (take (i + 1) keys) ≡ times k (take i keys) + 1 = omega (arith, more k, ap {B = ℕ} (λ b. cond b 1 0) here) in
      let none : nat_eq (times k (take (i + 1) keys)) 0 ≡ false = grind (arith, nat_tests) in
      ap (slice_index (set now key number)) (eqb-true k key here) ∙ get_or-set_same now key number 0 room ∙ sym (ap (λ b. cond b (slice_index old k) number) none))
      (λ there. get_or-set_other now key k number 0 (eqb-false k key there) ∙ other k there within)

  pub key_past : length now ≤ key → HasNumber old keys number (i + 1) now
  key_past past = λ k within. other k (ne_eqb k key (λ same. absurd (omega (arith, same, within, long, past)))) within

-- ---- the lists of the routes

abbrev Routes : Type 0
Routes = List (SlotRoute × Vec ℕ Global)

abbrev Placed : MultiSlotArgPattern → List KeyTuple → SlotRoute × List ℕ → Type 0
Placed pattern ts r = r.1 ≡ places_of_part pattern ts r.0.slot

pub slot_of_route : (routes : Routes) (i : ℕ) (r : SlotRoute × Vec ℕ Global) → i < length routes → r ≡ get_or routes i r → slice_get (slots_of (route_lists routes)) i ≡ Some r.0.slot
slot_of_route [] i r few is = absurd (omega (arith, few))
slot_of_route (x ∷ routes) zero r few is = ap (λ (y : SlotRoute × Vec ℕ Global). Some y.0.slot) (sym is)
slot_of_route (x ∷ routes) (suc i) r few is = slot_of_route routes i r (omega (arith, few)) is

keys_of_list : (pattern : MultiSlotArgPattern) (ts : List KeyTuple) (list : List ℕ) (slot : ℕ) → list ≡ places_of_part pattern ts slot → places pattern list ≡ Some (numbers_of_slot slot ts)
keys_of_list pattern ts list slot is = ap (places pattern) is ∙ places_of_keys pattern ts slot

pub keys_of_route : (pattern : MultiSlotArgPattern) (ts : List KeyTuple) (routes : Routes) (i : ℕ) (r : SlotRoute × Vec ℕ Global) → All (Placed pattern ts) (route_lists routes) → i < length routes → r ≡ get_or routes i r
    → places pattern r.1.items ≡ Some (numbers_of_slot r.0.slot ts)
keys_of_route pattern ts [] i r placed few is = absurd (omega (arith, few))
keys_of_route pattern ts (x ∷ routes) zero r placed few is = grind (arith, keys_of_list, All-head)
keys_of_route pattern ts (x ∷ routes) (suc i) r placed few is =
    keys_of_route pattern ts routes i r (All-tail (Placed pattern ts) (x.0, x.1.items) (route_lists routes) placed) (omega (arith, few)) is

-- the list of a route has the keys of its place
pub list_at : (pattern : MultiSlotArgPattern) (routes : Routes) (keys : List (List ℕ)) (i : ℕ) (r : SlotRoute × Vec ℕ Global) → AllZip (λ route own. places pattern route.1.items ≡ Some own) routes keys → i < length routes → r ≡ get_or routes i r
    → (i < length keys) × (places pattern r.1.items ≡ Some (get_or keys i []))
list_at pattern [] keys i r are few is = absurd (omega (arith, few))
list_at pattern (x ∷ routes) [] i r are few is = absurd are
list_at pattern (x ∷ routes) (own ∷ keys) zero r are few is = (omega arith, subst (λ (y : SlotRoute × Vec ℕ Global). places pattern y.1.items ≡ Some own) (sym is) are.0)
list_at pattern (x ∷ routes) (own ∷ keys) (suc i) r are few is = let later = list_at pattern routes keys i r are.1 (omega (arith, few)) is in (omega (arith, later.0), later.1)

-- the keys of each list
abbrev pub keys_by_slot : List KeyTuple → List ℕ → List (List ℕ)
keys_by_slot ts slots = map (λ slot. numbers_of_slot slot ts) slots

pub keys_of_routes : (pattern : MultiSlotArgPattern) (ts : List KeyTuple) (routes : Routes) → All (Placed pattern ts) (route_lists routes)
    → AllZip (λ route own. places pattern route.1.items ≡ Some own) routes (keys_by_slot ts (slots_of (route_lists routes)))
keys_of_routes pattern ts [] placed = tt
keys_of_routes pattern ts (x ∷ routes) placed = grind (arith, keys_of_list, All-head, All-tail, keys_of_routes pattern ts routes (All-tail (Placed pattern ts) (x.0, x.1.items) (route_lists routes) placed))

keys_in_all : (ts : List KeyTuple) (slots : List ℕ) → sum_by (λ own. length own) (keys_by_slot ts slots) ≡ length (flat_map (λ slot. numbers_of_slot slot ts) slots)
keys_in_all ts [] = refl
keys_in_all ts (slot ∷ slots) =
    omega (arith, sum_by-cons (λ (own : List ℕ). length own) (numbers_of_slot slot ts) (keys_by_slot ts slots), keys_in_all ts slots, length-append (numbers_of_slot slot ts) (flat_map (λ s. numbers_of_slot s ts) slots))

-- the lists have each key once
pub as_many_keys : (ts : List KeyTuple) (slots : List ℕ) → NamesSlots slots ts → sum_by (λ own. length own) (keys_by_slot ts slots) ≡ length ts
as_many_keys ts slots named = keys_in_all ts slots ∙ length-names_once (length ts) (flat_map (λ slot. numbers_of_slot slot ts) slots) (numbers_share_out slots ts named)

-- ---- the number of each list is put at its keys

abbrev pub no_tuple : KeyTuple
no_tuple = record { key = []; extras = [] }

-- the first numbers stand at the keys of their slots
abbrev pub HasPlaces : List ℕ → List KeyTuple → ℕ → List ℕ → Type 0
HasPlaces slots ts number found = (k j : ℕ) → k < length ts → j < number → slice_get slots j ≡ Some (slot_at ts k no_tuple) → slice_index found k ≡ j

pub no_places : (slots : List ℕ) (ts : List KeyTuple) (found : List ℕ) → HasPlaces slots ts 0 found
no_places slots ts found = λ k j within few. absurd (omega (arith, few))

module _ (slots : List ℕ) (ts : List KeyTuple) (apart : (n : ℕ) → times n slots ≤ 1) where
  pub more_places : (number slot : ℕ) (old new : List ℕ) → slice_get slots number ≡ Some slot → length old ≡ length ts → HasPlaces slots ts number old
      → ((k : ℕ) → k < length old → slice_index new k ≡ cond (nat_eq (times k (numbers_of_slot slot ts)) 0) (slice_index old k) number) → HasPlaces slots ts (number + 1) new
  more_places number slot old new at long so_far put = λ k j within few is.
      let own = slot_at ts k no_tuple in
      let stands = times-numbers k slot no_tuple ts within in
      let value = λ (n : ℕ). cond (nat_eq n 0) (slice_index old k) number in
      let now = put k (omega (arith, within, long)) in
      by_test (nat_eq own slot)
      (λ here.
      let same : j ≡ number = one_place slots apart j number slot (is ∙ ap Some (eqb-true own slot here)) at in
      now ∙ ap value (stands ∙ ap {B = ℕ} (λ b. cond b 1 0) here) ∙ sym same)
      (λ there.
      let other : nat_eq j number ≡ true → ⊥ = λ same. eqb-false own slot there (same_Some own slot (sym is ∙ ap (slice_get slots) (eqb-true j number same) ∙ at)) in
      let less : j < number = by_test (nat_eq j number) (λ same. absurd (other same)) (λ apart. let ne = eqb-false j number apart in omega (arith, few, ne)) in
      now ∙ ap value (stands ∙ ap {B = ℕ} (λ b. cond b 1 0) there) ∙ so_far k j within less is)

  each_placed : (found : List ℕ) (us : List KeyTuple) → length found ≡ length us → ((k : ℕ) → k < length us → slice_get slots (slice_index found k) ≡ Some (slot_at us k no_tuple))
      → AllZip (λ place t. slice_get slots place ≡ Some (key_slot t.key)) found us
  each_placed [] [] long each = tt
  each_placed [] (u ∷ us) long each = absurd (omega (arith, long))
  each_placed (p ∷ found) [] long each = absurd (omega (arith, long))
  each_placed (p ∷ found) (u ∷ us) long each = (each 0 (omega arith), each_placed found us (omega (arith, long)) (λ k within. each (suc k) (omega (arith, within))))

  pub all_placed : (found : List ℕ) → NamesSlots slots ts → length found ≡ length ts → HasPlaces slots ts (length slots) found → AllZip (λ place t. slice_get slots place ≡ Some (key_slot t.key)) found ts
  all_placed found named long are = each_placed found ts long (λ k within.
      let own = slot_at ts k no_tuple in
      let once : times own slots ≡ 1 = named_at slots ts k no_tuple named within in
      let at = stands_at own slots (omega (arith, once)) in
      ap (slice_get slots) (are k at.0 within (slice_get_within slots at.0 own at.1) at.1) ∙ at.1)

-- ---- what is known of a split by the lists of its routes

module _ (split : Split) (held : IsSplit split) (pattern : MultiSlotArgPattern) (routes : Routes) (pattern_is : pattern ≡ split.pattern) (listed : route_lists routes ≡ split.routes) where
  abbrev tuples : List KeyTuple
  tuples = tuples_in_split split

  abbrev slots : List ℕ
  slots = slots_of split.routes

  lists_placed : All (Placed pattern tuples) (route_lists routes)
  lists_placed = subst (λ p. All (Placed p tuples) (route_lists routes)) (sym pattern_is) (subst (All (Placed split.pattern tuples)) (sym listed) (is_split_to split held).placed)

  pub keys_listed : AllZip (λ route own. places pattern route.1.items ≡ Some own) routes (keys_by_slot tuples slots)
  keys_listed = subst (λ rs. AllZip (λ route own. places pattern route.1.items ≡ Some own) routes (keys_by_slot tuples (slots_of rs))) listed (keys_of_routes pattern tuples routes lists_placed)

  pub all_keys : sum_by (λ own. length own) (keys_by_slot tuples slots) ≡ length tuples
  all_keys = as_many_keys tuples slots (is_split_to split held).named

  pub route_at : (i : ℕ) (r : SlotRoute × Vec ℕ Global) → i < length routes → r ≡ get_or routes i r → slice_get slots i ≡ Some r.0.slot
  route_at i r few is = subst (λ rs. slice_get (slots_of rs) i ≡ Some r.0.slot) listed (slot_of_route routes i r few is)

  pub keys_at_route : (i : ℕ) (r : SlotRoute × Vec ℕ Global) → i < length routes → r ≡ get_or routes i r → places pattern r.1.items ≡ Some (numbers_of_slot r.0.slot tuples)
  keys_at_route i r few is = keys_of_route pattern tuples routes i r lists_placed few is

  pub as_many_slots : length slots ≡ length routes
  as_many_slots = length-map split.routes (λ r. r.0.slot) ∙ ap length (sym listed) ∙ length-map routes route_list
