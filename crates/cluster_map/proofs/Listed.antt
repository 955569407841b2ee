-- The topology of a map lists just the map's shards.
use Rattle.std.proofs.Common.{◌≡◌, ℕ, zero, suc, true, false, not, nat_eq, List, [], ◌∷◌, map, filter, slice_get, Some, refl, sym, ap, subst, ◌∙◌, arith}
use Rattle.std.specs.List.{cons_option}
use Rattle.std.proofs.lemmas.Bool.{eqb-true}
use Rattle.std.proofs.lemmas.Bool.Decides.{nat_tests}
use Rattle.std.proofs.lemmas.Option.{slice_get-map}
use Rattle.cluster_slots.proofs.Orders.{same_from_address}
use Rattle.cluster_slots.specs.Address.{Address, same_address}
use Rattle.resp_core.proofs.Cases.{by_test}
use Rattle.cluster_map.specs.SlotNodes.{SlotNodes}
use Rattle.cluster_map.specs.RangeMap.{RangeEntry, value_of, Ascends, insert_entries}
use Rattle.cluster_map.specs.EachOnce.{once_by, each_once, entry_primary}
use Rattle.cluster_map.specs.Topology.{shard_of, shards_of, place_entries, topology_of, at_places, shards_left}
use Rattle.cluster_map.specs.Inner.Topology.{primary_of}
use Rattle.cluster_map.proofs.Members.{added_once}
use Rattle.cluster_map.proofs.Groups.{Distinct, primaries-distinct, same_refl}
use Rattle.cluster_map.proofs.Inserts.{insert_steps, insert_steps-is, by_option, with_value}
use Rattle.cluster_map.proofs.Agreement.{with_primary, resolved}
use Rattle.std.proofs.lemmas.Map.Keys.{any_passes_from_place}

-- the first of distinct addresses is none of the others
not_later : (k a : Address) (ks : List Address) (place : ℕ) → Distinct (k ∷ ks) → k ≡ a → slice_get ks place ≡ Some a → true ≡ false
not_later k a ks place distinct same at = grind (arith, any_passes_from_place, same_refl)

-- of distinct addresses each stands at one place
place_unique : (ks : List Address) → Distinct ks → (i j : ℕ) (a : Address) → slice_get ks i ≡ Some a → slice_get ks j ≡ Some a → i ≡ j
place_unique [] distinct i j a at_i at_j = cc
place_unique (k ∷ ks) distinct zero zero a at_i at_j = refl
place_unique (k ∷ ks) distinct zero (suc j) a at_i at_j = grind (arith, zero, suc, not_later)
place_unique (k ∷ ks) distinct (suc i) zero a at_i at_j = grind (arith, suc, zero, not_later)
place_unique (k ∷ ks) distinct (suc i) (suc j) a at_i at_j = ap suc (place_unique ks distinct.1 i j a at_i at_j)

-- to leave out a place is to leave out its address
without_place : (ps : List Address) → Distinct ps → (place : ℕ) (a : Address) → slice_get ps place ≡ Some a → (places : List ℕ) → at_places ps (filter (λ q. not (nat_eq q place)) places) ≡ filter (λ b. not (same_address b a)) (at_places ps places)
without_place ps distinct place a at [] = refl
without_place ps distinct place a at (q ∷ places) =
    let rest = without_place ps distinct place a at places in
    by_test (nat_eq q place)
    (λ same.
    let here : slice_get ps q ≡ Some a = ap (slice_get ps) (eqb-true q place same) ∙ at in
    let own : same_address a a ≡ true = same_refl a in
    rw (same, here, own) rest)
    (λ other. by_option (slice_get ps q)
    (λ none. rw (other, none) rest)
    (λ b there. by_test (same_address b a)
    (λ one.
    let is : q ≡ place = place_unique ps distinct q place a (there ∙ ap Some (same_from_address b a one)) at in
    let here : nat_eq q place ≡ true = grind (arith, nat_tests) in
    let no : true ≡ false = sym here ∙ other in cc)
    (λ apart. rw (other, there, apart) (ap (λ z. b ∷ z) rest))))

-- to take each place once is to take each address once
once_places : (ps : List Address) → Distinct ps → (places : List ℕ) (keys : List Address) → map (slice_get ps) places ≡ map Some keys → at_places ps (once_by nat_eq places) ≡ each_once keys
once_places ps distinct [] [] is = refl
once_places ps distinct [] (k ∷ keys) is = cc
once_places ps distinct (place ∷ places) [] is = cc
once_places ps distinct (place ∷ places) (k ∷ keys) is =
    let first : slice_get ps place ≡ Some k = cc in
    let rest : map (slice_get ps) places ≡ map Some keys = cc in
    ap (λ z. cons_option z (at_places ps (filter (λ q. not (nat_eq q place)) (once_by nat_eq places)))) first
    ∙ ap (λ z. k ∷ z) (without_place ps distinct place k first (once_by nat_eq places) ∙ ap (filter (λ b. not (same_address b k))) (once_places ps distinct places keys rest))

at_places-map : {X Y : Type 0} (f : X → Y) (xs : List X) (places : List ℕ) → at_places (map f xs) places ≡ map f (at_places xs places)
at_places-map f xs [] = refl
at_places-map f xs (place ∷ places) = grind (arith, slice_get-map, by_option, slice_get, at_places-map f xs places)

values_with : {A B : Type 0} (g : A → B) (es : List (RangeEntry A)) → map value_of (map (with_value g) es) ≡ map g (map value_of es)
values_with g [] = refl
values_with g (e ∷ es) = ap (λ z. g (value_of e) ∷ z) (values_with g es)

values-with_primary : (es : List (RangeEntry SlotNodes)) → map value_of (map with_primary es) ≡ map Some (map entry_primary es)
values-with_primary [] = refl
values-with_primary (e ∷ es) = ap (λ z. Some (entry_primary e) ∷ z) (values-with_primary es)

primaries_of_shards : (es : List (RangeEntry SlotNodes)) (ks : List Address) → map primary_of (map (shard_of es) ks) ≡ ks
primaries_of_shards es [] = refl
primaries_of_shards es (k ∷ ks) = ap (λ z. k ∷ z) (primaries_of_shards es ks)

pub listed : (es : List (RangeEntry SlotNodes)) → Ascends es → shards_left (topology_of (shards_of es)) ≡ shards_of es
listed es up =
    let keys = map entry_primary es in
    let ps = each_once keys in
    let ss = shards_of es in
    let ranges_by_steps = insert_steps [] (place_entries 0 ss) in
    let ranges = insert_entries [] (place_entries 0 ss) in
    let places = map value_of ranges in
    let got = slice_get (map primary_of ss) in
    let own : map primary_of ss ≡ ps = primaries_of_shards es ps in
    let distinct : Distinct ps = subst Distinct (added_once keys) (primaries-distinct es) in
    let is : map (slice_get ps) places ≡ map Some keys =
    ap (λ z. map (slice_get z) places) (sym own)
    ∙ ap (λ z. map got (map value_of z)) (insert_steps-is [] (place_entries 0 ss) tt)
    ∙ sym (values_with got ranges_by_steps)
    ∙ ap (map value_of) (resolved es up)
    ∙ values-with_primary es in
    at_places-map (shard_of es) ps (once_by nat_eq places) ∙ ap (map (shard_of es)) (once_places ps distinct places keys is)
