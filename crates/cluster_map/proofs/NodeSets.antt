-- What a set of counted nodes says of their addresses.
use Rattle.std.proofs.Common.{◌≡◌, ◌+◌, ℕ, Bool, not, cond, ◌||◌, List, [], ◌∷◌, ◌++◌, if◌then◌else◌, refl, ap, sym, ◌∙◌, fold, arith, rules}
use Rattle.std.specs.Cmp.{IsEquivalence}
use Rattle.std.specs.Cmp.Rules.{comparing}
use Rattle.std.specs.Hash.DefaultHasher as sip
use Rattle.std.specs.List.{list_any, position_or_len}
use Rattle.std.specs.declared.hash.DefaultHasher.{DefaultHasher}
use Rattle.cluster_slots.specs.Address.{Address, same_address}
use Rattle.resp_core.proofs.Cases.{by_test}
use Rattle.std.proofs.lemmas.List.{append-nil, map-append}
use Rattle.std.proofs.lemmas.List.Concat.{flat_map-append}
use Rattle.std.proofs.lemmas.Grind.{common_steps}
use Rattle.cluster_map.specs.Inner.NodeSets.{addresses_counted, after_addresses, hash_input_of}
use Rattle.cluster_map.specs.declared.slot_map.node_set.counted.Counted.{Counted}
use Rattle.cluster_map.proofs.Members.{add_new}

-- the hash after one address, as it is written
pub after_one : {new : DefaultHasher} (state : DefaultHasher) (a : Address) → new ≡ fold sip.write state (hash_input_of a) → new ≡ after_addresses state (a ∷ [])
after_one state a is = is ∙ ap (fold sip.write state) (sym (append-nil (hash_input_of a)))

-- the hash after some addresses and then others
pub after_both : (state : DefaultHasher) (xs ys : List Address) → after_addresses (after_addresses state xs) ys ≡ after_addresses state (xs ++ ys)
after_both state xs ys = grind (arith, common_steps, flat_map-append)

-- what a set says of a node that is put in, said of addresses

-- counted nodes are told apart by their addresses
pub same_counted : IsEquivalence (λ (x y : Counted). same_address x.node.now y.node.now)
same_counted = search (comparing, rules)

any_counted : (ks : List Counted) (a : Address) → list_any (λ k. same_address a k.node.now) ks ≡ list_any (same_address a) (addresses_counted ks)
any_counted [] a = refl
any_counted (k ∷ ks) a = ap (λ z. same_address a k.node.now || z) (any_counted ks a)

place_counted : (ks : List Counted) (a : Address) → position_or_len (λ k. same_address a k.node.now) ks ≡ position_or_len (same_address a) (addresses_counted ks)
place_counted [] a = refl
place_counted (k ∷ ks) a = ap (λ z. cond (not (same_address a k.node.now)) (1 + z) 0) (place_counted ks a)

pub nodes_counted : (ks : List Counted) (k : Counted) → addresses_counted (if list_any (λ y. same_address k.node.now y.node.now) ks then ks else ks ++ k ∷ []) ≡ add_new (addresses_counted ks) k.node.now
nodes_counted ks k = grind (arith, common_steps, by_test, any_counted ks k.node.now, map-append)

pub index_counted : (ks : List Counted) (k : Counted) (a : Address) (nodes : List Address) (index : ℕ) → index ≡ position_or_len (λ y. same_address k.node.now y.node.now) ks → k.node.now ≡ a → addresses_counted ks ≡ nodes → index ≡ position_or_len (same_address a) nodes
index_counted ks k a nodes index is node are = is ∙ place_counted ks k.node.now ∙ rw (node, are) refl

pub new_counted : (ks : List Counted) (k : Counted) (a : Address) (nodes : List Address) (is_new : Bool) → is_new ≡ not (list_any (λ y. same_address k.node.now y.node.now) ks) → k.node.now ≡ a → addresses_counted ks ≡ nodes → is_new ≡ not (list_any (same_address a) nodes)
new_counted ks k a nodes is_new is node are = is ∙ ap not (any_counted ks k.node.now) ∙ rw (node, are) refl
