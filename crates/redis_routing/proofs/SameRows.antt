-- Equality of two registries, row by row.
use Rattle.std.proofs.Common.{◌≡◌, ℕ, List, [], ◌∷◌, map, Bool, true, ◌&&◌, Vec, Global, Decides, nat_eq, refl, sym, ap, ◌∙◌, arith}
use Rattle.std.specs.BTreeMap.{BTreeMap, IsOrdered}
use Rattle.std.specs.Cmp.Lexicographic.{pointwise, on_texts}
use Rattle.std.proofs.lemmas.Map.Lookups.{btree_map_read_from_get}
use Rattle.std.proofs.lemmas.Bool.Decides.{Decides-eqb, Decides-and, Decides-like}
use Rattle.std.proofs.lemmas.Slice.Eq.{bytes_eq-Decides, slice_eq-Decides}
use Rattle.std.proofs.lemmas.Grind.{common_steps}
use Rattle.cluster_slots.specs.declared.arg_pattern.MultiSlotArgPattern.{MultiSlotArgPattern}
use Rattle.cluster_slots.specs.contracts.arg_pattern.MultiSlotArgPatternPartialEq.TheImpl as pattern_eq
use Rattle.redis_routing.specs.Registry.{Registrations, Registered}
use Rattle.redis_routing.specs.SameRegistrations.{pattern_place, same_policy, same_row, same_registrations}
use Rattle.redis_routing.specs.declared.policy.ResponsePolicy.{ResponsePolicy}
use Rattle.redis_routing.specs.contracts.policy.ResponsePolicyPartialEq.TheImpl as policy_eq
use Rattle.redis_routing.specs.Lookup.{lookup_name}
use Rattle.redis_routing.proofs.NameSets.{by_items}
use Rattle.redis_routing.proofs.Registrations.{Row, registration_of, found_row, same_key}

-- `==` of two patterns compares their places
pub patterns_compare : (a b : MultiSlotArgPattern) → (pattern_eq.ghosts).eq a b ≡ nat_eq (pattern_place a) (pattern_place b)
patterns_compare a b = grind (arith)

-- and that of two policies their places and those of their operations
pub policies_compare : (a b : ResponsePolicy) → (policy_eq.ghosts).eq a b ≡ same_policy a b
policies_compare a b = grind (arith)

-- patterns of one place are one
pattern_at_place : (a b : MultiSlotArgPattern) → nat_eq (pattern_place a) (pattern_place b) ≡ true → a ≡ b
pattern_at_place a b h1 = grind (arith)

-- policies of one place whose operations have one place are one
policy_at_place : (a b : ResponsePolicy) → same_policy a b ≡ true → a ≡ b
policy_at_place a b h1 = grind (arith)

pattern-Decides : (a b : MultiSlotArgPattern) → Decides (nat_eq (pattern_place a) (pattern_place b)) (a ≡ b)
pattern-Decides a b = (pattern_at_place a b, λ same. (Decides-eqb (pattern_place a) (pattern_place b)).1 (ap pattern_place same))

at_places : (a b : ResponsePolicy) → a ≡ b → same_policy a b ≡ true
at_places a b same = grind (arith, common_steps)

policy-Decides : (a b : ResponsePolicy) → Decides (same_policy a b) (a ≡ b)
policy-Decides a b = (policy_at_place a b, at_places a b)

-- a row is its name, its pattern and its policy
row-Decides : (a b : List ℕ × Registered) → Decides (same_row a b) (a ≡ b)
row-Decides a b = grind (arith, common_steps, Decides-and, bytes_eq-Decides, pattern-Decides, policy-Decides, Decides-like)

-- the test tells whether two registries are one
pub same_registrations-Decides : (a b : Registrations) → Decides (same_registrations a b) (a ≡ b)
same_registrations-Decides a b = slice_eq-Decides row-Decides a b (same_registrations a b) refl

-- rows that are compared as what is seen of them
pub rows_compare : {E : Row → Row → Bool} → ((a b : Row) → E a b ≡ same_row (registration_of a) (registration_of b)) → (xs ys : List Row) → pointwise E xs ys ≡ same_registrations (map registration_of xs) (map registration_of ys)
rows_compare each [] [] = refl
rows_compare each [] (y ∷ ys) = refl
rows_compare each (x ∷ xs) [] = refl
rows_compare each (x ∷ xs) (y ∷ ys) = λ i. each x y i && rows_compare each xs ys i

-- rows that look up each name alike are one, since both ascend by their names
pub same_lookups : (m n : BTreeMap (Vec ℕ Global) Registered) → IsOrdered by_items m → IsOrdered by_items n
    → ((name : List ℕ) → lookup_name (map registration_of m.entries) name ≡ lookup_name (map registration_of n.entries) name) → map registration_of m.entries ≡ map registration_of n.entries
same_lookups m n s t alike =
    btree_map_read_from_get (on_texts (λ k. k.items)) m n s t
    (λ q. found_row q.items m.entries ∙ alike q.items ∙ sym (found_row q.items n.entries))
    (λ k. k.items) same_key

-- the names, the patterns and the policies of two rows
pub row_compares : (a b : Row) → (pointwise nat_eq a.0.items b.0.items && ((pattern_eq.ghosts).eq a.1.0 b.1.0 && (policy_eq.ghosts).eq a.1.1 b.1.1)) ≡ same_row (registration_of a) (registration_of b)
row_compares a b = λ i. pointwise nat_eq a.0.items b.0.items && (patterns_compare a.1.0 b.1.0 i && policies_compare a.1.1 b.1.1 i)
