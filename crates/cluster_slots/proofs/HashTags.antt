-- Where a key has a tag in braces, and where it has none.
use Rattle.std.proofs.Common.{◌≡◌, ◌≢◌, ℕ, List, [], ◌∷◌, ◌++◌, sym, ◌∙◌, ap, subst, inl, inr, arith}
use Rattle.std.proofs.lemmas.Grind.{common_steps}
use Rattle.std.specs.Prelude.{Contains}
use Rattle.cluster_slots.specs.HashTag.{HoldsTag, HasTag, HasNoTag, IsHashTag}
use Rattle.cluster_slots.specs.KeySlot.{IsKeySlot}
use Rattle.cluster_slots.proofs.Lists.{Lacks, lacks_from, has, first_cut}

pub no_open : (key : List ℕ) → ¬ (Contains key 123) → HasNoTag key
no_open key h t (u, v, held) = has 123 u (t ++ 125 ∷ v) (subst (Lacks 123) held.split (lacks_from 123 key h))

-- the rest after the first opening brace is the tag, a closing brace and what follows
rest_is : (key front rest t u v : List ℕ) → key ≡ front ++ 123 ∷ rest → ¬ (Contains front 123) → HoldsTag key t u v → rest ≡ t ++ 125 ∷ v
rest_is key front rest t u v e h held =
    (first_cut 123 front rest u (t ++ 125 ∷ v) (sym e ∙ held.split) (lacks_from 123 front h) (lacks_from 123 u held.first)).1

pub no_close : (key front rest : List ℕ) → key ≡ front ++ 123 ∷ rest → ¬ (Contains front 123) → ¬ (Contains rest 125) → HasNoTag key
no_close key front rest e h k t (u, v, held) =
    has 125 t v (subst (Lacks 125) (rest_is key front rest t u v e h held) (lacks_from 125 rest k))

pub nothing_between : (key front rest tag back : List ℕ) → key ≡ front ++ 123 ∷ rest → ¬ (Contains front 123) → rest ≡ tag ++ 125 ∷ back → ¬ (Contains tag 125) → tag ≡ [] → HasNoTag key
nothing_between key front rest tag back e h d k z t (u, v, held) = grind (arith, common_steps, first_cut, rest_is, lacks_from)

pub tagged : (key front rest tag back : List ℕ) → key ≡ front ++ 123 ∷ rest → ¬ (Contains front 123) → rest ≡ tag ++ 125 ∷ back → ¬ (Contains tag 125) → tag ≢ [] → HasTag key tag
tagged key front rest tag back e h d k n =
    (front, back, record { split = e ∙ ap (λ r. front ++ 123 ∷ r) d; first = h; closed = k; some = n })

-- a key has one tag in braces at most
pub one_tag : (key t s : List ℕ) → HasTag key t → HasTag key s → t ≡ s
one_tag key t s (u, v, held) (a, b, other) = grind (arith, common_steps, first_cut, lacks_from)

-- the tag in braces is what decides the slot of a key that has one
hash_tag_is : (key t s : List ℕ) → HasTag key t → IsHashTag key s → s ≡ t
hash_tag_is key t s h (inl g) = one_tag key s t g h
hash_tag_is key t s h (inr whole) = absurd (whole.1 t h)

-- a key has one hash tag
pub one_hash_tag : (key t s : List ℕ) → IsHashTag key t → IsHashTag key s → s ≡ t
one_hash_tag key t s (inl h) g = hash_tag_is key t s h g
one_hash_tag key t s (inr whole) (inl g) = absurd (whole.1 s g)
one_hash_tag key t s (inr whole) (inr other) = other.0 ∙ sym whole.0

-- the law on tags
pub tag_law : (key other t : List ℕ) (slot number : ℕ) → IsKeySlot key slot → IsHashTag key t → IsHashTag other t → IsKeySlot other number → slot ≡ number
tag_law key other t slot number (a, is_a, e) h g (b, is_b, f) = grind (arith, common_steps, one_hash_tag key t a h is_a, one_hash_tag other t b g is_b)
