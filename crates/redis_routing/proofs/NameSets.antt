-- A set of names after an insert.
use Rattle.std.proofs.Common.{◌≡◌, ℕ, List, [], ◌∷◌, map, Bool, true, false, ◌||◌, Vec, Global, Ordering, refl, ap, ◌∙◌, arith}
use Rattle.std.proofs.lemmas.Grind.{common_steps}
use Rattle.std.specs.Ordering.{nat_cmp, is_eq}
use Rattle.std.specs.Cmp.Lexicographic.{slice_cmp}
use Rattle.std.specs.Str.{bytes_eq}
use Rattle.std.specs.List.{list_any}
use Rattle.std.specs.BTreeSet.{insert_key}
use Rattle.std.proofs.lemmas.Map.Text.{is_eq-slice_cmp}
use Rattle.std.proofs.lemmas.Slice.Eq.{bytes_eq-Decides}
use Rattle.redis_routing.specs.ReadOnly.{is_among}
use Rattle.resp_core.proofs.Cases.{or_swap}

-- what follows for each of the three orders holds
pub by_order : {P : Type 0} (o : Ordering) → (o ≡ Ordering.Less → P) → (o ≡ Ordering.Equal → P) → (o ≡ Ordering.Greater → P) → P
by_order Ordering.Less f g h = f refl
by_order Ordering.Equal f g h = g refl
by_order Ordering.Greater f g h = h refl

or_twice : (a b : Bool) → (a || b) ≡ (a || (a || b))
or_twice true b = refl
or_twice false b = refl

abbrev pub at : List ℕ → Vec ℕ Global → Bool
at q k = is_eq (slice_cmp nat_cmp q k.items)

abbrev pub by_items : Vec ℕ Global → Vec ℕ Global → Ordering
by_items x y = slice_cmp nat_cmp x.items y.items

alike : (q : List ℕ) (x y : Vec ℕ Global) → by_items x y ≡ Ordering.Equal → at q x ≡ at q y
alike q x y h = grind (arith, bytes_eq-Decides, is_eq-slice_cmp)

list_any-insert_key : (q : List ℕ) (k : Vec ℕ Global) (ks : List (Vec ℕ Global)) → list_any (at q) (insert_key by_items ks k) ≡ (at q k || list_any (at q) ks)
list_any-insert_key q k [] = refl
list_any-insert_key q k (x ∷ xs) = grind (arith, by_order, alike, or_twice, or_swap, list_any-insert_key q k xs)

pub is_in-insert : (q : List ℕ) (k : Vec ℕ Global) (ks : List (Vec ℕ Global)) → list_any (at q) (insert_key by_items ks k) ≡ (bytes_eq q k.items || list_any (at q) ks)
is_in-insert q k ks = list_any-insert_key q k ks ∙ ap (λ b. b || list_any (at q) ks) (is_eq-slice_cmp q k.items)

-- a look-up by the order of bytes is one by `==`
pub among_keys : (q : List ℕ) (ks : List (Vec ℕ Global)) → list_any (at q) ks ≡ is_among (map (λ k. k.items) ks) q
among_keys q [] = refl
among_keys q (k ∷ ks) = ap (λ b. b || list_any (at q) ks) (is_eq-slice_cmp q k.items) ∙ ap (λ b. bytes_eq q k.items || b) (among_keys q ks)

-- the names after an insert
pub among-insert : (q name : List ℕ) (k : Vec ℕ Global) (ks after : List (Vec ℕ Global)) → after ≡ insert_key by_items ks k → k.items ≡ name → is_among (map (λ k. k.items) after) q ≡ (bytes_eq q name || is_among (map (λ k. k.items) ks) q)
among-insert q name k ks after keys items = grind (arith, common_steps, among_keys q after, among_keys q ks, is_in-insert)
