-- The order of the replies does not count for their totals.
use Rattle.std.proofs.Common.{◌≡◌, ◌<◌, ◌/◌, ◌^◌, length, ℕ, ◌+◌, List, [], ◌∷◌, sym, ap, subst, ◌∙◌, refl, arith, map, ℤ, pos, ◌+ℤ◌, Option, Some, None, Bool, true, false, cond}
use Rattle.std.proofs.lemmas.Grind.{common_steps}
use lib.IntN.{negsuc}
use Rattle.std.specs.Prelude.{IfSome, option_map, option_and_then, is_none, is_some, nat_lt, unwrap_or, ◌||◌, sum_by, flat_map}
use Rattle.std.specs.List.{list_any}
use Rattle.std.specs.List.Sorted.{IsPermutation}
use Rattle.std.specs.Str.{bytes_eq}
use Rattle.std.proofs.lemmas.Bool.{lt-ltb}
use Rattle.std.proofs.lemmas.Int.{ints}
use Rattle.std.proofs.lemmas.List.Sorted.{sum_by-IsPermutation, list_any-IsPermutation}
use Rattle.std.proofs.lemmas.List.Sums.{sum_by-cons, sum_by-append}
use Rattle.std.proofs.lemmas.List.Concat.{length-flat_map}
use Rattle.std.proofs.lemmas.List.Folds.{list_any-append, flat_map-map}
use borrow.Author.Differences.{up, down}
use Rattle.resp_core.specs.Reply.{Reply, array_of}
use Rattle.cluster_slots.specs.Lists.{flatten}
use Rattle.redis_combiners.specs.KeyNumbers.{KeyNumber, pairs_among, all_pairs}
use Rattle.redis_combiners.specs.Totals.{map_of_totals, combined_map}
use Rattle.redis_combiners.proofs.KeyNumbers.{half}
use Rattle.redis_combiners.proofs.Lists.{all_some_is}
use Rattle.redis_combiners.proofs.Totals.{or_zero, sum_at, sum_has, same_totals}

abbrev own_pairs : Reply → Option (List KeyNumber)
own_pairs reply = option_and_then pairs_among (array_of reply)

abbrev has_no_pairs : Reply → Bool
has_no_pairs reply = is_none (own_pairs reply)

abbrev pairs_of_reply : Reply → List KeyNumber
pairs_of_reply reply = unwrap_or (own_pairs reply) []

-- the pairs of all replies, if each has some
all_are : (rs : List Reply) → all_pairs rs ≡ cond (list_any has_no_pairs rs) None (Some (flat_map pairs_of_reply rs))
all_are rs = ap (option_map flatten) (all_some_is own_pairs [] rs) ∙ flat (list_any has_no_pairs rs)
  where
    flat : (b : Bool) → option_map flatten (cond b None (Some (map pairs_of_reply rs))) ≡ cond b None (Some (flat_map pairs_of_reply rs))
    flat true = refl
    flat false = ap Some (flat_map-map (λ ps. ps) pairs_of_reply rs)

any_flat : (t : (List ℕ × ℤ) → Bool) (rs : List Reply) → list_any t (flat_map pairs_of_reply rs) ≡ list_any (λ r. list_any t (pairs_of_reply r)) rs
any_flat t [] = refl
any_flat t (r ∷ rs) = list_any-append t (pairs_of_reply r) (flat_map pairs_of_reply rs) ∙ ap (λ b. list_any t (pairs_of_reply r) || b) (any_flat t rs)

sum_flat : (g : (List ℕ × ℤ) → ℕ) (rs : List Reply) → sum_by g (flat_map pairs_of_reply rs) ≡ sum_by (λ r. sum_by g (pairs_of_reply r)) rs
sum_flat g [] = refl
sum_flat g (r ∷ rs) = sum_by-append g (pairs_of_reply r) (flat_map pairs_of_reply rs) ∙ ap (λ n. sum_by g (pairs_of_reply r) + n) (sum_flat g rs) ∙ sym (sum_by-cons (λ s. sum_by g (pairs_of_reply s)) r rs)

-- a total is what goes up less what goes down
abbrev ups : List ℕ → (List ℕ × ℤ) → ℕ
ups q p = cond (bytes_eq p.0 q) (up p.1) 0

abbrev downs : List ℕ → (List ℕ × ℤ) → ℕ
downs q p = cond (bytes_eq p.0 q) (down p.1) 0

part_step : (z t : ℤ) (d u : ℕ) → t +ℤ pos d ≡ pos u → (z +ℤ t) +ℤ pos (down z + d) ≡ pos (up z + u)
part_step (pos n) t d u e = omega (arith, ints)
part_step (negsuc n) t d u e = omega (arith, ints)

part_kept : (t : ℤ) (d u : ℕ) → t +ℤ pos d ≡ pos u → t +ℤ pos (0 + d) ≡ pos (0 + u)
part_kept t d u e = omega (arith, ints)

total_parts : (q : List ℕ) (ps : List KeyNumber) → or_zero (sum_at q ps) +ℤ pos (sum_by (downs q) ps) ≡ pos (sum_by (ups q) ps)
total_parts q [] = refl
total_parts q (p ∷ ps) = rw (sum_by-cons (downs q) p ps, sum_by-cons (ups q) p ps) (by_key (bytes_eq p.0 q) (total_parts q ps))
  where
    by_key : (b : Bool) → or_zero (sum_at q ps) +ℤ pos (sum_by (downs q) ps) ≡ pos (sum_by (ups q) ps)
        → or_zero (cond b (Some (p.1 +ℤ or_zero (sum_at q ps))) (sum_at q ps)) +ℤ pos (cond b (down p.1) 0 + sum_by (downs q) ps) ≡ pos (cond b (up p.1) 0 + sum_by (ups q) ps)
    by_key true e = part_step p.1 (or_zero (sum_at q ps)) (sum_by (downs q) ps) (sum_by (ups q) ps) e
    by_key false e = part_kept (or_zero (sum_at q ps)) (sum_by (downs q) ps) (sum_by (ups q) ps) e

same_option : (a b : Option ℤ) → is_some a ≡ is_some b → or_zero a ≡ or_zero b → a ≡ b
same_option None None h1 h2 = refl
same_option None (Some b) h1 h2 = absurd (cc)
same_option (Some a) None h1 h2 = absurd (cc)
same_option (Some a) (Some b) h1 h2 = ap Some h2

from_parts : (s t : ℤ) (d u e v : ℕ) → s +ℤ pos d ≡ pos u → t +ℤ pos e ≡ pos v → d ≡ e → u ≡ v → s ≡ t
from_parts s t d u e v p q h k = omega (arith, ints)

total_same : (q : List ℕ) (rs others : List Reply) → IsPermutation rs others → sum_at q (flat_map pairs_of_reply others) ≡ sum_at q (flat_map pairs_of_reply rs)
total_same q rs others h =
    let here = flat_map pairs_of_reply rs in
    let there = flat_map pairs_of_reply others in
    let t : (List ℕ × ℤ) → Bool = λ p. bytes_eq p.0 q in
    let has : list_any t there ≡ list_any t here = any_flat t others ∙ sym (list_any-IsPermutation (λ r. list_any t (pairs_of_reply r)) rs others h) ∙ sym (any_flat t rs) in
    let d : sum_by (downs q) there ≡ sum_by (downs q) here = sum_flat (downs q) others ∙ sum_by-IsPermutation (λ r. sum_by (downs q) (pairs_of_reply r)) rs others h ∙ sym (sum_flat (downs q) rs) in
    let u : sum_by (ups q) there ≡ sum_by (ups q) here = sum_flat (ups q) others ∙ sum_by-IsPermutation (λ r. sum_by (ups q) (pairs_of_reply r)) rs others h ∙ sym (sum_flat (ups q) rs) in
    same_option (sum_at q there) (sum_at q here) (sum_has q there ∙ has ∙ sym (sum_has q here))
    (from_parts (or_zero (sum_at q there)) (or_zero (sum_at q here)) (sum_by (downs q) there) (sum_by (ups q) there) (sum_by (downs q) here) (sum_by (ups q) here) (total_parts q there) (total_parts q here) d u)

-- the same of pairs
pub sum_permuted : (q : List ℕ) (ps qs : List KeyNumber) → IsPermutation ps qs → sum_at q qs ≡ sum_at q ps
sum_permuted q ps qs h =
    let t : (List ℕ × ℤ) → Bool = λ p. bytes_eq p.0 q in
    let has : is_some (sum_at q qs) ≡ is_some (sum_at q ps) = sum_has q qs ∙ sym (list_any-IsPermutation t ps qs h) ∙ sym (sum_has q ps) in
    same_option (sum_at q qs) (sum_at q ps) has
    (from_parts (or_zero (sum_at q qs)) (or_zero (sum_at q ps)) (sum_by (downs q) qs) (sum_by (ups q) qs) (sum_by (downs q) ps) (sum_by (ups q) ps) (total_parts q qs) (total_parts q ps) (sum_by-IsPermutation (downs q) ps qs h) (sum_by-IsPermutation (ups q) ps qs h))

abbrev pair_count : Reply → ℕ
pair_count r = length (pairs_of_reply r)

-- half as many as the items of a reply
abbrev pub item_pairs : Reply → ℕ
item_pairs r = length (unwrap_or (array_of r) []) / 2

-- a reply of keys and numbers in turn has so many pairs
each_half : (r : Reply) → has_no_pairs r ≡ false → pair_count r ≡ item_pairs r
each_half r are = of_items (array_of r) are
  where
    of_pairs : (o : Option (List KeyNumber)) (n : ℕ) → IfSome o (λ ps. length ps ≡ n) → is_none o ≡ false → length (unwrap_or o []) ≡ n
    of_pairs o n h some = grind (arith, common_steps)

    of_items : (o : Option (List Reply)) → is_none (option_and_then pairs_among o) ≡ false → length (unwrap_or (option_and_then pairs_among o) []) ≡ length (unwrap_or o []) / 2
    of_items None are = absurd (cc)
    of_items (Some items) are = of_pairs (pairs_among items) (length items / 2) (half items) are

all_half : (rs : List Reply) → list_any has_no_pairs rs ≡ false → sum_by pair_count rs ≡ sum_by item_pairs rs
all_half [] are = refl
all_half (r ∷ rs) are = grind (arith, common_steps, sum_by-cons, each_half, all_half rs)

-- so have all replies
pub count_all : (rs : List Reply) → IfSome (all_pairs rs) (λ ps. length ps ≡ sum_by item_pairs rs)
count_all rs = subst (λ o. IfSome o (λ ps. length ps ≡ sum_by item_pairs rs)) (sym (all_are rs)) (of_test (list_any has_no_pairs rs) refl)
  where
    of_test : (b : Bool) → list_any has_no_pairs rs ≡ b → IfSome (cond b None (Some (flat_map pairs_of_reply rs))) (λ ps. length ps ≡ sum_by item_pairs rs)
    of_test true are = tt
    of_test false are = length-flat_map pairs_of_reply rs ∙ all_half rs are

-- a count of the pairs, unless these are too many
abbrev Counts : Option ℕ → List KeyNumber → Type 0
Counts count ps = count ≡ cond (nat_lt (length ps) (2 ^ 63)) (Some (length ps)) None

-- with a count they are few
pub few_counted : (all : Option (List KeyNumber)) (n : ℕ) → IfSome all (Counts (Some n)) → IfSome all (λ ps. length ps < 2 ^ 63)
few_counted all n h = grind (arith, common_steps, lt-ltb)

-- and with none they make no map
pub uncounted : (rs : List Reply) → IfSome (all_pairs rs) (Counts None) → combined_map rs ≡ None
uncounted rs h = of_pairs (all_pairs rs) h
  where
    of_pairs : (all : Option (List KeyNumber)) → IfSome all (Counts None) → option_and_then map_of_totals all ≡ None
    of_pairs None h = refl
    of_pairs (Some ps) h = grind (arith, common_steps)

length_same : (rs others : List Reply) → IsPermutation rs others → length (flat_map pairs_of_reply others) ≡ length (flat_map pairs_of_reply rs)
length_same rs others h = length-flat_map pairs_of_reply others ∙ sum_by-IsPermutation (λ r. length (pairs_of_reply r)) rs others h ∙ sym (length-flat_map pairs_of_reply rs)

map_same : (rs others : List Reply) → IsPermutation rs others → map_of_totals (flat_map pairs_of_reply others) ≡ map_of_totals (flat_map pairs_of_reply rs)
map_same rs others h = grind (arith, length_same, same_totals, total_same)

pub any_order : (rs others : List Reply) → IsPermutation rs others → combined_map others ≡ combined_map rs
any_order rs others h = grind (arith, common_steps, all_are, list_any-IsPermutation, map_same)
