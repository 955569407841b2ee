-- The places of the keys of a slot's part are the numbers of the slot's tuples.
use Rattle.std.proofs.Common.{◌≡◌, ℕ, zero, suc, ◌*◌, ◌/◌, ◌%◌, ◌<◌, List, [], ◌∷◌, ◌++◌, Some, length, get_or, slice_index, refl, ap, ◌∙◌, arith}
use Rattle.std.specs.List.{flat_map}
use Rattle.std.proofs.lemmas.List.{append-nil, get_or_append_left, get_or-append-add, length-append, same_lists}
use Rattle.std.proofs.lemmas.List.FromFn.{get_or-range_with_len, get_or-map-range_with_len, length-range_with_len}
use Rattle.std.proofs.lemmas.Grind.{common_steps}
use Rattle.cluster_slots.specs.ArgPattern.{width_of}
use Rattle.cluster_slots.specs.declared.arg_pattern.MultiSlotArgPattern.{MultiSlotArgPattern}
use Rattle.cluster_slots.proofs.ArgPatterns.{some_width}
use Rattle.redis_combiners.specs.KeyPlaces.{own_arguments, places}
use Rattle.redis_combiners.proofs.KeyPlaces.{heads, length-heads, places_are}
use Rattle.redis_cluster.specs.MultiKey.{KeyTuple}
use Rattle.redis_cluster.proofs.Places.{numbers_of_slot}
use Rattle.redis_cluster.proofs.SplitPlaces.{argument_places, places_of_part, shared_places}

-- the arguments of tuples of some width, by the numbers of the tuples
abbrev arguments_of : ℕ → List ℕ → List ℕ
arguments_of width numbers = flat_map (argument_places width) numbers

length-arguments_of : (width : ℕ) (numbers : List ℕ) → length (arguments_of width numbers) ≡ length numbers * width
length-arguments_of width [] = omega arith
length-arguments_of width (n ∷ ns) = grind (arith, length-append, argument_places, length-range_with_len, length-arguments_of width ns)

-- the first argument of a tuple
first_argument : (width : ℕ) (numbers : List ℕ) (i : ℕ) → 0 < width → i < length numbers → slice_index (arguments_of width numbers) (width * i) ≡ get_or numbers i 0 * width
first_argument width [] i some l = absurd (omega arith)
first_argument width (n ∷ ns) zero some l = grind (arith, slice_index, get_or_append_left, argument_places, length-range_with_len, get_or-range_with_len)
first_argument width (n ∷ ns) (suc i) some l = grind (arith, argument_places, length-range_with_len, slice_index, get_or-append-add, first_argument width ns i some (omega arith))

divided : (pattern : MultiSlotArgPattern) (n : ℕ) → n * width_of pattern / width_of pattern ≡ n
divided pattern n = grind (arith)

whole : (pattern : MultiSlotArgPattern) (n : ℕ) → n * width_of pattern % width_of pattern ≡ 0
whole pattern n = grind (arith)

heads_are : (pattern : MultiSlotArgPattern) (numbers : List ℕ) → heads (width_of pattern) (arguments_of (width_of pattern) numbers) (length numbers) ≡ numbers
heads_are pattern numbers =
    let w = width_of pattern in
    let own = arguments_of w numbers in
    let long : length (heads w own (length numbers)) ≡ length numbers = length-heads w (length numbers) own in
    same_lists (heads w own (length numbers)) numbers long (λ k d l.
    let short : k < length numbers = omega (arith, long) in
    get_or-map-range_with_len (λ i. slice_index own (w * i) / w) 0 (length numbers) k k d short (omega arith)
    ∙ ap (λ m. m / w) (first_argument w numbers k (some_width pattern) short)
    ∙ divided pattern (get_or numbers k 0)
    ∙ default numbers k d short)
  where
    default : (xs : List ℕ) (k d : ℕ) → k < length xs → get_or xs k 0 ≡ get_or xs k d
    default [] k d l = absurd (omega arith)
    default (x ∷ xs) zero d l = refl
    default (x ∷ xs) (suc k) d l = default xs k d (omega arith)

-- without the place that all keys share they are the arguments of the tuples
own_are : (pattern : MultiSlotArgPattern) (own : List ℕ) (m : ℕ) → Some own ≡ own_arguments pattern (own ++ shared_places pattern m)
own_are pattern own m = grind (arith, append-nil, common_steps)

-- The places of the keys of a slot's part are the numbers of the slot's tuples.
pub places_of_keys : (pattern : MultiSlotArgPattern) (ts : List KeyTuple) (slot : ℕ) → places pattern (places_of_part pattern ts slot) ≡ Some (numbers_of_slot slot ts)
places_of_keys pattern ts slot =
    let w = width_of pattern in
    let numbers = numbers_of_slot slot ts in
    let own = arguments_of w numbers in
    let long : length own ≡ length numbers * w = length-arguments_of w numbers in
    places_are pattern (places_of_part pattern ts slot) own w refl (own_are pattern own (length ts * w)) (ap (λ n. n % w) long ∙ whole pattern (length numbers))
    ∙ ap (λ n. Some (heads w own n)) (ap (λ n. n / w) long ∙ divided pattern (length numbers))
    ∙ ap Some (heads_are pattern numbers)
