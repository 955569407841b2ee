-- Entries in reverse that are sorted by their ends, of which the first of each end is kept, are what inserts in order leave.
use Rattle.std.proofs.Common.{◌≡◌, ◌<◌, ◌≤◌, ◌+◌, ℕ, suc, inl, inr, ◌⊎◌, Bool, true, nat_lt, nat_eq, nat_cmp, List, [], ◌∷◌, length, get_or, filter, reverse, refl, sym, ap, subst, ◌∙◌, arith}
use Rattle.std.proofs.lemmas.Bool.{eqb-true}
use Rattle.std.proofs.lemmas.Bool.Decides.{nat_tests}
use Rattle.std.specs.Prelude.{None}
use Rattle.std.proofs.lemmas.List.{length-append}
use Rattle.std.specs.List.{dedup, dedup_from, AllAdjacentBelow}
use Rattle.std.specs.List.Sorted.{IsNonDecreasingBy, IsStableByKey, ties}
use Rattle.std.specs.Ordering.{is_lt}
use Rattle.std.proofs.lemmas.Grind.{common_steps}
use Rattle.resp_core.proofs.Cases.{by_test}
use Rattle.cluster_map.specs.RangeMap.{RangeEntry, end_of, EndsAfter, Ascends, insert_entry, insert_entries}
use Rattle.cluster_map.proofs.Ranges.{ending_below, ending_above}
use Rattle.cluster_map.proofs.Finds.{by_order, find, find-filter, first_of, ends_with, find-reverse, find-insert_entries, Ascends-insert_entries, same_ranges}

-- neighbours of which the second ends later each ascend
pub Ascends-adjacent : {V : Type 0} (es : List (RangeEntry V)) → AllAdjacentBelow (λ x y. true ≡ nat_lt (end_of x) (end_of y)) es (length es) → Ascends es
Ascends-adjacent [] each = tt
Ascends-adjacent (e ∷ []) each = (tt, tt)
Ascends-adjacent (e ∷ f ∷ es) each =
    let less : true ≡ nat_lt (end_of e) (end_of f) = each 0 e (omega arith) in
    let ends : end_of e < end_of f = grind (arith, nat_tests) in (
      ends,
      Ascends-adjacent (f ∷ es) (λ k d below.
          let next : suc k + 1 ≡ suc (k + 1) = omega arith in
          subst (λ z. true ≡ nat_lt (end_of (get_or (f ∷ es) k d)) (end_of (get_or (e ∷ f ∷ es) z d))) next (each (suc k) d (omega arith))),
    )

-- whether two entries have one end
abbrev pub same_end : {V : Type 0} → RangeEntry V → RangeEntry V → Bool
same_end x y = nat_eq (end_of x) (end_of y)

-- what goes has the end of an entry before it
find-dedup_from : {V : Type 0} (e : ℕ) (k : RangeEntry V) (xs : List (RangeEntry V)) → find e (dedup_from same_end k xs) ≡ find e (k ∷ xs)
find-dedup_from e k [] = refl
find-dedup_from e k (x ∷ xs) = grind (arith, common_steps, find-dedup_from e k xs, find-dedup_from e x xs)

find-dedup : {V : Type 0} (e : ℕ) (xs : List (RangeEntry V)) → find e (dedup same_end xs) ≡ find e xs
find-dedup e [] = refl
find-dedup e (x ∷ xs) = find-dedup_from e x xs

-- the ends never fall
abbrev EndsFrom : {V : Type 0} → ℕ → List (RangeEntry V) → Type 0
EndsFrom low [] = Unit {0}
EndsFrom low (e ∷ es) = low ≤ end_of e

abbrev NeverFalls : {V : Type 0} → List (RangeEntry V) → Type 0
NeverFalls [] = Unit {0}
NeverFalls (e ∷ es) = EndsFrom (end_of e) es × NeverFalls es

never_falls : {V : Type 0} (es : List (RangeEntry V)) → IsNonDecreasingBy end_of es → NeverFalls es
never_falls [] order = tt
never_falls (e ∷ []) order = (tt, tt)
never_falls (e ∷ f ∷ es) order = (order 0 1 e (omega arith) (omega arith), never_falls (f ∷ es) (λ i j d ordered within. order (suc i) (suc j) d (omega arith) (omega arith)))

EndsFrom-smaller : {V : Type 0} (low high : ℕ) (es : List (RangeEntry V)) → low ≤ high → EndsFrom high es → EndsFrom low es
EndsFrom-smaller low high [] less from = tt
EndsFrom-smaller low high (e ∷ es) less from = omega arith

EndsAfter-dedup_from : {V : Type 0} (low : ℕ) (k : RangeEntry V) (xs : List (RangeEntry V)) → low < end_of k → EndsAfter low (dedup_from same_end k xs)
EndsAfter-dedup_from low k [] less = less
EndsAfter-dedup_from low k (x ∷ xs) less = by_test (same_end x k) (λ same. rw same (EndsAfter-dedup_from low k xs less)) (λ apart. rw apart less)

Ascends-dedup_from : {V : Type 0} (k : RangeEntry V) (xs : List (RangeEntry V)) → NeverFalls (k ∷ xs) → Ascends (dedup_from same_end k xs)
Ascends-dedup_from k [] order = (tt, tt)
Ascends-dedup_from k (x ∷ xs) order =
    let first : end_of k ≤ end_of x = order.0 in
    by_test (same_end x k)
    (λ same. rw same (Ascends-dedup_from k xs (EndsFrom-smaller (end_of k) (end_of x) xs first order.1.0, order.1.1)))
    (λ apart. let less : end_of k < end_of x = grind (arith, nat_tests) in rw apart (EndsAfter-dedup_from (end_of k) x xs less, Ascends-dedup_from x xs order.1))

Ascends-dedup : {V : Type 0} (xs : List (RangeEntry V)) → NeverFalls xs → Ascends (dedup same_end xs)
Ascends-dedup [] order = tt
Ascends-dedup (x ∷ xs) order = Ascends-dedup_from x xs order

-- a stable sort by ends keeps the entries of an end in order
filter_same : {X : Type 0} (p q : X → Bool) → ((x : X) → p x ≡ q x) → (xs : List X) → filter p xs ≡ filter q xs
filter_same p q h [] = refl
filter_same p q h (x ∷ xs) = rw (h x, filter_same p q h xs) refl

none_or_one : {X : Type 0} (p : X → Bool) (xs : List X) → (filter p xs ≡ []) ⊎ ((x : X) × (p x ≡ true))
none_or_one p [] = inl refl
none_or_one p (x ∷ xs) = by_test (p x) (λ h. inr (x, h)) (λ h. rw h (none_or_one p xs))

ties_ends : {V : Type 0} (x y : RangeEntry V) (e : ℕ) → nat_eq x.1 e ≡ true → ties (λ a b. is_lt (nat_cmp a.1 b.1)) x y ≡ ends_with e y
ties_ends x y e h = let k : x.1 ≡ e = eqb-true x.1 e h in by_order x.1 y.1 (λ l. grind (arith, nat_tests)) (λ l. grind (arith, nat_tests)) (λ l. grind (arith, nat_tests))

same_at : {V : Type 0} (xs ys : List (RangeEntry V)) → IsStableByKey end_of nat_cmp xs ys → (e : ℕ) (x : RangeEntry V) → ends_with e x ≡ true → filter (ends_with e) ys ≡ filter (ends_with e) xs
same_at xs ys stable e x h =
    let less : RangeEntry _ → RangeEntry _ → Bool = λ a b. is_lt (nat_cmp a.1 b.1) in
    sym (filter_same (ties less x) (ends_with e) (λ y. ties_ends x y e h) ys) ∙ stable x ∙ filter_same (ties less x) (ends_with e) (λ y. ties_ends x y e h) xs

same_filter : {V : Type 0} (xs ys : List (RangeEntry V)) → IsStableByKey end_of nat_cmp xs ys → (e : ℕ) → filter (ends_with e) ys ≡ filter (ends_with e) xs
same_filter xs ys stable e = grind (arith, none_or_one, ends_with, same_at)

find-stable : {V : Type 0} (xs ys : List (RangeEntry V)) → IsStableByKey end_of nat_cmp xs ys → (e : ℕ) → find e ys ≡ find e xs
find-stable xs ys stable e = find-filter e ys ∙ ap (first_of None) (same_filter xs ys stable e) ∙ sym (find-filter e xs)

-- sorted in reverse, each end once, they are what the inserts leave
pub dedup-is_insert_entries : {V : Type 0} (es sorted : List (RangeEntry V)) → IsStableByKey end_of nat_cmp (reverse es) sorted → IsNonDecreasingBy end_of sorted → dedup same_end sorted ≡ insert_entries [] es
dedup-is_insert_entries es sorted stable order =
    same_ranges (dedup same_end sorted) (insert_entries [] es) (Ascends-dedup sorted (never_falls sorted order)) (Ascends-insert_entries [] es tt)
    (λ e. find-dedup e sorted ∙ find-stable (reverse es) sorted stable e ∙ find-reverse e es ∙ sym (find-insert_entries e [] es tt))

-- there are no more entries than were put in
apart : {V : Type 0} (end : ℕ) (es : List (RangeEntry V)) → length (ending_below end es) + length (ending_above end es) ≤ length es
apart end [] = omega arith
apart end (e ∷ es) = grind (arith, common_steps, apart end es)

pub length-insert_entries : {V : Type 0} (es more : List (RangeEntry V)) → length (insert_entries es more) ≤ length es + length more
length-insert_entries es [] = omega arith
length-insert_entries es (x ∷ xs) = grind (arith, common_steps, apart, length-append, length-insert_entries (insert_entry es x.0 x.1 x.2) xs)
