-- The place of an end in entries by ascending ends: as many as there are entries that end before it.
use Rattle.std.proofs.Common.{◌≡◌, ◌<◌, ◌≤◌, ℕ, zero, suc, inl, inr, Bool, true, false, cond, nat_lt, List, [], ◌∷◌, length, map, filter, drop, get_or, set, slice_get, refl, sym, ap, subst, ◌∙◌, arith}
use Rattle.std.specs.Prelude.{Some, None}
use Rattle.std.proofs.lemmas.Bool.{eqb-true, cases_lt, cases_order, lt-ltb, le-ltb, cond-true, cond-false}
use Rattle.std.proofs.lemmas.Bool.Decides.{nat_tests}
use Rattle.std.specs.List.{insert}
use Rattle.std.specs.List.Sorted.{IsNonDecreasing, IsPartitionPoint}
use Rattle.std.proofs.lemmas.Grind.{common_steps}
use Rattle.resp_core.proofs.Cases.{by_test}
use Rattle.cluster_map.specs.RangeMap.{RangeEntry, end_of, ends_at, EndsAfter, Ascends, IsUncovered, insert_entry}
use Rattle.cluster_map.proofs.Ranges.{EndsAfter-smaller, EndsFirstFrom, EndsFirstFrom-head, IsUncovered-none, ending_from, ending_from-skips, ending_from-keeps, ending_below, ending_below-none, insert_entry-front, insert_entry-place, insert_entry-later}

-- what stands in the tail of entries that ascend ends after the number
ends_after_at : {V : Type 0} (end : ℕ) (es : List (RangeEntry V)) → EndsAfter end es → Ascends es → (k d : ℕ) → k < length (map end_of es) → end < get_or (map end_of es) k d
ends_after_at end [] after ascends k d within = absurd (omega arith)
ends_after_at end (e ∷ es) after ascends zero d within = after
ends_after_at end (e ∷ es) after ascends (suc k) d within = ends_after_at end es (EndsAfter-smaller end (end_of e) es after ascends.0) ascends.1 k d (omega arith)

-- the ends of entries that ascend never fall
ends_rise : {V : Type 0} (es : List (RangeEntry V)) → Ascends es → IsNonDecreasing (map end_of es)
ends_rise [] ascends i j d order within = absurd (omega arith)
ends_rise (e ∷ es) ascends zero zero d order within = omega arith
ends_rise (e ∷ es) ascends zero (suc j) d order within = let after = ends_after_at (end_of e) es ascends.0 ascends.1 j d (omega arith) in omega arith
ends_rise (e ∷ es) ascends (suc i) zero d order within = absurd (omega arith)
ends_rise (e ∷ es) ascends (suc i) (suc j) d order within = ends_rise es ascends.1 i j d (omega arith) (omega arith)

-- the same of what a search sees of them
pub ends_seen_rise : {V : Type 0} (es : List (RangeEntry V)) (seen : List ℕ) → Ascends es → seen ≡ map end_of es → IsNonDecreasing seen
ends_seen_rise es seen ascends same = subst IsNonDecreasing (sym same) (ends_rise es ascends)

-- how many of the ends are below this one
abbrev pub below : ℕ → List ℕ → ℕ
below end ends = length (filter (λ e. nat_lt e end) ends)

pub below-most : (end : ℕ) (ends : List ℕ) → below end ends ≤ length ends
below-most end [] = omega arith
below-most end (e ∷ ends) = let most = below-most end ends in by_test (nat_lt e end) (λ h. rw h (omega arith)) (λ h. rw h (omega arith))

below-none : (end : ℕ) (ends : List ℕ) → ((k d : ℕ) → k < length ends → end ≤ get_or ends k d) → below end ends ≡ 0
below-none end [] from = refl
below-none end (e ∷ ends) from = rw (le-ltb e end (from 0 0 (omega arith))) (below-none end ends (λ k d within. from (suc k) d (omega arith)))

-- where the first of ends that never fall is not below, none is
none_from : (end e : ℕ) (ends : List ℕ) (k d : ℕ) → IsNonDecreasing (e ∷ ends) → end ≤ e → k < length (e ∷ ends) → nat_lt (get_or (e ∷ ends) k d) end ≡ nat_lt k (below end (e ∷ ends))
none_from end e ends k d rise from within =
    let all : (i c : ℕ) → i < length (e ∷ ends) → end ≤ get_or (e ∷ ends) i c = λ i c short. let least = rise 0 i c (omega arith) short in omega arith in
    rw (below-none end (e ∷ ends) all) (le-ltb (get_or (e ∷ ends) k d) end (all k d within) ∙ sym (le-ltb k 0 (omega arith)))

ltb-suc : (k n : ℕ) → nat_lt k n ≡ nat_lt (suc k) (suc n)
ltb-suc k n = grind (arith, common_steps)

-- of ends that never fall, those below stand at the places before as many as they are
pub below_at : (end : ℕ) (ends : List ℕ) (k d : ℕ) → IsNonDecreasing ends → k < length ends → nat_lt (get_or ends k d) end ≡ nat_lt k (below end ends)
below_at end [] k d rise within = absurd (omega arith)
below_at end (e ∷ ends) zero d rise within = elim (cases_lt e end) [ inl less ↦ rw (lt-ltb e end less) (sym (lt-ltb 0 (suc (below end ends)) (omega arith))) | inr from ↦ none_from end e ends 0 d rise from within ]
below_at end (e ∷ ends) (suc k) d rise within = elim (cases_lt e end) [
  | inl less ↦ rw (lt-ltb e end less) (below_at end ends k d (λ i j c order short. rise (suc i) (suc j) c (omega arith) (omega arith)) (omega arith) ∙ ltb-suc k (below end ends))
  | inr from ↦ none_from end e ends (suc k) d rise from within
]

-- where the ends below go over into the others, as many are below
pub below_point : (end : ℕ) (ends : List ℕ) (place : ℕ) → place ≤ length ends → IsPartitionPoint (λ e. nat_lt e end ≡ true) (λ e. nat_lt e end ≡ false) ends place → place ≡ below end ends
below_point end [] place most point = omega arith
below_point end (e ∷ ends) zero most point =
    rw (point.1 0 0 (omega arith) (omega arith)) (below_point end ends zero (omega arith) ((λ k d low high. absurd (omega arith)), (λ k d low high. point.1 (suc k) d (omega arith) (omega arith))))
below_point end (e ∷ ends) (suc place) most point =
    rw (point.0 0 0 (omega arith) (omega arith)) (ap suc (below_point end ends place (omega arith) ((λ k d low high. point.0 (suc k) d (omega arith) (omega arith)), (λ k d low high. point.1 (suc k) d (omega arith) (omega arith)))))

-- how many entries end before this end
abbrev pub place_in : {V : Type 0} → List (RangeEntry V) → ℕ → ℕ
place_in es end = length (ending_below end es)

-- an entry that ends before it is counted, and the place of an end that none is below is the first
place_in-counts : {V : Type 0} (e : RangeEntry V) (es : List (RangeEntry V)) (end : ℕ) → end_of e < end → place_in (e ∷ es) end ≡ suc (place_in es end)
place_in-counts e es end below = ap length (cond-true _ _ _ (lt-ltb (end_of e) end below))

place_in-first : {V : Type 0} (e : RangeEntry V) (es : List (RangeEntry V)) (end : ℕ) → Ascends (e ∷ es) → end ≤ end_of e → place_in (e ∷ es) end ≡ 0
place_in-first e es end ascends from = grind (arith, common_steps, cond-false, le-ltb, ending_below-none)

-- so it is as many as there are ends below it
below-ends : {V : Type 0} (es : List (RangeEntry V)) (end : ℕ) → below end (map end_of es) ≡ place_in es end
below-ends [] end = refl
below-ends (e ∷ es) end = by_test (nat_lt (end_of e) end) (λ h. rw h (ap suc (below-ends es end))) (λ h. rw h (below-ends es end))

pub place_in-most : {V : Type 0} (es : List (RangeEntry V)) (end : ℕ) → place_in es end ≤ length es
place_in-most [] end = omega arith
place_in-most (e ∷ es) end = let most = place_in-most es end in by_test (nat_lt (end_of e) end) (λ h. rw h (omega arith)) (λ h. rw h (omega arith))

-- the place that a search finds
pub place_found : {V : Type 0} (es : List (RangeEntry V)) (seen : List ℕ) (end place : ℕ) → place ≡ below end seen → seen ≡ map end_of es → place ≡ place_in es end
place_found es seen end place found same = found ∙ ap (below end) same ∙ below-ends es end

-- the entries from that place on are those that end there or after it
pub ending_from-place : {V : Type 0} (es : List (RangeEntry V)) (end : ℕ) → Ascends es → drop (place_in es end) es ≡ ending_from end es
ending_from-place [] end ascends = refl
ending_from-place (e ∷ es) end ascends = grind (arith, common_steps, cases_lt, place_in-counts, ending_from-skips, place_in-first, ending_from-keeps, ending_from-place es end ascends.1)

pub cons_cond : {X : Type 0} (b : Bool) (x : X) (xs ys : List X) → x ∷ cond b xs ys ≡ cond b (x ∷ xs) (x ∷ ys)
cons_cond true x xs ys = refl
cons_cond false x xs ys = refl

-- an insert writes over the entry at the place, where that has the end, and goes between the entries elsewhere
pub insert_entry-at : {V : Type 0} (es : List (RangeEntry V)) (start end : ℕ) (value : V) → Ascends es
    → insert_entry es start end value
    ≡ cond (ends_at end (slice_get es (place_in es end))) (set es (place_in es end) (start, end, value)) (insert es (place_in es end) (start, end, value))
insert_entry-at [] start end value ascends = refl
insert_entry-at (e ∷ es) start end value ascends = grind (arith, common_steps, cases_order, nat_tests, place_in-first, insert_entry-place, insert_entry-front, place_in-counts, insert_entry-later, cons_cond, insert_entry-at es start end value ascends.1)

-- the same, from what a search and a test said of the entries
pub set-is_insert_entry : {V : Type 0} (es seen : List (RangeEntry V)) (place start end : ℕ) (value : V) → Ascends es → seen ≡ es → place ≡ place_in es end → ends_at end (slice_get seen place) ≡ true → set es place (start, end, value) ≡ insert_entry es start end value
set-is_insert_entry es seen place start end value ascends same at test = grind (arith, slice_get, set, insert_entry-at, cond-true)

pub insert-is_insert_entry : {V : Type 0} (es seen : List (RangeEntry V)) (place start end : ℕ) (value : V) → Ascends es → seen ≡ es → place ≡ place_in es end → ends_at end (slice_get seen place) ≡ false → insert es place (start, end, value) ≡ insert_entry es start end value
insert-is_insert_entry es seen place start end value ascends same at test = grind (arith, slice_get, insert_entry-at, cond-false)

-- what stands at a place, and from it on
pub drop-found : {X : Type 0} (xs : List X) (place : ℕ) (x : X) → slice_get xs place ≡ Some x → drop place xs ≡ x ∷ drop (suc place) xs
drop-found [] place x found = cc
drop-found (y ∷ ys) zero x found = let same : y ≡ x = cc in ap (λ z. z ∷ ys) same
drop-found (y ∷ ys) (suc place) x found = drop-found ys place x found

drop-not_found : {X : Type 0} (xs : List X) (place : ℕ) → slice_get xs place ≡ None → drop place xs ≡ []
drop-not_found [] zero found = refl
drop-not_found [] (suc place) found = refl
drop-not_found (y ∷ ys) zero found = cc
drop-not_found (y ∷ ys) (suc place) found = drop-not_found ys place found

-- what a look-up at the place of a slot gives: the entry that ends first, or that there is none
pub EndsFirstFrom-found : {V : Type 0} (es seen : List (RangeEntry V)) (place slot : ℕ) (e : RangeEntry V) → Ascends es → seen ≡ es → place ≡ place_in es slot → slice_get seen place ≡ Some e → EndsFirstFrom es slot e
EndsFirstFrom-found es seen place slot e ascends same at found =
    let there : slice_get es (place_in es slot) ≡ Some e = ap (λ z. slice_get z (place_in es slot)) (sym same) ∙ ap (slice_get seen) (sym at) ∙ found in
    let head : drop (place_in es slot) es ≡ e ∷ drop (suc (place_in es slot)) es = drop-found es (place_in es slot) e there in
    EndsFirstFrom-head es slot e _ ascends (sym (ending_from-place es slot ascends) ∙ head)

pub IsUncovered-not_found : {V : Type 0} (es seen : List (RangeEntry V)) (place slot : ℕ) → Ascends es → seen ≡ es → place ≡ place_in es slot → slice_get seen place ≡ None → IsUncovered es slot
IsUncovered-not_found es seen place slot ascends same at found =
    let none : slice_get es (place_in es slot) ≡ None = ap (λ z. slice_get z (place_in es slot)) (sym same) ∙ ap (slice_get seen) (sym at) ∙ found in
    IsUncovered-none es slot (sym (ending_from-place es slot ascends) ∙ drop-not_found es (place_in es slot) none)

-- an entry with an end is there, and one with the same end leaves the ends as they are
pub there-within : {V : Type 0} (es : List (RangeEntry V)) (place end : ℕ) → ends_at end (slice_get es place) ≡ true → place < length es
there-within [] zero end test = cc
there-within [] (suc place) end test = cc
there-within (e ∷ es) zero end test = omega arith
there-within (e ∷ es) (suc place) end test = let within = there-within es place end test in omega arith

pub ends-set : {V : Type 0} (es : List (RangeEntry V)) (place start end : ℕ) (value : V) → ends_at end (slice_get es place) ≡ true → map end_of (set es place (start, end, value)) ≡ map end_of es
ends-set [] place start end value test = refl
ends-set (e ∷ es) zero start end value test = ap (λ z. z ∷ map end_of es) (sym (eqb-true (end_of e) end test))
ends-set (e ∷ es) (suc place) start end value test = ap (λ z. end_of e ∷ z) (ends-set es place start end value test)

-- the ends of entries with one more
pub ends-insert : {V : Type 0} (es : List (RangeEntry V)) (place start end : ℕ) (value : V) → insert (map end_of es) place end ≡ map end_of (insert es place (start, end, value))
ends-insert [] zero start end value = refl
ends-insert [] (suc place) start end value = refl
ends-insert (e ∷ es) zero start end value = refl
ends-insert (e ∷ es) (suc place) start end value = ap (λ z. end_of e ∷ z) (ends-insert es place start end value)
