-- The numbers of pages, from which a place is found by a look at few ends.
use Rattle.std.proofs.Common.{◌≡◌, ◌<◌, ◌≤◌, ◌+◌, ◌*◌, ◌/◌, ◌^◌, ℕ, zero, suc, false, nat_lt, List, [], ◌∷◌, ◌++◌, length, map, take, drop, get_or, sym, ap, ◌∙◌, arith}
use Rattle.std.proofs.lemmas.Bool.{lt-ltb, le-ltb}
use Rattle.std.proofs.lemmas.Bool.Decides.{nat_tests}
use Rattle.std.proofs.lemmas.List.{get_or-take, get_or-drop, take-append-drop, length-take-le, length-drop}
use Rattle.std.proofs.lemmas.List.Edits.{insert-append_left}
use Rattle.std.proofs.Math.Nat.{div-mul-le_self}
use Rattle.std.specs.List.{insert}
use Rattle.std.specs.Int.{from_bool}
use Rattle.std.specs.List.Sorted.{IsNonDecreasing}
use Rattle.std.proofs.lemmas.Grind.{common_steps}
use Rattle.resp_core.proofs.Cases.{by_test}
use Rattle.cluster_map.specs.RangeIndex.{ArePages, IsIndex}
use Rattle.cluster_map.specs.RangeMap.{RangeEntry, end_of}
use Rattle.cluster_map.proofs.Places.{below, below_at, ends-insert}

-- more of the ends are below a greater one
pub below-more : (low high : ℕ) (ends : List ℕ) → low ≤ high → below low ends ≤ below high ends
below-more low high [] order = omega arith
below-more low high (e ∷ ends) order = grind (arith, common_steps, below-more low high ends order)

-- and of more ends
pub below-insert : (end : ℕ) (ends : List ℕ) (place e : ℕ) → below end ends ≤ below end (insert ends place e)
below-insert end [] place e = omega arith
below-insert end (x ∷ xs) zero e = by_test (nat_lt e end) (λ t. rw t (omega arith)) (λ t. rw t (omega arith))
below-insert end (x ∷ xs) (suc place) e = let rest = below-insert end xs place e in by_test (nat_lt x end) (λ t. rw t (omega arith)) (λ t. rw t (omega arith))

-- a number that passes the same tests from a place on
squeeze : (k c b : ℕ) → k ≤ b → c < 16 → ((i : ℕ) → i < 16 → nat_lt i c ≡ nat_lt (k + i) b) → k + c ≡ b
squeeze k zero b known few test =
    let past : nat_lt (k + 0) b ≡ false = sym (test 0 few) ∙ le-ltb 0 0 (omega arith) in
    let most : b ≤ k + 0 = grind (arith, nat_tests) in
    omega arith
squeeze k (suc c) b known few test = grind (arith, common_steps, le-ltb (suc c) (suc c) (omega arith), lt-ltb c (suc c) (omega arith), nat_tests)

-- where not all of 16 ends are below, those before them and of them are all that are
pub below_near : (end k : ℕ) (ends window : List ℕ) → IsNonDecreasing ends → k ≤ below end ends → k + 16 ≤ length ends → window ≡ take 16 (drop k ends) → below end window < 16 → k + below end window ≡ below end ends
below_near end k ends window rise known long same few =
    let at : (i d : ℕ) → i < 16 → get_or window i d ≡ get_or ends (k + i) d = λ i d w. ap (λ z. get_or z i d) same ∙ get_or-take 16 (drop k ends) i d w ∙ get_or-drop k ends i d in
    let rest : 16 ≤ length (drop k ends) = rw (length-drop k ends) (omega arith) in
    let size : length window ≡ 16 = ap length same ∙ length-take-le 16 (drop k ends) rest in
    let rises : IsNonDecreasing window = λ i j d order within. (let a = at i d (omega arith) in let b = at j d (omega arith) in let r = rise (k + i) (k + j) d (omega arith) (omega arith) in omega arith) in
    squeeze k (below end window) (below end ends) known few (λ i w.
    sym (below_at end window i 0 rises (omega arith)) ∙ ap (λ z. nat_lt z end) (at i 0 w) ∙ below_at end ends (k + i) 0 rise (omega arith))

-- a page begins at its slots or before them
page_begins : (slot bits : ℕ) → slot / 2 ^ bits * 2 ^ bits ≤ slot
page_begins slot bits = div-mul-le_self slot (2 ^ bits)

-- the number of a slot's page is one that a place may begin from
pub page_known : (bits slot d : ℕ) (numbers ends : List ℕ) → ArePages bits numbers ends → slot / 2 ^ bits < length numbers → get_or numbers (slot / 2 ^ bits) d ≤ below slot ends
page_known bits slot d numbers ends pages within = grind (arith, common_steps, below-more (slot / 2 ^ bits * 2 ^ bits) slot ends (page_begins slot bits), page_begins slot bits)

-- one end more, by its test as a number
pub below-one : (end e : ℕ) (ends : List ℕ) (one : ℕ) → one ≡ from_bool (nat_lt e end) → below end (e ∷ ends) ≡ one + below end ends
below-one end e ends one is = grind (arith, common_steps)

-- an index is made of ends and the numbers of pages
pub IsIndex-written : {V : Type 0} (es : List (RangeEntry V)) (ends numbers index : List ℕ) (bits : ℕ) → ends ≡ map end_of es → ArePages bits numbers (map end_of es) → bits < 16 → index ≡ ends ++ numbers → IsIndex es index bits
IsIndex-written es ends numbers index bits same pages small whole = grind (arith, common_steps)

-- it is one of other entries that have the same ends
pub IsIndex-same : {V : Type 0} (es others : List (RangeEntry V)) (index : List ℕ) (bits : ℕ) → map end_of others ≡ map end_of es → IsIndex es index bits → IsIndex others index bits
IsIndex-same es others index bits same is = grind (arith, common_steps)

-- and with an end put in it is that of the entries with one more
pub IsIndex-insert : {V : Type 0} (es : List (RangeEntry V)) (index : List ℕ) (bits place start end : ℕ) (value : V) → place ≤ length es → IsIndex es index bits → IsIndex (insert es place (start, end, value)) (insert index place end) bits
IsIndex-insert es index bits place start end value within is =
    let n = length es in
    let room : place ≤ length (take n index) = rw (length-take-le n index is.long) within in
    let ends : insert (take n index) place end ≡ map end_of (insert es place (start, end, value)) = ap (λ z. insert z place end) is.ends ∙ ends-insert es place start end value in
    let pages : ArePages bits (drop n index) (map end_of (insert es place (start, end, value))) = λ page d w. (
    let old = is.pages page d w in
    let more = below-insert (page * 2 ^ bits) (map end_of es) place end in
    let same = ap (below (page * 2 ^ bits)) (ends-insert es place start end value) in
    omega arith
    ) in
    IsIndex-written (insert es place (start, end, value)) (insert (take n index) place end) (drop n index) (insert index place end) bits ends pages is.small
    (ap (λ z. insert z place end) (sym (take-append-drop n index)) ∙ insert-append_left (take n index) (drop n index) place end room)

-- the ends that a search cuts off an index are those of the entries
pub seen_ends : {V : Type 0} (es : List (RangeEntry V)) (index seen ends : List ℕ) (bits count : ℕ) → IsIndex es index bits → seen ≡ index → count ≡ length es → ends ≡ take count seen → ends ≡ map end_of es
seen_ends es index seen ends bits count is same size cut = cut ∙ ap (take count) same ∙ ap (λ n. take n index) size ∙ is.ends
