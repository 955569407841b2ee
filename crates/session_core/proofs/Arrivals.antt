-- What was written before bytes came, of which the first are forgotten.
use Rattle.std.proofs.Common.{◌≡◌, ◌<◌, ◌-◌, ◌+◌, ◌++◌, ℕ, zero, suc, List, [], ◌∷◌, length, drop, replicate, Some, refl, sym, ap, ◌∙◌, append_assoc, arith}
use Rattle.std.specs.Prelude.{slice_set}
use Rattle.std.specs.List.{slice_get}
use Rattle.std.proofs.lemmas.List.{drop-append-le, drop-replicate, length-replicate, replicate-append-replicate}
use Rattle.std.proofs.lemmas.Option.{same_Some}
use Rattle.std.proofs.lemmas.List.Elements.{All-head}
use Rattle.session_core.specs.declared.heard.Arrival.{Arrival}
use Rattle.session_core.specs.Inner.Heard.{Heard, counts_of, all_counts, HaveBytes}

pub drop-append : {X : Type 0} (n : ℕ) (xs ys : List X) → drop n (xs ++ ys) ≡ drop n xs ++ drop (n - length xs) ys
drop-append zero xs ys = let none : 0 ≡ 0 - length xs = omega arith in ap (λ (m : ℕ). xs ++ drop m ys) none
drop-append (suc n) [] ys = let same : suc n ≡ suc n - 0 = omega arith in ap (λ (m : ℕ). drop m ys) same
drop-append (suc n) (x ∷ xs) ys = let less : n - length xs ≡ suc n - suc (length xs) = omega arith in drop-append n xs ys ∙ ap (λ (m : ℕ). drop n xs ++ drop m ys) less

pub first_count : (n count : ℕ) (rest : List ℕ) → 0 < n → slice_get (replicate n count ++ rest) 0 ≡ Some count
first_count zero count rest h = absurd (omega arith)
first_count (suc n) count rest h = refl

-- an arrival of which a part is forgotten
pub forget_part : (n written count : ℕ) (rest : List ℕ) → count < n → replicate (n - count) written ++ rest ≡ drop count (replicate n written ++ rest)
forget_part n written count rest h =
    sym (drop-append-le count (replicate n written) rest (omega (arith, length-replicate n written, h)) ∙ ap (λ (xs : List ℕ). xs ++ rest) (drop-replicate count n written))

-- what is left after some bytes at the front
pub counts_left : (counts after : List ℕ) (count last left written : ℕ) → after ≡ drop count counts → left ≡ count - length counts → after ++ replicate (last - left) written ≡ drop count (counts ++ replicate last written)
counts_left counts after count last left written e f =
    rw (e, f) (sym (drop-append count counts (replicate last written) ∙ ap (λ (xs : List ℕ). drop count counts ++ xs) (drop-replicate (count - length counts) last written)))

-- what was written before the first byte
pub first_written : (arrivals : List Arrival) (last first : Arrival) → slice_get arrivals 0 ≡ Some first → HaveBytes arrivals → slice_get (all_counts arrivals ++ counts_of last) 0 ≡ Some first.written
first_written [] last first e all = absurd (cc)
first_written (x ∷ arrivals) last first e all =
    let same : x ≡ first = same_Some x first e in
    ap (λ (xs : List ℕ). slice_get xs 0) (append_assoc (counts_of x) (all_counts arrivals) (counts_of last))
    ∙ first_count x.count x.written (all_counts arrivals ++ counts_of last) (All-head (λ (a : Arrival). 0 < a.count) x arrivals all) ∙ ap (λ (a : Arrival). Some a.written) same

pub part_forgotten : (arrivals : List Arrival) (first : Arrival) (count : ℕ) → slice_get arrivals 0 ≡ Some first → count < first.count
    → all_counts (slice_set arrivals 0 (record { written = first.written; count = first.count - count })) ≡ drop count (all_counts arrivals)
part_forgotten [] first count e h = absurd (cc)
part_forgotten (x ∷ arrivals) first count e h =
    let same : first ≡ x = sym (same_Some x first e) in
    ap (λ (a : Arrival). replicate (a.count - count) a.written ++ all_counts arrivals) same
    ∙ forget_part x.count x.written count (all_counts arrivals) (omega (arith, h, ap (λ (a : Arrival). a.count) same))

-- more bytes of the last arrival
pub counts_more : (earlier counts : List ℕ) (next : Arrival) (written len count : ℕ) → next.written ≡ written → count ≡ next.count + len → earlier ++ counts_of next ≡ counts → earlier ++ replicate count written ≡ counts ++ replicate len written
counts_more earlier counts next written len count own sum same =
    ap (λ (n : ℕ). earlier ++ replicate n written) sum ∙ ap (λ (xs : List ℕ). earlier ++ xs) (sym (replicate-append-replicate next.count len written)) ∙ sym (append_assoc earlier _ _)
    ∙ ap (λ (n : ℕ). (earlier ++ replicate next.count n) ++ replicate len written) (sym own) ∙ ap (λ (xs : List ℕ). xs ++ replicate len written) same

pub same_heard : (a b x y : List ℕ) → a ≡ b → x ≡ y → ◌≡◌ {A = Heard} (record { bytes = a; written_before = x }) (record { bytes = b; written_before = y })
same_heard a b x y e f = rw (e, f) refl
