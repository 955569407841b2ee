-- What is left of an input while its lines are read.
use Rattle.std.proofs.Common.{◌≡◌, ◌≢◌, ℕ, ◌+◌, ◌-◌, List, [], ◌∷◌, ◌++◌, length, take, refl, sym, ◌∙◌, ap, true, false, Bool, cond, ◌==◌, arith, zero, suc, All, add-one}
use Rattle.std.specs.Prelude.{Option, Some, None, Result, Ok, Err, OnErr}
use Rattle.std.proofs.lemmas.Bool.Decides.{nat_tests}
use Rattle.std.specs.Io.{StopsAt}
use Rattle.std.specs.Io.BufRead.{take_through, drop_through}
use Rattle.std.specs.Io.KnownBytes.{Consumes}
use Rattle.slotroute_serve.specs.Lines.{after_lines, after_map, StopsInLine, StopsInMap}
use Rattle.slotroute_serve.specs.Streams.{Leaves}

-- an input is its first line and what follows it
through : (xs : List ℕ) → xs ≡ take_through 10 xs ++ drop_through 10 xs
through [] = refl
through (x ∷ xs) = elim (x == 10) as (λ v. x ∷ xs ≡ cond v (x ∷ []) (x ∷ take_through 10 xs) ++ cond v xs (drop_through 10 xs)) [ true ↦ refl | false ↦ ap (λ t. x ∷ t) (through xs) ]

not_ten : (x : ℕ) → x ≢ 10 → x == 10 ≡ false
not_ten x h = grind (arith, nat_tests)

-- after another byte than a line feed, what follows the first line is the same
other : (x : ℕ) (xs : List ℕ) → x ≢ 10 → drop_through 10 (x ∷ xs) ≡ drop_through 10 xs
other x xs h = ap (λ v. cond v xs (drop_through 10 xs)) (not_ten x h)

-- of two bytes or more the first is not a line feed, and the others stop at one too
all_but_last : (b c : ℕ) (bs : List ℕ) → length (b ∷ c ∷ bs) - 1 ≡ suc (length (c ∷ bs) - 1)
all_but_last b c bs = omega arith

others_stop : (b c : ℕ) (bs : List ℕ) → StopsAt (b ∷ c ∷ bs) 10 → (b ≢ 10) × StopsAt (c ∷ bs) 10
others_stop b c bs h =
    let stops : All (λ x. x ≢ 10) (b ∷ take (length (c ∷ bs) - 1) (c ∷ bs)) = rw (all_but_last b c bs) at h in
    (stops 0 b (omega arith), λ k d below. stops (suc k) d (omega arith))

-- what is left after some bytes of a line ends in what follows the line
ends : (bs ys : List ℕ) → StopsAt bs 10 → (more : List ℕ) × (ys ≡ more ++ drop_through 10 (bs ++ ys))
ends [] ys h = (take_through 10 ys, through ys)
ends (b ∷ []) ys h =
    let P : Bool → Type 0 = λ v. (more : List ℕ) × (ys ≡ more ++ cond v ys (drop_through 10 ys)) in
    elim (b == 10) as P [ true ↦ ([], refl) | false ↦ (take_through 10 ys, through ys) ]
ends (b ∷ c ∷ bs) ys h =
    let (first, rest) = others_stop b c bs h in
    let (more, e) = ends (c ∷ bs) ys rest in
    (more, e ∙ ap (λ t. more ++ t) (sym (other b (c ∷ bs ++ ys) first)))

-- a read that failed in a line
pub stopped : {T E : Type 0} (r : Result T E) (old new : Option (List ℕ)) (bs : List ℕ) → Consumes old new bs → StopsAt bs 10 → OnErr r (Leaves old new StopsInLine)
stopped (Ok x) old new bs h k = tt
stopped (Err e) None new bs h k = tt
stopped (Err e) (Some xs) None bs h k = absurd h
stopped (Err e) (Some xs) (Some ys) bs h k = let (more, left) = ends bs ys k in record { read = bs; more = more; begun = h; ends = rw h left }

-- one more line
after_lines-suc : (count : ℕ) (xs : List ℕ) → after_lines (suc count) xs ≡ drop_through 10 (after_lines count xs)
after_lines-suc zero xs = refl
after_lines-suc (suc count) xs = after_lines-suc count (drop_through 10 xs)

pub after_lines-more : (count : ℕ) (xs : List ℕ) → after_lines (count + 1) xs ≡ drop_through 10 (after_lines count xs)
after_lines-more count xs = rw (add-one count) (after_lines-suc count xs)

-- a line that was read whole
pub line_read : (xs : List ℕ) → StopsInLine xs (drop_through 10 xs)
line_read xs = record { read = take_through 10 xs; more = []; begun = through xs; ends = refl }

-- nothing of a line was read
pub not_read : (xs : List ℕ) → StopsInLine xs xs
not_read xs = record { read = []; more = take_through 10 xs; begun = refl; ends = through xs }

-- after the map the reading stopped right after the line that ends it
pub stops_after_map : (input : List ℕ) → StopsInMap input (after_map input)
stops_after_map input = grind (arith, after_lines-more, line_read)

pub left_after_map : (input left : Option (List ℕ)) → Leaves input left (λ bytes rest. rest ≡ after_map bytes) → Leaves input left StopsInMap
left_after_map None left h = tt
left_after_map (Some bytes) None h = absurd h
left_after_map (Some bytes) (Some rest) h = rw h (stops_after_map bytes)
