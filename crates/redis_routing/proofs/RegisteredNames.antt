-- Names that may be registered, by the words that they have.
use Rattle.std.proofs.Common.{◌≡◌, ℕ, suc, ◌<◌, ◌≤◌, List, [], ◌∷◌, ◌++◌, true, false, ◌&&◌, ◌||◌, refl, sym, ap, arith, length, take, drop}
use Rattle.std.specs.Prelude.{Contains, nat_le, not}
use Rattle.std.specs.List.{list_all, before_first, after_first, position_or_len}
use Rattle.std.specs.Str.{bytes_eq}
use Rattle.std.proofs.lemmas.Bool.Decides.{nat_tests}
use Rattle.std.proofs.lemmas.List.{length-map}
use Rattle.std.proofs.lemmas.Slice.Eq.{bytes_eq-Decides}
use Rattle.std.proofs.lemmas.Grind.{common_steps}
use native.Mathlib.Numerals.{unary_clauses}
use Rattle.redis_routing.specs.Lookup.{has_name}
use Rattle.redis_routing.specs.TwoWords.{two_word_names, takes_second}
use Rattle.redis_routing.specs.Registry.{is_bad_name, is_one_word, is_space, has_space, is_empty}
use Rattle.redis_routing.specs.Upper.{upper}
use Rattle.resp_core.proofs.Cases.{by_test, and_first, and_second}
use Rattle.std.proofs.lemmas.Bool.{or_right}

pub no_space : (text : List ℕ) → ¬ (Contains text 32) → has_space text ≡ false
no_space [] h = refl
no_space (x ∷ text) h = grind (arith, common_steps, no_space text (λ c. h (suc c.0, omega (arith, c.1), c.2)))

pub some_space : (first second : List ℕ) → has_space (first ++ 32 ∷ second) ≡ true
some_space [] second = refl
some_space (x ∷ first) second = or_right (is_space x) (has_space (first ++ 32 ∷ second)) (some_space first second)

length_taken : (first rest : List ℕ) → take (length first) (first ++ rest) ≡ first
length_taken [] rest = refl
length_taken (x ∷ first) rest = ap (λ xs. x ∷ xs) (length_taken first rest)

length_dropped : (first : List ℕ) (x : ℕ) (rest : List ℕ) → drop (suc (length first)) (first ++ x ∷ rest) ≡ rest
length_dropped [] x rest = refl
length_dropped (y ∷ first) x rest = length_dropped first x rest

-- the first space
space_at : (first second : List ℕ) → has_space first ≡ false → position_or_len is_space (first ++ 32 ∷ second) ≡ length first
space_at [] second h = refl
space_at (x ∷ first) second h = by_test (is_space x)
    (λ equal. cc)
    (λ unlike. rw unlike (let rest = space_at first second (rw unlike at h) in omega (arith, rest)))

-- the word before it
before_space : (first second : List ℕ) → has_space first ≡ false → before_first is_space (first ++ 32 ∷ second) ≡ first
before_space first second h = rw (space_at first second h) (length_taken first (32 ∷ second))

-- what stands after it
after_space : (first second : List ℕ) → has_space first ≡ false → after_first is_space (first ++ 32 ∷ second) ≡ second
after_space first second h = rw (space_at first second h) (simp unary_clauses (length_dropped first 32 second))

-- a name that a space cuts in two
pub bad_name_cut : (name first second : List ℕ) → name ≡ first ++ 32 ∷ second → ¬ (Contains first 32)
    → not (takes_second first && is_one_word second) ≡ is_bad_name name
bad_name_cut name first second is alone = grind (arith, some_space, before_space, no_space, after_space)

-- a name without a space
pub bad_name_alone : (name : List ℕ) → ¬ (Contains name 32) → (is_empty name || takes_second name) ≡ is_bad_name name
bad_name_alone name alone = sym (rw (no_space name alone) refl)

-- no name of a table is longer than its longest
few_bytes : (names : List (List ℕ)) (n : List ℕ) → list_all (λ w. nat_le (length w) 8) names ≡ true → has_name names n ≡ true → length n ≤ 8
few_bytes [] n short there = cc
few_bytes (w ∷ names) n short there = by_test (bytes_eq w n)
    (λ equal. let same : w ≡ n = (bytes_eq-Decides w n).0 equal in
    let first = and_first (nat_le (length w) 8) (list_all (λ w. nat_le (length w) 8) names) short in
    rw (← same) (grind (arith, nat_tests, first)))
    (λ unlike. few_bytes names n (and_second (nat_le (length w) 8) (list_all (λ w. nat_le (length w) 8) names) short) (rw unlike at there))

-- a first word that is too long takes no second one
pub takes_none : (first : List ℕ) → 8 < length first → false ≡ takes_second (upper first)
unfolding takes_second
takes_none first long = by_test (has_name two_word_names (upper first))
    (λ there. let few : length (upper first) ≤ 8 = few_bytes two_word_names (upper first) refl there in
    let same : length (upper first) ≡ length first = length-map first _ in absurd (omega arith))
    (λ none. sym none)
