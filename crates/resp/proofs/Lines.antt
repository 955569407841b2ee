-- Where the text of a line ends.
use Rattle.std.proofs.Common.{◌≡◌, ◌≢◌, ℕ, zero, suc, ◌+◌, ◌<◌, ◌≤◌, Bool, true, false, ◌||◌, eqb, List, [], ◌∷◌, ◌++◌, length, get_or, take, drop, append_assoc, Ok, refl, sym, ap, ◌∙◌, arith}
use Rattle.std.specs.List.{AllByRecursion}
use Rattle.std.proofs.lemmas.Bool.Decides.{nat_tests}
use Rattle.std.proofs.lemmas.List.{length-append, take_at, drop_at, take-append-drop, length-take-le}
use Rattle.std.proofs.lemmas.Grind.{common_steps}
use Rattle.resp_core.proofs.Cases.{by_test}
use Rattle.resp.specs.Forms.{IsInLine}
use Rattle.resp.specs.Reading.{after_line_end, text_until_line_end, after_text}

abbrev pub is_end : ℕ → Bool
is_end b = eqb b 13 || eqb b 10

-- a text and what follows it are the bytes
pub line_is : (bytes : List ℕ) → bytes ≡ text_until_line_end bytes ++ after_text bytes
unfolding text_until_line_end after_text
line_is [] = refl
line_is (b ∷ bytes) = grind (arith, common_steps, line_is bytes)

pub text_in_line : (bytes : List ℕ) → AllByRecursion IsInLine (text_until_line_end bytes)
unfolding text_until_line_end
text_in_line [] = tt
text_in_line (b ∷ bytes) = grind (arith, common_steps, text_in_line bytes)

-- the text of a line that has its end
pub text_again : (text rest : List ℕ) → AllByRecursion IsInLine text → text_until_line_end (text ++ (13 ∷ rest)) ≡ text
unfolding text_until_line_end
text_again [] rest h = refl
text_again (b ∷ text) rest h = grind (arith, common_steps, text_again text rest h.1)

pub after_again : (text rest : List ℕ) → AllByRecursion IsInLine text → after_text (text ++ (13 ∷ rest)) ≡ 13 ∷ rest
unfolding after_text
after_again [] rest h = refl
after_again (b ∷ text) rest h = grind (arith, common_steps, after_again text rest h.1)

-- more bytes after a line's text that ended
pub ended_longer : (bytes more : List ℕ) (b : ℕ) (rest : List ℕ) → after_text bytes ≡ b ∷ rest
    → (text_until_line_end (bytes ++ more) ≡ text_until_line_end bytes) × (after_text (bytes ++ more) ≡ b ∷ (rest ++ more))
unfolding text_until_line_end after_text
ended_longer [] more b rest e = absurd cc
ended_longer (c ∷ bytes) more b rest e = by_test (is_end c)
    (λ t.
    let is : c ∷ bytes ≡ b ∷ rest = rw t at e in
    rw t (refl, ap (λ (bs : List ℕ). bs ++ more) is))
    (λ f.
    let later = ended_longer bytes more b rest (rw f at e) in
    rw f (ap (λ (bs : List ℕ). c ∷ bs) later.0, later.1))

-- more bytes after a line's text that goes on
pub open_longer : (bytes more : List ℕ) → after_text bytes ≡ []
    → (text_until_line_end bytes ≡ bytes) × (text_until_line_end (bytes ++ more) ≡ bytes ++ text_until_line_end more) × (after_text (bytes ++ more) ≡ after_text more)
unfolding text_until_line_end after_text
open_longer [] more e = (refl, refl, refl)
open_longer (c ∷ bytes) more e = by_test (is_end c)
    (λ t. absurd (no (rw t at e)))
    (λ f.
    let later = open_longer bytes more (rw f at e) in
    rw f (ap (λ (bs : List ℕ). c ∷ bs) later.0, ap (λ (bs : List ℕ). c ∷ bs) later.1, later.2))
  where
    no : c ∷ bytes ≡ [] → ⊥
    no h = absurd cc

-- ---- the line's end

pub ended_takes : (after rest : List ℕ) → after_line_end after ≡ Ok rest → after ≡ 13 ∷ 10 ∷ rest
ended_takes after rest h1 = grind (arith, common_steps)

-- ---- as the loop finds it

abbrev pub OpenUntil : ℕ → List ℕ → Type 0
OpenUntil i bytes = (text_until_line_end bytes ≡ take i bytes ++ text_until_line_end (drop i bytes)) × (after_text bytes ≡ after_text (drop i bytes))

pub open_more : (bytes : List ℕ) (i : ℕ) → i < length bytes → get_or bytes i 0 ≢ 13 → get_or bytes i 0 ≢ 10 → OpenUntil i bytes → OpenUntil (i + 1) bytes
unfolding text_until_line_end after_text
open_more bytes i lt one two so_far = grind (arith, common_steps)

pub open_stops : (bytes : List ℕ) (i : ℕ) → i < length bytes → is_end (get_or bytes i 0) ≡ true → OpenUntil i bytes → (take i bytes ≡ text_until_line_end bytes) × (drop i bytes ≡ after_text bytes)
unfolding text_until_line_end after_text
open_stops bytes i lt t so_far = grind (arith, common_steps)

pub open_to_the_end : (bytes : List ℕ) (i : ℕ) → length bytes ≤ i → OpenUntil i bytes → (take (length bytes) bytes ≡ text_until_line_end bytes) × (drop (length bytes) bytes ≡ after_text bytes)
unfolding text_until_line_end after_text
open_to_the_end bytes i le so_far = grind (arith, common_steps)

pub end_13 : (b : ℕ) → b ≡ 13 → is_end b ≡ true
end_13 b e = rw e refl

pub end_10 : (b : ℕ) → b ≡ 10 → is_end b ≡ true
end_10 b e = rw e refl

-- ---- a search that goes on

-- no line ends in the bytes that were searched
line_goes_on : (bytes : List ℕ) (n : ℕ) → AllByRecursion IsInLine (take n bytes) → OpenUntil n bytes
unfolding text_until_line_end after_text
line_goes_on bytes zero h = (refl, refl)
line_goes_on [] (suc n) h = (refl, refl)
line_goes_on (b ∷ bytes) (suc n) h =
    let one : b ≢ 13 = h.0.0 in
    let two : b ≢ 10 = h.0.1 in
    let f : eqb b 13 ≡ false = grind (arith, nat_tests) in
    let g : eqb b 10 ≡ false = grind (arith, nat_tests) in
    let later = line_goes_on bytes n h.1 in
    rw (f, g) (ap (λ (bs : List ℕ). b ∷ bs) later.0, later.1)

pub text_short : (bytes : List ℕ) → length (text_until_line_end bytes) ≤ length bytes
text_short bytes = omega (arith, ap (length {A = ℕ}) (line_is bytes), length-append (text_until_line_end bytes) (after_text bytes))

pub from_searched : (bytes : List ℕ) (n : ℕ) → n ≤ length bytes → AllByRecursion IsInLine (take n bytes) → (text : List ℕ) → text ≡ text_until_line_end (drop n bytes)
    → (take (n + length text) bytes ≡ text_until_line_end bytes) × (drop (n + length text) bytes ≡ after_text bytes)
from_searched bytes n le clean text is =
    let goes = line_goes_on bytes n clean in
    let more = drop n bytes in
    let front = take n bytes ++ text_until_line_end more in
    let whole : bytes ≡ front ++ after_text more =
    sym (take-append-drop n bytes) ∙ ap (λ (r : List ℕ). take n bytes ++ r) (line_is more) ∙ sym (append_assoc (take n bytes) (text_until_line_end more) (after_text more)) in
    let long : length front ≡ n + length text = omega (arith, length-append (take n bytes) (text_until_line_end more), length-take-le n bytes le, ap (length {A = ℕ}) is) in (
      ap (take (n + length text)) whole ∙ take_at front (after_text more) (n + length text) long ∙ sym goes.0,
      ap (drop (n + length text)) whole ∙ drop_at front (after_text more) (n + length text) long ∙ sym goes.1,
    )
