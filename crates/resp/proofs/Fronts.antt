-- An answer by its first byte, its first line, and what follows, as the code reads it.
use Rattle.std.proofs.Common.{◌≡◌, ◌≢◌, ℕ, zero, suc, ◌-◌, ◌<◌, ◌≤◌, cond, eqb, List, [], ◌∷◌, length, get_or, take, drop, Option, Some, None, Result, Ok, Err, refl, ap, ◌∙◌, arith}
use Rattle.std.proofs.lemmas.Grind.{common_steps}
use Rattle.std.proofs.lemmas.Bool.{eq-eqb}
use Rattle.std.proofs.lemmas.Bool.Decides.{nat_tests}
use Rattle.std.proofs.lemmas.List.{take_rest}
use Rattle.resp_core.specs.Reply.{nil}
use Rattle.resp.specs.declared.fault.Fault.{Fault}
use Rattle.resp.specs.declared.fault.Fault.TheVariants.{Incomplete, TooDeep}
use Rattle.resp.specs.declared.fault.ReadError.{ReadError}
use Rattle.resp.specs.declared.fault.ReadError.TheVariants as errors
use Rattle.resp.specs.Forms.{Answer, array_of_all}
use Rattle.resp.specs.Reading.{◌>>=◌, Fails, Items, text_until_line_end, after_text, length_at, flat_at, array_items_at, array_at, front_at, times_at, answer_at}

abbrev tail : List ℕ → List ℕ
tail bytes = take (length bytes - 1) (drop 1 bytes)

abbrev nested_at : ℕ → List ℕ → Result (Answer × List ℕ) Fault
nested_at zero bytes = Err TooDeep
nested_at (suc levels) bytes = array_at (times_at (answer_at levels)) bytes

step : (levels : ℕ) (bytes : List ℕ) → answer_at levels bytes ≡ front_at (nested_at levels) bytes
unfolding answer_at
step zero bytes = refl
step (suc levels) bytes = refl

front_open : (nested : List ℕ → Result (Answer × List ℕ) Fault) (bytes : List ℕ) → 0 < length bytes
    → front_at nested bytes ≡ cond (eqb (get_or bytes 0 0) 42) (nested (drop 1 bytes)) (flat_at (get_or bytes 0 0) (text_until_line_end (drop 1 bytes)) (after_text (drop 1 bytes)))
unfolding front_at
front_open nested [] some = absurd (omega (arith, some))
front_open nested (mark ∷ bytes) some = refl

pub empty : (levels : ℕ) (bytes : List ℕ) → length bytes < 1 → answer_at levels bytes ≡ Err Incomplete
unfolding front_at
empty levels [] h = step levels []
empty levels (b ∷ bytes) h = absurd (omega (arith, h))

opened : (levels : ℕ) (bytes : List ℕ) → 1 ≤ length bytes
    → answer_at levels bytes ≡ cond (eqb (get_or bytes 0 0) 42) (nested_at levels (tail bytes)) (flat_at (get_or bytes 0 0) (text_until_line_end (tail bytes)) (after_text (tail bytes)))
opened levels bytes h = grind (arith, common_steps, step, front_open, take_rest)

pub is_flat : (levels : ℕ) (bytes text after : List ℕ) → 1 ≤ length bytes → text ≡ text_until_line_end (tail bytes) → after ≡ after_text (tail bytes) → get_or bytes 0 0 ≢ 42
    → flat_at (get_or bytes 0 0) text after ≡ answer_at levels bytes
is_flat levels bytes text after some t a other = grind (arith, nat_tests, opened)

is_nested : (levels : ℕ) (bytes : List ℕ) → 1 ≤ length bytes → get_or bytes 0 0 ≡ 42 → answer_at levels bytes ≡ nested_at levels (tail bytes)
is_nested levels bytes some star = grind (arith, eq-eqb, opened)

pub too_deep : (levels : ℕ) (bytes : List ℕ) → 1 ≤ length bytes → get_or bytes 0 0 ≡ 42 → levels ≡ 0 → answer_at levels bytes ≡ Err TooDeep
too_deep levels bytes some star none = is_nested levels bytes some star ∙ ap (λ (k : ℕ). nested_at k (tail bytes)) none

-- an array by its line
array_opened : (levels : ℕ) (bytes text after : List ℕ) → 1 ≤ length bytes → get_or bytes 0 0 ≡ 42 → 0 < levels → text ≡ text_until_line_end (tail bytes) → after ≡ after_text (tail bytes)
    → answer_at levels bytes ≡ (length_at text after >>= λ x. array_items_at (times_at (answer_at (levels - 1))) x.0 x.1)
unfolding array_at
array_opened zero bytes text after some star above t a = absurd (omega (arith, above))
array_opened (suc levels) bytes text after some star above t a = grind (arith, suc, is_nested)

fails : {A B : Type 0} (e : ReadError) (r : Result A Fault) (f : A → Result B Fault) → Fails e r → Fails e (r >>= f)
fails errors.Memory r f h = tt
fails (errors.Fault d) r f h = ap (λ s. s >>= f) h

pub count_fails : (e : ReadError) (levels : ℕ) (bytes text after : List ℕ) → 1 ≤ length bytes → get_or bytes 0 0 ≡ 42 → 0 < levels → text ≡ text_until_line_end (tail bytes) → after ≡ after_text (tail bytes)
    → Fails e (length_at text after) → Fails e (answer_at levels bytes)
count_fails e levels bytes text after some star above t a h = grind (arith, array_opened, fails)

pub nothing : (levels : ℕ) (bytes text after rest : List ℕ) (o : Option ℕ) → 1 ≤ length bytes → get_or bytes 0 0 ≡ 42 → 0 < levels → text ≡ text_until_line_end (tail bytes) → after ≡ after_text (tail bytes)
    → length_at text after ≡ Ok (o, rest) → o ≡ None → answer_at levels bytes ≡ Ok (Ok nil, rest)
unfolding array_items_at
nothing levels bytes text after rest o some star above t a h none = array_opened levels bytes text after some star above t a ∙ rw (h, none) refl

pub items_fail : (e : ReadError) (levels : ℕ) (bytes text after rest : List ℕ) (o : Option ℕ) (n : ℕ) → 1 ≤ length bytes → get_or bytes 0 0 ≡ 42 → 0 < levels → text ≡ text_until_line_end (tail bytes) → after ≡ after_text (tail bytes)
    → length_at text after ≡ Ok (o, rest) → o ≡ Some n → Fails e (times_at (answer_at (levels - 1)) n rest) → Fails e (answer_at levels bytes)
unfolding array_items_at
items_fail e levels bytes text after rest o n some star above t a h is f = grind (arith, array_opened, fails)

pub items_read : (levels : ℕ) (bytes text after rest : List ℕ) (o : Option ℕ) (n : ℕ) (items : Items) (last : List ℕ) → 1 ≤ length bytes → get_or bytes 0 0 ≡ 42 → 0 < levels → text ≡ text_until_line_end (tail bytes) → after ≡ after_text (tail bytes)
    → length_at text after ≡ Ok (o, rest) → o ≡ Some n → times_at (answer_at (levels - 1)) n rest ≡ Ok (items, last) → answer_at levels bytes ≡ Ok (array_of_all items, last)
unfolding array_items_at
items_read levels bytes text after rest o n items last some star above t a h is f = grind (arith, array_opened)
