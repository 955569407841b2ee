-- What `parse` reads as a number, and that a number is ASCII.
use Rattle.std.proofs.Common.{◌≡◌, ℕ, zero, suc, ◌<◌, ◌^◌, List, [], ◌∷◌, Bool, true, false, ◌&&◌, cond, Some, None, refl, sym, ap, ◌∙◌, arith, length, get_or}
use Rattle.std.specs.Prelude.{nat_eq}
use Rattle.std.specs.Str.{all_ascii_digits, IsUtf8}
use Rattle.std.specs.Str.Parse.{without_leading_plus, digits_value, IsNumeral}
use Rattle.std.proofs.lemmas.Bool.Decides.{nat_tests}
use Rattle.std.proofs.lemmas.Str.{IsUtf8-from_ascii}
use Rattle.std.proofs.lemmas.Str.Parse.{IsNumeralModel, numerals_by_value, tells_all_ascii_digits}
use Rattle.cluster_slots.specs.Number.{number_in}
use Rattle.resp_core.proofs.Cases.{by_test}

own : IsNumeralModel (λ ds. all_ascii_digits ds ≡ true) (digits_value 10)
own = numerals_by_value (λ ds. all_ascii_digits ds ≡ true) tells_all_ascii_digits

chosen : (a b c : Bool) (n : ℕ) → a ≡ true → b ≡ true → c ≡ true → cond (a && (b && c)) (Some n) None ≡ Some n
chosen true true true n p q r = refl
chosen true true false n p q r = cc
chosen true false c n p q r = cc
chosen false b c n p q r = cc

left_out : (a b c : Bool) (n : ℕ) → ((a ≡ true) → (b ≡ true) → (c ≡ true) → ⊥) → cond (a && (b && c)) (Some n) None ≡ None
left_out true true true n h = absurd (h refl refl refl)
left_out true true false n h = refl
left_out true false c n h = refl
left_out false b c n h = refl

pub number-ok : (k : ℕ) (bs : List ℕ) (x : ℕ) → (IsNumeral 10 (without_leading_plus bs) × (digits_value 10 (without_leading_plus bs) < 2 ^ k)) × (x ≡ digits_value 10 (without_leading_plus bs)) → Some x ≡ number_in k bs
unfolding number_in
number-ok k bs x h =
    let ds = without_leading_plus bs in
    let long : 0 < length ds = h.0.0.0 in
    let fits : digits_value 10 ds < 2 ^ k = h.0.1 in
    sym (chosen _ _ _ (digits_value 10 ds) (grind (arith, nat_tests)) (own.from ds h.0.0.1) (grind (arith, nat_tests)) ∙ ap Some (sym h.1))

pub number-err : (k : ℕ) (bs : List ℕ) → (IsNumeral 10 (without_leading_plus bs) × (digits_value 10 (without_leading_plus bs) < 2 ^ k) → ⊥) → None ≡ number_in k bs
unfolding number_in
number-err k bs h =
    let ds = without_leading_plus bs in
    sym (left_out _ _ _ (digits_value 10 ds) (λ a b c.
    let long : 0 < length ds = grind (arith, nat_tests) in
    let fits : digits_value 10 ds < 2 ^ k = grind (arith, nat_tests) in
    h ((long, own.to ds b), fits)))

digits_small : (ds : List ℕ) (i : ℕ) → all_ascii_digits ds ≡ true → get_or ds i 0 < 128
digits_small [] i h = omega arith
digits_small (d ∷ ds) zero h = grind (arith, nat_tests)
digits_small (d ∷ ds) (suc i) h = digits_small ds i (second _ _ h)
  where
    second : (a b : Bool) → (a && b) ≡ true → b ≡ true
    second true b h = h
    second false b h = cc

numeral_small : (bs : List ℕ) (i : ℕ) → all_ascii_digits (without_leading_plus bs) ≡ true → get_or bs i 0 < 128
numeral_small [] i h = omega arith
numeral_small (b ∷ bs) i h = by_test (nat_eq b 43)
    (λ plus. plus_small i (grind (arith, nat_tests)) (rw plus at h))
    (λ other. digits_small (b ∷ bs) i (rw other at h))
  where
    plus_small : (i : ℕ) → b < 128 → all_ascii_digits bs ≡ true → get_or (b ∷ bs) i 0 < 128
    plus_small zero p q = p
    plus_small (suc i) p q = digits_small bs i q

pub number-not_text : (k : ℕ) (bs : List ℕ) → (IsUtf8 bs → ⊥) → None ≡ number_in k bs
unfolding number_in
number-not_text k bs h = sym (left_out _ _ _ (digits_value 10 (without_leading_plus bs)) (λ a b c. h (IsUtf8-from_ascii bs (λ i. numeral_small bs i b))))
