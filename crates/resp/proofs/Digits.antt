-- Numbers, digit by digit.
use Rattle.std.proofs.Common.{◌≡◌, ◌≢◌, ℕ, ℤ, pos, negsuc, suc, ◌+◌, ◌*◌, ◌<◌, ◌≤◌, ◌^◌, Bool, true, false, ◌&&◌, cond, ltb, List, [], ◌∷◌, ◌++◌, length, get_or, drop, Option, Some, None, refl, ap, ◌∙◌, arith, decimal}
use Rattle.std.specs.Char.{is_ascii_digit, digit_value}
use Rattle.std.specs.Str.{all_ascii_digits}
use Rattle.std.specs.List.{AllByRecursion}
use Rattle.std.specs.Str.Parse.{digits_value, digits_value_after, AllDigits}
use Rattle.std.specs.Fmt.{signed_decimal}
use Rattle.std.proofs.lemmas.Bool.Decides.{nat_tests}
use Rattle.std.proofs.lemmas.List.{drop_more, drop_all}
use Rattle.std.proofs.lemmas.Str.Parse.{IsNumeralModel, numerals_by_value, tells_all_ascii_digits, digit_at}
use Rattle.std.proofs.lemmas.Fmt.{digits_decimal, digits_value-decimal, decimal_nonempty}
use Rattle.std.proofs.lemmas.Grind.{common_steps}
use Rattle.resp_core.proofs.Cases.{by_test}
use Rattle.resp.specs.Forms.{number_up_to, int_in, length_in, below_zero, not_below_zero, IsShort, IsInLine}

abbrev some : ℕ → Option ℕ
some n = Some n

pub own : IsNumeralModel (λ ds. all_ascii_digits ds ≡ true) (digits_value 10)
own = numerals_by_value (λ ds. all_ascii_digits ds ≡ true) tells_all_ascii_digits

-- the number that digits write after those that write n
abbrev pub number_after : ℕ → ℕ → List ℕ → Option ℕ
number_after limit n [] = Some n
number_after limit n (d ∷ ds) = cond (is_ascii_digit d && ltb (n * 10 + digit_value d) limit) (number_after limit (n * 10 + digit_value d) ds) None

value_grows : (n : ℕ) (ds : List ℕ) → n ≤ digits_value_after 10 n ds
value_grows n [] = omega arith
value_grows n (d ∷ ds) = let later = value_grows (n * 10 + digit_value d) ds in omega (arith, later)

pub and_false : (a : Bool) → (a && false) ≡ false
and_false true = refl
and_false false = refl

number_after_is : (limit n : ℕ) (ds : List ℕ) → n < limit → number_after limit n ds ≡ cond (all_ascii_digits ds && ltb (digits_value_after 10 n ds) limit) (Some (digits_value_after 10 n ds)) None
number_after_is limit n [] low = let t : ltb n limit ≡ true = grind (arith, nat_tests) in rw t refl
number_after_is limit n (d ∷ ds) low =
    let m = n * 10 + digit_value d in
    by_test (is_ascii_digit d)
    (λ t. by_test (ltb m limit)
    (λ u. let lt : m < limit = grind (arith, nat_tests) in rw (t, u) (number_after_is limit m ds lt))
    (λ f.
    let grows : m ≤ digits_value_after 10 m ds = value_grows m ds in
    let g : ltb (digits_value_after 10 m ds) limit ≡ false = grind (arith, nat_tests) in
    rw (t, f, g, and_false (all_ascii_digits ds)) refl))
    (λ f. rw f refl)

-- a text of at least one byte
pub number_in_is : (limit : ℕ) (text : List ℕ) → 0 < limit → 0 < length text → number_up_to limit text ≡ number_after limit 0 text
unfolding number_up_to
number_in_is limit text some long = grind (arith, nat_tests, number_after_is)

pub number_in_none : (limit : ℕ) (text : List ℕ) → length text ≡ 0 → number_up_to limit text ≡ None
unfolding number_up_to
number_in_none limit text none = grind (arith, common_steps)

-- ---- a loop over the digits

pub no_digit : (limit n i : ℕ) (text : List ℕ) → i < length text → is_ascii_digit (get_or text i 0) ≡ false → number_after limit n (drop i text) ≡ None
no_digit limit n i text lt digit = ap (number_after limit n) (drop_more text i 0 lt) ∙ rw digit refl

pub too_large : (limit n i : ℕ) (text : List ℕ) → i < length text → limit ≤ n * 10 + digit_value (get_or text i 0) → number_after limit n (drop i text) ≡ None
too_large limit n i text lt large = grind (arith, common_steps)

pub number_ends : (limit n i : ℕ) (text : List ℕ) → length text ≤ i → number_after limit n (drop i text) ≡ Some n
number_ends limit n i text le = ap (number_after limit n) (drop_all i text le)

pub digit_is : (d : ℕ) → is_ascii_digit d ≡ true → digit_value d + 48 ≡ d
digit_is d t = grind (arith, common_steps)

-- a number that was read is below the limit
pub number_below : (limit : ℕ) (text : List ℕ) (n : ℕ) → Some n ≡ number_up_to limit text → n < limit
unfolding number_up_to
number_below limit text n e = grind (arith, common_steps)

-- ---- no number stays none, whatever follows

after_none : (limit n : ℕ) (ds more : List ℕ) → number_after limit n ds ≡ None → number_after limit n (ds ++ more) ≡ None
after_none limit n [] more e = absurd cc
after_none limit n (d ∷ ds) more e =
    let m = n * 10 + digit_value d in
    by_test (is_ascii_digit d && ltb m limit)
    (λ t. rw t (after_none limit m ds more (rw t at e)))
    (λ f. rw f refl)

pub none_longer : (limit : ℕ) (text more : List ℕ) → 0 < limit → 0 < length text → number_up_to limit text ≡ None → number_up_to limit (text ++ more) ≡ None
none_longer limit [] more some long e = absurd (omega (arith, long))
none_longer limit (d ∷ ds) more some long e = grind (arith, number_in_is, after_none)

none_above : (n : Option ℕ) → not_below_zero n ≡ None → n ≡ None
none_above None e = refl
none_above (Some n) e = absurd cc

none_below : (n : Option ℕ) → below_zero n ≡ None → n ≡ None
none_below n h1 = grind (arith)

-- a text that is more than a sign
abbrev pub HasDigits : List ℕ → Type 0
HasDigits text = (text ≢ []) × (text ≢ 45 ∷ []) × (text ≢ 43 ∷ [])

some_follow : (b : ℕ) (text : List ℕ) → (b ∷ text ≢ b ∷ []) → 0 < length text
some_follow b [] other = absurd (other refl)
some_follow b (c ∷ text) other = omega arith

pub int_longer : (text more : List ℕ) → HasDigits text → int_in text ≡ None → int_in (text ++ more) ≡ None
unfolding int_in
int_longer text more h1 h2 = grind (arith, common_steps, by_test, nat_tests, none_below, none_longer, some_follow, none_above)

pub length_longer : (text more : List ℕ) → text ≢ [] → length_in text ≡ None → length_in (text ++ more) ≡ None
length_longer [] more some e = absurd (some refl)
length_longer (d ∷ ds) more some e = none_longer (2 ^ 63) (d ∷ ds) more (omega arith) (omega arith) e

-- ---- what is written is read

pub number_decimal : (limit n : ℕ) → n < limit → n < 2 ^ 64 → number_up_to limit (decimal n) ≡ Some n
unfolding number_up_to
number_decimal limit n low short = grind (arith, digits_value-decimal, own, decimal_nonempty, nat_tests, digits_decimal)

no_sign : (text : List ℕ) (n : ℕ) → text ≡ decimal n → n < 2 ^ 63 → int_in text ≡ Some (pos n)
unfolding int_in
no_sign [] n e low = absurd (omega (arith, ap (length {A = ℕ}) e, decimal_nonempty n (omega (arith, low))))
no_sign (first ∷ more) n e low = grind (arith, digits_decimal, own, digit_at, nat_tests, number_decimal)

pub int_decimal : (z : ℤ) → IsShort z → int_in (signed_decimal z) ≡ Some z
unfolding int_in
int_decimal (pos n) short = no_sign (decimal n) n refl short
int_decimal (negsuc n) short = ap below_zero (number_decimal (2 ^ 63 + 1) (suc n) (omega (arith, short)) (omega (arith, short)))

-- no end of a line stands in the text of a number
in_line : (ds : List ℕ) → AllDigits 10 ds → AllByRecursion IsInLine ds
in_line [] h = tt
in_line (d ∷ ds) h = grind (arith, common_steps, in_line ds h.1)

pub in_line_decimal : (n : ℕ) → n < 2 ^ 64 → AllByRecursion IsInLine (decimal n)
in_line_decimal n low = in_line (decimal n) (own.to (decimal n) (digits_decimal own n low))

pub in_line_int : (z : ℤ) → IsShort z → AllByRecursion IsInLine (signed_decimal z)
in_line_int (pos n) short = in_line_decimal n (omega (arith, short))
in_line_int (negsuc n) short = grind (arith, negsuc, in_line_decimal, suc)
