-- The number of a line, digit by digit, up to the line's end.
use Rattle.std.proofs.Common.{◌≡◌, ℕ, ◌+◌, ◌-◌, ◌*◌, ◌/◌, ◌%◌, ◌^◌, ◌<◌, ◌≤◌, Bool, true, false, ◌&&◌, cond, eqb, ltb, List, [], ◌∷◌, ◌++◌, length, get_or, drop, append_assoc, append-nil, decimal, Some, None, Ok, Err, refl, sym, ap, ◌∙◌, arith, inl, inr}
use Rattle.std.specs.Char.{digit_value}
use Rattle.std.proofs.lemmas.Bool.Decides.{nat_tests}
use Rattle.std.proofs.lemmas.List.{drop_all}
use Rattle.resp_core.proofs.Cases.{by_test}
use Rattle.resp.specs.declared.stop.Stop.TheVariants.{WantsMore, StopsAt}
use Rattle.std.proofs.lemmas.Fmt.{decimal_digit, decimal_step, decimal_by_steps}
use Rattle.std.proofs.lemmas.Grind.{common_steps}
use Rattle.resp.specs.Requests.{digits_at, is_next_digit, with_digit}
use Rattle.resp.proofs.Steps.{both}
use Rattle.resp.proofs.Readers.{read, stopped, wants_no_stop, stop_wants_no, same_left, went, no_read, no_stop, same_value, same_rest, Filled, Takes, Stops, IsReader}

abbrev next : ℕ → ℕ → ℕ
next n b = n * 10 + digit_value b

-- ---- as the texts of numbers

-- the text of the digits so far
abbrev written : Bool → ℕ → List ℕ
written some n = cond some (decimal n) []

record Next (limit : ℕ) (some : Bool) (n b : ℕ) : Type 0 where
  digit : digit_value b + 48 ≡ b
  small : digit_value b < 10
  not_zero : some ≡ true → 0 < n
  low : next n b < limit

next_is : (limit : ℕ) (some : Bool) (n b : ℕ) → is_next_digit limit some n b ≡ true → Next limit some n b
next_is limit some n b e = grind (arith, common_steps)

-- one digit more is written after the others
next_written : (limit : ℕ) → limit < 2 ^ 64 → (some : Bool) (n b : ℕ) → (some ≡ false → n ≡ 0) → Next limit some n b → decimal (next n b) ≡ written some n ++ b ∷ []
next_written limit short true n b none e = grind (arith, decimal_step)
next_written limit short false n b none e = grind (arith, decimal_digit)

pub record Digits (limit : ℕ) (some : Bool) (n : ℕ) (bytes rest : List ℕ) (m : ℕ) : Type 0 where
  pub text : List ℕ
  pub bytes_are : bytes ≡ text ++ 13 ∷ rest
  pub number : decimal m ≡ written some n ++ text
  pub low : m < limit

pub digits_text : (limit : ℕ) → limit < 2 ^ 64 → (some : Bool) (n : ℕ) → (some ≡ false → n ≡ 0) → n < limit → (bytes rest : List ℕ) (m : ℕ) → digits_at limit some n bytes ≡ Ok (m, rest) → Digits limit some n bytes rest m
unfolding digits_at
digits_text limit short some n none low [] rest m e = absurd (no_read WantsMore m rest e)
digits_text limit short some n none low (b ∷ bytes) rest m e = by_test (is_next_digit limit some n b)
    (λ t.
    let is = next_is limit some n b t in
    let later = digits_text limit short true (next n b) no is.low bytes rest m (rw t at e) in
    record {
      text = b ∷ later.text;
      bytes_are = ap (λ (bs : List ℕ). b ∷ bs) later.bytes_are;
      number = later.number ∙ ap (λ (ds : List ℕ). ds ++ later.text) (next_written limit short some n b none is) ∙ append_assoc (written some n) (b ∷ []) later.text;
      low = later.low;
    })
    (λ f. elim (went (some && eqb b 13) (read n bytes) (stopped (StopsAt (length bytes + 1))) (read m rest) (rw f at e)) [
      | inl p ↦
          let t = both some (eqb b 13) p.0 in
          let is : b ≡ 13 = grind (arith, nat_tests, t.1) in
          let same : n ≡ m = same_value n m bytes rest p.1 in
          record {
            text = [];
            bytes_are = ap (λ (c : ℕ). c ∷ bytes) is ∙ ap (λ (bs : List ℕ). 13 ∷ bs) (same_rest n m bytes rest p.1);
            number = rw t.0 (ap decimal (sym same) ∙ sym (append-nil (decimal n)));
            low = omega (arith, same, low);
          }
      | inr p ↦ absurd (no_read (StopsAt (length bytes + 1)) m rest p.1)
    ])
  where
    no : true ≡ false → next n b ≡ 0
    no h = absurd cc

digit_goes : (limit : ℕ) (some : Bool) (n d : ℕ) → d < 10 → (some ≡ true → 0 < n) → n * 10 + d < limit → (rest : List ℕ) → digits_at limit some n ((48 + d) ∷ rest) ≡ digits_at limit true (n * 10 + d) rest
unfolding digits_at
digit_goes limit some n d small not_zero low rest = grind (arith, common_steps)

pub number_goes : (limit n : ℕ) → n < limit → n < 2 ^ 64 → (rest : List ℕ) → digits_at limit false 0 (decimal n ++ rest) ≡ digits_at limit true n rest
number_goes limit n low short = decimal_by_steps (λ n ds. n < limit → (rest : List ℕ) → digits_at limit false 0 (ds ++ rest) ≡ digits_at limit true n rest) one more n short low
  where
    no : false ≡ true → 0 < 0
    no h = absurd cc

    one : (n : ℕ) → n < 10 → n < limit → (rest : List ℕ) → digits_at limit false 0 ((48 + n) ∷ rest) ≡ digits_at limit true n rest
    one n small low rest = grind (arith, digit_goes)

    more : (n : ℕ) (ds : List ℕ) → 10 ≤ n → (n / 10 < limit → (rest : List ℕ) → digits_at limit false 0 (ds ++ rest) ≡ digits_at limit true (n / 10) rest) → n < limit → (rest : List ℕ) → digits_at limit false 0 ((ds ++ (48 + n % 10) ∷ []) ++ rest) ≡ digits_at limit true n rest
    more n ds large before low rest = grind (arith, append_assoc, digit_goes)

pub digits_again : (limit n : ℕ) → n < limit → n < 2 ^ 64 → (rest : List ℕ) → digits_at limit false 0 (decimal n ++ 13 ∷ rest) ≡ Ok (n, rest)
unfolding digits_at
digits_again limit n low short rest = number_goes limit n low short (13 ∷ rest)

-- ---- as a reader

pub number_front : (limit : ℕ) → 0 < limit → limit < 2 ^ 64 → (bytes rest : List ℕ) (n : ℕ) → digits_at limit false 0 bytes ≡ Ok (n, rest) → (bytes ≡ decimal n ++ 13 ∷ rest) × (n < limit)
number_front limit some short bytes rest n e =
    let d = digits_text limit short false 0 (λ h. refl) some bytes rest n e in
    (d.bytes_are ∙ ap (λ (ds : List ℕ). ds ++ 13 ∷ rest) (sym d.number), d.low)

digits_takes : (limit : ℕ) → 0 < limit → limit < 2 ^ 64 → (bytes rest : List ℕ) (n : ℕ) → digits_at limit false 0 bytes ≡ Ok (n, rest) → Takes (digits_at limit false 0) bytes rest n
digits_takes limit some short bytes rest n e =
    let d = number_front limit some short bytes rest n e in
    record {
      front = decimal n ++ 13 ∷ [];
      bytes_are = d.0 ∙ sym (append_assoc (decimal n) (13 ∷ []) rest);
      reads = λ other. ap (digits_at limit false 0) (append_assoc (decimal n) (13 ∷ []) other) ∙ digits_again limit n d.1 (omega (arith, d.1, short)) other;
    }

digits_fills : (limit : ℕ) → 0 < limit → (some : Bool) (n : ℕ) → (some ≡ false → n ≡ 0) → (bytes : List ℕ) → digits_at limit some n bytes ≡ Err WantsMore → Filled (digits_at limit some n) bytes
unfolding digits_at
digits_fills limit large true n none [] e = record { more = 13 ∷ []; value = n; reads = refl }
digits_fills limit large false n none [] e =
    let is : n ≡ 0 = none refl in
    let t : ltb 0 limit ≡ true = grind (arith, nat_tests) in
    record { more = 48 ∷ 13 ∷ []; value = 0; reads = rw (is, t) refl }
digits_fills limit large some n none (b ∷ bytes) e = by_test (is_next_digit limit some n b)
    (λ t.
    let later = digits_fills limit large true (next n b) no bytes (rw t at e) in
    record { more = later.more; value = later.value; reads = rw t later.reads })
    (λ f. elim (went (some && eqb b 13) (read n bytes) (stopped (StopsAt (length bytes + 1))) (stopped WantsMore) (rw f at e)) [
      | inl p ↦ absurd (no_stop WantsMore n bytes p.1)
      | inr p ↦ absurd (stop_wants_no (length bytes + 1) p.1)
    ])
  where
    no : true ≡ false → next n b ≡ 0
    no h = absurd cc

digits_stops : (limit : ℕ) (some : Bool) (n : ℕ) (bytes : List ℕ) (left : ℕ) → digits_at limit some n bytes ≡ Err (StopsAt left) → Stops (digits_at limit some n) bytes left
unfolding digits_at
digits_stops limit some n [] left e = absurd (wants_no_stop left e)
digits_stops limit some n (b ∷ bytes) left e = by_test (is_next_digit limit some n b)
    (λ t.
    let later = digits_stops limit true (next n b) bytes left (rw t at e) in
    record {
      before = b ∷ later.before;
      byte = later.byte;
      after = later.after;
      bytes_are = ap (λ (bs : List ℕ). b ∷ bs) later.bytes_are;
      left_is = later.left_is;
      wants = rw t later.wants;
      stays = λ other. rw t (later.stays other);
    })
    (λ f. elim (went (some && eqb b 13) (read n bytes) (stopped (StopsAt (length bytes + 1))) (stopped (StopsAt left)) (rw f at e)) [
      | inl p ↦ absurd (no_stop (StopsAt left) n bytes p.1)
      | inr p ↦ record {
        before = [];
        byte = b;
        after = bytes;
        bytes_are = refl;
        left_is = sym (same_left (length bytes + 1) left p.1);
        wants = refl;
        stays = λ other. rw (f, p.0) refl;
      }
    ])

pub digits_reader : (limit : ℕ) → 0 < limit → limit < 2 ^ 64 → IsReader (digits_at limit false 0)
digits_reader limit large short = record { takes = digits_takes limit large short; fills = digits_fills limit large false 0 (λ e. refl); stops = digits_stops limit false 0 }

pub digits_wants : (limit : ℕ) → digits_at limit false 0 [] ≡ Err WantsMore
unfolding digits_at
digits_wants limit = refl

-- ---- a loop over the digits

module _ (limit n i : ℕ) (bytes : List ℕ) (lt : i < length bytes) where
  pub digit_goes_on : (some : Bool) (m : ℕ) → Some m ≡ with_digit limit some n (get_or bytes i 0) → digits_at limit some n (drop i bytes) ≡ digits_at limit (ltb 0 (i + 1)) m (drop (i + 1) bytes)
  unfolding digits_at
  digit_goes_on some m e = grind (arith, common_steps)

  pub digits_end : (some : Bool) → None ≡ with_digit limit some n (get_or bytes i 0) → some ≡ true → get_or bytes i 0 ≡ 13 → digits_at limit some n (drop i bytes) ≡ Ok (n, drop (i + 1) bytes)
  unfolding digits_at
  digits_end some e s last = grind (arith, common_steps)

  pub digits_stop : (some : Bool) → None ≡ with_digit limit some n (get_or bytes i 0) → (some && eqb (get_or bytes i 0) 13) ≡ false → digits_at limit some n (drop i bytes) ≡ Err (StopsAt (length bytes - i))
  unfolding digits_at
  digits_stop some e other = grind (arith, common_steps)

  pub digit_low : (some : Bool) (m : ℕ) → Some m ≡ with_digit limit some n (get_or bytes i 0) → m < limit
  digit_low some m e = grind (arith, common_steps)

pub digits_run_out : (limit n i : ℕ) (some : Bool) (bytes : List ℕ) → length bytes ≤ i → digits_at limit some n (drop i bytes) ≡ Err WantsMore
unfolding digits_at
digits_run_out limit n i some bytes le = ap (digits_at limit some n) (drop_all i bytes le)
