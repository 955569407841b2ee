-- What more bytes change in reading: nothing but that what was incomplete may be complete.
use Rattle.std.proofs.Common.{◌≡◌, ◌≢◌, ℕ, zero, suc, ◌≤◌, true, false, ◌&&◌, ◌||◌, eqb, List, [], ◌∷◌, ◌++◌, length, get_or, drop, codes, Option, Some, None, Result, Ok, Err, refl, sym, ap, ◌∙◌, arith, ◌⊎◌, inl, inr}
use Rattle.std.specs.Prelude.{bytes_eq}
use Rattle.std.proofs.lemmas.Bool.{false_from_ne_true, or_parts}
use Rattle.std.proofs.lemmas.Bool.Decides.{nat_tests, not_from_Decides}
use Rattle.std.proofs.lemmas.Slice.Eq.{bytes_eq-Decides}
use Rattle.std.proofs.lemmas.Grind.{common_steps}
use Rattle.resp_core.proofs.Cases.{by_test}
use Rattle.resp_core.specs.Reply.{int}
use Rattle.resp.specs.declared.fault.Fault.{Fault}
use Rattle.resp.specs.declared.fault.Fault.TheVariants.{Incomplete, Malformed, TooDeep}
use Rattle.resp.specs.Forms.{Answer, answer_before, simple_of, int_in, length_in}
use Rattle.resp.specs.Reading.{◌>>=◌, or_malformed, Items, after_line_end, text_until_line_end, after_text, is_before_digits, int_at, length_at, bytes_at, flat_at, times_at, array_items_at, array_at, front_at, answer_at}
use Rattle.resp.proofs.Digits.{HasDigits, and_false, int_longer, length_longer}
use Rattle.resp.proofs.Lines.{ended_longer, open_longer}

-- how reading of more bytes stands to a reading
abbrev pub Continues : {A : Type 0} → Result (A × List ℕ) Fault → List ℕ → Result (A × List ℕ) Fault → Type 0
Continues (Ok x) more longer = longer ≡ Ok (x.0, x.1 ++ more)
Continues (Err Incomplete) more longer = Unit {0}
Continues (Err Malformed) more longer = longer ≡ Err Malformed
Continues (Err TooDeep) more longer = longer ≡ Err TooDeep

abbrev pub Continuous : {A : Type 0} → (List ℕ → Result (A × List ℕ) Fault) → Type 0
Continuous read = (bytes more : List ℕ) → Continues (read bytes) more (read (bytes ++ more))

pub continues_bind : {A B : Type 0} (r s : Result (A × List ℕ) Fault) (f : A × List ℕ → Result (B × List ℕ) Fault) (more : List ℕ)
    → Continues r more s → ((x : A) (rest : List ℕ) → Continues (f (x, rest)) more (f (x, rest ++ more))) → Continues (r >>= f) more (s >>= f)
continues_bind (Ok x) s f more h each = rw h (each x.0 x.1)
continues_bind (Err Incomplete) s f more h each = tt
continues_bind (Err Malformed) s f more h each = rw h refl
continues_bind (Err TooDeep) s f more h each = rw h refl

-- ---- the end of a line

abbrev with_end : {A : Type 0} → A → List ℕ → Result (A × List ℕ) Fault
with_end x after = after_line_end after >>= λ rest. Ok (x, rest)

end_continues : {A : Type 0} (x : A) → Continuous (with_end x)
end_continues x [] more = tt
end_continues x (b ∷ []) [] = by_test (eqb b 13) (λ t. rw t tt) (λ f. rw f refl)
end_continues x (b ∷ []) (c ∷ more) = by_test (eqb b 13) (λ t. rw t tt) (λ f. rw f refl)
end_continues x (b ∷ c ∷ rest) more = by_test (eqb b 13 && eqb c 10) (λ t. rw t refl) (λ f. rw f refl)

-- ---- a line, by a reading of its text and of what follows

-- A reading of a line by its text goes on as it was, where the text ended, and where it did not
-- is not complete, and a fault stays.
abbrev Steady : {A : Type 0} → (List ℕ → List ℕ → Result (A × List ℕ) Fault) → Type 0
Steady by_text =
    ((text : List ℕ) (b : ℕ) (rest more : List ℕ) → Continues (by_text text (b ∷ rest)) more (by_text text (b ∷ (rest ++ more))))
    × ((text t after more : List ℕ) → Continues (by_text text []) more (by_text (text ++ t) after))

pub cases_of : (xs : List ℕ) → (xs ≡ []) ⊎ ((b : ℕ) × (rest : List ℕ) × (xs ≡ b ∷ rest))
cases_of [] = inl refl
cases_of (b ∷ rest) = inr (b, rest, refl)

pub line_continues : {A : Type 0} (by_text : List ℕ → List ℕ → Result (A × List ℕ) Fault) → Steady by_text → Continuous (λ bytes. by_text (text_until_line_end bytes) (after_text bytes))
line_continues by_text steady bytes more =
    elim (cases_of (after_text bytes)) [
      | inl e ↦
          let l = open_longer bytes more e in
          rw (e, l.1, l.2, l.0) (steady.1 bytes (text_until_line_end more) (after_text more) more)
      | inr p ↦
          let l = ended_longer bytes more p.0 p.1 p.2 in
          rw (p.2, l.0, l.1) (steady.0 (text_until_line_end bytes) p.0 p.1 more)
    ]

-- ---- numbers

number_continues : {A B : Type 0} (o : Option A) (x : A → B) (after more : List ℕ)
    → Continues (or_malformed o >>= λ n. after_line_end after >>= λ rest. Ok (x n, rest)) more (or_malformed o >>= λ n. after_line_end (after ++ more) >>= λ rest. Ok (x n, rest))
number_continues None x after more = refl
number_continues (Some n) x after more = end_continues (x n) after more

open_number : {A B : Type 0} (o p : Option A) (x : A → B) (after more : List ℕ) → (o ≡ None → p ≡ None)
    → Continues (or_malformed o >>= λ n. after_line_end [] >>= λ rest. Ok (x n, rest)) more (or_malformed p >>= λ n. after_line_end after >>= λ rest. Ok (x n, rest))
open_number None p x after more h = rw (h refl) refl
open_number (Some n) p x after more h = tt

pub eqb_zero : (b : ℕ) (rest : List ℕ) → eqb (length (b ∷ rest)) 0 ≡ false
eqb_zero b rest = grind (arith, nat_tests)

no_false : true ≡ false → ⊥
no_false e = absurd cc

off : (a b : List ℕ) → a ≢ b → bytes_eq a b ≡ false
off a b other = false_from_ne_true _ (λ same. other ((bytes_eq-Decides a b).0 same))

not_empty : (text : List ℕ) → eqb (length text) 0 ≡ false → text ≢ []
not_empty text f = λ e. no_false (sym (ap (λ (xs : List ℕ). eqb (length xs) 0) e) ∙ f)

empty_off : (text : List ℕ) → text ≢ [] → eqb (length text) 0 ≡ false
empty_off [] other = absurd (other refl)
empty_off (c ∷ text) other = eqb_zero c text

-- ---- what a longer text is not

not_empty_longer : (text t : List ℕ) → text ≢ [] → text ++ t ≢ []
not_empty_longer [] t some = absurd (some refl)
not_empty_longer (c ∷ text) t some = λ e. absurd (omega (arith, ap (length {A = ℕ}) e))

one_longer : (b : ℕ) (text t : List ℕ) → text ≢ [] → text ≢ b ∷ [] → text ++ t ≢ b ∷ []
one_longer b [] t some other = absurd (some refl)
one_longer b (c ∷ []) t some other = λ e. other (ap (λ (k : ℕ). k ∷ []) (ap (λ (xs : List ℕ). get_or xs 0 0) e))
one_longer b (c ∷ d ∷ text) t some other = λ e. absurd (omega (arith, ap (length {A = ℕ}) e))

two_longer : (a b : ℕ) (text t : List ℕ) → text ≢ [] → text ≢ a ∷ [] → text ≢ a ∷ b ∷ [] → text ++ t ≢ a ∷ b ∷ []
two_longer a b [] t some one two = absurd (some refl)
two_longer a b (c ∷ []) t some one two = λ e. one (ap (λ (k : ℕ). k ∷ []) (ap (λ (xs : List ℕ). get_or xs 0 0) e))
two_longer a b (c ∷ d ∷ []) t some one two = grind (arith, common_steps)
two_longer a b (c ∷ d ∷ e ∷ text) t some one two = λ h. absurd (omega (arith, ap (length {A = ℕ}) h))

-- ---- integers

digits_off : (text after : List ℕ) → HasDigits text → is_before_digits text after ≡ false
digits_off text after has = rw (empty_off text has.0, off text (codes "-") has.1, off text (codes "+") has.2) (and_false (eqb (length after) 0))

has_longer : (text t : List ℕ) → HasDigits text → HasDigits (text ++ t)
has_longer text t has = (not_empty_longer text t has.0, one_longer 45 text t has.0 has.1, one_longer 43 text t has.0 has.2)

has_digits : (text : List ℕ) → (eqb (length text) 0 || (bytes_eq text (codes "-") || bytes_eq text (codes "+"))) ≡ false → HasDigits text
has_digits text f = grind (arith, common_steps)

int_steady : Steady int_at
unfolding int_at
int_steady = (λ text b rest more. rw (eqb_zero b rest, eqb_zero b (rest ++ more)) (number_continues (int_in text) (λ n. n) (b ∷ rest) more), unended)
  where
    unended : (text t after more : List ℕ) → Continues (int_at text []) more (int_at (text ++ t) after)
    unended text t after more = by_test (eqb (length text) 0 || (bytes_eq text (codes "-") || bytes_eq text (codes "+")))
        (λ y. rw y tt)
        (λ f.
        let has = has_digits text f in
        rw (f, digits_off (text ++ t) after (has_longer text t has)) (open_number (int_in text) (int_in (text ++ t)) (λ n. n) after more (int_longer text t has)))

pub ints_continue : Continuous (λ bytes. int_at (text_until_line_end bytes) (after_text bytes))
ints_continue = line_continues int_at int_steady

-- ---- lengths

length_steady : Steady length_at
unfolding length_at
length_steady = (ended_text, unended)
  where
    ended_text : (text : List ℕ) (b : ℕ) (rest more : List ℕ) → Continues (length_at text (b ∷ rest)) more (length_at text (b ∷ (rest ++ more)))
    ended_text text b rest more = by_test (bytes_eq text (codes "-1"))
        (λ y. rw y (end_continues None (b ∷ rest) more))
        (λ f. rw (f, eqb_zero b rest, eqb_zero b (rest ++ more)) (number_continues (length_in text) (λ n. Some n) (b ∷ rest) more))

    unended : (text t after more : List ℕ) → Continues (length_at text []) more (length_at (text ++ t) after)
    unended text t after more = by_test (bytes_eq text (codes "-1"))
        (λ y. rw y tt)
        (λ f. by_test (eqb (length text) 0 || bytes_eq text (codes "-"))
        (λ y. rw (f, y) tt)
        (λ g.
        let a = or_parts (eqb (length text) 0) (bytes_eq text (codes "-")) g in
        let some = not_empty text a.0 in
        let one : text ≢ codes "-" = not_from_Decides _ (bytes_eq-Decides text (codes "-")) a.1 in
        let two : text ≢ codes "-1" = not_from_Decides _ (bytes_eq-Decides text (codes "-1")) f in
        let p = off (text ++ t) (codes "-1") (two_longer 45 49 text t some one two) in
        let q = off (text ++ t) (codes "-") (one_longer 45 text t some one) in
        let r = empty_off (text ++ t) (not_empty_longer text t some) in
        rw (f, g, p, q, r, and_false (eqb (length after) 0)) (open_number (length_in text) (length_in (text ++ t)) (λ n. Some n) after more (length_longer text t some))))

pub lengths_continue : Continuous (λ bytes. length_at (text_until_line_end bytes) (after_text bytes))
lengths_continue = line_continues length_at length_steady

-- ---- an answer

pub drop_front : (n : ℕ) (rest more : List ℕ) → n ≤ length rest → drop n (rest ++ more) ≡ drop n rest ++ more
drop_front n rest more h1 = grind (arith, common_steps)

pub bytes_continue : (n : Option ℕ) → Continuous (bytes_at n)
unfolding bytes_at
bytes_continue None rest more = refl
bytes_continue (Some n) rest more = grind (arith, common_steps)

pub text_steady : {A : Type 0} (means : List ℕ → A) → Steady (λ text after. after_line_end after >>= λ rest. Ok (means text, rest))
text_steady means = (λ text b rest more. end_continues (means text) (b ∷ rest) more, λ text t after more. tt)

flat_continues : (mark : ℕ) → Continuous (λ bytes. flat_at mark (text_until_line_end bytes) (after_text bytes))
unfolding flat_at
flat_continues mark bytes more = by_test (eqb mark 36)
    (λ t. rw t (continues_bind (length_at (text_until_line_end bytes) (after_text bytes)) (length_at (text_until_line_end (bytes ++ more)) (after_text (bytes ++ more))) (λ x. bytes_at x.0 x.1) more (lengths_continue bytes more) (λ n rest. bytes_continue n rest more)))
    (λ f. by_test (eqb mark 58)
    (λ t. rw (f, t) (continues_bind (int_at (text_until_line_end bytes) (after_text bytes)) (int_at (text_until_line_end (bytes ++ more)) (after_text (bytes ++ more))) (λ x. Ok (Ok (int x.0), x.1)) more (ints_continue bytes more) (λ n rest. refl)))
    (λ g. by_test (eqb mark 43)
    (λ t. rw (f, g, t) (line_continues (λ text after. after_line_end after >>= λ rest. Ok (Ok (simple_of text), rest)) (text_steady (λ text. Ok (simple_of text))) bytes more))
    (λ h. by_test (eqb mark 45)
    (λ t. rw (f, g, h, t) (line_continues (λ text after. after_line_end after >>= λ rest. Ok (Err text, rest)) (text_steady (λ text. Err text)) bytes more))
    (λ k. rw (f, g, h, k) refl))))

pub times_continue : (read : List ℕ → Result (Answer × List ℕ) Fault) → Continuous read → (n : ℕ) → Continuous (times_at read n)
unfolding times_at
times_continue read each zero bytes more = refl
times_continue read each (suc n) bytes more =
    continues_bind (read bytes) (read (bytes ++ more)) (λ first. times_at read n first.1 >>= λ others. Ok (answer_before first.0 others.0, others.1)) more (each bytes more)
    (λ a rest. continues_bind (times_at read n rest) (times_at read n (rest ++ more)) (λ others. Ok (answer_before a others.0, others.1)) more (times_continue read each n rest more) (λ answers after. refl))

items_continue : (items : ℕ → List ℕ → Result (Items × List ℕ) Fault) → ((n : ℕ) → Continuous (items n)) → (n : Option ℕ) → Continuous (array_items_at items n)
unfolding array_items_at
items_continue items each None rest more = refl
items_continue items each (Some n) rest more = grind (arith, common_steps)

pub array_continues : (items : ℕ → List ℕ → Result (Items × List ℕ) Fault) → ((n : ℕ) → Continuous (items n)) → Continuous (array_at items)
unfolding array_at
array_continues items each bytes more = grind (arith, continues_bind, lengths_continue, items_continue)

front_continues : (nested : List ℕ → Result (Answer × List ℕ) Fault) → Continuous nested → Continuous (front_at nested)
unfolding front_at
front_continues nested each [] more = tt
front_continues nested each (mark ∷ bytes) more = grind (arith, by_test, flat_continues)

pub answer_continues : (levels : ℕ) → Continuous (answer_at levels)
unfolding answer_at
answer_continues zero = front_continues (λ rest. Err TooDeep) (λ bytes more. refl)
answer_continues (suc levels) = front_continues (array_at (times_at (answer_at levels))) (array_continues (times_at (answer_at levels)) (times_continue (answer_at levels) (answer_continues levels)))
