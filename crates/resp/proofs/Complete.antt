-- What is incomplete can be completed.
use Rattle.std.proofs.Common.{◌≡◌, ℕ, ℤ, pos, zero, suc, ◌-◌, ◌<◌, ◌≤◌, Bool, true, false, ◌||◌, eqb, ltb, List, [], ◌∷◌, ◌++◌, length, take, drop, codes, append_assoc, append-nil, Option, Some, None, Result, Ok, Err, refl, sym, ap, subst, ◌∙◌, arith, ◌⊎◌, inl, inr}
use Rattle.std.specs.Prelude.{bytes_eq}
use Rattle.std.proofs.lemmas.Bool.{eqb-true, ltb-true, ltb-false}
use Rattle.std.proofs.lemmas.Bool.Decides.{nat_tests}
use Rattle.std.proofs.lemmas.Slice.Eq.{bytes_eq-Decides}
use Rattle.std.proofs.lemmas.List.{length-append, nil_from_length}
use Rattle.std.proofs.lemmas.Grind.{common_steps}
use Rattle.resp_core.specs.Reply.{nil, int, bulk}
use Rattle.resp.specs.declared.fault.Fault.{Fault}
use Rattle.resp.specs.declared.fault.Fault.TheVariants.{Incomplete, Malformed, TooDeep}
use Rattle.resp.specs.Forms.{Answer, answer_before, array_of_all, simple_of, number_up_to, int_in, length_in, crlf}
use Rattle.resp.specs.Reading.{◌>>=◌, or_malformed, Items, after_line_end, text_until_line_end, after_text, is_before_digits, is_before_length, int_at, length_at, bytes_at, flat_at, times_at, array_items_at, array_at, front_at, answer_at}
use Rattle.resp_core.proofs.Cases.{by_test}
use Rattle.resp.proofs.Steps.{chosen, done, failed, both}
use Rattle.resp.proofs.Lines.{ended_longer, open_longer, ended_takes}
use Rattle.resp.proofs.Longer.{Continues, Continuous, drop_front, cases_of, ints_continue, lengths_continue, times_continue, answer_continues}
use Rattle.resp.proofs.Grammar.{int_again, length_again, nothing_again, bytes_again, nil_front}

-- these bytes and more are read, to the last
abbrev pub Filled : {A : Type 0} → (List ℕ → Result (A × List ℕ) Fault) → List ℕ → Type 0
Filled {A} read bytes = (more : List ℕ) × (x : A) × (read (bytes ++ more) ≡ Ok (x, []))

abbrev pub Completable : {A : Type 0} → (List ℕ → Result (A × List ℕ) Fault) → Type 0
Completable read = (bytes : List ℕ) → read bytes ≡ Err Incomplete → Filled read bytes

pub no_ok : {A : Type 0} (x : A) → done x ≡ failed Incomplete → ⊥
no_ok x e = absurd cc

no_malformed : {A : Type 0} → failed {A = A} Malformed ≡ failed Incomplete → ⊥
no_malformed e = absurd cc

no_too_deep : {A : Type 0} → failed {A = A} TooDeep ≡ failed Incomplete → ⊥
no_too_deep e = absurd cc

module _ {A B : Type 0} (F : List ℕ → Result (A × List ℕ) Fault) (G : A → List ℕ → Result (B × List ℕ) Fault) (goes : Continuous F) where
  abbrev sequel : List ℕ → Result (B × List ℕ) Fault
  sequel bytes = F bytes >>= λ x. G x.0 x.1

  longer : (bytes more rest : List ℕ) (x : A) → F bytes ≡ Ok (x, rest) → F (bytes ++ more) ≡ Ok (x, rest ++ more)
  longer bytes more rest x e = subst (λ (r : Result (A × List ℕ) Fault). Continues r more (F (bytes ++ more))) e (goes bytes more)

  after_first : (bytes more rest : List ℕ) (x : A) (y : B) → F bytes ≡ Ok (x, rest) → G x (rest ++ more) ≡ Ok (y, []) → sequel (bytes ++ more) ≡ Ok (y, [])
  after_first bytes more rest x y e g = rw (longer bytes more rest x e) g

  both_filled : (bytes : List ℕ) → Filled F bytes → ((x : A) → Filled (G x) []) → Filled sequel bytes
  both_filled bytes f begins =
      let b = begins f.1 in
      let whole : sequel ((bytes ++ f.0) ++ b.0) ≡ Ok (b.1, []) = after_first (bytes ++ f.0) b.0 [] f.1 b.1 f.2 b.2 in
      (f.0 ++ b.0, b.1, ap sequel (sym (append_assoc bytes f.0 b.0)) ∙ whole)

  filled_by : (bytes : List ℕ) (r : Result (A × List ℕ) Fault) → F bytes ≡ r → Completable F → ((x : A) → Completable (G x)) → ((x : A) → Filled (G x) [])
      → (r >>= λ x. G x.0 x.1) ≡ Err Incomplete → Filled sequel bytes
  filled_by bytes (Ok x) is first second begins e = grind (arith, common_steps)
  filled_by bytes (Err Incomplete) is first second begins e = both_filled bytes (first bytes is) begins
  filled_by bytes (Err Malformed) is first second begins e = absurd (no_malformed e)
  filled_by bytes (Err TooDeep) is first second begins e = absurd (no_too_deep e)

  pub complete_bind : Completable F → ((x : A) → Completable (G x)) → ((x : A) → Filled (G x) []) → Completable sequel
  complete_bind first second begins bytes e = filled_by bytes (F bytes) refl first second begins e

-- ---- a line

ended_completes : (after : List ℕ) → after_line_end after ≡ Err Incomplete → (more : List ℕ) × (after_line_end (after ++ more) ≡ Ok [])
ended_completes [] e = (crlf, refl)
ended_completes (b ∷ []) e =
    elim (chosen (eqb b 13) (Err Incomplete) (Err Malformed) (failed Incomplete) e) [
      | inl p ↦ (10 ∷ [], rw p.0 refl)
      | inr p ↦ absurd (no_malformed p.1)
    ]
ended_completes (b ∷ c ∷ rest) e = grind (arith, common_steps)

abbrev LineFilled : List ℕ → Type 0
LineFilled bytes = (more : List ℕ) × (text_until_line_end (bytes ++ more) ≡ text_until_line_end bytes) × (after_line_end (after_text (bytes ++ more)) ≡ Ok [])

line_completes : (bytes : List ℕ) → after_line_end (after_text bytes) ≡ Err Incomplete → LineFilled bytes
unfolding text_until_line_end after_text
line_completes bytes e =
    elim (cases_of (after_text bytes)) [
      | inl p ↦
          let l = open_longer bytes crlf p in
          (crlf, l.1 ∙ append-nil bytes ∙ sym l.0, ap after_line_end l.2)
      | inr p ↦
          let m = ended_completes (p.0 ∷ p.1) (sym (ap after_line_end p.2) ∙ e) in
          let l = ended_longer bytes m.0 p.0 p.1 p.2 in
          (m.0, l.0, ap after_line_end l.1 ∙ m.1)
    ]

abbrev paired : {B : Type 0} → B → List ℕ → Result (B × List ℕ) Fault
paired y rest = Ok (y, rest)

lacks : {B : Type 0} (r : Result (List ℕ) Fault) (y : B) → (r >>= paired y) ≡ Err Incomplete → r ≡ Err Incomplete
lacks r y h1 = grind (arith)

-- the end is what the line lacks
end_lacks : {A B : Type 0} (o : Option A) (x : A → B) (after : List ℕ) → (or_malformed o >>= λ n. after_line_end after >>= paired (x n)) ≡ Err Incomplete
    → (n : A) × (o ≡ Some n) × (after_line_end after ≡ Err Incomplete)
end_lacks None x after e = absurd (no_malformed e)
end_lacks (Some n) x after e = (n, refl, lacks (after_line_end after) (x n) e)

or_cases : (a b : Bool) → (a || b) ≡ true → (a ≡ true) ⊎ (b ≡ true)
or_cases true b e = inl refl
or_cases false b e = inr e

no_text : (xs : List ℕ) → eqb (length xs) 0 ≡ true → xs ≡ []
no_text xs e = nil_from_length xs (eqb-true _ _ e)

zero_text : int_in (codes "0") ≡ Some (pos 0)
unfolding int_in number_up_to
zero_text = refl

minus_zero_text : int_in (codes "-0") ≡ Some (pos 0)
unfolding int_in number_up_to
minus_zero_text = refl

plus_zero_text : int_in (codes "+0") ≡ Some (pos 0)
unfolding int_in number_up_to
plus_zero_text = refl

zero_length : length_in (codes "0") ≡ Some 0
unfolding number_up_to
zero_length = refl

-- the line is "bytes", a digit, and the end
digit_line : (bytes : List ℕ) (d : ℕ) → after_text bytes ≡ [] → eqb d 13 ≡ false → eqb d 10 ≡ false
    → (text_until_line_end (bytes ++ (d ∷ crlf)) ≡ bytes ++ d ∷ []) × (after_text (bytes ++ (d ∷ crlf)) ≡ 13 ∷ 10 ∷ [])
unfolding text_until_line_end after_text
digit_line bytes d e f g = grind (arith, common_steps, open_longer bytes (d ∷ crlf) e)

ints_filled : (bytes text : List ℕ) → after_text bytes ≡ [] → bytes ≡ text → int_in (text ++ 48 ∷ []) ≡ Some (pos 0) → Filled (λ bs. int_at (text_until_line_end bs) (after_text bs)) bytes
ints_filled bytes text e is number =
    let l = digit_line bytes 48 e refl refl in
    (48 ∷ crlf, pos 0, rw (l.0, l.1, is) (int_again (text ++ 48 ∷ []) [] (pos 0) number))

ints_complete : Completable (λ bytes. int_at (text_until_line_end bytes) (after_text bytes))
unfolding int_at
ints_complete bytes e =
    let text = text_until_line_end bytes in
    let after = after_text bytes in
    elim (chosen (is_before_digits text after) (Err Incomplete) _ (failed Incomplete) e) [
      | inl p ↦
          let t = both (eqb (length after) 0) (eqb (length text) 0 || (bytes_eq text (codes "-") || bytes_eq text (codes "+"))) p.0 in
          let none = no_text after t.0 in
          let is : bytes ≡ text = sym (open_longer bytes [] none).0 in
          elim (or_cases (eqb (length text) 0) _ t.1) [
            | inl q ↦ ints_filled bytes [] none (is ∙ no_text text q) zero_text
            | inr q ↦ elim (or_cases (bytes_eq text (codes "-")) _ q) [
              | inl r ↦ ints_filled bytes (codes "-") none (is ∙ (bytes_eq-Decides text (codes "-")).0 r) minus_zero_text
              | inr r ↦ ints_filled bytes (codes "+") none (is ∙ (bytes_eq-Decides text (codes "+")).0 r) plus_zero_text
            ]
          ]
      | inr p ↦
          let a = end_lacks (int_in text) (λ n. n) after p.1 in
          let f = line_completes bytes a.2 in
          int_line bytes a.0 a.1 f
    ]
  where
    int_line : (bytes : List ℕ) (n : ℤ) → int_in (text_until_line_end bytes) ≡ Some n → LineFilled bytes → Filled (λ bs. int_at (text_until_line_end bs) (after_text bs)) bytes
    int_line bytes n is f =
        let whole : after_text (bytes ++ f.0) ≡ 13 ∷ 10 ∷ [] = ended_takes (after_text (bytes ++ f.0)) [] f.2 in
        (f.0, n, rw (whole, f.1) (int_again (text_until_line_end bytes) [] n is))

lengths_filled : (bytes text : List ℕ) (d : ℕ) (o : Option ℕ) → after_text bytes ≡ [] → bytes ≡ text → eqb d 13 ≡ false → eqb d 10 ≡ false → length_at (text ++ d ∷ []) (13 ∷ 10 ∷ []) ≡ Ok (o, [])
    → Filled (λ bs. length_at (text_until_line_end bs) (after_text bs)) bytes
lengths_filled bytes text d o e is f g given =
    let l = digit_line bytes d e f g in
    (d ∷ crlf, o, rw (l.0, l.1, is) given)

length_line : (bytes : List ℕ) (o : Option ℕ) → length_at (text_until_line_end bytes) (13 ∷ 10 ∷ []) ≡ Ok (o, []) → LineFilled bytes → Filled (λ bs. length_at (text_until_line_end bs) (after_text bs)) bytes
length_line bytes o given f =
    let whole : after_text (bytes ++ f.0) ≡ 13 ∷ 10 ∷ [] = ended_takes (after_text (bytes ++ f.0)) [] f.2 in
    (f.0, o, rw (whole, f.1) given)

pub lengths_complete : Completable (λ bytes. length_at (text_until_line_end bytes) (after_text bytes))
unfolding length_at
lengths_complete bytes e =
    let text = text_until_line_end bytes in
    let after = after_text bytes in
    elim (chosen (bytes_eq text (codes "-1")) (after_line_end after >>= λ rest. Ok (None, rest)) _ (failed Incomplete) e) [
      | inl p ↦
          length_line bytes None (nothing_again text [] ((bytes_eq-Decides text (codes "-1")).0 p.0)) (line_completes bytes (lacks (after_line_end after) None p.1))
      | inr s ↦ elim (chosen (is_before_length text after) (Err Incomplete) _ (failed Incomplete) s.1) [
        | inl p ↦
            let t = both (eqb (length after) 0) (eqb (length text) 0 || bytes_eq text (codes "-")) p.0 in
            let none = no_text after t.0 in
            let is : bytes ≡ text = sym (open_longer bytes [] none).0 in
            elim (or_cases (eqb (length text) 0) _ t.1) [
              | inl q ↦ lengths_filled bytes [] 48 (Some 0) none (is ∙ no_text text q) refl refl (length_again (codes "0") [] 0 zero_length)
              | inr q ↦ lengths_filled bytes (codes "-") 49 None none (is ∙ (bytes_eq-Decides text (codes "-")).0 q) refl refl (nothing_again (codes "-1") [] refl)
            ]
        | inr p ↦
            let a = end_lacks (length_in text) (λ n. Some n) after p.1 in
            length_line bytes (Some a.0) (length_again text [] a.0 a.1) (line_completes bytes a.2)
      ]
    ]

pub text_complete : {A : Type 0} (means : List ℕ → A) → Completable (λ bytes. after_line_end (after_text bytes) >>= λ rest. Ok (means (text_until_line_end bytes), rest))
text_complete means bytes e =
    let f = line_completes bytes (lacks (after_line_end (after_text bytes)) (means (text_until_line_end bytes)) e) in
    (f.0, means (text_until_line_end (bytes ++ f.0)), rw f.2 refl)

-- ---- an answer

zeros : ℕ → List ℕ
zeros zero = []
zeros (suc n) = 0 ∷ zeros n

zeros_length : (n : ℕ) → length (zeros n) ≡ n
unfolding zeros
zeros_length zero = refl
zeros_length (suc n) = ap suc (zeros_length n)

bytes_filled : (n : ℕ) (bytes : List ℕ) → length bytes ≡ n → bytes_at (Some n) (bytes ++ crlf) ≡ Ok (Ok (bulk bytes), [])
bytes_filled n bytes is = subst (λ (k : ℕ). bytes_at (Some k) (bytes ++ crlf) ≡ Ok (Ok (bulk bytes), [])) is (bytes_again bytes)

pub bytes_complete : (o : Option ℕ) → Completable (bytes_at o)
unfolding bytes_at
bytes_complete None rest e = absurd (no_ok (Ok nil, rest) e)
bytes_complete (Some n) rest e =
    elim (chosen (ltb (length rest) n) (Err Incomplete) _ (failed Incomplete) e) [
      | inl p ↦
          let few : length rest < n = ltb-true _ _ p.0 in
          let k = n - length rest in
          let long : length (rest ++ zeros k) ≡ n = omega (arith, few, length-append rest (zeros k), zeros_length k) in
          (zeros k ++ crlf, Ok (bulk (rest ++ zeros k)), ap (bytes_at (Some n)) (sym (append_assoc rest (zeros k) crlf)) ∙ bytes_filled n (rest ++ zeros k) long)
      | inr p ↦
          let le : n ≤ length rest = ltb-false _ _ p.0 in
          let m = ended_completes (drop n rest) (lacks (after_line_end (drop n rest)) (Ok (bulk (take n rest))) p.1) in
          let long : n ≤ length (rest ++ m.0) = omega (arith, le, length-append rest m.0) in
          let g : ltb (length (rest ++ m.0)) n ≡ false = grind (arith, nat_tests) in
          (m.0, Ok (bulk (take n (rest ++ m.0))), rw (g, drop_front n rest m.0 le, m.1) refl)
    ]

pub bytes_begin : (o : Option ℕ) → Filled (bytes_at o) []
unfolding bytes_at
bytes_begin None = ([], Ok nil, refl)
bytes_begin (Some n) = (zeros n ++ crlf, Ok (bulk (zeros n)), bytes_filled n (zeros n) (zeros_length n))

flat_complete : (mark : ℕ) → Completable (λ bytes. flat_at mark (text_until_line_end bytes) (after_text bytes))
unfolding flat_at
flat_complete mark bytes e = by_test (eqb mark 36)
    (λ t. rw t (complete_bind (λ bs. length_at (text_until_line_end bs) (after_text bs)) bytes_at lengths_continue lengths_complete bytes_complete bytes_begin bytes (rw t at e)))
    (λ f. by_test (eqb mark 58)
    (λ t. rw (f, t) (complete_bind (λ bs. int_at (text_until_line_end bs) (after_text bs)) (λ n rest. Ok (Ok (int n), rest)) ints_continue ints_complete (λ n rest h. absurd (no_ok (Ok (int n), rest) h)) (λ n. ([], Ok (int n), refl)) bytes (rw (f, t) at e)))
    (λ g. by_test (eqb mark 43)
    (λ t. rw (f, g, t) (text_complete (λ text. Ok (simple_of text)) bytes (rw (f, g, t) at e)))
    (λ h. by_test (eqb mark 45)
    (λ t. rw (f, g, h, t) (text_complete (λ text. Err text) bytes (rw (f, g, h, t) at e)))
    (λ k. absurd (no_malformed (rw (f, g, h, k) at e))))))

module _ (read : List ℕ → Result (Answer × List ℕ) Fault) (goes : Continuous read) (first : Completable read) (begins : Filled read []) where
  abbrev rest_of : ℕ → Answer → List ℕ → Result (Items × List ℕ) Fault
  rest_of n a rest = times_at read n rest >>= λ others. Ok (answer_before a others.0, others.1)

  rest_complete : (n : ℕ) → Completable (times_at read n) → (a : Answer) → Completable (rest_of n a)
  rest_complete n each a = complete_bind (times_at read n) (λ others rest. Ok (answer_before a others, rest)) (times_continue read goes n) each (λ others rest h. absurd (no_ok (answer_before a others, rest) h)) (λ others. ([], answer_before a others, refl))

  rest_begins : (n : ℕ) → Filled (times_at read n) [] → (a : Answer) → Filled (rest_of n a) []
  rest_begins n f a = (f.0, answer_before a f.1, rw f.2 refl)

  times_begin : (n : ℕ) → Filled (times_at read n) []
  unfolding times_at
  times_begin zero = ([], Ok [], refl)
  times_begin (suc n) = both_filled read (rest_of n) goes [] begins (λ a. rest_begins n (times_begin n) a)

  times_complete : (n : ℕ) → Completable (times_at read n)
  unfolding times_at
  times_complete zero bytes e = absurd (no_ok (Ok [], bytes) e)
  times_complete (suc n) bytes e = complete_bind read (rest_of n) goes first (λ a. rest_complete n (times_complete n) a) (λ a. rest_begins n (times_begin n) a) bytes e

  items_complete : (o : Option ℕ) → Completable (array_items_at (times_at read) o)
  unfolding array_items_at
  items_complete None rest h = absurd (no_ok (Ok nil, rest) h)
  items_complete (Some n) rest h = complete_bind (times_at read n) (λ answers after. Ok (array_of_all answers, after)) (times_continue read goes n) (times_complete n) (λ answers after k. absurd (no_ok (array_of_all answers, after) k)) (λ answers. ([], array_of_all answers, refl)) rest h

  items_begin : (o : Option ℕ) → Filled (array_items_at (times_at read) o) []
  unfolding array_items_at
  items_begin None = ([], Ok nil, refl)
  items_begin (Some n) =
      let f = times_begin n in
      (f.0, array_of_all f.1, rw f.2 refl)

  nested_complete : Completable (array_at (times_at read))
  unfolding array_at
  nested_complete bytes e = complete_bind (λ bs. length_at (text_until_line_end bs) (after_text bs)) (array_items_at (times_at read)) lengths_continue lengths_complete items_complete items_begin bytes e

front_complete : (nested : List ℕ → Result (Answer × List ℕ) Fault) → Completable nested → Completable (front_at nested)
unfolding front_at
front_complete nested each [] e = (36 ∷ 45 ∷ 49 ∷ crlf, Ok nil, nil_front nested)
front_complete nested each (mark ∷ bytes) e = grind (arith, by_test, flat_complete)

pub answer_begins : (levels : ℕ) → Filled (answer_at levels) []
unfolding answer_at
answer_begins zero = (36 ∷ 45 ∷ 49 ∷ crlf, Ok nil, nil_front (λ rest. Err TooDeep))
answer_begins (suc levels) = (36 ∷ 45 ∷ 49 ∷ crlf, Ok nil, nil_front (array_at (times_at (answer_at levels))))

pub answer_completes : (levels : ℕ) → Completable (answer_at levels)
unfolding answer_at
answer_completes zero = front_complete (λ rest. Err TooDeep) (λ bytes e. absurd (no_too_deep e))
answer_completes (suc levels) = front_complete (array_at (times_at (answer_at levels))) (nested_complete (answer_at levels) (answer_continues levels) (answer_completes levels) (answer_begins levels))
