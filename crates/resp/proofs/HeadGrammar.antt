-- What is read of a head is a head, and each head is read. Reading of more bytes goes on as it was,
-- and what is incomplete can be completed.
use Rattle.std.proofs.Common.{◌≡◌, ◌≢◌, ℕ, zero, suc, ◌*◌, ◌+◌, ◌-◌, ◌^◌, ◌<◌, ◌≤◌, true, false, cond, eqb, take, drop, get_or, List, [], ◌∷◌, ◌++◌, length, codes, Option, Some, None, Result, Ok, refl, sym, ap, subst, ◌∙◌, arith, inl, inr}
use Rattle.std.proofs.lemmas.Grind.{common_steps}
use Rattle.std.specs.Prelude.{bytes_eq}
use Rattle.std.specs.Option.{unwrap_or}
use Rattle.std.proofs.lemmas.Bool.{eqb-true, false_from_ne_true}
use Rattle.std.proofs.lemmas.Slice.Eq.{bytes_eq-Decides}
use Rattle.std.proofs.lemmas.List.{length-append, nil_from_length}
use Rattle.std.proofs.lemmas.Bool.Decides.{nat_tests}
use Rattle.std.specs.List.{AllByRecursion}
use Rattle.resp_core.proofs.Cases.{by_test}
use Rattle.resp_core.specs.Reply.{nil}
use Rattle.resp.specs.declared.fault.Fault.{Fault}
use Rattle.resp.specs.declared.heads.Kind.{Kind}
use Rattle.resp.specs.declared.heads.Kind.TheVariants.{Simple, Bulk, Array, Map, Attribute}
use Rattle.resp.specs.Forms.{Answer, crlf, line, length_in}
use Rattle.resp.specs.Reading.{◌>>=◌, or_malformed, after_line_end, text_until_line_end, after_text, is_before_length, length_at, bytes_at}
use Rattle.resp.specs.Messages.{kind_of, announced, Announces, IsHead, IsSearched, leading_zeros, length_from, announced_at, head_at, head_of}
use Rattle.resp.proofs.Steps.{bind_ok, done, ok_is, chosen, some_of}
use Rattle.resp.proofs.Digits.{and_false, number_after, number_in_is, number_below}
use Rattle.resp.proofs.Lines.{is_end, text_in_line}
use Rattle.resp.proofs.Longer.{Continues, Continuous, continues_bind, line_continues, text_steady, lengths_continue, bytes_continue}
use Rattle.resp.proofs.Grammar.{end_takes, length_takes, bytes_take, spelt, length_again, nothing_again, bytes_again, line_text, line_after, minus_one_none}
use Rattle.resp.proofs.Complete.{Completable, no_ok, complete_bind, lengths_complete, bytes_complete, bytes_begin, text_complete}

-- ---- what is read

-- a line that announces a number, from which `f` makes the items
abbrev IsCounted : List ℕ → (ℕ → ℕ) → ℕ → Type 0
IsCounted text f items = (n : ℕ) × (announced text ≡ Some n) × (items ≡ f n)

pub minus_one : (text : List ℕ) → text ≡ codes "-1" → announced text ≡ Some 0
minus_one text e = rw e refl

pub number : (text : List ℕ) (n : ℕ) → length_in text ≡ Some n → announced text ≡ Some n
number text n e = grind (arith, common_steps, false_from_ne_true, minus_one_none, bytes_eq-Decides)

abbrev counted_at : (ℕ → ℕ) → List ℕ → List ℕ → Result (ℕ × List ℕ) Fault
counted_at f text after = length_at text after >>= λ x. Ok (f (unwrap_or x.0 0), x.1)

count_takes : (f : ℕ → ℕ) (text after : List ℕ) (y : ℕ × List ℕ) → counted_at f text after ≡ Ok y → (after ≡ 13 ∷ 10 ∷ y.1) × IsCounted text f y.0
count_takes f text after y e = grind (arith, common_steps, bind_ok, length_takes, ok_is, minus_one, number)

-- after a line's text: its end, what belongs to the head, and the rest
abbrev Taken : Kind → List ℕ → List ℕ → ℕ × List ℕ → Type 0
Taken kind text after y = (body : List ℕ) × (after ≡ 13 ∷ 10 ∷ (body ++ y.1)) × Announces kind text body y.0

announced_takes : (kind : Kind) (text after : List ℕ) (y : ℕ × List ℕ) → announced_at 0 kind text after ≡ Ok y → Taken kind text after y
unfolding announced_at length_from bytes_at
announced_takes Simple text after y e =
    let t = end_takes 0 after y e in
    ([], t.0, (refl, sym t.1))
announced_takes Bulk text after y e =
    let b = bind_ok (length_at text after >>= λ x. bytes_at x.0 x.1) (λ x. Ok (0, x.1)) y e in
    let a = bind_ok (length_at text after) (λ x. bytes_at x.0 x.1) b.0 b.1 in
    let l = length_takes text after a.0 a.1 in
    let is = ok_is (0, b.0.1) y b.2 in
    let none : y.0 ≡ 0 = sym (ap (λ (p : ℕ × List ℕ). p.0) is) in
    let rest : b.0.1 ≡ y.1 = ap (λ (p : ℕ × List ℕ). p.1) is in
    elim l.1 [
      | inl q ↦
          let found : bytes_at None a.0.1 ≡ Ok b.0 = subst (λ (o : Option ℕ). bytes_at o a.0.1 ≡ Ok b.0) q.1 a.2 in
          let same = ok_is (Ok nil, a.0.1) b.0 found in
          ([], l.0 ∙ ap (λ (p : Answer × List ℕ). 13 ∷ 10 ∷ p.1) same ∙ ap (λ (r : List ℕ). 13 ∷ 10 ∷ r) rest, (inl (q.0, refl), none))
      | inr q ↦
          let found : bytes_at (Some q.0) a.0.1 ≡ Ok b.0 = subst (λ (o : Option ℕ). bytes_at o a.0.1 ≡ Ok b.0) q.2 a.2 in
          let t = bytes_take q.0 a.0.1 b.0 found in
          (t.0 ++ crlf, l.0 ∙ ap (λ (r : List ℕ). 13 ∷ 10 ∷ r) (t.2 ∙ ap (λ (r : List ℕ). (t.0 ++ crlf) ++ r) rest), (inr (t.0, q.1 ∙ ap (λ (k : ℕ). Some k) (sym t.1), refl), none))
    ]
announced_takes Array text after y e =
    let t = count_takes (λ n. n) text after y e in
    ([], t.0, (refl, t.1.1 ∙ ap (λ (k : ℕ). Some k) (sym t.1.2)))
announced_takes Map text after y e =
    let t = count_takes (λ n. 2 * n) text after y e in
    ([], t.0, (refl, t.1.0, t.1.1, t.1.2))
announced_takes Attribute text after y e =
    let t = count_takes (λ n. 2 * n + 1) text after y e in
    ([], t.0, (refl, t.1.0, t.1.1, t.1.2))

pub head_takes : (bytes : List ℕ) (y : ℕ × List ℕ) → head_at bytes ≡ Ok y → (head : List ℕ) × (bytes ≡ head ++ y.1) × IsHead y.0 head
unfolding head_at
head_takes [] y e = absurd cc
head_takes (mark ∷ bytes) y e =
    let k = bind_ok (or_malformed (kind_of mark)) (λ kind. announced_at 0 kind (text_until_line_end bytes) (after_text bytes)) y e in
    let t = announced_takes k.0 (text_until_line_end bytes) (after_text bytes) y k.2 in
    (line mark (text_until_line_end bytes) ++ t.0, spelt mark bytes t.0 y.1 t.1, (mark, text_until_line_end bytes, t.0, k.0, refl, text_in_line bytes, some_of (kind_of mark) k.0 k.1, t.2))

-- ---- what more bytes change

counts_continue : (f : ℕ → ℕ) → Continuous (λ bytes. counted_at f (text_until_line_end bytes) (after_text bytes))
counts_continue f bytes more =
    continues_bind (length_at (text_until_line_end bytes) (after_text bytes)) (length_at (text_until_line_end (bytes ++ more)) (after_text (bytes ++ more))) (λ x. Ok (f (unwrap_or x.0 0), x.1)) more (lengths_continue bytes more) (λ n rest. refl)

bulks_continue : Continuous (λ bytes. length_at (text_until_line_end bytes) (after_text bytes) >>= λ x. bytes_at x.0 x.1)
bulks_continue bytes more =
    continues_bind (length_at (text_until_line_end bytes) (after_text bytes)) (length_at (text_until_line_end (bytes ++ more)) (after_text (bytes ++ more))) (λ x. bytes_at x.0 x.1) more (lengths_continue bytes more) (λ n rest. bytes_continue n rest more)

announced_continues : (kind : Kind) → Continuous (λ bytes. announced_at 0 kind (text_until_line_end bytes) (after_text bytes))
unfolding announced_at length_from
announced_continues Simple bytes more = line_continues (λ text after. after_line_end after >>= λ rest. Ok (0, rest)) (text_steady (λ text. 0)) bytes more
announced_continues Bulk bytes more =
    continues_bind (length_at (text_until_line_end bytes) (after_text bytes) >>= λ x. bytes_at x.0 x.1) (length_at (text_until_line_end (bytes ++ more)) (after_text (bytes ++ more)) >>= λ x. bytes_at x.0 x.1) (λ x. Ok (0, x.1)) more (bulks_continue bytes more) (λ a rest. refl)
announced_continues Array bytes more = counts_continue (λ n. n) bytes more
announced_continues Map bytes more = counts_continue (λ n. 2 * n) bytes more
announced_continues Attribute bytes more = counts_continue (λ n. 2 * n + 1) bytes more

kind_continues : (o : Option Kind) → Continuous (λ bytes. or_malformed o >>= λ kind. announced_at 0 kind (text_until_line_end bytes) (after_text bytes))
kind_continues None bytes more = refl
kind_continues (Some kind) bytes more = announced_continues kind bytes more

pub head_continues : Continuous head_at
unfolding head_at
head_continues [] more = tt
head_continues (mark ∷ bytes) more = kind_continues (kind_of mark) bytes more

-- ---- what is a head

count_again : (f : ℕ → ℕ) (text : List ℕ) (n : ℕ) → announced text ≡ Some n → counted_at f text (13 ∷ 10 ∷ []) ≡ Ok (f n, [])
count_again f text n e = grind (arith, common_steps, by_test, nothing_again, bytes_eq-Decides, length_again)

announced_again : (kind : Kind) (text body : List ℕ) (items : ℕ) → Announces kind text body items → announced_at 0 kind text (13 ∷ 10 ∷ body) ≡ Ok (items, [])
unfolding announced_at length_from bytes_at
announced_again Simple text body items h = rw (h.0, h.1) refl
announced_again Bulk text body items h = grind (arith, nothing_again, length_again, bytes_again)
announced_again Array text body items h = rw h.0 (count_again (λ n. n) text items h.1)
announced_again Map text body items h = rw (h.0, h.3) (count_again (λ n. 2 * n) text h.1 h.2)
announced_again Attribute text body items h = rw (h.0, h.3) (count_again (λ n. 2 * n + 1) text h.1 h.2)

head_whole : (items : ℕ) (head : List ℕ) → IsHead items head → head_at head ≡ Ok (items, [])
unfolding head_at
head_whole items head h = rw (h.4, h.6, line_text h.1 h.2 h.5, line_after h.1 h.2 h.5) (announced_again h.3 h.1 h.2 items h.7)

pub head_again : (items : ℕ) (head rest : List ℕ) → IsHead items head → head_at (head ++ rest) ≡ Ok (items, rest)
head_again items head rest h = subst (λ (r : Result (ℕ × List ℕ) Fault). Continues r rest (head_at (head ++ rest))) (head_whole items head h) (head_continues head rest)

null_kind : kind_of 95 ≡ Some Simple
unfolding kind_of
null_kind = refl

-- "_"
pub null_head : IsHead 0 (95 ∷ crlf)
null_head = (95, [], [], Simple, refl, tt, null_kind, (refl, refl))

-- ---- what is incomplete can be completed

counts_complete : (f : ℕ → ℕ) → Completable (λ bytes. counted_at f (text_until_line_end bytes) (after_text bytes))
counts_complete f bytes e =
    complete_bind (λ bs. length_at (text_until_line_end bs) (after_text bs)) (λ o rest. Ok (f (unwrap_or o 0), rest)) lengths_continue lengths_complete (λ o rest h. absurd (no_ok (f (unwrap_or o 0), rest) h)) (λ o. ([], f (unwrap_or o 0), refl)) bytes e

bulks_complete : Completable (λ bytes. length_at (text_until_line_end bytes) (after_text bytes) >>= λ x. bytes_at x.0 x.1)
bulks_complete bytes e = complete_bind (λ bs. length_at (text_until_line_end bs) (after_text bs)) bytes_at lengths_continue lengths_complete bytes_complete bytes_begin bytes e

announced_completes : (kind : Kind) → Completable (λ bytes. announced_at 0 kind (text_until_line_end bytes) (after_text bytes))
unfolding announced_at length_from
announced_completes Simple bytes e = text_complete (λ text. 0) bytes e
announced_completes Bulk bytes e =
    complete_bind (λ bs. length_at (text_until_line_end bs) (after_text bs) >>= λ x. bytes_at x.0 x.1) (λ (a : Answer) rest. Ok (0, rest)) bulks_continue bulks_complete (λ a rest h. absurd (no_ok (0, rest) h)) (λ a. ([], 0, refl)) bytes e
announced_completes Array bytes e = counts_complete (λ n. n) bytes e
announced_completes Map bytes e = counts_complete (λ n. 2 * n) bytes e
announced_completes Attribute bytes e = counts_complete (λ n. 2 * n + 1) bytes e

kind_completes : (o : Option Kind) → Completable (λ bytes. or_malformed o >>= λ kind. announced_at 0 kind (text_until_line_end bytes) (after_text bytes))
kind_completes None bytes e = absurd cc
kind_completes (Some kind) bytes e = announced_completes kind bytes e

pub head_completes : Completable head_at
unfolding head_at
head_completes [] e = (95 ∷ crlf, 0, head_whole 0 (95 ∷ crlf) null_head)
head_completes (mark ∷ bytes) e = kind_completes (kind_of mark) bytes e

-- ---- by its line

no_kind : (b : ℕ) → is_end b ≡ true → kind_of b ≡ None
unfolding kind_of
no_kind b t = grind (arith, common_steps)

pub head_by_line : (bytes : List ℕ) → head_of 0 (text_until_line_end bytes) (after_text bytes) ≡ head_at bytes
unfolding head_of head_at text_until_line_end after_text
head_by_line [] = refl
head_by_line (mark ∷ bytes) = grind (arith, common_steps, by_test, is_end, no_kind)

-- ---- a line that begins with zeros

abbrev pub IsZero : ℕ → Type 0
IsZero b = b ≡ 48

zeros_skipped : (limit n : ℕ) (text : List ℕ) → 0 < limit → AllByRecursion IsZero (take n text) → n ≤ length text → number_after limit 0 text ≡ number_after limit 0 (drop n text)
zeros_skipped limit zero text some h le = refl
zeros_skipped limit (suc n) [] some h le = absurd (omega (arith, le))
zeros_skipped limit (suc n) (b ∷ text) some h le = grind (arith, common_steps, zeros_skipped limit n text some h.1 (omega (arith, le)))

-- so many zeros lead a text if no zero follows them
pub zeros_end : (text : List ℕ) (n : ℕ) → AllByRecursion IsZero (take n text) → n ≤ length text → (n < length text → get_or text n 0 ≢ 48) → n ≡ leading_zeros text
unfolding leading_zeros
zeros_end [] n h le next = omega (arith, le)
zeros_end (b ∷ text) zero h le next = grind (arith, common_steps, nat_tests)
zeros_end (b ∷ text) (suc n) h le next = grind (arith, common_steps, nat_tests, zeros_end text n h.1)

abbrev after_zeros : List ℕ → Option ℕ
after_zeros digits = cond (eqb (length digits) 0) (Some 0) (length_in digits)

length_skipped : (n : ℕ) (text : List ℕ) → 0 < n → AllByRecursion IsZero (take n text) → n ≤ length text → after_zeros (drop n text) ≡ length_in text
length_skipped n text some h le = grind (arith, number_in_is, zeros_skipped, by_test, nil_from_length, eqb-true, number_after, nat_tests)

first_zero : (n : ℕ) (text : List ℕ) → 0 < n → AllByRecursion IsZero (take n text) → n ≤ length text → (digits : List ℕ) × (text ≡ 48 ∷ digits)
first_zero n text h1 h2 h3 = grind (arith)

no_length : (digits after : List ℕ) → (bytes_eq (48 ∷ digits) (codes "-1") ≡ false) × (is_before_length (48 ∷ digits) after ≡ false)
no_length digits after = grind (arith, common_steps, nat_tests, false_from_ne_true, bytes_eq-Decides, and_false)

length_again_from : (n : ℕ) (text after : List ℕ) → AllByRecursion IsZero (take n text) → n ≤ length text → length_from n text after ≡ length_at text after
unfolding length_from length_at
length_again_from n text after h le = grind (arith, common_steps, by_test, nat_tests, first_zero, no_length, length_skipped)

announced_again_from : (n : ℕ) (kind : Kind) (text after : List ℕ) → (kind ≢ Simple → AllByRecursion IsZero (take n text)) → n ≤ length text → announced_at n kind text after ≡ announced_at 0 kind text after
unfolding announced_at length_from
announced_again_from n kind text after h1 h2 = grind (arith, length_again_from)

kind_again_from : (n : ℕ) (o : Option Kind) (text after : List ℕ) → (o ≢ Some Simple → AllByRecursion IsZero (take n text)) → n ≤ length text
    → (or_malformed o >>= λ kind. announced_at n kind text after) ≡ (or_malformed o >>= λ kind. announced_at 0 kind text after)
kind_again_from n None text after h le = refl
kind_again_from n (Some kind) text after h le = grind (arith, common_steps, announced_again_from)

-- what was searched of a line is read no more
pub head_again_from : (searched : ℕ) (line after : List ℕ) → searched ≤ length line → IsSearched (take searched line) → head_of searched line after ≡ head_of 0 line after
unfolding head_of
head_again_from searched [] [] le h = refl
head_again_from searched [] (b ∷ after) le h = refl
head_again_from zero (mark ∷ text) after le h = refl
head_again_from (suc n) (mark ∷ text) after le h = grind (arith, common_steps, kind_again_from n (kind_of mark) text after h (omega (arith, le)))

-- the mark, and the zeros after it
pub searched_on : (line text : List ℕ) (searched known more : ℕ) → 1 ≤ length line → text ≡ drop 1 line → known ≡ searched - 1
    → (AllByRecursion IsZero (take known text) → AllByRecursion IsZero (take more text)) → IsSearched (take searched line) → IsSearched (take (1 + more) line)
searched_on [] text searched known more some e is goes h = absurd (omega (arith, some))
searched_on (mark ∷ digits) text zero known more some e is goes h = grind (arith, common_steps)
searched_on (mark ∷ digits) text (suc n) known more some e is goes h = grind (arith, common_steps)

-- ---- what follows a head

some_below : (digits : List ℕ) (n : ℕ) → after_zeros digits ≡ Some n → n < 2 ^ 63
some_below digits n e = grind (arith, common_steps, by_test, number_below)

-- a number that was announced has 63 bits
pub length_short : (n : ℕ) (text after : List ℕ) (y : Option ℕ × List ℕ) → length_from n text after ≡ Ok y → (after ≡ 13 ∷ 10 ∷ y.1) × (unwrap_or y.0 0 < 2 ^ 63)
unfolding length_from
length_short n text after y e = elim (chosen (eqb n 0) (length_at text after) _ (done y) e) [
  | inl p ↦
      let l = length_takes text after y p.1 in
      let low : unwrap_or y.0 0 < 2 ^ 63 = elim l.1 [
        | inl q ↦ rw q.1 (omega arith)
        | inr q ↦ rw q.2 (number_below (2 ^ 63) text q.0 (sym q.1))
      ] in
      (l.0, low)
  | inr p ↦
      let a = bind_ok (or_malformed (after_zeros (drop n text))) (λ k. after_line_end after >>= λ rest. Ok (Some k, rest)) y p.1 in
      let t = end_takes (Some a.0) after y a.2 in
      let low : unwrap_or y.0 0 < 2 ^ 63 = rw (sym t.1) (some_below (drop n text) a.0 (some_of (after_zeros (drop n text)) a.0 a.1)) in
      (t.0, low)
]

count_length : (f : ℕ → ℕ) (n : ℕ) (text after : List ℕ) (y : ℕ × List ℕ) → (length_from n text after >>= λ x. Ok (f (unwrap_or x.0 0), x.1)) ≡ Ok y → length y.1 < length after
count_length f n text after y e = grind (arith, common_steps, bind_ok, ok_is, length_short)

bytes_short : (o : Option ℕ) (rest : List ℕ) (x : Answer × List ℕ) → bytes_at o rest ≡ Ok x → length x.1 ≤ length rest
unfolding bytes_at
bytes_short None rest x e = grind (arith, common_steps)
bytes_short (Some n) rest x e = grind (arith, common_steps, bytes_take, length-append)

announced_short : (n : ℕ) (kind : Kind) (text after : List ℕ) (y : ℕ × List ℕ) → announced_at n kind text after ≡ Ok y → length y.1 < length after
unfolding announced_at
announced_short n Simple text after y e = omega (arith, ap (length {A = ℕ}) (end_takes 0 after y e).0)
announced_short n Bulk text after y e =
    let b = bind_ok (length_from n text after >>= λ x. bytes_at x.0 x.1) (λ x. Ok (0, x.1)) y e in
    let a = bind_ok (length_from n text after) (λ x. bytes_at x.0 x.1) b.0 b.1 in
    let is = ok_is (0, b.0.1) y b.2 in
    omega (arith, ap (length {A = ℕ}) (length_short n text after a.0 a.1).0, bytes_short a.0.0 a.0.1 b.0 a.2, ap (λ (p : ℕ × List ℕ). length p.1) is)
announced_short n Array text after y e = count_length (λ k. k) n text after y e
announced_short n Map text after y e = count_length (λ k. 2 * k) n text after y e
announced_short n Attribute text after y e = count_length (λ k. 2 * k + 1) n text after y e

-- what follows a head is shorter than what follows its line's text
pub head_short : (searched : ℕ) (line after : List ℕ) (y : ℕ × List ℕ) → head_of searched line after ≡ Ok y → length y.1 < length after
unfolding head_of
head_short searched line after y h1 = grind (arith, common_steps, bind_ok, announced_short)
