-- What is read is a form of the answer, and each form is read.
use Rattle.std.proofs.Common.{◌≡◌, ℕ, ℤ, zero, suc, ◌<◌, ◌≤◌, false, eqb, List, [], ◌∷◌, ◌++◌, length, take, codes, append_assoc, append-nil, Option, Some, None, Result, Ok, Err, refl, sym, ap, subst, ◌∙◌, arith, ◌⊎◌, inl, inr}
use Rattle.std.proofs.lemmas.Grind.{common_steps}
use Rattle.std.specs.Prelude.{bytes_eq}
use Rattle.std.specs.List.{AllByRecursion}
use Rattle.std.specs.Fmt.{signed_decimal}
use Rattle.std.proofs.lemmas.Bool.{eqb-true, ltb-false, le-ltb, false_from_ne_true}
use Rattle.std.proofs.lemmas.Slice.Eq.{bytes_eq-Decides}
use Rattle.std.proofs.lemmas.Str.{is_utf8-from_IsUtf8}
use Rattle.std.proofs.lemmas.List.{take_at, drop_at, take-append-drop, length-append, length-take-le}
use Rattle.resp_core.specs.Reply.{Reply, Replies, nil, int, bulk, array, simple, okay, pairs, no_replies, reply, replies_of, items_in}
use Rattle.resp.specs.declared.fault.Fault.{Fault}
use Rattle.resp.specs.declared.fault.Fault.TheVariants.{Incomplete, Malformed, TooDeep}
use Rattle.resp.specs.Forms.{Answer, answer_before, all_of, array_of_all, simple_of, number_up_to, int_in, length_in, crlf, line, count, form, forms, depth, depth_items, HasForm, HaveForm, IsInLine, IsUnnested, InOrder, IsNested, IsForm}
use Rattle.resp.specs.Reading.{◌>>=◌, or_malformed, Items, after_line_end, text_until_line_end, after_text, is_before_length, int_at, length_at, bytes_at, flat_at, times_at, array_items_at, array_at, front_at, answer_at}
use Rattle.resp.proofs.Steps.{bind_ok, done, ok_is, chosen, some_of}
use Rattle.resp.proofs.Digits.{number_decimal, int_decimal, in_line_decimal, in_line_int}
use Rattle.resp.proofs.Lines.{line_is, text_in_line, text_again, after_again}
use Rattle.resp.proofs.Longer.{Continues, answer_continues, eqb_zero}

after_line : (text rest : List ℕ) → (text ++ crlf) ++ rest ≡ text ++ (13 ∷ 10 ∷ rest)
after_line text rest = append_assoc text crlf rest

two_in_line : (a b : ℕ) → IsInLine a → IsInLine b → AllByRecursion IsInLine (a ∷ b ∷ [])
two_in_line a b h k = (h, (k, tt))

char_in_line : (b : ℕ) → 13 < b → IsInLine b
char_in_line b large = grind (arith, common_steps)

-- ---- what is read

abbrev pub IsLength : List ℕ → Option ℕ → Type 0
IsLength text o = ((text ≡ codes "-1") × (o ≡ None)) ⊎ ((n : ℕ) × (length_in text ≡ Some n) × (o ≡ Some n))

pub end_takes : {A : Type 0} (x : A) (after : List ℕ) (y : A × List ℕ) → (after_line_end after >>= λ rest. Ok (x, rest)) ≡ Ok y → (after ≡ 13 ∷ 10 ∷ y.1) × (x ≡ y.0)
end_takes {A = A} x after y e = grind (arith, common_steps)

pub length_takes : (text after : List ℕ) (y : Option ℕ × List ℕ) → length_at text after ≡ Ok y → (after ≡ 13 ∷ 10 ∷ y.1) × IsLength text y.0
unfolding length_at
length_takes text after y e =
    elim (chosen (bytes_eq text (codes "-1")) (after_line_end after >>= λ rest. Ok (None, rest)) _ (done y) e) [
      | inl p ↦
          let t = end_takes None after y p.1 in
          (t.0, inl ((bytes_eq-Decides text (codes "-1")).0 p.0, sym t.1))
      | inr p ↦ elim (chosen (is_before_length text after) (Err Incomplete) _ (done y) p.1) [
        | inl q ↦ absurd cc
        | inr q ↦
            let a = bind_ok (or_malformed (length_in text)) (λ n. after_line_end after >>= λ rest. Ok (Some n, rest)) y q.1 in
            let t = end_takes (Some a.0) after y a.2 in
            (t.0, inr (a.0, some_of (length_in text) a.0 a.1, sym t.1))
      ]
    ]

int_takes : (text after : List ℕ) (y : ℤ × List ℕ) → int_at text after ≡ Ok y → (after ≡ 13 ∷ 10 ∷ y.1) × (int_in text ≡ Some y.0)
unfolding int_at
int_takes text after y e = grind (arith, common_steps, chosen, done, bind_ok, end_takes, some_of)

pub bytes_take : (n : ℕ) (rest : List ℕ) (x : Answer × List ℕ) → bytes_at (Some n) rest ≡ Ok x
    → (bytes : List ℕ) × (length bytes ≡ n) × (rest ≡ (bytes ++ crlf) ++ x.1) × (x.0 ≡ Ok (bulk bytes))
unfolding bytes_at
bytes_take n rest x e = grind (arith, common_steps, chosen, done x, ltb-false, end_takes, length-take-le, take-append-drop n rest, after_line (take n rest) x.1)

-- after a line's text: its end, what belongs to the answer, and the rest
abbrev FlatTaken : ℕ → List ℕ → List ℕ → Answer × List ℕ → Type 0
FlatTaken mark text after x = (body : List ℕ) × (after ≡ 13 ∷ 10 ∷ (body ++ x.1)) × IsUnnested x.0 mark text body

flat_takes : (mark : ℕ) (text after : List ℕ) (x : Answer × List ℕ) → flat_at mark text after ≡ Ok x → FlatTaken mark text after x
unfolding flat_at bytes_at
flat_takes mark text after x e =
    elim (chosen (eqb mark 36) (length_at text after >>= λ y. bytes_at y.0 y.1) _ (done x) e) [
      | inl p ↦
          let m : mark ≡ 36 = eqb-true mark 36 p.0 in
          let a = bind_ok (length_at text after) (λ y. bytes_at y.0 y.1) x p.1 in
          let l = length_takes text after a.0 a.1 in
          elim l.1 [
            | inl q ↦
                let found : bytes_at None a.0.1 ≡ Ok x = subst (λ (o : Option ℕ). bytes_at o a.0.1 ≡ Ok x) q.1 a.2 in
                let is = ok_is (Ok nil, a.0.1) x found in
                ([], l.0 ∙ ap (λ (y : Answer × List ℕ). 13 ∷ 10 ∷ y.1) is, inr (inr (inr (inl (m, refl, q.0, sym (ap (λ (y : Answer × List ℕ). y.0) is))))))
            | inr q ↦
                let found : bytes_at (Some q.0) a.0.1 ≡ Ok x = subst (λ (o : Option ℕ). bytes_at o a.0.1 ≡ Ok x) q.2 a.2 in
                let b = bytes_take q.0 a.0.1 x found in
                (b.0 ++ crlf, l.0 ∙ ap (λ (r : List ℕ). 13 ∷ 10 ∷ r) b.2, inr (inr (inr (inr (m, b.0, q.1 ∙ ap (λ (k : ℕ). Some k) (sym b.1), refl, b.3)))))
          ]
      | inr p ↦ elim (chosen (eqb mark 58) (int_at text after >>= λ y. Ok (Ok (int y.0), y.1)) _ (done x) p.1) [
        | inl q ↦
            let a = bind_ok (int_at text after) (λ y. Ok (Ok (int y.0), y.1)) x q.1 in
            let t = int_takes text after a.0 a.1 in
            let is = ok_is (Ok (int a.0.0), a.0.1) x a.2 in
            ([], t.0 ∙ ap (λ (y : Answer × List ℕ). 13 ∷ 10 ∷ y.1) is, inr (inr (inl (eqb-true mark 58 q.0, refl, a.0.0, t.1, sym (ap (λ (y : Answer × List ℕ). y.0) is)))))
        | inr q ↦ elim (chosen (eqb mark 43) (after_line_end after >>= λ rest. Ok (Ok (simple_of text), rest)) _ (done x) q.1) [
          | inl s ↦
              let t = end_takes (Ok (simple_of text)) after x s.1 in
              ([], t.0, inl (eqb-true mark 43 s.0, refl, sym t.1))
          | inr s ↦ elim (chosen (eqb mark 45) (after_line_end after >>= λ rest. Ok (Err text, rest)) (Err Malformed) (done x) s.1) [
            | inl u ↦
                let t = end_takes (Err text) after x u.1 in
                ([], t.0, inr (inl (eqb-true mark 45 u.0, refl, sym t.1)))
            | inr u ↦ absurd cc
          ]
        ]
      ]
    ]

abbrev Read : (Answer → List ℕ → Type 0) → List ℕ → Answer × List ℕ → Type 0
Read Each bytes x = (f : List ℕ) × (bytes ≡ f ++ x.1) × Each x.0 f

abbrev Reads : (Answer → List ℕ → Type 0) → (List ℕ → Result (Answer × List ℕ) Fault) → Type 0
Reads Each read = (bytes : List ℕ) (x : Answer × List ℕ) → read bytes ≡ Ok x → Read Each bytes x

abbrev TimesRead : (Answer → List ℕ → Type 0) → ℕ → List ℕ → Items × List ℕ → Type 0
TimesRead Each n bytes x = (answers : List Answer) × (f : List ℕ) × (length answers ≡ n) × (bytes ≡ f ++ x.1) × InOrder Each answers f × (x.0 ≡ all_of answers)

times_take : (Each : Answer → List ℕ → Type 0) (read : List ℕ → Result (Answer × List ℕ) Fault) → Reads Each read
    → (n : ℕ) (bytes : List ℕ) (x : Items × List ℕ) → times_at read n bytes ≡ Ok x → TimesRead Each n bytes x
unfolding times_at
times_take Each read each zero bytes x e =
    subst (λ (y : Items × List ℕ). TimesRead Each zero bytes y) (ok_is (Ok [], bytes) x e) ([], [], refl, refl, refl, refl)
times_take Each read each (suc n) bytes x e =
    let a = bind_ok (read bytes) (λ first. times_at read n first.1 >>= λ others. Ok (answer_before first.0 others.0, others.1)) x e in
    let b = bind_ok (times_at read n a.0.1) (λ others. Ok (answer_before a.0.0 others.0, others.1)) x a.2 in
    let first = each bytes a.0 a.1 in
    let others = times_take Each read each n a.0.1 b.0 b.1 in
    let whole : bytes ≡ (first.0 ++ others.1) ++ b.0.1 =
    first.1 ∙ ap (λ (t : List ℕ). first.0 ++ t) others.3 ∙ sym (append_assoc first.0 others.1 b.0.1) in
    subst (λ (y : Items × List ℕ). TimesRead Each (suc n) bytes y) (ok_is (answer_before a.0.0 b.0.0, b.0.1) x b.2)
    (a.0.0 ∷ others.0, first.0 ++ others.1, ap suc others.2, whole, (first.0, others.1, refl, first.2, others.4), ap (answer_before a.0.0) others.5)

-- an array, from behind its mark
abbrev NestedTaken : (Answer → List ℕ → Type 0) → List ℕ → List ℕ → Answer × List ℕ → Type 0
NestedTaken Each text after x = (body : List ℕ) × (after ≡ 13 ∷ 10 ∷ (body ++ x.1)) × IsNested Each x.0 42 text body

nested_takes : (Each : Answer → List ℕ → Type 0) (read : List ℕ → Result (Answer × List ℕ) Fault) → Reads Each read
    → (bytes : List ℕ) (x : Answer × List ℕ) → array_at (times_at read) bytes ≡ Ok x → NestedTaken Each (text_until_line_end bytes) (after_text bytes) x
unfolding array_at array_items_at
nested_takes Each read each bytes x e =
    let a = bind_ok (length_at (text_until_line_end bytes) (after_text bytes)) (λ y. array_items_at (times_at read) y.0 y.1) x e in
    let l = length_takes (text_until_line_end bytes) (after_text bytes) a.0 a.1 in
    elim l.1 [
      | inl q ↦
          let found : array_items_at (times_at read) None a.0.1 ≡ Ok x = subst (λ (o : Option ℕ). array_items_at (times_at read) o a.0.1 ≡ Ok x) q.1 a.2 in
          let is = ok_is (Ok nil, a.0.1) x found in
          ([], l.0 ∙ ap (λ (y : Answer × List ℕ). 13 ∷ 10 ∷ y.1) is, inl (refl, refl, q.0, sym (ap (λ (y : Answer × List ℕ). y.0) is)))
      | inr q ↦
          let found : array_items_at (times_at read) (Some q.0) a.0.1 ≡ Ok x = subst (λ (o : Option ℕ). array_items_at (times_at read) o a.0.1 ≡ Ok x) q.2 a.2 in
          let b = bind_ok (times_at read q.0 a.0.1) (λ y. Ok (array_of_all y.0, y.1)) x found in
          let t = times_take Each read each q.0 a.0.1 b.0 b.1 in
          let is = ok_is (array_of_all b.0.0, b.0.1) x b.2 in
          (t.1, l.0 ∙ ap (λ (r : List ℕ). 13 ∷ 10 ∷ r) t.3 ∙ ap (λ (y : Answer × List ℕ). 13 ∷ 10 ∷ (t.1 ++ y.1)) is, inr (refl, t.0, q.1 ∙ ap (λ (k : ℕ). Some k) (sym t.2), t.4, sym (ap (λ (y : Answer × List ℕ). y.0) is) ∙ ap array_of_all t.5))
    ]

pub spelt : (mark : ℕ) (bytes body rest : List ℕ) → after_text bytes ≡ 13 ∷ 10 ∷ (body ++ rest) → mark ∷ bytes ≡ (line mark (text_until_line_end bytes) ++ body) ++ rest
spelt mark bytes body rest e = grind (arith, common_steps, line_is, after_line, append_assoc)

pub answer_takes : (levels : ℕ) (bytes : List ℕ) (x : Answer × List ℕ) → answer_at levels bytes ≡ Ok x → (f : List ℕ) × (bytes ≡ f ++ x.1) × IsForm levels x.0 f
unfolding answer_at front_at IsForm
answer_takes zero [] x e = absurd cc
answer_takes (suc levels) [] x e = absurd cc
answer_takes zero (mark ∷ bytes) x e =
    elim (chosen (eqb mark 42) (Err TooDeep) (flat_at mark (text_until_line_end bytes) (after_text bytes)) (done x) e) [
      | inl p ↦ absurd cc
      | inr p ↦
          let t = flat_takes mark (text_until_line_end bytes) (after_text bytes) x p.1 in
          (line mark (text_until_line_end bytes) ++ t.0, spelt mark bytes t.0 x.1 t.1, (mark, text_until_line_end bytes, t.0, refl, text_in_line bytes, t.2))
    ]
answer_takes (suc levels) (mark ∷ bytes) x e =
    elim (chosen (eqb mark 42) (array_at (times_at (answer_at levels)) bytes) (flat_at mark (text_until_line_end bytes) (after_text bytes)) (done x) e) [
      | inl p ↦
          let m : 42 ≡ mark = sym (eqb-true mark 42 p.0) in
          let t = nested_takes (IsForm levels) (answer_at levels) (answer_takes levels) bytes x p.1 in
          (line mark (text_until_line_end bytes) ++ t.0, spelt mark bytes t.0 x.1 t.1, (mark, text_until_line_end bytes, t.0, refl, text_in_line bytes, inr (subst (λ (k : ℕ). IsNested (IsForm levels) x.0 k (text_until_line_end bytes) t.0) m t.2)))
      | inr p ↦
          let t = flat_takes mark (text_until_line_end bytes) (after_text bytes) x p.1 in
          (line mark (text_until_line_end bytes) ++ t.0, spelt mark bytes t.0 x.1 t.1, (mark, text_until_line_end bytes, t.0, refl, text_in_line bytes, inl t.2))
    ]

-- ---- what is a form

pub minus_one_none : length_in (codes "-1") ≡ None
unfolding number_up_to
minus_one_none = refl

pub length_again : (text body : List ℕ) (n : ℕ) → length_in text ≡ Some n → length_at text (13 ∷ 10 ∷ body) ≡ Ok (Some n, body)
unfolding length_at
length_again text body n e = grind (arith, common_steps, false_from_ne_true, bytes_eq-Decides, minus_one_none, eqb_zero)

pub nothing_again : (text body : List ℕ) → text ≡ codes "-1" → length_at text (13 ∷ 10 ∷ body) ≡ Ok (None, body)
unfolding length_at
nothing_again text body e = rw e refl

pub int_again : (text body : List ℕ) (n : ℤ) → int_in text ≡ Some n → int_at text (13 ∷ 10 ∷ body) ≡ Ok (n, body)
unfolding int_at
int_again text body n e = rw (eqb_zero 13 (10 ∷ body), e) refl

pub bytes_again : (bytes : List ℕ) → bytes_at (Some (length bytes)) (bytes ++ crlf) ≡ Ok (Ok (bulk bytes), [])
unfolding bytes_at
bytes_again bytes = grind (arith, common_steps, le-ltb, length-append, take_at, drop_at)

flat_again : (a : Answer) (mark : ℕ) (text body : List ℕ) → IsUnnested a mark text body → flat_at mark text (13 ∷ 10 ∷ body) ≡ Ok (a, [])
unfolding flat_at bytes_at
flat_again a mark text body h1 = grind (arith, int_again, nothing_again, length_again, bytes_again)

times_again : (Each : Answer → List ℕ → Type 0) (read : List ℕ → Result (Answer × List ℕ) Fault)
    → ((a : Answer) (f rest : List ℕ) → Each a f → read (f ++ rest) ≡ Ok (a, rest))
    → (answers : List Answer) (f : List ℕ) → InOrder Each answers f → times_at read (length answers) f ≡ Ok (all_of answers, [])
unfolding times_at
times_again Each read each [] f h = rw h refl
times_again Each read each (a ∷ answers) f h = grind (arith, common_steps, times_again Each read each answers h.1 h.4)

nested_again : (Each : Answer → List ℕ → Type 0) (read : List ℕ → Result (Answer × List ℕ) Fault)
    → ((a : Answer) (f rest : List ℕ) → Each a f → read (f ++ rest) ≡ Ok (a, rest))
    → (a : Answer) (mark : ℕ) (text body bytes : List ℕ) → IsNested Each a mark text body → text_until_line_end bytes ≡ text → after_text bytes ≡ 13 ∷ 10 ∷ body
    → (mark ≡ 42) × (array_at (times_at read) bytes ≡ Ok (a, []))
unfolding array_at array_items_at
nested_again Each read h1 a mark text body bytes h2 h3 h4 = grind (arith, nothing_again, length_again, times_again)

pub line_text : (text body : List ℕ) → AllByRecursion IsInLine text → text_until_line_end ((text ++ crlf) ++ body) ≡ text
line_text text body clean = ap text_until_line_end (after_line text body) ∙ text_again text (10 ∷ body) clean

pub line_after : (text body : List ℕ) → AllByRecursion IsInLine text → after_text ((text ++ crlf) ++ body) ≡ 13 ∷ 10 ∷ body
line_after text body clean = ap after_text (after_line text body) ∙ after_again text (10 ∷ body) clean

no_array : (a : Answer) (mark : ℕ) (text body : List ℕ) → IsUnnested a mark text body → eqb mark 42 ≡ false
no_array a mark text body h1 = grind (arith)

front_again : (nested : List ℕ → Result (Answer × List ℕ) Fault) (a : Answer) (mark : ℕ) (text body : List ℕ) → AllByRecursion IsInLine text → IsUnnested a mark text body
    → front_at nested (line mark text ++ body) ≡ Ok (a, [])
unfolding front_at
front_again nested a mark text body clean h = rw (no_array a mark text body h, line_text text body clean, line_after text body clean) (flat_again a mark text body h)

pub nil_front : (nested : List ℕ → Result (Answer × List ℕ) Fault) → front_at nested (36 ∷ 45 ∷ 49 ∷ crlf) ≡ Ok (Ok nil, [])
nil_front nested = front_again nested (Ok nil) 36 (codes "-1") [] (two_in_line 45 49 (char_in_line 45 (omega arith)) (char_in_line 49 (omega arith))) (inr (inr (inr (inl (refl, refl, refl, refl)))))

from_whole : (levels : ℕ) (a : Answer) (f rest : List ℕ) → answer_at levels f ≡ Ok (a, []) → answer_at levels (f ++ rest) ≡ Ok (a, rest)
from_whole levels a f rest h = subst (λ (r : Result (Answer × List ℕ) Fault). Continues r rest (answer_at levels (f ++ rest))) h (answer_continues levels f rest)

pub whole_again : (levels : ℕ) (a : Answer) (f : List ℕ) → IsForm levels a f → answer_at levels f ≡ Ok (a, [])
unfolding answer_at front_at IsForm
whole_again zero a f h = rw h.3 (front_again (λ rest. Err TooDeep) a h.0 h.1 h.2 h.4 h.5)
whole_again (suc levels) a f h =
    elim h.5 [
      | inl flat ↦ rw h.3 (front_again (array_at (times_at (answer_at levels))) a h.0 h.1 h.2 h.4 flat)
      | inr nested ↦
          let n = nested_again (IsForm levels) (answer_at levels) (λ b g rest k. from_whole levels b g rest (whole_again levels b g k)) a h.0 h.1 h.2 ((h.1 ++ crlf) ++ h.2) nested (line_text h.1 h.2 h.4) (line_after h.1 h.2 h.4) in
          rw (h.3, n.0) n.1
    ]

pub answer_again : (levels : ℕ) (a : Answer) (f rest : List ℕ) → IsForm levels a f → answer_at levels (f ++ rest) ≡ Ok (a, rest)
answer_again levels a f rest h = from_whole levels a f rest (whole_again levels a f h)

-- ---- what is written is a form

abbrev oks : Replies → List Answer
oks no_replies = []
oks (reply r rs) = Ok r ∷ oks rs

oks_count : (rs : Replies) → length (oks rs) ≡ count rs
oks_count no_replies = refl
oks_count (reply r rs) = omega (arith, oks_count rs)

oks_all : (rs : Replies) → all_of (oks rs) ≡ Ok (items_in rs)
oks_all no_replies = refl
oks_all (reply r rs) = ap (answer_before (Ok r)) (oks_all rs)

replies_again : (rs : Replies) → replies_of (items_in rs) ≡ rs
replies_again no_replies = refl
replies_again (reply r rs) = ap (λ (ts : Replies). reply r ts) (replies_again rs)

in_order : (levels : ℕ) → ((r : Reply) → HasForm r → depth r ≤ levels → IsForm levels (Ok r) (form r))
    → (rs : Replies) → HaveForm rs → depth_items rs ≤ levels → InOrder (IsForm levels) (oks rs) (forms rs)
in_order levels each no_replies has low = refl
in_order levels each (reply r rs) has low =
    let here : depth r ≤ levels = omega (arith, low) in
    let later : depth_items rs ≤ levels = omega (arith, low) in
    (form r, forms rs, refl, each r has.0 here, in_order levels each rs has.1 later)

flat_form : (levels : ℕ) (a : Answer) (mark : ℕ) (text body : List ℕ) → AllByRecursion IsInLine text → IsUnnested a mark text body → IsForm levels a (line mark text ++ body)
unfolding IsForm
flat_form zero a mark text body clean h = (mark, text, body, refl, clean, h)
flat_form (suc levels) a mark text body clean h = (mark, text, body, refl, clean, inl h)

one_line : (levels : ℕ) (a : Answer) (mark : ℕ) (text : List ℕ) → AllByRecursion IsInLine text → IsUnnested a mark text [] → IsForm levels a (line mark text)
one_line levels a mark text clean h = subst (λ (f : List ℕ). IsForm levels a f) (append-nil (line mark text)) (flat_form levels a mark text [] clean h)

simple_again : (text : List ℕ) → HasForm (simple text) → simple_of text ≡ simple text
simple_again text has = grind (arith, common_steps, false_from_ne_true, bytes_eq-Decides, is_utf8-from_IsUtf8)

pub written : (levels : ℕ) (r : Reply) → HasForm r → depth r ≤ levels → IsForm levels (Ok r) (form r)
unfolding IsForm
written levels nil has low = one_line levels (Ok nil) 36 (codes "-1") (two_in_line 45 49 (char_in_line 45 (omega arith)) (char_in_line 49 (omega arith))) (inr (inr (inr (inl (refl, refl, refl, refl)))))
written levels (int n) has low = one_line levels (Ok (int n)) 58 (signed_decimal n) (in_line_int n has) (inr (inr (inl (refl, refl, n, int_decimal n has, refl))))
written levels (bulk bytes) has low = grind (arith, common_steps, flat_form, in_line_decimal, number_decimal)
written levels (simple text) has low = one_line levels (Ok (simple text)) 43 text has.1 (inl (refl, refl, ap (λ (r : Reply). Ok r) (sym (simple_again text has))))
written levels okay has low = one_line levels (Ok okay) 43 (codes "OK") (two_in_line 79 75 (char_in_line 79 (omega arith)) (char_in_line 75 (omega arith))) (inl (refl, refl, refl))
written levels (pairs items) has low = absurd has
written zero (array rs) has low = absurd (omega (arith, low))
written (suc levels) (array rs) has low = grind (arith, common_steps, in_line_decimal, number_decimal, oks_count rs, in_order, oks_all rs, replies_again rs, written levels)
