-- What a deeper limit changes in reading: nothing but that what was too deep may be read. A front of
-- what is too deep lacks nothing but bytes at the next limit.
use Rattle.std.proofs.Common.{◌≡◌, ℕ, zero, suc, ◌+◌, eqb, List, [], ◌∷◌, ◌++◌, append_assoc, Option, Some, None, Result, Ok, Err, refl, sym, ap, subst, ◌∙◌, arith}
use Rattle.std.proofs.lemmas.Grind.{common_steps}
use Rattle.resp_core.proofs.Cases.{by_test}
use Rattle.resp.specs.declared.fault.Fault.{Fault}
use Rattle.resp.specs.declared.fault.Fault.TheVariants.{Incomplete, Malformed, TooDeep}
use Rattle.resp.specs.Forms.{Answer, IsForm, answer_before, array_of_all, crlf}
use Rattle.resp.specs.Reading.{◌>>=◌, or_malformed, Items, after_line_end, text_until_line_end, after_text, int_at, length_at, bytes_at, flat_at, times_at, array_items_at, array_at, front_at, answer_at}
use Rattle.resp.proofs.Steps.{done, failed}
use Rattle.resp.proofs.Lines.{line_is, text_in_line}
use Rattle.resp.proofs.Grammar.{IsLength, length_takes, length_again, nothing_again, line_text, line_after, answer_takes, answer_again}

-- how a reading at a deeper limit stands to a reading
abbrev pub Deepens : {A : Type 0} → Result A Fault → Result A Fault → Type 0
Deepens (Ok x) deeper = deeper ≡ Ok x
Deepens (Err Incomplete) deeper = deeper ≡ Err Incomplete
Deepens (Err Malformed) deeper = deeper ≡ Err Malformed
Deepens (Err TooDeep) deeper = Unit {0}

same_deepens : {A : Type 0} (r : Result A Fault) → Deepens r r
same_deepens (Ok x) = refl
same_deepens (Err Incomplete) = refl
same_deepens (Err Malformed) = refl
same_deepens (Err TooDeep) = tt

deepens_again : {A : Type 0} (r s t : Result A Fault) → Deepens r s → Deepens s t → Deepens r t
deepens_again (Ok x) s t h k = rw h at k
deepens_again (Err Incomplete) s t h k = rw h at k
deepens_again (Err Malformed) s t h k = rw h at k
deepens_again (Err TooDeep) s t h k = tt

deepens_bind : {A B : Type 0} (r s : Result A Fault) (f g : A → Result B Fault) → Deepens r s → ((x : A) → Deepens (f x) (g x)) → Deepens (r >>= f) (s >>= g)
deepens_bind (Ok x) s f g h each = rw h (each x)
deepens_bind (Err Incomplete) s f g h each = rw h refl
deepens_bind (Err Malformed) s f g h each = rw h refl
deepens_bind (Err TooDeep) s f g h each = tt

pub no_result : {A : Type 0} (x : A) (f : Fault) → done x ≡ failed f → ⊥
no_result x f e = absurd cc

abbrev Deeper : {A : Type 0} → (List ℕ → Result A Fault) → (List ℕ → Result A Fault) → Type 0
Deeper read deeper = (bytes : List ℕ) → Deepens (read bytes) (deeper bytes)

times_deepen : (read deeper : List ℕ → Result (Answer × List ℕ) Fault) → Deeper read deeper → (n : ℕ) → Deeper (times_at read n) (times_at deeper n)
unfolding times_at
times_deepen read deeper each zero bytes = refl
times_deepen read deeper each (suc n) bytes =
    deepens_bind (read bytes) (deeper bytes) (λ first. times_at read n first.1 >>= λ others. Ok (answer_before first.0 others.0, others.1)) (λ first. times_at deeper n first.1 >>= λ others. Ok (answer_before first.0 others.0, others.1)) (each bytes)
    (λ first. deepens_bind (times_at read n first.1) (times_at deeper n first.1) (λ others. Ok (answer_before first.0 others.0, others.1)) (λ others. Ok (answer_before first.0 others.0, others.1)) (times_deepen read deeper each n first.1) (λ others. refl))

items_deepen : (items deeper : ℕ → List ℕ → Result (Items × List ℕ) Fault) → ((n : ℕ) → Deeper (items n) (deeper n)) → (o : Option ℕ) → Deeper (array_items_at items o) (array_items_at deeper o)
unfolding array_items_at
items_deepen items deeper each None rest = refl
items_deepen items deeper each (Some n) rest = deepens_bind (items n rest) (deeper n rest) (λ x. Ok (array_of_all x.0, x.1)) (λ x. Ok (array_of_all x.0, x.1)) (each n rest) (λ x. refl)

array_deepens : (items deeper : ℕ → List ℕ → Result (Items × List ℕ) Fault) → ((n : ℕ) → Deeper (items n) (deeper n)) → Deeper (array_at items) (array_at deeper)
unfolding array_at
array_deepens items deeper each bytes =
    let length = length_at (text_until_line_end bytes) (after_text bytes) in
    deepens_bind length length (λ x. array_items_at items x.0 x.1) (λ x. array_items_at deeper x.0 x.1) (same_deepens length) (λ x. items_deepen items deeper each x.0 x.1)

front_deepens : (nested deeper : List ℕ → Result (Answer × List ℕ) Fault) → Deeper nested deeper → Deeper (front_at nested) (front_at deeper)
unfolding front_at
front_deepens nested deeper each [] = refl
front_deepens nested deeper each (mark ∷ bytes) = by_test (eqb mark 42) (λ t. rw t (each bytes)) (λ f. rw f (same_deepens (flat_at mark (text_until_line_end bytes) (after_text bytes))))

answer_deepens : (levels : ℕ) → Deeper (answer_at levels) (answer_at (suc levels))
unfolding answer_at
answer_deepens zero = front_deepens (λ rest. Err TooDeep) (array_at (times_at (answer_at zero))) (λ bytes. tt)
answer_deepens (suc levels) =
    front_deepens (array_at (times_at (answer_at levels))) (array_at (times_at (answer_at (suc levels)))) (array_deepens (times_at (answer_at levels)) (times_at (answer_at (suc levels))) (times_deepen (answer_at levels) (answer_at (suc levels)) (answer_deepens levels)))

deepens_by : (k levels : ℕ) → Deeper (answer_at levels) (answer_at (levels + k))
deepens_by zero levels bytes =
    let same : levels + 0 ≡ levels = omega arith in
    rw same (same_deepens (answer_at levels bytes))
deepens_by (suc k) levels bytes =
    let more : levels + suc k ≡ suc (levels + k) = omega arith in
    rw more (deepens_again (answer_at levels bytes) (answer_at (levels + k) bytes) (answer_at (suc (levels + k)) bytes) (deepens_by k levels bytes) (answer_deepens (levels + k) bytes))

-- what is malformed at one limit is read at none
pub malformed_at_each : (levels other : ℕ) (bytes : List ℕ) → answer_at levels bytes ≡ Err Malformed → (a : Answer) (form rest : List ℕ) → IsForm other a form → bytes ≡ form ++ rest → ⊥
malformed_at_each levels other bytes e a form rest h is =
    let fails : answer_at (levels + other) bytes ≡ Err Malformed = subst (λ (r : Result (Answer × List ℕ) Fault). Deepens r (answer_at (levels + other) bytes)) e (deepens_by other levels bytes) in
    let found : answer_at other bytes ≡ Ok (a, rest) = ap (answer_at other) is ∙ answer_again other a form rest h in
    let reads : answer_at (other + levels) bytes ≡ Ok (a, rest) = subst (λ (r : Result (Answer × List ℕ) Fault). Deepens r (answer_at (other + levels) bytes)) found (deepens_by levels other bytes) in
    let swap : other + levels ≡ levels + other = omega arith in
    no_result (a, rest) Malformed (sym (rw swap at reads) ∙ fails)

-- ---- a front of what is too deep

-- What is read has bytes of its own, which are read so whatever follows them.
abbrev Local : {A : Type 0} → (List ℕ → Result (A × List ℕ) Fault) → Type 0
Local {A} read = (bytes : List ℕ) (x : A × List ℕ) → read bytes ≡ Ok x → (own : List ℕ) × (bytes ≡ own ++ x.1) × ((more : List ℕ) → read (own ++ more) ≡ Ok (x.0, more))

-- A front of the bytes is too deep, and only lacks bytes at the deeper limit.
abbrev pub Cut : {A : Type 0} → (List ℕ → Result A Fault) → (List ℕ → Result A Fault) → List ℕ → Type 0
Cut read deeper bytes = (front : List ℕ) × (rest : List ℕ) × (bytes ≡ front ++ rest) × (read front ≡ Err TooDeep) × (deeper front ≡ Err Incomplete)

abbrev Cuts : {A : Type 0} → (List ℕ → Result A Fault) → (List ℕ → Result A Fault) → Type 0
Cuts read deeper = (bytes : List ℕ) → read bytes ≡ Err TooDeep → Cut read deeper bytes

module _ {A B : Type 0} (F F' : List ℕ → Result (A × List ℕ) Fault) (G G' : A → List ℕ → Result (B × List ℕ) Fault) (local : Local F) (deepens : Deeper F F') (first : Cuts F F') (second : (x : A) → Cuts (G x) (G' x)) where
  abbrev sequel : List ℕ → Result (B × List ℕ) Fault
  sequel bytes = F bytes >>= λ x. G x.0 x.1

  abbrev deeper : List ℕ → Result (B × List ℕ) Fault
  deeper bytes = F' bytes >>= λ x. G' x.0 x.1

  cut_first : (bytes : List ℕ) → F bytes ≡ Err TooDeep → Cut sequel deeper bytes
  cut_first bytes e =
      let c = first bytes e in
      (c.0, c.1, c.2, ap (λ r. r >>= λ x. G x.0 x.1) c.3, ap (λ r. r >>= λ x. G' x.0 x.1) c.4)

  cut_second : (bytes : List ℕ) (x : A × List ℕ) → F bytes ≡ Ok x → G x.0 x.1 ≡ Err TooDeep → Cut sequel deeper bytes
  cut_second bytes x is e =
      let own = local bytes x is in
      let c = second x.0 x.1 e in
      let reads = own.2 c.0 in
      let again : F' (own.0 ++ c.0) ≡ Ok (x.0, c.0) = subst (λ (r : Result (A × List ℕ) Fault). Deepens r (F' (own.0 ++ c.0))) reads (deepens (own.0 ++ c.0)) in
      (own.0 ++ c.0, c.1, own.1 ∙ ap (λ (t : List ℕ). own.0 ++ t) c.2 ∙ sym (append_assoc own.0 c.0 c.1), ap (λ r. r >>= λ x. G x.0 x.1) reads ∙ c.3, ap (λ r. r >>= λ x. G' x.0 x.1) again ∙ c.4)

  cut_by : (bytes : List ℕ) (r : Result (A × List ℕ) Fault) → F bytes ≡ r → (r >>= λ x. G x.0 x.1) ≡ Err TooDeep → Cut sequel deeper bytes
  cut_by bytes (Ok x) is e = cut_second bytes x is e
  cut_by bytes (Err Incomplete) is e = absurd cc
  cut_by bytes (Err Malformed) is e = absurd cc
  cut_by bytes (Err TooDeep) is e = cut_first bytes is

  cut_bind : Cuts sequel deeper
  cut_bind bytes e = cut_by bytes (F bytes) refl e

-- ---- nothing but an array is too deep

abbrev paired : {B : Type 0} → B → List ℕ → Result (B × List ℕ) Fault
paired y rest = Ok (y, rest)

end_high : {A : Type 0} (x : A) (after : List ℕ) → (after_line_end after >>= paired x) ≡ Err TooDeep → ⊥
end_high x [] e = absurd cc
end_high x (b ∷ []) e = grind (arith, common_steps)
end_high x (b ∷ c ∷ rest) e = grind (arith, common_steps)

number_high : {A B : Type 0} (o : Option A) (x : A → B) (after : List ℕ) → (or_malformed o >>= λ n. after_line_end after >>= paired (x n)) ≡ Err TooDeep → ⊥
number_high None x after e = absurd cc
number_high (Some n) x after e = end_high (x n) after e

int_high : (text after : List ℕ) → int_at text after ≡ Err TooDeep → ⊥
unfolding int_at
int_high text after e = grind (arith, common_steps, number_high)

length_high : (text after : List ℕ) → length_at text after ≡ Err TooDeep → ⊥
unfolding length_at
length_high text after e = grind (arith, common_steps, number_high, end_high)

bytes_high : (o : Option ℕ) (rest : List ℕ) → bytes_at o rest ≡ Err TooDeep → ⊥
unfolding bytes_at
bytes_high None rest e = absurd cc
bytes_high (Some n) rest e = grind (arith, common_steps, end_high)

bind_high : {A B : Type 0} (r : Result A Fault) (f : A → Result B Fault) → (r ≡ Err TooDeep → ⊥) → ((x : A) → f x ≡ Err TooDeep → ⊥) → (r >>= f) ≡ Err TooDeep → ⊥
bind_high (Ok x) f h each e = each x e
bind_high (Err Incomplete) f h each e = absurd cc
bind_high (Err Malformed) f h each e = absurd cc
bind_high (Err TooDeep) f h each e = h refl

flat_high : (mark : ℕ) (text after : List ℕ) → flat_at mark text after ≡ Err TooDeep → ⊥
unfolding flat_at
flat_high mark text after e = grind (arith, common_steps, bind_high, length_high, int_high, bytes_high, end_high)

-- ---- an answer

-- what is made of a reading
module _ {A B : Type 0} (read more : List ℕ → Result (A × List ℕ) Fault) (f : A → B) (cuts : Cuts read more) where
  abbrev made : Result (A × List ℕ) Fault → Result (B × List ℕ) Fault
  made r = r >>= λ x. Ok (f x.0, x.1)

  made_by : (bytes : List ℕ) (r : Result (A × List ℕ) Fault) → read bytes ≡ r → made r ≡ Err TooDeep → Cut (λ bs. made (read bs)) (λ bs. made (more bs)) bytes
  made_by bytes (Ok x) is e = absurd (no_result (f x.0, x.1) TooDeep e)
  made_by bytes (Err Incomplete) is e = absurd cc
  made_by bytes (Err Malformed) is e = absurd cc
  made_by bytes (Err TooDeep) is e =
      let c = cuts bytes is in
      (c.0, c.1, c.2, ap made c.3, ap made c.4)

  made_cut : Cuts (λ bs. made (read bs)) (λ bs. made (more bs))
  made_cut bytes e = made_by bytes (read bytes) refl e

lengths_local : Local (λ bytes. length_at (text_until_line_end bytes) (after_text bytes))
lengths_local bytes x e =
    let text = text_until_line_end bytes in
    let t = length_takes text (after_text bytes) x e in
    let clean = text_in_line bytes in
    let whole : bytes ≡ (text ++ crlf) ++ x.1 = line_is bytes ∙ ap (λ (a : List ℕ). text ++ a) t.0 ∙ sym (append_assoc text crlf x.1) in
    (text ++ crlf, whole, λ more. rw (line_text text more clean, line_after text more clean) (again text more x.0 t.1))
  where
    again : (text more : List ℕ) (o : Option ℕ) → IsLength text o → length_at text (13 ∷ 10 ∷ more) ≡ Ok (o, more)
    again text more o h = grind (arith, length_again, nothing_again)

answers_local : (levels : ℕ) → Local (answer_at levels)
answers_local levels bytes x e =
    let t = answer_takes levels bytes x e in
    (t.0, t.1, λ more. answer_again levels x.0 t.0 more t.2)

times_cut : (read deeper : List ℕ → Result (Answer × List ℕ) Fault) → Local read → Deeper read deeper → Cuts read deeper → (n : ℕ) → Cuts (times_at read n) (times_at deeper n)
unfolding times_at
times_cut read deeper local each cuts zero bytes e = absurd (no_result _ TooDeep e)
times_cut read deeper local each cuts (suc n) bytes e =
    cut_bind read deeper (λ a rest. times_at read n rest >>= λ others. Ok (answer_before a others.0, others.1)) (λ a rest. times_at deeper n rest >>= λ others. Ok (answer_before a others.0, others.1)) local each cuts
    (λ a rest f. made_cut (times_at read n) (times_at deeper n) (answer_before a) (times_cut read deeper local each cuts n) rest f) bytes e

items_cut : (read deeper : List ℕ → Result (Answer × List ℕ) Fault) → Local read → Deeper read deeper → Cuts read deeper → (o : Option ℕ) → Cuts (array_items_at (times_at read) o) (array_items_at (times_at deeper) o)
unfolding array_items_at
items_cut read deeper local each cuts None rest e = absurd (no_result _ TooDeep e)
items_cut read deeper local each cuts (Some n) rest e = made_cut (times_at read n) (times_at deeper n) array_of_all (times_cut read deeper local each cuts n) rest e

array_cut : (read deeper : List ℕ → Result (Answer × List ℕ) Fault) → Local read → Deeper read deeper → Cuts read deeper → Cuts (array_at (times_at read)) (array_at (times_at deeper))
unfolding array_at
array_cut read deeper local each cuts bytes e =
    cut_bind (λ bs. length_at (text_until_line_end bs) (after_text bs)) (λ bs. length_at (text_until_line_end bs) (after_text bs)) (array_items_at (times_at read)) (array_items_at (times_at deeper)) lengths_local
    (λ bs. same_deepens (length_at (text_until_line_end bs) (after_text bs))) (λ bs f. absurd (length_high (text_until_line_end bs) (after_text bs) f)) (items_cut read deeper local each cuts) bytes e

front_cut : (nested deeper : List ℕ → Result (Answer × List ℕ) Fault) → Cuts nested deeper → Cuts (front_at nested) (front_at deeper)
unfolding front_at
front_cut nested deeper cuts [] e = absurd cc
front_cut nested deeper cuts (mark ∷ bytes) e = by_test (eqb mark 42)
    (λ t.
    let c = cuts bytes (rw t at e) in
    (mark ∷ c.0, c.1, ap (λ (b : List ℕ). mark ∷ b) c.2, rw t c.3, rw t c.4))
    (λ f. absurd (flat_high mark (text_until_line_end bytes) (after_text bytes) (rw f at e)))

-- the bytes up to an array that is too deep
first_cut : (bytes : List ℕ) → Cut (λ rest. Err TooDeep) (array_at (times_at (answer_at zero))) bytes
unfolding array_at length_at text_until_line_end after_text
first_cut bytes = ([], bytes, refl, refl, refl)

pub answer_cut : (levels : ℕ) → Cuts (answer_at levels) (answer_at (suc levels))
unfolding answer_at
answer_cut zero = front_cut (λ rest. Err TooDeep) (array_at (times_at (answer_at zero))) (λ bytes e. first_cut bytes)
answer_cut (suc levels) = front_cut (array_at (times_at (answer_at levels))) (array_at (times_at (answer_at (suc levels)))) (array_cut (answer_at levels) (answer_at (suc levels)) (answers_local levels) (answer_deepens levels) (answer_cut levels))
