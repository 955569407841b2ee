-- An insert entry by entry, and the answer for a slot as a value.
use Rattle.std.proofs.Common.{◌≡◌, ◌<◌, ℕ, cond, nat_le, nat_cmp, List, [], ◌∷◌, map, fold, Option, Some, None, option_map, refl, sym, ap, ◌∙◌, arith}
use Rattle.std.specs.Ordering.{match_ordering}
use Rattle.std.proofs.lemmas.Bool.{cases_order}
use Rattle.std.proofs.lemmas.Bool.Decides.{nat_tests}
use Rattle.std.proofs.lemmas.Grind.{common_steps}
use Rattle.cluster_map.specs.RangeMap.{RangeEntry, Ascends, IsAnswerAt, IsUncovered, insert_entry, insert_entries}
use Rattle.resp_core.proofs.Cases.{by_test}
use Rattle.cluster_map.proofs.Ranges.{ending_from, EndsFirstFrom-head, IsAnswerAt-first, IsAnswerAt-unique, IsUncovered-first, IsUncovered-none, insert_entry-front, insert_entry-place, insert_entry-later, Ascends-insert_entry}

abbrev pub insert_step : {V : Type 0} → List (RangeEntry V) → ℕ → ℕ → V → List (RangeEntry V)
insert_step [] start end value = (start, end, value) ∷ []
insert_step (r ∷ rs) start end value = match_ordering (nat_cmp end r.1) ((start, end, value) ∷ r ∷ rs) ((start, r.1, value) ∷ rs) (r ∷ insert_step rs start end value)

pub insert_step-is : {V : Type 0} (es : List (RangeEntry V)) (start end : ℕ) (value : V) → Ascends es → insert_entry es start end value ≡ insert_step es start end value
insert_step-is [] start end value ascends = refl
insert_step-is (r ∷ rs) start end value ascends = grind (arith, common_steps, cases_order, nat_cmp, nat_tests, insert_entry-place, insert_entry-front, insert_entry-later, insert_step-is rs start end value ascends.1)

abbrev pub step : {V : Type 0} → List (RangeEntry V) → RangeEntry V → List (RangeEntry V)
step es e = insert_step es e.0 e.1 e.2

abbrev pub insert_steps : {V : Type 0} → List (RangeEntry V) → List (RangeEntry V) → List (RangeEntry V)
insert_steps es more = fold step es more

pub insert_steps-is : {V : Type 0} (es more : List (RangeEntry V)) → Ascends es → insert_entries es more ≡ insert_steps es more
insert_steps-is es [] ascends = refl
insert_steps-is es (x ∷ xs) ascends = grind (arith, common_steps, Ascends-insert_entry, insert_step-is, insert_steps-is (insert_entry es x.0 x.1 x.2) xs (Ascends-insert_entry es x.0 x.1 x.2 ascends))

abbrev pub first_value_at : {V : Type 0} → ℕ → List (RangeEntry V) → Option V
first_value_at slot [] = None
first_value_at slot (e ∷ es) = cond (nat_le e.0 slot) (Some e.2) None

abbrev pub answer : {V : Type 0} → List (RangeEntry V) → ℕ → Option V
answer es slot = first_value_at slot (ending_from slot es)

some_case : {V : Type 0} (es : List (RangeEntry V)) (slot : ℕ) (value : V) (rest : List (RangeEntry V)) → Ascends es → ending_from slot es ≡ rest → first_value_at slot rest ≡ Some value → IsAnswerAt es slot value
some_case es slot value [] ascends is value_is = cc
some_case es slot value (e ∷ rest) ascends is value_is = grind (arith, common_steps, by_test, nat_le, nat_tests, IsAnswerAt-first, EndsFirstFrom-head)

pub answer-some : {V : Type 0} (es : List (RangeEntry V)) (slot : ℕ) (value : V) → Ascends es → answer es slot ≡ Some value → IsAnswerAt es slot value
answer-some es slot value ascends is = some_case es slot value (ending_from slot es) ascends refl is

none_case : {V : Type 0} (es : List (RangeEntry V)) (slot : ℕ) (rest : List (RangeEntry V)) → Ascends es → ending_from slot es ≡ rest → first_value_at slot rest ≡ None → IsUncovered es slot
none_case es slot [] ascends is value_is = IsUncovered-none es slot is
none_case es slot (e ∷ rest) ascends is value_is = by_test (nat_le e.0 slot)
    (λ t. let there : Some e.2 ≡ None = sym (rw t refl) ∙ value_is in cc)
    (λ t.
    let after : slot < e.0 = grind (arith, nat_tests) in
    IsUncovered-first es slot e ascends (EndsFirstFrom-head es slot e rest ascends is) after)

pub by_option : {X A : Type 0} (o : Option X) → (o ≡ None → A) → ((x : X) → o ≡ Some x → A) → A
by_option None f g = f refl
by_option (Some x) f g = g x refl

pub answer-is : {V : Type 0} (es : List (RangeEntry V)) (slot : ℕ) (value : V) → Ascends es → IsAnswerAt es slot value → answer es slot ≡ Some value
answer-is es slot value ascends a = by_option (answer es slot)
    (λ none. absurd (none_case es slot (ending_from slot es) ascends refl none value a))
    (λ w is. is ∙ ap Some (IsAnswerAt-unique es slot w value ascends (answer-some es slot w ascends is) a))

-- another value for each entry
abbrev pub with_value : {A B : Type 0} → (A → B) → RangeEntry A → RangeEntry B
with_value g e = (e.0, e.1, g e.2)

pub with_value-step : {A B : Type 0} (g : A → B) (es : List (RangeEntry A)) (start end : ℕ) (value : A) → map (with_value g) (insert_step es start end value) ≡ insert_step (map (with_value g) es) start end (g value)
with_value-step g [] start end value = refl
with_value-step g (r ∷ rs) start end value = grind (arith, common_steps, with_value-step g rs start end value)

pub with_value-insert_steps : {A B : Type 0} (g : A → B) (es more : List (RangeEntry A)) → map (with_value g) (insert_steps es more) ≡ insert_steps (map (with_value g) es) (map (with_value g) more)
with_value-insert_steps g es [] = refl
with_value-insert_steps g es (x ∷ xs) = with_value-insert_steps g (step es x) xs ∙ ap (λ z. insert_steps z (map (with_value g) xs)) (with_value-step g es x.0 x.1 x.2)

with_value-from : {A B : Type 0} (g : A → B) (slot : ℕ) (es : List (RangeEntry A)) → ending_from slot (map (with_value g) es) ≡ map (with_value g) (ending_from slot es)
with_value-from g slot [] = refl
with_value-from g slot (e ∷ es) = by_test (nat_le slot e.1) (λ t. rw t (ap (λ z. with_value g e ∷ z) (with_value-from g slot es))) (λ t. rw t (with_value-from g slot es))

with_value-first_value_at : {A B : Type 0} (g : A → B) (slot : ℕ) (es : List (RangeEntry A)) → first_value_at slot (map (with_value g) es) ≡ option_map g (first_value_at slot es)
with_value-first_value_at g slot [] = refl
with_value-first_value_at g slot (e ∷ es) = by_test (nat_le e.0 slot) (λ t. rw t refl) (λ t. rw t refl)

pub with_value-answer : {A B : Type 0} (g : A → B) (es : List (RangeEntry A)) (slot : ℕ) → answer (map (with_value g) es) slot ≡ option_map g (answer es slot)
with_value-answer g es slot = ap (first_value_at slot) (with_value-from g slot es) ∙ with_value-first_value_at g slot (ending_from slot es)
