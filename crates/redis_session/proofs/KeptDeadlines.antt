-- The deadlines of calls whose numbers rise one by one.
use Rattle.std.proofs.Common.{◌≡◌, ◌≢◌, ◌∙◌, ◌⊎◌, inl, inr, ◌+◌, ◌-◌, ◌<◌, ◌≤◌, ◌==◌, ◌++◌, ℕ, zero, suc, Bool, true, false, List, [], ◌∷◌, None, Some, drop, take, length, refl, subst, sym, ap, arith}
use Rattle.std.specs.Prelude.{Contains, nat_le, nat_lt, slice_get, slice_index_or}
use Rattle.std.proofs.Math.Seq.{take-add, take-append_seam}
use Rattle.std.proofs.lemmas.List.Elements.{Contains-append_cases}
use Rattle.session_core.specs.State.{State, call_at}
use Rattle.std.proofs.lemmas.Bool.Decides.{nat_tests}
use Rattle.std.proofs.lemmas.List.{length-append}
use Rattle.std.proofs.lemmas.Map.Views.{exact_unsigned_eq}
use Rattle.redis_session.specs.Deadlines.{BeginsAt, Deadlines, Forgets, deadline_of, deadlines_from, is_over}

pub at_end : (call : ℕ) (items : List ℕ) (deadline : ℕ) → deadlines_from call (items ++ deadline ∷ []) ≡ deadlines_from call items ++ (call + length items, deadline) ∷ []
at_end call [] deadline = ap (λ n. (n, deadline) ∷ []) (omega arith)
at_end call (x ∷ items) deadline =
    ap (λ rest. (call, x) ∷ rest) (at_end (call + 1) items deadline ∙ ap (λ n. deadlines_from (call + 1) items ++ (n, deadline) ∷ []) (omega arith))

pub without_first : (call : ℕ) (items : List ℕ) → deadlines_from (call + 1) (drop 1 items) ≡ drop 1 (deadlines_from call items)
without_first call [] = refl
without_first call (x ∷ items) = refl

pub begins_at : (call : ℕ) (items : List ℕ) → 0 < length items → BeginsAt call (deadlines_from call items)
begins_at call [] some = absurd (omega (arith, some))
begins_at call (x ∷ items) some = record { deadline = x; more = deadlines_from (call + 1) items; is = refl }

passes : (call n : ℕ) → n ≢ call → (n == call) ≡ false
passes call n ne = grind (arith, nat_tests, ne)

pub before_first : (call first : ℕ) (items : List ℕ) → call < first → deadline_of call (deadlines_from first items) ≡ None
before_first call first [] before = refl
before_first call first (x ∷ items) before = rw (passes call first (λ same. absurd (omega (arith, same, before)))) (before_first call (first + 1) items (omega (arith, before)))

pub at_number : (call first : ℕ) (items : List ℕ) → first ≤ call → deadline_of call (deadlines_from first items) ≡ slice_get items (call - first)
at_number call first [] from = refl
at_number call first (x ∷ items) from = step (first == call) refl (λ less. at_number call (first + 1) items less)
  where
    step : (b : Bool) → (first == call) ≡ b → (first + 1 ≤ call → deadline_of call (deadlines_from (first + 1) items) ≡ slice_get items (call - (first + 1)))
        → deadline_of call (deadlines_from first (x ∷ items)) ≡ slice_get (x ∷ items) (call - first)
    step true same further =
        let is : first ≡ call = exact_unsigned_eq first call same in
        let none : call - first ≡ 0 = omega (arith, is) in
        rw (same, none) refl
    step false other further =
        let less : first < call = grind (arith, nat_tests, from, other) in
        let one : call - first ≡ suc (call - (first + 1)) = omega (arith, less) in
        rw (other, one) (further (omega (arith, less)))

first_of : (n call : ℕ) (items : List ℕ) → deadlines_from call (take n items) ≡ take n (deadlines_from call items)
first_of zero call items = refl
first_of (suc n) call [] = refl
first_of (suc n) call (x ∷ items) = ap (λ rest. (call, x) ∷ rest) (first_of n (call + 1) items)

as_many : (call : ℕ) (items : List ℕ) → length (deadlines_from call items) ≡ length items
as_many call [] = refl
as_many call (x ∷ items) = ap suc (as_many (call + 1) items)

-- the last is taken back
pub without_last : (call : ℕ) (items left : List ℕ) (kept : Deadlines) → deadlines_from call items ≡ kept → left ≡ take (length items - 1) items
    → deadlines_from call left ≡ take (length kept - 1) kept
without_last call items left kept are is =
    ap (deadlines_from call) is ∙ first_of (length items - 1) call items ∙ ap (λ n. take (n - 1) (deadlines_from call items)) (sym (as_many call items)) ∙ ap (λ k. take (length k - 1) k) are

-- what was added last is gone then
pub back_again : (kept : Deadlines) (row : ℕ × ℕ) → take (length (kept ++ row ∷ []) - 1) (kept ++ row ∷ []) ≡ kept
back_again kept row =
    let n : length (kept ++ row ∷ []) - 1 ≡ length kept = ap (λ k. k - 1) (length-append kept (row ∷ [])) ∙ omega arith in
    ap (λ k. take k (kept ++ row ∷ [])) n ∙ take-append_seam kept (row ∷ [])

-- what is said of a call by the item that is found for it
module _ (call first now : ℕ) (items : List ℕ) (kept : Deadlines) (are : deadlines_from first items ≡ kept) where
  pub over_by : (deadline : ℕ) → first ≤ call → slice_get items (call - first) ≡ Some deadline → nat_le deadline now ≡ is_over (deadline_of call kept) now
  over_by deadline from there = sym (ap (λ o. is_over o now) (ap (deadline_of call) (sym are) ∙ at_number call first items from ∙ there))

  never_before : call < first → false ≡ is_over (deadline_of call kept) now
  never_before before = sym (ap (λ o. is_over o now) (ap (deadline_of call) (sym are) ∙ before_first call first items before))

  pub over_never : (call < first) ⊎ (slice_get items (call - first) ≡ None) → false ≡ is_over (deadline_of call kept) now
  over_never (inl before) = never_before before
  over_never (inr none) = elim (nat_lt call first) as (λ b. nat_lt call first ≡ b → false ≡ is_over (deadline_of call kept) now) [
    | true ↦ λ before. never_before (grind (arith, nat_tests, before))
    | false ↦ λ from. sym (ap (λ o. is_over o now) (ap (deadline_of call) (sym are) ∙ at_number call first items (grind (arith, nat_tests, from)) ∙ none))
  ] refl

-- ---- deadlines that are forgotten

skips : (n : ℕ) (kept : Deadlines) → drop 1 (drop n kept) ≡ drop (suc n) kept
skips zero kept = refl
skips (suc n) [] = refl
skips (suc n) (row ∷ kept) = skips n kept

one_more : (n : ℕ) (kept : Deadlines) (row : ℕ × ℕ) → Contains (take (suc n) kept) row → Contains (take n kept) row ⊎ Contains (take 1 (drop n kept)) row
one_more n kept row among =
    let next : suc n ≡ n + 1 = omega arith in
    Contains-append_cases (take n kept) (take 1 (drop n kept)) row
    (subst (λ (rows : Deadlines). Contains rows row) (ap (λ k. take k kept) next ∙ take-add n 1 kept) among)

only_row : (row other : ℕ × ℕ) (more : Deadlines) → Contains (take 1 (row ∷ more)) other → other.0 ≡ row.0
only_row row other more among = at among.0 among.1 among.2
  where
    at : (k : ℕ) → k < 1 → slice_index_or (row ∷ []) k other ≡ other → other.0 ≡ row.0
    at zero within is = sym (ap (λ (r : ℕ × ℕ). r.0) is)
    at (suc k) within is = absurd (omega (arith, within))

pub forgets_more : (s : State) (old kept new : Deadlines) (call : ℕ) → Forgets s old kept → BeginsAt call kept → call_at call s ≡ None → (new ≡ drop 1 kept) ⊎ (new ≡ kept) → Forgets s old new
forgets_more s old kept new call so_far begins none (inr same) = subst (Forgets s old) (sym same) so_far
forgets_more s old kept new call so_far begins none (inl is) = record {
  count = suc so_far.count;
  rest = is ∙ ap (drop 1) so_far.rest ∙ skips so_far.count old;
  gone = λ other its among. by other its (one_more so_far.count old (other, its) among);
}
  where
    by : (other its : ℕ) → Contains (take so_far.count old) (other, its) ⊎ Contains (take 1 (drop so_far.count old)) (other, its) → call_at other s ≡ None
    by other its (inl before) = so_far.gone other its before
    by other its (inr this) =
        let row = subst (λ (rows : Deadlines). Contains (take 1 rows) (other, its)) (sym so_far.rest ∙ begins.is) this in
        subst (λ n. call_at n s ≡ None) (sym (only_row (call, begins.deadline) (other, its) begins.more row)) none
