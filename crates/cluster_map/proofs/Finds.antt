-- The entry with an end, and that entries by ascending ends are told by what stands at each end.
use Rattle.std.proofs.Common.{◌≡◌, ◌<◌, ℕ, inl, inr, true, false, cond, nat_eq, Bool, List, [], ◌∷◌, ◌++◌, filter, reverse, Option, Some, None, refl, sym, ap, ◌∙◌, append_assoc, arith}
use Rattle.std.proofs.lemmas.Bool.{eqb-true, cases_lt, cases_order}
use Rattle.std.proofs.lemmas.Bool.Decides.{nat_tests}
use Rattle.std.proofs.lemmas.List.{append-nil, reverse-append}
use Rattle.std.proofs.lemmas.List.Sums.{fold-append}
use Rattle.std.proofs.lemmas.Grind.{common_steps}
use Rattle.resp_core.proofs.Cases.{by_test}
use Rattle.cluster_map.specs.RangeMap.{RangeEntry, end_of, EndsAfter, Ascends, insert_entry, insert_entries}
use Rattle.cluster_map.proofs.Ranges.{EndsAfter-smaller, insert_entry-front, insert_entry-place, insert_entry-later, Ascends-insert_entry}

pub by_order : {A : Type 0} (a b : ℕ) → (a < b → A) → (a ≡ b → A) → (b < a → A) → A
by_order a b f g h = elim (cases_lt a b) [ inl l ↦ f l | inr l ↦ elim (cases_lt b a) [ inl m ↦ h m | inr m ↦ g (omega arith) ] ]

-- the first entry with an end
abbrev pub find : {V : Type 0} → ℕ → List (RangeEntry V) → Option (RangeEntry V)
find e [] = None
find e (r ∷ rs) = cond (nat_eq r.1 e) (Some r) (find e rs)

abbrev pub last_of : {X : Type 0} → Option X → List X → Option X
last_of o [] = o
last_of o (x ∷ xs) = last_of (Some x) xs

abbrev pub first_of : {X : Type 0} → Option X → List X → Option X
first_of o [] = o
first_of o (x ∷ xs) = Some x

abbrev pub ends_with : {V : Type 0} → ℕ → RangeEntry V → Bool
ends_with e r = nat_eq r.1 e

-- rising lists with equal look-ups are equal
pub find_above : {V : Type 0} (e : ℕ) (rs : List (RangeEntry V)) → EndsAfter e rs → Ascends rs → find e rs ≡ None
find_above e [] s up = refl
find_above e (r ∷ rs) s up = grind (arith, common_steps, find_above e rs (EndsAfter-smaller e r.1 rs s up.0) up.1)

pub same_ranges : {V : Type 0} (xs ys : List (RangeEntry V)) → Ascends xs → Ascends ys → ((e : ℕ) → find e xs ≡ find e ys) → xs ≡ ys
same_ranges [] [] u w h = refl
same_ranges [] (y ∷ ys) u w h = let k : nat_eq y.1 y.1 ≡ true = grind (arith, nat_tests) in let q = h y.1 in let p : None ≡ Some y = q ∙ rw k refl in cc
same_ranges (x ∷ xs) [] u w h = let k : nat_eq x.1 x.1 ≡ true = grind (arith, nat_tests) in let p : Some x ≡ None = sym (rw k refl) ∙ h x.1 in cc
same_ranges (x ∷ xs) (y ∷ ys) u w h =
    let a : nat_eq x.1 x.1 ≡ true = grind (arith, nat_tests) in
    let b : nat_eq y.1 y.1 ≡ true = grind (arith, nat_tests) in
    let fx : find x.1 (x ∷ xs) ≡ Some x = rw a refl in
    let fy : find y.1 (y ∷ ys) ≡ Some y = rw b refl in
    by_order x.1 y.1
    (λ l. let p : Some x ≡ None = sym fx ∙ h x.1 ∙ find_above x.1 (y ∷ ys) l w in cc)
    (λ l. let k : nat_eq y.1 x.1 ≡ true = grind (arith, nat_tests) in
    let gx : find x.1 (y ∷ ys) ≡ Some y = rw k refl in
    let p : Some x ≡ Some y = sym fx ∙ h x.1 ∙ gx in
    let q : x ≡ y = cc in
    let tails : (e : ℕ) → find e xs ≡ find e ys = λ e. by_test (nat_eq x.1 e)
    (λ t. let t2 : nat_eq y.1 e ≡ true = ap (λ z. nat_eq z e) (sym l) ∙ t in
    let ex : x.1 ≡ e = eqb-true x.1 e t in
    ap (λ z. find z xs) (sym ex) ∙ find_above x.1 xs u.0 u.1 ∙ sym (ap (λ z. find z ys) (sym (sym l ∙ ex)) ∙ find_above y.1 ys w.0 w.1))
    (λ t. let t2 : nat_eq y.1 e ≡ false = ap (λ z. nat_eq z e) (sym l) ∙ t in
    let hx : find e (x ∷ xs) ≡ find e xs = rw t refl in
    let hy : find e (y ∷ ys) ≡ find e ys = rw t2 refl in
    sym hx ∙ h e ∙ hy) in
    ap (λ z. z ∷ xs) q ∙ ap (λ z. y ∷ z) (same_ranges xs ys u.1 w.1 tails))
    (λ l. let p : None ≡ Some y = sym (find_above y.1 (x ∷ xs) l u) ∙ h y.1 ∙ fy in cc)

-- the entries at an end after an insert, and after more of them
find-insert_entry : {V : Type 0} (e : ℕ) (es : List (RangeEntry V)) (start end : ℕ) (value : V) → Ascends es → find e (insert_entry es start end value) ≡ cond (nat_eq end e) (Some (start, end, value)) (find e es)
find-insert_entry e [] start end value ascends = refl
find-insert_entry e (r ∷ rs) start end value ascends = grind (arith, common_steps, cases_order, insert_entry-place, by_test, insert_entry-front, insert_entry-later, nat_tests, find-insert_entry e rs start end value ascends.1)

pub Ascends-insert_entries : {V : Type 0} (es more : List (RangeEntry V)) → Ascends es → Ascends (insert_entries es more)
Ascends-insert_entries es [] ascends = ascends
Ascends-insert_entries es (x ∷ xs) ascends = Ascends-insert_entries (insert_entry es x.0 x.1 x.2) xs (Ascends-insert_entry es x.0 x.1 x.2 ascends)

pub find-insert_entries : {V : Type 0} (e : ℕ) (es more : List (RangeEntry V)) → Ascends es → find e (insert_entries es more) ≡ last_of (find e es) (filter (ends_with e) more)
find-insert_entries e es [] ascends = refl
find-insert_entries e es (x ∷ xs) ascends = grind (arith, common_steps, Ascends-insert_entry, find-insert_entry, by_test, find-insert_entries e (insert_entry es x.0 x.1 x.2) xs (Ascends-insert_entry es x.0 x.1 x.2 ascends))

-- entries that ascend after those of a list are put in at its end
before_last : {V : Type 0} (low : ℕ) (es more : List (RangeEntry V)) (x : RangeEntry V) → EndsAfter low (es ++ x ∷ more) → Ascends (es ++ x ∷ more) → low < end_of x
before_last low [] more x after ascends = after
before_last low (r ∷ rs) more x after ascends = let rest = before_last (end_of r) rs more x ascends.0 ascends.1 in omega arith

insert_entry-last : {V : Type 0} (es more : List (RangeEntry V)) (x : RangeEntry V) → Ascends (es ++ x ∷ more) → insert_entry es x.0 x.1 x.2 ≡ es ++ x ∷ []
insert_entry-last [] more x ascends = refl
insert_entry-last (r ∷ rs) more x ascends = grind (arith, common_steps, before_last (end_of r) rs more x ascends.0 ascends.1, insert_entry-later, insert_entry-last rs more x ascends.1)

pub insert_entries-last : {V : Type 0} (es more : List (RangeEntry V)) → Ascends (es ++ more) → insert_entries es more ≡ es ++ more
insert_entries-last es [] ascends = sym (append-nil es)
insert_entries-last es (x ∷ xs) ascends =
    let one : insert_entry es x.0 x.1 x.2 ≡ es ++ x ∷ [] = insert_entry-last es xs x ascends in
    let all : (es ++ x ∷ []) ++ xs ≡ es ++ x ∷ xs = append_assoc es (x ∷ []) xs in
    ap (λ z. insert_entries z xs) one ∙ insert_entries-last (es ++ x ∷ []) xs (rw all ascends) ∙ all

-- so it is one whether the entries of a map are there or are put in
pub insert_entries-onto : {V : Type 0} (es more : List (RangeEntry V)) → Ascends es → insert_entries [] (es ++ more) ≡ insert_entries es more
insert_entries-onto es more ascends = grind (arith, fold-append, insert_entries-last)

-- of the entries in reverse, the first with an end is the last that has it
pub find-filter : {V : Type 0} (e : ℕ) (es : List (RangeEntry V)) → find e es ≡ first_of None (filter (ends_with e) es)
find-filter e [] = refl
find-filter e (r ∷ rs) = by_test (nat_eq r.1 e) (λ h. rw h refl) (λ h. rw h (find-filter e rs))

first_of-append : {X : Type 0} (o : Option X) (xs ys : List X) → first_of o (xs ++ ys) ≡ first_of (first_of o ys) xs
first_of-append o [] ys = refl
first_of-append o (x ∷ xs) ys = refl

reverse-cons : {X : Type 0} (x : X) (xs : List X) → reverse (x ∷ xs) ≡ reverse xs ++ x ∷ []
reverse-cons x xs = reverse-append (x ∷ []) xs

first_of-reverse : {X : Type 0} (o : Option X) (xs : List X) → first_of o (reverse xs) ≡ last_of o xs
first_of-reverse o [] = refl
first_of-reverse o (x ∷ xs) = ap (first_of o) (reverse-cons x xs) ∙ first_of-append o (reverse xs) (x ∷ []) ∙ first_of-reverse (Some x) xs

filter-reverse : {X : Type 0} (p : X → Bool) (xs : List X) → filter p (reverse xs) ≡ reverse (filter p xs)
filter-reverse p [] = refl
filter-reverse p (x ∷ xs) = grind (arith, common_steps, filter-reverse p xs)

pub find-reverse : {V : Type 0} (e : ℕ) (es : List (RangeEntry V)) → find e (reverse es) ≡ last_of None (filter (ends_with e) es)
find-reverse e es = find-filter e (reverse es) ∙ ap (first_of None) (filter-reverse (ends_with e) es) ∙ first_of-reverse None (filter (ends_with e) es)
