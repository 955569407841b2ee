-- Addresses put into a set one at a time are each address once.
use Rattle.std.proofs.Common.{◌≡◌, Bool, true, false, not, cond, ◌||◌, List, [], ◌∷◌, ◌++◌, fold, filter, refl, sym, ap, ◌∙◌, append_assoc, arith}
use Rattle.std.specs.List.{list_any}
use Rattle.std.proofs.lemmas.List.{append-nil}
use Rattle.std.proofs.lemmas.List.Sums.{fold-append}
use Rattle.std.proofs.lemmas.Grind.{common_steps}
use Rattle.cluster_slots.specs.Address.{Address, same_address}
use Rattle.cluster_slots.proofs.Orders.{same_from_address}
use Rattle.resp_core.proofs.Cases.{by_test}
use Rattle.cluster_map.specs.EachOnce.{once_by, each_once}

-- an element goes last, unless it is there
abbrev pub add_by : {A : Type 0} → (A → A → Bool) → List A → A → List A
add_by same xs x = cond (list_any (same x) xs) xs (xs ++ x ∷ [])

abbrev pub add_new : List Address → Address → List Address
add_new xs x = add_by same_address xs x

-- whether an element is none of these
abbrev is_new : {A : Type 0} → (A → A → Bool) → List A → A → Bool
is_new same xs x = not (list_any (same x) xs)

pub list_any-last : {A : Type 0} (p : A → Bool) (xs : List A) (x : A) → list_any p (xs ++ x ∷ []) ≡ (list_any p xs || p x)
list_any-last p [] x = by_test (p x) (λ h. rw h refl) (λ h. rw h refl)
list_any-last p (y ∷ ys) x = by_test (p y) (λ h. rw h refl) (λ h. rw h (list_any-last p ys x))

-- a filter after one that lets more through does nothing
filter-less : {A : Type 0} (p q : A → Bool) (xs : List A) → ((x : A) → p x ≡ true → q x ≡ true) → filter p (filter q xs) ≡ filter p xs
filter-less p q [] more = refl
filter-less p q (x ∷ xs) more = grind (arith, common_steps, filter-less p q xs more)

-- two filters, one after the other, are the filter of both
filter-both : {A : Type 0} (p q r : A → Bool) (xs : List A) → ((x : A) → r x ≡ cond (q x) (p x) false) → filter p (filter q xs) ≡ filter r xs
filter-both p q r [] both = refl
filter-both p q r (x ∷ xs) both = grind (arith, common_steps, filter-both p q r xs both)

-- equal elements are the same, where a test says so
abbrev pub Tells : {A : Type 0} → (A → A → Bool) → Type 0
Tells {A} same = (x y : A) → same x y ≡ true → x ≡ y

same_members : {A : Type 0} (same : A → A → Bool) → Tells same → (xs : List A) (x y : A) → list_any (same x) xs ≡ true → is_new same xs y ≡ true → not (same y x) ≡ true
same_members same tells xs x y there new = grind (arith, common_steps)

not_or : (x y : Bool) → not (x || y) ≡ cond (not y) (not x) false
not_or x y = grind (arith)

add_all : {A : Type 0} (same : A → A → Bool) → Tells same → (xs ys : List A) → fold (add_by same) xs ys ≡ xs ++ filter (is_new same xs) (once_by same ys)
add_all same tells xs [] = sym (append-nil xs)
add_all same tells xs (y ∷ ys) = by_test (list_any (same y) xs)
    (λ t. rw t (add_all same tells xs ys ∙ ap (λ z. xs ++ z) (sym (filter-less (is_new same xs) (λ z. not (same z y)) (once_by same ys) (λ z. same_members same tells xs y z t)))))
    (λ t. rw t
    (add_all same tells (xs ++ y ∷ []) ys ∙ append_assoc xs (y ∷ []) (filter (is_new same (xs ++ y ∷ [])) (once_by same ys))
    ∙ ap (λ z. xs ++ y ∷ z) (sym (filter-both (is_new same xs) (λ z. not (same z y)) (is_new same (xs ++ y ∷ [])) (once_by same ys)
    (λ z. ap not (list_any-last (same z) xs y) ∙ not_or (list_any (same z) xs) (same z y))))))

filter-all : {A : Type 0} (p : A → Bool) (xs : List A) → ((x : A) → p x ≡ true) → filter p xs ≡ xs
filter-all p [] all = refl
filter-all p (x ∷ xs) all = rw (all x) (ap (λ z. x ∷ z) (filter-all p xs all))

pub added_once_by : {A : Type 0} (same : A → A → Bool) → Tells same → (xs : List A) → fold (add_by same) [] xs ≡ once_by same xs
added_once_by same tells xs = add_all same tells [] xs ∙ filter-all (is_new same []) (once_by same xs) (λ x. refl)

pub added_once : (xs : List Address) → fold add_new [] xs ≡ each_once xs
added_once xs = added_once_by same_address same_from_address xs

-- the members so far, and then those of more addresses
pub added_more : (before bs ks : List Address) → ks ≡ each_once before → fold add_new ks bs ≡ each_once (before ++ bs)
added_more before bs ks is =
    ap (λ z. fold add_new z bs) (is ∙ sym (added_once before)) ∙ sym (fold-append add_new [] before bs) ∙ added_once (before ++ bs)
