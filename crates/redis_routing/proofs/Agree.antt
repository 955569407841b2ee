-- Two tables that have the same rows in another order.
use Rattle.std.proofs.Common.{◌≡◌, ℕ, List, [], ◌∷◌, Bool, true, Option, Some, sym, ap, ◌∙◌, map, arith}
use Rattle.std.specs.Prelude.{option_and_then}
use Rattle.std.specs.Str.{bytes_eq}
use Rattle.std.proofs.lemmas.Slice.Eq.{bytes_eq-Decides}
use Rattle.redis_routing.specs.Lookup.{lookup_name, has_name}
use Rattle.resp_core.proofs.Cases.{by_test}

module _ {A B : Type 0} (part : A → Option B) where
  -- what each row of the one has stands in the other
  carried : (xs : List (List ℕ × A)) (ys : List (List ℕ × B)) → map (λ x. lookup_name ys x.0) xs ≡ map (λ x. part x.1) xs → (n : List ℕ) (b : B) → option_and_then part (lookup_name xs n) ≡ Some b → lookup_name ys n ≡ Some b
  carried [] ys same n b h = cc
  carried (x ∷ xs) ys same n b h =
      by_test (bytes_eq x.0 n)
      (λ equal. let first : lookup_name ys x.0 ≡ part x.1 = cc same in
      let held : part x.1 ≡ Some b = rw equal at h in
      ap (lookup_name ys) (sym ((bytes_eq-Decides x.0 n).0 equal)) ∙ first ∙ held)
      (λ unlike. let rest : map (λ x. lookup_name ys x.0) xs ≡ map (λ x. part x.1) xs = cc same in
      carried xs ys rest n b (rw unlike at h))

  carried_back : (xs : List (List ℕ × A)) (ys : List (List ℕ × B)) → map (λ y. option_and_then part (lookup_name xs y.0)) ys ≡ map (λ y. Some y.1) ys → (n : List ℕ) (b : B) → lookup_name ys n ≡ Some b → option_and_then part (lookup_name xs n) ≡ Some b
  carried_back xs [] same n b h = cc
  carried_back xs (y ∷ ys) same n b h =
      by_test (bytes_eq y.0 n)
      (λ equal. let first : option_and_then part (lookup_name xs y.0) ≡ Some y.1 = cc same in
      let held : Some y.1 ≡ Some b = rw equal at h in
      ap (λ m. option_and_then part (lookup_name xs m)) (sym ((bytes_eq-Decides y.0 n).0 equal)) ∙ first ∙ held)
      (λ unlike. let rest : map (λ y. option_and_then part (lookup_name xs y.0)) ys ≡ map (λ y. Some y.1) ys = cc same in
      carried_back xs ys rest n b (rw unlike at h))

  by_option : (p q : Option B) → ((b : B) → p ≡ Some b → q ≡ Some b) → ((b : B) → q ≡ Some b → p ≡ Some b) → p ≡ q
  by_option p q h1 h2 = grind (arith)

  -- a part of the rows of the one is the rows of the other
  pub agree : (xs : List (List ℕ × A)) (ys : List (List ℕ × B)) → map (λ x. lookup_name ys x.0) xs ≡ map (λ x. part x.1) xs → map (λ y. option_and_then part (lookup_name xs y.0)) ys ≡ map (λ y. Some y.1) ys → (n : List ℕ) → option_and_then part (lookup_name xs n) ≡ lookup_name ys n
  agree xs ys there back n = by_option (option_and_then part (lookup_name xs n)) (lookup_name ys n) (carried xs ys there n) (carried_back xs ys back n)

carried_name : (xs ys : List (List ℕ)) → map (has_name ys) xs ≡ map (λ x. true) xs → (n : List ℕ) → has_name xs n ≡ true → has_name ys n ≡ true
carried_name [] ys same n h = cc
carried_name (x ∷ xs) ys same n h =
    by_test (bytes_eq x n)
    (λ equal. let first : has_name ys x ≡ true = cc same in ap (has_name ys) (sym ((bytes_eq-Decides x n).0 equal)) ∙ first)
    (λ unlike. let rest : map (has_name ys) xs ≡ map (λ x. true) xs = cc same in carried_name xs ys rest n (rw unlike at h))

by_bool : (p q : Bool) → (p ≡ true → q ≡ true) → (q ≡ true → p ≡ true) → p ≡ q
by_bool p q h1 h2 = grind (arith)

pub agree_names : (xs ys : List (List ℕ)) → map (has_name ys) xs ≡ map (λ x. true) xs → map (has_name xs) ys ≡ map (λ y. true) ys → (n : List ℕ) → has_name xs n ≡ has_name ys n
agree_names xs ys there back n = by_bool (has_name xs n) (has_name ys n) (carried_name xs ys there n) (carried_name ys xs back n)
