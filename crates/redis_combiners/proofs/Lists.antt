-- Lists of what may be missing.
use Rattle.std.proofs.Common.{◌≡◌, ℕ, zero, suc, ◌<◌, List, [], ◌∷◌, length, get_or, map, Option, Some, None, Bool, true, false, cond, refl, ap, sym, ◌∙◌, arith}
use Rattle.std.proofs.lemmas.Grind.{common_steps}
use Rattle.std.specs.Prelude.{option_map, option_and_then, is_none, unwrap_or}
use Rattle.std.specs.List.{list_any}
use Rattle.std.specs.List.Sorted.{IsPermutation}
use Rattle.std.proofs.lemmas.List.Sorted.{IsPermutation-map, list_any-IsPermutation}
use Rattle.cluster_slots.specs.Lists.{all_some}

-- what is there of each, if nothing is missing
pub all_some_is : {A X : Type 0} (f : A → Option X) (d : X) (xs : List A) → all_some (map f xs) ≡ cond (list_any (λ x. is_none (f x)) xs) None (Some (map (λ x. unwrap_or (f x) d) xs))
all_some_is f d [] = refl
all_some_is {A} {X} f d (x ∷ xs) = grind (arith, common_steps, all_some_is f d xs)

-- what is made of what is there of each, where the order does not count
pub any_order_of : {A X Y : Type 0} (f : A → Option X) (d : X) (made : List X → Option Y) → ((xs ys : List X) → IsPermutation xs ys → made ys ≡ made xs) → (these those : List A) → IsPermutation these those → option_and_then made (all_some (map f those)) ≡ option_and_then made (all_some (map f these))
any_order_of {A} {X} {Y} f d made same these those h =
    ap (option_and_then made) (all_some_is f d those)
    ∙ ap (λ b. option_and_then made (cond b None (Some (map of those)))) (sym (list_any-IsPermutation is_missing these those h))
    ∙ by_cases (list_any is_missing these)
    ∙ sym (ap (option_and_then made) (all_some_is f d these))
  where
    is_missing : A → Bool
    is_missing a = is_none (f a)

    of : A → X
    of a = unwrap_or (f a) d

    by_cases : (b : Bool) → option_and_then made (cond b None (Some (map of those))) ≡ option_and_then made (cond b None (Some (map of these)))
    by_cases true = refl
    by_cases false = same (map of these) (map of those) (IsPermutation-map of these those h)

-- where nothing is missing: the first, and the others
pub record FirstAndOthers {X : Type 0} (o : Option X) (os : List (Option X)) (xs : List X) : Type 0 where
  pub first : X
  pub others : List X
  pub there : o ≡ Some first
  pub others_are : all_some os ≡ Some others
  pub is : xs ≡ first ∷ others

pub first_and_others : {X : Type 0} (o : Option X) (os : List (Option X)) (xs : List X) → all_some (o ∷ os) ≡ Some xs → FirstAndOthers o os xs
first_and_others None os xs e = absurd (cc)
first_and_others {X} (Some x) os xs e = made (all_some os) refl e
  where
    made : (a : Option (List X)) → all_some os ≡ a → option_map (λ ys. x ∷ ys) a ≡ Some xs → FirstAndOthers (Some x) os xs
    made None is h = absurd (cc)
    made (Some ys) is h = record { first = x; others = ys; there = refl; others_are = is; is = cc }

pub all_some_at : {X : Type 0} (os : List (Option X)) (xs : List X) (k : ℕ) (d : X) → all_some os ≡ Some xs → k < length os → get_or os k None ≡ Some (get_or xs k d)
all_some_at [] xs k d e l = absurd (omega arith)
all_some_at (o ∷ os) xs zero d e l = let f = first_and_others o os xs e in f.there ∙ ap (λ ys. Some (get_or ys 0 d)) (sym f.is)
all_some_at (o ∷ os) xs (suc k) d e l = let f = first_and_others o os xs e in all_some_at os f.others k d f.others_are (omega arith) ∙ ap (λ ys. Some (get_or ys (suc k) d)) (sym f.is)

pub all_some_length : {X : Type 0} (os : List (Option X)) (xs : List X) → all_some os ≡ Some xs → length xs ≡ length os
all_some_length {X} [] xs e = grind (arith, common_steps)
all_some_length (o ∷ os) xs e = let f = first_and_others o os xs e in let h = all_some_length os f.others f.others_are in ap length f.is ∙ omega (arith, h)
