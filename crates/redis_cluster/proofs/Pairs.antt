-- Two lists of one length, item beside item.
use Rattle.std.proofs.Common.{◌≡◌, ℕ, zero, suc, List, [], ◌∷◌, ◌++◌, Bool, length, get_or, set, refl, ap, sym, ◌∙◌, arith}
use Rattle.std.specs.List.{zip}
use Rattle.std.proofs.lemmas.Slice.Zip.{firsts-zip}
use Rattle.redis_cluster.specs.Pipeline.{CommandWords, MarkedCommands, commands_of, on_last}

module _ {A B : Type 0} where
  -- an item more at the end of each
  pub zip-push : (xs : List A) (ys : List B) (x : A) (y : B) → length ys ≡ length xs → zip (xs ++ x ∷ []) (ys ++ y ∷ []) ≡ zip xs ys ++ (x, y) ∷ []
  zip-push [] [] x y same = refl
  zip-push [] (b ∷ ys) x y same = absurd (omega (arith, same))
  zip-push (a ∷ xs) [] x y same = absurd (omega (arith, same))
  zip-push (a ∷ xs) (b ∷ ys) x y same = ap (λ ps. (a, b) ∷ ps) (zip-push xs ys x y (omega (arith, same)))

  -- the first of the last pair changed
  pub zip-first_changed : (change : A → A) (xs : List A) (ys : List B) (n : ℕ) (x : A) → suc n ≡ length xs → length ys ≡ length xs → x ≡ get_or xs n x → zip (set xs n (change x)) ys ≡ on_last (λ p. (change p.0, p.1)) (zip xs ys)
  zip-first_changed change [] ys n x last same is = absurd (omega (arith, last))
  zip-first_changed change (a ∷ xs) [] n x last same is = absurd (omega (arith, same))
  zip-first_changed change (a ∷ []) (b ∷ ys) zero x last same is = ap (λ z. (change z, b) ∷ []) is
  zip-first_changed change (a ∷ []) (b ∷ ys) (suc n) x last same is = absurd (omega (arith, last))
  zip-first_changed change (a ∷ (c ∷ xs)) (b ∷ ys) zero x last same is = absurd (omega (arith, last))
  zip-first_changed change (a ∷ (c ∷ xs)) (b ∷ []) (suc n) x last same is = absurd (omega (arith, same))
  zip-first_changed change (a ∷ (c ∷ xs)) (b ∷ (d ∷ ys)) (suc n) x last same is = ap (λ ps. (a, b) ∷ ps) (zip-first_changed change (c ∷ xs) (d ∷ ys) n x (omega (arith, last)) (omega (arith, same)) is)

  -- the second of the last pair changed
  pub zip-second_set : (xs : List A) (ys : List B) (n : ℕ) (y : B) → suc n ≡ length xs → length ys ≡ length xs → zip xs (set ys n y) ≡ on_last (λ p. (p.0, y)) (zip xs ys)
  zip-second_set [] ys n y last same = absurd (omega (arith, last))
  zip-second_set (a ∷ xs) [] n y last same = absurd (omega (arith, same))
  zip-second_set (a ∷ []) (b ∷ ys) zero y last same = refl
  zip-second_set (a ∷ []) (b ∷ ys) (suc n) y last same = absurd (omega (arith, last))
  zip-second_set (a ∷ (c ∷ xs)) (b ∷ ys) zero y last same = absurd (omega (arith, last))
  zip-second_set (a ∷ (c ∷ xs)) (b ∷ []) (suc n) y last same = absurd (omega (arith, same))
  zip-second_set (a ∷ (c ∷ xs)) (b ∷ (d ∷ ys)) (suc n) y last same = ap (λ ps. (a, b) ∷ ps) (zip-second_set (c ∷ xs) (d ∷ ys) n y (omega (arith, last)) (omega (arith, same)))

  -- as many pairs as items
  pub length-pairs : (xs : List A) (ys : List B) → length ys ≡ length xs → length (zip xs ys) ≡ length xs
  length-pairs [] ys same = refl
  length-pairs (a ∷ xs) [] same = absurd (omega (arith, same))
  length-pairs (a ∷ xs) (b ∷ ys) same = ap suc (length-pairs xs ys (omega (arith, same)))

-- the commands of a pipeline that is seen as these pairs
pub commands_of-zip : (commands : List CommandWords) (ignored : List Bool) (pipeline : MarkedCommands) → zip commands ignored ≡ pipeline → length ignored ≡ length commands → commands ≡ commands_of pipeline
commands_of-zip commands ignored pipeline pairs same = sym (firsts-zip commands ignored same) ∙ ap commands_of pairs
