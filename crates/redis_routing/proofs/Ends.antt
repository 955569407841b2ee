-- Names of one length that are compared at both ends.
use Rattle.std.proofs.Common.{◌≡◌, ℕ, ◌+◌, ◌-◌, ◌*◌, ◌≤◌, ◌++◌, List, Bool, true, false, length, take, drop, sym, ap, ◌∙◌, arith, length-drop}
use Rattle.std.specs.Str.{bytes_eq}
use Rattle.std.proofs.lemmas.List.{take-append-drop, drop-drop, take_all}
use Rattle.std.proofs.lemmas.Slice.Eq.{bytes_eq-Decides}
use Rattle.resp_core.proofs.Cases.{by_test}

module _ (n : ℕ) (xs : List ℕ) (enough : n ≤ length xs) where
  -- the last n bytes
  abbrev pub last : List ℕ
  last = drop (length xs - n) xs

  pub length-last : length last ≡ n
  length-last = grind (arith, length-drop)

  -- a slice from there to the end has all of them
  pub last_to_end : take (length xs - (length xs - n)) last ≡ last
  last_to_end = grind (arith, length-drop, take_all)

module _ (n : ℕ) (xs ys : List ℕ) (long : length xs ≡ length ys) (enough : n ≤ length xs) (no_gap : length xs ≤ 2 * n) where
  -- where both ends are the same, so is the whole
  same : take n xs ≡ take n ys → drop (length xs - n) xs ≡ drop (length ys - n) ys → xs ≡ ys
  same front back =
      let both : ℕ = n - (length xs - n) in
      let from_both : (zs : List ℕ) → length zs ≡ length xs → drop both (drop (length zs - n) zs) ≡ drop n zs =
      λ zs is. let sum : (length zs - n) + both ≡ n = omega (arith, is) in drop-drop both (length zs - n) zs ∙ ap (λ k. drop k zs) sum in
      let rest : drop n xs ≡ drop n ys = sym (from_both xs (λ i. length xs)) ∙ ap (drop both) back ∙ from_both ys (sym long) in
      sym (take-append-drop n xs) ∙ ap (λ l. l ++ drop n xs) front ∙ ap (λ l. take n ys ++ l) rest ∙ take-append-drop n ys

  -- where the first n bytes are the same, the last n decide
  pub last_decide : (b : Bool) → bytes_eq (take n xs) (take n ys) ≡ true → b ≡ bytes_eq (drop (length xs - n) xs) (drop (length ys - n) ys) → b ≡ bytes_eq xs ys
  last_decide true front back = sym ((bytes_eq-Decides xs ys).1 (same ((bytes_eq-Decides _ _).0 front) ((bytes_eq-Decides _ _).0 (sym back))))
  last_decide false front back =
      by_test (bytes_eq xs ys)
      (λ equal. back ∙ (bytes_eq-Decides _ _).1 (ap (λ l. drop (length l - n) l) ((bytes_eq-Decides xs ys).0 equal)) ∙ sym equal)
      (λ unlike. sym unlike)
