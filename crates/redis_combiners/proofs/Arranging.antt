-- Items that are put into spots stand in the order of their places.
use Rattle.std.proofs.Common.{◌≡◌, ℕ, zero, suc, ◌<◌, ◌⊎◌, inl, inr, Bool, true, false, cond, List, [], ◌∷◌, length, map, get_or, replicate, Option, Some, None, refl, ap, sym, ◌∙◌, arith}
use Rattle.std.proofs.lemmas.Grind.{common_steps}
use Rattle.std.proofs.Math.ListN.{set}
use Rattle.std.specs.Prelude.{option_map, option_and_then, option_to_list, is_none, nat_eq, nat_lt, ◌&&◌}
use Rattle.std.specs.List.{range_with_len, list_all}
use Rattle.std.proofs.lemmas.Bool.{eqb-true, eqb-false, lt-ltb, ltb-true}
use Rattle.std.proofs.lemmas.List.{get_or-replicate, get_or-set_same, get_or-set_other, length-replicate, length-set}
use Rattle.std.proofs.lemmas.List.FromFn.{fill_by_all, length-map-range_with_len, get_or-map-range_with_len}
use Rattle.resp_core.specs.Reply.{Reply}
use Rattle.cluster_slots.specs.Lists.{all_some}
use Rattle.redis_combiners.specs.ByPlaces.{items_of_index, single, by_places}
use Rattle.redis_combiners.specs.Spots.{put_item, filled}
use Rattle.resp_core.proofs.Cases.{by_test}

pub items_at-cons : (k p : ℕ) (ps : List ℕ) (x : Reply) (xs : List Reply) → items_of_index k (p ∷ ps) (x ∷ xs) ≡ cond (nat_eq p k) (x ∷ items_of_index k ps xs) (items_of_index k ps xs)
items_at-cons k p ps x xs = grind (arith, common_steps)

-- the spots have the items of their places
record Held (n : ℕ) (ps : List ℕ) (xs : List Reply) (spots : List (Option Reply)) : Type 0 where
  long : length spots ≡ n
  held : (k : ℕ) → k < n → option_to_list (get_or spots k None) ≡ items_of_index k ps xs
  within : list_all (λ p. nat_lt p n) ps ≡ true

-- a place is past the end, or has two items
abbrev IsBad : ℕ → List ℕ → List Reply → Type 0
IsBad n ps xs = (list_all (λ p. nat_lt p n) ps ≡ false) ⊎ ((k : ℕ) × (k < n) × (1 < length (items_of_index k ps xs)))

bad_more : (n p : ℕ) (ps : List ℕ) (x : Reply) (xs : List Reply) → IsBad n ps xs → IsBad n (p ∷ ps) (x ∷ xs)
bad_more n p ps x xs (inl e) = grind (arith, common_steps)
bad_more n p ps x xs (inr t) = grind (arith, common_steps)

held_more : (n p : ℕ) (ps : List ℕ) (x : Reply) (xs : List Reply) (spots : List (Option Reply)) → Held n ps xs spots → p < n → is_none (get_or spots p None) ≡ true → Held n (p ∷ ps) (x ∷ xs) (set spots p (Some x))
held_more n p ps x xs spots h l e =
    let empty : option_to_list (get_or spots p None) ≡ [] = no_item (get_or spots p None) e in
    record {
      long = length-set spots p (Some x) ∙ h.long;
      held = λ k lk. by_test (nat_eq p k)
          (λ t. let same : p ≡ k = eqb-true p k t in
          ap (λ j. option_to_list (get_or (set spots p (Some x)) j None)) (sym same)
          ∙ ap option_to_list (get_or-set_same spots p (Some x) None (omega (arith, h.long)))
          ∙ ap (λ ys. x ∷ ys) (sym empty ∙ h.held p l ∙ ap (λ j. items_of_index j ps xs) same)
          ∙ ap (λ b. cond b (x ∷ items_of_index k ps xs) (items_of_index k ps xs)) (sym t)
          ∙ sym (items_at-cons k p ps x xs))
          (λ f. ap option_to_list (get_or-set_other spots p k (Some x) None (λ i. eqb-false p k f (sym i)))
          ∙ h.held k lk
          ∙ ap (λ b. cond b (x ∷ items_of_index k ps xs) (items_of_index k ps xs)) (sym f)
          ∙ sym (items_at-cons k p ps x xs));
      within = ap (λ b. b && list_all (λ q. nat_lt q n) ps) (lt-ltb p n l) ∙ h.within;
    }
  where
    no_item : (o : Option Reply) → is_none o ≡ true → option_to_list o ≡ []
    no_item None e = refl
    no_item (Some y) e = absurd (cc)

two_at_place : (n p : ℕ) (ps : List ℕ) (x : Reply) (xs : List Reply) (spots : List (Option Reply)) → Held n ps xs spots → p < n → is_none (get_or spots p None) ≡ false → 1 < length (items_of_index p (p ∷ ps) (x ∷ xs))
two_at_place n p ps x xs spots h l e = grind (arith, common_steps)

abbrev empty : ℕ → List (Option Reply)
empty n = replicate n None

abbrev Filling : ℕ → List ℕ → List Reply → Option (List (Option Reply)) → Type 0
Filling n ps xs o = ((spots : List (Option Reply)) × (o ≡ Some spots) × Held n ps xs spots) ⊎ ((o ≡ None) × IsBad n ps xs)

filling : (n : ℕ) (ps : List ℕ) (xs : List Reply) → length xs ≡ length ps → Filling n ps xs (filled (empty n) ps xs)
filling n [] xs same = inl (empty n, refl, record { long = length-replicate n None; held = λ k l. ap option_to_list (get_or-replicate n k None None l); within = refl })
filling n (p ∷ ps) [] same = absurd (omega arith)
filling n (p ∷ ps) (x ∷ xs) same = next (filling n ps xs (omega arith))
  where
    at_place : (spots : List (Option Reply)) → filled (empty n) ps xs ≡ Some spots → Held n ps xs spots → Filling n (p ∷ ps) (x ∷ xs) (filled (empty n) (p ∷ ps) (x ∷ xs))
    at_place spots e h =
        let step : filled (empty n) (p ∷ ps) (x ∷ xs) ≡ cond (nat_lt p n && is_none (get_or spots p None)) (Some (set spots p (Some x))) None =
        ap (option_and_then (λ later. put_item later p x)) e ∙ ap (λ m. cond (nat_lt p m && is_none (get_or spots p None)) (Some (set spots p (Some x))) None) h.long in
        by_test (nat_lt p n)
        (λ t. by_test (is_none (get_or spots p None))
        (λ u. inl (set spots p (Some x), step ∙ ap (λ b. cond (b && is_none (get_or spots p None)) (Some (set spots p (Some x))) None) t ∙ ap (λ b. cond b (Some (set spots p (Some x))) None) u, held_more n p ps x xs spots h (ltb-true p n t) u))
        (λ u. inr (step ∙ ap (λ b. cond (b && is_none (get_or spots p None)) (Some (set spots p (Some x))) None) t ∙ ap (λ b. cond b (Some (set spots p (Some x))) None) u, inr (p, ltb-true p n t, two_at_place n p ps x xs spots h (ltb-true p n t) u))))
        (λ f. inr (step ∙ ap (λ b. cond (b && is_none (get_or spots p None)) (Some (set spots p (Some x))) None) f, inl (ap (λ b. b && list_all (λ q. nat_lt q n) ps) f)))

    next : Filling n ps xs (filled (empty n) ps xs) → Filling n (p ∷ ps) (x ∷ xs) (filled (empty n) (p ∷ ps) (x ∷ xs))
    next (inl t) = at_place t.0 t.1 t.2
    next (inr t) = inr (ap (option_and_then (λ later. put_item later p x)) t.0, bad_more n p ps x xs t.1)

-- what is not in order
one_missing : {X : Type 0} (os : List (Option X)) (i : ℕ) → i < length os → get_or os i None ≡ None → all_some os ≡ None
one_missing [] i l e = absurd (omega arith)
one_missing (None ∷ os) i l e = refl
one_missing (Some x ∷ os) zero l e = absurd (cc)
one_missing (Some x ∷ os) (suc i) l e = ap (option_map (λ xs. x ∷ xs)) (one_missing os i (omega arith) e)

not_single : (xs : List Reply) → 1 < length xs → single xs ≡ None
not_single xs h1 = grind (arith)

bad_is_none : (ps : List ℕ) (xs : List Reply) → IsBad (length ps) ps xs → by_places ps xs ≡ None
bad_is_none ps xs (inl e) = ap (λ b. cond b (all_some (map (λ k. single (items_of_index k ps xs)) (range_with_len 0 (length ps)))) None) e
bad_is_none ps xs (inr t) =
    let f : ℕ → Option Reply = λ j. single (items_of_index j ps xs) in
    let there : get_or (map f (range_with_len 0 (length ps))) t.0 None ≡ f t.0 = get_or-map-range_with_len f 0 (length ps) t.0 t.0 None t.1 (omega arith) in
    either (list_all (λ p. nat_lt p (length ps)) ps) (all_some (map f (range_with_len 0 (length ps))))
    (one_missing (map f (range_with_len 0 (length ps))) t.0 (omega (arith, t.1, length-map-range_with_len f 0 (length ps))) (there ∙ not_single (items_of_index t.0 ps xs) t.2))
  where
    either : (b : Bool) (o : Option (List Reply)) → o ≡ None → cond b o None ≡ None
    either true o e = e
    either false o e = refl

held_is : (ps : List ℕ) (xs : List Reply) (spots : List (Option Reply)) → Held (length ps) ps xs spots → all_some spots ≡ by_places ps xs
held_is ps xs spots h =
    let f : ℕ → Option Reply = λ j. single (items_of_index j ps xs) in
    ap all_some (fill_by_all f spots (length ps) None h.long (λ k l. sym (single_item (get_or spots k None)) ∙ ap single (h.held k l)))
    ∙ ap (λ b. cond b (all_some (map f (range_with_len 0 (length ps)))) None) (sym h.within)
  where
    single_item : (o : Option Reply) → single (option_to_list o) ≡ o
    single_item None = refl
    single_item (Some y) = refl

-- once each item is in its spot, the spots are the order
pub filled_is : (ps : List ℕ) (xs : List Reply) → length xs ≡ length ps → option_and_then all_some (filled (replicate (length ps) None) ps xs) ≡ by_places ps xs
filled_is ps xs same = ends (filling (length ps) ps xs same)
  where
    ends : Filling (length ps) ps xs (filled (empty (length ps)) ps xs) → option_and_then all_some (filled (empty (length ps)) ps xs) ≡ by_places ps xs
    ends (inl t) = ap (option_and_then all_some) t.1 ∙ held_is ps xs t.0 t.2
    ends (inr t) = ap (option_and_then all_some) t.0 ∙ sym (bad_is_none ps xs t.1)
