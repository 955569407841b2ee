-- Each item of each reply stands at the place of its key.
use Rattle.std.proofs.Common.{◌≡◌, ℕ, zero, suc, ◌+◌, ◌<◌, cond, eqb, List, [], ◌∷◌, ◌++◌, length, map, get_or, Option, Some, None, Ok, Err, refl, ap, sym, ◌∙◌, subst, arith}
use Rattle.std.specs.Prelude.{slice_get, option_and_then}
use Rattle.std.proofs.lemmas.Bool.{eqb-true}
use Rattle.std.proofs.lemmas.Option.{slice_get_within, slice_get-get_or, get_or_from_slice_get}
use Rattle.resp_core.specs.Reply.{Reply, nil, array, replies_of, array_of}
use Rattle.resp_core.specs.declared.error.ErrorKind.{ErrorKind}
use Rattle.resp_core.specs.declared.error.ErrorKind.TheVariants.{Client}
use Rattle.cluster_slots.specs.Lists.{flatten}
use Rattle.cluster_slots.specs.declared.arg_pattern.MultiSlotArgPattern.{MultiSlotArgPattern}
use Rattle.redis_combiners.specs.AllItems.{all_items}
use Rattle.redis_combiners.specs.AtPlaces.{item_at, place_at, AreAtPlaces}
use Rattle.redis_combiners.specs.ByPlaces.{by_places}
use Rattle.redis_combiners.specs.KeyPlaces.{places, all_places}
use Rattle.redis_combiners.specs.Misfits.{first_misfit}
use Rattle.redis_combiners.specs.SortedArrays.{array_or_refusal, array_by_places, sorted_arrays}
use Rattle.resp_core.proofs.Cases.{by_test}
use Rattle.resp_core.proofs.Views.{items_in-replies_of}
use Rattle.redis_combiners.proofs.Lists.{FirstAndOthers, first_and_others}
use Rattle.redis_combiners.proofs.Misfits.{Fits, fits, items_length}
use Rattle.redis_combiners.proofs.OwnPlaces.{at_own_place, own_place_within}

slice_get-append_first : {A : Type 0} (xs ys : List A) (j : ℕ) → j < length xs → slice_get (xs ++ ys) j ≡ slice_get xs j
slice_get-append_first [] ys j l = absurd (omega arith)
slice_get-append_first (x ∷ xs) ys zero l = refl
slice_get-append_first (x ∷ xs) ys (suc j) l = slice_get-append_first xs ys j (omega arith)

slice_get-append_second : {A : Type 0} (xs ys : List A) (j n : ℕ) → n ≡ length xs + j → slice_get (xs ++ ys) n ≡ slice_get ys j
slice_get-append_second [] ys j n e = ap (slice_get ys) (omega (arith, e))
slice_get-append_second (x ∷ xs) ys j zero e = absurd (omega arith)
slice_get-append_second (x ∷ xs) ys j (suc n) e = slice_get-append_second xs ys j n (omega (arith, e))

-- where an item and its place stand among all
record Stands (pss : List (List ℕ)) (xs : List Reply) (place : ℕ) (item : Option Reply) : Type 0 where
  at : ℕ
  place_is : slice_get (flatten pss) at ≡ Some place
  item_is : slice_get xs at ≡ item

first_stands : (ps : List ℕ) (rest pss : List (List ℕ)) (ys others xs : List Reply) (j place : ℕ) (item : Option Reply) → pss ≡ ps ∷ rest → xs ≡ ys ++ others → length ys ≡ length ps → slice_get ps j ≡ Some place → slice_get ys j ≡ item → Stands pss xs place item
first_stands ps rest pss ys others xs j place item p x long there here = grind (arith, slice_get_within, slice_get-append_first)

later_stands : (ps : List ℕ) (rest pss : List (List ℕ)) (ys others xs : List Reply) (place : ℕ) (item : Option Reply) → pss ≡ ps ∷ rest → xs ≡ ys ++ others → length ys ≡ length ps → Stands rest others place item → Stands pss xs place item
later_stands ps rest pss ys others xs place item p x long s =
    let at = length ps + s.at in
    record {
      at = at;
      place_is = ap (λ qss. slice_get (flatten qss) at) p ∙ slice_get-append_second ps (flatten rest) s.at at refl ∙ s.place_is;
      item_is = ap (λ zs. slice_get zs at) x ∙ slice_get-append_second ys others s.at at (omega (arith, long)) ∙ s.item_is;
    }

stands : (pattern : MultiSlotArgPattern) (rs : List Reply) (lists pss : List (List ℕ)) (xs : List Reply)
    → all_places pattern lists ≡ Some pss → first_misfit rs (map length pss) ≡ None → all_items rs ≡ Some xs
    → (i j : ℕ) (r : Reply) (list : List ℕ) (place : ℕ) → slice_get rs i ≡ Some r → slice_get lists i ≡ Some list → place_at pattern list j ≡ Some place
    → Stands pss xs place (item_at r j)
stands pattern rs [] pss xs e f g i j r list place a b h = absurd (cc)
stands pattern [] (list0 ∷ lists) pss xs e f g i j r list place a b h = absurd (cc)
stands pattern (r0 ∷ rs) (list0 ∷ lists) pss xs e f g zero j r list place a b h =
    let c : FirstAndOthers (places pattern list0) (map (places pattern) lists) pss = first_and_others (places pattern list0) (map (places pattern) lists) pss e in
    let t : Fits (array_of r0) rs (length c.first) (map length c.others) xs = fits (array_of r0) rs (length c.first) (map length c.others) xs (sym (ap (λ qss. first_misfit (r0 ∷ rs) (map length qss)) c.is) ∙ f) g in
    let same_list : list0 ≡ list = cc in
    let same_reply : r0 ≡ r = cc in
    let there : slice_get c.first j ≡ Some place = sym (ap (option_and_then (λ ps. slice_get ps j)) c.there) ∙ ap (λ l. place_at pattern l j) same_list ∙ h in
    let here : slice_get t.first j ≡ item_at r j = sym (ap (option_and_then (λ ys. slice_get ys j)) t.there) ∙ ap (λ s. item_at s j) same_reply in
    first_stands c.first c.others pss t.first t.others xs j place (item_at r j) c.is t.is t.long there here
stands pattern (r0 ∷ rs) (list0 ∷ lists) pss xs e f g (suc i) j r list place a b h =
    let c : FirstAndOthers (places pattern list0) (map (places pattern) lists) pss = first_and_others (places pattern list0) (map (places pattern) lists) pss e in
    let t : Fits (array_of r0) rs (length c.first) (map length c.others) xs = fits (array_of r0) rs (length c.first) (map length c.others) xs (sym (ap (λ qss. first_misfit (r0 ∷ rs) (map length qss)) c.is) ∙ f) g in
    later_stands c.first c.others pss t.first t.others xs place (item_at r j) c.is t.is t.long (stands pattern rs lists c.others t.others c.others_are t.others_fit t.others_are i j r list place a b h)

-- what the whole is made of
record WholeArray (o : Option (List (List ℕ))) (rs : List Reply) (whole : Reply) : Type 0 where
  pss : List (List ℕ)
  xs : List Reply
  out : List Reply
  places_are : o ≡ Some pss
  count : length rs ≡ length pss
  fit : first_misfit rs (map length pss) ≡ None
  items : all_items rs ≡ Some xs
  sorted : by_places (flatten pss) xs ≡ Some out
  is : array (replies_of out) ≡ whole

abbrev items_by_places : List (List ℕ) → List Reply → Option (List Reply)
items_by_places pss rs = option_and_then (by_places (flatten pss)) (all_items rs)

whole_array : (o : Option (List (List ℕ))) (rs : List Reply) (whole : Reply) → array_by_places o rs ≡ Ok whole → WholeArray o rs whole
whole_array None rs whole e = absurd (cc)
whole_array (Some pss) rs whole e = by_test (eqb (length rs) (length pss))
    (λ t. fitted (first_misfit rs (map length pss)) refl (eqb-true (length rs) (length pss) t) (sym (ap (λ b. cond b (array_or_refusal (first_misfit rs (map length pss)) (items_by_places pss rs)) (Err Client)) t) ∙ e))
    (λ f. absurd (refused (sym (ap (λ b. cond b (array_or_refusal (first_misfit rs (map length pss)) (items_by_places pss rs)) (Err Client)) f) ∙ e)))
  where
    refused : Err Client ≡ Ok whole → ⊥
    refused h = cc

    ended : (xs : List Reply) (a : Option (List Reply)) → all_items rs ≡ Some xs → by_places (flatten pss) xs ≡ a → length rs ≡ length pss → first_misfit rs (map length pss) ≡ None → array_or_refusal None a ≡ Ok whole → WholeArray (Some pss) rs whole
    ended xs None g h n m e = absurd (cc)
    ended xs (Some out) g h n m e = record { pss = pss; xs = xs; out = out; places_are = refl; count = n; fit = m; items = g; sorted = h; is = cc }

    gone : (a : Option (List Reply)) → all_items rs ≡ a → length rs ≡ length pss → first_misfit rs (map length pss) ≡ None → array_or_refusal None (option_and_then (by_places (flatten pss)) a) ≡ Ok whole → WholeArray (Some pss) rs whole
    gone None g n m h = absurd (cc)
    gone (Some xs) g n m h = ended xs (by_places (flatten pss) xs) g refl n m h

    fitted : (k : Option ErrorKind) → first_misfit rs (map length pss) ≡ k → length rs ≡ length pss → array_or_refusal k (items_by_places pss rs) ≡ Ok whole → WholeArray (Some pss) rs whole
    fitted (Some k) m n h = absurd (cc)
    fitted None m n h = gone (all_items rs) refl n m h

pub items_stand_at_places : (pattern : MultiSlotArgPattern) (rs : List Reply) (lists : List (List ℕ)) (whole : Reply) → sorted_arrays pattern rs lists ≡ Ok whole → AreAtPlaces pattern rs lists whole
items_stand_at_places pattern rs lists whole e i j r list place a b h =
    let m : WholeArray (all_places pattern lists) rs whole = whole_array (all_places pattern lists) rs whole e in
    let s : Stands m.pss m.xs place (item_at r j) = stands pattern rs lists m.pss m.xs m.places_are m.fit m.items i j r list place a b h in
    let long : length m.xs ≡ length (flatten m.pss) = items_length rs m.pss m.xs m.count m.fit m.items in
    let within : s.at < length (flatten m.pss) = slice_get_within (flatten m.pss) s.at place s.place_is in
    let here : get_or (flatten m.pss) s.at 0 ≡ place = get_or_from_slice_get (flatten m.pss) s.at place 0 s.place_is in
    let below : place < length m.out = subst (λ p. p < length m.out) here (own_place_within (flatten m.pss) m.xs m.out m.sorted s.at within) in
    let same : get_or m.out place nil ≡ get_or m.xs s.at nil = sym (ap (λ p. get_or m.out p nil) here) ∙ at_own_place (flatten m.pss) m.xs m.out nil long m.sorted s.at within in
    sym (ap (λ w. item_at w place) m.is)
    ∙ ap (λ ys. slice_get ys place) (items_in-replies_of m.out)
    ∙ slice_get-get_or m.out place nil below
    ∙ ap Some same
    ∙ sym (slice_get-get_or m.xs s.at nil (omega (arith, long, within)))
    ∙ s.item_is
