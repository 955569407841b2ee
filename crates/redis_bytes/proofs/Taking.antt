-- The items of arrays, taken one after another.
use Rattle.std.proofs.Common.{◌≡◌, ℕ, ◌+◌, ◌-◌, ◌<◌, List, [], ◌∷◌, ◌++◌, cond, length, map, get_or, take, drop, refl, sym, ap, ◌∙◌, append_assoc, append-nil, arith, slice_index, get_or-set_same, get_or-set_other}
use Rattle.std.proofs.lemmas.Grind.{common_steps}
use Rattle.std.proofs.Math.ListN.{set}
use Rattle.std.specs.Prelude.{nat_eq}
use Rattle.std.specs.List.{slice_range}
use Rattle.std.proofs.lemmas.Bool.{eqb-true, eqb-false}
use Rattle.std.proofs.lemmas.List.{drop_all, drop_more, get_or-map, length-map, length-append, take_all}
use Rattle.std.proofs.lemmas.Option.{get_or_from_slice_get, slice_get_within}
use Rattle.resp_core.specs.Reply.{Reply, nil, replies_of}
use Rattle.resp_core.proofs.Cases.{by_test}
use Rattle.resp.specs.Forms.{form, forms}
use Rattle.resp.proofs.ArrayItems.{forms_push}
use Rattle.redis_combiners.specs.ByPlaces.{items_of_index}
use Rattle.redis_bytes.specs.Merged.{AreTaken, IsNext}

-- one item more, of this array or of another
items_push : (n p : ℕ) (ps : List ℕ) (x : Reply) (xs : List Reply) → length xs ≡ length ps → items_of_index n (ps ++ p ∷ []) (xs ++ x ∷ []) ≡ items_of_index n ps xs ++ cond (nat_eq p n) (x ∷ []) []
items_push n p [] x [] same = by_test (nat_eq p n) (λ here. rw here refl) (λ there. rw there refl)
items_push n p [] x (y ∷ ys) same = absurd (omega (arith, same))
items_push n p (q ∷ ps) x [] same = absurd (omega (arith, same))
items_push n p (q ∷ ps) x (y ∷ ys) same = grind (arith, common_steps, items_push n p ps x ys (omega (arith, same)))

-- the first item between a start and an end
range_more : (xs : List Reply) (next end : ℕ) (d : Reply) → next < end → next < length xs → slice_range xs next end ≡ get_or xs next d ∷ slice_range xs (next + 1) end
range_more xs next end d before within = grind (arith, drop_more)

range_none : (xs : List Reply) (end : ℕ) → slice_range xs end end ≡ []
range_none xs end = let none : end - end ≡ 0 = omega arith in ap (λ n. take n (drop end xs)) none

-- What is taken of each array and what is left are its items.
pub record Left (items : List Reply) (starts nexts ends places : List ℕ) (values : List Reply) : Type 0 where
  pub each : length values ≡ length places
  pub left : (number : ℕ) → number < length ends → items_of_index number places values ++ slice_range items (slice_index nexts number) (slice_index ends number)
      ≡ slice_range items (slice_index starts number) (slice_index ends number)

module _ (items : List Reply) (texts : List (List ℕ)) (are : texts ≡ map form items) (old new ends : List ℕ) (place : ℕ) (text : List ℕ) (next : IsNext texts old new ends place text) where
  abbrev at : ℕ
  at = slice_index old place

  inside : at < length items
  inside = omega (arith, slice_get_within texts at text next.at, ap (length {A = List ℕ}) are, length-map items form)

  abbrev pub value : Reply
  value = get_or items at nil

  pub text_is : text ≡ form value
  text_is = sym (get_or_from_slice_get texts at text [] next.at) ∙ ap (λ ts. get_or ts at []) are ∙ get_or-map form items at nil [] inside

  -- one item more is taken
  pub left_more : (starts places : List ℕ) (values : List Reply) → Left items starts old ends places values → Left items starts new ends (places ++ place ∷ []) (values ++ value ∷ [])
  left_more starts places values so_far = record {
    each = omega (arith, length-append values (value ∷ []), length-append places (place ∷ []), so_far.each);
    left = λ number few.
        let end = slice_index ends number in
        let front = items_of_index number places values in
        let pushed = items_push number place places value values so_far.each in
        by_test (nat_eq place number)
        (λ here.
        let same : place ≡ number = eqb-true place number here in
        let was : slice_index old number ≡ at = ap (slice_index old) (sym same) in
        let is : slice_index new number ≡ at + 1 = ap (λ xs. slice_index xs number) next.passed ∙ ap (slice_index (set old place (at + 1))) (sym same) ∙ get_or-set_same old place (at + 1) 0 next.within in
        let less : at < end = omega (arith, next.before, ap (slice_index ends) same) in
        ap (λ zs. zs ++ slice_range items (slice_index new number) end) (pushed ∙ ap (λ b. front ++ cond b (value ∷ []) []) here)
        ∙ ap (λ n. (front ++ value ∷ []) ++ slice_range items n end) is
        ∙ append_assoc front (value ∷ []) (slice_range items (at + 1) end)
        ∙ ap (λ zs. front ++ zs) (sym (range_more items at end nil less inside))
        ∙ ap (λ n. front ++ slice_range items n end) (sym was)
        ∙ so_far.left number few)
        (λ there.
        let is : slice_index new number ≡ slice_index old number = ap (λ xs. slice_index xs number) next.passed ∙ get_or-set_other old place number (at + 1) 0 (λ e. eqb-false place number there (sym e)) in
        ap (λ zs. zs ++ slice_range items (slice_index new number) end) (pushed ∙ ap (λ b. front ++ cond b (value ∷ []) []) there ∙ append-nil front)
        ∙ ap (λ n. front ++ slice_range items n end) is
        ∙ so_far.left number few);
  }

-- nothing is left of any array
pub all_taken : (items : List Reply) (starts nexts ends places : List ℕ) (values : List Reply) → nexts ≡ ends → Left items starts nexts ends places values → AreTaken items starts ends places values
all_taken items starts nexts ends places values same so_far = grind (arith, slice_index, range_none, append-nil)

-- what a slice of a whole vector leaves there
pub whole_back : (len : ℕ) (new old : List ℕ) → length new ≡ length old → len ≡ length old → take len (new ++ drop (length new) old) ≡ new
whole_back len new old same long =
    ap (λ xs. take len (new ++ xs)) (drop_all (length new) old (omega (arith, same))) ∙ ap (take len) (append-nil new) ∙ take_all len new (omega (arith, same, long))

-- the bytes with one item more
pub bytes_more : (values : List Reply) (value : Reply) (head out more text : List ℕ) → out ≡ head ++ forms (replies_of values) → more ≡ out ++ text → text ≡ form value → more ≡ head ++ forms (replies_of (values ++ value ∷ []))
bytes_more values value head out more text so_far grown is =
    grown ∙ ap (λ t. t ++ text) so_far ∙ append_assoc head (forms (replies_of values)) text ∙ ap (λ t. head ++ (forms (replies_of values) ++ t)) is ∙ ap (λ t. head ++ t) (sym (forms_push values value))
