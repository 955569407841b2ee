-- What is written of values.
use Rattle.std.proofs.Common.{◌≡◌, ◌++◌, ◌+◌, ◌<◌, ◌≤◌, ◌^◌, ℕ, zero, suc, List, [], ◌∷◌, Vec, Global, Some, None, slice_get, get_or, take, length, map, decimal, refl, sym, ap, subst, ◌∙◌, arith}
use Rattle.std.specs.List.{flat_map, AllByRecursion}
use Rattle.std.proofs.lemmas.List.{length-map, take_more}
use Rattle.std.proofs.lemmas.Option.{get_or_from_slice_get, slice_get-get_or}
use Rattle.std.proofs.lemmas.Grind.{common_steps}
use Rattle.resp_core.specs.Reply.{Reply, replies_of}
use Rattle.resp_core.specs.View.{view}
use Rattle.resp_core.specs.declared.value.Value.{Value, Array}
use Rattle.resp_core.proofs.Views.{view-Array}
use Rattle.resp.specs.Forms.{line, form, forms, bulk_form, count, depth, depth_items, HasForm, HaveForm}

pub count_is : (rs : List Reply) → count (replies_of rs) ≡ length rs
count_is [] = refl
count_is (r ∷ rs) = omega (arith, count_is rs)

pub items_form : (vs : List Value) → flat_map (λ v. form (view v)) vs ≡ forms (replies_of (map view vs))
items_form [] = refl
items_form (v ∷ vs) = ap (λ (t : List ℕ). form (view v) ++ t) (items_form vs)

pub array_form : (v : Value) (items : Vec Value Global) → v ≡ Array items → form (view v) ≡ line 42 (decimal (length items.items)) ++ forms (replies_of (map view items.items))
array_form v items is = grind (arith, view-Array, count_is, length-map)

-- the word at a place
pub word_at : (words : List (List ℕ)) (i : ℕ) (word : List ℕ) → i < length words → Some word ≡ slice_get words i → word ≡ get_or words i []
word_at words i word lt e = sym (get_or_from_slice_get words i word [] (sym e))

pub none_at : (words : List (List ℕ)) (i : ℕ) → i < length words → None ≡ slice_get words i → ⊥
none_at words i lt e = let there = slice_get-get_or words i [] lt in absurd cc

-- the bytes of one word more
pub words_more : (before head : List ℕ) (words : List (List ℕ)) (i : ℕ) (word : List ℕ) → i < length words → word ≡ get_or words i []
    → (before ++ (head ++ flat_map bulk_form (take i words))) ++ bulk_form word ≡ before ++ (head ++ flat_map bulk_form (take (i + 1) words))
words_more before head words i word lt is = grind (arith, common_steps)

pub short_more : (words : List (List ℕ)) (i : ℕ) (word : List ℕ) → i < length words → word ≡ get_or words i [] → length word < 2 ^ 63
    → AllByRecursion (λ w. length w < 2 ^ 63) (take i words) → AllByRecursion (λ w. length w < 2 ^ 63) (take (i + 1) words)
short_more words i word lt is short so_far = grind (arith, common_steps)

-- what holds of all values holds of the one at a place
pub item_has_form : (vs : List Value) (i : ℕ) (v : Value) → i < length vs → v ≡ get_or vs i v → HaveForm (replies_of (map view vs)) → HasForm (view v)
item_has_form [] i v lt is none = absurd (omega (arith, lt))
item_has_form (w ∷ vs) zero v lt is none = subst (λ (x : Value). HasForm (view x)) (sym is) none.0
item_has_form (w ∷ vs) (suc i) v lt is none = item_has_form vs i v (omega (arith, lt)) is none.1

pub item_is_low : (vs : List Value) (i : ℕ) (v : Value) → i < length vs → v ≡ get_or vs i v → depth (view v) ≤ depth_items (replies_of (map view vs))
item_is_low [] i v lt is = absurd (omega (arith, lt))
item_is_low (w ∷ vs) zero v lt is = let e : depth (view v) ≡ depth (view w) = ap (λ (x : Value). depth (view x)) is in omega (arith, e)
item_is_low (w ∷ vs) (suc i) v lt is = let later = item_is_low vs i v (omega (arith, lt)) is in omega (arith, later)

have_push : (vs : List Value) (v : Value) → HaveForm (replies_of (map view vs)) → HasForm (view v) → HaveForm (replies_of (map view (vs ++ v ∷ [])))
have_push [] v have has = (has, tt)
have_push (w ∷ vs) v have has = (have.0, have_push vs v have.1 has)

low_push : (vs : List Value) (v : Value) (levels : ℕ) → depth_items (replies_of (map view vs)) ≤ levels → depth (view v) ≤ levels → depth_items (replies_of (map view (vs ++ v ∷ []))) ≤ levels
low_push [] v levels low here = omega (arith, here)
low_push (w ∷ vs) v levels low here =
    let later : depth_items (replies_of (map view vs)) ≤ levels = omega (arith, low) in
    let more = low_push vs v levels later here in
    omega (arith, low, more)

-- the first so many of these have forms, and arrays stand in them at most so deep
abbrev pub AreWritten : List Value → ℕ → ℕ → Type 0
AreWritten vs i levels = HaveForm (replies_of (map view (take i vs))) × (depth_items (replies_of (map view (take i vs))) ≤ levels)

pub written_more : (vs : List Value) (i levels : ℕ) (v : Value) → i < length vs → v ≡ get_or vs i v → HasForm (view v) → depth (view v) ≤ levels → AreWritten vs i levels → AreWritten vs (i + 1) levels
written_more vs i levels v lt is has low so_far =
    let more : take (i + 1) vs ≡ take i vs ++ v ∷ [] = take_more vs i v lt ∙ ap (λ (w : Value). take i vs ++ w ∷ []) (sym is) in
    rw more (have_push (take i vs) v so_far.0 has, low_push (take i vs) v levels so_far.1 low)

pub array_has_form : (v : Value) (items : Vec Value Global) → v ≡ Array items → length items.items < 2 ^ 63 → HaveForm (replies_of (map view items.items)) → HasForm (view v)
array_has_form v items is few have = grind (arith, count_is, length-map, view-Array)

pub values_more : (before : List ℕ) (vs : List Value) (i : ℕ) (v : Value) → i < length vs → v ≡ get_or vs i v
    → (before ++ flat_map (λ w. form (view w)) (take i vs)) ++ form (view v) ≡ before ++ flat_map (λ w. form (view w)) (take (i + 1) vs)
values_more before vs i v lt is = grind (arith, common_steps)
