-- The arguments of commands and of replies, by their places.
use Rattle.std.proofs.Common.{◌≡◌, ℕ, zero, suc, ◌<◌, ◌≤◌, ◌+◌, List, [], ◌∷◌, Some, None, true, false, option_map, map, length, get_or, refl, ap, ◌∙◌, sym, arith}
use Rattle.std.specs.Prelude.{slice_get, position}
use Rattle.std.proofs.lemmas.Bool.{lt-ltb, le-ltb}
use Rattle.std.proofs.lemmas.List.{get_or-map, length-map}
use Rattle.std.proofs.lemmas.List.Sums.{position_or_len_is}
use Rattle.std.proofs.lemmas.Grind.{common_steps}
use Rattle.resp_core.specs.Reply.{Reply, bulk_string_of, array_of}
use Rattle.resp_core.specs.View.{view}
use Rattle.resp_core.specs.declared.value.Value.{Value}
use Rattle.redis_routing.specs.Command.{Arguments, argument, is_word, arguments_in}

-- of a command without gaps
pub argument-map-Some : (items : List (List ℕ)) (i : ℕ) → slice_get items i ≡ argument (map Some items) i
argument-map-Some [] i = refl
argument-map-Some (x ∷ items) zero = refl
argument-map-Some (x ∷ items) (suc i) = argument-map-Some items i

-- of the items of an array
argument-map : (items : List Reply) (i : ℕ) (d : Reply) → i < length items → argument (map bulk_string_of items) i ≡ bulk_string_of (get_or items i d)
argument-map items i d h1 = grind (arith, common_steps)

-- the arguments that a value is
abbrev pub arguments_of_value : Value → Arguments
arguments_of_value value = arguments_in (option_map (λ items. map bulk_string_of items) (array_of (view value)))

pub arguments_of_items : (value : Value) (items : List Value) → Some (map view items) ≡ array_of (view value) → arguments_of_value value ≡ map bulk_string_of (map view items)
arguments_of_items value items is = sym (ap (λ o. arguments_in (option_map (λ xs. map bulk_string_of xs) o)) is)

-- an item of an array is the argument at its place
pub bulk_at : (items : List Value) (i : ℕ) (item : Value) → i < length items → item ≡ get_or items i item → bulk_string_of (view item) ≡ argument (map bulk_string_of (map view items)) i
bulk_at items i item h e =
    ap (λ x. bulk_string_of (view x)) e ∙ sym (ap bulk_string_of (get_or-map view items i item (view item) h)) ∙ sym (argument-map (map view items) i (view item) (rw length-map h))

pub item_argument : (value : Value) (items : List Value) (i : ℕ) (item : Value) → Some (map view items) ≡ array_of (view value) → i < length items → item ≡ get_or items i item → bulk_string_of (view item) ≡ argument (arguments_of_value value) i
item_argument value items i item is h e = bulk_at items i item h e ∙ ap (λ args. argument args i) (sym (arguments_of_items value items is))

-- one argument more is not the word
pub none_more : (word : List ℕ) (args : Arguments) (i : ℕ) → ((k : ℕ) → k < i → is_word word (argument args k) ≡ false) → is_word word (argument args i) ≡ false → (k : ℕ) → k < i + 1 → is_word word (argument args k) ≡ false
none_more word args i before here k h = grind (arith, common_steps)

-- the word stands at a place, and not before
pub found_at : (word : List ℕ) (args : Arguments) (i : ℕ) → i < length args → ((k : ℕ) → k < i → is_word word (argument args k) ≡ false) → is_word word (argument args i) ≡ true → Some i ≡ position (is_word word) args
found_at word args i inside before here = grind (arith, position_or_len_is, lt-ltb)

-- the word stands nowhere
pub found_nowhere : (word : List ℕ) (args : Arguments) (n : ℕ) → length args ≤ n → ((k : ℕ) → k < n → is_word word (argument args k) ≡ false) → None ≡ position (is_word word) args
found_nowhere word args n all before =
    let place = position_or_len_is (is_word word) args (length args) None (omega arith) (λ k h. before k (omega arith)) (λ h. absurd (omega arith)) in
    sym (rw (place, le-ltb (length args) (length args) (omega arith)) refl)
