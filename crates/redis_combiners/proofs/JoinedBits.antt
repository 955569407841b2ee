-- Rows of bits that are joined one after the other.
use Rattle.std.proofs.Common.{◌≡◌, ℕ, zero, suc, ◌+◌, ◌<◌, ◌≤◌, Bool, true, false, cond, eqb, List, [], ◌∷◌, ◌++◌, length, map, drop, get_or, Option, Some, None, is_some, refl, ap, sym, ◌∙◌, arith, append_assoc}
use Rattle.std.proofs.Math.ListN.{set}
use Rattle.std.specs.Prelude.{option_map, option_and_then}
use Rattle.std.specs.List.{range_with_len, list_all}
use Rattle.std.proofs.lemmas.Bool.{eq-eqb, eqb-true, ne_eqb}
use Rattle.std.proofs.lemmas.List.{append-nil, drop_all, drop_more, length_push, length-map, map_push, set_at, get_or-map, get_or_read}
use Rattle.std.proofs.lemmas.List.FromFn.{fill_by_all}
use Rattle.std.proofs.lemmas.Grind.{common_steps}
use Rattle.resp_core.specs.Reply.{Reply, int_of, array_of}
use Rattle.cluster_slots.specs.Lists.{all_some}
use Rattle.cluster_slots.specs.declared.aggregate_op.LogicalAggregateOp.{LogicalAggregateOp}
use Rattle.cluster_slots.specs.declared.aggregate_op.LogicalAggregateOp.TheVariants.{And, Or}
use Rattle.redis_combiners.specs.Bits.{bit_of, bits_among, all_rows}
use Rattle.redis_combiners.specs.Logical.{as_int, column, combined_bit, combined_bits, common_length, joined_bits, joined_bit, joined_items, logical_items}
use Rattle.resp_core.specs.View.{view}
use Rattle.resp_core.specs.declared.value.Value.{Value}
use Rattle.resp_core.proofs.Cases.{by_test}
use Rattle.redis_combiners.proofs.Ahead.{before, before-more}
use Rattle.redis_combiners.proofs.Lists.{FirstAndOthers, first_and_others, all_some_length}

abbrev pub bit_in : Reply → Option Bool
bit_in item = option_and_then bit_of (int_of item)

-- a value that is read, as a reply
pub reply_at : (vs : List Value) (i : ℕ) (v w : Value) → i < length vs → v ≡ get_or vs i v → get_or (map view vs) i (view w) ≡ view v
reply_at vs i v w l e = get_or-map view vs i w (view w) l ∙ ap view (sym (get_or_read vs i v l e w))

-- the bits of a row that was made of bits
bits_of_ints : (bits : List Bool) → bits_among (map as_int bits) ≡ Some bits
bits_of_ints [] = refl
bits_of_ints (true ∷ bits) = ap (option_map (λ bs. true ∷ bs)) (bits_of_ints bits)
bits_of_ints (false ∷ bits) = ap (option_map (λ bs. false ∷ bs)) (bits_of_ints bits)

int_of_bit : (x : Reply) (b : Bool) → bit_in x ≡ Some b → as_int b ≡ x
int_of_bit x b h1 = grind (arith)

row_of_bits : (xs : List Reply) (bits : List Bool) → bits_among xs ≡ Some bits → map as_int bits ≡ xs
row_of_bits [] bits e = grind (arith, common_steps)
row_of_bits (x ∷ xs) bits e =
    let f : FirstAndOthers (bit_in x) (map bit_in xs) bits = first_and_others (bit_in x) (map bit_in xs) bits e in
    ap (map as_int) f.is ∙ ap (λ y. y ∷ map as_int f.others) (int_of_bit x f.first f.there) ∙ ap (λ ys. x ∷ ys) (row_of_bits xs f.others f.others_are)

-- what the items of two rows make, one place on
next_place : (op : LogicalAggregateOp) (x y : Reply) (xs ys : List Reply) (a b : Bool) → bit_in x ≡ Some a → bit_in y ≡ Some b → joined_items op (x ∷ xs) (y ∷ ys) ≡ option_map (λ bits. joined_bit op a b ∷ bits) (joined_items op xs ys)
next_place op x y xs ys a b e f = grind (arith, common_steps)

-- a row of which the first places are joined with those of the items
pub record JoinedSoFar (op : LogicalAggregateOp) (row first items : List Reply) (i : ℕ) : Type 0 where
  pub bits : List Bool
  pub long : length bits ≡ i
  pub row_is : row ≡ map as_int bits ++ drop i first
  pub rest : before bits (joined_items op (drop i first) (drop i items)) ≡ joined_items op first items

-- the next item is as it was at first
own_item : (op : LogicalAggregateOp) (row first items : List Reply) (i : ℕ) (d : Reply) → JoinedSoFar op row first items i → i < length first → get_or row i d ≡ get_or first i d
own_item op row first items i d s l = grind (arith, common_steps)

pub joined_more : (op : LogicalAggregateOp) (row first items : List Reply) (i : ℕ) (d : Reply) (a b : Bool) → JoinedSoFar op row first items i → i < length first → length first ≡ length items
    → bit_in (get_or row i d) ≡ Some a → bit_in (get_or items i d) ≡ Some b → JoinedSoFar op (set row i (as_int (joined_bit op a b))) first items (i + 1)
joined_more op row first items i d a b s l n e f =
    let x = get_or first i d in
    let y = get_or items i d in
    let own : bit_in x ≡ Some a = ap bit_in (sym (own_item op row first items i d s l)) ∙ e in
    let step : joined_items op (drop i first) (drop i items) ≡ option_map (λ bits. joined_bit op a b ∷ bits) (joined_items op (drop (i + 1) first) (drop (i + 1) items)) =
    ap (λ xs. joined_items op xs (drop i items)) (drop_more first i d l)
    ∙ ap (joined_items op (x ∷ drop (i + 1) first)) (drop_more items i d (omega arith))
    ∙ next_place op x y (drop (i + 1) first) (drop (i + 1) items) a b own f in
    let c = joined_bit op a b in
    record {
      bits = s.bits ++ c ∷ [];
      long = length_push s.bits c ∙ ap (λ m. m + 1) s.long;
      row_is = ap (λ xs. set xs i (as_int c)) (s.row_is ∙ ap (λ xs. map as_int s.bits ++ xs) (drop_more first i d l))
          ∙ set_at (map as_int s.bits) x (drop (i + 1) first) (as_int c) i (length-map s.bits as_int ∙ s.long)
          ∙ sym (append_assoc (map as_int s.bits) (as_int c ∷ []) (drop (i + 1) first))
          ∙ ap (λ xs. xs ++ drop (i + 1) first) (sym (map_push as_int s.bits c));
      rest = sym (before-more s.bits c (joined_items op (drop (i + 1) first) (drop (i + 1) items)))
          ∙ ap (before s.bits) (sym step) ∙ s.rest;
    }

pub joined_stop : (op : LogicalAggregateOp) (row first items : List Reply) (i : ℕ) (d : Reply) → JoinedSoFar op row first items i → i < length first → bit_in (get_or row i d) ≡ None → joined_items op first items ≡ None
joined_stop op row first items i d s l e = grind (arith, common_steps)

pub joined_stop_at_other : (op : LogicalAggregateOp) (row first items : List Reply) (i : ℕ) (d : Reply) → JoinedSoFar op row first items i → i < length items → bit_in (get_or items i d) ≡ None → joined_items op first items ≡ None
joined_stop_at_other op row first items i d s l e = grind (arith, common_steps)

-- all places are joined
pub record JoinedRow (row : List Reply) (made : Option (List Bool)) : Type 0 where
  pub is : bits_among row ≡ made
  pub there : is_some made ≡ true

pub joined_all_places : (op : LogicalAggregateOp) (row first items : List Reply) (i : ℕ) → JoinedSoFar op row first items i → length first ≤ i → length first ≡ length items → JoinedRow row (joined_items op first items)
joined_all_places op row first items i s l n = grind (arith, drop_all, append-nil, before, bits_of_ints)

-- rows joined one after the other, if all are of one length
abbrev pub joined_rows : LogicalAggregateOp → List Bool → List (List Bool) → Option (List Bool)
joined_rows op row [] = Some row
joined_rows op row (other ∷ others) = cond (eqb (length other) (length row)) (joined_rows op (joined_bits op row other) others) None

-- the same of a row's items and further replies
abbrev pub joined_replies : LogicalAggregateOp → List Reply → List Reply → Option (List Bool)
joined_replies op row replies = option_and_then (λ bits. option_and_then (joined_rows op bits) (all_rows replies)) (bits_among row)

-- the bits that two rows make
both_at : (op : LogicalAggregateOp) (a b : List Bool) (k : ℕ) → length b ≡ length a → get_or (joined_bits op a b) k false ≡ joined_bit op (get_or a k false) (get_or b k false)
both_at And [] [] k n = refl
both_at Or [] [] k n = refl
both_at op [] (y ∷ b) k n = absurd (omega arith)
both_at op (x ∷ a) [] k n = absurd (omega arith)
both_at op (x ∷ a) (y ∷ b) zero n = refl
both_at op (x ∷ a) (y ∷ b) (suc k) n = both_at op a b k (omega arith)

length-joined : (op : LogicalAggregateOp) (a b : List Bool) → length b ≡ length a → length (joined_bits op a b) ≡ length a
length-joined op [] b n = refl
length-joined op (x ∷ a) [] n = absurd (omega arith)
length-joined op (x ∷ a) (y ∷ b) n = ap suc (length-joined op a b (omega arith))

pub map_same : {X Y : Type 0} (f g : X → Y) → ((x : X) → f x ≡ g x) → (xs : List X) → map f xs ≡ map g xs
map_same f g h [] = refl
map_same f g h (x ∷ xs) = ap (λ y. y ∷ map f xs) (h x) ∙ ap (λ ys. g x ∷ ys) (map_same f g h xs)

one_bit : (op : LogicalAggregateOp) (x : Bool) → combined_bit op (x ∷ []) ≡ x
one_bit op x = grind (arith)

-- two bits and the one that they make are alike to the others
two_bits : (op : LogicalAggregateOp) (x y : Bool) (bits : List Bool) → combined_bit op (joined_bit op x y ∷ bits) ≡ combined_bit op (x ∷ (y ∷ bits))
two_bits op x y bits = grind (arith, common_steps)

-- two rows and what they make are alike to the others
combined_same : (op : LogicalAggregateOp) (a b : List Bool) (bs : List (List Bool)) (width : ℕ) → length b ≡ length a → combined_bits op (joined_bits op a b ∷ bs) width ≡ combined_bits op (a ∷ (b ∷ bs)) width
combined_same op a b bs width n = map_same _ _ (λ k. ap as_int (ap (λ x. combined_bit op (x ∷ column bs k)) (both_at op a b k n) ∙ two_bits op (get_or a k false) (get_or b k false) (column bs k))) (range_with_len 0 width)

alone : (op : LogicalAggregateOp) (a : List Bool) → map as_int a ≡ combined_bits op (a ∷ []) (length a)
alone op a = fill_by_all (λ k. as_int (combined_bit op (get_or a k false ∷ []))) (map as_int a) (length a) (as_int false) (length-map a as_int)
    (λ k l. get_or-map as_int a k false (as_int false) l ∙ ap as_int (sym (one_bit op (get_or a k false))))

-- what the columns of some rows make, if these are of this length
abbrev by_columns : LogicalAggregateOp → List (List Bool) → List (List Bool) → ℕ → Option (List Reply)
by_columns op rows others width = option_map (combined_bits op rows) (cond (list_all (λ row. eqb (length row) width) others) (Some width) None)

-- what the columns make is what the rows make
columns_and_rows : (op : LogicalAggregateOp) (a : List Bool) (bs : List (List Bool)) → by_columns op (a ∷ bs) bs (length a) ≡ option_map (map as_int) (joined_rows op a bs)
columns_and_rows op a [] = ap Some (sym (alone op a))
columns_and_rows op a (b ∷ bs) = grind (arith, common_steps, by_test, eqb-true, length-joined, combined_same, columns_and_rows op (joined_bits op a b) bs)

first_and_rest : (o : Option (List Bool)) (os : List (Option (List Bool))) → all_some (o ∷ os) ≡ option_and_then (λ a. option_map (λ bs. a ∷ bs) (all_some os)) o
first_and_rest None os = refl
first_and_rest (Some a) os = refl

-- the first reply's items, joined with those of the others
pub first_is_row : (op : LogicalAggregateOp) (r : Reply) (row rs : List Reply) → array_of r ≡ Some row → logical_items op (r ∷ rs) ≡ option_map (map as_int) (joined_replies op row rs)
first_is_row op r row rs e =
    ap (λ o. option_and_then (λ rows. option_map (combined_bits op rows) (common_length rows)) (all_some (option_and_then bits_among o ∷ map (λ reply. option_and_then bits_among (array_of reply)) rs))) e
    ∙ ap (option_and_then (λ rows. option_map (combined_bits op rows) (common_length rows))) (first_and_rest (bits_among row) (map (λ reply. option_and_then bits_among (array_of reply)) rs))
    ∙ joins (bits_among row) (all_rows rs)
  where
    joins : (o : Option (List Bool)) (p : Option (List (List Bool)))
        → option_and_then (λ rows. option_map (combined_bits op rows) (common_length rows)) (option_and_then (λ a. option_map (λ bs. a ∷ bs) p) o) ≡ option_map (map as_int) (option_and_then (λ bits. option_and_then (joined_rows op bits) p) o)
    joins None p = refl
    joins (Some a) None = refl
    joins (Some a) (Some bs) = columns_and_rows op a bs

-- where all are joined, the row is what is made
pub only_row : (op : LogicalAggregateOp) (row : List Reply) → is_some (bits_among row) ≡ true → option_map (map as_int) (joined_replies op row []) ≡ Some row
only_row op row e = ap (option_map (map as_int)) (whole (bits_among row)) ∙ ints (bits_among row) refl e
  where
    whole : (o : Option (List Bool)) → option_and_then (λ bits. option_and_then (joined_rows op bits) (all_rows [])) o ≡ o
    whole None = refl
    whole (Some bits) = refl

    ints : (o : Option (List Bool)) → bits_among row ≡ o → is_some o ≡ true → option_map (map as_int) o ≡ Some row
    ints None f h = absurd (cc)
    ints (Some bits) f h = ap Some (row_of_bits row bits f)

-- the next reply and its row
next_row : (op : LogicalAggregateOp) (row : List Reply) (r : Reply) (rs : List Reply)
    → joined_replies op row (r ∷ rs) ≡ option_and_then (λ a. option_and_then (λ b. cond (eqb (length b) (length a)) (option_and_then (joined_rows op (joined_bits op a b)) (all_rows rs)) None) (option_and_then bits_among (array_of r))) (bits_among row)
next_row op row r rs = grind (arith, common_steps)

bits-length : (xs : List Reply) (a : List Bool) → bits_among xs ≡ Some a → length a ≡ length xs
bits-length xs a e = all_some_length (map bit_in xs) a e ∙ length-map xs bit_in

pub next_is_longer : (op : LogicalAggregateOp) (row : List Reply) (r : Reply) (items rs : List Reply) → array_of r ≡ Some items → (length items ≡ length row → ⊥) → joined_replies op row (r ∷ rs) ≡ None
next_is_longer op row r items rs e n = grind (arith, common_steps, next_row, ne_eqb, bits-length)

-- the next row joined to the first
pub next_joined : (op : LogicalAggregateOp) (row new : List Reply) (r : Reply) (items rs : List Reply) → array_of r ≡ Some items → length items ≡ length row → is_some (joined_items op row items) ≡ true → bits_among new ≡ joined_items op row items
    → joined_replies op row (r ∷ rs) ≡ joined_replies op new rs
next_joined op row new r items rs e n there is = grind (arith, common_steps, next_row, is_some, eq-eqb, bits-length)
