-- Arrays of bulk strings and nils, read item by item.
use Rattle.std.proofs.Common.{◌≡◌, ◌+◌, ◌-◌, ◌<◌, ◌≤◌, ◌^◌, ℕ, List, [], ◌∷◌, ◌++◌, Ok, Err, length, drop, take, get_or, decimal, append_assoc, append-nil, refl, sym, ap, ◌∙◌, arith}
use Rattle.std.proofs.lemmas.Grind.{common_steps}
use Rattle.std.specs.List.{AllByRecursion}
use Rattle.std.proofs.lemmas.List.{append_cancel_left, drop_more, length-append}
use Rattle.resp_core.specs.Reply.{Reply, nil, bulk, int, array, simple, okay, pairs, replies_of}
use Rattle.resp.specs.Forms.{line, form, forms, depth_items, HaveForm, IsBulkOrNil, IsForm, StandIn}
use Rattle.resp.specs.Requests.{byte_at, digits_at, line_at, bulk_at}
use Rattle.resp.specs.declared.stop.Stop.{Stop}
use Rattle.resp.specs.declared.stop.Stop.TheVariants.{StopsAt}
use Rattle.resp.specs.declared.reading.TheConstants.{MAX_LEVELS}
use Rattle.resp.proofs.Grammar.{written}
use Rattle.resp.proofs.Readers.{same_rest, same_value, no_read}
use Rattle.resp.proofs.RequestGrammar.{bulk_again, line_again, line_front}
use Rattle.resp.proofs.Written.{count_is}

pub forms_push : (rs : List Reply) (r : Reply) → forms (replies_of (rs ++ r ∷ [])) ≡ forms (replies_of rs) ++ form r
forms_push [] r = append-nil (form r)
forms_push (s ∷ rs) r = ap (λ (t : List ℕ). form s ++ t) (forms_push rs r) ∙ sym (append_assoc (form s) (forms (replies_of rs)) (form r))

pub array_is : (rs : List Reply) → form (array (replies_of rs)) ≡ line 42 (decimal (length rs)) ++ forms (replies_of rs)
array_is rs = ap (λ n. line 42 (decimal n) ++ forms (replies_of rs)) (count_is rs)

-- no nil is a bulk string
pub nil_stops : (rest : List ℕ) → bulk_at (form nil ++ rest) ≡ Err (StopsAt (length rest + 4))
unfolding bulk_at line_at byte_at digits_at
nil_stops rest = ap (λ n. Err (StopsAt n)) (omega arith)

-- ---- what follows an item is what follows any that stands there

pub only_after_nil : (bytes rest : List ℕ) → bytes ≡ form nil ++ rest → (r : Reply) (more : List ℕ) → IsBulkOrNil r → bytes ≡ form r ++ more → rest ≡ more
only_after_nil bytes rest is nil more item same = append_cancel_left (form nil) rest more (sym is ∙ same)
only_after_nil bytes rest is (int n) more item same = absurd item
only_after_nil bytes rest is (bulk word) more item same = absurd (no_read (StopsAt (length rest + 4)) word more (sym (nil_stops rest) ∙ ap bulk_at (sym is ∙ same) ∙ bulk_again word more item))
only_after_nil bytes rest is (array items) more item same = absurd item
only_after_nil bytes rest is (simple text) more item same = absurd item
only_after_nil bytes rest is okay more item same = absurd item
only_after_nil bytes rest is (pairs items) more item same = absurd item

pub only_after_bulk : (bytes word rest : List ℕ) → bulk_at bytes ≡ Ok (word, rest) → (r : Reply) (more : List ℕ) → IsBulkOrNil r → bytes ≡ form r ++ more → rest ≡ more
only_after_bulk bytes word rest h1 r more h2 h3 = grind (arith, no_read, nil_stops, same_rest, bulk_again)

pub no_item : (bytes : List ℕ) (stop : Stop) → bulk_at bytes ≡ Err stop → ((rest : List ℕ) → bytes ≡ form nil ++ rest → ⊥) → (r : Reply) (more : List ℕ) → IsBulkOrNil r → bytes ≡ form r ++ more → ⊥
no_item bytes stop is other nil more item same = other more same
no_item bytes stop is other (int n) more item same = item
no_item bytes stop is other (bulk word) more item same = no_read stop word more (sym is ∙ ap bulk_at same ∙ bulk_again word more item)
no_item bytes stop is other (array items) more item same = item
no_item bytes stop is other (simple text) more item same = item
no_item bytes stop is other okay more item same = item
no_item bytes stop is other (pairs items) more item same = item

-- ---- an array of such items has a form

items_have_form : (rs : List Reply) → AllByRecursion IsBulkOrNil rs → HaveForm (replies_of rs) × (depth_items (replies_of rs) ≡ 0)
items_have_form [] are = (tt, refl)
items_have_form (r ∷ rs) are = grind (arith, common_steps, items_have_form rs are.1)

pub array_has_form : (rs : List Reply) → AllByRecursion IsBulkOrNil rs → length rs < 2 ^ 63 → IsForm MAX_LEVELS (Ok (array (replies_of rs))) (form (array (replies_of rs)))
array_has_form rs are few = grind (arith, common_steps, items_have_form, written, count_is)

-- an item has bytes
some_bytes : (r : Reply) → IsBulkOrNil r → 1 ≤ length (form r)
some_bytes r h1 = grind (arith)

many_bytes : (rs : List Reply) → AllByRecursion IsBulkOrNil rs → length rs ≤ length (forms (replies_of rs))
many_bytes [] are = omega arith
many_bytes (r ∷ rs) are = omega (arith, some_bytes r are.0, many_bytes rs are.1, length-append (form r) (forms (replies_of rs)))

-- ---- an array, by its first line

-- items that follow the line stand in the array's bytes
pub stand_after : (bytes first rest : List ℕ) (count : ℕ) (rs : List Reply) → line_at 42 bytes ≡ Ok (count, first) → first ≡ forms (replies_of rs) ++ rest → StandIn bytes rs
stand_after bytes first rest count rs is front =
    (line 42 (decimal count), rest, (line_front 42 bytes first count is).0 ∙ ap (λ (ts : List ℕ). line 42 (decimal count) ++ ts) front)

array_bytes : (rs : List Reply) (bytes rest : List ℕ) → bytes ≡ form (array (replies_of rs)) ++ rest → bytes ≡ line 42 (decimal (length rs)) ++ (forms (replies_of rs) ++ rest)
array_bytes rs bytes rest same = same ∙ ap (λ t. t ++ rest) (array_is rs) ∙ append_assoc (line 42 (decimal (length rs))) (forms (replies_of rs)) rest

few_items : (rs : List Reply) (bytes rest : List ℕ) → AllByRecursion IsBulkOrNil rs → bytes ≡ form (array (replies_of rs)) ++ rest → length bytes < 2 ^ 63 → length rs < 2 ^ 63
few_items rs bytes rest are same short = grind (arith, common_steps, many_bytes, array_bytes, length-append)

module _ (rs : List Reply) (bytes rest : List ℕ) (are : AllByRecursion IsBulkOrNil rs) (same : bytes ≡ form (array (replies_of rs)) ++ rest) (short : length bytes < 2 ^ 63) where
  first_line : line_at 42 bytes ≡ Ok (length rs, forms (replies_of rs) ++ rest)
  first_line = ap (line_at 42) (array_bytes rs bytes rest same) ∙ line_again 42 (length rs) (forms (replies_of rs) ++ rest) (few_items rs bytes rest are same short)

  pub has_line : (stop : Stop) → line_at 42 bytes ≡ Err stop → ⊥
  has_line stop is = no_read stop (length rs) (forms (replies_of rs) ++ rest) (sym is ∙ first_line)

  pub only_line : (n : ℕ) (first : List ℕ) → line_at 42 bytes ≡ Ok (n, first) → (length rs ≡ n) × (first ≡ forms (replies_of rs) ++ rest)
  only_line n first is = grind (arith, common_steps, first_line, same_value, same_rest)

-- ---- item by item

pub all_push : (rs : List Reply) (r : Reply) → AllByRecursion IsBulkOrNil rs → IsBulkOrNil r → AllByRecursion IsBulkOrNil (rs ++ r ∷ [])
all_push [] r are is = (is, tt)
all_push (s ∷ rs) r are is = (are.0, all_push rs r are.1 is)

pub item_at : (rs : List Reply) (i : ℕ) → AllByRecursion IsBulkOrNil rs → i < length rs → IsBulkOrNil (get_or rs i nil)
item_at rs i h1 h2 = grind (arith, common_steps)

pub next_item : (rs : List Reply) (i : ℕ) (tail : List ℕ) → i < length rs → forms (replies_of (drop i rs)) ++ tail ≡ form (get_or rs i nil) ++ (forms (replies_of (drop (i + 1) rs)) ++ tail)
next_item rs i tail few = ap (λ xs. forms (replies_of xs) ++ tail) (drop_more rs i nil few) ∙ append_assoc (form (get_or rs i nil)) (forms (replies_of (drop (i + 1) rs))) tail

pub front_more : (rs : List Reply) (r : Reply) (first rest after : List ℕ) → first ≡ forms (replies_of rs) ++ rest → rest ≡ form r ++ after → first ≡ forms (replies_of (rs ++ r ∷ [])) ++ after
front_more rs r first rest after so_far next =
    so_far ∙ ap (λ t. forms (replies_of rs) ++ t) next ∙ sym (append_assoc (forms (replies_of rs)) (form r) after) ∙ ap (λ t. t ++ after) (sym (forms_push rs r))

-- the bytes before what follows an item are its own
pub own_bytes : (rest own after : List ℕ) → rest ≡ own ++ after → take (length rest - length after) rest ≡ own
own_bytes rest own after is = grind (arith, common_steps)

pub found_array : (rs : List Reply) (bytes first rest : List ℕ) (n : ℕ) → bytes ≡ line 42 (decimal n) ++ first → n ≡ length rs → first ≡ forms (replies_of rs) ++ rest → bytes ≡ form (array (replies_of rs)) ++ rest
found_array rs bytes first rest n is many front = grind (arith, common_steps, append_assoc, array_is)
