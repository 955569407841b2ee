-- Items one after another, and where each of them ends.
use Rattle.std.proofs.Common.{◌≡◌, ◌≤◌, ◌<◌, ◌-◌, ◌+◌, ◌∙◌, ℕ, zero, suc, List, [], ◌∷◌, ◌++◌, Some, take, drop, length, ◌&&◌, nat_eq, Decides, get_or, slice_get, refl, sym, ap, arith, append-nil, length-append}
use Rattle.std.proofs.Math.Seq.{drop-append-add}
use Rattle.std.proofs.lemmas.Bool.Decides.{Decides-and, Decides-like}
use Rattle.std.proofs.lemmas.List.Folds.{concat-append}
use Rattle.std.specs.Cmp.Lexicographic.{pointwise, bytes_decides}
use Rattle.std.proofs.lemmas.Option.{slice_get-get_or}
use Rattle.std.specs.List.{concat}
use Rattle.std.proofs.lemmas.Grind.{common_steps}
use Rattle.resp_core.specs.ItemEnds.{items_by_ends, item_ends, AreItemsAt}

pub length-items_at : (start : ℕ) (ends bytes : List ℕ) → length (items_by_ends start ends bytes) ≡ length ends
length-items_at start [] bytes = refl
length-items_at start (end ∷ ends) bytes = ap suc (length-items_at end ends (drop (end - start) bytes))

-- items that are laid out and read again are the same
items_at-ends_of : (start : ℕ) (items : List (List ℕ)) → items_by_ends start (item_ends start items) (concat items) ≡ items
items_at-ends_of start [] = refl
items_at-ends_of start (x ∷ xs) = grind (arith, common_steps, items_at-ends_of (start + length x) xs)

AreItemsAt-ends_of : (start : ℕ) (items : List (List ℕ)) → AreItemsAt start (item_ends start items) (concat items)
AreItemsAt-ends_of start items = grind (arith, items_at-ends_of)

ends_of-push : (start : ℕ) (items : List (List ℕ)) (item : List ℕ)
    → item_ends start (items ++ item ∷ []) ≡ item_ends start items ++ (start + length (concat (items ++ item ∷ []))) ∷ []
ends_of-push start [] item = grind (arith, length-append)
ends_of-push start (x ∷ xs) item = grind (arith, length-append, ends_of-push (start + length x) xs item)

-- the ends and the bytes of a command's items with one more behind them
pushed : (ends bytes item : List ℕ) → AreItemsAt 0 ends bytes
    → (item_ends 0 (items_by_ends 0 ends bytes ++ item ∷ []) ≡ ends ++ length (bytes ++ item) ∷ [])
    × (concat (items_by_ends 0 ends bytes ++ item ∷ []) ≡ bytes ++ item)
pushed ends bytes item h = grind (arith, concat-append, append-nil, ends_of-push)

pub items_at-push : (ends bytes item longer more : List ℕ) → AreItemsAt 0 ends bytes
    → more ≡ bytes ++ item → longer ≡ ends ++ length more ∷ []
    → items_by_ends 0 longer more ≡ items_by_ends 0 ends bytes ++ item ∷ []
items_at-push ends bytes item longer more h grown last =
    let parts = pushed ends bytes item h in
    rw (last, grown) (rw (parts.0, parts.1) at (items_at-ends_of 0 (items_by_ends 0 ends bytes ++ item ∷ [])))

pub AreItemsAt-push : (ends bytes item longer more : List ℕ) → AreItemsAt 0 ends bytes
    → more ≡ bytes ++ item → longer ≡ ends ++ length more ∷ []
    → AreItemsAt 0 longer more
AreItemsAt-push ends bytes item longer more h grown last =
    let parts = pushed ends bytes item h in
    rw (last, grown) (rw (parts.0, parts.1) at (AreItemsAt-ends_of 0 (items_by_ends 0 ends bytes ++ item ∷ [])))

-- an item lies between the end of the one before it and its own
lies : (start : ℕ) (items : List (List ℕ)) (i : ℕ) → i < length items
    → (start ≤ get_or (start ∷ item_ends start items) i 0)
    × (get_or (start ∷ item_ends start items) i 0 ≤ get_or (item_ends start items) i 0)
    × (get_or (item_ends start items) i 0 ≤ start + length (concat items))
lies start [] i lt = absurd (omega (arith, lt))
lies start (x ∷ xs) zero lt = (omega arith, omega arith, omega (arith, length-append x (concat xs)))
lies start (x ∷ xs) (suc i) lt = grind (arith, common_steps, lies (start + length x) xs i (omega (arith, lt)))

item-between : (start : ℕ) (items : List (List ℕ)) (i : ℕ) → i < length items
    → take (get_or (item_ends start items) i 0 - get_or (start ∷ item_ends start items) i 0) (drop (get_or (start ∷ item_ends start items) i 0 - start) (concat items)) ≡ get_or items i []
item-between start [] i lt = absurd (omega (arith, lt))
item-between start (x ∷ xs) zero lt = grind (arith, common_steps)
item-between start (x ∷ xs) (suc i) lt =
    let fits : i < length xs = omega (arith, lt) in
    let next = start + length x in
    let from = get_or (next ∷ item_ends next xs) i 0 in
    let split : from - start ≡ length x + (from - next) = omega (arith, (lies next xs i fits).0) in
    rw (split, drop-append-add x (concat xs) (from - next)) (item-between next xs i fits)

pub bounds-at : (ends bytes : List ℕ) (i : ℕ) → AreItemsAt 0 ends bytes → i < length ends
    → (get_or (0 ∷ ends) i 0 ≤ get_or ends i 0) × (get_or ends i 0 ≤ length bytes)
bounds-at ends bytes i h lt =
    let count = length-items_at 0 ends bytes in
    let found = rw (h.same_ends, h.same_bytes) at (lies 0 (items_by_ends 0 ends bytes) i (omega (arith, lt, count))) in
    (found.1, omega (arith, found.2))

pub slice_get-items_at : (ends bytes : List ℕ) (i : ℕ) → AreItemsAt 0 ends bytes → i < length ends
    → slice_get (items_by_ends 0 ends bytes) i ≡ Some (take (get_or ends i 0 - get_or (0 ∷ ends) i 0) (drop (get_or (0 ∷ ends) i 0) bytes))
slice_get-items_at ends bytes i h lt =
    let count = length-items_at 0 ends bytes in
    let fits : i < length (items_by_ends 0 ends bytes) = omega (arith, lt, count) in
    let from_zero : get_or (0 ∷ ends) i 0 - 0 ≡ get_or (0 ∷ ends) i 0 = omega arith in
    let found = rw (h.same_ends, h.same_bytes, from_zero) at (item-between 0 (items_by_ends 0 ends bytes) i fits) in
    slice_get-get_or (items_by_ends 0 ends bytes) i [] fits ∙ ap Some (sym found)

-- the first item's end follows from the start, and the other items are those of the bytes behind it
pub AreItemsAt-next : (start end : ℕ) (ends bytes : List ℕ) → AreItemsAt start (end ∷ ends) bytes
    → (start ≤ end) × (end - start ≤ length bytes) × AreItemsAt end ends (drop (end - start) bytes)
AreItemsAt-next start end ends bytes h = grind (arith, common_steps)

-- two commands have the same items where they have the same ends and bytes
pub items_at-Decides : (ends bytes other_ends other_bytes : List ℕ) → AreItemsAt 0 ends bytes → AreItemsAt 0 other_ends other_bytes
    → Decides (pointwise nat_eq ends other_ends && pointwise nat_eq bytes other_bytes) (items_by_ends 0 ends bytes ≡ items_by_ends 0 other_ends other_bytes)
items_at-Decides ends bytes other_ends other_bytes h k =
    Decides-like _
    (λ same i. items_by_ends 0 (same.0 i) (same.1 i))
    (λ same. (sym h.same_ends ∙ ap (item_ends 0) same ∙ k.same_ends, sym h.same_bytes ∙ ap concat same ∙ k.same_bytes))
    (Decides-and _ _ (bytes_decides ends other_ends) (bytes_decides bytes other_bytes))
