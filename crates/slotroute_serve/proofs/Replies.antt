-- Replies in a list, as they are printed.
use Rattle.std.proofs.Common.{◌≡◌, ◌≤◌, ℕ, ◌-◌, List, [], ◌∷◌, ◌++◌, arith, refl, ap, append_assoc, length, map, take, drop, get_or, codes}
use Rattle.std.specs.List.{flat_map}
use Rattle.std.proofs.lemmas.List.{take_rest, take_all}
use Rattle.resp_core.specs.Reply.{replies_of}
use Rattle.resp_core.specs.View.{view}
use Rattle.resp_core.specs.declared.value.Value.{Value}
use Rattle.slotroute_serve.specs.Printed.{printed, printed_items, printed_later}

-- an item after the first
abbrev pub later : Value → List ℕ
later item = codes ", " ++ printed (view item)

each_later : (items : List Value) → printed_later (replies_of (map view items)) ≡ flat_map later items
each_later [] = refl
each_later (x ∷ xs) = ap (λ t. codes ", " ++ printed (view x) ++ t) (each_later xs)

-- the first item, and each later one, after a text
pub items_after : (text mid new : List ℕ) (items : List Value) (first : Value) (count : ℕ) → 1 ≤ length items → first ≡ get_or items 0 first → mid ≡ text ++ printed (view first)
    → length (take (length items - 1) (drop 1 items)) ≤ count → new ≡ mid ++ flat_map later (take count (take (length items - 1) (drop 1 items))) → new ≡ text ++ printed_items (replies_of (map view items))
items_after text mid new [] first count some is m all n = absurd (omega arith)
items_after text mid new (x ∷ xs) first count some is m all n = grind (arith, take_all, take_rest, append_assoc, each_later)
