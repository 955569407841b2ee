-- What a value shows, variant by variant.
use Rattle.std.proofs.Common.{◌≡◌, ℕ, ℤ, List, [], ◌∷◌, map, Vec, String, Global, string_bytes, Bool, Decides, Some, unwrap_or, ◌↔◌, refl, sym, ap, ◌∙◌, rules, arith}
use Rattle.resp_core.specs.Reply.{Reply, Pairs, nil, int, bulk, array, simple, okay, pairs, no_pairs, pair, replies_of, pairs_of, items_in, array_of}
use Rattle.resp_core.specs.View.{view, view_pair}
use Rattle.resp_core.specs.declared.value.Value.{Value, Nil, Int, BulkString, Array, SimpleString, Okay, Map, the_lemmas}

pub view-Nil : view Nil ≡ nil
view-Nil = search (rules, the_lemmas)

pub view-Int : (n : ℤ) → view (Int n) ≡ int n
view-Int n = search (rules, the_lemmas)

pub view-BulkString : (bytes : Vec ℕ Global) → view (BulkString bytes) ≡ bulk bytes.items
view-BulkString bytes = search (rules, the_lemmas)

pub view-Array : (items : Vec Value Global) → view (Array items) ≡ array (replies_of (map view items.items))
view-Array items = search (rules, the_lemmas)

pub view-SimpleString : (text : String Global) → view (SimpleString text) ≡ simple (string_bytes text)
view-SimpleString text = search (rules, the_lemmas)

pub view-Okay : view Okay ≡ okay
view-Okay = search (rules, the_lemmas)

pub view-Map : (items : Vec (Value × Value) Global) → view (Map items) ≡ pairs (pairs_of (map view_pair items.items))
view-Map items = search (rules, the_lemmas)

pub items_in-replies_of : (rs : List Reply) → items_in (replies_of rs) ≡ rs
items_in-replies_of [] = refl
items_in-replies_of (r ∷ rs) = ap (λ ts. r ∷ ts) (items_in-replies_of rs)

pub array_of-Array : (items : Vec Value Global) → array_of (view (Array items)) ≡ Some (map view items.items)
array_of-Array items = ap array_of (view-Array items) ∙ ap Some (items_in-replies_of (map view items.items))

abbrev pairs_in : Pairs → List (Reply × Reply)
pairs_in no_pairs = []
pairs_in (pair k v ps) = (k, v) ∷ pairs_in ps

pub pairs_in-pairs_of : (ps : List (Reply × Reply)) → pairs_in (pairs_of ps) ≡ ps
pairs_in-pairs_of [] = refl
pairs_in-pairs_of (p ∷ ps) = ap (λ qs. p ∷ qs) (pairs_in-pairs_of ps)

-- a and b, arrays of the items vs and ws, show the same reply exactly where these do
pub Array-shows : (a b : Value) (xs ys : Vec Value Global) (vs ws : List Value) → a ≡ Array xs → b ≡ Array ys → vs ≡ xs.items → ws ≡ ys.items → (map view vs ≡ map view ws) ↔ (view a ≡ view b)
Array-shows a b xs ys vs ws is-a is-b is-vs is-ws =
    let at_a = ap view is-a ∙ view-Array xs ∙ sym (ap (λ us. array (replies_of (map view us))) is-vs) in
    let at_b = ap view is-b ∙ view-Array ys ∙ sym (ap (λ us. array (replies_of (map view us))) is-ws) in (
      λ e. at_a ∙ ap (λ rs. array (replies_of rs)) e ∙ sym at_b,
      λ e. sym (items_in-replies_of (map view vs)) ∙ ap (λ t. unwrap_or (array_of t) []) (sym at_a ∙ e ∙ at_b) ∙ items_in-replies_of (map view ws),
    )

pub Array-same : (r : Bool) (a b : Value) (xs ys : Vec Value Global) (vs ws : List Value) → a ≡ Array xs → b ≡ Array ys → vs ≡ xs.items → ws ≡ ys.items → Decides r (map view vs ≡ map view ws) → Decides r (view a ≡ view b)
Array-same r a b xs ys vs ws is-a is-b is-vs is-ws = grind (arith, Array-shows)

-- the pairs, if it is a map
abbrev pairs_at : Reply → List (Reply × Reply)
pairs_at (pairs items) = pairs_in items
pairs_at r = []

-- a and b, maps of the pairs ps and qs, show the same reply exactly where these do
pub Map-shows : (a b : Value) (xs ys : Vec (Value × Value) Global) (ps qs : List (Value × Value)) → a ≡ Map xs → b ≡ Map ys → ps ≡ xs.items → qs ≡ ys.items → (map view_pair ps ≡ map view_pair qs) ↔ (view a ≡ view b)
Map-shows a b xs ys ps qs is-a is-b is-ps is-qs =
    let at_a = ap view is-a ∙ view-Map xs ∙ sym (ap (λ us. pairs (pairs_of (map view_pair us))) is-ps) in
    let at_b = ap view is-b ∙ view-Map ys ∙ sym (ap (λ us. pairs (pairs_of (map view_pair us))) is-qs) in (
      λ e. at_a ∙ ap (λ rs. pairs (pairs_of rs)) e ∙ sym at_b,
      λ e. sym (pairs_in-pairs_of (map view_pair ps)) ∙ ap pairs_at (sym at_a ∙ e ∙ at_b) ∙ pairs_in-pairs_of (map view_pair qs),
    )

pub Map-same : (r : Bool) (a b : Value) (xs ys : Vec (Value × Value) Global) (ps qs : List (Value × Value)) → a ≡ Map xs → b ≡ Map ys → ps ≡ xs.items → qs ≡ ys.items → Decides r (map view_pair ps ≡ map view_pair qs) → Decides r (view a ≡ view b)
Map-same r a b xs ys ps qs is-a is-b is-ps is-qs = grind (arith, Map-shows)
