-- The steps that are left in freeing a reply, at lists that end with an item more.
use Rattle.std.proofs.Common.{◌≡◌, ◌+◌, ◌<◌, List, [], ◌∷◌, ◌++◌, length, map, Vec, Global, refl, sym, ap, subst, ◌∙◌, arith}
use Rattle.std.proofs.lemmas.List.{map-append, length-map}
use Rattle.resp_core.specs.Reply.{Reply, array, pairs, replies_of, pairs_of}
use Rattle.resp_core.specs.View.{view, view_pair}
use Rattle.resp_core.specs.Freeing.{steps_in, steps_in_items, steps_in_pairs, steps_in_value, steps_above}
use Rattle.resp_core.specs.declared.value.Value.{Value, roll-Value, Nil, Array, Map}
use Rattle.resp_core.specs.declared.value.Value.TheOpen.{Value-F}
use Rattle.resp_core.specs.declared.value.Value.TheFolds.{ind-Value}
use Rattle.resp_core.specs.declared.value.Value.TheVariants.{rolls-Int, rolls-BulkString, rolls-Array, rolls-SimpleString, rolls-Okay, rolls-Map}
use Rattle.resp_core.proofs.Views.{view-Int, view-BulkString, view-Array, view-SimpleString, view-Okay, view-Map}

pub steps_in_items-more : (rs : List Reply) (r : Reply) → steps_in_items (replies_of (rs ++ r ∷ [])) ≡ steps_in_items (replies_of rs) + steps_in r
steps_in_items-more [] r = omega arith
steps_in_items-more (s ∷ rs) r = let e = steps_in_items-more rs r in omega arith

item-next : (rs : List Reply) (r : Reply) → 0 < length rs → steps_in r + steps_above (array (replies_of rs)) ≡ steps_above (array (replies_of (rs ++ r ∷ [])))
item-next [] r h = absurd (omega arith)
item-next (s ∷ rs) r h = let e = steps_in_items-more rs r in omega arith

pub steps_in_pairs-more : (ps : List (Reply × Reply)) (p : Reply × Reply) → steps_in_pairs (pairs_of (ps ++ p ∷ [])) ≡ steps_in_pairs (pairs_of ps) + (steps_in p.0 + steps_in_value p.1)
steps_in_pairs-more [] p = omega arith
steps_in_pairs-more (q ∷ ps) p = let e = steps_in_pairs-more ps p in omega arith

steps_above-more : (ps : List (Reply × Reply)) (p : Reply × Reply) → 0 < length ps → steps_above (pairs (pairs_of (ps ++ p ∷ []))) ≡ steps_above (pairs (pairs_of ps)) + (steps_in p.0 + steps_in_value p.1)
steps_above-more [] p h = absurd (omega arith)
steps_above-more (q ∷ ps) p h = let e = steps_in_pairs-more ps p in omega arith

abbrev IsCounted : Value → Type 0
IsCounted v = (v ≡ Nil → ⊥) → steps_in_value (view v) ≡ steps_in (view v)

counted : (v : Value) (r : Reply) → view v ≡ r → steps_in_value r ≡ steps_in r → IsCounted v
counted v r e same h = ap steps_in_value e ∙ same ∙ sym (ap steps_in e)

counted_layer : (x : Value-F Value) → IsCounted (roll-Value x)
unfolding roll-Value denote.Hole.Carrier.roll
counted_layer Value-F.Nil = λ h. absurd (h refl)
counted_layer (Value-F.Int n) = subst IsCounted (rolls-Int n) (counted _ _ (view-Int n) refl)
counted_layer (Value-F.BulkString bytes) = subst IsCounted (rolls-BulkString bytes) (counted _ _ (view-BulkString bytes) refl)
counted_layer (Value-F.Array items) = subst IsCounted (rolls-Array items) (counted _ _ (view-Array items) refl)
counted_layer (Value-F.SimpleString text) = subst IsCounted (rolls-SimpleString text) (counted _ _ (view-SimpleString text) refl)
counted_layer Value-F.Okay = subst IsCounted rolls-Okay (counted _ _ view-Okay refl)
counted_layer (Value-F.Map items) = subst IsCounted (rolls-Map items) (counted _ _ (view-Map items) refl)

-- a value that is not nil takes the same steps in a pair
pub steps_in_value-not_nil : (v : Value) → IsCounted v
steps_in_value-not_nil = ind-Value IsCounted (λ x y is. counted_layer x)

-- the next of the items above
pub next-item : (xs ys : Vec Value Global) (y : Value) → 0 < length xs.items → ys.items ≡ xs.items ++ y ∷ [] → steps_in (view y) + steps_above (view (Array xs)) ≡ steps_above (array (replies_of (map view ys.items)))
next-item xs ys y h e = grind (arith, length-map, view-Array, item-next, map-append)

-- what is above, with a pair more
pub steps_above-pairs : (ps : List (Value × Value)) (p : Value × Value) → 0 < length ps → steps_above (pairs (pairs_of (map view_pair (ps ++ p ∷ [])))) ≡ steps_above (pairs (pairs_of (map view_pair ps))) + (steps_in (view p.0) + steps_in_value (view p.1))
steps_above-pairs ps p h = grind (arith, length-map, map-append, steps_above-more)

pub steps_above-Map : (xs : Vec (Value × Value) Global) (ps : List (Value × Value)) → xs.items ≡ ps → steps_above (view (Map xs)) ≡ steps_above (pairs (pairs_of (map view_pair ps)))
steps_above-Map xs ps e = ap steps_above (view-Map xs) ∙ ap (λ qs. steps_above (pairs (pairs_of (map view_pair qs)))) e
