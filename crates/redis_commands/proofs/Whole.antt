-- The measures of the parts of a keyspace make one of the whole.
use Rattle.std.proofs.Common.{◌≡◌, ℕ, Bool, true, false, not, cond, nat_le, inl, inr, List, [], ◌∷◌, filter, map, Option, Some, None, refl, sym, ap, subst, ◌∙◌, arith}
use Rattle.std.proofs.lemmas.Grind.{common_steps}
use Rattle.std.specs.Prelude.{◌≢◌}
use Rattle.std.specs.List.{list_any}
use Rattle.std.proofs.lemmas.Option.{none-some, same_Some}
use Rattle.resp_core.proofs.Cases.{by_test}
use Rattle.cluster_slots.specs.Address.{Address, same_address}
use Rattle.cluster_slots.specs.KeySlot.{key_slot}
use Rattle.cluster_slots.proofs.Orders.{same_from_address}
use Rattle.cluster_map.specs.EachOnce.{each_once, primaries_in}
use Rattle.cluster_map.specs.RangeMap.{RangeEntry, end_of, value_of}
use Rattle.cluster_map.specs.SlotNodes.{SlotNodes}
use Rattle.cluster_map.proofs.Groups.{same_refl, same_sym}
use Rattle.redis_cluster.specs.Unsplit.{Keyspace}
use Rattle.redis_commands.proofs.Primaries.{primary_is}
use Rattle.redis_commands.specs.Keyspaces.{primary_from, primary_of_slot, is_it, serves_slot, part_in, ShareNoSlot, IsAdditive, AreMeasures, IsServed, joined_measures}
use Rattle.std.proofs.lemmas.Bool.{or_parts}

-- no address stands there twice
abbrev Distinct : List Address → Type 0
Distinct [] = Unit {0}
Distinct (x ∷ xs) = (list_any (same_address x) xs ≡ false) × Distinct xs

any_filter : (p q : Address → Bool) (xs : List Address) → list_any q xs ≡ false → list_any q (filter p xs) ≡ false
any_filter p q [] h = refl
any_filter p q (x ∷ xs) h =
    let both = or_parts (q x) (list_any q xs) h in
    by_test (p x) (λ t. rw (t, both.0) (any_filter p q xs both.1)) (λ t. rw t (any_filter p q xs both.1))

distinct_filter : (p : Address → Bool) (xs : List Address) → Distinct xs → Distinct (filter p xs)
distinct_filter p [] d = tt
distinct_filter p (x ∷ xs) d = by_test (p x)
    (λ t. rw t (any_filter p (same_address x) xs d.0, distinct_filter p xs d.1))
    (λ t. rw t (distinct_filter p xs d.1))

none_left : (x : Address) (xs : List Address) → list_any (same_address x) (filter (λ y. not (same_address y x)) xs) ≡ false
none_left x [] = refl
none_left x (y ∷ ys) = grind (arith, common_steps, by_test, same_sym, none_left x ys)

once_distinct : (xs : List Address) → Distinct (each_once xs)
once_distinct [] = tt
once_distinct (x ∷ xs) = (none_left x (each_once xs), distinct_filter (λ y. not (same_address y x)) (each_once xs) (once_distinct xs))

-- what is taken out is not what is looked for
any_kept : (p x : Address) (ys : List Address) → same_address p x ≡ false → list_any (same_address p) (filter (λ y. not (same_address y x)) ys) ≡ list_any (same_address p) ys
any_kept p x [] h = refl
any_kept p x (y ∷ ys) h = by_test (same_address p y)
    (λ t. let other : same_address y x ≡ false = ap (λ z. same_address z x) (sym (same_from_address p y t)) ∙ h in rw (other, t) refl)
    (λ f. by_test (same_address y x) (λ t. rw (t, f) (any_kept p x ys h)) (λ t. rw (t, f) (any_kept p x ys h)))

once_has : (p : Address) (xs : List Address) → list_any (same_address p) (each_once xs) ≡ list_any (same_address p) xs
once_has p [] = refl
once_has p (x ∷ xs) = by_test (same_address p x)
    (λ t. rw t refl)
    (λ f. rw f (any_kept p x (each_once xs) f ∙ once_has p xs))

abbrev primary : RangeEntry SlotNodes → Address
primary e = (value_of e).primary

-- the primary of a slot is one of the map's
is_there : (slot : ℕ) (entries : List (RangeEntry SlotNodes)) (p : Address) → primary_of_slot entries slot ≡ Some p → list_any (same_address p) (map primary entries) ≡ true
is_there slot [] p h = absurd (none-some p h)
is_there slot (e ∷ es) p h = by_test (nat_le slot (end_of e))
    (λ t. let here : primary_of_slot (e ∷ es) slot ≡ primary_from slot e = rw t refl in
    by_test (nat_le e.0 slot)
    (λ s. let it : primary_from slot e ≡ Some (primary e) = rw s refl in
    let same : primary e ≡ p = same_Some (primary e) p (sym it ∙ sym here ∙ h) in
    let is : same_address p (primary e) ≡ true = ap (same_address p) same ∙ same_refl p in
    rw is refl)
    (λ s. let no : primary_from slot e ≡ None = rw s refl in absurd (none-some p (sym no ∙ sym here ∙ h))))
    (λ t. let further : primary_of_slot (e ∷ es) slot ≡ primary_of_slot es slot = rw t refl in
    let more : list_any (same_address p) (map primary es) ≡ true = is_there slot es p (sym further ∙ h) in
    by_test (same_address p (primary e)) (λ s. rw s refl) (λ s. rw s more))

-- one node at most has a slot
not_both : (n : Address) (ns : List Address) (o : Option Address) → list_any (same_address n) ns ≡ false → is_it n o ≡ true → list_any (λ m. is_it m o) ns ≡ true → ⊥
not_both n ns None new it others = let u : false ≡ true = it in cc
not_both n ns (Some a) new it others =
    let u : true ≡ false = sym others ∙ ap (λ z. list_any (same_address z) ns) (same_from_address a n it) ∙ new in cc

abbrev among : List (RangeEntry SlotNodes) → List Address → ℕ → Bool
among entries nodes slot = list_any (λ node. serves_slot entries node slot) nodes

there_if : {C : Type 0} (b : Bool) (cell : Option C) → cond b cell None ≢ None → b ≡ true
there_if true cell some = refl
there_if false cell some = absurd (some refl)

parts_apart : {C : Type 0} (entries : List (RangeEntry SlotNodes)) (keyspace : Keyspace C) (n : Address) (ns : List Address) → list_any (same_address n) ns ≡ false →
    ShareNoSlot (part_in (serves_slot entries n) keyspace) (part_in (among entries ns) keyspace) (part_in (among entries (n ∷ ns)) keyspace)
parts_apart entries keyspace n ns new = record {
  slots = λ key next one other same.
      let here : serves_slot entries n (key_slot key) ≡ true = there_if (serves_slot entries n (key_slot key)) (keyspace key) one in
      let there : among entries ns (key_slot next) ≡ true = there_if (among entries ns (key_slot next)) (keyspace next) other in
      not_both n ns (primary_of_slot entries (key_slot key)) new here (ap (among entries ns) same ∙ there);
  each = λ key. by_test (serves_slot entries n (key_slot key))
      (λ t. by_test (among entries ns (key_slot key))
      (λ s. absurd (not_both n ns (primary_of_slot entries (key_slot key)) new t s))
      (λ s. inl (rw s refl, rw t refl)))
      (λ t. inr (rw t refl, rw t refl));
}

-- nodes that each measure their part measure the part of all of them
measured : {C X : Type 0} (Measures : Keyspace C → X → Type 0) (none : X) (join : X → X → X) → IsAdditive Measures none join →
    (entries : List (RangeEntry SlotNodes)) (keyspace : Keyspace C) (nodes : List Address) (xs : List X) → Distinct nodes → AreMeasures Measures entries keyspace nodes xs →
    Measures (part_in (among entries nodes) keyspace) (joined_measures none join xs)
measured Measures none join additive entries keyspace [] [] d each = additive.empty (part_in (among entries []) keyspace) (λ key. refl)
measured Measures none join additive entries keyspace [] (x ∷ xs) d each = absurd each
measured Measures none join additive entries keyspace (n ∷ ns) [] d each = absurd each
measured Measures none join additive entries keyspace (n ∷ ns) (x ∷ xs) d each =
    additive.apart (part_in (serves_slot entries n) keyspace) (part_in (among entries ns) keyspace) (part_in (among entries (n ∷ ns)) keyspace)
    x (joined_measures none join xs) (parts_apart entries keyspace n ns d.0) each.0
    (measured Measures none join additive entries keyspace ns xs d.1 each.1)

-- no key is there whose slot has no primary
none_there : {C : Type 0} (entries : List (RangeEntry SlotNodes)) (keyspace : Keyspace C) → IsServed entries keyspace → (key : List ℕ) → primary_of_slot entries (key_slot key) ≡ None → (cell : Option C) → keyspace key ≡ cell → cell ≡ None
none_there entries keyspace served key none None is = refl
none_there entries keyspace served key none (Some cell) is =
    let covered = served.covered key (λ gone. none-some cell (sym gone ∙ is)) in
    absurd (none-some covered.0.primary (sym none ∙ primary_is entries (key_slot key) covered.0 served.ascends covered.1))

all_there : {C : Type 0} (entries : List (RangeEntry SlotNodes)) (keyspace : Keyspace C) → IsServed entries keyspace → (key : List ℕ) → (o : Option Address) → primary_of_slot entries (key_slot key) ≡ o →
    part_in (among entries (primaries_in entries)) keyspace key ≡ keyspace key
all_there entries keyspace served key None is = by_test (among entries (primaries_in entries) (key_slot key))
    (λ t. rw t refl)
    (λ t. rw t (sym (none_there entries keyspace served key is (keyspace key) refl)))
all_there entries keyspace served key (Some p) is = grind (arith, common_steps, once_has p (map primary entries), is_there (key_slot key) entries p is)

-- The law of the whole keyspace: if each primary of a map measures its part, the measures make one of
-- the whole.
pub whole_keyspace : {C X : Type 0} (Measures : Keyspace C → X → Type 0) (none : X) (join : X → X → X) → IsAdditive Measures none join →
    (entries : List (RangeEntry SlotNodes)) (keyspace : Keyspace C) → IsServed entries keyspace → (xs : List X) →
    AreMeasures Measures entries keyspace (primaries_in entries) xs → Measures keyspace (joined_measures none join xs)
whole_keyspace {C} Measures none join additive entries keyspace served xs each =
    let same : part_in (among entries (primaries_in entries)) keyspace ≡ keyspace = λ i key. all_there entries keyspace served key (primary_of_slot entries (key_slot key)) refl i in
    subst (λ k. Measures k (joined_measures none join xs)) same
    (measured Measures none join additive entries keyspace (primaries_in entries) xs (once_distinct (map primary entries)) each)
