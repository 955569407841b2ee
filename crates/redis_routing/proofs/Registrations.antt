-- The rows of a registry: what a look-up finds, and what stands there after one more is put in.
use Rattle.std.proofs.Common.{◌≡◌, ℕ, List, [], ◌∷◌, map, Bool, true, false, cond, Option, None, Some, Vec, Global, Ordering, refl, sym, ap, ◌∙◌, length, ◌+◌, arith}
use Rattle.std.specs.Prelude.{IfSome, is_some, if◌then◌else◌}
use Rattle.std.specs.List.{list_all, AllZip, each_same}
use Rattle.std.specs.Ordering.{is_eq}
use Rattle.std.specs.Str.{bytes_eq}
use Rattle.std.specs.BTreeMap.{insert_entry}
use Rattle.std.specs.Map as tree
use Rattle.std.proofs.lemmas.Map.Text.{is_eq-slice_cmp}
use Rattle.std.proofs.lemmas.Slice.Eq.{bytes_eq-Decides}
use Rattle.std.proofs.lemmas.Grind.{common_steps}
use Rattle.redis_routing.specs.Lookup.{lookup_name}
use Rattle.redis_routing.specs.Registry.{Registered, is_registrable, is_bad_name, is_bad_policy}
use Rattle.redis_routing.specs.RouteBy.{base_routing}
use Rattle.redis_routing.specs.declared.policy.ResponsePolicy.{ResponsePolicy}
use Rattle.redis_routing.proofs.NameSets.{at, by_items, by_order}
use Rattle.resp_core.proofs.Cases.{by_test, and_first, and_second}
use Rattle.std.proofs.lemmas.Bool.{and_from}

abbrev pub Row : Type 0
Row = Vec ℕ Global × Registered

abbrev pub registration_of : Row → List ℕ × Registered
registration_of row = (row.0.items, row.1)

abbrev pub may_stand : Row → Bool
may_stand row = is_registrable row.0.items row.1.1

bytes_eq-swap : (xs ys : List ℕ) → bytes_eq xs ys ≡ bytes_eq ys xs
bytes_eq-swap xs ys = grind (arith, by_test, bytes_eq-Decides)

-- a look-up by the order of bytes is one by `==`
pub found_row : (q : List ℕ) (rows : List Row) → tree.lookup (at q) rows ≡ lookup_name (map registration_of rows) q
found_row q [] = refl
found_row q (row ∷ rows) = grind (arith, at, is_eq-slice_cmp, bytes_eq-swap, found_row q rows)

-- what is found could be registered
pub found_registrable : (q : List ℕ) (rows : List Row) → list_all may_stand rows ≡ true → IfSome (lookup_name (map registration_of rows) q) (λ r. is_registrable q r.1 ≡ true)
found_registrable q [] h = tt
found_registrable q (row ∷ rows) h = grind (arith, common_steps, by_test, bytes_eq-Decides, and_first, and_second, found_registrable q rows (and_second (may_stand row) (list_all may_stand rows) h))

cond_twice : {X : Type 0} (b : Bool) (x y z : X) → cond b x z ≡ cond b x (cond b y z)
cond_twice true x y z = refl
cond_twice false x y z = refl

cond_apart : {X : Type 0} (a b : Bool) (x y z : X) → (a ≡ true → b ≡ false) → cond a x (cond b y z) ≡ cond b y (cond a x z)
cond_apart a b x y z h1 = grind (arith)

pub same_key : (k x : Vec ℕ Global) → by_items k x ≡ Ordering.Equal → k.items ≡ x.items
same_key k x h = (bytes_eq-Decides k.items x.items).0 (sym (is_eq-slice_cmp k.items x.items) ∙ ap is_eq h)

other_key : (k x : Vec ℕ Global) → by_items k x ≡ Ordering.Greater → bytes_eq k.items x.items ≡ false
other_key k x h = sym (is_eq-slice_cmp k.items x.items) ∙ ap is_eq h

-- one that is equal to the first is not equal to the other
apart_keys : (k x q : List ℕ) → bytes_eq k x ≡ false → bytes_eq x q ≡ true → bytes_eq k q ≡ false
apart_keys k x q unlike equal = ap (bytes_eq k) (sym ((bytes_eq-Decides x q).0 equal)) ∙ unlike

-- the look-ups after a row is put in
pub lookup-insert_entry : (q : List ℕ) (k : Vec ℕ Global) (r : Registered) (rows : List Row)
    → lookup_name (map registration_of (insert_entry by_items rows k r)) q ≡ cond (bytes_eq k.items q) (Some r) (lookup_name (map registration_of rows) q)
lookup-insert_entry q k r [] = refl
lookup-insert_entry q k r (row ∷ rows) = by_order (by_items k row.0)
    (λ less. rw less refl)
    (λ equal. rw equal (rw (same_key k row.0 equal) (cond_twice (bytes_eq row.0.items q) (Some r) (Some row.1) (lookup_name (map registration_of rows) q))))
    (λ greater. rw greater (ap (cond (bytes_eq row.0.items q) (Some row.1)) (lookup-insert_entry q k r rows)
    ∙ cond_apart (bytes_eq row.0.items q) (bytes_eq k.items q) (Some row.1) (Some r) (lookup_name (map registration_of rows) q) (apart_keys k.items row.0.items q (other_key k row.0 greater))))

-- what may be registered stands among such
pub registrable-insert_entry : (k : Vec ℕ Global) (r : Registered) (rows : List Row) → is_registrable k.items r.1 ≡ true → list_all may_stand rows ≡ true → list_all may_stand (insert_entry by_items rows k r) ≡ true
registrable-insert_entry k r [] new old = and_from (is_registrable k.items r.1) true new refl
registrable-insert_entry k r (row ∷ rows) new old = grind (arith, common_steps, by_order, by_items, and_from, same_key, and_second, and_first, registrable-insert_entry k r rows new (and_second (may_stand row) (list_all may_stand rows) old))

-- a name without a row adds one
pub one_more : (before : Option Registered) (rows after : List Row) → before ≡ None → length after ≡ length rows + (if is_some before then 0 else 1) → length (map registration_of after) ≡ length (map registration_of rows) + 1
one_more before rows after none more = grind (arith, common_steps)

pub none_from : {X : Type 0} (o : Option X) → is_some o ≡ false → o ≡ None
none_from None h = refl
none_from (Some x) h = cc

-- what is refused for none of the three causes may be registered
pub may_register : (name : List ℕ) (policy : ResponsePolicy) → is_bad_name name ≡ false → is_some (base_routing name) ≡ false → is_bad_policy policy ≡ false → is_registrable name policy ≡ true
may_register name policy good free able = rw (good, none_from (base_routing name) free, able) refl

-- clones of rows are seen as their sources
abbrev pub IsRowClone : Row → Row → Type 0
IsRowClone row copy = (AllZip (λ x y. y ≡ x) row.0.items copy.0.items × (copy.0.len ≡ row.0.len)) × ((copy.1.0 ≡ row.1.0) × (copy.1.1 ≡ row.1.1))

row_cloned : (row copy : Row) → IsRowClone row copy → registration_of copy ≡ registration_of row
row_cloned row copy cloned =
    let name : copy.0.items ≡ row.0.items = each_same row.0.items copy.0.items cloned.0.0 in
    let pattern = cloned.1.0 in
    let policy = cloned.1.1 in
    λ i. (name i, (pattern i, policy i))

pub cloned_rows : (rows copies : List Row) → AllZip IsRowClone rows copies → map registration_of copies ≡ map registration_of rows
cloned_rows [] [] cloned = refl
cloned_rows [] (copy ∷ copies) cloned = absurd cloned
cloned_rows (row ∷ rows) [] cloned = absurd cloned
cloned_rows (row ∷ rows) (copy ∷ copies) cloned = grind (arith, row_cloned, cloned_rows rows copies cloned.1)

pub cloned_may_stand : (rows copies : List Row) → AllZip IsRowClone rows copies → list_all may_stand copies ≡ list_all may_stand rows
cloned_may_stand [] [] cloned = refl
cloned_may_stand [] (copy ∷ copies) cloned = absurd cloned
cloned_may_stand (row ∷ rows) [] cloned = absurd cloned
cloned_may_stand (row ∷ rows) (copy ∷ copies) cloned = grind (arith, row_cloned, cloned_may_stand rows copies cloned.1)
