-- The rows of added names: what a look-up finds, and what it finds after one more is put in.
use Rattle.std.proofs.Common.{◌≡◌, ℕ, List, [], ◌∷◌, map, Bool, true, false, cond, Some, Vec, Global, Ordering, refl, sym, ap, ◌∙◌, arith}
use Rattle.std.specs.Ordering.{is_eq}
use Rattle.std.specs.Str.{bytes_eq}
use Rattle.std.specs.BTreeMap.{insert_entry}
use Rattle.std.specs.Map as tree
use Rattle.std.proofs.lemmas.Map.Text.{is_eq-slice_cmp}
use Rattle.std.proofs.lemmas.Slice.Eq.{bytes_eq-Decides}
use Rattle.redis_routing.specs.Lookup.{lookup_name}
use Rattle.redis_routing.proofs.NameSets.{at, by_items, by_order}
use Rattle.redis_routing.proofs.Registrations.{same_key}
use Rattle.resp_core.proofs.Cases.{by_test}
use Rattle.redis_session.specs.declared.kind.CommandKind.{CommandKind}

abbrev pub Row : Type 0
Row = Vec ℕ Global × CommandKind

abbrev pub row_of : Row → List ℕ × CommandKind
row_of row = (row.0.items, row.1)

bytes_eq-swap : (xs ys : List ℕ) → bytes_eq xs ys ≡ bytes_eq ys xs
bytes_eq-swap xs ys = grind (arith, by_test, bytes_eq-Decides)

-- a look-up by the order of bytes is one by `==`
pub found_row : (q : List ℕ) (rows : List Row) → tree.lookup (at q) rows ≡ lookup_name (map row_of rows) q
found_row q [] = refl
found_row q (row ∷ rows) = grind (arith, at, is_eq-slice_cmp, bytes_eq-swap, found_row q rows)

cond_twice : {X : Type 0} (b : Bool) (x y z : X) → cond b x z ≡ cond b x (cond b y z)
cond_twice true x y z = refl
cond_twice false x y z = refl

cond_apart : {X : Type 0} (a b : Bool) (x y z : X) → (a ≡ true → b ≡ false) → cond a x (cond b y z) ≡ cond b y (cond a x z)
cond_apart a b x y z h1 = grind (arith)

other_key : (k x : Vec ℕ Global) → by_items k x ≡ Ordering.Greater → bytes_eq k.items x.items ≡ false
other_key k x h = sym (is_eq-slice_cmp k.items x.items) ∙ ap is_eq h

apart_keys : (k x q : List ℕ) → bytes_eq k x ≡ false → bytes_eq x q ≡ true → bytes_eq k q ≡ false
apart_keys k x q unlike equal = ap (bytes_eq k) (sym ((bytes_eq-Decides x q).0 equal)) ∙ unlike

-- the look-ups after a row is put in
pub lookup-insert_entry : (q : List ℕ) (k : Vec ℕ Global) (kind : CommandKind) (rows : List Row)
    → lookup_name (map row_of (insert_entry by_items rows k kind)) q ≡ cond (bytes_eq k.items q) (Some kind) (lookup_name (map row_of rows) q)
lookup-insert_entry q k kind [] = refl
lookup-insert_entry q k kind (row ∷ rows) = by_order (by_items k row.0)
    (λ less. rw less refl)
    (λ equal. rw equal (rw (same_key k row.0 equal) (cond_twice (bytes_eq row.0.items q) (Some kind) (Some row.1) (lookup_name (map row_of rows) q))))
    (λ greater. rw greater (ap (cond (bytes_eq row.0.items q) (Some row.1)) (lookup-insert_entry q k kind rows)
    ∙ cond_apart (bytes_eq row.0.items q) (bytes_eq k.items q) (Some row.1) (Some kind) (lookup_name (map row_of rows) q) (apart_keys k.items row.0.items q (other_key k row.0 greater))))
