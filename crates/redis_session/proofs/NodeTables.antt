-- What a table says of a slot, from what its map and its MOVED say.
use Rattle.std.proofs.Common.{◌≤◌, true, cond, ◌≡◌, ◌≢◌, ◌+◌, ℕ, List, Bool, false, Option, Some, None, MatchOption, option_copied, nat_lt, refl, sym, subst, ◌∙◌, arith}
use Rattle.std.specs.BTreeMap.{BTreeMap, is_at, UpdatesBy, IsOrdered}
use Rattle.std.specs.Borrow.{Bor}
use Rattle.std.specs.Cmp.{eq_by_cmp_equiv, nat_cmp_total}
use Rattle.std.specs.List.{filter}
use Rattle.std.specs.Map.{lookup}
use Rattle.std.specs.Ordering.{nat_cmp, eq_by_cmp}
use Rattle.std.proofs.lemmas.Bool.Decides.{nat_tests}
use Rattle.std.proofs.lemmas.Map.Entries.{option_filter, lookup-filter-values}
use Rattle.std.proofs.lemmas.Map.Keys.{IsDistinct-from_sorted}
use Rattle.std.specs.Prelude.{IfSome}
use Rattle.resp_core.proofs.Cases.{by_test}
use Rattle.cluster_slots.specs.Address.{Address}
use Rattle.cluster_slots.specs.SlotRoute.{SlotRoute}
use Rattle.cluster_map.specs.RangeMap.{IsUncovered}
use Rattle.cluster_map.specs.ReplyNode.{IsFound}
use Rattle.cluster_map.specs.RouteNode.{IsNodeOfRoute}
use Rattle.redis_session.specs.Table.{AreCounted, Map, Table, moved_at, IsNodeBy, KeepsNode, LearnsMoved, later_than}
use Rattle.redis_session.specs.declared.table.Moved.{Moved}

-- what a look-up in the map finds
pub look_up-found : (map : Map) (route : SlotRoute) (found : Option (Bor Address))
    → MatchOption found (IsUncovered map route.slot) (λ node. IsNodeOfRoute map route 0 node.now) → IsFound map route 0 (option_copied found)
look_up-found map route None is = is
look_up-found map route (Some node) is = is

-- another number is not found
pub other_number : (number other : ℕ) → other ≢ number → is_at (nat_cmp number) other ≡ false
other_number number other ne = grind (arith, nat_tests)

-- one slot has another MOVED
pub learns_moved : (slot : ℕ) (node : Address) (map : Map) (count next : ℕ) (old new : BTreeMap ℕ Moved)
    → UpdatesBy nat_cmp (nat_cmp slot) old new (Some (record { node = node; count = next })) → next ≡ count + 1
    → LearnsMoved slot node (record { map = map; moved = old.entries; count = count }) (record { map = map; moved = new.entries; count = next })
learns_moved slot node map count next old new updates is = record {
  moved = updates.1;
  count = is;
  others = λ other ne. updates.2 other (other_number slot other ne);
  map = refl;
}

-- so each other slot has the node that it had
pub keeps_node : (slot : ℕ) (node : Address) (old new : Table) → LearnsMoved slot node old new → (other : ℕ) → other ≢ slot → KeepsNode other old new
keeps_node slot node old new learns other ne found = (
  λ is. subst (λ m. IsNodeBy m old.map other found) (learns.others other ne) (subst (λ (map : Map). IsNodeBy (moved_at other new) map other found) learns.map is),
  λ is. subst (λ (map : Map). IsNodeBy (moved_at other new) map other found) (sym learns.map) (subst (λ m. IsNodeBy m old.map other found) (sym (learns.others other ne)) is),
)

filter-later : (asked : ℕ) (moved : Option Moved) → option_filter (λ m. nat_lt asked m.count) moved ≡ later_than asked moved
filter-later asked None = refl
filter-later asked (Some moved) = refl

-- the later MOVED stay
pub later_stay : (asked : ℕ) (old new : BTreeMap ℕ Moved) → IsOrdered nat_cmp old → new.entries ≡ filter (λ e. nat_lt asked e.1.count) old.entries
    → (slot : ℕ) → lookup (eq_by_cmp nat_cmp slot) new.entries ≡ later_than asked (lookup (eq_by_cmp nat_cmp slot) old.entries)
later_stay asked old new ordered is slot = rw is
    (lookup-filter-values (eq_by_cmp_equiv nat_cmp_total) (λ (m : Moved). nat_lt asked m.count) slot old.entries (IsDistinct-from_sorted nat_cmp _ ordered)
    ∙ filter-later asked (lookup (eq_by_cmp nat_cmp slot) old.entries))

no_more : (count : ℕ) (asked : ℕ) (moved : Option Moved) → IfSome moved (λ m. m.count ≤ count) → IfSome (later_than asked moved) (λ m. m.count ≤ count)
no_more count asked None is = tt
no_more count asked (Some moved) is = by_test (nat_lt asked moved.count) (λ later. rw later is) (λ earlier. rw earlier tt)

-- the later MOVED were learned before
pub counted_later : (asked count : ℕ) (old new : List (ℕ × Moved)) → ((slot : ℕ) → lookup (eq_by_cmp nat_cmp slot) new ≡ later_than asked (lookup (eq_by_cmp nat_cmp slot) old))
    → AreCounted old count → AreCounted new count
counted_later asked count old new is counted slot = rw (is slot) (no_more count asked (lookup (eq_by_cmp nat_cmp slot) old) (counted slot))

still : (count next : ℕ) (moved : Option Moved) → next ≡ count + 1 → IfSome moved (λ m. m.count ≤ count) → IfSome moved (λ m. m.count ≤ next)
still count next None is counted = tt
still count next (Some moved) is counted = omega (arith, is, counted)

one_more : (b : Bool) (node : Address) (count next : ℕ) (moved : Option Moved) → next ≡ count + 1 → IfSome moved (λ m. m.count ≤ count)
    → IfSome (cond b (Some (record { node = node; count = next })) moved) (λ (m : Moved). m.count ≤ next)
one_more true node count next moved is counted = omega arith
one_more false node count next moved is counted = still count next moved is counted

-- one more MOVED was learned
pub counted_more : (slot : ℕ) (node : Address) (count next : ℕ) (old new : BTreeMap ℕ Moved)
    → UpdatesBy nat_cmp (nat_cmp slot) old new (Some (record { node = node; count = next })) → next ≡ count + 1
    → AreCounted old.entries count → AreCounted new.entries next
counted_more slot node count next old new updates is counted other = rw (updates.0 other)
    (one_more (is_at (nat_cmp slot) other) node count next (lookup (eq_by_cmp nat_cmp other) old.entries) is (counted other))
