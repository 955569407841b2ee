-- Each part of a split command has a slot of its own, and its request has some byte.
use Rattle.std.proofs.Common.{◌≡◌, ◌+◌, ◌<◌, ◌≤◌, ℕ, zero, suc, Bool, true, false, cond, Option, Some, None, List, [], ◌∷◌, length, map, refl, sym, ap, ◌∙◌, subst, arith}
use Rattle.std.specs.Prelude.{IfSome, nat_eq, count_by, slice_get}
use Rattle.std.specs.List.{list_any}
use Rattle.std.proofs.lemmas.Bool.Decides.{nat_tests}
use Rattle.std.proofs.lemmas.List.Sums.{sum_by-cons}
use Rattle.std.proofs.lemmas.Option.{slice_get-map, same_Some}
use Rattle.resp.specs.Forms.{request}
use Rattle.cluster_slots.specs.SlotRoute.{SlotRoute}
use Rattle.cluster_slots.specs.ArgPattern.{is_complete}
use Rattle.cluster_slots.specs.declared.arg_pattern.MultiSlotArgPattern.{MultiSlotArgPattern}
use Rattle.redis_bytes.specs.Requests.{IsSplitOf, Words}
use Rattle.redis_routing.specs.Command.{Arguments, command_name}
use Rattle.redis_routing.specs.Complete.{multi_slot_routes, pattern_by_name, routes_by, routes_by_name}
use Rattle.redis_routing.specs.Names.{Names}
use Rattle.redis_routing.specs.Parts.{first_appearances, slot_of}
use Rattle.redis_routing.specs.PresentArguments.{present_arguments}
use Rattle.redis_routing.specs.Routing.{route_of_slot, routes_of}
use Rattle.redis_routing.specs.Split.{Split, slots_of}
use Rattle.redis_routing.specs.Tuples.{tuples_in}
use Rattle.redis_routing.proofs.Cover.{count_firsts}
use Rattle.redis_session.specs.Added.{Added}
use Rattle.redis_session.specs.Plans.{AreCallParts, AreSlotParts, HaveOwnSlots, IsCallPlan, IsPartAt, IsSplitBySlot}
use Rattle.redis_session.specs.declared.kind.CommandKind.{CommandKind}
use Rattle.redis_session.specs.declared.plan.CallParts.{CallParts}
use Rattle.redis_session.specs.declared.plan.CallParts.TheVariants as parts
use Rattle.redis_session.specs.declared.plan.CallPlan.{CallPlan}
use Rattle.redis_session.specs.declared.plan.SlotPart.{SlotPart}

-- ---- a number that stands twice is counted twice

self : (n : ℕ) → nat_eq n n ≡ true
self n = grind (arith, nat_tests)

count_more : (m n : ℕ) (ns : List ℕ) → count_by (nat_eq m) (n ∷ ns) ≡ cond (nat_eq m n) 1 0 + count_by (nat_eq m) ns
count_more m n ns = sum_by-cons (λ k. cond (nat_eq m k) 1 0) n ns

count_here : (m : ℕ) (ns : List ℕ) → count_by (nat_eq m) (m ∷ ns) ≡ 1 + count_by (nat_eq m) ns
count_here m ns = count_more m m ns ∙ ap (λ b. cond b 1 0 + count_by (nat_eq m) ns) (self m)

counted : (m : ℕ) (ns : List ℕ) (j : ℕ) → slice_get ns j ≡ Some m → 1 ≤ count_by (nat_eq m) ns
counted m [] j at = absurd (cc at)
counted m (n ∷ ns) zero at = rw (same_Some n m at) (omega (arith, count_here m ns))
counted m (n ∷ ns) (suc j) at = omega (arith, count_more m n ns, counted m ns j at)

counted_twice : (m : ℕ) (ns : List ℕ) (i j : ℕ) → i < j → slice_get ns i ≡ Some m → slice_get ns j ≡ Some m → 2 ≤ count_by (nat_eq m) ns
counted_twice m [] i j before first second = absurd (cc first)
counted_twice m (n ∷ ns) i zero before first second = absurd (omega (arith, before))
counted_twice m (n ∷ ns) zero (suc j) before first second = rw (same_Some n m first) (omega (arith, count_here m ns, counted m ns j second))
counted_twice m (n ∷ ns) (suc i) (suc j) before first second = omega (arith, count_more m n ns, counted_twice m ns i j (omega (arith, before)) first second)

-- ---- each slot has one route

slots_of_routes : (reads : Bool) (pattern : MultiSlotArgPattern) (present : List (List ℕ)) (slots : List ℕ) → slots_of (map (route_of_slot reads pattern present) slots) ≡ slots
slots_of_routes reads pattern present [] = refl
slots_of_routes reads pattern present (slot ∷ slots) = ap (λ more. slot ∷ more) (slots_of_routes reads pattern present slots)

at_most_one : (b : Bool) → cond b 1 0 ≤ 1
at_most_one true = omega arith
at_most_one false = omega arith

first_once : (slot : ℕ) (slots : List ℕ) → count_by (nat_eq slot) (first_appearances slots) ≤ 1
first_once slot slots = rw (count_firsts slot slots) (at_most_one (list_any (nat_eq slot) slots))

module _ (names : Names) (args : Arguments) (routes : List (SlotRoute × List ℕ)) (slot : ℕ) where
  once : (reads : Bool) (pattern : MultiSlotArgPattern) → routes ≡ routes_of reads pattern (present_arguments args) → count_by (nat_eq slot) (slots_of routes) ≤ 1
  once reads pattern are =
      let present = present_arguments args in
      let slots = map slot_of (tuples_in pattern present) in
      let same : slots_of routes ≡ first_appearances slots = ap slots_of are ∙ slots_of_routes reads pattern present (first_appearances slots) in
      rw same (first_once slot slots)

  once_if : (reads : Bool) (pattern : MultiSlotArgPattern) (whole : Bool) → Some routes ≡ cond whole (Some (routes_of reads pattern (present_arguments args))) None → count_by (nat_eq slot) (slots_of routes) ≤ 1
  once_if reads pattern true made = once reads pattern (same_Some _ _ made)
  once_if reads pattern false made = absurd (cc made)

  once_by : (reads : Bool) (pattern : Option MultiSlotArgPattern) → Some routes ≡ routes_by reads args pattern → count_by (nat_eq slot) (slots_of routes) ≤ 1
  once_by reads None made = absurd (cc made)
  once_by reads (Some pattern) made = once_if reads pattern (is_complete pattern (length (present_arguments args))) made

  once_by_name : (name : Option (List ℕ)) → Some routes ≡ routes_by_name names args name → count_by (nat_eq slot) (slots_of routes) ≤ 1
  once_by_name None made = absurd (cc made)
  once_by_name (Some name) made = once_by (names.only_reads name) (pattern_by_name names.registered (Some name)) made

  one_route : Some routes ≡ multi_slot_routes names args → count_by (nat_eq slot) (slots_of routes) ≤ 1
  one_route made = once_by_name (command_name args) made

-- ---- the parts

part_at : (split : Split) (each : List SlotPart) → AreSlotParts split each → (i : ℕ) (p : SlotPart) → slice_get each i ≡ Some p → IsPartAt split i p
part_at split each are i p at = subst (λ o. IfSome o (IsPartAt split i)) at (are.each i)

slot_at : (split : Split) (i : ℕ) (p : SlotPart) → IsPartAt split i p → slice_get (slots_of split.routes) i ≡ Some p.slot
slot_at split i p is = slice_get-map (λ r. r.0.slot) split.routes i ∙ sym is.slot_is

some_byte : (words : List (List ℕ)) → 0 < length (request words)
some_byte words = omega arith

own_slots : (names : Names) (args : Arguments) (split : Split) (each : List SlotPart) → IsSplitOf names args split → AreSlotParts split each → HaveOwnSlots each
own_slots names args split each is are = record {
  apart = λ i j p q before first second same.
      let slots = slots_of split.routes in
      let here : slice_get slots i ≡ Some p.slot = slot_at split i p (part_at split each are i p first) in
      let there : slice_get slots j ≡ Some p.slot = slot_at split j q (part_at split each are j q second) ∙ ap Some (sym same) in
      omega (arith, counted_twice p.slot slots i j before here there, one_route names args split.routes p.slot is.routes);
  full = λ i p at. let part = part_at split each are i p at in rw part.request_is (some_byte part.words);
}

by_slot : (names : Names) (args : Arguments) (kind : CommandKind) (of_call : CallParts) → AreCallParts names args kind of_call → IsSplitBySlot of_call
by_slot names args kind (parts.One order) are = tt
by_slot names args kind (parts.Several group policy order) are = tt
by_slot names args kind (parts.Split each) are = own_slots names args are.0 each.items are.1 are.3

pub split_by_slot : {names : Names} {added : Added} {words : Words} (plan : CallPlan) → IsCallPlan names added words plan → IsSplitBySlot plan.parts
split_by_slot {names = names} {words = words} plan is = by_slot names (map Some words) is.kind plan.parts is.parts_are
