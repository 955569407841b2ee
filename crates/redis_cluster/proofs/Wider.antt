-- What holds at nodes of one kind holds at those of a wider kind.
use Rattle.std.proofs.Common.{◌≡◌, ℕ, zero, suc, List, [], ◌∷◌, Option, Some, refl, sym, arith, length, take}
use Rattle.std.specs.Prelude.{slice_get}
use Rattle.std.specs.List.{AllZip}
use Rattle.resp_core.specs.Reply.{Reply}
use Rattle.cluster_slots.specs.Address.{Address}
use Rattle.cluster_slots.specs.SlotRoute.{SlotRoute}
use Rattle.redis_cluster.specs.Orders.{in_order}
use Rattle.redis_cluster.specs.Trace.{Entry, Ending, answered}
use Rattle.redis_cluster.specs.Unsplit.{Step}
use Rattle.redis_cluster.specs.Driven.{Request, IsEntryOf, AreSent, IsDelivered, IsDriven}
use Rattle.redis_cluster.specs.State.{State}
use Rattle.redis_cluster.specs.Faults.{Reach, WentOut, WereCutShort, whole, up_to}
use Rattle.redis_cluster.specs.Plan.{Plan}
use Rattle.redis_cluster.specs.Ready.{IsPlanNode}
use Rattle.redis_cluster.specs.declared.fault.DriveFault.{DriveFault}
use Rattle.redis_cluster.proofs.Constructors.{none_apart, same_some}

each_own : (P : SlotRoute → Address → Type 0) (routes : List (SlotRoute × List ℕ)) (nodes : List Address) → length nodes ≡ length routes
    → ((number : ℕ) (t : SlotRoute × List ℕ) (address : Address) → slice_get routes number ≡ Some t → slice_get nodes number ≡ Some address → P t.0 address) → AllZip (λ (t : SlotRoute × List ℕ) address. P t.0 address) routes nodes
each_own P [] [] many at = tt
each_own P [] (n ∷ nodes) many at = absurd (omega (arith, many))
each_own P (t ∷ routes) [] many at = absurd (omega (arith, many))
each_own P (t ∷ routes) (n ∷ nodes) many at = (at 0 t n refl refl, each_own P routes nodes (omega (arith, many)) (λ number u a route node. at (suc number) u a route node))

-- each route of a plan has the plan's own node
pub own_nodes : (plan : Plan) → length plan.nodes ≡ length plan.split.routes → AllZip (λ (t : SlotRoute × List ℕ) address. IsPlanNode plan t.0 address) plan.split.routes plan.nodes
own_nodes plan many = each_own (IsPlanNode plan) plan.split.routes plan.nodes many (λ number t address route node. (number, t.1, route, node))

-- what holds of two lists, place by place, holds at each place
each_at : {A B : Type 0} (R : A → B → Type 0) (xs : List A) (ys : List B) (k : ℕ) (x : A) (y : B) → AllZip R xs ys → slice_get xs k ≡ Some x → slice_get ys k ≡ Some y → R x y
each_at R [] ys k x y each a b = absurd (none_apart x a)
each_at R (u ∷ xs) [] k x y each a b = absurd (none_apart y b)
each_at R (u ∷ xs) (v ∷ ys) zero x y each a b = let p : u ≡ x = same_some u x a in let q : v ≡ y = same_some v y b in rw (sym p, sym q) each.0
each_at R (u ∷ xs) (v ∷ ys) (suc k) x y each a b = each_at R xs ys k x y each.1 a b

-- the plan's own node of a route is one of those that each of its nodes is
pub plan_node : (P : SlotRoute → Address → Type 0) (plan : Plan) → AllZip (λ (t : SlotRoute × List ℕ) address. P t.0 address) plan.split.routes plan.nodes → (route : SlotRoute) (address : Address) → IsPlanNode plan route address → P route address
plan_node P plan each route address own = each_at (λ (t : SlotRoute × List ℕ) a. P t.0 a) plan.split.routes plan.nodes own.0 (route, own.1) address each own.2 own.3

-- What was cut short with entries of one kind was so with entries of a wider kind.
module _ (A B : List SlotRoute → List Entry → List Entry → Type 0) (E F : SlotRoute → Option Ending → List Entry → List Entry → Type 0) (answered_at : (routes : List SlotRoute) (old new : List Entry) → A routes old new → B routes old new)
    (ended_at : (route : SlotRoute) (ending : Option Ending) (old new : List Entry) → E route ending old new → F route ending old new) (r : Request) where
  pub went_by : (routes : List SlotRoute) (count : ℕ) (reach : Reach) (old new : List Entry) → WentOut A E r routes count reach old new → WentOut B F r routes count reach old new
  went_by routes count whole old new (all, sent) = (all, answered_at (in_order routes r.order) old new sent)
  went_by routes count (up_to ending) old new (route, before, next, sent, last) = (route, before, next, answered_at (take count (in_order routes r.order)) old before sent, ended_at route ending before new last)

  abbrev pub cut_by : {C : Type 0} (old new : State C) (may_refuse : ℕ → Ending → Type 0) (fault : DriveFault) (count : ℕ) → WereCutShort A E r old new may_refuse fault count → WereCutShort B F r old new may_refuse fault count
  cut_by old new may_refuse fault count cut = record {
    routes = cut.routes;
    command = cut.command;
    drivable = cut.drivable;
    reach = cut.reach;
    reach_is = cut.reach_is;
    went = went_by cut.routes count cut.reach old.trace new.trace cut.went;
    allowed = cut.allowed;
  }

module _ (P Q : SlotRoute → Address → Type 0) (wider : (route : SlotRoute) (address : Address) → P route address → Q route address) where
  entries_at : (asked : Request) (ending : Ending) (routes : List SlotRoute) (entries : List Entry) → AllZip (IsEntryOf P asked ending) routes entries → AllZip (IsEntryOf Q asked ending) routes entries
  entries_at asked ending [] [] h = tt
  entries_at asked ending [] (e ∷ es) h = absurd h
  entries_at asked ending (r ∷ routes) [] h = absurd h
  entries_at asked ending (r ∷ routes) (e ∷ es) (first, rest) = ((wider r e.node first.0, first.1, first.2), entries_at asked ending routes es rest)

  pub sent_at : (asked : Request) (routes : List SlotRoute) (old new : List Entry) → AreSent P asked routes old new → AreSent Q asked routes old new
  sent_at asked routes old new s = record { entries = s.entries; grew = s.grew; each = entries_at asked answered routes s.entries s.each }

  abbrev pub delivered_at : (r : Request) (old new : List Entry) → IsDelivered P r old new → IsDelivered Q r old new
  delivered_at r old new d = record { routes = d.routes; command = d.command; drivable = d.drivable; trace = sent_at r _ old new d.trace }

  module _ {C : Type 0} (step : Step C) (r : Request) (old new : State C) where
    pub driven_at : (value : Reply) → IsDriven P step r old new value → IsDriven Q step r old new value
    driven_at value d = record { delivered = delivered_at r old.trace new.trace d.delivered; keyspace = d.keyspace; reply = d.reply }
