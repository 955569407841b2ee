-- What a request asks of nodes.
use Rattle.std.specs.Prelude.{◌≡◌, ◌≢◌, ◌<◌, ℕ, List, [], ◌∷◌, Bool, true, false, Option, Some, length, map, option_map, slice_get, IfSome}
use Rattle.resp.specs.Forms.{request}
use Rattle.cluster_slots.specs.SlotRoute.{SlotRoute}
use Rattle.redis_bytes.specs.Requests.{IsSplitOf, Words}
use Rattle.redis_routing.specs.Command.{Arguments}
use Rattle.redis_routing.specs.Names.{Names}
use Rattle.redis_routing.specs.Routed.{group_nodes}
use Rattle.redis_routing.specs.Routing.{routing}
use Rattle.redis_routing.specs.RoutingInfo.{Routing, SingleNodeRouting, multi_node, single_node, specific_node}
use Rattle.redis_routing.specs.Split.{Split, route_part}
use Rattle.session_core.specs.declared.part.PartOrder.{PartOrder}
use Rattle.session_core.specs.declared.part.PartOrder.TheVariants.{OfSlot, Whole, Free}
use Rattle.redis_session.specs.Added.{Added}
use Rattle.redis_session.specs.CommandKinds.{kind_of_command}
use Rattle.redis_session.specs.Refusals.{one_reply, waits}
use Rattle.redis_session.specs.declared.kind.CommandKind.{CommandKind}
use Rattle.redis_session.specs.declared.kind.CommandKind.TheVariants as kinds
use Rattle.redis_session.specs.declared.plan.CallParts.{CallParts}
use Rattle.redis_session.specs.declared.plan.CallParts.TheVariants as parts
use Rattle.redis_session.specs.declared.plan.CallPlan.{CallPlan}
use Rattle.redis_session.specs.declared.plan.SlotPart.{SlotPart}

-- a script can make up any error, so no error says that it did not run
abbrev pub may_refuse : CommandKind → Bool
may_refuse kinds.Script = false
may_refuse other = true

-- the order of a part without a slot: nobody can see when a `PING` ran
abbrev pub order_without_slot : CommandKind → PartOrder
order_without_slot kinds.Free = Free
order_without_slot other = Whole

-- the order of a part that goes to one node
abbrev pub order_at : CommandKind → SingleNodeRouting → PartOrder
order_at kind (specific_node route) = OfSlot route.slot
order_at kind other = order_without_slot kind

abbrev pub slot_of_route : Split → ℕ → Option ℕ
slot_of_route split number = option_map (λ r. r.0.slot) (slice_get split.routes number)

-- The part of the route of this number: its slot, and the bytes of its request.
--
-- Of `DEL foo bar`, part 1 is `DEL bar`.
pub record IsPartAt (split : Split) (number : ℕ) (part : SlotPart) : Type 0 where
  pub slot_is : Some part.slot ≡ slot_of_route split number
  pub words : Words
  pub arguments : Some (map Some words) ≡ route_part split number
  pub request_is : part.request.items ≡ request words

-- the part of each route
pub record AreSlotParts (split : Split) (parts : List SlotPart) : Type 0 where
  pub all : length parts ≡ length split.routes
  pub each : (number : ℕ) → IfSome (slice_get parts number) (IsPartAt split number)

-- The parts of a split command: one for each slot, or the request as it came where its keys have one slot.
abbrev pub AreSplitParts : Split → CallParts → Type 0
AreSplitParts split (parts.One order) =
    (route : SlotRoute × List ℕ) × (split.routes ≡ route ∷ []) × (order ≡ OfSlot route.0.slot)
AreSplitParts split (parts.Split each) = (1 < length split.routes) × AreSlotParts split each.items
AreSplitParts split other = ⊥

-- the parts of a command of this kind that is not split, by where it goes
abbrev pub AreCallPartsTo : CommandKind → Routing → CallParts → Type 0
AreCallPartsTo kind (single_node node) (parts.One order) = order ≡ order_at kind node
AreCallPartsTo kind (multi_node nodes policy) (parts.Several group chosen order) =
    (nodes ≡ group_nodes group) × (one_reply policy ≡ Some chosen) × (order ≡ order_without_slot kind)
AreCallPartsTo kind to other = ⊥

-- The parts of a command of this kind.
--
-- `GET a` and `MGET a {a}b` are one part of slot 15495, `TIME` is one of any node, `MGET a b` has two parts, and
-- `DBSIZE` has one for each primary.
abbrev pub AreCallParts : Names → Arguments → CommandKind → CallParts → Type 0
AreCallParts names args kind (parts.Split each) =
    (split : Split) × IsSplitOf names args split × (1 < length split.routes) × AreSlotParts split each.items
AreCallParts names args kind other =
    (to : Routing) × (Some to ≡ routing names args) × AreCallPartsTo kind to other

-- what a command asks of nodes, where a shared link takes it
pub record IsCallPlan (names : Names) (added : Added) (words : Words) (plan : CallPlan) : Type 0 where
  pub kind : CommandKind
  pub taken : Some kind ≡ kind_of_command names.registered added (map Some words)
  pub waits_not : waits kind (map Some words) ≡ false
  pub may_refuse_is : plan.may_refuse ≡ may_refuse kind
  pub parts_are : AreCallParts names (map Some words) kind plan.parts

-- Each part has a slot of its own, and a request of at least one byte.
pub record HaveOwnSlots (parts : List SlotPart) : Type 0 where
  pub apart : (i j : ℕ) (p q : SlotPart) → i < j → slice_get parts i ≡ Some p → slice_get parts j ≡ Some q
      → p.slot ≢ q.slot
  pub full : (i : ℕ) (p : SlotPart) → slice_get parts i ≡ Some p → 0 < length p.request.items

-- If the command is split, each part has a slot of its own: part 0 of `MGET a b {a}c` has slot 15495, and part 1
-- has slot 3300.
abbrev pub IsSplitBySlot : CallParts → Type 0
IsSplitBySlot (parts.Split each) = HaveOwnSlots each.items
IsSplitBySlot other = Unit {0}
