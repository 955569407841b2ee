-- The parts that a call begins with.
use Rattle.std.specs.Prelude.{◌≡◌, ◌<◌, ◌⊎◌, ℕ, Bool, true, false, List, [], ◌∷◌, Some, length, map, max, slice_get}
use Rattle.std.specs.List.{list_all}
use Rattle.std.specs.declared.vec.Vec.{Vec}
use Rattle.std.specs.declared.alloc.Global.{Global}
use Rattle.cluster_slots.specs.Address.{Address}
use Rattle.resp.specs.Forms.{IsRequest}
use Rattle.redis_bytes.specs.Requests.{Words}
use Rattle.session_core.specs.Part.{PartState, Waits, is_waiting}
use Rattle.session_core.specs.State.{AreApart}
use Rattle.session_core.specs.declared.part.PartOrder.{PartOrder}
use Rattle.session_core.specs.declared.part.PartOrder.TheVariants.{OfSlot}
use Rattle.redis_session.specs.Directory.{AreNumbersOf, Directory}
use Rattle.redis_session.specs.Plans.{IsCallPlan}
use Rattle.redis_session.specs.SessionStates.{SessionSettings, names_by}
use Rattle.redis_session.specs.Table.{group_in}
use Rattle.redis_session.specs.declared.plan.CallParts.{CallParts}
use Rattle.redis_session.specs.declared.plan.CallParts.TheVariants as plans
use Rattle.redis_session.specs.declared.plan.CallPlan.{CallPlan}
use Rattle.redis_session.specs.declared.plan.SlotPart.{SlotPart}
use Rattle.redis_session.specs.declared.rules.ReplyRule.{ReplyRule}
use Rattle.redis_session.specs.declared.rules.ReplyRule.TheVariants as rules
use Rattle.session_machine.specs.Ties.{AreOrdered, AreFree}

-- A call may begin with these parts. Each waits, and has a request of at least one byte. Two of them have two slots
-- if they have any. Each is ordered, or each is free.
pub record CanBegin (parts : List PartState) : Type 0 where
  pub wait : list_all (λ p. is_waiting p.phase) parts ≡ true
  pub apart : AreApart parts
  pub alike : AreOrdered parts ⊎ AreFree parts
  pub full : (i : ℕ) (p : PartState) → slice_get parts i ≡ Some p → 0 < length p.request

-- It waits, and so many refusals of it are forgiven. It has this request and this order. Nodes may refuse it before they
-- run it, or not.
pub record IsNewPart (retries : ℕ) (request : List ℕ) (order : PartOrder) (may_refuse : Bool) (part : PartState) : Type 0 where
  pub request_is : part.request ≡ request
  pub order_is : part.order ≡ order
  pub may_refuse_is : part.may_refuse ≡ may_refuse
  pub waits : part.phase ≡ Waits retries

-- each of them is such
abbrev pub AreNewParts : (retries : ℕ) → List ℕ → PartOrder → Bool → List PartState → Type 0
AreNewParts retries request order may_refuse parts =
    (i : ℕ) (p : PartState) → slice_get parts i ≡ Some p → IsNewPart retries request order may_refuse p

-- the part of a slot, before it is asked
abbrev pub new_slot_part : (may_refuse : Bool) → (retries : ℕ) → SlotPart → PartState
new_slot_part may_refuse retries part = record {
  request = part.request.items;
  order = OfSlot part.slot;
  may_refuse = may_refuse;
  phase = Waits retries;
}

abbrev pub has_slot : PartOrder → Bool
has_slot (OfSlot slot) = true
has_slot other = false

-- How many parts a command has that goes to these nodes. Without one it has a part that waits for a node.
abbrev pub count_parts : List Address → ℕ
count_parts nodes = max (length nodes) 1

-- what a call asks by its plan, and how its reply is made
abbrev pub IsErrandBy : Directory → (retries : ℕ) → List ℕ → (may_refuse : Bool) → CallParts → ReplyRule → List PartState → Type 0
-- the request as it came, whose answer is the reply
IsErrandBy directory retries request may_refuse (plans.One order) rule parts = (rule ≡ rules.One)
    × ((part : PartState) × (parts ≡ part ∷ []) × IsNewPart retries request order may_refuse part)
-- one part for each slot, and the reply is that of a split command
IsErrandBy directory retries request may_refuse (plans.Split slots) rule parts =
    ((bytes : Vec ℕ Global) × (rule ≡ rules.Split bytes) × (bytes.items ≡ request))
    × (parts ≡ map (new_slot_part may_refuse retries) slots.items)
-- the request as it came for each node of the group, and the reply is made by the policy
IsErrandBy directory retries request may_refuse (plans.Several group policy order) rule parts =
    (nodes : Vec ℕ Global) × (rule ≡ rules.Several policy nodes)
    × AreNumbersOf nodes.items (group_in group directory.table) directory.nodes
    × (length parts ≡ count_parts (group_in group directory.table)) × AreNewParts retries request order may_refuse parts

-- The bytes are one request. These are the parts that its command asks, and the reply is made by this rule.
--
-- `MGET a b` is split: its parts ask `MGET a` and `MGET b`.
pub record IsErrand (directory : Directory) (settings : SessionSettings) (request : List ℕ) (rule : ReplyRule)
    (parts : List PartState) : Type 0 where
  pub words : Words
  pub read : IsRequest words request
  pub plan : CallPlan
  pub planned : IsCallPlan (names_by settings) settings.added words plan
  pub by_plan : IsErrandBy directory settings.retries request plan.may_refuse plan.parts rule parts
