-- What stands where each part was sent once.
use Rattle.std.proofs.Common.{◌≡◌, ℕ, List, [], ◌∷◌, ◌++◌, Option, Some, None, refl, sym, ap, ◌∙◌, subst, map, length, append_assoc}
use Rattle.std.specs.List.{AllZip}
use Rattle.std.proofs.lemmas.List.{append-nil, length-map}
use Rattle.resp_core.specs.ErrorParts.{ErrorParts}
use Rattle.resp_core.specs.Reply.{Reply}
use Rattle.cluster_slots.specs.Address.{Address}
use Rattle.cluster_slots.specs.SlotRoute.{SlotRoute}
use Rattle.redis_routing.specs.Registry.{Registrations}
use Rattle.redis_cluster.specs.MultiKey.{MultiKey, part_by_slot}
use Rattle.redis_cluster.specs.Orders.{NamesOnce, in_order}
use Rattle.redis_cluster.specs.Trace.{Entry, Ending, answered, entry}
use Rattle.redis_cluster.specs.Unsplit.{Step, keyspace_after, reply_to}
use Rattle.redis_cluster.specs.Retry.{Try, SentInTurn}
use Rattle.redis_cluster.specs.Driven.{Request, IsEntryOf, AreSent, IsDelivered, IsDriven}
use Rattle.redis_cluster.specs.State.{State}
use Rattle.redis_cluster.specs.Ended.{AreEndedEarly}
use Rattle.redis_cluster.specs.Faults.{IsCauseBeforeSending, EndsOnce}
use Rattle.redis_cluster.specs.Plan.{Plan}
use Rattle.redis_cluster.specs.Ready.{IsTarget, IsReady, IsPlanFor, Target, targets, tries_with}
use Rattle.redis_cluster.specs.Retried.{AreTried, AreAllTried, EndsTried, IsRetried}
use Rattle.redis_cluster.specs.declared.fault.DriveFault.{DriveFault}
use Rattle.redis_cluster.specs.declared.fault.DriveFault.TheVariants as early
use Rattle.redis_cluster.proofs.Ended.{all_tried, cut_short, AreEnded}
use Rattle.redis_cluster.proofs.Laws.{tried_once, tried_none}
use Rattle.redis_cluster.proofs.Wider.{cut_by}

-- a route's own part, at a node of the route, once
pub record IsOnce (IsNode : SlotRoute → Address → Type 0) (asked : Request) (route : SlotRoute) (try : Try) : Type 0 where
  pub part : map Some try.part ≡ part_by_slot asked.names.registered asked.arguments route.slot
  pub node : Address
  pub is_node : IsNode route node
  pub places : try.places ≡ node ∷ []
  pub none : try.retries ≡ 0

module _ (IsNode : SlotRoute → Address → Type 0) (asked : Request) where
  pub each_once : (routes : List SlotRoute) (targets : List Target) → AllZip (IsTarget IsNode asked) routes targets → AllZip (IsOnce IsNode asked) routes (tries_with targets [])
  each_once [] [] each = tt
  each_once [] (t ∷ targets) each = absurd each
  each_once (r ∷ routes) [] each = absurd each
  each_once (r ∷ routes) (t ∷ targets) each = (record { part = each.0.1; node = t.0; is_node = each.0.0; places = refl; none = refl }, each_once routes targets each.1)

  entry_once : (route : SlotRoute) (try : Try) (is : IsOnce IsNode asked route try) (ending : Ending) → IsEntryOf IsNode asked ending route (entry is.node try.part ending)
  entry_once route try is ending = (is.is_node, is.part, refl)

  pub sent_once : (routes : List SlotRoute) (old new : List Entry) → AreTried (IsOnce IsNode asked) routes old new → AreSent IsNode asked routes old new
  sent_once [] old new tried = record { entries = []; grew = tried ∙ sym (append-nil old); each = tt }
  sent_once (route ∷ routes) old new (try, mid, is, first, rest) =
      let later = sent_once routes mid new rest in
      let one : Entry = entry is.node try.part answered in
      record {
        entries = one ∷ later.entries;
        grew = later.grew ∙ ap (λ es. es ++ later.entries) (tried_once try answered is.node [] old mid is.none is.places first) ∙ append_assoc old (one ∷ []) later.entries;
        each = (entry_once route try is answered, later.each);
      }

  pub ends_once : (route : SlotRoute) (ending : Option Ending) (old new : List Entry) → EndsTried (IsOnce IsNode asked) route ending old new → EndsOnce IsNode asked route ending old new
  ends_once route None old new (try, is, tried) = tried_none try old new is.none tried
  ends_once route (Some ending) old new (try, is, tried) = (entry is.node try.part ending, entry_once route try is ending, tried_once try ending is.node [] old new is.none is.places tried)

abbrev pub delivered_once : (IsNode : SlotRoute → Address → Type 0) (r : Request) (old new : List Entry) → AreAllTried (IsOnce IsNode) r old new → IsDelivered IsNode r old new
delivered_once IsNode r old new d = record { routes = d.routes; command = d.command; drivable = d.drivable; trace = sent_once IsNode r (in_order d.routes r.order) old new d.trace }

driven_once : {C : Type 0} (IsNode : SlotRoute → Address → Type 0) (step : Step C) (r : Request) (old new : State C) (value : Reply) → IsRetried (IsOnce IsNode) step r old new value → IsDriven IsNode step r old new value
driven_once IsNode step r old new value d = record { delivered = delivered_once IsNode r old.trace new.trace d.delivered; keyspace = d.keyspace; reply = d.reply }

module _ {C : Type 0} (IsNode : SlotRoute → Address → Type 0) (step : Step C) (r : Request) (order : List ℕ) (registered : Registrations) (old new : State C) (plan : Plan) (command : MultiKey) (is : IsReady IsNode r plan command) (in_this : r.order ≡ order) (of_these : r.names.registered ≡ registered) (names : NamesOnce (length plan.split.routes) order) where
  abbrev pub tries : List Try
  tries = tries_with (targets plan) []

  pub names_asked : NamesOnce (length plan.split.routes) r.order
  names_asked = subst (λ o. NamesOnce (length plan.split.routes) o) (sym in_this) names

  pub each_try : AllZip (IsOnce IsNode r) (map (λ t. t.0) plan.split.routes) tries
  each_try = each_once IsNode r (map (λ t. t.0) plan.split.routes) (targets plan) is.targets_are

  -- what was sent of a plan, each part once
  abbrev pub plan_tried : SentInTurn (in_order tries order) old.trace new.trace → AreAllTried (IsOnce IsNode) r old.trace new.trace
  plan_tried tried = all_tried IsNode step r old new plan command is names_asked (IsOnce IsNode r) tries each_try (subst (λ o. SentInTurn (in_order tries o) old.trace new.trace) (sym in_this) tried)

  pub plan_driven : (value : Reply) → SentInTurn (in_order tries order) old.trace new.trace → new.keyspace ≡ keyspace_after step command old.keyspace → value ≡ reply_to step command old.keyspace → IsDriven IsNode step r old new value
  plan_driven value tried keyspace reply = driven_once IsNode step r old new value (record { delivered = plan_tried tried; keyspace = keyspace; reply = reply })

  pub plan_cut : (kept : Type 0) (may_refuse : ℕ → Ending → Type 0) (fault : DriveFault) (count : ℕ) → AreEndedEarly kept registered step may_refuse plan tries order old.keyspace new.keyspace old.trace new.trace new.mark fault count
      → AreEnded (AreSent IsNode r) (EndsOnce IsNode r) step r kept old new may_refuse count fault
  plan_cut kept may_refuse fault count ended =
      let short = cut_short IsNode step r old new plan command is names_asked (IsOnce IsNode r) tries each_try kept may_refuse count fault
      (subst (λ o. AreEndedEarly kept r.names.registered step may_refuse plan tries o old.keyspace new.keyspace old.trace new.trace new.mark fault count) (sym in_this)
      (subst (λ (reg : Registrations). AreEndedEarly kept reg step may_refuse plan tries order old.keyspace new.keyspace old.trace new.trace new.mark fault count) (sym of_these) ended)) in
      (cut_by (AreTried (IsOnce IsNode r)) (AreSent IsNode r) (EndsTried (IsOnce IsNode r)) (EndsOnce IsNode r) (sent_once IsNode r) (ends_once IsNode r) r old new may_refuse fault count short.0, short.1)

-- an order that does not name each route of a plan once
pub bad_order : (r : Request) (order : List ℕ) (plan : Plan) (command : MultiKey) → IsPlanFor r plan command → r.order ≡ order → (NamesOnce (length plan.split.routes) order → ⊥) → IsCauseBeforeSending r early.BadOrder
bad_order r order plan command is in_this not = (
  map (λ t. t.0) plan.split.routes,
  command,
  is.is_covered,
  λ named. not (subst (λ o. NamesOnce (length plan.split.routes) o) in_this (subst (λ n. NamesOnce n r.order) (length-map plan.split.routes (λ t. t.0)) named)),
)

pub bad_order_is_no_reply : (reply : ErrorParts) → early.BadOrder ≡ early.Reply reply → ⊥
bad_order_is_no_reply reply is = cc
