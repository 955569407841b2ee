-- What stands when the parts were sent, or the sends stopped.
use Rattle.std.proofs.Common.{◌≡◌, ◌<◌, ℕ, zero, suc, ◌+◌, List, [], ◌∷◌, ◌++◌, Option, Some, None, All, inl, inr, refl, sym, ap, ◌∙◌, arith, subst, map, take, length, get_or}
use Rattle.std.proofs.lemmas.Grind.{common_steps}
use Rattle.std.specs.Prelude.{slice_get, Bool, OnOk}
use Rattle.std.proofs.Common.{⊎_elim, Result, Ok, Err, IfOk}
use Rattle.std.specs.List.{AllZip}
use Rattle.std.specs.Option.{option_to_list}
use Rattle.std.proofs.lemmas.List.{length-map}
use Rattle.std.proofs.lemmas.List.Elements.{All-head, All-tail}
use Rattle.std.proofs.lemmas.Option.{slice_get-get_or}
use Rattle.std.proofs.lemmas.Simd.{map-map}
use Rattle.resp_core.specs.ErrorParts.{ErrorParts}
use Rattle.cluster_slots.specs.Address.{Address}
use Rattle.cluster_slots.specs.SlotRoute.{SlotRoute}
use Rattle.redis_routing.specs.Registry.{Registrations}
use Rattle.redis_cluster.specs.MultiKey.{MultiKey}
use Rattle.redis_cluster.specs.Orders.{NamesOnce, in_order, tuples_of_slots}
use Rattle.redis_cluster.specs.Trace.{Entry, Ending, answered, refused, redirected, lost}
use Rattle.redis_cluster.specs.Unsplit.{Step, Keyspace, act_of, after, keyspace_after}
use Rattle.redis_cluster.specs.declared.nodes.SendError.{SendError}
use Rattle.redis_cluster.specs.declared.nodes.SendError.TheVariants as sent
use Rattle.redis_cluster.proofs.Orders.{map-in_order}
use Rattle.redis_cluster.specs.Driven.{Request, IsDrivable, IsDeliveredBy, RoutesTookEffect}
use Rattle.redis_cluster.specs.State.{State}
use Rattle.redis_cluster.specs.Ended.{AreEndedEarly, AreStopped}
use Rattle.redis_cluster.specs.Faults.{fault_of_send, IsBefore, IsReachOf, TookEffect, WereCutShort, whole, up_to}
use Rattle.redis_cluster.specs.Plan.{Plan}
use Rattle.redis_routing.specs.Split.{slots_of}
use Rattle.redis_cluster.specs.Retry.{Try, IsCause, SentInTurn}
use Rattle.redis_cluster.specs.Retried.{AreTried, EndsTried}
use Rattle.redis_cluster.specs.Sends.{ending_of, SlotsTookEffect}
use Rattle.redis_cluster.specs.declared.fault.DriveFault.{DriveFault}
use Rattle.redis_cluster.specs.declared.fault.DriveFault.TheVariants as early
use Rattle.redis_cluster.specs.Ready.{IsReady}
use Rattle.redis_cluster.proofs.Constructors.{same_some}

-- what holds of a call without its value holds of the value, too
pub traced_so : {T E : Type 0} {A : Type 0} (Q : T → Type 0) (r : Result T E) → ((x : T) → A → Q x) → OnOk r A → IfOk r Q
traced_so Q (Ok x) f a = f x a
traced_so Q (Err e) f a = tt

pub all_three : {T E : Type 0} {A B : Type 0} (P Q : T → Type 0) (r : Result T E) → ((x : T) → A → B → P x → Q x) → OnOk r A → OnOk r B → IfOk r P → IfOk r Q
all_three P Q (Ok x) f a b p = f x a b p
all_three P Q (Err e) f a b p = tt

module _ {A B : Type 0} (R : A → B → Type 0) where
  both_append : (xs us : List A) (ys vs : List B) → AllZip R xs ys → AllZip R us vs → AllZip R (xs ++ us) (ys ++ vs)
  both_append [] us [] vs first rest = rest
  both_append [] us (y ∷ ys) vs first rest = absurd first
  both_append (x ∷ xs) us [] vs first rest = absurd first
  both_append (x ∷ xs) us (y ∷ ys) vs first rest = (first.0, both_append xs us ys vs first.1 rest)

  both_at : (xs : List A) (ys : List B) (k : ℕ) → AllZip R xs ys → AllZip R (option_to_list (slice_get xs k)) (option_to_list (slice_get ys k))
  both_at [] [] k each = tt
  both_at [] (y ∷ ys) k each = absurd each
  both_at (x ∷ xs) [] k each = absurd each
  both_at (x ∷ xs) (y ∷ ys) zero each = (each.0, tt)
  both_at (x ∷ xs) (y ∷ ys) (suc k) each = both_at xs ys k each.1

  -- what holds of two lists, place by place, holds of both in another order
  pub both_in_order : (xs : List A) (ys : List B) (order : List ℕ) → AllZip R xs ys → AllZip R (in_order xs order) (in_order ys order)
  both_in_order xs ys [] each = tt
  both_in_order xs ys (k ∷ order) each = grind (arith, both_append, both_at, both_in_order xs ys order each)

  -- beside each of the second stands one of the first
  pub beside : (xs : List A) (ys : List B) (k : ℕ) (y : B) → AllZip R xs ys → slice_get ys k ≡ Some y → (x : A) × (slice_get xs k ≡ Some x) × R x y
  beside [] [] k y each at = absurd (cc at)
  beside [] (v ∷ ys) k y each at = absurd each
  beside (x ∷ xs) [] k y each at = absurd each
  beside (x ∷ xs) (v ∷ ys) zero y each at = (x, refl, subst (R x) (same_some v y at) each.0)
  beside (x ∷ xs) (v ∷ ys) (suc k) y each at = beside xs ys k y each.1 at

-- the first of an order are those of the order's first
take_in_order : {X : Type 0} (xs : List X) (count : ℕ) (order : List ℕ) → All (λ k. k < length xs) order → take count (in_order xs order) ≡ in_order xs (take count order)
take_in_order xs zero order within = refl
take_in_order xs (suc count) [] within = refl
take_in_order [] (suc count) (k ∷ order) within = absurd (let none : k < 0 = All-head (λ j. j < 0) k order within in omega (arith, none))
take_in_order (x ∷ xs) (suc count) (k ∷ order) within =
    let at : slice_get (x ∷ xs) k ≡ Some (get_or (x ∷ xs) k x) = slice_get-get_or (x ∷ xs) k x (All-head (λ j. j < length (x ∷ xs)) k order within) in
    rw at (ap (λ ys. get_or (x ∷ xs) k x ∷ ys) (take_in_order (x ∷ xs) count order (All-tail (λ j. j < length (x ∷ xs)) k order within)))

same_end : (one other : Option Ending) → up_to one ≡ up_to other → one ≡ other
same_end one other is = cc

past_none : (ending : Option Ending) → whole ≡ up_to ending → ⊥
past_none ending is = cc

-- what was tried for routes, by the tries of each
tried_all : (IsTry : SlotRoute → Try → Type 0) (routes : List SlotRoute) (tries : List Try) (old new : List Entry) → AllZip IsTry routes tries → SentInTurn tries old new → AreTried IsTry routes old new
tried_all IsTry [] [] old new each tried = tried
tried_all IsTry [] (t ∷ tries) old new each tried = absurd each
tried_all IsTry (r ∷ routes) [] old new each tried = absurd each
tried_all IsTry (r ∷ routes) (t ∷ tries) old new each tried = (t, tried.0, each.0, tried.1, tried_all IsTry routes tries tried.0 new each.1 tried.2)

-- The sends were cut short, and if nodes keep to one meaning, what was answered took effect, and the replies fit.
abbrev pub AreEnded : (Answered : List SlotRoute → List Entry → List Entry → Type 0) (Ends : SlotRoute → Option Ending → List Entry → List Entry → Type 0) {C : Type 0} → Step C → Request → Type 0 → (old new : State C) → (ℕ → Ending → Type 0) → ℕ → DriveFault → Type 0
AreEnded Answered Ends step r kept old new may_refuse count fault =
    (cut : WereCutShort Answered Ends r old new may_refuse fault count)
    × (kept → TookEffect r old new step cut.routes cut.command count cut.reach × ((error : ErrorParts) → fault ≡ early.Reply error → ⊥))

module _ {C : Type 0} (IsNode : SlotRoute → Address → Type 0) (step : Step C) (r : Request) (old new : State C) (plan : Plan) (command : MultiKey) (is : IsReady IsNode r plan command) where
  abbrev routes : List SlotRoute
  routes = map (λ t. t.0) plan.split.routes

  abbrev slots : List ℕ
  slots = slots_of plan.split.routes

  routes_many : length routes ≡ length plan.split.routes
  routes_many = length-map plan.split.routes (λ t. t.0)

  slots_are : map (λ (route : SlotRoute). route.slot) routes ≡ slots
  slots_are = map-map (λ (route : SlotRoute). route.slot) (λ t. t.0) plan.split.routes

  module _ (order : NamesOnce (length plan.split.routes) r.order) where
    of_routes : NamesOnce (length routes) r.order
    of_routes = subst (λ n. NamesOnce n r.order) (sym routes_many) order

    pub drivable : IsDrivable r routes command
    drivable = record { is_covered = is.is_covered; order = of_routes }

    slots_first : (count : ℕ) → map (λ (route : SlotRoute). route.slot) (take count (in_order routes r.order)) ≡ in_order slots (take count r.order)
    slots_first count = grind (arith, take_in_order, of_routes, map-in_order, slots_are)

    left_by : (count : ℕ) → new.keyspace ≡ after (act_of step command) (tuples_of_slots (in_order slots (take count r.order)) command.tuples) old.keyspace → RoutesTookEffect step old new command (take count (in_order routes r.order))
    left_by count keyspace = keyspace ∙ ap (λ xs. after (act_of step command) (tuples_of_slots xs command.tuples) old.keyspace) (sym (slots_first count))

    module _ (IsTry : SlotRoute → Try → Type 0) (tries : List Try) (are : AllZip IsTry routes tries) where
      tried_first : (count : ℕ) (trace : List Entry) → SentInTurn (in_order tries (take count r.order)) old.trace trace → AreTried IsTry (take count (in_order routes r.order)) old.trace trace
      tried_first count trace tried = grind (arith, common_steps, take_in_order routes count r.order of_routes.below, tried_all IsTry (in_order routes (take count r.order)) (in_order tries (take count r.order)) old.trace trace (both_in_order IsTry routes tries (take count r.order) are) tried, both_in_order IsTry routes tries (take count r.order) are)

      -- all were tried
      pub tried_whole : SentInTurn (in_order tries r.order) old.trace new.trace → AreTried IsTry (in_order routes r.order) old.trace new.trace
      tried_whole tried = tried_all IsTry (in_order routes r.order) (in_order tries r.order) old.trace new.trace (both_in_order IsTry routes tries r.order are) tried

      abbrev pub all_tried : SentInTurn (in_order tries r.order) old.trace new.trace → IsDeliveredBy (AreTried IsTry) r old.trace new.trace
      all_tried tried = record { routes = routes; command = command; drivable = drivable; trace = tried_whole tried }

      took : (ending : Option Ending) (count : ℕ) → SlotsTookEffect (act_of step command) command.tuples (in_order slots (take count r.order)) (in_order slots (take (count + 1) r.order)) old.keyspace new.keyspace ending
          → TookEffect r old new step routes command count (up_to ending)
      took None count e = left_by count e
      took (Some answered) count e = left_by count e
      took (Some (refused error)) count e = left_by count e
      took (Some (redirected redirect)) count e = left_by count e
      took (Some (lost error)) count e = ⊎_elim (λ was. inl (left_by count was)) (λ next. inr (left_by (count + 1) next)) e

      module _ (kept : Type 0) (may_refuse : ℕ → Ending → Type 0) (count : ℕ) where
        abbrev Stops : DriveFault → Type 0
        Stops = AreEnded (AreTried IsTry) (EndsTried IsTry) step r kept old new may_refuse count

        -- the sends reached only up to a route
        at_route : (ending : Option Ending) (fault : DriveFault) → IsReachOf fault command.form (up_to ending) → ((error : ErrorParts) → fault ≡ early.Reply error → ⊥)
            → AreStopped kept step may_refuse command plan tries r.order count old.keyspace new.keyspace old.trace new.trace new.mark ending → Stops fault
        at_route ending fault reach fits s =
            let own = beside IsTry (in_order routes r.order) (in_order tries r.order) count s.try (both_in_order IsTry routes tries r.order are) s.next in (
              record {
                routes = routes;
                command = command;
                drivable = drivable;
                reach = up_to ending;
                reach_is = reach;
                went = (own.0, s.before, own.1, tried_first count s.before s.trace, (s.try, own.2, s.tried));
                allowed = λ e is. subst (λ (x : Option Ending). IsCause may_refuse (length new.trace) new.mark x) (same_end ending e is) s.cause;
              },
              λ now. (took ending count (s.keyspace now), fits),
            )

        at_send : (error : SendError) → AreStopped kept step may_refuse command plan tries r.order count old.keyspace new.keyspace old.trace new.trace new.mark (ending_of error) → Stops (fault_of_send error)
        at_send (sent.Refused error) s = at_route (Some (refused error)) (early.Node error) refl (λ e is. cc is) s
        at_send (sent.Redirected redirect) s = at_route (Some (redirected redirect)) (early.Redirected redirect) refl (λ e is. cc is) s
        at_send (sent.Lost error) s = at_route (Some (lost error)) (early.Lost error) refl (λ e is. cc is) s
        at_send sent.Memory s = at_route None early.Memory (inl refl) (λ e is. cc is) s

        -- they reached past all routes
        past_all : (fault : DriveFault) → IsReachOf fault command.form whole → count ≡ length plan.split.routes → SentInTurn (in_order tries r.order) old.trace new.trace
            → (kept → (new.keyspace ≡ keyspace_after step command old.keyspace) × ((error : ErrorParts) → fault ≡ early.Reply error → ⊥)) → Stops fault
        past_all fault reach all tried effect = (
          record {
            routes = routes;
            command = command;
            drivable = drivable;
            reach = whole;
            reach_is = reach;
            went = (all ∙ sym routes_many, tried_whole tried);
            allowed = λ e is. absurd (past_none e is);
          },
          effect,
        )

        -- a plan that was not driven to its end was cut short, and its fault says where
        pub cut_short : (fault : DriveFault) → AreEndedEarly kept r.names.registered step may_refuse plan tries r.order old.keyspace new.keyspace old.trace new.trace new.mark fault count → Stops fault
        cut_short fault (inl ended) = subst Stops (sym ended.fault_is) (at_send ended.error (ended.stopped command is.plan_is))
        cut_short fault (inr (inl ended)) = grind (arith, past_all)
        cut_short fault (inr (inr ended)) = grind (arith, past_all)

-- a fault of the sends is none of those that come before the first
late_send : (error : SendError) → IsBefore (fault_of_send error) → ⊥
late_send (sent.Refused error) before = before
late_send (sent.Redirected redirect) before = before
late_send (sent.Lost error) before = before
late_send sent.Memory before = before

pub ended_late : {C : Type 0} (step : Step C) (kept : Type 0) (registered : Registrations) (may_refuse : ℕ → Ending → Type 0) (plan : Plan) (tries : List Try) (order : List ℕ) (old_keys new_keys : Keyspace C) (old new : List Entry) (mark : Bool) (fault : DriveFault) (count : ℕ)
    → AreEndedEarly kept registered step may_refuse plan tries order old_keys new_keys old new mark fault count → IsBefore fault → ⊥
ended_late step kept registered may_refuse plan tries order old_keys new_keys old new mark fault count (inl e) before = late_send e.error (subst IsBefore e.fault_is before)
ended_late step kept registered may_refuse plan tries order old_keys new_keys old new mark fault count (inr (inl e)) before = let none : IsBefore early.Memory = subst IsBefore e.fault_is before in none
ended_late step kept registered may_refuse plan tries order old_keys new_keys old new mark fault count (inr (inr e)) before = let none : IsBefore (early.Reply e.error) = subst IsBefore e.fault_is before in none

-- nor is it a refusal of the replies
pub no_reply_fault : (error : SendError) (reply : ErrorParts) → fault_of_send error ≡ early.Reply reply → ⊥
no_reply_fault (sent.Refused error) reply is = cc
no_reply_fault (sent.Redirected redirect) reply is = cc
no_reply_fault (sent.Lost error) reply is = cc
no_reply_fault sent.Memory reply is = cc

pub memory_is_no_reply : (reply : ErrorParts) → early.Memory ≡ early.Reply reply → ⊥
memory_is_no_reply reply is = cc

pub same_reply : (one other : ErrorParts) → early.Reply one ≡ early.Reply other → one ≡ other
same_reply one other is = cc
