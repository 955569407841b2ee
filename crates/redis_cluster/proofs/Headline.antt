-- If a command can be driven and no node may refuse, only memory is left as a fault.
use Rattle.std.proofs.Common.{◌≡◌, inl, inr, ◌<◌, ℕ, ◌+◌, List, [], ◌∷◌, ◌++◌, Option, Some, None, All, refl, sym, ap, ◌∙◌, arith, subst, take, length}
use Rattle.std.proofs.lemmas.List.{length-append, length-take-le, length_push, append_assoc, append_cancel_left}
use Rattle.std.proofs.lemmas.List.Elements.{All-head, All-tail}
use Rattle.std.proofs.lemmas.Option.{slice_get_within}
use Rattle.resp_core.specs.ErrorParts.{ErrorParts}
use Rattle.cluster_slots.specs.Address.{Address}
use Rattle.cluster_slots.specs.SlotRoute.{SlotRoute}
use Rattle.cluster_map.specs.ReplyNode.{IsCovered}
use Rattle.redis_cluster.specs.Orders.{NamesOnce, in_order}
use Rattle.redis_cluster.specs.MultiKey.{MultiKey}
use Rattle.redis_cluster.specs.Trace.{Entry, Ending, answered, refused, redirected, lost}
use Rattle.redis_routing.specs.declared.info.Redirect.{Redirect}
use Rattle.redis_cluster.proofs.Once.{length-names_once}
use Rattle.redis_cluster.proofs.Orders.{length-in_order}
use Rattle.std.proofs.lemmas.Slice.Zip.{AllZip-long}
use Rattle.redis_cluster.specs.Unsplit.{Step}
use Rattle.redis_cluster.specs.Driven.{Request, command_routes_by, IsDrivable, IsEntryOf, AreSent, AreAllAnswered, IsUnhindered}
use Rattle.redis_cluster.specs.State.{State}
use Rattle.redis_cluster.specs.Retry.{IsCause}
use Rattle.redis_cluster.specs.Faults.{IsCauseBeforeSending, EndsOnce, IsFault, IsFaultBy, Reach, WentOut, WereCutShort, up_to}
use Rattle.redis_cluster.specs.declared.fault.DriveFault.{DriveFault}
use Rattle.redis_cluster.specs.declared.fault.DriveFault.TheVariants.{NotMultiKey, NotCovered, BadOrder, Memory, Node, Redirected, Lost, Reply}
use Rattle.redis_cluster.proofs.CommandParts.{covered_routes}
use Rattle.redis_cluster.proofs.Constructors.{same_some}

-- what holds of each holds of the one in the middle
middle : {X : Type 0} (P : X → Type 0) (xs : List X) (y : X) (ys : List X) → All P (xs ++ y ∷ ys) → P y
middle P [] y ys all = All-head P y ys all
middle P (x ∷ xs) y ys all = middle P xs y ys (All-tail P x (xs ++ y ∷ ys) all)

pub not_refused : (error : ErrorParts) → refused error ≡ answered → ⊥
not_refused error is = cc

pub not_redirected : (redirect : Redirect) → redirected redirect ≡ answered → ⊥
not_redirected redirect is = cc

pub not_lost : (error : ErrorParts) → lost error ≡ answered → ⊥
not_lost error is = cc

-- A command that can be driven has no fault before the first send but for memory.
module _ (r : Request) (asked : List SlotRoute) (command : MultiKey) (can : IsDrivable r asked command) where
  pub routes_same : (routes : List SlotRoute) → command_routes_by r.names r.arguments ≡ Some routes → routes ≡ asked
  routes_same routes is = same_some routes asked (sym is ∙ covered_routes r asked command can.is_covered)

  pub begins : (fault : DriveFault) → IsCauseBeforeSending r fault → fault ≡ Memory
  begins NotMultiKey f = absurd (let no_routes : command_routes_by r.names r.arguments ≡ None = f in cc (no_routes, covered_routes r asked command can.is_covered))
  begins (NotCovered slot) f =
      let first = f.2 in
      let all : All (λ route. IsCovered r.map route.slot) (first.before ++ first.route ∷ first.rest) =
      subst (All (λ (route : SlotRoute). IsCovered r.map route.slot)) (sym (routes_same f.0 f.1) ∙ first.routes_are) can.is_covered.covered in
      let own = middle (λ (route : SlotRoute). IsCovered r.map route.slot) first.before first.route first.rest all in
      absurd (first.uncovered own.0 own.1)
  begins BadOrder f = absurd (f.3 (subst (λ n. NamesOnce n r.order) (ap length (sym (routes_same f.0 (covered_routes r f.0 f.1 f.2)))) can.order))
  begins Memory f = refl
  begins (Node error) f = absurd f
  begins (Redirected redirect) f = absurd f
  begins (Lost error) f = absurd f
  begins (Reply error) f = absurd f

-- It has another fault only if a send was not answered.
module _ (Answered : List SlotRoute → List Entry → List Entry → Type 0) (Ends : SlotRoute → Option Ending → List Entry → List Entry → Type 0) (r : Request) {C : Type 0} (old new : State C) (may_refuse : ℕ → Ending → Type 0) (count : ℕ) where
  -- the sends reached up to a route, whose sends ended so
  pub record ReachedUpTo (ending : Ending) : Type 0 where
    pub routes : List SlotRoute
    pub command : MultiKey
    pub drivable : IsDrivable r routes command
    pub went : WentOut Answered Ends r routes count (up_to (Some ending)) old.trace new.trace
    pub allowed : IsCause may_refuse (length new.trace) new.mark (Some ending)

  pub reached : (fault : DriveFault) (ending : Ending) (cut : WereCutShort Answered Ends r old new may_refuse fault count) → cut.reach ≡ up_to (Some ending) → ReachedUpTo ending
  reached fault ending cut is = record {
    routes = cut.routes;
    command = cut.command;
    drivable = cut.drivable;
    went = subst (λ (reach : Reach). WentOut Answered Ends r cut.routes count reach old.trace new.trace) is cut.went;
    allowed = cut.allowed (Some ending) is;
  }

  pub only_memory : (asked : List SlotRoute) (command : MultiKey) → IsDrivable r asked command → (step : Step C) (fault : DriveFault) → IsFaultBy Answered Ends r old new may_refuse step fault count
      → ((ending : Ending) → ReachedUpTo ending → ending ≡ answered) → fault ≡ Memory
  only_memory asked command can step fault (inl early) each = begins r asked command can fault early.0
  only_memory asked command can step NotMultiKey (inr f) each = absurd f.0.reach_is
  only_memory asked command can step (NotCovered slot) (inr f) each = absurd f.0.reach_is
  only_memory asked command can step BadOrder (inr f) each = absurd f.0.reach_is
  only_memory asked command can step Memory (inr f) each = refl
  only_memory asked command can step (Node error) (inr f) each = absurd (not_refused error (each (refused error) (reached (Node error) (refused error) f.0 f.0.reach_is)))
  only_memory asked command can step (Redirected redirect) (inr f) each = absurd (not_redirected redirect (each (redirected redirect) (reached (Redirected redirect) (redirected redirect) f.0 f.0.reach_is)))
  only_memory asked command can step (Lost error) (inr f) each = absurd (not_lost error (each (lost error) (reached (Lost error) (lost error) f.0 f.0.reach_is)))
  only_memory asked command can step (Reply error) (inr f) each = absurd (f.2 error refl)

module _ {C : Type 0} (IsNode : SlotRoute → Address → Type 0) (step : Step C) (r : Request) (old new : State C) (may_refuse : ℕ → Ending → Type 0) where
  -- the last send was allowed to end so
  pub last_allowed : (fault : DriveFault) (count : ℕ) (ending : Ending) (cut : WereCutShort (AreSent IsNode r) (EndsOnce IsNode r) r old new may_refuse fault count) → cut.reach ≡ up_to (Some ending) → (number : ℕ) × may_refuse number ending
  last_allowed fault count ending cut is =
      let up = reached (AreSent IsNode r) (EndsOnce IsNode r) r old new may_refuse count fault ending cut is in
      let (route, before, next, sent, (last, of_route, grew)) = up.went in
      (length before, up.allowed (length before) (ap length grew ∙ length_push before last))

  -- if each entry that was added was answered, so was the last one
  last_answered : AreAllAnswered old.trace new.trace → (routes : List SlotRoute) (before : List Entry) → AreSent IsNode r routes old.trace before → (last : Entry) → new.trace ≡ before ++ last ∷ [] → last.ending ≡ answered
  last_answered (entries, grew, all) routes before sent last is = grind (arith, append_cancel_left, append_assoc, middle)

  pub carried_fault : (asked : List SlotRoute) (command : MultiKey) → IsDrivable r asked command → AreAllAnswered old.trace new.trace → (fault : DriveFault) (count : ℕ) → IsFault IsNode step r old new may_refuse fault count → fault ≡ Memory
  carried_fault asked command can all fault count f =
      only_memory (AreSent IsNode r) (EndsOnce IsNode r) r old new may_refuse count asked command can step fault f
      (λ ending up. let (route, before, next, sent, (last, of_route, grew)) = up.went in sym of_route.2 ∙ last_answered all (take count (in_order up.routes r.order)) before sent last grew)

  module _ (h : IsUnhindered may_refuse r old.trace) where
    must_answer : (count : ℕ) (ending : Ending) → ReachedUpTo (AreSent IsNode r) (EndsOnce IsNode r) r old new may_refuse count ending → ending ≡ answered
    must_answer count ending up =
        let (route, before, next, sent, (last, of_route, is)) = up.went in
        let order = up.drivable.order in
        let in_all : length (in_order up.routes r.order) ≡ length up.routes = length-in_order up.routes r.order order.below ∙ length-names_once (length up.routes) r.order order in
        let within : count < length (in_order up.routes r.order) = slice_get_within (in_order up.routes r.order) count route next in
        let taken : length (take count (in_order up.routes r.order)) ≡ count = length-take-le count (in_order up.routes r.order) (omega (arith, within)) in
        let many : length sent.entries ≡ length (take count (in_order up.routes r.order)) = AllZip-long (IsEntryOf IsNode r answered) (take count (in_order up.routes r.order)) sent.entries sent.each in
        let grew : length before ≡ length old.trace + length sent.entries = ap length sent.grew ∙ length-append old.trace sent.entries in
        let same : length up.routes ≡ length h.routes = ap length (routes_same r h.routes h.command h.drivable up.routes (covered_routes r up.routes up.command up.drivable.is_covered)) in
        h.willing (length before) (omega (arith, grew)) (omega (arith, grew, many, taken, within, in_all, same)) ending (up.allowed (length before) (ap length is ∙ length_push before last))

    pub headline_fault : (fault : DriveFault) (count : ℕ) → IsFault IsNode step r old new may_refuse fault count → fault ≡ Memory
    headline_fault fault count f = only_memory (AreSent IsNode r) (EndsOnce IsNode r) r old new may_refuse count h.routes h.command h.drivable step fault f (must_answer count)
