-- What was sent for the slots of a command, as far as it was answered: each part once, or the first parts before a fault.
use Rattle.std.proofs.Common.{◌≡◌, ◌<◌, ◌⊎◌, All, Option, inl, inr, ℕ, zero, suc, List, [], ◌∷◌, ◌++◌, Bool, true, false, None, Some, refl, sym, ap, ◌∙◌, subst, arith, map, take, length, append_assoc}
use Rattle.std.proofs.lemmas.Grind.{common_steps}
use Rattle.std.specs.Prelude.{slice_get, ⊤}
use Rattle.std.specs.List.{AllZip}
use Rattle.std.proofs.lemmas.List.{append-nil, take_all}
use Rattle.std.proofs.lemmas.List.Elements.{All-tail, All-weaker}
use Rattle.cluster_slots.specs.Address.{Address}
use Rattle.cluster_slots.specs.SlotRoute.{SlotRoute}
use Rattle.redis_routing.specs.Command.{Arguments}
use Rattle.redis_routing.specs.Registry.{Registrations}
use Rattle.redis_cluster.specs.Retry.{Try, AreEndedSo, is_answered, last_or}
use Rattle.redis_cluster.specs.Driven.{Request, IsDelivered, IsDrivable, IsEntryOf, AreSent}
use Rattle.redis_cluster.specs.Faults.{Reach, whole, up_to, WentOut, EndsOnce, IsCut}
use Rattle.redis_cluster.specs.MultiKey.{MultiKey, part_by_slot}
use Rattle.redis_cluster.specs.Orders.{in_order}
use Rattle.redis_cluster.specs.State.{State}
use Rattle.redis_cluster.specs.Trace.{Entry, Ending, answered}
use Rattle.redis_cluster.specs.declared.fault.DriveFault.{DriveFault}
use Rattle.redis_cluster.specs.Retried.{AreTried, AreAllTried}
use Rattle.redis_cluster.proofs.Constructors.{same_some, none_apart}
use Rattle.redis_cluster.proofs.Laws.{answer_is_last}

-- An entry that was answered is of the next slot.
abbrev pub IsOfNext : (ℕ → Type 0) → (List ℕ → Type 0) → Bool → List ℕ → Type 0
IsOfNext IsOwn Rest true [] = ⊥
IsOfNext IsOwn Rest true (slot ∷ slots) = IsOwn slot × Rest slots
IsOfNext IsOwn Rest false slots = Rest slots

-- The entries that were answered are of the first of these slots, in their order.
abbrev pub AreOfSlots : Registrations → Arguments → List ℕ → List Entry → Type 0
AreOfSlots registered args slots [] = ⊤
AreOfSlots registered args slots (e ∷ es) = IsOfNext (λ slot. map Some e.args ≡ part_by_slot registered args slot) (λ rest. AreOfSlots registered args rest es) (is_answered e.ending) slots

abbrev pub slots_in_routes : List SlotRoute → List ℕ
slots_in_routes routes = map (λ route. route.slot) routes

-- The entries by which the trace grew are so of the command's slots, in the order of the request.
pub record AreSentInOrder (r : Request) (old new : List Entry) : Type 0 where
  pub routes : List SlotRoute
  pub command : MultiKey
  pub drivable : IsDrivable r routes command
  pub entries : List Entry
  pub grew : new ≡ old ++ entries
  pub each : AreOfSlots r.names.registered r.arguments (slots_in_routes (in_order routes r.order)) entries

module _ (registered : Registrations) (args : Arguments) where
  one_answered : (e : Entry) (es : List Entry) (slot : ℕ) (slots : List ℕ) → map Some e.args ≡ part_by_slot registered args slot → e.ending ≡ answered → AreOfSlots registered args slots es → AreOfSlots registered args (slot ∷ slots) (e ∷ es)
  one_answered e es slot slots own is rest =
      subst (λ b. IsOfNext (λ slot. map Some e.args ≡ part_by_slot registered args slot) (λ rest. AreOfSlots registered args rest es) b (slot ∷ slots)) (sym (ap is_answered is)) (own, rest)

  -- an entry of the part of the next route, if there is one, whether it is answered or not
  one_more : (e : Entry) (route : SlotRoute) → map Some e.args ≡ part_by_slot registered args route.slot → (routes : List SlotRoute) → slice_get routes 0 ≡ Some route → AreOfSlots registered args (slots_in_routes routes) (e ∷ [])
  one_more e route own [] next = absurd (none_apart route next)
  one_more e route own (x ∷ routes) next = grind (arith, common_steps)

module _ (IsNode : SlotRoute → Address → Type 0) (r : Request) where
  -- the first routes, each sent once, and then what was sent for the next one
  of_first : (count : ℕ) (routes : List SlotRoute) (es more : List Entry) → AllZip (IsEntryOf IsNode r answered) (take count routes) es
      → ((rest : List SlotRoute) → slice_get rest 0 ≡ slice_get routes count → AreOfSlots r.names.registered r.arguments (slots_in_routes rest) more) → AreOfSlots r.names.registered r.arguments (slots_in_routes routes) (es ++ more)
  of_first zero routes [] more sent last = last routes refl
  of_first zero routes (e ∷ es) more sent last = absurd sent
  of_first (suc count) [] [] more sent last = last [] refl
  of_first (suc count) [] (e ∷ es) more sent last = absurd sent
  of_first (suc count) (route ∷ routes) [] more sent last = absurd sent
  of_first (suc count) (route ∷ routes) (e ∷ es) more sent last =
      one_answered r.names.registered r.arguments e (es ++ more) route.slot (slots_in_routes routes) sent.0.1 sent.0.2 (of_first count routes es more sent.1 last)

  by_first : (routes : List SlotRoute) (command : MultiKey) (count : ℕ) (old mid new more : List Entry) → IsDrivable r routes command → AreSent IsNode r (take count (in_order routes r.order)) old mid → new ≡ mid ++ more
      → ((rest : List SlotRoute) → slice_get rest 0 ≡ slice_get (in_order routes r.order) count → AreOfSlots r.names.registered r.arguments (slots_in_routes rest) more) → AreSentInOrder r old new
  by_first routes command count old mid new more drivable sent grew last = grind (arith, common_steps, append_assoc, of_first)

  by_all : (routes : List SlotRoute) (command : MultiKey) (old new : List Entry) → IsDrivable r routes command → AreSent IsNode r (in_order routes r.order) old new → AreSentInOrder r old new
  by_all routes command old new drivable sent =
      let count : ℕ = length (in_order routes r.order) in
      let all : take count (in_order routes r.order) ≡ in_order routes r.order = take_all count (in_order routes r.order) (omega arith) in
      by_first routes command count old new new [] drivable (subst (λ rs. AreSent IsNode r rs old new) (sym all) sent) (sym (append-nil new)) (λ rest next. tt)

  -- each part was sent once
  pub by_delivered : (old new : List Entry) → IsDelivered IsNode r old new → AreSentInOrder r old new
  by_delivered old new d = by_all d.routes d.command old new d.drivable d.trace

  by_reach : (routes : List SlotRoute) (command : MultiKey) (count : ℕ) (reach : Reach) (old new : List Entry) → IsDrivable r routes command → WentOut (AreSent IsNode r) (EndsOnce IsNode r) r routes count reach old new → AreSentInOrder r old new
  by_reach routes command count whole old new drivable went = by_all routes command old new drivable went.1
  by_reach routes command count (up_to None) old new drivable (route, before, next, sent, same) =
      by_first routes command count old before new [] drivable sent (same ∙ sym (append-nil before)) (λ rest next. tt)
  by_reach routes command count (up_to (Some ending)) old new drivable (route, before, next, sent, last) = grind (arith, by_first routes command count old before new (last.0 ∷ []) drivable sent last.2, one_more)

  -- a fault came before the first send, or the first parts were sent once
  pub by_cut : {C : Type 0} (old new : State C) (may_refuse : ℕ → Ending → Type 0) (fault : DriveFault) (count : ℕ) → IsCut IsNode r old new may_refuse fault count → (new.trace ≡ old.trace) ⊎ AreSentInOrder r old.trace new.trace
  by_cut old new may_refuse fault count (inl early) = inl (ap (λ (s : State _). s.trace) early.2)
  by_cut old new may_refuse fault count (inr cut) = inr (by_reach cut.routes cut.command count cut.reach old.trace new.trace cut.drivable cut.went)

-- what is tried for a route has the part of its slot
abbrev pub IsOwnTry : Request → SlotRoute → Try → Type 0
IsOwnTry r route try = map Some try.part ≡ part_by_slot r.names.registered r.arguments route.slot

module _ (registered : Registrations) (args : Arguments) (slot : ℕ) (slots : List ℕ) (more : List Entry) (rest : AreOfSlots registered args slots more) where
  -- of some attempts of a part the last one alone was answered
  by_attempts : (was : Option Ending) (es : List Entry) → All (λ e. map Some e.args ≡ part_by_slot registered args slot) es → ((k : ℕ) (e : Entry) → slice_get es k ≡ Some e → suc k < length es → is_answered e.ending ≡ false) → 0 < length es → last_or was es ≡ Some answered
      → AreOfSlots registered args (slot ∷ slots) (es ++ more)
  by_attempts was [] own others some last = absurd (omega (arith, some))
  by_attempts was (e ∷ []) own others some last = one_answered registered args e more slot slots (own 0 e (omega arith)) (same_some e.ending answered last) rest
  by_attempts was (e ∷ f ∷ es) own others some last =
      subst (λ b. IsOfNext (λ s. map Some e.args ≡ part_by_slot registered args s) (λ left. AreOfSlots registered args left (f ∷ es ++ more)) b (slot ∷ slots)) (sym (others 0 e refl (omega arith)))
      (by_attempts (Some e.ending) (f ∷ es) (All-tail (λ (x : Entry). map Some x.args ≡ part_by_slot registered args slot) e (f ∷ es) own) (λ k x at before. others (suc k) x at (omega (arith, before))) (omega arith) last)

  by_ended : (try : Try) (es : List Entry) → map Some try.part ≡ part_by_slot registered args slot → AreEndedSo try (Some answered) es → AreOfSlots registered args (slot ∷ slots) (es ++ more)
  by_ended try [] own ended = absurd (none_apart answered ended.1)
  by_ended try (e ∷ es) own ended =
      by_attempts None (e ∷ es) (All-weaker (λ (x : Entry). x.args ≡ try.part) (λ x. map Some x.args ≡ part_by_slot registered args slot) (λ x is. ap (map Some) is ∙ own) (e ∷ es) ended.0.begun.part)
      (answer_is_last try (e ∷ es) ended.0.begun) (omega arith) ended.1

module _ (IsTry : Request → SlotRoute → Try → Type 0) (r : Request) (own : (route : SlotRoute) (try : Try) → IsTry r route try → IsOwnTry r route try) where
  of_tried : (routes : List SlotRoute) (old new : List Entry) → AreTried (IsTry r) routes old new → (entries : List Entry) × (new ≡ old ++ entries) × AreOfSlots r.names.registered r.arguments (slots_in_routes routes) entries
  of_tried [] old new same = ([], same ∙ sym (append-nil old), tt)
  of_tried (route ∷ routes) old new (try, mid, is, first, later) = grind (arith, common_steps, append_assoc, by_ended, of_tried routes mid new later)

  -- each part was tried until it was answered
  pub by_tried : (old new : List Entry) → AreAllTried IsTry r old new → AreSentInOrder r old new
  by_tried old new d = grind (arith, common_steps, of_tried)
