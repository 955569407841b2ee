-- Where sends are answered, each route has one attempt, and a command that can be driven only lacks memory.
use Rattle.std.proofs.Common.{◌≡◌, ⊎_elim, ◌<◌, ◌≤◌, ℕ, suc, ◌+◌, List, [], ◌∷◌, ◌++◌, Some, refl, sym, ap, ◌∙◌, arith, subst, map, take, length, append_assoc}
use Rattle.std.specs.Prelude.{slice_get}
use Rattle.std.specs.List.{AllZip}
use Rattle.std.proofs.lemmas.List.{append-nil, append_cancel_left, length-take-le}
use Rattle.std.proofs.lemmas.Option.{slice_get_within}
use Rattle.std.proofs.lemmas.Grind.{common_steps}
use Rattle.cluster_slots.specs.Address.{Address}
use Rattle.cluster_slots.specs.SlotRoute.{SlotRoute}
use Rattle.redis_cluster.specs.MultiKey.{MultiKey}
use Rattle.redis_cluster.specs.Orders.{in_order}
use Rattle.redis_cluster.specs.Trace.{Entry, Ending, answered}
use Rattle.redis_cluster.specs.Unsplit.{Step}
use Rattle.redis_cluster.specs.Retry.{Try, refusals, last_ending, next_place, next_address, AreBegun, AreAllowed, AttemptsOf}
use Rattle.redis_cluster.specs.Driven.{Request, IsDrivable, IsEntryOf, IsDelivered, AreAllAnswered, IsUnhindered}
use Rattle.redis_cluster.specs.State.{State}
use Rattle.redis_cluster.specs.Retried.{IsTryOf, AreTried, AreAllTried, EndsTried, IsRetryFault}
use Rattle.redis_cluster.specs.declared.fault.DriveFault.{DriveFault}
use Rattle.redis_cluster.specs.declared.fault.DriveFault.TheVariants.{Memory}
use Rattle.redis_cluster.proofs.CommandParts.{covered_routes}
use Rattle.redis_cluster.proofs.Constructors.{same_some, none_apart}
use Rattle.redis_cluster.proofs.Once.{length-names_once}
use Rattle.redis_cluster.proofs.Orders.{length-in_order}
use Rattle.redis_cluster.proofs.Tries.{all_at}
use Rattle.redis_cluster.proofs.Allowed.{at_front}
use Rattle.redis_cluster.proofs.Headline.{routes_same, only_memory, ReachedUpTo}

-- the first entries, so many, were answered
abbrev pub AreFirstAnswered : ℕ → List Entry → Type 0
AreFirstAnswered many entries = (number : ℕ) (e : Entry) → number < many → slice_get entries number ≡ Some e → e.ending ≡ answered

-- behind an answer no attempt comes
no_more : (try : Try) (e f : Entry) (es : List Entry) → AreBegun try (e ∷ f ∷ es) → e.ending ≡ answered → ⊥
no_more try e f es begun is =
    let next : next_place try.places (refusals (e ∷ [])) (Some e.ending) ≡ Some f.node = begun.address 1 f refl in
    none_apart f.node (sym (ap (λ x. next_place try.places (refusals (e ∷ [])) (Some x)) is) ∙ next)

-- attempts of which the first was answered are one
one_alone : (try : Try) (x : Ending) (es : List Entry) → AreBegun try es → last_ending es ≡ Some x → AreFirstAnswered 1 es → (e : Entry) × (es ≡ e ∷ []) × (x ≡ answered)
one_alone try x [] begun last first = absurd (none_apart x last)
one_alone try x (e ∷ []) begun last first = (e, refl, sym (same_some e.ending x last) ∙ first 0 e (omega arith) refl)
one_alone try x (e ∷ f ∷ es) begun last first = absurd (no_more try e f es begun (first 0 e (omega arith) refl))

module _ (IsTry : SlotRoute → Try → Type 0) where
  grows : (routes : List SlotRoute) (old new : List Entry) → AreTried IsTry routes old new → (entries : List Entry) × (new ≡ old ++ entries)
  grows [] old new same = ([], same ∙ sym (append-nil old))
  grows (route ∷ routes) old new (try, mid, is, first, rest) = grind (arith, common_steps, grows routes mid new rest)

  -- the entries behind those of the first attempts
  behind_first : (route : SlotRoute) (routes : List SlotRoute) (old m mid rest entries : List Entry) (try : Try) (first : AttemptsOf try (Some answered) old m) (later : AreTried IsTry routes m mid) → mid ++ rest ≡ old ++ entries
      → entries ≡ first.attempts ++ ((grows routes m mid later).0 ++ rest)
  behind_first route routes old m mid rest entries try first later same = grind (arith, grows, append_cancel_left, append_assoc)

  -- routes that were tried have one entry each, so the next ones were answered, too
  behind : (routes : List SlotRoute) (old mid rest entries : List Entry) (many : ℕ) → AreTried IsTry routes old mid → mid ++ rest ≡ old ++ entries → AreFirstAnswered (length routes + many) entries → AreFirstAnswered many rest
  behind [] old mid rest entries many tried same were = grind (arith, append_cancel_left)
  behind (route ∷ routes) old mid rest entries many (try, m, is, first, later) same were =
      let more = grows routes m mid later in
      let all = behind_first route routes old m mid rest entries try first later same in
      let one = one_alone try answered first.attempts first.ended.0.begun first.ended.1
      (λ number e below at. were number e (omega (arith, below)) (ap (λ es. slice_get es number) all ∙ at_front first.attempts (more.0 ++ rest) number e at)) in
      behind routes m mid rest (more.0 ++ rest) many later (ap (λ es. es ++ rest) more.1 ∙ append_assoc m more.0 rest)
      (λ number e below at. were (suc number) e (omega (arith, below)) (ap (λ es. slice_get es (suc number)) (all ∙ ap (λ es. es ++ (more.0 ++ rest)) one.1) ∙ at))

module _ (IsNode : SlotRoute → Address → Type 0) (r : Request) (retries : ℕ) where
  -- the one attempt of a route is its part, at its node
  one_entry : (route : SlotRoute) (try : Try) → IsTryOf IsNode retries r route try → (es : List Entry) → AreBegun try es → last_ending es ≡ Some answered → AreFirstAnswered 1 es → (e : Entry) × (es ≡ e ∷ []) × IsEntryOf IsNode r answered route e
  one_entry route try is [] begun last first = absurd (none_apart answered last)
  one_entry route try is (e ∷ []) begun last first =
      let node : Some is.node ≡ Some e.node = sym (ap (λ ps. next_address ps []) is.places) ∙ begun.address 0 e refl in
      (e, refl, (subst (IsNode route) (same_some is.node e.node node) is.is_node, ap (map Some) (begun.part 0 e (omega arith)) ∙ is.part, same_some e.ending answered last))
  one_entry route try is (e ∷ f ∷ es) begun last first = absurd (no_more try e f es begun (first 0 e (omega arith) refl))

  -- routes of which each send was answered were sent once each
  sent_alone : (routes : List SlotRoute) (old new entries : List Entry) → AreTried (IsTryOf IsNode retries r) routes old new → new ≡ old ++ entries → AreFirstAnswered (length routes) entries → AllZip (IsEntryOf IsNode r answered) routes entries
  sent_alone [] old new entries tried grew were = grind (arith, append_cancel_left old entries, append-nil old)
  sent_alone (route ∷ routes) old new entries (try, m, is, first, later) grew were =
      let more = grows (IsTryOf IsNode retries r) routes m new later in
      let whole : new ++ [] ≡ old ++ entries = append-nil new ∙ grew in
      let tail : more.0 ++ [] ≡ more.0 = append-nil more.0 in
      let all : entries ≡ first.attempts ++ more.0 = behind_first (IsTryOf IsNode retries r) route routes old m new [] entries try first later whole ∙ ap (λ es. first.attempts ++ es) tail in
      let one = one_entry route try is first.attempts first.ended.0.begun first.ended.1
      (λ number e below at. were number e (omega (arith, below)) (ap (λ es. slice_get es number) all ∙ at_front first.attempts more.0 number e at)) in
      let front : entries ≡ one.0 ∷ more.0 = all ∙ ap (λ es. es ++ more.0) one.1 in
      let rest = sent_alone routes m new more.0 later more.1 (λ number e below at. were (suc number) e (omega (arith, below)) (ap (λ es. slice_get es (suc number)) front ∙ at)) in
      subst (λ es. AllZip (IsEntryOf IsNode r answered) (route ∷ routes) es) (sym front) (one.2, rest)

-- entries of nodes that may refuse none of them were answered
were_willing : (may_refuse : ℕ → Ending → Type 0) (old new : List Entry) (many : ℕ) (are : AreAllowed may_refuse old new) → ((number : ℕ) → length old ≤ number → number < length old + many → (ending : Ending) → may_refuse number ending → ending ≡ answered) → AreFirstAnswered many are.entries
were_willing may_refuse old new many are willing number e below at =
    ⊎_elim (λ is. is) (λ may. willing (length old + number) (omega arith) (omega (arith, below)) e.ending may) (are.each number e at)

module _ {C : Type 0} (IsTry : Request → SlotRoute → Try → Type 0) (step : Step C) (r : Request) (old new : State C) (may_refuse : ℕ → Ending → Type 0) where
  module _ (asked : List SlotRoute) (command : MultiKey) (can : IsDrivable r asked command) (entries : List Entry) (grew : new.trace ≡ old.trace ++ entries) (were : AreFirstAnswered (length asked) entries) (count : ℕ) where
    must_answer : (ending : Ending) → ReachedUpTo (AreTried (IsTry r)) (EndsTried (IsTry r)) r old new may_refuse count ending → ending ≡ answered
    must_answer ending up =
        let (route, before, next, first_tried, (try, is_try, tried)) = up.went in
        let order = up.drivable.order in
        let first = take count (in_order up.routes r.order) in
        let same : length up.routes ≡ length asked = ap length (routes_same r asked command can up.routes (covered_routes r up.routes up.command up.drivable.is_covered)) in
        let in_all : length (in_order up.routes r.order) ≡ length up.routes = length-in_order up.routes r.order order.below ∙ length-names_once (length up.routes) r.order order in
        let within : count < length (in_order up.routes r.order) = slice_get_within (in_order up.routes r.order) count route next in
        let taken : length first ≡ count = length-take-le count (in_order up.routes r.order) (omega (arith, within)) in
        let last : AreFirstAnswered 1 tried.attempts = behind (IsTry r) first old.trace before tried.attempts entries 1 first_tried (sym tried.grew ∙ grew)
        (λ number e below at. were number e (omega (arith, below, taken, within, in_all, same)) at) in
        (one_alone try ending tried.attempts tried.ended.0.begun tried.ended.1 last).2

    memory_alone : (fault : DriveFault) → IsRetryFault IsTry step r old new may_refuse fault count → fault ≡ Memory
    memory_alone fault f = only_memory (AreTried (IsTry r)) (EndsTried (IsTry r)) r old new may_refuse count asked command can step fault f must_answer

  pub headline_retried : IsUnhindered may_refuse r old.trace → AreAllowed may_refuse old.trace new.trace → (fault : DriveFault) (count : ℕ) → IsRetryFault IsTry step r old new may_refuse fault count → fault ≡ Memory
  headline_retried h are fault count = memory_alone h.routes h.command h.drivable are.entries are.grew (were_willing may_refuse old.trace new.trace (length h.routes) are h.willing) count fault

  pub carried_retried : (asked : List SlotRoute) (command : MultiKey) → IsDrivable r asked command → AreAllAnswered old.trace new.trace → (fault : DriveFault) (count : ℕ) → IsRetryFault IsTry step r old new may_refuse fault count → fault ≡ Memory
  carried_retried asked command can (entries, grew, all) fault count = memory_alone asked command can entries grew (λ number e below at. all_at (λ (x : Entry). x.ending ≡ answered) entries number e all at) count fault

-- what was tried where no node may refuse was delivered
pub delivered_alone : (IsNode : SlotRoute → Address → Type 0) (r : Request) (retries : ℕ) (old new : List Entry) (may_refuse : ℕ → Ending → Type 0) → IsUnhindered may_refuse r old → AreAllowed may_refuse old new → AreAllTried (IsTryOf IsNode retries) r old new → IsDelivered IsNode r old new
delivered_alone IsNode r retries old new may_refuse h are d =
    let order = d.drivable.order in
    let same : length d.routes ≡ length h.routes = ap length (routes_same r h.routes h.command h.drivable d.routes (covered_routes r d.routes d.command d.drivable.is_covered)) in
    let in_all : length (in_order d.routes r.order) ≡ length d.routes = length-in_order d.routes r.order order.below ∙ length-names_once (length d.routes) r.order order in
    let were = were_willing may_refuse old new (length h.routes) are h.willing in
    record {
      routes = d.routes;
      command = d.command;
      drivable = d.drivable;
      trace = record {
        entries = are.entries;
        grew = are.grew;
        each = sent_alone IsNode r retries (in_order d.routes r.order) old new are.entries d.trace are.grew (λ number e below at. were number e (omega (arith, below, same, in_all)) at);
      };
    }
