-- One part more is sent and its reply told, and the replies are all there in the end.
use Rattle.std.proofs.Common.{◌≡◌, ◌<◌, inl, inr, ⊎_elim, ℕ, zero, suc, ◌+◌, List, [], ◌∷◌, false, cond, Option, Some, None, Ok, refl, sym, ap, ◌∙◌, arith, length, map, take, get_or, subst}
use Rattle.std.specs.Prelude.{nat_eq, slice_get, slice_set}
use Rattle.std.specs.List.{All, AllZip, zip}
use Rattle.std.proofs.lemmas.List.Elements.{All-nil}
use Rattle.std.proofs.lemmas.Bool.{eqb-true}
use Rattle.std.proofs.lemmas.Bool.Decides.{nat_tests}
use Rattle.cluster_slots.specs.Address.{Address}
use Rattle.resp_core.proofs.Cases.{by_test}
use Rattle.resp_core.specs.Reply.{Reply}
use Rattle.resp_core.specs.View.{view}
use Rattle.resp_core.specs.declared.value.Value.{Value}
use Rattle.cluster_slots.specs.KeySlot.{key_slot}
use Rattle.redis_routing.specs.Registry.{Registrations}
use Rattle.redis_cluster.specs.MultiKey.{KeyTuple, MultiKey, multi_key, part_of, tuples_of_slot}
use Rattle.redis_cluster.specs.Orders.{times, NamesOnce, in_order, tuples_of_slots}
use Rattle.redis_cluster.specs.Trace.{Ending, answered, refused, redirected, lost}
use Rattle.redis_cluster.specs.Unsplit.{Act, Step, Keyspace, after, keyspace_after}
use Rattle.redis_cluster.proofs.Counts.{same_number, times_here, times_there}
use Rattle.redis_cluster.proofs.Orders.{in_order_more, map-in_order}
use Rattle.std.specs.Option.{option_to_list}
use Rattle.std.proofs.lemmas.List.{map_push}
use Rattle.std.proofs.Common.{append_assoc, ◌++◌}
use Rattle.std.proofs.lemmas.Grind.{common_steps}
use Rattle.redis_cluster.proofs.Once.{times_more, times-take, names_once-apart}
use Rattle.redis_cluster.specs.Ready.{Target}
use Rattle.redis_cluster.specs.Sends.{IsLeft, SlotsTookEffect}
use Rattle.redis_cluster.proofs.Constructors.{same_some}
use Rattle.redis_combiners.specs.Answers.{values_told}
use Rattle.redis_cluster.proofs.Told.{Told, same_told}

-- the slot of a route, and where its part goes, which is that of the slot
pub record RouteTarget (registered : Registrations) (command : MultiKey) (slots : List ℕ) (nodes : List Address) (parts : List (List (List ℕ))) (number : ℕ) : Type 0 where
  pub slot : ℕ
  pub target : Target
  pub slot_at : slice_get slots number ≡ Some slot
  pub target_at : slice_get (zip nodes parts) number ≡ Some target
  pub part : multi_key registered (map Some target.1) ≡ Some (part_of command slot)

-- each route has them
pub route_target : (registered : Registrations) (command : MultiKey) (slots : List ℕ) (nodes : List Address) (parts : List (List (List ℕ))) (number : ℕ) → length nodes ≡ length slots
    → AllZip (λ slot part. multi_key registered (map Some part) ≡ Some (part_of command slot)) slots parts → number < length slots → RouteTarget registered command slots nodes parts number
route_target registered command [] nodes parts number many each within = absurd (omega arith)
route_target registered command (s ∷ slots) [] parts number many each within = absurd (omega arith)
route_target registered command (s ∷ slots) (n ∷ nodes) [] number many each within = absurd each
route_target registered command (s ∷ slots) (n ∷ nodes) (p ∷ parts) zero many each within = record { slot = s; target = (n, p); slot_at = refl; target_at = refl; part = each.0 }
route_target registered command (s ∷ slots) (n ∷ nodes) (p ∷ parts) (suc number) many each within =
    let rest = route_target registered command slots nodes parts number (omega arith) each.1 (omega arith) in
    record { slot = rest.slot; target = rest.target; slot_at = rest.slot_at; target_at = rest.target_at; part = rest.part }

-- the tuples of a slot have it
pub of_one_slot : (slot : ℕ) (ts : List KeyTuple) → All (λ (t : KeyTuple). key_slot t.key ≡ slot) (tuples_of_slot slot ts)
of_one_slot slot [] = All-nil (λ (t : KeyTuple). key_slot t.key ≡ slot)
of_one_slot slot (t ∷ ts) = grind (arith, common_steps, of_one_slot slot ts)

-- what is put at a place stands there, and elsewhere nothing changes
pub set_here : {X : Type 0} (xs : List X) (k : ℕ) (x : X) → k < length xs → slice_get (slice_set xs k x) k ≡ Some x
set_here [] k x within = absurd (omega arith)
set_here (y ∷ xs) zero x within = refl
set_here (y ∷ xs) (suc k) x within = set_here xs k x (omega arith)

pub set_there : {X : Type 0} (xs : List X) (k j : ℕ) (x : X) → nat_eq j k ≡ false → slice_get (slice_set xs k x) j ≡ slice_get xs j
set_there [] k j x apart = refl
set_there (y ∷ xs) zero zero x apart = absurd (cc apart)
set_there (y ∷ xs) zero (suc j) x apart = refl
set_there (y ∷ xs) (suc k) zero x apart = refl
set_there (y ∷ xs) (suc k) (suc j) x apart = set_there xs k j x (grind (arith, nat_tests))

-- no answer yet
abbrev untold : {X : Type 0} → X → Told
untold x = None

-- before the first answer no reply is told
pub none_at : {X : Type 0} (xs : List X) (k : ℕ) → k < length xs → slice_get (map untold xs) k ≡ Some None
none_at [] k within = absurd (omega arith)
none_at (x ∷ xs) zero within = refl
none_at (x ∷ xs) (suc k) within = none_at xs k (omega arith)

-- a route was not sent before its turn
pub not_yet : (routes : ℕ) (order : List ℕ) (count : ℕ) → NamesOnce routes order → count < length order → times (get_or order count 0) (take count order) ≡ 0
not_yet routes order count names within =
    let k : ℕ = get_or order count 0 in
    let more : times k (take (count + 1) order) ≡ times k (take count order) + 1 = times_more k order count 0 within ∙ ap (λ b. times k (take count order) + cond b 1 0) (same_number k) in
    omega (arith, more, times-take k order (count + 1), names_once-apart routes order names k)

-- the reply to a route was told, and is this one
abbrev pub IsTold : List Told → ℕ → Reply → Type 0
IsTold replies number reply = (value : Value) × (slice_get replies number ≡ Some (Some (Ok value))) × (view value ≡ reply)

-- the replies of the first routes of an order were told
abbrev pub AreTold : List Told → List ℕ → List ℕ → ℕ → (ℕ → Reply) → Type 0
AreTold replies slots order count reply_of = (number slot : ℕ) → slice_get slots number ≡ Some slot → 0 < times number (take count order) → IsTold replies number (reply_of slot)

-- and some reply to each of them, whatever it is
abbrev pub AreSomeTold : List Told → List ℕ → ℕ → ℕ → Type 0
AreSomeTold replies order count routes = (number : ℕ) → number < routes → 0 < times number (take count order) → (value : Value) × (slice_get replies number ≡ Some (Some (Ok value)))

-- and may be what came
pub record AreGivenSo (old new : List Reply → Type 0) (replies : List Told) (sent : List ℕ) : Type 0 where
  pub values : List Value
  pub told : in_order replies sent ≡ values_told values
  pub gave : (before : List Reply) → old before → new (before ++ map view values)

-- and no other
abbrev pub AreUntold : List Told → List ℕ → ℕ → ℕ → Type 0
AreUntold replies order count routes = (number : ℕ) → number < routes → times number (take count order) ≡ 0 → slice_get replies number ≡ Some None

module _ (replies : List Told) (slots order : List ℕ) (count number : ℕ) (within : count < length order) (is : number ≡ get_or order count 0) (room : number < length replies) where
  more_at : (other : ℕ) → times other (take (count + 1) order) ≡ times other (take count order) + cond (nat_eq other number) 1 0
  more_at other = times_more other order count 0 within ∙ ap (λ k. times other (take count order) + cond (nat_eq other k) 1 0) (sym is)

  pub told_more : (reply_of : ℕ → Reply) (slot : ℕ) (value : Value) → slice_get slots number ≡ Some slot → view value ≡ reply_of slot
      → AreTold replies slots order count reply_of → AreTold (slice_set replies number (Some (Ok value))) slots order (count + 1) reply_of
  told_more reply_of slot value at says before other own own_at named =
      by_test (nat_eq other number)
      (λ same.
      let e : other ≡ number = eqb-true other number same in
      let own_is : slot ≡ own = same_some slot own (sym at ∙ ap (slice_get slots) (sym e) ∙ own_at) in
      (value, ap (slice_get (slice_set replies number (Some (Ok value)))) e ∙ set_here replies number (Some (Ok value)) room, says ∙ ap reply_of own_is))
      (λ apart.
      let as_often : times other (take (count + 1) order) ≡ times other (take count order) + 0 = more_at other ∙ ap (λ b. times other (take count order) + cond b 1 0) apart in
      let was : IsTold replies other (reply_of own) = before other own own_at (omega arith) in
      (was.0, set_there replies number other (Some (Ok value)) apart ∙ was.1, was.2))

  pub some_told_more : (routes : ℕ) (value : Value) → AreSomeTold replies order count routes → AreSomeTold (slice_set replies number (Some (Ok value))) order (count + 1) routes
  some_told_more routes value before other inside named =
      by_test (nat_eq other number)
      (λ same.
      let e : other ≡ number = eqb-true other number same in
      (value, ap (slice_get (slice_set replies number (Some (Ok value)))) e ∙ set_here replies number (Some (Ok value)) room))
      (λ apart.
      let as_often : times other (take (count + 1) order) ≡ times other (take count order) + 0 = more_at other ∙ ap (λ b. times other (take count order) + cond b 1 0) apart in
      let was : (old : Value) × (slice_get replies other ≡ Some (Some (Ok old))) = before other inside (omega arith) in
      (was.0, set_there replies number other (Some (Ok value)) apart ∙ was.1))

  pub untold_less : (routes : ℕ) (value : Value) → AreUntold replies order count routes → AreUntold (slice_set replies number (Some (Ok value))) order (count + 1) routes
  untold_less routes value before other inside none =
      by_test (nat_eq other number)
      (λ same. absurd (let more : times other (take (count + 1) order) ≡ times other (take count order) + 1 = more_at other ∙ ap (λ b. times other (take count order) + cond b 1 0) same in omega arith))
      (λ apart.
      let as_often : times other (take (count + 1) order) ≡ times other (take count order) + 0 = more_at other ∙ ap (λ b. times other (take count order) + cond b 1 0) apart in
      set_there replies number other (Some (Ok value)) apart ∙ before other inside (omega arith))

-- where each reply was told, they are a list of replies
pub all_told : (replies : List Told) (slots : List ℕ) (reply_of : ℕ → Reply) → length replies ≡ length slots
    → ((number slot : ℕ) → slice_get slots number ≡ Some slot → IsTold replies number (reply_of slot))
    → (values : List Value) × (replies ≡ values_told values) × (map view values ≡ map reply_of slots)
all_told [] [] reply_of many each = ([], refl, refl)
all_told [] (s ∷ slots) reply_of many each = absurd (omega arith)
all_told (r ∷ replies) [] reply_of many each = absurd (omega arith)
all_told (r ∷ replies) (s ∷ slots) reply_of many each =
    let first : IsTold (r ∷ replies) 0 (reply_of s) = each 0 s refl in
    let rest = all_told replies slots reply_of (omega arith) (λ number slot at. each (suc number) slot at) in
    let first_is : r ≡ Some (Ok first.0) = same_some r (Some (Ok first.0)) first.1 in
    (first.0 ∷ rest.0, ap (λ o. o ∷ replies) first_is ∙ ap (λ os. Some (Ok first.0) ∷ os) rest.1, ap (λ v. v ∷ map view rest.0) first.2 ∙ ap (λ vs. reply_of s ∷ vs) rest.2)

-- what is put at a place that is not named changes nothing that is
set_unnamed : {X : Type 0} (xs : List X) (k : ℕ) (x : X) (sent : List ℕ) → times k sent ≡ 0 → in_order (slice_set xs k x) sent ≡ in_order xs sent
set_unnamed xs k x [] none = refl
set_unnamed xs k x (j ∷ sent) none =
    by_test (nat_eq k j)
    (λ here. absurd (omega (arith, times_here k j sent here)))
    (λ there.
    let apart : nat_eq j k ≡ false = grind (arith, nat_tests) in
    let rest : times k sent ≡ 0 = omega (arith, times_there k j sent there) in
    ap (λ found. option_to_list found ++ in_order (slice_set xs k x) sent) (set_there xs k j x apart)
    ∙ ap (λ ys. option_to_list (slice_get xs j) ++ ys) (set_unnamed xs k x sent rest))

-- one reply more came
pub given_more : (old mid new : List Reply → Type 0) (replies : List Told) (order : List ℕ) (i k : ℕ) (value : Value) → i < length order → k ≡ get_or order i 0 → k < length replies → times k (take i order) ≡ 0
    → ((before : List Reply) → mid before → new (before ++ view value ∷ [])) → AreGivenSo old mid replies (take i order) → AreGivenSo old new (slice_set replies k (Some (Ok value))) (take (i + 1) order)
given_more old mid new replies order i k value inside is room none came so = grind (arith, in_order_more (slice_set replies k (Some (Ok value))) order i k (Some (Ok value)) inside is (set_here replies k (Some (Ok value)) room), set_here replies k (Some (Ok value)) room, set_unnamed replies k (Some (Ok value)) (take i order) none, map_push {Y = Told} (λ v. Some (Ok v)) so.values value, map_push view so.values value, append_assoc)

-- where all were told, all came
pub given_all : (old new : List Reply → Type 0) (replies : List Told) (order : List ℕ) (values : List Value) → replies ≡ values_told values → AreGivenSo old new replies order
    → (before : List Reply) → old before → new (before ++ in_order (map view values) order)
given_all old new replies order values all so before was =
    let same : so.values ≡ in_order values order =
    same_told so.values (in_order values order) (sym so.told ∙ ap (λ os. in_order os order) all ∙ sym (map-in_order (λ v. Some (Ok v)) values order)) in
    subst new (ap (λ vs. before ++ vs) (ap (map view) same ∙ map-in_order view values order)) (so.gave before was)

pub all_some_told : (replies : List Told) → ((number : ℕ) → number < length replies → (value : Value) × (slice_get replies number ≡ Some (Some (Ok value)))) → (values : List Value) × (replies ≡ values_told values)
all_some_told [] each = ([], refl)
all_some_told (r ∷ replies) each =
    let first : (value : Value) × (slice_get (r ∷ replies) 0 ≡ Some (Some (Ok value))) = each 0 (omega arith) in
    let rest = all_some_told replies (λ number inside. each (suc number) (omega arith)) in
    let first_is : r ≡ Some (Ok first.0) = same_some r (Some (Ok first.0)) first.1 in
    (first.0 ∷ rest.0, ap (λ o. o ∷ replies) first_is ∙ ap (λ os. Some (Ok first.0) ∷ os) rest.1)

-- the keyspace is that of the parts before it, or where the reply was lost that of one part more
pub left_at : {C : Type 0} (step : Step C) (act : Act C) (tuples : List KeyTuple) (part : MultiKey) (slots more : List ℕ) (old mid new : Keyspace C) (ending : Option Ending) → mid ≡ after act (tuples_of_slots slots tuples) old
    → keyspace_after step part mid ≡ after act (tuples_of_slots more tuples) old → IsLeft step part mid new ending → SlotsTookEffect act tuples slots more old new ending
left_at step act tuples part slots more old mid new None was next left = left ∙ was
left_at step act tuples part slots more old mid new (Some answered) was next left = left ∙ was
left_at step act tuples part slots more old mid new (Some (refused error)) was next left = left ∙ was
left_at step act tuples part slots more old mid new (Some (redirected redirect)) was next left = left ∙ was
left_at step act tuples part slots more old mid new (Some (lost error)) was next left = ⊎_elim (λ e. inl (e ∙ was)) (λ e. inr (e ∙ next)) left
