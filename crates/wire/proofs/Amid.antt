-- What a log says of a command that was driven over it.
use Rattle.std.proofs.Common.{◌≡◌, ◌⊎◌, inl, inr, ◌≤◌, ◌<◌, ℕ, zero, suc, ◌+◌, ◌-◌, List, [], ◌∷◌, ◌++◌, Bool, true, false, cond, Some, All, map, filter, length, take, drop, get_or, option_map, refl, sym, ap, ◌∙◌, subst, arith}
use Rattle.std.proofs.lemmas.Grind.{common_steps}
use Rattle.std.specs.Prelude.{nat_eq, slice_get, option_and_then}
use Rattle.std.proofs.lemmas.Bool.{eqb-true}
use Rattle.std.proofs.lemmas.List.{drop_at, drop-map, length-map, take-append-drop, take_at, take-map}
use Rattle.std.proofs.lemmas.List.Elements.{All-head, All-tail, filter_passes}
use Rattle.std.proofs.lemmas.Option.{slice_get_within, slice_get-get_or}
use Rattle.resp_core.proofs.Cases.{by_test}
use Rattle.resp_core.specs.Reply.{Reply}
use Rattle.cluster_slots.specs.Address.{Address}
use Rattle.cluster_slots.specs.KeySlot.{key_slot}
use Rattle.cluster_slots.specs.SlotRoute.{SlotRoute}
use Rattle.cluster_slots.specs.declared.slot.SlotAddr.{SlotAddr}
use Rattle.redis_routing.specs.Command.{Arguments}
use Rattle.redis_routing.specs.Registry.{Registrations}
use Rattle.redis_routing.specs.Routing.{nodes_for}
use Rattle.redis_cluster.specs.Amid.{HeldBySlot, IsAssembled, IsReplyAmid, IsServedAmid, PartsActBySlot, replies_by}
use Rattle.redis_cluster.specs.Retry.{Try, is_answered}
use Rattle.redis_cluster.specs.Driven.{Request, IsDelivered}
use Rattle.redis_cluster.specs.Retried.{AreAllTried}
use Rattle.redis_cluster.specs.MultiKey.{KeyTuple, MultiKey, multi_key, part_by_slot, part_of, slots_in, tuples_of_slot, command_routes}
use Rattle.redis_cluster.specs.Orders.{NamesOnce, in_order, times}
use Rattle.redis_cluster.specs.Trace.{Entry, Ending, answered, refused, redirected, lost}
use Rattle.redis_cluster.specs.Unsplit.{Step, Keyspace, keyspace_after, reply_to}
use Rattle.redis_cluster.proofs.Amid.{parts_act_by_slot}
use Rattle.redis_cluster.proofs.CommandParts.{covered_routes}
use Rattle.redis_cluster.proofs.Constructors.{same_some}
use Rattle.redis_cluster.proofs.Counts.{same_number, times_here, times_there}
use Rattle.redis_cluster.proofs.Orders.{get-in_order, map-in_order, times-in_order}
use Rattle.redis_cluster.proofs.Placed.{stands_at}
use Rattle.redis_cluster.proofs.SplitParts.{slots_once, keys_once}
use Rattle.wire.specs.Amid.{IsReplyAt, OfEachReply, IsAssembledAt, AreRepliesBy, IsServedAt, LeavesAsUnsplit}
use Rattle.wire.specs.Said.{SendOutcome, said as said_by, answer, refusal, redirection, loss, reply_in, replies_in}
use Rattle.wire.specs.Commands.{SaidCommand, outcome_ending, entry_by}
use Rattle.wire.proofs.Replaying.{replies-append}
use Rattle.wire.proofs.AnsweredSends.{IsOfNext, IsOwnTry, AreOfSlots, AreSentInOrder, slots_in_routes, by_delivered, by_tried}
use Rattle.redis_cluster.proofs.Tries.{all_at}

-- a list whose elements are those of another one mapped
map_from : {A B : Type 0} (f : A → B) (xs : List A) (ys : List B) → length ys ≡ length xs → ((k : ℕ) (x : A) (y : B) → slice_get xs k ≡ Some x → slice_get ys k ≡ Some y → y ≡ f x) → ys ≡ map f xs
map_from f [] [] long each = refl
map_from f [] (y ∷ ys) long each = absurd (omega (arith, long))
map_from f (x ∷ xs) [] long each = absurd (omega (arith, long))
map_from f (x ∷ xs) (y ∷ ys) long each = let first : y ≡ f x = each 0 x y refl refl in ap (λ z. z ∷ ys) first ∙ ap (λ zs. f x ∷ zs) (map_from f xs ys (omega (arith, long)) (λ k u v a b. each (suc k) u v a b))

-- where a slot first stands in a list
abbrev place_of : ℕ → List ℕ → ℕ
place_of slot [] = 0
place_of slot (s ∷ slots) = cond (nat_eq slot s) 0 (suc (place_of slot slots))

stands_there : (slots : List ℕ) (k slot : ℕ) → slice_get slots k ≡ Some slot → 0 < times slot slots
stands_there [] k slot at = absurd (cc at)
stands_there (s ∷ slots) zero slot at = let same : s ≡ slot = same_some s slot at in omega (arith, times_here slot s slots (ap (λ n. nat_eq slot n) same ∙ same_number slot))
stands_there (s ∷ slots) (suc k) slot at = grind (arith, common_steps, stands_there slots k slot)

place_is : (slots : List ℕ) (k slot : ℕ) → times slot slots ≤ 1 → slice_get slots k ≡ Some slot → place_of slot slots ≡ k
place_is [] k slot few at = absurd (cc at)
place_is (s ∷ slots) zero slot few at = let same : s ≡ slot = same_some s slot at in ap (λ b. cond b 0 (suc (place_of slot slots))) (ap (λ n. nat_eq slot n) same ∙ same_number slot)
place_is (s ∷ slots) (suc k) slot few at =
    by_test (nat_eq slot s)
    (λ here. absurd (omega (arith, few, times_here slot s slots here, stands_there slots k slot at)))
    (λ there. ap (λ b. cond b 0 (suc (place_of slot slots))) there ∙ ap suc (place_is slots k slot (omega (arith, few, times_there slot s slots there)) at))

-- what holds of what a filter keeps
kept_by : {X : Type 0} (P : X → Type 0) (test : X → Bool) (xs : List X) → All P (filter test xs) → (k : ℕ) (d : X) → k < length xs → test (get_or xs k d) ≡ true → P (get_or xs k d)
kept_by P test [] all k d within is = absurd (omega (arith, within))
kept_by P test (x ∷ xs) all zero d within is = All-head P x (filter test xs) (rw is at all)
kept_by P test (x ∷ xs) all (suc k) d within is =
    by_test (test x)
    (λ here. kept_by P test xs (All-tail P x (filter test xs) (rw here at all)) k d (omega (arith, within)) is)
    (λ there. kept_by P test xs (rw there at all) k d (omega (arith, within)) is)

-- how many of some entries were answered
abbrev one_if : Ending → ℕ
one_if answered = 1
one_if (refused error) = 0
one_if (redirected redirect) = 0
one_if (lost error) = 0

abbrev answers_in : List Entry → ℕ
answers_in [] = 0
answers_in (e ∷ es) = one_if e.ending + answers_in es

many_replies : (ss : List SaidCommand) → length (replies_in ss) ≡ answers_in (map entry_by ss)
many_replies [] = refl
many_replies (s ∷ ss) = grind (arith, common_steps, many_replies ss)

-- lists that begin with as many elements have the same rest
same_rest : {X : Type 0} (a b c d : List X) → length a ≡ length c → a ++ b ≡ c ++ d → b ≡ d
same_rest a b c d long same = sym (drop_at a b (length a) refl) ∙ ap (drop (length a)) same ∙ drop_at c d (length a) (sym long)

none_behind : {X : Type 0} (n k : ℕ) → slice_get (drop {A = X} n []) k ≡ slice_get {X = X} [] (n + k)
none_behind zero k = refl
none_behind (suc n) k = refl

at_behind : {X : Type 0} (n : ℕ) (xs : List X) (k : ℕ) → slice_get (drop n xs) k ≡ slice_get xs (n + k)
at_behind n [] k = none_behind n k
at_behind zero (x ∷ xs) k = let same : k ≡ 0 + k = omega arith in ap (slice_get (x ∷ xs)) same
at_behind (suc n) (x ∷ xs) k = let same : suc (n + k) ≡ suc n + k = omega arith in at_behind n xs k ∙ ap (slice_get (x ∷ xs)) same

slots_back : (addr : SlotAddr) (xs : List ℕ) → slots_in_routes (map (λ slot. record { slot = slot; addr = addr }) xs) ≡ xs
slots_back addr [] = refl
slots_back addr (x ∷ xs) = ap (λ ys. x ∷ ys) (slots_back addr xs)

-- where the answered send of a number stands, both counted from 0
abbrev place_past : (ℕ → ℕ) → SendOutcome Reply → ℕ → ℕ
place_past later (answer reply) zero = 0
place_past later (answer reply) (suc k) = suc (later k)
place_past later (refusal error) k = suc (later k)
place_past later (redirection redirect) k = suc (later k)
place_past later (loss error) k = suc (later k)

abbrev answered_at : ℕ → List SaidCommand → ℕ
answered_at k [] = 0
answered_at k (s ∷ ss) = place_past (λ j. answered_at j ss) s.outcome k

-- The send for a slot, and the reply to it.
record IsSaidFor (registered : Registrations) (args : Arguments) (ss : List SaidCommand) (k slot : ℕ) (reply : Reply) : Type 0 where
  said : SaidCommand
  said_is : slice_get ss k ≡ Some said
  reply_is : said.outcome ≡ answer reply
  args_are : map Some said.sent ≡ part_by_slot registered args slot

module _ (registered : Registrations) (args : Arguments) where
  said_behind : (s : SaidCommand) (ss : List SaidCommand) (k slot : ℕ) (reply : Reply) → IsSaidFor registered args ss k slot reply → IsSaidFor registered args (s ∷ ss) (suc k) slot reply
  said_behind s ss k slot reply own = record { said = own.said; said_is = own.said_is; reply_is = own.reply_is; args_are = own.args_are }

  -- each slot has its send, at its place among those that were answered
  said_for : (slots : List ℕ) (ss : List SaidCommand) → AreOfSlots registered args slots (map entry_by ss) → (k slot : ℕ) (reply : Reply) → slice_get slots k ≡ Some slot → slice_get (replies_in ss) k ≡ Some reply → IsSaidFor registered args ss (answered_at k ss) slot reply
  said_for slots [] sent k slot reply there came = absurd (cc came)
  said_for slots (s ∷ ss) sent k slot reply there came = by_outcome s.node s.sent s.outcome slots sent (λ slots sent k there came. said_for slots ss sent k slot reply there came) k there came
    where
      by_outcome : (node : Address) (own : List (List ℕ)) (o : SendOutcome Reply) (slots : List ℕ) → AreOfSlots registered args slots (map entry_by (said_by node own o ∷ ss))
          → ((slots : List ℕ) → AreOfSlots registered args slots (map entry_by ss) → (k : ℕ) → slice_get slots k ≡ Some slot → slice_get (replies_in ss) k ≡ Some reply → IsSaidFor registered args ss (answered_at k ss) slot reply)
          → (k : ℕ) → slice_get slots k ≡ Some slot → slice_get (reply_in o ++ replies_in ss) k ≡ Some reply → IsSaidFor registered args (said_by node own o ∷ ss) (answered_at k (said_by node own o ∷ ss)) slot reply
      by_outcome node own (answer v) [] sent later k there came = absurd sent
      by_outcome node own (answer v) (x ∷ slots) sent later zero there came =
          record { said = said_by node own (answer v); said_is = refl; reply_is = ap answer (same_some v reply came); args_are = sent.0 ∙ ap (part_by_slot registered args) (same_some x slot there) }
      by_outcome node own (answer v) (x ∷ slots) sent later (suc k) there came = said_behind (said_by node own (answer v)) ss (answered_at k ss) slot reply (later slots sent.1 k there came)
      by_outcome node own (refusal error) slots sent later k there came = said_behind (said_by node own (refusal error)) ss (answered_at k ss) slot reply (later slots sent k there came)
      by_outcome node own (redirection redirect) slots sent later k there came = said_behind (said_by node own (redirection redirect)) ss (answered_at k ss) slot reply (later slots sent k there came)
      by_outcome node own (loss error) slots sent later k there came = said_behind (said_by node own (loss error)) ss (answered_at k ss) slot reply (later slots sent k there came)

  -- the slot of a send
  abbrev HasSlot : List ℕ → SaidCommand → Type 0
  HasSlot slots s = (i : ℕ) × (slot : ℕ) × (slice_get slots i ≡ Some slot) × (map Some s.sent ≡ part_by_slot registered args slot)

  -- and each send that was answered has its slot
  slot_said : (slots : List ℕ) (ss : List SaidCommand) → AreOfSlots registered args slots (map entry_by ss) → (k : ℕ) (s : SaidCommand) → slice_get ss k ≡ Some s → is_answered (outcome_ending s.outcome) ≡ true → HasSlot slots s
  slot_said slots [] sent k s there is = absurd (cc there)
  slot_said slots (x ∷ ss) sent k s there is = by_ending (is_answered (outcome_ending x.outcome)) refl slots sent (λ slots sent k there. slot_said slots ss sent k s there is) k there
    where
      by_ending : (b : Bool) → is_answered (outcome_ending x.outcome) ≡ b → (slots : List ℕ) → IsOfNext (λ slot. map Some x.sent ≡ part_by_slot registered args slot) (λ rest. AreOfSlots registered args rest (map entry_by ss)) b slots
          → ((slots : List ℕ) → AreOfSlots registered args slots (map entry_by ss) → (k : ℕ) → slice_get ss k ≡ Some s → HasSlot slots s) → (k : ℕ) → slice_get (x ∷ ss) k ≡ Some s → HasSlot slots s
      by_ending true was [] sent later k there = absurd sent
      by_ending true was (slot ∷ slots) sent later zero there = (0, slot, refl, ap (λ (y : SaidCommand). map Some y.sent) (sym (same_some x s there)) ∙ sent.0)
      by_ending true was (slot ∷ slots) sent later (suc k) there = let own = later slots sent.1 k there in (suc own.0, own.1, own.2, own.3)
      by_ending false was slots sent later zero there = absurd (let other : false ≡ true = sym was ∙ ap (λ (y : SaidCommand). is_answered (outcome_ending y.outcome)) (same_some x s there) ∙ is in cc other)
      by_ending false was slots sent later (suc k) there = later slots sent k there

-- A command of which parts were sent over a log.
module _ (C : Type 0) (r : Request) (old new : List SaidCommand) (d : AreSentInOrder r (map entry_by old) (map entry_by new)) (command : MultiKey) (command_is : multi_key r.names.registered r.arguments ≡ Some command) where
  abbrev registered : Registrations
  registered = r.names.registered

  abbrev n : ℕ
  n = length old

  abbrev tail : List SaidCommand
  tail = drop n new

  abbrev slots : List ℕ
  slots = slots_in command

  -- the slots in the order of the sends
  abbrev sent_slots : List ℕ
  sent_slots = in_order slots r.order

  slots_are : slots_in_routes d.routes ≡ slots
  slots_are =
      ap slots_in_routes (sym (same_some (command_routes r.names.only_reads command) d.routes (sym (ap (option_map (command_routes r.names.only_reads)) command_is) ∙ covered_routes r d.routes d.command d.drivable.is_covered)))
      ∙ slots_back (nodes_for (r.names.only_reads command.name)) slots

  order_is : NamesOnce (length slots) r.order
  order_is = subst (λ m. NamesOnce m r.order) (sym (length-map d.routes (λ (route : SlotRoute). route.slot)) ∙ ap length slots_are) d.drivable.order

  tail_is : map entry_by tail ≡ d.entries
  tail_is = sym (drop-map entry_by n new) ∙ ap (drop n) d.grew ∙ drop_at (map entry_by old) d.entries n (length-map old entry_by)

  sent : AreOfSlots registered r.arguments sent_slots (map entry_by tail)
  sent =
      subst (λ xs. AreOfSlots registered r.arguments xs (map entry_by tail)) (map-in_order (λ (route : SlotRoute). route.slot) d.routes r.order ∙ ap (λ xs. in_order xs r.order) slots_are)
      (subst (λ es. AreOfSlots registered r.arguments (slots_in_routes (in_order d.routes r.order)) es) (sym tail_is) d.each)

  parts : PartsActBySlot C registered r.arguments
  parts = parts_act_by_slot C registered r.arguments

  -- what is sent for a slot means the slot's part
  meant : (i slot : ℕ) → slice_get slots i ≡ Some slot → multi_key registered (part_by_slot registered r.arguments slot) ≡ Some (part_of command slot)
  meant i slot at = all_at (λ slot. multi_key registered (part_by_slot registered r.arguments slot) ≡ Some (part_of command slot)) slots i slot (parts.meant command command_is) at

  -- each answered send since then is of a slot's part
  part_at : (number : ℕ) (part : MultiKey) (reply : Reply) → n ≤ number → IsReplyAt registered new number part reply → (slot : ℕ) × (part ≡ part_of command slot)
  part_at number part reply since is =
      let k : ℕ = number - n in
      let number_is : n + k ≡ number = omega (arith, since) in
      let own = slot_said registered r.arguments sent_slots tail sent k is.said (at_behind n new k ∙ ap (slice_get new) number_is ∙ is.said_is) (ap (λ o. is_answered (outcome_ending o)) is.reply_is) in
      let slot : ℕ = own.1 in
      let some : 0 < times slot slots = subst (λ m. 0 < m) (times-in_order slot slots r.order order_is) (stands_there sent_slots own.0 slot own.2) in
      let i = stands_at slot slots some in
      (slot, same_some part (part_of command slot) (sym is.part_is ∙ ap (multi_key registered) own.3 ∙ meant i.0 slot i.1))

  -- and leaves at its keys what the unsplit command leaves there
  leaves_at : OfEachReply registered old new (λ number part reply. LeavesAsUnsplit C command part)
  leaves_at number part reply since is =
      let own = part_at number part reply since is in
      let slot : ℕ = own.0 in
      record {
        slot = slot;
        part_is = own.1;
        left = λ step held one.
            subst (λ (p : MultiKey). All (λ t. one t.key ≡ held t.key → keyspace_after step command one t.key ≡ keyspace_after step p held t.key) p.tuples) (sym own.1)
            (λ k d within same.
            let key : List ℕ = (get_or (tuples_of_slot slot command.tuples) k d).key in
            sym ((parts.acts command command_is).left step slot held one key (eqb-true (key_slot key) slot (filter_passes (λ (t : KeyTuple). nat_eq (key_slot t.key) slot) command.tuples k d within)) same));
      }

  -- These replies came to its parts, and this one is the reply to it.
  module _ (value : Reply) (replies : List Reply) (many : length replies ≡ length slots) (gave : replies_in old ++ in_order replies r.order ≡ replies_in new) (amid : IsReplyAmid C command replies value) where
    prefix : map entry_by (take n new) ≡ map entry_by old
    prefix = sym (take-map entry_by n new) ∙ ap (take n) d.grew ∙ take_at (map entry_by old) d.entries n (length-map old entry_by)

    values : in_order replies r.order ≡ replies_in tail
    values =
        same_rest (replies_in old) (in_order replies r.order) (replies_in (take n new)) (replies_in tail)
        (many_replies old ∙ ap answers_in (sym prefix) ∙ sym (many_replies (take n new)))
        (gave ∙ ap replies_in (sym (take-append-drop n new)) ∙ replies-append (take n new) tail)

    few_sent : (slot : ℕ) → times slot sent_slots ≤ 1
    few_sent slot = subst (λ m. m ≤ 1) (sym (times-in_order slot slots r.order order_is)) (slots_once command slot)

    -- the number of the send for a slot
    abbrev number_of : ℕ → ℕ
    number_of slot = n + answered_at (place_of slot sent_slots) tail

    reply_at : (i slot : ℕ) (reply : Reply) → slice_get slots i ≡ Some slot → slice_get replies i ≡ Some reply → IsReplyAt registered new (number_of slot) (part_of command slot) reply
    reply_at i slot reply at said =
        let k = stands_at i r.order (omega (arith, order_is.once i (slice_get_within slots i slot at))) in
        let there : slice_get sent_slots k.0 ≡ Some slot = get-in_order slots r.order order_is.below k.0 ∙ ap (option_and_then (λ j. slice_get slots j)) k.1 ∙ at in
        let came : slice_get (replies_in tail) k.0 ≡ Some reply = ap (λ rs. slice_get rs k.0) (sym values)
        ∙ get-in_order replies r.order (subst (λ m. All (λ j. j < m) r.order) (sym many) order_is.below) k.0 ∙ ap (option_and_then (λ j. slice_get replies j)) k.1 ∙ said in
        let own = said_for registered r.arguments sent_slots tail sent k.0 slot reply there came in
        record {
          said = own.said;
          said_is = ap (λ m. slice_get new (n + answered_at m tail)) (place_is sent_slots k.0 slot (few_sent slot) there) ∙ sym (at_behind n new (answered_at k.0 tail)) ∙ own.said_is;
          reply_is = own.reply_is;
          part_is = ap (multi_key registered) own.args_are ∙ meant i slot at;
        }

    -- each slot of a key has its send
    reply_for_key : (k : ℕ) (d : KeyTuple) → k < length command.tuples → (reply : Reply) × IsReplyAt registered new (number_of (key_slot (get_or command.tuples k d).key)) (part_of command (key_slot (get_or command.tuples k d).key)) reply
    reply_for_key k d within =
        let slot : ℕ = key_slot (get_or command.tuples k d).key in
        let i = stands_at slot slots (omega (arith, keys_once command k d within)) in
        let reply : Reply = get_or replies i.0 value in
        (reply, reply_at i.0 slot reply i.1 (slice_get-get_or replies i.0 value (omega (arith, slice_get_within slots i.0 slot i.1, many))))

    -- what the node of a slot held at the send of its part
    abbrev by_slot : (ℕ → Keyspace C) → HeldBySlot C
    by_slot held slot = held (number_of slot)

    assembled_from : (held : ℕ → Keyspace C) (one : Keyspace C) → IsAssembledAt registered old new held one → IsAssembled command (by_slot held) one
    assembled_from held one each = λ k d within.
        let slot : ℕ = key_slot (get_or command.tuples k d).key in
        let own = reply_for_key k d within in
        kept_by (λ (u : KeyTuple). one u.key ≡ held (number_of slot) u.key) (λ u. nat_eq (key_slot u.key) slot) command.tuples (each (number_of slot) (part_of command slot) own.0 (omega arith) own.1) k d within (same_number slot)

    replies_from : (step : Step C) (held : ℕ → Keyspace C) → AreRepliesBy registered old new held step → replies ≡ replies_by step command (by_slot held)
    replies_from step held each =
        map_from (λ slot. reply_to step (part_of command slot) (by_slot held slot)) slots replies many
        (λ i slot reply at said. each (number_of slot) (part_of command slot) reply (omega arith) (reply_at i slot reply at said))

    is_served : IsServedAt C registered r.arguments old new value
    is_served = record {
      command = command;
      command_is = command_is;
      reply = λ step held one all each. amid step (by_slot held) one (assembled_from held one all) (replies_from step held each);
      left = λ step held one all number part reply since is k d within. (leaves_at number part reply since is).left step (held number) one k d within (all number part reply since is k d within);
    }

module _ (C : Type 0) (r : Request) (old new : List SaidCommand) where
  -- A command is served at the moments of its answered sends.
  served_in_order : (value : Reply) → AreSentInOrder r (map entry_by old) (map entry_by new)
      → IsServedAmid C r.names.registered r.arguments r.order (λ rs. rs ≡ replies_in old) (λ rs. rs ≡ replies_in new) value → IsServedAt C r.names.registered r.arguments old new value
  served_in_order value d s = is_served C r old new d s.command s.replied.command_is value s.replies s.replied.each (s.replied.gave (replies_in old) refl) s.reply

  -- Whether all parts were answered or not, those that were left what the unsplit command leaves.
  pub leaves_in_order : (map entry_by new ≡ map entry_by old) ⊎ AreSentInOrder r (map entry_by old) (map entry_by new) → (command : MultiKey) → multi_key r.names.registered r.arguments ≡ Some command
      → OfEachReply r.names.registered old new (λ number part reply. LeavesAsUnsplit C command part)
  leaves_in_order (inl same) command is = λ number part reply since at.
      absurd (omega (arith, since, slice_get_within new number at.said at.said_is, sym (length-map new entry_by) ∙ ap length same ∙ length-map old entry_by))
  leaves_in_order (inr d) command is = leaves_at C r old new d command is

module _ (C : Type 0) (r : Request) (IsNode : SlotRoute → Address → Type 0) (old new : List SaidCommand) where
  -- So is a command that was driven over a log.
  pub served_at : (value : Reply) → IsDelivered IsNode r (map entry_by old) (map entry_by new)
      → IsServedAmid C r.names.registered r.arguments r.order (λ rs. rs ≡ replies_in old) (λ rs. rs ≡ replies_in new) value → IsServedAt C r.names.registered r.arguments old new value
  served_at value d = served_in_order C r old new value (by_delivered IsNode r (map entry_by old) (map entry_by new) d)

-- And one that was tried until each part was answered.
pub served_at_retries : (C : Type 0) (r : Request) (IsTry : Request → SlotRoute → Try → Type 0) → ((route : SlotRoute) (try : Try) → IsTry r route try → IsOwnTry r route try) → (old new : List SaidCommand) (value : Reply) → AreAllTried IsTry r (map entry_by old) (map entry_by new)
    → IsServedAmid C r.names.registered r.arguments r.order (λ rs. rs ≡ replies_in old) (λ rs. rs ≡ replies_in new) value → IsServedAt C r.names.registered r.arguments old new value
served_at_retries C r IsTry own old new value d = served_in_order C r old new value (by_tried IsTry r own (map entry_by old) (map entry_by new) d)
