use Rattle.std.proofs.Common.{◌≡◌, ◌<◌, ℕ, ◌+◌, List, ◌++◌, Some, Ok, All, refl, sym, ap, ◌∙◌, arith, subst, length, map, take, get_or}
use Rattle.std.proofs.lemmas.Grind.{common_steps}
use Rattle.std.specs.Prelude.{slice_get, slice_set, option_and_then, IsSome, Option}
use Rattle.std.proofs.lemmas.Slice.Zip.{AllZip-long}
use Rattle.std.proofs.lemmas.List.{append-nil, length-map, length-take-le, length-set}
use Rattle.std.proofs.lemmas.List.Elements.{All-take}
use Rattle.std.proofs.lemmas.Option.{slice_get-get_or, slice_get_within}
use Rattle.std.proofs.Common.{take_all}
use Rattle.resp_core.specs.Reply.{Reply}
use Rattle.resp_core.specs.View.{view}
use Rattle.redis_routing.specs.Registry.{Registrations}
use Rattle.redis_cluster.specs.MultiKey.{MultiKey, multi_key, part_of, tuples_of_slot, form_by_policy}
use Rattle.redis_cluster.specs.Orders.{times, in_order, NamesOnce}
use Rattle.redis_cluster.specs.SlotItems.{items_of_slot}
use Rattle.redis_cluster.specs.Trace.{answered}
use Rattle.redis_cluster.specs.Unsplit.{act_of, after, reply_by, results, results_of}
use Rattle.redis_cluster.proofs.Fold.{joined}
use Rattle.redis_cluster.proofs.Orders.{in_order_more, get-in_order, length-in_order}
use Rattle.redis_cluster.proofs.Whole.{keyspace_of_all, keyspace_at_stop, keyspace_more, results_more, names_slots_from}
use Rattle.redis_cluster.proofs.Parts.{length-results}
use Rattle.redis_cluster.specs.Plan.{Plan, tuples_in_split}
use Rattle.redis_routing.specs.Split.{slots_of, Split}
use Rattle.redis_cluster.specs.Ended.{AreStopped}
use Rattle.redis_cluster.specs.Retry.{AttemptsOf, RetryState}
use Rattle.redis_cluster.specs.Ready.{Target, targets, IsPlanOf, tries_with, try_with}
use Rattle.redis_cluster.specs.Sends.{ending_of}
use Rattle.redis_cluster.proofs.Allowed.{allowed_none, allowed_more}
use Rattle.redis_cluster.proofs.Frame.{frame_more}
use Rattle.redis_cluster.proofs.Tries.{all_at, try_part, try_there, tries_many, tried_more, others_more, same_cause}
use Rattle.redis_cluster.proofs.Zips.{zip_long}
use Rattle.redis_cluster.proofs.Sending.{RouteTarget, route_target, none_at, not_yet, AreTold, AreSomeTold, AreUntold, told_more, some_told_more, all_some_told, AreGivenSo, given_more, given_all, untold_less, all_told, left_at, of_one_slot}
use Rattle.redis_cluster.proofs.send.send_all.Goals as goal

-- the routes have as many slots
many : (plan : Plan) → length (slots_of plan.split.routes) ≡ length plan.split.routes
many plan = length-map plan.split.routes (λ r. r.0.slot)

-- there are as many targets as slots
targets_many : (registered : Registrations) (command : MultiKey) (plan : Plan) → IsPlanOf registered command plan → length (targets plan) ≡ length (slots_of plan.split.routes)
targets_many registered command plan is = zip_long plan.nodes plan.parts (length (slots_of plan.split.routes)) (is.nodes ∙ sym (many plan)) (AllZip-long (λ slot part. multi_key registered (map Some part) ≡ Some (part_of command slot)) (slots_of plan.split.routes) plan.parts is.parts)

-- what stands next in an order
next_in_order : {X : Type 0} (xs : List X) (order : List ℕ) (i : ℕ) (x : X) → All (λ k. k < length xs) order → i < length order → slice_get xs (get_or order i 0) ≡ Some x → slice_get (in_order xs order) i ≡ Some x
next_in_order xs order i x within inside at = get-in_order xs order within i ∙ ap (option_and_then (λ k. slice_get xs k)) (slice_get-get_or order i 0 inside) ∙ at

pub loop-number-init : goal.loop-number-init
loop-number-init g c = grind (arith, common_steps, length-map, many, append-nil, none_at, allowed_none)

pub send_part-requires : goal.send_part-requires
send_part-requires g c =
    let plan = c.args.plan.now in
    let k = get_or c.args.order.now c.loop-number.number-index 0 in
    let command = c.requires.command.0 in
    let is = c.requires.command.1 in
    let below : k < length plan.split.routes = c.requires.order.below c.loop-number.number-index 0 c.loop-number-test.true in
    let t = route_target (g.N.Nodes.registered c.args.nodes.now) command (slots_of plan.split.routes) plan.nodes plan.parts k (is.nodes ∙ sym (many plan)) is.parts (omega (arith, below, many plan)) in
    record {
      there = (
        t.target,
        ap (λ ts. slice_get ts k) c.loop-number.invariant.same_targets ∙ t.target_at,
        record { command = part_of command t.slot; command_is = ap (λ registered. multi_key registered (map Some t.target.1)) c.loop-number.invariant.frame.registered ∙ t.part; slot = t.slot; of_slot = of_one_slot t.slot command.tuples },
      );
      named = λ retry at.
          all_at (λ (r : RetryState). IsSome r.target) c.args.retries.now k retry c.requires.named
          (sym (c.loop-number.invariant.others k (not_yet (length plan.split.routes) c.args.order.now c.loop-number.number-index c.requires.order c.loop-number-test.true)) ∙ at);
    }

pub tell_first-requires : goal.tell_first-requires
tell_first-requires g c =
    let plan = c.args.plan.now in
    let order = c.args.order.now in
    let i = c.loop-number.number-index in
    let k = get_or order i 0 in
    let below : k < length plan.split.routes = c.requires.order.below i 0 c.loop-number-test.true in
    c.loop-number.invariant.untold k (omega (arith, below, many plan)) (not_yet (length plan.split.routes) order i c.requires.order c.loop-number-test.true)

pub loop-number-preserved : goal.loop-number-preserved
loop-number-preserved g c =
    let nodes = g.N.Nodes in
    let plan = c.args.plan.now in
    let order = c.args.order.now in
    let slots = slots_of plan.split.routes in
    let old = (nodes.state c.args.nodes.now).keyspace in
    let i = c.loop-number.number-index in
    let k = get_or order i 0 in
    let inv = c.loop-number.invariant in
    let inside : i < length order = c.loop-number-test.true in
    let below : k < length plan.split.routes = c.requires.order.below i 0 inside in
    let within : k < length slots = omega (arith, below, many plan) in
    let names : NamesOnce (length slots) order = subst (λ n. NamesOnce n order) (sym (many plan)) c.requires.order in
    let there : (command : MultiKey) → IsPlanOf (nodes.registered c.args.nodes.now) command plan → RouteTarget (nodes.registered c.args.nodes.now) command slots plan.nodes plan.parts k =
    λ command is. route_target (g.N.Nodes.registered c.args.nodes.now) command slots plan.nodes plan.parts k (is.nodes ∙ sym (many plan)) is.parts within in
    let at : (target : Target) → slice_get (targets plan) k ≡ Some target → slice_get (targets c.loop-number.plan) k ≡ Some target =
    λ target is. ap (λ ts. slice_get ts k) inv.same_targets ∙ is in
    let t = there c.requires.command.0 c.requires.command.1 in
    let retries = c.args.retries.now in
    let tries = tries_with (targets plan) retries in
    let unsent : slice_get c.loop-number.retries k ≡ slice_get retries k = inv.others k (not_yet (length plan.split.routes) order i c.requires.order inside) in
    let answers_are : c.tell_first.new.plan.answers ≡ slice_set c.loop-number.plan.answers k (Some (Ok c.in-Ok.reply)) = ap (λ (p : Plan). p.answers) c.tell_first.ensures in
    let room : k < length c.loop-number.plan.answers = omega (arith, within, inv.room) in
    record {
      split = ap (λ (p : Plan). p.split) c.tell_first.ensures ∙ inv.split;
      same_targets = ap targets c.tell_first.ensures ∙ inv.same_targets;
      room = ap length answers_are ∙ length-set c.loop-number.plan.answers k (Some (Ok c.in-Ok.reply)) ∙ inv.room;
      frame = frame_more nodes c.args.nodes.now c.loop-number.nodes c.send_part.new.nodes inv.frame c.send_part.ensures.frame;
      some_told = subst (λ rs. AreSomeTold rs order (i + 1) (length slots)) (sym answers_are)
          (some_told_more c.loop-number.plan.answers slots order i k inside refl room (length slots) c.in-Ok.reply inv.some_told);
      given = subst (λ rs. AreGivenSo (nodes.gave c.args.nodes.now) (nodes.gave c.send_part.new.nodes) rs (take (i + 1) order)) (sym answers_are)
          (given_more (nodes.gave c.args.nodes.now) (nodes.gave c.loop-number.nodes) (nodes.gave c.send_part.new.nodes) c.loop-number.plan.answers order i k c.in-Ok.reply inside refl room
          (not_yet (length plan.split.routes) order i c.requires.order inside) (c.in-Ok.ensures.answered t.target (at t.target t.target_at)).gave inv.given);
      told = λ command is now.
          let was = c.send_part.ensures.frame.kept now in
          let own = there command is in
          let reply_of : ℕ → Reply = λ slot. reply_by command.form (items_of_slot slot command.tuples (results_of nodes.step command old)) in
          let says : view c.in-Ok.reply ≡ reply_of own.slot =
          (c.in-Ok.ensures.answered own.target (at own.target own.target_at)).reply (part_of command own.slot) (ap (λ p. multi_key (nodes.registered c.loop-number.nodes) (map Some p)) (try_part own.target (slice_get c.loop-number.retries k)) ∙ ap (λ registered. multi_key registered (map Some own.target.1)) inv.frame.registered ∙ own.part) now
          ∙ ap (λ ks. reply_by command.form (results (act_of nodes.step command) (tuples_of_slot own.slot command.tuples) ks)) (inv.keyspace command is was)
          ∙ ap (reply_by command.form) (results_more (act_of nodes.step command) slots order command.tuples old i k own.slot names is.at_most_once inside refl own.slot_at) in
          subst (λ rs. AreTold rs slots order (i + 1) reply_of) (sym answers_are)
          (told_more c.loop-number.plan.answers slots order i k inside refl room reply_of own.slot c.in-Ok.reply own.slot_at says (inv.told command is was));
      untold = subst (λ rs. AreUntold rs order (i + 1) (length slots)) (sym answers_are)
          (untold_less c.loop-number.plan.answers slots order i k inside refl room (length slots) c.in-Ok.reply inv.untold);
      trace = tried_more (in_order tries (take i order)) (in_order tries (take (i + 1) order)) (try_with t.target (slice_get retries k)) (nodes.state c.args.nodes.now).trace (nodes.state c.loop-number.nodes).trace (nodes.state c.send_part.new.nodes).trace inv.trace
          (subst (λ (o : Option RetryState). AttemptsOf (try_with t.target o) (Some answered) (nodes.state c.loop-number.nodes).trace (nodes.state c.send_part.new.nodes).trace) unsent (c.in-Ok.ensures.answered t.target (at t.target t.target_at)).tried)
          (in_order_more tries order i k (try_with t.target (slice_get retries k)) inside refl (try_there (targets plan) retries k t.target t.target_at));
      allowed = allowed_more (nodes.may_refuse c.args.nodes.now) (nodes.may_refuse c.loop-number.nodes) (nodes.state c.args.nodes.now).trace (nodes.state c.loop-number.nodes).trace (nodes.state c.send_part.new.nodes).trace inv.frame.may_refuse inv.allowed c.send_part.ensures.allowed;
      others = others_more retries c.loop-number.retries c.send_part.new.retries order i k inside refl inv.others c.send_part.ensures.others;
      keyspace = λ command is now.
          let own = there command is in
          (c.in-Ok.ensures.answered own.target (at own.target own.target_at)).keyspace (part_of command own.slot) (ap (λ p. multi_key (nodes.registered c.loop-number.nodes) (map Some p)) (try_part own.target (slice_get c.loop-number.retries k)) ∙ ap (λ registered. multi_key registered (map Some own.target.1)) inv.frame.registered ∙ own.part) now
          ∙ ap (λ ks. after (act_of nodes.step command) (tuples_of_slot own.slot command.tuples) ks) (inv.keyspace command is (c.send_part.ensures.frame.kept now))
          ∙ keyspace_more (act_of nodes.step command) slots order command.tuples old i k own.slot inside refl own.slot_at;
      answered = omega (arith, inv.answered);
    }

pub returns-in-Err-clause-stopped : goal.returns-in-Err-clause-stopped
returns-in-Err-clause-stopped g c =
    let nodes = g.N.Nodes in
    let plan = c.args.plan.now in
    let order = c.args.order.now in
    let retries = c.args.retries.now in
    let tries = tries_with (targets plan) retries in
    let slots = slots_of plan.split.routes in
    let old = (nodes.state c.args.nodes.now).keyspace in
    let i = c.loop-number.number-index in
    let k = get_or order i 0 in
    let inv = c.loop-number.invariant in
    let inside : i < length order = c.loop-number-test.true in
    let below : k < length plan.split.routes = c.requires.order.below i 0 inside in
    let within : k < length slots = omega (arith, below, many plan) in
    let names : NamesOnce (length slots) order = subst (λ n. NamesOnce n order) (sym (many plan)) c.requires.order in
    let unsent : slice_get c.loop-number.retries k ≡ slice_get retries k = inv.others k (not_yet (length plan.split.routes) order i c.requires.order inside) in
    let ending = ending_of c.in-Err.error in (
      c.in-Err.error,
      c.from.ensures,
      λ command is.
          let t = route_target (g.N.Nodes.registered c.args.nodes.now) command slots plan.nodes plan.parts k (is.nodes ∙ sym (many plan)) is.parts within in
          let try = try_with t.target (slice_get retries k) in
          let there : slice_get (targets c.loop-number.plan) k ≡ Some t.target = ap (λ ts. slice_get ts k) inv.same_targets ∙ t.target_at in
          let next : slice_get (in_order tries order) i ≡ Some try =
          next_in_order tries order i try (subst (λ n. All (λ j. j < n) order) (sym (tries_many (targets plan) retries ∙ targets_many (nodes.registered c.args.nodes.now) command plan is)) names.below) inside (try_there (targets plan) retries k t.target t.target_at) in
          let stopped : AreStopped (nodes.kept c.send_part.new.nodes) nodes.step (nodes.may_refuse c.args.nodes.now) command plan tries order i old (nodes.state c.send_part.new.nodes).keyspace (nodes.state c.args.nodes.now).trace (nodes.state c.send_part.new.nodes).trace (nodes.state c.send_part.new.nodes).mark ending =
          record {
            before = (nodes.state c.loop-number.nodes).trace;
            trace = inv.trace;
            keyspace = λ now.
                let act = act_of nodes.step command in
                let was = inv.keyspace command is (c.send_part.ensures.frame.kept now) in
                left_at nodes.step act command.tuples (part_of command t.slot) (in_order slots (take i order)) (in_order slots (take (i + 1) order)) old (nodes.state c.loop-number.nodes).keyspace (nodes.state c.send_part.new.nodes).keyspace ending
                (was ∙ keyspace_at_stop act slots order command.tuples old i names is.at_most_once)
                (ap (λ ks. after act (tuples_of_slot t.slot command.tuples) ks) was ∙ keyspace_more act slots order command.tuples old i k t.slot inside refl t.slot_at
                ∙ keyspace_at_stop act slots order command.tuples old (i + 1) names is.at_most_once)
                ((c.in-Err.ensures.unanswered t.target there).left (part_of command t.slot) (ap (λ p. multi_key (nodes.registered c.loop-number.nodes) (map Some p)) (try_part t.target (slice_get c.loop-number.retries k)) ∙ ap (λ registered. multi_key registered (map Some t.target.1)) inv.frame.registered ∙ t.part) now);
            try = try;
            next = next;
            tried = subst (λ (o : Option RetryState). AttemptsOf (try_with t.target o) ending (nodes.state c.loop-number.nodes).trace (nodes.state c.send_part.new.nodes).trace) unsent (c.in-Err.ensures.unanswered t.target there).tried;
            cause = same_cause (nodes.may_refuse c.args.nodes.now) (nodes.may_refuse c.loop-number.nodes) (length (nodes.state c.send_part.new.nodes).trace) (nodes.state c.send_part.new.nodes).mark ending inv.frame.may_refuse (c.in-Err.ensures.unanswered t.target there).cause;
          } in
          subst (λ n. AreStopped (nodes.kept c.send_part.new.nodes) nodes.step (nodes.may_refuse c.args.nodes.now) command plan tries order n old (nodes.state c.send_part.new.nodes).keyspace (nodes.state c.args.nodes.now).trace (nodes.state c.send_part.new.nodes).trace (nodes.state c.send_part.new.nodes).mark ending) (sym inv.answered) stopped,
    )

pub returns-clause-replies : goal.returns-clause-replies
returns-clause-replies g c =
    let nodes = g.N.Nodes in
    let plan = c.args.plan.now in
    let order = c.args.order.now in
    let slots = slots_of plan.split.routes in
    let inv = c.loop-number.invariant in
    let i = c.loop-number.number-index in
    let whole : take i order ≡ order = take_all i order (omega (arith, c.loop-number-test.false)) in
    λ command is now.
    let rs = results_of nodes.step command (nodes.state c.args.nodes.now).keyspace in
    let reply_of : ℕ → Reply = λ slot. reply_by command.form (items_of_slot slot command.tuples rs) in
    let all = all_told c.loop-number.plan.answers slots reply_of inv.room
    (λ number slot at. inv.told command is now number slot at
    (let inside : number < length slots = slice_get_within slots number slot at in
    let once : times number (take i order) ≡ 1 = ap (times number) whole ∙ c.requires.order.once number (omega (arith, inside, many plan)) in omega (arith, once))) in
    record {
      replies = all.0;
      all_told = all.1;
      answered = record {
        form_is = ap (λ (s : Split). form_by_policy s.policy) inv.split ∙ is.form;
        each = length-results (act_of nodes.step command) command.tuples (nodes.state c.args.nodes.now).keyspace ∙ ap length is.tuples ∙ ap (λ (s : Split). length (tuples_in_split s)) (sym inv.split);
        replies_are = all.2 ∙ ap (λ ts. map (λ slot. reply_by command.form (items_of_slot slot ts rs)) slots) is.tuples
            ∙ ap (λ (s : Split). map (λ slot. reply_by command.form (items_of_slot slot (tuples_in_split s) rs)) (slots_of s.routes)) (sym inv.split);
      };
    }

pub returns-clause-keyspace : goal.returns-clause-keyspace
returns-clause-keyspace g c = grind (arith, common_steps, many, joined, keyspace_of_all, names_slots_from)

pub returns-clause-told : goal.returns-clause-told
returns-clause-told g c =
    let plan = c.args.plan.now in
    let order = c.args.order.now in
    let inv = c.loop-number.invariant in
    let i = c.loop-number.number-index in
    let whole : take i order ≡ order = take_all i order (omega (arith, c.loop-number-test.false)) in
    let all = all_some_told c.loop-number.plan.answers
    (λ number inside.
    let room = inv.room in
    let below : number < length (slots_of plan.split.routes) = omega (arith, inside, room) in
    let once : times number (take i order) ≡ 1 = ap (times number) whole ∙ c.requires.order.once number (omega (arith, below, many plan)) in
    inv.some_told number below (omega (arith, once))) in
    record {
      values = all.0;
      all_told = all.1;
      each = sym (length-map all.0 (λ v. Some (Ok v))) ∙ ap length (sym all.1) ∙ inv.room ∙ many plan;
      gave = given_all (g.N.Nodes.gave c.args.nodes.now) (g.N.Nodes.gave c.loop-number.nodes) c.loop-number.plan.answers order all.0 all.1
          (subst (AreGivenSo (g.N.Nodes.gave c.args.nodes.now) (g.N.Nodes.gave c.loop-number.nodes) c.loop-number.plan.answers) whole inv.given);
    }

pub returns-in-Err-clause-given : goal.returns-in-Err-clause-given
returns-in-Err-clause-given g c =
    let plan = c.args.plan.now in
    let order = c.args.order.now in
    let inv = c.loop-number.invariant in
    let i = c.loop-number.number-index in
    let k = get_or c.args.order.now i 0 in
    let is = c.requires.command.1 in
    let next : k < length plan.split.routes = c.requires.order.below i 0 c.loop-number-test.true in
    let t = route_target (g.N.Nodes.registered c.args.nodes.now) c.requires.command.0 (slots_of plan.split.routes) plan.nodes plan.parts k (is.nodes ∙ sym (many plan)) is.parts (omega (arith, next, many plan)) in
    let given = inv.given in
    let room = inv.room in
    let long : length plan.split.routes ≡ length c.loop-number.plan.answers = sym (room ∙ many plan) in
    let below : All (λ k. k < length c.loop-number.plan.answers) (take i order) =
    All-take (λ k. k < length c.loop-number.plan.answers) i order (subst (λ n. All (λ k. k < n) order) long c.requires.order.below) in
    let first : length (take i order) ≡ i = length-take-le i order (omega (arith, c.loop-number-test.true)) in
    let each : length given.values ≡ i =
    sym (length-map given.values (λ v. Some (Ok v))) ∙ ap length (sym given.told) ∙ length-in_order c.loop-number.plan.answers (take i order) below ∙ first in
    record {
      replies = map view given.values;
      each = length-map given.values view ∙ each ∙ sym inv.answered;
      gave = λ before was. (c.in-Err.ensures.unanswered t.target (ap (λ ts. slice_get ts k) inv.same_targets ∙ t.target_at)).gave (before ++ map view given.values) (given.gave before was);
    }

pub returns-in-Err-clause-allowed : goal.returns-in-Err-clause-allowed
returns-in-Err-clause-allowed g c =
    let nodes = g.N.Nodes in
    let inv = c.loop-number.invariant in
    allowed_more (nodes.may_refuse c.args.nodes.now) (nodes.may_refuse c.loop-number.nodes) (nodes.state c.args.nodes.now).trace (nodes.state c.loop-number.nodes).trace (nodes.state c.send_part.new.nodes).trace inv.frame.may_refuse inv.allowed c.send_part.ensures.allowed

pub returns-in-Err-clause-frame : goal.returns-in-Err-clause-frame
returns-in-Err-clause-frame g c = frame_more g.N.Nodes c.args.nodes.now c.loop-number.nodes c.send_part.new.nodes c.loop-number.invariant.frame c.send_part.ensures.frame
