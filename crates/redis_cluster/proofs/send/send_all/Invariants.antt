use Rattle.std.proofs.Common.{◌≡◌, ℕ, length, take}
use Rattle.std.specs.Prelude.{slice_get}
use Rattle.redis_cluster.specs.MultiKey.{MultiKey}
use Rattle.redis_cluster.specs.Orders.{in_order, times}
use Rattle.redis_cluster.specs.SlotItems.{items_of_slot}
use Rattle.redis_cluster.specs.Frame.{SameNodes}
use Rattle.redis_cluster.specs.Unsplit.{act_of, after, reply_by, results_of}
use Rattle.redis_cluster.proofs.Fold.{joined}
use Rattle.redis_routing.specs.Split.{slots_of}
use Rattle.redis_cluster.specs.Ready.{targets, IsPlanOf, tries_with}
use Rattle.redis_cluster.specs.Retry.{AreAllowed, SentInTurn}
use Rattle.redis_cluster.proofs.Sending.{AreTold, AreSomeTold, AreGivenSo, AreUntold}
use Rattle.redis_cluster.proofs.send.send_all.Given as goal

-- the first routes of the order were sent, and their replies told
abbrev pub invariant-loop-number : goal.invariant-loop-number
invariant-loop-number g l =
    let nodes = g.N.Nodes in
    let slots = slots_of l.fn.plan.split.routes in
    let old = (nodes.state l.fn.nodes).keyspace in
    record {
      split : l.plan.split ≡ l.fn.plan.split;
      same_targets : targets l.plan ≡ targets l.fn.plan;
      room : length l.plan.answers ≡ length slots;
      frame : SameNodes nodes l.fn.nodes l.nodes;
      some_told : AreSomeTold l.plan.answers l.order l.number-index (length slots);
      given : AreGivenSo (nodes.gave l.fn.nodes) (nodes.gave l.nodes) l.plan.answers (take l.number-index l.order);
      told : (command : MultiKey) → IsPlanOf (nodes.registered l.fn.nodes) command l.fn.plan → nodes.kept l.nodes → AreTold l.plan.answers slots l.order l.number-index (λ slot. reply_by command.form (items_of_slot slot command.tuples (results_of nodes.step command old)));
      untold : AreUntold l.plan.answers l.order l.number-index (length slots);
      trace : SentInTurn (in_order (tries_with (targets l.fn.plan) l.fn.retries) (take l.number-index l.order)) (nodes.state l.fn.nodes).trace (nodes.state l.nodes).trace;
      allowed : AreAllowed (nodes.may_refuse l.fn.nodes) (nodes.state l.fn.nodes).trace (nodes.state l.nodes).trace;
      others : (other : ℕ) → times other (take l.number-index l.order) ≡ 0 → slice_get l.retries other ≡ slice_get l.fn.retries other;
      keyspace : (command : MultiKey) → IsPlanOf (nodes.registered l.fn.nodes) command l.fn.plan → nodes.kept l.nodes → (nodes.state l.nodes).keyspace ≡ after (act_of nodes.step command) (joined (in_order slots (take l.number-index l.order)) command.tuples) old;
      answered : l.answered ≡ l.number-index;
    }
