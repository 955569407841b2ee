use Rattle.std.proofs.Common.{◌≡◌, ◌∙◌, Option, Some, ap, sym, subst, map}
use Rattle.std.specs.Prelude.{IfSome}
use Rattle.redis_cluster.specs.MultiKey.{MultiKey, multi_key}
use Rattle.redis_cluster.specs.Ended.{IsPartUnanswered}
use Rattle.redis_cluster.specs.declared.nodes.SendError.TheVariants as sent
use Rattle.redis_cluster.specs.Ready.{try_by}
use Rattle.redis_routing.specs.declared.info.Redirect.{Redirect}
use Rattle.redis_cluster.proofs.Allowed.{allowed_sent, allowed_more}
use Rattle.redis_cluster.proofs.Frame.{frame_more}
use Rattle.redis_cluster.proofs.PartSends.{answered_then, unanswered_then}
use Rattle.redis_cluster.proofs.Trying.{answers, loses, refuses_last, refuses, redirects_last, redirects, stays}
use Rattle.redis_cluster.proofs.attempts.send_with_retries.Goals as goal

-- what is said of a command, where there is one
of_command : (P : MultiKey → Type 0) (found : Option MultiKey) (command : MultiKey) → found ≡ Some command → IfSome found P → P command
of_command P found command is said = subst (λ (o : Option MultiKey). IfSome o P) is said

pub returns-in-Ok-clause-answered : goal.returns-in-Ok-clause-answered
returns-in-Ok-clause-answered g c =
    let nodes = g.N.Nodes in
    let try = try_by c.args.part.now c.args.retry.now in
    let inv = c.loop-node.invariant in
    answered_then nodes try c.args.nodes.now c.loop-node.nodes c.send.new.self inv.frame inv.keyspace inv.gave c.send.ensures.kept c.in-Ok.reply
    (answers try (nodes.state c.args.nodes.now).trace (nodes.state c.loop-node.nodes).trace (nodes.state c.send.new.self).trace c.loop-node.retry c.in-Some.node.now inv.tried (sym c.in-Some.ensures.target) c.in-Ok.ensures.trace)
    c.in-Ok.ensures.gave c.in-Ok.ensures.reply c.in-Ok.ensures.keyspace

pub returns-then-not-on_failure-clause-unanswered : goal.returns-then-not-on_failure-clause-unanswered
returns-then-not-on_failure-clause-unanswered g c =
    let nodes = g.N.Nodes in
    let try = try_by c.args.part.now c.args.retry.now in
    let inv = c.loop-node.invariant in
    let ended = rw c.in-Refused.is at c.in-Err.ensures.unanswered in
    unanswered_then nodes try c.args.nodes.now c.loop-node.nodes c.send.new.self inv.frame inv.keyspace inv.gave c.send.ensures.kept (sent.Refused c.in-Refused.refusal) c.in-Some.node.now
    (refuses_last try (nodes.state c.args.nodes.now).trace (nodes.state c.loop-node.nodes).trace (nodes.state c.send.new.self).trace c.loop-node.retry c.in-Some.node.now inv.tried (sym c.in-Some.ensures.target) c.in-Refused.refusal ended.1 (c.on_failure.ensures.ended c.if-not-on_failure.true).0)
    ended c.in-Err.ensures.gave_none (rw c.in-Refused.is at c.in-Err.ensures.left)

pub loop-node-preserved-else-not-on_failure : goal.loop-node-preserved-else-not-on_failure
loop-node-preserved-else-not-on_failure g c =
    let nodes = g.N.Nodes in
    let inv = c.loop-node.invariant in
    let told = rw c.in-Refused.is at c.in-Err.ensures.unanswered in
    let left = rw c.in-Refused.is at c.in-Err.ensures.left in
    record {
      tried = refuses (try_by c.args.part.now c.args.retry.now) (nodes.state c.args.nodes.now).trace (nodes.state c.loop-node.nodes).trace (nodes.state c.send.new.self).trace c.loop-node.retry c.in-Some.node.now
          inv.tried (sym c.in-Some.ensures.target) c.in-Refused.refusal c.on_failure.new.self told.1 (c.on_failure.ensures.named c.if-not-on_failure.false);
      allowed = allowed_more (nodes.may_refuse c.args.nodes.now) (nodes.may_refuse c.loop-node.nodes) (nodes.state c.args.nodes.now).trace (nodes.state c.loop-node.nodes).trace (nodes.state c.send.new.self).trace c.loop-node.invariant.frame.may_refuse c.loop-node.invariant.allowed
          (allowed_sent (nodes.may_refuse c.loop-node.nodes) c.send.result (nodes.state c.loop-node.nodes).trace (nodes.state c.send.new.self).trace (nodes.state c.send.new.self).mark c.in-Some.node.now c.args.part.now c.send.ensures.trace c.send.ensures.unanswered);
      frame = frame_more nodes c.args.nodes.now c.loop-node.nodes c.send.new.self inv.frame (record { kept = c.send.ensures.kept; registered = c.send.ensures.registered; may_refuse = c.send.ensures.may_refuse });
      keyspace = λ now. of_command (λ command. nodes.kept c.send.new.self → (nodes.state c.send.new.self).keyspace ≡ (nodes.state c.loop-node.nodes).keyspace) (multi_key (nodes.registered c.loop-node.nodes) (map Some c.args.part.now)) c.requires.part.command (ap (λ registered. multi_key registered (map Some c.args.part.now)) inv.frame.registered ∙ c.requires.part.command_is) left now
          ∙ inv.keyspace (c.send.ensures.kept now);
      gave = λ replies was. c.in-Err.ensures.gave_none replies (inv.gave replies was);
    }

pub loop-node-preserved-else-not-on_failure-2 : goal.loop-node-preserved-else-not-on_failure-2
loop-node-preserved-else-not-on_failure-2 g c =
    let nodes = g.N.Nodes in
    let inv = c.loop-node.invariant in
    let told = rw c.in-Refused.is at c.in-Err.ensures.unanswered in
    let left = rw c.in-Refused.is at c.in-Err.ensures.left in
    record {
      tried = refuses (try_by c.args.part.now c.args.retry.now) (nodes.state c.args.nodes.now).trace (nodes.state c.loop-node.nodes).trace (nodes.state c.send.new.self).trace c.loop-node.retry c.in-Some.node.now
          inv.tried (sym c.in-Some.ensures.target) c.in-Refused.refusal c.on_failure.new.self told.1 (c.on_failure.ensures.named c.if-not-on_failure.false);
      allowed = allowed_more (nodes.may_refuse c.args.nodes.now) (nodes.may_refuse c.loop-node.nodes) (nodes.state c.args.nodes.now).trace (nodes.state c.loop-node.nodes).trace (nodes.state c.send.new.self).trace c.loop-node.invariant.frame.may_refuse c.loop-node.invariant.allowed
          (allowed_sent (nodes.may_refuse c.loop-node.nodes) c.send.result (nodes.state c.loop-node.nodes).trace (nodes.state c.send.new.self).trace (nodes.state c.send.new.self).mark c.in-Some.node.now c.args.part.now c.send.ensures.trace c.send.ensures.unanswered);
      frame = frame_more nodes c.args.nodes.now c.loop-node.nodes c.send.new.self inv.frame (record { kept = c.send.ensures.kept; registered = c.send.ensures.registered; may_refuse = c.send.ensures.may_refuse });
      keyspace = λ now. of_command (λ command. nodes.kept c.send.new.self → (nodes.state c.send.new.self).keyspace ≡ (nodes.state c.loop-node.nodes).keyspace) (multi_key (nodes.registered c.loop-node.nodes) (map Some c.args.part.now)) c.requires.part.command (ap (λ registered. multi_key registered (map Some c.args.part.now)) inv.frame.registered ∙ c.requires.part.command_is) left now
          ∙ inv.keyspace (c.send.ensures.kept now);
      gave = λ replies was. c.in-Err.ensures.gave_none replies (inv.gave replies was);
    }

pub returns-in-Err-on_redirect-clause-unanswered : goal.returns-in-Err-on_redirect-clause-unanswered
returns-in-Err-on_redirect-clause-unanswered g c =
    let nodes = g.N.Nodes in
    let try = try_by c.args.part.now c.args.retry.now in
    let inv = c.loop-node.invariant in
    let ended = rw c.in-Redirected.is at c.in-Err.ensures.unanswered in
    let none = c.in-Err-on_redirect.ensures.ended in
    subst (λ (r : Redirect). IsPartUnanswered nodes try c.args.nodes.now c.send.new.self (sent.Redirected r)) (sym none.0)
    (unanswered_then nodes try c.args.nodes.now c.loop-node.nodes c.send.new.self inv.frame inv.keyspace inv.gave c.send.ensures.kept (sent.Redirected c.in-Redirected.redirect) c.in-Some.node.now
    (redirects_last try (nodes.state c.args.nodes.now).trace (nodes.state c.loop-node.nodes).trace (nodes.state c.send.new.self).trace c.loop-node.retry c.in-Some.node.now inv.tried (sym c.in-Some.ensures.target) c.in-Redirected.redirect ended.1 none.1)
    ended c.in-Err.ensures.gave_none (rw c.in-Redirected.is at c.in-Err.ensures.left))

pub loop-node-preserved : goal.loop-node-preserved
loop-node-preserved g c =
    let nodes = g.N.Nodes in
    let inv = c.loop-node.invariant in
    let told = rw c.in-Redirected.is at c.in-Err.ensures.unanswered in
    let left = rw c.in-Redirected.is at c.in-Err.ensures.left in
    record {
      tried = redirects (try_by c.args.part.now c.args.retry.now) (nodes.state c.args.nodes.now).trace (nodes.state c.loop-node.nodes).trace (nodes.state c.send.new.self).trace c.loop-node.retry c.in-Some.node.now
          inv.tried (sym c.in-Some.ensures.target) c.in-Redirected.redirect c.on_redirect.new.self told.1 c.in_default-on_redirect.ensures.named;
      allowed = allowed_more (nodes.may_refuse c.args.nodes.now) (nodes.may_refuse c.loop-node.nodes) (nodes.state c.args.nodes.now).trace (nodes.state c.loop-node.nodes).trace (nodes.state c.send.new.self).trace c.loop-node.invariant.frame.may_refuse c.loop-node.invariant.allowed
          (allowed_sent (nodes.may_refuse c.loop-node.nodes) c.send.result (nodes.state c.loop-node.nodes).trace (nodes.state c.send.new.self).trace (nodes.state c.send.new.self).mark c.in-Some.node.now c.args.part.now c.send.ensures.trace c.send.ensures.unanswered);
      frame = frame_more nodes c.args.nodes.now c.loop-node.nodes c.send.new.self inv.frame (record { kept = c.send.ensures.kept; registered = c.send.ensures.registered; may_refuse = c.send.ensures.may_refuse });
      keyspace = λ now. of_command (λ command. nodes.kept c.send.new.self → (nodes.state c.send.new.self).keyspace ≡ (nodes.state c.loop-node.nodes).keyspace) (multi_key (nodes.registered c.loop-node.nodes) (map Some c.args.part.now)) c.requires.part.command (ap (λ registered. multi_key registered (map Some c.args.part.now)) inv.frame.registered ∙ c.requires.part.command_is) left now
          ∙ inv.keyspace (c.send.ensures.kept now);
      gave = λ replies was. c.in-Err.ensures.gave_none replies (inv.gave replies was);
    }

pub returns-in-Lost-clause-unanswered : goal.returns-in-Lost-clause-unanswered
returns-in-Lost-clause-unanswered g c =
    let nodes = g.N.Nodes in
    let try = try_by c.args.part.now c.args.retry.now in
    let inv = c.loop-node.invariant in
    let ended = rw c.in-Lost.is at c.in-Err.ensures.unanswered in
    unanswered_then nodes try c.args.nodes.now c.loop-node.nodes c.send.new.self inv.frame inv.keyspace inv.gave c.send.ensures.kept (sent.Lost c.in-Lost.loss) c.in-Some.node.now
    (loses try (nodes.state c.args.nodes.now).trace (nodes.state c.loop-node.nodes).trace (nodes.state c.send.new.self).trace c.loop-node.retry c.in-Some.node.now inv.tried (sym c.in-Some.ensures.target) c.in-Lost.loss ended.1)
    ended c.in-Err.ensures.gave_none (rw c.in-Lost.is at c.in-Err.ensures.left)

pub returns-in-Memory-clause-unanswered : goal.returns-in-Memory-clause-unanswered
returns-in-Memory-clause-unanswered g c =
    let nodes = g.N.Nodes in
    let try = try_by c.args.part.now c.args.retry.now in
    let inv = c.loop-node.invariant in
    let ended = rw c.in-Memory.is at c.in-Err.ensures.unanswered in
    unanswered_then nodes try c.args.nodes.now c.loop-node.nodes c.send.new.self inv.frame inv.keyspace inv.gave c.send.ensures.kept (sent.Memory) c.in-Some.node.now
    (stays try (nodes.state c.args.nodes.now).trace (nodes.state c.loop-node.nodes).trace (nodes.state c.send.new.self).trace c.loop-node.retry inv.tried ended.0)
    ended c.in-Err.ensures.gave_none (rw c.in-Memory.is at c.in-Err.ensures.left)

pub returns-in-Ok-clause-allowed : goal.returns-in-Ok-clause-allowed
returns-in-Ok-clause-allowed g c =
    let nodes = g.N.Nodes in
    allowed_more (nodes.may_refuse c.args.nodes.now) (nodes.may_refuse c.loop-node.nodes) (nodes.state c.args.nodes.now).trace (nodes.state c.loop-node.nodes).trace (nodes.state c.send.new.self).trace c.loop-node.invariant.frame.may_refuse c.loop-node.invariant.allowed
    (allowed_sent (nodes.may_refuse c.loop-node.nodes) c.send.result (nodes.state c.loop-node.nodes).trace (nodes.state c.send.new.self).trace (nodes.state c.send.new.self).mark c.in-Some.node.now c.args.part.now c.send.ensures.trace c.send.ensures.unanswered)

pub returns-then-not-on_failure-clause-allowed : goal.returns-then-not-on_failure-clause-allowed
returns-then-not-on_failure-clause-allowed g c =
    let nodes = g.N.Nodes in
    allowed_more (nodes.may_refuse c.args.nodes.now) (nodes.may_refuse c.loop-node.nodes) (nodes.state c.args.nodes.now).trace (nodes.state c.loop-node.nodes).trace (nodes.state c.send.new.self).trace c.loop-node.invariant.frame.may_refuse c.loop-node.invariant.allowed
    (allowed_sent (nodes.may_refuse c.loop-node.nodes) c.send.result (nodes.state c.loop-node.nodes).trace (nodes.state c.send.new.self).trace (nodes.state c.send.new.self).mark c.in-Some.node.now c.args.part.now c.send.ensures.trace c.send.ensures.unanswered)

pub returns-in-Err-on_redirect-clause-allowed : goal.returns-in-Err-on_redirect-clause-allowed
returns-in-Err-on_redirect-clause-allowed g c =
    let nodes = g.N.Nodes in
    allowed_more (nodes.may_refuse c.args.nodes.now) (nodes.may_refuse c.loop-node.nodes) (nodes.state c.args.nodes.now).trace (nodes.state c.loop-node.nodes).trace (nodes.state c.send.new.self).trace c.loop-node.invariant.frame.may_refuse c.loop-node.invariant.allowed
    (allowed_sent (nodes.may_refuse c.loop-node.nodes) c.send.result (nodes.state c.loop-node.nodes).trace (nodes.state c.send.new.self).trace (nodes.state c.send.new.self).mark c.in-Some.node.now c.args.part.now c.send.ensures.trace c.send.ensures.unanswered)

pub returns-in-Lost-clause-allowed : goal.returns-in-Lost-clause-allowed
returns-in-Lost-clause-allowed g c =
    let nodes = g.N.Nodes in
    allowed_more (nodes.may_refuse c.args.nodes.now) (nodes.may_refuse c.loop-node.nodes) (nodes.state c.args.nodes.now).trace (nodes.state c.loop-node.nodes).trace (nodes.state c.send.new.self).trace c.loop-node.invariant.frame.may_refuse c.loop-node.invariant.allowed
    (allowed_sent (nodes.may_refuse c.loop-node.nodes) c.send.result (nodes.state c.loop-node.nodes).trace (nodes.state c.send.new.self).trace (nodes.state c.send.new.self).mark c.in-Some.node.now c.args.part.now c.send.ensures.trace c.send.ensures.unanswered)

pub returns-in-Memory-clause-allowed : goal.returns-in-Memory-clause-allowed
returns-in-Memory-clause-allowed g c =
    let nodes = g.N.Nodes in
    allowed_more (nodes.may_refuse c.args.nodes.now) (nodes.may_refuse c.loop-node.nodes) (nodes.state c.args.nodes.now).trace (nodes.state c.loop-node.nodes).trace (nodes.state c.send.new.self).trace c.loop-node.invariant.frame.may_refuse c.loop-node.invariant.allowed
    (allowed_sent (nodes.may_refuse c.loop-node.nodes) c.send.result (nodes.state c.loop-node.nodes).trace (nodes.state c.send.new.self).trace (nodes.state c.send.new.self).mark c.in-Some.node.now c.args.part.now c.send.ensures.trace c.send.ensures.unanswered)

pub returns-in-Ok-clause-frame : goal.returns-in-Ok-clause-frame
returns-in-Ok-clause-frame g c =
    frame_more g.N.Nodes c.args.nodes.now c.loop-node.nodes c.send.new.self c.loop-node.invariant.frame (record { kept = c.send.ensures.kept; registered = c.send.ensures.registered; may_refuse = c.send.ensures.may_refuse })

pub returns-then-not-on_failure-clause-frame : goal.returns-then-not-on_failure-clause-frame
returns-then-not-on_failure-clause-frame g c =
    frame_more g.N.Nodes c.args.nodes.now c.loop-node.nodes c.send.new.self c.loop-node.invariant.frame (record { kept = c.send.ensures.kept; registered = c.send.ensures.registered; may_refuse = c.send.ensures.may_refuse })

pub returns-in-Err-on_redirect-clause-frame : goal.returns-in-Err-on_redirect-clause-frame
returns-in-Err-on_redirect-clause-frame g c =
    frame_more g.N.Nodes c.args.nodes.now c.loop-node.nodes c.send.new.self c.loop-node.invariant.frame (record { kept = c.send.ensures.kept; registered = c.send.ensures.registered; may_refuse = c.send.ensures.may_refuse })

pub returns-in-Lost-clause-frame : goal.returns-in-Lost-clause-frame
returns-in-Lost-clause-frame g c =
    frame_more g.N.Nodes c.args.nodes.now c.loop-node.nodes c.send.new.self c.loop-node.invariant.frame (record { kept = c.send.ensures.kept; registered = c.send.ensures.registered; may_refuse = c.send.ensures.may_refuse })

pub returns-in-Memory-clause-frame : goal.returns-in-Memory-clause-frame
returns-in-Memory-clause-frame g c =
    frame_more g.N.Nodes c.args.nodes.now c.loop-node.nodes c.send.new.self c.loop-node.invariant.frame (record { kept = c.send.ensures.kept; registered = c.send.ensures.registered; may_refuse = c.send.ensures.may_refuse })
