use Rattle.std.proofs.lemmas.Result.{IfOk-weaker, IfErr-weaker}
use Rattle.resp_core.specs.View.{view}
use Rattle.wire.specs.Said.{answer}
use Rattle.wire.specs.Commands.{after_command, entry_by, IsCommandKept}
use Rattle.wire.proofs.CommandReplaying.{answered_reply, answered_keeps, unsaid_keeps, unsaid_keys, sent_keys, sent_kept}
use Rattle.wire.proofs.Replaying.{kept_at_first, gave_at_first, said_gave, sent_none}
use Rattle.wire.proofs.wire_nodes.WireNodesNodes.send.Goals as goal

pub returns-clause-reply : goal.returns-clause-reply
returns-clause-reply g c = IfOk-weaker c.exchange-outcome.result _ _
    (λ value grew. answered_reply c.args.self.now.registry g.M.Meaning.step g.M.Meaning.took g.M.Meaning.initial (g.W.Wire.log c.args.self.now.wire) (g.W.Wire.log c.exchange-outcome.new.self) c.args.node.now c.args.cmd.now (view value) grew)
    c.exchange-outcome.ensures.answered

pub returns-clause-keyspace : goal.returns-clause-keyspace
returns-clause-keyspace g c =
    sent_keys c.args.self.now.registry g.M.Meaning.step g.M.Meaning.took g.M.Meaning.initial (g.W.Wire.log c.args.self.now.wire) (g.W.Wire.log c.exchange-outcome.new.self) c.args.node.now c.args.cmd.now c.exchange-outcome.result c.exchange-outcome.ensures.answered

pub returns-clause-kept : goal.returns-clause-kept
returns-clause-kept g c =
    sent_kept c.args.self.now.registry g.M.Meaning.step g.M.Meaning.took g.M.Meaning.initial (g.W.Wire.log c.args.self.now.wire) (g.W.Wire.log c.exchange-outcome.new.self) c.args.node.now c.args.cmd.now c.exchange-outcome.result c.exchange-outcome.ensures.answered c.exchange-outcome.ensures.unanswered

pub returns-clause-stays_kept : goal.returns-clause-stays_kept
returns-clause-stays_kept g c = IfOk-weaker c.exchange-outcome.result _ _
    (λ value grew. answered_keeps c.args.self.now.registry g.M.Meaning.step g.M.Meaning.took g.M.Meaning.initial (g.W.Wire.log c.args.self.now.wire) (g.W.Wire.log c.exchange-outcome.new.self) c.args.node.now c.args.cmd.now (view value) grew)
    c.exchange-outcome.ensures.answered

pub returns-clause-kept_unanswered : goal.returns-clause-kept_unanswered
returns-clause-kept_unanswered g c = IfErr-weaker c.exchange-outcome.result _ _
    (unsaid_keeps c.args.self.now.registry g.M.Meaning.step g.M.Meaning.took g.M.Meaning.initial (g.W.Wire.log c.args.self.now.wire) (g.W.Wire.log c.exchange-outcome.new.self) c.args.node.now c.args.cmd.now)
    c.exchange-outcome.ensures.unanswered

pub returns-clause-left : goal.returns-clause-left
returns-clause-left g c = IfErr-weaker c.exchange-outcome.result _ _
    (unsaid_keys c.args.self.now.registry g.M.Meaning.step g.M.Meaning.took g.M.Meaning.initial (g.W.Wire.log c.args.self.now.wire) (g.W.Wire.log c.exchange-outcome.new.self) c.args.node.now c.args.cmd.now)
    c.exchange-outcome.ensures.unanswered

pub returns-clause-gave : goal.returns-clause-gave
returns-clause-gave g c = IfOk-weaker c.exchange-outcome.result _ _
    (λ value grew. said_gave (g.W.Wire.log c.args.self.now.wire) (g.W.Wire.log c.exchange-outcome.new.self) c.args.node.now c.args.cmd.now (answer (view value)) grew)
    c.exchange-outcome.ensures.answered

pub returns-clause-gave_none : goal.returns-clause-gave_none
returns-clause-gave_none g c = sent_none (g.W.Wire.log c.args.self.now.wire) (g.W.Wire.log c.exchange-outcome.new.self) c.args.node.now c.args.cmd.now c.exchange-outcome.result c.exchange-outcome.ensures.unanswered

pub returns-clause-kept_at_first : goal.returns-clause-kept_at_first
returns-clause-kept_at_first g c = kept_at_first (after_command c.args.self.now.registry g.M.Meaning.step) (IsCommandKept c.args.self.now.registry g.M.Meaning.step) entry_by g.M.Meaning.took (g.W.Wire.log c.args.self.now.wire) g.M.Meaning.initial

pub returns-clause-gave_at_first : goal.returns-clause-gave_at_first
returns-clause-gave_at_first g c = gave_at_first entry_by (g.W.Wire.log c.args.self.now.wire)
