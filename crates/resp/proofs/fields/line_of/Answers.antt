use Rattle.std.proofs.Common.{◌<◌, ◌≤◌, length, ◌∙◌, arith}
use Rattle.std.proofs.lemmas.Grind.{common_steps}
use Rattle.resp.proofs.Lines.{is_end, end_13, end_10, open_more, open_stops, open_to_the_end}
use Rattle.resp.proofs.fields.line_of.Goals as goal
use Rattle.resp.proofs.fields.line_of.Goals.{then-b-eq13-via-then-b-eq13, then-b-eq13-via-else-b-eq13+then-b-eq10}

pub returns-then-b-eq13-clause-text : goal.returns-then-b-eq13-clause-text
returns-then-b-eq13-clause-text c = grind (arith, common_steps, is_end, then-b-eq13-via-then-b-eq13, end_13, then-b-eq13-via-else-b-eq13+then-b-eq10, end_10, open_stops)

pub returns-then-b-eq13-clause-after : goal.returns-then-b-eq13-clause-after
returns-then-b-eq13-clause-after c = grind (arith, common_steps, is_end, then-b-eq13-via-then-b-eq13, end_13, then-b-eq13-via-else-b-eq13+then-b-eq10, end_10, open_stops)

pub loop-end-preserved : goal.loop-end-preserved
loop-end-preserved c =
    let i = c.loop-end.end in
    let bytes = c.args.bytes.now in
    let lt : i < length bytes = omega arith in
    open_more bytes i lt c.if-b-eq13.false c.if-b-eq10.false c.loop-end.invariant

pub returns-clause-text : goal.returns-clause-text
returns-clause-text c =
    let le : length c.args.bytes.now ≤ c.loop-end.end = omega arith in
    c.split_at-2.ensures.front ∙ (open_to_the_end c.args.bytes.now c.loop-end.end le c.loop-end.invariant).0

pub returns-clause-after : goal.returns-clause-after
returns-clause-after c =
    let le : length c.args.bytes.now ≤ c.loop-end.end = omega arith in
    c.split_at-2.ensures.back ∙ (open_to_the_end c.args.bytes.now c.loop-end.end le c.loop-end.invariant).1
