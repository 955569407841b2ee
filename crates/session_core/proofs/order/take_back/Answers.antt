use Rattle.std.proofs.Common.{sym, subst, ap, ◌∙◌, arith}
use Rattle.session_core.specs.Inner.Tied.{IsLastOpen, without_last}
use Rattle.session_core.proofs.OrderJoins.{last_open, left_one}
use Rattle.session_core.proofs.order.take_back.Goals as goal

pub leave_last-requires : goal.leave_last-requires
leave_last-requires c =
    let i = c.loop-left.invariant in
    subst IsLastOpen (sym i.taken) (last_open c.args.parts.now c.args.count c.loop-left.left c.requires c.loop-left-test.true i.within)

pub loop-left-preserved : goal.loop-left-preserved
loop-left-preserved c =
    let i = c.loop-left.invariant in
    record {
      within = omega (arith, i.within);
      taken = c.leave_last.ensures ∙ ap without_last i.taken ∙ left_one c.args.parts.now c.args.count c.loop-left.left c.requires.within c.loop-left-test.true i.within;
    }
