use Rattle.std.proofs.Common.{◌≡◌, length, arith}
use Rattle.redis_session.proofs.GivenReplies.{only_part}
use Rattle.redis_session.proofs.session.replying.only_reply.Goals as goal

pub returns-in-len1 : goal.returns-in-len1
returns-in-len1 c = λ s at.
    let one : length c.parts.result.now ≡ 1 = omega (arith, c.in-len1.len_at_least, c.in-len1.len_below) in
    only_part c.args.call s c.args.state.now c.parts.result.now at c.parts.ensures one
