use Rattle.redis_bytes.proofs.Unsplit.{combined_unsplit}
use Rattle.redis_bytes.proofs.combining.join_parts.Goals as goal

pub returns-in-Some-clause-unsplit : goal.returns-in-Some-clause-unsplit
returns-in-Some-clause-unsplit g c = λ reply_form results parts answered are.
    let split = rw c.in-Some.is at c.in_ok-one.ensures.split in
    let combined = rw c.in-Some.is at c.in_ok-one.ensures.combined in
    combined_unsplit c.args.split.now split c.args.replies.now c.in-Some.one.items combined reply_form results parts answered are
