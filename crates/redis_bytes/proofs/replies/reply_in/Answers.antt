use Rattle.std.proofs.Common.{◌≡◌, ◌<◌, [], ◌∷◌, ℕ, length, refl, sym, ap, arith}
use Rattle.std.proofs.lemmas.Bool.Decides.{nat_tests}
use Rattle.std.proofs.lemmas.List.{append-nil}
use Rattle.std.proofs.lemmas.Result.{err_from_is_err_and}
use Rattle.resp_core.specs.View.{view}
use Rattle.redis_bytes.specs.Replies.{IsReply}
use Rattle.redis_bytes.proofs.Sequence.{none_stand, one_more_stands, followed}
use Rattle.redis_bytes.proofs.replies.reply_in.Goals as goal

pub returns-in_err-value-clause-only : goal.returns-in_err-value-clause-only
returns-in_err-value-clause-only c = λ reply is.
    let p = err_from_is_err_and c.from_residual.result c.from_residual.ensures.1 in
    rw (p.1, p.2) (c.in_err-value.ensures.only reply c.args.bytes.now [] is (sym (append-nil c.args.bytes.now)))

pub returns-then-not-is_empty-clause-only : goal.returns-then-not-is_empty-clause-only
returns-then-not-is_empty-clause-only c = λ reply is.
    let bytes = c.args.bytes.now in
    let some : 0 < length c.in_ok-value.rest.now = grind (arith, nat_tests) in
    let none : length c.in_ok-value.rest.now ≡ 0 = ap (length {A = ℕ}) (c.in_ok-value.ensures.only reply bytes [] is (sym (append-nil bytes))).1 in
    absurd (omega (arith, some, none))

pub returns-then-not-is_empty-clause-fault : goal.returns-then-not-is_empty-clause-fault
returns-then-not-is_empty-clause-fault c =
    let bytes = c.args.bytes.now in
    let rest = c.in_ok-value.rest.now in
    let reply = view c.in_ok-value.value in
    let f = c.in_ok-value.ensures.found in
    let some : 0 < length rest = grind (arith, nat_tests) in
    followed IsReply 1 bytes rest (reply ∷ []) (one_more_stands IsReply bytes bytes rest f.0 [] reply (none_stand IsReply bytes) f.1 f.2) refl some

pub returns-clause-only : goal.returns-clause-only
returns-clause-only c = λ reply is. (c.in_ok-value.ensures.only reply c.args.bytes.now [] is (sym (append-nil c.args.bytes.now))).0
