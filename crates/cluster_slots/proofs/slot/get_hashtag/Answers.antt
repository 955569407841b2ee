use Rattle.std.proofs.Common.{◌≡◌, length, arith}
use Rattle.std.proofs.lemmas.Bool.Decides.{nat_tests}
use Rattle.std.proofs.lemmas.List.{nil_from_length}
use Rattle.cluster_slots.proofs.HashTags.{no_open, no_close, nothing_between}
use Rattle.cluster_slots.proofs.slot.get_hashtag.Goals as goal

pub returns-in_err-rest : goal.returns-in_err-rest
returns-in_err-rest c = rw c.from_residual.ensures (no_open c.args.key.now c.in_err-rest.ensures)

pub returns-in_err-tag : goal.returns-in_err-tag
returns-in_err-tag c =
    rw c.from_residual-in_err-tag.ensures
    (no_close c.args.key.now c.in_ok-rest.field-0-0.now c.in_ok-rest.rest.now c.in_ok-rest.ensures.0 c.in_ok-rest.ensures.1 c.in_err-tag.ensures)

pub returns-then-is_empty : goal.returns-then-is_empty
returns-then-is_empty c =
    let empty : length c.in_ok-tag.tag.now ≡ 0 = grind (arith, nat_tests, c.is_empty.ensures, c.if-is_empty.true) in
    nothing_between c.args.key.now c.in_ok-rest.field-0-0.now c.in_ok-rest.rest.now c.in_ok-tag.tag.now c.in_ok-tag.field-0-1.now
    c.in_ok-rest.ensures.0 c.in_ok-rest.ensures.1 c.in_ok-tag.ensures.0 c.in_ok-tag.ensures.1 (nil_from_length c.in_ok-tag.tag.now empty)
