use Rattle.std.proofs.Common.{arith}
use Rattle.resp.proofs.HeadGrammar.{length_short}
use Rattle.resp.proofs.heads.announced_at.Goals as goal

pub overflow_mul-result : goal.overflow_mul-result
overflow_mul-result c =
    let low = (length_short c.args.zeros c.args.text.now c.args.after.now (c.in_ok-pairs-in-Map.pairs, c.in_ok-pairs-in-Map.rest.now) c.in_ok-pairs-in-Map.ensures).1 in
    omega (arith, low, c.unwrap_or-in-Map.ensures)

pub overflow_mul-result-in-Attribute : goal.overflow_mul-result-in-Attribute
overflow_mul-result-in-Attribute c =
    let low = (length_short c.args.zeros c.args.text.now c.args.after.now (c.in_ok-pairs-in-Attribute.pairs, c.in_ok-pairs-in-Attribute.rest.now) c.in_ok-pairs-in-Attribute.ensures).1 in
    omega (arith, low, c.unwrap_or-in-Attribute.ensures)

pub overflow_add-result : goal.overflow_add-result
overflow_add-result c =
    let low = (length_short c.args.zeros c.args.text.now c.args.after.now (c.in_ok-pairs-in-Attribute.pairs, c.in_ok-pairs-in-Attribute.rest.now) c.in_ok-pairs-in-Attribute.ensures).1 in
    omega (arith, low, c.unwrap_or-in-Attribute.ensures)
