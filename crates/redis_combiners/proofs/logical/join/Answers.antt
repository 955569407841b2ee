use Rattle.std.proofs.Common.{◌+◌, List, map, is_some, ap, sym, ◌∙◌, subst, arith}
use Rattle.std.proofs.lemmas.Grind.{common_steps}
use Rattle.std.proofs.Math.ListN.{set}
use Rattle.std.proofs.lemmas.List.{get_or-map, length-map, map-set}
use Rattle.resp_core.specs.Reply.{Reply}
use Rattle.resp_core.specs.View.{view}
use Rattle.redis_combiners.specs.Logical.{as_int}
use Rattle.redis_combiners.proofs.JoinedBits.{JoinedSoFar, joined_all_places, joined_more, joined_stop, joined_stop_at_other, reply_at, bit_in}
use Rattle.redis_combiners.proofs.logical.join.Goals as goal

pub returns-in_default-clause-bits : goal.returns-in_default-clause-bits
returns-in_default-clause-bits c =
    let row : List Reply = map view c.loop-i.row in
    let first : List Reply = map view c.args.row.now in
    let items : List Reply = map view c.args.items.now in
    let own = c.index-row-i.result in
    let here = get_or-map view c.loop-i.row c.loop-i.i own (view own) (omega arith) in
    sym (ap is_some (joined_stop c.args.op row first items c.loop-i.i (view own) c.loop-i.invariant (omega (arith, length-map c.args.row.now view)) (ap bit_in here ∙ sym c.in_default.ensures)))

pub returns-in_default-bit-clause-bits : goal.returns-in_default-bit-clause-bits
returns-in_default-bit-clause-bits c =
    let row : List Reply = map view c.loop-i.row in
    let first : List Reply = map view c.args.row.now in
    let items : List Reply = map view c.args.items.now in
    let other = c.index-items-i.result in
    let here = reply_at c.args.items.now c.loop-i.i other other (omega arith) c.index-items-i.is in
    sym (ap is_some (joined_stop_at_other c.args.op row first items c.loop-i.i (view other) c.loop-i.invariant (omega (arith, length-map c.args.items.now view)) (ap bit_in here ∙ sym c.in_default-bit.ensures)))

pub loop-i-preserved : goal.loop-i-preserved
loop-i-preserved c =
    let row : List Reply = map view c.loop-i.row in
    let first : List Reply = map view c.args.row.now in
    let items : List Reply = map view c.args.items.now in
    let i = c.loop-i.i in
    let own = c.index-row-i.result in
    let other = c.index-items-i.result in
    let here = get_or-map view c.loop-i.row i own (view own) (omega arith) in
    let there = reply_at c.args.items.now i other own (omega arith) c.index-items-i.is in
    let more = joined_more c.args.op row first items i (view own) c.in-Some.own c.in-Some-bit.other c.loop-i.invariant (omega (arith, length-map c.args.row.now view)) (length-map c.args.row.now view ∙ c.requires ∙ sym (length-map c.args.items.now view))
    (ap bit_in here ∙ sym c.in-Some.ensures) (ap bit_in there ∙ sym c.in-Some-bit.ensures) in
    subst (λ rs. JoinedSoFar c.args.op rs first items (i + 1)) (ap (set row i) (sym (c.put_bit.ensures ∙ ap as_int c.join_bits.ensures)) ∙ sym (map-set view c.loop-i.row i c.put_bit.new.item)) more

pub returns-clause-bits : goal.returns-clause-bits
returns-clause-bits c = grind (arith, common_steps)

pub returns-clause-joined : goal.returns-clause-joined
returns-clause-joined c _ =
    let first : List Reply = map view c.args.row.now in
    let items : List Reply = map view c.args.items.now in
    let all = joined_all_places c.args.op (map view c.loop-i.row) first items c.loop-i.i c.loop-i.invariant (omega (arith, length-map c.args.row.now view)) (length-map c.args.row.now view ∙ c.requires ∙ sym (length-map c.args.items.now view)) in
    all.is
