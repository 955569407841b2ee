use Rattle.std.proofs.Common.{◌≡◌, List, ◌++◌, length, map, take, drop, is_some, true, ap, sym, ◌∙◌, arith}
use Rattle.std.proofs.lemmas.Grind.{common_steps}
use Rattle.std.specs.Prelude.{option_map}
use Rattle.std.proofs.lemmas.List.{length-map, nil_from_length, take_at}
use Rattle.resp_core.specs.Reply.{Reply}
use Rattle.resp_core.specs.View.{view}
use Rattle.redis_combiners.specs.Bits.{bits_among}
use Rattle.redis_combiners.specs.Logical.{as_int, joined_items}
use Rattle.redis_combiners.proofs.JoinedBits.{first_is_row, only_row, next_is_longer, next_joined, joined_replies}
use Rattle.redis_combiners.proofs.logical.items.Goals as goal

pub loop-reply-init : goal.loop-reply-init
loop-reply-init c = grind (arith, common_steps, joined_replies, first_is_row, is_some)

pub returns-then-items-len : goal.returns-then-items-len
returns-then-items-len c =
    let op = c.args.op in
    let row : List Reply = map view c.loop-reply.row.items in
    let items : List Reply = map view c.in-Some-as_array.items.now in
    let rest : List Reply = map view c.next-in-loop-reply.new.self.rest.items in
    let longer = next_is_longer op row (view c.in-Some-reply.reply) items rest (sym c.in-Some-as_array.ensures.items)
    (λ e. c.if-items-len.true (omega (arith, e, length-map c.in-Some-as_array.items.now view, length-map c.loop-reply.row.items view, c.len.ensures, c.loop-reply.row.ok.0))) in
    sym (sym c.loop-reply.invariant.2
    ∙ ap (λ ws. option_map (map as_int) (joined_replies op row (map view ws))) c.in-Some-reply.ensures.steps.0
    ∙ ap (option_map (map as_int)) longer)

pub loop-reply-preserved : goal.loop-reply-preserved
loop-reply-preserved c =
    let op = c.args.op in
    let vs = c.loop-reply.row.items in
    let row : List Reply = map view vs in
    let new = c.join.new.row in
    let items : List Reply = map view c.in-Some-as_array.items.now in
    let rest : List Reply = map view c.next-in-loop-reply.new.self.rest.items in
    let whole : take c.loop-reply.row.len (new ++ drop (length new) vs) ≡ new = take_at new (drop (length new) vs) c.loop-reply.row.len (c.join.auto.row ∙ c.deref_mut.ensures.len) in
    let made : bits_among (map view new) ≡ joined_items op row items =
    c.join.ensures.joined c.if-not-join.false ∙ ap (λ ws. joined_items op (map view ws) items) c.deref_mut.ensures.value in
    let there : is_some (joined_items op row items) ≡ true = ap (λ ws. is_some (joined_items op (map view ws) items)) (sym c.deref_mut.ensures.value) ∙ sym c.join.ensures.bits ∙ c.if-not-join.false in
    let long : length items ≡ length row = omega (arith, c.if-items-len.false, length-map c.in-Some-as_array.items.now view, length-map vs view, c.len.ensures, c.loop-reply.row.ok.0) in (
      tt,
      tt,
      ap (λ ws. option_map (map as_int) (joined_replies op (map view ws) rest)) whole
          ∙ ap (option_map (map as_int)) (sym (next_joined op row (map view new) (view c.in-Some-reply.reply) items rest (sym c.in-Some-as_array.ensures.items) long there made))
          ∙ ap (λ ws. option_map (map as_int) (joined_replies op row (map view ws))) (sym c.in-Some-reply.ensures.steps.0)
          ∙ c.loop-reply.invariant.2,
      ap (λ ws. is_some (bits_among (map view ws))) whole ∙ ap is_some made ∙ there,
    )

pub returns : goal.returns
returns c = grind (arith, common_steps, only_row, joined_replies, nil_from_length)
