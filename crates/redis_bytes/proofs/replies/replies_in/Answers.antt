use Rattle.std.proofs.Common.{◌≡◌, ◌<◌, [], ◌∷◌, ◌++◌, length, map, sym, ap, subst, ◌∙◌, arith}
use Rattle.std.proofs.lemmas.List.{length-append, length-map, map_push}
use Rattle.std.proofs.lemmas.Result.{err_from_is_err_and}
use Rattle.resp_core.specs.View.{view}
use Rattle.resp_core.specs.declared.value.Value.{Value}
use Rattle.redis_bytes.specs.Replies.{IsReply}
use Rattle.redis_bytes.proofs.Sequence.{Stand, Only, one_more_stands, only_more, only_fails, stand_writable, unread}
use Rattle.redis_bytes.proofs.replies.replies_in.Goals as goal

pub returns-in_err-value-clause-only : goal.returns-in_err-value-clause-only
returns-in_err-value-clause-only c = λ all long are.
    let values = c.loop-number.values.items in
    let p = err_from_is_err_and c.from_residual-in_err-value.result c.from_residual-in_err-value.ensures.1 in
    let few : length (map view values) < c.args.count = omega (arith, length-map values view, c.loop-number.invariant.each, c.loop-number-test.true) in
    rw (p.1, p.2) (only_fails c.args.count c.args.bytes.now c.loop-number.rest.now (map view values) c.loop-number.invariant.only few c.in_err-value.ensures.only all long are)

pub returns-in_err-value-clause-fault : goal.returns-in_err-value-clause-fault
returns-in_err-value-clause-fault c =
    let values = c.loop-number.values.items in
    let p = err_from_is_err_and c.from_residual-in_err-value.result c.from_residual-in_err-value.ensures.1 in
    let long : length (map view values) ≡ c.loop-number.number = length-map values view ∙ c.loop-number.invariant.each in
    rw (p.1, p.2) (unread c.args.count c.loop-number.number c.args.bytes.now c.loop-number.rest.now (map view values) c.in_err-value.field-0.0 c.loop-number.invariant.stand long c.loop-number-test.true c.in_err-value.ensures.fault)

pub loop-number-preserved : goal.loop-number-preserved
loop-number-preserved c =
    let values = c.loop-number.values.items in
    let value = c.in_ok-value.value in
    let bytes = c.args.bytes.now in
    let rest = c.loop-number.rest.now in
    let after = c.in_ok-value.after.now in
    let found = c.in_ok-value.ensures.found in
    let pushed : c.push.new.self.items ≡ values ++ value ∷ [] = c.in_ok-push.ensures.items in
    let items : map view c.push.new.self.items ≡ map view values ++ view value ∷ [] = ap (map view) pushed ∙ map_push view values value in
    let few : length (map view values) < c.args.count = omega (arith, length-map values view, c.loop-number.invariant.each, c.loop-number-test.true) in
    record {
      each = omega (arith, ap (length {A = Value}) pushed, length-append values (value ∷ []), c.loop-number.invariant.each);
      stand = subst (Stand IsReply bytes after) (sym items) (one_more_stands IsReply bytes rest after found.0 (map view values) (view value) c.loop-number.invariant.stand found.1 found.2);
      only = subst (Only c.args.count bytes after) (sym items) (only_more c.args.count bytes rest after (map view values) (view value) c.loop-number.invariant.only few c.in_ok-value.ensures.only);
    }

pub returns-clause-form : goal.returns-clause-form
returns-clause-form c = stand_writable c.args.bytes.now c.loop-number.rest.now (map view c.loop-number.values.items) (omega arith) c.loop-number.invariant.stand
