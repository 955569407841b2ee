use Rattle.std.proofs.Common.{◌≡◌, ◌<◌, ◌+◌, [], ◌∷◌, ◌++◌, length, map, sym, ap, subst, ◌∙◌, arith}
use Rattle.std.proofs.lemmas.Bool.Decides.{nat_tests}
use Rattle.std.proofs.lemmas.List.{length-map, length_push, map_push}
use Rattle.std.proofs.lemmas.Result.{err_from_is_err_and}
use Rattle.resp_core.specs.Answer.{answer_of}
use Rattle.redis_bytes.specs.Answers.{StandAsAnswers}
use Rattle.redis_bytes.proofs.WireAnswers.{answers_followed, one_more_answer, unread_answer}
use Rattle.redis_bytes.proofs.answers.answers_in.Goals as goal

pub loop-number-preserved : goal.loop-number-preserved
loop-number-preserved c =
    let answers = c.loop-number.answers.items in
    let answer = c.in_ok-answer.answer in
    let bytes = c.args.bytes.now in
    let rest = c.loop-number.rest.now in
    let after = c.in_ok-answer.after.now in
    let found = c.in_ok-answer.ensures.found in
    let pushed : c.push.new.self.items ≡ answers ++ answer ∷ [] = c.in_ok-push.ensures.items in
    let items : map answer_of c.push.new.self.items ≡ map answer_of answers ++ answer_of answer ∷ [] = ap (map answer_of) pushed ∙ map_push answer_of answers answer in
    record {
      each = ap length pushed ∙ length_push answers answer ∙ ap (λ n. n + 1) c.loop-number.invariant.each;
      stand = subst (StandAsAnswers bytes after) (sym items) (one_more_answer bytes rest (map answer_of answers) c.loop-number.invariant.stand after found.1 found.0 (answer_of answer) found.2 found.3 found.4);
    }

pub returns-in_err-answer-clause-fault : goal.returns-in_err-answer-clause-fault
returns-in_err-answer-clause-fault c =
    let answers = c.loop-number.answers.items in
    let p = err_from_is_err_and c.from_residual-in_err-answer.result c.from_residual-in_err-answer.ensures.1 in
    rw (p.1, p.2) (unread_answer c.args.bytes.now c.loop-number.rest.now (map answer_of answers) c.loop-number.invariant.stand c.args.count c.loop-number.number (length-map answers answer_of ∙ c.loop-number.invariant.each) c.loop-number-test.true c.in_err-answer.field-0.0 c.in_err-answer.ensures.fault)

pub returns-then-not-is_empty-clause-fault : goal.returns-then-not-is_empty-clause-fault
returns-then-not-is_empty-clause-fault c =
    let answers = c.loop-number.answers.items in
    let rest = c.loop-number.rest.now in
    let some : 0 < length rest = grind (arith, nat_tests) in
    let every : length (map answer_of answers) ≡ c.args.count = omega (arith, length-map answers answer_of, c.loop-number.invariant.each, c.loop-number-test.false) in
    answers_followed c.args.bytes.now rest (map answer_of answers) c.loop-number.invariant.stand c.args.count every some
