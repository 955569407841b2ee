use Rattle.std.proofs.Common.{◌≡◌, length, map}
use Rattle.resp_core.specs.Answer.{answer_of}
use Rattle.redis_bytes.specs.Answers.{StandAsAnswers}
use Rattle.redis_bytes.proofs.answers.answers_in.Given as goal

-- the answers so far stand at the front
abbrev pub invariant-loop-number : goal.invariant-loop-number
invariant-loop-number l = record {
  each : length l.answers.items ≡ l.number;
  stand : StandAsAnswers l.bytes l.rest (map answer_of l.answers.items);
}
