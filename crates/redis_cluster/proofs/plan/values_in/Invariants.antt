use Rattle.std.proofs.Common.{◌≡◌, ◌+◌, ◌≤◌, ◌++◌, false, length}
use Rattle.std.specs.Prelude.{is_none}
use Rattle.std.specs.List.{list_any}
use Rattle.std.specs.Vec.{vec_len, vec_capacity}
use Rattle.redis_combiners.specs.Answers.{values_told}
use Rattle.redis_cluster.proofs.plan.values_in.Given as goal

-- the first answers are the values so far, and there is room for those of the others
abbrev pub invariant-loop-answer : goal.invariant-loop-answer
invariant-loop-answer l =
    record {
      answers_are : l.fn.answers.items ≡ values_told l.values.items ++ l.answer-iterator.rest.items;
      told : list_any is_none l.answer-iterator.rest.items ≡ false;
      room : vec_len l.values + length l.answer-iterator.rest.items ≤ vec_capacity l.values;
    }
