use Rattle.std.proofs.Common.{◌≡◌, ◌++◌, take}
use Rattle.std.specs.List.{flat_map}
use Rattle.resp_core.specs.View.{view}
use Rattle.resp.specs.Forms.{form}
use Rattle.resp.proofs.Written.{AreWritten}
use Rattle.resp.proofs.writing.+writing.Given as goal

-- the values so far were added, and have forms
abbrev pub invariant-push_values-loop-value : goal.invariant-push_values-loop-value
invariant-push_values-loop-value l =
    (l.out.items ≡ l.initial.out.items ++ flat_map (λ v. form (view v)) (take l.value-index l.values))
    × AreWritten l.values l.value-index l.levels
