use Rattle.std.proofs.Common.{◌≡◌, ◌++◌, ◌<◌, ◌^◌, length, decimal, take}
use Rattle.std.specs.List.{flat_map, AllByRecursion}
use Rattle.resp.specs.Forms.{line, bulk_form}
use Rattle.resp.proofs.writing.push_command.Given as goal

-- the count and the arguments so far were added, and each of these has a length of 63 bits
abbrev pub invariant-loop-index : goal.invariant-loop-index
invariant-loop-index l =
    (l.out.items ≡ l.fn.out.items ++ (line 42 (decimal (length l.command)) ++ flat_map bulk_form (take l.index l.command)))
    × AllByRecursion (λ w. length w < 2 ^ 63) (take l.index l.command)
