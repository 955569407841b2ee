-- Lists of byte strings, as a `Cmd` holds them.
use Rattle.std.proofs.Common.{◌≡◌, List, ℕ, Decides}
use Rattle.std.specs.Cmp.Lexicographic.{pointwise_decides, bytes_decides}
use Rattle.resp_core.specs.CmdArgs.{same_args}

pub same_args-Decides : (a b : List (List ℕ)) → Decides (same_args a b) (a ≡ b)
same_args-Decides = pointwise_decides bytes_decides
