use Rattle.std.proofs.Common.{arith}
use Rattle.std.proofs.lemmas.Grind.{common_steps}
use Rattle.std.proofs.lemmas.List.Elements.{same_from_all_zip}
use Rattle.resp_core.proofs.Views.{view-BulkString}
use Rattle.resp_core.proofs.value.copying.copy_flat.Goals as goal

pub returns-in_ok-clone-in-BulkString : goal.returns-in_ok-clone-in-BulkString
returns-in_ok-clone-in-BulkString c = grind (arith, common_steps, view-BulkString, same_from_all_zip)
