use Rattle.std.proofs.Common.{string_bytes, arith}
use Rattle.slotroute_serve.proofs.Splitting.{answers}
use Rattle.slotroute_serve.proofs.split.split_answer.Goals as goal

pub returns : goal.returns
returns c = grind (arith, answers, string_bytes)
