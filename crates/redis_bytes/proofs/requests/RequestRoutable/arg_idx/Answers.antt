use Rattle.std.proofs.Common.{◌<◌, Bor, List, ℕ, Some, map, length, sym, ap, ◌∙◌, arith}
use Rattle.std.proofs.lemmas.Bool.Decides.{nat_tests}
use Rattle.redis_bytes.proofs.Arguments.{piece_at}
use Rattle.redis_bytes.proofs.requests.RequestRoutable.arg_idx.Goals as goal

pub returns-clause-argument : goal.returns-clause-argument
returns-clause-argument c =
    let pieces = c.deref.result.now in
    let are = sym c.self.view_is ∙ ap (map (λ (piece : Bor (List ℕ)). piece.now)) (sym c.deref.ensures.value) in
    let within : c.args.index < length pieces = grind (arith, nat_tests) in
    ap (λ (piece : Bor (List ℕ)). Some piece.now) c.in_ok-arg.ensures.lookup.1 ∙ sym (piece_at pieces c.args.self.now c.args.index c.in_ok-arg.arg.now are within)
