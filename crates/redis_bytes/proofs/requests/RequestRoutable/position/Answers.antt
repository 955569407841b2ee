use Rattle.std.proofs.Common.{Bor, List, ℕ, Some, map, sym, ap, ◌∙◌, arith}
use Rattle.redis_routing.specs.Command.{is_word}
use Rattle.redis_routing.proofs.Arguments.{none_more, found_at, found_nowhere}
use Rattle.redis_bytes.proofs.Arguments.{many, piece_at}
use Rattle.redis_bytes.proofs.requests.RequestRoutable.position.Goals as goal

pub returns-then-is_word-clause-place : goal.returns-then-is_word-clause-place
returns-then-is_word-clause-place c =
    let pieces = c.deref-arg-items.result.now in
    let words = c.args.self.now in
    let i = c.loop-place.place in
    let are = sym c.self.view_is ∙ ap (map (λ (piece : Bor (List ℕ)). piece.now)) (sym c.deref-arg-items.ensures.value) in
    found_at c.args.candidate.now (map Some words) i (omega (arith, many pieces words are, c.loop-place-test.true)) c.loop-place.invariant
    (ap (is_word c.args.candidate.now) (piece_at pieces words i _ are c.loop-place-test.true) ∙ sym c.is_word.ensures ∙ c.if-is_word.true)

pub loop-place-preserved : goal.loop-place-preserved
loop-place-preserved c =
    let pieces = c.deref-arg-items.result.now in
    let words = c.args.self.now in
    let i = c.loop-place.place in
    let are = sym c.self.view_is ∙ ap (map (λ (piece : Bor (List ℕ)). piece.now)) (sym c.deref-arg-items.ensures.value) in
    none_more c.args.candidate.now (map Some words) i c.loop-place.invariant
    (ap (is_word c.args.candidate.now) (piece_at pieces words i _ are c.loop-place-test.true) ∙ sym c.is_word.ensures ∙ c.if-is_word.false)

pub returns-clause-place : goal.returns-clause-place
returns-clause-place c =
    let are = sym c.self.view_is ∙ ap (map (λ (piece : Bor (List ℕ)). piece.now)) (sym c.deref-arg-items.ensures.value) in
    found_nowhere c.args.candidate.now (map Some c.args.self.now) c.loop-place.place (omega (arith, many c.deref-arg-items.result.now c.args.self.now are, c.loop-place-test.false)) c.loop-place.invariant
