use Rattle.std.proofs.Common.{Bor, List, ℕ, Ok, map, sym, ap, ◌∙◌, arith}
use Rattle.std.proofs.lemmas.Grind.{common_steps}
use Rattle.std.proofs.lemmas.Result.{err_from_is_err_and}
use Rattle.std.proofs.lemmas.List.{append-nil, map_push}
use Rattle.resp.proofs.RequestGrammar.{with_words, words_begin, words_more, bulk_fails, bulks_done}
use Rattle.resp.proofs.requests.bulks_at.Goals as goal

abbrev now : Bor (List ℕ) → List ℕ
now word = word.now

pub loop-init : goal.loop-init
loop-init c = rw c.in_ok-words.ensures.items (words_begin c.args.count c.args.bytes.now)

pub returns-in_err-word : goal.returns-in_err-word
returns-in_err-word c = grind (arith, common_steps, err_from_is_err_and c.from_residual-in_err-word.result c.from_residual-in_err-word.ensures.1, with_words (map now c.loop.words.items), bulk_fails c.args.count c.loop.counter c.loop.rest.now c.loop-test.true c.in_err-word.field-0.0 c.in_err-word.ensures)

pub loop-preserved : goal.loop-preserved
loop-preserved c =
    let words = c.loop.words.items in
    let word = c.in_ok-word.word in
    rw (ap (map now) c.in_ok-push.ensures.items ∙ map_push now words word)
    (sym (words_more c.args.count c.loop.counter c.loop.rest.now c.loop-test.true (map now words) word.now c.in_ok-word.after.now c.in_ok-word.ensures) ∙ c.loop.invariant)

pub returns : goal.returns
returns c =
    sym c.loop.invariant ∙ ap (with_words (map now c.loop.words.items)) (bulks_done c.args.count c.loop.counter c.loop.rest.now c.loop-test.false)
    ∙ ap (λ (ws : List (List ℕ)). Ok (ws, c.loop.rest.now)) (append-nil (map now c.loop.words.items))
