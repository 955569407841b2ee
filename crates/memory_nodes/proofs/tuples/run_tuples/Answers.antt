use Rattle.std.proofs.Common.{◌≡◌, ◌+◌, ◌-◌, ◌<◌, [], ◌∷◌, ◌++◌, length, take, drop, subst, sym, ap, ◌∙◌, append_assoc, append-nil, arith}
use Rattle.std.specs.Prelude.{slice_get}
use Rattle.std.proofs.lemmas.List.{length-map}
use Rattle.cluster_slots.specs.ArgPattern.{width_of}
use Rattle.redis_cluster.specs.Unsplit.{put, after, results}
use Rattle.memory_nodes.specs.Cells.{keyspace_of}
use Rattle.memory_nodes.specs.Parts.{words, key_tuples, act_on}
use Rattle.memory_nodes.specs.Results.{result_of, HoldResults}
use Rattle.memory_nodes.specs.Steps.{act, action_by}
use Rattle.memory_nodes.proofs.KeyTuples.{first_tuple, no-tuple}
use Rattle.memory_nodes.proofs.Running.{after-more, results-more, enough_words, words_back, key_is, extras_are, room-for, one-left, one-less}
use Rattle.memory_nodes.proofs.Undoing.{at-err}
use Rattle.memory_nodes.proofs.tuples.run_tuples.Goals as goal

pub loop-rest-preserved : goal.loop-rest-preserved
loop-rest-preserved c =
    let whole = c.args.whole.now in
    let rest = c.loop-rest.rest.now in
    let tuple = c.split_at.result.0.now in
    let others = c.split_at.result.1.now in
    let width = c.width-width.result in
    let pattern = whole.pattern in
    let enough = c.loop-rest-test.true in
    let first = first_tuple pattern (words rest) in
    let shared = slice_get (words whole.shared.now) 0 in
    let extras = words (take (length tuple - 1) (drop 1 tuple)) in
    let key = c.word.result.now in
    let old = keyspace_of c.loop-rest.cells in
    let new = keyspace_of c.run_tuple.new.cells in
    let is_key : key ≡ first.key = c.word.ensures ∙ key_is rest tuple others width pattern c.width-width.ensures enough c.split_at.ensures.front c.split_at.ensures.back in
    let are_extras : extras ≡ first.extras = extras_are rest tuple others width pattern c.width-width.ensures enough c.split_at.ensures.front c.split_at.ensures.back in
    let is_action : c.by-action.result ≡ action_by whole.registered whole.name.now = c.by-action.ensures in
    let is_outcome : act c.by-action.result shared extras (old key) ≡ act_on whole first (old first.key) =
    ap (λ a. act a shared extras (old key)) is_action
    ∙ ap (λ es. act (action_by whole.registered whole.name.now) shared es (old key)) are_extras
    ∙ ap (λ k. act (action_by whole.registered whole.name.now) shared first.extras (old k)) is_key in
    let enough_left = enough_words rest tuple others width pattern c.width-width.ensures enough c.split_at.ensures.front c.split_at.ensures.back in
    let left = words_back rest tuple others width pattern c.width-width.ensures enough c.split_at.ensures.front c.split_at.ensures.back in
    let is_after : new ≡ put first.key (act_on whole first (old first.key)).cell old =
    c.in_ok-added.ensures.cells
    ∙ ap (λ k. put k (act c.by-action.result shared extras (old key)).cell old) is_key
    ∙ ap (λ o. put first.key o.cell old) is_outcome in
    let is_added : result_of c.in_ok-added.added ≡ (act_on whole first (old first.key)).result = c.in_ok-added.ensures.added ∙ ap (λ o. o.result) is_outcome in
    let all_results : result_of c.in_ok-added.added ∷ results (act_on whole) (key_tuples pattern (words others)) new ≡ results (act_on whole) (key_tuples pattern (words rest)) old =
    ap (λ xs. result_of c.in_ok-added.added ∷ results (act_on whole) (key_tuples pattern xs) new) left
    ∙ ap (λ r. r ∷ results (act_on whole) (key_tuples pattern (drop (width_of pattern) (words rest))) new) is_added
    ∙ results-more (act_on whole) pattern (words rest) enough_left old new is_after in
    record {
      cells = ap (λ xs. after (act_on whole) (key_tuples pattern xs) new) left ∙ after-more (act_on whole) pattern (words rest) enough_left old new is_after ∙ c.loop-rest.invariant.cells;
      added = (c.loop-rest.invariant.added.0 ++ result_of c.in_ok-added.added ∷ [], c.add.ensures.results c.loop-rest.invariant.added.0 c.loop-rest.invariant.added.1, append_assoc c.loop-rest.invariant.added.0 (result_of c.in_ok-added.added ∷ []) (results (act_on whole) (key_tuples pattern (words others)) new) ∙ ap (λ rs. c.loop-rest.invariant.added.0 ++ rs) all_results ∙ c.loop-rest.invariant.added.2);
      room = c.add.ensures.room (length others) (room-for c.loop-rest.results (length others + 1) (length rest) (one-less pattern width (length rest) (length others) c.width-width.ensures c.split_at.ensures.back_len) c.loop-rest.invariant.room);
      fit = c.add.ensures.fit whole.policy c.loop-rest.invariant.fit;
      undo = λ kept. c.in_ok-added.ensures.undo kept ∙ c.loop-rest.invariant.undo kept;
    }

pub add-requires : goal.add-requires
add-requires c = record { room = room-for c.loop-rest.results 1 (length c.loop-rest.rest.now) (one-left c.args.whole.now.pattern c.width-width.result (length c.loop-rest.rest.now) c.width-width.ensures c.loop-rest-test.true) c.loop-rest.invariant.room }

pub returns-clause-few : goal.returns-clause-few
returns-clause-few c = room-for c.loop-rest.results 0 (length c.loop-rest.rest.now) (omega arith) c.loop-rest.invariant.room

pub returns-in_err-added-clause-undo : goal.returns-in_err-added-clause-undo
returns-in_err-added-clause-undo c =
    at-err c.from_residual-in_err-added.result _ (c.in_err-added.ensures.undo c.in_err-added.ensures.removal ∙ c.loop-rest.invariant.undo c.in_err-added.ensures.removal)

pub returns-clause-results : goal.returns-clause-results
returns-clause-results c =
    let whole = c.args.whole.now in
    let rest = c.loop-rest.rest.now in
    let now = keyspace_of c.loop-rest.cells in
    let few : length (words rest) < width_of whole.pattern = subst (λ n. n < width_of whole.pattern) (sym (length-map rest (λ arg. arg.items))) (subst (λ n. length rest < n) c.width-width.ensures c.loop-rest-test.false) in
    let none : results (act_on whole) (key_tuples whole.pattern (words rest)) now ≡ [] = ap (λ ts. results (act_on whole) ts now) (no-tuple whole.pattern (words rest) few) in
    let done = c.loop-rest.invariant.added.0 in
    let all : done ≡ results (act_on whole) (key_tuples whole.pattern (words whole.tuples.now)) (keyspace_of c.args.cells.now) = sym (append-nil done) ∙ ap (λ rs. done ++ rs) (sym none) ∙ c.loop-rest.invariant.added.2 in
    subst (HoldResults c.loop-rest.results) all c.loop-rest.invariant.added.1
