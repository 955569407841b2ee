use Rattle.std.proofs.Common.{◌≡◌, ◌++◌, ◌+◌, ℕ, List, Some, arith, map, take, get_or, subst, sym}
use Rattle.std.specs.Prelude.{IfSome}
use Rattle.std.proofs.lemmas.List.{map_more, take_all}
use Rattle.resp.specs.Forms.{bulk_form}
use Rattle.redis_routing.specs.Command.{Arguments, argument}
use Rattle.redis_bytes.proofs.PartArguments.{Adds, adds_next, keeps_again, request_added}
use Rattle.redis_bytes.proofs.splitting.push_args.Goals as goal

pub loop-index-preserved : goal.loop-index-preserved
loop-index-preserved c =
    let args = map Some c.args.command.now in
    let read : ℕ → _ = λ i. argument args (i + c.args.words) in
    let n = c.loop-index.index-index in
    let more = c.push_arg.new.out.items in
    let pushed = subst (λ arg. IfSome arg (λ text. more ≡ c.loop-index.out.items ++ bulk_form text)) c.arg_after.ensures c.in_ok-push_arg.ensures.text in
    record {
      added = subst (λ (xs : Arguments). Adds c.push_name.new.out.items xs more) (sym (map_more read c.args.indices.now n 0 c.loop-index-test.true))
          (adds_next c.push_name.new.out.items (map read (take n c.args.indices.now)) (read (get_or c.args.indices.now n 0)) c.loop-index.out.items more c.loop-index.invariant.added pushed);
      before = keeps_again c.args.out.now.items c.loop-index.out.items more c.loop-index.invariant.before c.push_arg.ensures.before;
    }

pub returns-clause-part : goal.returns-clause-part
returns-clause-part c =
    let args = map Some c.args.command.now in
    let indices = c.args.indices.now in
    let all = subst (λ (is : List ℕ). Adds c.push_name.new.out.items (map (λ i. argument args (i + c.args.words)) is) c.loop-index.out.items) (take_all c.loop-index.index-index indices (omega arith)) c.loop-index.invariant.added in
    request_added c.args.words args indices c.args.out.now.items c.push_array_line.new.out.items c.push_name.new.out.items c.loop-index.out.items c.in_ok-push_array_line.ensures.line c.in_ok-push_name.ensures.name all
