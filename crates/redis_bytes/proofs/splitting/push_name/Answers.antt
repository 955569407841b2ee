use Rattle.std.proofs.Common.{◌≡◌, ◌++◌, Some, arith, map, subst, sym}
use Rattle.std.specs.List.{range_with_len}
use Rattle.std.specs.Prelude.{IfSome}
use Rattle.std.proofs.lemmas.List.FromFn.{map-range_with_len_more}
use Rattle.resp.specs.Forms.{bulk_form}
use Rattle.redis_routing.specs.Command.{Arguments, argument}
use Rattle.redis_bytes.proofs.PartArguments.{Adds, adds_next, keeps_again}
use Rattle.redis_bytes.proofs.splitting.push_name.Goals as goal

pub loop-place-preserved : goal.loop-place-preserved
loop-place-preserved c =
    let args = map Some c.args.command.now in
    let n = c.loop-place.place in
    let more = c.push_arg.new.out.items in
    let pushed = subst (λ arg. IfSome arg (λ text. more ≡ c.loop-place.out.items ++ bulk_form text)) c.arg_idx.ensures.argument c.in_ok-push_arg.ensures.text in
    record {
      added = subst (λ (xs : Arguments). Adds c.args.out.now.items xs more) (sym (map-range_with_len_more (argument args) 0 n n (omega arith)))
          (adds_next c.args.out.now.items (map (argument args) (range_with_len 0 n)) (argument args n) c.loop-place.out.items more c.loop-place.invariant.added pushed);
      before = keeps_again c.args.out.now.items c.loop-place.out.items more c.loop-place.invariant.before c.push_arg.ensures.before;
    }
