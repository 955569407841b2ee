use Rattle.std.proofs.Common.{◌≡◌, arith, length, map}
use Rattle.std.proofs.lemmas.Grind.{common_steps}
use Rattle.std.proofs.lemmas.List.{length-map}
use Rattle.resp_core.specs.View.{view}
use Rattle.resp.specs.declared.reading.TheConstants.{MAX_LEVELS}
use Rattle.redis_bytes.proofs.JoinedForm.{made_formed}
use Rattle.redis_bytes.proofs.combining.join_values.Goals as goal

pub write_reply-requires : goal.write_reply-requires
write_reply-requires g c =
    let many : length c.in_ok-values.values.items ≡ length c.args.split.now.routes = grind (arith, common_steps, length-map) in
    record {
      form = made_formed MAX_LEVELS (omega arith) c.args.split.now c.routes.ensures.split (map view c.in_ok-values.values.items) c.in_ok-values.ensures.form (view c.in-Ok.one) (c.in-Ok.ensures.joined many);
    }
