use Rattle.std.proofs.Common.{◌∙◌, ◌++◌, ap}
use Rattle.resp.specs.Forms.{request}
use Rattle.redis_session.proofs.plan.slot_part.Goals as goal

pub returns : goal.returns
returns c =
    let whole = c.in_ok-push_part.ensures.part in
    record {
      slot_is = c.slot_of_route.ensures;
      words = whole.0;
      arguments = whole.1;
      request_is = whole.2 ∙ ap (λ bytes. bytes ++ request whole.0) c.new-request.ensures.items;
    }
