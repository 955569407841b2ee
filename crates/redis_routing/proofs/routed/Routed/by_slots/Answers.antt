use Rattle.std.proofs.Common.{◌≡◌, ap, sym, ◌∙◌, length}
use Rattle.cluster_slots.specs.ArgPattern.{is_complete}
use Rattle.redis_routing.specs.PresentArguments.{present_arguments, present_arguments_after}
use Rattle.redis_routing.specs.Routing.{routes_of}
use Rattle.redis_routing.proofs.CommandNames.{named_has_words}
use Rattle.redis_routing.proofs.routed.Routed.by_slots.Goals as goal

pub invariant_of-result : goal.invariant_of-result
invariant_of-result g c =
    let args = g.R.Routable.args c.args.command.now in
    let present : present_arguments_after c.name_words-words.result args ≡ present_arguments args = ap (λ w. present_arguments_after w args) c.name_words-words.ensures in (
      record {
        few = c.present_len-count.ensures.arguments;
        name = named_has_words args c.requires.name;
        complete = ap (λ p. is_complete c.args.pattern (length p)) (sym present) ∙ ap (is_complete c.args.pattern) (sym c.present_len-count.ensures.count) ∙ sym c.is_complete.ensures ∙ c.if-is_complete.true;
        is_read = c.args.reads;
        routes = c.in_ok-routes.ensures ∙ ap (routes_of c.args.reads c.args.pattern) present;
        policy = c.requires.joins;
      },
      c.name_words-words.ensures,
    )
