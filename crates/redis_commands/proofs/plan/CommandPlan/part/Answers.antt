use Rattle.std.proofs.Common.{◌≡◌, Some, None, cond, ap, sym, ◌∙◌, map, slice_get}
use Rattle.std.specs.Prelude.{is_some, length, nat_lt, option_map}
use Rattle.std.proofs.lemmas.Option.{slice_get-map}
use Rattle.redis_commands.specs.Way.{sent_in}
use Rattle.redis_commands.proofs.Nodes.{is_there, same_at}
use Rattle.redis_commands.proofs.plan.CommandPlan.part.Goals as goal

pub returns-in-Several : goal.returns-in-Several
returns-in-Several g c =
    let args = g.R.Routable.args c.self.inside.command.now in
    let nodes = c.in-Several.nodes.items in
    let there : c.is_some.result ≡ is_some (slice_get nodes c.args.number) = c.is_some.ensures ∙ c.get.ensures.lookup.0 ∙ ap (λ xs. nat_lt c.args.number (length xs)) c.deref.ensures.value ∙ sym (is_there nodes c.args.number) in
    let seen = sym (ap (λ p. p.sent) c.self.view_is) ∙ ap (sent_in args) c.in-Several.is in
    c.whole_if-in-Several.ensures ∙ ap (λ b. cond b (Some args) None) there ∙ same_at args (slice_get nodes c.args.number)
    ∙ sym (slice_get-map (λ node. args) nodes c.args.number) ∙ ap (λ s. slice_get s c.args.number) (sym seen)

pub returns-in_ok-part-in-Split : goal.returns-in_ok-part-in-Split
returns-in_ok-part-in-Split g c =
    let args = g.R.Routable.args c.self.inside.command.now in
    let parts = c.in-Split.plan.value.parts in
    let seen = sym (ap (λ p. p.sent) c.self.view_is) ∙ ap (sent_in args) c.in-Split.is in
    let there = ap (λ p. slice_get p.parts c.args.number) c.deref-in-Split.ensures in
    ap (option_map (map Some)) (c.in_ok-part-in-Split.ensures ∙ there) ∙ sym (slice_get-map (map Some) parts c.args.number) ∙ ap (λ s. slice_get s c.args.number) (sym seen)
