use Rattle.cluster_map.proofs.Elements.{tail_within, head_within, at_places-more}
use Rattle.cluster_map.proofs.read_routing.shards.ShardsIterator.next.Goals as goal

pub invariant_of-self : goal.invariant_of-self
invariant_of-self c = let e = c.in_ok-first.ensures.cases.0 in record { within = tail_within _ _ _ _ e c.args.self.now.within }

pub returns-clause-steps : goal.returns-clause-steps
returns-clause-steps c =
    let e = c.in_ok-first.ensures.cases.0 in
    at_places-more _ _ _ _ c.index-self-first.result e (head_within _ _ _ _ e c.args.self.now.within)
