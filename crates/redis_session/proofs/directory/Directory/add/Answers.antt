use Rattle.std.proofs.Common.{◌++◌, ◌∷◌, [], subst, sym, ap, ◌∙◌}
use Rattle.redis_session.specs.Inner.SlotNumbers.{AreKept}
use Rattle.redis_session.proofs.SlotNumbers.{kept_grow}
use Rattle.redis_session.proofs.directory.Directory.add.Goals as goal

pub invariant_of-self-2 : goal.invariant_of-self-2
invariant_of-self-2 c =
    subst (λ nodes. AreKept c.self.inside.by_slot.items c.self.inside.primaries.items (record { nodes = nodes; table = c.self.inside.table })) (sym (c.in_ok-push.ensures.items ∙ ap (λ nodes. nodes ++ c.args.address ∷ []) c.reserve.ensures.items))
    (kept_grow c.self.inside.by_slot.items c.self.inside.primaries.items c.self.inside.addresses.items (c.args.address ∷ []) c.self.inside.table c.self.invariant)
