use Rattle.cluster_slots.proofs.node_address.NodeAddress.try_from.Goals as goal

pub returns-in_err-new-clause-invalid : goal.returns-in_err-new-clause-invalid
returns-in_err-new-clause-invalid c = λ none. absurd (none c.in_ok-host.host.now c.in_ok-host.port c.in_ok-host.ensures.read)
