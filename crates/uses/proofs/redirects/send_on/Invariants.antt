use Rattle.uses.proofs.redirects.send_on.Given as goal

-- each further target leaves one target fewer
abbrev pub decreases-loop-node : goal.decreases-loop-node
decreases-loop-node g l = l.retry.left
