use Rattle.cluster_slots.proofs.Remainders.{remainder_at}
use Rattle.cluster_slots.proofs.slot.remainder.Goals as goal

pub returns : goal.returns
returns c = rw c.from.ensures (remainder_at c.args.after c.args.byte c.requires c.ranges.byte.fits)
