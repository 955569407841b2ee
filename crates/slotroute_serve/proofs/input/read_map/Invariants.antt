use Rattle.slotroute_serve.specs.MapLines.{made_in}
use Rattle.slotroute_serve.proofs.Reading.{StillReads}
use Rattle.slotroute_serve.proofs.input.read_map.Given as goal

-- the lines read so far are map lines that make this, and the leading lines go on with those of what is left
abbrev pub invariant-loop-number : goal.invariant-loop-number
invariant-loop-number g l = StillReads (g.S.Source.remaining l.fn.source) (g.S.Source.remaining l.source) (made_in l.made) l.number
