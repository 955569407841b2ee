use Rattle.std.proofs.Common.{◌≡◌, map, take}
use Rattle.slotroute_serve.proofs.words.cmd_from_words.Given as goal

-- the words so far
abbrev pub invariant-loop-word : goal.invariant-loop-word
invariant-loop-word g l = l.command ≡ map g.W.AsSlice.items (take l.word-index l.words)
