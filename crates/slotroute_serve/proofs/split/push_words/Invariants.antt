use Rattle.std.proofs.Common.{◌≡◌, ◌++◌, ◌∷◌, flat_map}
use Rattle.slotroute_serve.proofs.split.push_words.Given as goal

-- the line so far and the words that are left make the whole line
abbrev pub invariant-loop-word : goal.invariant-loop-word
invariant-loop-word l = l.line.items ++ flat_map (λ word. 32 ∷ word) l.word-iterator ≡ l.fn.line.items ++ flat_map (λ word. 32 ∷ word) l.words
