use Rattle.std.proofs.Common.{◌≡◌, ◌-◌, map}
use Rattle.resp.specs.Requests.{bulks_at}
use Rattle.resp.proofs.RequestGrammar.{with_words}
use Rattle.resp.proofs.requests.bulks_at.Given as goal

-- the words so far, and those in what is left
abbrev pub invariant-loop : goal.invariant-loop
invariant-loop l = with_words (map (λ word. word.now) l.words.items) (bulks_at (l.count - l.counter) l.rest) ≡ bulks_at l.count l.bytes
