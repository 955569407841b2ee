use Rattle.std.proofs.Common.{◌≡◌, ◌+◌, ◌∙◌, length, arith, rules}
use Rattle.resp.proofs.HeadGrammar.{zeros_end}
use Rattle.resp.proofs.heads.zeros_of.Goals as goal

pub returns-then-b-ne48-clause-all : goal.returns-then-b-ne48-clause-all
returns-then-b-ne48-clause-all c = λ known. zeros_end c.args.text.now (c.args.zeros + c.loop-index.index) (c.loop-index.invariant known) (omega arith) (λ more. search rules)

pub returns-clause-all : goal.returns-clause-all
returns-clause-all c = λ known.
    let end : length c.args.text.now ≡ c.args.zeros + c.loop-index.index = omega arith in
    end ∙ zeros_end c.args.text.now (c.args.zeros + c.loop-index.index) (c.loop-index.invariant known) (omega arith) (λ more. absurd (omega (arith, more, end)))
