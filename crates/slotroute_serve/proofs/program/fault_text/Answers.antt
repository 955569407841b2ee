use Rattle.std.proofs.Common.{◌≡◌, ◌++◌, ◌∷◌, [], ℕ, ◌∙◌, append_assoc, decimal, codes}
use Rattle.slotroute_serve.specs.declared.refusal.Refusal.{Refusal}
use Rattle.slotroute_serve.specs.RefusalText.{run_refusal_text}
use Rattle.slotroute_serve.specs.Output.{refused_line}
use Rattle.slotroute_serve.proofs.program.fault_text.Goals as goal

-- the line of a refusal, as it is written
line_is : (number : ℕ) (refusal : Refusal) → codes "slotroute: line " ++ (decimal number ++ (codes ": " ++ (run_refusal_text refusal ++ (10 ∷ [])))) ≡ refused_line number refusal
line_is number refusal = simp append_assoc

pub returns-in-Command-clause-text : goal.returns-in-Command-clause-text
returns-in-Command-clause-text c = rw c.in-Command.is (c.in_ok-line-in-Command.ensures.ok ∙ line_is c.in-Command.number c.in-Command.refusal)
