use Rattle.std.proofs.Common.{◌≡◌, None, sym, ap, ◌∙◌, option_map, arith}
use Rattle.std.proofs.lemmas.Grind.{common_steps}
use Rattle.std.specs.Prelude.{slice_get}
use Rattle.uses.proofs.Handing.{zip_at, zip_no_first, zip_no_second}
use Rattle.uses.proofs.batcher.target_of.Goals as goal

pub returns-in_err-node : goal.returns-in_err-node
returns-in_err-node c =
    let plan = c.args.plan.now in
    let none : slice_get plan.nodes c.args.number ≡ None = sym c.node.ensures ∙ ap (option_map (λ node. node.now)) c.in_err-node.was in
    ap (option_map _) c.from_residual.ensures ∙ sym (zip_no_first plan.nodes plan.parts c.args.number none)

pub returns-in_err-part : goal.returns-in_err-part
returns-in_err-part c =
    let plan = c.args.plan.now in
    let none : slice_get plan.parts c.args.number ≡ None = sym c.part.ensures ∙ ap (option_map (λ part. part.now)) c.in_err-part.was in
    ap (option_map _) c.from_residual-in_err-part.ensures ∙ sym (zip_no_second plan.nodes plan.parts c.args.number none)

pub returns : goal.returns
returns c = grind (arith, common_steps, zip_at)
