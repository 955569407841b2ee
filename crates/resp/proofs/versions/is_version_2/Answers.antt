use Rattle.std.proofs.Common.{◌∙◌, sym, arith}
use Rattle.std.proofs.lemmas.Bool.Decides.{nat_tests}
use Rattle.resp.proofs.VersionHeads.{by_mark}
use Rattle.resp.proofs.versions.is_version_2.Goals as goal

pub returns-else-is_array : goal.returns-else-is_array
returns-else-is_array c =
    let m = by_mark c.args.message.now c.requires (λ e. grind (arith, nat_tests)) in
    (λ h. m.0 (sym c.is_mark.ensures ∙ h), λ h. c.is_mark.ensures ∙ m.1 h)
