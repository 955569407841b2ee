use Rattle.std.proofs.Common.{◌∙◌, sym}
use Rattle.std.proofs.lemmas.Bool.{false≢true}
use Rattle.session_core.proofs.Scans.{newer}
use Rattle.session_core.proofs.link.front_with.Goals as goal

pub returns-then-not-is_version_2 : goal.returns-then-not-is_version_2
returns-then-not-is_version_2 c = λ rest.
    newer c.args.message.now rest c.requires (λ old. false≢true (sym c.if-not-is_version_2.true ∙ c.is_version_2.ensures.1 old))
