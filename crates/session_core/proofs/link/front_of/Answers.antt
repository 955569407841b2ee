use Rattle.std.proofs.Common.{◌∙◌, ◌++◌, ℕ, List, Err, sym, ap, subst}
use Rattle.resp.specs.declared.scanning.Progress.{Progress}
use Rattle.resp.specs.Messages.{IsMessage, IsScanned}
use Rattle.resp.proofs.Messages.{scanned_none}
use Rattle.session_core.specs.Inner.Ready.{IsFront}
use Rattle.session_core.proofs.Scans.{ready_now, ready_after, front_is, joined}
use Rattle.session_core.proofs.link.front_of.Goals as goal

pub front_with-requires : goal.front_with-requires
front_with-requires c =
    let f = c.in-Ok.ensures.found (ready_now c.args.progress.now c.args.bytes.now c.requires) in
    subst IsMessage (sym (c.split_at.ensures.front ∙ front_is c.args.bytes.now f.0 f.1 c.in-Ok.len f.2 f.4)) f.3

pub front_without-requires : goal.front_without-requires
front_without-requires c = c.in-Err.ensures.cause (ready_now c.args.progress.now c.args.bytes.now c.requires)

pub returns-in-Ok-clause-front : goal.returns-in-Ok-clause-front
returns-in-Ok-clause-front c =
    let whole = joined c.args.bytes.now c.split_at.result.0.now c.split_at.result.1.now c.in-Ok.len c.split_at.ensures.front c.split_at.ensures.back in
    subst (λ (b : List ℕ). IsFront b c.args.most c.front_with.result) whole (c.front_with.ensures c.split_at.result.1.now)

pub returns-in-Ok-clause-ready : goal.returns-in-Ok-clause-ready
returns-in-Ok-clause-ready c = λ more.
    subst (λ (p : Progress). IsScanned p (c.args.bytes.now ++ more)) (sym c.in-Ok.ensures.next) (scanned_none (c.args.bytes.now ++ more))

pub returns-in-Ok-clause-next : goal.returns-in-Ok-clause-next
returns-in-Ok-clause-next c = λ len e more. subst (λ (p : Progress). IsScanned p more) (sym c.in-Ok.ensures.next) (scanned_none more)

pub returns-in-Err-clause-ready : goal.returns-in-Err-clause-ready
returns-in-Err-clause-ready c =
    ready_after c.in-Err.fault c.args.progress.now c.scan.new.progress c.args.bytes.now c.requires
    (λ e. c.in-Err.ensures.kept (ready_now _ _ c.requires) (ap (λ f. Err f) e))
    (λ e. (c.in-Err.ensures.malformed e).1)

pub returns-in-Err-clause-next : goal.returns-in-Err-clause-next
returns-in-Err-clause-next c = λ len e more. absurd (c.front_without.ensures.none len e)
