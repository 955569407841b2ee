use Rattle.std.proofs.Common.{ℕ, List, MatchOption, Option, subst}
use Rattle.redis_routing.specs.declared.info.Redirect.{Redirect}
use Rattle.redis_routing.specs.RedirectText.{IsNoRedirect, IsRedirectText}
use Rattle.slotroute_c.proofs.redirects.slotroute_redirect.Goals as goal

pub returns-in-Ok-None-clause-no_redirect : goal.returns-in-Ok-None-clause-no_redirect
returns-in-Ok-None-clause-no_redirect c =
    let text = c.args.text.now in
    let read = c.in-Ok.text.now in
    let asked = c.in-Ok-from_utf8.answering.now in
    let none : IsNoRedirect asked read = subst (λ (o : Option (ℕ × Redirect)). MatchOption o (IsNoRedirect asked read) (λ (r : ℕ × Redirect). IsRedirectText asked read r.0 r.1)) c.in-Ok-None.field-0-is c.in-Ok-None.ensures.read in
    let by : IsNoRedirect c.args.answering.now read = subst (λ (a : List ℕ). IsNoRedirect a read) c.in-Ok-from_utf8.ensures.cases.0 none in
    λ said. subst (λ (t : List ℕ). IsNoRedirect c.args.answering.now t) c.in-Ok.ensures.cases.0 by
