use Rattle.std.proofs.Common.{◌∙◌, ℕ, Some, sym, ap, arith}
use Rattle.resp.proofs.VersionHeads.{read_by_line, found, only, no_head}
use Rattle.resp.proofs.versions.head_len.Goals as goal

pub overflow_sub-result : goal.overflow_sub-result
overflow_sub-result c =
    let read = read_by_line c.args.bytes.now _ _ _ (c.line_from.ensures.line tt) c.in-Ok.ensures in
    let f = found c.args.bytes.now c.in-Ok.rest.now c.in-Ok.field-0-0 (sym c.is_mark.ensures ∙ c.if-not-is_mark.false) read in
    omega (arith, f.within)

pub returns-in-Ok-clause-found : goal.returns-in-Ok-clause-found
returns-in-Ok-clause-found c =
    let read = read_by_line c.args.bytes.now _ _ _ (c.line_from.ensures.line tt) c.in-Ok.ensures in
    (found c.args.bytes.now c.in-Ok.rest.now c.in-Ok.field-0-0 (sym c.is_mark.ensures ∙ c.if-not-is_mark.false) read).is

pub returns-in-Ok-clause-some : goal.returns-in-Ok-clause-some
returns-in-Ok-clause-some c =
    let read = read_by_line c.args.bytes.now _ _ _ (c.line_from.ensures.line tt) c.in-Ok.ensures in
    let f = found c.args.bytes.now c.in-Ok.rest.now c.in-Ok.field-0-0 (sym c.is_mark.ensures ∙ c.if-not-is_mark.false) read in
    omega (arith, f.within)

pub returns-in-Ok-clause-only : goal.returns-in-Ok-clause-only
returns-in-Ok-clause-only c = λ head rest is e.
    let read = read_by_line c.args.bytes.now _ _ _ (c.line_from.ensures.line tt) c.in-Ok.ensures in
    ap (λ (n : ℕ). Some n) (only c.args.bytes.now c.in-Ok.rest.now c.in-Ok.field-0-0 read head rest is e)

pub returns-in-Err-clause-only : goal.returns-in-Err-clause-only
returns-in-Err-clause-only c = λ head rest is e.
    let read = read_by_line c.args.bytes.now _ _ _ (c.line_from.ensures.line tt) c.in-Err.ensures in
    absurd (no_head c.args.bytes.now c.in-Err.field-0 read head rest is e)
