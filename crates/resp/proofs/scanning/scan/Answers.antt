use Rattle.std.proofs.Common.{◌≡◌, ◌<◌, ◌+◌, ◌-◌, ◌^◌, ℕ, true, false, length, min, Ok, Err, sym, ap, ◌∙◌, arith, rules}
use Rattle.resp.specs.declared.fault.Fault.{Fault}
use Rattle.resp.specs.declared.fault.Fault.TheVariants.{Incomplete, Malformed}
use Rattle.resp.proofs.Messages.{Line, searched_line, head_is, left_short, scanned_on, scanned_stop, scanned_longer, found, found_only, incomplete_cause, malformed_cause, not_found}
use Rattle.resp.proofs.scanning.scan.Goals as goal

pub overflow_sub-end : goal.overflow_sub-end
overflow_sub-end c =
    let less = left_short c.args.bytes.now c.split_at.result.1.now c.line_from.result.0.now c.line_from.result.1.now c.in-Ok.left.now c.loop-items.at.bytes c.loop-items.at.searched c.in-Ok.items c.line_from.ensures.whole c.split_at.ensures.back_len c.in-Ok.ensures in
    omega (arith, less)

pub loop-items-smaller : goal.loop-items-smaller
loop-items-smaller c =
    let less = left_short c.args.bytes.now c.split_at.result.1.now c.line_from.result.0.now c.line_from.result.1.now c.in-Ok.left.now c.loop-items.at.bytes c.loop-items.at.searched c.in-Ok.items c.line_from.ensures.whole c.split_at.ensures.back_len c.in-Ok.ensures in
    omega (arith, less)

pub returns-then-wanted-eq0-clause-found : goal.returns-then-wanted-eq0-clause-found
returns-then-wanted-eq0-clause-found c = λ start.
    let at = c.loop-items.at in
    let bytes = c.args.bytes.now in
    let s = c.loop-items.invariant.1 start in
    let reads = head_is at bytes c.split_at.result.1.now c.line_from.result.0.now c.line_from.result.1.now s c.split_at.ensures.back (record { whole = c.line_from.ensures.whole; long = c.line_from.ensures.long; found = c.line_from.ensures.line }) ∙ c.in-Ok.ensures in
    let none : min (at.after + c.in-Ok.items) (2 ^ 64 - 1) ≡ 0 = sym c.saturating_add-wanted.ensures ∙ c.if-wanted-eq0.true in
    let fits : length bytes < 2 ^ 63 = omega arith in
    found at bytes s c.in-Ok.items c.in-Ok.left.now reads none fits

pub returns-then-wanted-eq0-clause-only : goal.returns-then-wanted-eq0-clause-only
returns-then-wanted-eq0-clause-only c = λ start message rest is e.
    let at = c.loop-items.at in
    let bytes = c.args.bytes.now in
    let s = c.loop-items.invariant.1 start in
    let reads = head_is at bytes c.split_at.result.1.now c.line_from.result.0.now c.line_from.result.1.now s c.split_at.ensures.back (record { whole = c.line_from.ensures.whole; long = c.line_from.ensures.long; found = c.line_from.ensures.line }) ∙ c.in-Ok.ensures in
    let none : min (at.after + c.in-Ok.items) (2 ^ 64 - 1) ≡ 0 = sym c.saturating_add-wanted.ensures ∙ c.if-wanted-eq0.true in
    let fits : length bytes < 2 ^ 63 = omega arith in
    ap (λ (n : ℕ). Ok n) (found_only at bytes s c.in-Ok.items c.in-Ok.left.now reads none fits message rest is e)

pub loop-items-preserved : goal.loop-items-preserved
loop-items-preserved c =
    let at = c.loop-items.at in
    let bytes = c.args.bytes.now in
    let wants : 0 < c.saturating_add-wanted.result = omega arith in (
      omega arith,
      λ start.
          let s = c.loop-items.invariant.1 start in
          let reads = head_is at bytes c.split_at.result.1.now c.line_from.result.0.now c.line_from.result.1.now s c.split_at.ensures.back (record { whole = c.line_from.ensures.whole; long = c.line_from.ensures.long; found = c.line_from.ensures.line }) ∙ c.in-Ok.ensures in
          scanned_on at bytes s c.in-Ok.items c.in-Ok.left.now reads c.saturating_add-wanted.result c.saturating_add-wanted.ensures wants,
      c.loop-items.invariant.2,
    )

no : true ≡ false → ⊥
no e = absurd cc

pub returns-then-ne-clause-cause : goal.returns-then-ne-clause-cause
returns-then-ne-clause-cause c = λ start.
    let at = c.loop-items.at in
    let bytes = c.args.bytes.now in
    let s = c.loop-items.invariant.1 start in
    let fails = head_is at bytes c.split_at.result.1.now c.line_from.result.0.now c.line_from.result.1.now s c.split_at.ensures.back (record { whole = c.line_from.ensures.whole; long = c.line_from.ensures.long; found = c.line_from.ensures.line }) ∙ c.in-Err.ensures in
    malformed_cause at bytes s c.in-Err.fault fails (λ e. no (rw e at c.if-ne.ensures))

pub returns-then-ne-clause-only : goal.returns-then-ne-clause-only
returns-then-ne-clause-only c = λ start message rest is e.
    let at = c.loop-items.at in
    let bytes = c.args.bytes.now in
    let s = c.loop-items.invariant.1 start in
    let fails = head_is at bytes c.split_at.result.1.now c.line_from.result.0.now c.line_from.result.1.now s c.split_at.ensures.back (record { whole = c.line_from.ensures.whole; long = c.line_from.ensures.long; found = c.line_from.ensures.line }) ∙ c.in-Err.ensures in
    absurd (not_found bytes Malformed (malformed_cause at bytes s c.in-Err.fault fails (λ e. no (rw e at c.if-ne.ensures))) message rest is e)

pub returns-in-Err-clause-cause : goal.returns-in-Err-clause-cause
returns-in-Err-clause-cause c = λ start.
    let at = c.loop-items.at in
    let bytes = c.args.bytes.now in
    let s = c.loop-items.invariant.1 start in
    let fault : c.in-Err.fault ≡ Incomplete = search rules in
    let fails = head_is at bytes c.split_at.result.1.now c.line_from.result.0.now c.line_from.result.1.now s c.split_at.ensures.back (record { whole = c.line_from.ensures.whole; long = c.line_from.ensures.long; found = c.line_from.ensures.line }) ∙ c.in-Err.ensures ∙ ap (λ (f : Fault). Err f) fault in
    incomplete_cause at bytes s fails

pub returns-in-Err-clause-only : goal.returns-in-Err-clause-only
returns-in-Err-clause-only c = grind (arith, head_is, found, not_found, incomplete_cause)

pub returns-in-Err-clause-kept : goal.returns-in-Err-clause-kept
returns-in-Err-clause-kept c = λ start was more.
    let at = c.loop-items.at in
    let bytes = c.args.bytes.now in
    let s = c.loop-items.invariant.1 start in
    let line : Line at c.split_at.result.1.now c.line_from.result.0.now c.line_from.result.1.now = record { whole = c.line_from.ensures.whole; long = c.line_from.ensures.long; found = c.line_from.ensures.line } in
    let zeros = c.searched_of.ensures.zeros (searched_line at bytes c.split_at.result.1.now c.line_from.result.0.now c.line_from.result.1.now s c.split_at.ensures.back line) in
    scanned_longer _ bytes more (scanned_stop at bytes c.split_at.result.1.now c.line_from.result.0.now c.line_from.result.1.now s c.split_at.ensures.back line c.searched_of.result c.searched_of.ensures.within zeros)

pub returns-in-Err-clause-onward : goal.returns-in-Err-clause-onward
returns-in-Err-clause-onward c = grind (arith, head_is, found)

pub returns-then-wanted-eq0-clause-some : goal.returns-then-wanted-eq0-clause-some
returns-then-wanted-eq0-clause-some c =
    let less = left_short c.args.bytes.now c.split_at.result.1.now c.line_from.result.0.now c.line_from.result.1.now c.in-Ok.left.now c.loop-items.at.bytes c.loop-items.at.searched c.in-Ok.items c.line_from.ensures.whole c.split_at.ensures.back_len c.in-Ok.ensures in
    omega (arith, less)
