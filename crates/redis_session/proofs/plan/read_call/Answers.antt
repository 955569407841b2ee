use Rattle.std.proofs.Common.{◌≡◌, ◌<◌, [], ℕ, length, sym, ap, arith}
use Rattle.std.proofs.lemmas.Bool.Decides.{nat_tests}
use Rattle.std.proofs.lemmas.List.{append-nil}
use Rattle.resp.specs.declared.fault.RequestFault.{RequestFault}
use Rattle.resp.specs.declared.fault.RequestError.{RequestError}
use Rattle.resp.specs.declared.fault.RequestError.TheVariants as errors
use Rattle.redis_session.proofs.plan.read_call.Goals as goal

abbrev of_fault : RequestFault → RequestError
of_fault fault = errors.Fault fault

no_memory : (fault : RequestFault) → of_fault fault ≡ errors.Memory → ⊥
no_memory fault e = absurd cc

pub returns-in-Err-Fault-clause-only : goal.returns-in-Err-Fault-clause-only
returns-in-Err-Fault-clause-only c = λ words is.
    let request = c.args.bytes.now in
    let only = rw c.in-Err-Fault.field-0-is at c.in-Err-Fault.ensures.only in
    absurd (no_memory c.in-Err-Fault.fault (only words request [] is (sym (append-nil request))))

pub returns-then-not-is_empty-clause-only : goal.returns-then-not-is_empty-clause-only
returns-then-not-is_empty-clause-only c = λ words is.
    let request = c.args.bytes.now in
    let some : 0 < length c.in-Ok.found.1.now = grind (arith, nat_tests) in
    let none : length c.in-Ok.found.1.now ≡ 0 = ap (length {A = ℕ}) (c.in-Ok.ensures.only words request [] is (sym (append-nil request))).1 in
    absurd (omega (arith, some, none))
