use Rattle.std.proofs.Common.{Bor, List, ℕ, map}
use Rattle.resp.proofs.RequestGrammar.{request_front, only_this, only_none, stop_is_in, cause_is}
use Rattle.resp.proofs.requests.read_args.Goals as goal

abbrev now : Bor (List ℕ) → List ℕ
now arg = arg.now

pub fault_at-requires : goal.fault_at-requires
fault_at-requires c = stop_is_in c.args.bytes.now c.in-Err-Stopped.stop (rw c.in-Err-Stopped.field-0-is at c.in-Err-Stopped.ensures)

pub returns-in-Ok-clause-found : goal.returns-in-Ok-clause-found
returns-in-Ok-clause-found c = request_front c.args.bytes.now c.in-Ok.found.1.now (map now c.in-Ok.found.0.items) c.in-Ok.ensures

pub returns-in-Ok-clause-only : goal.returns-in-Ok-clause-only
returns-in-Ok-clause-only c = only_this c.args.bytes.now c.in-Ok.found.1.now (map now c.in-Ok.found.0.items) c.in-Ok.ensures

pub returns-in-Err-Stopped-clause-only : goal.returns-in-Err-Stopped-clause-only
returns-in-Err-Stopped-clause-only c = λ args form rest is e. absurd (only_none c.args.bytes.now c.in-Err-Stopped.stop (rw c.in-Err-Stopped.field-0-is at c.in-Err-Stopped.ensures) args form rest is e)

pub returns-in-Err-Stopped-clause-cause : goal.returns-in-Err-Stopped-clause-cause
returns-in-Err-Stopped-clause-cause c = rw c.fault_at.ensures (cause_is c.args.bytes.now c.in-Err-Stopped.stop (rw c.in-Err-Stopped.field-0-is at c.in-Err-Stopped.ensures))
