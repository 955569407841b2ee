use Rattle.std.proofs.Common.{◌≡◌, ◌+◌, ◌++◌, ℕ, List, Ok, length, ap, ◌∙◌, arith}
use Rattle.std.proofs.lemmas.List.{length-append}
use Rattle.resp.specs.Forms.{IsRequest}
use Rattle.resp.specs.Reading.{rest_of}
use Rattle.resp.specs.Requests.{request_at}
use Rattle.resp.proofs.Steps.{rest_read, rest_stopped}
use Rattle.resp.proofs.RequestGrammar.{request_front, only_this, only_none, stop_is_in, cause_is}
use Rattle.resp.proofs.requests.request_len.Goals as goal

-- what is read, and how long it is
record Found (bytes rest : List ℕ) : Type 0 where
  args : List (List ℕ)
  reads : request_at bytes ≡ Ok (args, rest)
  form : List ℕ
  bytes_are : bytes ≡ form ++ rest
  is : IsRequest args form
  long : length bytes ≡ length form + length rest

found : (bytes rest : List ℕ) → rest_of (request_at bytes) ≡ Ok rest → Found bytes rest
found bytes rest e =
    let r = rest_read (request_at bytes) rest e in
    let f = request_front bytes rest r.0 r.1 in
    record { args = r.0; reads = r.1; form = f.0; bytes_are = f.1; is = f.2; long = ap (length {A = ℕ}) f.1 ∙ length-append f.0 rest }

pub overflow_sub-result : goal.overflow_sub-result
overflow_sub-result c =
    let f = found c.args.bytes.now c.in-Ok.rest.now c.in-Ok.ensures in
    omega (arith, f.long)

pub fault_at-requires : goal.fault_at-requires
fault_at-requires c = stop_is_in c.args.bytes.now c.in-Err.stop (rest_stopped (request_at c.args.bytes.now) c.in-Err.stop c.in-Err.ensures)

pub returns-in-Ok-clause-found : goal.returns-in-Ok-clause-found
returns-in-Ok-clause-found c =
    let f = found c.args.bytes.now c.in-Ok.rest.now c.in-Ok.ensures in
    (f.args, f.form, c.in-Ok.rest.now, f.bytes_are, f.is, omega (arith, f.long))

pub returns-in-Ok-clause-only : goal.returns-in-Ok-clause-only
returns-in-Ok-clause-only c = grind (arith, only_this, length-append)

pub returns-in-Err-clause-only : goal.returns-in-Err-clause-only
returns-in-Err-clause-only c = λ args form rest is e. absurd (only_none c.args.bytes.now c.in-Err.stop (rest_stopped (request_at c.args.bytes.now) c.in-Err.stop c.in-Err.ensures) args form rest is e)

pub returns-in-Err-clause-cause : goal.returns-in-Err-clause-cause
returns-in-Err-clause-cause c = rw c.fault_at.ensures (cause_is c.args.bytes.now c.in-Err.stop (rest_stopped (request_at c.args.bytes.now) c.in-Err.stop c.in-Err.ensures))
