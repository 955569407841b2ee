use Rattle.std.proofs.Common.{◌≡◌, ◌++◌, ℕ, List, Bor, IfOk, IfErr, Result, Ok, Err, ap, subst, ◌∙◌}
use Rattle.resp.specs.declared.reading.TheConstants.{MAX_LEVELS}
use Rattle.resp.specs.declared.response.Response.{Response}
use Rattle.resp.specs.declared.fault.ReadError.{ReadError}
use Rattle.resp.specs.declared.fault.ReadError.TheVariants as errors
use Rattle.resp.specs.Forms.{Answer, answer, IsForm}
use Rattle.resp.specs.Reading.{Gives, Cause, answer_at}
use Rattle.resp.proofs.Grammar.{answer_takes, answer_again}
use Rattle.resp.proofs.Faults.{fault_cause}
use Rattle.resp.proofs.reading.read.Goals as goal

is_found : (bytes : List ℕ) (r : Result (Response × Bor (List ℕ)) ReadError) → Gives {Y = Answer × List ℕ} (λ x. (answer x.0, x.1.now)) r (answer_at MAX_LEVELS bytes)
    → IfOk r (λ x. (form : List ℕ) × (bytes ≡ form ++ x.1.now) × IsForm MAX_LEVELS (answer x.0) form)
is_found bytes (Ok x) given = answer_takes MAX_LEVELS bytes (answer x.0, x.1.now) given
is_found bytes (Err e) given = tt

has_cause : (bytes : List ℕ) (r : Result (Response × Bor (List ℕ)) ReadError) → Gives {Y = Answer × List ℕ} (λ x. (answer x.0, x.1.now)) r (answer_at MAX_LEVELS bytes) → IfErr r (λ e. Cause bytes e)
has_cause bytes (Ok x) given = tt
has_cause bytes (Err errors.Memory) given = tt
has_cause bytes (Err (errors.Fault fault)) given = fault_cause bytes fault given

pub returns-clause-found : goal.returns-clause-found
returns-clause-found c = is_found c.args.bytes.now c.response_at.result c.response_at.ensures

pub returns-clause-only : goal.returns-clause-only
returns-clause-only c = λ a form rest is e. subst (λ f. Gives {Y = Answer × List ℕ} (λ x. (answer x.0, x.1.now)) c.response_at.result f) (ap (answer_at MAX_LEVELS) e ∙ answer_again MAX_LEVELS a form rest is) c.response_at.ensures

pub returns-clause-cause : goal.returns-clause-cause
returns-clause-cause c = has_cause c.args.bytes.now c.response_at.result c.response_at.ensures
