-- What stands at the front, by what was read there.
use Rattle.std.proofs.Common.{◌≡◌, ℕ, List, ◌++◌, Result, Ok, Err}
use Rattle.resp.specs.Forms.{Answer}
use Rattle.resp.specs.Reading.{HasNoAnswer}
use Rattle.resp.specs.declared.fault.Fault.{Fault}
use Rattle.redis_bytes.specs.Replies.{IsAnswer}

abbrev Found : Type 0
Found = Result (Answer × List ℕ) Fault

abbrev found : Answer → List ℕ → Found
found answer rest = Ok (answer, rest)

no_fault : (p : Answer × List ℕ) (fault : Fault) → found p.0 p.1 ≡ Err fault → ⊥
no_fault p fault e = absurd cc

module _ (bytes : List ℕ) where
  -- and where nothing was, nothing does
  pub no_answer : (fault : Fault) → ((a : Answer) (form rest : List ℕ) → IsAnswer a form → bytes ≡ form ++ rest → found a rest ≡ Err fault) → HasNoAnswer bytes
  no_answer fault only = λ a form rest is e. no_fault (a, rest) fault (only a form rest is e)
