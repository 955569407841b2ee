-- What may go wrong at a stream, and what is left of one.
use Rattle.std.specs.Prelude.{◌≢◌, List, ℕ, Option, None, Some, ⊤}
use Rattle.std.specs.IoError.{error_kind}
use Rattle.std.specs.declared.io.Error.{Error}
use Rattle.std.specs.declared.io.ErrorKind.TheVariants.{OutOfMemory}

-- some read may fail, and not because memory ran out
abbrev pub MayFailToRead : {S : Type 0} → (S → Error → Type 0) → Type 0
MayFailToRead {S} fails =
    (at : S) × (error : Error) × fails at error × (error_kind error ≢ OutOfMemory)

-- some write may fail
abbrev pub MayFailToWrite : {S : Type 0} → (S → Error → Type 0) → Type 0
MayFailToWrite {S} fails = (at : S) × (error : Error) × fails at error

-- if the input is known, so is what is left of it, and P holds of the two
abbrev pub Leaves : Option (List ℕ) → Option (List ℕ) → (List ℕ → List ℕ → Type 0) → Type 0
Leaves None left P = ⊤
Leaves (Some input) None P = ⊥
Leaves (Some input) (Some left) P = P input left
