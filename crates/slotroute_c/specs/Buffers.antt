-- What is written to a buffer.
use Rattle.std.specs.Prelude.{◌≡◌, List, ◌++◌, length, drop}

-- the items are written to the front, and what follows them stays
abbrev pub IsWritten : {T : Type 0} → List T → List T → List T → Type 0
IsWritten items old new = new ≡ items ++ drop (length items) old
