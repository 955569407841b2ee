-- What holds by the names that a text registers.
use Rattle.std.specs.Prelude.{◌⊎◌, ℕ, List}
use Rattle.redis_routing.specs.Registry.{Registrations}
use Rattle.redis_bytes.specs.NameLines.{AreNamesIn, HasNoNames}
use Rattle.redis_bytes.specs.declared.fault.BytesFault.{BytesFault}

-- the text registers names, and by these it holds
abbrev pub WithNames : List ℕ → (Registrations → Type 0) → Type 0
WithNames text Holds = (registered : Registrations) × AreNamesIn text registered × Holds registered

-- why a call fails: the text has no names, or by its names the fault has its cause
abbrev pub FailsBy : List ℕ → (Registrations → BytesFault → Type 0) → BytesFault → Type 0
FailsBy text Cause fault = HasNoNames text fault ⊎ WithNames text (λ registered. Cause registered fault)
