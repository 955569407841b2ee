-- What a caller tells of names: which commands only read, and which names are registered.
use Rattle.std.specs.Prelude.{ℕ, List, Bool, true}
use Rattle.redis_routing.specs.ReadOnly.{is_among}
use Rattle.redis_routing.specs.Registry.{Registrations}
use Rattle.redis_routing.specs.declared.names.Names as told

pub record Names : Type 0 where
  pub only_reads : List ℕ → Bool
  pub registered : Registrations

-- by a list of those that only read, and a registry
abbrev pub names_of : List (List ℕ) → Registrations → Names
names_of read_only registered = record { only_reads = is_among read_only; registered = registered }

-- by a registry, where each command only reads
abbrev pub names_of_reads : Registrations → Names
names_of_reads registered = record { only_reads = λ name. true; registered = registered }

abbrev pub names_in : told.Names → Names
names_in names = names_of names.read_only.now names.registry.now
