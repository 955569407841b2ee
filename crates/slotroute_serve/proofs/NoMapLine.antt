-- A line that is no map line.
use Rattle.std.proofs.Common.{◌≡◌, ℕ, List, Bool, false}
use Rattle.std.specs.Prelude.{Result, Ok, Err, IfOk}
use Rattle.redis_routing.specs.Registry.{Registrations}
use Rattle.redis_bytes.specs.NameLines.{Registers}
use Rattle.cluster_map.specs.SlotNodes.{RangeNodes}
use Rattle.slotroute_serve.specs.MapLines.{Made, IsRangeLine, IsMapLine, range_line, multi_line}

-- a line that neither names a range nor registers a name
neither : (fields : List (List ℕ)) (old new : Made) → ((range : RangeNodes) → ¬ (IsRangeLine fields range)) → ((next : Registrations) → ¬ (Registers fields old.registry next)) → ¬ (IsMapLine fields old new)
neither fields old new no_range no_name (range_line range is ranges registry) = no_range range is
neither fields old new no_range no_name (multi_line registers ranges) = no_name new.registry registers

pub no_map_line : {E : Type 0} (r : Result Bool E) (fields : List (List ℕ)) (old : Made) → ((range : RangeNodes) → ¬ (IsRangeLine fields range)) → IfOk r (λ good. good ≡ false → (next : Registrations) → ¬ (Registers fields old.registry next)) → IfOk r (λ good. good ≡ false → (next : Made) → ¬ (IsMapLine fields old next))
no_map_line (Err e) fields old no_range bad = tt
no_map_line (Ok good) fields old no_range bad = λ is next. neither fields old next no_range (bad is)
