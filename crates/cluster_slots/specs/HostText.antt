-- The text of a host, wherever it lies.
use Rattle.std.specs.Prelude.{ℕ, List}
use Rattle.std.specs.Arc.{arc_str_bytes}
use Rattle.cluster_slots.specs.declared.host_text.Place.{Place}
use Rattle.cluster_slots.specs.declared.host_text.Place.TheVariants.{Inside, Shared}

abbrev pub text_bytes : Place → List ℕ
text_bytes (Inside text) = text.bytes
text_bytes (Shared text) = arc_str_bytes text
