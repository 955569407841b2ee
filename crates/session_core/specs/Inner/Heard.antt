-- Bytes that came, and how many bytes were written before each of them.
use Rattle.std.specs.Prelude.{◌<◌, ℕ, List, replicate}
use Rattle.std.specs.List.{All, flat_map}
use Rattle.session_core.specs.declared.heard.Arrival.{Arrival}

pub record Heard : Type 0 where
  pub bytes : List ℕ
  pub written_before : List ℕ

-- for each byte that came together
abbrev pub counts_of : Arrival → List ℕ
counts_of arrival = replicate arrival.count arrival.written

abbrev pub all_counts : List Arrival → List ℕ
all_counts arrivals = flat_map counts_of arrivals

abbrev pub HaveBytes : List Arrival → Type 0
HaveBytes arrivals = All (λ arrival. 0 < arrival.count) arrivals
