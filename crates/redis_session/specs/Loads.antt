-- How much a session keeps for its calls.
use Rattle.std.specs.Prelude.{◌≡◌, ◌+◌, ◌-◌, ◌<◌, ◌≤◌, ℕ}
use Rattle.redis_session.specs.declared.load.Load.{Load}

-- There is room for one call more, whose request has so many bytes.
abbrev pub HasRoom : (most_calls most_bytes : ℕ) → (bytes : ℕ) → Load → Type 0
HasRoom most_calls most_bytes bytes load = (load.calls < most_calls) × (load.bytes + bytes ≤ most_bytes)

-- with one call more, whose request has so many bytes
abbrev pub heavier : (bytes : ℕ) → Load → Load
heavier bytes load = record { calls = load.calls + 1; bytes = load.bytes + bytes }

-- One call left.
pub record Lightens (old new : Load) : Type 0 where
  pub calls : new.calls ≡ old.calls - 1
  pub bytes : new.bytes ≤ old.bytes
