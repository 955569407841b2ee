-- When the time of a call is over.
use Rattle.std.specs.Prelude.{◌≡◌, ◌+◌, ◌==◌, ℕ, Bool, false, nat_le, List, [], ◌∷◌, Option, None, Some, Contains, drop, take}
use Rattle.std.specs.Map.{lookup}
use Rattle.session_core.specs.State.{State, call_at}

-- the deadlines of calls, by their numbers
abbrev pub Deadlines : Type 0
Deadlines = List (ℕ × ℕ)

-- those of calls whose numbers rise one by one from this one on
abbrev pub deadlines_from : ℕ → List ℕ → Deadlines
deadlines_from call [] = []
deadlines_from call (deadline ∷ more) = (call, deadline) ∷ deadlines_from (call + 1) more

-- the deadline of a call, if it is kept
abbrev pub deadline_of : ℕ → Deadlines → Option ℕ
deadline_of call kept = lookup (λ number. number == call) kept

-- the deadline has come
abbrev pub is_over : Option ℕ → (now : ℕ) → Bool
is_over None now = false
is_over (Some deadline) now = nat_le deadline now

-- the first is that of this call
pub record BeginsAt (call : ℕ) (kept : Deadlines) : Type 0 where
  pub deadline : ℕ
  pub more : Deadlines
  pub is : kept ≡ (call, deadline) ∷ more

-- The first deadlines are forgotten, which are those of calls that were forgotten.
pub record Forgets (s : State) (old new : Deadlines) : Type 0 where
  pub count : ℕ
  pub rest : new ≡ drop count old
  pub gone : (call deadline : ℕ) → Contains (take count old) (call, deadline) → call_at call s ≡ None
