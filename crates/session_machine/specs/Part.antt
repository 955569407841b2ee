-- How far a part is, as contracts see it.
use Rattle.session_machine.specs.declared.part.Phase.{Phase}
use Rattle.session_machine.specs.declared.part.Phase.TheVariants as phase
use Rattle.std.specs.Prelude.{◌≡◌, ◌⊎◌, ℕ, Bool, List}
use Rattle.session_core.specs.Part as part
use Rattle.session_core.specs.Part.{PartState, Waits, Asked, Answered, Lost, Refused, Unsent, is_refusal, phase_told}

abbrev pub phase_of : Phase → part.Phase
phase_of (phase.Waits left) = Waits left
phase_of (phase.Asked link left) = Asked link left
phase_of (phase.Answered reply) = Answered reply.items
phase_of phase.Lost = Lost
phase_of (phase.Refused error) = Refused error.items
phase_of (phase.Unsent cause) = Unsent cause

-- the part keeps this reply: it is answered by it, or was refused by it for the last time
abbrev pub Keeps : List ℕ → part.Phase → Type 0
Keeps reply phase = (phase ≡ Answered reply) ⊎ (phase ≡ Refused reply)

-- a part on its way does not keep this reply: its node refused it, and not for the last time
abbrev pub Returns : List ℕ → (wanted : Bool) → PartState → Type 0
Returns reply wanted p = (link left : ℕ) → p.phase ≡ Asked link left
    → Keeps reply (phase_told wanted (is_refusal p reply) reply p.phase) → ⊥
