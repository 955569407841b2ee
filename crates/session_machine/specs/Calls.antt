-- The calls of a session, and what changes of one.
use Rattle.std.specs.Prelude.{◌≡◌, Some, ◌-◌, ℕ, Bool, false, nat_lt, if◌then◌else◌, List, map, Option, None, slice_get}
use Rattle.session_core.specs.declared.part.Cause.TheVariants.{GivenUp}
use Rattle.session_core.specs.Places.{changed}
use Rattle.session_core.specs.Part.{Phase, PartState, is_refusal, phase_told, phase_lost, phase_ended}
use Rattle.session_core.specs.State.{CallState}
use Rattle.session_machine.specs.Part.{Keeps, Returns}

-- the call of this number, where the first call has the number `first`
abbrev pub call_in : (call first : ℕ) → List CallState → Option CallState
call_in call first calls = if nat_lt call first then None else slice_get calls (call - first)

-- the calls, where the one of this number is changed, if it is there
abbrev pub with_call : (call first : ℕ) → (CallState → CallState) → List CallState → List CallState
with_call call first change calls = if nat_lt call first then calls else changed change (call - first) calls

-- the call, where the part of this index is in another phase
abbrev pub with_phase : ℕ → (CallState → PartState → Phase) → CallState → CallState
with_phase part phase state = record {
  caller = state.caller;
  parts = changed (λ p. record p { phase = phase state p }) part state.parts;
  is_wanted = state.is_wanted;
}

-- the parts, of which those that wait are not asked any more
abbrev pub ended_all : List PartState → List PartState
ended_all parts = map {A = PartState} {B = PartState} (λ p. record p { phase = phase_ended GivenUp p.phase }) parts

-- the call that nobody waits for any more: its parts that wait are not asked
abbrev pub given_up : CallState → CallState
given_up state = record {
  caller = state.caller;
  parts = ended_all state.parts;
  is_wanted = false;
}

-- the call that has its reply
abbrev pub replied : CallState → CallState
replied state = record { caller = state.caller; parts = state.parts; is_wanted = false }

-- the calls, where this part got this reply
abbrev pub with_told : (call part : ℕ) → List ℕ → (first : ℕ) → List CallState → List CallState
with_told call part reply first calls =
    with_call call first (with_phase part (λ state p. phase_told state.is_wanted (is_refusal p reply) reply p.phase)) calls

-- the calls, where the link of this part ended, and some byte of it was written or none
abbrev pub with_lost : (call part : ℕ) → Bool → (first : ℕ) → List CallState → List CallState
with_lost call part begun first calls =
    with_call call first (with_phase part (λ state p. phase_lost state.is_wanted begun p.phase)) calls

-- this part keeps this reply
abbrev pub KeepsAt : (call part : ℕ) → List ℕ → (first : ℕ) → List CallState → Type 0
KeepsAt call part reply first calls = (state : CallState) (p : PartState) → call_in call first calls ≡ Some state
    → slice_get state.parts part ≡ Some p → Keeps reply p.phase

-- this part does not keep this reply
abbrev pub ReturnsAt : (call part : ℕ) → List ℕ → (first : ℕ) → List CallState → Type 0
ReturnsAt call part reply first calls = (state : CallState) (p : PartState) → call_in call first calls ≡ Some state
    → slice_get state.parts part ≡ Some p → Returns reply state.is_wanted p
