-- A part of a call, and how far it is.
use Rattle.std.specs.Prelude.{◌++◌, ◌==◌, ◌&&◌, ◌||◌, nat_eq, ℕ, zero, suc, Bool, true, false, if◌then◌else◌, List, codes, decimal}
use Rattle.std.specs.List.{starts_with}
use Rattle.resp.specs.Forms.{crlf}
use Rattle.session_core.specs.declared.part.PartOrder.{PartOrder}
use Rattle.session_core.specs.declared.part.PartOrder.TheVariants.{OfSlot, Whole, Free}
use Rattle.session_core.specs.declared.part.Cause.{Cause}
use Rattle.session_core.specs.declared.part.Cause.TheVariants.{GivenUp}

-- How far a part is.
pub data Phase : Type 0 where
  -- it may be asked, and after that so many refusals more are forgiven
  Waits : (left : ℕ) → Phase
  -- it is on its way on this link
  Asked : (link left : ℕ) → Phase
  -- it is settled: this reply came, which is no refusal
  Answered : (reply : List ℕ) → Phase
  -- it is settled: its link ended after some byte of it was written, so it may have run
  Lost : Phase
  -- it did not run: this was the last refusal that was forgiven
  Refused : (error : List ℕ) → Phase
  -- it did not run, for this cause
  Unsent : (cause : Cause) → Phase

pub record PartState : Type 0 where
  pub request : List ℕ
  pub order : PartOrder
  -- nodes refuse a command of its name before they run it
  pub may_refuse : Bool
  pub phase : Phase

abbrev pub is_waiting : Phase → Bool
is_waiting (Waits left) = true
is_waiting other = false

-- it is on its way on this link
abbrev pub is_on : ℕ → Phase → Bool
is_on number (Asked link left) = link == number
is_on number other = false

-- it ran, or may have run
abbrev pub is_settled : Phase → Bool
is_settled (Answered reply) = true
is_settled Lost = true
is_settled other = false

-- it ran, may have run, or may yet
abbrev pub is_effective : Phase → Bool
is_effective (Asked link left) = true
is_effective (Answered reply) = true
is_effective Lost = true
is_effective other = false

-- it is settled, or never asked again
abbrev pub is_done : Phase → Bool
is_done (Waits left) = false
is_done (Asked link left) = false
is_done other = true

-- ---- order

abbrev pub have_slot : PartOrder → PartOrder → Bool
have_slot (OfSlot slot) (OfSlot other) = slot == other
have_slot first second = false

-- Of two parts of a caller, the one of the earlier call goes first.
--
-- `SET a 1` and `GET a` have an order, and so have `SET a 1` and `FLUSHALL`. `SET a 1` and `SET b 1`
-- have none, and `PING` has none with any.
abbrev pub have_order : PartOrder → PartOrder → Bool
have_order Free second = false
have_order first Free = false
have_order Whole second = true
have_order first Whole = true
have_order first second = have_slot first second

-- ---- refusals

-- an error of this name: `-LOADING`, up to a space or the end of the line
abbrev pub is_error : List ℕ → List ℕ → Bool
is_error reply name = starts_with nat_eq reply (name ++ codes " ")
    || starts_with nat_eq reply (name ++ crlf)

-- an error of this name for this slot: `-MOVED 3300 n3:1`
abbrev pub is_redirect : List ℕ → List ℕ → PartOrder → Bool
is_redirect reply name (OfSlot slot) =
    starts_with nat_eq reply (name ++ codes " " ++ decimal slot ++ codes " ")
is_redirect reply name other = false

-- Its node refused to run the part.
--
-- For `GET a`, of slot 15495, `-MOVED 15495 n3:1` and `-TRYAGAIN x` are refusals. `-MOVED 1 n3:1`,
-- `-TRYAGAINx` and `-ERR x` are none. For `EVAL`, which can make up any error, none is.
abbrev pub is_refusal : PartState → List ℕ → Bool
is_refusal p reply = p.may_refuse
    && (is_redirect reply (codes "-MOVED") p.order
    || (is_redirect reply (codes "-ASK") p.order
    || (is_error reply (codes "-TRYAGAIN")
    || (is_error reply (codes "-CLUSTERDOWN") || is_error reply (codes "-LOADING")))))

-- ---- what happens to a part

abbrev pub phase_asked : ℕ → Phase → Phase
phase_asked link (Waits left) = Asked link left
phase_asked link other = other

-- after a refusal, of which so many more were forgiven
abbrev pub phase_refused : ℕ → List ℕ → Phase
phase_refused zero error = Refused error
phase_refused (suc left) error = Waits left

-- after this reply, which is a refusal or not, to a part whose call is wanted or not
abbrev pub phase_told : (wanted refusal : Bool) → List ℕ → Phase → Phase
phase_told wanted refusal reply (Asked link left) =
    if refusal then (if wanted then phase_refused left reply else Unsent GivenUp) else Answered reply
phase_told wanted refusal reply other = other

-- after its link ended, and some byte of it was written or none
abbrev pub phase_lost : (wanted begun : Bool) → Phase → Phase
phase_lost wanted begun (Asked link left) =
    if begun then Lost else (if wanted then Waits left else Unsent GivenUp)
phase_lost wanted begun other = other

abbrev pub phase_ended : Cause → Phase → Phase
phase_ended cause (Waits left) = Unsent cause
phase_ended cause other = other
