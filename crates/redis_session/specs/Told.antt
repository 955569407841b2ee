-- What a caller is told if a call ends with an error of the session.
use Rattle.std.specs.Prelude.{ℕ, List, ◌++◌, ◌-◌, Bool, true, false, codes, drop, length, take, if◌then◌else◌}
use Rattle.std.specs.List.{list_all, list_any}
use Rattle.resp.specs.Forms.{crlf}
use Rattle.redis_session.specs.declared.told.Effect.{Effect}
use Rattle.redis_session.specs.declared.told.Effect.TheVariants as effects
use Rattle.redis_session.specs.declared.told.ErrorCause.{ErrorCause}
use Rattle.redis_session.specs.declared.told.ErrorCause.TheVariants.{Overtaken, NoTries, NoNode, Late, Lost}
use Rattle.redis_session.specs.declared.told.PartFate.{PartFate}
use Rattle.redis_session.specs.declared.told.PartFate.TheVariants as fates

abbrev pub is_not_run : PartFate → Bool
is_not_run fates.NotRun = true
is_not_run fate = false

-- An error says that the call did nothing only if no part ran or may have. If some part did not run, and another
-- may have, it says so.
--
-- `MSET a 1 b 2`: the part of b was answered, and that of a was overtaken: it took effect in part.
abbrev pub effect_of : List PartFate → Effect
effect_of parts =
    if list_all is_not_run parts then effects.Nothing
    else (if list_any is_not_run parts then effects.InPart else effects.Unknown)

abbrev pub cause_text : ErrorCause → List ℕ
cause_text Overtaken = codes "-TRYAGAIN a later command took effect first; "
cause_text NoTries = codes "-TRYAGAIN the nodes refused too often; "
cause_text NoNode = codes "-CLUSTERDOWN no node serves the slot; "
cause_text Late = codes "-ERR the time is over; "
cause_text Lost = codes "-ERR a connection ended; "

abbrev pub effect_text : Effect → List ℕ
effect_text effects.Nothing = codes "the command did not take effect"
effect_text effects.InPart = codes "a part did not take effect, and others may have"
effect_text effects.Unknown = codes "the command may have taken effect"

abbrev pub error_reply : ErrorCause → Effect → List ℕ
error_reply cause effect = cause_text cause ++ effect_text effect ++ crlf

-- what stands between the mark of an error and the end of its line
abbrev pub error_text : List ℕ → List ℕ
error_text error = take (length error - 3) (drop 1 error)

-- `-MOVED 3300 n3:1`, of a part that did not run: `-TRYAGAIN the nodes refused too often: MOVED 3300 n3:1; ..`
abbrev pub no_tries_reply : List ℕ → Effect → List ℕ
no_tries_reply refusal effect =
    codes "-TRYAGAIN the nodes refused too often: " ++ error_text refusal ++ codes "; " ++ effect_text effect ++ crlf

-- the reply if the answers of the nodes make no one reply
abbrev pub unfit_reply : List ℕ
unfit_reply = codes "-ERR the replies of the nodes make no one reply" ++ crlf
