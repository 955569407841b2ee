-- What was sent to nodes.
use Rattle.std.specs.Prelude.{ℕ, List}
use Rattle.resp_core.specs.ErrorParts.{ErrorParts}
use Rattle.cluster_slots.specs.Address.{Address}
use Rattle.redis_routing.specs.declared.info.Redirect.{Redirect}

-- How a send ended: with an answer, refused with an error, sent on by a redirect, or with no reply
-- but an error. Nobody knows whether a send without a reply took effect.
pub data Ending : Type 0 where
  answered : Ending
  refused : ErrorParts → Ending
  redirected : Redirect → Ending
  lost : ErrorParts → Ending

-- where a command was sent, its arguments, and how the send ended
pub record Entry : Type 0 where
  pub node : Address
  pub args : List (List ℕ)
  pub ending : Ending

abbrev pub entry : Address → List (List ℕ) → Ending → Entry
entry node args ending = record { node = node; args = args; ending = ending }
