-- What was sent to a node, and what came back. `S` is what is sent and `V` the reply to it.
use Rattle.std.specs.Prelude.{◌≡◌, List, [], ◌∷◌, ◌++◌}
use Rattle.resp_core.specs.ErrorParts.{ErrorParts}
use Rattle.cluster_slots.specs.Address.{Address}
use Rattle.redis_routing.specs.declared.info.Redirect.{Redirect}
use Rattle.redis_cluster.specs.declared.nodes.SendError.{SendError}
use Rattle.redis_cluster.specs.declared.nodes.SendError.TheVariants.{Refused, Redirected, Lost, Memory}

-- What came back: any reply, a refusal, a redirect, or no reply and an error that says why.
pub data SendOutcome (V : Type 0) : Type 0 where
  answer : V → SendOutcome V
  refusal : ErrorParts → SendOutcome V
  redirection : Redirect → SendOutcome V
  loss : ErrorParts → SendOutcome V

pub record Said (S V : Type 0) : Type 0 where
  pub node : Address
  pub sent : S
  pub outcome : SendOutcome V

abbrev pub said : {S V : Type 0} → Address → S → SendOutcome V → Said S V
said node sent outcome = record { node = node; sent = sent; outcome = outcome }

-- A send that gave no reply: refused, redirected, its reply lost, or nothing was sent.
abbrev pub IsUnsaid : {S V : Type 0} → (old new : List (Said S V)) → Address → S → SendError → Type 0
IsUnsaid old new node sent (Refused error) = new ≡ old ++ said node sent (refusal error) ∷ []
IsUnsaid old new node sent (Redirected redirect) =
    new ≡ old ++ said node sent (redirection redirect) ∷ []
IsUnsaid old new node sent (Lost error) = new ≡ old ++ said node sent (loss error) ∷ []
IsUnsaid old new node sent Memory = new ≡ old

-- the replies that came back, one for each send that was answered
abbrev pub reply_in : {V : Type 0} → SendOutcome V → List V
reply_in (answer reply) = reply ∷ []
reply_in (refusal error) = []
reply_in (redirection redirect) = []
reply_in (loss error) = []

abbrev pub replies_in : {S V : Type 0} → List (Said S V) → List V
replies_in [] = []
replies_in (s ∷ ss) = reply_in s.outcome ++ replies_in ss
