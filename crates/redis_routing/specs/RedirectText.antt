-- The text of an error by which a node sends a client on (Redis cluster specification, "Redirection
-- and resharding"): `MOVED 3999 127.0.0.1:6381`, or `ASK` in place of `MOVED`. The word is followed
-- by the slot and by the node's address. A node that does not know its host leaves it out, as in
-- `MOVED 3999 :6381`: the host is then that of the node which answered. Where nodes go by their host
-- names, one that has no name is written `?`, as in a reply to CLUSTER SLOTS: it can't be reached.
use Rattle.std.specs.Prelude.{◌≡◌, ◌≢◌, ◌<◌, ℕ, List, ◌∷◌, ◌++◌, ◌⊎◌, [], Some, Contains, codes}
use Rattle.cluster_slots.specs.Address.{Address}
use Rattle.cluster_slots.specs.AddressText.{IsAddressText}
use Rattle.cluster_slots.specs.Bytes.{colon}
use Rattle.cluster_slots.specs.Number.{number_in}
use Rattle.redis_routing.specs.declared.info.Redirect.{Redirect}
use Rattle.redis_routing.specs.declared.info.Redirect.TheVariants.{Moved, Ask}

abbrev pub space : ℕ
space = 32

abbrev pub plus : ℕ
plus = 43

-- the text writes a slot in decimal digits, without a plus
pub record IsSlotText (text : List ℕ) (slot : ℕ) : Type 0 where
  pub number : number_in 16 text ≡ Some slot
  pub unsigned : (rest : List ℕ) → text ≢ plus ∷ rest
  pub below : slot < 16384

-- what is written for the host of a node that has no name
abbrev pub unknown_host : List ℕ
unknown_host = codes "?"

-- the text is a colon and a port, and the host is that of the node which answered, if it has one
pub record HasNoHost (answering text host : List ℕ) (port : ℕ) : Type 0 where
  pub digits : List ℕ
  pub whole : text ≡ colon ∷ digits
  pub number : number_in 16 digits ≡ Some port
  pub same : host ≡ answering
  pub some : host ≢ []

-- the text names a node: by an address whose host is known, or by its port alone
abbrev pub IsNodeText : List ℕ → List ℕ → List ℕ → ℕ → Type 0
IsNodeText answering text host port =
    (IsAddressText text host port × (host ≢ unknown_host)) ⊎ HasNoHost answering text host port

-- the text is a slot, one space and a node, with no other space
pub record TellsNode (answering text : List ℕ) (slot : ℕ) (host : List ℕ) (port : ℕ) : Type 0 where
  pub number : List ℕ
  pub node : List ℕ
  pub whole : text ≡ number ++ space ∷ node
  pub first : ¬ (Contains number space)
  pub last : ¬ (Contains node space)
  pub told : IsSlotText number slot
  pub named : IsNodeText answering node host port

-- the word of a redirect, with the space behind it, and the address that it names
abbrev pub redirect_word : Redirect → List ℕ
redirect_word (Moved address) = codes "MOVED "
redirect_word (Ask address) = codes "ASK "

abbrev pub redirect_address : Redirect → Address
redirect_address (Moved address) = address
redirect_address (Ask address) = address

-- the error's text is this redirect of this slot
abbrev pub IsRedirectText : List ℕ → List ℕ → ℕ → Redirect → Type 0
IsRedirectText answering text slot redirect =
    (told : List ℕ) × (text ≡ redirect_word redirect ++ told)
    × TellsNode answering told slot (redirect_address redirect).host (redirect_address redirect).port

-- the error's text is no redirect
abbrev pub IsNoRedirect : List ℕ → List ℕ → Type 0
IsNoRedirect answering text =
    (slot : ℕ) (redirect : Redirect) → ¬ (IsRedirectText answering text slot redirect)
