-- The texts that name a node's address.
use Rattle.std.specs.Prelude.{◌≡◌, ◌≢◌, ℕ, List, [], ◌∷◌, ◌++◌, Some, None, Contains, replicate, codes}
use Rattle.resp_core.specs.ErrorParts.{ErrorParts}
use Rattle.resp_core.specs.declared.error.ErrorKind.TheVariants.{InvalidClientConfig}
use Rattle.cluster_slots.specs.Number.{number_in}
use Rattle.cluster_slots.specs.Bytes.{colon, open_bracket, close_bracket}

-- the text is the host in brackets; the host is not empty, begins with no opening bracket and ends
-- with no closing one
pub record IsBracketed (text host : List ℕ) (opens closes : ℕ) : Type 0 where
  pub whole : text ≡ replicate opens open_bracket ++ host ++ replicate closes close_bracket
  pub some : host ≢ []
  pub start : (rest : List ℕ) → host ≢ open_bracket ∷ rest
  pub end : (front : List ℕ) → host ≢ front ++ close_bracket ∷ []

-- the text is cut at its last colon: on the left is the host, in brackets or not, and on the right
-- the port
pub record ReadsAs (text left right host : List ℕ) (port : ℕ) : Type 0 where
  pub cut : text ≡ left ++ colon ∷ right
  pub last : ¬ (Contains right colon)
  pub number : number_in 16 right ≡ Some port
  pub bracketed : (opens : ℕ) × (closes : ℕ) × IsBracketed left host opens closes

-- the text stands for the host and the port
abbrev pub IsAddressText : List ℕ → List ℕ → ℕ → Type 0
IsAddressText text host port =
    (left : List ℕ) × (right : List ℕ) × ReadsAs text left right host port

-- the text stands for no address
abbrev pub IsNoAddress : List ℕ → Type 0
IsNoAddress text = (host : List ℕ) (port : ℕ) → ¬ (IsAddressText text host port)

-- a host that is read back from its printed form: not empty, with no bracket around it
pub record IsPlainHost (host : List ℕ) : Type 0 where
  pub some : host ≢ []
  pub start : (rest : List ℕ) → host ≢ open_bracket ∷ rest
  pub end : (front : List ℕ) → host ≢ front ++ close_bracket ∷ []

-- the error for a text that names no address
abbrev pub invalid_node_string : ErrorParts
invalid_node_string =
    record { kind = InvalidClientConfig; desc = codes "Invalid node string"; detail = None }
