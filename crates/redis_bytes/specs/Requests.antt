-- A request as bytes, and the requests of its parts.
use Rattle.std.specs.Prelude.{◌≡◌, ◌<◌, ℕ, List, ◌++◌, Some, None, map, length}
use Rattle.std.specs.List.{flat_map}
use Rattle.resp.specs.Forms.{IsRequest, request}
use Rattle.resp.specs.Requests.{RequestCause}
use Rattle.resp_core.specs.ItemEnds.{item_ends}
use Rattle.redis_routing.specs.Names.{Names}
use Rattle.redis_routing.specs.Command.{Arguments, command_name}
use Rattle.redis_routing.specs.Complete.{multi_slot_routes, pattern_by_name}
use Rattle.redis_routing.specs.Split.{Split, policy_by_name, slots_of, split_part}
use Rattle.redis_bytes.specs.declared.fault.BytesFault.{BytesFault}
use Rattle.redis_bytes.specs.declared.fault.BytesFault.TheVariants.{Memory, Request, AfterRequest, NotMultiKey}
use Rattle.redis_bytes.specs.declared.splitting.Parts.{Parts}

-- the words of a command, its name first
abbrev pub Words : Type 0
Words = List (List ℕ)

-- a request is at the front and ends at index `end`, and more bytes follow
pub record IsFollowed (bytes : List ℕ) (end : ℕ) : Type 0 where
  pub words : Words
  pub form : List ℕ
  pub rest : List ℕ
  pub bytes_are : bytes ≡ form ++ rest
  pub is : IsRequest words form
  pub end_is : end ≡ length form
  pub more : 0 < length rest

-- why the bytes are not one request
abbrev pub IsUnread : List ℕ → BytesFault → Type 0
IsUnread bytes Memory = Unit {0}
IsUnread bytes (Request fault) = RequestCause bytes fault
IsUnread bytes (AfterRequest end) = IsFollowed bytes end
IsUnread bytes _ = ⊥

-- the split of a command
pub record IsSplitOf (names : Names) (args : Arguments) (split : Split) : Type 0 where
  pub arguments : split.arguments ≡ args
  pub routes : Some split.routes ≡ multi_slot_routes names args
  pub pattern : Some split.pattern ≡ pattern_by_name names.registered (command_name args)
  pub policy : Some split.policy ≡ policy_by_name names.registered (command_name args)

-- The bytes are one request, and it is split like this.
pub record IsSplitRequest (names : Names) (bytes : List ℕ) (split : Split) : Type 0 where
  pub words : Words
  pub is : IsRequest words bytes
  pub split_is : IsSplitOf names (map Some words) split

-- The bytes are requests with these arguments, end to end, and this is where each ends.
pub record AreWritten (arguments : List Arguments) (ends bytes : List ℕ) : Type 0 where
  pub commands : List Words
  pub each : map (map Some) commands ≡ arguments
  pub ends_are : ends ≡ item_ends 0 (map request commands)
  pub bytes_are : bytes ≡ flat_map request commands

-- The requests of the parts, one for each route.
pub record AreParts (split : Split) (parts : Parts) : Type 0 where
  pub routes : parts.routes.items ≡ map (λ r. r.0) split.routes
  pub written : AreWritten (map (split_part split) (slots_of split.routes)) parts.ends.items parts.bytes.items

-- why the bytes are not split: they are not one request, or not a complete multi-key command
abbrev pub IsUnsplit : Names → List ℕ → BytesFault → Type 0
IsUnsplit names bytes NotMultiKey = (words : Words) × IsRequest words bytes
    × (multi_slot_routes names (map Some words) ≡ None)
IsUnsplit names bytes fault = IsUnread bytes fault
