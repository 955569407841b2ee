-- A scan that can go on, and what it finds.
use Rattle.std.specs.Prelude.{◌≤◌, ◌++◌, ℕ, List, length, take}
use Rattle.resp.specs.Messages.{IsScanned}
use Rattle.resp.specs.declared.scanning.Progress.{Progress}
use Rattle.session_core.specs.declared.link.Front.{Front}
use Rattle.session_core.specs.declared.link.Front.TheVariants.{Unfinished, Reply, Malformed, TooLong}
use Rattle.session_core.specs.Reply.{IsReply, IsUnfinished, IsTooLong, BeginsNoReply}

-- The progress is right for these bytes, whatever follows them.
abbrev pub IsReady : Progress → List ℕ → Type 0
IsReady progress bytes = (more : List ℕ) → IsScanned progress (bytes ++ more)

-- what stands at the front of what came, if a reply may have so many bytes
abbrev pub IsFront : List ℕ → ℕ → Front → Type 0
IsFront bytes most Unfinished = IsUnfinished bytes × (length bytes ≤ most)
IsFront bytes most (Reply len) = IsReply (take len bytes) × (len ≤ length bytes) × (len ≤ most)
IsFront bytes most Malformed = BeginsNoReply bytes
IsFront bytes most TooLong = IsTooLong bytes most
