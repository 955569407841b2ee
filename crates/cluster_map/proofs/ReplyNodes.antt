-- What a route finds in the map of a reply.
use Rattle.std.proofs.Common.{◌≡◌, ℕ, List, refl}
use Rattle.std.specs.Prelude.{Option, Some, None}
use Rattle.resp_core.specs.Reply.{Reply}
use Rattle.cluster_slots.specs.Address.{Address}
use Rattle.cluster_slots.specs.SlotRoute.{SlotRoute}
use Rattle.cluster_map.specs.SlotNodes.{SlotNodes}
use Rattle.cluster_map.specs.RangeMap.{RangeEntry}
use Rattle.cluster_map.specs.ReplyNode.{IsFound, IsFoundByReply, entries_in}

found_there : (answering : List ℕ) (reply : Reply) (route : SlotRoute) (pick : ℕ) (found : Option Address) → IsFound (entries_in answering reply) route pick found → IsFoundByReply answering reply route pick found
found_there answering reply route pick None uncovered = record { there = (λ there. cc, λ covered. absurd (uncovered covered.0 covered.1)); node = tt }
found_there answering reply route pick (Some address) is_node = record { there = (λ _. (is_node.0, is_node.1), λ _. refl); node = is_node }

-- what is found in the entries of a reply is what the reply says
pub found_by_reply : (answering : List ℕ) (reply : Reply) (entries : List (RangeEntry SlotNodes)) → entries ≡ entries_in answering reply → (route : SlotRoute) (pick : ℕ) (found : Option Address) → IsFound entries route pick found → IsFoundByReply answering reply route pick found
found_by_reply answering reply entries same route pick found is_found = found_there answering reply route pick found (rw same at is_found)
