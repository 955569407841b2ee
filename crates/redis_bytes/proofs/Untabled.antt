-- Why there is no table: the node that has no line is one of some slot.
use Rattle.std.proofs.Common.{◌≡◌, ℕ, ◌<◌, ◌≤◌, inl, inr, List, Some, length, slice_get, subst, sym, ◌∙◌, arith}
use Rattle.std.specs.Prelude.{slice_index}
use Rattle.std.proofs.lemmas.Option.{same_Some, slice_get_within}
use Rattle.resp_core.specs.Reply.{Reply}
use Rattle.cluster_slots.specs.Address.{Address}
use Rattle.cluster_slots.specs.SlotRoute.{SlotRoute}
use Rattle.cluster_slots.specs.declared.slot.SlotAddr.{SlotAddr}
use Rattle.cluster_map.specs.RangeMap.{RangeEntry}
use Rattle.cluster_map.specs.ReplyNode.{entries_in}
use Rattle.cluster_map.specs.RouteNode.{IsNodeOfRoute}
use Rattle.cluster_map.specs.SlotNodes.{SlotNodes}
use Rattle.redis_bytes.specs.Replies.{IsReply}
use Rattle.redis_bytes.specs.Table.{IsNodeNumber, AreUsed, IsUnprinted, IsNoTable}
use Rattle.redis_bytes.specs.declared.fault.BytesFault.{BytesFault}

-- what a number among the nodes stands for is the node that the route asks for
asked : (entries : List (RangeEntry SlotNodes)) (nodes : List Address) (route : SlotRoute) (pick number : ℕ) (node : Address) → length nodes ≤ 16384 → slice_get nodes number ≡ Some node
    → IsNodeNumber entries nodes route pick number → IsNodeOfRoute entries route pick node
asked entries nodes route pick number node few there (inl none) = absurd (omega (arith, few, none.0, slice_get_within nodes number node there))
asked entries nodes route pick number node few there (inr (other, at, is)) = subst (IsNodeOfRoute entries route pick) (same_Some other node (sym at ∙ there)) is

module _ (answering bytes : List ℕ) (said : Reply) (addr : SlotAddr) (pick : ℕ) (numbers : List ℕ) (nodes : List Address) (read : IsReply said bytes) (all : length numbers ≡ 16384) (few : length nodes ≤ 16384) (used : AreUsed numbers nodes) (each : (slot : ℕ) → slot < 16384 → IsNodeNumber (entries_in answering said) nodes (record { slot = slot; addr = addr }) pick (slice_index numbers slot)) where
  pub no_lines : (fault : BytesFault) → IsUnprinted nodes fault → IsNoTable answering bytes addr pick fault
  no_lines fault (inl memory) = subst (IsNoTable answering bytes addr pick) (sym memory) tt
  no_lines fault (inr (is, number, node, there, has)) =
      let (slot, within, at) = used number (slice_get_within nodes number node there) in
      let below : slot < 16384 = omega (arith, within, all) in
      let route : SlotRoute = record { slot = slot; addr = addr } in
      let here = subst (IsNodeNumber (entries_in answering said) nodes route pick) at (each slot below) in
      subst (IsNoTable answering bytes addr pick) (sym is)
      (said, read, record { slot = slot; below = below; node = node; asked = asked (entries_in answering said) nodes route pick number node few there here; has = has })
