-- The lines of the nodes of a table.
use Rattle.std.proofs.Common.{◌≡◌, ℕ, zero, suc, ◌+◌, ◌<◌, ◌⊎◌, inl, inr, List, [], ◌∷◌, ◌++◌, Some, length, take, get_or, slice_get, subst, refl, sym, ap, ◌∙◌, append-nil}
use Rattle.std.specs.Borrow.{Bor}
use Rattle.std.specs.List.{flat_map}
use Rattle.std.specs.Prelude.{Contains}
use Rattle.std.proofs.lemmas.List.{take_more, map_push}
use Rattle.std.proofs.lemmas.List.Concat.{flat_map-append}
use Rattle.std.proofs.lemmas.Option.{none-some, same_Some, slice_get_read}
use Rattle.cluster_slots.specs.Address.{Address}
use Rattle.redis_bytes.specs.Table.{ArePlain, IsUnprinted, addresses, node_line}
use Rattle.redis_bytes.specs.declared.fault.BytesFault.{BytesFault}
use Rattle.redis_bytes.specs.declared.fault.BytesFault.TheVariants.{Memory, LineFeedInHost}
use Rattle.redis_bytes.proofs.Numbers.{stood}

at_address : (nodes : List (Bor Address)) (i : ℕ) (node : Bor Address) → slice_get nodes i ≡ Some node → slice_get (addresses nodes) i ≡ Some node.now
at_address [] i node e = absurd (none-some node e)
at_address (x ∷ xs) zero node e = ap (λ (n : Bor Address). Some n.now) (same_Some x node e)
at_address (x ∷ xs) (suc i) node e = at_address xs i node e

module _ (nodes : List (Bor Address)) (i : ℕ) (node : Bor Address) (lt : i < length nodes) (is : node ≡ get_or nodes i node) where
  longer : take (i + 1) nodes ≡ take i nodes ++ node ∷ []
  longer = take_more nodes i node lt ∙ ap (λ (y : Bor Address). take i nodes ++ y ∷ []) (sym is)

  -- one line more
  pub lines_more : (lines more : List ℕ) → lines ≡ flat_map node_line (addresses (take i nodes)) → more ≡ lines ++ node_line node.now → more ≡ flat_map node_line (addresses (take (i + 1) nodes))
  lines_more lines more so_far next =
      next ∙ ap (λ (t : List ℕ). t ++ node_line node.now) so_far
      ∙ sym (ap (λ (ns : List (Bor Address)). flat_map node_line (addresses ns)) longer
      ∙ ap (flat_map node_line) (map_push (λ (n : Bor Address). n.now) (take i nodes) node)
      ∙ flat_map-append node_line (addresses (take i nodes)) (node.now ∷ [])
      ∙ ap (λ (t : List ℕ). flat_map node_line (addresses (take i nodes)) ++ t) (append-nil (node_line node.now)))

  -- of a host that has no line feed
  pub plain_more : ArePlain (addresses (take i nodes)) → ¬ (Contains node.now.host 10) → ArePlain (addresses (take (i + 1) nodes))
  plain_more so_far none number other there has = by_place (stood (take i nodes) node number other (ap (λ (ns : List (Bor Address)). slice_get (addresses ns) number) (sym longer) ∙ there))
    where
      by_place : (slice_get (addresses (take i nodes)) number ≡ Some other) ⊎ ((number ≡ length (take i nodes)) × (node.now ≡ other)) → ⊥
      by_place (inl before) = so_far number other before has
      by_place (inr last) = none (subst (λ (a : Address). Contains a.host 10) (sym last.1) has)

  -- or none, where the host has one
  pub unprinted : (fault : BytesFault) → (fault ≡ Memory) ⊎ ((fault ≡ LineFeedInHost) × Contains node.now.host 10) → IsUnprinted (addresses nodes) fault
  unprinted fault (inl memory) = inl memory
  unprinted fault (inr (told, has)) = inr (told, i, node.now, at_address nodes i node (slice_get_read nodes (length nodes) i node refl lt is), has)
