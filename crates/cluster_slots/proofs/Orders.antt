-- The order of addresses, and when two of them are one.
use Rattle.std.proofs.Common.{◌≡◌, true, rules, arith}
use Rattle.std.proofs.lemmas.Grind.{common_steps}
use Rattle.std.specs.Bool.{Decides}
use Rattle.std.specs.Cmp.Rules.{comparing}
use Rattle.std.specs.declared.cmp.Ordering.{Ordering}
use Rattle.std.specs.declared.cmp.Ordering.TheVariants.{Equal}
use Rattle.std.specs.Ordering.{is_eq, ordering_reverse}
use Rattle.std.specs.Cmp.{IsTotalOrder}
use Rattle.cluster_slots.specs.Address.{Address, address_cmp, same_address}

address_cmp_total : IsTotalOrder address_cmp
address_cmp_total = search (comparing, rules)

-- addresses that `==` holds of are one
pub same_from_address : (a b : Address) → same_address a b ≡ true → a ≡ b
same_from_address a b h = search (rules, h)

same_from_cmp : (a b : Address) → same_address a b ≡ is_eq (address_cmp a b)
same_from_cmp = search (comparing, rules)

-- what is its own reverse is `Equal`
own_reverse : (o : Ordering) → o ≡ ordering_reverse o → o ≡ Equal
own_reverse o h1 = grind (arith)

-- two addresses compare as equal exactly where they are one
pub equal_law : (a b : Address) → (address_cmp a b ≡ Equal → a ≡ b) × (a ≡ b → address_cmp a b ≡ Equal)
equal_law a b = grind (arith, common_steps, same_from_address, same_from_cmp, own_reverse, address_cmp_total)

-- `==` of addresses is true exactly where the two are one
pub address_decides : (a b : Address) → Decides (same_address a b) (a ≡ b)
address_decides a b = (same_from_address a b, λ same. search (rules, same))
