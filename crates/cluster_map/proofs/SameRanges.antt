-- When two ranges are one.
use Rattle.std.proofs.Common.{◌≡◌, ℕ, true, false, Bool, ◌&&◌, ◌==◌, List, arith}
use Rattle.std.proofs.lemmas.Bool.Decides.{nat_tests}
use Rattle.std.specs.Bool.{Decides}
use Rattle.std.specs.Cmp.Lexicographic.{pointwise, pointwise_decides}
use Rattle.cluster_map.specs.SlotNodes.{RangeNodes, same_range}
use Rattle.cluster_slots.specs.Address.{Address, same_address}
use Rattle.cluster_slots.proofs.Orders.{address_decides, same_from_address}

-- `==` of lists of addresses and of ranges is true exactly where the two are one
nodes_decide : (xs ys : List Address) → Decides (pointwise same_address xs ys) (xs ≡ ys)
nodes_decide = pointwise_decides address_decides

both_true : (x y : Bool) → x ≡ true → y ≡ true → x && y ≡ true
both_true true y p q = q
both_true false y p q = cc

same_number : (m n : ℕ) → Decides (m == n) (m ≡ n)
same_number m n = ((λ h. grind (arith, nat_tests)), (λ e. grind (arith, nat_tests)))

pub range_decides : (a b : RangeNodes) → Decides (same_range a b) (a ≡ b)
range_decides a b = grind (arith, same_number, same_from_address, nodes_decide, both_true, address_decides)
