-- What is kept of a call that begins.
use Rattle.std.specs.Prelude.{◌≡◌, ◌<◌, ℕ, List, [], ◌∷◌, length, map, Some, slice_get}
use Rattle.std.specs.List.{filter}
use Rattle.session_core.specs.declared.part.PartOrder.{PartOrder}
use Rattle.session_core.specs.Part.{PartState}
use Rattle.session_machine.specs.Ties.{is_ordered}
use Rattle.session_machine.specs.declared.orders.Orders.{Orders}
use Rattle.session_machine.specs.declared.orders.Orders.TheVariants.{One, Several}

-- the orders of the parts of a call that join the order of its caller
abbrev pub ordered_of : List PartState → List PartOrder
ordered_of parts = filter is_ordered (map {A = PartState} {B = PartOrder} (λ p. p.order) parts)

-- the orders that are kept of them
abbrev pub orders_in : Orders → List PartOrder
orders_in (One order) = order ∷ []
orders_in (Several orders) = orders.items

-- the request of each part has a byte
abbrev pub HaveRequests : List PartState → Type 0
HaveRequests parts = (i : ℕ) (p : PartState) → slice_get parts i ≡ Some p → 0 < length p.request
