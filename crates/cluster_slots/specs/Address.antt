-- What a contract sees of a node's address.
use Rattle.std.specs.Prelude.{ℕ, Bool, ◌==◌, nat_eq, List, ◌∷◌, ◌++◌, decimal}
use Rattle.std.specs.declared.cmp.Ordering.{Ordering}
use Rattle.std.specs.Ordering.{nat_cmp, on, then_cmp, eq_of_both}
use Rattle.std.specs.Cmp.Lexicographic.{pointwise, slice_cmp}
use Rattle.cluster_slots.specs.Bytes.{colon}

-- a host's bytes and a port
pub record Address : Type 0 where
  pub host : List ℕ
  pub port : ℕ

-- the printed form: host, colon, decimal port
abbrev pub display_text : Address → List ℕ
display_text a = a.host ++ colon ∷ decimal a.port

-- whether two addresses have the same host and the same port
abbrev pub same_address : Address → Address → Bool
same_address = eq_of_both (on (λ a. a.host) (pointwise nat_eq)) (on (λ a. a.port) ◌==◌)

-- the order by host bytes, then port
abbrev pub address_cmp : Address → Address → Ordering
address_cmp = then_cmp (on (λ a. a.host) (slice_cmp nat_cmp)) (on (λ a. a.port) nat_cmp)
