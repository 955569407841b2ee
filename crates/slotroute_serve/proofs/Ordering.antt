-- The orders by ascending and by descending numbers name each number once.
use Rattle.std.proofs.Common.{◌≡◌, ℕ, ◌-◌, ◌<◌, arith, ◌∙◌, length, get_or, reverse}
use Rattle.std.specs.List.{range_with_len}
use Rattle.std.proofs.lemmas.List.{get_or-reverse, length-reverse}
use Rattle.std.proofs.lemmas.List.FromFn.{length-range_with_len, get_or-range_with_len}
use Rattle.redis_cluster.specs.Orders.{NamesOnce}
use Rattle.redis_cluster.proofs.Once.{names_once_from, apart_from}
use Rattle.slotroute_serve.specs.Direction.{send_order}
use Rattle.slotroute_serve.specs.declared.direction.Direction.{Direction}
use Rattle.slotroute_serve.specs.declared.direction.Direction.TheVariants.{Forward, Reverse}

ascending_at : (n i d : ℕ) → i < n → get_or (range_with_len 0 n) i d ≡ i
ascending_at n i d l = omega (arith, get_or-range_with_len 0 n i d l)

descending_at : (n i d : ℕ) → i < n → get_or (reverse (range_with_len 0 n)) i d ≡ n - 1 - i
descending_at n i d l = grind (arith, length-range_with_len, get_or-reverse, ascending_at)

pub names_once : (direction : Direction) (n : ℕ) → NamesOnce n (send_order direction n)
names_once Forward n =
    let long : length (range_with_len 0 n) ≡ n = length-range_with_len 0 n in
    names_once_from n (range_with_len 0 n) long (λ i d l. omega (arith, ascending_at n i d (omega (arith, long)), long))
    (apart_from (range_with_len 0 n) (λ i j d below within same. omega (arith, long, ascending_at n i d (omega (arith, long)), ascending_at n j d (omega (arith, long)))))
names_once Reverse n =
    let long : length (reverse (range_with_len 0 n)) ≡ n = length-reverse (range_with_len 0 n) ∙ length-range_with_len 0 n in
    names_once_from n (reverse (range_with_len 0 n)) long (λ i d l. omega (arith, descending_at n i d (omega (arith, long)), long))
    (apart_from (reverse (range_with_len 0 n)) (λ i j d below within same. omega (arith, long, descending_at n i d (omega (arith, long)), descending_at n j d (omega (arith, long)))))
