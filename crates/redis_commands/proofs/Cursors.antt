-- Scans over several nodes, followed cursor by cursor.
use Rattle.std.proofs.Common.{◌≡◌, ◌<◌, ◌≤◌, ◌+◌, ◌*◌, ◌/◌, ◌^◌, ◌++◌, ℕ, zero, suc, List, [], ◌∷◌, refl, sym, ap, subst, ◌∙◌, arith, nat_lt, true, false}
use Rattle.std.proofs.lemmas.Nat.{div-mul-add}
use Rattle.std.proofs.lemmas.List.Elements.{All-head, All-tail}
use Rattle.std.specs.Prelude.{if◌then◌else◌}
use Rattle.std.specs.List.{All}
use Rattle.redis_commands.specs.Cursors.{cursor_at, cursor_after, node_of, follow, count_zeros, last_or}

abbrev IsBelow : ℕ → Type 0
IsBelow cursor = cursor < 2 ^ 48

own_node : (node cursor : ℕ) → IsBelow cursor → node_of (cursor_at node cursor) ≡ node
own_node node cursor below = div-mul-add node (2 ^ 48) cursor below

next_node : (nodes node : ℕ) → node + 1 < nodes → cursor_after nodes node 0 ≡ cursor_at (node + 1) 0
next_node nodes node more = grind (arith)

last_node : (nodes node : ℕ) → node + 1 ≡ nodes → cursor_after nodes node 0 ≡ 0
last_node nodes node last = grind (arith)

-- after some cursors, as many nodes more ended as there are zeros
goes_on : (nodes node cursor : ℕ) (cursors : List ℕ) → IsBelow cursor → All IsBelow cursors → node + count_zeros cursors < nodes → follow nodes (cursor_at node cursor) cursors ≡ cursor_at (node + count_zeros cursors) (last_or cursor cursors)
goes_on nodes node cursor [] below all more = grind (arith)
goes_on nodes node cursor (zero ∷ cursors) below all more =
    let rest : follow nodes (cursor_at (node + 1) 0) cursors ≡ cursor_at (node + 1 + count_zeros cursors) (last_or 0 cursors) =
    goes_on nodes (node + 1) 0 cursors (omega arith) (All-tail IsBelow 0 cursors all) (omega (arith, more)) in
    rw (own_node node cursor below) (rw (next_node nodes node (omega (arith, more))) (rw rest (omega arith)))
goes_on nodes node cursor (suc n ∷ cursors) below all more =
    rw (own_node node cursor below) (goes_on nodes node (suc n) cursors (All-head IsBelow (suc n) cursors all) (All-tail IsBelow (suc n) cursors all) more)

follow-append : (nodes number : ℕ) (before cursors : List ℕ) → follow nodes number (before ++ cursors) ≡ follow nodes (follow nodes number before) cursors
follow-append nodes number [] cursors = refl
follow-append nodes number (x ∷ before) cursors = follow-append nodes (cursor_after nodes (node_of number) x) before cursors

last_below : (cursor : ℕ) (cursors : List ℕ) → IsBelow cursor → All IsBelow cursors → IsBelow (last_or cursor cursors)
last_below cursor [] below all = below
last_below cursor (x ∷ cursors) below all = last_below x cursors (All-head IsBelow x cursors all) (All-tail IsBelow x cursors all)

pub stands : (nodes : ℕ) (cursors : List ℕ) → All (λ c. c < 2 ^ 48) cursors → count_zeros cursors < nodes → follow nodes 0 cursors ≡ cursor_at (count_zeros cursors) (last_or 0 cursors)
stands nodes cursors all more = let r = goes_on nodes 0 0 cursors (omega arith) all (omega (arith, more)) in grind (arith, r)

pub ends : (nodes : ℕ) (cursors : List ℕ) → All (λ c. c < 2 ^ 48) cursors → count_zeros cursors + 1 ≡ nodes → follow nodes 0 (cursors ++ 0 ∷ []) ≡ 0
ends nodes cursors all last =
    rw (follow-append nodes 0 cursors (0 ∷ [])) (rw (stands nodes cursors all (omega (arith, last)))
    (rw (own_node (count_zeros cursors) (last_or 0 cursors) (last_below 0 cursors (omega arith) all))
    (last_node nodes (count_zeros cursors) last)))
