-- The cursors of `SCAN` over several nodes, which are asked one after the other.
use Rattle.std.specs.Prelude.{◌≡◌, ◌<◌, ◌+◌, ◌*◌, ◌/◌, ◌^◌, if◌then◌else◌, nat_lt, ℕ, zero, suc, List, [], ◌∷◌}

-- the number that a client has for a node and the cursor there: `2 * 2^48 + 17` for 17 at node 2
abbrev pub cursor_at : ℕ → ℕ → ℕ
cursor_at node cursor = node * 2 ^ 48 + cursor

-- the number that comes after a node replied a cursor. After a 0 the next node begins. After the last
-- one it is 0, by which a client sees that the scan ended
--
-- three nodes: 17 of node 1 gives 17 at node 1; 0 of node 1 gives 0 at node 2; 0 of node 2 gives 0
abbrev pub cursor_after : ℕ → ℕ → ℕ → ℕ
cursor_after nodes node zero = if nat_lt (node + 1) nodes then cursor_at (node + 1) 0 else 0
cursor_after nodes node (suc n) = cursor_at node (suc n)

-- the node that a client's number names
abbrev pub node_of : ℕ → ℕ
node_of number = number / 2 ^ 48

-- the number after these cursors were replied, one after the other, to a scan at this number
abbrev pub follow : ℕ → ℕ → List ℕ → ℕ
follow nodes number [] = number
follow nodes number (cursor ∷ more) = follow nodes (cursor_after nodes (node_of number) cursor) more

-- how many of these cursors are 0: so many nodes have ended
abbrev pub count_zeros : List ℕ → ℕ
count_zeros [] = 0
count_zeros (zero ∷ more) = count_zeros more + 1
count_zeros (suc n ∷ more) = count_zeros more

-- the last of these cursors, or else this one
abbrev pub last_or : ℕ → List ℕ → ℕ
last_or cursor [] = cursor
last_or cursor (next ∷ more) = last_or next more
