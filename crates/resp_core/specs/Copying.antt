-- The order in which the replies in a reply are visited and copied, without recursion.
use Rattle.std.specs.Prelude.{◌≡◌, List, [], ◌∷◌, ◌++◌, ⊤}
use Rattle.resp_core.specs.Reply.{Reply, Pairs, nil, int, bulk, array, simple, okay, pairs, no_pairs, pair, items_in}

-- the keys and values of pairs, in reverse order
abbrev pub inside_pairs : Pairs → List Reply
inside_pairs no_pairs = []
inside_pairs (pair k v ps) = inside_pairs ps ++ v ∷ k ∷ []

-- the replies directly inside a reply
abbrev pub inside : Reply → List Reply
inside nil = []
inside (int n) = []
inside (bulk bytes) = []
inside (array items) = items_in items
inside (simple text) = []
inside okay = []
inside (pairs items) = inside_pairs items

-- whether a reply has nothing inside
abbrev pub IsFlat : Reply → Type 0
IsFlat nil = ⊤
IsFlat (int n) = ⊤
IsFlat (bulk bytes) = ⊤
IsFlat (array items) = ⊥
IsFlat (simple text) = ⊤
IsFlat okay = ⊤
IsFlat (pairs items) = ⊥

-- `waiting` is a stack that began as the root alone. Each of `gone`, the latest first, was popped
-- from its end, and the replies inside it were pushed.
abbrev pub IsWalk : Reply → List Reply → List Reply → Type 0
IsWalk root [] waiting = waiting ≡ root ∷ []
IsWalk root (r ∷ gone) waiting =
    (rest : List Reply) × IsWalk root gone (rest ++ r ∷ []) × (waiting ≡ rest ++ inside r)

abbrev pub EndsWith : List Reply → List Reply → Type 0
EndsWith end rs = (rest : List Reply) × (rs ≡ rest ++ end)
