-- The answers to the parts of a split command, as bytes.
use Rattle.std.specs.Prelude.{ℕ, List, [], ◌∷◌, ◌==◌, Bool, false, Option, map}
use Rattle.std.specs.List.{concat, find}
use Rattle.std.specs.declared.vec.Vec.{Vec}
use Rattle.std.specs.declared.alloc.Global.{Global}

-- an error begins with `-`
abbrev pub is_error : List ℕ → Bool
is_error [] = false
is_error (first ∷ rest) = first == 45

abbrev pub first_error : List (Vec ℕ Global) → Option (List ℕ)
first_error answers = find is_error (map (λ answer. answer.items) answers)

-- end to end
abbrev pub joined : List (Vec ℕ Global) → List ℕ
joined answers = concat (map (λ answer. answer.items) answers)
