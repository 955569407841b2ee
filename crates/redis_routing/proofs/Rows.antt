-- What holds of each row of the table of routings, and of a name without a row, holds of every name.
use Rattle.std.proofs.Common.{◌≡◌, ℕ, List, [], ◌∷◌, Bool, true, Option, None, Some, map, sym, ap, ◌∙◌}
use Rattle.std.specs.Str.{bytes_eq}
use Rattle.std.proofs.lemmas.Slice.Eq.{bytes_eq-Decides}
use Rattle.redis_routing.specs.Lookup.{lookup_name}
use Rattle.redis_routing.specs.declared.route_by.RouteBy.{RouteBy}
use Rattle.resp_core.proofs.Cases.{by_test}

pub each_row : (holds : List ℕ → Option RouteBy → Bool) → ((name : List ℕ) → holds name None ≡ true) → (rows : List (List ℕ × RouteBy))
    → map (λ row. holds row.0 (Some row.1)) rows ≡ map (λ row. true) rows → (name : List ℕ) → holds name (lookup_name rows name) ≡ true
each_row holds none [] each name = none name
each_row holds none (row ∷ rows) each name =
    by_test (bytes_eq row.0 name)
    (λ equal. let first : holds row.0 (Some row.1) ≡ true = cc each in
    rw equal (ap (λ n. holds n (Some row.1)) (sym ((bytes_eq-Decides row.0 name).0 equal)) ∙ first))
    (λ unlike. let rest : map (λ row. holds row.0 (Some row.1)) rows ≡ map (λ row. true) rows = cc each in rw unlike (each_row holds none rows rest name))
