-- Elements by their places.
use Rattle.std.proofs.Common.{◌≡◌, ◌<◌, ℕ, suc, List, ◌∷◌, length, get_or, slice_index, subst, ap, ◌∙◌, arith}
use Rattle.std.proofs.lemmas.Option.{slice_get-get_or}
use Rattle.std.specs.List.{cons_option}
use Rattle.std.proofs.lemmas.Grind.{common_steps}
use Rattle.cluster_map.specs.Topology.{at_places}

pub tail_within : (n : ℕ) (xs : List ℕ) (x : ℕ) (ys : List ℕ) → xs ≡ x ∷ ys → ((k : ℕ) → k < length xs → slice_index xs k < n) → (k : ℕ) → k < length ys → slice_index ys k < n
tail_within n xs x ys e f k h =
    let g : (j : ℕ) → j < length (x ∷ ys) → slice_index (x ∷ ys) j < n = subst (λ zs. (j : ℕ) → j < length zs → slice_index zs j < n) e f in
    g (suc k) (omega arith)

pub head_within : (n : ℕ) (xs : List ℕ) (x : ℕ) (ys : List ℕ) → xs ≡ x ∷ ys → ((k : ℕ) → k < length xs → slice_index xs k < n) → x < n
head_within n xs x ys e f = grind (arith, common_steps)

pub at_places-more : {X : Type 0} (xs : List X) (order : List ℕ) (i : ℕ) (rest : List ℕ) (d : X) → order ≡ i ∷ rest → i < length xs → at_places xs order ≡ get_or xs i d ∷ at_places xs rest
at_places-more xs order i rest d e h = ap (at_places xs) e ∙ ap (λ o. cons_option o (at_places xs rest)) (slice_get-get_or xs i d h)
