-- The arguments of a request that is read in place.
use Rattle.std.proofs.Common.{◌≡◌, ◌<◌, ◌∙◌, Bor, List, ℕ, Some, map, option_map, length, get_or, sym, ap}
use Rattle.std.specs.Prelude.{slice_get}
use Rattle.std.proofs.lemmas.List.{length-map}
use Rattle.std.proofs.lemmas.Option.{slice_get-get_or, slice_get-map}
use Rattle.redis_routing.specs.Command.{argument}
use Rattle.redis_routing.proofs.Arguments.{argument-map-Some}
use Rattle.redis_bytes.specs.Requests.{Words}

abbrev now : Bor (List ℕ) → List ℕ
now piece = piece.now

-- the argument that a piece of the bytes is
pub piece_at : (pieces : List (Bor (List ℕ))) (words : Words) (i : ℕ) (other : Bor (List ℕ)) → words ≡ map (λ piece. piece.now) pieces → i < length pieces
    → argument (map Some words) i ≡ Some (get_or pieces i other).now
piece_at pieces words i other are within =
    sym (argument-map-Some words i) ∙ ap (λ (l : Words). slice_get l i) are ∙ slice_get-map now pieces i ∙ ap (option_map now) (slice_get-get_or pieces i other within)

-- there are as many arguments as pieces
pub many : (pieces : List (Bor (List ℕ))) (words : Words) → words ≡ map (λ piece. piece.now) pieces → length (map Some words) ≡ length pieces
many pieces words are = length-map words Some ∙ ap length are ∙ length-map pieces now
