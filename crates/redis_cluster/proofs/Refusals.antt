-- The names that a pipeline refuses are short, and bytes that are UTF-8 are a text.
use Rattle.std.proofs.Common.{◌≡◌, ℕ, ◌<◌, ◌≤◌, List, [], ◌∷◌, true, false, refl, sym, ap, map, length, arith}
use Rattle.std.specs.Prelude.{nat_eq, nat_le}
use Rattle.std.specs.Str.{bytes_eq, IsUtf8}
use Rattle.std.specs.Str.Lossy.{utf8_valid_len}
use Rattle.std.proofs.lemmas.Bool.Decides.{nat_tests}
use Rattle.std.proofs.lemmas.List.{length-map}
use Rattle.std.proofs.lemmas.Slice.Eq.{bytes_eq-Decides}
use Rattle.std.proofs.lemmas.Str.{utf8_valid_len-IsUtf8}
use Rattle.redis_routing.specs.Lookup.{has_name}
use Rattle.redis_cluster.specs.Refusals.{is_refused, refused_names}
use Rattle.redis_routing.specs.Upper.{upper}
use Rattle.redis_cluster.specs.Pipeline.{utf8_text}
use Rattle.resp_core.proofs.Cases.{by_test}

short : (names : List (List ℕ)) (n : List ℕ) → map (λ x. nat_le (length x) 32) names ≡ map (λ x. true) names → has_name names n ≡ true → length n ≤ 32
short [] n each h = cc
short (x ∷ names) n each h =
    by_test (bytes_eq x n)
    (λ equal. let first : nat_le (length x) 32 ≡ true = cc each in
    let fits : length x ≤ 32 = grind (arith, nat_tests) in
    let same : length x ≡ length n = ap length ((bytes_eq-Decides x n).0 equal) in
    omega arith)
    (λ unlike. let rest : map (λ x. nat_le (length x) 32) names ≡ map (λ x. true) names = cc each in
    short names n rest (rw unlike at h))

-- a name of more than 32 bytes is not refused
pub not_refused-long : (name : List ℕ) → 32 < length name → false ≡ is_refused (upper name)
unfolding is_refused
not_refused-long name long =
    by_test (has_name refused_names (upper name))
    (λ h. let few : length (upper name) ≤ 32 = short refused_names (upper name) refl h in absurd (omega (arith, simp length-map at few)))
    (λ h. sym h)

same_number : (a b : ℕ) → a ≡ b → nat_eq a b ≡ true
same_number a b h = grind (arith, nat_tests)

-- bytes that are UTF-8 are a text
pub text_of-IsUtf8 : (bytes : List ℕ) → IsUtf8 bytes → bytes ≡ utf8_text bytes
text_of-IsUtf8 bytes h = sym (rw (same_number (utf8_valid_len bytes) (length bytes) (utf8_valid_len-IsUtf8 bytes h)) refl)
