-- The tables have the remainders of all bytes.
use Rattle.std.proofs.Common.{◌≡◌, ◌<◌, ℕ, List, [], ◌++◌, ◌+◌, ◌*◌, ◌^◌, map, replicate, refl, ap, sym, ◌∙◌, slice_index_or, arith}
use Rattle.std.specs.List.{range_with_len}
use Rattle.std.proofs.lemmas.List.FromFn.{get_or-map-range_with_len}
use Rattle.cluster_slots.specs.KeySlot.{rem, low_bits}
use Rattle.cluster_slots.specs.declared.slot.remainders.TheConstants.{REMAINDERS}

-- of a byte before 16 zero bits and n more bytes of them
abbrev byte_remainder : ℕ → ℕ → ℕ
byte_remainder n b = rem (low_bits b 8 ++ replicate (16 + 8 * n) 0)

abbrev of_bytes : ℕ → List ℕ
of_bytes n = map (byte_remainder n) (range_with_len 0 256)

remainders : map of_bytes (range_with_len 0 8) ≡ REMAINDERS
remainders = refl

pub remainder_at : (n b : ℕ) → n < 8 → b < 2 ^ 8 → slice_index_or (slice_index_or REMAINDERS n []) b 0 ≡ rem (low_bits b 8 ++ replicate (16 + 8 * n) 0)
remainder_at n b h k =
    ap (λ tables. slice_index_or (slice_index_or tables n []) b 0) (sym remainders)
    ∙ ap (λ table. slice_index_or table b 0) (get_or-map-range_with_len of_bytes 0 8 n n [] h (omega arith))
    ∙ get_or-map-range_with_len (byte_remainder n) 0 256 b b 0 k (omega arith)
