-- The slot of a key: CRC-16/XMODEM of its hash tag, modulo 16384.
use Rattle.std.specs.Prelude.{◌≡◌, ℕ, zero, suc, ◌+◌, ◌*◌, ◌-◌, ◌%◌, nat_le, cond, List, [], ◌∷◌, ◌++◌, fold, replicate, bit_xor}
use Rattle.std.specs.Int.{bit_at}
use Rattle.cluster_slots.specs.HashTag.{IsHashTag, hash_tag}

-- Long division of bits by x^16 + x^12 + x^5 + 1: the remainder with one more bit brought down. The
-- divisor is 65536 + 0x1021.
abbrev pub bring_down : ℕ → ℕ → ℕ
bring_down r b = cond (nat_le 65536 (2 * r + b)) (bit_xor (2 * r + b - 65536) 0x1021) (2 * r + b)

-- the remainder of bits, highest first
abbrev pub rem : List ℕ → ℕ
rem bits = fold bring_down 0 bits

-- the remainder with n zero bits brought down
abbrev pub zeros_down : ℕ → ℕ → ℕ
zeros_down zero r = r
zeros_down (suc n) r = zeros_down n (bring_down r 0)

-- the n low bits of b, highest first
abbrev pub low_bits : ℕ → ℕ → List ℕ
low_bits b zero = []
low_bits b (suc n) = bit_at b n ∷ low_bits b n

-- the bits of bytes, highest first
abbrev pub bits_of : List ℕ → List ℕ
bits_of [] = []
bits_of (b ∷ bs) = low_bits b 8 ++ bits_of bs

-- CRC-16/XMODEM: the remainder of the bits followed by 16 zero bits
unfoldable pub crc_of : List ℕ → ℕ
crc_of bytes = rem (bits_of bytes ++ replicate 16 0)

-- the slot of a key
abbrev pub IsKeySlot : List ℕ → ℕ → Type 0
IsKeySlot key slot = (tag : List ℕ) × IsHashTag key tag × (slot ≡ crc_of tag % 16384)

-- the slot of a key, as a value
unfoldable pub key_slot : List ℕ → ℕ
key_slot key = crc_of (hash_tag key) % 16384
