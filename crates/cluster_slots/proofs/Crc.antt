-- Division is linear, so the bits may come in at the top.
use Rattle.std.proofs.Common.{◌≡◌, ◌<◌, ◌≤◌, inl, inr, ℕ, zero, suc, ◌+◌, ◌*◌, ◌-◌, ◌%◌, ◌/◌, ◌^◌, List, [], ◌∷◌, ◌++◌, fold, length, drop, replicate, get_or, bit_xor, refl, ap, sym, ◌∙◌, subst, arith, lit<, lit≤, zero-add}
use Rattle.std.proofs.lemmas.Grind.{common_steps}
use Rattle.std.proofs.lemmas.Bool.{cases_lt}
use Rattle.std.proofs.lemmas.Bool.Decides.{nat_tests}
use Rattle.std.proofs.lemmas.Nat.{xor_block, xor_comm, xor_lt, mod_low}
use Rattle.std.proofs.lemmas.Nat.Bits.{bit_at-lt}
use Rattle.std.proofs.lemmas.List.{append-nil, append_assoc}
use Rattle.std.proofs.Math.Pow.{split}
use Rattle.std.proofs.Math.Nat.{pow-succ', le-mul_of_pos_right, mod-one}
use Rattle.std.specs.Int.Bits.{xor_shifted, xor_assoc, xor_self, xor_zero_r, xor_zero_l}
use Rattle.std.specs.Int.{bit_at}
use Rattle.cluster_slots.specs.KeySlot.{bring_down, rem, low_bits, bits_of, crc_of, zeros_down}

-- a bring_down below the top, and one at the top
pub bring_down_low : (r b : ℕ) → 2 * r + b < 65536 → bring_down r b ≡ 2 * r + b
bring_down_low r b h = grind (arith, nat_tests)

pub bring_down_high : (r b : ℕ) → 65536 ≤ 2 * r + b → bring_down r b ≡ bit_xor (2 * r + b - 65536) 4129
bring_down_high r b h = grind (arith, nat_tests)

pub bring_down_bottom : (q : ℕ) → q < 32768 → bring_down q 0 ≡ 2 * q
bring_down_bottom q h = bring_down_low q 0 (omega arith) ∙ omega arith

pub bring_down_top : (q : ℕ) → q < 32768 → bring_down (32768 + q) 0 ≡ bit_xor (2 * q) 4129
bring_down_top q h = let e : 2 * (32768 + q) + 0 - 65536 ≡ 2 * q = omega arith in bring_down_high (32768 + q) 0 (omega arith) ∙ ap (λ n. bit_xor n 4129) e

pub bring_down_lt : (r b : ℕ) → r < 2 ^ 16 → b < 2 → bring_down r b < 2 ^ 16
bring_down_lt r b h k = grind (arith, common_steps, cases_lt (2 * r + b) 65536, bring_down_low, bring_down_high, xor_lt 16 (2 * r + b - 65536) 4129 (omega arith) (lit< tt))

pub double_xor : (a b : ℕ) → bit_xor (2 * a) (2 * b) ≡ 2 * bit_xor a b
double_xor a b = grind (arith, common_steps, xor_block 1 a b 0 0 (lit< tt) (lit< tt))

doubled_bit : (q b : ℕ) → b < 2 → bit_xor (2 * q) b ≡ 2 * q + b
doubled_bit q b k = let e : 2 * q ≡ q * 2 ^ 1 = omega arith in ap (λ x. bit_xor x b) e ∙ xor_shifted q 1 b k ∙ omega arith

swap_right : (a b c : ℕ) → bit_xor (bit_xor a b) c ≡ bit_xor (bit_xor a c) b
swap_right a b c = xor_assoc a b c ∙ ap (bit_xor a) (xor_comm b c) ∙ sym (xor_assoc a c b)

pub bring_down-bit : (r b : ℕ) → r < 2 ^ 16 → b < 2 → bring_down r b ≡ bit_xor (bring_down r 0) b
bring_down-bit r b h k =
    elim (cases_lt r 32768) [
      | inl l ↦ bring_down_low r b (omega arith) ∙ sym (doubled_bit r b k) ∙ ap (λ x. bit_xor x b) (sym (bring_down_bottom r l))
      | inr l ↦
          let q = r - 32768 in
          let e : 2 * r + b - 65536 ≡ 2 * (r - 32768) + b = omega arith in
          let f : 2 * r + 0 - 65536 ≡ 2 * (r - 32768) = omega arith in
          bring_down_high r b (omega arith) ∙ ap (λ x. bit_xor x 4129) (e ∙ sym (doubled_bit (r - 32768) b k)) ∙ swap_right (2 * (r - 32768)) b 4129
          ∙ ap (λ x. bit_xor (bit_xor x 4129) b) (sym f) ∙ ap (λ x. bit_xor x b) (sym (bring_down_high r 0 (omega arith)))
    ]

top_bottom : (q s : ℕ) → q < 32768 → s < 32768 → bit_xor (32768 + q) s ≡ 32768 + bit_xor q s
top_bottom q s h k = ap (bit_xor (32768 + q)) (sym (zero-add s)) ∙ xor_block 15 1 0 q s h k

top_top : (q t : ℕ) → q < 32768 → t < 32768 → bit_xor (32768 + q) (32768 + t) ≡ bit_xor q t
top_top q t h k = xor_block 15 1 1 q t h k ∙ zero-add (bit_xor q t)

xor_top_bottom : (q s : ℕ) → q < 32768 → s < 32768 → bring_down (bit_xor (32768 + q) s) 0 ≡ bit_xor (bring_down (32768 + q) 0) (bring_down s 0)
xor_top_bottom q s h k = grind (arith, common_steps, top_bottom q s h k, bring_down_top (bit_xor q s) (xor_lt 15 q s h k), bring_down_top q h, xor_lt 15 q s h k, double_xor q s, swap_right (2 * q) (2 * s) 4129, bring_down_bottom s k)

cancel : (a b g : ℕ) → bit_xor (bit_xor a g) (bit_xor b g) ≡ bit_xor a b
cancel a b g =
    xor_assoc a g (bit_xor b g) ∙ ap (bit_xor a) (ap (bit_xor g) (xor_comm b g) ∙ sym (xor_assoc g g b) ∙ ap (λ x. bit_xor x b) (xor_self g) ∙ xor_zero_l b)

xor_top_top : (q t : ℕ) → q < 32768 → t < 32768 → bring_down (bit_xor (32768 + q) (32768 + t)) 0 ≡ bit_xor (bring_down (32768 + q) 0) (bring_down (32768 + t) 0)
xor_top_top q t h k = grind (arith, common_steps, top_top q t h k, bring_down_bottom (bit_xor q t) (xor_lt 15 q t h k), xor_lt 15 q t h k, double_xor q t, cancel (2 * q) (2 * t) 4129, bring_down_top q h, bring_down_top t k)

xor_bottom_bottom : (r s : ℕ) → r < 32768 → s < 32768 → bring_down (bit_xor r s) 0 ≡ bit_xor (bring_down r 0) (bring_down s 0)
xor_bottom_bottom r s h k =
    bring_down_bottom (bit_xor r s) (xor_lt 15 r s h k) ∙ sym (double_xor r s) ∙ ap (λ x. bit_xor x (2 * s)) (sym (bring_down_bottom r h)) ∙ ap (bit_xor (bring_down r 0)) (sym (bring_down_bottom s k))

-- a number of 16 bits is one of 15, with or without the top bit
pub data Halved : ℕ → Type 0 where
  bottom : (q : ℕ) → q < 32768 → Halved q
  top : (q : ℕ) → q < 32768 → Halved (32768 + q)

halved : (r : ℕ) → r < 2 ^ 16 → Halved r
halved r h =
    elim (cases_lt r 32768) [
      | inl l ↦ bottom r l
      | inr l ↦ let e : 32768 + (r - 32768) ≡ r = omega arith in subst Halved e (top (r - 32768) (omega arith))
    ]

bring_down-xor_of : (r s : ℕ) → Halved r → Halved s → bring_down (bit_xor r s) 0 ≡ bit_xor (bring_down r 0) (bring_down s 0)
bring_down-xor_of r s (bottom q h) (bottom t k) = xor_bottom_bottom q t h k
bring_down-xor_of r s (top q h) (bottom t k) = xor_top_bottom q t h k
bring_down-xor_of r s (bottom q h) (top t k) = ap (λ x. bring_down x 0) (xor_comm q (32768 + t)) ∙ xor_top_bottom t q k h ∙ xor_comm (bring_down (32768 + t) 0) (bring_down q 0)
bring_down-xor_of r s (top q h) (top t k) = xor_top_top q t h k

pub bring_down-xor : (r s : ℕ) → r < 2 ^ 16 → s < 2 ^ 16 → bring_down (bit_xor r s) 0 ≡ bit_xor (bring_down r 0) (bring_down s 0)
bring_down-xor r s h k = bring_down-xor_of r s (halved r h) (halved s k)

pub zeros_down_lt : (n r : ℕ) → r < 2 ^ 16 → zeros_down n r < 2 ^ 16
zeros_down_lt zero r h = h
zeros_down_lt (suc n) r h = zeros_down_lt n (bring_down r 0) (bring_down_lt r 0 h (lit< tt))

pub zeros_down-xor : (n r s : ℕ) → r < 2 ^ 16 → s < 2 ^ 16 → zeros_down n (bit_xor r s) ≡ bit_xor (zeros_down n r) (zeros_down n s)
zeros_down-xor zero r s h k = refl
zeros_down-xor (suc n) r s h k = ap (zeros_down n) (bring_down-xor r s h k) ∙ zeros_down-xor n (bring_down r 0) (bring_down s 0) (bring_down_lt r 0 h (lit< tt)) (bring_down_lt s 0 k (lit< tt))

pub zeros_down-last : (n r : ℕ) → zeros_down n (bring_down r 0) ≡ bring_down (zeros_down n r) 0
zeros_down-last zero r = refl
zeros_down-last (suc n) r = zeros_down-last n (bring_down r 0)

pub zeros_down-swap : (m n r : ℕ) → zeros_down m (zeros_down n r) ≡ zeros_down n (zeros_down m r)
zeros_down-swap zero n r = refl
zeros_down-swap (suc m) n r = ap (zeros_down m) (sym (zeros_down-last n r)) ∙ zeros_down-swap m n (bring_down r 0)

pow_pos : (n : ℕ) → 0 < 2 ^ n
pow_pos zero = lit< tt
pow_pos (suc n) = rw (pow-succ' 2 n) (omega (arith, pow_pos n))

-- p is a power of two
grown : (x p : ℕ) → 0 < p → x * (2 * p) < 65536 → 2 * x < 65536
grown x p h k = let e : 2 * x * p ≡ x * (2 * p) = omega arith in omega (arith, le-mul_of_pos_right (2 * x) h)

pub zeros_down_small : (n x : ℕ) → x * 2 ^ n < 2 ^ 16 → zeros_down n x ≡ x * 2 ^ n
zeros_down_small zero x h = omega arith
zeros_down_small (suc n) x h =
    let k : x * (2 * 2 ^ n) < 65536 = subst (λ y. x * y < 65536) (pow-succ' 2 n) h in
    let small = grown x (2 ^ n) (pow_pos n) k in
    let e : 2 * x * 2 ^ n ≡ x * (2 * 2 ^ n) = omega arith in
    ap (zeros_down n) (bring_down_low x 0 (omega arith) ∙ omega arith) ∙ zeros_down_small n (2 * x) (omega arith) ∙ e ∙ ap (λ y. x * y) (sym (pow-succ' 2 n))

pub zeros_down-replicate : (n r : ℕ) → fold bring_down r (replicate n 0) ≡ zeros_down n r
zeros_down-replicate zero r = refl
zeros_down-replicate (suc n) r = zeros_down-replicate n (bring_down r 0)

bit_times : (b p : ℕ) → b < 2 → p ≤ 256 → b * p < 65536
bit_times b p h1 h2 = grind (arith)

bit_plus : (b p m : ℕ) → b < 2 → m < p → b * p + m < 2 * p
bit_plus b p m h1 h2 = grind (arith)

parts : (h b p m : ℕ) → (2 * h + b) * p + m ≡ h * (2 * p) + (b * p + m)
parts h b p m = omega arith

-- one bit more of a number
mod_more : (b n : ℕ) → b % 2 ^ suc n ≡ bit_at b n * 2 ^ n + b % 2 ^ n
mod_more b n = grind (arith, common_steps, pow_pos n, pow-succ' 2 n, bit_plus, bit_at-lt b n, split b n, parts (b / 2 ^ n / 2) (bit_at b n) (2 ^ n) (b % 2 ^ n), mod_low)

-- the n low bits of b come in at the bottom
pub bits_in : (n r b : ℕ) → 2 ^ n ≤ 256 → r < 2 ^ 16 → fold bring_down r (low_bits b n) ≡ bit_xor (zeros_down n r) (b % 2 ^ n)
bits_in zero r b l h = sym (ap (bit_xor r) (mod-one b) ∙ xor_zero_r r)
bits_in (suc n) r b l h =
    let two : 2 * 2 ^ n ≤ 256 = subst (λ y. y ≤ 256) (pow-succ' 2 n) l in
    let d = bit_at b n in
    let small : bit_at b n < 2 = bit_at-lt b n in
    let m : b % 2 ^ n < 2 ^ n = omega (arith, pow_pos n) in
    bits_in n (bring_down r (bit_at b n)) b (omega arith) (bring_down_lt r (bit_at b n) h small)
    ∙ ap (λ x. bit_xor (zeros_down n x) (b % 2 ^ n)) (bring_down-bit r (bit_at b n) h small)
    ∙ ap (λ x. bit_xor x (b % 2 ^ n)) (zeros_down-xor n (bring_down r 0) (bit_at b n) (bring_down_lt r 0 h (lit< tt)) (omega arith) ∙ ap (bit_xor (zeros_down n (bring_down r 0))) (zeros_down_small n (bit_at b n) (bit_times (bit_at b n) (2 ^ n) small (omega arith))))
    ∙ xor_assoc (zeros_down n (bring_down r 0)) (bit_at b n * 2 ^ n) (b % 2 ^ n)
    ∙ ap (bit_xor (zeros_down n (bring_down r 0))) (xor_shifted (bit_at b n) n (b % 2 ^ n) m ∙ sym (mod_more b n))

fold-append : (r : ℕ) (xs ys : List ℕ) → fold bring_down r (xs ++ ys) ≡ fold bring_down (fold bring_down r xs) ys
fold-append r [] ys = refl
fold-append r (x ∷ xs) ys = fold-append (bring_down r x) xs ys

bits_lt : (r n b : ℕ) → r < 2 ^ 16 → fold bring_down r (low_bits b n) < 2 ^ 16
bits_lt r zero b h = h
bits_lt r (suc n) b h = bits_lt (bring_down r (bit_at b n)) n b (bring_down_lt r (bit_at b n) h (bit_at-lt b n))

-- n bits at the bottom and m zeros, or m zeros and the n bits at the top
pub byte_in : (m n r b c : ℕ) → 2 ^ n ≤ 256 → r < 2 ^ 16 → b < 2 ^ n → zeros_down m b ≡ zeros_down n c → c < 2 ^ 16 → zeros_down m (fold bring_down r (low_bits b n)) ≡ zeros_down n (bit_xor (zeros_down m r) c)
byte_in m n r b c l h k e d = grind (arith, common_steps, mod_low 0 n b k, bits_in n r b l h, zeros_down-xor m (zeros_down n r) b (zeros_down_lt n r h) (omega arith), zeros_down-xor n (zeros_down m r) c (zeros_down_lt m r h) d, zeros_down_lt n r h, zeros_down_lt m r h, zeros_down-swap m n r)

all_lt : (r : ℕ) (bs : List ℕ) → r < 2 ^ 16 → fold bring_down r (bits_of bs) < 2 ^ 16
all_lt r [] h = h
all_lt r (b ∷ bs) h = subst (λ x. x < 2 ^ 16) (sym (fold-append r (low_bits b 8) (bits_of bs))) (all_lt (fold bring_down r (low_bits b 8)) bs (bits_lt r 8 b h))

rem_more : (r : ℕ) (xs : List ℕ) (x : ℕ) → fold bring_down r (bits_of (xs ++ x ∷ [])) ≡ fold bring_down (fold bring_down r (bits_of xs)) (low_bits x 8)
rem_more r [] x = fold-append r (low_bits x 8) []
rem_more r (y ∷ ys) x =
    fold-append r (low_bits y 8) (bits_of (ys ++ x ∷ [])) ∙ rem_more (fold bring_down r (low_bits y 8)) ys x ∙ ap (λ z. fold bring_down z (low_bits x 8)) (sym (fold-append r (low_bits y 8) (bits_of ys)))

-- the register after a byte, which comes in at the top
abbrev pub next_register : ℕ → ℕ → ℕ
next_register r byte = zeros_down 8 (bit_xor r (byte * 256))

-- a byte at the top of the register, before 8 zeros, and at the bottom, before 16
pub byte_at_top : (x : ℕ) → x < 2 ^ 8 → zeros_down 8 (x * 256) ≡ zeros_down 16 x
byte_at_top x h = sym (ap (zeros_down 8) (zeros_down_small 8 x (omega arith)))

-- the register after one byte more
pub crc_more : (c x : ℕ) (xs : List ℕ) → x < 2 ^ 8 → c ≡ zeros_down 16 (fold bring_down 0 (bits_of xs)) → next_register c x ≡ zeros_down 16 (fold bring_down 0 (bits_of (xs ++ x ∷ [])))
crc_more c x xs h e =
    let shift : zeros_down 16 x ≡ zeros_down 8 (x * 256) = sym (byte_at_top x h) in
    ap (λ y. zeros_down 8 (bit_xor y (x * 256))) e
    ∙ sym (byte_in 16 8 (fold bring_down 0 (bits_of xs)) x (x * 256) (lit≤ tt) (all_lt 0 xs (lit< tt)) h shift (omega arith))
    ∙ ap (zeros_down 16) (sym (rem_more 0 xs x))

pub crc_whole : (bs : List ℕ) → crc_of bs ≡ zeros_down 16 (fold bring_down 0 (bits_of bs))
unfolding crc_of
crc_whole bs = fold-append 0 (bits_of bs) (replicate 16 0) ∙ zeros_down-replicate 16 (fold bring_down 0 (bits_of bs))

-- the 8 bits of a byte and then n zeros
pub byte_and_zeros : (n b : ℕ) → b < 2 ^ 8 → rem (low_bits b 8 ++ replicate n 0) ≡ zeros_down n b
byte_and_zeros n b h = grind (arith, common_steps, bits_in 8 0 b (lit≤ tt) (lit< tt), fold-append 0 (low_bits b 8) (replicate n 0), zeros_down-replicate n (fold bring_down 0 (low_bits b 8)))

-- a byte that comes in at the top meets the high byte of the register, and the low byte moves up
pub byte_step : (c x : ℕ) → c < 2 ^ 16 → x < 2 ^ 8 → next_register c x ≡ bit_xor (c * 256 % 65536) (zeros_down 16 (bit_xor (c / 256) x))
byte_step c x h k =
    let high = bit_xor (c / 256) x in
    let low = c % 256 in
    let high_lt : bit_xor (c / 256) x < 2 ^ 8 = xor_lt 8 (c / 256) x (omega arith) k in
    let cut : c ≡ c / 256 * 2 ^ 8 + c % 256 = omega arith in
    let come : x * 256 ≡ x * 2 ^ 8 + 0 = omega arith in
    let moved : c % 256 * 256 ≡ c * 256 % 65536 = omega arith in
    let met : bit_xor c (x * 256) ≡ bit_xor (high * 256) low =
    ap (λ y. bit_xor y (x * 256)) cut ∙ ap (bit_xor (c / 256 * 2 ^ 8 + c % 256)) come ∙ xor_block 8 (c / 256) x (c % 256) 0 (omega arith) (lit< tt)
    ∙ ap (λ y. high * 2 ^ 8 + y) (xor_zero_r low) ∙ sym (xor_shifted high 8 low (omega arith)) in
    ap (zeros_down 8) met ∙ zeros_down-xor 8 (high * 256) low (omega (arith, high_lt)) (omega arith)
    ∙ ap (λ y. bit_xor y (zeros_down 8 low)) (byte_at_top high high_lt) ∙ ap (bit_xor (zeros_down 16 high)) (zeros_down_small 8 low (omega arith) ∙ moved)
    ∙ xor_comm (zeros_down 16 high) (c * 256 % 65536)

zeros_down-more : (m n r : ℕ) → zeros_down n (zeros_down m r) ≡ zeros_down (m + n) r
zeros_down-more zero n r = let e : n ≡ 0 + n = omega arith in ap (λ k. zeros_down k r) e
zeros_down-more (suc m) n r = let e : suc (m + n) ≡ suc m + n = omega arith in zeros_down-more m n (bring_down r 0) ∙ ap (λ k. zeros_down k r) e

-- a byte more, and n zeros
byte_down : (n c x : ℕ) → c < 2 ^ 16 → x < 2 ^ 8 → zeros_down n (next_register c x) ≡ bit_xor (zeros_down (8 + n) c) (zeros_down (16 + n) x)
byte_down n c x h k = grind (arith, common_steps, zeros_down-xor 8 c (x * 256) h (omega arith), zeros_down-xor n (zeros_down 8 c) (zeros_down 16 x) (zeros_down_lt 8 c h) (zeros_down_lt 16 x (omega arith)), byte_at_top x k, zeros_down_lt 8 c h, zeros_down_lt 16 x (omega arith), zeros_down-more 8 n c, zeros_down-more 16 n x)

-- the two bytes of the register, before n zeros more than 8
register_down : (n c : ℕ) → c < 2 ^ 16 → zeros_down (8 + n) c ≡ bit_xor (zeros_down (16 + n) (c / 256 % 256)) (zeros_down (8 + n) (c % 256))
register_down n c h =
    let high = c / 256 % 256 in
    let parted : c ≡ high * 2 ^ 8 + c % 256 = omega arith in
    let cut : c ≡ bit_xor (c % 256) (high * 256) = parted ∙ sym (xor_shifted high 8 (c % 256) (omega arith)) ∙ xor_comm (high * 256) (c % 256) in
    sym (zeros_down-more 8 n c) ∙ ap (λ y. zeros_down n (zeros_down 8 y)) cut ∙ byte_down n (c % 256) high (omega arith) (omega arith)
    ∙ xor_comm (zeros_down (8 + n) (c % 256)) (zeros_down (16 + n) high)

next_lt : (r byte : ℕ) → r < 2 ^ 16 → byte < 2 ^ 8 → next_register r byte < 2 ^ 16
next_lt r byte h k = zeros_down_lt 8 (bit_xor r (byte * 256)) (xor_lt 16 r (byte * 256) h (omega arith))

-- two bytes that meet the bytes of the register, and n zeros
pub two_steps : (n c x y : ℕ) → c < 2 ^ 16 → x < 2 ^ 8 → y < 2 ^ 8
    → zeros_down n (fold next_register c (x ∷ y ∷ [])) ≡ bit_xor (zeros_down (24 + n) (bit_xor (c / 256 % 256) x)) (zeros_down (16 + n) (bit_xor (c % 256) y))
two_steps n c x y hc hx hy =
    let high = c / 256 % 256 in
    let low = c % 256 in
    let once : 8 + (8 + n) ≡ 16 + n = omega arith in
    let twice : 16 + (8 + n) ≡ 24 + n = omega arith in
    let e2 : zeros_down n (next_register (next_register c x) y) ≡ bit_xor (zeros_down (8 + n) (next_register c x)) (zeros_down (16 + n) y) = byte_down n (next_register c x) y (next_lt c x hc hx) hy in
    let e1 : zeros_down (8 + n) (next_register c x) ≡ bit_xor (zeros_down (16 + n) c) (zeros_down (24 + n) x) =
    byte_down (8 + n) c x hc hx ∙ ap (λ k. bit_xor (zeros_down k c) (zeros_down (16 + (8 + n)) x)) once ∙ ap (λ k. bit_xor (zeros_down (16 + n) c) (zeros_down k x)) twice in
    let e0 : zeros_down (16 + n) c ≡ bit_xor (zeros_down (24 + n) high) (zeros_down (16 + n) low) =
    ap (λ k. zeros_down k c) (sym once) ∙ register_down (8 + n) c hc ∙ ap (λ k. bit_xor (zeros_down k high) (zeros_down (8 + (8 + n)) low)) twice ∙ ap (λ k. bit_xor (zeros_down (24 + n) high) (zeros_down k low)) once in
    let first : zeros_down (24 + n) (bit_xor high x) ≡ bit_xor (zeros_down (24 + n) high) (zeros_down (24 + n) x) = zeros_down-xor (24 + n) high x (omega arith) (omega arith) in
    let second : zeros_down (16 + n) (bit_xor low y) ≡ bit_xor (zeros_down (16 + n) low) (zeros_down (16 + n) y) = zeros_down-xor (16 + n) low y (omega arith) (omega arith) in
    e2 ∙ ap (λ r. bit_xor r (zeros_down (16 + n) y)) (e1 ∙ ap (λ r. bit_xor r (zeros_down (24 + n) x)) e0 ∙ swap_right (zeros_down (24 + n) high) (zeros_down (16 + n) low) (zeros_down (24 + n) x) ∙ ap (λ r. bit_xor r (zeros_down (16 + n) low)) (sym first))
    ∙ xor_assoc (zeros_down (24 + n) (bit_xor high x)) (zeros_down (16 + n) low) (zeros_down (16 + n) y) ∙ ap (bit_xor (zeros_down (24 + n) (bit_xor high x))) (sym second)

-- a byte more
pub one_more : (r x : ℕ) → r < 2 ^ 16 → x < 2 ^ 8 → next_register r x ≡ bit_xor (zeros_down 8 r) (zeros_down 16 x)
one_more r x hr hx = byte_down 0 r x hr hx

-- two and six bytes more, each before the zeros that the later ones leave
pub two_more : (r x y : ℕ) → r < 2 ^ 16 → x < 2 ^ 8 → y < 2 ^ 8 → fold next_register r (x ∷ y ∷ []) ≡ bit_xor (zeros_down 16 r) (bit_xor (zeros_down 24 x) (zeros_down 16 y))
two_more r x y hr hx hy =
    one_more (next_register r x) y (next_lt r x hr hx) hy ∙ ap (λ z. bit_xor z (zeros_down 16 y)) (byte_down 8 r x hr hx) ∙ xor_assoc (zeros_down 16 r) (zeros_down 24 x) (zeros_down 16 y)

pub six_more : (r c d e f g h : ℕ) → r < 2 ^ 16 → c < 2 ^ 8 → d < 2 ^ 8 → e < 2 ^ 8 → f < 2 ^ 8 → g < 2 ^ 8 → h < 2 ^ 8
    → fold next_register r (c ∷ d ∷ e ∷ f ∷ g ∷ h ∷ [])
    ≡ bit_xor (zeros_down 48 r) (bit_xor (bit_xor (bit_xor (bit_xor (bit_xor (zeros_down 56 c) (zeros_down 48 d)) (zeros_down 40 e)) (zeros_down 32 f)) (zeros_down 24 g)) (zeros_down 16 h))
six_more r c d e f g h hr hc hd he hf hg hh =
    let r1 = next_register r c in
    let r2 = next_register r1 d in
    let r3 = next_register r2 e in
    let r4 = next_register r3 f in
    let r5 = next_register r4 g in
    let h1 : r1 < 2 ^ 16 = next_lt r c hr hc in
    let h2 : r2 < 2 ^ 16 = next_lt r1 d h1 hd in
    let h3 : r3 < 2 ^ 16 = next_lt r2 e h2 he in
    let h4 : r4 < 2 ^ 16 = next_lt r3 f h3 hf in
    let h5 : r5 < 2 ^ 16 = next_lt r4 g h4 hg in
    let e1 : zeros_down 40 r1 ≡ bit_xor (zeros_down 48 r) (zeros_down 56 c) = byte_down 40 r c hr hc in
    let e2 : zeros_down 32 r2 ≡ bit_xor (zeros_down 40 r1) (zeros_down 48 d) = byte_down 32 r1 d h1 hd in
    let e3 : zeros_down 24 r3 ≡ bit_xor (zeros_down 32 r2) (zeros_down 40 e) = byte_down 24 r2 e h2 he in
    let e4 : zeros_down 16 r4 ≡ bit_xor (zeros_down 24 r3) (zeros_down 32 f) = byte_down 16 r3 f h3 hf in
    let e5 : zeros_down 8 r5 ≡ bit_xor (zeros_down 16 r4) (zeros_down 24 g) = byte_down 8 r4 g h4 hg in
    let e6 : next_register r5 h ≡ bit_xor (zeros_down 8 r5) (zeros_down 16 h) = byte_down 0 r5 h h5 hh in
    let w = zeros_down 48 r in
    let c1 = zeros_down 56 c in
    let d1 = bit_xor c1 (zeros_down 48 d) in
    let f1 = bit_xor d1 (zeros_down 40 e) in
    let g1 = bit_xor f1 (zeros_down 32 f) in
    let k1 = bit_xor g1 (zeros_down 24 g) in
    let a2 : zeros_down 32 r2 ≡ bit_xor w d1 = e2 ∙ ap (λ z. bit_xor z (zeros_down 48 d)) e1 ∙ xor_assoc w c1 (zeros_down 48 d) in
    let a3 : zeros_down 24 r3 ≡ bit_xor w f1 = e3 ∙ ap (λ z. bit_xor z (zeros_down 40 e)) a2 ∙ xor_assoc w d1 (zeros_down 40 e) in
    let a4 : zeros_down 16 r4 ≡ bit_xor w g1 = e4 ∙ ap (λ z. bit_xor z (zeros_down 32 f)) a3 ∙ xor_assoc w f1 (zeros_down 32 f) in
    let a5 : zeros_down 8 r5 ≡ bit_xor w k1 = e5 ∙ ap (λ z. bit_xor z (zeros_down 24 g)) a4 ∙ xor_assoc w g1 (zeros_down 24 g) in
    e6 ∙ ap (λ z. bit_xor z (zeros_down 16 h)) a5 ∙ xor_assoc w k1 (zeros_down 16 h)

-- the register after two bytes is one
pub two_lt : (r x y : ℕ) → r < 2 ^ 16 → x < 2 ^ 8 → y < 2 ^ 8 → fold next_register r (x ∷ y ∷ []) < 2 ^ 16
two_lt r x y hr hx hy = next_lt (next_register r x) y (next_lt r x hr hx) hy

pub three_steps : (c : ℕ) (bytes : List ℕ) (two third : ℕ) → c < 2 ^ 16 → ((i : ℕ) → get_or bytes i 0 < 2 ^ 8) → length bytes ≡ 3
    → two ≡ zeros_down 8 (fold next_register c (get_or bytes 0 0 ∷ get_or bytes 1 0 ∷ [])) → third ≡ zeros_down 16 (get_or bytes 2 0) → bit_xor two third ≡ fold next_register c bytes
three_steps c [] two third hc hb size e f = absurd (omega arith)
three_steps c (x ∷ []) two third hc hb size e f = absurd (omega arith)
three_steps c (x ∷ y ∷ []) two third hc hb size e f = absurd (omega arith)
three_steps c (x ∷ y ∷ z ∷ []) two third hc hb size e f =
    ap (λ r. bit_xor r third) e ∙ ap (bit_xor (zeros_down 8 (fold next_register c (x ∷ y ∷ [])))) f ∙ sym (one_more (fold next_register c (x ∷ y ∷ [])) z (two_lt c x y hc (hb 0) (hb 1)) (hb 2))
three_steps c (x ∷ y ∷ z ∷ w ∷ bytes) two third hc hb size e f = absurd (omega arith)

pub four_steps : (c : ℕ) (bytes : List ℕ) (two third fourth : ℕ) → c < 2 ^ 16 → ((i : ℕ) → get_or bytes i 0 < 2 ^ 8) → 4 ≤ length bytes
    → two ≡ zeros_down 16 (fold next_register c (get_or bytes 0 0 ∷ get_or bytes 1 0 ∷ [])) → third ≡ zeros_down 24 (get_or bytes 2 0) → fourth ≡ zeros_down 16 (get_or bytes 3 0)
    → fold next_register (bit_xor two (bit_xor third fourth)) (drop 4 bytes) ≡ fold next_register c bytes
four_steps c [] two third fourth hc hb size e f g = absurd (omega arith)
four_steps c (x ∷ []) two third fourth hc hb size e f g = absurd (omega arith)
four_steps c (x ∷ y ∷ []) two third fourth hc hb size e f g = absurd (omega arith)
four_steps c (x ∷ y ∷ z ∷ []) two third fourth hc hb size e f g = absurd (omega arith)
four_steps c (x ∷ y ∷ z ∷ w ∷ bytes) two third fourth hc hb size e f g =
    let two_bytes = fold next_register c (x ∷ y ∷ []) in
    ap (λ r. fold next_register r bytes)
    (ap (λ r. bit_xor r (bit_xor third fourth)) e ∙ ap (λ r. bit_xor (zeros_down 16 two_bytes) (bit_xor r fourth)) f ∙ ap (λ r. bit_xor (zeros_down 16 two_bytes) (bit_xor (zeros_down 24 z) r)) g
    ∙ sym (two_more two_bytes z w (two_lt c x y hc (hb 0) (hb 1)) (hb 2) (hb 3)))

by_bytes : (front bytes : List ℕ) (c : ℕ) → ((i : ℕ) → get_or bytes i 0 < 2 ^ 8) → c ≡ zeros_down 16 (fold bring_down 0 (bits_of front))
    → fold next_register c bytes ≡ zeros_down 16 (fold bring_down 0 (bits_of (front ++ bytes)))
by_bytes front [] c h e = e ∙ ap (λ ys. zeros_down 16 (fold bring_down 0 (bits_of ys))) (sym (append-nil front))
by_bytes front (x ∷ xs) c h e =
    by_bytes (front ++ x ∷ []) xs (next_register c x) (λ i. h (suc i)) (crc_more c x front (h 0) e)
    ∙ ap (λ ys. zeros_down 16 (fold bring_down 0 (bits_of ys))) (append_assoc front (x ∷ []) xs)

-- the register after all bytes
pub crc_by_bytes : (bytes : List ℕ) → ((i : ℕ) → get_or bytes i 0 < 2 ^ 8) → fold next_register 0 bytes ≡ crc_of bytes
crc_by_bytes bytes h = by_bytes [] bytes 0 h refl ∙ sym (crc_whole bytes)
