-- Reading a request byte by byte. `IsRequest` says what a whole request is, and the contract of
-- `read_request` joins the two.
use Rattle.std.specs.Prelude.{◌≡◌, ◌==◌, ◌<◌, ◌+◌, ◌-◌, ◌≤◌, ◌*◌, ◌^◌, ◌++◌, ◌&&◌, ℕ, zero, suc, Bool, true, false, not, nat_lt, if◌then◌else◌, List, [], ◌∷◌, length, take, drop, Option, Some, None, Result, Ok, Err}
use Rattle.std.specs.Char.{is_ascii_digit, digit_value}
use Rattle.resp.specs.declared.stop.Stop.{Stop}
use Rattle.resp.specs.declared.stop.Stop.TheVariants.{WantsMore, StopsAt}
use Rattle.resp.specs.declared.stop.Unread.{Unread}
use Rattle.resp.specs.declared.stop.Unread.TheVariants as unread
use Rattle.resp.specs.declared.fault.RequestFault.{RequestFault}
use Rattle.resp.specs.declared.fault.RequestFault.TheVariants.{Incomplete, Malformed}
use Rattle.resp.specs.declared.fault.RequestError.{RequestError}
use Rattle.resp.specs.declared.fault.RequestError.TheVariants as errors
use Rattle.resp.specs.Forms.{IsRequest}

-- what is read at the front of some bytes, and what follows it
abbrev pub Read : Type 0 → Type 0
Read A = Result (A × List ℕ) Stop

abbrev pub and_then : {A B : Type 0} → Read A → (A → List ℕ → Read B) → Read B
and_then (Ok x) next = next x.0 x.1
and_then (Err stop) next = Err stop

-- The function stopped as reading does, or memory ran out.
abbrev pub Stopped : {Y : Type 0} → Unread → Result Y Stop → Type 0
Stopped unread.Memory read = Unit {0}
Stopped (unread.Stopped stop) read = read ≡ Err stop

-- What a function returned, seen by view, is what reading gives, unless memory ran out.
abbrev pub Tells : {X Y : Type 0} → (X → Y) → Result X Unread → Result Y Stop → Type 0
Tells view (Ok x) read = read ≡ Ok (view x)
Tells view (Err e) read = Stopped e read

-- this byte, at the front
unfoldable pub byte_at : ℕ → List ℕ → Read ℕ
byte_at byte [] = Err WantsMore
byte_at byte (b ∷ bytes) =
    if b == byte then Ok (byte, bytes) else Err (StopsAt (length bytes + 1))

-- Whether a byte is a digit that may follow those of n, if there are some. The number has no
-- leading zero and stays below the limit.
abbrev pub is_next_digit : ℕ → Bool → ℕ → ℕ → Bool
is_next_digit limit some n b = is_ascii_digit b
    && (not (some && n == 0) && nat_lt (n * 10 + digit_value b) limit)

-- the number with one digit more
abbrev pub with_digit : ℕ → Bool → ℕ → ℕ → Option ℕ
with_digit limit some n b =
    if is_next_digit limit some n b then Some (n * 10 + digit_value b) else None

-- the number whose digits continue those of n, if there are some, up to the first byte of the
-- line's end
unfoldable pub digits_at : ℕ → Bool → ℕ → List ℕ → Read ℕ
digits_at limit some n [] = Err WantsMore
digits_at limit some n (b ∷ bytes) =
    if is_next_digit limit some n b then digits_at limit true (n * 10 + digit_value b) bytes
    else (if some && b == 13 then Ok (n, bytes) else Err (StopsAt (length bytes + 1)))

-- a line with this mark and a number
unfoldable pub line_at : ℕ → List ℕ → Read ℕ
line_at mark bytes = and_then (byte_at mark bytes) λ _ text.
    and_then (digits_at (2 ^ 63) false 0 text) λ n after.
    and_then (byte_at 10 after) λ _ rest. Ok (n, rest)

-- the first n bytes
unfoldable pub so_many_at : ℕ → List ℕ → Read (List ℕ)
so_many_at n bytes =
    if nat_lt (length bytes) n then Err WantsMore else Ok (take n bytes, drop n bytes)

-- a bulk string of n bytes, from the end of its first line on
unfoldable pub word_at : ℕ → List ℕ → Read (List ℕ)
word_at n bytes = and_then (so_many_at n bytes) λ word after.
    and_then (byte_at 13 after) λ _ last.
    and_then (byte_at 10 last) λ _ rest. Ok (word, rest)

unfoldable pub bulk_at : List ℕ → Read (List ℕ)
bulk_at bytes = and_then (line_at 36 bytes) word_at

-- n bulk strings
unfoldable pub bulks_at : ℕ → List ℕ → Read (List (List ℕ))
bulks_at zero bytes = Ok ([], bytes)
bulks_at (suc n) bytes = and_then (bulk_at bytes) λ word after.
    and_then (bulks_at n after) λ words rest. Ok (word ∷ words, rest)

unfoldable pub request_at : List ℕ → Read (List (List ℕ))
request_at bytes = and_then (line_at 42 bytes) bulks_at

-- ---- why nothing was read

-- a stop with `left` bytes left lies within the bytes
abbrev pub IsStopIn : List ℕ → Stop → Type 0
IsStopIn bytes WantsMore = Unit {0}
IsStopIn bytes (StopsAt left) = left ≤ length bytes

abbrev pub fault_at : List ℕ → Stop → RequestFault
fault_at bytes WantsMore = Incomplete
fault_at bytes (StopsAt left) = Malformed (length bytes - left)

-- some more bytes complete these to a whole request
abbrev pub CanBeRequest : List ℕ → Type 0
CanBeRequest bytes = (more : List ℕ) × (args : List (List ℕ)) × IsRequest args (bytes ++ more)

-- no whole request stands at the front
abbrev pub HasNoRequest : List ℕ → Type 0
HasNoRequest bytes = (args : List (List ℕ)) (form rest : List ℕ) → IsRequest args form
    → bytes ≡ form ++ rest → ⊥

-- whatever follows these bytes, no request stands at the front
abbrev pub BeginsNoRequest : List ℕ → Type 0
BeginsNoRequest bytes = (more : List ℕ) → HasNoRequest (bytes ++ more)

-- `Incomplete`: more bytes are needed, and can complete these. `Malformed`: the byte at this index
-- is the first that no request can have there.
abbrev pub RequestCause : List ℕ → RequestFault → Type 0
RequestCause bytes Incomplete = HasNoRequest bytes × CanBeRequest bytes
RequestCause bytes (Malformed index) = (index < length bytes) × CanBeRequest (take index bytes)
    × BeginsNoRequest (take (index + 1) bytes)

abbrev pub RequestErrorCause : List ℕ → RequestError → Type 0
RequestErrorCause bytes errors.Memory = Unit {0}
RequestErrorCause bytes (errors.Fault fault) = RequestCause bytes fault
