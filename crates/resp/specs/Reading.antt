-- Reading an answer from left to right, up to the first fault. `IsForm` says what a whole answer
-- is, and the contract of `read` joins the two.
use Rattle.std.specs.Prelude.{◌≡◌, ◌==◌, ◌++◌, ◌+◌, ◌<◌, ℕ, ℤ, zero, suc, Bool, ◌&&◌, ◌||◌, nat_lt, if◌then◌else◌, List, [], ◌∷◌, length, take, drop, codes, bytes_eq, Option, Some, None, Result, Ok, Err}
use Rattle.resp_core.specs.Reply.{Reply, nil, int, bulk}
use Rattle.resp.specs.declared.reading.TheConstants.{MAX_LEVELS}
use Rattle.resp.specs.declared.fault.Fault.{Fault}
use Rattle.resp.specs.declared.fault.Fault.TheVariants.{Incomplete, Malformed, TooDeep}
use Rattle.resp.specs.declared.fault.ReadError.{ReadError}
use Rattle.resp.specs.declared.fault.ReadError.TheVariants as errors
use Rattle.resp.specs.Forms.{Answer, IsForm, answer_before, array_of_all, simple_of, int_in, length_in}

infixl 10 ◌>>=◌
abbrev pub ◌>>=◌ : {A B : Type 0} → Result A Fault → (A → Result B Fault) → Result B Fault
(Ok x) >>= f = f x
(Err e) >>= f = Err e

-- The function failed as reading does, or memory ran out.
abbrev pub Fails : {Y : Type 0} → ReadError → Result Y Fault → Type 0
Fails errors.Memory read = Unit {0}
Fails (errors.Fault f) read = read ≡ Err f

-- What a function returned, seen by view, is what reading gives, unless memory ran out.
abbrev pub Gives : {X Y : Type 0} → (X → Y) → Result X ReadError → Result Y Fault → Type 0
Gives view (Ok x) read = read ≡ Ok (view x)
Gives view (Err e) read = Fails e read

-- What a function returned, seen by view, is what reading gives.
abbrev pub IsRead : {E X Y : Type 0} → (X → Y) → Result X E → Result Y E → Type 0
IsRead view (Ok x) read = read ≡ Ok (view x)
IsRead view (Err e) read = read ≡ Err e

-- what follows, without what was read
abbrev pub rest_of : {A E : Type 0} → Result (A × List ℕ) E → Result (List ℕ) E
rest_of (Ok x) = Ok x.1
rest_of (Err e) = Err e

-- ---- a line

-- the text of the line that begins here
unfoldable pub text_until_line_end : List ℕ → List ℕ
text_until_line_end [] = []
text_until_line_end (b ∷ bytes) = if b == 13 || b == 10 then [] else b ∷ text_until_line_end bytes

-- what follows the text of the line that begins here
unfoldable pub after_text : List ℕ → List ℕ
after_text [] = []
after_text (b ∷ bytes) = if b == 13 || b == 10 then b ∷ bytes else after_text bytes

-- what follows the line's end that begins here
abbrev pub after_line_end : List ℕ → Result (List ℕ) Fault
after_line_end [] = Err Incomplete
after_line_end (b ∷ []) = if b == 13 then Err Incomplete else Err Malformed
after_line_end (b ∷ c ∷ rest) = if b == 13 && c == 10 then Ok rest else Err Malformed

abbrev pub or_malformed : {A : Type 0} → Option A → Result A Fault
or_malformed None = Err Malformed
or_malformed (Some x) = Ok x

-- whether the bytes end before the first digit of a number
abbrev pub is_before_digits : List ℕ → List ℕ → Bool
is_before_digits text after =
    length after == 0 && (length text == 0 || (bytes_eq text (codes "-") || bytes_eq text (codes "+")))

abbrev pub is_before_length : List ℕ → List ℕ → Bool
is_before_length text after = length after == 0 && (length text == 0 || bytes_eq text (codes "-"))

-- the number of a line, by its text and what follows the text
unfoldable pub int_at : List ℕ → List ℕ → Result (ℤ × List ℕ) Fault
int_at text after =
    if is_before_digits text after then Err Incomplete
    else (or_malformed (int_in text) >>= λ n. after_line_end after >>= λ rest. Ok (n, rest))

-- the length in a line, by its text and what follows the text; `None` for -1
unfoldable pub length_at : List ℕ → List ℕ → Result (Option ℕ × List ℕ) Fault
length_at text after =
    if bytes_eq text (codes "-1") then (after_line_end after >>= λ rest. Ok (None, rest))
    else (if is_before_length text after then Err Incomplete
    else (or_malformed (length_in text) >>= λ n. after_line_end after >>= λ rest. Ok (Some n, rest)))

-- ---- an answer

abbrev pub nothing_at : List ℕ → Result (Answer × List ℕ) Fault
nothing_at rest = Ok (Ok nil, rest)

-- a bulk string of this length, or nil for `None`
unfoldable pub bytes_at : Option ℕ → List ℕ → Result (Answer × List ℕ) Fault
bytes_at None rest = nothing_at rest
bytes_at (Some n) rest =
    if nat_lt (length rest) n then Err Incomplete
    else (after_line_end (drop n rest) >>= λ after. Ok (Ok (bulk (take n rest)), after))

-- an answer that is no array, by its mark, the text of its first line, and what follows the text
unfoldable pub flat_at : ℕ → List ℕ → List ℕ → Result (Answer × List ℕ) Fault
flat_at mark text after =
    if mark == 36 then (length_at text after >>= λ x. bytes_at x.0 x.1)
    else (if mark == 58 then (int_at text after >>= λ x. Ok (Ok (int x.0), x.1))
    else (if mark == 43 then (after_line_end after >>= λ rest. Ok (Ok (simple_of text), rest))
    else (if mark == 45 then (after_line_end after >>= λ rest. Ok (Err text, rest))
    else Err Malformed)))

abbrev pub Items : Type 0
Items = Result (List Reply) (List ℕ)

-- n answers, one after another
unfoldable pub times_at : (List ℕ → Result (Answer × List ℕ) Fault) → ℕ → List ℕ
    → Result (Items × List ℕ) Fault
times_at read zero bytes = Ok (Ok [], bytes)
times_at read (suc n) bytes = read bytes >>= λ first.
    times_at read n first.1 >>= λ others. Ok (answer_before first.0 others.0, others.1)

-- an array of n items, or nil for `None`
unfoldable pub array_items_at : (ℕ → List ℕ → Result (Items × List ℕ) Fault) → Option ℕ → List ℕ
    → Result (Answer × List ℕ) Fault
array_items_at items None rest = nothing_at rest
array_items_at items (Some n) rest = items n rest >>= λ x. Ok (array_of_all x.0, x.1)

-- an array, from the byte after its mark on
unfoldable pub array_at : (ℕ → List ℕ → Result (Items × List ℕ) Fault) → List ℕ
    → Result (Answer × List ℕ) Fault
array_at items bytes = length_at (text_until_line_end bytes) (after_text bytes) >>= λ x. array_items_at items x.0 x.1

unfoldable pub front_at : (List ℕ → Result (Answer × List ℕ) Fault) → List ℕ
    → Result (Answer × List ℕ) Fault
front_at nested [] = Err Incomplete
front_at nested (mark ∷ bytes) =
    if mark == 42 then nested bytes else flat_at mark (text_until_line_end bytes) (after_text bytes)

-- the answer at the front, with arrays nested at most `levels` deep, and what follows it
unfoldable pub answer_at : ℕ → List ℕ → Result (Answer × List ℕ) Fault
answer_at zero bytes = front_at (λ rest. Err TooDeep) bytes
answer_at (suc levels) bytes = front_at (array_at (times_at (answer_at levels))) bytes

-- ---- faults

-- some more bytes complete these to a whole answer
abbrev pub CanBeCompleted : List ℕ → Type 0
CanBeCompleted bytes = (more : List ℕ) × (a : Answer) × IsForm MAX_LEVELS a (bytes ++ more)

-- no whole answer stands at the front
abbrev pub HasNoAnswer : List ℕ → Type 0
HasNoAnswer bytes = (a : Answer) (form rest : List ℕ) → IsForm MAX_LEVELS a form
    → bytes ≡ form ++ rest → ⊥

-- whatever follows these bytes, no answer stands at the front
abbrev pub BeginsNone : List ℕ → Type 0
BeginsNone bytes = (more : List ℕ) → HasNoAnswer (bytes ++ more)

-- With arrays nested at most so deep, an answer stands at the front of these bytes and some more.
abbrev pub BeginsOne : ℕ → List ℕ → Type 0
BeginsOne levels bytes = (more : List ℕ) × (a : Answer) × (form : List ℕ) × (rest : List ℕ)
    × (bytes ++ more ≡ form ++ rest) × IsForm levels a form

-- The byte at this index is the first that no answer can have there.
abbrev pub IsFirstWrong : List ℕ → ℕ → Type 0
IsFirstWrong bytes index = (index < length bytes) × CanBeCompleted (take index bytes)
    × BeginsNone (take (index + 1) bytes)

-- What a fault says of the bytes. Up to the first wrong byte, and with it, malformed bytes begin no
-- answer of any depth, and bytes that are too deep begin a deeper one.
abbrev pub Says : Fault → List ℕ → Type 0
Says Incomplete bytes = HasNoAnswer bytes × CanBeCompleted bytes
Says Malformed bytes = (index : ℕ) × IsFirstWrong bytes index
    × ((levels : ℕ) → BeginsOne levels (take (index + 1) bytes) → ⊥)
Says TooDeep bytes = (index : ℕ) × IsFirstWrong bytes index
    × (levels : ℕ) × BeginsOne levels (take (index + 1) bytes)

-- why nothing was read
abbrev pub Cause : List ℕ → ReadError → Type 0
Cause bytes errors.Memory = Unit {0}
Cause bytes (errors.Fault fault) = Says fault bytes
