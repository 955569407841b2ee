-- The bytes of replies and requests (Redis serialization protocol, version 2).
use Rattle.std.specs.Prelude.{◌≡◌, ◌+◌, ◌<◌, ◌^◌, ◌≢◌, ◌⊎◌, ◌==◌, max, ℕ, ℤ, zero, suc, pos, negsuc, ◌&&◌, if◌then◌else◌, nat_lt, List, [], ◌∷◌, ◌++◌, length, codes, decimal, bytes_eq, map, Vec, Option, Some, None, Result, Ok, Err}
use Rattle.std.specs.Global.{Global}
use Rattle.std.specs.Fmt.{signed_decimal}
use Rattle.std.specs.List.{flat_map, AllByRecursion}
use Rattle.std.specs.Str.{IsUtf8, is_utf8, all_ascii_digits}
use Rattle.std.specs.Str.Parse.{digits_value}
use Rattle.resp_core.specs.Reply.{Reply, Replies, nil, int, bulk, array, simple, okay, pairs, no_replies, reply, replies_of}
use Rattle.resp_core.specs.View.{view}
use Rattle.resp.specs.declared.response.Response.{Response}
use Rattle.resp.specs.declared.response.Response.TheVariants as response
use Rattle.resp_core.specs.declared.value.Value.{Value}

-- ---- lines

-- the end of a line
abbrev pub crlf : List ℕ
crlf = 13 ∷ 10 ∷ []

-- a line: a mark, a text, and the end
abbrev pub line : ℕ → List ℕ → List ℕ
line mark text = mark ∷ (text ++ crlf)

-- a byte that the text of a line may have: neither of the two that end lines
abbrev pub IsInLine : ℕ → Type 0
IsInLine b = (b ≢ 13) × (b ≢ 10)

-- ---- numbers

-- the number that one or more digits write, if it is below a limit: of "007", 7
unfoldable pub number_up_to : ℕ → List ℕ → Option ℕ
number_up_to limit text =
    if nat_lt 0 (length text) && (all_ascii_digits text && nat_lt (digits_value 10 text) limit)
    then Some (digits_value 10 text)
    else None

abbrev pub not_below_zero : Option ℕ → Option ℤ
not_below_zero None = None
not_below_zero (Some n) = Some (pos n)

abbrev pub below_zero : Option ℕ → Option ℤ
below_zero None = None
below_zero (Some zero) = Some (pos 0)
below_zero (Some (suc n)) = Some (negsuc n)

-- the 64-bit number that a text writes, with or without a sign: -5 for "-5", 5 for "+5"
unfoldable pub int_in : List ℕ → Option ℤ
int_in [] = None
int_in (first ∷ more) =
    if first == 45 then below_zero (number_up_to (2 ^ 63 + 1) more)
    else (if first == 43 then not_below_zero (number_up_to (2 ^ 63) more)
    else not_below_zero (number_up_to (2 ^ 63) (first ∷ more)))

-- the length or the count that a text announces, without a sign: 5 for "5"
abbrev pub length_in : List ℕ → Option ℕ
length_in = number_up_to (2 ^ 63)

-- ---- what a server answers

-- a value, or the text of an error
abbrev pub Answer : Type 0
Answer = Result Reply (List ℕ)

abbrev pub answer : Response → Answer
answer (response.Value v) = Ok (view v)
answer (response.Error text) = Err text.items

-- an answer before others: the first error counts
abbrev pub answer_before : Answer → Result (List Reply) (List ℕ) → Result (List Reply) (List ℕ)
answer_before (Err text) others = Err text
answer_before (Ok r) (Ok rs) = Ok (r ∷ rs)
answer_before (Ok r) (Err text) = Err text

-- an answer after others: the first error counts
abbrev pub answer_after : Result (List Reply) (List ℕ) → Answer → Result (List Reply) (List ℕ)
answer_after (Err text) a = Err text
answer_after (Ok rs) (Ok r) = Ok (rs ++ r ∷ [])
answer_after (Ok rs) (Err text) = Err text

-- the replies that values stand for, or the text of an error
abbrev pub answers_in : Result (Vec Value Global) (Vec ℕ Global) → Result (List Reply) (List ℕ)
answers_in (Ok values) = Ok (map view values.items)
answers_in (Err text) = Err text.items

-- the replies of all answers, or the text of the first error
abbrev pub all_of : List Answer → Result (List Reply) (List ℕ)
all_of [] = Ok []
all_of (a ∷ answers) = answer_before a (all_of answers)

-- the array of the replies, or the error
abbrev pub array_of_all : Result (List Reply) (List ℕ) → Answer
array_of_all (Ok rs) = Ok (array (replies_of rs))
array_of_all (Err text) = Err text

-- the reply of a line with +: `okay` for "OK", and a bulk string if the text is not UTF-8
abbrev pub simple_of : List ℕ → Reply
simple_of text =
    if bytes_eq text (codes "OK") then okay
    else (if is_utf8 text then simple text else bulk text)

-- ---- the forms of an answer

-- a line and what follows it, by the mark of the line:
-- "+OK", "-ERR no", ":5", "$3" with "abc" and a line's end, "$-1"
abbrev pub IsUnnested : Answer → ℕ → List ℕ → List ℕ → Type 0
IsUnnested a mark text body =
    ((mark ≡ 43) × (body ≡ []) × (a ≡ Ok (simple_of text)))
    ⊎ ((mark ≡ 45) × (body ≡ []) × (a ≡ Err text))
    ⊎ ((mark ≡ 58) × (body ≡ []) × (n : ℤ) × (int_in text ≡ Some n) × (a ≡ Ok (int n)))
    ⊎ ((mark ≡ 36) × (body ≡ []) × (text ≡ codes "-1") × (a ≡ Ok nil))
    ⊎ ((mark ≡ 36) × (bytes : List ℕ) × (length_in text ≡ Some (length bytes))
    × (body ≡ bytes ++ crlf) × (a ≡ Ok (bulk bytes)))

-- the bytes are a form of each element, one after another
abbrev pub InOrder : {X : Type 0} → (X → List ℕ → Type 0) → List X → List ℕ → Type 0
InOrder Each [] bytes = bytes ≡ []
InOrder Each (x ∷ xs) bytes = (form : List ℕ) × (rest : List ℕ)
    × (bytes ≡ form ++ rest) × Each x form × InOrder Each xs rest

-- "*-1", and an array with its items
abbrev pub IsNested : (Answer → List ℕ → Type 0) → Answer → ℕ → List ℕ → List ℕ → Type 0
IsNested Each a mark text body =
    ((mark ≡ 42) × (body ≡ []) × (text ≡ codes "-1") × (a ≡ Ok nil))
    ⊎ ((mark ≡ 42) × (answers : List Answer) × (length_in text ≡ Some (length answers))
    × InOrder Each answers body × (a ≡ array_of_all (all_of answers)))

-- The bytes are a form of the answer, with lines of mark * nested at most `levels` deep.
unfoldable pub IsForm : ℕ → Answer → List ℕ → Type 0
IsForm zero a form = (mark : ℕ) × (text : List ℕ) × (body : List ℕ)
    × (form ≡ line mark text ++ body) × AllByRecursion IsInLine text × IsUnnested a mark text body
IsForm (suc levels) a form = (mark : ℕ) × (text : List ℕ) × (body : List ℕ)
    × (form ≡ line mark text ++ body) × AllByRecursion IsInLine text
    × (IsUnnested a mark text body ⊎ IsNested (IsForm levels) a mark text body)

-- ---- what is written

-- how many replies
abbrev pub count : Replies → ℕ
count no_replies = 0
count (reply r rs) = count rs + 1

-- the form of a bulk string
abbrev pub bulk_form : List ℕ → List ℕ
bulk_form bytes = line 36 (decimal (length bytes)) ++ (bytes ++ crlf)

abbrev mutual
  -- the form that `write` gives a reply; a map has none in version 2
  pub form : Reply → List ℕ
  form nil = line 36 (codes "-1")
  form (int n) = line 58 (signed_decimal n)
  form (bulk bytes) = bulk_form bytes
  form (array items) = line 42 (decimal (count items)) ++ forms items
  form (simple text) = line 43 text
  form okay = line 43 (codes "OK")
  form (pairs items) = []

  pub forms : Replies → List ℕ
  forms no_replies = []
  forms (reply r rs) = form r ++ forms rs

abbrev mutual
  -- how deep arrays are nested: 0 for a reply that is not an array
  pub depth : Reply → ℕ
  depth nil = 0
  depth (int n) = 0
  depth (bulk bytes) = 0
  depth (array items) = depth_items items + 1
  depth (simple text) = 0
  depth okay = 0
  depth (pairs items) = 0

  pub depth_items : Replies → ℕ
  depth_items no_replies = 0
  depth_items (reply r rs) = max (depth r) (depth_items rs)

-- a number of 64 bits with a sign
abbrev pub IsShort : ℤ → Type 0
IsShort (pos n) = n < 2 ^ 63
IsShort (negsuc n) = n < 2 ^ 63

abbrev mutual
  -- The reply has a form of its own: it holds no map, and each simple string is one line other than
  -- "OK". Each `Value` keeps the bounds on lengths and numbers, and has UTF-8 strings.
  pub HasForm : Reply → Type 0
  HasForm nil = Unit {0}
  HasForm (int n) = IsShort n
  HasForm (bulk bytes) = length bytes < 2 ^ 63
  HasForm (array items) = (count items < 2 ^ 63) × HaveForm items
  HasForm (simple text) = IsUtf8 text × AllByRecursion IsInLine text × (text ≢ codes "OK")
  HasForm okay = Unit {0}
  HasForm (pairs items) = ⊥

  pub HaveForm : Replies → Type 0
  HaveForm no_replies = Unit {0}
  HaveForm (reply r rs) = HasForm r × HaveForm rs

-- a bulk string or nil
abbrev pub IsBulkOrNil : Reply → Type 0
IsBulkOrNil nil = Unit {0}
IsBulkOrNil (bulk bytes) = length bytes < 2 ^ 63
IsBulkOrNil _ = ⊥

-- the forms of these replies stand in the bytes, one after another
abbrev pub StandIn : List ℕ → List Reply → Type 0
StandIn bytes replies = (front : List ℕ) × (rest : List ℕ)
    × (bytes ≡ front ++ (forms (replies_of replies) ++ rest))

-- ---- requests

-- a request: an array of bulk strings, with no sign or leading zero in its numbers
abbrev pub request : List (List ℕ) → List ℕ
request args = line 42 (decimal (length args)) ++ flat_map bulk_form args

-- The bytes are the request with these arguments. Each number has 63 bits.
abbrev pub IsRequest : List (List ℕ) → List ℕ → Type 0
IsRequest args form = (form ≡ request args) × (length args < 2 ^ 63)
    × AllByRecursion (λ arg. length arg < 2 ^ 63) args
