-- Messages of the Redis serialization protocol, version 2 or 3, as lists of heads. Streamed types,
-- such as `$?`, are left out. A head is a line, with the bytes that a bulk string has after it. It
-- announces how many items follow it, and each item begins with a head of its own. So `*1`, `$2`
-- with "hi" are two heads, and one message.
use Rattle.std.specs.Prelude.{◌≡◌, ◌≢◌, ◌+◌, ◌-◌, ◌*◌, ◌<◌, ◌≤◌, ◌^◌, ◌⊎◌, ◌==◌, ℕ, Bool, if◌then◌else◌, List, [], ◌∷◌, ◌++◌, length, drop, codes, bytes_eq, Option, Some, None, Result, Ok, Err}
use Rattle.std.specs.List.{AllByRecursion, list_any}
use Rattle.std.specs.Option.{unwrap_or}
use Rattle.resp.specs.declared.fault.Fault.{Fault}
use Rattle.resp.specs.declared.fault.Fault.TheVariants.{Incomplete, Malformed, TooDeep}
use Rattle.resp.specs.declared.heads.Kind.{Kind}
use Rattle.resp.specs.declared.heads.Kind.TheVariants.{Simple, Bulk, Array, Map, Attribute}
use Rattle.resp.specs.declared.scanning.Progress.{Progress}
use Rattle.resp.specs.Forms.{crlf, line, length_in, IsInLine}
use Rattle.resp.specs.Reading.{◌>>=◌, or_malformed, text_until_line_end, after_text, after_line_end, length_at, bytes_at}

abbrev is_one_of : List ℕ → ℕ → Bool
is_one_of marks mark = list_any (λ b. b == mark) marks

-- what a mark begins
unfoldable pub kind_of : ℕ → Option Kind
kind_of mark =
    if is_one_of (codes "+-:,#_(") mark then Some Simple
    else (if is_one_of (codes "$!=") mark then Some Bulk
    else (if is_one_of (codes "*~>") mark then Some Array
    else (if mark == 37 then Some Map
    else (if mark == 124 then Some Attribute
    else None))))

-- the number that a line announces: 5 for "5", and 0 for "-1"
abbrev pub announced : List ℕ → Option ℕ
announced text = if bytes_eq text (codes "-1") then Some 0 else length_in text

-- "-1", and a length with so many bytes after the line
abbrev pub IsBulk : List ℕ → List ℕ → Type 0
IsBulk text body = ((text ≡ codes "-1") × (body ≡ []))
    ⊎ ((bytes : List ℕ) × (length_in text ≡ Some (length bytes)) × (body ≡ bytes ++ crlf))

-- A line with this text and these bytes after it announces so many items. Pairs are two items each.
-- The reply that attributes belong to is one item more.
abbrev pub Announces : Kind → List ℕ → List ℕ → ℕ → Type 0
Announces Simple text body items = (body ≡ []) × (items ≡ 0)
Announces Bulk text body items = IsBulk text body × (items ≡ 0)
Announces Array text body items = (body ≡ []) × (announced text ≡ Some items)
Announces Map text body items = (body ≡ []) × (pairs : ℕ) × (announced text ≡ Some pairs)
    × (items ≡ 2 * pairs)
Announces Attribute text body items = (body ≡ []) × (pairs : ℕ) × (announced text ≡ Some pairs)
    × (items ≡ 2 * pairs + 1)

-- The bytes are a head that announces so many items.
abbrev pub IsHead : ℕ → List ℕ → Type 0
IsHead items head = (mark : ℕ) × (text : List ℕ) × (body : List ℕ) × (kind : Kind)
    × (head ≡ line mark text ++ body) × AllByRecursion IsInLine text
    × (kind_of mark ≡ Some kind) × Announces kind text body items

-- The bytes are heads, each of which announces one number of the list. Before them `wanted` items
-- are wanted, and after them `left`: a head is one of these items, and those that it announces are
-- wanted too. The heads `%1`, `+a`, `:5` announce 2, 0 and 0. One item is wanted before the first
-- head, then 2, 1 and 0.
abbrev pub AreHeads : ℕ → List ℕ → ℕ → List ℕ → Type 0
AreHeads wanted [] left bytes = (left ≡ wanted) × (bytes ≡ [])
AreHeads wanted (items ∷ more) left bytes = (head : List ℕ) × (rest : List ℕ)
    × (bytes ≡ head ++ rest) × IsHead items head × (0 < wanted)
    × AreHeads (wanted - 1 + items) more left rest

-- A message is one item, with all items that its heads announce.
abbrev pub IsMessage : List ℕ → Type 0
IsMessage message = (items : List ℕ) × AreHeads 1 items 0 message

-- ---- a scan

-- The count of items is right. A sum past 64 bits is counted as 2 ^ 64 - 1: no bytes in memory have
-- so many items.
abbrev pub Counts : ℕ → ℕ → ℕ → Type 0
Counts counted bytes items = (counted ≤ items) × (counted < items → 2 ^ 64 - 1 ≤ counted + bytes)

-- the progress of a new message
abbrev pub unscanned : Progress
unscanned = record { bytes = 0; searched = 0; after = 0 }

-- The bytes are the mark of a length with nothing but zeros, or they begin a simple line.
abbrev pub IsSearched : List ℕ → Type 0
IsSearched [] = Unit {0}
IsSearched (mark ∷ text) = kind_of mark ≢ Some Simple → AllByRecursion (λ b. b ≡ 48) text

unfoldable pub leading_zeros : List ℕ → ℕ
leading_zeros [] = 0
leading_zeros (b ∷ text) = if b == 48 then leading_zeros text + 1 else 0

-- So many bytes of a head are known, by its line so far. Of a simple line they are all bytes. Of a
-- length they are its mark and the leading zeros.
abbrev pub IsKnown : List ℕ → ℕ → Type 0
IsKnown [] known = known ≡ 0
IsKnown (mark ∷ text) known = (kind_of mark ≡ Some Simple → known ≡ length text + 1)
    × (kind_of mark ≢ Some Simple → known ≡ leading_zeros text + 1)

-- The progress is right for these bytes.
pub record IsScanned (progress : Progress) (bytes : List ℕ) : Type 0 where
  pub items : List ℕ
  pub front : List ℕ
  pub text : List ℕ
  pub rest : List ℕ
  pub after : ℕ
  pub bytes_are : bytes ≡ front ++ (text ++ rest)
  -- Whole heads stand at the front. One item is wanted next, and `after` more.
  pub heads : AreHeads 1 items (after + 1) front
  pub bytes_is : length front ≡ progress.bytes
  pub after_is : Counts progress.after progress.bytes after
  -- No line ends in the bytes that were searched. In the line of a length they are its leading zeros.
  pub searched_is : length text ≡ progress.searched
  pub one_line : AllByRecursion IsInLine text
  pub zeros : IsSearched text

-- no whole message stands at the front
abbrev pub HasNoMessage : List ℕ → Type 0
HasNoMessage bytes = (message rest : List ℕ) → IsMessage message → bytes ≡ message ++ rest → ⊥

-- some more bytes complete these to a whole message
abbrev pub CanBeMessage : List ℕ → Type 0
CanBeMessage bytes = (more : List ℕ) × IsMessage (bytes ++ more)

-- whatever follows these bytes, no message stands at the front
abbrev pub BeginsNoMessage : List ℕ → Type 0
BeginsNoMessage bytes = (more : List ℕ) → HasNoMessage (bytes ++ more)

-- Why no message was found. Items may be nested to any depth.
abbrev pub MessageCause : List ℕ → Fault → Type 0
MessageCause bytes Incomplete = HasNoMessage bytes × CanBeMessage bytes
MessageCause bytes Malformed = BeginsNoMessage bytes
MessageCause bytes TooDeep = ⊥

-- ---- reading one head

-- the length in a line whose text is known to begin with n zeros
unfoldable pub length_from : ℕ → List ℕ → List ℕ → Result (Option ℕ × List ℕ) Fault
length_from n text after =
    if n == 0 then length_at text after
    else (or_malformed (if length (drop n text) == 0 then Some 0 else length_in (drop n text))
    >>= λ k. after_line_end after >>= λ rest. Ok (Some k, rest))

-- the head of a kind, by the text of its line, which is known to begin with n zeros, and what
-- follows the text: how many items it announces, and what follows it
unfoldable pub announced_at : ℕ → Kind → List ℕ → List ℕ → Result (ℕ × List ℕ) Fault
announced_at n Simple text after = after_line_end after >>= λ rest. Ok (0, rest)
announced_at n Bulk text after =
    (length_from n text after >>= λ x. bytes_at x.0 x.1) >>= λ y. Ok (0, y.1)
announced_at n Array text after =
    length_from n text after >>= λ x. Ok (unwrap_or x.0 0, x.1)
announced_at n Map text after =
    length_from n text after >>= λ x. Ok (2 * unwrap_or x.0 0, x.1)
announced_at n Attribute text after =
    length_from n text after >>= λ x. Ok (2 * unwrap_or x.0 0 + 1, x.1)

-- the head at the front
unfoldable pub head_at : List ℕ → Result (ℕ × List ℕ) Fault
head_at [] = Err Incomplete
head_at (mark ∷ bytes) = or_malformed (kind_of mark)
    >>= λ kind. announced_at 0 kind (text_until_line_end bytes) (after_text bytes)

-- the head by its line, from its mark on, of which so many bytes were searched, and what follows the
-- line's text
unfoldable pub head_of : ℕ → List ℕ → List ℕ → Result (ℕ × List ℕ) Fault
head_of searched [] [] = Err Incomplete
head_of searched [] (b ∷ after) = Err Malformed
head_of searched (mark ∷ text) after =
    or_malformed (kind_of mark) >>= λ kind. announced_at (searched - 1) kind text after
