-- A reply as a tree of plain data, which a `Value` stands for.
use Rattle.std.specs.Prelude.{ℕ, ℤ, List, [], ◌∷◌, Option, None, Some}

mutual
  pub data Reply : Type 0 where
    nil : Reply
    int : ℤ → Reply
    bulk : List ℕ → Reply
    array : Replies → Reply
    simple : List ℕ → Reply
    okay : Reply
    pairs : Pairs → Reply

  -- a list of replies
  pub data Replies : Type 0 where
    no_replies : Replies
    reply : Reply → Replies → Replies

  -- a list of pairs of replies
  pub data Pairs : Type 0 where
    no_pairs : Pairs
    pair : Reply → Reply → Pairs → Pairs

abbrev pub replies_of : List Reply → Replies
replies_of [] = no_replies
replies_of (r ∷ rs) = reply r (replies_of rs)

abbrev pub items_in : Replies → List Reply
items_in no_replies = []
items_in (reply r rs) = r ∷ items_in rs

abbrev pub pairs_of : List (Reply × Reply) → Pairs
pairs_of [] = no_pairs
pairs_of (p ∷ ps) = pair p.0 p.1 (pairs_of ps)

-- the number, if the reply is an integer
abbrev pub int_of : Reply → Option ℤ
int_of nil = None
int_of (int n) = Some n
int_of (bulk bytes) = None
int_of (array items) = None
int_of (simple text) = None
int_of okay = None
int_of (pairs items) = None

-- the bytes, if the reply is a bulk string
abbrev pub bulk_string_of : Reply → Option (List ℕ)
bulk_string_of nil = None
bulk_string_of (int n) = None
bulk_string_of (bulk bytes) = Some bytes
bulk_string_of (array items) = None
bulk_string_of (simple text) = None
bulk_string_of okay = None
bulk_string_of (pairs items) = None

-- the items, if the reply is an array
abbrev pub array_of : Reply → Option (List Reply)
array_of nil = None
array_of (int n) = None
array_of (bulk bytes) = None
array_of (array items) = Some (items_in items)
array_of (simple text) = None
array_of okay = None
array_of (pairs items) = None
