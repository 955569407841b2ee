-- What a reply to CLUSTER SLOTS says (Redis documentation, "CLUSTER SLOTS").
--
-- The reply is an array with an item for each range of slots. An item is an array: the first slot,
-- the last slot, and then the nodes, the primary first. A node is an array: its host, its port, and
-- more that is not read.
use Rattle.std.specs.Prelude.{ℕ, ℤ, pos, negsuc, nat_lt, Bool, ◌||◌, if◌then◌else◌, List, [], ◌∷◌, filter_map, Option, Some, None, option_and_then, unwrap_or, bytes_eq, codes, encode_utf8_all}
use Rattle.std.specs.Option.{option_map_or}
use Rattle.bstr.specs.Utf8.{lossy_chars}
use Rattle.resp_core.specs.Reply.{Reply, nil, bulk, int_of, array_of}
use Rattle.cluster_slots.specs.Address.{Address}
use Rattle.cluster_map.specs.SlotNodes.{RangeNodes}

-- a number of 0 to 65535
abbrev pub within_u16 : ℤ → Option ℕ
within_u16 (pos n) = if nat_lt n 65536 then Some n else None
within_u16 (negsuc n) = None

-- a slot or a port
abbrev pub u16_of : Reply → Option ℕ
u16_of reply = option_and_then within_u16 (int_of reply)

-- the bytes of a host; none for nil
abbrev pub host_bytes : Reply → Option (List ℕ)
host_bytes nil = Some []
host_bytes (bulk bytes) = Some bytes
host_bytes reply = None

-- the text of bytes, with U+FFFD for those that are not UTF-8
abbrev pub text_of : List ℕ → List ℕ
text_of bytes = encode_utf8_all (lossy_chars bytes)

-- whether the text names no host, so that the name of the node that answered replaces it
abbrev pub is_unspecified : List ℕ → Bool
is_unspecified text =
    bytes_eq text (codes "") || (bytes_eq text (codes "0.0.0.0") || bytes_eq text (codes "::"))

-- whether the text is what a node writes for a host that it does not know
abbrev pub is_unknown : List ℕ → Bool
is_unknown text = bytes_eq text (codes "?")

-- a name, unless it is empty
abbrev pub given_name : List ℕ → Option (List ℕ)
given_name [] = None
given_name (b ∷ bs) = Some (b ∷ bs)

-- the host that a text stands for, in a reply of the node `answering`
abbrev pub host_for : List ℕ → List ℕ → Option (List ℕ)
host_for answering text =
    if is_unspecified text then given_name answering else (if is_unknown text then None
    else Some text)

-- the address, if there is a host and a port
abbrev pub address_from : Option (List ℕ) → Option ℕ → Option Address
address_from (Some host) (Some port) = Some (record { host = host; port = port })
address_from host port = None

-- the address in the elements of a node: the host, the port and others
abbrev pub address_in : List ℕ → List Reply → Option Address
address_in answering (host ∷ port ∷ more) =
    address_from (option_and_then (λ bytes. host_for answering (text_of bytes)) (host_bytes host))
    (u16_of port)
address_in answering elements = None

-- the address of a node, if it can be used
abbrev pub node_in : List ℕ → Reply → Option Address
node_in answering reply = option_and_then (address_in answering) (array_of reply)

-- the range, if it has both ends and a node; the first node is the primary
abbrev pub range_from : Option ℕ → Option ℕ → List Address → Option RangeNodes
range_from (Some start) (Some end) (primary ∷ replicas) =
    Some (record { start = start; end = end; master = primary; replicas = replicas })
range_from start end nodes = None

-- the range in the elements of an item: the first slot, the last slot and the nodes
abbrev pub range_in : List ℕ → List Reply → Option RangeNodes
range_in answering (start ∷ end ∷ nodes) =
    range_from (u16_of start) (u16_of end) (filter_map (node_in answering) nodes)
range_in answering elements = None

-- the elements of each item before the first that is not an array
abbrev pub leading_arrays : List Reply → List (List Reply)
leading_arrays [] = []
leading_arrays (item ∷ items) =
    option_map_or (λ elements. elements ∷ leading_arrays items) (array_of item) []

-- the ranges of a reply, in order
abbrev pub ranges_in : List ℕ → Reply → List RangeNodes
ranges_in answering reply =
    filter_map (range_in answering) (leading_arrays (unwrap_or (array_of reply) []))
