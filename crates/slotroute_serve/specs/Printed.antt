-- What is printed of a command that was run.
use Rattle.std.specs.Prelude.{ℕ, List, [], ◌∷◌, ◌++◌, codes}
use Rattle.std.specs.Fmt.{signed_decimal}
use Rattle.std.specs.List.{flat_map}
use Rattle.cluster_map.specs.Address.{display_text}
use Rattle.redis_bytes.specs.NameLines.{space}
use Rattle.redis_bytes.specs.Table.{line_feed}
use Rattle.redis_cluster.specs.Trace.{Entry}
use Rattle.resp_core.specs.Reply.{Reply, Replies, nil, int, bulk, array, simple, okay, pairs, no_replies, reply}

-- a part that was sent: the node, and the words, each after one space
abbrev pub send_line : Entry → List ℕ
send_line e = display_text e.node ++ flat_map (λ word. space ∷ word) e.args ++ line_feed ∷ []

abbrev mutual
  -- a reply of a multi-key command; other replies print as nothing
  pub printed : Reply → List ℕ
  printed okay = codes "OK"
  printed (int number) = signed_decimal number
  printed nil = codes "nil"
  printed (bulk bytes) = bytes
  printed (array items) = codes "[" ++ printed_items items ++ codes "]"
  printed (simple text) = []
  printed (pairs items) = []

  -- replies with a comma and a space between them
  pub printed_items : Replies → List ℕ
  printed_items no_replies = []
  printed_items (reply first rest) = printed first ++ printed_later rest

  pub printed_later : Replies → List ℕ
  printed_later no_replies = []
  printed_later (reply next rest) = codes ", " ++ printed next ++ printed_later rest

-- a line for each part that was sent, in order, and one for the reply
abbrev pub command_lines : List Entry → Reply → List ℕ
command_lines sent answer = flat_map send_line sent ++ printed answer ++ line_feed ∷ []
