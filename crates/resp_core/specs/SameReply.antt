-- Whether two replies are equal, by cases.
use Rattle.std.specs.Prelude.{Bool, true, false, ◌&&◌, nat_eq}
use Rattle.std.specs.Ordering.{int_eq}
use Rattle.std.specs.Cmp.Lexicographic.{pointwise}
use Rattle.resp_core.specs.Reply.{Reply, Replies, Pairs, nil, int, bulk, array, simple, okay, pairs, no_replies, reply, no_pairs, pair}

abbrev mutual
  pub same_reply : Reply → Reply → Bool
  same_reply nil nil = true
  same_reply (int m) (int n) = int_eq m n
  same_reply (bulk a) (bulk b) = pointwise nat_eq a b
  same_reply (array a) (array b) = same_replies a b
  same_reply (simple a) (simple b) = pointwise nat_eq a b
  same_reply okay okay = true
  same_reply (pairs a) (pairs b) = same_pairs a b
  same_reply a b = false

  pub same_replies : Replies → Replies → Bool
  same_replies no_replies no_replies = true
  same_replies (reply a rest) (reply b others) = same_reply a b && same_replies rest others
  same_replies a b = false

  pub same_pairs : Pairs → Pairs → Bool
  same_pairs no_pairs no_pairs = true
  same_pairs (pair k v ps) (pair l w qs) = same_reply k l && same_reply v w && same_pairs ps qs
  same_pairs a b = false
