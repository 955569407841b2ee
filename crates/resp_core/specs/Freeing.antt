-- How many steps are left in freeing a reply. On the way down, what is above replaces the first
-- element of each array or map.
use Rattle.std.specs.Prelude.{ℕ, ◌+◌}
use Rattle.resp_core.specs.Reply.{Reply, Replies, Pairs, nil, int, bulk, array, simple, okay, pairs, no_replies, reply, no_pairs, pair}

abbrev mutual
  -- the steps for a reply that is still to be entered
  pub steps_in : Reply → ℕ
  steps_in nil = 1
  steps_in (int n) = 1
  steps_in (bulk bytes) = 1
  steps_in (array items) = 2 + steps_in_items items
  steps_in (simple text) = 1
  steps_in okay = 1
  steps_in (pairs items) = 2 + steps_in_pairs items

  pub steps_in_items : Replies → ℕ
  steps_in_items no_replies = 0
  steps_in_items (reply r rs) = steps_in r + steps_in_items rs

  pub steps_in_pairs : Pairs → ℕ
  steps_in_pairs no_pairs = 0
  steps_in_pairs (pair k v ps) = steps_in k + steps_in_value v + steps_in_pairs ps

  -- the steps for a pair's value: none for nil, which replaces a value that was taken out
  pub steps_in_value : Reply → ℕ
  steps_in_value nil = 0
  steps_in_value (int n) = 1
  steps_in_value (bulk bytes) = 1
  steps_in_value (array items) = 2 + steps_in_items items
  steps_in_value (simple text) = 1
  steps_in_value okay = 1
  steps_in_value (pairs items) = 2 + steps_in_pairs items

-- the steps for what is above
abbrev pub steps_above : Reply → ℕ
steps_above nil = 0
steps_above (int n) = 0
steps_above (bulk bytes) = 0
steps_above (array no_replies) = 0
steps_above (array (reply above rs)) = 1 + steps_above above + steps_in_items rs
steps_above (simple text) = 0
steps_above okay = 0
steps_above (pairs no_pairs) = 0
steps_above (pairs (pair above v ps)) = 1 + steps_above above + steps_in_value v + steps_in_pairs ps
