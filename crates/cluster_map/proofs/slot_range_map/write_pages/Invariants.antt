use Rattle.std.proofs.Common.{◌≤◌, ◌<◌, ◌*◌, ◌^◌, ℕ, get_or}
use Rattle.cluster_map.proofs.Places.{below}
use Rattle.cluster_map.proofs.slot_range_map.write_pages.Given as goal

-- the numbers so far are those of pages, and the next page begins at the first slot or after it
abbrev pub invariant-loop-page : goal.invariant-loop-page
invariant-loop-page l = record {
  numbers : (page d : ℕ) → page < l.page → get_or l.numbers page d ≤ below (page * 2 ^ l.page_bits) l.ends;
  known : l.known ≤ below l.first l.ends;
  first : l.first ≤ l.page * 2 ^ l.page_bits;
  fits : l.first < 65536;
}
