use Rattle.std.proofs.Common.{rules, ◌≡◌, ◌<◌, length, get_or, arith}
use Rattle.std.proofs.lemmas.Bool.Decides.{nat_tests}
use Rattle.cluster_map.proofs.Pages.{page_known}
use Rattle.cluster_map.proofs.slot_range_map.place_by_pages.Goals.{in-Some, in-None}
use Rattle.cluster_map.proofs.slot_range_map.place_by_pages.Goals as goal

pub place_from-requires-clause-known : goal.place_from-requires-clause-known
place_from-requires-clause-known c =
    let ends = c.args.ends.now in
    let numbers = c.args.pages.now in
    let pages = c.requires.pages in
    elim c.match-get.branch [
      | in-Some w ↦
          let within : c.from.result < length numbers = grind (arith, nat_tests) in
          let value : w.in-Some.number.now ≡ get_or numbers c.from.result w.in-Some.number.now = search rules in
          let known = page_known c.args.page_bits c.args.end w.in-Some.number.now numbers ends pages (rw (← c.from.ensures) within) in
          rw (w.known-is, w.from-known.ensures, value, c.from.ensures) known
      | in-None w ↦ rw w.known-is (omega arith)
    ]
