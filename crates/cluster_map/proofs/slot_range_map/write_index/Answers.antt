use Rattle.std.proofs.Common.{◌≡◌, ◌++◌, length, take, drop, ap, ◌∙◌, arith}
use Rattle.std.proofs.lemmas.List.{length-append}
use Rattle.std.proofs.Math.Seq.{take-append_seam}
use Rattle.cluster_map.proofs.Places.{ends_seen_rise}
use Rattle.cluster_map.proofs.Pages.{IsIndex-written}
use Rattle.cluster_map.proofs.slot_range_map.write_index.Goals as goal

pub returns-clause-written : goal.returns-clause-written
returns-clause-written g c =
    let ends = c.write_ends.new.ends in
    let numbers = c.write_pages.new.numbers in
    let whole = length-append ends numbers in
    let size : c.resize.new.self.len ≡ length (ends ++ numbers) = omega arith in
    let written = ap (λ n. take n ((ends ++ numbers) ++ drop (length (ends ++ numbers)) c.resize.new.self.items)) size ∙ take-append_seam (ends ++ numbers) (drop (length (ends ++ numbers)) c.resize.new.self.items) in
    let same = c.write_ends.ensures in
    IsIndex-written c.args.ranges.now ends numbers _ c.args.page_bits same (rw (← same) c.write_pages.ensures) c.requires.bits written

pub write_pages-requires-clause-rises : goal.write_pages-requires-clause-rises
write_pages-requires-clause-rises g c = ends_seen_rise c.args.ranges.now _ c.requires.ascends c.write_ends.ensures
