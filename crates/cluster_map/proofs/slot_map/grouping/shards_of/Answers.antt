use Rattle.std.proofs.Common.{◌∙◌, ◌<◌, ◌++◌, ◌∷◌, [], All, ap, subst, sym, append_assoc}
use Rattle.std.proofs.lemmas.List.{append-nil}
use Rattle.std.proofs.lemmas.List.Elements.{All-append, All-cons, All-nil}
use Rattle.cluster_map.specs.SlotNodes.{SlotNodes}
use Rattle.cluster_map.specs.RangeMap.{RangeEntry, end_of}
use Rattle.cluster_map.specs.Topology.{shards_of}
use Rattle.cluster_map.proofs.slot_map.grouping.shards_of.Goals as goal

abbrev Fits : RangeEntry SlotNodes → Type 0
Fits e = end_of e < 65536

pub loop-start-preserved : goal.loop-start-preserved
loop-start-preserved c =
    let done = c.loop-start.invariant.3.0 in
    let e : RangeEntry SlotNodes = (c.in-Some.start, c.in-Some.end, c.in-Some.addrs.now) in (
      tt,
      tt,
      c.in_ok-add_range.ensures.nodes,
      (
        done ++ e ∷ [],
        append_assoc done (e ∷ []) c.next.new.self ∙ ap (λ z. done ++ z) (sym c.in-Some.ensures.steps) ∙ c.loop-start.invariant.3.1,
        c.in_ok-add_range.ensures.shards done c.loop-start.invariant.3.2,
        All-append Fits done (e ∷ []) c.loop-start.invariant.3.3
            (All-cons Fits e [] c.add_range.ensures.end (All-nil Fits)),
      ),
    )

pub returns-clause-shards : goal.returns-clause-shards
returns-clause-shards c =
    let done = c.loop-start.invariant.3.0 in
    c.loop-start.invariant.3.2
    ∙ ap shards_of (sym (append-nil done) ∙ ap (λ z. done ++ z) (sym c.in-None.ensures.steps.0) ∙ c.loop-start.invariant.3.1)

pub returns-clause-ends : goal.returns-clause-ends
returns-clause-ends c =
    let done = c.loop-start.invariant.3.0 in
    subst (All Fits)
    (sym (append-nil done) ∙ ap (λ z. done ++ z) (sym c.in-None.ensures.steps.0) ∙ c.loop-start.invariant.3.1)
    c.loop-start.invariant.3.3
