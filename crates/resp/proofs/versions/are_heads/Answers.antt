use Rattle.std.proofs.Common.{◌<◌, length, sym, subst, arith}
use Rattle.resp.specs.Versions.{IsVersion2}
use Rattle.resp.proofs.VersionHeads.{head_on, no_heads}
use Rattle.resp.proofs.versions.are_heads.Goals as goal

pub loop-at-preserved : goal.loop-at-preserved
loop-at-preserved c =
    let e = c.in-Some.ensures in
    let on = head_on c.args.bytes.now c.split_at.result.1.now c.loop-at.at c.in-Some.len c.split_at.ensures.back e.found e.some e.within e.only c.loop-at.invariant.1 in
    (omega (arith, c.split_at.ensures.back_len, e.within), on)

pub returns-in-None : goal.returns-in-None
returns-in-None c =
    let some : 0 < length c.split_at.result.1.now = omega (arith, c.split_at.ensures.back_len, c.loop-at-test.true) in
    let none = no_heads c.split_at.result.1.now some c.in-None.ensures.only in (
      λ h. absurd (cc),
      λ h. absurd (none (subst IsVersion2 (sym c.split_at.ensures.back) (c.loop-at.invariant.1.0 h))),
    )
