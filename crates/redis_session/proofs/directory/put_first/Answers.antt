use Rattle.std.proofs.Common.{◌≡◌, ◌++◌, ◌-◌, replicate, subst, take}
use Rattle.std.specs.Prelude.{if◌then◌else◌, is_ok}
use Rattle.redis_session.specs.Inner.SlotNumbers.{no_node}
use Rattle.redis_session.proofs.SlotNumbers.{sets_first}
use Rattle.redis_session.proofs.directory.put_first.Goals as goal

pub returns : goal.returns
returns c =
    let old = c.args.numbers.now in
    let mid = c.resize.new.self.items in
    sets_first 16384 (16384 - old.len) c.args.slot c.args.number old.items mid c.set_number.new.numbers.items c.requires
    (subst (λ r. mid ≡ (if is_ok r then take 16384 old.items ++ replicate (16384 - old.len) no_node else old.items)) c.in-Ok.is c.resize.ensures.items) c.set_number.ensures
