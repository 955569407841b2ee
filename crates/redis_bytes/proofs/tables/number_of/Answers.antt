use Rattle.std.proofs.Common.{◌≡◌, length, slice_get, sym, rules, arith}
use Rattle.std.proofs.lemmas.Grind.{common_steps}
use Rattle.redis_bytes.proofs.Numbers.{last_there, placed_more}
use Rattle.redis_bytes.proofs.tables.number_of.Goals as goal

pub returns-in-Some-clause-found : goal.returns-in-Some-clause-found
returns-in-Some-clause-found c = (c.requires.placed c.args.node c.in-Some.number.now).0 (sym c.in-Some.ensures.value)

pub returns-clause-found : goal.returns-clause-found
returns-clause-found c = grind (arith, common_steps, slice_get, last_there)

pub returns-clause-placed : goal.returns-clause-placed
returns-clause-placed c =
    let len : c.len-number.result ≡ length c.args.nodes.now.items = search rules in
    placed_more c.args.nodes.now.items c.push.new.self.items c.args.node c.args.places.now c.insert.new.self c.len-number.result c.in_ok-push.ensures.items len c.in_ok-insert.ensures.updates (sym c.in_default.ensures.value) c.requires.placed
