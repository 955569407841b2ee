use Rattle.std.proofs.Common.{nat_lt, refl, rules, subst, tests}
use Rattle.std.proofs.lemmas.Map.Made.{filter_same_pairs}
use Rattle.redis_session.specs.Table.{IsUsable}
use Rattle.redis_session.proofs.NodeTables.{later_stay, counted_later}
use Rattle.redis_session.proofs.table.SlotTable.fill.Goals as goal

pub returns-clause-learns : goal.returns-clause-learns
returns-clause-learns c = λ _.
    let said = c.in-Ok.ensures.entries in
    let asked = c.args.asked in
    let later = filter_same_pairs _ (λ e. nat_lt asked e.1.count) _ (λ k v b w f t. search (rules, tests)) c.self.inside.moved.entries c.retain.new.self.entries c.retain.ensures.filtered in
    rw (← c.self.view_is) (record {
      said = said.0;
      said_is = said.1;
      usable = subst IsUsable said.2 (search rules);
      learns = record {
        map = said.2;
        moved = later_stay asked c.self.inside.moved c.retain.new.self c.retain.ensures.was_ordered later;
        count = refl;
      };
    })

pub invariant_of-self : goal.invariant_of-self
invariant_of-self c =
    let asked = c.args.asked in
    let later = filter_same_pairs _ (λ e. nat_lt asked e.1.count) _ (λ k v b w f t. search (rules, tests)) c.self.inside.moved.entries c.retain.new.self.entries c.retain.ensures.filtered in
    counted_later asked c.self.inside.count c.self.inside.moved.entries c.retain.new.self.entries
    (later_stay asked c.self.inside.moved c.retain.new.self c.retain.ensures.was_ordered later) c.self.invariant
