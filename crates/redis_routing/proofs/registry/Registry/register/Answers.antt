use Rattle.std.proofs.Common.{◌≡◌, ◌∙◌, ap, false, None, rules}
use Rattle.std.specs.Prelude.{is_some}
use Rattle.redis_routing.specs.Lookup.{lookup_name}
use Rattle.redis_routing.specs.Registry.{is_bad_name, is_bad_policy}
use Rattle.redis_routing.specs.RouteBy.{base_routing}
use Rattle.redis_routing.proofs.Registrations.{found_row, lookup-insert_entry, registrable-insert_entry, may_register, none_from, one_more}
use Rattle.redis_routing.proofs.registry.Registry.register.Goals as goal

pub invariant_of-self-2 : goal.invariant_of-self-2
invariant_of-self-2 c =
    let name = c.in_ok-name.name.items in
    let good : is_bad_name name ≡ false = search rules in
    let free : is_some (base_routing name) ≡ false = search rules in
    let able : is_bad_policy c.args.policy ≡ false = search rules in
    rw c.in_ok-insert.ensures.entries
    (registrable-insert_entry c.in_ok-name.name (c.args.pattern, c.args.policy) c.self.inside.rows.entries (may_register name c.args.policy good free able) c.self.invariant)

pub returns-clause-registered : goal.returns-clause-registered
returns-clause-registered c = λ q.
    rw (c.in_ok-insert.ensures.entries, ← c.self.view_is, ← c.in_ok-name.ensures)
    (lookup-insert_entry q c.in_ok-name.name (c.args.pattern, c.args.policy) c.self.inside.rows.entries)

pub returns-clause-one_more : goal.returns-clause-one_more
returns-clause-one_more c =
    let name = c.in_ok-name.name.items in
    let unknown : is_some (lookup_name c.args.self.now name) ≡ false = search rules in
    let none : c.in_ok-insert.field-0 ≡ None =
    c.in_ok-insert.ensures.old ∙ found_row name c.self.inside.rows.entries ∙ ap (λ rows. lookup_name rows name) c.self.view_is ∙ none_from _ unknown in
    rw (← c.self.view_is) (one_more c.in_ok-insert.field-0 c.self.inside.rows.entries _ none c.in_ok-insert.ensures.len)
