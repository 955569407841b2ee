use Rattle.std.proofs.Common.{◌≡◌, ℕ, List, length, eq-eqb, rules, sym, ap, ◌∙◌}
use Rattle.std.proofs.lemmas.Bool.Decides.{Decides-at}
use Rattle.std.proofs.lemmas.List.{length-map}
use Rattle.redis_routing.specs.Lookup.{lookup_name}
use Rattle.redis_routing.specs.Registry.{Registered, Registrations}
use Rattle.redis_routing.specs.SameRegistrations.{same_registrations}
use Rattle.redis_routing.proofs.Registrations.{registration_of}
use Rattle.redis_routing.proofs.SameRows.{row_compares, rows_compare, same_registrations-Decides, same_lookups}
use Rattle.redis_routing.proofs.registry.RegistryPartialEq.eq.Goals as goal

pub returns-then-len-clause-value : goal.returns-then-len-clause-value
returns-then-len-clause-value c =
    rw (← c.self.view_is, ← c.other.view_is)
    (c.eq.ensures ∙ rows_compare (λ a b. row_compares a b) c.self.inside.rows.entries c.other.inside.rows.entries)

pub returns-then-len-clause-same : goal.returns-then-len-clause-same
returns-then-len-clause-same c =
    Decides-at c.eq.result (same_registrations c.args.self.now c.args.other.now) (returns-then-len-clause-value c)
    (same_registrations-Decides c.args.self.now c.args.other.now)

pub returns-then-len-clause-lookup : goal.returns-then-len-clause-lookup
returns-then-len-clause-lookup c =
    let own = c.self.view_is in
    let others = c.other.view_is in (
      (λ t name. ap (λ (rows : Registrations). lookup_name rows name) ((returns-then-len-clause-same c).0 t)),
      (λ alike.
          let same = same_lookups c.self.inside.rows c.other.inside.rows c.len.ensures.ordered c.len-2.ensures.ordered
          (λ name. ap (λ (rows : Registrations). lookup_name rows name) own ∙ alike name ∙ sym (ap (λ (rows : Registrations). lookup_name rows name) others)) in
          (returns-then-len-clause-same c).1 (sym own ∙ same ∙ others)),
    )

pub returns-else-len-clause-lookup : goal.returns-else-len-clause-lookup
returns-else-len-clause-lookup c =
    let own = c.self.view_is in
    let others = c.other.view_is in
    let entries = c.self.inside.rows.entries in
    let other_entries = c.other.inside.rows.entries in (
      (λ t name.
          let equal : c.len.result ≡ c.len-2.result = search (rules, t) in
          absurd (c.if-len.false equal)),
      (λ alike.
          let same = same_lookups c.self.inside.rows c.other.inside.rows c.len.ensures.ordered c.len-2.ensures.ordered
          (λ name. ap (λ (rows : Registrations). lookup_name rows name) own ∙ alike name ∙ sym (ap (λ (rows : Registrations). lookup_name rows name) others)) in
          let len : length entries ≡ length other_entries = sym (length-map entries registration_of) ∙ ap (length {A = List ℕ × Registered}) same ∙ length-map other_entries registration_of in
          eq-eqb c.len.result c.len-2.result (c.len.ensures.len ∙ len ∙ sym c.len-2.ensures.len)),
    )
