use Rattle.std.proofs.Common.{◌≡◌, ℕ, [], Bool, true, false, Some, map, nat_lt, sym, ap, ◌∙◌, arith}
use Rattle.std.proofs.lemmas.Bool.Decides.{nat_tests}
use Rattle.redis_routing.specs.Command.{Arguments}
use Rattle.redis_routing.specs.Names.{names_of, names_of_reads}
use Rattle.redis_routing.specs.Registry.{Registrations}
use Rattle.redis_routing.specs.Routing.{routing}
use Rattle.slotroute_c.specs.RouteNumbers.{names_for}
use Rattle.slotroute_c.proofs.routes.routing_of.Goals as goal

module _ (n : ℕ) (registered : Registrations) (args : Arguments) where
  reads : nat_lt 0 n ≡ true → routing (names_of_reads registered) args ≡ routing (names_for n registered) args
  reads is = ap (λ (b : Bool). routing (record { only_reads = λ name. b; registered = registered }) args) (sym is)

  writes : nat_lt 0 n ≡ false → routing (names_of [] registered) args ≡ routing (names_for n registered) args
  writes is = ap (λ (b : Bool). routing (record { only_reads = λ name. b; registered = registered }) args) (sym is)

pub returns-then-only_reads-ne0-clause-routed : goal.returns-then-only_reads-ne0-clause-routed
returns-then-only_reads-ne0-clause-routed c =
    let words = c.in_ok-command.command in
    let registered = c.in_ok-registry.registry in
    let is : nat_lt 0 c.args.only_reads ≡ true = grind (arith, nat_tests) in
    (words, c.in_ok-command.ensures.found, (registered, c.in_ok-registry.ensures.names, c.in_ok-for_read.ensures.routed ∙ reads c.args.only_reads registered (map Some words) is))

pub returns-clause-routed : goal.returns-clause-routed
returns-clause-routed c =
    let words = c.in_ok-command.command in
    let registered = c.in_ok-registry.registry in
    let is : nat_lt 0 c.args.only_reads ≡ false = grind (arith, nat_tests) in
    (words, c.in_ok-command.ensures.found, (registered, c.in_ok-registry.ensures.names, c.in_ok-for_routable_with.ensures.routed ∙ ap (λ read. routing (names_of read registered) (map Some words)) c.new-none.ensures ∙ writes c.args.only_reads registered (map Some words) is))
