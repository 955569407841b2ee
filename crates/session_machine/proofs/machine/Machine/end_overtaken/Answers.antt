use Rattle.std.proofs.Common.{◌≡◌, ◌+◌, Some, sym, subst}
use Rattle.session_machine.specs.Waiting.{IsOvertakenOn}
use Rattle.session_machine.proofs.Passing.{passed_stands, overtaken_on}
use Rattle.session_core.specs.State.{State, IsPassed, part_at}
use Rattle.session_core.proofs.Waiting.{part_is}
use Rattle.session_machine.proofs.Ties.Asks.{overtaken_part}
use Rattle.session_machine.proofs.machine.Machine.end_overtaken.Goals as goal

pub end_part-requires : goal.end_part-requires
end_part-requires c =
    let named = overtaken_part c.args.caller c.in-Some.overtaken.place c.in-Some.overtaken.seat c.self.invariant.tied c.in-Some.ensures.overtaken.0 c.in-Some.ensures.seat in
    subst (λ (t : State). IsPassed t c.in-Some.overtaken.seat.call c.in-Some.overtaken.seat.part) c.self.view_is named.passed

pub returns-in_default-clause-why : goal.returns-in_default-clause-why
returns-in_default-clause-why c = λ call part over.
    let s : State = record { links = c.self.inside.links; first = c.self.inside.first; calls = c.self.inside.calls.items } in
    let stands = passed_stands c.args.caller c.args.slot call part c.self.invariant.tied (subst (λ (t : State). IsOvertakenOn c.args.caller c.args.slot call part t) (sym c.self.view_is) over) in
    c.in_default.ensures.none (c.self.invariant.order_places call + part) stands.0 stands.1

pub returns-then-not-end_part-clause-why : goal.returns-then-not-end_part-clause-why
returns-then-not-end_part-clause-why c = λ _ _ _.
    let s : State = record { links = c.self.inside.links; first = c.self.inside.first; calls = c.self.inside.calls.items } in
    let seat = c.in-Some.overtaken.seat in
    let named = (overtaken_part c.args.caller c.in-Some.overtaken.place seat c.self.invariant.tied c.in-Some.ensures.overtaken.0 c.in-Some.ensures.seat).named in
    let there = subst (λ (t : State). part_at seat.call seat.part t ≡ Some named.it) c.self.view_is (part_is c.args.caller seat.call seat.part s named.it named.has) in
    c.end_part.ensures.why c.if-not-end_part.true named.it there named.waits

pub returns-clause-own : goal.returns-clause-own
returns-clause-own c =
    let x = c.in-Some.overtaken in
    let e = c.in-Some.ensures in
    subst (λ (t : State). IsOvertakenOn c.args.caller c.args.slot x.seat.call x.seat.part t) c.self.view_is (overtaken_on c.args.caller c.args.slot x.place x.seat c.self.invariant.tied e.overtaken.0 e.overtaken.1 e.seat)
