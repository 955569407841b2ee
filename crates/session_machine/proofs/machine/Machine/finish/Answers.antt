use Rattle.std.proofs.Common.{◌≡◌, ℕ, true, false, sym, ◌∙◌, subst}
use Rattle.session_core.specs.State.{State}
use Rattle.session_machine.specs.Callers.{owed_of, OnlyOwed}
use Rattle.session_machine.specs.Ties.{Owes, IsFirstOwed, is_owed}
use Rattle.session_machine.proofs.Finishing.{finish_first, finish_none, finish_happens, finish_kept}
use Rattle.session_machine.proofs.machine.Machine.finish.Goals as goal

pub returns-in_default-next_reply-clause-why : goal.returns-in_default-next_reply-clause-why
returns-in_default-next_reply-clause-why c = λ _ state may.
    let s : State = record { links = c.self.inside.links; first = c.self.inside.first; calls = c.self.inside.calls.items } in
    let it = c.in-Some.state.now in
    finish_none s c.args.self.now c.self.invariant c.args.call state it c.self.view_is c.in-Some.ensures.some may
    (subst (λ (n : ℕ). is_owed c.args.call (owed_of n c.self.inside.callers) ≡ false) c.caller-caller.ensures (c.in_default-next_reply.ensures.none c.args.call))

pub returns-then-next-call-clause-why : goal.returns-then-next-call-clause-why
returns-then-next-call-clause-why c = λ _ state may.
    let s : State = record { links = c.self.inside.links; first = c.self.inside.first; calls = c.self.inside.calls.items } in
    let it = c.in-Some.state.now in
    let first : IsFirstOwed c.in-Some-next_reply.next (owed_of it.caller c.self.inside.callers) = subst (λ (n : ℕ). IsFirstOwed c.in-Some-next_reply.next (owed_of n c.self.inside.callers)) c.caller-caller.ensures c.in-Some-next_reply.ensures.some in
    c.if-next-call.true (finish_first s c.args.self.now c.self.invariant c.args.call c.in-Some-next_reply.next state it c.self.view_is c.in-Some.ensures.some may first)

pub note_over-requires : goal.note_over-requires
note_over-requires c = c.in-Some-next_reply.ensures.some.is

pub invariant_of-self : goal.invariant_of-self
invariant_of-self c =
    let s : State = record { links = c.self.inside.links; first = c.self.inside.first; calls = c.self.inside.calls.items } in
    let it = c.in-Some.state.now in
    let own : c.caller-caller.result ≡ it.caller = c.caller-caller.ensures in
    let old = c.self.inside.callers in
    let new = c.note_over.new.self in
    let first : IsFirstOwed c.args.call (owed_of it.caller old) = subst (λ (n : ℕ). IsFirstOwed n (owed_of it.caller old)) c.if-next-call.false (subst (λ (n : ℕ). IsFirstOwed c.in-Some-next_reply.next (owed_of n old)) own c.in-Some-next_reply.ensures.some) in
    let wanted : it.is_wanted ≡ true = sym c.is_wanted.ensures ∙ c.if-not-is_wanted.false in
    let none_waits = sym c.has_none_waiting.ensures ∙ c.if-not-has_none_waiting.false in
    finish_kept s c.self.invariant c.args.call it c.note_replied.new.calls.items c.in-Some.ensures.some wanted none_waits first c.note_replied.ensures new
    (subst (λ (n : ℕ). Owes (owed_of it.caller old) (owed_of it.caller new) n false) c.if-next-call.false (subst (λ (n : ℕ). Owes (owed_of n old) (owed_of n new) c.in-Some-next_reply.next false) own c.note_over.ensures.owed))
    (subst (λ (n : ℕ). OnlyOwed n old new) own c.note_over.ensures.only)

pub returns-clause-finished : goal.returns-clause-finished
returns-clause-finished c = λ _.
    let s : State = record { links = c.self.inside.links; first = c.self.inside.first; calls = c.self.inside.calls.items } in
    let it = c.in-Some.state.now in
    let old = c.self.inside.callers in
    let first : IsFirstOwed c.args.call (owed_of it.caller old) = subst (λ (n : ℕ). IsFirstOwed n (owed_of it.caller old)) c.if-next-call.false (subst (λ (n : ℕ). IsFirstOwed c.in-Some-next_reply.next (owed_of n old)) c.caller-caller.ensures c.in-Some-next_reply.ensures.some) in
    let wanted : it.is_wanted ≡ true = sym c.is_wanted.ensures ∙ c.if-not-is_wanted.false in
    let none_waits = sym c.has_none_waiting.ensures ∙ c.if-not-has_none_waiting.false in
    (it, finish_happens s c.self.invariant c.args.call it c.note_replied.new.calls.items c.in-Some.ensures.some wanted none_waits first c.note_replied.ensures c.args.self.now c.self.view_is)
