use Rattle.std.proofs.Common.{◌∙◌, ◌++◌, take, sym, ap, refl}
use Rattle.std.specs.List.{slice_get}
use Rattle.session_core.specs.Channel.{Channel}
use Rattle.session_core.proofs.LinkSteps.{is_for, answers, takes, for_err}
use Rattle.session_core.proofs.link.Link.take.Goals as goal

pub break_by-requires-in-TooLong-clause-cause : goal.break_by-requires-in-TooLong-clause-cause
break_by-requires-in-TooLong-clause-cause c =
    let wait = c.in-Some-first_wait in (
      (wait.wait, is_for _ _ _ _ c.self.view_is (sym c.first_wait.ensures ∙ wait.is) (sym c.written_before.ensures.first ∙ c.in-Some.is) c.if-written-wait.false),
      rw c.as_slice.ensures at c.in-TooLong.ensures.front,
    )

pub break_by-requires-in-Malformed-clause-cause : goal.break_by-requires-in-Malformed-clause-cause
break_by-requires-in-Malformed-clause-cause c =
    let wait = c.in-Some-first_wait in (
      (wait.wait, is_for _ _ _ _ c.self.view_is (sym c.first_wait.ensures ∙ wait.is) (sym c.written_before.ensures.first ∙ c.in-Some.is) c.if-written-wait.false),
      rw c.as_slice.ensures at c.in-Malformed.ensures.front,
    )

pub break_by-requires-then-written-wait-clause-cause : goal.break_by-requires-then-written-wait-clause-cause
break_by-requires-then-written-wait-clause-cause c =
    let wait = c.in-Some-first_wait in
    let before = ap (λ (l : Channel). slice_get l.written_before 0) (sym c.self.view_is) ∙ sym c.written_before.ensures.first ∙ c.in-Some.is in
    (wait.wait, c.in-Some.written, sym c.first_wait.ensures ∙ wait.is, before, c.if-written-wait.true)

pub invariant_of-self-2 : goal.invariant_of-self-2
invariant_of-self-2 c = (c.self.invariant.0, λ more. c.in-Reply.ensures.next c.in-Reply.len refl (c.take_front.new.self.bytes ++ more))

pub returns-clause-taken : goal.returns-clause-taken
returns-clause-taken c =
    let wait = c.in-Some-first_wait in
    let front = rw c.as_slice.ensures at c.in-Reply.ensures.front in
    let opened = ap (λ (l : Channel). l.standing) c.self.view_is ∙ c.requires in
    let own = is_for _ _ _ _ c.self.view_is (sym c.first_wait.ensures ∙ wait.is) (sym c.written_before.ensures.first ∙ c.in-Some.is) c.if-written-wait.false in
    rw (← c.self.view_is) (takes _ wait.wait c.in-Reply.len c.pop_front.new.self.items c.in_ok-reply.reply.items c.take_front.new.self opened own front c.in_ok-reply.ensures.taken c.pop_front.ensures.rest c.in_ok-reply.ensures.ok)

pub returns-in_err-reply-clause-cause : goal.returns-in_err-reply-clause-cause
returns-in_err-reply-clause-cause c =
    let wait = c.in-Some-first_wait in
    let front = rw c.as_slice.ensures at c.in-Reply.ensures.front in
    let opened = ap (λ (l : Channel). l.standing) c.self.view_is ∙ c.requires in
    let own = is_for _ _ _ _ c.self.view_is (sym c.first_wait.ensures ∙ wait.is) (sym c.written_before.ensures.first ∙ c.in-Some.is) c.if-written-wait.false in
    rw (← c.self.view_is) (for_err c.from_residual.result (wait.wait.ticket, take c.in-Reply.len _, answers _ wait.wait c.in-Reply.len opened own front))
