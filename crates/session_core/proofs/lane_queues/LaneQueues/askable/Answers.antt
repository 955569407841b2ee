use Rattle.std.proofs.Common.{◌≡◌, ◌<◌, ◌≤◌, ◌-◌, ◌++◌, ℕ, List, length, get_or, Some, sym, ap, ◌∙◌, subst, refl, arith}
use Rattle.std.specs.VecDeque.{deque_len}
use Rattle.session_core.specs.Inner.Lane.{In, Lane, IsFirst, IsNext, IsLinkOf}
use Rattle.session_core.proofs.Ascending.{read_in, greatest, in_some}
use Rattle.session_core.proofs.LaneLists.{when_none}
use Rattle.session_core.proofs.lane_queues.LaneQueues.askable.Goals as goal

next : (waiting asked : List ℕ) (end link x : ℕ) (l : Lane) → record { waiting = waiting; asked = asked; settled_end = end; link = link } ≡ l → IsFirst x l.waiting
    → end ≤ x → ((q : ℕ) → In q asked → q < x) → IsNext x l
next waiting asked end link x l view first past behind = record {
  waits = first.0;
  first = first.1;
  past = subst (λ (m : Lane). m.settled_end ≤ x) view past;
  behind = subst (λ (m : Lane). (q : ℕ) → In q m.asked → q < x) view behind;
}

pub returns-in_err-place-clause-none : goal.returns-in_err-place-clause-none
returns-in_err-place-clause-none c = when_none c.from_residual.result (λ place n. c.in_err-place.ensures.none place n.waits)

pub returns-then-place-self-clause-none : goal.returns-then-place-self-clause-none
returns-then-place-self-clause-none c = λ place other.
    let n = subst (IsNext place) (sym c.self.view_is) other in
    let le = other.first c.in_ok-place.place c.in_ok-place.ensures.first.0 in
    omega (arith, le, n.past, c.if-place-self.true)

pub returns-in-Some-clause-none : goal.returns-in-Some-clause-none
returns-in-Some-clause-none c = λ place other.
    let s = c.self.inside in
    let n = subst (IsNext place) (sym c.self.view_is) other in
    let le = other.first c.in_ok-place.place c.in_ok-place.ensures.first.0 in
    let is : deque_len s.asked - 1 ≡ length s.asked.items - 1 = omega arith in
    let inside : length s.asked.items - 1 < length s.asked.items = omega (arith, c.in-Some.ensures.item.3.0) in
    let lt = n.behind c.in-Some.last.now (read_in s.asked.items (length s.asked.items - 1) c.in-Some.last.now inside (c.in-Some.ensures.lookup ∙ ap (λ i. get_or s.asked.items i c.in-Some.last.now) is)) in
    omega (arith, le, lt, c.if-place-last.true)

pub returns-in-Some-2-clause-next : goal.returns-in-Some-2-clause-next
returns-in-Some-2-clause-next c =
    let s = c.self.inside in
    let is : deque_len s.asked - 1 ≡ length s.asked.items - 1 = omega arith in
    next (s.refused.items ++ s.later.items) s.asked.items s.settled_end s.link c.in_ok-place.place c.args.self.now c.self.view_is c.in_ok-place.ensures.first c.if-place-self.false
    (λ q h. let le = greatest s.asked.items c.in-Some.last.now q c.self.invariant.0.asked_ascends (c.in-Some.ensures.lookup ∙ ap (λ i. get_or s.asked.items i c.in-Some.last.now) is) h in omega (arith, le, c.if-place-last.false))

pub returns-in-Some-2-clause-link : goal.returns-in-Some-2-clause-link
returns-in-Some-2-clause-link c =
    let s = c.self.inside in
    let is : deque_len s.asked - 1 ≡ length s.asked.items - 1 = omega arith in
    let inside : length s.asked.items - 1 < length s.asked.items = omega (arith, c.in-Some.ensures.item.3.0) in
    subst (IsLinkOf (Some s.link)) c.self.view_is (refl, (c.in-Some.last.now, read_in s.asked.items (length s.asked.items - 1) c.in-Some.last.now inside (c.in-Some.ensures.lookup ∙ ap (λ i. get_or s.asked.items i c.in-Some.last.now) is)))

pub returns-in-None-clause-next : goal.returns-in-None-clause-next
returns-in-None-clause-next c =
    let s = c.self.inside in
    next (s.refused.items ++ s.later.items) s.asked.items s.settled_end s.link c.in_ok-place.place c.args.self.now c.self.view_is c.in_ok-place.ensures.first c.if-place-self.false
    (λ q h. let some = in_some q s.asked.items h in absurd (omega (arith, some, c.in-None.ensures.item.3)))
