-- Each run of the machine is a run of links as queues.
use Rattle.std.proofs.Common.{◌≡◌, ◌≤◌, ◌++◌, ℕ, false, List, [], ◌∷◌, sym, subst, ap, arith}
use Rattle.std.specs.List.{count_by}
use Rattle.resp_core.proofs.Cases.{by_test}
use Rattle.session_core.specs.Channel.{Channel, Ask}
use Rattle.session_core.specs.LinkEvents as link
use Rattle.session_core.specs.State.{State, Event, On, start, is_part, May, MayBy, Happens, after, Run, RunBy}
use Rattle.session_core.specs.History.{AsQueue}
use Rattle.session_core.proofs.Runs.{run_more}

-- with one event more that happens
pub grows : (events : List Event) (e : Event) (old new : State) → Run start events old → Happens old e new → Run start (events ++ e ∷ []) new
grows events e old new run happens = subst (λ s. Run start (events ++ e ∷ []) s) (sym happens.is) (run_more link.May events start old e run happens.may)

-- a step puts a part once at most
put_once : (call part : ℕ) (requests : List Ask) → link.IsStep requests → count_by (λ ask. is_part call part ask.0) requests ≤ 1
put_once call part [] step = absurd step
put_once call part (ask ∷ []) step = by_test (is_part call part ask.0) (λ k. rw k (omega arith)) (λ k. rw k (omega arith))
put_once call part (ask ∷ next ∷ []) step =
    let first : is_part call part ask.0 ≡ false = ap (λ (a : Ask). is_part call part a.0) step.0 in
    by_test (is_part call part next.0) (λ k. rw (first, k) (omega arith)) (λ k. rw (first, k) (omega arith))
put_once call part (ask ∷ next ∷ third ∷ more) step = absurd step

on_queue : (event : link.Event) (c : Channel) → link.May event c → AsQueue event c
on_queue (link.Put requests) c may = λ call part. put_once call part requests may.1
on_queue (link.Take ticket reply) c may = (may.wait, may.is_for.first, may.ticket_is)
on_queue (link.Lose ticket begun) c may = (may.wait, may.first, may.ticket_is)
on_queue event c may = tt

may_as_queue : (e : Event) (s : State) → May e s → MayBy AsQueue e s
may_as_queue (On number event) s may = record { channel = may.channel; link_is = may.link_is; may = on_queue event may.channel may.may; may_put = may.may_put }
may_as_queue e s may = may

pub as_queues : (events : List Event) (old new : State) → Run old events new → RunBy AsQueue old events new
as_queues [] old new run = run
as_queues (e ∷ events) old new run = (may_as_queue e old run.0, as_queues events (after e old) new run.1)
