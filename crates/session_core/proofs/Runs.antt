-- What holds of each run: an induction over its events.
use Rattle.std.proofs.Common.{◌≡◌, ◌++◌, List, [], ◌∷◌, Option, Some, refl, sym, subst, append_assoc}
use Rattle.std.specs.List.{last_or}
use Rattle.std.proofs.lemmas.List.{append-nil}
use Rattle.session_core.specs.Channel.{Channel}
use Rattle.session_core.specs.LinkEvents as link
use Rattle.session_core.specs.State.{State, Event, start, MayBy, after, RunBy}

module _ (rules : link.Event → Channel → Type 0) where
  -- with one event more
  pub run_more : (events : List Event) (old mid : State) (e : Event) → RunBy rules old events mid → MayBy rules e mid → RunBy rules old (events ++ e ∷ []) (after e mid)
  run_more [] old mid e run may = subst (λ s. RunBy rules s (e ∷ []) (after e mid)) run (may, refl)
  run_more (first ∷ events) old mid e run may = (run.0, run_more events (after first old) mid e run.1 may)

  abbrev pub IsKept : (List Event → State → Type 0) → Type 0
  IsKept P = (events : List Event) (e : Event) (s : State) → RunBy rules start events s → MayBy rules e s → P events s → P (events ++ e ∷ []) (after e s)

  along : (P : List Event → State → Type 0) (kept : IsKept P) (before events : List Event) (old new : State) → RunBy rules start before old → P before old → RunBy rules old events new → P (before ++ events) new
  along P kept before [] old new reached holds run = subst (λ s. P (before ++ []) s) (sym run) (subst (λ es. P es old) (sym (append-nil before)) holds)
  along P kept before (e ∷ events) old new reached holds run =
      subst (λ es. P es new) (append_assoc before (e ∷ []) events)
      (along P kept (before ++ e ∷ []) events (after e old) new (run_more before start old e reached run.0) (kept before e old reached run.0 holds) run.1)

  -- What holds at the start, and is kept by each event, holds after each run.
  pub always : (P : List Event → State → Type 0) → P [] start → IsKept P → (events : List Event) (s : State) → RunBy rules start events s → P events s
  always P first kept events s run = along P kept [] events start s refl first run

  -- a run in two pieces
  pub split_run : (before more : List Event) (old new : State) → RunBy rules old (before ++ more) new → (mid : State) × RunBy rules old before mid × RunBy rules mid more new
  split_run [] more old new run = (old, refl, run)
  split_run (e ∷ before) more old new run =
      let rest = split_run before more (after e old) new run.1 in
      (rest.0, (run.0, rest.1), rest.2)

-- the last item of a list with one more
pub last_more : {X : Type 0} (o : Option X) (xs : List X) (x : X) → last_or o (xs ++ x ∷ []) ≡ Some x
last_more o [] x = refl
last_more o (y ∷ xs) x = last_more (Some y) xs x
