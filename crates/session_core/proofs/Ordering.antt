-- Parts of a caller that have an order take effect in the order of their calls.
use Rattle.std.proofs.Common.{◌≡◌, ◌<◌, ◌+◌, ◌++◌, ◌&&◌, ◌||◌, ◌⊎◌, inl, inr, ℕ, Bool, true, false, cond, List, [], ◌∷◌, Option, None, Some, refl, sym, ap, ◌∙◌, subst, arith, append_assoc}
use Rattle.std.specs.List.{last_or, count_by, cons_option}
use Rattle.std.proofs.lemmas.Bool.{false≢true, eqb-true, or_cases}
use Rattle.std.proofs.lemmas.List.Elements.{filter_map-append, Contains-push_cases}
use Rattle.std.proofs.lemmas.List.Sums.{sum_by-append}
use Rattle.resp_core.proofs.Cases.{by_test, and_first, and_second}
use Rattle.session_core.specs.LinkEvents as link
use Rattle.session_core.specs.Channel.{Ask}
use Rattle.session_core.specs.Part.{PartState, Phase, Waits, Answered, Lost, Unsent, is_waiting, is_done, is_on, is_refusal, have_slot, have_order}
use Rattle.session_core.specs.Part as part
use Rattle.session_core.specs.State.{CallState, State, Event, On, Begin, start, is_part, asks, lets_by, MayAsk, Has, MayBy, after, RunBy}
use Rattle.session_core.specs.History.{AsQueue, CallPart, Began, Step, Asked, Refused, Unwritten, Settled, step_of, steps, is_ask, may_follow, may_all_follow, has_effect, takes_effect, times_asked, InOrder}
use Rattle.session_core.proofs.Runs.{always, run_more, last_more}
use Rattle.session_core.proofs.AfterEvents.{in_phase, same_call}
use Rattle.session_core.proofs.Waiting.{may_ask, part_is, same_part, that_waits}
use Rattle.session_core.proofs.Moves.{effect, effect_of, with_step, follow-append}
use Rattle.session_core.proofs.Courses.{steps_more, unbegun, Stands, stands}

-- ---- the event of a step

taken_asks : (b refusal : Bool) (number : ℕ) → cond b (Some (cond refusal Refused Settled)) None ≡ Some (Asked number) → ⊥
taken_asks true true number h = cc
taken_asks true false number h = cc
taken_asks false refusal number h = cc

lost_asks : (b begun : Bool) (number : ℕ) → cond b (Some (cond begun Settled Unwritten)) None ≡ Some (Asked number) → ⊥
lost_asks true true number h = cc
lost_asks true false number h = cc
lost_asks false begun number h = cc

-- an event that asks a part
pub asked_by : (seat : CallPart) (e : Event) (number : ℕ) → step_of seat e ≡ Some (Asked number) → (requests : List Ask) × (e ≡ On number (link.Put requests)) × (asks seat.call seat.part requests ≡ true)
asked_by seat (On m (link.Put requests)) number h =
    by_test (asks seat.call seat.part requests)
    (λ k.
    let is : Some (Asked m) ≡ Some (Asked number) = rw k at h in
    let same : m ≡ number = cc in
    (requests, ap (λ n. On n (link.Put requests)) same, k))
    (λ k. let is : None ≡ Some (Asked number) = rw k at h in absurd (cc))
asked_by seat (On m (link.Take ticket reply)) number h = absurd (taken_asks (is_part seat.call seat.part ticket) (is_refusal seat.began reply) number h)
asked_by seat (On m (link.Lose ticket begun)) number h = absurd (lost_asks (is_part seat.call seat.part ticket) begun number h)
asked_by seat e number h = absurd (cc)

-- of a Put, a step is that the part is asked
put_step : (seat : CallPart) (m : ℕ) (requests : List Ask) → (step_of seat (On m (link.Put requests)) ≡ None) ⊎ (step_of seat (On m (link.Put requests)) ≡ Some (Asked m))
put_step seat m requests = by_test (asks seat.call seat.part requests) (λ k. inr (rw k refl)) (λ k. inl (rw k refl))

-- an event that asks a part may happen
asked_so : (seat : CallPart) (e : Event) (s : State) (number : ℕ) → MayBy AsQueue e s → step_of seat e ≡ Some (Asked number) → (request : List ℕ) × MayAsk s number seat.call seat.part request
asked_so seat e s number may h =
    let by = asked_by seat e number h in
    may_ask number seat.call seat.part by.0 s (subst (λ x. MayBy AsQueue x s) by.1 may) by.2

-- ---- the last time that a part was asked

pub record AskedLast (seat : CallPart) (es : List Event) : Type 0 where
  pub before : List Event
  pub rest : List Event
  pub number : ℕ
  pub requests : List Ask
  pub events_are : es ≡ before ++ On number (link.Put requests) ∷ rest
  pub asks_it : asks seat.call seat.part requests ≡ true
  pub state : ((steps seat rest ≡ []) × (last_or None (steps seat es) ≡ Some (Asked number)))
      ⊎ ((steps seat rest ≡ Settled ∷ []) × (last_or None (steps seat es) ≡ Some Settled))

last_same : (seat : CallPart) (es : List Event) (e : Event) → step_of seat e ≡ None → last_or None (steps seat (es ++ e ∷ [])) ≡ last_or None (steps seat es)
last_same seat es e h = ap (last_or None) (steps_more seat es e ∙ ap (λ o. with_step o (steps seat es)) h)

last_is : (seat : CallPart) (es : List Event) (e : Event) (x : Step) → step_of seat e ≡ Some x → last_or None (steps seat (es ++ e ∷ [])) ≡ Some x
last_is seat es e x h = ap (last_or None) (steps_more seat es e ∙ ap (λ o. with_step o (steps seat es)) h) ∙ last_more None (steps seat es) x

-- what stands after some events, with one more
one_later : (before rest es : List Event) (x e : Event) → es ≡ before ++ x ∷ rest → es ++ e ∷ [] ≡ before ++ x ∷ (rest ++ e ∷ [])
one_later before rest es x e h = ap (λ xs. xs ++ e ∷ []) h ∙ append_assoc before (x ∷ rest) (e ∷ [])

before_settled : (o : Option Step) → may_follow o Settled ≡ true → (number : ℕ) × (o ≡ Some (Asked number))
before_settled None h = absurd (false≢true h)
before_settled (Some (Asked number)) h = (number, refl)
before_settled (Some Refused) h = absurd (false≢true h)
before_settled (Some Unwritten) h = absurd (false≢true h)
before_settled (Some Settled) h = absurd (false≢true h)

-- Whether an event asks a part that has an effect after it, or it had one before.
abbrev Kind : CallPart → List Event → Event → Type 0
Kind seat es e = ((number : ℕ) × (step_of seat e ≡ Some (Asked number)))
    ⊎ (((step_of seat e ≡ None) ⊎ ((step_of seat e ≡ Some Settled) × ((number : ℕ) × (last_or None (steps seat es) ≡ Some (Asked number))))) × (takes_effect seat es ≡ true))

kind_of : (seat : CallPart) (es : List Event) (e : Event) (o : Option Step) → step_of seat e ≡ o → may_all_follow None (steps seat (es ++ e ∷ [])) ≡ true → takes_effect seat (es ++ e ∷ []) ≡ true → Kind seat es e
kind_of seat es e None h turn has = inr (inl h, ap has_effect (sym (last_same seat es e h)) ∙ has)
kind_of seat es e (Some (Asked number)) h turn has = inl (number, h)
kind_of seat es e (Some Refused) h turn has = absurd (false≢true (ap has_effect (sym (last_is seat es e Refused h)) ∙ has))
kind_of seat es e (Some Unwritten) h turn has = absurd (false≢true (ap has_effect (sym (last_is seat es e Unwritten h)) ∙ has))
kind_of seat es e (Some Settled) h turn has =
    let all : (may_all_follow None (steps seat es) && may_follow (last_or None (steps seat es)) Settled) ≡ true =
    sym (follow-append None (steps seat es) Settled) ∙ ap (may_all_follow None) (sym (steps_more seat es e ∙ ap (λ o. with_step o (steps seat es)) h)) ∙ turn in
    let was = before_settled (last_or None (steps seat es)) (and_second _ _ all) in
    inr (inr (h, was), ap has_effect was.1)

abbrev IsInTurn : CallPart → List Event → Type 0
IsInTurn seat es = may_all_follow None (steps seat es) ≡ true

turn_before : (seat : CallPart) (es : List Event) (e : Event) (o : Option Step) → step_of seat e ≡ o → IsInTurn seat (es ++ e ∷ []) → IsInTurn seat es
turn_before seat es e None h turn = ap (may_all_follow None) (sym (steps_more seat es e ∙ ap (λ o. with_step o (steps seat es)) h)) ∙ turn
turn_before seat es e (Some x) h turn = and_first _ _ (sym (follow-append None (steps seat es) x) ∙ ap (may_all_follow None) (sym (steps_more seat es e ∙ ap (λ o. with_step o (steps seat es)) h)) ∙ turn)

asked_later : (seat : CallPart) (es : List Event) (e : Event) (a : AskedLast seat es)
    → ((step_of seat e ≡ None) ⊎ ((step_of seat e ≡ Some Settled) × ((number : ℕ) × (last_or None (steps seat es) ≡ Some (Asked number))))) → AskedLast seat (es ++ e ∷ [])
asked_later seat es e a kind = record {
  before = a.before;
  rest = a.rest ++ e ∷ [];
  number = a.number;
  requests = a.requests;
  events_are = one_later a.before a.rest es _ e a.events_are;
  asks_it = a.asks_it;
  state = elim kind [
    | inl none ↦
        let rest : steps seat (a.rest ++ e ∷ []) ≡ steps seat a.rest = steps_more seat a.rest e ∙ ap (λ o. with_step o (steps seat a.rest)) none in
        elim a.state [
          | inl on ↦ inl (rest ∙ on.0, last_same seat es e none ∙ on.1)
          | inr done ↦ inr (rest ∙ done.0, last_same seat es e none ∙ done.1)
        ]
    | inr settled ↦ elim a.state [
      | inl on ↦ inr (steps_more seat a.rest e ∙ ap (λ o. with_step o (steps seat a.rest)) settled.0 ∙ ap (with_step (Some Settled)) on.0, last_is seat es e Settled settled.0)
      | inr done ↦ let two : Some Settled ≡ Some (Asked settled.1.0) = sym done.1 ∙ settled.1.1 in absurd (cc)
    ]
  ];
}

asked_last_step : (seat : CallPart) (es : List Event) (e : Event) → (IsInTurn seat es → takes_effect seat es ≡ true → AskedLast seat es) → IsInTurn seat (es ++ e ∷ []) → takes_effect seat (es ++ e ∷ []) ≡ true → AskedLast seat (es ++ e ∷ [])
asked_last_step seat es e old turn has = elim (kind_of seat es e (step_of seat e) refl turn has) [
  | inl now ↦
      let by = asked_by seat e now.0 now.1 in
      record {
        before = es;
        rest = [];
        number = now.0;
        requests = by.0;
        events_are = ap (λ x. es ++ x ∷ []) by.1;
        asks_it = by.2;
        state = inl (refl, last_is seat es e (Asked now.0) now.1);
      }
  | inr kept ↦ asked_later seat es e (old (turn_before seat es e (step_of seat e) refl turn) kept.1) kept.0
]

asked_last : (seat : CallPart) (events : List Event) (s : State) → RunBy AsQueue start events s → IsInTurn seat events → takes_effect seat events ≡ true → AskedLast seat events
asked_last seat events s run = always AsQueue (λ es t. IsInTurn seat es → takes_effect seat es ≡ true → AskedLast seat es) (λ turn has. absurd (false≢true has)) (λ es e t reached may old. asked_last_step seat es e old) events s run

-- ---- the rule

-- a part that is asked is there, and waits
pub asked_here : (seat : CallPart) (es : List Event) (s : State) (h : Stands seat es s) (number : ℕ) (request : List ℕ) (ask : MayAsk s number seat.call seat.part request)
    → (ask.caller ≡ seat.caller) × (ask.it ≡ in_phase seat.began h.phase) × (is_waiting h.phase ≡ true)
asked_here seat es s h number request ask =
    let at = part_is ask.caller seat.call seat.part s ask.it ask.has in
    elim h.here [
      | inl has ↦
          let same : ask.it ≡ in_phase seat.began h.phase = same_part _ _ (sym at ∙ part_is seat.caller seat.call seat.part s _ has) in (
            sym ask.has.caller_is ∙ ap (λ (c : CallState). c.caller) (same_call _ _ (sym ask.has.call_is ∙ has.call_is)) ∙ has.caller_is,
            same,
            ap (λ (p : PartState). is_waiting p.phase) (sym same) ∙ ask.waits,
          )
      | inr gone ↦ let none : None ≡ Some ask.it = sym gone.away ∙ at in absurd (cc)
    ]

-- Two parts of one caller that have an order, the first of the earlier call.
pub record ArePair (first second : CallPart) : Type 0 where
  pub caller : first.caller ≡ second.caller
  pub calls : first.call < second.call
  pub order : have_order first.began.order second.began.order ≡ true

-- an earlier part lets by a later one that is asked
lets_later : (i j : CallPart) (es : List Event) (s : State) → ArePair i j → (hi : Stands i es s) → Stands j es s → (number : ℕ) (request : List ℕ) → MayAsk s number j.call j.part request
    → (is_done hi.phase ≡ true) ⊎ ((have_slot i.began.order j.began.order ≡ true) × (is_on number hi.phase ≡ true))
lets_later i j es s pair hi hj number request ask =
    let here = asked_here j es s hj number request ask in
    elim hi.here [
      | inl has ↦
          let own : Has s ask.caller i.call i.part (in_phase i.began hi.phase) = subst (λ n. Has s n i.call i.part (in_phase i.began hi.phase)) (pair.caller ∙ sym here.0) has in
          let order : have_order i.began.order ask.it.order ≡ true = ap (λ (p : PartState). have_order i.began.order p.order) here.1 ∙ pair.order in
          let lets : lets_by number ask.it (in_phase i.began hi.phase) ≡ true = ask.earlier i.call i.part (in_phase i.began hi.phase) pair.calls own order in
          let now : (is_done hi.phase || (have_slot i.began.order j.began.order && is_on number hi.phase)) ≡ true = ap (λ (p : PartState). is_done hi.phase || (have_slot i.began.order p.order && is_on number hi.phase)) (sym here.1) ∙ lets in
          elim (or_cases (is_done hi.phase) (have_slot i.began.order j.began.order && is_on number hi.phase) now) [
            | inl done ↦ inl done
            | inr ahead ↦ inr (and_first _ _ ahead, and_second _ _ ahead)
          ]
      | inr gone ↦ inl gone.done
    ]

-- no part is asked while a later one is on its way, or after it was settled
no_later : (i j : CallPart) (es : List Event) (s : State) → ArePair i j → Stands i es s → (hj : Stands j es s) → (number : ℕ) (request : List ℕ) → MayAsk s number i.call i.part request
    → part.is_effective hj.phase ≡ false
no_later i j es s pair hi hj number request ask =
    let here = asked_here i es s hi number request ask in
    elim hj.here [
      | inl has ↦
          let own : Has s ask.caller j.call j.part (in_phase j.began hj.phase) = subst (λ n. Has s n j.call j.part (in_phase j.began hj.phase)) (sym pair.caller ∙ sym here.0) has in
          let order : have_order ask.it.order j.began.order ≡ true = ap (λ (p : PartState). have_order p.order j.began.order) here.1 ∙ pair.order in
          ask.later j.call j.part (in_phase j.began hj.phase) pair.calls own order
      | inr gone ↦ absurd (false≢true (sym (gone.turn i.call ask.has.state pair.calls ask.has.call_is (ask.has.caller_is ∙ here.0 ∙ pair.caller)) ∙ ask.wanted))
    ]

on_way_of : (f : Phase) (number : ℕ) → Some (Asked number) ≡ effect_of f → (left : ℕ) × (f ≡ part.Asked number left)
on_way_of (Waits left) number h = absurd (cc)
on_way_of (part.Asked link left) number h = let same : number ≡ link = cc in (left, ap (λ n. part.Asked n left) (sym same))
on_way_of (Answered reply) number h = absurd (cc)
on_way_of Lost number h = absurd (cc)
on_way_of (part.Refused error) number h = absurd (cc)
on_way_of (Unsent cause) number h = absurd (cc)

no_effect : (o : Option Step) → effect o ≡ None → has_effect o ≡ true → ⊥
no_effect None e h = false≢true h
no_effect (Some (Asked link)) e h = cc
no_effect (Some Refused) e h = false≢true h
no_effect (Some Unwritten) e h = false≢true h
no_effect (Some Settled) e h = cc

effective_of : (o : Option Step) (f : Phase) → effect o ≡ effect_of f → has_effect o ≡ true → part.is_effective f ≡ false → ⊥
effective_of o (Waits left) e h k = no_effect o e h
effective_of o (part.Asked link left) e h k = false≢true (sym k)
effective_of o (Answered reply) e h k = false≢true (sym k)
effective_of o Lost e h k = false≢true (sym k)
effective_of o (part.Refused error) e h k = no_effect o e h
effective_of o (Unsent cause) e h k = no_effect o e h

not_on_way : (f : Phase) (number left : ℕ) → f ≡ part.Asked number left → is_done f ≡ true → ⊥
not_on_way f number left e h = false≢true (ap is_done (sym e) ∙ h)

waits_by : (f : Phase) (number : ℕ) → is_waiting f ≡ true → (is_done f ≡ true) ⊎ (is_on number f ≡ true) → ⊥
waits_by f number h either =
    let w = that_waits f h in
    elim either [
      | inl done ↦ false≢true (ap is_done (sym w.1) ∙ done)
      | inr on ↦ false≢true (ap (is_on number) (sym w.1) ∙ on)
    ]

-- ---- two parts

times_more : (seat : CallPart) (xs ys : List Event) → times_asked seat (xs ++ ys) ≡ times_asked seat xs + times_asked seat ys
times_more seat xs ys = ap (count_by is_ask) (filter_map-append (step_of seat) xs ys) ∙ sum_by-append (λ x. cond (is_ask x) 1 0) (steps seat xs) (steps seat ys)

one_time : (seat : CallPart) (e : Event) (o : Option Step) → step_of seat e ≡ o → times_asked seat (e ∷ []) ≡ count_by is_ask (cons_option o [])
one_time seat e o h = ap (λ x. count_by is_ask (cons_option x [])) h

not_asked : (seat : CallPart) (es : List Event) (e : Event)
    → ((step_of seat e ≡ None) ⊎ ((step_of seat e ≡ Some Settled) × ((number : ℕ) × (last_or None (steps seat es) ≡ Some (Asked number))))) → times_asked seat (e ∷ []) ≡ 0
not_asked seat es e kind = elim kind [ inl none ↦ one_time seat e None none | inr settled ↦ one_time seat e (Some Settled) settled.0 ]

-- it was not asked after the last time
asked_none : (seat : CallPart) (es : List Event) (a : AskedLast seat es) → times_asked seat a.rest ≡ 0
asked_none seat es a = elim a.state [ inl on ↦ ap (count_by is_ask) on.0 | inr done ↦ ap (count_by is_ask) done.0 ]

-- an event that asks a part settles none
not_both : (seat : CallPart) (number : ℕ) (requests : List Ask) → step_of seat (On number (link.Put requests)) ≡ Some Settled → ⊥
not_both seat number requests h = elim (put_step seat number requests) [
  | inl none ↦ let two : None ≡ Some Settled = sym none ∙ h in cc
  | inr ask ↦ let two : Some (Asked number) ≡ Some Settled = sym ask ∙ h in cc
]

-- an event that asks neither
in_order_later : (i j : CallPart) (es : List Event) (e : Event) → times_asked i (e ∷ []) ≡ 0 → times_asked j (e ∷ []) ≡ 0 → InOrder i j es → InOrder i j (es ++ e ∷ [])
in_order_later i j es e none_i none_j o =
    let ask_j = On o.at_second (link.Put o.second_put) in
    record {
      before = o.before;
      mid = o.mid;
      more = o.more ++ e ∷ [];
      at_first = o.at_first;
      at_second = o.at_second;
      first_put = o.first_put;
      second_put = o.second_put;
      events_are = one_later o.before (o.mid ++ ask_j ∷ o.more) es _ e o.events_are ∙ ap (λ xs. o.before ++ On o.at_first (link.Put o.first_put) ∷ xs) (append_assoc o.mid (ask_j ∷ o.more) (e ∷ []));
      asks_first = o.asks_first;
      asks_second = o.asks_second;
      last_first = ap (times_asked i) (sym (append_assoc o.mid (ask_j ∷ o.more) (e ∷ []))) ∙ omega (arith, times_more i (o.mid ++ ask_j ∷ o.more) (e ∷ []), o.last_first, none_i);
      last_second = omega (arith, times_more j o.more (e ∷ []), o.last_second, none_j);
      ahead = o.ahead;
    }

-- the later part is asked
in_order_now : (i j : CallPart) (es : List Event) (s : State) (e : Event) (number : ℕ) → ArePair i j → Stands i es s → Stands j es s → MayBy AsQueue e s → step_of j e ≡ Some (Asked number)
    → step_of i e ≡ None → AskedLast i es → InOrder i j (es ++ e ∷ [])
in_order_now i j es s e number pair hi hj may asks_j none_i a =
    let by = asked_by j e number asks_j in
    let ask = asked_so j e s number may asks_j in
    let lets = lets_later i j es s pair hi hj number ask.0 ask.1 in
    let put = On number (link.Put by.0) in
    let silent : times_asked i (put ∷ []) ≡ 0 = ap (λ x. times_asked i (x ∷ [])) (sym by.1) ∙ one_time i e None none_i in
    record {
      before = a.before;
      mid = a.rest;
      more = [];
      at_first = a.number;
      at_second = number;
      first_put = a.requests;
      second_put = by.0;
      events_are = ap (λ x. es ++ x ∷ []) by.1 ∙ one_later a.before a.rest es _ put a.events_are;
      asks_first = a.asks_it;
      asks_second = by.2;
      last_first = times_more i a.rest (put ∷ []) ∙ omega (arith, silent, asked_none i es a);
      last_second = refl;
      ahead = elim a.state [
        | inl on ↦
            let f = on_way_of hi.phase a.number (ap effect (sym on.1) ∙ hi.knows.last) in
            elim lets [
              | inl done ↦ absurd (not_on_way hi.phase a.number f.0 f.1 done)
              | inr ahead ↦ inl (on.0, eqb-true a.number number (ap (is_on number) (sym f.1) ∙ ahead.1), ahead.0)
            ]
        | inr done ↦ inr done.0
      ];
    }

-- what an event leaves of the order of two parts
in_order_after : (i j : CallPart) (es : List Event) (s : State) (e : Event) → ArePair i j → Stands i es s → Stands j es s → MayBy AsQueue e s → (takes_effect i es ≡ true → AskedLast i es)
    → Kind i es e → Kind j es e → (takes_effect i es ≡ true → takes_effect j es ≡ true → InOrder i j es) → InOrder i j (es ++ e ∷ [])
in_order_after i j es s e pair hi hj may first kind_i kind_j old = elim kind_j [
  | inl now_j ↦ elim kind_i [
    | inl now_i ↦
        let ask_j = asked_so j e s now_j.0 may now_j.1 in
        let ask_i = asked_so i e s now_i.0 may now_i.1 in
        let waits = (asked_here i es s hi now_i.0 ask_i.0 ask_i.1).2 in
        absurd (waits_by hi.phase now_j.0 waits (elim (lets_later i j es s pair hi hj now_j.0 ask_j.0 ask_j.1) [ inl done ↦ inl done | inr ahead ↦ inr ahead.1 ]))
    | inr kept_i ↦
        let by = asked_by j e now_j.0 now_j.1 in
        elim kept_i.0 [
          | inl none ↦ in_order_now i j es s e now_j.0 pair hi hj may now_j.1 none (first kept_i.1)
          | inr settled ↦ absurd (not_both i now_j.0 by.0 (ap (step_of i) (sym by.1) ∙ settled.0))
        ]
  ]
  | inr kept_j ↦ elim kind_i [
    | inl now_i ↦
        let ask_i = asked_so i e s now_i.0 may now_i.1 in
        absurd (effective_of (last_or None (steps j es)) hj.phase hj.knows.last kept_j.1 (no_later i j es s pair hi hj now_i.0 ask_i.0 ask_i.1))
    | inr kept_i ↦ in_order_later i j es e (not_asked i es e kept_i.0) (not_asked j es e kept_j.0) (old kept_i.1 kept_j.1)
  ]
]

-- ---- whole runs

-- a part with an effect began before the last event
began_before : (seat : CallPart) (es : List Event) (e : Event) (s : State) → RunBy AsQueue start es s → MayBy AsQueue e s → takes_effect seat (es ++ e ∷ []) ≡ true → Began (es ++ e ∷ []) seat → Began es seat
began_before seat es e s reached may has b = elim (Contains-push_cases es e (Begin seat.call seat.caller b.parts) b.began) [
  | inl old ↦ record { parts = b.parts; began = old; part_is = b.part_is }
  | inr now ↦
      let nothing : steps seat es ≡ [] = unbegun seat es s reached (let first = (subst (λ x. MayBy AsQueue x s) now may).0 in omega (arith, first)) in
      let same : last_or None (steps seat (es ++ e ∷ [])) ≡ None = last_same seat es e (ap (step_of seat) now) ∙ ap (last_or None) nothing in
      absurd (false≢true (ap has_effect (sym same) ∙ has))
]

pub in_order : (i j : CallPart) (events : List Event) (s : State) → ArePair i j → RunBy AsQueue start events s → Began events i → Began events j → takes_effect i events ≡ true → takes_effect j events ≡ true → InOrder i j events
in_order i j events s pair run bi bj hi hj = always AsQueue (λ es t. Began es i → Began es j → takes_effect i es ≡ true → takes_effect j es ≡ true → InOrder i j es)
    (λ b c h k. absurd (false≢true h))
    (λ es e t reached may old b c h k.
    let more = run_more AsQueue es start t e reached may in
    let turn_i = (stands i (es ++ e ∷ []) (after e t) more b).knows.in_turn in
    let turn_j = (stands j (es ++ e ∷ []) (after e t) more c).knows.in_turn in
    let bi = began_before i es e t reached may h b in
    let bj = began_before j es e t reached may k c in
    let hi = stands i es t reached bi in
    in_order_after i j es t e pair hi (stands j es t reached bj) may (asked_last i es t reached hi.knows.in_turn)
    (kind_of i es e (step_of i e) refl turn_i h) (kind_of j es e (step_of j e) refl turn_j k) (λ x y. old bi bj x y))
    events s run bi bj hi hj
