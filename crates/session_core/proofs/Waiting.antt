-- A part waits where it is on its way, once, and nowhere else.
use Rattle.std.proofs.Common.{◌≡◌, ◌<◌, ◌≤◌, ◌+◌, ◌++◌, ◌&&◌, ◌||◌, ◌⊎◌, inl, inr, ℕ, zero, suc, Bool, true, false, cond, eqb, List, [], ◌∷◌, length, drop, Option, None, Some, refl, sym, ap, ◌∙◌, subst, arith}
use Rattle.std.specs.Prelude.{Contains}
use Rattle.std.specs.List.{slice_get, count_by}
use Rattle.std.specs.Option.{option_map, option_and_then}
use Rattle.std.proofs.lemmas.Option.{same_Some}
use Rattle.std.proofs.lemmas.Bool.{false≢true, eqb-true, eq-eqb, cases_lt, or_cases}
use Rattle.std.proofs.lemmas.List.Elements.{Contains-append_left, Contains-append_right, Contains-push}
use Rattle.std.proofs.lemmas.List.Sums.{sum_by-append, sum_by-cons}
use Rattle.resp_core.proofs.Cases.{by_test, and_first, and_second}
use Rattle.session_core.specs.declared.link.Ticket.{Ticket}
use Rattle.session_core.specs.declared.link.Ticket.TheVariants.{Login, Map, Asking, Part}
use Rattle.session_core.specs.declared.link.Wait.{Wait}
use Rattle.session_core.specs.declared.part.Cause.{Cause}
use Rattle.session_core.specs.declared.part.Cause.TheVariants.{GivenUp}
use Rattle.session_core.specs.Channel.{Channel, Ask, placed}
use Rattle.session_core.specs.LinkEvents as link
use Rattle.session_core.specs.Part.{PartState, Phase, Waits, Asked, Answered, Lost, Refused, Unsent, is_waiting, is_on, is_done, is_refusal, phase_told, phase_lost, phase_ended}
use Rattle.session_core.specs.State.{State, Event, Open, On, Forget, Begin, GiveUp, End, Finish, Leave, Trim, start, begun, call_at, part_at, waits_on, waits_at, numbered, links_for, is_part, asks, left_call, link_after, phase_after, MayBy, MayAsk, Has, after, RunBy}
use Rattle.session_core.specs.History.{AsQueue, is_there}
use Rattle.session_core.proofs.AfterEvents.{in_phase, slice_get-numbered, all_at, seen, not_begun, call_goes, call_came, call_new}
use Rattle.session_core.proofs.Runs.{always}

-- ---- how often a part waits

abbrev pub waiting : ℕ → ℕ → List Wait → ℕ
waiting call part waits = count_by (λ w. is_part call part w.ticket) waits

abbrev put_on : ℕ → ℕ → ℕ → Event → ℕ
put_on n call part (On m (link.Put requests)) = cond (eqb m n) (cond (asks call part requests) 1 0) 0
put_on n call part other = 0

abbrev took_from : ℕ → ℕ → ℕ → Event → ℕ
took_from n call part (On m (link.Take ticket reply)) = cond (eqb m n) (cond (is_part call part ticket) 1 0) 0
took_from n call part (On m (link.Lose ticket begun)) = cond (eqb m n) (cond (is_part call part ticket) 1 0) 0
took_from n call part other = 0

abbrev count_asks : ℕ → ℕ → List Ask → ℕ
count_asks call part requests = count_by (λ ask. is_part call part ask.0) requests

placed_count : (call part start : ℕ) (requests : List Ask) → waiting call part (placed start requests) ≡ count_asks call part requests
placed_count call part start [] = refl
placed_count call part start (ask ∷ more) =
    let first : Wait = record { ticket = ask.0; start = start; end = start + length ask.1 } in
    sum_by-cons (λ (w : Wait). cond (is_part call part w.ticket) 1 0) first (placed (start + length ask.1) more)
    ∙ ap (λ n. cond (is_part call part ask.0) 1 0 + n) (placed_count call part (start + length ask.1) more)
    ∙ sym (sum_by-cons (λ (a : Ask). cond (is_part call part a.0) 1 0) ask more)

one_of : (b rest : Bool) (n : ℕ) → cond b 1 0 + n ≤ 1 → (n ≤ 1 → n ≡ cond rest 1 0) → cond b 1 0 + n ≡ cond (b || rest) 1 0
one_of true rest n once more = omega (arith, once)
one_of false rest n once more = let same = more (omega (arith, once)) in omega (arith, same)

-- what is asked at most once is asked once or not
asked_once : (call part : ℕ) (requests : List Ask) → count_asks call part requests ≤ 1 → count_asks call part requests ≡ cond (asks call part requests) 1 0
asked_once call part [] once = refl
asked_once call part (ask ∷ more) once =
    let all = sum_by-cons (λ (a : Ask). cond (is_part call part a.0) 1 0) ask more in
    all ∙ one_of (is_part call part ask.0) (asks call part more) (count_asks call part more) (subst (λ n. n ≤ 1) all once) (asked_once call part more)

first_count : (call part : ℕ) (ticket : Ticket) (waits : List Wait) (w : Wait) → slice_get waits 0 ≡ Some w → w.ticket ≡ ticket → waiting call part waits ≡ cond (is_part call part ticket) 1 0 + waiting call part (drop 1 waits)
first_count call part ticket [] w first is = absurd (cc)
first_count call part ticket (x ∷ waits) w first is =
    let same : x.ticket ≡ ticket = ap (λ (y : Wait). y.ticket) (same_Some x w first) ∙ is in
    sum_by-cons (λ y. cond (is_part call part y.ticket) 1 0) x waits ∙ ap (λ t. cond (is_part call part t) 1 0 + waiting call part waits) same

-- on one link
on_channel : (m call part : ℕ) (event : link.Event) (c : Channel) → AsQueue event c
    → waiting call part (link.after event c).waits + took_from m call part (On m event) ≡ waiting call part c.waits + put_on m call part (On m event)
on_channel m call part (link.Put requests) c may =
    let once = asked_once call part requests (may call part) in
    rw (eq-eqb m m refl)
    (omega (arith, sum_by-append (λ (x : Wait). cond (is_part call part x.ticket) 1 0) c.waits (placed c.given requests), placed_count call part c.given requests, once))
on_channel m call part (link.Take ticket reply) c may = rw (eq-eqb m m refl) (omega (arith, first_count call part ticket c.waits may.0 may.1 may.2))
on_channel m call part (link.Lose ticket begun) c may = rw (eq-eqb m m refl) (omega (arith, first_count call part ticket c.waits may.0 may.1 may.2))
on_channel m call part event c may = refl

other_link : (m n call part : ℕ) (event : link.Event) → eqb m n ≡ false → (put_on n call part (On m event) ≡ 0) × (took_from n call part (On m event) ≡ 0)
other_link m n call part (link.Put requests) h = rw h (refl, refl)
other_link m n call part (link.Take ticket reply) h = rw h (refl, refl)
other_link m n call part (link.Lose ticket begun) h = rw h (refl, refl)
other_link m n call part event h = (refl, refl)

abbrev IsCounted : ℕ → ℕ → ℕ → Event → State → Type 0
IsCounted n call part e s = waiting call part (waits_at n (after e s)) + took_from n call part e ≡ waiting call part (waits_at n s) + put_on n call part e

pub same_link : (o : Option (Option Channel)) → o ≡ option_map (λ (x : Option Channel). x) o
same_link None = refl
same_link (Some x) = refl

one_place : (links : List (Option Channel)) (n : ℕ) → waits_on (slice_get (links ++ None ∷ []) n) ≡ waits_on (slice_get links n)
one_place [] zero = refl
one_place [] (suc n) = refl
one_place (x ∷ links) zero = refl
one_place (x ∷ links) (suc n) = one_place links n

pub link_at : (f : ℕ → Option Channel → Option Channel) (links : List (Option Channel)) (n : ℕ) → slice_get (numbered f 0 links) n ≡ option_map (f n) (slice_get links n)
link_at f links n = slice_get-numbered f 0 links n ∙ ap (λ k. option_map (f k) (slice_get links n)) (let z : 0 + n ≡ n = omega arith in z)

pub same_links : (links : List (Option Channel)) (n : ℕ) → slice_get (numbered (λ k x. x) 0 links) n ≡ slice_get links n
same_links links n = link_at (λ k x. x) links n ∙ sym (same_link (slice_get links n))

-- an event that leaves all links
unlinked : (n call part : ℕ) (e : Event) (s : State) → slice_get (after e s).links n ≡ slice_get s.links n → put_on n call part e ≡ 0 → took_from n call part e ≡ 0 → IsCounted n call part e s
unlinked n call part e s links put took = omega (arith, ap (λ o. waiting call part (waits_on o)) links, put, took)

none_at : (o : Option (Option Channel)) → ((c : Channel) → o ≡ Some (Some c) → ⊥) → waits_on o ≡ []
none_at None empty = refl
none_at (Some None) empty = refl
none_at (Some (Some c)) empty = absurd (empty c refl)

opened_at : (n number most : ℕ) (o : Option (Option Channel)) → eqb number n ≡ true → waits_on (option_map (link_after (Open number most) n) o) ≡ []
opened_at n number most None k = refl
opened_at n number most (Some x) k = rw k refl

pub not_opened : (n number most : ℕ) (o : Option (Option Channel)) → eqb number n ≡ false → option_map (link_after (Open number most) n) o ≡ o
not_opened n number most None k = refl
not_opened n number most (Some x) k = rw k refl

forgotten : (n number : ℕ) (o : Option (Option Channel)) → waits_on (option_map (link_after (Forget number) n) o) ≡ cond (eqb number n) [] (waits_on o)
forgotten n number None = by_test (eqb number n) (λ k. rw k refl) (λ k. rw k refl)
forgotten n number (Some x) = by_test (eqb number n) (λ k. rw k refl) (λ k. rw k refl)

pub happened_on : (n number : ℕ) (event : link.Event) (o : Option (Option Channel)) → eqb number n ≡ false → option_map (link_after (On number event) n) o ≡ o
happened_on n number event None k = refl
happened_on n number event (Some x) k = rw k refl

place_for : (n number most : ℕ) (s : State) → waits_on (slice_get (links_for (Open number most) s.links) n) ≡ waits_on (slice_get s.links n)
place_for n number most s = by_test (eqb number (length s.links)) (λ k. rw k (one_place s.links n)) (λ k. rw k refl)

counted : (n call part : ℕ) (e : Event) (s : State) → MayBy AsQueue e s → IsCounted n call part e s
counted n call part (Open number most) s may =
    let at = link_at (link_after (Open number most)) (links_for (Open number most) s.links) n in
    by_test (eqb number n)
    (λ k.
    let now : waits_at n (after (Open number most) s) ≡ [] = ap waits_on at ∙ opened_at n number most _ k in
    let old : waits_at n s ≡ [] = none_at (slice_get s.links n) (λ c is. may.1 c (ap (slice_get s.links) (eqb-true number n k) ∙ is)) in
    omega (arith, ap (waiting call part) now, ap (waiting call part) old))
    (λ k.
    let same : waits_at n (after (Open number most) s) ≡ waits_at n s = ap waits_on (at ∙ not_opened n number most _ k) ∙ place_for n number most s in
    omega (arith, ap (waiting call part) same))
counted n call part (On number event) s may =
    let at = link_at (link_after (On number event)) s.links n in
    by_test (eqb number n)
    (λ k.
    let same : number ≡ n = eqb-true number n k in
    let is : slice_get s.links n ≡ Some (Some may.channel) = ap (slice_get s.links) (sym same) ∙ may.link_is in
    let now : waits_at n (after (On number event) s) ≡ (link.after event may.channel).waits = ap waits_on (at ∙ ap (option_map (link_after (On number event) n)) is) ∙ rw k refl in
    let old : waits_at n s ≡ may.channel.waits = ap waits_on is in
    subst (λ m. waiting call part (waits_at n (after (On number event) s)) + took_from m call part (On number event) ≡ waiting call part (waits_at n s) + put_on m call part (On number event)) same
    (rw (now, old) (on_channel number call part event may.channel may.may)))
    (λ k.
    let same : waits_at n (after (On number event) s) ≡ waits_at n s = ap waits_on (at ∙ happened_on n number event _ k) in
    let none = other_link number n call part event k in
    omega (arith, ap (waiting call part) same, none.0, none.1))
counted n call part (Forget number) s may =
    let now : waits_at n (after (Forget number) s) ≡ cond (eqb number n) [] (waits_at n s) = ap waits_on (link_at (link_after (Forget number)) s.links n) ∙ forgotten n number (slice_get s.links n) in
    by_test (eqb number n)
    (λ k.
    let old : waits_at n s ≡ [] = ap waits_on (ap (slice_get s.links) (sym (eqb-true number n k)) ∙ may.1) ∙ may.3 in
    omega (arith, ap (waiting call part) (rw k at now), ap (waiting call part) old))
    (λ k. omega (arith, ap (waiting call part) (rw k at now)))
counted n call part (Begin c caller parts) s may = unlinked n call part (Begin c caller parts) s refl refl refl
counted n call part (GiveUp c) s may = unlinked n call part (GiveUp c) s (same_links s.links n) refl refl
counted n call part (End c q cause) s may = unlinked n call part (End c q cause) s (same_links s.links n) refl refl
counted n call part (Finish c state) s may = unlinked n call part (Finish c state) s (same_links s.links n) refl refl
counted n call part (Leave c) s may = unlinked n call part (Leave c) s (same_links s.links n) refl refl
counted n call part Trim s may = unlinked n call part Trim s refl refl refl

-- ---- how far the part is

-- a part waits on a link as often as it is on its way there
abbrev pub IsSingle : State → Type 0
IsSingle s = (number call part : ℕ) → waiting call part (waits_at number s) ≡ cond (is_there number (part_at call part s)) 1 0

pub is_ticket : (call part : ℕ) (ticket : Ticket) → is_part call part ticket ≡ true → ticket ≡ Part call part
is_ticket call part Login h = absurd (false≢true h)
is_ticket call part (Map n) h = absurd (false≢true h)
is_ticket call part Asking h = absurd (false≢true h)
is_ticket call part (Part c p) h = ap (λ n. Part n p) (eqb-true c call (and_first _ _ h)) ∙ ap (Part call) (eqb-true p part (and_second _ _ h))

pub asked_one : (call part : ℕ) (requests : List Ask) → asks call part requests ≡ true → (request : List ℕ) × Contains requests (Part call part, request)
asked_one call part [] h = absurd (false≢true h)
asked_one call part (ask ∷ more) h = elim (or_cases (is_part call part ask.0) (asks call part more) h) [
  | inl k ↦
      let first : Contains (ask ∷ more) ask = Contains-append_left (ask ∷ []) more ask (Contains-push [] ask) in
      (ask.1, subst (λ (t : Ticket). Contains (ask ∷ more) (t, ask.1)) (is_ticket call part ask.0 k) first)
  | inr k ↦ let found = asked_one call part more k in (found.0, Contains-append_right (ask ∷ []) more _ found.1)
]

-- what is asked may be asked
pub may_ask : (number call part : ℕ) (requests : List Ask) (s : State) → MayBy AsQueue (On number (link.Put requests)) s → asks call part requests ≡ true → (request : List ℕ) × MayAsk s number call part request
may_ask number call part requests s may h =
    let found = asked_one call part requests h in
    (found.0, may.may_put call part found.0 found.1)

pub part_is : (caller call part : ℕ) (s : State) (p : PartState) → Has s caller call part p → part_at call part s ≡ Some p
part_is caller call part s p has = ap (option_and_then (λ c. slice_get c.parts part)) has.call_is ∙ has.part_is

pub same_part : (a b : PartState) → Some a ≡ Some b → a ≡ b
same_part a b e = cc

is_one : (b : Bool) (n : ℕ) → n ≡ cond b 1 0 → 0 < n → b ≡ true
is_one true n e h = refl
is_one false n e h = absurd (omega arith)

-- a part whose ticket is taken from a link is on its way there
pub first_there : (number call part : ℕ) (ticket : Ticket) (c : Channel) (w : Wait) (s : State) → IsSingle s → slice_get s.links number ≡ Some (Some c) → slice_get c.waits 0 ≡ Some w → w.ticket ≡ ticket
    → is_part call part ticket ≡ true → is_there number (part_at call part s) ≡ true
first_there number call part ticket c w s single is first own h =
    let count : waiting call part c.waits ≡ 1 + waiting call part (drop 1 c.waits) = first_count call part ticket c.waits w first own ∙ ap (λ b. cond b 1 0 + waiting call part (drop 1 c.waits)) h in
    is_one (is_there number (part_at call part s)) (waiting call part c.waits) (sym (ap (λ o. waiting call part (waits_on o)) is) ∙ single number call part) (omega (arith, count))

-- the link of a part that is on its way
pub on_its_way : (number : ℕ) (phase : Phase) → is_on number phase ≡ true → (left : ℕ) × (phase ≡ Asked number left)
on_its_way number (Waits left) h = absurd (false≢true h)
on_its_way number (Asked link left) h = (left, ap (λ n. Asked n left) (eqb-true link number h))
on_its_way number (Answered reply) h = absurd (false≢true h)
on_its_way number Lost h = absurd (false≢true h)
on_its_way number (Refused error) h = absurd (false≢true h)
on_its_way number (Unsent cause) h = absurd (false≢true h)

pub that_waits : (phase : Phase) → is_waiting phase ≡ true → (left : ℕ) × (phase ≡ Waits left)
that_waits (Waits left) h = (left, refl)
that_waits (Asked link left) h = absurd (false≢true h)
that_waits (Answered reply) h = absurd (false≢true h)
that_waits Lost h = absurd (false≢true h)
that_waits (Refused error) h = absurd (false≢true h)
that_waits (Unsent cause) h = absurd (false≢true h)

told_away : (n number left : ℕ) (wanted refused : Bool) (reply : List ℕ) → is_on n (phase_told wanted refused reply (Asked number left)) ≡ false
told_away n number zero true true reply = refl
told_away n number (suc left) true true reply = refl
told_away n number left false true reply = refl
told_away n number left true false reply = refl
told_away n number left false false reply = refl

lost_away : (n number left : ℕ) (wanted begun : Bool) → is_on n (phase_lost wanted begun (Asked number left)) ≡ false
lost_away n number left true true = refl
lost_away n number left false true = refl
lost_away n number left true false = refl
lost_away n number left false false = refl

ended_away : (n : ℕ) (cause : Cause) (phase : Phase) → is_on n (phase_ended cause phase) ≡ is_on n phase
ended_away n cause (Waits left) = refl
ended_away n cause (Asked link left) = refl
ended_away n cause (Answered reply) = refl
ended_away n cause Lost = refl
ended_away n cause (Refused error) = refl
ended_away n cause (Unsent cause2) = refl

-- how often a part is on its way, before an event and after it
phase_count : (n call part : ℕ) (e : Event) (s : State) (wanted : Bool) (p : PartState) → IsSingle s → MayBy AsQueue e s → part_at call part s ≡ Some p
    → cond (is_on n (phase_after call part e wanted p)) 1 0 + took_from n call part e ≡ cond (is_on n p.phase) 1 0 + put_on n call part e
phase_count n call part (On m (link.Put requests)) s wanted p single may at =
    by_test (asks call part requests)
    (λ k.
    let ask = (may_ask m call part requests s may k).1 in
    let same : ask.it ≡ p = same_part ask.it p (sym (part_is ask.caller call part s ask.it ask.has) ∙ at) in
    let w = that_waits p.phase (ap (λ (x : PartState). is_waiting x.phase) (sym same) ∙ ask.waits) in
    rw (k, w.1) (omega arith))
    (λ k. rw k (by_test (eqb m n) (λ q. rw q refl) (λ q. rw q refl)))
phase_count n call part (On m (link.Take ticket reply)) s wanted p single may at =
    by_test (is_part call part ticket)
    (λ k.
    let there : is_on m p.phase ≡ true = ap (is_there m) (sym at) ∙ first_there m call part ticket may.channel may.may.0 s single may.link_is may.may.1 may.may.2 k in
    let w = on_its_way m p.phase there in
    rw (k, w.1, told_away n m w.0 wanted (is_refusal p reply) reply) (omega arith))
    (λ k. rw k (by_test (eqb m n) (λ q. rw q refl) (λ q. rw q refl)))
phase_count n call part (On m (link.Lose ticket begun)) s wanted p single may at =
    by_test (is_part call part ticket)
    (λ k.
    let there : is_on m p.phase ≡ true = ap (is_there m) (sym at) ∙ first_there m call part ticket may.channel may.may.0 s single may.link_is may.may.1 may.may.2 k in
    let w = on_its_way m p.phase there in
    rw (k, w.1, lost_away n m w.0 wanted begun) (omega arith))
    (λ k. rw k (by_test (eqb m n) (λ q. rw q refl) (λ q. rw q refl)))
phase_count n call part (GiveUp c) s wanted p single may at = by_test (eqb c call) (λ k. rw (k, ended_away n GivenUp p.phase) refl) (λ k. rw k refl)
phase_count n call part (End c q cause) s wanted p single may at = by_test (eqb c call && eqb q part) (λ k. rw (k, ended_away n cause p.phase) refl) (λ k. rw k refl)
phase_count n call part e s wanted p single may at = refl

-- ---- a part that nothing happens to

-- the event has a ticket of this part
abbrev pub touches : ℕ → ℕ → Event → Bool
touches call part (On m (link.Put requests)) = asks call part requests
touches call part (On m (link.Take ticket reply)) = is_part call part ticket
touches call part (On m (link.Lose ticket begun)) = is_part call part ticket
touches call part other = false

-- no such part is there, or it is done
abbrev pub IsIdle : ℕ → ℕ → State → Type 0
IsIdle call part s = (p : PartState) → part_at call part s ≡ Some p → is_done p.phase ≡ true

no_way : (phase : Phase) → is_done phase ≡ true → (number : ℕ) → is_on number phase ≡ false
no_way (Waits left) h number = refl
no_way (Asked link left) h number = absurd (false≢true h)
no_way (Answered reply) h number = refl
no_way Lost h number = refl
no_way (Refused error) h number = refl
no_way (Unsent cause) h number = refl

idle_there : (call part number : ℕ) (s : State) → IsIdle call part s → is_there number (part_at call part s) ≡ false
idle_there call part number s idle = elim (seen (part_at call part s)) [
  | inl none ↦ ap (is_there number) none
  | inr some ↦ ap (is_there number) some.1 ∙ no_way some.0.phase (idle some.0 some.1) number
]

idle_first : (number call part : ℕ) (ticket : Ticket) (c : Channel) (w : Wait) (s : State) → IsSingle s → slice_get s.links number ≡ Some (Some c) → slice_get c.waits 0 ≡ Some w → w.ticket ≡ ticket → IsIdle call part s → is_part call part ticket ≡ false
idle_first number call part ticket c w s single is first own idle =
    by_test (is_part call part ticket)
    (λ k. absurd (false≢true (sym (idle_there call part number s idle) ∙ first_there number call part ticket c w s single is first own k)))
    (λ k. k)

pub untouched : (call part : ℕ) (e : Event) (s : State) → IsSingle s → MayBy AsQueue e s → IsIdle call part s → touches call part e ≡ false
untouched call part (On m (link.Put requests)) s single may idle =
    by_test (asks call part requests)
    (λ k.
    let ask = (may_ask m call part requests s may k).1 in
    let w = that_waits ask.it.phase ask.waits in
    let done = idle ask.it (part_is ask.caller call part s ask.it ask.has) in
    absurd (false≢true (ap is_done (sym w.1) ∙ done)))
    (λ k. k)
untouched call part (On m (link.Take ticket reply)) s single may idle = idle_first m call part ticket may.channel may.may.0 s single may.link_is may.may.1 may.may.2 idle
untouched call part (On m (link.Lose ticket begun)) s single may idle = idle_first m call part ticket may.channel may.may.0 s single may.link_is may.may.1 may.may.2 idle
untouched call part e s single may idle = refl

untouched_count : (n call part : ℕ) (e : Event) → touches call part e ≡ false → (put_on n call part e ≡ 0) × (took_from n call part e ≡ 0)
untouched_count n call part (On m (link.Put requests)) h = rw h (by_test (eqb m n) (λ q. rw q (refl, refl)) (λ q. rw q (refl, refl)))
untouched_count n call part (On m (link.Take ticket reply)) h = rw h (by_test (eqb m n) (λ q. rw q (refl, refl)) (λ q. rw q (refl, refl)))
untouched_count n call part (On m (link.Lose ticket begun)) h = rw h (by_test (eqb m n) (λ q. rw q (refl, refl)) (λ q. rw q (refl, refl)))
untouched_count n call part e h = (refl, refl)

-- ---- each event keeps it

-- the part is not on its way after an event: it was not touched
single_idle : (n call part : ℕ) (e : Event) (s : State) → MayBy AsQueue e s → IsSingle s → IsIdle call part s → is_there n (part_at call part (after e s)) ≡ false
    → waiting call part (waits_at n (after e s)) ≡ cond (is_there n (part_at call part (after e s))) 1 0
single_idle n call part e s may single idle gone =
    let none = untouched_count n call part e (untouched call part e s single may idle) in
    let old = single n call part ∙ ap (λ b. cond b 1 0) (idle_there call part n s idle) in
    rw gone (omega (arith, counted n call part e s may, none.0, none.1, old))

single_at : (n call part : ℕ) (e : Event) (s : State) (p : PartState) (wanted : Bool) → MayBy AsQueue e s → IsSingle s → part_at call part s ≡ Some p
    → part_at call part (after e s) ≡ Some (in_phase p (phase_after call part e wanted p))
    → waiting call part (waits_at n (after e s)) ≡ cond (is_there n (part_at call part (after e s))) 1 0
single_at n call part e s p wanted may single at now =
    let old : waiting call part (waits_at n s) ≡ cond (is_on n p.phase) 1 0 = single n call part ∙ ap (λ o. cond (is_there n o) 1 0) at in
    rw now (omega (arith, counted n call part e s may, old, phase_count n call part e s wanted p single may at))

pub none_there : (q : ℕ) (call : ℕ) (s : State) → (call_at call s ≡ None) ⊎ (call_at call s ≡ Some left_call) → part_at call q s ≡ None
none_there q call s o = elim o [
  | inl none ↦ ap (option_and_then (λ c. slice_get c.parts q)) none
  | inr left ↦ ap (option_and_then (λ c. slice_get c.parts q)) left
]

-- a part that is there after an event, and was not before, waits
new_part : (n call part : ℕ) (e : Event) (s : State) → MayBy AsQueue e s → call_at call s ≡ None → is_there n (part_at call part (after e s)) ≡ false
new_part n call part e s may none = elim (seen (call_at call (after e s))) [
  | inl gone ↦ ap (is_there n) (none_there part call (after e s) (inl gone))
  | inr there ↦ elim (cases_lt call (begun s)) [
    | inl old ↦ elim (call_came AsQueue e call s there.0 may old there.1) [
      | inl came ↦ let no : None ≡ Some came.0 = sym none ∙ came.1 in absurd (cc)
      | inr left ↦ ap (is_there n) (none_there part call (after e s) (inr (there.1 ∙ ap Some left)))
    ]
    | inr new ↦
        let b = call_new AsQueue e call s there.0 may new there.1 in
        let wait = (subst (λ x. MayBy AsQueue x s) b.2 may).1 in
        elim (seen (slice_get b.1 part)) [
          | inl empty ↦ ap (λ o. is_there n (option_and_then (λ c. slice_get c.parts part) o)) (there.1 ∙ ap Some b.3) ∙ ap (is_there n) empty
          | inr p ↦
              let w = that_waits p.0.phase (all_at (λ x. is_waiting x.phase) b.1 part p.0 wait p.1) in
              ap (λ o. is_there n (option_and_then (λ c. slice_get c.parts part) o)) (there.1 ∙ ap Some b.3) ∙ ap (is_there n) p.1 ∙ ap (is_on n) w.1
        ]
  ]
]

single_after : (e : Event) (s : State) → MayBy AsQueue e s → IsSingle s → IsSingle (after e s)
single_after e s may single = λ n call part. elim (seen (call_at call s)) [
  | inl none ↦ single_idle n call part e s may single
      (λ p is. let no : None ≡ Some p = sym (none_there part call s (inl none)) ∙ is in absurd (cc))
      (new_part n call part e s may none)
  | inr c ↦ elim (seen (slice_get c.0.parts part)) [
    | inl empty ↦
        let old : part_at call part s ≡ None = ap (option_and_then (λ x. slice_get x.parts part)) c.1 ∙ empty in
        single_idle n call part e s may single
        (λ p is. let z : None ≡ Some p = sym old ∙ is in absurd (cc))
        (elim (call_goes AsQueue e call s c.0 may c.1) [
          | inl d ↦ ap (λ o. is_there n (option_and_then (λ x. slice_get x.parts part) o)) d.1 ∙ ap (is_there n) (d.2.parts part ∙ ap (option_map (λ p. in_phase p (phase_after call part e c.0.is_wanted p))) empty)
          | inr v ↦ ap (is_there n) (none_there part call (after e s) v.away)
        ])
    | inr p ↦
        let old : part_at call part s ≡ Some p.0 = ap (option_and_then (λ x. slice_get x.parts part)) c.1 ∙ p.1 in
        elim (call_goes AsQueue e call s c.0 may c.1) [
          | inl d ↦ single_at n call part e s p.0 c.0.is_wanted may single old
              (ap (option_and_then (λ x. slice_get x.parts part)) d.1 ∙ d.2.parts part ∙ ap (option_map (λ x. in_phase x (phase_after call part e c.0.is_wanted x))) p.1)
          | inr v ↦ single_idle n call part e s may single
              (λ x is. all_at (λ y. is_done y.phase) c.0.parts part x v.done (p.1 ∙ ap Some (same_part p.0 x (sym old ∙ is))))
              (ap (is_there n) (none_there part call (after e s) v.away))
        ]
  ]
]

pub single : (events : List Event) (s : State) → RunBy AsQueue start events s → IsSingle s
single events s run = always AsQueue (λ es t. IsSingle t) (λ n call part. ap (λ o. cond (is_there n o) 1 0) (sym (none_there part call start (inl (not_begun call start (omega arith)))))) (λ es e t reached may holds. single_after e t may holds) events s run
