-- What holds of each run of a link.
use Rattle.std.proofs.Common.{inl, inr, ◌≡◌, ◌<◌, ◌≤◌, ◌+◌, ◌++◌, ℕ, zero, suc, Bool, List, [], ◌∷◌, length, take, drop, replicate, map, true, Some, subst, sym, refl, ap, ◌∙◌, append_assoc, append-nil, arith, length-append, length-drop}
use Rattle.std.proofs.Math.Seq.{drop-append_seam}
use Rattle.std.proofs.lemmas.Grind.{flat_map-append}
use Rattle.std.proofs.lemmas.List.{drop-append-le, length-replicate}
use Rattle.std.proofs.lemmas.List.Elements.{All-nil, All-cons, All-append, All-replicate, All-weaker, All-get_or}
use Rattle.std.proofs.lemmas.Option.{same_Some, slice_get_within, get_or_from_slice_get}
use Rattle.std.specs.Prelude.{nat_lt}
use Rattle.std.specs.List.{All, slice_get}
use Rattle.resp.proofs.Messages.{same_message}
use Rattle.session_core.specs.declared.link.Ticket.{Ticket}
use Rattle.session_core.specs.declared.link.Ticket.TheVariants.{Asking}
use Rattle.session_core.specs.declared.link.Wait.{Wait}
use Rattle.session_core.specs.declared.link.BreakCause.{BreakCause}
use Rattle.session_core.specs.declared.link.BreakCause.TheVariants.{Malformed, Stray, Early, TooLong}
use Rattle.session_core.specs.declared.link.Standing.{Standing}
use Rattle.session_core.specs.declared.link.Standing.TheVariants.{Open, Ended}
use Rattle.session_core.specs.Channel.{Channel, Ask, written, fresh, bytes_of, placed}
use Rattle.session_core.specs.Reply.{IsReply}
use Rattle.session_core.specs.LinkEvents.{Event, Put, Write, Hear, Take, Break, Miss, End, Lose, May, Run, IsStep, IsPart, after, asking}
use Rattle.session_core.specs.LinkRuns.{asked, taken, lost, count_written, came, loss, closes, IsSilent, BeginsWithPart, IsAccounted}
use Rattle.session_core.proofs.PlaceLists.{get_before, get_dropped}

-- ---- one step

split : (before more : List Event) (c d : Channel) → Run c (before ++ more) d → (mid : Channel) × Run mid more d
split [] more c d run = (c, run)
split (event ∷ before) more c d run = split before more (after event c) d run.1

open_or_ended : {s : Standing} → s ≡ Open → s ≡ Ended → ⊥
open_or_ended e f = absurd (cc)

-- ---- silence

silent : (events : List Event) (c d : Channel) → Run c events d → (c.standing ≡ Open → ⊥) → IsSilent events
silent [] c d run shut = (refl, refl, refl)
silent (Put asks ∷ es) c d run shut = absurd (shut run.0.0)
silent (Hear b ∷ es) c d run shut = absurd (shut run.0)
silent (Take t r ∷ es) c d run shut = absurd (shut run.0.is_open)
silent (Break w ∷ es) c d run shut = absurd (shut run.0.0)
silent (Miss ∷ es) c d run shut = absurd (shut run.0)
silent (End ∷ es) c d run shut = silent es (after End c) d run.1 (λ e. absurd (cc))
silent (event ∷ es) c d run shut = silent es (after event c) d run.1 shut

shut_after : (event : Event) (c : Channel) → closes event ≡ true → (after event c).standing ≡ Open → ⊥
shut_after (Break w) c h e = absurd (cc)
shut_after event c h e = absurd (cc)

after_event : (event : Event) (before more events : List Event) (c d : Channel) → Run c events d → events ≡ before ++ event ∷ more → closes event ≡ true → IsSilent more
after_event event before more events c d run e h =
    let r = split before (event ∷ more) c d (subst (λ (es : List Event). Run c es d) e run) in
    silent more (after event r.0) d r.1.1 (shut_after event r.0 h)

-- ---- what came

incoming : (events : List Event) (c d : Channel) → Run c events d → c.heard ++ came events ≡ bytes_of (taken events) ++ d.heard
incoming [] c d run = append-nil c.heard ∙ ap (λ (m : Channel). m.heard) (sym run)
incoming (Hear b ∷ es) c d run = sym (append_assoc c.heard b (came es)) ∙ incoming es (after (Hear b) c) d run.1
incoming (Take t r ∷ es) c d run =
    let m = run.0.came in
    let left : drop (length r) c.heard ≡ m.rest = ap (drop (length r)) m.is ∙ drop-append_seam r m.rest in
    ap (λ (x : List ℕ). x ++ came es) (m.is ∙ ap (λ (x : List ℕ). r ++ x) (sym left)) ∙ append_assoc r (drop (length r) c.heard) (came es)
    ∙ ap (λ (x : List ℕ). r ++ x) (incoming es (after (Take t r) c) d run.1) ∙ sym (append_assoc r (bytes_of (taken es)) d.heard)
incoming (event ∷ es) c d run = incoming es (after event c) d run.1

same_most : (events : List Event) (c d : Channel) → Run c events d → d.most ≡ c.most
same_most [] c d run = ap (λ (m : Channel). m.most) run
same_most (Put asks ∷ es) c d run = same_most es (after (Put asks) c) d run.1
same_most (event ∷ es) c d run = same_most es (after event c) d run.1

abbrev IsShortReply : ℕ → Ask → Type 0
IsShortReply most t = IsReply t.1 × (length t.1 ≤ most)

replies : (events : List Event) (c d : Channel) → Run c events d → All (IsShortReply c.most) (taken events)
replies [] c d run = All-nil _
replies (Take t r ∷ es) c d run = All-cons (IsShortReply c.most) (t, r) (taken es) (run.0.is, run.0.short) (replies es (after (Take t r) c) d run.1)
replies (event ∷ es) c d run = replies es (after event c) d run.1

-- ---- what is written

abbrev IsWithin : Channel → Type 0
IsWithin c = length c.unwritten ≤ c.given

abbrev count_of : Event → ℕ
count_of (Write n) = n
count_of event = 0

counts : (event : Event) (events : List Event) → count_written (event ∷ events) ≡ count_of event + count_written events
counts (Write n) es = refl
counts event es = omega arith

within : (event : Event) (c : Channel) → May event c → IsWithin c → IsWithin (after event c)
within (Put asks) c may h = omega (arith, length-append c.unwritten (bytes_of asks))
within (Write n) c may h = omega (arith, length-drop n c.unwritten)
within event c may h = h

adds : (event : Event) (c : Channel) → May event c → IsWithin c → written (after event c) ≡ written c + count_of event
adds (Put asks) c may h = omega (arith, length-append c.unwritten (bytes_of asks))
adds (Write n) c may h = omega (arith, may.1, length-drop n c.unwritten)
adds event c may h = omega arith

counted_is : (events : List Event) (c d : Channel) → Run c events d → IsWithin c → written d ≡ written c + count_written events
counted_is [] c d run h = ap written run ∙ omega arith
counted_is (event ∷ es) c d run h =
    omega (arith, counts event es, adds event c run.0 h, counted_is es (after event c) d run.1 (within event c run.0 h))

-- Nothing is written once the connection ended.
none_written : (events : List Event) (c d : Channel) → Run c events d → c.standing ≡ Ended → written d ≡ written c
none_written [] c d run ended = ap written run
none_written (Put asks ∷ es) c d run ended = absurd (open_or_ended run.0.0 ended)
none_written (Write n ∷ es) c d run ended = absurd (run.0.0 ended)
none_written (Hear b ∷ es) c d run ended = absurd (open_or_ended run.0 ended)
none_written (Take t r ∷ es) c d run ended = absurd (open_or_ended run.0.is_open ended)
none_written (Break w ∷ es) c d run ended = absurd (open_or_ended run.0.0 ended)
none_written (Miss ∷ es) c d run ended = absurd (open_or_ended run.0 ended)
none_written (End ∷ es) c d run ended = absurd (run.0 ended)
none_written (event ∷ es) c d run ended = none_written es (after event c) d run.1 ended

drop_both : (n k : ℕ) (u x : List ℕ) → n ≤ length u → drop k (drop n u ++ x) ≡ drop (n + k) (u ++ x)
drop_both zero k u x h = ap (λ (m : ℕ). drop m (u ++ x)) (omega arith)
drop_both (suc n) k [] x h = absurd (omega arith)
drop_both (suc n) k (y ∷ u) x h =
    let more : suc (n + k) ≡ suc n + k = omega arith in
    drop_both n k u x (omega arith) ∙ ap (λ (m : ℕ). drop m ((y ∷ u) ++ x)) more

bytes-append : (xs ys : List Ask) → bytes_of (xs ++ ys) ≡ bytes_of xs ++ bytes_of ys
bytes-append xs ys = flat_map-append (λ (ask : Ask). ask.1) xs ys

abbrev IsOutgoing : ℕ → List ℕ → Channel → Type 0
IsOutgoing count bytes d = d.unwritten ≡ drop count bytes

outgoing : (events : List Event) (c d : Channel) → Run c events d → IsOutgoing (count_written events) (c.unwritten ++ bytes_of (asked events)) d
outgoing [] c d run = ap (λ (m : Channel). m.unwritten) run ∙ sym (append-nil c.unwritten)
outgoing (Put asks ∷ es) c d run =
    outgoing es (after (Put asks) c) d run.1
    ∙ ap (drop (count_written es)) (append_assoc c.unwritten (bytes_of asks) (bytes_of (asked es)) ∙ ap (λ (b : List ℕ). c.unwritten ++ b) (sym (bytes-append asks (asked es))))
outgoing (Write n ∷ es) c d run = outgoing es (after (Write n) c) d run.1 ∙ drop_both n (count_written es) c.unwritten (bytes_of (asked es)) run.0.1
outgoing (event ∷ es) c d run = outgoing es (after event c) d run.1

given_is : (events : List Event) (c d : Channel) → Run c events d → d.given ≡ c.given + length (bytes_of (asked events))
given_is [] c d run = ap (λ (m : Channel). m.given) run ∙ omega arith
given_is (Put asks ∷ es) c d run =
    omega (arith, given_is es (after (Put asks) c) d run.1, ap (length {A = ℕ}) (bytes-append asks (asked es)), length-append (bytes_of asks) (bytes_of (asked es)))
given_is (event ∷ es) c d run = given_is es (after event c) d run.1

-- ---- who waits, is answered and is lost

-- all that wait, or are asked later
abbrev all_waits : List Event → Channel → List Wait
all_waits es c = c.waits ++ placed c.given (asked es)

-- Of these the first are answered, the next lost, and the others wait.
record AreInTurn (answered : List Ask) (losses : List (Ticket × Bool)) (waits : List Wait) (d : Channel) : Type 0 where
  tickets : map (λ t. t.0) answered ≡ map (λ (w : Wait). w.ticket) (take (length answered) waits)
  losses_are : losses ≡ map (loss (written d)) (take (length losses) (drop (length answered) waits))
  others : d.waits ≡ drop (length answered + length losses) waits

placed-append : (start : ℕ) (xs ys : List Ask) → placed start (xs ++ ys) ≡ placed start xs ++ placed (start + length (bytes_of xs)) ys
placed-append start [] ys = ap (λ (n : ℕ). placed n ys) (omega arith)
placed-append start (x ∷ xs) ys =
    let sum : start + length x.1 + length (bytes_of xs) ≡ start + length (bytes_of (x ∷ xs)) = omega (arith, length-append x.1 (bytes_of xs)) in
    ap (λ (ws : List Wait). record { ticket = x.0; start = start; end = start + length x.1 } ∷ ws)
    (placed-append (start + length x.1) xs ys ∙ ap (λ (n : ℕ). placed (start + length x.1) xs ++ placed n ys) sum)

first_of : (waits : List Wait) (w : Wait) → slice_get waits 0 ≡ Some w → waits ≡ w ∷ drop 1 waits
first_of [] w e = absurd (cc)
first_of (x ∷ waits) w e = cc

took : (w : Wait) (t : Ticket) (r : List ℕ) (answered : List Ask) (losses : List (Ticket × Bool)) (waits : List Wait) (d : Channel) → w.ticket ≡ t → AreInTurn answered losses waits d
    → AreInTurn ((t, r) ∷ answered) losses (w ∷ waits) d
took w t r answered losses waits d own h =
    let count : suc (length answered + length losses) ≡ suc (length answered) + length losses = omega arith in
    record {
      tickets = ap (λ (ts : List Ticket). t ∷ ts) h.tickets ∙ ap (λ (u : Ticket). u ∷ map (λ (v : Wait). v.ticket) (take (length answered) waits)) (sym own);
      losses_are = h.losses_are;
      others = h.others ∙ ap (λ (n : ℕ). drop n (w ∷ waits)) count;
    }

gave_up : (w : Wait) (t : Ticket) (b : Bool) (losses : List (Ticket × Bool)) (waits : List Wait) (d : Channel) → w.ticket ≡ t → b ≡ nat_lt w.start (written d) → AreInTurn [] losses waits d
    → AreInTurn [] ((t, b) ∷ losses) (w ∷ waits) d
gave_up w t b losses waits d own begun h =
    let count : suc (0 + length losses) ≡ 0 + suc (length losses) = omega arith in
    let head : (t, b) ≡ loss (written d) w = ap (λ (u : Ticket). (u, b)) (sym own) ∙ ap (λ (x : Bool). (w.ticket, x)) begun in
    record {
      tickets = refl;
      losses_are = ap (λ (x : Ticket × Bool). x ∷ losses) head ∙ ap (λ (xs : List (Ticket × Bool)). loss (written d) w ∷ xs) h.losses_are;
      others = h.others ∙ ap (λ (n : ℕ). drop n (w ∷ waits)) count;
    }

in_turn : (events : List Event) (c d : Channel) → Run c events d → IsWithin c → AreInTurn (taken events) (lost events) (all_waits events c) d
in_turn [] c d run h = record { tickets = refl; losses_are = refl; others = ap (λ (m : Channel). m.waits) run ∙ sym (append-nil c.waits) }
in_turn (Put asks ∷ es) c d run h =
    let same : all_waits es (after (Put asks) c) ≡ all_waits (Put asks ∷ es) c = append_assoc c.waits (placed c.given asks) _ ∙ ap (λ (ws : List Wait). c.waits ++ ws) (sym (placed-append c.given asks (asked es))) in
    subst (λ (ws : List Wait). AreInTurn (taken es) (lost es) ws d) same (in_turn es (after (Put asks) c) d run.1 (within (Put asks) c run.0 h))
in_turn (Write n ∷ es) c d run h = in_turn es (after (Write n) c) d run.1 (within (Write n) c run.0 h)
in_turn (Take t r ∷ es) c d run h =
    let m = run.0 in
    subst (λ (ws : List Wait). AreInTurn ((t, r) ∷ taken es) (lost es) (ws ++ placed c.given (asked es)) d) (sym (first_of c.waits m.wait m.is_for.first))
    (took m.wait t r (taken es) (lost es) _ d m.ticket_is (in_turn es (after (Take t r) c) d run.1 h))
in_turn (Lose t b ∷ es) c d run h =
    let m = run.0 in
    let left = run.1 in
    let none : taken es ≡ [] = (silent es (after (Lose t b) c) d left (λ e. open_or_ended e m.ended)).2 in
    let same : written d ≡ written c = none_written es (after (Lose t b) c) d left m.ended in
    let begun : b ≡ nat_lt m.wait.start (written d) = m.begun_is ∙ ap (λ (n : ℕ). nat_lt m.wait.start n) (sym same) in
    let others = subst (λ (ts : List Ask). AreInTurn ts (lost es) (drop 1 c.waits ++ placed c.given (asked es)) d) none (in_turn es (after (Lose t b) c) d left h) in
    subst (λ (ts : List Ask). AreInTurn ts ((t, b) ∷ lost es) (c.waits ++ placed c.given (asked es)) d) (sym none)
    (subst (λ (ws : List Wait). AreInTurn [] ((t, b) ∷ lost es) (ws ++ placed c.given (asked es)) d) (sym (first_of c.waits m.wait m.first)) (gave_up m.wait t b (lost es) _ d m.ticket_is begun others))
in_turn (event ∷ es) c d run h = in_turn es (after event c) d run.1 h

tickets_placed : (start n : ℕ) (asks : List Ask) → map (λ (w : Wait). w.ticket) (take n (placed start asks)) ≡ take n (map (λ (ask : Ask). ask.0) asks)
tickets_placed start zero asks = refl
tickets_placed start (suc n) [] = refl
tickets_placed start (suc n) (ask ∷ asks) = ap (λ (ts : List Ticket). ask.0 ∷ ts) (tickets_placed (start + length ask.1) n asks)

-- ---- when replies came

-- for each byte that comes, how many bytes were written before it, if so many were at first
abbrev counts_before : ℕ → List Event → List ℕ
counts_before n [] = []
counts_before n (Write k ∷ es) = counts_before (n + k) es
counts_before n (Hear b ∷ es) = replicate (length b) n ++ counts_before n es
counts_before n (event ∷ es) = counts_before n es

-- The first of these requests was written to its end before the first of these bytes came.
record IsTimely (waits : List Wait) (counts : List ℕ) : Type 0 where
  wait : Wait
  first : slice_get waits 0 ≡ Some wait
  count : ℕ
  before : slice_get counts 0 ≡ Some count
  is : wait.end ≤ count

abbrev AreTimely : List Ask → List Wait → List ℕ → Type 0
AreTimely [] waits counts = Unit {0}
AreTimely (t ∷ ts) waits counts = IsTimely waits counts × AreTimely ts (drop 1 waits) (drop (length t.1) counts)

abbrev AreCounted : Channel → Type 0
AreCounted c = length c.written_before ≡ length c.heard

still_counted : (event : Event) (c : Channel) → AreCounted c → AreCounted (after event c)
still_counted (Hear b) c h = omega (arith, h, length-append c.written_before (replicate (length b) (written c)), length-append c.heard b, length-replicate (length b) (written c))
still_counted (Take t r) c h = omega (arith, h, length-drop (length r) c.written_before, length-drop (length r) c.heard)
still_counted event c h = h

timely : (events : List Event) (c d : Channel) → Run c events d → IsWithin c → AreCounted c → AreTimely (taken events) (all_waits events c) (c.written_before ++ counts_before (written c) events)
timely [] c d run h k = tt
timely (Put asks ∷ es) c d run h k =
    let same : all_waits es (after (Put asks) c) ≡ all_waits (Put asks ∷ es) c = append_assoc c.waits (placed c.given asks) _ ∙ ap (λ (ws : List Wait). c.waits ++ ws) (sym (placed-append c.given asks (asked es))) in
    let count : written (after (Put asks) c) ≡ written c = omega (arith, adds (Put asks) c run.0 h) in
    subst (λ (ws : List Wait). AreTimely (taken es) ws (c.written_before ++ counts_before (written c) es)) same
    (subst (λ (n : ℕ). AreTimely (taken es) (all_waits es (after (Put asks) c)) (c.written_before ++ counts_before n es)) count
    (timely es (after (Put asks) c) d run.1 (within (Put asks) c run.0 h) k))
timely (Write n ∷ es) c d run h k =
    subst (λ (m : ℕ). AreTimely (taken es) (all_waits es c) (c.written_before ++ counts_before m es)) (adds (Write n) c run.0 h)
    (timely es (after (Write n) c) d run.1 (within (Write n) c run.0 h) k)
timely (Hear b ∷ es) c d run h k =
    subst (AreTimely (taken es) (all_waits es c)) (append_assoc c.written_before (replicate (length b) (written c)) (counts_before (written c) es))
    (timely es (after (Hear b) c) d run.1 h (still_counted (Hear b) c k))
timely (Take t r ∷ es) c d run h k =
    let m = run.0 in
    let f = m.is_for in
    let some : 1 ≤ length c.waits = omega (arith, slice_get_within c.waits 0 m.wait f.first) in
    let long : length r ≤ length c.written_before = omega (arith, k, ap (length {A = ℕ}) m.came.is, length-append r m.came.rest) in
    let later = placed c.given (asked es) in
    let counts = counts_before (written c) es in (
      record {
        wait = m.wait;
        first = get_before c.waits later 0 some ∙ f.first;
        count = f.count;
        before = get_before c.written_before counts 0 (slice_get_within c.written_before 0 f.count f.before) ∙ f.before;
        is = f.is;
      },
      rw (drop-append-le 1 c.waits later some, drop-append-le (length r) c.written_before counts long) (timely es (after (Take t r) c) d run.1 h (still_counted (Take t r) c k)),
    )
timely (Lose t b ∷ es) c d run h k =
    let left = run.1 in
    let none : taken es ≡ [] = (silent es (after (Lose t b) c) d left (λ e. open_or_ended e run.0.ended)).2 in
    subst (λ (ts : List Ask). AreTimely ts (all_waits (Lose t b ∷ es) c) (c.written_before ++ counts_before (written c) es)) (sym none) tt
timely (event ∷ es) c d run h k = timely es (after event c) d run.1 h k

timely_at : (ts : List Ask) (waits : List Wait) (counts : List ℕ) (i : ℕ) (wait : Wait) → AreTimely ts waits counts → i < length ts → slice_get waits i ≡ Some wait
    → (count : ℕ) × (slice_get counts (length (bytes_of (take i ts))) ≡ Some count) × (wait.end ≤ count)
timely_at [] waits counts i wait h lt is = absurd (omega arith)
timely_at (t ∷ ts) waits counts zero wait h lt is =
    let same : h.0.wait ≡ wait = same_Some h.0.wait wait (sym h.0.first ∙ is) in
    (h.0.count, h.0.before, omega (arith, h.0.is, ap (λ (w : Wait). w.end) same))
timely_at (t ∷ ts) waits counts (suc i) wait h lt is =
    let one : 1 + i ≡ suc i = omega arith in
    let later = timely_at ts (drop 1 waits) (drop (length t.1) counts) i wait h.1 (omega arith) (get_dropped 1 waits i ∙ ap (slice_get waits) one ∙ is) in
    (later.0, ap (slice_get counts) (length-append t.1 (bytes_of (take i ts))) ∙ sym (get_dropped (length t.1) counts (length (bytes_of (take i ts)))) ∙ later.1, later.2)

counts-append : (n : ℕ) (before more : List Event) → counts_before n (before ++ more) ≡ counts_before n before ++ counts_before (n + count_written before) more
counts-append n [] more = let same : n ≡ n + 0 = omega arith in ap (λ (k : ℕ). counts_before k more) same
counts-append n (Write k ∷ es) more =
    let sum : n + k + count_written es ≡ n + (k + count_written es) = omega arith in
    counts-append (n + k) es more ∙ ap (λ (m : ℕ). counts_before (n + k) es ++ counts_before m more) sum
counts-append n (Hear b ∷ es) more = ap (λ (xs : List ℕ). replicate (length b) n ++ xs) (counts-append n es more) ∙ sym (append_assoc (replicate (length b) n) (counts_before n es) _)
counts-append n (event ∷ es) more = counts-append n es more

-- as many as came, and none is more than was written
abbrev AreCounts : ℕ → List Event → Type 0
AreCounts n es = (length (counts_before n es) ≡ length (came es)) × All (λ k. k ≤ n + count_written es) (counts_before n es)

counts_are : (n : ℕ) (es : List Event) → AreCounts n es
counts_are n [] = (refl, All-nil _)
counts_are n (Write k ∷ es) =
    let h = counts_are (n + k) es in
    (h.0, All-weaker (λ x. x ≤ n + k + count_written es) (λ x. x ≤ n + (k + count_written es)) (λ x le. omega (arith, le)) _ h.1)
counts_are n (Hear b ∷ es) =
    let h = counts_are n es in (
      omega (arith, h.0, length-append (replicate (length b) n) (counts_before n es), length-replicate (length b) n, length-append b (came es)),
      All-append (λ x. x ≤ n + count_written es) _ _ (All-replicate (λ x. x ≤ n + count_written es) (length b) n (omega arith)) h.1,
    )
counts_are n (event ∷ es) = counts_are n es

all_at : (P : ℕ → Type 0) (xs : List ℕ) (i x : ℕ) → All P xs → slice_get xs i ≡ Some x → P x
all_at P xs i x all is = subst P (get_or_from_slice_get xs i x 0 is) (All-get_or P xs i 0 (slice_get_within xs i x is) all)

was_written : (events : List Event) (most : ℕ) (d : Channel) → Run (fresh most) events d → (before more : List Event) (i : ℕ) (wait : Wait) → events ≡ before ++ more → i < length (taken events)
    → slice_get (placed 0 (asked events)) i ≡ Some wait → length (bytes_of (take i (taken events))) < length (came before) → wait.end ≤ count_written before
was_written events most d run before more i wait e lt is early =
    let place = length (bytes_of (take i (taken events))) in
    let f = timely_at (taken events) (placed 0 (asked events)) (counts_before 0 events) i wait (timely events (fresh most) d run (omega arith) refl) lt is in
    let counts = counts_are 0 before in
    let whole : counts_before 0 events ≡ counts_before 0 before ++ counts_before (0 + count_written before) more = ap (counts_before 0) e ∙ counts-append 0 before more in
    let within : place < length (counts_before 0 before) = omega (arith, counts.0, early) in
    let here : slice_get (counts_before 0 before) place ≡ Some f.0 = sym (get_before (counts_before 0 before) _ place within) ∙ ap (λ (xs : List ℕ). slice_get xs place) (sym whole) ∙ f.1 in
    omega (arith, f.2, all_at (λ k. k ≤ 0 + count_written before) (counts_before 0 before) place f.0 counts.1 here)

-- ---- `ASKING` and its part

abbrev IsFollowed : Ask → List Ask → Type 0
IsFollowed ask more = ask.0 ≡ Asking → (ask.1 ≡ asking) × BeginsWithPart more

abbrev ArePaired : List Ask → Type 0
ArePaired [] = Unit {0}
ArePaired (ask ∷ more) = IsFollowed ask more × ArePaired more

step_paired : (asks : List Ask) → IsStep asks → ArePaired asks
step_paired [] h = absurd h
step_paired (ask ∷ []) h = (λ e. absurd (h.0 e), tt)
step_paired (ask ∷ part ∷ []) h = (λ e. (ap (λ (a : Ask). a.1) h.0, h.1), (λ e. absurd (subst IsPart e h.1), tt))
step_paired (ask ∷ part ∷ third ∷ more) h = absurd h

begins-append : (xs ys : List Ask) → BeginsWithPart xs → BeginsWithPart (xs ++ ys)
begins-append [] ys h = absurd h
begins-append (x ∷ xs) ys h = h

paired-append : (xs ys : List Ask) → ArePaired xs → ArePaired ys → ArePaired (xs ++ ys)
paired-append [] ys h k = k
paired-append (x ∷ xs) ys h k = (
  λ e.
      let f = h.0 e in
      (f.0, begins-append xs ys f.1),
  paired-append xs ys h.1 k,
)

paired : (events : List Event) (c d : Channel) → Run c events d → ArePaired (asked events)
paired [] c d run = tt
paired (Put asks ∷ es) c d run = paired-append asks (asked es) (step_paired asks run.0.1) (paired es (after (Put asks) c) d run.1)
paired (event ∷ es) c d run = paired es (after event c) d run.1

followed : (asks before more : List Ask) (request : List ℕ) → ArePaired asks → asks ≡ before ++ (Asking, request) ∷ more → (request ≡ asking) × BeginsWithPart more
followed asks before more request h e = at before (subst ArePaired e h)
  where
    at : (before : List Ask) → ArePaired (before ++ (Asking, request) ∷ more) → (request ≡ asking) × BeginsWithPart more
    at [] h = h.0 refl
    at (ask ∷ before) h = at before h.1

-- ---- all together

pub accounted : (events : List Event) (most : ℕ) (c : Channel) → Run (fresh most) events c → IsAccounted events c
accounted events most c run =
    let some : IsWithin (fresh most) = omega arith in
    let turn = in_turn events (fresh most) c run some in
    let count : written c ≡ count_written events = omega (arith, counted_is events (fresh most) c run some) in
    record {
      in_turn = turn.tickets ∙ tickets_placed 0 (length (taken events)) (asked events);
      was_written = was_written events most c run;
      incoming = incoming events (fresh most) c run;
      replies = subst (λ (n : ℕ). All (IsShortReply n) (taken events)) (sym (same_most events (fresh most) c run)) (replies events (fresh most) c run);
      outgoing = outgoing events (fresh most) c run ∙ ap (λ (n : ℕ). drop n (bytes_of (asked events))) (sym count);
      given_is = given_is events (fresh most) c run ∙ omega arith;
      written_is = count;
      losses = turn.losses_are;
      waiting = turn.others;
      asking_before_part = λ before more request e. followed (asked events) before more request (paired events (fresh most) c run) e;
      silent_after = λ before more event e h. after_event event before more events (fresh most) c run e h;
    }

-- ---- no reply is left

no_wait : (waits : List Wait) (wait : Wait) → waits ≡ [] → slice_get waits 0 ≡ Some wait → ⊥
no_wait waits wait none some = absurd (cc)

pub take_or_break : (c : Channel) (cause : BreakCause) (ticket : Ticket) (reply : List ℕ) → May (Break cause) c → May (Take ticket reply) c → ⊥
take_or_break c Malformed ticket reply b t = b.1.1 [] reply t.came.rest t.is (append-nil c.heard ∙ t.came.is)
take_or_break c Stray ticket reply b t = no_wait c.waits t.wait b.1.1 t.is_for.first
take_or_break c Early ticket reply b t =
    let wait = same_Some t.wait b.1.0 (sym t.is_for.first ∙ b.1.2) in
    let count : t.is_for.count ≡ b.1.1 = same_Some t.is_for.count b.1.1 (sym t.is_for.before ∙ b.1.3) in
    omega (arith, b.1.4, t.is_for.is, count, ap (λ (w : Wait). w.end) wait)
take_or_break c TooLong ticket reply b t = elim b.1.1 [
  | inl long ↦
      let same = same_message long.0 long.2.rest reply t.came.rest long.1 t.is.0 (sym long.2.is ∙ t.came.is) in
      omega (arith, long.3, t.short, ap (length {A = ℕ}) same)
  | inr more ↦ more.0.0 reply t.came.rest t.is.0 t.came.is
]
