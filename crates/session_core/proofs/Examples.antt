-- Runs that the laws speak of, and tests computed.
use Rattle.std.proofs.Common.{◌≡◌, ◌<◌, ◌-◌, ℕ, zero, suc, true, false, List, [], ◌∷◌, None, Some, refl, sym, ap, ◌∙◌, arith}
use Rattle.std.specs.Prelude.{codes}
use Rattle.std.specs.Fmt.{digits}
use Rattle.std.specs.List.{slice_get}
use Rattle.std.proofs.lemmas.Option.{slice_get_past}
use Rattle.resp.specs.Messages.{IsHead, IsMessage, kind_of}
use Rattle.session_core.specs.declared.link.Ticket.TheVariants.{Part}
use Rattle.session_core.specs.declared.part.PartOrder.TheVariants.{OfSlot, Whole, Free}
use Rattle.session_core.specs.LinkEvents as link
use Rattle.session_core.specs.Part as part
use Rattle.session_core.specs.Part.{PartState, Waits, have_order, is_refusal}
use Rattle.session_core.specs.State.{CallState, State, Event, Open, On, Begin, Finish, start, call_at, part_at, Has, lets_by, AreApart, MayAsk, after, Run}
use Rattle.session_core.specs.History.{CallPart, Began, Asked, Refused, Unwritten, Settled, takes_effect, may_all_follow}
use Rattle.session_core.proofs.AfterEvents.{call_is, same_call}
use Rattle.session_core.proofs.Waiting.{same_part}
use Rattle.session_core.proofs.Puts.{part_alone}

-- ---- refusals and orders

-- `GET a`
abbrev get_a : PartState
get_a = record { request = codes "GET a"; order = OfSlot 15495; may_refuse = true; phase = Waits 2 }

own_slot : is_refusal get_a (codes "-MOVED 15495 n3:1\r\n") ≡ true
unfolding digits
own_slot = refl

ask_for_it : is_refusal get_a (codes "-ASK 15495 n3:1\r\n") ≡ true
unfolding digits
ask_for_it = refl

another_slot : is_refusal get_a (codes "-MOVED 1549 n3:1\r\n") ≡ false
unfolding digits
another_slot = refl

try_again : is_refusal get_a (codes "-TRYAGAIN x\r\n") ≡ true
try_again = refl

loading : is_refusal get_a (codes "-LOADING\r\n") ≡ true
loading = refl

another_name : is_refusal get_a (codes "-TRYAGAINx\r\n") ≡ false
another_name = refl

a_reply : is_refusal get_a (codes "$1\r\nx\r\n") ≡ false
a_reply = refl

a_script : is_refusal (record get_a { may_refuse = false }) (codes "-MOVED 15495 evil:1\r\n") ≡ false
a_script = refl

same_slot : have_order (OfSlot 1) (OfSlot 1) ≡ true
same_slot = refl

other_slots : have_order (OfSlot 1) (OfSlot 2) ≡ false
other_slots = refl

barrier : have_order (OfSlot 1) Whole ≡ true
barrier = refl

ping : have_order Whole Free ≡ false
ping = refl

-- ---- a run

-- `SET a 1` and `SET a 2`, calls 0 and 1 of caller 7
abbrev set_1 : PartState
set_1 = record { request = codes "SET a 1"; order = OfSlot 15495; may_refuse = true; phase = Waits 1 }

abbrev set_2 : PartState
set_2 = record { request = codes "SET a 2"; order = OfSlot 15495; may_refuse = true; phase = Waits 1 }

abbrev first_seat : CallPart
first_seat = record { caller = 7; call = 0; part = 0; began = set_1 }

abbrev second_seat : CallPart
second_seat = record { caller = 7; call = 1; part = 0; began = set_2 }

abbrev put_1 : Event
put_1 = On 0 (link.Put ((Part 0 0, codes "SET a 1") ∷ []))

abbrev put_2 : Event
put_2 = On 0 (link.Put ((Part 1 0, codes "SET a 2") ∷ []))

-- both are asked on link 0
abbrev opened : State
opened = after (Open 0 100) start

abbrev begun_1 : State
begun_1 = after (Begin 0 7 (set_1 ∷ [])) opened

abbrev begun_2 : State
begun_2 = after (Begin 1 7 (set_2 ∷ [])) begun_1

abbrev asked_1 : State
asked_1 = after put_1 begun_2

abbrev asked_2 : State
asked_2 = after put_2 asked_1

first_of : (x : PartState) (q : ℕ) (p : PartState) → slice_get (x ∷ []) q ≡ Some p → x ≡ p
first_of x zero p h = same_part x p h
first_of x (suc q) p h = absurd (cc)

-- a part of a call past the second
past : (s : State) (c d : CallState) (caller n q : ℕ) (p : PartState) → s.first ≡ 0 → s.calls ≡ c ∷ d ∷ [] → 1 < n → Has s caller n q p → ⊥
past s c d caller n q p none calls lt has =
    let at : call_at n s ≡ slice_get (c ∷ d ∷ []) n = call_is n s (omega (arith, none)) ∙ ap (λ m. slice_get s.calls (n - m)) none ∙ ap (slice_get s.calls) (let z : n - 0 ≡ n = omega arith in z) ∙ ap (λ cs. slice_get cs n) calls in
    let gone : slice_get (c ∷ d ∷ []) n ≡ None = slice_get_past (c ∷ d ∷ []) n (omega arith) in
    let two : None ≡ Some has.state = sym gone ∙ sym at ∙ has.call_is in
    cc

-- the one part of a call
its_part : (s : State) (c : CallState) (x : PartState) (caller n q : ℕ) (p : PartState) → call_at n s ≡ Some c → c.parts ≡ x ∷ [] → Has s caller n q p → x ≡ p
its_part s c x caller n q p is parts has = first_of x q p (ap (λ xs. slice_get xs q) (sym parts) ∙ ap (λ (y : CallState). slice_get y.parts q) (same_call c has.state (sym is ∙ has.call_is)) ∙ has.part_is)

not_yet : (n q : ℕ) (p : PartState) → 0 < n → Has begun_2 7 n q p → part.is_effective p.phase ≡ false
not_yet zero q p lt has = absurd (omega arith)
not_yet (suc zero) q p lt has = ap (λ (x : PartState). part.is_effective x.phase) (sym (its_part begun_2 _ set_2 7 1 q p refl refl has))
not_yet (suc (suc n)) q p lt has = absurd (past begun_2 _ _ 7 (suc (suc n)) q p refl refl (omega arith) has)

goes_ahead : (n q : ℕ) (p : PartState) → n < 1 → Has asked_1 7 n q p → lets_by 0 set_2 p ≡ true
goes_ahead zero q p lt has = ap (lets_by 0 set_2) (sym (its_part asked_1 _ (record set_1 { phase = part.Asked 0 1 }) 7 0 q p refl refl has))
goes_ahead (suc n) q p lt has = absurd (omega arith)

none_later : (n q : ℕ) (p : PartState) → 1 < n → Has asked_1 7 n q p → ⊥
none_later n q p lt has = past asked_1 _ _ 7 n q p refl refl lt has

one_apart : (x : PartState) → AreApart (x ∷ [])
one_apart x i zero p q lt a b = absurd (omega arith)
one_apart x i (suc j) p q lt a b = absurd (cc)

may_put_1 : MayAsk begun_2 0 0 0 (codes "SET a 1")
may_put_1 = record {
  caller = 7;
  it = set_1;
  has = record { state = record { caller = 7; parts = set_1 ∷ []; is_wanted = true }; call_is = refl; caller_is = refl; part_is = refl };
  wanted = refl;
  waits = refl;
  request_is = refl;
  earlier = λ n q p lt has order. absurd (omega arith);
  later = λ n q p lt has order. not_yet n q p lt has;
}

may_put_2 : MayAsk asked_1 0 1 0 (codes "SET a 2")
may_put_2 = record {
  caller = 7;
  it = set_2;
  has = record { state = record { caller = 7; parts = set_2 ∷ []; is_wanted = true }; call_is = refl; caller_is = refl; part_is = refl };
  wanted = refl;
  waits = refl;
  request_is = refl;
  earlier = λ n q p lt has order. goes_ahead n q p lt has;
  later = λ n q p lt has order. absurd (none_later n q p lt has);
}

abbrev call_1 : CallState
call_1 = record { caller = 7; parts = record set_1 { phase = part.Asked 0 1 } ∷ []; is_wanted = true }

abbrev call_2 : CallState
call_2 = record { caller = 7; parts = record set_2 { phase = part.Asked 0 1 } ∷ []; is_wanted = true }

abbrev finished_1 : State
finished_1 = after (Finish 0 call_1) asked_2

abbrev finished_2 : State
finished_2 = after (Finish 1 call_2) finished_1

-- nobody wants the first call any more
first_over : (n : ℕ) (c : CallState) → n < 1 → call_at n finished_1 ≡ Some c → c.is_wanted ≡ false
first_over zero c lt is = ap (λ (x : CallState). x.is_wanted) (sym (same_call (record call_1 { is_wanted = false }) c is))
first_over (suc n) c lt is = absurd (omega arith)

abbrev a_history : List Event
a_history = Open 0 100 ∷ Begin 0 7 (set_1 ∷ []) ∷ Begin 1 7 (set_2 ∷ []) ∷ put_1 ∷ put_2
    ∷ Finish 0 call_1 ∷ Finish 1 call_2 ∷ []

-- Both calls are told what may have happened while their parts are on their way, in their order.
a_run : Run start a_history finished_2
a_run = (
  (omega arith, λ c is. cc),
  (
    (refl, refl, one_apart set_1),
    (
      (refl, refl, one_apart set_2),
      (
        record { channel = _; link_is = refl; may = (refl, ((λ e. cc), omega arith)); may_put = part_alone begun_2 0 0 0 (codes "SET a 1") may_put_1 },
        (
          record { channel = _; link_is = refl; may = (refl, ((λ e. cc), omega arith)); may_put = part_alone asked_1 0 1 0 (codes "SET a 2") may_put_2 },
          (
            record { call_is = refl; wanted = refl; none_waits = refl; turn = λ n c lt is own. absurd (omega arith) },
            (
              record { call_is = refl; wanted = refl; none_waits = refl; turn = λ n c lt is own. first_over n c lt is },
              refl,
            ),
          ),
        ),
      ),
    ),
  ),
)

-- what the laws ask of two parts
first_began : Began a_history first_seat
first_began = record { parts = set_1 ∷ []; began = (1, omega arith, refl); part_is = refl }

second_began : Began a_history second_seat
second_began = record { parts = set_2 ∷ []; began = (2, omega arith, refl); part_is = refl }

first_effective : takes_effect first_seat a_history ≡ true
first_effective = refl

second_effective : takes_effect second_seat a_history ≡ true
second_effective = refl

in_their_order : have_order first_seat.began.order second_seat.began.order ≡ true
in_their_order = refl

-- ---- tries

fine : may_all_follow None (Asked 1 ∷ Refused ∷ Asked 2 ∷ Unwritten ∷ Asked 3 ∷ Settled ∷ []) ≡ true
fine = refl

asked_after_settled : may_all_follow None (Asked 1 ∷ Settled ∷ Asked 2 ∷ []) ≡ false
asked_after_settled = refl

asked_while_on_its_way : may_all_follow None (Asked 1 ∷ Asked 2 ∷ []) ≡ false
asked_while_on_its_way = refl

-- ---- a reply

abbrev okay : List ℕ
okay = codes "+OK\r\n"

is_head : IsHead 0 okay
unfolding kind_of
is_head = (43, codes "OK", [], _, refl, (((λ e. cc), (λ e. cc)), (((λ e. cc), (λ e. cc)), tt)), refl, (refl, refl))

is_message : IsMessage okay
is_message = (0 ∷ [], (okay, [], refl, is_head, omega arith, (refl, refl)))

-- `SET a 1` is asked and written, and its reply comes.
abbrev asked_alone : State
asked_alone = after put_1 begun_1

abbrev written_1 : State
written_1 = after (On 0 (link.Write 7)) asked_alone

abbrev heard_1 : State
heard_1 = after (On 0 (link.Hear okay)) written_1

abbrev taken_1 : State
taken_1 = after (On 0 (link.Take (Part 0 0) okay)) heard_1

alone : MayAsk begun_1 0 0 0 (codes "SET a 1")
alone = record {
  caller = 7;
  it = set_1;
  has = record { state = record { caller = 7; parts = set_1 ∷ []; is_wanted = true }; call_is = refl; caller_is = refl; part_is = refl };
  wanted = refl;
  waits = refl;
  request_is = refl;
  earlier = λ n q p lt has order. absurd (omega arith);
  later = λ n q p lt has order.
      let at : call_at n begun_1 ≡ slice_get begun_1.calls (n - 0) = call_is n begun_1 (omega arith) in
      let gone : slice_get begun_1.calls (n - 0) ≡ None = slice_get_past begun_1.calls (n - 0) (omega (arith, lt)) in
      let two : None ≡ Some has.state = sym gone ∙ sym at ∙ has.call_is in
      absurd (cc);
}

a_reply_comes : Run start (Open 0 100 ∷ Begin 0 7 (set_1 ∷ []) ∷ put_1 ∷ On 0 (link.Write 7) ∷ On 0 (link.Hear okay) ∷ On 0 (link.Take (Part 0 0) okay) ∷ []) taken_1
a_reply_comes = (
  (omega arith, λ c is. cc),
  (
    (refl, refl, one_apart set_1),
    (
      record { channel = _; link_is = refl; may = (refl, ((λ e. cc), omega arith)); may_put = part_alone begun_1 0 0 0 (codes "SET a 1") alone },
      (
        record { channel = _; link_is = refl; may = ((λ e. cc), omega arith); may_put = tt },
        (
          record { channel = _; link_is = refl; may = refl; may_put = tt },
          (
            record {
              channel = _;
              link_is = refl;
              may = record {
                wait = record { ticket = Part 0 0; start = 0; end = 7 };
                is_for = record { first = refl; count = 7; before = refl; is = omega arith };
                ticket_is = refl;
                is_open = refl;
                came = record { rest = []; is = refl };
                is = (is_message, (okay ∷ [], refl, ((refl, 0, is_head), tt)));
                short = omega arith;
              };
              may_put = tt;
            },
            refl,
          ),
        ),
      ),
    ),
  ),
)

answered_now : part_at 0 0 taken_1 ≡ Some (record set_1 { phase = part.Answered okay })
answered_now = refl
