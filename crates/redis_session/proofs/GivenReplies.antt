-- The reply to a call, by what was made of its parts.
use Rattle.std.proofs.Common.{Bool, not, ◌≡◌, ◌≢◌, ◌∙◌, ◌-◌, inl, inr, ℕ, true, false, List, [], ◌∷◌, Option, None, Some, Ok, Err, map, refl, sym, ap, subst, length, arith}
use Rattle.std.specs.Prelude.{Result, IfNone, IfOk, IfSome, MatchOption, nat_lt, if◌then◌else◌}
use Rattle.std.specs.List.{concat, list_all, slice_get}
use Rattle.std.specs.Option.{option_and_then, option_map}
use Rattle.std.specs.declared.vec.Vec.{Vec}
use Rattle.std.specs.declared.alloc.Global.{Global}
use Rattle.std.proofs.lemmas.Option.{same_Some}
use Rattle.redis_routing.specs.Names.{Names}
use Rattle.redis_routing.specs.Split.{Split}
use Rattle.redis_bytes.specs.Replies.{AreCombined, IsUncombined}
use Rattle.redis_bytes.specs.Requests.{IsSplitRequest}
use Rattle.redis_bytes.specs.declared.fault.BytesFault.{BytesFault}
use Rattle.redis_bytes.specs.declared.fault.BytesFault.TheVariants.{Memory}
use Rattle.resp_core.proofs.Cases.{and_first, and_second}
use Rattle.session_core.specs.Part.{Phase, PartState, Waits, Asked, Answered, Lost, Refused, Unsent, is_done, is_waiting}
use Rattle.session_core.specs.State.{CallState, State, Finish, Happens, IsTurn, MayFinish, after, call_after, call_at, numbered, part_at}
use Rattle.session_core.proofs.AfterEvents.{slice_get-numbered}
use Rattle.redis_session.specs.CallReplies.{GivesBytes, IsErrorFor, IsMadeBy, IsOnly, IsReplyOfNodes, IsReplyTo, IsSplitReply, answers_in, cause_of, effect_on, first_unanswered}
use Rattle.redis_session.specs.Due.{IsDone}
use Rattle.redis_session.specs.Leads.{Finishes, IsInTime, MayGive, WaitsForNothing}
use Rattle.redis_session.specs.Rules.{KeptRules, rule_in, without}
use Rattle.redis_session.specs.SessionStates.{Given, Nothing, OfPart, Bytes, SessionState, answer_in, bytes_of, given_of, names}
use Rattle.redis_session.specs.SplitReplies.{first_error, joined}
use Rattle.redis_session.specs.Told.{error_reply, unfit_reply}
use Rattle.redis_session.specs.declared.rules.ReplyRule.{ReplyRule}
use Rattle.redis_session.specs.declared.rules.ReplyRule.TheVariants as rules
use Rattle.redis_session.specs.declared.session.replying.LastReply.{LastReply}
use Rattle.redis_session.specs.declared.told.Effect.{Effect}
use Rattle.redis_session.specs.declared.told.ErrorCause.{ErrorCause}
use Rattle.redis_routing.specs.declared.policy.ResponsePolicy.{ResponsePolicy}
use Rattle.redis_bytes.specs.Several.{IsUnreplied}
use Rattle.redis_bytes.specs.declared.answers_fault.AnswersFault.{AnswersFault}
use Rattle.redis_bytes.specs.declared.answers_fault.AnswersFault.TheVariants as faults

pub given_bytes : (s : State) (call : ℕ) (IsSuch : List ℕ → Type 0) (reply : LastReply) → GivesBytes call IsSuch reply → IsSuch (bytes_of (given_of reply) s)
given_bytes s call IsSuch reply gives = subst IsSuch (sym (ap (λ (g : Given). bytes_of g s) gives.1)) gives.2

pub error_for : (phase : Phase) (effect : Effect) → IsErrorFor phase effect (error_reply (cause_of phase) effect)
error_for (Refused error) effect = inr refl
error_for (Waits left) effect = refl
error_for (Asked link left) effect = refl
error_for (Answered reply) effect = refl
error_for Lost effect = refl
error_for (Unsent cause) effect = refl

abbrev pub GivesError : ℕ → Phase → Effect → List ℕ → Type 0
GivesError call phase on error = (bytes : List ℕ) × (Bytes call error ≡ Bytes call bytes) × IsErrorFor phase on bytes

only_of : (parts : List PartState) → length parts ≡ 1 → IsOnly (answers_in parts) (answer_in (slice_get parts 0))
only_of [] one = absurd (omega (arith, one))
only_of (p ∷ []) one = refl
only_of (p ∷ q ∷ parts) one = absurd (omega (arith, one))

pub error_given : (call : ℕ) (phase : Phase) (effect on : Effect) (cause : ErrorCause) → cause ≡ cause_of phase → effect ≡ on
    → GivesError call phase on (error_reply cause effect)
error_given call phase effect on cause is acts =
    (error_reply cause effect, refl, rw (is, acts) (error_for phase on))

pub only_part : (call : ℕ) (s : State) (state : CallState) (parts : List PartState) → call_at call s ≡ Some state → parts ≡ state.parts → length parts ≡ 1
    → IsOnly (answers_in state.parts) (answer_in (part_at call 0 s))
only_part call s state parts at is one =
    rw at (only_of state.parts (ap length (sym is) ∙ one))

pub reply_unanswered : (names : Names) (rule : ReplyRule) (parts : List PartState) (reply : List ℕ) (part : PartState) → Some part ≡ first_unanswered parts
    → IsErrorFor part.phase (effect_on parts) reply → IsReplyTo names rule parts reply
reply_unanswered names rule parts reply part is error =
    subst (λ (o : Option PartState). MatchOption o (IsMadeBy names rule (answers_in parts) reply) (λ p. IsErrorFor p.phase (effect_on parts) reply)) is error

pub reply_made : (names : Names) (rule : ReplyRule) (parts : List PartState) (reply : List ℕ) → None ≡ first_unanswered parts
    → IsMadeBy names rule (answers_in parts) reply → IsReplyTo names rule parts reply
reply_made names rule parts reply none made =
    subst (λ (o : Option PartState). MatchOption o (IsMadeBy names rule (answers_in parts) reply) (λ p. IsErrorFor p.phase (effect_on parts) reply)) none made

-- ---- split commands

module _ (names : Names) (request : List ℕ) where
  pub split_made : (answers : List (Vec ℕ Global)) (found : Option (List ℕ)) (reply : List ℕ) → first_error answers ≡ found
      → IfSome found (λ error. reply ≡ error)
      → (found ≡ None → (split : Split) × IsSplitRequest names request split × AreCombined split (joined answers) reply)
      → IsSplitReply names request (map (λ answer. answer.items) answers) reply
  split_made answers None reply is error combined = rw is (inl (combined refl))
  split_made answers (Some text) reply is error combined = rw is error

  pub split_unfit : (answers : List (Vec ℕ Global)) (found : Option (List ℕ)) (fault : BytesFault) → first_error answers ≡ found
      → IfSome found (λ error. fault ≡ Memory) → IsUncombined names request (joined answers) fault → fault ≢ Memory
      → IsSplitReply names request (map (λ answer. answer.items) answers) unfit_reply
  split_unfit answers None fault is error cause other = rw is (inr (refl, (fault, other, cause)))
  split_unfit answers (Some text) fault is error cause other = absurd (other error)

pub split_given : (own all : Names) (request : List ℕ) (answers : List (Vec ℕ Global)) (texts : List (List ℕ)) (reply : List ℕ) → own ≡ all
    → map (λ answer. answer.items) answers ≡ texts → IfSome (first_error answers) (λ error. reply ≡ error)
    → (first_error answers ≡ None → (split : Split) × IsSplitRequest own request split × AreCombined split (joined answers) reply)
    → IsSplitReply all request texts reply
split_given own all request answers texts reply same are error combined =
    subst (λ (n : Names). IsSplitReply n request texts reply) same (subst (λ (t : List (List ℕ)). IsSplitReply own request t reply) are
    (split_made own request answers (first_error answers) reply refl error combined))

pub split_not_given : (own all : Names) (request : List ℕ) (answers : List (Vec ℕ Global)) (texts : List (List ℕ)) (fault : BytesFault) → own ≡ all
    → map (λ answer. answer.items) answers ≡ texts → IfSome (first_error answers) (λ error. fault ≡ Memory) → IsUncombined own request (joined answers) fault → fault ≢ Memory
    → IsSplitReply all request texts unfit_reply
split_not_given own all request answers texts fault same are error cause other =
    subst (λ (n : Names). IsSplitReply n request texts unfit_reply) same (subst (λ (t : List (List ℕ)). IsSplitReply own request t unfit_reply) are
    (split_unfit own request answers (first_error answers) fault refl error cause other))

-- ---- commands to several nodes

pub nodes_unfit : (policy : ResponsePolicy) (answers : List (List ℕ)) (count : ℕ) (bytes : List ℕ) (fault : AnswersFault) → count ≡ length answers → bytes ≡ concat answers
    → IsUnreplied (Some policy) count bytes fault → fault ≢ faults.Memory → IsReplyOfNodes policy answers unfit_reply
nodes_unfit policy answers count bytes fault all are cause other =
    inr (refl, (fault, other, subst (λ (n : ℕ). IsUnreplied (Some policy) n (concat answers) fault) all (subst (λ (b : List ℕ). IsUnreplied (Some policy) count b fault) are cause)))

pub ok_as : {X E : Type 0} (result : Result X E) (P Q : X → Type 0) → IfOk result P → ((x : X) → P x → Q x) → IfOk result Q
ok_as (Ok x) P Q p q = q x p
ok_as (Err y) P Q p q = tt

-- ---- each call

-- the call, if it is there, has this reply by its rule
abbrev pub HasReply : SessionState → ℕ → LastReply → Type 0
HasReply s call reply = (it : CallState) → call_at call s.machine ≡ Some it
    → IsReplyTo (names s) (rule_in s.rules call) it.parts (bytes_of (given_of reply) s.machine)

module _ {E : Type 0} (before now : SessionState) (call : ℕ) (state : CallState) (result : Result LastReply E) (same : before ≡ now) (at : call_at call before.machine ≡ Some state) where
  for_state : (reply : LastReply) → IsReplyTo (names now) (rule_in now.rules call) state.parts (bytes_of (given_of reply) now.machine) → HasReply now call reply
  for_state reply made it its =
      let there : call_at call now.machine ≡ Some state = subst (λ (s : SessionState). call_at call s.machine ≡ Some state) same at in
      subst (λ (x : CallState). IsReplyTo (names now) (rule_in now.rules call) x.parts (bytes_of (given_of reply) now.machine)) (same_Some state it (sym there ∙ its)) made

  pub rule_there : (found rule : ReplyRule) → found ≡ rule_in before.rules call → found ≡ rule → rule_in now.rules call ≡ rule
  rule_there found rule its is = ap (λ (s : SessionState). rule_in s.rules call) (sym same) ∙ sym its ∙ is

  -- each part was answered, and the reply is made by this rule
  made_by : (reply : LastReply) (rule : ReplyRule) → rule_in now.rules call ≡ rule → None ≡ first_unanswered state.parts
      → IsMadeBy (names now) rule (answers_in state.parts) (bytes_of (given_of reply) now.machine) → HasReply now call reply
  made_by reply rule is none made = for_state reply
      (rw is (reply_made (names now) rule state.parts (bytes_of (given_of reply) now.machine) none made))

  pub fault_there : (part : PartState) → Some part ≡ first_unanswered state.parts → IfOk result (GivesBytes call (IsErrorFor part.phase (effect_on state.parts))) → IfOk result (HasReply now call)
  fault_there part is gives = ok_as result (GivesBytes call (IsErrorFor part.phase (effect_on state.parts))) (HasReply now call) gives
      (λ reply given. for_state reply (reply_unanswered (names now) (rule_in now.rules call) state.parts (bytes_of (given_of reply) now.machine) part is
      (given_bytes now.machine call (IsErrorFor part.phase (effect_on state.parts)) reply given)))

  pub split_there : (request : Vec ℕ Global) (text : List ℕ) → rule_in now.rules call ≡ rules.Split request → None ≡ first_unanswered state.parts → text ≡ request.items
      → IfOk result (GivesBytes call (IsSplitReply (names now) text (answers_in state.parts))) → IfOk result (HasReply now call)
  split_there request text rule none is gives = ok_as result (GivesBytes call (IsSplitReply (names now) text (answers_in state.parts))) (HasReply now call) gives
      (λ reply given. made_by reply (rules.Split request) rule none
      (subst (λ (t : List ℕ). IsSplitReply (names now) t (answers_in state.parts) (bytes_of (given_of reply) now.machine)) is
      (given_bytes now.machine call (IsSplitReply (names now) text (answers_in state.parts)) reply given)))

  pub several_there : (policy : ResponsePolicy) (nodes : Vec ℕ Global) → rule_in now.rules call ≡ rules.Several policy nodes → None ≡ first_unanswered state.parts
      → IfOk result (GivesBytes call (IsReplyOfNodes policy (answers_in state.parts))) → IfOk result (HasReply now call)
  several_there policy nodes rule none gives = ok_as result (GivesBytes call (IsReplyOfNodes policy (answers_in state.parts))) (HasReply now call) gives
      (λ reply given. made_by reply (rules.Several policy nodes) rule none
      (given_bytes now.machine call (IsReplyOfNodes policy (answers_in state.parts)) reply given))

-- ---- what a call has for a reply, after it went out

same_first : (parts : List PartState) → slice_get (numbered (λ part p. record p { phase = p.phase }) 0 parts) 0 ≡ slice_get parts 0
same_first [] = refl
same_first (p ∷ parts) = refl

first_through : (f : CallState → CallState) (o : Option CallState) → ((x : CallState) → slice_get (f x).parts 0 ≡ slice_get x.parts 0) → option_and_then (λ c. slice_get c.parts 0) (option_map f o) ≡ option_and_then (λ c. slice_get c.parts 0) o
first_through f None same = refl
first_through f (Some x) same = same x

pub part_stays : (c call : ℕ) (state : CallState) (s : State) → part_at c 0 (after (Finish call state) s) ≡ part_at c 0 s
part_stays c call state s =
    let f : ℕ → CallState → CallState = call_after (Finish call state) in
    let first : Option CallState → Option PartState = λ o. option_and_then (λ x. slice_get x.parts 0) o in
    elim (nat_lt c s.first) as (λ b. first (if b then None else slice_get (numbered f s.first s.calls) (c - s.first)) ≡ first (if b then None else slice_get s.calls (c - s.first))) [
      | true ↦ refl
      | false ↦ ap first (slice_get-numbered f s.first s.calls (c - s.first)) ∙ first_through (f _) (slice_get s.calls (c - s.first)) (λ x. same_first x.parts)
    ]

pub bytes_stay : (given : Given) (call : ℕ) (state : CallState) (s : State) → bytes_of given (after (Finish call state) s) ≡ bytes_of given s
bytes_stay Nothing call state s = refl
bytes_stay (OfPart c) call state s = ap answer_in (part_stays c call state s)
bytes_stay (Bytes c bytes) call state s = refl

pub finishes_by : (caller call : ℕ) (old now : SessionState) (machine : State) (left : KeptRules) (reply : LastReply) (owed state : CallState) → old ≡ now
    → call_at call old.machine ≡ Some owed → owed.caller ≡ caller → Happens old.machine (Finish call state) machine
    → left ≡ without call old.rules → IsInTime call now
    → HasReply now call reply → Finishes caller call now (record old { machine = machine; rules = left; given = given_of reply })
finishes_by caller call old now machine left reply owed state same at its happens forgets in_time made =
    let of_old : HasReply old call reply = subst (λ (s : SessionState). HasReply s call reply) (sym same) made in
    let it = of_old state happens.may.call_is in
    let bytes : bytes_of (given_of reply) machine ≡ bytes_of (given_of reply) old.machine =
    ap (bytes_of (given_of reply)) happens.is ∙ bytes_stay (given_of reply) call state old.machine in
    subst (λ (s : SessionState). Finishes caller call s (record old { machine = machine; rules = left; given = given_of reply })) same (record {
      state = state;
      given = happens;
      in_time = subst (IsInTime call) (sym same) in_time;
      caller_is = ap (λ (x : CallState). x.caller) (same_Some state owed (sym happens.may.call_is ∙ at)) ∙ its;
      reply_is = subst (IsReplyTo (names old) (rule_in old.rules call) state.parts) (sym bytes) it;
      others = ap (λ (kept : KeptRules). record old { machine = machine; rules = kept; given = given_of reply }) forgets;
    })

-- ---- calls whose reply may be given

done_waits_not : (parts : List PartState) → list_all (λ p. is_done p.phase) parts ≡ true → list_all (λ p. not (is_waiting p.phase)) parts ≡ true
done_waits_not [] done = refl
done_waits_not (p ∷ parts) done =
    let here = and_first (is_done p.phase) (list_all (λ q. is_done q.phase) parts) done in
    let rest = and_second (is_done p.phase) (list_all (λ q. is_done q.phase) parts) done in
    rw (one p.phase here, done_waits_not parts rest) refl
  where
    one : (phase : Phase) → is_done phase ≡ true → not (is_waiting phase) ≡ true
    one (Waits left) done = done
    one other done = refl

-- each part of the call is done
pub over_done : (call : ℕ) (old now : SessionState) (state : CallState) → old ≡ now → call_at call old.machine ≡ Some state → list_all (λ p. is_done p.phase) state.parts ≡ true
    → IsInTime call now × WaitsForNothing call now.machine
over_done call old now state same at done = (
  λ other is. inl (subst (λ (x : CallState). list_all (λ p. is_done p.phase) x.parts ≡ true) (there other is) done),
  λ other is. subst (λ (x : CallState). list_all (λ p. not (is_waiting p.phase)) x.parts ≡ true) (there other is) (done_waits_not state.parts done),
)
  where
    there : (other : CallState) → call_at call now.machine ≡ Some other → state ≡ other
    there other is = same_Some state other (sym at ∙ ap (λ (s : SessionState). call_at call s.machine) same ∙ is)

-- the reply is there
pub may_give : (caller call : ℕ) (s : SessionState) → IsDone caller call s.machine → MayGive caller call s
may_give caller call s it = record {
  state = it.state;
  may = record {
    call_is = it.call_is;
    wanted = it.wanted;
    none_waits = done_waits_not it.state.parts it.done;
    turn = subst (λ c. IsTurn s.machine c call) (sym it.caller_is) it.turn;
  };
  caller_is = it.caller_is;
  in_time = λ state at. inl (subst (λ (x : CallState). list_all (λ p. is_done p.phase) x.parts ≡ true) (same_Some it.state state (sym it.call_is ∙ at)) it.done);
}

-- it is the turn of the call, and nothing is awaited for it
pub may_give_late : (caller call : ℕ) (old now : SessionState) → old ≡ now
    → (state : CallState) × (call_at call old.machine ≡ Some state) × (state.caller ≡ caller) × (state.is_wanted ≡ true) × IsTurn old.machine caller call
    → IsInTime call now × WaitsForNothing call now.machine → MayGive caller call now
may_give_late caller call old now same was over =
    let next : (state : CallState) × (call_at call now.machine ≡ Some state) × (state.caller ≡ caller) × (state.is_wanted ≡ true) × IsTurn now.machine caller call =
    subst (λ (s : SessionState). (state : CallState) × (call_at call s.machine ≡ Some state) × (state.caller ≡ caller) × (state.is_wanted ≡ true) × IsTurn s.machine caller call) same was in
    record {
      state = next.0;
      may = record {
        call_is = next.1;
        wanted = next.3;
        none_waits = over.1 next.0 next.1;
        turn = subst (λ c. IsTurn now.machine c call) (sym next.2) next.4;
      };
      caller_is = next.2;
      in_time = over.0;
    }

-- it is given
finished : (call : ℕ) (state : CallState) (old new : State) (answer : Bool) → MayFinish call state old → (answer ≡ true → (state : CallState) × Happens old (Finish call state) new)
    → (answer ≡ false → (state : CallState) → MayFinish call state old → ⊥) → (state : CallState) × Happens old (Finish call state) new
finished call state old new true may does why = does refl
finished call state old new false may does why = absurd (why refl state may)

pub gives_by : (caller call : ℕ) (old now : SessionState) (machine : State) (left : KeptRules) (reply : LastReply) (answer : Bool) → old ≡ now → MayGive caller call now
    → (answer ≡ true → (state : CallState) × Happens old.machine (Finish call state) machine) → (answer ≡ false → (state : CallState) → MayFinish call state old.machine → ⊥)
    → left ≡ without call old.rules → HasReply now call reply → Finishes caller call now (record old { machine = machine; rules = left; given = given_of reply })
gives_by caller call old now machine left reply answer same gives does why forgets made =
    let was : MayGive caller call old = subst (MayGive caller call) (sym same) gives in
    let done = finished call was.state old.machine machine answer was.may does why in
    finishes_by caller call old now machine left reply was.state done.0 same was.may.call_is was.caller_is done.1 forgets gives.in_time made

-- Without a reply that is there, maybe one is given to a call whose time is over.
pub late_all : {E : Type 0} (mid new : SessionState) (result : Result (Option (ℕ × ℕ)) E) → ((caller call : ℕ) → IsDone caller call mid.machine → ⊥)
    → IfOk result (λ next. IfNone next (new ≡ mid)) → IfOk result (λ next. IfNone next ((caller call : ℕ) → IsDone caller call new.machine → ⊥))
late_all mid new (Ok None) all same = λ caller call it. all caller call (subst (λ (s : SessionState). IsDone caller call s.machine) same it)
late_all mid new (Ok (Some it)) all same = tt
late_all mid new (Err y) all same = tt
