-- What each event leaves of the calls.
use Rattle.std.proofs.Common.{◌≡◌, ◌≢◌, ◌+◌, ◌-◌, ◌&&◌, ◌==◌, inl, inr, ℕ, Bool, true, false, not, ltb, List, [], ◌∷◌, map, refl, sym, ap, ◌∙◌, arith}
use Rattle.std.proofs.lemmas.Bool.{cases_lt, eq-eqb}
use Rattle.std.proofs.lemmas.Bool.Decides.{nat_tests}
use Rattle.session_core.specs.declared.link.Ticket.TheVariants.{Asking, Part}
use Rattle.session_core.specs.declared.part.Cause.{Cause}
use Rattle.session_core.specs.declared.part.Cause.TheVariants.{GivenUp}
use Rattle.session_core.specs.LinkEvents as link
use Rattle.session_core.specs.LinkEvents.{asking}
use Rattle.session_core.specs.Places.{changed}
use Rattle.session_core.specs.Part.{Phase, PartState, is_refusal, phase_asked, phase_told, phase_lost, phase_ended}
use Rattle.session_core.specs.State.{CallState, Event, On, GiveUp, End, Finish, Leave, numbered, call_after, phase_after, unwants, left_call}
use Rattle.session_core.proofs.AfterEvents.{numbered_same, call_kept}
use Rattle.session_machine.specs.Calls.{with_call, with_phase, ended_all, given_up, replied}
use Rattle.session_machine.proofs.Numbers.{numbered_changed, same_pair, other_pair, other_number}

-- what an event other than `Leave` leaves of a call
abbrev pub stepped : Event → ℕ → CallState → CallState
stepped e n c = record {
  caller = c.caller;
  parts = numbered (λ part p. record p { phase = phase_after n part e c.is_wanted p }) 0 c.parts;
  is_wanted = c.is_wanted && not (unwants n e);
}

pub one_call : (e : Event) (call first : ℕ) (change : CallState → CallState) (calls : List CallState)
    → ((n : ℕ) (c : CallState) → n ≢ call → call_after e n c ≡ c) → ((c : CallState) → call_after e call c ≡ change c)
    → with_call call first change calls ≡ numbered (call_after e) first calls
one_call e call first change calls others here = elim (cases_lt call first) [
  | inl lt ↦
      let t : ltb call first ≡ true = grind (arith, nat_tests) in
      rw t (sym (numbered_same (call_after e) first calls (λ k x le. others k x (λ same. omega arith))))
  | inr ge ↦
      let t : ltb call first ≡ false = grind (arith, nat_tests) in
      let at : call ≡ first + (call - first) = omega arith in
      rw t (sym (numbered_changed (call_after e) first (call - first) change calls
      (λ k x apart. others k x (λ same. apart (same ∙ at)))
      (λ x. ap (λ k. call_after e k x) (sym at) ∙ here x)))
]

still : (b : Bool) → (b && true) ≡ b
still true = refl
still false = refl

over : (b : Bool) → (b && false) ≡ false
over true = refl
over false = refl

-- an event that changes the phase of one part
one_part : (e : Event) (call part first : ℕ) (phase : CallState → PartState → Phase) (calls : List CallState)
    → ((n : ℕ) (c : CallState) → call_after e n c ≡ stepped e n c)
    → ((n : ℕ) → unwants n e ≡ false)
    → ((n q : ℕ) (wanted : Bool) (p : PartState) → ((n ≡ call) × (q ≡ part) → ⊥) → phase_after n q e wanted p ≡ p.phase)
    → ((c : CallState) (p : PartState) → phase_after call part e c.is_wanted p ≡ phase c p)
    → with_call call first (with_phase part phase) calls ≡ numbered (call_after e) first calls
one_part e call part first phase calls shape wanted others here =
    one_call e call first (with_phase part phase) calls
    (λ n c apart. shape n c ∙ call_kept e n c (λ q p. others n q c.is_wanted p (λ same. apart same.0)) (wanted n))
    (λ c.
    let f : ℕ → PartState → PartState = λ q p. record p { phase = phase_after call q e c.is_wanted p } in
    let g : PartState → PartState = λ p. record p { phase = phase c p } in
    let make : List PartState → Bool → CallState = λ ps w. record { caller = c.caller; parts = ps; is_wanted = w } in
    let at : 0 + part ≡ part = omega arith in
    let in_place : PartState → Phase → PartState = λ p x. record p { phase = x } in
    let parts : numbered f 0 c.parts ≡ changed g part c.parts = numbered_changed f 0 part g c.parts
    (λ k p apart. ap (in_place p) (others call k c.is_wanted p (λ same. apart (same.1 ∙ sym at))))
    (λ p. ap (λ k. f k p) at ∙ ap (in_place p) (here c p)) in
    let wants : (c.is_wanted && not (unwants call e)) ≡ c.is_wanted = ap (λ b. c.is_wanted && not b) (wanted call) ∙ still c.is_wanted in
    shape call c ∙ ap (λ ps. make ps (c.is_wanted && not (unwants call e))) parts ∙ ap (make (changed g part c.parts)) wants)

-- an event that changes no phase, and after which as many calls are wanted
pub no_calls_change : (e : Event) (first : ℕ) (calls : List CallState)
    → ((n : ℕ) (c : CallState) → call_after e n c ≡ stepped e n c)
    → ((n : ℕ) → unwants n e ≡ false)
    → ((n q : ℕ) (wanted : Bool) (p : PartState) → phase_after n q e wanted p ≡ p.phase)
    → calls ≡ numbered (call_after e) first calls
no_calls_change e first calls shape wanted same =
    sym (numbered_same (call_after e) first calls (λ n c le. shape n c ∙ call_kept e n c (λ q p. same n q c.is_wanted p) (wanted n)))

pub asked_calls : (number call part first : ℕ) (request : List ℕ) (calls : List CallState)
    → with_call call first (with_phase part (λ state p. phase_asked number p.phase)) calls ≡ numbered (call_after (On number (link.Put ((Part call part, request) ∷ [])))) first calls
asked_calls number call part first request calls =
    one_part (On number (link.Put ((Part call part, request) ∷ []))) call part first (λ state p. phase_asked number p.phase) calls
    (λ n c. refl) (λ n. refl)
    (λ n q wanted p apart. rw (other_pair call part n q apart) refl)
    (λ c p. rw (same_pair call part) refl)

pub asking_calls : (number call part first : ℕ) (request : List ℕ) (calls : List CallState)
    → with_call call first (with_phase part (λ state p. phase_asked number p.phase)) calls ≡ numbered (call_after (On number (link.Put ((Asking, asking) ∷ (Part call part, request) ∷ [])))) first calls
asking_calls number call part first request calls =
    one_part (On number (link.Put ((Asking, asking) ∷ (Part call part, request) ∷ []))) call part first (λ state p. phase_asked number p.phase) calls
    (λ n c. refl) (λ n. refl)
    (λ n q wanted p apart. rw (other_pair call part n q apart) refl)
    (λ c p. rw (same_pair call part) refl)

pub told_calls : (number call part first : ℕ) (reply : List ℕ) (calls : List CallState)
    → with_call call first (with_phase part (λ state p. phase_told state.is_wanted (is_refusal p reply) reply p.phase)) calls ≡ numbered (call_after (On number (link.Take (Part call part) reply))) first calls
told_calls number call part first reply calls =
    one_part (On number (link.Take (Part call part) reply)) call part first (λ state p. phase_told state.is_wanted (is_refusal p reply) reply p.phase) calls
    (λ n c. refl) (λ n. refl)
    (λ n q wanted p apart. rw (other_pair call part n q apart) refl)
    (λ c p. rw (same_pair call part) refl)

pub lost_calls : (number call part first : ℕ) (begun : Bool) (calls : List CallState)
    → with_call call first (with_phase part (λ state p. phase_lost state.is_wanted begun p.phase)) calls ≡ numbered (call_after (On number (link.Lose (Part call part) begun))) first calls
lost_calls number call part first begun calls =
    one_part (On number (link.Lose (Part call part) begun)) call part first (λ state p. phase_lost state.is_wanted begun p.phase) calls
    (λ n c. refl) (λ n. refl)
    (λ n q wanted p apart. rw (other_pair call part n q apart) refl)
    (λ c p. rw (same_pair call part) refl)

pub ended_calls : (call part first : ℕ) (cause : Cause) (calls : List CallState)
    → with_call call first (with_phase part (λ state p. phase_ended cause p.phase)) calls ≡ numbered (call_after (End call part cause)) first calls
ended_calls call part first cause calls =
    one_part (End call part cause) call part first (λ state p. phase_ended cause p.phase) calls
    (λ n c. refl) (λ n. refl)
    (λ n q wanted p apart. rw (other_pair call part n q apart) refl)
    (λ c p. rw (same_pair call part) refl)

numbered_map : {X : Type 0} (f : ℕ → X → X) (g : X → X) (n : ℕ) (xs : List X) → ((k : ℕ) (x : X) → f k x ≡ g x) → numbered f n xs ≡ map g xs
numbered_map f g n [] same = refl
numbered_map f g n (x ∷ xs) same = rw (same n x, numbered_map f g (n + 1) xs same) refl

pub given_up_calls : (call first : ℕ) (calls : List CallState) → with_call call first given_up calls ≡ numbered (call_after (GiveUp call)) first calls
given_up_calls call first calls =
    one_call (GiveUp call) call first given_up calls
    (λ n c apart. call_kept (GiveUp call) n c (λ q p. rw (other_number call n apart) refl) (other_number call n apart))
    (λ c.
    let t : (call == call) ≡ true = eq-eqb call call refl in
    let f : ℕ → PartState → PartState = λ q p. record p { phase = phase_after call q (GiveUp call) c.is_wanted p } in
    let g : PartState → PartState = λ p. record p { phase = phase_ended GivenUp p.phase } in
    let make : List PartState → Bool → CallState = λ ps w. record { caller = c.caller; parts = ps; is_wanted = w } in
    let parts : numbered f 0 c.parts ≡ ended_all c.parts = numbered_map f g 0 c.parts (λ k p. rw t refl) in
    let wants : (c.is_wanted && not (call == call)) ≡ false = ap (λ b. c.is_wanted && not b) t ∙ over c.is_wanted in
    ap (λ ps. make ps (c.is_wanted && not (call == call))) parts ∙ ap (make (ended_all c.parts)) wants)

pub replied_calls : (call first : ℕ) (state : CallState) (calls : List CallState) → with_call call first replied calls ≡ numbered (call_after (Finish call state)) first calls
replied_calls call first state calls =
    one_call (Finish call state) call first replied calls
    (λ n c apart. call_kept (Finish call state) n c (λ q p. refl) (other_number call n apart))
    (λ c.
    let t : (call == call) ≡ true = eq-eqb call call refl in
    let f : ℕ → PartState → PartState = λ q p. record p { phase = phase_after call q (Finish call state) c.is_wanted p } in
    let make : List PartState → Bool → CallState = λ ps w. record { caller = c.caller; parts = ps; is_wanted = w } in
    let parts : numbered f 0 c.parts ≡ c.parts = numbered_same f 0 c.parts (λ k p le. refl) in
    let wants : (c.is_wanted && not (call == call)) ≡ false = ap (λ b. c.is_wanted && not b) t ∙ over c.is_wanted in
    ap (λ ps. make ps (c.is_wanted && not (call == call))) parts ∙ ap (make c.parts) wants)

pub left_calls : (call first : ℕ) (calls : List CallState) → with_call call first (λ state. left_call) calls ≡ numbered (call_after (Leave call)) first calls
left_calls call first calls =
    one_call (Leave call) call first (λ state. left_call) calls
    (λ n c apart. rw (other_number call n apart) refl)
    (λ c. rw (eq-eqb call call refl) refl)
