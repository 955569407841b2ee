-- What an event leaves of the links and calls.
use Rattle.std.proofs.Common.{◌≡◌, ◌≢◌, ◌<◌, ◌≤◌, ◌+◌, ◌-◌, ◌++◌, ◌&&◌, ◌⊎◌, inl, inr, ℕ, zero, suc, Bool, true, false, not, eqb, ltb, List, [], ◌∷◌, length, length-append, length-drop, Option, None, Some, refl, sym, ap, ◌∙◌, subst, arith}
use Rattle.std.specs.Prelude.{Contains}
use Rattle.std.proofs.Math.ListN.{set}
use Rattle.std.specs.List.{slice_get, list_all}
use Rattle.std.specs.Option.{option_map}
use Rattle.std.proofs.lemmas.Option.{same_Some, slice_get_within, slice_get_past}
use Rattle.std.proofs.lemmas.Bool.{eqb-true, cases_lt}
use Rattle.std.proofs.lemmas.Bool.Decides.{nat_tests}
use Rattle.resp_core.proofs.Cases.{by_test, and_first, and_second}
use Rattle.session_core.specs.Channel.{Channel}
use Rattle.session_core.specs.LinkEvents as link
use Rattle.session_core.specs.Part.{PartState, Phase, is_done}
use Rattle.session_core.specs.State.{CallState, State, Event, Begin, Leave, Trim, begun, call_at, numbered, call_after, left_call, unwants, phase_after, MayBy, MayLeave, after, IsTurn}
use Rattle.session_core.proofs.PlaceLists.{get_before, at_index, get_first_dropped}

-- ---- lists

pub nothing_in : {A : Type 0} (x : A) → Contains [] x → ⊥
nothing_in x h = omega (arith, h.1)

pub only_one : {A : Type 0} (a b : A) → Contains (a ∷ []) b → a ≡ b
only_one a b (zero, within, is) = is
only_one a b (suc k, within, is) = absurd (omega (arith, within))

pub slice_get-numbered : {X : Type 0} (f : ℕ → X → X) (n : ℕ) (xs : List X) (i : ℕ) → slice_get (numbered f n xs) i ≡ option_map (f (n + i)) (slice_get xs i)
slice_get-numbered f n [] i = refl
slice_get-numbered f n (x ∷ xs) zero = ap (λ m. Some (f m x)) (let e : n ≡ n + 0 = omega arith in e)
slice_get-numbered f n (x ∷ xs) (suc i) = slice_get-numbered f (n + 1) xs i ∙ ap (λ m. option_map (f m) (slice_get xs i)) (let e : n + 1 + i ≡ n + suc i = omega arith in e)

pub length-numbered : {X : Type 0} (f : ℕ → X → X) (n : ℕ) (xs : List X) → length (numbered f n xs) ≡ length xs
length-numbered f n [] = refl
length-numbered f n (x ∷ xs) = ap suc (length-numbered f (n + 1) xs)

-- a list in which no item changes
pub numbered_same : {X : Type 0} (f : ℕ → X → X) (n : ℕ) (xs : List X) → ((k : ℕ) (x : X) → n ≤ k → f k x ≡ x) → numbered f n xs ≡ xs
numbered_same f n [] same = refl
numbered_same f n (x ∷ xs) same = rw (same n x (omega arith), numbered_same f (n + 1) xs (λ k y le. same k y (omega arith))) refl

-- a list in which one item changes
pub numbered_one : {X : Type 0} (f : ℕ → X → X) (n : ℕ) (xs : List X) (i : ℕ) (x : X) → slice_get xs i ≡ Some x → ((k : ℕ) (y : X) → k ≢ n + i → f k y ≡ y) → numbered f n xs ≡ set xs i (f (n + i) x)
numbered_one f n [] i x is same = absurd (cc)
numbered_one f n (y ∷ xs) zero x is same =
    let here : n ≡ n + 0 = omega arith in
    let own : f n y ≡ f (n + 0) x = ap (λ k. f k y) here ∙ ap (f (n + 0)) (same_Some y x is) in
    rw (own, numbered_same f (n + 1) xs (λ k z le. same k z (λ e. omega arith))) refl
numbered_one f n (y ∷ xs) (suc i) x is same =
    let place : n + 1 + i ≡ n + suc i = omega arith in
    let rest = numbered_one f (n + 1) xs i x is (λ k z apart. same k z (λ e. apart (e ∙ sym place))) in
    rw (same n y (λ e. omega arith), rest, place) refl

get_last : {X : Type 0} (xs : List X) (x : X) (i : ℕ) → i ≡ length xs → slice_get (xs ++ x ∷ []) i ≡ Some x
get_last [] x zero h = refl
get_last [] x (suc i) h = absurd (omega arith)
get_last (y ∷ xs) x zero h = absurd (omega arith)
get_last (y ∷ xs) x (suc i) h = get_last xs x i (omega arith)

pub all_at : {X : Type 0} (p : X → Bool) (xs : List X) (i : ℕ) (x : X) → list_all p xs ≡ true → slice_get xs i ≡ Some x → p x ≡ true
all_at p [] i x all e = absurd (cc)
all_at p (y ∷ xs) zero x all e = let same : y ≡ x = cc in subst (λ z. p z ≡ true) same (and_first _ _ all)
all_at p (y ∷ xs) (suc i) x all e = all_at p xs i x (and_second _ _ all) e

pub seen : {X : Type 0} (o : Option X) → (o ≡ None) ⊎ ((x : X) × (o ≡ Some x))
seen None = inl refl
seen (Some x) = inr (x, refl)

-- ---- the call of a number

pub call_is : (call : ℕ) (s : State) → s.first ≤ call → call_at call s ≡ slice_get s.calls (call - s.first)
call_is call s h = grind (arith, nat_tests)

pub no_call : (call : ℕ) (s : State) → call < s.first → call_at call s ≡ None
no_call call s h = grind (arith, nat_tests)

pub not_forgotten : (call : ℕ) (s : State) (c : CallState) → call_at call s ≡ Some c → s.first ≤ call
not_forgotten call s c e =
    by_test (ltb call s.first)
    (λ h. let n : None ≡ Some c = rw h at e in absurd (cc))
    (λ h. grind (arith, nat_tests))

-- A call that is there has begun.
pub has_begun : (call : ℕ) (s : State) (c : CallState) → call_at call s ≡ Some c → call < begun s
has_begun call s c e =
    let h = not_forgotten call s c e in
    let w = slice_get_within s.calls (call - s.first) c (sym (call_is call s h) ∙ e) in
    omega (arith, h, w)

pub not_begun : (call : ℕ) (s : State) → begun s ≤ call → call_at call s ≡ None
not_begun call s h = call_is call s (omega arith) ∙ slice_get_past s.calls (call - s.first) (omega arith)

-- ---- what an event leaves of a call

abbrev pub in_phase : PartState → Phase → PartState
in_phase p phase = record p { phase = phase }

-- An event leaves this of the call of this number.
pub record Goes (e : Event) (call : ℕ) (old new : CallState) : Type 0 where
  pub caller : new.caller ≡ old.caller
  pub parts : (q : ℕ) → slice_get new.parts q ≡ option_map (λ p. in_phase p (phase_after call q e old.is_wanted p)) (slice_get old.parts q)
  pub wanted : new.is_wanted ≡ (old.is_wanted && not (unwants call e))

-- The call is forgotten, or its place has no parts any more.
pub record Vanishes (call : ℕ) (s : State) (old : CallState) (new : Option CallState) : Type 0 where
  pub unwanted : old.is_wanted ≡ false
  pub done : list_all (λ p. is_done p.phase) old.parts ≡ true
  pub turn : IsTurn s old.caller call
  pub away : (new ≡ None) ⊎ (new ≡ Some left_call)

abbrev Outcome : Event → ℕ → State → CallState → Option CallState → Type 0
Outcome e call s c o = ((d : CallState) × (o ≡ Some d) × Goes e call c d) ⊎ Vanishes call s c o

pub changed_call : (f : ℕ → CallState → CallState) (s : State) (links : List (Option Channel)) (call : ℕ) (c : CallState) → call_at call s ≡ Some c
    → call_at call (record { links = links; first = s.first; calls = numbered f s.first s.calls }) ≡ Some (f call c)
changed_call f s links call c e =
    let h = not_forgotten call s c e in
    let n : s.first + (call - s.first) ≡ call = omega (arith, h) in
    call_is call (record { links = links; first = s.first; calls = numbered f s.first s.calls }) h
    ∙ slice_get-numbered f s.first s.calls (call - s.first)
    ∙ ap (λ m. option_map (f m) (slice_get s.calls (call - s.first))) n
    ∙ ap (option_map (f call)) (sym (call_is call s h) ∙ e)

and_true : (b : Bool) → b ≡ (b && true)
and_true true = refl
and_true false = refl

same_phases : (o : Option PartState) (f : PartState → Phase) → ((p : PartState) → f p ≡ p.phase) → o ≡ option_map (λ p. in_phase p (f p)) o
same_phases None f same = refl
same_phases (Some p) f same = ap (λ x. Some (in_phase p x)) (sym (same p))

-- an event that changes nothing of this call
goes_same : (e : Event) (call : ℕ) (c : CallState) → ((q : ℕ) (p : PartState) → phase_after call q e c.is_wanted p ≡ p.phase) → unwants call e ≡ false → Goes e call c c
goes_same e call c parts wanted = record {
  caller = refl;
  parts = λ q. same_phases (slice_get c.parts q) (λ p. phase_after call q e c.is_wanted p) (parts q);
  wanted = and_true c.is_wanted ∙ ap (λ b. c.is_wanted && not b) (sym wanted);
}

-- a call of which no part changes, and which is still wanted if it was
pub call_kept : (e : Event) (call : ℕ) (state : CallState) → ((q : ℕ) (p : PartState) → phase_after call q e state.is_wanted p ≡ p.phase) → unwants call e ≡ false → record {
  caller = state.caller;
  parts = numbered (λ part p. in_phase p (phase_after call part e state.is_wanted p)) 0 state.parts;
  is_wanted = state.is_wanted && not (unwants call e);
} ≡ state
call_kept e call state same wanted =
    let parts = numbered_same (λ part p. in_phase p (phase_after call part e state.is_wanted p)) 0 state.parts (λ k x le. ap (in_phase x) (same k x)) in
    let still : (state.is_wanted && not (unwants call e)) ≡ state.is_wanted = ap (λ b. state.is_wanted && not b) wanted ∙ sym (and_true state.is_wanted) in
    rw (parts, still) refl

goes_all : (e : Event) (call : ℕ) (c : CallState) (d : CallState) → d ≡ record {
  caller = c.caller;
  parts = numbered (λ part p. in_phase p (phase_after call part e c.is_wanted p)) 0 c.parts;
  is_wanted = c.is_wanted && not (unwants call e);
} → Goes e call c d
goes_all e call c d is = record {
  caller = ap (λ (x : CallState). x.caller) is;
  parts = λ q. ap (λ (x : CallState). slice_get x.parts q) is ∙ slice_get-numbered (λ part p. in_phase p (phase_after call part e c.is_wanted p)) 0 c.parts q
      ∙ ap (λ n. option_map (λ p. in_phase p (phase_after call n e c.is_wanted p)) (slice_get c.parts q)) (let z : 0 + q ≡ q = omega arith in z);
  wanted = ap (λ (x : CallState). x.is_wanted) is;
}

pub same_call : (a b : CallState) → Some a ≡ Some b → a ≡ b
same_call a b e = cc

left_at : (m call : ℕ) (s : State) (c : CallState) → call_at call s ≡ Some c → (may : MayLeave m s) → Outcome (Leave m) call s c (call_at call (after (Leave m) s))
left_at m call s c e may =
    let is = changed_call (call_after (Leave m)) s (after (Leave m) s).links call c e in
    by_test (eqb m call)
    (λ k.
    let same : m ≡ call = eqb-true m call k in
    let there : may.state ≡ c = same_call may.state c (sym may.call_is ∙ ap (λ n. call_at n s) same ∙ e) in
    inr (record {
      unwanted = ap (λ (x : CallState). x.is_wanted) (sym there) ∙ may.unwanted;
      done = ap (λ (x : CallState). list_all (λ p. is_done p.phase) x.parts) (sym there) ∙ may.done;
      turn = subst (λ (x : CallState). IsTurn s x.caller call) there (subst (λ n. IsTurn s may.state.caller n) same may.turn);
      away = inr (rw k at is);
    }))
    (λ k. inl (c, rw k at is, goes_same (Leave m) call c (λ q p. refl) refl))

trimmed_at : (call : ℕ) (s : State) (c : CallState) → call_at call s ≡ Some c → (may : (more : List CallState) × (s.calls ≡ left_call ∷ more)) → Outcome Trim call s c (call_at call (after Trim s))
trimmed_at call s c e may =
    let h = not_forgotten call s c e in
    by_test (eqb call s.first)
    (λ k.
    let same : call ≡ s.first = eqb-true call s.first k in
    let zero_at : call - s.first ≡ 0 = omega (arith, same) in
    let there : left_call ≡ c = same_call left_call c (sym (ap (λ xs. slice_get xs 0) may.1) ∙ ap (slice_get s.calls) (sym zero_at) ∙ sym (call_is call s h) ∙ e) in
    inr (record {
      unwanted = ap (λ (x : CallState). x.is_wanted) (sym there);
      done = ap (λ (x : CallState). list_all (λ p. is_done p.phase) x.parts) (sym there);
      turn = λ n x lt is caller. let none : None ≡ Some x = sym (no_call n s (omega (arith, lt, same))) ∙ is in absurd (cc);
      away = inl (no_call call (after Trim s) (omega (arith, same)));
    }))
    (λ k.
    let later : s.first + 1 ≤ call = grind (arith, nat_tests, h) in
    let next : suc (call - (s.first + 1)) ≡ call - s.first = omega (arith, later) in
    inl (
      c,
      call_is call (after Trim s) later ∙ get_first_dropped s.calls (call - (s.first + 1)) ∙ ap (slice_get s.calls) next ∙ sym (call_is call s h) ∙ e,
      goes_same Trim call c (λ q p. refl) refl,
    ))

begun_at : (n caller : ℕ) (parts : List PartState) (call : ℕ) (s : State) (c : CallState) → call_at call s ≡ Some c → call_at call (after (Begin n caller parts) s) ≡ Some c
begun_at n caller parts call s c e =
    let h = not_forgotten call s c e in
    let w = has_begun call s c e in
    call_is call (after (Begin n caller parts) s) h ∙ get_before s.calls _ (call - s.first) (omega (arith, h, w)) ∙ sym (call_is call s h) ∙ e

-- what becomes of a call
pub call_goes : (rules : link.Event → Channel → Type 0) (e : Event) (call : ℕ) (s : State) (c : CallState) → MayBy rules e s → call_at call s ≡ Some c → Outcome e call s c (call_at call (after e s))
call_goes rules (Begin n caller parts) call s c may e = inl (c, begun_at n caller parts call s c e, goes_same (Begin n caller parts) call c (λ q p. refl) refl)
call_goes rules (Leave n) call s c may e = left_at n call s c e may
call_goes rules Trim call s c may e = trimmed_at call s c e may
call_goes rules e call s c may is = inl (_, changed_call (call_after e) s (after e s).links call c is, goes_all e call c _ refl)

-- a call that begins
pub begins : (call caller : ℕ) (parts : List PartState) (s : State) → call ≡ begun s → call_at call (after (Begin call caller parts) s) ≡ Some (record { caller = caller; parts = parts; is_wanted = true })
begins call caller parts s e = call_is call (after (Begin call caller parts) s) (omega (arith, e)) ∙ get_last s.calls _ (call - s.first) (omega (arith, e))

-- how many calls begin with an event
abbrev pub new_calls : Event → ℕ
new_calls (Begin n caller parts) = 1
new_calls other = 0

pub begun_after : (rules : link.Event → Channel → Type 0) (e : Event) (s : State) → MayBy rules e s → begun (after e s) ≡ begun s + new_calls e
begun_after rules (Begin n caller parts) s may = omega (arith, length-append s.calls (record { caller = caller; parts = parts; is_wanted = true } ∷ []))
begun_after rules Trim s may =
    omega (arith, ap length may.1, length-drop 1 s.calls)
begun_after rules e s may = omega (arith, length-numbered (call_after e) s.first s.calls)

pub first_more : (e : Event) (s : State) → s.first ≤ (after e s).first
first_more Trim s = omega arith
first_more e s = omega arith

-- A call that is there after an event and had begun before was there before.
pub call_came : (rules : link.Event → Channel → Type 0) (e : Event) (call : ℕ) (s : State) (d : CallState) → MayBy rules e s → call < begun s → call_at call (after e s) ≡ Some d → ((c : CallState) × (call_at call s ≡ Some c) × Goes e call c d) ⊎ (d ≡ left_call)
call_came rules e call s d may old now = elim (cases_lt call s.first) [
  | inl gone ↦ let none : None ≡ Some d = sym (no_call call (after e s) (omega (arith, gone, first_more e s))) ∙ now in absurd (cc)
  | inr here ↦
      let within : call - s.first < length s.calls = omega (arith, old, here) in
      let c = at_index s.calls (call - s.first) within in
      let is : call_at call s ≡ Some c.0 = call_is call s here ∙ c.1 in
      elim (call_goes rules e call s c.0 may is) [
        | inl goes ↦ inl (c.0, is, subst (Goes e call c.0) (same_call goes.0 d (sym goes.1 ∙ now)) goes.2)
        | inr away ↦ elim away.away [
          | inl none ↦ let no : None ≡ Some d = sym none ∙ now in absurd (cc)
          | inr left ↦ inr (same_call d left_call (sym now ∙ left))
        ]
      ]
]

-- A call that is there after an event and had not begun before begins with it.
pub call_new : (rules : link.Event → Channel → Type 0) (e : Event) (call : ℕ) (s : State) (d : CallState) → MayBy rules e s → begun s ≤ call → call_at call (after e s) ≡ Some d
    → (caller : ℕ) × (parts : List PartState) × (e ≡ Begin call caller parts) × (d ≡ record { caller = caller; parts = parts; is_wanted = true })
call_new rules (Begin n caller parts) call s d may new now =
    let same : n ≡ call = omega (arith, may.0, new, has_begun call (after (Begin n caller parts) s) d now, begun_after rules (Begin n caller parts) s may) in (
      caller,
      parts,
      ap (λ m. Begin m caller parts) same,
      same_call d _ (sym now ∙ ap (λ m. call_at m (after (Begin n caller parts) s)) (sym same) ∙ begins n caller parts s may.0),
    )
call_new rules e call s d may new now = absurd (omega (arith, new, has_begun call (after e s) d now, begun_after rules e s may))
