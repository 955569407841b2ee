-- A part that was on its way is told what became of it.
use Rattle.std.proofs.Common.{◌≡◌, ◌<◌, ◌≤◌, ◌-◌, ◌^◌, ℕ, zero, suc, Bool, true, false, inl, inr, ltb, List, [], ◌∷◌, Option, Some, refl, sym, ap, ◌∙◌, subst, arith}
use Rattle.std.specs.List.{slice_get}
use Rattle.std.specs.Option.{option_and_then}
use Rattle.std.proofs.lemmas.Bool.{false≢true}
use Rattle.std.proofs.lemmas.Bool.Decides.{nat_tests}
use Rattle.std.proofs.lemmas.Option.{same_Some}
use Rattle.session_core.specs.declared.link.Ticket.TheVariants.{Part}
use Rattle.session_core.specs.declared.ordered_part.Status.TheVariants as status
use Rattle.session_core.specs.Channel.{Channel}
use Rattle.session_core.specs.History.{is_there}
use Rattle.session_core.specs.LinkEvents as link
use Rattle.session_core.specs.Order.{IsOnItsWay}
use Rattle.session_core.specs.Part.{PartState, Phase, Asked, is_on, is_refusal, phase_told, phase_lost}
use Rattle.session_core.specs.Places.{changed}
use Rattle.session_core.specs.State.{State, CallState, On, call_at, part_at, Has, Happens}
use Rattle.session_core.proofs.AfterEvents.{seen, not_forgotten, length-numbered}
use Rattle.session_core.proofs.Waiting.{first_there, on_its_way}
use Rattle.session_machine.specs.declared.caller.CallPlaces.{CallPlaces}
use Rattle.session_machine.specs.declared.callers.Callers.{Callers}
use Rattle.session_machine.specs.Callers.{order_of}
use Rattle.session_machine.specs.Ties.{status_of}
use Rattle.session_machine.proofs.Ties.Links.{own_ticket, only_taken, only_lost, told_phase, lost_phase, stands_on}
use Rattle.session_machine.proofs.Ties.Reached.{reached_single}
use Rattle.session_machine.specs.Calls.{call_in, with_call, with_phase, with_told, with_lost, KeepsAt, ReturnsAt}
use Rattle.session_machine.specs.Part.{Keeps}
use Rattle.session_machine.specs.Links.{HappensOn}
use Rattle.session_machine.specs.declared.took.Took.{Took}
use Rattle.session_machine.specs.declared.took.Took.TheVariants as took
use Rattle.session_machine.specs.Took.{IsTold, IsTook, IsKeptIn}
use Rattle.session_core.specs.declared.ordered_part.Seat.{Seat}
use Rattle.session_machine.specs.Kept.{IsKept, CanMove, Moved, CanFollow, Follows}
use Rattle.session_machine.proofs.CallChanges.{told_calls, lost_calls}
use Rattle.session_machine.proofs.Keeping.{state_of, call_stands, place_is, place_fits, kept_part, happens_in}

-- ---- the part is there

-- this part is on its way on this link
pub record There (s : State) (number call part : ℕ) : Type 0 where
  pub state : CallState
  pub p : PartState
  pub call_is : call_at call s ≡ Some state
  pub part_is : slice_get state.parts part ≡ Some p
  pub on : is_on number p.phase ≡ true

abbrev pub has_there : {s : State} {number call part : ℕ} (t : There s number call part) → Has s t.state.caller call part t.p
has_there t = record { state = t.state; call_is = t.call_is; caller_is = refl; part_is = t.part_is }

found : (s : State) (number call part : ℕ) → is_there number (part_at call part s) ≡ true → There s number call part
found s number call part is = elim (seen (call_at call s)) [
  | inl none ↦ absurd (false≢true (ap (λ o. is_there number (option_and_then (λ (c : CallState). slice_get c.parts part) o)) (sym none) ∙ is))
  | inr c ↦
      let at : is_there number (slice_get c.0.parts part) ≡ true = ap (λ o. is_there number (option_and_then (λ (x : CallState). slice_get x.parts part) o)) (sym c.1) ∙ is in
      elim (seen (slice_get c.0.parts part)) [
        | inl empty ↦ absurd (false≢true (ap (is_there number) (sym empty) ∙ at))
        | inr p ↦ record { state = c.0; p = p.0; call_is = c.1; part_is = p.1; on = ap (is_there number) (sym p.1) ∙ at }
      ]
]

pub taken_there : {places : List CallPlaces} {callers : Callers} {began : ℕ} (s : State) (number call part : ℕ) (reply : List ℕ) (links : List (Option Channel)) → IsKept s places callers began → HappensOn number (link.Take (Part call part) reply) s.links links → There s number call part
taken_there s number call part reply links k h =
    found s number call part (first_there number call part (Part call part) h.channel h.may.wait s (reached_single s k.reached) h.there h.may.is_for.first h.may.ticket_is (own_ticket call part))

pub lost_there : {places : List CallPlaces} {callers : Callers} {began : ℕ} (s : State) (number call part : ℕ) (lost : Bool) (links : List (Option Channel)) → IsKept s places callers began → HappensOn number (link.Lose (Part call part) lost) s.links links → There s number call part
lost_there s number call part lost links k h =
    found s number call part (first_there number call part (Part call part) h.channel h.may.wait s (reached_single s k.reached) h.there h.may.first h.may.ticket_is (own_ticket call part))

-- ---- the calls after it

got_changed : {X : Type 0} (f : X → X) (i : ℕ) (xs : List X) (x : X) → slice_get xs i ≡ Some x → slice_get (changed f i xs) i ≡ Some (f x)
got_changed f i [] x e = absurd (cc)
got_changed f zero (y ∷ xs) x e = let q : y ≡ x = cc in ap (λ z. Some (f z)) q
got_changed f (suc i) (y ∷ xs) x e = got_changed f i xs x e

got_call : (call first : ℕ) (change : CallState → CallState) (calls : List CallState) (c : CallState) → first ≤ call → call_in call first calls ≡ Some c → call_in call first (with_call call first change calls) ≡ Some (change c)
got_call call first change calls c low is =
    let t : ltb call first ≡ false = grind (arith, nat_tests) in
    let at : slice_get calls (call - first) ≡ Some c = rw t at is in
    rw t (got_changed change (call - first) calls c at)

-- ---- what its order has to know

module _ {s : State} {places : List CallPlaces} {callers : Callers} {began number call part : ℕ} (k : IsKept s places callers began) (small : began < 2 ^ 64) (t : There s number call part) (f : CallState → PartState → Phase) where
  abbrev moved_part : PartState
  moved_part = record { request = t.p.request; order = t.p.order; may_refuse = t.p.may_refuse; phase = f t.state t.p }

  calls_now : List CallState
  calls_now = with_call call s.first (with_phase part f) s.calls

  call_now : call_in call s.first (with_call call s.first (with_phase part f) s.calls) ≡ Some (with_phase part f t.state)
  call_now = got_call call s.first (with_phase part f) s.calls t.state (not_forgotten call s t.state t.call_is) t.call_is

  part_now : slice_get (with_phase part f t.state).parts part ≡ Some moved_part
  part_now = got_changed (λ (p : PartState). record p { phase = f t.state p }) part t.state.parts t.p t.part_is

  can_move : ((link : ℕ) → status_of (f t.state t.p) ≡ status.Asked link → ⊥) → CanMove s.first call part places (order_of t.state.caller callers) moved_part
  can_move away =
      let st = call_stands k call t.state t.call_is in
      record {
        low = st.low;
        within = st.within;
        fits = λ o at there. place_fits k small (has_there t) o at there;
        on_way = λ place at o. subst (λ (n : ℕ). IsOnItsWay n (order_of t.state.caller callers)) (sym (place_is k call part place t.p.order st at o)) (stands_on number k.tied (has_there t) o t.on);
        moved = away;
      }

  pub can_follow : ((link : ℕ) → status_of (f t.state t.p) ≡ status.Asked link → ⊥) → CanFollow s.first call part (with_call call s.first (with_phase part f) s.calls) places callers
  can_follow away = λ state p is part_is.
      let same : with_phase part f t.state ≡ state = same_Some (with_phase part f t.state) state (sym call_now ∙ is) in
      let own : slice_get (with_phase part f t.state).parts part ≡ Some p = ap (λ (c : CallState). slice_get c.parts part) same ∙ part_is in
      let it : moved_part ≡ p = same_Some moved_part p (sym part_now ∙ own) in
      subst (λ (c : CallState). CanMove s.first call part places (order_of c.caller callers) p) same
      (subst (λ (q : PartState). CanMove s.first call part places (order_of t.state.caller callers) q) it (can_move away))

  pub has_moved : (calls : List CallState) (new : Callers) → calls ≡ with_call call s.first (with_phase part f) s.calls → Follows s.first call part calls places callers new → Moved s.first call part places t.state.caller moved_part callers new
  has_moved calls new is follows = follows (with_phase part f t.state) moved_part (ap (call_in call s.first) is ∙ call_now) part_now

-- the part after it
record IsNow (call part first : ℕ) (calls : List CallState) : Type 0 where
  state : CallState
  p : PartState
  call_is : call_in call first calls ≡ Some state
  part_is : slice_get state.parts part ≡ Some p

now_there : {s : State} {number call part : ℕ} (t : There s number call part) (f : CallState → PartState → Phase) (calls : List CallState) → calls ≡ with_call call s.first (with_phase part f) s.calls → IsNow call part s.first calls
now_there {s = s} {call = call} {part = part} t f calls is = record {
  state = with_phase part f t.state;
  p = record t.p { phase = f t.state t.p };
  call_is = ap (call_in call s.first) is ∙ got_call call s.first (with_phase part f) s.calls t.state (not_forgotten call s t.state t.call_is) t.call_is;
  part_is = got_changed (λ (p : PartState). record p { phase = f t.state p }) part t.state.parts t.p t.part_is;
}

told_away : (number left : ℕ) (wanted refused : Bool) (reply : List ℕ) (link : ℕ) → status_of (phase_told wanted refused reply (Asked number left)) ≡ status.Asked link → ⊥
told_away number zero true true reply link e = cc
told_away number (suc left) true true reply link e = cc
told_away number left false true reply link e = cc
told_away number left true false reply link e = cc
told_away number left false false reply link e = cc

lost_away : (number left : ℕ) (wanted begun : Bool) (link : ℕ) → status_of (phase_lost wanted begun (Asked number left)) ≡ status.Asked link → ⊥
lost_away number left true true link e = cc
lost_away number left false true link e = cc
lost_away number left true false link e = cc
lost_away number left false false link e = cc

-- ---- a reply is taken for it

module _ {s : State} {places : List CallPlaces} {callers : Callers} {began : ℕ} (k : IsKept s places callers began) (number call part : ℕ) (reply : List ℕ) (links : List (Option Channel))
    (h : HappensOn number (link.Take (Part call part) reply) s.links links) where
  pub told_follow : began < 2 ^ 64 → CanFollow s.first call part (with_told call part reply s.first s.calls) places callers
  told_follow small =
      let t = taken_there s number call part reply links k h in
      let w = on_its_way number t.p.phase t.on in
      can_follow k small t (λ state p. phase_told state.is_wanted (is_refusal p reply) reply p.phase)
      (λ link e. told_away number w.0 t.state.is_wanted (is_refusal t.p reply) reply link (ap (λ x. status_of (phase_told t.state.is_wanted (is_refusal t.p reply) reply x)) (sym w.1) ∙ e))

  pub told_keeps : (calls : List CallState) → calls ≡ with_told call part reply s.first s.calls → KeepsAt call part reply s.first calls → IsKeptIn call part reply (state_of links s.first calls)
  told_keeps calls is keeps =
      let t = taken_there s number call part reply links k h in
      let n = now_there t (λ state p. phase_told state.is_wanted (is_refusal p reply) reply p.phase) calls is in
      (n.p, ap (option_and_then (λ (c : CallState). slice_get c.parts part)) n.call_is ∙ n.part_is, keeps n.state n.p n.call_is n.part_is)

  pub told_returns : (calls : List CallState) → calls ≡ with_told call part reply s.first s.calls → ReturnsAt call part reply s.first s.calls → IsKeptIn call part reply (state_of links s.first calls) → ⊥
  told_returns calls is returns kept =
      let t = taken_there s number call part reply links k h in
      let w = on_its_way number t.p.phase t.on in
      let q : PartState = record t.p { phase = phase_told t.state.is_wanted (is_refusal t.p reply) reply t.p.phase } in
      let at : part_at call part (state_of links s.first calls) ≡ Some q =
      ap (option_and_then (λ (c : CallState). slice_get c.parts part)) (ap (call_in call s.first) is ∙ got_call call s.first (with_phase part (λ state p. phase_told state.is_wanted (is_refusal p reply) reply p.phase)) s.calls t.state (not_forgotten call s t.state t.call_is) t.call_is)
      ∙ got_changed (λ (p : PartState). record p { phase = phase_told t.state.is_wanted (is_refusal p reply) reply p.phase }) part t.state.parts t.p t.part_is in
      let same : kept.0 ≡ q = same_Some kept.0 q (sym kept.1 ∙ at) in
      returns t.state t.p t.call_is t.part_is number w.0 w.1 (subst (λ (p : PartState). Keeps reply p.phase) same kept.2)

  pub told_happens : (now : State) (calls : List CallState) → s ≡ now → calls ≡ with_told call part reply s.first s.calls → Happens now (On number (link.Take (Part call part) reply)) (state_of links s.first calls)
  told_happens now calls e is = happens_in s now number (link.Take (Part call part) reply) links calls e h tt (is ∙ told_calls number call part s.first reply s.calls)

  pub told_kept : (calls : List CallState) (new : Callers) → began < 2 ^ 64 → calls ≡ with_told call part reply s.first s.calls → Follows s.first call part calls places callers new → IsKept (state_of links s.first calls) places new began
  told_kept calls new small is follows =
      let t = taken_there s number call part reply links k h in
      let e = On number (link.Take (Part call part) reply) in
      let m = has_moved k small t (λ state p. phase_told state.is_wanted (is_refusal p reply) reply p.phase) calls new is follows in
      kept_part e (state_of links s.first calls) new m.place (status_of (phase_told t.state.is_wanted (is_refusal t.p reply) reply t.p.phase)) k (told_happens s calls refl is) tt (only_taken number call part reply) (has_there t)
      (ap status_of (told_phase number call part reply t.state.is_wanted t.p)) (place_is k call part m.place t.p.order (call_stands k call t.state t.call_is) m.is_place) m.goes refl (length-numbered _ s.first s.calls) (λ n. refl)

-- ---- its link ended

module _ {s : State} {places : List CallPlaces} {callers : Callers} {began : ℕ} (k : IsKept s places callers began) (number call part : ℕ) (lost : Bool) (links : List (Option Channel))
    (h : HappensOn number (link.Lose (Part call part) lost) s.links links) where
  pub lost_follow : began < 2 ^ 64 → CanFollow s.first call part (with_lost call part lost s.first s.calls) places callers
  lost_follow small =
      let t = lost_there s number call part lost links k h in
      let w = on_its_way number t.p.phase t.on in
      can_follow k small t (λ state p. phase_lost state.is_wanted lost p.phase)
      (λ link e. lost_away number w.0 t.state.is_wanted lost link (ap (λ x. status_of (phase_lost t.state.is_wanted lost x)) (sym w.1) ∙ e))

  pub lost_happens : (now : State) (calls : List CallState) → s ≡ now → calls ≡ with_lost call part lost s.first s.calls → Happens now (On number (link.Lose (Part call part) lost)) (state_of links s.first calls)
  lost_happens now calls e is = happens_in s now number (link.Lose (Part call part) lost) links calls e h tt (is ∙ lost_calls number call part s.first lost s.calls)

  pub lost_kept : (calls : List CallState) (new : Callers) → began < 2 ^ 64 → calls ≡ with_lost call part lost s.first s.calls → Follows s.first call part calls places callers new → IsKept (state_of links s.first calls) places new began
  lost_kept calls new small is follows =
      let t = lost_there s number call part lost links k h in
      let e = On number (link.Lose (Part call part) lost) in
      let m = has_moved k small t (λ state p. phase_lost state.is_wanted lost p.phase) calls new is follows in
      kept_part e (state_of links s.first calls) new m.place (status_of (phase_lost t.state.is_wanted lost t.p.phase)) k (lost_happens s calls refl is) tt (only_lost number call part lost) (has_there t)
      (ap status_of (lost_phase number call part lost t.state.is_wanted t.p)) (place_is k call part m.place t.p.order (call_stands k call t.state t.call_is) m.is_place) m.goes refl (length-numbered _ s.first s.calls) (λ n. refl)

-- ---- what a call of `take` answers

pub took_as : (old new : State) (number call part : ℕ) (reply : List ℕ) (first : ℕ) (before after : List CallState) (answer : Took) → IsTold call part reply first before after answer → Happens old (On number (link.Take (Part call part) reply)) new
    → (KeepsAt call part reply first after → IsKeptIn call part reply new) → (ReturnsAt call part reply first before → IsKeptIn call part reply new → ⊥) → IsTook number old answer new
took_as old new number call part reply first before after (took.Kept seat) told h kept gone = (
  reply,
  subst (λ (x : Seat). Happens old (On number (link.Take (Part x.call x.part) reply)) new) (sym told.0) h,
  subst (λ (x : Seat). IsKeptIn x.call x.part reply new) (sym told.0) (kept told.1),
)
took_as old new number call part reply first before after (took.Back seat back) told h kept gone = (
  subst (λ (x : Seat). Happens old (On number (link.Take (Part x.call x.part) back.items)) new) (sym told.0)
      (subst (λ (r : List ℕ). Happens old (On number (link.Take (Part call part) r)) new) (sym told.1) h),
  subst (λ (x : Seat). IsKeptIn x.call x.part back.items new → ⊥) (sym told.0)
      (subst (λ (r : List ℕ). IsKeptIn call part r new → ⊥) (sym told.1) (gone told.2)),
)
took_as old new number call part reply first before after took.Nothing told h kept gone = absurd told
took_as old new number call part reply first before after (took.Login other) told h kept gone = absurd told
took_as old new number call part reply first before after (took.Map count other) told h kept gone = absurd told
took_as old new number call part reply first before after (took.Asking other) told h kept gone = absurd told
took_as old new number call part reply first before after (took.Broken cause) told h kept gone = absurd told
