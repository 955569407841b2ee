-- What a session keeps, from one event to the next.
use Rattle.std.proofs.Common.{◌≡◌, ◌<◌, ◌≤◌, ◌+◌, ◌-◌, ◌^◌, ℕ, true, false, inl, inr, List, [], length, Option, None, Some, refl, sym, ap, ◌∙◌, subst, arith}
use Rattle.std.specs.List.{slice_get}
use Rattle.std.proofs.lemmas.Option.{same_Some, slice_get_within}
use Rattle.std.proofs.lemmas.Bool.{cases_eq}
use Rattle.resp_core.proofs.Cases.{by_test}
use Rattle.session_core.specs.declared.ordered_part.Status.{Status}
use Rattle.session_core.specs.declared.part.PartOrder.{PartOrder}
use Rattle.session_core.specs.Channel.{Channel}
use Rattle.session_core.specs.LinkEvents as link
use Rattle.session_core.specs.Order.{no_order}
use Rattle.session_core.specs.declared.link.Standing.TheVariants.{Ended}
use Rattle.session_core.specs.Part.{PartState}
use Rattle.session_core.specs.State.{State, CallState, Event, Open, On, Forget, start, numbered, call_at, call_after, link_after, links_for, phase_after, unwants, Has, MayPut, Happens, after}
use Rattle.session_core.proofs.AfterEvents.{call_is, not_forgotten, length-numbered, new_calls, not_begun, begun_after}
use Rattle.session_core.proofs.PlaceLists.{at_index}
use Rattle.session_machine.specs.declared.caller.CallPlaces.{CallPlaces}
use Rattle.session_machine.specs.declared.callers.Callers.{Callers}
use Rattle.session_machine.specs.Callers.{order_of, owed_of, last_of}
use Rattle.session_machine.specs.Ties.{AreTied, AreOwed, no_owed, OrderGoes, gets, is_ordered, status_of, end_of, IsSteady}
use Rattle.session_machine.proofs.Ties.Tied.{IsOnly, part_came, steady_new, tied_part, tied_free, tied_start}
use Rattle.session_machine.proofs.Ties.Links.{IsQuiet, tied_quiet, quiet_phase}
use Rattle.session_machine.proofs.Ties.GiveUps.{call_within, part_within}
use Rattle.session_machine.proofs.Ties.Owed.{same_owed, owed_kept, owed_start}
use Rattle.session_machine.proofs.Ties.Reached.{reached_by, reached_start}
use Rattle.session_machine.specs.Links.{HappensOn, Opens, Forgets}
use Rattle.session_machine.specs.Kept.{IsKept, IsPlace, PartGoes}
use Rattle.session_machine.proofs.Lasts.{last_after}
use Rattle.session_machine.proofs.CallChanges.{no_calls_change}

abbrev pub state_of : List (Option Channel) → ℕ → List CallState → State
state_of links first calls = record { links = links; first = first; calls = calls }

-- ---- the places of a call

pub record Stands (s : State) (places : List CallPlaces) (order_places : ℕ → ℕ) (call : ℕ) : Type 0 where
  pub low : s.first ≤ call
  pub within : call - s.first < length places
  pub at : CallPlaces
  pub there : slice_get places (call - s.first) ≡ Some at
  pub order_is : order_places call ≡ at.order

pub call_stands : {s : State} {places : List CallPlaces} {callers : Callers} {began : ℕ} (k : IsKept s places callers began) (call : ℕ) (state : CallState) → call_at call s ≡ Some state → Stands s places k.order_places call
call_stands {s = s} {places = places} k call state is =
    let low = not_forgotten call s state is in
    let inside = slice_get_within s.calls (call - s.first) state (sym (call_is call s low) ∙ is) in
    let within : call - s.first < length places = omega (arith, inside, k.count) in
    let p = at_index places (call - s.first) within in
    let n : s.first + (call - s.first) ≡ call = omega (arith, low) in
    let at = k.at (call - s.first) p.0 p.1 in
    record {
      low = low;
      within = within;
      at = p.0;
      there = p.1;
      order_is = ap k.order_places (sym n) ∙ at;
    }

pub place_is : {s : State} {places : List CallPlaces} {callers : Callers} {began : ℕ} (k : IsKept s places callers began) (call part place : ℕ) (order : PartOrder) → Stands s places k.order_places call
    → IsPlace s.first call part places order place → is_ordered order ≡ true → place ≡ k.order_places call + part
place_is k call part place order st is o = is o st.at st.there ∙ ap (λ n. n + part) (sym st.order_is)

pub place_fits : {s : State} {places : List CallPlaces} {callers : Callers} {began caller call part : ℕ} {p : PartState} (k : IsKept s places callers began) → began < 2 ^ 64 → Has s caller call part p
    → is_ordered p.order ≡ true → (at : CallPlaces) → slice_get places (call - s.first) ≡ Some at → at.order + part < 2 ^ 64
place_fits {s = s} {callers = callers} {caller = caller} {call = call} k small has o at there =
    let st = call_stands k call has.state has.call_is in
    let same : st.at ≡ at = same_Some st.at at (sym st.there ∙ there) in
    let own : k.order_places call ≡ at.order = st.order_is ∙ ap (λ (x : CallPlaces). x.order) same in
    let inside = part_within has in
    let within = call_within k.tied has o in
    omega (arith, own, inside, within, k.short caller, small)

-- ---- what is kept

pub kept_by : {s : State} {places : List CallPlaces} {callers : Callers} {began : ℕ} (e : Event) (next : State) (new : Callers) (k : IsKept s places callers began) → Happens s e next
    → (after e s).first ≡ s.first → length (after e s).calls ≡ length s.calls
    → AreTied (after e s) k.order_places (λ caller. order_of caller new) → AreOwed (after e s) (λ caller. owed_of caller new)
    → ((caller : ℕ) → last_of caller new ≡ last_of caller callers) → ((caller : ℕ) → end_of (order_of caller new) ≤ began) → IsKept next places new began
kept_by {s = s} {places = places} {began = began} e next new k h first count tied owed lasts short =
    let none : new_calls e ≡ 0 = omega (arith, begun_after link.May e s h.may, first, count) in
    subst (λ t. IsKept t places new began) (sym h.is) (record {
      order_places = k.order_places;
      count = k.count ∙ sym count;
      at = λ i p is.
          let n : (after e s).first + i ≡ s.first + i = omega (arith, first) in
          ap k.order_places n ∙ k.at i p is;
      reached = reached_by s e k.reached h.may;
      tied = tied;
      owed = owed;
      last = last_after e (λ caller. last_of caller new) k.last h.may none first lasts;
      some = λ caller call part p has.
          let c = part_came h.may none has in
          let same = ap (λ (x : PartState). length x.request) c.is in
          omega (arith, same, k.some caller call part c.was c.has);
      short = short;
      fits = omega (arith, first, count, k.fits);
    })

-- No part changes, and as many calls are wanted.
pub kept_quiet : {s : State} {places : List CallPlaces} {callers : Callers} {began : ℕ} (e : Event) (next : State) → IsKept s places callers began → Happens s e next → IsQuiet e
    → (after e s).first ≡ s.first → length (after e s).calls ≡ length s.calls → new_calls e ≡ 0 → ((n : ℕ) → unwants n e ≡ false) → IsKept next places callers began
kept_quiet {callers = callers} e next k h quiet first count none wanted =
    kept_by e next callers k h first count
    (tied_quiet e (λ caller. order_of caller callers) k.tied h.may quiet (λ caller. refl))
    (owed_kept e (λ caller. owed_of caller callers) k.owed h.may none (λ caller n held. wanted n) (same_owed (λ caller. owed_of caller callers) (λ caller. owed_of caller callers) (λ caller. refl)))
    (λ caller. refl) k.short

-- One part gets a status.
pub kept_part : {s : State} {places : List CallPlaces} {callers : Callers} {began caller call part : ℕ} {p : PartState} (e : Event) (next : State) (new : Callers) (place : ℕ) (st : Status) (k : IsKept s places callers began) → Happens s e next
    → IsSteady e → IsOnly call part e → (has : Has s caller call part p) → status_of (phase_after call part e has.state.is_wanted p) ≡ st
    → (is_ordered p.order ≡ true → place ≡ k.order_places call + part) → PartGoes caller place p.order st callers new
    → (after e s).first ≡ s.first → length (after e s).calls ≡ length s.calls → ((n : ℕ) → unwants n e ≡ false) → IsKept next places new began
kept_part {callers = callers} {began = began} {caller = caller} {call = call} {part = part} {p = p} e next new place st k h steady only has is at goes first count wanted =
    let to : is_ordered p.order ≡ true → OrderGoes (gets (k.order_places call + part) st) (order_of caller callers) (order_of caller new) =
    λ o. subst (λ (n : ℕ). OrderGoes (gets n st) (order_of caller callers) (order_of caller new)) (at o) (goes.ordered o) in
    let same : is_ordered p.order ≡ false → (other : ℕ) → order_of other new ≡ order_of other callers = λ f other. elim (cases_eq other caller) [
      | inl own ↦ subst (λ (n : ℕ). order_of n new ≡ order_of n callers) (sym own) (goes.free f)
      | inr apart ↦ goes.only.order other apart
    ] in
    kept_by e next new k h first count
    (by_test (is_ordered p.order)
    (λ o. tied_part e (λ c. order_of c new) st k.tied h.may steady only has o is (to o) goes.only.order)
    (λ f. tied_free e (λ c. order_of c new) k.tied h.may steady only has f (same f)))
    (owed_kept e (λ c. owed_of c new) k.owed h.may (steady_new e steady) (λ c n held. wanted n) (same_owed (λ c. owed_of c callers) (λ c. owed_of c new) goes.only.owed))
    goes.only.last
    (λ other. elim (cases_eq other caller) [
      | inl own ↦ by_test (is_ordered p.order)
          (λ o.
          let end : end_of (order_of caller new) ≡ end_of (order_of caller callers) = (to o).end in
          let moved : end_of (order_of other new) ≡ end_of (order_of caller new) = ap (λ n. end_of (order_of n new)) own in
          omega (arith, end, moved, k.short caller))
          (λ f. let end : end_of (order_of other new) ≡ end_of (order_of other callers) = ap end_of (same f other) in omega (arith, end, k.short other))
      | inr apart ↦ let end : end_of (order_of other new) ≡ end_of (order_of other callers) = ap end_of (goes.only.order other apart) in omega (arith, end, k.short other)
    ])

-- ---- events on links

pub happens_in : (s now : State) (number : ℕ) (event : link.Event) (links : List (Option Channel)) (calls : List CallState) → s ≡ now → HappensOn number event s.links links → MayPut s number event
    → calls ≡ numbered (call_after (On number event)) s.first s.calls → Happens now (On number event) (state_of links s.first calls)
happens_in s now number event links calls e h may_put is =
    subst (λ t. Happens t (On number event) (state_of links s.first calls)) e (record {
      may = record { channel = h.channel; link_is = h.there; may = h.may; may_put = may_put };
      is = ap (λ ls. state_of ls s.first calls) h.is ∙ ap (state_of (numbered (link_after (On number event)) 0 s.links) s.first) is;
    })

pub quiet_happens : (s now : State) (number : ℕ) (event : link.Event) (links : List (Option Channel)) → s ≡ now → HappensOn number event s.links links → MayPut s number event → IsQuiet (On number event)
    → Happens now (On number event) (state_of links s.first s.calls)
quiet_happens s now number event links e h may_put quiet =
    happens_in s now number event links s.calls e h may_put
    (no_calls_change (On number event) s.first s.calls (λ n c. refl) (λ n. refl) (λ n q wanted p. quiet_phase (On number event) n q wanted p quiet))

pub quiet_kept : {places : List CallPlaces} {callers : Callers} {began : ℕ} (s : State) (number : ℕ) (event : link.Event) (links : List (Option Channel)) → IsKept s places callers began → HappensOn number event s.links links → MayPut s number event → IsQuiet (On number event)
    → IsKept (state_of links s.first s.calls) places callers began
quiet_kept s number event links k h may_put quiet =
    kept_quiet (On number event) (state_of links s.first s.calls) k (quiet_happens s s number event links refl h may_put quiet) quiet refl (length-numbered (call_after (On number event)) s.first s.calls) refl (λ n. refl)

-- ---- links come and go

pub open_happens : (s now : State) (number most : ℕ) (links : List (Option Channel)) → s ≡ now → Opens number most s.links links → Happens now (Open number most) (state_of links s.first s.calls)
open_happens s now number most links e h = subst (λ t. Happens t (Open number most) (state_of links s.first s.calls)) e (record {
  may = (h.within, h.empty);
  is = ap (λ ls. state_of ls s.first s.calls) h.is
      ∙ ap (state_of (numbered (link_after (Open number most)) 0 (links_for (Open number most) s.links)) s.first)
      (no_calls_change (Open number most) s.first s.calls (λ n c. refl) (λ n. refl) (λ n q wanted p. refl));
})

pub open_kept : {places : List CallPlaces} {callers : Callers} {began : ℕ} (s : State) (number most : ℕ) (links : List (Option Channel)) → IsKept s places callers began → Opens number most s.links links → IsKept (state_of links s.first s.calls) places callers began
open_kept s number most links k h =
    kept_quiet (Open number most) (state_of links s.first s.calls) k (open_happens s s number most links refl h) tt refl (length-numbered (call_after (Open number most)) s.first s.calls) refl (λ n. refl)

abbrev pub IsOver : State → ℕ → Type 0
IsOver s number = (c : Channel) × (slice_get s.links number ≡ Some (Some c)) × (c.standing ≡ Ended) × (c.waits ≡ [])

pub forget_happens : (s now : State) (number : ℕ) (links : List (Option Channel)) → s ≡ now → IsOver s number → Forgets number s.links links → Happens now (Forget number) (state_of links s.first s.calls)
forget_happens s now number links e over is = subst (λ t. Happens t (Forget number) (state_of links s.first s.calls)) e (record {
  may = over;
  is = ap (λ ls. state_of ls s.first s.calls) is
      ∙ ap (state_of (numbered (link_after (Forget number)) 0 s.links) s.first)
      (no_calls_change (Forget number) s.first s.calls (λ n c. refl) (λ n. refl) (λ n q wanted p. refl));
})

pub forget_kept : {places : List CallPlaces} {callers : Callers} {began : ℕ} (s : State) (number : ℕ) (links : List (Option Channel)) → IsKept s places callers began → IsOver s number → Forgets number s.links links → IsKept (state_of links s.first s.calls) places callers began
forget_kept s number links k over is =
    kept_quiet (Forget number) (state_of links s.first s.calls) k (forget_happens s s number links refl over is) tt refl (length-numbered (call_after (Forget number)) s.first s.calls) refl (λ n. refl)

-- nothing changed
pub same_links_kept : {places : List CallPlaces} {callers : Callers} {began : ℕ} (s : State) (links : List (Option Channel)) → IsKept s places callers began → links ≡ s.links → IsKept (state_of links s.first s.calls) places callers began
same_links_kept {places = places} {callers = callers} {began = began} s links k is = subst (λ ls. IsKept (state_of ls s.first s.calls) places callers began) (sym is) k

-- ---- the start

started : (callers : Callers) → ((caller : ℕ) → order_of caller callers ≡ no_order) → ((caller : ℕ) → owed_of caller callers ≡ no_owed) → ((caller : ℕ) → last_of caller callers ≡ None) → IsKept start [] callers 0
started callers orders owed lasts = record {
  order_places = λ _. 0;
  count = refl;
  at = λ i p is. absurd (cc);
  reached = reached_start;
  tied = tied_start (λ _. 0) (λ caller. order_of caller callers) orders;
  owed = owed_start (λ caller. owed_of caller callers) owed;
  last = record {
    parts = λ caller call part p has. let no : None ≡ Some has.state = sym (not_begun call start (omega arith)) ∙ has.call_is in absurd (cc);
    wanted = λ call state is w. let no : None ≡ Some state = sym (not_begun call start (omega arith)) ∙ is in absurd (cc);
    there = λ caller last is. let no : None ≡ Some last = sym (lasts caller) ∙ is in absurd (cc);
  };
  some = λ caller call part p has. let no : None ≡ Some has.state = sym (not_begun call start (omega arith)) ∙ has.call_is in absurd (cc);
  short = λ caller. let end : end_of (order_of caller callers) ≡ end_of no_order = ap end_of (orders caller) in omega (arith, end);
  fits = omega arith;
}

pub kept_start : (links : List (Option Channel)) (calls : List CallState) (places : List CallPlaces) (callers : Callers) → links ≡ [] → calls ≡ [] → places ≡ [] → ((caller : ℕ) → order_of caller callers ≡ no_order) → ((caller : ℕ) → owed_of caller callers ≡ no_owed) → ((caller : ℕ) → last_of caller callers ≡ None)
    → IsKept (state_of links 0 calls) places callers 0
kept_start links calls places callers no_links no_calls no_places orders owed lasts =
    subst (λ ls. IsKept (state_of ls 0 calls) places callers 0) (sym no_links)
    (subst (λ cs. IsKept (state_of [] 0 cs) places callers 0) (sym no_calls)
    (subst (λ ps. IsKept (state_of [] 0 []) ps callers 0) (sym no_places) (started callers orders owed lasts)))
