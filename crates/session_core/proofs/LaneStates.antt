-- A lane stays that of its parts, whatever happens to one of them.
use Rattle.std.proofs.Common.{inl, inr, ◌≡◌, ◌≢◌, ◌<◌, ◌≤◌, ◌+◌, ◌^◌, ◌⊎◌, ℕ, [], Option, None, Some, refl, sym, ap, ◌∙◌, subst, arith}
use Rattle.std.proofs.lemmas.Bool.{cases_eq}
use Rattle.session_core.specs.declared.ordered_part.Status.{Status}
use Rattle.session_core.specs.declared.ordered_part.Status.TheVariants.{Waits, Asked, Settled, Unsent}
use Rattle.session_core.specs.Inner.Lane.{In, Lane, no_lane, joined, with_status, MayBecome, IsOpen, IsLaneOf}
use Rattle.session_core.proofs.Ascending.{in_pushed, pushed_in, in_without, without_in, in_put, put_in}

abbrev Statuses : Type 0
Statuses = ℕ → Option Status

not_open : (o : Option Status) → o ≡ Some Settled → IsOpen o → ⊥
not_open None e h = h
not_open (Some Waits) e h = cc
not_open (Some (Asked link)) e h = cc
not_open (Some Settled) e h = h
not_open (Some Unsent) e h = h

open_cases : (o : Option Status) → IsOpen o → (o ≡ Some Waits) ⊎ ((link : ℕ) × (o ≡ Some (Asked link)))
open_cases None h = absurd h
open_cases (Some Waits) h = inl refl
open_cases (Some (Asked link)) h = inr (link, refl)
open_cases (Some Settled) h = absurd h
open_cases (Some Unsent) h = absurd h

-- the part at a place has this status now, or is gone
record Differs (place : ℕ) (status : Option Status) (old new : Statuses) : Type 0 where
  here : new place ≡ status
  others : (q : ℕ) → q ≢ place → new q ≡ old q

-- what the lane has of settled parts, if no part was or got settled
settled_still : (first next place : ℕ) (status : Option Status) (old new : Statuses) (lane : Lane) → IsLaneOf first old lane → Differs place status old new
    → (status ≡ Some Settled → ⊥) → (IsOpen status → IsOpen (old place)) → (q at : ℕ) → q < at → IsOpen (new q) → new at ≡ Some Settled → at < lane.settled_end
settled_still first next place status old new lane l d not opens q at lt o e = elim (cases_eq at place) [
  | inl same ↦ absurd (not (sym d.here ∙ ap new (sym same) ∙ e))
  | inr ne ↦ l.settled q at lt (elim (cases_eq q place) [
    | inl same ↦ subst (λ (n : ℕ). IsOpen (old n)) (sym same) (opens (subst IsOpen d.here (subst (λ (n : ℕ). IsOpen (new n)) same o)))
    | inr apart ↦ subst IsOpen (d.others q apart) o
  ]) (sym (d.others at ne) ∙ e)
]

last_still : (first next place : ℕ) (status : Option Status) (old new : Statuses) (lane : Lane) → IsLaneOf first old lane → Differs place status old new
    → first ≤ next → (next ≤ place → old place ≡ Some Settled → ⊥) → (at : ℕ) → at + 1 ≡ lane.settled_end → next ≤ at → new at ≡ Some Settled
last_still first next place status old new lane l d later not at end le =
    let was = l.last at end (omega arith) in
    elim (cases_eq at place) [
      | inl same ↦ absurd (not (omega arith) (ap old (sym same) ∙ was))
      | inr ne ↦ d.others at ne ∙ was
    ]

-- when a part may get a status
abbrev pub MayMove : (ℕ → Option Status) → ℕ → Status → Type 0
MayMove old place Waits = (link : ℕ) × (old place ≡ Some (Asked link))
MayMove old place (Asked link) = (old place ≡ Some Waits) × ((q other : ℕ) → old q ≡ Some (Asked other) → (other ≡ link) × (q < place))
    × ((q : ℕ) → old q ≡ Some Waits → place ≤ q)
MayMove old place Settled = (link : ℕ) × (old place ≡ Some (Asked link))
MayMove old place Unsent = old place ≡ Some Waits

not_two : (a b : Status) (o : Option Status) → o ≡ Some a → o ≡ Some b → (a ≡ b → ⊥) → ⊥
not_two a b o p q ne = let e : Some a ≡ Some b = sym p ∙ q in ne cc

pub may_become : (first place : ℕ) (status : Status) (old : ℕ → Option Status) (lane : Lane) → IsLaneOf first old lane → MayMove old place status → place + 1 < 2 ^ 64 → MayBecome place status lane
may_become first place Waits old lane l may fits = (l.asked_there place may.0 may.1, λ h. not_two Waits (Asked may.0) (old place) (l.waiting_in place h) may.1 (λ e. cc))
may_become first place (Asked link) old lane l may fits = ((l.waiting_there place may.0, λ q h. may.2 q (l.waiting_in q h)), λ q h. (may.1 q lane.link (l.asked_in q h)).1)
may_become first place Settled old lane l may fits = (l.asked_there place may.0 may.1, fits)
may_become first place Unsent old lane l may fits = l.waiting_there place may

pub lane_changed : (first place : ℕ) (status : Status) (old new : ℕ → Option Status) (lane : Lane) → IsLaneOf first old lane → MayMove old place status
    → new place ≡ Some status → ((q : ℕ) → q ≢ place → new q ≡ old q) → IsLaneOf first new (with_status place status lane)
lane_changed first place Waits old new lane l may here others =
    let d : Differs place (Some Waits) old new = record { here = here; others = others } in
    let was : IsOpen (old place) = subst IsOpen (sym may.1) tt in
    record {
      waiting_in = λ q h. elim (cases_eq q place) [
        | inl same ↦ ap new same ∙ here
        | inr ne ↦ others q ne ∙ elim (in_put q place lane.waiting h) [ inl e ↦ absurd (ne (sym e)) | inr i ↦ l.waiting_in q i ]
      ];
      waiting_there = λ q e. elim (cases_eq q place) [
        | inl same ↦ put_in q place lane.waiting (inl (sym same))
        | inr ne ↦ put_in q place lane.waiting (inr (l.waiting_there q (sym (others q ne) ∙ e)))
      ];
      asked_in = λ q h. let w = in_without q place lane.asked h in others q w.0 ∙ l.asked_in q w.1;
      asked_there = λ q link e. elim (cases_eq q place) [
        | inl same ↦ absurd (not_two (Asked link) Waits (new place) (ap new (sym same) ∙ e) here (λ x. cc))
        | inr ne ↦ without_in q place lane.asked ne (l.asked_there q link (sym (others q ne) ∙ e))
      ];
      settled = settled_still first first place (Some Waits) old new lane l d (λ e. cc) (λ o. was);
      last = last_still first first place (Some Waits) old new lane l d (omega arith) (λ le e. not_open (old place) e was);
    }
lane_changed first place (Asked link) old new lane l may here others =
    let d : Differs place (Some (Asked link)) old new = record { here = here; others = others } in
    let was : IsOpen (old place) = subst IsOpen (sym may.0) tt in
    record {
      waiting_in = λ q h. let w = in_without q place lane.waiting h in others q w.0 ∙ l.waiting_in q w.1;
      waiting_there = λ q e. elim (cases_eq q place) [
        | inl same ↦ absurd (not_two Waits (Asked link) (new place) (ap new (sym same) ∙ e) here (λ x. cc))
        | inr ne ↦ without_in q place lane.waiting ne (l.waiting_there q (sym (others q ne) ∙ e))
      ];
      asked_in = λ q h. elim (cases_eq q place) [
        | inl same ↦ ap new same ∙ here
        | inr ne ↦ elim (in_pushed q place lane.asked h) [
          | inl e ↦ absurd (ne (sym e))
          | inr i ↦ let was_asked = l.asked_in q i in others q ne ∙ was_asked ∙ ap (λ n. Some (Asked n)) (may.1 q lane.link was_asked).0
        ]
      ];
      asked_there = λ q other e. elim (cases_eq q place) [
        | inl same ↦ pushed_in q place lane.asked (inl (sym same))
        | inr ne ↦ pushed_in q place lane.asked (inr (l.asked_there q other (sym (others q ne) ∙ e)))
      ];
      settled = settled_still first first place (Some (Asked link)) old new lane l d (λ e. cc) (λ o. was);
      last = last_still first first place (Some (Asked link)) old new lane l d (omega arith) (λ le e. not_open (old place) e was);
    }
lane_changed first place Settled old new lane l may here others = record {
  waiting_in = λ q h. elim (cases_eq q place) [
    | inl same ↦ absurd (not_two Waits (Asked may.0) (old place) (ap old (sym same) ∙ l.waiting_in q h) may.1 (λ x. cc))
    | inr ne ↦ others q ne ∙ l.waiting_in q h
  ];
  waiting_there = λ q e. elim (cases_eq q place) [
    | inl same ↦ absurd (not_two Waits Settled (new place) (ap new (sym same) ∙ e) here (λ x. cc))
    | inr ne ↦ l.waiting_there q (sym (others q ne) ∙ e)
  ];
  asked_in = λ q h. let w = in_without q place lane.asked h in others q w.0 ∙ l.asked_in q w.1;
  asked_there = λ q link e. elim (cases_eq q place) [
    | inl same ↦ absurd (not_two (Asked link) Settled (new place) (ap new (sym same) ∙ e) here (λ x. cc))
    | inr ne ↦ without_in q place lane.asked ne (l.asked_there q link (sym (others q ne) ∙ e))
  ];
  settled = λ q at lt o e. elim (cases_eq at place) [
    | inl same ↦ omega (arith, same)
    | inr ne ↦
        let apart : q ≢ place = λ same. not_open (new place) here (subst (λ (n : ℕ). IsOpen (new n)) same o) in
        let less = l.settled q at lt (subst IsOpen (others q apart) o) (sym (others at ne) ∙ e) in
        omega (arith, less)
  ];
  last = λ at end le. elim (cases_eq at place) [
    | inl same ↦ ap new same ∙ here
    | inr ne ↦ others at ne ∙ l.last at (omega (arith, end, ne)) le
  ];
}
lane_changed first place Unsent old new lane l may here others =
    let d : Differs place (Some Unsent) old new = record { here = here; others = others } in
    let was : IsOpen (old place) = subst IsOpen (sym may) tt in
    record {
      waiting_in = λ q h. let w = in_without q place lane.waiting h in others q w.0 ∙ l.waiting_in q w.1;
      waiting_there = λ q e. elim (cases_eq q place) [
        | inl same ↦ absurd (not_two Waits Unsent (new place) (ap new (sym same) ∙ e) here (λ x. cc))
        | inr ne ↦ without_in q place lane.waiting ne (l.waiting_there q (sym (others q ne) ∙ e))
      ];
      asked_in = λ q h. elim (cases_eq q place) [
        | inl same ↦ absurd (not_two Waits (Asked lane.link) (old place) may (ap old (sym same) ∙ l.asked_in q h) (λ x. cc))
        | inr ne ↦ others q ne ∙ l.asked_in q h
      ];
      asked_there = λ q link e. elim (cases_eq q place) [
        | inl same ↦ absurd (not_two (Asked link) Unsent (new place) (ap new (sym same) ∙ e) here (λ x. cc))
        | inr ne ↦ l.asked_there q link (sym (others q ne) ∙ e)
      ];
      settled = settled_still first first place (Some Unsent) old new lane l d (λ e. cc) (λ o. was);
      last = last_still first first place (Some Unsent) old new lane l d (omega arith) (λ le e. not_open (old place) e was);
    }

-- a part that is done is forgotten, at the front or at the end
pub lane_gone : (first next place : ℕ) (old new : ℕ → Option Status) (lane : Lane) → IsLaneOf first old lane → (IsOpen (old place) → ⊥) → first ≤ next
    → (next ≤ place → old place ≡ Some Settled → ⊥) → new place ≡ None → ((q : ℕ) → q ≢ place → new q ≡ old q) → IsLaneOf next new lane
lane_gone first next place old new lane l done later not here others =
    let d : Differs place None old new = record { here = here; others = others } in
    let gone : (q : ℕ) (s : Status) → new q ≡ Some s → q ≢ place = λ q s e same. (let z : ◌≡◌ {A = Option Status} None (Some s) = sym here ∙ ap new (sym same) ∙ e in cc) in
    let kept : (q : ℕ) (s : Status) → old q ≡ Some s → IsOpen (Some s) → new q ≡ Some s = λ q s e o. elim (cases_eq q place) [
      | inl same ↦ absurd (done (subst (λ (n : ℕ). IsOpen (old n)) same (subst IsOpen (sym e) o)))
      | inr ne ↦ others q ne ∙ e
    ] in
    record {
      waiting_in = λ q h. kept q Waits (l.waiting_in q h) tt;
      waiting_there = λ q e. l.waiting_there q (sym (others q (gone q Waits e)) ∙ e);
      asked_in = λ q h. kept q (Asked lane.link) (l.asked_in q h) tt;
      asked_there = λ q link e. l.asked_there q link (sym (others q (gone q (Asked link) e)) ∙ e);
      settled = settled_still first next place None old new lane l d (λ e. cc) (λ o. absurd o);
      last = last_still first next place None old new lane l d later not;
    }

-- a part joins
pub lane_joined : (first place : ℕ) (old new : ℕ → Option Status) (lane : Lane) → IsLaneOf first old lane → ((q : ℕ) (s : Status) → old q ≡ Some s → q < place)
    → new place ≡ Some Waits → ((q : ℕ) → q ≢ place → new q ≡ old q) → IsLaneOf first new (joined place lane)
lane_joined first place old new lane l top here others =
    let apart : (q : ℕ) (s : Status) → old q ≡ Some s → q ≢ place = λ q s e same. let lt = top q s e in omega (arith, lt, same) in
    record {
      waiting_in = λ q h. elim (in_pushed q place lane.waiting h) [
        | inl e ↦ ap new (sym e) ∙ here
        | inr i ↦ let e = l.waiting_in q i in others q (apart q Waits e) ∙ e
      ];
      waiting_there = λ q e. elim (cases_eq q place) [
        | inl same ↦ pushed_in q place lane.waiting (inl (sym same))
        | inr ne ↦ pushed_in q place lane.waiting (inr (l.waiting_there q (sym (others q ne) ∙ e)))
      ];
      asked_in = λ q h. let e = l.asked_in q h in others q (apart q (Asked lane.link) e) ∙ e;
      asked_there = λ q link e. elim (cases_eq q place) [
        | inl same ↦ absurd (not_two (Asked link) Waits (new place) (ap new (sym same) ∙ e) here (λ x. cc))
        | inr ne ↦ l.asked_there q link (sym (others q ne) ∙ e)
      ];
      settled = λ q at lt o e. elim (cases_eq at place) [
        | inl same ↦ absurd (not_two Settled Waits (new place) (ap new (sym same) ∙ e) here (λ x. cc))
        | inr ne ↦
            let was = sym (others at ne) ∙ e in
            let low = top at Settled was in
            let ahead : q ≢ place = λ same. omega (arith, low, lt, same) in
            l.settled q at lt (subst IsOpen (others q ahead) o) was
      ];
      last = λ at end le. let e = l.last at end le in others at (apart at Settled e) ∙ e;
    }

-- nothing happens to a part of this lane
pub lane_same : (first : ℕ) (old new : ℕ → Option Status) (lane : Lane) → IsLaneOf first old lane → ((q : ℕ) → new q ≡ old q) → IsLaneOf first new lane
lane_same first old new lane l same = record {
  waiting_in = λ q h. same q ∙ l.waiting_in q h;
  waiting_there = λ q e. l.waiting_there q (sym (same q) ∙ e);
  asked_in = λ q h. same q ∙ l.asked_in q h;
  asked_there = λ q link e. l.asked_there q link (sym (same q) ∙ e);
  settled = λ q at lt o e. l.settled q at lt (subst IsOpen (same q) o) (sym (same at) ∙ e);
  last = λ at end le. same at ∙ l.last at end le;
}

-- an empty lane is forgotten
pub lane_freed : (first : ℕ) (old : ℕ → Option Status) (lane : Lane) → IsLaneOf first old lane → lane.waiting ≡ [] → lane.asked ≡ [] → IsLaneOf first old no_lane
lane_freed first old lane l waiting asked = record {
  waiting_in = λ q h. absurd h;
  waiting_there = λ q e. subst (In q) waiting (l.waiting_there q e);
  asked_in = λ q h. absurd h;
  asked_there = λ q link e. subst (In q) asked (l.asked_there q link e);
  settled = λ q at lt o e. elim (open_cases (old q) o) [
    | inl w ↦ absurd (subst (In q) waiting (l.waiting_there q w))
    | inr a ↦ absurd (subst (In q) asked (l.asked_there q a.0 a.1))
  ];
  last = λ at end le. absurd (omega (arith, end));
}

pub lane_none : (old : ℕ → Option Status) → ((q : ℕ) → old q ≡ None) → IsLaneOf 0 old no_lane
lane_none old none =
    let not : (q : ℕ) (s : Status) → old q ≡ Some s → ⊥ = λ q s e. (let z : ◌≡◌ {A = Option Status} None (Some s) = sym (none q) ∙ e in cc) in
    record {
      waiting_in = λ q h. absurd h;
      waiting_there = λ q e. not q Waits e;
      asked_in = λ q h. absurd h;
      asked_there = λ q link e. not q (Asked link) e;
      settled = λ q at lt o e. absurd (not at Settled e);
      last = λ at end le. absurd (omega (arith, end));
    }
