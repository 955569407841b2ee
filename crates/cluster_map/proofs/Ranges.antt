-- Facts on entries by ascending ends: which entry answers for a slot, and that an insert keeps the order.
use Rattle.std.proofs.Common.{◌≡◌, ◌<◌, ◌≤◌, ℕ, zero, suc, inl, inr, ◌⊎◌, nat_le, nat_lt, List, [], ◌∷◌, length, get_or, refl, sym, ap, ◌∙◌, arith}
use Rattle.std.proofs.Common.{Bor}
use Rattle.std.specs.Prelude.{Option, Some, None, MatchOption}
use Rattle.std.specs.List.{Contains, filter}
use Rattle.std.proofs.lemmas.Bool.{cases_lt, cases_order, le-leb, lt-leb, lt-ltb, le-ltb, cond-true, cond-false}
use Rattle.std.proofs.lemmas.Grind.{common_steps}
use Rattle.cluster_map.specs.RangeMap.{RangeEntry, end_of, value_of, EndsAfter, Ascends, IsAnswerAt, IsUncovered, insert_entry, Holds, AreDisjoint, IsHeldByNone, IsHeldWith}

-- an element at a place of a longer list is its head, or an element of its tail
cons_cases_at : {X : Type 0} (y : X) (ys : List X) (x : X) (k : ℕ) → k < length (y ∷ ys) → get_or (y ∷ ys) k x ≡ x → (y ≡ x) ⊎ Contains ys x
cons_cases_at y ys x zero within is = inl is
cons_cases_at y ys x (suc k) within is = inr (k, omega arith, is)

-- an element of a longer list is its head, or an element of its tail
pub Contains-cons_cases : {X : Type 0} (y : X) (ys : List X) (x : X) → Contains (y ∷ ys) x → (y ≡ x) ⊎ Contains ys x
Contains-cons_cases y ys x there = cons_cases_at y ys x there.0 there.1 there.2

-- the head of a list is an element of it
pub Contains-cons_head : {X : Type 0} (y : X) (ys : List X) → Contains (y ∷ ys) y
Contains-cons_head y ys = (zero, omega arith, refl)

-- an element of the tail is an element of the list
pub Contains-cons_tail : {X : Type 0} (y : X) (ys : List X) (x : X) → Contains ys x → Contains (y ∷ ys) x
Contains-cons_tail y ys x there = (suc there.0, omega arith, there.2)

-- a list with no elements has no element
pub Contains-nil : {X : Type 0} (x : X) → Contains [] x → ⊥
Contains-nil x there = omega arith

-- what ends after a number ends after each smaller one
pub EndsAfter-smaller : {V : Type 0} (low high : ℕ) (es : List (RangeEntry V)) → low < high → EndsAfter high es → EndsAfter low es
EndsAfter-smaller low high [] less after = tt
EndsAfter-smaller low high (e ∷ es) less after = omega arith

-- where the first entry ends after a number, each entry does
pub EndsAfter-contains : {V : Type 0} (end : ℕ) (es : List (RangeEntry V)) (e : RangeEntry V) → EndsAfter end es → Ascends es → Contains es e → end < end_of e
EndsAfter-contains end [] e after ascends there = absurd (Contains-nil e there)
EndsAfter-contains end (r ∷ rs) e after ascends there = elim (Contains-cons_cases r rs e there) [
  | inl same ↦ let ends : end_of r ≡ end_of e = ap end_of same in omega arith
  | inr later ↦ EndsAfter-contains end rs e (EndsAfter-smaller end (end_of r) rs after ascends.0) ascends.1 later
]

-- two entries with the same end are the same
pub same_from_ends : {V : Type 0} (es : List (RangeEntry V)) (e f : RangeEntry V) → Ascends es → Contains es e → Contains es f → end_of e ≡ end_of f → e ≡ f
same_from_ends [] e f ascends at_e at_f ends = absurd (Contains-nil e at_e)
same_from_ends (r ∷ rs) e f ascends at_e at_f ends = elim (Contains-cons_cases r rs e at_e) [
  | inl is_e ↦ elim (Contains-cons_cases r rs f at_f) [
    | inl is_f ↦ sym is_e ∙ is_f
    | inr later_f ↦
        let above : end_of r < end_of f = EndsAfter-contains (end_of r) rs f ascends.0 ascends.1 later_f in
        let end_r : end_of r ≡ end_of e = ap end_of is_e in
        absurd (omega arith)
  ]
  | inr later_e ↦ elim (Contains-cons_cases r rs f at_f) [
    | inl is_f ↦
        let above : end_of r < end_of e = EndsAfter-contains (end_of r) rs e ascends.0 ascends.1 later_e in
        let end_r : end_of r ≡ end_of f = ap end_of is_f in
        absurd (omega arith)
    | inr later_f ↦ same_from_ends rs e f ascends.1 later_e later_f ends
  ]
]

-- the entry ends at the slot or after it, and none that does ends before this one
abbrev pub EndsFirstFrom : {V : Type 0} → List (RangeEntry V) → ℕ → RangeEntry V → Type 0
EndsFirstFrom {V} es slot e = Contains es e × (slot ≤ end_of e) × ((f : RangeEntry V) → Contains es f → slot ≤ end_of f → end_of e ≤ end_of f)

-- one entry at most ends first at a slot or after it
pub EndsFirstFrom-unique : {V : Type 0} (es : List (RangeEntry V)) (slot : ℕ) (e f : RangeEntry V) → Ascends es → EndsFirstFrom es slot e → EndsFirstFrom es slot f → e ≡ f
EndsFirstFrom-unique es slot e f ascends first_e first_f = grind (arith, common_steps, same_from_ends es e f ascends first_e.0 first_f.0 (omega arith))

-- an answer is the value of the entry that ends first
pub EndsFirstFrom-answer : {V : Type 0} (es : List (RangeEntry V)) (slot : ℕ) (value : V) (a : IsAnswerAt es slot value) → EndsFirstFrom es slot (a.start, a.end, value)
EndsFirstFrom-answer es slot value a = (a.there, a.before_end, a.least)

-- the entry that ends first answers for the slot, if it starts there or before
pub IsAnswerAt-first : {V : Type 0} (es : List (RangeEntry V)) (slot : ℕ) (e : RangeEntry V) → EndsFirstFrom es slot e → e.0 ≤ slot → IsAnswerAt es slot (value_of e)
IsAnswerAt-first es slot e first starts = record { start = e.0; end = e.1; there = first.0; after_start = starts; before_end = first.1; least = first.2 }

-- no entry answers for the slot, if the one that ends first starts after it
pub IsUncovered-first : {V : Type 0} (es : List (RangeEntry V)) (slot : ℕ) (e : RangeEntry V) → Ascends es → EndsFirstFrom es slot e → slot < e.0 → IsUncovered es slot
IsUncovered-first es slot e ascends first starts value a =
    let same = EndsFirstFrom-unique es slot e (a.start, a.end, value) ascends first (EndsFirstFrom-answer es slot value a) in
    let start : e.0 ≡ a.start = ap (λ z. z.0) same in
    let before : a.start ≤ slot = a.after_start in
    omega arith

-- one value at most answers for a slot
pub IsAnswerAt-unique : {V : Type 0} (es : List (RangeEntry V)) (slot : ℕ) (v w : V) → Ascends es → IsAnswerAt es slot v → IsAnswerAt es slot w → v ≡ w
IsAnswerAt-unique es slot v w ascends a b =
    ap value_of (EndsFirstFrom-unique es slot (a.start, a.end, v) (b.start, b.end, w) ascends (EndsFirstFrom-answer es slot v a) (EndsFirstFrom-answer es slot w b))

-- the entries that end at a slot or after it
abbrev pub ending_from : {V : Type 0} → ℕ → List (RangeEntry V) → List (RangeEntry V)
ending_from slot es = filter (λ e. nat_le slot (end_of e)) es

-- an entry that ends before the slot is not among those that end from it on
pub ending_from-skips : {V : Type 0} (slot : ℕ) (e : RangeEntry V) (es : List (RangeEntry V)) → end_of e < slot → ending_from slot (e ∷ es) ≡ ending_from slot es
ending_from-skips slot e es below = cond-false _ _ _ (lt-leb slot (end_of e) below)

-- an entry that ends at the slot or after it is among those that do
pub ending_from-keeps : {V : Type 0} (slot : ℕ) (e : RangeEntry V) (es : List (RangeEntry V)) → slot ≤ end_of e → ending_from slot (e ∷ es) ≡ e ∷ ending_from slot es
ending_from-keeps slot e es from = cond-true _ _ _ (le-leb slot (end_of e) from)

-- where no entry ends at the slot or after it, each ends before it
pub all_end_before : {V : Type 0} (es : List (RangeEntry V)) (slot : ℕ) (e : RangeEntry V) → ending_from slot es ≡ [] → Contains es e → end_of e < slot
all_end_before [] slot e none there = absurd (Contains-nil e there)
all_end_before (r ∷ rs) slot e none there = elim (cases_lt (end_of r) slot) [
  | inl below ↦ elim (Contains-cons_cases r rs e there) [
    | inl same ↦ let ends : end_of r ≡ end_of e = ap end_of same in omega arith
    | inr later ↦ all_end_before rs slot e (sym (ending_from-skips slot r rs below) ∙ none) later
  ]
  | inr from ↦ let kept : r ∷ ending_from slot rs ≡ [] = sym (ending_from-keeps slot r rs from) ∙ none in cc
]

-- where no entry ends at the slot or after it, none answers for it
pub IsUncovered-none : {V : Type 0} (es : List (RangeEntry V)) (slot : ℕ) → ending_from slot es ≡ [] → IsUncovered es slot
IsUncovered-none es slot none value a = grind (arith, common_steps, all_end_before es slot (a.start, a.end, value) none a.there)

-- the first of the entries that end at the slot or after it is the one that ends first
pub EndsFirstFrom-head : {V : Type 0} (es : List (RangeEntry V)) (slot : ℕ) (e : RangeEntry V) (rest : List (RangeEntry V)) → Ascends es → ending_from slot es ≡ e ∷ rest → EndsFirstFrom es slot e
EndsFirstFrom-head [] slot e rest ascends is = cc
EndsFirstFrom-head (r ∷ rs) slot e rest ascends is = elim (cases_lt (end_of r) slot) [
  | inl below ↦
      let first = EndsFirstFrom-head rs slot e rest ascends.1 (sym (ending_from-skips slot r rs below) ∙ is) in (
        Contains-cons_tail r rs e first.0,
        first.1,
        λ f there from. elim (Contains-cons_cases r rs f there) [
          | inl same ↦ let ends : end_of r ≡ end_of f = ap end_of same in absurd (omega arith)
          | inr later ↦ first.2 f later from
        ],
      )
  | inr from ↦
      let kept : r ∷ ending_from slot rs ≡ e ∷ rest = sym (ending_from-keeps slot r rs from) ∙ is in
      let same : r ≡ e = cc in
      rw (← same) (
        Contains-cons_head r rs,
        from,
        λ f there _. elim (Contains-cons_cases r rs f there) [
          | inl is_f ↦ let ends : end_of r ≡ end_of f = ap end_of is_f in omega arith
          | inr later ↦ let after : end_of r < end_of f = EndsAfter-contains (end_of r) rs f ascends.0 ascends.1 later in omega arith
        ],
      )
]

-- the entries that end below an end
abbrev pub ending_below : {V : Type 0} → ℕ → List (RangeEntry V) → List (RangeEntry V)
ending_below end es = filter (λ e. nat_lt (end_of e) end) es

-- the entries that end above an end
abbrev pub ending_above : {V : Type 0} → ℕ → List (RangeEntry V) → List (RangeEntry V)
ending_above end es = filter (λ e. nat_lt end (end_of e)) es

-- none of the entries that end after a number ends below it
pub ending_below-none : {V : Type 0} (end : ℕ) (es : List (RangeEntry V)) → EndsAfter end es → Ascends es → ending_below end es ≡ []
ending_below-none end [] after ascends = refl
ending_below-none end (r ∷ rs) after ascends =
    cond-false _ _ _ (le-ltb (end_of r) end (omega arith)) ∙ ending_below-none end rs (EndsAfter-smaller end (end_of r) rs after ascends.0) ascends.1

-- all of the entries that end after a number end above it
pub ending_above-all : {V : Type 0} (end : ℕ) (es : List (RangeEntry V)) → EndsAfter end es → Ascends es → ending_above end es ≡ es
ending_above-all end [] after ascends = refl
ending_above-all end (r ∷ rs) after ascends =
    cond-true _ _ _ (lt-ltb end (end_of r) after) ∙ ap (λ z. r ∷ z) (ending_above-all end rs (EndsAfter-smaller end (end_of r) rs after ascends.0) ascends.1)

-- an entry that ends before the first goes in front of it
pub insert_entry-front : {V : Type 0} (r : RangeEntry V) (rs : List (RangeEntry V)) (start end : ℕ) (value : V) → Ascends (r ∷ rs) → end < end_of r → insert_entry (r ∷ rs) start end value ≡ (start, end, value) ∷ r ∷ rs
insert_entry-front r rs start end value ascends before = grind (arith, ending_below-none, ending_above-all)

-- an entry with the end of the first takes its place
pub insert_entry-place : {V : Type 0} (r : RangeEntry V) (rs : List (RangeEntry V)) (start end : ℕ) (value : V) → Ascends (r ∷ rs) → end ≡ end_of r → insert_entry (r ∷ rs) start end value ≡ (start, end, value) ∷ rs
insert_entry-place r rs start end value ascends same = grind (arith, cond-false, le-ltb, ending_below-none, ending_above-all)

-- an entry that ends after the first goes into the others
pub insert_entry-later : {V : Type 0} (r : RangeEntry V) (rs : List (RangeEntry V)) (start end : ℕ) (value : V) → end_of r < end → insert_entry (r ∷ rs) start end value ≡ r ∷ insert_entry rs start end value
insert_entry-later r rs start end value later = grind (arith, common_steps)

-- an insert of an end after a number leaves the first entry ending after that number
pub EndsAfter-insert_entry : {V : Type 0} (low : ℕ) (es : List (RangeEntry V)) (start end : ℕ) (value : V) → low < end → EndsAfter low es → Ascends es → EndsAfter low (insert_entry es start end value)
EndsAfter-insert_entry low [] start end value less after ascends = less
EndsAfter-insert_entry low (r ∷ rs) start end value less after ascends = elim (cases_order end (end_of r)) [
  | inl same ↦ rw (insert_entry-place r rs start end value ascends same) less
  | inr apart ↦ elim apart [
    | inl before ↦ rw (insert_entry-front r rs start end value ascends before) less
    | inr later ↦ rw (insert_entry-later r rs start end value later) after
  ]
]

-- an insert keeps the ends ascending
pub Ascends-insert_entry : {V : Type 0} (es : List (RangeEntry V)) (start end : ℕ) (value : V) → Ascends es → Ascends (insert_entry es start end value)
Ascends-insert_entry [] start end value ascends = (tt, tt)
Ascends-insert_entry (r ∷ rs) start end value ascends = elim (cases_order end (end_of r)) [
  | inl same ↦
      let after : EndsAfter end rs = rw same ascends.0 in
      rw (insert_entry-place r rs start end value ascends same) (after, ascends.1)
  | inr apart ↦ elim apart [
    | inl before ↦ rw (insert_entry-front r rs start end value ascends before) (before, ascends)
    | inr later ↦
        rw (insert_entry-later r rs start end value later)
        (EndsAfter-insert_entry (end_of r) rs start end value later ascends.0 ascends.1, Ascends-insert_entry rs start end value ascends.1)
  ]
]

-- an answer is the value of an entry that holds the slot
pub IsHeldWith-answer : {V : Type 0} (es : List (RangeEntry V)) (slot : ℕ) (value : V) → IsAnswerAt es slot value → IsHeldWith es slot value
IsHeldWith-answer es slot value a = ((a.start, a.end, value), a.there, (a.after_start, a.before_end), refl)

-- where disjoint entries leave a slot uncovered, none holds it: the one that ends first would start after the slot, and an entry that holds the slot would hold that start too
IsHeldByNone-first : {V : Type 0} (es : List (RangeEntry V)) (slot : ℕ) (f e : RangeEntry V) → AreDisjoint es → IsUncovered es slot → EndsFirstFrom es slot f → Contains es e → ¬ (Holds e slot)
IsHeldByNone-first es slot f e disjoint uncovered first there holds = elim (cases_lt slot f.0) [
  | inl starts ↦
      let straight : f.0 ≤ end_of f = disjoint.straight f first.0 in
      let ends : end_of f ≤ end_of e = first.2 e there holds.1 in
      let from : e.0 ≤ slot = holds.0 in
      let same : e ≡ f = disjoint.apart e f f.0 there first.0 (omega arith, omega arith) (omega arith, straight) in
      let start : e.0 ≡ f.0 = ap (λ z. z.0) same in
      absurd (omega arith)
  | inr starts ↦ uncovered (value_of f) (IsAnswerAt-first es slot f first starts)
]

pub IsHeldByNone-uncovered : {V : Type 0} (es : List (RangeEntry V)) (slot : ℕ) → Ascends es → AreDisjoint es → IsUncovered es slot → IsHeldByNone es slot
IsHeldByNone-uncovered {V} es slot ascends disjoint uncovered e there holds =
    let P : List (RangeEntry V) → Type 0 = λ rest. ending_from slot es ≡ rest → ⊥ in
    (elim (ending_from slot es) as P [
      | [] ↦ λ none. let ends : end_of e < slot = all_end_before es slot e none there in let from : slot ≤ end_of e = holds.1 in absurd (omega arith)
      | f ∷ rest ↦ λ is. IsHeldByNone-first es slot f e disjoint uncovered (EndsFirstFrom-head es slot f rest ascends is) there holds
    ]) refl

-- the law on disjoint entries, at what a look-up gives
pub disjoint_law : {V : Type 0} (es : List (RangeEntry V)) (slot : ℕ) (found : Option (Bor V)) → Ascends es → MatchOption found (IsUncovered es slot) (λ x. IsAnswerAt es slot x.now) → AreDisjoint es
    → MatchOption found (IsHeldByNone es slot) (λ x. IsHeldWith es slot x.now)
disjoint_law es slot None ascends uncovered disjoint = IsHeldByNone-uncovered es slot ascends disjoint uncovered
disjoint_law es slot (Some x) ascends answers disjoint = IsHeldWith-answer es slot x.now answers
