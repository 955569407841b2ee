-- Where no two ranges meet and none is reversed, a map has just these, whatever the order in which they are put in.
use Rattle.std.proofs.Common.{◌≡◌, ◌<◌, ◌≤◌, ℕ, inl, inr, ◌⊎◌, ◌↔◌, List, [], ◌∷◌, map, Contains, IsPermutation, refl, sym, ap, ◌∙◌, arith}
use Rattle.std.proofs.lemmas.Bool.{cases_order}
use Rattle.std.proofs.lemmas.List.Sorted.{IsPermutation-map, IsPermutation-sym, Contains-permutation}
use Rattle.std.proofs.lemmas.Grind.{common_steps}
use Rattle.cluster_map.specs.RangeMap.{RangeEntry, end_of, Ascends, insert_entry, AreDisjoint}
use Rattle.cluster_map.specs.SlotNodes.{SlotNodes, RangeNodes, nodes_of, range_entry, insert_ranges}
use Rattle.cluster_map.proofs.Ranges.{Contains-cons_cases, Contains-cons_head, Contains-cons_tail, Contains-nil, EndsAfter-contains, insert_entry-front, insert_entry-place, insert_entry-later, Ascends-insert_entry}

-- after an insert there is the new entry
Contains-insert_entry : {V : Type 0} (es : List (RangeEntry V)) (start end : ℕ) (value : V) → Ascends es → Contains (insert_entry es start end value) (start, end, value)
Contains-insert_entry [] start end value ascends = Contains-cons_head (start, end, value) []
Contains-insert_entry (r ∷ rs) start end value ascends = elim (cases_order end (end_of r)) [
  | inl same ↦ rw (insert_entry-place r rs start end value ascends same) (Contains-cons_head (start, end, value) rs)
  | inr apart ↦ elim apart [
    | inl before ↦ rw (insert_entry-front r rs start end value ascends before) (Contains-cons_head (start, end, value) (r ∷ rs))
    | inr later ↦ rw (insert_entry-later r rs start end value later) (Contains-cons_tail r _ (start, end, value) (Contains-insert_entry rs start end value ascends.1))
  ]
]

-- no other entry comes in
Contains-insert_cases : {V : Type 0} (es : List (RangeEntry V)) (start end : ℕ) (value : V) (e : RangeEntry V) → Ascends es → Contains (insert_entry es start end value) e → ((start, end, value) ≡ e) ⊎ Contains es e
Contains-insert_cases [] start end value e ascends there = Contains-cons_cases (start, end, value) [] e there
Contains-insert_cases (r ∷ rs) start end value e ascends there = elim (cases_order end (end_of r)) [
  | inl same ↦ elim (Contains-cons_cases (start, end, value) rs e (rw (insert_entry-place r rs start end value ascends same) at there)) [
    | inl new ↦ inl new
    | inr old ↦ inr (Contains-cons_tail r rs e old)
  ]
  | inr apart ↦ elim apart [
    | inl before ↦ Contains-cons_cases (start, end, value) (r ∷ rs) e (rw (insert_entry-front r rs start end value ascends before) at there)
    | inr later ↦ elim (Contains-cons_cases r _ e (rw (insert_entry-later r rs start end value later) at there)) [
      | inl first ↦ inr (rw first (Contains-cons_head e rs))
      | inr rest ↦ elim (Contains-insert_cases rs start end value e ascends.1 rest) [
        | inl new ↦ inl new
        | inr old ↦ inr (Contains-cons_tail r rs e old)
      ]
    ]
  ]
]

-- an entry stays, unless another one comes in with its end
Contains-insert_kept : {V : Type 0} (es : List (RangeEntry V)) (start end : ℕ) (value : V) (e : RangeEntry V) → Ascends es → (end ≡ end_of e → (start, end, value) ≡ e) → Contains es e → Contains (insert_entry es start end value) e
Contains-insert_kept [] start end value e ascends same_end there = absurd (Contains-nil e there)
Contains-insert_kept (r ∷ rs) start end value e ascends same_end there = elim (cases_order end (end_of r)) [
  | inl same ↦ elim (Contains-cons_cases r rs e there) [
    | inl first ↦ rw (← same_end (same ∙ ap end_of first)) (Contains-insert_entry (r ∷ rs) start end value ascends)
    | inr rest ↦ rw (insert_entry-place r rs start end value ascends same) (Contains-cons_tail (start, end, value) rs e rest)
  ]
  | inr apart ↦ elim apart [
    | inl before ↦ rw (insert_entry-front r rs start end value ascends before) (Contains-cons_tail (start, end, value) (r ∷ rs) e there)
    | inr later ↦ rw (insert_entry-later r rs start end value later) (elim (Contains-cons_cases r rs e there) [
      | inl first ↦ rw first (Contains-cons_head e _)
      | inr rest ↦ Contains-cons_tail r _ e (Contains-insert_kept rs start end value e ascends.1 same_end rest)
    ])
  ]
]

-- the heads of two lists by ascending ends that have the same entries are one
same_heads : {V : Type 0} (e f : RangeEntry V) (es fs : List (RangeEntry V)) → Ascends (e ∷ es) → Ascends (f ∷ fs) → Contains (f ∷ fs) e → Contains (e ∷ es) f → e ≡ f
same_heads e f es fs up_es up_fs at_e at_f = elim (Contains-cons_cases f fs e at_e) [
  | inl same ↦ sym same
  | inr later_e ↦ elim (Contains-cons_cases e es f at_f) [
    | inl same ↦ same
    | inr later_f ↦
        let below : end_of f < end_of e = EndsAfter-contains (end_of f) fs e up_fs.0 up_fs.1 later_e in
        let above : end_of e < end_of f = EndsAfter-contains (end_of e) es f up_es.0 up_es.1 later_f in
        absurd (omega arith)
  ]
]

-- an entry that ends after the head is in the tail
in_tail : {V : Type 0} (e g : RangeEntry V) (es : List (RangeEntry V)) → end_of e < end_of g → Contains (e ∷ es) g → Contains es g
in_tail e g es after there = grind (arith, common_steps)

-- the entries of one tail are in the other
tails : {V : Type 0} (e f : RangeEntry V) (es fs : List (RangeEntry V)) → e ≡ f → Ascends (e ∷ es) → ((g : RangeEntry V) → Contains (e ∷ es) g → Contains (f ∷ fs) g) → (g : RangeEntry V) → Contains es g → Contains fs g
tails e f es fs same up into g there =
    let after : end_of e < end_of g = EndsAfter-contains (end_of e) es g up.0 up.1 there in
    let ends : end_of e ≡ end_of f = ap end_of same in
    in_tail f g fs (omega arith) (into g (Contains-cons_tail e es g there))

-- two lists by ascending ends that have the same entries are one
same_entries : {V : Type 0} (es fs : List (RangeEntry V)) → Ascends es → Ascends fs → ((e : RangeEntry V) → Contains es e → Contains fs e) → ((e : RangeEntry V) → Contains fs e → Contains es e) → es ≡ fs
same_entries [] [] up_es up_fs into back = refl
same_entries [] (f ∷ fs) up_es up_fs into back = absurd (Contains-nil f (back f (Contains-cons_head f fs)))
same_entries (e ∷ es) [] up_es up_fs into back = absurd (Contains-nil e (into e (Contains-cons_head e es)))
same_entries (e ∷ es) (f ∷ fs) up_es up_fs into back =
    let heads = same_heads e f es fs up_es up_fs (into e (Contains-cons_head e es)) (back f (Contains-cons_head f fs)) in
    let rest = same_entries es fs up_es.1 up_fs.1 (tails e f es fs heads up_es into) (tails f e fs es (sym heads) up_fs back) in
    ap (λ z. z ∷ es) heads ∙ ap (λ z. f ∷ z) rest

-- the entries with that of a range put in
abbrev insert_range : List (RangeEntry SlotNodes) → RangeNodes → List (RangeEntry SlotNodes)
insert_range es r = insert_entry es r.start r.end (nodes_of r)

insert_range-ascends : (es : List (RangeEntry SlotNodes)) (r : RangeNodes) → Ascends es → Ascends (insert_range es r)
insert_range-ascends es r up = Ascends-insert_entry es r.start r.end (nodes_of r) up

insert_ranges-ascends : (es : List (RangeEntry SlotNodes)) (rs : List RangeNodes) → Ascends es → Ascends (insert_ranges es rs)
insert_ranges-ascends es [] up = up
insert_ranges-ascends es (r ∷ rs) up = insert_ranges-ascends (insert_range es r) rs (insert_range-ascends es r up)

-- each entry was there before, or is that of a range
insert_ranges-cases : (es : List (RangeEntry SlotNodes)) (rs : List RangeNodes) (e : RangeEntry SlotNodes) → Ascends es → Contains (insert_ranges es rs) e → Contains es e ⊎ Contains (map range_entry rs) e
insert_ranges-cases es [] e up there = inl there
insert_ranges-cases es (r ∷ rs) e up there = elim (insert_ranges-cases (insert_range es r) rs e (insert_range-ascends es r up) there) [
  | inl now ↦ elim (Contains-insert_cases es r.start r.end (nodes_of r) e up now) [
    | inl new ↦ inr (rw (← new) (Contains-cons_head (range_entry r) (map range_entry rs)))
    | inr old ↦ inl old
  ]
  | inr later ↦ inr (Contains-cons_tail (range_entry r) (map range_entry rs) e later)
]

-- entries with the same end are the same
abbrev HaveOwnEnds : List (RangeEntry SlotNodes) → Type 0
HaveOwnEnds es = (e f : RangeEntry SlotNodes) → Contains es e → Contains es f → end_of e ≡ end_of f → e ≡ f

-- the entries of the ranges are among these
abbrev AreAmong : List RangeNodes → List (RangeEntry SlotNodes) → Type 0
AreAmong rs all = (f : RangeEntry SlotNodes) → Contains (map range_entry rs) f → Contains all f

among_later : (r : RangeNodes) (rs : List RangeNodes) (all : List (RangeEntry SlotNodes)) → AreAmong (r ∷ rs) all → AreAmong rs all
among_later r rs all among f later = among f (Contains-cons_tail (range_entry r) (map range_entry rs) f later)

-- an entry stays where those that come in have ends of their own
insert_ranges-keeps : (all es : List (RangeEntry SlotNodes)) (rs : List RangeNodes) (e : RangeEntry SlotNodes) → HaveOwnEnds all → Ascends es → AreAmong rs all → Contains all e → Contains es e → Contains (insert_ranges es rs) e
insert_ranges-keeps all es [] e own up among mine there = there
insert_ranges-keeps all es (r ∷ rs) e own up among mine there =
    let head = among (range_entry r) (Contains-cons_head (range_entry r) (map range_entry rs)) in
    insert_ranges-keeps all (insert_range es r) rs e own (insert_range-ascends es r up) (among_later r rs all among) mine
    (Contains-insert_kept es r.start r.end (nodes_of r) e up (λ ends. own (range_entry r) e head mine ends) there)

-- each range is there
insert_ranges-has : (all es : List (RangeEntry SlotNodes)) (rs : List RangeNodes) (e : RangeEntry SlotNodes) → HaveOwnEnds all → Ascends es → AreAmong rs all → Contains (map range_entry rs) e → Contains (insert_ranges es rs) e
insert_ranges-has all es [] e own up among there = absurd (Contains-nil e there)
insert_ranges-has all es (r ∷ rs) e own up among there =
    let later = among_later r rs all among in
    let next = insert_range-ascends es r up in
    elim (Contains-cons_cases (range_entry r) (map range_entry rs) e there) [
      | inl first ↦ insert_ranges-keeps all (insert_range es r) rs e own next later (among e there) (rw (← first) (Contains-insert_entry es r.start r.end (nodes_of r) up))
      | inr rest ↦ insert_ranges-has all (insert_range es r) rs e own next later rest
    ]

disjoint_own_ends : (es : List (RangeEntry SlotNodes)) → AreDisjoint es → HaveOwnEnds es
disjoint_own_ends es disjoint e f at_e at_f ends =
    let e_straight : e.0 ≤ end_of e = disjoint.straight e at_e in
    let f_straight : f.0 ≤ end_of f = disjoint.straight f at_f in
    disjoint.apart e f (end_of e) at_e at_f (e_straight, omega arith) (omega arith, omega arith)

-- each entry of a map is that of a range
insert_ranges-only : (rs : List RangeNodes) (e : RangeEntry SlotNodes) → Contains (insert_ranges [] rs) e → Contains (map range_entry rs) e
insert_ranges-only rs e there = elim (insert_ranges-cases [] rs e tt there) [
  | inl none ↦ absurd (Contains-nil e none)
  | inr some ↦ some
]

-- the map of disjoint ranges has the entries of the ranges
pub disjoint_ranges_stay : (rs : List RangeNodes) (e : RangeEntry SlotNodes) → AreDisjoint (map range_entry rs) → Contains (insert_ranges [] rs) e ↔ Contains (map range_entry rs) e
disjoint_ranges_stay rs e disjoint = (insert_ranges-only rs e, insert_ranges-has (map range_entry rs) [] rs e (disjoint_own_ends (map range_entry rs) disjoint) tt (λ f there. there))

-- and is the same for every order of them
pub any_order : (rs others : List RangeNodes) → IsPermutation rs others → AreDisjoint (map range_entry rs) → insert_ranges [] rs ≡ insert_ranges [] others
any_order rs others same disjoint =
    let all = map range_entry rs in
    let moved = IsPermutation-map range_entry rs others same in
    let among : AreAmong others all = λ f there. Contains-permutation (map range_entry others) all f (IsPermutation-sym all (map range_entry others) moved) there in
    let own = disjoint_own_ends all disjoint in
    same_entries (insert_ranges [] rs) (insert_ranges [] others) (insert_ranges-ascends [] rs tt) (insert_ranges-ascends [] others tt)
    (λ e there. insert_ranges-has all [] others e own tt among (Contains-permutation all (map range_entry others) e moved (insert_ranges-only rs e there)))
    (λ e there. (disjoint_ranges_stay rs e disjoint).1 (among e (insert_ranges-only others e there)))
