-- Ascending lists of places.
use Rattle.std.proofs.Common.{inl, inr, true, false, Bool, ◌≡◌, ◌≢◌, ◌<◌, ◌≤◌, ◌+◌, ◌-◌, ◌++◌, ◌==◌, ◌⊎◌, ℕ, zero, suc, ltb, List, [], ◌∷◌, length, drop, get_or, refl, sym, ap, ◌∙◌, subst, arith}
use Rattle.std.specs.List.{insert, remove}
use Rattle.std.proofs.lemmas.Option.{slice_get_read, get_or_from_slice_get}
use Rattle.std.proofs.lemmas.Bool.Decides.{nat_tests}
use Rattle.session_core.specs.Inner.Lane.{In, Ascends, IsFirst, without, with_place}

pub same_place : (x p : ℕ) → ((x ≡ p) × ((x == p) ≡ true)) ⊎ ((x ≢ p) × ((x == p) ≡ false))
same_place x p = by (x == p) refl
  where
    by : (b : Bool) → (x == p) ≡ b → ((x ≡ p) × ((x == p) ≡ true)) ⊎ ((x ≢ p) × ((x == p) ≡ false))
    by true t = inl ((let e : x ≡ p = grind (arith, nat_tests) in e), t)
    by false t = inr ((let ne : x ≢ p = grind (arith, nat_tests) in ne), t)

pub in_some : (q : ℕ) (xs : List ℕ) → In q xs → 0 < length xs
in_some q [] h = absurd h
in_some q (x ∷ xs) h = omega arith

pub in_pushed : (q p : ℕ) (xs : List ℕ) → In q (xs ++ p ∷ []) → (p ≡ q) ⊎ In q xs
in_pushed q p [] h = h
in_pushed q p (x ∷ xs) h = elim h [
  | inl e ↦ inr (inl e)
  | inr r ↦ elim (in_pushed q p xs r) [ inl e ↦ inl e | inr i ↦ inr (inr i) ]
]

pub appended_in : (q : ℕ) (xs ys : List ℕ) → In q xs ⊎ In q ys → In q (xs ++ ys)
appended_in q [] ys h = elim h [ inl i ↦ absurd i | inr i ↦ i ]
appended_in q (x ∷ xs) ys h = elim h [
  | inl i ↦ elim i [ inl e ↦ inl e | inr r ↦ inr (appended_in q xs ys (inl r)) ]
  | inr i ↦ inr (appended_in q xs ys (inr i))
]

pub pushed_in : (q p : ℕ) (xs : List ℕ) → (p ≡ q) ⊎ In q xs → In q (xs ++ p ∷ [])
pushed_in q p xs h = appended_in q xs (p ∷ []) (elim h [ inl e ↦ inr (inl e) | inr i ↦ inl i ])

pub in_without : (q p : ℕ) (xs : List ℕ) → In q (without p xs) → (q ≢ p) × In q xs
in_without q p [] h = absurd h
in_without q p (x ∷ xs) h = elim (same_place x p) [
  | inl e ↦ let w = in_without q p xs (rw e.1 at h) in (w.0, inr w.1)
  | inr ne ↦ elim (rw ne.1 at h) [
    | inl e ↦ ((λ s. ne.0 (e ∙ s)), inl e)
    | inr i ↦ let w = in_without q p xs i in (w.0, inr w.1)
  ]
]

pub without_in : (q p : ℕ) (xs : List ℕ) → q ≢ p → In q xs → In q (without p xs)
without_in q p [] ne h = h
without_in q p (x ∷ xs) ne h = elim (same_place x p) [
  | inl e ↦ rw e.1 (elim h [ inl is ↦ absurd (ne (sym is ∙ e.0)) | inr i ↦ without_in q p xs ne i ])
  | inr apart ↦ rw apart.1 (elim h [ inl is ↦ inl is | inr i ↦ inr (without_in q p xs ne i) ])
]

below : (x p : ℕ) → ((x < p) × (ltb x p ≡ true)) ⊎ ((p ≤ x) × (ltb x p ≡ false))
below x p = by (ltb x p) refl
  where
    by : (b : Bool) → ltb x p ≡ b → ((x < p) × (ltb x p ≡ true)) ⊎ ((p ≤ x) × (ltb x p ≡ false))
    by true t = inl ((let e : x < p = grind (arith, nat_tests) in e), t)
    by false t = inr ((let e : p ≤ x = grind (arith, nat_tests) in e), t)

pub in_put : (q p : ℕ) (xs : List ℕ) → In q (with_place p xs) → (p ≡ q) ⊎ In q xs
in_put q p [] h = h
in_put q p (x ∷ xs) h = elim (below x p) [
  | inl lt ↦ elim (rw lt.1 at h) [
    | inl e ↦ inr (inl e)
    | inr i ↦ elim (in_put q p xs i) [ inl e ↦ inl e | inr r ↦ inr (inr r) ]
  ]
  | inr ge ↦ rw ge.1 at h
]

pub put_in : (q p : ℕ) (xs : List ℕ) → (p ≡ q) ⊎ In q xs → In q (with_place p xs)
put_in q p [] h = h
put_in q p (x ∷ xs) h = elim (below x p) [
  | inl lt ↦ rw lt.1 (elim h [
    | inl e ↦ inr (put_in q p xs (inl e))
    | inr i ↦ elim i [ inl e ↦ inl e | inr r ↦ inr (put_in q p xs (inr r)) ]
  ])
  | inr ge ↦ rw ge.1 h
]

-- ---- they ascend

pub ascends_pushed : (p : ℕ) (xs : List ℕ) → Ascends xs → ((q : ℕ) → In q xs → q < p) → Ascends (xs ++ p ∷ [])
ascends_pushed p [] a top = ((λ q h. absurd h), tt)
ascends_pushed p (x ∷ xs) a top = (
  (λ q h. elim (in_pushed q p xs h) [ inl e ↦ subst (λ (n : ℕ). x < n) e (top x (inl refl)) | inr i ↦ a.0 q i ]),
  ascends_pushed p xs a.1 (λ q h. top q (inr h)),
)

pub ascends_without : (p : ℕ) (xs : List ℕ) → Ascends xs → Ascends (without p xs)
ascends_without p [] a = a
ascends_without p (x ∷ xs) a = elim (same_place x p) [
  | inl e ↦ rw e.1 (ascends_without p xs a.1)
  | inr ne ↦ rw ne.1 ((λ q h. a.0 q (in_without q p xs h).1), ascends_without p xs a.1)
]

pub ascends_put : (p : ℕ) (xs : List ℕ) → Ascends xs → (In p xs → ⊥) → Ascends (with_place p xs)
ascends_put p [] a absent = ((λ q h. absurd h), tt)
ascends_put p (x ∷ xs) a absent = elim (below x p) [
  | inl lt ↦ rw lt.1 (
    (λ q h. elim (in_put q p xs h) [ inl e ↦ subst (λ (n : ℕ). x < n) e lt.0 | inr i ↦ a.0 q i ]),
    ascends_put p xs a.1 (λ h. absent (inr h)),
  )
  | inr ge ↦
      let apart : x ≢ p = λ e. absent (inl e) in
      let lt : p < x = omega (arith, ge.0, apart) in
      rw ge.1 ((λ q h. elim h [ inl e ↦ subst (λ (n : ℕ). p < n) e lt | inr i ↦ let more = a.0 q i in omega (arith, lt, more) ]), a)
]

pub ascends_split : (xs ys : List ℕ) → Ascends (xs ++ ys) → Ascends xs × Ascends ys × ((p q : ℕ) → In p xs → In q ys → p < q)
ascends_split [] ys a = (tt, a, λ p q i. absurd i)
ascends_split (x ∷ xs) ys a =
    let s = ascends_split xs ys a.1 in (
      ((λ q h. a.0 q (appended_in q xs ys (inl h))), s.0),
      s.1,
      λ p q i j. elim i [
        | inl e ↦ subst (λ (n : ℕ). n < q) e (a.0 q (appended_in q xs ys (inr j)))
        | inr r ↦ s.2 p q r j
      ],
    )

-- ---- two lists, one after the other

pub without_appended : (p : ℕ) (xs ys : List ℕ) → without p (xs ++ ys) ≡ without p xs ++ without p ys
without_appended p [] ys = refl
without_appended p (x ∷ xs) ys = let rest = without_appended p xs ys in elim (same_place x p) [
  | inl e ↦ rw e.1 rest
  | inr ne ↦ rw ne.1 (ap (λ (zs : List ℕ). x ∷ zs) rest)
]

pub put_appended : (p : ℕ) (xs ys : List ℕ) → ((q : ℕ) → In q ys → p < q) → with_place p (xs ++ ys) ≡ with_place p xs ++ ys
put_appended p [] [] low = refl
put_appended p [] (y ∷ ys) low = elim (below y p) [
  | inl lt ↦ let less = low y (inl refl) in absurd (omega (arith, lt.0, less))
  | inr ge ↦ rw ge.1 refl
]
put_appended p (x ∷ xs) ys low = let rest = put_appended p xs ys low in elim (below x p) [
  | inl lt ↦ rw lt.1 (ap (λ (zs : List ℕ). x ∷ zs) rest)
  | inr ge ↦ rw ge.1 refl
]

pub first_dropped : (xs ys : List ℕ) → 0 < length xs → drop 1 (xs ++ ys) ≡ drop 1 xs ++ ys
first_dropped [] ys some = absurd (omega arith)
first_dropped (x ∷ xs) ys some = refl

pub second_dropped : (xs ys : List ℕ) → length xs ≡ 0 → drop 1 (xs ++ ys) ≡ xs ++ drop 1 ys
second_dropped [] ys none = refl
second_dropped (x ∷ xs) ys none = absurd (omega arith)

pub length-put : (p : ℕ) (xs : List ℕ) → length (with_place p xs) ≡ length xs + 1
length-put p [] = refl
length-put p (x ∷ xs) = let n = length-put p xs in elim (below x p) [
  | inl lt ↦ rw lt.1 (omega (arith, n))
  | inr ge ↦ rw ge.1 (omega arith)
]

absent_same : (p : ℕ) (xs : List ℕ) → (In p xs → ⊥) → without p xs ≡ xs
absent_same p [] none = refl
absent_same p (x ∷ xs) none = elim (same_place x p) [
  | inl e ↦ absurd (none (inl e.0))
  | inr ne ↦ rw ne.1 (ap (λ (ys : List ℕ). x ∷ ys) (absent_same p xs (λ h. none (inr h))))
]

pub length-without : (p : ℕ) (xs : List ℕ) → Ascends xs → In p xs → length (without p xs) + 1 ≡ length xs
length-without p [] a h = absurd h
length-without p (x ∷ xs) a h = elim (same_place x p) [
  | inl e ↦
      let gone = absent_same p xs (λ i. let lt = a.0 p i in omega (arith, lt, e.0)) in
      rw e.1 (let n = ap (λ (ys : List ℕ). length ys) gone in omega (arith, n))
  | inr ne ↦ rw ne.1 (elim h [ inl e ↦ absurd (ne.0 e) | inr i ↦ let n = length-without p xs a.1 i in omega (arith, n) ])
]

pub length-without_le : (p : ℕ) (xs : List ℕ) → length (without p xs) ≤ length xs
length-without_le p [] = omega arith
length-without_le p (x ∷ xs) = let n = length-without_le p xs in elim (same_place x p) [
  | inl e ↦ rw e.1 (omega (arith, n))
  | inr ne ↦ rw ne.1 (omega (arith, n))
]

-- ---- by index

pub in_at : (xs : List ℕ) (i : ℕ) → i < length xs → In (get_or xs i 0) xs
in_at [] i h = absurd (omega arith)
in_at (x ∷ xs) zero h = inl refl
in_at (x ∷ xs) (suc i) h = inr (in_at xs i (omega arith))

index_of : (q : ℕ) (xs : List ℕ) → In q xs → (i : ℕ) × (i < length xs) × (get_or xs i 0 ≡ q)
index_of q [] h = absurd h
index_of q (x ∷ xs) h = elim h [
  | inl e ↦ (zero, omega arith, e)
  | inr r ↦ let i = index_of q xs r in (suc i.0, omega (arith, i.1), i.2)
]

pub rises : (xs : List ℕ) → Ascends xs → (i j : ℕ) → i ≤ j → j < length xs → get_or xs i 0 ≤ get_or xs j 0
rises [] a i j le h = absurd (omega arith)
rises (x ∷ xs) a zero zero le h = omega arith
rises (x ∷ xs) a zero (suc j) le h = let lt = a.0 (get_or xs j 0) (in_at xs j (omega arith)) in omega (arith, lt)
rises (x ∷ xs) a (suc i) zero le h = absurd (omega arith)
rises (x ∷ xs) a (suc i) (suc j) le h = rises xs a.1 i j (omega arith) (omega arith)

-- what is read at an index
pub read_in : (xs : List ℕ) (i x : ℕ) → i < length xs → x ≡ get_or xs i x → In x xs
read_in xs i x h e = subst (λ (n : ℕ). In n xs) (get_or_from_slice_get xs i x 0 (slice_get_read xs (length xs) i x refl h e)) (in_at xs i h)

pub least : (xs : List ℕ) (x q : ℕ) → Ascends xs → x ≡ get_or xs 0 x → In q xs → x ≤ q
least xs x q a e h =
    let i = index_of q xs h in
    let is = get_or_from_slice_get xs 0 x 0 (slice_get_read xs (length xs) 0 x refl (omega (arith, i.1)) e) in
    let le = rises xs a 0 i.0 (omega arith) i.1 in
    omega (arith, is, le, i.2)

pub greatest : (xs : List ℕ) (x q : ℕ) → Ascends xs → x ≡ get_or xs (length xs - 1) x → In q xs → q ≤ x
greatest xs x q a e h =
    let i = index_of q xs h in
    let is = get_or_from_slice_get xs (length xs - 1) x 0 (slice_get_read xs (length xs) (length xs - 1) x refl (omega (arith, i.1)) e) in
    let le = rises xs a i.0 (length xs - 1) (omega (arith, i.1)) (omega (arith, i.1)) in
    omega (arith, is, le, i.2)

-- what a search found

pub removed : (p i : ℕ) (xs : List ℕ) → Ascends xs → i < length xs → get_or xs i 0 ≡ p → remove xs i ≡ without p xs
removed p i [] a h e = absurd (omega arith)
removed p zero (x ∷ xs) a h e = elim (same_place x p) [
  | inl same ↦ rw same.1 (sym (absent_same p xs (λ i. let lt = a.0 p i in omega (arith, lt, e))))
  | inr ne ↦ absurd (ne.0 e)
]
removed p (suc i) (x ∷ xs) a h e = elim (same_place x p) [
  | inl same ↦ let lt = a.0 (get_or xs i 0) (in_at xs i (omega arith)) in absurd (omega (arith, lt, same.0, e))
  | inr ne ↦ rw ne.1 (ap (λ (ys : List ℕ). x ∷ ys) (removed p i xs a.1 (omega arith) e))
]

pub not_removed : (p i : ℕ) (xs : List ℕ) → ((k : ℕ) → k < i → get_or xs k 0 < p) → ((k : ℕ) → i ≤ k → k < length xs → p < get_or xs k 0) → without p xs ≡ xs
not_removed p i xs low high = absent_same p xs (λ h.
    let k = index_of p xs h in
    elim (below k.0 i) [
      | inl lt ↦ let less = low k.0 lt.0 in omega (arith, less, k.2)
      | inr ge ↦ let more = high k.0 ge.0 k.1 in omega (arith, more, k.2)
    ])

pub inserted : (p i : ℕ) (xs : List ℕ) → i ≤ length xs → ((k : ℕ) → k < i → get_or xs k 0 < p) → ((k : ℕ) → i ≤ k → k < length xs → p < get_or xs k 0) → insert xs i p ≡ with_place p xs
inserted p zero [] h low high = refl
inserted p (suc i) [] h low high = absurd (omega arith)
inserted p zero (x ∷ xs) h low high = elim (below x p) [
  | inl lt ↦ let more : p < x = high 0 (omega arith) (omega arith) in absurd (omega (arith, lt.0, more))
  | inr ge ↦ rw ge.1 refl
]
inserted p (suc i) (x ∷ xs) h low high = elim (below x p) [
  | inl lt ↦ rw lt.1 (ap (λ (ys : List ℕ). x ∷ ys) (inserted p i xs (omega arith) (λ k le. low (suc k) (omega arith)) (λ k le in_. high (suc k) (omega arith) (omega arith))))
  | inr ge ↦ let less : x < p = low 0 (omega arith) in absurd (omega (arith, ge.0, less))
]

-- ---- the first place

first_of : (x : ℕ) (xs : List ℕ) → Ascends (x ∷ xs) → IsFirst x (x ∷ xs)
first_of x xs a = (inl refl, λ q h. elim h [ inl e ↦ omega (arith, e) | inr i ↦ let lt = a.0 q i in omega (arith, lt) ])

-- of two lists, one after the other
pub first_read : (xs ys : List ℕ) (x : ℕ) → Ascends (xs ++ ys) → 0 < length xs → x ≡ get_or xs 0 x → IsFirst x (xs ++ ys)
first_read [] ys x a some e = absurd (omega arith)
first_read (y ∷ xs) ys x a some e = subst (λ (n : ℕ). IsFirst n ((y ∷ xs) ++ ys)) (sym e) (first_of y (xs ++ ys) a)

pub second_read : (xs ys : List ℕ) (x : ℕ) → Ascends (xs ++ ys) → length xs ≡ 0 → 0 < length ys → x ≡ get_or ys 0 x → IsFirst x (xs ++ ys)
second_read [] [] x a none some e = absurd (omega arith)
second_read [] (y ∷ ys) x a none some e = subst (λ (n : ℕ). IsFirst n (y ∷ ys)) (sym e) (first_of y ys a)
second_read (z ∷ xs) ys x a none some e = absurd (omega arith)

pub without_first : (p : ℕ) (xs : List ℕ) → Ascends xs → IsFirst p xs → without p xs ≡ drop 1 xs
without_first p [] a first = refl
without_first p (x ∷ xs) a first =
    let le = first.1 x (inl refl) in
    elim (same_place x p) [
      | inl same ↦ rw same.1 (absent_same p xs (λ i. let lt = a.0 p i in omega (arith, lt, le)))
      | inr ne ↦ elim first.0 [
        | inl e ↦ absurd (ne.0 e)
        | inr i ↦ let lt = a.0 p i in absurd (omega (arith, lt, le))
      ]
    ]

pub head_read : (xs : List ℕ) (x : ℕ) → 0 < length xs → x ≡ get_or xs 0 x → xs ≡ x ∷ drop 1 xs
head_read [] x some e = absurd (omega arith)
head_read (y ∷ xs) x some e = ap (λ n. n ∷ xs) (sym e)

pub without_head : (p : ℕ) (xs : List ℕ) → Ascends xs → xs ≡ p ∷ drop 1 xs → without p xs ≡ drop 1 xs
without_head p xs a e = without_first p xs a (subst (IsFirst p) (sym e) (first_of p (drop 1 xs) (subst Ascends e a)))
