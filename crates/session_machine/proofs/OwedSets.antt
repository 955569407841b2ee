-- The calls of a caller that are owed a reply, by their numbers.
use Rattle.std.proofs.Common.{◌≡◌, ◌<◌, ◌++◌, inl, inr, ℕ, Bool, true, false, List, [], ◌∷◌, refl, sym, subst, ◌∙◌, arith}
use Rattle.std.proofs.lemmas.Bool.{cases_eq}
use Rattle.session_core.specs.Inner.Lane.{In, Ascends, without}
use Rattle.session_core.proofs.Ascending.{same_place, in_pushed, pushed_in, in_without, without_in}
use Rattle.session_machine.specs.Ties.{is_owed, IsFirstOwed, Owes}

-- a call began, and is owed no reply after all
pub taken_back : (call : ℕ) (old mid new : List ℕ) → ((other : ℕ) → is_owed other old ≡ true → other < call) → Owes old mid call true → Owes mid new call false → (n : ℕ) → is_owed n new ≡ is_owed n old
taken_back call old mid new later more less n = elim (cases_eq n call) [
  | inl same ↦ subst (λ m. is_owed m new ≡ is_owed m old) (sym same) (less.here ∙ sym (fresh (is_owed call old) (later call)))
  | inr ne ↦ less.others n ne ∙ more.others n ne
]
  where
    fresh : (b : Bool) → (b ≡ true → call < call) → b ≡ false
    fresh false lt = refl
    fresh true lt = let h = lt refl in absurd (omega (arith, h))

-- ---- what stands in the list is owed

pub owed_in : (call : ℕ) (owed : List ℕ) → is_owed call owed ≡ true → In call owed
owed_in call [] e = absurd (cc)
owed_in call (x ∷ owed) e = elim (same_place x call) [
  | inl same ↦ inl same.0
  | inr apart ↦ inr (owed_in call owed (rw apart.1 at e))
]

pub in_owed : (call : ℕ) (owed : List ℕ) → In call owed → is_owed call owed ≡ true
in_owed call [] h = absurd h
in_owed call (x ∷ owed) h = elim (same_place x call) [
  | inl same ↦ rw same.1 refl
  | inr apart ↦ rw apart.1 (elim h [ inl same ↦ absurd (apart.0 same) | inr i ↦ in_owed call owed i ])
]

not_owed : (call : ℕ) (owed : List ℕ) → (In call owed → ⊥) → is_owed call owed ≡ false
not_owed call owed none = by (is_owed call owed) (owed_in call owed)
  where
    by : (b : Bool) → (b ≡ true → In call owed) → b ≡ false
    by false is = refl
    by true is = absurd (none (is refl))

same_owed : (call : ℕ) (old new : List ℕ) → (In call old → In call new) → (In call new → In call old) → is_owed call new ≡ is_owed call old
same_owed call old new to from = by (is_owed call old) refl
  where
    by : (b : Bool) → is_owed call old ≡ b → is_owed call new ≡ b
    by true e = in_owed call new (to (owed_in call old e))
    by false e = not_owed call new (λ i. let z : true ≡ false = sym (in_owed call old (from i)) ∙ e in cc)

-- a later call is owed a reply, too
pub owed_pushed : (call : ℕ) (owed : List ℕ) → Owes owed (owed ++ call ∷ []) call true
owed_pushed call owed = record {
  here = in_owed call (owed ++ call ∷ []) (pushed_in call call owed (inl refl));
  others = λ n ne. same_owed n owed (owed ++ call ∷ []) (λ i. pushed_in n call owed (inr i)) (λ i. elim (in_pushed n call owed i) [ inl same ↦ absurd (ne (sym same)) | inr was ↦ was ]);
}

-- a call is owed none
pub owed_without : (call : ℕ) (owed : List ℕ) → Owes owed (without call owed) call false
owed_without call owed = record {
  here = not_owed call (without call owed) (λ i. (in_without call call owed i).0 refl);
  others = λ n ne. same_owed n owed (without call owed) (λ i. without_in n call owed ne i) (λ i. (in_without n call owed i).1);
}

-- the first one is the least
pub first_owed : (call : ℕ) (rest : List ℕ) → Ascends (call ∷ rest) → IsFirstOwed call (call ∷ rest)
first_owed call rest a = record {
  is = in_owed call (call ∷ rest) (inl refl);
  least = λ other there. elim (owed_in other (call ∷ rest) there) [ inl same ↦ omega (arith, same) | inr i ↦ let lt = a.0 other i in omega (arith, lt) ];
}
