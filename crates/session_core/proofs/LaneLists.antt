-- The lists of a lane stay in order, whatever happens to one of its parts.
use Rattle.std.proofs.Common.{inl, inr, ◌≡◌, ◌<◌, ◌++◌, ◌⊎◌, ℕ, List, [], ◌∷◌, length, append_assoc, Option, None, Some, IfNone, sym, ap, ◌∙◌, subst, arith}
use Rattle.session_core.specs.Inner.Lane.{Lane, In, Ascends, IsFirst, AreInOrder, without, with_place}
use Rattle.session_core.proofs.Ascending.{in_some, in_pushed, appended_in, in_without, ascends_pushed, ascends_without, ascends_put, without_appended, put_appended}

pub order_joined : (p : ℕ) (refused later asked : List ℕ) → AreInOrder refused later asked → ((q : ℕ) → In q (refused ++ later) ⊎ In q asked → q < p) → AreInOrder refused (later ++ p ∷ []) asked
order_joined p refused later asked o last = record {
  waiting_ascends = subst Ascends (append_assoc refused later (p ∷ [])) (ascends_pushed p (refused ++ later) o.waiting_ascends (λ q h. last q (inl h)));
  asked_ascends = o.asked_ascends;
  behind = λ x q i j. elim (in_pushed q p later j) [
    | inl e ↦ subst (λ (n : ℕ). x < n) e (last x (inr i))
    | inr h ↦ o.behind x q i h
  ];
}

pub order_settled : (p : ℕ) (refused later asked : List ℕ) → AreInOrder refused later asked → AreInOrder refused later (without p asked)
order_settled p refused later asked o = record {
  waiting_ascends = o.waiting_ascends;
  asked_ascends = ascends_without p asked o.asked_ascends;
  behind = λ x q i j. o.behind x q (in_without x p asked i).1 j;
}

pub order_unsent : (p : ℕ) (refused later asked : List ℕ) → AreInOrder refused later asked → AreInOrder (without p refused) (without p later) asked
order_unsent p refused later asked o = record {
  waiting_ascends = subst Ascends (without_appended p refused later) (ascends_without p (refused ++ later) o.waiting_ascends);
  asked_ascends = o.asked_ascends;
  behind = λ x q i j. o.behind x q i (in_without q p later j).1;
}

pub order_asked : (p : ℕ) (refused later asked left rest : List ℕ) → AreInOrder refused later asked → IsFirst p (refused ++ later) → ((q : ℕ) → In q asked → q < p)
    → left ++ rest ≡ without p (refused ++ later) → AreInOrder left rest (asked ++ p ∷ [])
order_asked p refused later asked left rest o first last is = record {
  waiting_ascends = subst Ascends (sym is) (ascends_without p (refused ++ later) o.waiting_ascends);
  asked_ascends = ascends_pushed p asked o.asked_ascends last;
  behind = λ x q i j.
      let w = in_without q p (refused ++ later) (subst (In q) is (appended_in q left rest (inr j))) in
      let le = first.1 q w.1 in
      elim (in_pushed x p asked i) [
        | inl e ↦ omega (arith, e, le, w.0)
        | inr h ↦ let lt = last x h in omega (arith, lt, le)
      ];
}

-- it comes before those that were not asked
pub put_waiting : (p : ℕ) (refused later asked : List ℕ) → AreInOrder refused later asked → In p asked → with_place p (refused ++ later) ≡ with_place p refused ++ later
put_waiting p refused later asked o i = put_appended p refused later (λ q j. o.behind p q i j)

pub order_refused : (p : ℕ) (refused later asked : List ℕ) → AreInOrder refused later asked → In p asked → (In p (refused ++ later) → ⊥) → AreInOrder (with_place p refused) later (without p asked)
order_refused p refused later asked o i absent = record {
  waiting_ascends = subst Ascends (put_waiting p refused later asked o i) (ascends_put p (refused ++ later) o.waiting_ascends absent);
  asked_ascends = ascends_without p asked o.asked_ascends;
  behind = λ x q h j. o.behind x q (in_without x p asked h).1 j;
}

-- the last one of those on their way
pub order_idle : (p : ℕ) (refused later asked : List ℕ) → AreInOrder refused later asked → length asked ≡ 0 → (In p (refused ++ later) → ⊥) → AreInOrder [] (with_place p (refused ++ later)) asked
order_idle p refused later asked o none absent = record {
  waiting_ascends = ascends_put p (refused ++ later) o.waiting_ascends absent;
  asked_ascends = o.asked_ascends;
  behind = λ x q i j. let some = in_some x asked i in absurd (omega (arith, some, none));
}

pub order_is : {r l a r2 l2 a2 : List ℕ} → r2 ≡ r → l2 ≡ l → a2 ≡ a → AreInOrder r l a → AreInOrder r2 l2 a2
order_is {r} {l} {a} {r2} {l2} {a2} e f g o =
    subst (λ (x : List ℕ). AreInOrder x l2 a2) (sym e) (subst (λ (x : List ℕ). AreInOrder r x a2) (sym f) (subst (λ (x : List ℕ). AreInOrder r l x) (sym g) o))

pub lane_is : {w a w2 a2 : List ℕ} (end link : ℕ) → w ≡ w2 → a ≡ a2
    → ◌≡◌ {A = Lane} (record { waiting = w; asked = a; settled_end = end; link = link }) (record { waiting = w2; asked = a2; settled_end = end; link = link })
lane_is {w} {a} {w2} {a2} end link e f =
    let with_waiting : List ℕ → Lane = λ x. record { waiting = x; asked = a; settled_end = end; link = link } in
    let with_asked : List ℕ → Lane = λ x. record { waiting = w2; asked = x; settled_end = end; link = link } in
    ap with_waiting e ∙ ap with_asked f

pub when_none : {X P : Type 0} (r : Option X) → P → IfNone r P
when_none None p = p
when_none (Some x) p = tt
