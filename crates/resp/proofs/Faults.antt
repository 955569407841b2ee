-- What a fault says of the bytes.
use Rattle.std.proofs.Common.{◌≡◌, ◌≢◌, ℕ, zero, suc, ◌+◌, ◌<◌, ◌≤◌, List, [], ◌∷◌, ◌++◌, length, get_or, take, append-nil, Result, Ok, Err, refl, sym, ap, subst, ◌∙◌, arith}
use Rattle.std.proofs.lemmas.List.{take_more, length-append, take_all}
use Rattle.resp.specs.declared.reading.TheConstants.{MAX_LEVELS}
use Rattle.resp.specs.declared.fault.Fault.{Fault}
use Rattle.resp.specs.declared.fault.Fault.TheVariants.{Incomplete, Malformed, TooDeep}
use Rattle.resp.specs.declared.fault.ReadError.TheVariants as errors
use Rattle.resp.specs.Forms.{Answer, IsForm}
use Rattle.resp.specs.Reading.{answer_at, front_at, HasNoAnswer, BeginsNone, BeginsOne, IsFirstWrong, Cause}
use Rattle.resp.proofs.Steps.{failed}
use Rattle.resp.proofs.Longer.{Continues, answer_continues}
use Rattle.resp.proofs.Grammar.{answer_takes, answer_again}
use Rattle.resp.proofs.Complete.{answer_completes}
use Rattle.resp.proofs.Deeper.{Cut, no_result, malformed_at_each, answer_cut}

malformed_other : Malformed ≢ Incomplete
malformed_other e = absurd cc

too_deep_other : TooDeep ≢ Incomplete
too_deep_other e = absurd cc

same_error : {A : Type 0} {f g : Fault} → failed {A = A} f ≡ failed g → f ≡ g
same_error e = cc

-- how a reading goes on with more bytes
continued : (levels : ℕ) (bytes more : List ℕ) (r : Result (Answer × List ℕ) Fault) → answer_at levels bytes ≡ r → Continues r more (answer_at levels (bytes ++ more))
continued levels bytes more r e = subst (λ (r : Result (Answer × List ℕ) Fault). Continues r more (answer_at levels (bytes ++ more))) e (answer_continues levels bytes more)

stays : (levels : ℕ) (bytes more : List ℕ) (fault : Fault) → fault ≢ Incomplete → answer_at levels bytes ≡ Err fault → answer_at levels (bytes ++ more) ≡ Err fault
stays levels bytes more Incomplete other e = absurd (other refl)
stays levels bytes more Malformed other e = continued levels bytes more (Err Malformed) e
stays levels bytes more TooDeep other e = continued levels bytes more (Err TooDeep) e

completes : (levels : ℕ) (bytes : List ℕ) → answer_at levels bytes ≡ Err Incomplete → (more : List ℕ) × (a : Answer) × IsForm levels a (bytes ++ more)
completes levels bytes e = grind (arith, answer_completes, answer_takes, append-nil)

none_stands : (bytes : List ℕ) (fault : Fault) → answer_at MAX_LEVELS bytes ≡ Err fault → HasNoAnswer bytes
none_stands bytes fault fails = λ a form rest is e. no_result (a, rest) fault (sym (answer_again MAX_LEVELS a form rest is) ∙ ap (answer_at MAX_LEVELS) (sym e) ∙ fails)

begins_none : (bytes : List ℕ) (fault : Fault) → fault ≢ Incomplete → answer_at MAX_LEVELS bytes ≡ Err fault → BeginsNone bytes
begins_none bytes fault other e = λ more. none_stands (bytes ++ more) fault (stays MAX_LEVELS bytes more fault other e)

-- ---- the first wrong byte

-- Up to an index the bytes are incomplete, and with the byte there they have the fault.
record Turn (bytes : List ℕ) (fault : Fault) : Type 0 where
  index : ℕ
  within : index < length bytes
  before : answer_at MAX_LEVELS (take index bytes) ≡ Err Incomplete
  with_it : answer_at MAX_LEVELS (take (index + 1) bytes) ≡ Err fault

module _ (bytes : List ℕ) (fault : Fault) (n : ℕ) (other : fault ≢ Incomplete) (within : n < length bytes) (e : answer_at MAX_LEVELS (take (n + 1) bytes) ≡ Err fault) where
  with_next : answer_at MAX_LEVELS (take n bytes ++ get_or bytes n 0 ∷ []) ≡ Err fault
  with_next = ap (answer_at MAX_LEVELS) (sym (take_more bytes n 0 within)) ∙ e

  same_fault : (f : Fault) → f ≢ Incomplete → answer_at MAX_LEVELS (take n bytes) ≡ Err f → answer_at MAX_LEVELS (take n bytes) ≡ Err fault
  same_fault f known is = is ∙ sym (stays MAX_LEVELS (take n bytes) (get_or bytes n 0 ∷ []) f known is) ∙ with_next

  turn_by : (r : Result (Answer × List ℕ) Fault) → answer_at MAX_LEVELS (take n bytes) ≡ r → (answer_at MAX_LEVELS (take n bytes) ≡ Err fault → Turn bytes fault) → Turn bytes fault
  turn_by (Ok x) is earlier = absurd (no_result _ fault (sym (continued MAX_LEVELS (take n bytes) (get_or bytes n 0 ∷ []) (Ok x) is) ∙ with_next))
  turn_by (Err Incomplete) is earlier = record { index = n; within = within; before = is; with_it = e }
  turn_by (Err Malformed) is earlier = earlier (same_fault Malformed malformed_other is)
  turn_by (Err TooDeep) is earlier = earlier (same_fault TooDeep too_deep_other is)

turn_below : (bytes : List ℕ) (fault : Fault) (n : ℕ) → fault ≢ Incomplete → n ≤ length bytes → answer_at MAX_LEVELS (take n bytes) ≡ Err fault → Turn bytes fault
unfolding answer_at front_at
turn_below bytes fault zero other le e = absurd (other cc)
turn_below bytes fault (suc n) other le e =
    let more : suc n ≡ n + 1 = omega arith in
    turn_by bytes fault n other (omega (arith, le)) (ap (λ k. answer_at MAX_LEVELS (take k bytes)) (sym more) ∙ e) (answer_at MAX_LEVELS (take n bytes)) refl (turn_below bytes fault n other (omega (arith, le)))

turn : (bytes : List ℕ) (fault : Fault) → fault ≢ Incomplete → answer_at MAX_LEVELS bytes ≡ Err fault → Turn bytes fault
turn bytes fault other e = turn_below bytes fault (length bytes) other (omega arith) (ap (answer_at MAX_LEVELS) (take_all (length bytes) bytes (omega arith)) ∙ e)

first_wrong : (bytes : List ℕ) (fault : Fault) → fault ≢ Incomplete → (t : Turn bytes fault) → IsFirstWrong bytes t.index
first_wrong bytes fault other t = (t.within, completes MAX_LEVELS (take t.index bytes) t.before, begins_none (take (t.index + 1) bytes) fault other t.with_it)

-- ---- at other limits

begins_at_none : (bytes : List ℕ) → answer_at MAX_LEVELS bytes ≡ Err Malformed → (levels : ℕ) → BeginsOne levels bytes → ⊥
begins_at_none bytes e levels begins = malformed_at_each MAX_LEVELS levels (bytes ++ begins.0) (stays MAX_LEVELS bytes begins.0 Malformed malformed_other e) begins.1 begins.2 begins.3 begins.5 begins.4

-- what bytes begin with, but not with the last, stands before the last
before_last : (xs front : List ℕ) (b r : ℕ) (rs : List ℕ) → xs ++ b ∷ [] ≡ front ++ r ∷ rs → (t : List ℕ) × (xs ≡ front ++ t)
before_last xs [] b r rs e = (xs, refl)
before_last [] (f ∷ front) b r rs e = absurd (omega (arith, ap (length {A = ℕ}) e, length-append front (r ∷ rs)))
before_last (x ∷ xs) (f ∷ front) b r rs e =
    let first : x ≡ f = cc in
    let others : xs ++ b ∷ [] ≡ front ++ r ∷ rs = cc in
    let later = before_last xs front b r rs others in
    (later.0, rw first (ap (λ (t : List ℕ). f ∷ t) later.1))

-- a front that is too deep is all of the bytes up to the first wrong one
begins_deeper : (bytes : List ℕ) (t : Turn bytes TooDeep) → BeginsOne (suc MAX_LEVELS) (take (t.index + 1) bytes)
begins_deeper bytes t = by_rest cut.1 refl
  where
    known : List ℕ
    known = take t.index bytes

    cut : Cut (answer_at MAX_LEVELS) (answer_at (suc MAX_LEVELS)) (take (t.index + 1) bytes)
    cut = answer_cut MAX_LEVELS (take (t.index + 1) bytes) t.with_it

    by_rest : (rest : List ℕ) → cut.1 ≡ rest → BeginsOne (suc MAX_LEVELS) (take (t.index + 1) bytes)
    by_rest [] is =
        let whole : take (t.index + 1) bytes ≡ cut.0 = cut.2 ∙ ap (λ (r : List ℕ). cut.0 ++ r) is ∙ append-nil cut.0 in
        let c = completes (suc MAX_LEVELS) cut.0 cut.4 in
        (c.0, c.1, cut.0 ++ c.0, [], ap (λ (b : List ℕ). b ++ c.0) whole ∙ sym (append-nil (cut.0 ++ c.0)), c.2)
    by_rest (r ∷ rs) is =
        let split : known ++ get_or bytes t.index 0 ∷ [] ≡ cut.0 ++ r ∷ rs = sym (take_more bytes t.index 0 t.within) ∙ cut.2 ∙ ap (λ (r : List ℕ). cut.0 ++ r) is in
        let front = before_last known cut.0 (get_or bytes t.index 0) r rs split in
        let deep : answer_at MAX_LEVELS known ≡ Err TooDeep = ap (answer_at MAX_LEVELS) front.1 ∙ stays MAX_LEVELS cut.0 front.0 TooDeep too_deep_other cut.3 in
        absurd (too_deep_other (same_error (sym deep ∙ t.before)))

pub fault_cause : (bytes : List ℕ) (fault : Fault) → answer_at MAX_LEVELS bytes ≡ Err fault → Cause bytes (errors.Fault fault)
fault_cause bytes Incomplete e = (none_stands bytes Incomplete e, completes MAX_LEVELS bytes e)
fault_cause bytes Malformed e =
    let t = turn bytes Malformed malformed_other e in
    (t.index, first_wrong bytes Malformed malformed_other t, begins_at_none (take (t.index + 1) bytes) t.with_it)
fault_cause bytes TooDeep e =
    let t = turn bytes TooDeep too_deep_other e in
    (t.index, first_wrong bytes TooDeep too_deep_other t, suc MAX_LEVELS, begins_deeper bytes t)
