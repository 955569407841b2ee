-- What follows from the attempts of a route.
use Rattle.std.proofs.Common.{◌≡◌, ℕ, zero, suc, ◌+◌, ◌<◌, List, [], ◌∷◌, ◌++◌, Option, Some, None, false, cond, refl, sym, ap, ◌∙◌, arith, length, take}
use Rattle.std.proofs.lemmas.Grind.{common_steps}
use Rattle.std.specs.Prelude.{slice_get, count_by}
use Rattle.std.proofs.lemmas.List.Sums.{sum_by-cons}
use Rattle.cluster_slots.specs.Address.{Address}
use Rattle.redis_cluster.specs.Trace.{Entry, Ending, answered, entry}
use Rattle.redis_cluster.specs.Retry.{Try, is_answered, HaveOneAnswer, last_or, last_ending, next_place, next_address, AreBegun, AttemptsOf}
use Rattle.redis_cluster.proofs.Constructors.{same_some, none_apart}

-- nothing comes behind an answer
nowhere : (places : List Address) (n : ℕ) (x : Ending) (node : Address) → next_place places n (Some x) ≡ Some node → is_answered x ≡ false
nowhere places n x node h1 = grind (arith, none_apart)

-- of a list of which only the last may be answered
only_last : (was : Option Ending) (es : List Entry) → ((k : ℕ) (e : Entry) → slice_get es k ≡ Some e → suc k < length es → is_answered e.ending ≡ false) → 0 < length es → last_or was es ≡ Some answered → count_by (λ e. is_answered e.ending) es ≡ 1
only_last was [] h some l = absurd (omega arith)
only_last was (e ∷ []) h some l = ap (λ b. 0 + cond b 1 0) (ap is_answered (same_some e.ending answered l))
only_last was (e ∷ f ∷ es) h some l =
    sum_by-cons (λ (x : Entry). cond (is_answered x.ending) 1 0) e (f ∷ es)
    ∙ ap (λ b. cond b 1 0 + count_by (λ x. is_answered x.ending) (f ∷ es)) (h 0 e refl (omega arith))
    ∙ ap (λ n. 0 + n) (only_last (Some e.ending) (f ∷ es) (λ k x at more. h (suc k) x at (omega arith)) (omega arith) l)

last_of_take : (was : Option Ending) (es : List Entry) (k : ℕ) (e : Entry) → slice_get es k ≡ Some e → last_or was (take (suc k) es) ≡ Some e.ending
last_of_take was [] k e h = absurd (none_apart e h)
last_of_take was (x ∷ es) zero e h = ap (λ (y : Entry). Some y.ending) (same_some x e h)
last_of_take was (x ∷ es) (suc k) e h = last_of_take (Some x.ending) es k e h

at_within : {X : Type 0} (xs : List X) (k : ℕ) → k < length xs → (x : X) × (slice_get xs k ≡ Some x)
at_within [] k h = absurd (omega arith)
at_within (x ∷ xs) zero h = (x, refl)
at_within (x ∷ xs) (suc k) h = at_within xs k (omega arith)

-- no entry of attempts but the last is answered
pub answer_is_last : (try : Try) (es : List Entry) → AreBegun try es → (k : ℕ) (e : Entry) → slice_get es k ≡ Some e → suc k < length es → is_answered e.ending ≡ false
answer_is_last try es b k e at more = grind (arith, common_steps, at_within es (suc k) more, nowhere, last_of_take None es k e)

pub one_answer : HaveOneAnswer
one_answer try [] h = absurd (none_apart answered h.1)
one_answer try (e ∷ es) h = only_last None (e ∷ es) (answer_is_last try (e ∷ es) h.0.begun) (omega arith) h.1

same_entry : (e : Entry) (n : Address) (a : List (List ℕ)) (x : Ending) → e.node ≡ n → e.args ≡ a → e.ending ≡ x → e ≡ entry n a x
same_entry e n a x p q r = λ i. record { node = p i; args = q i; ending = r i }

-- without retries there is one entry, at the first place
pub tried_once : (try : Try) (x : Ending) (first : Address) (rest : List Address) (old new : List Entry) → try.retries ≡ 0 → try.places ≡ first ∷ rest → AttemptsOf try (Some x) old new → new ≡ old ++ entry first try.part x ∷ []
tried_once try x first rest old new none places h = h.grew ∙ ap (λ es. old ++ es) (single h.attempts h.ended.0.begun h.ended.1)
  where
    single : (es : List Entry) → AreBegun try es → last_ending es ≡ Some x → es ≡ entry first try.part x ∷ []
    single [] b l = absurd (none_apart x l)
    single (e ∷ f ∷ es) b l = absurd (omega (arith, b.most))
    single (e ∷ []) b l =
        let node : Some first ≡ Some e.node = sym (ap (λ ps. next_address ps []) places) ∙ b.address 0 e refl in
        ap (λ y. y ∷ []) (same_entry e first try.part x (sym (same_some first e.node node)) (b.part 0 e (omega arith)) (same_some e.ending x l))

-- and none where memory ran out
pub tried_none : (try : Try) (old new : List Entry) → try.retries ≡ 0 → AttemptsOf try None old new → new ≡ old
tried_none try old new none h = grind (arith, common_steps)
