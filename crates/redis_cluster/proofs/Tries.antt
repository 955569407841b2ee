-- What is tried for the routes of a plan, one after the other.
use Rattle.std.proofs.Common.{◌≡◌, ◌<◌, ℕ, zero, suc, ◌+◌, List, [], ◌∷◌, ◌++◌, Option, None, Some, Bool, false, All, refl, sym, ap, arith, subst, length, get_or, take}
use Rattle.std.specs.Prelude.{slice_get, nat_eq, ◌↔◌}
use Rattle.std.proofs.lemmas.List.Elements.{All-head, All-tail}
use Rattle.std.proofs.lemmas.Grind.{common_steps}
use Rattle.redis_cluster.specs.Orders.{times}
use Rattle.redis_cluster.specs.Trace.{Entry, Ending, answered}
use Rattle.redis_cluster.specs.Retry.{Try, AttemptsOf, IsCause, RetryState, SentInTurn}
use Rattle.redis_cluster.specs.Ready.{Target, try_with, tries_with}
use Rattle.redis_cluster.proofs.Constructors.{same_some}

-- what holds of each holds of the one at a place
pub all_at : {X : Type 0} (P : X → Type 0) (xs : List X) (k : ℕ) (x : X) → All P xs → slice_get xs k ≡ Some x → P x
all_at P [] k x all at = absurd (cc at)
all_at P (y ∷ xs) zero x all at = subst P (same_some y x at) (All-head P y xs all)
all_at P (y ∷ xs) (suc k) x all at = all_at P xs k x (All-tail P y xs all) at

-- nothing stands behind the end
pub none_past : {X : Type 0} (xs : List X) (k : ℕ) → (k < length xs → ⊥) → slice_get xs k ≡ None
none_past [] k past = refl
none_past (x ∷ xs) zero past = absurd (past (omega arith))
none_past (x ∷ xs) (suc k) past = none_past xs k (λ l. past (omega arith))

-- what is tried has the target's part
pub try_part : (target : Target) (retry : Option RetryState) → (try_with target retry).part ≡ target.1
try_part target None = refl
try_part target (Some retry) = refl

-- what is tried for a route
pub try_there : (targets : List Target) (retries : List RetryState) (k : ℕ) (target : Target) → slice_get targets k ≡ Some target → slice_get (tries_with targets retries) k ≡ Some (try_with target (slice_get retries k))
try_there [] retries k target at = absurd (cc at)
try_there (t ∷ targets) [] zero target at = ap (λ (u : Target). Some (try_with u None)) (same_some t target at)
try_there (t ∷ targets) [] (suc k) target at = try_there targets [] k target at
try_there (t ∷ targets) (r ∷ retries) zero target at = ap (λ (u : Target). Some (try_with u (Some r))) (same_some t target at)
try_there (t ∷ targets) (r ∷ retries) (suc k) target at = try_there targets retries k target at

pub tries_many : (targets : List Target) (retries : List RetryState) → length (tries_with targets retries) ≡ length targets
tries_many [] retries = refl
tries_many (t ∷ targets) [] = ap suc (tries_many targets [])
tries_many (t ∷ targets) (r ∷ retries) = ap suc (tries_many targets retries)

-- one route more was tried
pub tried_more : (tries more : List Try) (try : Try) (old mid new : List Entry) → SentInTurn tries old mid → AttemptsOf try (Some answered) mid new → more ≡ tries ++ try ∷ [] → SentInTurn more old new
tried_more tries more try old mid new before last is = subst (λ ts. SentInTurn ts old new) (sym is) (pushed tries old before)
  where
    pushed : (ts : List Try) (from : List Entry) → SentInTurn ts from mid → SentInTurn (ts ++ try ∷ []) from new
    pushed [] from e = (new, subst (λ m. AttemptsOf try (Some answered) m new) e last, refl)
    pushed (t ∷ ts) from e = (e.0, e.1, pushed ts e.0 e.2)

-- the retries of the others are as they were
pub others_more : (old now new : List RetryState) (order : List ℕ) (i k : ℕ) → i < length order → k ≡ get_or order i 0 → ((j : ℕ) → times j (take i order) ≡ 0 → slice_get now j ≡ slice_get old j)
    → ((j : ℕ) → nat_eq j k ≡ false → slice_get new j ≡ slice_get now j) → (j : ℕ) → times j (take (i + 1) order) ≡ 0 → slice_get new j ≡ slice_get old j
others_more old now new order i k within is before stay j none = grind (arith, common_steps)

-- what was allowed to the last send was allowed from the first one on
pub same_cause : (may now_may : ℕ → Ending → Type 0) (entries : ℕ) (mark : Bool) (ending : Option Ending) → ((count : ℕ) (e : Ending) → now_may count e ↔ may count e) → IsCause now_may entries mark ending → IsCause may entries mark ending
same_cause may now_may entries mark None same h = h
same_cause may now_may entries mark (Some x) same h = λ before is. (same before x).0 (h before is)
