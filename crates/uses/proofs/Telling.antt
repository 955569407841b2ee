-- What stands in a plan after replies were told to its routes, one after the other.
use Rattle.std.proofs.Common.{◌≡◌, ℕ, List, [], ◌∷◌, ◌++◌, Option, Some, None, Result, Ok, Err, OnOk, map, length, refl, sym, ◌∙◌, ap, false}
use Rattle.std.specs.Prelude.{slice_get, slice_set, is_none}
use Rattle.std.specs.Result.{is_err}
use Rattle.std.specs.List.{list_any}

-- the replies of a plan after these were told to its first routes, one after the other
abbrev pub after_telling : {V : Type 0} → List (Option V) → List V → List (Option V)
after_telling slots [] = slots
after_telling [] (r ∷ rs) = Some r ∷ after_telling [] rs
after_telling (s ∷ ss) (r ∷ rs) = Some r ∷ after_telling ss rs

-- one more is told to the next part
pub tell_next : {V : Type 0} (slots : List (Option V)) (told : List V) (reply : V)
    → slice_get (after_telling slots told) (length told) ≡ Some None
    → slice_set (after_telling slots told) (length told) (Some reply) ≡ after_telling slots (told ++ reply ∷ [])
tell_next [] [] reply there = absurd (cc there)
tell_next (s ∷ ss) [] reply there = refl
tell_next [] (r ∷ rs) reply there = ap (λ rest. Some r ∷ rest) (tell_next [] rs reply there)
tell_next (s ∷ ss) (r ∷ rs) reply there = ap (λ rest. Some r ∷ rest) (tell_next ss rs reply there)

-- where no reply was told before, and each is told after, these were all told
pub all_told : {V R : Type 0} (routes : List R) (told values : List V)
    → after_telling (map (λ (route : R). None) routes) told ≡ map Some values → told ≡ values
all_told {R = R} [] [] [] same = refl
all_told {R = R} [] [] (v ∷ vs) same = absurd (cc same)
all_told {R = R} [] (r ∷ rs) [] same = absurd (cc same)
all_told {R = R} [] (r ∷ rs) (v ∷ vs) same = let first : r ≡ v = cc same in let rest : after_telling [] rs ≡ map Some vs = cc same in rw first (ap (λ more. v ∷ more) (all_told {R = R} [] rs vs rest))
all_told {R = R} (q ∷ qs) [] [] same = absurd (cc same)
all_told {R = R} (q ∷ qs) [] (v ∷ vs) same = absurd (cc same)
all_told {R = R} (q ∷ qs) (r ∷ rs) [] same = absurd (cc same)
all_told {R = R} (q ∷ qs) (r ∷ rs) (v ∷ vs) same = let first : r ≡ v = cc same in let rest : after_telling (map (λ (route : R). None) qs) rs ≡ map Some vs = cc same in rw first (ap (λ more. v ∷ more) (all_told {R = R} qs rs vs rest))

-- the replies, where each part has one
abbrev pub values_in : {V : Type 0} → List (Option V) → List V
values_in [] = []
values_in (None ∷ rest) = values_in rest
values_in (Some v ∷ rest) = v ∷ values_in rest

pub none_untold : {V : Type 0} (slots : List (Option V)) → list_any is_none slots ≡ false
    → slots ≡ map Some (values_in slots)
none_untold [] told = refl
none_untold (None ∷ rest) told = absurd (cc told)
none_untold (Some v ∷ rest) told = ap (λ more. Some v ∷ more) (none_untold rest told)

-- what is said of an `Ok`, where it is one
pub on_ok : {A E : Type 0} (P : Type 0) (r : Result A E) → OnOk r P → is_err r ≡ false → P
on_ok P (Ok a) said ok = said
on_ok P (Err e) said ok = absurd (cc ok)

-- the loop that tells one reply after the other
pub tell_one : {V : Type 0} (slots now new : List (Option V)) (told : List V) (number : ℕ) (reply : V)
    → number ≡ length told → now ≡ after_telling slots told
    → (slice_get now number ≡ Some None) × (new ≡ slice_set now number (Some reply))
    → new ≡ after_telling slots (told ++ reply ∷ [])
tell_one slots now new told number reply at now_is next =
    let there : slice_get (after_telling slots told) (length told) ≡ Some None =
    ap (λ k. slice_get (after_telling slots told) k) (sym at) ∙ ap (λ l. slice_get l number) (sym now_is) ∙ next.0 in
    next.1 ∙ ap (λ l. slice_set l number (Some reply)) now_is
    ∙ ap (λ k. slice_set (after_telling slots told) k (Some reply)) at
    ∙ tell_next slots told reply there

-- where each reply was told to a plan without any, these are all replies
pub told_each : {V R : Type 0} (routes : List R) (slots final : List (Option V)) (told : List V)
    → slots ≡ map (λ (route : R). None) routes → final ≡ after_telling slots told
    → list_any is_none final ≡ false → final ≡ map Some told
told_each {V = V} {R = R} routes slots final told none_before final_is all =
    let each : final ≡ map Some (values_in final) = none_untold final all in
    let same : told ≡ values_in final =
    all_told {R = R} routes told (values_in final) (ap (λ s. after_telling s told) (sym none_before) ∙ sym final_is ∙ each) in
    each ∙ ap (map Some) (sym same)
