-- Answers of which none is missing.
use Rattle.std.proofs.Common.{◌≡◌, List, [], ◌∷◌, ◌++◌, Some, None, Ok, Err, false, suc, length, map, refl, ap, ◌∙◌}
use Rattle.std.specs.Prelude.{Option, Result, is_none}
use Rattle.std.specs.List.{list_any}
use Rattle.resp_core.specs.ErrorParts.{ErrorParts}
use Rattle.resp_core.specs.View.{view}
use Rattle.resp_core.specs.declared.value.Value.{Value}
use Rattle.redis_combiners.specs.Answers.{answers_given, first_error, values_in, values_told}

abbrev pub Told : Type 0
Told = Option (Result Value ErrorParts)

-- of values none is missing
pub none_missing : (values : List Value) → list_any is_none (values_told values) ≡ false
none_missing [] = refl
none_missing (value ∷ values) = none_missing values

-- they are as many
pub many_told : (values : List Value) → length (values_told values) ≡ length values
many_told [] = refl
many_told (value ∷ values) = ap suc (many_told values)

-- they are known from what was told
pub same_told : (xs ys : List Value) → values_told xs ≡ values_told ys → xs ≡ ys
same_told [] [] e = refl
same_told [] (y ∷ ys) e = absurd (cc)
same_told (x ∷ xs) [] e = absurd (cc)
same_told (x ∷ xs) (y ∷ ys) e =
    let rest : values_told xs ≡ values_told ys = cc in
    let first : x ≡ y = cc in
    ap (λ z. z ∷ xs) first ∙ ap (λ zs. y ∷ zs) (same_told xs ys rest)

-- the first error is behind them
pub no_error_before : (values : List Value) (rest : List Told) → first_error (answers_given (values_told values ++ rest)) ≡ first_error (answers_given rest)
no_error_before [] rest = refl
no_error_before (value ∷ values) rest = no_error_before values rest

-- they are the values among the answers
pub each_value : (values : List Value) → values_in (answers_given (values_told values)) ≡ map view values
each_value [] = refl
each_value (value ∷ values) = ap (λ vs. view value ∷ vs) (each_value values)

-- Each answer is a value, if none is an error.
pub all_values : (told : List Told) → list_any is_none told ≡ false → first_error (answers_given told) ≡ None → (values : List Value) × (told ≡ values_told values)
all_values [] all none = ([], refl)
all_values (None ∷ told) all none = absurd (cc all)
all_values (Some (Err error) ∷ told) all none = absurd (cc none)
all_values (Some (Ok value) ∷ told) all none = let rest = all_values told all none in (value ∷ rest.0, ap (λ os. Some (Ok value) ∷ os) rest.1)
