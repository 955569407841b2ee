-- Arrays that stand one after another: where the items of each begin and end.
use Rattle.std.proofs.Common.{◌≡◌, ℕ, ◌<◌, ◌≤◌, List, [], ◌∷◌, ◌++◌, length, get_or, refl, arith, slice_index, below_more}
use Rattle.std.proofs.lemmas.Grind.{common_steps}
use Rattle.std.specs.List.{slice_range}
use Rattle.std.proofs.lemmas.List.{get_or_append_left, get_or_at, length-append}
use Rattle.resp_core.specs.Reply.{Reply}

-- the items up to an end are the same with more items after them
range_stays : (xs ys : List Reply) (start end : ℕ) → start ≤ end → end ≤ length xs → slice_range (xs ++ ys) start end ≡ slice_range xs start end
range_stays xs ys start end low high = grind (arith, common_steps)

-- the items that were put last
range_last : (xs ys : List Reply) → slice_range (xs ++ ys) (length xs) (length (xs ++ ys)) ≡ ys
range_last xs ys = grind (arith, common_steps)

-- the items of an array, from its start to its end
pub record IsSpan (items : List Reply) (start end : ℕ) (list : List Reply) : Type 0 where
  pub low : start ≤ end
  pub high : end ≤ length items
  pub is : list ≡ slice_range items start end

-- the items of each array
pub record AreSpans (lists : List (List Reply)) (items : List Reply) (starts ends : List ℕ) : Type 0 where
  pub starts_all : length starts ≡ length lists
  pub ends_all : length ends ≡ length lists
  pub each : (number : ℕ) → number < length lists → IsSpan items (slice_index starts number) (slice_index ends number) (get_or lists number [])

pub no_spans : AreSpans [] [] [] []
no_spans = record { starts_all = refl; ends_all = refl; each = λ number few. absurd (omega (arith, few)) }

pub more_spans : (lists : List (List Reply)) (items : List Reply) (starts ends : List ℕ) (list : List Reply) → AreSpans lists items starts ends
    → AreSpans (lists ++ list ∷ []) (items ++ list) (starts ++ length items ∷ []) (ends ++ length (items ++ list) ∷ [])
more_spans lists items starts ends list so_far = grind (arith, slice_index, below_more, get_or_append_left, length-append, range_stays, get_or_at, range_last)
