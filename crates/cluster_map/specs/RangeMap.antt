-- Entries of slot ranges with distinct ends, and which of them answers for a slot.
use Rattle.std.specs.Prelude.{◌≡◌, ◌<◌, ◌≤◌, ℕ, nat_eq, nat_lt, Bool, false, Option, Some, None, List, [], ◌∷◌, ◌++◌, filter, fold, Contains}

-- a start and an end, both included, and a value
abbrev pub RangeEntry : Type 0 → Type 0
RangeEntry V = ℕ × ℕ × V

abbrev pub end_of : {V : Type 0} → RangeEntry V → ℕ
end_of e = e.1

abbrev pub value_of : {V : Type 0} → RangeEntry V → V
value_of e = e.2

-- whether there is an entry and it has this end
abbrev pub ends_at : {V : Type 0} → ℕ → Option (RangeEntry V) → Bool
ends_at end None = false
ends_at end (Some e) = nat_eq (end_of e) end

-- the first entry, if there is one, ends after `end`
abbrev pub EndsAfter : {V : Type 0} → ℕ → List (RangeEntry V) → Type 0
EndsAfter end [] = Unit {0}
EndsAfter end (e ∷ es) = end < end_of e

-- the ends ascend, so they are distinct
abbrev pub Ascends : {V : Type 0} → List (RangeEntry V) → Type 0
Ascends [] = Unit {0}
Ascends (e ∷ es) = EndsAfter (end_of e) es × Ascends es

-- the entries with one more, which replaces the entry with the same end
abbrev pub insert_entry : {V : Type 0} → List (RangeEntry V) → ℕ → ℕ → V → List (RangeEntry V)
insert_entry es start end value =
    filter (λ e. nat_lt (end_of e) end) es ++ (start, end, value)
    ∷ filter (λ e. nat_lt end (end_of e)) es

-- the entries after more are inserted in order
abbrev pub insert_entries : {V : Type 0} → List (RangeEntry V) → List (RangeEntry V) → List (RangeEntry V)
insert_entries es more = fold (λ es e. insert_entry es e.0 e.1 (value_of e)) es more

-- the entry has the start and the end of another, and a clone of its value
abbrev pub IsEntryClone : {V : Type 0} → (V → V → Type 0) → RangeEntry V → RangeEntry V → Type 0
IsEntryClone IsClone e copy =
    (copy.0 ≡ e.0) × (end_of copy ≡ end_of e) × IsClone (value_of e) (value_of copy)

-- an entry with this value contains the slot, and no entry ends between the slot and its end
pub record IsAnswerAt {V : Type 0} (es : List (RangeEntry V)) (slot : ℕ) (value : V) : Type 0 where
  pub start : ℕ
  pub end : ℕ
  pub there : Contains es (start, end, value)
  pub after_start : start ≤ slot
  pub before_end : slot ≤ end
  pub least : (e : RangeEntry V) → Contains es e → slot ≤ end_of e → end ≤ end_of e

-- no entry answers for the slot
abbrev pub IsUncovered : {V : Type 0} → List (RangeEntry V) → ℕ → Type 0
IsUncovered {V} es slot = (value : V) → ¬ (IsAnswerAt es slot value)

-- the slot lies in the entry's range, both ends included
abbrev pub Holds : {V : Type 0} → RangeEntry V → ℕ → Type 0
Holds e slot = (e.0 ≤ slot) × (slot ≤ end_of e)

-- no entry is reversed, and no two hold the same slot
pub record AreDisjoint {V : Type 0} (es : List (RangeEntry V)) : Type 0 where
  pub straight : (e : RangeEntry V) → Contains es e → e.0 ≤ end_of e
  pub apart : (e f : RangeEntry V) (slot : ℕ) → Contains es e → Contains es f → Holds e slot
      → Holds f slot → e ≡ f

-- no entry holds the slot
abbrev pub IsHeldByNone : {V : Type 0} → List (RangeEntry V) → ℕ → Type 0
IsHeldByNone {V} es slot = (e : RangeEntry V) → Contains es e → ¬ (Holds e slot)

-- an entry holds the slot and has the value
abbrev pub IsHeldWith : {V : Type 0} → List (RangeEntry V) → ℕ → V → Type 0
IsHeldWith {V} es slot value = (e : RangeEntry V) × Contains es e × Holds e slot × (value_of e ≡ value)
