-- The numbers of the slots in a list, counted from 1.
use Rattle.std.proofs.Common.{◌≡◌, ℕ, ◌+◌, ◌-◌, List, [], ◌∷◌, ◌++◌, false, refl, arith, length, if◌then◌else◌}
use Rattle.std.specs.Prelude.{nat_eq}
use Rattle.std.specs.List.{list_any, position_or_len}
use Rattle.std.proofs.lemmas.Bool.{eqb-true}
use Rattle.std.proofs.lemmas.Grind.{common_steps}
use Rattle.indexmap.specs.IndexSet.{insert_key}
use Rattle.redis_routing.specs.Inner.SlotPages.{number_among, number_or}
use Rattle.redis_routing.proofs.Slots.{swap}

absent_len : (s : ℕ) (xs : List ℕ) → list_any (nat_eq s) xs ≡ false → position_or_len (nat_eq s) xs ≡ length xs
absent_len s [] none = refl
absent_len s (x ∷ xs) none = grind (arith, common_steps, absent_len s xs)

among_push : (s t : ℕ) (xs : List ℕ) → number_among (xs ++ t ∷ []) s ≡ (if list_any (nat_eq s) xs then number_among xs s else (if nat_eq s t then length xs + 1 else 0))
among_push s t [] = grind (arith, common_steps)
among_push s t (x ∷ xs) = grind (arith, common_steps, among_push s t xs)

module _ (slots : List ℕ) (slot next number : ℕ) (next-is : next ≡ length slots + 1) (is : number ≡ number_or next (number_among slots slot)) where
  pub number_index : number - 1 ≡ position_or_len (nat_eq slot) slots
  number_index = grind (arith, common_steps, absent_len slot slots)

  pub number_inserted : (other : ℕ) → (if nat_eq slot other then number else number_among slots other) ≡ number_among (insert_key nat_eq slots slot) other
  number_inserted other = grind (arith, common_steps, among_push, eqb-true, swap)
