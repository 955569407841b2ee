-- What a clone of the entries of a map keeps.
use Rattle.std.proofs.Common.{◌≡◌, List, [], ◌∷◌, map, refl, arith}
use Rattle.std.specs.List.{AllZip}
use Rattle.std.proofs.lemmas.Grind.{common_steps}
use Rattle.cluster_map.specs.RangeMap.{RangeEntry, end_of, Ascends, IsEntryClone}

-- clones have the ends of their sources
pub ends-cloned : {V : Type 0} (IsClone : V → V → Type 0) (es copies : List (RangeEntry V)) → AllZip (IsEntryClone IsClone) es copies → map end_of copies ≡ map end_of es
ends-cloned IsClone [] [] cloned = refl
ends-cloned IsClone [] (c ∷ cs) cloned = absurd cloned
ends-cloned IsClone (e ∷ es) [] cloned = absurd cloned
ends-cloned IsClone (e ∷ es) (c ∷ cs) cloned = grind (arith, common_steps, ends-cloned IsClone es cs cloned.1)

-- clones of entries in order are in order
pub Ascends-cloned : {V : Type 0} (IsClone : V → V → Type 0) (es copies : List (RangeEntry V)) → AllZip (IsEntryClone IsClone) es copies → Ascends es → Ascends copies
Ascends-cloned IsClone [] [] cloned ascends = tt
Ascends-cloned IsClone [] (c ∷ cs) cloned ascends = absurd cloned
Ascends-cloned IsClone (e ∷ es) [] cloned ascends = absurd cloned
Ascends-cloned IsClone (e ∷ es) (c ∷ cs) cloned ascends = grind (arith, common_steps, Ascends-cloned IsClone es cs cloned.1 ascends.1)

-- where clones of values equal them, so do clones of entries
pub entry-cloned : {V : Type 0} (IsClone : V → V → Type 0) (e copy : RangeEntry V) → ((v w : V) → IsClone v w → w ≡ v) → IsEntryClone IsClone e copy → copy ≡ e
entry-cloned IsClone e copy equal cloned = grind (arith, common_steps)
