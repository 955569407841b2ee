-- The primary of a slot is that of the entry that answers for it.
use Rattle.std.proofs.Common.{◌≡◌, ◌<◌, ◌≤◌, ℕ, nat_le, true, inl, inr, List, [], ◌∷◌, Some, ap, arith}
use Rattle.std.proofs.lemmas.Grind.{common_steps}
use Rattle.std.specs.Prelude.{find}
use Rattle.std.proofs.lemmas.Bool.{le-leb, leb-true}
use Rattle.resp_core.proofs.Cases.{by_test}
use Rattle.cluster_map.specs.RangeMap.{RangeEntry, end_of, Ascends, IsAnswerAt}
use Rattle.cluster_map.specs.SlotNodes.{SlotNodes}
use Rattle.cluster_map.proofs.Ranges.{Contains-nil, Contains-cons_cases, Contains-cons_head, Contains-cons_tail, EndsAfter-contains, EndsFirstFrom, EndsFirstFrom-answer}
use Rattle.redis_commands.specs.Keyspaces.{primary_of_slot}

found : {V : Type 0} (es : List (RangeEntry V)) (slot : ℕ) (e : RangeEntry V) → Ascends es → EndsFirstFrom es slot e → find (λ f. nat_le slot (end_of f)) es ≡ Some e
found [] slot e ascends first = absurd (Contains-nil e first.0)
found (r ∷ rs) slot e ascends first = elim (Contains-cons_cases r rs e first.0) [
  | inl same ↦
      let ends : end_of r ≡ end_of e = ap end_of same in
      let here : nat_le slot (end_of r) ≡ true = le-leb slot (end_of r) (omega (arith, ends, first.1)) in
      rw here (ap Some same)
  | inr later ↦
      let above : end_of r < end_of e = EndsAfter-contains (end_of r) rs e ascends.0 ascends.1 later in
      by_test (nat_le slot (end_of r))
      (λ t. let no : end_of e ≤ end_of r = first.2 r (Contains-cons_head r rs) (leb-true slot (end_of r) t) in absurd (omega (arith, no, above)))
      (λ t. rw t (found rs slot e ascends.1 (later, first.1, λ f there. first.2 f (Contains-cons_tail r rs f there))))
]

-- The primary of a slot is that of the entry that answers for it.
pub primary_is : (entries : List (RangeEntry SlotNodes)) (slot : ℕ) (nodes : SlotNodes) → Ascends entries → IsAnswerAt entries slot nodes → primary_of_slot entries slot ≡ Some nodes.primary
primary_is entries slot nodes ascends answer = grind (arith, common_steps, found entries slot (answer.start, answer.end, nodes) ascends (EndsFirstFrom-answer entries slot nodes answer), EndsFirstFrom-answer entries slot nodes answer, nat_le answer.start slot, le-leb answer.start slot answer.after_start)
