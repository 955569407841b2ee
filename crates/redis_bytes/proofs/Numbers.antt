-- Numbers of nodes stay right when a node more is put last.
use Rattle.std.proofs.Common.{◌≡◌, ℕ, zero, suc, ◌+◌, ◌<◌, ◌≤◌, ◌⊎◌, inl, inr, List, [], ◌∷◌, ◌++◌, Bool, true, false, cond, None, Some, Ordering, length, get_or, slice_get, subst, sym, ap, ◌∙◌, refl, arith, below_more, length-append}
use Rattle.std.proofs.lemmas.Grind.{common_steps}
use Rattle.std.specs.Borrow.{Bor}
use Rattle.std.specs.Prelude.{slice_index}
use Rattle.std.specs.Ordering.{is_eq}
use Rattle.std.specs.BTreeMap.{BTreeMap, Updates, get, is_at}
use Rattle.std.specs.Map.{lookup}
use Rattle.std.proofs.lemmas.List.{get_or_append_left, get_or_at, length-map}
use Rattle.std.proofs.lemmas.Option.{none-some, same_Some}
use Rattle.resp_core.proofs.Cases.{by_test}
use Rattle.cluster_slots.proofs.Orders.{equal_law}
use Rattle.cluster_slots.specs.Address.{Address, address_cmp}
use Rattle.cluster_slots.specs.SlotRoute.{SlotRoute}
use Rattle.cluster_map.specs.RangeMap.{RangeEntry}
use Rattle.cluster_map.specs.SlotNodes.{SlotNodes}
use Rattle.redis_bytes.specs.Table.{IsNodeNumber, AreNumbersOf, AreDistinct, AreUsed, Grows, addresses, by_address}

-- what stands in a list stands there with more after it
stays_there : (xs : List (Bor Address)) (y : Bor Address) (k : ℕ) (node : Address) → slice_get (addresses xs) k ≡ Some node → slice_get (addresses (xs ++ y ∷ [])) k ≡ Some node
stays_there [] y k node e = absurd (none-some node e)
stays_there (x ∷ xs) y zero node e = e
stays_there (x ∷ xs) y (suc k) node e = stays_there xs y k node e

-- what is put last stands there
pub last_there : (xs : List (Bor Address)) (y : Bor Address) → slice_get (addresses (xs ++ y ∷ [])) (length xs) ≡ Some y.now
last_there [] y = refl
last_there (x ∷ xs) y = last_there xs y

-- what stands in a list with one more stood there before, or is that one
pub stood : (xs : List (Bor Address)) (y : Bor Address) (k : ℕ) (node : Address) → slice_get (addresses (xs ++ y ∷ [])) k ≡ Some node → (slice_get (addresses xs) k ≡ Some node) ⊎ ((k ≡ length xs) × (y.now ≡ node))
stood [] y zero node e = inr (refl, same_Some y.now node e)
stood [] y (suc k) node e = absurd (none-some node e)
stood (x ∷ xs) y zero node e = inl e
stood (x ∷ xs) y (suc k) node e = grind (arith, common_steps, stood xs y k node e)

pub stays_numbered : (entries : List (RangeEntry SlotNodes)) (old new : List (Bor Address)) (route : SlotRoute) (pick given number : ℕ) → Grows old new given → IsNodeNumber entries (addresses old) route pick number → IsNodeNumber entries (addresses new) route pick number
stays_numbered entries old new route pick given number (inl same) is = subst (λ (ns : List (Bor Address)). IsNodeNumber entries (addresses ns) route pick number) (sym same) is
stays_numbered entries old new route pick given number (inr more) (inl none) = inl none
stays_numbered entries old new route pick given number (inr more) (inr there) = subst (λ (ns : List (Bor Address)). IsNodeNumber entries (addresses ns) route pick number) (sym more.1) (inr (there.0, stays_there old more.0 number there.0 there.1, there.2))

pub grows_by_one : (old new : List (Bor Address)) (given : ℕ) → Grows old new given → length new ≤ length old + 1
grows_by_one old new given (inl same) = omega (arith, ap (length {A = Bor Address}) same)
grows_by_one old new given (inr more) = omega (arith, ap (length {A = Bor Address}) more.1, length-append old (more.0 ∷ []))

-- one number more
pub numbers_more : (P : ℕ → ℕ → Type 0) (xs ys : List ℕ) (i x : ℕ) → length xs ≡ i → ((k : ℕ) → k < i → P k (get_or xs k 0)) → P i x → ys ≡ xs ++ x ∷ []
    → (length ys ≡ i + 1) × ((k : ℕ) → k < i + 1 → P k (get_or ys k 0))
numbers_more P xs ys i x len before here is = (
  ap (length {A = ℕ}) is ∙ length-append xs (x ∷ []) ∙ omega (arith, len),
  below_more (λ k. P k (get_or ys k 0)) i
      (λ k lt.
      let within : k < length xs = omega (arith, len) in
      let same : get_or ys k 0 ≡ get_or xs k 0 = ap (λ (zs : List ℕ). get_or zs k 0) is ∙ get_or_append_left xs (x ∷ []) 0 k within in
      subst (P k) (sym same) (before k lt))
      (let last : get_or ys i 0 ≡ x = ap (λ (zs : List ℕ). get_or zs i 0) is ∙ get_or_at xs x [] 0 i len in
      subst (P i) (sym last) here),
)

-- ---- each number is that of a slot

used_still : (numbers more : List ℕ) (x number : ℕ) → more ≡ numbers ++ x ∷ [] → (slot : ℕ) × (slot < length numbers) × (slice_index numbers slot ≡ number) → (slot : ℕ) × (slot < length more) × (slice_index more slot ≡ number)
used_still numbers more x number is (slot, lt, at) =
    let longer : length more ≡ length numbers + 1 = ap (length {A = ℕ}) is ∙ length-append numbers (x ∷ []) in
    (slot, omega (arith, lt, longer), ap (λ (ns : List ℕ). slice_index ns slot) is ∙ get_or_append_left numbers (x ∷ []) 0 slot lt ∙ at)

pub used_more : (numbers more : List ℕ) (old new : List (Bor Address)) (x : ℕ) → more ≡ numbers ++ x ∷ [] → Grows old new x → AreUsed numbers (addresses old) → AreUsed more (addresses new)
used_more numbers more old new x is (inl same) used = λ number lt.
    used_still numbers more x number is (used number (subst (λ (ns : List (Bor Address)). number < length (addresses ns)) same lt))
used_more numbers more old new x is (inr (node, grown, last)) used = λ number lt.
    let within : number < length old + 1 = omega (arith, lt, length-map new (λ (n : Bor Address). n.now), ap (length {A = Bor Address}) grown, length-append old (node ∷ [])) in
    below_more (λ n. (slot : ℕ) × (slot < length more) × (slice_index more slot ≡ n)) (length old)
    (λ n lt. used_still numbers more x n is (used n (omega (arith, lt, length-map old (λ (n : Bor Address). n.now)))))
    (let longer : length more ≡ length numbers + 1 = ap (length {A = ℕ}) is ∙ length-append numbers (x ∷ []) in
    (length numbers, omega (arith, longer), ap (λ (ns : List ℕ). slice_index ns (length numbers)) is ∙ get_or_at numbers x [] 0 (length numbers) refl ∙ last))
    number within

-- ---- each node has its number

from_is_eq : (o : Ordering) → is_eq o ≡ true → o ≡ Ordering.Equal
from_is_eq Ordering.Less h = cc
from_is_eq Ordering.Equal h = refl
from_is_eq Ordering.Greater h = cc

same_node : (a b : Address) → is_eq (address_cmp a b) ≡ true → a ≡ b
same_node a b h = (equal_law a b).0 (from_is_eq (address_cmp a b) h)

-- one node is found as the other, where the two are the same
found_alike : (places : BTreeMap (Bor Address) ℕ) (node other : Bor Address) → node.now ≡ other.now → get by_address places node ≡ get by_address places other
found_alike places node other same = ap (λ (a : Address). lookup (λ k. is_eq (address_cmp a k.now)) places.entries) same

module _ (old new : List (Bor Address)) (node : Bor Address) (before after : BTreeMap (Bor Address) ℕ) (number : ℕ) (grown : new ≡ old ++ node ∷ []) (last : number ≡ length old) (updates : Updates by_address before after node (Some number)) (absent : get by_address before node ≡ None) (placed : AreNumbersOf old before) where
  at_more : (q : Bor Address) (n : ℕ) → slice_get (addresses (old ++ node ∷ [])) n ≡ Some q.now → slice_get (addresses new) n ≡ Some q.now
  at_more q n e = ap (λ (ns : List (Bor Address)). slice_get (addresses ns) n) grown ∙ e

  of_more : (q : Bor Address) (n : ℕ) → slice_get (addresses new) n ≡ Some q.now → (slice_get (addresses old) n ≡ Some q.now) ⊎ ((n ≡ length old) × (node.now ≡ q.now))
  of_more q n e = stood old node n q.now (ap (λ (ns : List (Bor Address)). slice_get (addresses ns) n) (sym grown) ∙ e)

  module _ (q : Bor Address) (n : ℕ) where
    -- the new node
    module _ (equal : is_at (by_address node) q ≡ true) where
      same : node.now ≡ q.now
      same = same_node node.now q.now equal

      found_new : get by_address after q ≡ Some number
      found_new = updates.0 q ∙ ap (λ (b : Bool). cond b (Some number) (get by_address before q)) equal

      new_at : get by_address after q ≡ Some n → slice_get (addresses new) n ≡ Some q.now
      new_at found = grind (arith, common_steps, same_Some, found_new, at_more, last_there, same)

      new_found : (slice_get (addresses old) n ≡ Some q.now) ⊎ ((n ≡ length old) × (node.now ≡ q.now)) → get by_address after q ≡ Some n
      new_found (inl there) = absurd (none-some n (sym absent ∙ found_alike before node q same ∙ (placed q n).1 there))
      new_found (inr at) = found_new ∙ ap (λ (k : ℕ). Some k) (last ∙ sym at.0)

    -- and the others
    module _ (unlike : is_at (by_address node) q ≡ false) where
      found_old : get by_address after q ≡ get by_address before q
      found_old = updates.0 q ∙ ap (λ (b : Bool). cond b (Some number) (get by_address before q)) unlike

      old_found : (slice_get (addresses old) n ≡ Some q.now) ⊎ ((n ≡ length old) × (node.now ≡ q.now)) → get by_address after q ≡ Some n
      old_found (inl there) = found_old ∙ (placed q n).1 there
      old_found (inr at) = grind (arith, common_steps)

  pub placed_more : AreNumbersOf new after
  placed_more q n =
      by_test (is_at (by_address node) q)
      (λ equal. (new_at q n equal, λ e. new_found q n equal (of_more q n e)))
      (λ unlike. ((λ found. at_more q n (stays_there old node n q.now ((placed q n).0 (sym (found_old q n unlike) ∙ found)))), λ e. old_found q n unlike (of_more q n e)))

-- nodes that have their numbers are different
at_place : (nodes : List (Bor Address)) (k : ℕ) (a : Address) → slice_get (addresses nodes) k ≡ Some a → (node : Bor Address) × (node.now ≡ a)
at_place [] k a e = absurd (none-some a e)
at_place (x ∷ xs) zero a e = (x, same_Some x.now a e)
at_place (x ∷ xs) (suc k) a e = at_place xs k a e

pub distinct : (nodes : List (Bor Address)) (places : BTreeMap (Bor Address) ℕ) → AreNumbersOf nodes places → AreDistinct (addresses nodes)
distinct nodes places placed i j a first second =
    let (node, same) = at_place nodes i a first in
    let is : Some a ≡ Some node.now = ap (λ (x : Address). Some x) (sym same) in
    same_Some i j (sym ((placed node i).1 (first ∙ is)) ∙ (placed node j).1 (second ∙ is))
