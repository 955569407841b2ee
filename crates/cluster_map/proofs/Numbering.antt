-- One node more is numbered by what is found so far.
use Rattle.std.proofs.Common.{◌≡◌, ◌<◌, ◌≤◌, ℕ, List, [], ◌∷◌, ◌++◌, true, false, All, refl, sym, ap, subst, ◌∙◌, arith, get_or, map, length}
use Rattle.std.specs.List.{list_any}
use denote.Ref.{Bor}
use Rattle.std.proofs.lemmas.List.{get_or-map, length-map, map_push, length_push}
use Rattle.std.proofs.lemmas.List.Sums.{position_or_len_is}
use Rattle.cluster_map.specs.Targets.{addresses_behind}
use Rattle.std.proofs.lemmas.List.Elements.{All-nil, All-cons, All-append, All-head, All-tail}
use Rattle.std.proofs.lemmas.Grind.{common_steps}
use Rattle.cluster_slots.specs.Address.{Address, same_address}
use Rattle.cluster_map.specs.Numbered.{AreNumbered, index_of}
use Rattle.cluster_map.proofs.Groups.{same_refl}
use Rattle.cluster_map.proofs.Members.{add_new, added_more}
use Rattle.resp_core.proofs.Cases.{by_test}

index_listed : (node : Address) (found : List Address) → list_any (same_address node) found ≡ true → index_of node found < length found
index_listed node [] there = absurd (cc)
index_listed node (first ∷ found) there = grind (arith, common_steps, index_listed node found)

index_unlisted : (node : Address) (found : List Address) → list_any (same_address node) found ≡ false → index_of node found ≡ length found
index_unlisted node [] none = refl
index_unlisted node (first ∷ found) none = grind (arith, common_steps, index_unlisted node found)

-- so its number says whether it is added
pub added_known : (node : Address) (found : List Address) (number : ℕ) → number ≡ index_of node found → (number ≡ length found → ⊥) → add_new found node ≡ found
added_known node found number is known = by_test (list_any (same_address node) found)
    (λ t. rw t refl)
    (λ t. absurd (known (is ∙ index_unlisted node found t)))

pub added_unknown : (node : Address) (found : List Address) (number : ℕ) → number ≡ index_of node found → number ≡ length found → add_new found node ≡ found ++ node ∷ []
added_unknown node found number is last = by_test (list_any (same_address node) found)
    (λ t. absurd (omega (arith, is, last, index_listed node found t)))
    (λ t. rw t refl)

-- the first place at which it stands, or the end
pub index_at : (node : Address) (found : List (Bor Address)) (i : ℕ) (d : Bor Address) → i ≤ length found → ((k : ℕ) → k < i → same_address node (get_or found k d).now ≡ false)
    → (i < length found → same_address node (get_or found i d).now ≡ true) → i ≡ index_of node (addresses_behind found)
index_at node found i d within before there =
    let long = length-map found (λ r. r.now) in
    sym (position_or_len_is (same_address node) (addresses_behind found) i d.now (omega (arith, within, long))
    (λ k l. ap (same_address node) (get_or-map (λ r. r.now) found k d d.now (omega (arith, within, l))) ∙ before k l)
    (λ l. let inside : i < length found = omega (arith, l, long) in ap (same_address node) (get_or-map (λ r. r.now) found i d d.now inside) ∙ there inside))

-- of one more at the end
index_stays : (node last : Address) (found : List Address) → index_of node found < length found → index_of node (found ++ last ∷ []) ≡ index_of node found
index_stays node last [] there = absurd (omega (arith, there))
index_stays node last (first ∷ found) there = grind (arith, common_steps, index_stays node last found)

index_last : (node : Address) (found : List Address) → list_any (same_address node) found ≡ false → index_of node (found ++ node ∷ []) ≡ length found
index_last node [] none = rw (same_refl node) refl
index_last node (first ∷ found) none = grind (arith, common_steps, index_last node found)

-- after a node is added, if it is new
index_kept : (node added : Address) (found : List Address) → index_of node found < length found → index_of node (add_new found added) ≡ index_of node found
index_kept node added found there = by_test (list_any (same_address added) found)
    (λ t. rw t refl)
    (λ t. rw t (index_stays node added found there))

index_own : (node : Address) (found : List Address) → (index_of node (add_new found node) ≡ index_of node found) × (index_of node found < length (add_new found node))
index_own node found = by_test (list_any (same_address node) found)
    (λ t. rw t (refl, index_listed node found t))
    (λ t. let none = index_unlisted node found t in rw t (index_last node found t ∙ sym none, omega (arith, none, length_push found node)))

longer : (node : Address) (found : List Address) → length found ≤ length (add_new found node)
longer node found = by_test (list_any (same_address node) found)
    (λ t. rw t (omega arith))
    (λ t. rw t (omega (arith, length_push found node)))

indices_kept : (nodes found : List Address) (added : Address) → All (λ k. k < length found) (map (λ node. index_of node found) nodes)
    → map (λ node. index_of node (add_new found added)) nodes ≡ map (λ node. index_of node found) nodes
indices_kept [] found added below = refl
indices_kept (node ∷ nodes) found added below =
    rw (index_kept node added found (All-head (λ k. k < length found) (index_of node found) (map (λ m. index_of m found) nodes) below))
    (ap (λ l. index_of node found ∷ l) (indices_kept nodes found added (All-tail (λ k. k < length found) (index_of node found) (map (λ m. index_of m found) nodes) below)))

pub numbered_next : (nodes found : List Address) (numbers : List ℕ) (node : Address) → AreNumbered nodes found numbers → AreNumbered (nodes ++ node ∷ []) (add_new found node) (numbers ++ index_of node found ∷ [])
numbered_next nodes found numbers node are =
    let more = add_new found node in
    let own = index_own node found in
    record {
      once = added_more nodes (node ∷ []) found are.once;
      numbers_are =
          ap (λ l. l ++ index_of node found ∷ []) (are.numbers_are ∙ sym (indices_kept nodes found node (subst (All (λ k. k < length found)) are.numbers_are are.below)))
          ∙ ap (λ n. map (λ m. index_of m more) nodes ++ n ∷ []) (sym own.0)
          ∙ sym (map_push (λ m. index_of m more) nodes node);
      below = All-append (λ k. k < length more) numbers (index_of node found ∷ [])
          (λ k d inside. omega (arith, longer node found, are.below k d inside))
          (All-cons (λ k. k < length more) (index_of node found) [] own.1 (All-nil (λ k. k < length more)));
    }
