-- One part more is run: what it leaves, and what its tuples add to the reply.
use Rattle.std.proofs.Common.{◌≡◌, ℕ, suc, List, [], ◌∷◌, ◌++◌, true, cond, refl, sym, ap, ◌∙◌, length, append_assoc}
use Rattle.std.specs.Prelude.{nat_eq}
use Rattle.std.specs.Str.{bytes_eq}
use Rattle.std.proofs.lemmas.Bool.{eqb-true}
use Rattle.std.proofs.lemmas.List.{append-nil}
use Rattle.cluster_slots.specs.KeySlot.{key_slot}
use Rattle.resp_core.proofs.Cases.{by_test}
use Rattle.redis_cluster.specs.MultiKey.{KeyTuple, tuples_of_slot}
use Rattle.redis_cluster.specs.Unsplit.{Act, Keyspace, put, after, results}
use Rattle.redis_cluster.specs.Orders.{times}
use Rattle.redis_cluster.specs.SlotItems.{items_of_slot}
use Rattle.redis_cluster.proofs.Fold.{joined, after_is, joined_skips, same_answer}

-- one slot more adds its part at the end
pub joined_more : (before : List ℕ) (slot : ℕ) (ts : List KeyTuple) → joined (before ++ slot ∷ []) ts ≡ joined before ts ++ tuples_of_slot slot ts
joined_more [] slot ts = append-nil (tuples_of_slot slot ts)
joined_more (b ∷ before) slot ts = ap (λ xs. tuples_of_slot b ts ++ xs) (joined_more before slot ts) ∙ sym (append_assoc (tuples_of_slot b ts) (joined before ts) (tuples_of_slot slot ts))

module _ {C : Type 0} (act : Act C) where
  -- some tuples and then others leave what all of them leave
  pub after-append : (xs ys : List KeyTuple) (ks : Keyspace C) → after act (xs ++ ys) ks ≡ after act ys (after act xs ks)
  after-append [] ys ks = refl
  after-append (x ∷ xs) ys ks = after-append xs ys _

  -- each tuple has one result
  pub length-results : (ts : List KeyTuple) (ks : Keyspace C) → length (results act ts ks) ≡ length ts
  length-results [] ks = refl
  length-results (t ∷ ts) ks = ap suc (length-results ts _)

  -- the results of a part, on a keyspace that agrees at the keys of its slot
  pub results-part : (slot : ℕ) (ts : List KeyTuple) (ks now : Keyspace C)
      → ((key : List ℕ) → nat_eq (key_slot key) slot ≡ true → now key ≡ ks key)
      → results act (tuples_of_slot slot ts) now ≡ items_of_slot slot ts (results act ts ks)
  results-part slot [] ks now agree = refl
  results-part slot (t ∷ ts) ks now agree =
      by_test (nat_eq (key_slot t.key) slot)
      (λ here. rw here
      (ap (λ c. (act t c).result ∷ results act (tuples_of_slot slot ts) (put t.key (act t c).cell now)) (agree t.key here)
      ∙ ap (λ rs. (act t (ks t.key)).result ∷ rs) (results-part slot ts (put t.key (act t (ks t.key)).cell ks) (put t.key (act t (ks t.key)).cell now)
      (λ key own. ap (cond (bytes_eq t.key key) (act t (ks t.key)).cell) (agree key own)))))
      (λ there. rw there (results-part slot ts (put t.key (act t (ks t.key)).cell ks) now
      (λ key own. agree key own ∙ by_test (bytes_eq t.key key)
      (λ h. absurd (let e = same_answer (λ n. nat_eq n slot) t.key key h in cc))
      (λ h. rw h refl))))

  -- After parts of other slots a part leaves what all these parts leave.
  pub one_part_more : (before : List ℕ) (slot : ℕ) (ts : List KeyTuple) (ks : Keyspace C)
      → after act (tuples_of_slot slot ts) (after act (joined before ts) ks) ≡ after act (joined (before ++ slot ∷ []) ts) ks
  one_part_more before slot ts ks = sym (after-append (joined before ts) (tuples_of_slot slot ts) ks) ∙ ap (λ xs. after act xs ks) (sym (joined_more before slot ts))

  -- After parts of other slots the tuples of a part add what they add to the reply to the whole command.
  pub results_one_more : (before : List ℕ) (slot : ℕ) (ts : List KeyTuple) (ks : Keyspace C) → times slot before ≡ 0
      → results act (tuples_of_slot slot ts) (after act (joined before ts) ks) ≡ items_of_slot slot ts (results act ts ks)
  results_one_more before slot ts ks fresh = results-part slot ts ks (after act (joined before ts) ks)
      (λ key own. after_is act (joined before ts) ks key ∙ joined_skips act key ts before (ks key) (ap (λ n. times n before) (eqb-true (key_slot key) slot own) ∙ fresh))
