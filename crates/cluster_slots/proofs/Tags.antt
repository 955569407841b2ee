-- The hash tag as a value is what the relation says.
use Rattle.std.proofs.Common.{◌≡◌, ◌≢◌, ℕ, ◌%◌, List, [], ◌∷◌, ◌++◌, true, false, refl, ap, ◌∙◌, inl, inr, arith, length}
use Rattle.std.proofs.lemmas.Grind.{common_steps}
use Rattle.std.specs.Prelude.{nat_eq, nat_lt}
use Rattle.std.specs.List.{list_any, before_first, after_first}
use Rattle.std.proofs.lemmas.Bool.Decides.{nat_tests}
use Rattle.cluster_slots.specs.HashTag.{IsHashTag, tag_in, hash_tag}
use Rattle.cluster_slots.specs.KeySlot.{IsKeySlot, crc_of, key_slot}
use Rattle.cluster_slots.proofs.Lists.{Lacks, free_from}
use Rattle.cluster_slots.proofs.HashTags.{no_open, no_close, nothing_between, tagged, one_hash_tag}
use Rattle.resp_core.proofs.Cases.{by_test}

module _ (b : ℕ) where
  -- after the first b of a list that starts with another
  behind_other : (x : ℕ) (xs : List ℕ) → nat_eq b x ≡ false → after_first (nat_eq b) (x ∷ xs) ≡ after_first (nat_eq b) xs
  behind_other x xs e = grind (arith, common_steps)

  before_other : (x : ℕ) (xs : List ℕ) → nat_eq b x ≡ false → before_first (nat_eq b) (x ∷ xs) ≡ x ∷ before_first (nat_eq b) xs
  before_other x xs e = grind (arith, common_steps)

  -- a list that has no b has nothing after the first one
  pub lacking : (xs : List ℕ) → list_any (nat_eq b) xs ≡ false → Lacks b xs × (after_first (nat_eq b) xs ≡ [])
  lacking [] h = (tt, refl)
  lacking (x ∷ xs) h = by_test (nat_eq b x) (λ e. cc (h, e)) (λ e.
      let rest : list_any (nat_eq b) xs ≡ false = rw e at h in
      let w = lacking xs rest in
      let differs : x ≢ b = λ q. grind (arith, nat_tests) in
      ((differs, w.0), behind_other x xs e ∙ w.1))

  -- a list that has b is cut at the first one
  holding : (xs : List ℕ) → list_any (nat_eq b) xs ≡ true → (xs ≡ before_first (nat_eq b) xs ++ b ∷ after_first (nat_eq b) xs) × Lacks b (before_first (nat_eq b) xs)
  holding [] h = cc
  holding (x ∷ xs) h = by_test (nat_eq b x)
      (λ e. let same : x ≡ b = grind (arith, nat_tests) in rw (e) (ap (λ z. z ∷ xs) same, tt))
      (λ e.
      let rest : list_any (nat_eq b) xs ≡ true = rw e at h in
      let w = holding xs rest in
      let differs : x ≢ b = λ q. grind (arith, nat_tests) in
      rw (behind_other x xs e, before_other x xs e) (ap (λ z. x ∷ z) w.0, (differs, w.1)))

-- no closing brace after the first opening one, or nothing between
tag_is : (key front rest : List ℕ) → key ≡ front ++ 123 ∷ rest → Lacks 123 front → IsHashTag key (tag_in key rest)
tag_is key front rest e free = by_test (list_any (nat_eq 125) rest)
    (λ closed.
    let w = holding 125 rest closed in
    let tag = before_first (nat_eq 125) rest in
    let back = after_first (nat_eq 125) rest in
    by_test (nat_lt 0 (length tag))
    (λ some. rw (closed, some) (inl (tagged key front rest tag back e (free_from 123 front free) w.0 (free_from 125 tag w.1) (some_of tag some))))
    (λ empty. rw (closed, empty) (inr (refl, nothing_between key front rest tag back e (free_from 123 front free) w.0 (free_from 125 tag w.1) (none_of tag empty)))))
    (λ opened. rw opened (inr (refl, no_close key front rest e (free_from 123 front free) (free_from 125 rest (lacking 125 rest opened).0))))
  where
    some_of : (xs : List ℕ) → nat_lt 0 (length xs) ≡ true → xs ≢ []
    some_of [] h = cc
    some_of (x ∷ xs) h = λ z. cc z

    none_of : (xs : List ℕ) → nat_lt 0 (length xs) ≡ false → xs ≡ []
    none_of [] h = refl
    none_of (x ∷ xs) h = grind (arith, nat_tests)

hash_tag_of : (key : List ℕ) → IsHashTag key (hash_tag key)
hash_tag_of key = by_test (list_any (nat_eq 123) key)
    (λ opened. let w = holding 123 key opened in tag_is key (before_first (nat_eq 123) key) (after_first (nat_eq 123) key) w.0 w.1)
    (λ plain. let w = lacking 123 key plain in rw w.1 (inr (refl, no_open key (free_from 123 key w.0))))

-- the slot as a value is the slot of the relation, and the only one
pub key_slot_is : (key : List ℕ) (slot : ℕ) → IsKeySlot key slot → slot ≡ key_slot key
unfolding key_slot
key_slot_is key slot (tag, is, e) = e ∙ ap (λ t. crc_of t % 16384) (one_hash_tag key (hash_tag key) tag (hash_tag_of key) is)
