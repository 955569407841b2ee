-- What tuples do to a keyspace is, at each key, what they do to that key's cell. So the parts of a command may be run in any order.
use Rattle.std.proofs.Common.{◌≡◌, ℕ, ◌≤◌, List, [], ◌∷◌, ◌++◌, Bool, true, false, cond, Option, refl, sym, ap, ◌∙◌, arith, inl, inr, ◌⊎◌, filter}
use Rattle.std.specs.Prelude.{nat_eq}
use Rattle.std.specs.Str.{bytes_eq}
use Rattle.std.specs.List.{flat_map, list_any}
use Rattle.std.proofs.lemmas.Bool.{cases_lt}
use Rattle.std.proofs.lemmas.Slice.Eq.{bytes_eq-Decides}
use Rattle.std.proofs.lemmas.Grind.{common_steps}
use Rattle.cluster_slots.specs.KeySlot.{key_slot}
use Rattle.resp_core.proofs.Cases.{by_test}
use Rattle.redis_cluster.specs.MultiKey.{KeyTuple, tuples_of_slot}
use Rattle.redis_cluster.specs.Unsplit.{Act, Keyspace, put, after}
use Rattle.redis_cluster.specs.Orders.{times, tuples_of_slots}
use Rattle.redis_cluster.proofs.Counts.{times_here, times_there, found, not_found}

-- the parts of some slots, one after the other
abbrev pub joined : List ℕ → List KeyTuple → List KeyTuple
joined slots ts = flat_map (λ slot. tuples_of_slot slot ts) slots

-- the slot of each tuple stands in the list once
abbrev pub NamesSlots : List ℕ → List KeyTuple → Type 0
NamesSlots slots [] = Unit {0}
NamesSlots slots (t ∷ ts) = (times (key_slot t.key) slots ≡ 1) × NamesSlots slots ts

-- keys of the same bytes are one key
same_key : (a b : List ℕ) → bytes_eq a b ≡ true → a ≡ b
same_key a b h = (bytes_eq-Decides a b).0 h

-- a test on the slot answers alike at equal keys
pub same_answer : (test : ℕ → Bool) (a b : List ℕ) → bytes_eq a b ≡ true → test (key_slot a) ≡ test (key_slot b)
same_answer test a b h = ap (λ k. test (key_slot k)) (same_key a b h)

module _ {C : Type 0} (act : Act C) where
  -- what the tuples leave at one key
  abbrev pub cell_after : List ℕ → List KeyTuple → Option C → Option C
  cell_after key [] c = c
  cell_after key (t ∷ ts) c = cell_after key ts (cond (bytes_eq t.key key) (act t c).cell c)

  -- one tuple changes the cell of its own key alone
  own_cell : (t : KeyTuple) (key : List ℕ) (ks : Keyspace C)
      → put t.key (act t (ks t.key)).cell ks key ≡ cond (bytes_eq t.key key) (act t (ks key)).cell (ks key)
  own_cell t key ks = by_test (bytes_eq t.key key) (λ h. rw h (ap (λ k. (act t (ks k)).cell) (same_key t.key key h))) (λ h. rw h refl)

  -- a fold over the keyspace is a fold over each cell
  pub after_is : (ts : List KeyTuple) (ks : Keyspace C) (key : List ℕ) → after act ts ks key ≡ cell_after key ts (ks key)
  after_is [] ks key = refl
  after_is (t ∷ ts) ks key = after_is ts (put t.key (act t (ks t.key)).cell ks) key ∙ ap (cell_after key ts) (own_cell t key ks)

  -- some tuples and then others, at one key
  pub cell_after-append : (key : List ℕ) (xs ys : List KeyTuple) (c : Option C) → cell_after key (xs ++ ys) c ≡ cell_after key ys (cell_after key xs c)
  cell_after-append key [] ys c = refl
  cell_after-append key (x ∷ xs) ys c = cell_after-append key xs ys _

  -- the tuples of slots that the key's is not one of leave its cell
  pub skips : (test : ℕ → Bool) (key : List ℕ) → test (key_slot key) ≡ false → (ts : List KeyTuple) (c : Option C)
      → cell_after key (filter (λ t. test (key_slot t.key)) ts) c ≡ c
  skips test key other [] c = refl
  skips test key other (t ∷ ts) c =
      by_test (test (key_slot t.key))
      (λ here. by_test (bytes_eq t.key key)
      (λ h. absurd (let e = same_answer test t.key key h in cc))
      (λ h. rw (here, cell_after, h) (skips test key other ts c)))
      (λ there. rw there (skips test key other ts c))

  -- the tuples of slots of which the key's is one do what all tuples do
  pub keeps : (test : ℕ → Bool) (key : List ℕ) → test (key_slot key) ≡ true → (ts : List KeyTuple) (c : Option C)
      → cell_after key (filter (λ t. test (key_slot t.key)) ts) c ≡ cell_after key ts c
  keeps test key own [] c = refl
  keeps test key own (t ∷ ts) c =
      by_test (test (key_slot t.key))
      (λ here. rw here (keeps test key own ts _))
      (λ there. by_test (bytes_eq t.key key)
      (λ h. absurd (let e = same_answer test t.key key h in cc))
      (λ h. rw (there, cell_after, h) (keeps test key own ts c)))

  -- the parts of slots that are not the key's leave its cell
  pub joined_skips : (key : List ℕ) (ts : List KeyTuple) (slots : List ℕ) (c : Option C) → times (key_slot key) slots ≡ 0
      → cell_after key (joined slots ts) c ≡ c
  joined_skips key ts [] c none = refl
  joined_skips key ts (slot ∷ slots) c none =
      cell_after-append key (tuples_of_slot slot ts) (joined slots ts) c
      ∙ by_test (nat_eq (key_slot key) slot)
      (λ own. absurd (omega (arith, times_here (key_slot key) slot slots own)))
      (λ other. ap (cell_after key (joined slots ts)) (skips (λ s. nat_eq s slot) key other ts c)
      ∙ joined_skips key ts slots c (omega (arith, times_there (key_slot key) slot slots other)))

  -- where the key's slot is named once, the parts do to its cell what all tuples do
  pub joined_keeps : (key : List ℕ) (ts : List KeyTuple) (slots : List ℕ) (c : Option C) → times (key_slot key) slots ≡ 1
      → cell_after key (joined slots ts) c ≡ cell_after key ts c
  joined_keeps key ts [] c once = absurd (let f : 0 ≡ 1 = once in omega arith)
  joined_keeps key ts (slot ∷ slots) c once =
      cell_after-append key (tuples_of_slot slot ts) (joined slots ts) c
      ∙ by_test (nat_eq (key_slot key) slot)
      (λ own. joined_skips key ts slots _ (omega (arith, times_here (key_slot key) slot slots own)) ∙ keeps (λ s. nat_eq s slot) key own ts c)
      (λ other. ap (cell_after key (joined slots ts)) (skips (λ s. nat_eq s slot) key other ts c)
      ∙ joined_keeps key ts slots c (omega (arith, times_there (key_slot key) slot slots other)))

  -- none of the tuples has the key
  abbrev Idle : List ℕ → List KeyTuple → Type 0
  Idle key [] = Unit {0}
  Idle key (t ∷ ts) = (bytes_eq t.key key ≡ false) × Idle key ts

  -- tuples none of which has the key leave its cell
  idle_after : (key : List ℕ) (ts : List KeyTuple) (c : Option C) → Idle key ts → cell_after key ts c ≡ c
  idle_after key [] c h = refl
  idle_after key (t ∷ ts) c h = rw (h.0) (idle_after key ts c h.1)

  -- a part of tuples none of which has the key leaves its cell
  idle_part : (key : List ℕ) (slot : ℕ) (ts : List KeyTuple) (c : Option C) → Idle key ts → cell_after key (tuples_of_slot slot ts) c ≡ c
  idle_part key slot [] c h = refl
  idle_part key slot (t ∷ ts) c h = grind (arith, common_steps, idle_part key slot ts c h.1)

  -- parts of tuples none of which has the key leave its cell
  idle_joined : (key : List ℕ) (slots : List ℕ) (ts : List KeyTuple) (c : Option C) → Idle key ts → cell_after key (joined slots ts) c ≡ c
  idle_joined key [] ts c h = refl
  idle_joined key (slot ∷ slots) ts c h = grind (arith, cell_after-append, idle_part, idle_joined key slots ts c h)

  -- a key has a slot that is named once, or none of the tuples
  named_or_idle : (key : List ℕ) (slots : List ℕ) (ts : List KeyTuple) → NamesSlots slots ts → (times (key_slot key) slots ≡ 1) ⊎ Idle key ts
  named_or_idle key slots [] h = inr tt
  named_or_idle key slots (t ∷ ts) h =
      by_test (bytes_eq t.key key)
      (λ e. inl (ap (λ k. times (key_slot k) slots) (sym (same_key t.key key e)) ∙ h.0))
      (λ e. elim (named_or_idle key slots ts h.1) [ inl once ↦ inl once | inr idle ↦ inr (e, idle) ])

  -- All parts, in any order, leave what the command leaves that is not split.
  pub joined_is_whole : (slots : List ℕ) (ts : List KeyTuple) (ks : Keyspace C) → NamesSlots slots ts → after act (joined slots ts) ks ≡ after act ts ks
  joined_is_whole slots ts ks h = grind (arith, after_is, named_or_idle, joined_keeps, idle_joined, idle_after)

  -- at one key, parts of different slots do what the tuples of those slots do
  joined_is_among : (slots : List ℕ) (key : List ℕ) (ts : List KeyTuple) (c : Option C) → times (key_slot key) slots ≤ 1
      → cell_after key (joined slots ts) c ≡ cell_after key (tuples_of_slots slots ts) c
  joined_is_among slots key ts c most =
      let test : ℕ → Bool = λ n. list_any (λ slot. nat_eq n slot) slots in
      elim (cases_lt 0 (times (key_slot key) slots)) as (λ _. cell_after key (joined slots ts) c ≡ cell_after key (tuples_of_slots slots ts) c) [
        | inl some ↦ joined_keeps key ts slots c (omega arith) ∙ sym (keeps test key (found (key_slot key) slots some) ts c)
        | inr none ↦ joined_skips key ts slots c (omega arith) ∙ sym (skips test key (not_found (key_slot key) slots (omega arith)) ts c)
      ]

  -- The parts of different slots, in any order, leave what the tuples of those slots leave, one after the other.
  pub joined_is_of_slots : (slots : List ℕ) (ts : List KeyTuple) (ks : Keyspace C) → ((n : ℕ) → times n slots ≤ 1)
      → after act (joined slots ts) ks ≡ after act (tuples_of_slots slots ts) ks
  joined_is_of_slots slots ts ks apart = λ i key. (after_is (joined slots ts) ks key
      ∙ joined_is_among slots key ts (ks key) (apart (key_slot key))
      ∙ sym (after_is (tuples_of_slots slots ts) ks key)) i
