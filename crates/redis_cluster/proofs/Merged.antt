-- The values that replies to parts are arrays of: there is just one list of them, and there is one if each reply fits.
use Rattle.std.proofs.Common.{◌≡◌, ℕ, suc, ◌<◌, ◌≤◌, List, [], ◌∷◌, true, false, cond, Option, Some, None, length, map, drop, get_or, refl, sym, ap, ◌∙◌, arith}
use Rattle.std.specs.Prelude.{nat_eq, slice_get, unwrap_or}
use Rattle.std.specs.List.{AllZip, cons_option, filter_map, zip}
use Rattle.std.proofs.lemmas.Bool.{eqb-true}
use Rattle.std.proofs.lemmas.Bool.Decides.{nat_tests}
use Rattle.std.proofs.lemmas.Grind.{common_steps}
use Rattle.cluster_slots.specs.KeySlot.{key_slot}
use Rattle.resp_core.specs.Reply.{Reply, nil, array_of}
use Rattle.resp_core.specs.declared.error.ErrorKind.{ErrorKind}
use Rattle.resp_core.proofs.Cases.{by_test}
use Rattle.redis_combiners.specs.Misfits.{first_misfit, misfit, misfit_of}
use Rattle.redis_cluster.specs.Joined.{AreMerged}
use Rattle.redis_cluster.specs.MultiKey.{KeyTuple, tuples_of_slot}
use Rattle.redis_cluster.specs.Orders.{times}
use Rattle.redis_cluster.specs.SlotItems.{items_of_slot}
use Rattle.redis_cluster.proofs.Constructors.{same_some}
use Rattle.redis_cluster.proofs.Counts.{same_number, times_here, times_there}
use Rattle.redis_cluster.proofs.Fold.{NamesSlots}
use Rattle.redis_cluster.proofs.Placed.{same_at_numbers}
use Rattle.redis_cluster.proofs.Places.{items_of_slot_is}

-- how many tuples a slot has
abbrev count_of : List KeyTuple → ℕ → ℕ
count_of ts slot = length (tuples_of_slot slot ts)

-- replies that are arrays of these items, slot by slot
abbrev Arrays : (ℕ → List Reply) → List ℕ → List Reply → Type 0
Arrays items slots replies = AllZip (λ slot reply. array_of reply ≡ Some (items slot)) slots replies

-- arrays have the same items at each slot that is named
same_items : (f g : ℕ → List Reply) (slots : List ℕ) (replies : List Reply) → Arrays f slots replies → Arrays g slots replies → (slot : ℕ) → 0 < times slot slots → f slot ≡ g slot
same_items f g [] replies are too slot some = absurd (omega arith)
same_items f g (s ∷ slots) [] are too slot some = absurd are
same_items f g (s ∷ slots) (r ∷ replies) are too slot some =
    by_test (nat_eq slot s)
    (λ here. let is = eqb-true slot s here in ap f is ∙ same_some (f s) (g s) (sym are.0 ∙ too.0) ∙ ap g (sym is))
    (λ there. same_items f g slots replies are.1 too.1 slot (omega (arith, some, times_there slot s slots there)))

-- Replies are arrays of one list of values.
pub merged_once : (ts : List KeyTuple) (slots : List ℕ) (replies xs ys : List Reply) → NamesSlots slots ts → AreMerged ts slots replies xs → AreMerged ts slots replies ys → xs ≡ ys
merged_once ts slots replies xs ys named are too =
    same_at_numbers slots ts xs ys are.each too.each named (λ slot once.
    sym (items_of_slot_is slot ts xs are.each)
    ∙ same_items (λ s. items_of_slot s ts xs) (λ s. items_of_slot s ts ys) slots replies are.of_slots too.of_slots slot (omega (arith, once))
    ∙ items_of_slot_is slot ts ys too.each)

-- one tuple more
count_here : (slot : ℕ) (t : KeyTuple) (ts : List KeyTuple) → nat_eq (key_slot t.key) slot ≡ true → count_of (t ∷ ts) slot ≡ suc (count_of ts slot)
count_here slot t ts here = rw here refl

count_there : (slot : ℕ) (t : KeyTuple) (ts : List KeyTuple) → nat_eq (key_slot t.key) slot ≡ false → count_of (t ∷ ts) slot ≡ count_of ts slot
count_there slot t ts there = rw there refl

-- a slot that is not named has no tuples
none_unnamed : (slot : ℕ) (slots : List ℕ) (ts : List KeyTuple) → NamesSlots slots ts → times slot slots ≡ 0 → count_of ts slot ≡ 0
none_unnamed slot slots [] named none = refl
none_unnamed slot slots (t ∷ ts) named none = grind (arith, common_steps, none_unnamed slot slots ts named.1 none)

no_items : (xs : List Reply) → length xs ≡ 0 → xs ≡ []
no_items [] none = refl
no_items (x ∷ xs) none = absurd (omega arith)

first_and_rest : (xs : List Reply) → 0 < length xs → xs ≡ get_or xs 0 nil ∷ drop 1 xs
first_and_rest [] some = absurd (omega arith)
first_and_rest (x ∷ xs) some = refl

fewer : (xs : List Reply) (n : ℕ) → length xs ≡ suc n → length (drop 1 xs) ≡ n
fewer [] n long = absurd (omega arith)
fewer (x ∷ xs) n long = omega (arith, long)

-- the items of each slot, without the first one of this slot
abbrev behind : ℕ → (ℕ → List Reply) → ℕ → List Reply
behind slot items other = cond (nat_eq slot other) (drop 1 (items other)) (items other)

-- Items of slots, as many as each has tuples, are given to the tuples one by one.
dealt : (items : ℕ → List Reply) (ts : List KeyTuple) → ((slot : ℕ) → length (items slot) ≡ count_of ts slot)
    → (values : List Reply) × (length values ≡ length ts) × ((slot : ℕ) → items slot ≡ items_of_slot slot ts values)
dealt items [] long = ([], refl, λ slot. no_items (items slot) (long slot))
dealt items (t ∷ ts) long =
    let first = get_or (items (key_slot t.key)) 0 nil in
    let rest = dealt (behind (key_slot t.key) items) ts (λ slot.
    by_test (nat_eq (key_slot t.key) slot)
    (λ here. rw here (fewer (items slot) (count_of ts slot) (long slot ∙ count_here slot t ts here)))
    (λ there. rw there (long slot ∙ count_there slot t ts there))) in (
      first ∷ rest.0,
      ap suc rest.1,
      λ slot. by_test (nat_eq (key_slot t.key) slot)
          (λ here.
          let is : key_slot t.key ≡ slot = eqb-true (key_slot t.key) slot here in
          let put : first ∷ items_of_slot slot ts rest.0 ≡ items_of_slot slot (t ∷ ts) (first ∷ rest.0) = rw here refl in
          let left : drop 1 (items slot) ≡ items_of_slot slot ts rest.0 = sym (ap (λ b. cond b (drop 1 (items slot)) (items slot)) here) ∙ rest.2 slot in
          first_and_rest (items slot) (omega (arith, long slot, count_here slot t ts here))
          ∙ ap (λ s. get_or (items s) 0 nil ∷ drop 1 (items slot)) (sym is)
          ∙ ap (λ xs. first ∷ xs) left
          ∙ put)
          (λ there.
          let put : items_of_slot slot ts rest.0 ≡ items_of_slot slot (t ∷ ts) (first ∷ rest.0) = rw there refl in
          sym (ap (λ b. cond b (drop 1 (items slot)) (items slot)) there) ∙ rest.2 slot ∙ put),
    )

-- the items of a slot's reply
abbrev items_at : List ℕ → List Reply → ℕ → List Reply
items_at [] replies slot = []
items_at (s ∷ slots) [] slot = []
items_at (s ∷ slots) (r ∷ replies) slot = cond (nat_eq slot s) (unwrap_or (array_of r) []) (items_at slots replies slot)

-- each reply is an array of as many items as its slot has tuples
abbrev Fit : List KeyTuple → List ℕ → List Reply → Type 0
Fit ts slots replies = AllZip (λ slot reply. (items : List Reply) × (array_of reply ≡ Some items) × (length items ≡ count_of ts slot)) slots replies

fits_one : (found : Option (List Reply)) (n : ℕ) (kinds : List ErrorKind) → cons_option (misfit_of found n) kinds ≡ [] → ((items : List Reply) × (found ≡ Some items) × (length items ≡ n)) × (kinds ≡ [])
fits_one None n kinds none = absurd (cc none)
fits_one (Some items) n kinds none = grind (arith, common_steps)

all_fit : (ts : List KeyTuple) (slots : List ℕ) (replies : List Reply) → length replies ≡ length slots → filter_map misfit (zip replies (map (count_of ts) slots)) ≡ [] → Fit ts slots replies
all_fit ts [] [] each none = tt
all_fit ts [] (r ∷ replies) each none = absurd (omega (arith, each))
all_fit ts (s ∷ slots) [] each none = absurd (omega (arith, each))
all_fit ts (s ∷ slots) (r ∷ replies) each none =
    let one = fits_one (array_of r) (count_of ts s) (filter_map misfit (zip replies (map (count_of ts) slots))) none in
    (one.0, all_fit ts slots replies (omega (arith, each)) one.1)

-- so a slot has as many items as tuples
items_fit : (ts : List KeyTuple) (slots : List ℕ) (replies : List Reply) → Fit ts slots replies → NamesSlots slots ts → (slot : ℕ) → length (items_at slots replies slot) ≡ count_of ts slot
items_fit ts slots replies fit named slot = by_test (nat_eq (times slot slots) 0)
    (λ none. let zero = eqb-true (times slot slots) 0 none in ap length (absent slots replies zero) ∙ sym (none_unnamed slot slots ts named zero))
    (λ some. let stands : 0 < times slot slots = grind (arith, nat_tests) in present slots replies fit stands)
  where
    absent : (slots : List ℕ) (replies : List Reply) → times slot slots ≡ 0 → items_at slots replies slot ≡ []
    absent [] replies none = refl
    absent (s ∷ slots) [] none = refl
    absent (s ∷ slots) (r ∷ replies) none =
        by_test (nat_eq slot s)
        (λ here. absurd (omega (arith, none, times_here slot s slots here)))
        (λ there. rw there (absent slots replies (sym (times_there slot s slots there) ∙ none)))

    present : (slots : List ℕ) (replies : List Reply) → Fit ts slots replies → 0 < times slot slots → length (items_at slots replies slot) ≡ count_of ts slot
    present [] replies fit some = absurd (omega arith)
    present (s ∷ slots) [] fit some = absurd fit
    present (s ∷ slots) (r ∷ replies) fit some =
        by_test (nat_eq slot s)
        (λ here. rw here (ap (λ o. length (unwrap_or o [])) fit.0.1 ∙ fit.0.2 ∙ ap (count_of ts) (sym (eqb-true slot s here))))
        (λ there. rw there (present slots replies fit.1 (omega (arith, some, times_there slot s slots there))))

-- the replies are arrays of the items of their slots
arrays_at : (f : ℕ → List Reply) (ts : List KeyTuple) (slots : List ℕ) (replies : List Reply) → Fit ts slots replies → ((n : ℕ) → times n slots ≤ 1) → ((slot : ℕ) → 0 < times slot slots → items_at slots replies slot ≡ f slot) → Arrays f slots replies
arrays_at f ts [] [] fit apart same = tt
arrays_at f ts [] (r ∷ replies) fit apart same = absurd fit
arrays_at f ts (s ∷ slots) [] fit apart same = absurd fit
arrays_at f ts (s ∷ slots) (r ∷ replies) fit apart same =
    let here : nat_eq s s ≡ true = same_number s in
    let own : unwrap_or (array_of r) [] ≡ f s = sym (ap (λ b. cond b (unwrap_or (array_of r) []) (items_at slots replies s)) here) ∙ same s (omega (arith, times_here s s slots here)) in (
      fit.0.1 ∙ ap Some (sym (ap (λ o. unwrap_or o []) fit.0.1) ∙ own),
      arrays_at f ts slots replies fit.1
          (λ n. by_test (nat_eq n s) (λ is. omega (arith, apart n, times_here n s slots is)) (λ other. omega (arith, apart n, times_there n s slots other)))
          (λ slot some. by_test (nat_eq slot s)
          (λ is. absurd (omega (arith, apart slot, some, times_here slot s slots is)))
          (λ other. sym (ap (λ b. cond b (unwrap_or (array_of r) []) (items_at slots replies slot)) other) ∙ same slot (omega (arith, some, times_there slot s slots other)))),
    )

nothing_found : (kinds : List ErrorKind) → slice_get kinds 0 ≡ None → kinds ≡ []
nothing_found [] none = refl
nothing_found (k ∷ kinds) none = absurd (cc none)

-- If no reply is a misfit, the replies are arrays of some values.
pub merged : (ts : List KeyTuple) (slots : List ℕ) (replies : List Reply) → NamesSlots slots ts → ((n : ℕ) → times n slots ≤ 1) → length replies ≡ length slots
    → first_misfit replies (map (λ slot. length (tuples_of_slot slot ts)) slots) ≡ None → (values : List Reply) × AreMerged ts slots replies values
merged ts slots replies named apart each none =
    let fit = all_fit ts slots replies each (nothing_found (filter_map misfit (zip replies (map (count_of ts) slots))) none) in
    let all = dealt (items_at slots replies) ts (items_fit ts slots replies fit named) in
    (all.0, record { each = all.1; of_slots = arrays_at (λ slot. items_of_slot slot ts all.0) ts slots replies fit apart (λ slot some. all.2 slot) })
