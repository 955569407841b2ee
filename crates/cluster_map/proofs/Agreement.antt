-- A map and its topology agree.
use Rattle.std.proofs.Common.{◌≡◌, ◌<◌, ◌≤◌, ◌+◌, ℕ, suc, All, Bool, true, false, cond, nat_eq, List, [], ◌∷◌, ◌++◌, length, map, filter, slice_get, Option, Some, None, option_map, option_and_then, refl, sym, ap, ◌∙◌, append_assoc, arith}
use Rattle.std.proofs.lemmas.Bool.Decides.{nat_tests}
use Rattle.std.proofs.lemmas.List.Elements.{All-contains, filter-append}
use Rattle.std.proofs.lemmas.Option.{slice_get-map}
use Rattle.std.specs.List.{list_any}
use Rattle.std.specs.Prelude.{option_to_list}
use Rattle.std.proofs.lemmas.Grind.{common_steps}
use Rattle.cluster_slots.specs.Address.{Address, same_address}
use Rattle.cluster_slots.proofs.Orders.{same_from_address}
use Rattle.cluster_map.specs.SlotNodes.{SlotNodes}
use Rattle.cluster_map.specs.RangeMap.{RangeEntry, EndsAfter, Ascends, IsUncovered, end_of, insert_entries}
use Rattle.cluster_map.specs.Shards.{ShardNodes}
use Rattle.cluster_map.specs.EachOnce.{entry_primary}
use Rattle.cluster_map.specs.Topology.{Topology, IsShardAt, has_primary, range_of_entry, shard_of, shards_of, place_entry, place_entries, topology_of, Agrees}
use Rattle.cluster_map.specs.Inner.Topology.{primary_of}
use Rattle.cluster_map.proofs.Groups.{primaries, primary_shards, primary_shards-are, primaries_cover, same_refl, same_sym}
use Rattle.cluster_map.proofs.Inserts.{insert_steps, insert_steps-is, answer, answer-some, answer-is, by_option, with_value, with_value-insert_steps, with_value-answer}
use Rattle.resp_core.proofs.Cases.{by_test}
use Rattle.cluster_map.proofs.Finds.{find, last_of, ends_with, same_ranges, Ascends-insert_entries, find-insert_entries}
use Rattle.cluster_map.proofs.Ranges.{EndsAfter-smaller}

Ascends-insert_steps : {V : Type 0} (es more : List (RangeEntry V)) → Ascends es → Ascends (insert_steps es more)
Ascends-insert_steps es more ascends = rw (← insert_steps-is es more ascends) (Ascends-insert_entries es more ascends)

find-insert_steps : {V : Type 0} (e : ℕ) (more : List (RangeEntry V)) → find e (insert_steps [] more) ≡ last_of None (filter (ends_with e) more)
find-insert_steps e more = ap (find e) (sym (insert_steps-is [] more tt)) ∙ find-insert_entries e [] more tt

-- the ranges of shards, with their primaries in place of the places
abbrev with_key : Address → ℕ × ℕ → RangeEntry (Option Address)
with_key p b = (b.0, b.1, Some p)

abbrev shard_entries : List ShardNodes → List (RangeEntry (Option Address))
shard_entries [] = []
shard_entries (s ∷ ss) = map (with_key s.primary) s.ranges ++ shard_entries ss

got_there : {X : Type 0} (pre : List X) (x : X) (xs : List X) → slice_get (pre ++ x ∷ xs) (length pre) ≡ Some x
got_there [] x xs = refl
got_there (p ∷ ps) x xs = got_there ps x xs

tags_are : (g : ℕ → Option Address) (n : ℕ) (p : Address) (bs : List (ℕ × ℕ)) → g n ≡ Some p → map (with_value g) (map (place_entry n) bs) ≡ map (with_key p) bs
tags_are g n p [] h = refl
tags_are g n p (b ∷ bs) h = rw (h, tags_are g n p bs h) refl

map-both : {X Y : Type 0} (f : X → Y) (xs ys : List X) → map f (xs ++ ys) ≡ map f xs ++ map f ys
map-both f [] ys = refl
map-both f (x ∷ xs) ys = ap (λ z. f x ∷ z) (map-both f xs ys)

length_last : {X : Type 0} (xs : List X) (x : X) → length (xs ++ x ∷ []) ≡ length xs + 1
length_last [] x = refl
length_last (y ∷ ys) x = let h = length_last ys x in omega arith

shard_entries_are : (pre ps : List Address) (n : ℕ) (ss : List ShardNodes) → n ≡ length pre → ps ≡ pre ++ map primary_of ss → map (with_value (slice_get ps)) (place_entries n ss) ≡ shard_entries ss
shard_entries_are pre ps n [] e q = refl
shard_entries_are pre ps n (s ∷ ss) e q =
    let at : slice_get ps n ≡ Some s.primary = ap (λ z. slice_get z n) q ∙ ap (slice_get (pre ++ s.primary ∷ map primary_of ss)) e ∙ got_there pre s.primary (map primary_of ss) in
    let m : suc n ≡ length (pre ++ s.primary ∷ []) = omega (arith, length_last pre s.primary) in
    let w : ps ≡ (pre ++ s.primary ∷ []) ++ map primary_of ss = q ∙ sym (append_assoc pre (s.primary ∷ []) (map primary_of ss)) in
    map-both (with_value (slice_get ps)) (map (place_entry n) s.ranges) (place_entries (suc n) ss)
    ∙ ap (λ z. z ++ map (with_value (slice_get ps)) (place_entries (suc n) ss)) (tags_are (slice_get ps) n s.primary s.ranges at)
    ∙ ap (λ z. map (with_key s.primary) s.ranges ++ z) (shard_entries_are (pre ++ s.primary ∷ []) ps (suc n) ss m w)

-- at an end, the ranges of one primary
abbrev part : Address → List (RangeEntry SlotNodes) → List (RangeEntry (Option Address))
part k rs = map (with_key k) (map range_of_entry (filter (has_primary k) rs))

part_ends : (e : ℕ) (k : Address) (rs : List (RangeEntry SlotNodes)) → filter (ends_with e) (part k rs) ≡ part k (filter (ends_with e) rs)
part_ends e k [] = refl
part_ends e k (r ∷ rs) = grind (arith, common_steps, part_ends e k rs)

none_ends : {V : Type 0} (e : ℕ) (rs : List (RangeEntry V)) → EndsAfter e rs → Ascends rs → filter (ends_with e) rs ≡ []
none_ends e [] s up = refl
none_ends e (r ∷ rs) s up = let m : nat_eq r.1 e ≡ false = grind (arith, nat_tests) in rw m (none_ends e rs (EndsAfter-smaller e r.1 rs s up.0) up.1)

one_ends : {V : Type 0} (e : ℕ) (rs : List (RangeEntry V)) → Ascends rs → filter (ends_with e) rs ≡ option_to_list (find e rs)
one_ends e [] up = refl
one_ends e (r ∷ rs) up = grind (arith, by_test, nat_tests, none_ends, one_ends e rs up.1)

last_of-append : {X : Type 0} (o : Option X) (xs ys : List X) → last_of o (xs ++ ys) ≡ last_of (last_of o xs) ys
last_of-append o [] ys = refl
last_of-append o (x ∷ xs) ys = last_of-append (Some x) xs ys

-- at an end that no range has
last_none : (e : ℕ) (rs : List (RangeEntry SlotNodes)) → filter (ends_with e) rs ≡ [] → (ks : List Address) (o : Option (RangeEntry (Option Address))) → last_of o (filter (ends_with e) (shard_entries (map (shard_of rs) ks))) ≡ o
last_none e rs h [] o = refl
last_none e rs h (k ∷ ks) o = grind (arith, last_of, filter-append, ends_with, part_ends, last_none e rs h ks o)

same_cond : {X : Type 0} (b : Bool) (x : X) → cond b x x ≡ x
same_cond true x = refl
same_cond false x = refl

abbrev pub with_primary : RangeEntry SlotNodes → RangeEntry (Option Address)
with_primary r = with_value (λ n. Some n.primary) r

-- at an end that r has
last_one : (e : ℕ) (rs : List (RangeEntry SlotNodes)) (r : RangeEntry SlotNodes) → filter (ends_with e) rs ≡ r ∷ [] → (ks : List Address) (o : Option (RangeEntry (Option Address))) → last_of o (filter (ends_with e) (shard_entries (map (shard_of rs) ks))) ≡ cond (list_any (same_address (entry_primary r)) ks) (Some (with_primary r)) o
last_one e rs r h [] o = refl
last_one e rs r h (k ∷ ks) o =
    ap (last_of o) (filter-append (ends_with e) (part k rs) (shard_entries (map (shard_of rs) ks)))
    ∙ ap (λ z. last_of o (z ++ filter (ends_with e) (shard_entries (map (shard_of rs) ks)))) (part_ends e k rs ∙ ap (part k) h)
    ∙ last_of-append o (part k (r ∷ [])) (filter (ends_with e) (shard_entries (map (shard_of rs) ks)))
    ∙ last_one e rs r h ks (last_of o (part k (r ∷ [])))
    ∙ by_test (same_address (entry_primary r) k)
    (λ t. let q : same_address k (entry_primary r) ≡ true = same_sym k (entry_primary r) ∙ t in
    let w : Some (r.0, r.1, Some k) ≡ Some (with_primary r) = ap (λ z. Some (r.0, r.1, Some z)) (sym (same_from_address (entry_primary r) k t)) in
    rw (t, q) (ap (λ z. cond (list_any (same_address (entry_primary r)) ks) (Some (with_primary r)) z) w ∙ same_cond (list_any (same_address (entry_primary r)) ks) (Some (with_primary r))))
    (λ t. let q : same_address k (entry_primary r) ≡ false = same_sym k (entry_primary r) ∙ t in rw (t, q) refl)

find-with_primary : (e : ℕ) (rs : List (RangeEntry SlotNodes)) → find e (map with_primary rs) ≡ option_map with_primary (find e rs)
find-with_primary e [] = refl
find-with_primary e (r ∷ rs) = by_test (nat_eq r.1 e) (λ h. rw h refl) (λ h. rw h (find-with_primary e rs))

there : (e : ℕ) (rs : List (RangeEntry SlotNodes)) (r : RangeEntry SlotNodes) (q : RangeEntry SlotNodes → Bool) → find e rs ≡ Some r → list_any q rs ≡ false → q r ≡ false
there e [] r q = λ h k. cc
there e (x ∷ xs) r q = by_test (q x)
    (λ t. rw t (λ h k. cc))
    (λ t. rw t (by_test (nat_eq x.1 e)
    (λ s. rw s (λ h k. let i : x ≡ r = cc in ap q (sym i) ∙ t))
    (λ s. rw s (λ h k. there e xs r q h k))))

primary_is_listed : (e : ℕ) (rs : List (RangeEntry SlotNodes)) (r : RangeEntry SlotNodes) → find e rs ≡ Some r → list_any (same_address (entry_primary r)) (primaries rs) ≡ true
primary_is_listed e rs r h = by_test (list_any (same_address (entry_primary r)) (primaries rs)) (λ t. t)
    (λ t. let f : has_primary (entry_primary r) r ≡ false = there e rs r (has_primary (entry_primary r)) h (primaries_cover rs (entry_primary r) t) in
    let k : true ≡ false = sym (same_refl (entry_primary r)) ∙ f in cc)

look : (rs : List (RangeEntry SlotNodes)) → Ascends rs → (e : ℕ) → find e (insert_steps [] (shard_entries (primary_shards rs))) ≡ find e (map with_primary rs)
look rs up e = grind (arith, common_steps, find-insert_steps, by_option, last_none, one_ends, find-with_primary, last_one, primary_is_listed)

EndsAfter-with_primary : (e : ℕ) (rs : List (RangeEntry SlotNodes)) → EndsAfter e rs → EndsAfter e (map with_primary rs)
EndsAfter-with_primary e [] h = tt
EndsAfter-with_primary e (r ∷ rs) h = h

Ascends-with_primary : (rs : List (RangeEntry SlotNodes)) → Ascends rs → Ascends (map with_primary rs)
Ascends-with_primary [] up = tt
Ascends-with_primary (r ∷ rs) up = (EndsAfter-with_primary r.1 rs up.0, Ascends-with_primary rs up.1)

-- the primary of an element by its place
flat : (ss : List ShardNodes) (a : Option ℕ) (b : Option SlotNodes) → option_map (slice_get (map primary_of ss)) a ≡ option_map (λ n. Some n.primary) b → option_map primary_of (option_and_then (slice_get ss) a) ≡ option_map (λ n. n.primary) b
flat ss a b h1 = grind (arith, slice_get-map)

-- the ranges of the shards are those of the map, each with its primary
pub resolved : (rs : List (RangeEntry SlotNodes)) → Ascends rs → map (with_value (slice_get (map primary_of (shards_of rs)))) (insert_steps [] (place_entries 0 (shards_of rs))) ≡ map with_primary rs
resolved rs up =
    let ss = shards_of rs in
    let ps = map primary_of ss in
    let looked : (e : ℕ) → find e (insert_steps [] (shard_entries ss)) ≡ find e (map with_primary rs) = λ e. ap (λ z. find e (insert_steps [] (shard_entries z))) (sym (primary_shards-are rs)) ∙ look rs up e in
    with_value-insert_steps (slice_get ps) [] (place_entries 0 ss) ∙ ap (insert_steps []) (shard_entries_are [] ps 0 ss refl refl)
    ∙ same_ranges _ _ (Ascends-insert_steps [] (shard_entries ss) tt) (Ascends-with_primary rs up) looked

-- at each number the shard's primary is the map's, or there is neither
same_answers : (rs : List (RangeEntry SlotNodes)) → Ascends rs → (slot : ℕ) → option_map primary_of (option_and_then (slice_get (shards_of rs)) (answer (insert_entries [] (place_entries 0 (shards_of rs))) slot)) ≡ option_map (λ (n : SlotNodes). n.primary) (answer rs slot)
same_answers rs up slot =
    let ss = shards_of rs in
    let ps = map primary_of ss in
    let ranges = insert_steps [] (place_entries 0 ss) in
    ap (λ z. option_map primary_of (option_and_then (slice_get ss) (answer z slot))) (insert_steps-is [] (place_entries 0 ss) tt)
    ∙ flat ss (answer ranges slot) (answer rs slot)
    (sym (with_value-answer (slice_get ps) ranges slot) ∙ ap (λ z. answer z slot) (resolved rs up) ∙ with_value-answer (λ n. Some n.primary) rs slot)

pub agrees : (rs : List (RangeEntry SlotNodes)) → Ascends rs → Agrees rs (topology_of (shards_of rs))
agrees rs up slot address =
    let ss = shards_of rs in
    let ranges = insert_entries [] (place_entries 0 ss) in
    let rising : Ascends ranges = Ascends-insert_entries [] (place_entries 0 ss) tt in
    let same = same_answers rs up slot in (
      (λ (nodes, answers, is).
          let found = answer-is rs slot nodes up answers in
          by_option (answer ranges slot)
          (λ none. let no : None ≡ Some nodes.primary = sym (ap (λ z. option_map primary_of (option_and_then (slice_get ss) z)) none) ∙ same ∙ ap (option_map (λ (n : SlotNodes). n.primary)) found in cc)
          (λ place at. by_option (slice_get ss place)
          (λ none. let no : None ≡ Some nodes.primary = sym (ap (λ z. option_map primary_of (option_and_then (slice_get ss) z)) at ∙ ap (option_map primary_of) none) ∙ same ∙ ap (option_map (λ (n : SlotNodes). n.primary)) found in cc)
          (λ shard got.
          let yes : Some shard.primary ≡ Some nodes.primary = sym (ap (λ z. option_map primary_of (option_and_then (slice_get ss) z)) at ∙ ap (option_map primary_of) got) ∙ same ∙ ap (option_map (λ (n : SlotNodes). n.primary)) found in
          let one : shard.primary ≡ nodes.primary = cc in
          (shard, (place, answer-some ranges slot place rising at, got), one ∙ sym is)))),
      (λ (shard, (place, answers, got), is).
          let found = answer-is ranges slot place rising answers in
          let there : Some shard.primary ≡ option_map (λ (n : SlotNodes). n.primary) (answer rs slot) = sym (ap (λ z. option_map primary_of (option_and_then (slice_get ss) z)) found ∙ ap (option_map primary_of) got) ∙ same in
          by_option (answer rs slot)
          (λ none. let no : Some shard.primary ≡ None = there ∙ ap (option_map (λ (n : SlotNodes). n.primary)) none in cc)
          (λ nodes at.
          let yes : Some shard.primary ≡ Some nodes.primary = there ∙ ap (option_map (λ (n : SlotNodes). n.primary)) at in
          let one : shard.primary ≡ nodes.primary = cc in
          (nodes, answer-some rs slot nodes up at, sym is ∙ one))),
    )

-- past all ends, neither entries nor a topology that agrees with them have an answer
pub none_past : (es : List (RangeEntry SlotNodes)) → All (λ (e : RangeEntry SlotNodes). end_of e < 65536) es → (t : Topology) → Agrees es t → (slot : ℕ) → 65536 ≤ slot → IsUncovered es slot × ((s : ShardNodes) → ¬ (IsShardAt t slot s))
none_past es below t same slot past =
    let uncovered : IsUncovered es slot = λ value answer.
    let small : answer.end < 65536 = All-contains (λ (e : RangeEntry SlotNodes). end_of e < 65536) es (answer.start, answer.end, value) below answer.there in
    absurd (omega (arith, answer.before_end)) in
    (uncovered, λ s there. let found = (same slot s.primary).1 (s, there, refl) in uncovered found.0 found.1)
