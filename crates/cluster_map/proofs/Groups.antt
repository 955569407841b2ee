-- Entries grouped one at a time are the shards of the primaries.
use Rattle.std.proofs.Common.{◌≡◌, ◌<◌, ◌+◌, length, ℕ, zero, suc, Bool, true, false, not, cond, ◌||◌, List, [], ◌∷◌, ◌++◌, map, filter, fold, set, get_or, refl, sym, ap, ◌∙◌, append_assoc, arith}
use Rattle.std.specs.List.{list_any, position_or_len}
use Rattle.std.proofs.lemmas.List.{append-nil}
use Rattle.std.proofs.lemmas.List.Sums.{fold-append}
use Rattle.std.proofs.lemmas.List.Elements.{filter-append}
use Rattle.std.proofs.lemmas.Grind.{common_steps}
use Rattle.cluster_slots.specs.Address.{Address, same_address}
use Rattle.cluster_slots.proofs.Orders.{same_from_address, address_decides}
use Rattle.cluster_map.specs.SlotNodes.{SlotNodes}
use Rattle.cluster_map.specs.RangeMap.{RangeEntry}
use Rattle.cluster_map.specs.Shards.{ShardNodes}
use Rattle.cluster_map.specs.EachOnce.{entry_primary}
use Rattle.cluster_map.specs.Topology.{has_primary, first_replicas, shard_with, shard_of, shards_of}
use Rattle.cluster_map.specs.Inner.Topology.{primary_of}
use Rattle.cluster_map.proofs.Places.{cons_cond}
use Rattle.cluster_map.proofs.Members.{add_new, added_once, list_any-last}
use Rattle.resp_core.proofs.Cases.{by_test}
use Rattle.std.proofs.lemmas.Bool.{or_right, or_from}

-- a shard with a range more
abbrev pub with_range : ShardNodes → RangeEntry SlotNodes → ShardNodes
with_range s r = record { ranges = s.ranges ++ (r.0, r.1) ∷ []; primary = s.primary; replicas = s.replicas }

-- an entry goes to the shard with its primary, or makes one
abbrev pub add_range : List ShardNodes → RangeEntry SlotNodes → List ShardNodes
add_range [] r = shard_with (entry_primary r) (r ∷ []) ∷ []
add_range (s ∷ ss) r = cond (same_address (entry_primary r) s.primary) (with_range s r ∷ ss) (s ∷ add_range ss r)

-- each primary once, put in one at a time
abbrev pub primaries : List (RangeEntry SlotNodes) → List Address
primaries es = fold add_new [] (map entry_primary es)

abbrev pub primary_shards : List (RangeEntry SlotNodes) → List ShardNodes
primary_shards es = map (shard_of es) (primaries es)

pub primary_shards-are : (es : List (RangeEntry SlotNodes)) → primary_shards es ≡ shards_of es
primary_shards-are es = ap (map (shard_of es)) (added_once (map entry_primary es))

pub same_refl : (a : Address) → same_address a a ≡ true
same_refl a = (address_decides a a).1 refl

pub same_sym : (a b : Address) → same_address a b ≡ same_address b a
same_sym a b = by_test (same_address a b)
    (λ h. let e = same_from_address a b h in ap (λ z. same_address z b) e ∙ ap (same_address b) (sym e))
    (λ h. by_test (same_address b a) (λ k. let e = same_from_address b a k in ap (λ z. same_address z b) (sym e) ∙ ap (same_address b) e) (λ k. h ∙ sym k))

pub add_to_none : (ss : List ShardNodes) (r : RangeEntry SlotNodes) → list_any (same_address (entry_primary r)) (map primary_of ss) ≡ false → ss ++ shard_with (entry_primary r) (r ∷ []) ∷ [] ≡ add_range ss r
add_to_none [] r = λ h. refl
add_to_none (s ∷ ss) r = by_test (same_address (entry_primary r) s.primary)
    (λ t. rw t (λ h. cc))
    (λ t. rw t (λ h. ap (λ z. s ∷ z) (add_to_none ss r h)))

not_true : (b : Bool) → not b ≡ true → b ≡ false
not_true true h = cc
not_true false h = refl

not_false : (b : Bool) → not b ≡ false → b ≡ true
not_false true h = refl
not_false false h = cc

place_zero : (b : Bool) (n i : ℕ) → b ≡ true → i ≡ cond (not b) (1 + n) 0 → i ≡ 0
place_zero true n i h e = e
place_zero false n i h e = cc

place_suc : (b : Bool) (n i : ℕ) → b ≡ false → i ≡ cond (not b) (1 + n) 0 → i ≡ suc n
place_suc true n i h e = cc
place_suc false n i h e = omega arith

pub add_to_one : (ss : List ShardNodes) (r : RangeEntry SlotNodes) (i : ℕ) (x : ShardNodes) → list_any (same_address (entry_primary r)) (map primary_of ss) ≡ true → i ≡ position_or_len (same_address (entry_primary r)) (map primary_of ss) → x ≡ get_or ss i x → set ss i (with_range x r) ≡ add_range ss r
add_to_one [] r i x = λ h. cc
add_to_one (s ∷ ss) r i x = by_test (same_address (entry_primary r) s.primary)
    (λ t. λ h e q.
    let z : i ≡ 0 = place_zero (same_address (entry_primary r) s.primary) _ i t e in
    let xs : x ≡ s = q ∙ ap (λ j. get_or (s ∷ ss) j x) z in
    ap (λ j. set (s ∷ ss) j (with_range x r)) z ∙ ap (λ y. with_range y r ∷ ss) xs ∙ rw t refl)
    (λ t. rw t (λ h e q.
    let z : i ≡ suc (position_or_len (same_address (entry_primary r)) (map primary_of ss)) = place_suc false _ i refl e in
    ap (λ j. set (s ∷ ss) j (with_range x r)) z ∙ ap (λ y. s ∷ y) (add_to_one ss r _ x h refl (q ∙ ap (λ j. get_or (s ∷ ss) j x) z))))

pub keys_stay : (ss : List ShardNodes) (i : ℕ) (x y : ShardNodes) → x ≡ get_or ss i x → y.primary ≡ x.primary → map primary_of (set ss i y) ≡ map primary_of ss
keys_stay [] i x y q e = refl
keys_stay (s ∷ ss) zero x y q e = ap (λ a. a ∷ map primary_of ss) (e ∙ ap primary_of q)
keys_stay (s ∷ ss) (suc i) x y q e = ap (λ z. s.primary ∷ z) (keys_stay ss i x y q e)

-- the same, from what the set and the shard said
pub add_fresh : (ss us : List ShardNodes) (r : RangeEntry SlotNodes) (ks : List Address) (k : Address) (s : ShardNodes) (b : Bool) → ks ≡ map primary_of ss → k ≡ (entry_primary r) → b ≡ not (list_any (same_address k) ks) → b ≡ true → us ≡ ss ++ s ∷ [] → s ≡ shard_with (entry_primary r) (r ∷ []) → us ≡ add_range ss r
add_fresh ss us r ks k s b e q t h u w = grind (arith, add_to_none, not_true)

pub any_there : (ss : List ShardNodes) (r : RangeEntry SlotNodes) (ks : List Address) (k : Address) (b : Bool) → ks ≡ map primary_of ss → k ≡ (entry_primary r) → b ≡ not (list_any (same_address k) ks) → b ≡ false → list_any (same_address (entry_primary r)) (map primary_of ss) ≡ true
any_there ss r ks k b e q t h = grind (arith, common_steps)

pub add_known : (ss : List ShardNodes) (r : RangeEntry SlotNodes) (ks : List Address) (k : Address) (i : ℕ) (x y : ShardNodes) (b : Bool) → ks ≡ map primary_of ss → k ≡ (entry_primary r) → b ≡ not (list_any (same_address k) ks) → b ≡ false → i ≡ position_or_len (same_address k) ks → x ≡ get_or ss i x → y ≡ with_range x r → set ss i y ≡ add_range ss r
add_known ss r ks k i x y b e q t h at read w = grind (arith, set, add_to_one, any_there)

pub keys_known : (ss : List ShardNodes) (r : RangeEntry SlotNodes) (ks ms : List Address) (k : Address) (i : ℕ) (x y : ShardNodes) (b : Bool) → ks ≡ map primary_of ss → b ≡ not (list_any (same_address k) ks) → b ≡ false → ms ≡ cond (list_any (same_address k) ks) ks (ks ++ k ∷ []) → x ≡ get_or ss i x → y ≡ with_range x r → ms ≡ map primary_of (set ss i y)
keys_known ss r ks ms k i x y b e t h m read w = grind (arith, not_false, keys_stay)

any_within : (ss : List ShardNodes) (k : Address) → list_any (same_address k) (map primary_of ss) ≡ true → position_or_len (same_address k) (map primary_of ss) < length ss
any_within [] k = λ h. cc
any_within (s ∷ ss) k = by_test (same_address k s.primary)
    (λ t. rw t (λ h. omega arith))
    (λ t. rw t (λ h. let rest = any_within ss k h in omega (arith, rest)))

pub place_within : (ss : List ShardNodes) (ks : List Address) (k : Address) (i : ℕ) (b : Bool) → ks ≡ map primary_of ss → b ≡ not (list_any (same_address k) ks) → b ≡ false → i ≡ position_or_len (same_address k) ks → i < length ss
place_within ss ks k i b e t h at = grind (arith, not_false, any_within)

map-append-one : {X Y : Type 0} (f : X → Y) (xs : List X) (x : X) → map f (xs ++ x ∷ []) ≡ map f xs ++ f x ∷ []
map-append-one f [] x = refl
map-append-one f (y ∷ ys) x = ap (λ z. f y ∷ z) (map-append-one f ys x)

filter_none : {X : Type 0} (p : X → Bool) (xs : List X) → list_any p xs ≡ false → filter p xs ≡ []
filter_none p [] = λ h. refl
filter_none p (x ∷ xs) = by_test (p x) (λ k. rw k (λ h. cc)) (λ k. rw k (λ h. filter_none p xs h))

first_stays : (p : RangeEntry SlotNodes → Bool) (rs : List (RangeEntry SlotNodes)) (r : RangeEntry SlotNodes) → list_any p rs ≡ true → first_replicas (filter p rs ++ r ∷ []) ≡ first_replicas (filter p rs)
first_stays p [] r = λ h. cc
first_stays p (x ∷ xs) r = by_test (p x) (λ k. rw k (λ h. refl)) (λ k. rw k (λ h. first_stays p xs r h))

filter_last : (k : Address) (rs : List (RangeEntry SlotNodes)) (r : RangeEntry SlotNodes) → has_primary k r ≡ true → filter (has_primary k) (rs ++ r ∷ []) ≡ filter (has_primary k) rs ++ r ∷ []
filter_last k rs r h = filter-append (has_primary k) rs (r ∷ []) ∙ rw h refl

filter_skip : (k : Address) (rs : List (RangeEntry SlotNodes)) (r : RangeEntry SlotNodes) → has_primary k r ≡ false → filter (has_primary k) (rs ++ r ∷ []) ≡ filter (has_primary k) rs
filter_skip k rs r h = filter-append (has_primary k) rs (r ∷ []) ∙ rw h (append-nil (filter (has_primary k) rs))

-- one range more
shard_more : (k : Address) (rs : List (RangeEntry SlotNodes)) (r : RangeEntry SlotNodes) → has_primary k r ≡ true → list_any (has_primary k) rs ≡ true → with_range (shard_of rs k) r ≡ shard_of (rs ++ r ∷ []) k
shard_more k rs r h a = grind (arith, filter_last, map-append-one, first_stays)

shard_other : (k : Address) (rs : List (RangeEntry SlotNodes)) (r : RangeEntry SlotNodes) → has_primary k r ≡ false → shard_of rs k ≡ shard_of (rs ++ r ∷ []) k
shard_other k rs r h = ap (shard_with k) (sym (filter_skip k rs r h))

shard_new : (k : Address) (rs : List (RangeEntry SlotNodes)) (r : RangeEntry SlotNodes) → has_primary k r ≡ true → list_any (has_primary k) rs ≡ false → shard_with k (r ∷ []) ≡ shard_of (rs ++ r ∷ []) k
shard_new k rs r h a = ap (shard_with k) (sym (filter_last k rs r h ∙ ap (λ z. z ++ r ∷ []) (filter_none (has_primary k) rs a)))

-- the primaries are apart, each has a range, and no range has another
abbrev pub Distinct : List Address → Type 0
Distinct [] = Unit {0}
Distinct (k ∷ ks) = (list_any (same_address k) ks ≡ false) × Distinct ks

abbrev AllHave : List (RangeEntry SlotNodes) → List Address → Type 0
AllHave rs [] = Unit {0}
AllHave rs (k ∷ ks) = (list_any (has_primary k) rs ≡ true) × AllHave rs ks

record Good (rs : List (RangeEntry SlotNodes)) (ks : List Address) : Type 0 where
  pub distinct : Distinct ks
  pub have : AllHave rs ks
  pub covers : (p : Address) → list_any (same_address p) ks ≡ false → list_any (has_primary p) rs ≡ false

others_stay : (ks : List Address) (rs : List (RangeEntry SlotNodes)) (r : RangeEntry SlotNodes) → list_any (same_address (entry_primary r)) ks ≡ false → map (shard_of rs) ks ≡ map (shard_of (rs ++ r ∷ [])) ks
others_stay [] rs r = λ h. refl
others_stay (k ∷ ks) rs r = by_test (same_address (entry_primary r) k)
    (λ t. rw t (λ h. cc))
    (λ t. rw t (λ h. ap (λ z. z ∷ map (shard_of rs) ks) (shard_other k rs r (same_sym k (entry_primary r) ∙ t)) ∙ ap (λ z. shard_of (rs ++ r ∷ []) k ∷ z) (others_stay ks rs r h)))

step_at : (ks : List Address) (rs : List (RangeEntry SlotNodes)) (r : RangeEntry SlotNodes) → Distinct ks → AllHave rs ks → (list_any (same_address (entry_primary r)) ks ≡ false → list_any (has_primary (entry_primary r)) rs ≡ false) → add_range (map (shard_of rs) ks) r ≡ map (shard_of (rs ++ r ∷ [])) (add_new ks (entry_primary r))
step_at [] rs r d a = λ v. ap (λ z. z ∷ []) (shard_new (entry_primary r) rs r (same_refl (entry_primary r)) (v refl))
step_at (k ∷ ks) rs r d a = by_test (same_address (entry_primary r) k)
    (λ t. rw t (λ v.
    let e : (entry_primary r) ≡ k = same_from_address (entry_primary r) k t in
    let apart : list_any (same_address (entry_primary r)) ks ≡ false = ap (λ z. list_any (same_address z) ks) e ∙ d.0 in
    ap (λ z. z ∷ map (shard_of rs) ks) (shard_more k rs r (same_sym k (entry_primary r) ∙ t) a.0) ∙ ap (λ z. shard_of (rs ++ r ∷ []) k ∷ z) (others_stay ks rs r apart)))
    (λ t. rw t (λ v.
    ap (λ z. z ∷ add_range (map (shard_of rs) ks) r) (shard_other k rs r (same_sym k (entry_primary r) ∙ t))
    ∙ ap (λ z. shard_of (rs ++ r ∷ []) k ∷ z) (step_at ks rs r d.1 a.1 v)
    ∙ ap (map (shard_of (rs ++ r ∷ []))) (cons_cond (list_any (same_address (entry_primary r)) ks) k ks (ks ++ (entry_primary r) ∷ []))))

apart_last : (ks : List Address) (k p : Address) → list_any (same_address k) ks ≡ false → same_address k p ≡ false → list_any (same_address k) (ks ++ p ∷ []) ≡ false
apart_last ks k p a h = list_any-last (same_address k) ks p ∙ or_from _ _ a h

distinct_cond : (b : Bool) (k p : Address) (ks : List Address) → Distinct (k ∷ ks) → same_address k p ≡ false → Distinct (cond b ks (ks ++ p ∷ [])) → Distinct (cond b (k ∷ ks) (k ∷ (ks ++ p ∷ [])))
distinct_cond true k p ks d h e = d
distinct_cond false k p ks d h e = (apart_last ks k p d.0 h, e)

distinct_new : (ks : List Address) (p : Address) → Distinct ks → Distinct (add_new ks p)
distinct_new [] p d = (refl, tt)
distinct_new (k ∷ ks) p d = grind (arith, by_test, distinct_cond, same_sym, distinct_new ks p d.1)

have_more : (ks : List Address) (rs : List (RangeEntry SlotNodes)) (r : RangeEntry SlotNodes) → AllHave rs ks → AllHave (rs ++ r ∷ []) ks
have_more [] rs r a = tt
have_more (k ∷ ks) rs r a = ((list_any-last (has_primary k) rs r ∙ ap (λ b. b || has_primary k r) a.0), have_more ks rs r a.1)

have_last : (ks : List Address) (rs : List (RangeEntry SlotNodes)) (p : Address) → AllHave rs ks → list_any (has_primary p) rs ≡ true → AllHave rs (ks ++ p ∷ [])
have_last [] rs p a h = (h, tt)
have_last (k ∷ ks) rs p a h = (a.0, have_last ks rs p a.1 h)

have_cond : (b : Bool) (ks : List Address) (rs : List (RangeEntry SlotNodes)) (r : RangeEntry SlotNodes) → AllHave rs ks → AllHave (rs ++ r ∷ []) (cond b ks (ks ++ (entry_primary r) ∷ []))
have_cond true ks rs r a = have_more ks rs r a
have_cond false ks rs r a = have_last ks (rs ++ r ∷ []) (entry_primary r) (have_more ks rs r a) (list_any-last (has_primary (entry_primary r)) rs r ∙ or_right _ _ (same_refl (entry_primary r)))

none_left : (a b : Bool) → (a || b) ≡ false → a ≡ false
none_left true b h = cc
none_left false b h = refl

none_right : (a b : Bool) → (a || b) ≡ false → b ≡ false
none_right true b h = cc
none_right false b h = h

covers_new : (ks : List Address) (rs : List (RangeEntry SlotNodes)) (r : RangeEntry SlotNodes) → ((p : Address) → list_any (same_address p) ks ≡ false → list_any (has_primary p) rs ≡ false) → (p : Address) → list_any (same_address p) (add_new ks (entry_primary r)) ≡ false → list_any (has_primary p) (rs ++ r ∷ []) ≡ false
covers_new ks rs r v p = by_test (list_any (same_address (entry_primary r)) ks)
    (λ t. rw t (λ h. list_any-last (has_primary p) rs r ∙ or_from _ _ (v p h)
    (by_test (same_address p (entry_primary r)) (λ s. let e = same_from_address p (entry_primary r) s in let q : true ≡ false = sym t ∙ ap (λ z. list_any (same_address z) ks) (sym e) ∙ h in cc) (λ s. s))))
    (λ t. rw t (λ h.
    let s : (list_any (same_address p) ks || same_address p (entry_primary r)) ≡ false = sym (list_any-last (same_address p) ks (entry_primary r)) ∙ h in
    list_any-last (has_primary p) rs r ∙ or_from _ _ (v p (none_left _ _ s)) (none_right _ _ s)))

good_more : (rs : List (RangeEntry SlotNodes)) (r : RangeEntry SlotNodes) (ks : List Address) → Good rs ks → Good (rs ++ r ∷ []) (add_new ks (entry_primary r))
good_more rs r ks g = record { distinct = distinct_new ks (entry_primary r) g.distinct; have = have_cond (list_any (same_address (entry_primary r)) ks) ks rs r g.have; covers = covers_new ks rs r g.covers }

primaries_more : (rs : List (RangeEntry SlotNodes)) (r : RangeEntry SlotNodes) → primaries (rs ++ r ∷ []) ≡ add_new (primaries rs) (entry_primary r)
primaries_more rs r = ap (fold add_new []) (map-append-one entry_primary rs r) ∙ fold-append add_new [] (map entry_primary rs) (entry_primary r ∷ [])

good_from : (done rest : List (RangeEntry SlotNodes)) → Good done (primaries done) → Good (done ++ rest) (primaries (done ++ rest))
good_from done [] g = rw (append-nil done) g
good_from done (r ∷ rest) g =
    let h = good_from (done ++ r ∷ []) rest (rw (primaries_more done r) (good_more done r (primaries done) g)) in
    rw append_assoc at h

pub primaries_cover : (rs : List (RangeEntry SlotNodes)) (p : Address) → list_any (same_address p) (primaries rs) ≡ false → list_any (has_primary p) rs ≡ false
primaries_cover rs = let g = good_from [] rs (record { distinct = tt; have = tt; covers = λ p h. refl }) in g.covers

pub primaries-distinct : (rs : List (RangeEntry SlotNodes)) → Distinct (primaries rs)
primaries-distinct rs = let g = good_from [] rs (record { distinct = tt; have = tt; covers = λ p h. refl }) in g.distinct

-- one entry more
pub add_range-is : (es : List (RangeEntry SlotNodes)) (e : RangeEntry SlotNodes) → add_range (shards_of es) e ≡ shards_of (es ++ e ∷ [])
add_range-is es e =
    let g = good_from [] es (record { distinct = tt; have = tt; covers = λ p h. refl }) in
    ap (λ z. add_range z e) (sym (primary_shards-are es))
    ∙ step_at (primaries es) es e g.distinct g.have (g.covers (entry_primary e))
    ∙ ap (map (shard_of (es ++ e ∷ []))) (sym (primaries_more es e))
    ∙ primary_shards-are (es ++ e ∷ [])
