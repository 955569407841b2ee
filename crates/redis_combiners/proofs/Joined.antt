-- Pairs of one key side by side that are made one.
use Rattle.std.proofs.Common.{◌≡◌, ◌<◌, ◌^◌, ℕ, ℤ, ◌+ℤ◌, List, [], ◌∷◌, length, map, Bool, true, false, cond, Option, Some, None, refl, ap, sym, subst, arith}
use Rattle.std.proofs.lemmas.Grind.{common_steps}
use Rattle.std.specs.declared.cmp.Ordering.TheVariants.{Less}
use Rattle.std.specs.Cmp.Lexicographic.{nat_list_cmp_total}
use Rattle.std.specs.List.{AllByRecursion}
use Rattle.std.specs.List.Sorted.{IsPermutation, IsSortedByKey, IsStrictlySortedBy}
use Rattle.std.specs.Str.{bytes_eq}
use Rattle.std.proofs.lemmas.Int.{ints}
use Rattle.std.proofs.lemmas.Slice.Eq.{bytes_eq-Decides}
use Rattle.std.specs.Prelude.{IfSome, option_map}
use Rattle.resp_core.specs.Reply.{Reply, pairs, pairs_of}
use Rattle.cluster_slots.specs.Lists.{all_some}
use Rattle.resp_core.proofs.Cases.{by_test}
use Rattle.redis_combiners.specs.Entries.{joined, joined_after}
use Rattle.redis_combiners.specs.KeyNumbers.{KeyNumber, all_pairs}
use Rattle.redis_combiners.specs.Totals.{total_at, reply_pair, combined_map}
use Rattle.redis_combiners.proofs.ByKey.{key_of, order, Chain, chain, less_from, all_moved}
use Rattle.redis_combiners.proofs.Totals.{or_zero, sum_at, combined_map_is}

sum_step : (b : Bool) (t n : ℤ) (s : Option ℤ) → cond b (Some ((t +ℤ n) +ℤ or_zero s)) s ≡ cond b (Some (t +ℤ or_zero (cond b (Some (n +ℤ or_zero s)) s))) (cond b (Some (n +ℤ or_zero s)) s)
sum_step true t n s = ap Some (omega (arith, ints))
sum_step false t n s = refl

sum_after : (q k : List ℕ) (t : ℤ) (ps : List KeyNumber) → sum_at q (joined_after k t ps) ≡ sum_at q ((k, t) ∷ ps)
sum_after q k t [] = refl
sum_after q k t (p ∷ ps) = grind (arith, common_steps, by_test, sum_step, bytes_eq-Decides, sum_after q k (t +ℤ p.1) ps, sum_after q p.0 p.1 ps)

-- each key has the same total
pub sum_joined : (q : List ℕ) (ps : List KeyNumber) → sum_at q (joined ps) ≡ sum_at q ps
sum_joined q [] = refl
sum_joined q (p ∷ ps) = sum_after q p.0 p.1 ps

abbrev keys_after : List ℕ → ℤ → List KeyNumber → List (List ℕ)
keys_after k t es = map (λ pair. pair.0) (joined_after k t es)

-- a key that follows another, as an equal one or a greater one
abbrev AtKey : (List (List ℕ) → Type 0) → List ℕ → ℤ → KeyNumber → List KeyNumber → Bool → Type 0
AtKey P k t e es b = P (map (λ pair. pair.0) (cond b (joined_after k (t +ℤ e.1) es) ((k, t) ∷ joined_after (key_of e) e.1 es)))

above : (j k : List ℕ) (t : ℤ) (es : List KeyNumber) → order j k ≡ Less → Chain (Some k) es → AllByRecursion (λ y. order j y ≡ Less) (keys_after k t es)
above j k t [] less up = (less, tt)
above j k t (e ∷ es) less up = by_test (bytes_eq (key_of e) k)
    (λ same. subst (AtKey (AllByRecursion (λ y. order j y ≡ Less)) k t e es) (sym same)
    (above j k (t +ℤ e.1) es less (subst (λ z. Chain (Some z) es) ((bytes_eq-Decides (key_of e) k).0 same) up.1)))
    (λ apart. subst (AtKey (AllByRecursion (λ y. order j y ≡ Less)) k t e es) (sym apart)
    (less, above j (key_of e) e.1 es (nat_list_cmp_total.trans j k (key_of e) less (less_from k (key_of e) up.0 apart)) up.1))

strictly_after : (k : List ℕ) (t : ℤ) (es : List KeyNumber) → Chain (Some k) es → IsStrictlySortedBy order (keys_after k t es)
unfolding IsStrictlySortedBy
strictly_after k t [] up = (tt, tt)
strictly_after k t (e ∷ es) up = by_test (bytes_eq (key_of e) k)
    (λ same. subst (AtKey (IsStrictlySortedBy order) k t e es) (sym same)
    (strictly_after k (t +ℤ e.1) es (subst (λ z. Chain (Some z) es) ((bytes_eq-Decides (key_of e) k).0 same) up.1)))
    (λ apart. subst (AtKey (IsStrictlySortedBy order) k t e es) (sym apart)
    (above k (key_of e) e.1 es (less_from k (key_of e) up.0 apart) up.1, strictly_after (key_of e) e.1 es up.1))

strictly_joined : (es : List KeyNumber) → IsSortedByKey key_of order es → IsStrictlySortedBy order (map (λ pair. pair.0) (joined es))
unfolding IsStrictlySortedBy
strictly_joined [] up = tt
strictly_joined (e ∷ es) up = strictly_after (key_of e) e.1 es (chain (e ∷ es) up).1

-- what the totals in order make is what the replies make
pub combined_from : (rs : List Reply) (es fs : List KeyNumber) (made : Option (List (Reply × Reply))) → IfSome (all_pairs rs) (λ ps. length ps < 2 ^ 63) → ((q : List ℕ) → Some (total_at q es) ≡ option_map (total_at q) (all_pairs rs))
    → IsPermutation es fs → IsSortedByKey key_of order fs → made ≡ all_some (map reply_pair (joined fs)) → combined_map rs ≡ option_map (λ l. pairs (pairs_of l)) made
combined_from rs es fs made few same moves up is = of_pairs (all_pairs rs) refl few same
  where
    of_pairs : (o : Option (List KeyNumber)) → all_pairs rs ≡ o → IfSome o (λ ps. length ps < 2 ^ 63) → ((q : List ℕ) → Some (total_at q es) ≡ option_map (total_at q) o) → combined_map rs ≡ option_map (λ l. pairs (pairs_of l)) made
    of_pairs None all few same = absurd (let no = same [] in cc)
    of_pairs (Some ps) all few same = grind (arith, common_steps, combined_map_is, strictly_joined, sum_joined, all_moved)
