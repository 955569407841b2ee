-- The total of each key, as the sum of its numbers.
use Rattle.std.proofs.Common.{◌≡◌, Ordering, length, ℕ, ◌^◌, ◌<◌, ℤ, pos, ◌+ℤ◌, List, [], ◌∷◌, Bool, true, false, cond, Option, Some, None, refl, ap, sym, subst, ◌∙◌, arith, map, get_or, fold}
use Rattle.std.proofs.lemmas.Grind.{common_steps}
use Rattle.std.specs.Prelude.{option_map, unwrap_or, is_some, ◌&&◌, ◌||◌, T}
use Rattle.std.specs.Ordering.{is_eq, is_lt, nat_cmp}
use Rattle.std.specs.declared.cmp.Ordering.TheVariants.{Less}
use Rattle.std.specs.Cmp.Lexicographic.{slice_cmp, nat_list_cmp_total, nat_list_eq_equiv}
use Rattle.std.specs.List.{AllByRecursion, list_any}
use Rattle.std.specs.List.Sorted.{IsStrictlySortedBy}
use Rattle.std.specs.Str.{bytes_eq}
use Rattle.std.specs.FinMap.{get, entries, from_entries, find, is_sorted, entries_sorted, get-empty, get-insert, contains_key-keys, slice_cmp-IsAntisymmetric, nat_cmp-IsAntisymmetric}
use Rattle.std.specs.FinMap.Entries.{below_all, same_entries}
use Rattle.std.proofs.lemmas.Bool.{lt-ltb}
use Rattle.std.proofs.lemmas.Map.Text.{is_eq-slice_cmp}
use Rattle.std.proofs.lemmas.Slice.Eq.{bytes_eq-Decides}
use Rattle.std.proofs.lemmas.Int.{ints}
use Rattle.std.proofs.lemmas.List.{length-map, get_or-map}
use Rattle.resp_core.specs.Reply.{Reply, pairs, pairs_of}
use Rattle.cluster_slots.specs.Lists.{all_some}
use Rattle.redis_combiners.specs.Aggregate.{total}
use Rattle.redis_combiners.specs.KeyNumbers.{KeyNumber, all_pairs}
use Rattle.redis_combiners.specs.Totals.{has_key, total_of, total_at, ascending_keys, totals, IsListing, reply_pair, combined_map}
use Rattle.resp_core.proofs.Cases.{by_test}

abbrev order : List ℕ → List ℕ → Ordering
order = slice_cmp nat_cmp

abbrev pub or_zero : Option ℤ → ℤ
or_zero o = unwrap_or o (pos 0)

-- the total of a key, pair by pair
abbrev pub sum_at : List ℕ → List KeyNumber → Option ℤ
sum_at q [] = None
sum_at q (p ∷ ps) = cond (bytes_eq p.0 q) (Some (p.1 +ℤ or_zero (sum_at q ps))) (sum_at q ps)

sum_from : (a b : ℤ) (ns : List ℤ) → fold ◌+ℤ◌ (a +ℤ b) ns ≡ a +ℤ fold ◌+ℤ◌ b ns
sum_from a b [] = refl
sum_from a b (n ∷ ns) = ap (λ z. fold ◌+ℤ◌ z ns) (omega (arith, ints)) ∙ sum_from a (b +ℤ n) ns

total_more : (n : ℤ) (ns : List ℤ) → total (n ∷ ns) ≡ n +ℤ total ns
total_more n ns = ap (λ z. fold ◌+ℤ◌ z ns) (omega (arith, ints)) ∙ sum_from n (pos 0) ns

sum_is : (q : List ℕ) (ps : List KeyNumber) → or_zero (sum_at q ps) ≡ total_of q ps
sum_is q [] = refl
sum_is q (p ∷ ps) = grind (arith, common_steps, total_more, sum_is q ps)

pub sum_has : (q : List ℕ) (ps : List KeyNumber) → is_some (sum_at q ps) ≡ list_any (has_key q) ps
sum_has q [] = refl
sum_has q (p ∷ ps) = grind (arith, common_steps, sum_has q ps)

as_cond : (o : Option ℤ) → o ≡ cond (is_some o) (Some (or_zero o)) None
as_cond None = refl
as_cond (Some n) = refl

pub sum_at_is : (q : List ℕ) (ps : List KeyNumber) → sum_at q ps ≡ total_at q ps
sum_at_is q ps = grind (arith, common_steps, as_cond (sum_at q ps), sum_has q ps, sum_is q ps)

-- the keys are those of the pairs
same_bytes : (q k : List ℕ) → is_eq (order q k) ≡ bytes_eq k q
same_bytes q k = is_eq-slice_cmp q k ∙ nat_list_eq_equiv.symm q k

keys_have : (q : List ℕ) (ps : List KeyNumber) → is_some (get (from_entries {R = order} ps) q) ≡ list_any (has_key q) ps
keys_have q [] = ap is_some (get-empty order q)
keys_have q (p ∷ ps) =
    ap is_some (get-insert nat_list_cmp_total (from_entries ps) p.0 p.1 q ∙ ap (λ b. cond b (Some p.1) (get (from_entries {R = order} ps) q)) (same_bytes q p.0))
    ∙ more (bytes_eq p.0 q) (get (from_entries {R = order} ps) q) (keys_have q ps)
  where
    more : (b : Bool) (o : Option ℤ) → is_some o ≡ list_any (has_key q) ps → is_some (cond b (Some p.1) o) ≡ (b || list_any (has_key q) ps)
    more true o e = refl
    more false o e = e

-- what is found in a list of keys, each beside what f makes of it
find_made : (f : List ℕ → ℤ) (q : List ℕ) (ks : List (List ℕ)) → find order q (map (λ k. (k, f k)) ks) ≡ cond (list_any (λ k. is_eq (order q k)) ks) (Some (f q)) None
find_made f q [] = refl
find_made f q (k ∷ ks) = grind (arith, by_test, same_bytes, bytes_eq-Decides, find_made f q ks)

find_totals : (q : List ℕ) (ps : List KeyNumber) → find order q (totals ps) ≡ total_at q ps
find_totals q ps =
    find_made (λ k. total_of k ps) q (ascending_keys ps)
    ∙ ap (λ b. cond b (Some (total_of q ps)) None) (sym (contains_key-keys (from_entries {R = order} ps) q) ∙ keys_have q ps)

-- the keys ascend
below_made : (f : List ℕ → ℤ) (k : List ℕ) (es : List KeyNumber) → below_all order k (map (λ j. (j, f j)) (map (λ e. e.0) es)) ≡ below_all order k es
below_made f k [] = refl
below_made f k (e ∷ es) = ap (λ b. is_lt (order k e.0) && b) (below_made f k es)

sorted_made : (f : List ℕ → ℤ) (es : List KeyNumber) → is_sorted order (map (λ j. (j, f j)) (map (λ e. e.0) es)) ≡ is_sorted order es
sorted_made f [] = refl
sorted_made f (e ∷ es) = ap (λ b. b && is_sorted order (map (λ j. (j, f j)) (map (λ d. d.0) es))) (below_made f e.0 es) ∙ ap (λ b. below_all order e.0 es && b) (sorted_made f es)

totals_ascend : (ps : List KeyNumber) → T (is_sorted order (totals ps))
totals_ascend ps = subst T (sym (sorted_made (λ k. total_of k ps) (entries (from_entries {R = order} ps)))) (entries_sorted (from_entries {R = order} ps))

-- the totals are listed as they should be
first : (a b : Bool) → T (a && b) → T a
first true b h = tt
first false b h = h

second : (a b : Bool) → T (a && b) → T b
second true b h = h
second false b h = absurd h

less : (o : Ordering) → T (is_lt o) → o ≡ Less
less o h1 = grind (arith)

less_all : (k : List ℕ) (es : List KeyNumber) → T (below_all order k es) → AllByRecursion (λ y. order k y ≡ Less) (map (λ e. e.0) es)
less_all k [] h = tt
less_all k (e ∷ es) h = (less _ (first _ _ h), less_all k es (second _ _ h))

strictly : (es : List KeyNumber) → T (is_sorted order es) → IsStrictlySortedBy order (map (λ e. e.0) es)
unfolding IsStrictlySortedBy
strictly [] h = tt
strictly (e ∷ es) h = (less_all e.0 es (first _ _ h), strictly es (second _ _ h))

any_made : (f : List ℕ → ℤ) (q : List ℕ) (ks : List (List ℕ)) → list_any (has_key q) (map (λ k. (k, f k)) ks) ≡ list_any (λ k. is_eq (order q k)) ks
any_made f q [] = refl
any_made f q (k ∷ ks) = ap (λ b. b || list_any (has_key q) (map (λ j. (j, f j)) ks)) (sym (same_bytes q k)) ∙ ap (λ b. is_eq (order q k) || b) (any_made f q ks)

pub listing : (all : List KeyNumber) → IsListing all (totals all)
listing all =
    let f : List ℕ → KeyNumber = λ k. (k, total_of k all) in
    record {
      ascending = strictly (totals all) (totals_ascend all);
      occurs = λ q. any_made (λ k. total_of k all) q (ascending_keys all) ∙ sym (contains_key-keys (from_entries {R = order} all) q) ∙ keys_have q all;
      beside = λ k d l.
          let e : get_or (totals all) k d ≡ f (get_or (ascending_keys all) k []) = get_or-map f (ascending_keys all) k [] d (omega (arith, length-map (ascending_keys all) f, l)) in
          ap (λ s. s.1) e ∙ ap (λ s. total_of s.0 all) (sym e);
    }

-- entries by ascending key with the totals are the totals
are_totals : (es ps : List KeyNumber) → T (is_sorted order es) → ((q : List ℕ) → find order q es ≡ total_at q ps) → es ≡ totals ps
are_totals es ps s h = same_entries order nat_list_cmp_total (slice_cmp-IsAntisymmetric nat_cmp-IsAntisymmetric) es (totals ps) s (totals_ascend ps) (λ q. h q ∙ sym (find_totals q ps))

-- pairs that make the same total of each key make the same totals
pub same_totals : (ps qs : List KeyNumber) → ((q : List ℕ) → sum_at q ps ≡ sum_at q qs) → totals ps ≡ totals qs
same_totals ps qs h = are_totals (totals ps) qs (totals_ascend ps) (λ q. find_totals q ps ∙ sym (sum_at_is q ps) ∙ h q ∙ sum_at_is q qs)

-- the sum of two totals, each of which may be missing
abbrev pub sum_of_totals : Option ℤ → Option ℤ → Option ℤ
sum_of_totals None o = o
sum_of_totals (Some a) None = Some a
sum_of_totals (Some a) (Some b) = Some (a +ℤ b)

both : (a b : Bool) → T a → T b → T (a && b)
both true b p q = q
both false b p q = p

below : (k : List ℕ) (es : List KeyNumber) → AllByRecursion (λ y. slice_cmp nat_cmp k y ≡ Less) (map (λ e. e.0) es) → T (below_all order k es)
below k [] h = tt
below k (e ∷ es) h = both _ _ (subst (λ o. T (is_lt o)) (sym h.0) tt) (below k es h.1)

rising : (es : List KeyNumber) → IsStrictlySortedBy (slice_cmp nat_cmp) (map (λ e. e.0) es) → T (is_sorted order es)
unfolding IsStrictlySortedBy
rising [] h = tt
rising (e ∷ es) h = both _ _ (below e.0 es h.0) (rising es h.1)

-- what is above a key is of other keys
none_above : (k : List ℕ) (ps : List KeyNumber) → AllByRecursion (λ y. order k y ≡ Less) (map (λ p. p.0) ps) → sum_at k ps ≡ None
none_above k [] h = refl
none_above k (p ∷ ps) h = grind (arith, common_steps, same_bytes k p.0, none_above k ps h.1)

-- where keys ascend, what is found is the total
find_sorted : (q : List ℕ) (ps : List KeyNumber) → IsStrictlySortedBy order (map (λ p. p.0) ps) → find order q ps ≡ sum_at q ps
unfolding IsStrictlySortedBy
find_sorted q [] h = refl
find_sorted q (p ∷ ps) h = by_test (bytes_eq p.0 q)
    (λ t. let none : sum_at q ps ≡ None = ap (λ k. sum_at k ps) (sym ((bytes_eq-Decides p.0 q).0 t)) ∙ none_above p.0 ps h.0 in
    ap (λ b. cond b (Some p.1) (find order q ps)) (same_bytes q p.0 ∙ t)
    ∙ ap Some (omega (arith, ints))
    ∙ sym (ap (λ b. cond b (Some (p.1 +ℤ or_zero (sum_at q ps))) (sum_at q ps)) t ∙ ap (λ o. Some (p.1 +ℤ or_zero o)) none))
    (λ n. ap (λ b. cond b (Some p.1) (find order q ps)) (same_bytes q p.0 ∙ n) ∙ find_sorted q ps h.1
    ∙ sym (ap (λ b. cond b (Some (p.1 +ℤ or_zero (sum_at q ps))) (sum_at q ps)) n))

-- what the totals make is what the replies make
pub combined_map_is : (rs : List Reply) (ps es : List KeyNumber) → all_pairs rs ≡ Some ps → length ps < 2 ^ 63 → IsStrictlySortedBy (slice_cmp nat_cmp) (map (λ e. e.0) es) → ((q : List ℕ) → sum_at q es ≡ total_at q ps)
    → combined_map rs ≡ option_map (λ l. pairs (pairs_of l)) (all_some (map reply_pair es))
combined_map_is rs ps es k few s h = grind (arith, lt-ltb, are_totals, rising, find_sorted)
