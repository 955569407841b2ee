-- Numbers that are added to totals by their keys, and totals that are sorted by key.
use Rattle.std.proofs.Common.{◌≡◌, Ordering, ℕ, zero, suc, ◌+◌, ℤ, ◌+ℤ◌, List, [], ◌∷◌, ◌++◌, Bool, true, false, cond, pos, Option, Some, None, true≢false, refl, ap, sym, subst, ◌∙◌, arith, set, ◌<◌, length, get_or, Bor}
use Rattle.std.specs.Ordering.{is_eq, is_lt, nat_cmp, ordering_reverse}
use Rattle.std.specs.declared.cmp.Ordering.TheVariants.{Less, Equal, Greater}
use Rattle.std.specs.Cmp.Lexicographic.{slice_cmp, nat_list_cmp_total, nat_list_eq_equiv}
use Rattle.std.specs.Fn.{Called, ComparesAs, Mut}
use Rattle.std.specs.Cmp.{IsStrictWeakOrder}
use Rattle.std.specs.List.Sorted.{IsPermutation, IsSortedBy, IsSortedByKey}
use Rattle.std.specs.Prelude.{option_map, option_and_then}
use Rattle.std.specs.Str.{bytes_eq}
use Rattle.std.proofs.lemmas.Fn.{always_returns_same}
use Rattle.std.proofs.lemmas.Int.{ints}
use Rattle.std.proofs.lemmas.List.Sorted.{ranks_by}
use Rattle.std.proofs.lemmas.Map.Text.{is_eq-slice_cmp}
use Rattle.std.proofs.lemmas.List.{append_assoc}
use Rattle.std.proofs.lemmas.Slice.Eq.{bytes_eq-Decides}
use Rattle.redis_combiners.specs.Totals.{total_at}
use Rattle.resp_core.specs.Reply.{Reply, array_of}
use Rattle.redis_combiners.specs.KeyNumbers.{KeyNumber, pairs_among, all_pairs}
use Rattle.redis_combiners.proofs.KeyNumbers.{pairs_then}
use Rattle.redis_combiners.proofs.Totals.{sum_of_totals, or_zero, sum_at, sum_at_is}
use Rattle.redis_combiners.proofs.TotalOrders.{sum_permuted}

abbrev pub order : List ℕ → List ℕ → Ordering
order = slice_cmp nat_cmp

abbrev pub key_of : KeyNumber → List ℕ
key_of e = e.0

-- what the sort's clause says
pub sorted_by_key : {F : Type 0} {g : Mut F (Bor KeyNumber × (Bor KeyNumber × Unit {0})) Ordering} {f : F} (es : List KeyNumber)
    → ((lt : KeyNumber → KeyNumber → Bool) → IsStrictWeakOrder lt → ComparesAs g lt f → IsSortedBy lt es)
    → ((a : Bor KeyNumber × (Bor KeyNumber × Unit {0})) (r : Ordering) (f' : F) → Called g f a r f' → (r ≡ order (key_of a.0.now) (key_of a.1.0.now)) × (f' ≡ f)) → IsSortedByKey key_of order es
sorted_by_key {g = g} {f = f} es up h =
    up (λ x y. is_lt (order (key_of x) (key_of y))) (ranks_by nat_list_cmp_total key_of)
    (always_returns_same g (λ a r. is_lt r ≡ is_lt (order (key_of a.0.now) (key_of a.1.0.now))) f (λ a r f' k. (ap is_lt (h a r f' k).0, (h a r f' k).1)))

-- a key that differs from another and is no less is greater
pub less_from : (x y : List ℕ) → is_lt (order y x) ≡ false → bytes_eq y x ≡ false → order x y ≡ Less
less_from x y up apart = by (order x y) refl
  where
    by : (o : Ordering) → order x y ≡ o → order x y ≡ Less
    by Less e = e
    by Equal e = absurd (true≢false (ap is_eq (sym e) ∙ is_eq-slice_cmp x y ∙ nat_list_eq_equiv.symm x y ∙ apart))
    by Greater e = absurd (true≢false (ap is_lt (sym (nat_list_cmp_total.antisymm y x ∙ ap ordering_reverse e)) ∙ up))

-- a number before two totals goes to the first
before_totals : (b : Bool) (n : ℤ) (s t : Option ℤ) → cond b (Some (n +ℤ or_zero (sum_of_totals s t))) (sum_of_totals s t) ≡ sum_of_totals (cond b (Some (n +ℤ or_zero s)) s) t
before_totals false n s t = refl
before_totals true n None None = refl
before_totals true n None (Some b) = ap Some (omega (arith, ints))
before_totals true n (Some a) None = refl
before_totals true n (Some a) (Some b) = ap Some (omega (arith, ints))

-- the total of a key over two lists
sum_at-append : (q : List ℕ) (ps qs : List KeyNumber) → sum_at q (ps ++ qs) ≡ sum_of_totals (sum_at q ps) (sum_at q qs)
sum_at-append q [] qs = refl
sum_at-append q (p ∷ ps) qs =
    ap (λ o. cond (bytes_eq p.0 q) (Some (p.1 +ℤ or_zero o)) o) (sum_at-append q ps qs)
    ∙ before_totals (bytes_eq p.0 q) p.1 (sum_at q ps) (sum_at q qs)

-- a number more than a total, before others of the key or not
one_more : (b : Bool) (t n : ℤ) (s : Option ℤ) → cond b (Some ((t +ℤ n) +ℤ or_zero s)) s ≡ cond b (Some (t +ℤ or_zero (sum_of_totals s (cond b (Some (n +ℤ pos 0)) None)))) (sum_of_totals s (cond b (Some (n +ℤ pos 0)) None))
one_more false t n None = refl
one_more false t n (Some a) = refl
one_more true t n None = ap Some (omega (arith, ints))
one_more true t n (Some a) = ap Some (omega (arith, ints))

-- a number added to a total

sum_set : (q : List ℕ) (e : KeyNumber) (n : ℤ) (ps : List KeyNumber) (i : ℕ) → i < length ps → e ≡ get_or ps i e → sum_at q (set ps i (e.0, e.1 +ℤ n)) ≡ sum_at q (ps ++ (e.0, n) ∷ [])
sum_set q e n [] i l h = absurd (omega (arith, l))
sum_set q e n (p ∷ ps) zero l h = rw (sym h, sum_at-append q ps ((e.0, n) ∷ [])) (one_more (bytes_eq e.0 q) e.1 n (sum_at q ps))
sum_set q e n (p ∷ ps) (suc i) l h = ap (λ o. cond (bytes_eq p.0 q) (Some (p.1 +ℤ or_zero o)) o) (sum_set q e n ps i (omega (arith, l)) h)

pub total_set : (es : List KeyNumber) (i : ℕ) (e : KeyNumber) (key : List ℕ) (n : ℤ) → i < length es → e ≡ get_or es i e → bytes_eq e.0 key ≡ true → (q : List ℕ) → total_at q (set es i (e.0, e.1 +ℤ n)) ≡ total_at q (es ++ (key, n) ∷ [])
total_set es i e key n l got same q =
    sym (sum_at_is q (set es i (e.0, e.1 +ℤ n)))
    ∙ sum_set q e n es i l got
    ∙ ap (λ k. sum_at q (es ++ (k, n) ∷ [])) ((bytes_eq-Decides e.0 key).0 same)
    ∙ sum_at_is q (es ++ (key, n) ∷ [])

-- totals that are the same stay so with more pairs after them
pub total_before : (q : List ℕ) (es fs ps : List KeyNumber) → total_at q es ≡ total_at q fs → total_at q (es ++ ps) ≡ total_at q (fs ++ ps)
total_before q es fs ps h =
    sym (sum_at_is q (es ++ ps))
    ∙ sum_at-append q es ps
    ∙ ap (λ o. sum_of_totals o (sum_at q ps)) (sum_at_is q es ∙ h ∙ sym (sum_at_is q fs))
    ∙ sym (sum_at-append q fs ps)
    ∙ sum_at_is q (fs ++ ps)

pub none_there : (o : Option (List KeyNumber)) → ((q : List ℕ) → None ≡ option_map (total_at q) o) → None ≡ o
none_there None h = refl
none_there (Some ps) h = let none : None ≡ Some (total_at [] ps) = h [] in cc

-- the totals so far with the pairs that are left, if there are such
abbrev pub total_with : List ℕ → List KeyNumber → Option (List KeyNumber) → Option (Option ℤ)
total_with q es = option_map (λ ps. total_at q (es ++ ps))

pub total_with_more : (q : List ℕ) (es fs found : List KeyNumber) (left : Option (List KeyNumber)) → total_at q fs ≡ total_at q (es ++ found) → total_with q fs left ≡ total_with q es (option_map (λ ps. found ++ ps) left)
total_with_more q es fs found None h = refl
total_with_more q es fs found (Some ps) h = ap Some (total_before q fs (es ++ found) ps h ∙ ap (total_at q) (append_assoc es found ps))

-- the next reply, whose pairs are added, or which has none
pub replies_more : (q : List ℕ) (es fs : List KeyNumber) (r : Reply) (rs : List Reply) (items : List Reply) → array_of r ≡ Some items → total_with q es (pairs_among items) ≡ Some (total_at q fs) → total_with q fs (all_pairs rs) ≡ total_with q es (all_pairs (r ∷ rs))
replies_more q es fs r rs items is h = of_pairs (pairs_among items) refl h
  where
    of_pairs : (o : Option (List KeyNumber)) → pairs_among items ≡ o → total_with q es o ≡ Some (total_at q fs) → total_with q fs (all_pairs rs) ≡ total_with q es (all_pairs (r ∷ rs))
    of_pairs None e h = absurd (cc)
    of_pairs (Some found) e h =
        let same : total_at q fs ≡ total_at q (es ++ found) = cc in
        total_with_more q es fs found (all_pairs rs) same
        ∙ ap (total_with q es) (pairs_then r rs found (ap (option_and_then pairs_among) is ∙ e))

-- keys that do not descend

abbrev Follows : Option (List ℕ) → List ℕ → Type 0
Follows None k = Unit {0}
Follows (Some p) k = is_lt (order k p) ≡ false

abbrev pub Chain : Option (List ℕ) → List KeyNumber → Type 0
Chain before [] = Unit {0}
Chain before (e ∷ es) = Follows before (key_of e) × Chain (Some (key_of e)) es

chain_from : (p : KeyNumber) (es : List KeyNumber) → IsSortedByKey key_of order (p ∷ es) → Chain (Some (key_of p)) es
chain_from p [] up = tt
chain_from p (e ∷ es) up = (
  up 0 p (omega arith) (omega arith),
  chain_from e es (λ k d low m.
      let next : suc k + 1 ≡ suc (k + 1) = omega arith in
      subst (λ i. is_lt (order (key_of (get_or (p ∷ e ∷ es) i d)) (key_of (get_or (e ∷ es) k d))) ≡ false) next (up (suc k) d (omega arith) (omega (arith, m)))),
)

pub chain : (es : List KeyNumber) → IsSortedByKey key_of order es → Chain None es
chain [] up = tt
chain (e ∷ es) up = (tt, chain_from e es up)

pub all_moved : (es fs : List KeyNumber) → IsPermutation es fs → (q : List ℕ) → sum_at q fs ≡ total_at q es
all_moved es fs moves q = sum_permuted q es fs moves ∙ sum_at_is q es
