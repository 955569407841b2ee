-- Nodes of the lists that a map gives.
use Rattle.std.proofs.Common.{◌≡◌, ◌++◌, ◌∷◌, [], ◌<◌, ℕ, zero, suc, List, All, Bor, Some, Contains, length, arith, subst, sym}
use Rattle.std.specs.Prelude.{get_or, slice_get}
use Rattle.std.proofs.lemmas.List.Elements.{All-append}
use Rattle.cluster_map.proofs.Ranges.{Contains-cons_head, Contains-cons_tail}
use Rattle.cluster_map.specs.Targets.{addresses_behind}
use Rattle.cluster_slots.specs.Address.{Address}
use Rattle.redis_session.specs.Directory.{IsKnownAmong}
use Rattle.redis_session.proofs.Elements.{all_one}

listed : (refs : List (Bor Address)) (k : ℕ) (x : Bor Address) → k < length refs → x ≡ get_or refs k x → Contains (addresses_behind refs) x.now
listed [] k x within is = absurd (omega (arith, within))
listed (y ∷ refs) zero x within is =
    subst (λ (r : Bor Address). Contains (addresses_behind (y ∷ refs)) r.now) (sym is) (Contains-cons_head y.now (addresses_behind refs))
listed (y ∷ refs) (suc k) x within is = Contains-cons_tail y.now (addresses_behind refs) x.now (listed refs k x (omega (arith, within)) is)

module _ (refs : List (Bor Address)) (addresses : List Address) (are : addresses_behind refs ≡ addresses) (k : ℕ) (x : Bor Address) (within : k < length refs) (is : x ≡ get_or refs k x) where
  -- one more of them is known
  pub one_known : (nodes : List Address) (node : ℕ) (so_far now : List ℕ) → All (IsKnownAmong addresses nodes) so_far → slice_get nodes node ≡ Some x.now → now ≡ so_far ++ node ∷ [] → All (IsKnownAmong addresses nodes) now
  one_known nodes node so_far now all at more = subst (All (IsKnownAmong addresses nodes)) (sym more)
      (All-append (IsKnownAmong addresses nodes) so_far (node ∷ []) all
      (all_one (IsKnownAmong addresses nodes) node (x.now, at, subst (λ (list : List Address). Contains list x.now) are (listed refs k x within is))))

  -- one more of them is unknown
  pub one_unknown : (address : Address) (so_far now : List Address) → All (Contains addresses) so_far → address ≡ x.now → now ≡ so_far ++ address ∷ [] → All (Contains addresses) now
  one_unknown address so_far now all same more = subst (All (Contains addresses)) (sym more)
      (All-append (Contains addresses) so_far (address ∷ []) all
      (all_one (Contains addresses) address (subst (Contains addresses) (sym same) (subst (λ (list : List Address). Contains list x.now) are (listed refs k x within is)))))
