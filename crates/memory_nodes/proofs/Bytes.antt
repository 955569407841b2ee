-- Trees whose keys are bytes.
use Rattle.std.proofs.Common.{◌≡◌, ℕ, List, Bool, true, false, cond, Option, Some, Vec, Global, refl, sym, ap, subst, ◌∙◌}
use Rattle.std.specs.Ordering.{is_eq, nat_cmp}
use Rattle.std.specs.Cmp.{eq_by_cmp_equiv}
use Rattle.std.specs.Cmp.Lexicographic.{slice_cmp, nat_list_cmp_total, nat_list_eq_equiv}
use Rattle.std.specs.Str.{bytes_eq}
use Rattle.std.specs.Map.{lookup, IsKeyTest, AreApart, KeepsOthers}
use Rattle.std.specs.BTreeMap.{BTreeMap, UpdatesBy, WritesThrough}
use Rattle.std.specs.Prelude.{IsSome}
use Rattle.std.proofs.lemmas.Map.Text.{is_eq-slice_cmp}
use Rattle.std.proofs.lemmas.Slice.Eq.{bytes_eq-Decides}
use Rattle.resp_core.proofs.Cases.{by_test}
use Rattle.redis_cluster.specs.Unsplit.{put}
use Rattle.memory_nodes.specs.Cells.{tree_value}

-- bytes that differ are not equal to one key
apart : (bs cs key : List ℕ) → bytes_eq bs cs ≡ false → is_eq (slice_cmp nat_cmp bs key) ≡ true → is_eq (slice_cmp nat_cmp cs key) ≡ false
apart bs cs key n y =
    let same : bytes_eq bs key ≡ true = sym (is_eq-slice_cmp bs key) ∙ y in
    is_eq-slice_cmp cs key ∙ nat_list_eq_equiv.symm cs key ∙ sym (nat_list_eq_equiv.congr bs key cs same) ∙ n

others : {K X : Type 0} (eq : K → K → Bool) (test : K → Bool) (old new : List (K × X)) → KeepsOthers eq test old new → (other : K → Bool) → IsKeyTest eq other → AreApart test other → lookup other new ≡ lookup other old
unfolding KeepsOthers
others eq test old new h = h

module _ {X : Type 0} where
  -- what a tree has at each key after a change at one
  pub found-updates : (bs : List ℕ) (m n : BTreeMap (Vec ℕ Global) X) (w : Option X) → UpdatesBy (λ x y. slice_cmp nat_cmp x.items y.items) (λ key. slice_cmp nat_cmp bs key.items) m n w → (cs : List ℕ) → tree_value n cs ≡ cond (bytes_eq bs cs) w (tree_value m cs)
  found-updates bs m n w h cs =
      by_test (bytes_eq bs cs)
      (λ e. rw e (ap (tree_value n) (sym ((bytes_eq-Decides bs cs).0 e)) ∙ h.1))
      (λ e. rw e (others _ _ m.entries n.entries h.3 (λ key. is_eq (slice_cmp nat_cmp cs key.items)) (λ x y. (eq_by_cmp_equiv nat_list_cmp_total).congr cs x.items y.items) (λ key. apart bs cs key.items e)))

  -- the same as one `put`
  pub found-put : (bs : List ℕ) (m n : BTreeMap (Vec ℕ Global) X) (w : Option X) → UpdatesBy (λ x y. slice_cmp nat_cmp x.items y.items) (λ key. slice_cmp nat_cmp bs key.items) m n w → tree_value n ≡ put bs w (tree_value m)
  found-put bs m n w h = λ i cs. found-updates bs m n w h cs i

  -- what `get_mut` lent was there
  pub found-lent : (bs : List ℕ) (m n : BTreeMap (Vec ℕ Global) X) (now w : X) → Some now ≡ tree_value m bs → WritesThrough (λ x y. slice_cmp nat_cmp x.items y.items) (λ key. slice_cmp nat_cmp bs key.items) m w n → tree_value n ≡ put bs (Some w) (tree_value m)
  found-lent bs m n now w there h = found-put bs m n (Some w) (h.3 (subst IsSome there refl))
