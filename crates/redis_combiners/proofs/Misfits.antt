-- Replies with as many items as are counted for them, one reply after the other.
use Rattle.std.proofs.Common.{◌≡◌, ℕ, ◌+◌, List, [], ◌∷◌, ◌++◌, length, map, drop, get_or, Option, Some, None, refl, ap, sym, ◌∙◌, arith, cond, eqb}
use Rattle.std.specs.Prelude.{option_map, slice_get}
use Rattle.std.specs.List.{filter_map, cons_option, zip}
use Rattle.std.proofs.lemmas.List.{length-append}
use Rattle.std.proofs.lemmas.Bool.{eqb-true}
use Rattle.std.proofs.lemmas.Grind.{common_steps}
use Rattle.resp_core.specs.Reply.{Reply, array_of}
use Rattle.resp_core.specs.View.{view}
use Rattle.resp_core.specs.declared.value.Value.{Value}
use Rattle.resp_core.specs.declared.error.ErrorKind.{ErrorKind}
use Rattle.resp_core.specs.declared.error.ErrorKind.TheVariants.{UnexpectedReturnType, Client}
use Rattle.cluster_slots.specs.Lists.{all_some, flatten}
use Rattle.redis_combiners.specs.AllItems.{all_items}
use Rattle.redis_combiners.specs.Misfits.{misfit, misfit_of, first_misfit}
use Rattle.resp_core.proofs.Cases.{by_test}

-- the first misfit of a reply and the later ones
abbrev after : Option ErrorKind → List Reply → List ℕ → Option ErrorKind
after o rs counts = slice_get (cons_option o (filter_map misfit (zip rs counts))) 0

-- a reply and its count come next
turn : (v : Value) (rest' rest : List Value) (counts : List ℕ) (k : ℕ) → k + length rest ≡ length counts → rest ≡ v ∷ rest'
    → first_misfit (map view rest) (drop k counts) ≡ after (misfit_of (array_of (view v)) (get_or counts k 0)) (map view rest') (drop (k + 1) counts)
turn v rest' rest counts k n e = grind (arith, common_steps)

pub no_array : (v : Value) (rest' rest : List Value) (counts : List ℕ) (k : ℕ) (whole : Option ErrorKind) → k + length rest ≡ length counts → rest ≡ v ∷ rest' → None ≡ array_of (view v)
    → first_misfit (map view rest) (drop k counts) ≡ whole → whole ≡ Some UnexpectedReturnType
no_array v rest' rest counts k whole n e none inv = sym inv ∙ turn v rest' rest counts k n e ∙ ap (λ o. after (misfit_of o (get_or counts k 0)) (map view rest') (drop (k + 1) counts)) (sym none)

-- replies that fit: the items of the first, and those of the others
pub record Fits (o : Option (List Reply)) (rs : List Reply) (n : ℕ) (counts : List ℕ) (xs : List Reply) : Type 0 where
  pub first : List Reply
  pub others : List Reply
  pub there : o ≡ Some first
  pub long : length first ≡ n
  pub others_fit : first_misfit rs counts ≡ None
  pub others_are : all_items rs ≡ Some others
  pub is : xs ≡ first ++ others

pub fits : (o : Option (List Reply)) (rs : List Reply) (n : ℕ) (counts : List ℕ) (xs : List Reply) → after (misfit_of o n) rs counts ≡ None → option_map flatten (all_some (o ∷ map array_of rs)) ≡ Some xs → Fits o rs n counts xs
fits None rs n counts xs f g = absurd (cc)
fits (Some ys) rs n counts xs f g = by_test (eqb (length ys) n)
    (λ t. whole (all_some (map array_of rs)) refl (sym (ap (λ b. after (cond b None (Some Client)) rs counts) t) ∙ f) (eqb-true (length ys) n t) g)
    (λ t. absurd (refused (sym (ap (λ b. after (cond b None (Some Client)) rs counts) t) ∙ f)))
  where
    refused : Some Client ≡ None → ⊥
    refused h = cc

    whole : (a : Option (List (List Reply))) → all_some (map array_of rs) ≡ a → first_misfit rs counts ≡ None → length ys ≡ n → option_map flatten (option_map (λ yss. ys ∷ yss) a) ≡ Some xs → Fits (Some ys) rs n counts xs
    whole None is m l h = absurd (cc)
    whole (Some yss) is m l h = record { first = ys; others = flatten yss; there = refl; long = l; others_fit = m; others_are = ap (option_map flatten) is; is = cc }

pub items_length : (rs : List Reply) (pss : List (List ℕ)) (xs : List Reply) → length rs ≡ length pss → first_misfit rs (map length pss) ≡ None → all_items rs ≡ Some xs → length xs ≡ length (flatten pss)
items_length [] [] xs n f g = grind (arith, common_steps)
items_length [] (ps ∷ pss) xs n f g = absurd (omega arith)
items_length (r ∷ rs) [] xs n f g = absurd (omega arith)
items_length (r ∷ rs) (ps ∷ pss) xs n f g =
    let t : Fits (array_of r) rs (length ps) (map length pss) xs = fits (array_of r) rs (length ps) (map length pss) xs f g in
    let h : length t.others ≡ length (flatten pss) = items_length rs pss t.others (omega arith) t.others_fit t.others_are in
    omega (arith, ap length t.is, length-append t.first t.others, length-append ps (flatten pss), t.long)

-- the items of replies that fit
pub record FittingItems (rs : List Reply) : Type 0 where
  pub items : List Reply
  pub are : all_items rs ≡ Some items

pub fitting_items : (rs : List Reply) (counts : List ℕ) → length rs ≡ length counts → first_misfit rs counts ≡ None → FittingItems rs
fitting_items [] counts n f = record { items = []; are = refl }
fitting_items (r ∷ rs) [] n f = absurd (omega arith)
fitting_items (r ∷ rs) (count ∷ counts) n f = made (array_of r) refl f (fitting_items rs counts (omega arith))
  where
    more : (ys others : List Reply) (a : Option (List (List Reply))) → option_map flatten a ≡ Some others → option_map flatten (option_map (λ yss. ys ∷ yss) a) ≡ Some (ys ++ others)
    more ys others None e = absurd (cc)
    more ys others (Some yss) e = let is : flatten yss ≡ others = cc in ap (λ zs. Some (ys ++ zs)) is

    refused : Some Client ≡ None → ⊥
    refused h = cc

    made : (o : Option (List Reply)) → array_of r ≡ o → after (misfit_of o count) rs counts ≡ None → (first_misfit rs counts ≡ None → FittingItems rs) → FittingItems (r ∷ rs)
    made None e g later = absurd (cc)
    made (Some ys) e g later = by_test (eqb (length ys) count)
        (λ t. let others : FittingItems rs = later (sym (ap (λ b. after (cond b None (Some Client)) rs counts) t) ∙ g) in
        record {
          items = ys ++ others.items;
          are = ap (λ o. option_map flatten (all_some (o ∷ map array_of rs))) e ∙ more ys others.items (all_some (map array_of rs)) others.are;
        })
        (λ t. absurd (refused (sym (ap (λ b. after (cond b None (Some Client)) rs counts) t) ∙ g)))
