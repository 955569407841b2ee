-- Spots that are filled from the last item on.
use Rattle.std.proofs.Common.{◌≡◌, ℕ, zero, suc, ◌+◌, ◌<◌, ◌≤◌, Bool, true, false, cond, List, [], ◌∷◌, ◌++◌, length, map, take, get_or, replicate, Option, Some, None, refl, ap, sym, ◌∙◌, arith}
use Rattle.std.proofs.lemmas.Grind.{common_steps}
use Rattle.std.proofs.Math.ListN.{set}
use Rattle.std.specs.Prelude.{option_map, option_and_then, is_none, ◌&&◌}
use Rattle.std.specs.List.{list_all}
use Rattle.std.proofs.lemmas.Bool.{lt-ltb, le-ltb}
use Rattle.std.proofs.lemmas.List.{length-map, length-take-le, length_push, map_push, take_more, flat_map_more}
use Rattle.resp_core.specs.Reply.{Reply, array_of}
use Rattle.resp_core.specs.View.{view}
use Rattle.resp_core.specs.declared.value.Value.{Value}
use Rattle.cluster_slots.specs.Lists.{all_some, flatten}
use Rattle.redis_combiners.specs.AllItems.{all_items}
use Rattle.redis_combiners.specs.Spots.{spots_of, put_item, filled}

-- one list of items after another
pub filled_both : (spots : List (Option Reply)) (ps qs : List ℕ) (xs ys : List Reply) → length ps ≡ length xs → filled spots (ps ++ qs) (xs ++ ys) ≡ option_and_then (λ later. filled later ps xs) (filled spots qs ys)
filled_both spots [] qs [] ys n = grind (arith, common_steps)
filled_both spots [] qs (x ∷ xs) ys n = absurd (omega arith)
filled_both spots (p ∷ ps) qs [] ys n = absurd (omega arith)
filled_both spots (p ∷ ps) qs (x ∷ xs) ys n = grind (arith, common_steps, filled_both spots ps qs xs ys (omega arith))

-- spots as flags and items
length-spots_of : (taken : List Bool) (items : List Reply) → length taken ≡ length items → length (spots_of taken items) ≡ length taken
length-spots_of [] items n = refl
length-spots_of (b ∷ taken) [] n = absurd (omega arith)
length-spots_of (b ∷ taken) (x ∷ items) n = ap suc (length-spots_of taken items (omega arith))

free_at : (taken : List Bool) (items : List Reply) (k : ℕ) → length taken ≡ length items → is_none (get_or (spots_of taken items) k None) ≡ cond (get_or taken k false) false true
free_at [] items k n = refl
free_at (b ∷ taken) [] k n = absurd (omega arith)
free_at (true ∷ taken) (x ∷ items) zero n = refl
free_at (false ∷ taken) (x ∷ items) zero n = refl
free_at (b ∷ taken) (x ∷ items) (suc k) n = free_at taken items k (omega arith)

set-spots_of : (taken : List Bool) (items : List Reply) (k : ℕ) (x : Reply) → length taken ≡ length items → set (spots_of taken items) k (Some x) ≡ spots_of (set taken k true) (set items k x)
set-spots_of [] [] k x n = refl
set-spots_of [] (y ∷ items) k x n = absurd (omega arith)
set-spots_of (b ∷ taken) [] k x n = absurd (omega arith)
set-spots_of (b ∷ taken) (y ∷ items) zero x n = refl
set-spots_of (b ∷ taken) (y ∷ items) (suc k) x n = ap (λ spots. cond b (Some y) None ∷ spots) (set-spots_of taken items k x (omega arith))

-- an item at a place past the end, at one that is taken, and at a free one
pub put_past : (taken : List Bool) (items : List Reply) (p : ℕ) (x : Reply) → length taken ≡ length items → length taken ≤ p → put_item (spots_of taken items) p x ≡ None
put_past taken items p x n l = ap (λ b. cond (b && is_none (get_or (spots_of taken items) p None)) (Some (set (spots_of taken items) p (Some x))) None) (le-ltb p (length (spots_of taken items)) (omega (arith, length-spots_of taken items n)))

put_within : (taken : List Bool) (items : List Reply) (p : ℕ) (x : Reply) (b : Bool) → length taken ≡ length items → p < length taken → get_or taken p false ≡ b
    → put_item (spots_of taken items) p x ≡ cond (cond b false true) (Some (spots_of (set taken p true) (set items p x))) None
put_within taken items p x b n l e = grind (arith, set, lt-ltb, length-spots_of, free_at, set-spots_of)

pub put_taken : (taken : List Bool) (items : List Reply) (p : ℕ) (x : Reply) → length taken ≡ length items → p < length taken → get_or taken p false ≡ true → put_item (spots_of taken items) p x ≡ None
put_taken taken items p x n l e = put_within taken items p x true n l e

pub put_free : (taken : List Bool) (items : List Reply) (p : ℕ) (x : Reply) → length taken ≡ length items → p < length taken → get_or taken p false ≡ false → put_item (spots_of taken items) p x ≡ Some (spots_of (set taken p true) (set items p x))
put_free taken items p x n l e = put_within taken items p x false n l e

-- the last of the items that are left
pub next_item : (spots : List (Option Reply)) (ps : List ℕ) (vs ws : List Value) (item : Value) (n : ℕ) (whole : Option (List (Option Reply))) → vs ≡ ws ++ item ∷ [] → length vs ≤ length ps → n ≡ length ws
    → filled spots (take (length vs) ps) (map view vs) ≡ whole
    → option_and_then (λ later. filled later (take (length ws) ps) (map view ws)) (put_item spots (get_or ps n 0) (view item)) ≡ whole
next_item spots ps vs ws item n whole last few at e =
    let long : length vs ≡ length ws + 1 = ap length last ∙ length_push ws item in
    ap (λ m. option_and_then (λ later. filled later (take (length ws) ps) (map view ws)) (put_item spots (get_or ps m 0) (view item))) at
    ∙ sym (filled_both spots (take (length ws) ps) (get_or ps (length ws) 0 ∷ []) (map view ws) (view item ∷ []) (length-take-le (length ws) ps (omega arith) ∙ sym (length-map ws view)))
    ∙ ap (λ qs. filled spots qs (map view ws ++ view item ∷ [])) (sym (take_more ps (length ws) 0 (omega arith)) ∙ ap (λ m. take m ps) (sym long))
    ∙ ap (filled spots (take (length vs) ps)) (sym (map_push view ws item) ∙ ap (map view) (sym last))
    ∙ e

-- all spots, if each is taken
pub all_spots : (taken : List Bool) (items : List Reply) → length taken ≡ length items → all_some (spots_of taken items) ≡ cond (list_all (λ bit. bit) taken) (Some items) None
all_spots [] [] n = refl
all_spots [] (x ∷ items) n = absurd (omega arith)
all_spots (b ∷ taken) [] n = absurd (omega arith)
all_spots (false ∷ taken) (x ∷ items) n = refl
all_spots (true ∷ taken) (x ∷ items) n = grind (arith, common_steps, all_spots taken items (omega arith))

pub no_spots : (n : ℕ) (x : Reply) → spots_of (replicate n false) (replicate n x) ≡ replicate n None
no_spots zero x = refl
no_spots (suc n) x = ap (λ spots. None ∷ spots) (no_spots n x)

-- the items of the last reply, after those of the others
pub record LastReply (rs : List Reply) (r : Reply) (items : List Reply) : Type 0 where
  pub first : List Reply
  pub last : List Reply
  pub first_are : all_items rs ≡ Some first
  pub last_are : array_of r ≡ Some last
  pub is : items ≡ first ++ last

record LastList (os : List (Option (List Reply))) (o : Option (List Reply)) (xss : List (List Reply)) : Type 0 where
  front : List (List Reply)
  last : List Reply
  front_are : all_some os ≡ Some front
  last_is : o ≡ Some last
  is : xss ≡ front ++ last ∷ []

last_list : (os : List (Option (List Reply))) (o : Option (List Reply)) (xss : List (List Reply)) → all_some (os ++ o ∷ []) ≡ Some xss → LastList os o xss
last_list [] None xss e = absurd (cc)
last_list [] (Some xs) xss e = record { front = []; last = xs; front_are = refl; last_is = refl; is = cc }
last_list (None ∷ os) o xss e = absurd (cc)
last_list (Some x ∷ os) o xss e = made (all_some (os ++ o ∷ [])) refl e (λ yss. last_list os o yss)
  where
    made : (a : Option (List (List Reply))) → all_some (os ++ o ∷ []) ≡ a → option_map (λ yss. x ∷ yss) a ≡ Some xss → ((yss : List (List Reply)) → all_some (os ++ o ∷ []) ≡ Some yss → LastList os o yss) → LastList (Some x ∷ os) o xss
    made None f h later = absurd (cc)
    made (Some yss) f h later =
        let l : LastList os o yss = later yss f in
        let is : x ∷ yss ≡ xss = cc in
        record { front = x ∷ l.front; last = l.last; front_are = ap (option_map (λ zss. x ∷ zss)) l.front_are; last_is = l.last_is; is = sym is ∙ ap (λ zss. x ∷ zss) l.is }

pub last_reply : (rs : List Reply) (r : Reply) (items : List Reply) → all_items (rs ++ r ∷ []) ≡ Some items → LastReply rs r items
last_reply rs r items e = made (all_some (map array_of (rs ++ r ∷ []))) refl e
  where
    made : (a : Option (List (List Reply))) → all_some (map array_of (rs ++ r ∷ [])) ≡ a → option_map flatten a ≡ Some items → LastReply rs r items
    made None f h = absurd (cc)
    made (Some xss) f h =
        let l : LastList (map array_of rs) (array_of r) xss = last_list (map array_of rs) (array_of r) xss (ap all_some (sym (map_push array_of rs r)) ∙ f) in
        let is : flatten xss ≡ items = cc in
        record {
          first = flatten l.front;
          last = l.last;
          first_are = ap (option_map flatten) l.front_are;
          last_are = l.last_is;
          is = sym is ∙ ap flatten l.is ∙ sym (flat_map_more (λ xs. xs) [] l.front l.last);
        }
