-- What is left to put into spots, reply by reply from the last one on.
use Rattle.std.proofs.Common.{◌≡◌, ℕ, ◌+◌, ◌-◌, ◌≤◌, Bool, false, List, [], ◌∷◌, ◌++◌, length, map, take, drop, replicate, Option, Some, None, refl, ap, sym, ◌∙◌, arith, Global}
use Rattle.std.specs.Bool.{then_some}
use Rattle.std.specs.Prelude.{option_map, option_and_then, Vec}
use Rattle.std.specs.List.{between, list_all}
use Rattle.std.proofs.lemmas.List.{length-append, length-replicate, length-take-le, map_push, take-append-drop, take-take, take_all}
use Rattle.std.proofs.lemmas.Slice.{between_is}
use Rattle.std.proofs.lemmas.Grind.{common_steps}
use Rattle.resp_core.specs.Reply.{Reply, nil, array_of}
use Rattle.resp_core.specs.View.{view}
use Rattle.resp_core.specs.declared.value.Value.{Value}
use Rattle.cluster_slots.specs.Lists.{all_some}
use Rattle.redis_combiners.specs.ByPlaces.{by_places}
use Rattle.redis_combiners.specs.AllItems.{all_items}
use Rattle.redis_combiners.specs.Spots.{spots_of, filled}
use Rattle.redis_combiners.proofs.Filling.{LastReply, last_reply, filled_both, no_spots, all_spots}
use Rattle.redis_combiners.proofs.Arranging.{filled_is}

-- all spots, once the items of all replies are in them
abbrev pub whole_of : List ℕ → List Reply → Option (List (Option Reply))
whole_of places replies = option_and_then (filled (replicate (length places) None) places) (all_items replies)

-- the items of the replies that are left go to the first places
pub record Left (taken : List Bool) (sorted replies : List Reply) (places : List ℕ) (end : ℕ) (whole : Option (List (Option Reply))) : Type 0 where
  pub items : List Reply
  pub items_are : all_items replies ≡ Some items
  pub long : length items ≡ end
  pub within : end ≤ length places
  pub flags : length taken ≡ length places
  pub spots : length sorted ≡ length places
  pub rest : filled (spots_of taken sorted) (take end places) items ≡ whole

pub left_first : (replies : List Reply) (places : List ℕ) (taken : List Bool) (sorted : List Reply) → option_map length (all_items replies) ≡ Some (length places) → taken ≡ replicate (length places) false → sorted ≡ replicate (length places) nil
    → Left taken sorted replies places (length places) (whole_of places replies)
left_first replies places taken sorted n t s = made (all_items replies) refl n
  where
    made : (o : Option (List Reply)) → all_items replies ≡ o → option_map length o ≡ Some (length places) → Left taken sorted replies places (length places) (whole_of places replies)
    made None e h = absurd (cc)
    made (Some items) e h = record {
      items = items;
      items_are = e;
      long = cc;
      within = omega arith;
      flags = ap length t ∙ length-replicate (length places) false;
      spots = ap length s ∙ length-replicate (length places) nil;
      rest = ap (λ bs. filled (spots_of bs sorted) (take (length places) places) items) t
          ∙ ap (λ xs. filled (spots_of (replicate (length places) false) xs) (take (length places) places) items) s
          ∙ ap (λ spots. filled spots (take (length places) places) items) (no_spots (length places) nil)
          ∙ ap (λ ps. filled (replicate (length places) None) ps items) (take_all (length places) places (omega arith))
          ∙ ap (option_and_then (filled (replicate (length places) None) places)) (sym e);
    }

-- the last of the replies that are left
pub record NextReply (taken : List Bool) (sorted replies items : List Reply) (places : List ℕ) (end n : ℕ) (whole : Option (List (Option Reply))) : Type 0 where
  pub few : n ≤ end
  pub within : end ≤ length places
  pub first : List Reply
  pub first_are : all_items replies ≡ Some first
  pub long : length first ≡ end - n
  pub step : option_and_then (λ later. filled later (take (end - n) places) first) (filled (spots_of taken sorted) (between (end - n) end places) items) ≡ whole

last_items : (taken : List Bool) (sorted : List Reply) (vs ws : List Value) (v : Value) (places : List ℕ) (end : ℕ) (whole : Option (List (Option Reply))) (l : Left taken sorted (map view vs) places end whole) → vs ≡ ws ++ v ∷ []
    → LastReply (map view ws) (view v) l.items
last_items taken sorted vs ws v places end whole l e = last_reply (map view ws) (view v) l.items (ap all_items (sym (map_push view ws v) ∙ ap (map view) (sym e)) ∙ l.items_are)

pub next_is_array : (taken : List Bool) (sorted : List Reply) (vs ws : List Value) (v : Value) (places : List ℕ) (end : ℕ) (whole : Option (List (Option Reply))) → Left taken sorted (map view vs) places end whole → vs ≡ ws ++ v ∷ []
    → None ≡ array_of (view v) → ⊥
next_is_array taken sorted vs ws v places end whole l e none =
    let r : LastReply (map view ws) (view v) l.items = last_items taken sorted vs ws v places end whole l e in
    let is : array_of (view v) ≡ Some r.last = r.last_are in
    cc

pub next_reply : (taken : List Bool) (sorted : List Reply) (vs ws : List Value) (v : Value) (items : List Reply) (places : List ℕ) (end n : ℕ) (whole : Option (List (Option Reply))) → Left taken sorted (map view vs) places end whole → vs ≡ ws ++ v ∷ []
    → Some items ≡ array_of (view v) → n ≡ length items → NextReply taken sorted (map view ws) items places end n whole
next_reply taken sorted vs ws v items places end n whole l e there long =
    let r : LastReply (map view ws) (view v) l.items = last_items taken sorted vs ws v places end whole l e in
    let are : array_of (view v) ≡ Some r.last = r.last_are in
    let same : r.last ≡ items = cc in
    let is : l.items ≡ r.first ++ items = r.is ∙ ap (λ xs. r.first ++ xs) same in
    let both : length r.first + n ≡ end = omega (arith, ap length is, length-append r.first items, l.long, long) in
    let parts : take (end - n) places ++ between (end - n) end places ≡ take end places =
    ap (λ ps. take (end - n) places ++ ps) (between_is places (end - n) end)
    ∙ ap (λ ps. ps ++ drop (end - n) (take end places)) (sym (take-take (end - n) end places (omega arith)))
    ∙ take-append-drop (end - n) (take end places) in
    record {
      few = omega arith;
      within = l.within;
      first = r.first;
      first_are = r.first_are;
      long = omega arith;
      step = sym (filled_both (spots_of taken sorted) (take (end - n) places) (between (end - n) end places) r.first items (length-take-le (end - n) places (omega (arith, l.within)) ∙ omega arith))
          ∙ ap (λ ps. filled (spots_of taken sorted) ps (r.first ++ items)) parts
          ∙ ap (filled (spots_of taken sorted) (take end places)) (sym is)
          ∙ l.rest;
    }

-- no reply is left
pub none_left : (taken : List Bool) (sorted : List Reply) (places : List ℕ) (end : ℕ) (whole : Option (List (Option Reply))) → Left taken sorted [] places end whole → Some (spots_of taken sorted) ≡ whole
none_left taken sorted places end whole l = grind (arith, common_steps)

-- the order of all items, by the spots
pub by_spots : (replies : List Reply) (places : List ℕ) → option_map length (all_items replies) ≡ Some (length places) → option_and_then (by_places places) (all_items replies) ≡ option_and_then all_some (whole_of places replies)
by_spots replies places n = grind (arith, common_steps, filled_is)

pub spots_as_items : (taken : List Bool) (sorted : Vec Value Global) → length taken ≡ length (map view sorted.items) → option_map (λ v. map view v.items) (then_some (list_all (λ bit. bit) taken) sorted) ≡ all_some (spots_of taken (map view sorted.items))
spots_as_items taken sorted n = grind (arith, common_steps, all_spots)
