-- Lists of keys, joined into one array, list the keys of the whole keyspace.
use Rattle.std.proofs.Common.{◌≡◌, ℕ, Bool, List, [], ◌∷◌, ◌++◌, map, Some, None, refl, ap, subst, ◌∙◌, inl, inr, arith}
use Rattle.std.proofs.lemmas.Grind.{common_steps}
use Rattle.std.specs.Prelude.{option_map, Result, Ok, Err, IfOk}
use Rattle.resp_core.specs.Answer.{Answer}
use Rattle.resp_core.specs.ErrorParts.{ErrorParts}
use Rattle.resp_core.specs.Reply.{Reply, array, bulk, replies_of, array_of}
use Rattle.resp_core.specs.View.{view}
use Rattle.resp_core.specs.declared.value.Value.{Value}
use Rattle.cluster_slots.specs.Address.{Address}
use Rattle.cluster_map.specs.EachOnce.{primaries_in}
use Rattle.cluster_map.specs.RangeMap.{RangeEntry}
use Rattle.cluster_map.specs.SlotNodes.{SlotNodes}
use Rattle.redis_combiners.specs.AllItems.{all_items}
use Rattle.cluster_slots.specs.Lists.{all_some, flatten}
use Rattle.redis_routing.specs.declared.policy.ResponsePolicy.TheVariants.{CombineArrays}
use Rattle.redis_cluster.specs.Unsplit.{Keyspace}
use Rattle.redis_combiners.specs.Answers.{values_in, first_error}
use Rattle.redis_commands.specs.Policy.{reply_by_policy}
use Rattle.redis_commands.specs.Rule.{ReplyRule, by_policy, IsCombined}
use Rattle.redis_commands.specs.Keyspaces.{IsServed, AreMeasures, AreKeysOf, listed_answer, joined_measures}
use Rattle.redis_commands.proofs.Counts.{lists_add, made_some}
use Rattle.redis_commands.proofs.Whole.{whole_keyspace}
use Rattle.resp_core.proofs.Views.{items_in-replies_of}

abbrev joined_lists : List (List (List ℕ)) → List (List ℕ)
joined_lists ls = joined_measures [] ◌++◌ ls

no_errors : (ls : List (List (List ℕ))) → first_error (map listed_answer ls) ≡ None
no_errors [] = refl
no_errors (l ∷ ls) = no_errors ls

arrays_are : (ls : List (List (List ℕ))) → all_some (map array_of (values_in (map listed_answer ls))) ≡ Some (map (map bulk) ls)
arrays_are [] = refl
arrays_are (l ∷ ls) = grind (arith, common_steps, items_in-replies_of, arrays_are ls)

map_append : (xs ys : List (List ℕ)) → map bulk xs ++ map bulk ys ≡ map bulk (xs ++ ys)
map_append [] ys = refl
map_append (x ∷ xs) ys = ap (λ rs. bulk x ∷ rs) (map_append xs ys)

flat_are : (ls : List (List (List ℕ))) → flatten (map (map bulk) ls) ≡ map bulk (joined_lists ls)
flat_are [] = refl
flat_are (l ∷ ls) = ap (λ rs. map bulk l ++ rs) (flat_are ls) ∙ map_append l (joined_lists ls)

items_of : (ls : List (List (List ℕ))) → all_items (values_in (map listed_answer ls)) ≡ Some (map bulk (joined_lists ls))
items_of ls = ap (option_map flatten) (arrays_are ls) ∙ ap Some (flat_are ls)

some_is : (a b : Reply) → Some a ≡ Some b → b ≡ a
some_is a b h = cc

-- what is made of lists of keys lists the keys of the whole
of_lists : (targets : List Address) (ls : List (List (List ℕ))) (value : Reply) → reply_by_policy (Some CombineArrays) targets (map listed_answer ls) ≡ Ok value → value ≡ array (replies_of (map bulk (joined_lists ls)))
of_lists targets ls value made = grind (arith, common_steps, no_errors, items_of, some_is, made_some)

pub listed : (rule : ReplyRule) (targets : List Address) (answers : List Answer) (wanted : List ℕ → Bool) (entries : List (RangeEntry SlotNodes)) (keyspace : Keyspace (Unit {0})) (ls : List (List (List ℕ))) (result : Result Value ErrorParts) →
    IsCombined rule targets answers result → rule ≡ by_policy (Some CombineArrays) → IsServed entries keyspace →
    AreMeasures (AreKeysOf wanted) entries keyspace (primaries_in entries) ls → answers ≡ map listed_answer ls →
    IfOk result (λ value. (keys : List (List ℕ)) × (view value ≡ array (replies_of (map bulk keys))) × AreKeysOf wanted keyspace keys)
listed rule targets answers wanted entries keyspace ls (Err error) made is served each told = tt
listed rule targets answers wanted entries keyspace ls (Ok value) made is served each told =
    let whole = subst (λ answers. IsCombined (by_policy (Some CombineArrays)) targets answers (Ok value)) told (subst (λ r. IsCombined r targets answers (Ok value)) is made) in
    elim whole [
      | inl memory ↦ absurd (cc (memory.0))
      | inr reply ↦ (joined_lists ls, of_lists targets ls (view value) reply, whole_keyspace (AreKeysOf wanted) [] ◌++◌ (lists_add wanted) entries keyspace served ls each)
    ]
