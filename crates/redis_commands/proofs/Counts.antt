-- Counts of keys add up, and so do lists of keys.
use Rattle.std.proofs.Common.{◌≡◌, ◌+◌, ℕ, ℤ, pos, ◌+ℤ◌, Bool, true, ◌&&◌, cond, inl, inr, List, [], ◌∷◌, ◌++◌, map, fold, length, Option, Some, None, refl, sym, ap, subst, ◌∙◌, arith}
use Rattle.std.proofs.lemmas.Grind.{common_steps}
use Rattle.std.specs.Prelude.{is_some, option_map}
use Rattle.std.proofs.lemmas.List.{length-append}
use Rattle.std.proofs.lemmas.Option.{none-some, same_Some}
use Rattle.resp_core.specs.Answer.{Answer}
use Rattle.resp_core.specs.Reply.{Reply, int}
use Rattle.redis_combiners.specs.Aggregate.{numbers, in_i64, sum_of, aggregate_of}
use Rattle.cluster_slots.specs.declared.aggregate_op.AggregateOp.TheVariants.{Sum}
use Rattle.std.specs.Prelude.{Result, Ok, Err, IfOk}
use Rattle.resp_core.specs.ErrorParts.{ErrorParts}
use Rattle.resp_core.specs.View.{view}
use Rattle.resp_core.specs.declared.value.Value.{Value}
use Rattle.cluster_slots.specs.Address.{Address}
use Rattle.cluster_map.specs.EachOnce.{primaries_in}
use Rattle.cluster_map.specs.RangeMap.{RangeEntry}
use Rattle.cluster_map.specs.SlotNodes.{SlotNodes}
use Rattle.redis_routing.specs.declared.policy.ResponsePolicy.TheVariants.{Aggregate}
use Rattle.redis_combiners.specs.Answers.{values_in, first_error}
use Rattle.redis_commands.specs.Policy.{or_refused, reply_by_policy}
use Rattle.redis_commands.specs.Rule.{ReplyRule, by_policy, IsCombined}
use Rattle.redis_commands.proofs.Whole.{whole_keyspace}
use Rattle.redis_cluster.specs.Unsplit.{Keyspace}
use Rattle.redis_commands.specs.Keyspaces.{IsServed, AreMeasures, counted_answer, IsAdditive, AreKeysOf, HasCount, joined_measures}

-- whether a key counts
abbrev counts : Bool → Option (Unit {0}) → ℕ
counts wanted cell = cond (wanted && is_some cell) 1 0

pub lists_add : (wanted : List ℕ → Bool) → IsAdditive (AreKeysOf wanted) [] ◌++◌
lists_add wanted = grind (arith, common_steps)

pub counts_add : IsAdditive HasCount 0 ◌+◌
counts_add =
    let lists = lists_add (λ key. true) in
    record {
      empty = λ keyspace none. ([], lists.empty keyspace none, refl);
      apart = λ one other both x y apart hx hy.
          (hx.0 ++ hy.0, lists.apart one other both hx.0 hy.0 apart hx.1 hy.1, length-append hx.0 hy.0 ∙ ap (λ n. n + length hy.0) hx.2 ∙ ap (λ n. x + n) hy.2);
    }

abbrev as_reply : ℕ → Reply
as_reply n = int (pos n)

numbers_are : (ns : List ℕ) → numbers (map as_reply ns) ≡ Some (map pos ns)
numbers_are [] = refl
numbers_are (n ∷ ns) = ap (option_map (λ zs. pos n ∷ zs)) (numbers_are ns)

fold_pos : (a : ℕ) (ns : List ℕ) → fold ◌+ℤ◌ (pos a) (map pos ns) ≡ pos (a + joined_measures 0 ◌+◌ ns)
fold_pos a [] = ap pos (omega arith)
fold_pos a (n ∷ ns) = grind (arith, common_steps, fold_pos (a + n) ns)

in_i64_is : (n : ℤ) (m : ℤ) → in_i64 n ≡ Some m → n ≡ m
in_i64_is n m h = grind (arith, common_steps)

int_is : (o : Option ℤ) (value : Reply) → option_map int o ≡ Some value → (m : ℤ) × (o ≡ Some m) × (value ≡ int m)
int_is None value h = absurd (none-some value h)
int_is (Some m) value h = (m, refl, sym (same_Some (int m) value h))

-- the sum of counts is the whole count, where it fits
pub sum_is : (ns : List ℕ) (value : Reply) → aggregate_of Sum (map as_reply ns) ≡ Some value → value ≡ int (pos (joined_measures 0 ◌+◌ ns))
sum_is ns value h = grind (arith, common_steps, int_is (sum_of (map as_reply ns)) value h, numbers_are ns, in_i64_is, fold_pos 0 ns)

no_errors : (ns : List ℕ) → first_error (map counted_answer ns) ≡ None
no_errors [] = refl
no_errors (n ∷ ns) = no_errors ns

counts_are : (ns : List ℕ) → values_in (map counted_answer ns) ≡ map as_reply ns
counts_are [] = refl
counts_are (n ∷ ns) = ap (λ rs. as_reply n ∷ rs) (counts_are ns)

pub made_some : (o : Option Reply) (value : Reply) → or_refused o ≡ Ok value → o ≡ Some value
made_some None value h = let u : or_refused None ≡ Ok value = h in absurd (cc)
made_some (Some r) value h = let u : Ok r ≡ Ok value = h in cc

-- what is made of counts is the count of the whole
of_counts : (targets : List Address) (ns : List ℕ) (value : Reply) → reply_by_policy (Some (Aggregate Sum)) targets (map counted_answer ns) ≡ Ok value → value ≡ int (pos (joined_measures 0 ◌+◌ ns))
of_counts targets ns value made = grind (arith, common_steps, no_errors, counts_are, sum_is, made_some)

pub counted : (rule : ReplyRule) (targets : List Address) (answers : List Answer) (entries : List (RangeEntry SlotNodes)) (keyspace : Keyspace (Unit {0})) (ns : List ℕ) (result : Result Value ErrorParts) →
    IsCombined rule targets answers result → rule ≡ by_policy (Some (Aggregate Sum)) → IsServed entries keyspace →
    AreMeasures HasCount entries keyspace (primaries_in entries) ns → answers ≡ map counted_answer ns →
    IfOk result (λ value. (count : ℕ) × (view value ≡ int (pos count)) × HasCount keyspace count)
counted rule targets answers entries keyspace ns (Err error) made is served each told = tt
counted rule targets answers entries keyspace ns (Ok value) made is served each told =
    let whole = subst (λ answers. IsCombined (by_policy (Some (Aggregate Sum))) targets answers (Ok value)) told (subst (λ r. IsCombined r targets answers (Ok value)) is made) in
    elim whole [
      | inl memory ↦ absurd (cc (memory.0))
      | inr reply ↦ (joined_measures 0 ◌+◌ ns, of_counts targets ns (view value) reply, whole_keyspace HasCount 0 ◌+◌ counts_add entries keyspace served ns each)
    ]
