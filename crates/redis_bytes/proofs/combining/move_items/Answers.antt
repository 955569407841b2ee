use Rattle.std.proofs.Common.{ℕ, Option, Some, None, Result, Ok, Err, Vec, Global, arith}
use Rattle.std.specs.Prelude.{IfOk, IfSome}
use Rattle.redis_bytes.specs.Merged.{IsOneArray}
use Rattle.redis_bytes.proofs.Combined.{one_array_combined}
use Rattle.redis_bytes.proofs.combining.move_items.Goals as goal

weaker : {A E : Type 0} (P Q : A → Type 0) (r : Result (Option A) E) → ((x : A) → P x → Q x) → IfOk r (λ o. IfSome o P) → IfOk r (λ o. IfSome o Q)
weaker P Q (Ok (Some x)) f h = f x h
weaker P Q (Ok None) f h = h
weaker P Q (Err e) f h = h

pub returns-in_ok-places-in-CombineArrays-clause-combined : goal.returns-in_ok-places-in-CombineArrays-clause-combined
returns-in_ok-places-in-CombineArrays-clause-combined g c = grind (arith, weaker, one_array_combined)

pub returns-in_ok-places-in-CombineArrays-clause-split : goal.returns-in_ok-places-in-CombineArrays-clause-split
returns-in_ok-places-in-CombineArrays-clause-split g c =
    weaker (λ (bytes : Vec ℕ Global). IsOneArray c.len.result c.deref.result.now c.args.replies.now bytes.items) _ c.merge_arrays.result (λ bytes one. c.places_in.ensures.split) c.merge_arrays.ensures
