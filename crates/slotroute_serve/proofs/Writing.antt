-- Bytes that grow in steps.
use Rattle.std.proofs.Common.{◌≡◌, ℕ, ◌+◌, ◌-◌, ◌≤◌, List, ◌++◌, append_assoc, sym, ◌∙◌, ap, arith, length, take, drop}
use Rattle.std.proofs.Math.Seq.{take-add, take-length}
use Rattle.std.proofs.lemmas.List.{length-drop}
use Rattle.std.specs.Prelude.{Option, Some, None}
use Rattle.std.specs.Io.KnownBytes.{Appends}

pub grows : (old mid new : Option (List ℕ)) (a b ab : List ℕ) → Appends old mid a → Appends mid new b → ab ≡ a ++ b → Appends old new ab
grows None mid new a b ab h k e = tt
grows (Some x) None new a b ab h k e = absurd h
grows (Some x) (Some y) None a b ab h k e = absurd k
grows (Some x) (Some y) (Some z) a b ab h k e = k ∙ ap (λ t. t ++ b) h ∙ append_assoc x a b ∙ ap (λ t. x ++ t) (sym e)

rest_all : (d : ℕ) (text : List ℕ) → take (length text - d) (drop d text) ≡ drop d text
rest_all d text = let e : take (length (drop d text)) (drop d text) ≡ drop d text = take-length (drop d text) in rw length-drop at e

pub written : (d n : ℕ) (text : List ℕ) → take (d + n) text ≡ take d text ++ take n (take (length text - d) (drop d text))
written d n text = take-add d n text ∙ ap (λ t. take d text ++ take n t) (sym (rest_all d text))

pub fits : (d n : ℕ) (text : List ℕ) → d ≤ length text → n ≤ length (take (length text - d) (drop d text)) → d + n ≤ length text
fits d n text h k = let e : n ≤ length text - d = rw (rest_all d text, length-drop) at k in omega arith
