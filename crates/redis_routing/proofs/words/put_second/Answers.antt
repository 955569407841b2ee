use Rattle.std.proofs.Common.{◌≡◌, ℕ, ◌+◌, ◌<◌, List, ◌∷◌, ◌++◌, ap, sym, ◌∙◌, arith, length, take, drop, set, append_assoc}
use Rattle.std.proofs.Math.Seq.{take-append_seam}
use Rattle.std.proofs.lemmas.Grind.{take-set_at}
use Rattle.std.proofs.lemmas.List.{length-append, length-map, length-take-le}
use Rattle.redis_routing.specs.Upper.{upper}
use Rattle.redis_routing.proofs.words.put_second.Goals as goal

-- what two lists begin with that stand at the front
taken : (n : ℕ) (first second rest : List ℕ) → n ≡ length first + length second → take n (first ++ second ++ rest) ≡ first ++ second
taken n first second rest is =
    ap (λ k. take k (first ++ second ++ rest)) (is ∙ sym (length-append first second))
    ∙ take-append_seam (first ++ second) rest

-- a name, a space and a word in upper case
joined : (room now word : List ℕ) (len : ℕ) → len < length room → now ≡ take (len + 1) (set room len 32) ++ upper word ++ drop (len + 1 + length word) (set room len 32)
    → take (len + 1 + length word) now ≡ take len room ++ 32 ∷ upper word
joined room now word len inside is = grind (arith, take-set_at, length-take-le, length-append, taken, length-map, append_assoc)

pub returns-clause-name : goal.returns-clause-name
returns-clause-name c = joined c.args.room.now c.put_upper_case.new.room c.args.word.now c.args.len (omega arith) c.put_upper_case.ensures
