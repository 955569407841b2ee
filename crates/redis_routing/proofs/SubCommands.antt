-- A sub-command as far as it is made.
use Rattle.std.proofs.Common.{◌≡◌, ℕ, zero, suc, ◌<◌, ◌+◌, ◌-◌, List, [], ◌∷◌, ◌++◌, Option, None, Some, map, option_map, refl, sym, ap, ◌∙◌, arith}
use Rattle.std.specs.List.{range_with_len}
use Rattle.std.proofs.lemmas.Grind.{common_steps}
use Rattle.redis_routing.specs.Command.{Arguments, argument}
use Rattle.cluster_slots.specs.Lists.{all_some}
use Rattle.redis_routing.specs.SubCommand.{bytes_in, text_len}
pub use Rattle.resp_core.proofs.SoFar.{before, before-more}

-- one text more
pub before_more : (texts : List (List ℕ)) (arg : Option (List ℕ)) (text : List ℕ) (rest : Arguments) → Some text ≡ arg → before (texts ++ text ∷ []) (all_some rest) ≡ before texts (all_some (arg ∷ rest))
before_more texts arg text rest is = sym (before-more texts text (all_some rest)) ∙ ap (λ a. before texts (all_some (a ∷ rest))) is

-- one word of the name more
pub name_more : (args : Arguments) (words place : ℕ) (texts : List (List ℕ)) (text : List ℕ) → place < words → Some text ≡ argument args place
    → before (texts ++ text ∷ []) (all_some (map (λ i. argument args i) (range_with_len (place + 1) (words - (place + 1))))) ≡ before texts (all_some (map (λ i. argument args i) (range_with_len place (words - place))))
name_more args words place texts text inside is =
    let e : words - place ≡ suc (words - (place + 1)) = omega arith in
    before_more texts (argument args place) text (map (λ i. argument args i) (range_with_len (place + 1) (words - (place + 1)))) is ∙ sym (ap (λ n. before texts (all_some (map (λ i. argument args i) (range_with_len place n)))) e)

-- the bytes of one word of the name more
pub name_bytes_more : (args : Arguments) (words place : ℕ) → place < words
    → bytes_in (map (λ i. argument args i) (range_with_len place (words - place))) ≡ text_len (argument args place) + bytes_in (map (λ i. argument args i) (range_with_len (place + 1) (words - (place + 1))))
name_bytes_more args words place inside = grind (arith, suc)

-- texts and others after them, if all are there
abbrev both : Option (List (List ℕ)) → Option (List (List ℕ)) → Option (List (List ℕ))
both None o = None
both (Some texts) o = before texts o

all_some-append : (first rest : Arguments) → all_some (first ++ rest) ≡ both (all_some first) (all_some rest)
all_some-append [] rest = grind (arith, common_steps)
all_some-append (None ∷ first) rest = refl
all_some-append (Some arg ∷ first) rest = grind (arith, common_steps, all_some-append first rest)

pub name_before : (first rest : Arguments) (texts : List (List ℕ)) → Some texts ≡ all_some first → before texts (all_some rest) ≡ all_some (first ++ rest)
name_before first rest texts is = ap (λ o. both o (all_some rest)) is ∙ sym (all_some-append first rest)

pub name_gap : (first rest : Arguments) → None ≡ all_some first → None ≡ all_some (first ++ rest)
name_gap first rest is = ap (λ o. both o (all_some rest)) is ∙ sym (all_some-append first rest)

gap_after : (arg : Option (List ℕ)) (rest : Arguments) → all_some rest ≡ None → all_some (arg ∷ rest) ≡ None
gap_after None rest gap = refl
gap_after (Some text) rest gap = ap (option_map (λ texts. text ∷ texts)) gap

last_gap : (args : Arguments) (start n : ℕ) → argument args (start + n) ≡ None → all_some (map (λ place. argument args place) (range_with_len start (suc n))) ≡ None
last_gap args start zero gap = grind (arith, common_steps)
last_gap args start (suc n) gap =
    let there : argument args ((start + 1) + n) ≡ None = ap (argument args) (omega arith) ∙ gap in
    gap_after (argument args start) (map (λ place. argument args place) (range_with_len (start + 1) (suc n))) (last_gap args (start + 1) n there)

-- the last word of the name is not there
pub no_last_word : (args rest : Arguments) (words : ℕ) → 0 < words → argument args (words - 1) ≡ None → None ≡ all_some (map (λ place. argument args place) (range_with_len 0 words) ++ rest)
no_last_word args rest words h1 h2 = grind (arith, name_gap, last_gap)
