-- What the tuples of some arguments do, one after the other.
use Rattle.std.proofs.Common.{◌≡◌, ℕ, ◌+◌, ◌-◌, ◌≤◌, List, [], ◌∷◌, Vec, Global, length, take, drop, get_or, refl, sym, ap, ◌∙◌, length-drop, arith}
use Rattle.std.proofs.lemmas.List.{length-map, take-map, drop-map, take_all}
use Rattle.cluster_slots.specs.ArgPattern.{width_of}
use Rattle.cluster_slots.specs.declared.arg_pattern.MultiSlotArgPattern.{MultiSlotArgPattern}
use Rattle.cluster_slots.specs.declared.arg_pattern.MultiSlotArgPattern.TheVariants.{KeysOnly, KeyValuePairs, KeysAndLastArg, KeyWithTwoArgTriples}
use Rattle.redis_cluster.specs.Unsplit.{Act, Keyspace, Outcome, put, after, results}
use Rattle.memory_nodes.specs.Parts.{words, key_tuples}
use Rattle.memory_nodes.specs.Results.{HaveRoom}
use Rattle.memory_nodes.specs.declared.results.Results.{Results}
use Rattle.memory_nodes.specs.declared.results.Results.TheVariants.{Values, Count}
use Rattle.memory_nodes.proofs.KeyTuples.{first_tuple, next-tuple}

module _ {C : Type 0} (act : Act C) (pattern : MultiSlotArgPattern) (xs : List (List ℕ)) (enough : width_of pattern ≤ length xs) (old new : Keyspace C) where
  -- what the first tuple does
  abbrev pub first : Outcome C
  first = act (first_tuple pattern xs) (old (first_tuple pattern xs).key)

  -- the keyspace after it
  abbrev pub IsAfterFirst : Type 0
  IsAfterFirst = new ≡ put (first_tuple pattern xs).key first.cell old

  -- the keyspace after those behind it is the keyspace after all
  pub after-more : IsAfterFirst → after act (key_tuples pattern (drop (width_of pattern) xs)) new ≡ after act (key_tuples pattern xs) old
  after-more is =
      ap (λ ks. after act (key_tuples pattern (drop (width_of pattern) xs)) ks) is
      ∙ sym (ap (λ ts. after act ts old) (next-tuple pattern xs enough))

  -- what it adds stands before what those behind it add
  pub results-more : IsAfterFirst → first.result ∷ results act (key_tuples pattern (drop (width_of pattern) xs)) new ≡ results act (key_tuples pattern xs) old
  results-more is =
      ap (λ ks. first.result ∷ results act (key_tuples pattern (drop (width_of pattern) xs)) ks) is
      ∙ sym (ap (λ ts. results act ts old) (next-tuple pattern xs enough))

-- arguments as the code holds them: the first tuple of those that are left
module _ (rest tuple others : List (Vec ℕ Global)) (width : ℕ) (pattern : MultiSlotArgPattern) (is_width : width ≡ width_of pattern) (enough : width ≤ length rest) (front : tuple ≡ take width rest) (back : others ≡ drop width rest) where
  pub enough_words : width_of pattern ≤ length (words rest)
  enough_words =
      let same : length (words rest) ≡ length rest = length-map rest (λ arg. arg.items) in
      omega (arith, enough, is_width, same)

  words_front : words tuple ≡ take (width_of pattern) (words rest)
  words_front = ap words front ∙ sym (take-map (λ arg. arg.items) width rest) ∙ ap (λ n. take n (words rest)) is_width

  pub words_back : words others ≡ drop (width_of pattern) (words rest)
  words_back = ap words back ∙ sym (drop-map (λ arg. arg.items) width rest) ∙ ap (λ n. drop n (words rest)) is_width

  pub key_is : get_or (words tuple) 0 [] ≡ (first_tuple pattern (words rest)).key
  key_is = ap (λ xs. get_or xs 0 []) words_front ∙ first_of pattern (words rest)
    where
      first_of : (pattern : MultiSlotArgPattern) (xs : List (List ℕ)) → get_or (take (width_of pattern) xs) 0 [] ≡ get_or xs 0 []
      first_of KeysOnly [] = refl
      first_of KeysOnly (x ∷ xs) = refl
      first_of KeyValuePairs [] = refl
      first_of KeyValuePairs (x ∷ xs) = refl
      first_of KeysAndLastArg [] = refl
      first_of KeysAndLastArg (x ∷ xs) = refl
      first_of KeyWithTwoArgTriples [] = refl
      first_of KeyWithTwoArgTriples (x ∷ xs) = refl

  pub extras_are : words (take (length tuple - 1) (drop 1 tuple)) ≡ (first_tuple pattern (words rest)).extras
  extras_are =
      let few : length (drop 1 tuple) ≡ length tuple - 1 = length-drop 1 tuple in
      ap words (take_all (length tuple - 1) (drop 1 tuple) (omega (arith, few))) ∙ sym (drop-map (λ arg. arg.items) 1 tuple) ∙ ap (drop 1) words_front

wide : (pattern : MultiSlotArgPattern) → 1 ≤ width_of pattern
wide KeysOnly = omega arith
wide KeyValuePairs = omega arith
wide KeysAndLastArg = omega arith
wide KeyWithTwoArgTriples = omega arith

-- room for many is room for few
pub room-for : (kept : Results) (few many : ℕ) → few ≤ many → HaveRoom kept many → HaveRoom kept few
unfolding HaveRoom
room-for (Values values) few many less room = omega (arith, less, room)
room-for (Count count) few many less room = omega (arith, less, room)

-- while there are arguments for a tuple, there is one
pub one-left : (pattern : MultiSlotArgPattern) (width rest : ℕ) → width ≡ width_of pattern → width ≤ rest → 1 ≤ rest
one-left pattern width rest is_width enough = let some : 1 ≤ width_of pattern = wide pattern in omega (arith, is_width, enough, some)

-- and those behind it are fewer by one, or more
pub one-less : (pattern : MultiSlotArgPattern) (width rest others : ℕ) → width ≡ width_of pattern → others + width ≡ rest → others + 1 ≤ rest
one-less pattern width rest others is_width cut = let some : 1 ≤ width_of pattern = wide pattern in omega (arith, is_width, cut, some)
