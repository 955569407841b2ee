-- Reading answers one after the other, as a loop does.
use Rattle.std.proofs.Common.{◌≡◌, ℕ, suc, ◌-◌, ◌+◌, ◌≤◌, ◌<◌, List, ◌++◌, Result, Ok, Err, refl, sym, ap, ◌∙◌, append_assoc, arith}
use Rattle.std.proofs.lemmas.Grind.{common_steps}
use Rattle.resp.specs.declared.fault.Fault.{Fault}
use Rattle.resp.specs.declared.fault.ReadError.{ReadError}
use Rattle.resp.specs.declared.fault.ReadError.TheVariants as errors
use Rattle.resp.specs.Forms.{Answer, answer_before, answer_after}
use Rattle.resp.specs.Reading.{◌>>=◌, Fails, Items, times_at}

abbrev items_append : Items → Items → Items
items_append (Err text) others = Err text
items_append (Ok rs) (Ok others) = Ok (rs ++ others)
items_append (Ok rs) (Err text) = Err text

-- what was read before, and what is still read
abbrev pub with_front : Items → Result (Items × List ℕ) Fault → Result (Items × List ℕ) Fault
with_front front read = read >>= λ x. Ok (items_append front x.0, x.1)

one_more : (front : Items) (a : Answer) (others : Items) → items_append front (answer_before a others) ≡ items_append (answer_after front a) others
one_more front a others = grind (arith, append_assoc)

regroup : (front : Items) (a : Answer) (read : Result (Items × List ℕ) Fault) → with_front front (read >>= λ x. Ok (answer_before a x.0, x.1)) ≡ with_front (answer_after front a) read
regroup front a (Ok x) = ap (λ (items : Items). Ok (items, x.1)) (one_more front a x.0)
regroup front a (Err f) = refl

module _ (read : List ℕ → Result (Answer × List ℕ) Fault) where
  pub goes_on : (front : Items) (count i : ℕ) (bytes : List ℕ) (a : Answer) (after : List ℕ) (total : Result (Items × List ℕ) Fault) → i < count → read bytes ≡ Ok (a, after)
      → with_front front (times_at read (count - i) bytes) ≡ total → with_front (answer_after front a) (times_at read (count - (i + 1)) after) ≡ total
  unfolding times_at
  goes_on front count i bytes a after total lt h so_far =
      let k : count - i ≡ suc (count - (i + 1)) = omega arith in
      let one : with_front front (times_at read (count - i) bytes) ≡ with_front (answer_after front a) (times_at read (count - (i + 1)) after) = rw (k, h) (regroup front a (times_at read (count - (i + 1)) after)) in
      sym one ∙ so_far

  pub ends : (e : ReadError) (front : Items) (count i : ℕ) (bytes : List ℕ) (total : Result (Items × List ℕ) Fault) → i < count → Fails e (read bytes)
      → with_front front (times_at read (count - i) bytes) ≡ total → Fails e total
  unfolding times_at
  ends errors.Memory front count i bytes total lt h so_far = tt
  ends (errors.Fault f) front count i bytes total lt h so_far =
      let k : count - i ≡ suc (count - (i + 1)) = omega arith in
      let one : with_front front (times_at read (count - i) bytes) ≡ Err f = rw (k, h) refl in
      sym so_far ∙ one

  pub is_done : (front : Items) (count i : ℕ) (bytes : List ℕ) (total : Result (Items × List ℕ) Fault) → count ≤ i → with_front front (times_at read (count - i) bytes) ≡ total → total ≡ Ok (front, bytes)
  unfolding times_at
  is_done front count i bytes total le so_far = grind (arith, common_steps)
