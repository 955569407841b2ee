-- Where parts were sent by `ASK`.
use Rattle.std.proofs.Common.{◌≡◌, ◌∙◌, ℕ, Bool, true, false, cond, Option, None, refl, arith}
use Rattle.std.specs.BTreeMap.{BTreeMap, UpdatesBy, is_at}
use Rattle.std.specs.Ordering.{is_eq, nat_cmp, ordering_then}
use Rattle.std.specs.declared.cmp.Ordering.{Ordering}
use Rattle.std.specs.declared.cmp.Ordering.TheVariants.{Less, Equal, Greater}
use Rattle.std.proofs.lemmas.Bool.Decides.{nat_tests}
use Rattle.redis_session.specs.Asks.{Asks, KeepsOtherAsks, SetsAsk, asked_node, seat_cmp}

both : (r s : Ordering) → is_eq (ordering_then r s) ≡ true → (is_eq r ≡ true) × (is_eq s ≡ true)
both Less s is = absurd (cc is)
both Equal s is = (refl, is)
both Greater s is = absurd (cc is)

same_number : (a b : ℕ) → is_eq (nat_cmp a b) ≡ true → b ≡ a
same_number a b is = grind (arith, nat_tests)

-- the test of a part finds no other one
pub another : (call part c p : ℕ) → ((c ≡ call) × (p ≡ part) → ⊥) → is_at (seat_cmp (call, part)) (c, p) ≡ false
another call part c p ne = by (is_at (seat_cmp (call, part)) (c, p)) refl
  where
    by : (b : Bool) → is_at (seat_cmp (call, part)) (c, p) ≡ b → b ≡ false
    by true is = let it = both (nat_cmp call c) (nat_cmp part p) is in absurd (ne (same_number call c it.0, same_number part p it.1))
    by false is = refl

at_other : (b : Bool) (value old : Option ℕ) → b ≡ false → cond b value old ≡ old
at_other true value old is = absurd (cc is)
at_other false value old is = refl

pub sets_ask : (call part : ℕ) (node : Option ℕ) (old new : BTreeMap (ℕ × ℕ) ℕ) → UpdatesBy seat_cmp (seat_cmp (call, part)) old new node → SetsAsk call part node old.entries new.entries
sets_ask call part node old new updates = record {
  is = updates.1;
  others = λ c p ne. updates.0 (c, p) ∙ at_other (is_at (seat_cmp (call, part)) (c, p)) node (asked_node c p old.entries) (another call part c p ne);
}

pub others_on : (call part : ℕ) (value : Option ℕ) (old mid new : Asks) → KeepsOtherAsks call old mid → SetsAsk call part value mid new → KeepsOtherAsks call old new
others_on call part value old mid new first then c p ne = then.others c p (λ same. ne same.0) ∙ first c p ne

-- a part that was sent somewhere is sent nowhere then
pub unset : (call part : ℕ) (value : Option ℕ) (old mid new : Asks) → SetsAsk call part value old mid → SetsAsk call part None mid new → SetsAsk call part None old new
unset call part value old mid new first then = record { is = then.is; others = λ c p ne. then.others c p ne ∙ first.others c p ne }
