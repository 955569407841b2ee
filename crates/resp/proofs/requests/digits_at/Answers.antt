use Rattle.std.proofs.Common.{◌≡◌, ◌≢◌, ◌<◌, ◌≤◌, ◌^◌, ℕ, List, length, Ok, true, false, ◌&&◌, eqb, ltb, get_or, refl, sym, ap, ◌∙◌, arith}
use Rattle.std.proofs.lemmas.Grind.{common_steps}
use Rattle.std.proofs.lemmas.Bool.Decides.{nat_tests}
use Rattle.resp.proofs.NumberLines.{digit_goes_on, digits_end, digits_stop, digit_low, digits_run_out}
use Rattle.resp.proofs.requests.digits_at.Goals as goal
use Rattle.resp.proofs.requests.digits_at.Goals.{else-index-gt0-via-then-index-gt0+else-b-eq13, else-index-gt0-via-else-index-gt0}

pub returns-then-b-eq13 : goal.returns-then-b-eq13
returns-then-b-eq13 c =
    let i = c.loop-index.index in
    let bytes = c.args.bytes.now in
    let n = c.loop-index.number in
    let lt : i < length bytes = omega arith in
    let some : ltb 0 i ≡ true = grind (arith, nat_tests) in
    sym c.loop-index.invariant.0
    ∙ digits_end (2 ^ 63) n i bytes lt (ltb 0 i) c.in_default.ensures some c.if-b-eq13.true
    ∙ ap (λ (t : List ℕ). Ok (n, t)) (sym c.split_at.ensures.back)

last_fails : (i b : ℕ) → b ≢ 13 → (ltb 0 i && eqb b 13) ≡ false
last_fails i b other = grind (arith, common_steps)

first_fails : (i b : ℕ) → i ≤ 0 → (ltb 0 i && eqb b 13) ≡ false
first_fails i b none =
    let f : ltb 0 i ≡ false = grind (arith, nat_tests) in
    rw f refl

pub returns-in_default : goal.returns-in_default
returns-in_default c =
    let i = c.loop-index.index in
    let bytes = c.args.bytes.now in
    let b = get_or bytes i 0 in
    let lt : i < length bytes = omega arith in
    let stops : (ltb 0 i && eqb b 13) ≡ false = elim c.else-index-gt0.branch [
      | else-index-gt0-via-then-index-gt0+else-b-eq13 w ↦ last_fails i b w.if-b-eq13.false
      | else-index-gt0-via-else-index-gt0 w ↦ first_fails i b w.if-index-gt0.false
    ] in
    sym c.loop-index.invariant.0 ∙ digits_stop (2 ^ 63) c.loop-index.number i bytes lt (ltb 0 i) c.in_default.ensures stops

pub loop-index-preserved : goal.loop-index-preserved
loop-index-preserved c = grind (arith, common_steps, digit_goes_on, digit_low)

pub returns : goal.returns
returns c =
    let le : length c.args.bytes.now ≤ c.loop-index.index = omega arith in
    sym c.loop-index.invariant.0 ∙ digits_run_out (2 ^ 63) c.loop-index.number c.loop-index.index (ltb 0 c.loop-index.index) c.args.bytes.now le
