use Rattle.std.proofs.Common.{◌≡◌, ℕ, subst, ◌∷◌, drop, arith}
use Rattle.std.proofs.lemmas.Bool.Decides.{nat_tests}
use Rattle.session_core.proofs.Ascending.{head_read}
use Rattle.session_core.proofs.sorted_places.is_first.Goals as goal

pub returns-in-Some : goal.returns-in-Some
returns-in-Some c = λ same.
    let e : c.in-Some.first.now ≡ c.args.place = grind (arith, nat_tests) in
    subst (λ (n : ℕ). c.args.places.now.items ≡ n ∷ drop 1 c.args.places.now.items) e (head_read c.args.places.now.items c.in-Some.first.now c.in-Some.ensures.item.3.0 c.in-Some.ensures.lookup)
