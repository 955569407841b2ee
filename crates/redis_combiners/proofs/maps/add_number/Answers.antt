use Rattle.std.proofs.Common.{to_z, of_z, ◌≡◌, ◌∙◌, ap, true, ◌+ℤ◌, rules, set}
use Rattle.std.specs.Int.{w128}
use Rattle.std.specs.Str.{bytes_eq}
use Rattle.std.proofs.lemmas.Int.{to_z-of_z}
use Rattle.redis_combiners.specs.KeyNumbers.{KeyNumber}
use Rattle.redis_combiners.specs.Totals.{total_at}
use Rattle.redis_combiners.proofs.ByKey.{total_set}
use Rattle.redis_combiners.proofs.maps.add_number.Goals as goal

pub returns-in_ok-total-inside-in-Some : goal.returns-in_ok-total-inside-in-Some
returns-in_ok-total-inside-in-Some c q =
    let es = c.args.totals.now.items in
    let total : KeyNumber = c.in-Some.total.now in
    let there = c.in-Some.ensures.item in
    let viewed = c.total.view_is in
    let tested = c.has_key.ensures in
    let given = c.deref.ensures in
    let same : bytes_eq total.0 c.args.key.items ≡ true = search rules in
    let sum : to_z w128 (of_z w128 c.in_ok-total-inside-in-Some.field-0) ≡ total.1 +ℤ c.args.number = search (rules, to_z-of_z) in
    rw sum (ap (λ t. total_at q (set es c.args.place (t.0, total.1 +ℤ c.args.number))) viewed ∙ total_set es c.args.place total c.args.key.items c.args.number there.3.0 (there.3.1 total) same q)
