use Rattle.std.proofs.Common.{◌∷◌, [], ◌++◌, ◌<◌, length, refl, ap, arith, rules}
use Rattle.resp_core.specs.Freeing.{steps_in_value}
use Rattle.resp_core.specs.declared.value.Value.{Nil}
use Rattle.resp_core.proofs.Views.{view-Nil}
use Rattle.resp_core.proofs.Freeing.{steps_above-pairs, steps_above-Map, steps_in_value-not_nil}
use Rattle.resp_core.proofs.value.Value.or_key.Goals as goal

pub returns-in-Nil : goal.returns-in-Nil
returns-in-Nil c =
    let items = c.args.items in
    let h : 0 < length items.items = search rules in
    omega (arith, steps_above-pairs items.items (c.args.key, c.args.self) h, steps_above-Map items items.items refl)

pub returns-in_default : goal.returns-in_default
returns-in_default c =
    let items = c.args.items.items in
    let h : 0 < length items = search rules in
    let with_nil = items ++ (c.args.key, Nil) ∷ [] in
    omega (
      arith,
      steps_above-pairs items (c.args.key, c.args.self) h,
      steps_above-pairs items (c.args.key, Nil) h,
      steps_above-Map c.push_reserved.new.self with_nil (search rules),
      ap steps_in_value view-Nil,
      steps_in_value-not_nil c.args.self c.in_default.not-Nil,
    )
