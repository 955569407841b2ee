use Rattle.std.proofs.Common.{◌≡◌, ℕ, Option, Ok, Err, OnSome, subst, sym, ◌∙◌, arith}
use Rattle.std.proofs.lemmas.List.Sorted.{searched}
use Rattle.std.specs.List.{remove}
use Rattle.session_core.proofs.Ascending.{rises, removed, not_removed, without_head}
use Rattle.session_core.proofs.sorted_places.take_place.Goals as goal

pub returns-then-is_first-clause-items : goal.returns-then-is_first-clause-items
returns-then-is_first-clause-items c = c.pop_front.ensures.rest ∙ sym (without_head c.args.place c.args.places.now.items c.requires (c.is_first.ensures c.if-is_first.true))

pub returns-in-Ok-clause-items : goal.returns-in-Ok-clause-items
returns-in-Ok-clause-items c =
    let xs = c.args.places.now.items in
    let s = searched xs c.args.place (Ok c.in-Ok.index) c.in-Ok.ensures.position (rises xs c.requires) in
    subst (λ (r : Option ℕ). OnSome r (c.remove.new.self.items ≡ remove xs c.in-Ok.index)) (c.remove.ensures.succeeds 0 (omega (arith, s.0))) c.remove.ensures.items
    ∙ removed c.args.place c.in-Ok.index xs c.requires s.0 s.1

pub returns-in_default-clause-items : goal.returns-in_default-clause-items
returns-in_default-clause-items c =
    let xs = c.args.places.now.items in
    let s = searched xs c.args.place (Err c.in_default.field-0) c.in_default.ensures.position (rises xs c.requires) in
    sym (not_removed c.args.place c.in_default.field-0 xs s.1 s.2)
