use Rattle.std.proofs.Common.{ℕ, Result, Ok, Err, OnOk, OnErr, ◌∙◌, arith, subst}
use Rattle.std.proofs.lemmas.List.Sorted.{searched}
use Rattle.session_core.specs.Inner.Lane.{In}
use Rattle.session_core.proofs.Ascending.{rises, inserted, in_at}
use Rattle.session_core.proofs.sorted_places.put_place.Goals as goal

has_room : {X Y P Q : Type 0} (r : Result X Y) → OnOk r P → OnErr r Q → (Q → ⊥) → P
has_room (Ok x) ok err not = ok
has_room (Err x) ok err not = absurd (not err)

pub returns-in-Err-clause-items : goal.returns-in-Err-clause-items
returns-in-Err-clause-items c =
    let xs = c.args.places.now.items in
    let s = searched xs c.args.place (Err c.in-Err.index) c.in-Err.ensures.position (rises xs c.requires.ascends) in
    has_room c.insert.result c.insert.ensures.items c.insert.ensures.full (λ full. omega (arith, full, c.requires.room))
    ∙ inserted c.args.place c.in-Err.index xs s.0 s.1 s.2

pub returns-in_default-clause-items : goal.returns-in_default-clause-items
returns-in_default-clause-items c =
    let xs = c.args.places.now.items in
    let s = searched xs c.args.place (Ok c.in_default.field-0) c.in_default.ensures.position (rises xs c.requires.ascends) in
    absurd (c.requires.absent (subst (λ (n : ℕ). In n xs) s.1 (in_at xs c.in_default.field-0 s.0)))
