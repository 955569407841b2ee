use Rattle.std.proofs.Common.{◌<◌, length, refl, arith}
use Rattle.std.proofs.lemmas.Option.{slice_get_read}
use Rattle.session_core.specs.State.{State}
use Rattle.session_machine.proofs.Trimming.{trim_kept}
use Rattle.session_machine.proofs.machine.Machine.trim.Goals as goal

pub index-requires : goal.index-requires
index-requires c =
    let some : 0 < length c.self.inside.calls.items = omega (arith, c.in-Some.ensures.variant.0 refl) in
    omega (arith, some, c.self.invariant.count)

pub invariant_of-self : goal.invariant_of-self
invariant_of-self c =
    let s : State = record { links = c.self.inside.links; first = c.self.inside.first; calls = c.self.inside.calls.items } in
    let some : 0 < length s.calls = omega (arith, c.in-Some.ensures.variant.0 refl) in
    let there = slice_get_read s.calls (length s.calls) 0 c.in-Some.front.now refl some c.in-Some.ensures.lookup in
    let places = c.self.inside.places.items in
    let at = slice_get_read places (length places) 0 c.index.result.now refl (omega (arith, some, c.self.invariant.count)) c.index.ensures in
    trim_kept s c.in-Some.front.now _ c.pop_front.new.self.items c.pop_front-2.new.self.items c.index.result.now c.forget_after.new.self c.self.invariant there (c.is_left.ensures.left c.if-not-is_left.false) refl c.pop_front.ensures.rest c.pop_front-2.ensures.rest at c.forget_after.ensures
