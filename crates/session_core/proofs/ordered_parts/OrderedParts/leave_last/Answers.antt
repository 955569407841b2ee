use Rattle.std.proofs.Common.{◌≡◌, ◌-◌, ◌+◌, ◌<◌, ℕ, List, length, get_or, take, Some, sym, subst, ap, ◌∙◌, arith}
use Rattle.std.proofs.lemmas.Option.{same_Some}
use Rattle.session_core.specs.declared.ordered_part.OrderedPart.{OrderedPart}
use Rattle.session_core.specs.declared.ordered_part.Status.TheVariants.{Waits, Unsent}
use Rattle.session_core.specs.Order.{Order, ordered_at}
use Rattle.session_core.specs.Inner.Tied.{IsTied, IsLastOpen}
use Rattle.session_core.proofs.Places.{at_within, at_read}
use Rattle.session_core.proofs.OrderTies.{tied_left, becomes}
use Rattle.session_core.proofs.ordered_parts.OrderedParts.leave_last.Goals as goal

-- the part that the code reads is the last, and waits
record IsRead (order : Order) (last : ℕ) (p : OrderedPart) : Type 0 where
  end : order.first + last + 1 ≡ order.first + length order.parts
  there : ordered_at (order.first + last) order ≡ Some p
  waits : p.status ≡ Waits

some : (order own : Order) → order ≡ own → IsLastOpen own → 0 < length order.parts
some order own view last =
    let l : IsLastOpen order = subst IsLastOpen (sym view) last in
    let w = at_within (order.first + (length order.parts - 1)) order.first order.parts l.0 l.1 in
    omega (arith, w.1)

seen : (order own : Order) (last : ℕ) (p : OrderedPart) → order ≡ own → IsLastOpen own → last ≡ length order.parts - 1 → p ≡ get_or order.parts last p → IsRead order last p
seen order own last p view waits is read =
    let l : IsLastOpen order = subst IsLastOpen (sym view) waits in
    let w = some order own view waits in
    let index : order.first + last - order.first ≡ last = omega arith in
    let e = at_read (order.first + last) order.first order.parts p (omega arith) (omega (arith, is, w)) (read ∙ ap (λ i. get_or order.parts i p) (sym index)) in
    record {
      end = omega (arith, is, w);
      there = e;
      waits = ap (λ (x : OrderedPart). x.status) (same_Some p l.0 (sym e ∙ ap (λ n. ordered_at (order.first + n) order) is ∙ l.1)) ∙ l.2;
    }

pub overflow_sub-last : goal.overflow_sub-last
overflow_sub-last c = let s = c.self.inside in let w = some (record { first = s.first; parts = s.parts.items }) c.args.self.now c.self.view_is c.requires in omega (arith, w, c.len-last.ensures)

pub index-requires : goal.index-requires
index-requires c = let s = c.self.inside in let w = some (record { first = s.first; parts = s.parts.items }) c.args.self.now c.self.view_is c.requires in omega (arith, w, c.len-last.ensures)

pub overflow_add-place : goal.overflow_add-place
overflow_add-place c = let s = c.self.inside in let w = some (record { first = s.first; parts = s.parts.items }) c.args.self.now c.self.view_is c.requires in omega (arith, w, c.len-last.ensures, c.self.invariant.sorted.fits)

pub change-requires : goal.change-requires
change-requires c = λ slot is.
    let s = c.self.inside in
    let r = seen (record { first = s.first; parts = s.parts.items }) c.args.self.now (c.len-last.result - 1) c.index.result.now c.self.view_is c.requires (omega (arith, c.len-last.ensures)) c.index.ensures in
    becomes (record { first = s.first; parts = s.parts.items }) s.open_parts s.bars.items (s.first + (c.len-last.result - 1)) slot Unsent c.index.result.now c.self.invariant r.there is (c.index.result.now, r.there, r.waits)

pub invariant_of-self : goal.invariant_of-self
invariant_of-self c =
    let s = c.self.inside in
    let is : c.len-last.result - 1 ≡ length s.parts.items - 1 = omega (arith, c.len-last.ensures) in
    let r = seen (record { first = s.first; parts = s.parts.items }) c.args.self.now (c.len-last.result - 1) c.index.result.now c.self.view_is c.requires is c.index.ensures in
    subst (λ (ps : List OrderedPart). IsTied (record { first = s.first; parts = ps }) c.change.new.self c.leave_bars.new.bars.items) (sym (c.truncate.ensures.items ∙ ap (λ n. take n s.parts.items) is))
    (subst (λ (ns : List ℕ). IsTied (record { first = s.first; parts = take (length s.parts.items - 1) s.parts.items }) c.change.new.self ns) (sym c.leave_bars.ensures)
    (tied_left (record { first = s.first; parts = s.parts.items }) s.open_parts c.change.new.self s.bars.items (s.first + (c.len-last.result - 1)) c.index.result.now c.self.invariant r.end r.there r.waits c.change.ensures))
