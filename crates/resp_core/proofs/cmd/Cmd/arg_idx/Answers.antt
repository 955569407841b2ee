use Rattle.std.proofs.Common.{◌≤◌, length, sym, arith}
use Rattle.std.proofs.lemmas.Option.{slice_get_past}
use Rattle.resp_core.proofs.ItemEnds.{length-items_at, bounds-at, slice_get-items_at}
use Rattle.resp_core.proofs.cmd.Cmd.arg_idx.Goals as goal
use Rattle.resp_core.proofs.cmd.Cmd.arg_idx.Goals.{After-deref-3}

pub returns-in_err-end-clause-item : goal.returns-in_err-end-clause-item
returns-in_err-end-clause-item c =
    let past = rw c.deref.ensures.value at c.in_err-end.ensures.lookup.3 in
    let count = length-items_at 0 c.self.inside.ends.items c.self.inside.bytes.items in
    rw (c.from_residual.ensures, ← c.self.view_is) (sym (slice_get_past _ c.args.index (omega (arith, past, count))))

pub returns-in_err-end-clause-few : goal.returns-in_err-end-clause-few
returns-in_err-end-clause-few c = rw (← c.self.view_is) (grind (arith, length-items_at))

pub returns-clause-few : goal.returns-clause-few
returns-clause-few c = rw (← c.self.view_is) (grind (arith, length-items_at))

-- the item starts no later than it ends, and ends within the bytes
lies : (c : After-deref-3) → (c.start_of-start.result ≤ c.in_ok-end.field-0.now) × (c.in_ok-end.field-0.now ≤ length c.deref-3.result.now)
lies c =
    let found = rw c.deref.ensures.value at c.in_ok-end.ensures.lookup.3 in
    rw (c.start_of-start.ensures, c.deref-2.ensures.value, c.deref-3.ensures.value, found.1 0) (bounds-at _ _ c.args.index c.self.invariant found.0)

pub slice_bounds-result-count : goal.slice_bounds-result-count
slice_bounds-result-count c = (lies c).0

pub slice_bounds-result-start : goal.slice_bounds-result-start
slice_bounds-result-start c = let h = lies c in omega (arith, h.0, h.1)

pub slice_bounds-result-end : goal.slice_bounds-result-end
slice_bounds-result-end c = let h = lies c in omega (arith, h.0, h.1)

pub returns-clause-item : goal.returns-clause-item
returns-clause-item c =
    let found = rw c.deref.ensures.value at c.in_ok-end.ensures.lookup.3 in
    rw (← c.self.view_is, c.deref-3.ensures.value, c.start_of-start.ensures, c.deref-2.ensures.value, found.1 0) (sym (slice_get-items_at _ _ c.args.index c.self.invariant found.0))
