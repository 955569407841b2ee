use Rattle.std.proofs.Common.{◌≡◌, ◌-◌, ◌++◌, ◌∙◌, length, map, arith, ap, sym}
use Rattle.resp_core.specs.Reply.{array, replies_of}
use Rattle.resp_core.specs.View.{view}
use Rattle.resp_core.proofs.Views.{view-Array}
use Rattle.resp_core.proofs.Copying.{inside-Array, length-rest, take-rest, drop-rest}
use Rattle.resp_core.proofs.value.copying.copy_over.Goals as goal

pub overflow_sub-start : goal.overflow_sub-start
overflow_sub-start c =
    let items = c.in-Array.items in
    let ends = c.requires.1 ∙ ap (λ rs. c.requires.0 ++ rs) (inside-Array c.args.value.now items c.in-Array.is) in
    omega (arith, length-rest c.args.copies.now.items c.requires.0 items.items ends)

pub returns-in_ok-split_off-in-Array-clause-copied :
    goal.returns-in_ok-split_off-in-Array-clause-copied
returns-in_ok-split_off-in-Array-clause-copied c =
    let items = c.in-Array.items in
    let copies = c.args.copies.now.items in
    let copy = c.in_ok-split_off-in-Array in
    let ends = c.requires.1 ∙ ap (λ rs. c.requires.0 ++ rs) (inside-Array c.args.value.now items c.in-Array.is) in
    let start : c.len.result - c.len-in-Array.result ≡ length copies - length items.items = omega arith in
    let same = ap (map view) copy.ensures.tail ∙ drop-rest copies c.requires.0 items.items _ ends start in
    view-Array copy.field-0 ∙ ap (λ rs. array (replies_of rs)) same ∙ sym (view-Array items) ∙ sym (ap view c.in-Array.is)

pub returns-in_ok-split_off-in-Array-clause-rest :
    goal.returns-in_ok-split_off-in-Array-clause-rest
returns-in_ok-split_off-in-Array-clause-rest c = λ rest e.
    let items = c.in-Array.items in
    let copies = c.args.copies.now.items in
    let ends = e ∙ ap (λ rs. rest ++ rs) (inside-Array c.args.value.now items c.in-Array.is) in
    let start : c.len.result - c.len-in-Array.result ≡ length copies - length items.items = omega arith in
    ap (map view) c.in_ok-split_off-in-Array.ensures.items ∙ take-rest copies rest items.items _ ends start
