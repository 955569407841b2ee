use Rattle.std.proofs.Common.{◌≡◌, ◌++◌, ℕ, List, length, map, drop}
use Rattle.std.specs.List.{AllByRecursion}
use Rattle.resp_core.specs.Reply.{Reply, replies_of}
use Rattle.resp.specs.Forms.{form, forms, IsBulkOrNil}
use Rattle.resp.proofs.items.push_items.Given as goal

-- the items so far stand at the front, and those of an array are followed by the others
abbrev pub invariant-loop : goal.invariant-loop
invariant-loop l = record {
  values : List Reply;
  many : length values ≡ l.counter;
  are : AllByRecursion IsBulkOrNil values;
  front : l.initial.rest ≡ forms (replies_of values) ++ l.rest;
  pushed : map (λ item. item.now) l.items.items ≡ map (λ item. item.now) l.fn.items.items ++ map form values;
  only : (all : List Reply) (tail : List ℕ) → AllByRecursion IsBulkOrNil all → length all ≡ l.count → l.initial.rest ≡ forms (replies_of all) ++ tail → l.rest ≡ forms (replies_of (drop l.counter all)) ++ tail;
}
