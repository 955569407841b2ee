use Rattle.std.proofs.Common.{◌≡◌, ◌++◌, ℕ, List}
use Rattle.std.specs.Prelude.{◌≢◌}
use Rattle.std.proofs.lemmas.Bool.Decides.{Decides-eqb}
use Rattle.std.proofs.lemmas.Slice.Eq.{strip_prefix_is}
use Rattle.resp_core.specs.Reply.{nil, bulk}
use Rattle.resp.specs.Forms.{form}
use Rattle.resp.proofs.RequestGrammar.{bulk_front}
use Rattle.resp.proofs.ArrayItems.{no_item, only_after_bulk, only_after_nil}
use Rattle.resp.proofs.items.after_item.Goals as goal

pub returns-in-Some-clause-found : goal.returns-in-Some-clause-found
returns-in-Some-clause-found c =
    let stripped = strip_prefix_is Decides-eqb c.args.bytes.now c.as_slice.result.now c.strip_prefix.result c.strip_prefix.ensures.cases in
    let prefix : c.as_slice.result.now ≡ form nil = c.as_slice.ensures in
    let is : c.args.bytes.now ≡ form nil ++ c.in-Some.rest.now = rw (c.in-Some.is, prefix) at stripped in
    (nil, tt, is)

pub returns-in-Some-clause-only : goal.returns-in-Some-clause-only
returns-in-Some-clause-only c = λ value rest item same.
    let stripped = strip_prefix_is Decides-eqb c.args.bytes.now c.as_slice.result.now c.strip_prefix.result c.strip_prefix.ensures.cases in
    let prefix : c.as_slice.result.now ≡ form nil = c.as_slice.ensures in
    let is : c.args.bytes.now ≡ form nil ++ c.in-Some.rest.now = rw (c.in-Some.is, prefix) at stripped in
    only_after_nil c.args.bytes.now c.in-Some.rest.now is value rest item same

pub returns-in-Ok-clause-found : goal.returns-in-Ok-clause-found
returns-in-Ok-clause-found c =
    let word = c.in-Ok.field-0-0.now in
    let front = bulk_front c.args.bytes.now c.in-Ok.rest.now word c.in-Ok.ensures in
    (bulk word, front.1, front.0)

pub returns-in-Ok-clause-only : goal.returns-in-Ok-clause-only
returns-in-Ok-clause-only c = λ value rest item same.
    only_after_bulk c.args.bytes.now c.in-Ok.field-0-0.now c.in-Ok.rest.now c.in-Ok.ensures value rest item same

pub returns-in-Err-clause-only : goal.returns-in-Err-clause-only
returns-in-Err-clause-only c = λ value rest item same.
    let stripped = strip_prefix_is Decides-eqb c.args.bytes.now c.as_slice.result.now c.strip_prefix.result c.strip_prefix.ensures.cases in
    let prefix : c.as_slice.result.now ≡ form nil = c.as_slice.ensures in
    let other : (more : List ℕ) → c.args.bytes.now ≢ form nil ++ more = rw (c.in_default.is, prefix) at stripped in
    no_item c.args.bytes.now c.in-Err.field-0 c.in-Err.ensures other value rest item same
