use Rattle.std.proofs.Common.{◌≡◌, [], None, Some, lit<, ap, ◌∙◌, length, arith, rules}
use Rattle.std.proofs.lemmas.Bool.Decides.{nat_tests}
use Rattle.std.proofs.lemmas.List.{nil_from_length}
use Rattle.std.proofs.lemmas.Str.Pattern.{strip_prefix_char}
use Rattle.cluster_slots.specs.Number.{number_in}
use Rattle.redis_routing.specs.RedirectText.{unknown_host}
use Rattle.redis_routing.proofs.RedirectTexts.{no_node, no_port, no_host, no_answering}
use Rattle.redis_routing.proofs.redirect.node_in.Goals as goal

pub returns-in_err-strip_prefix : goal.returns-in_err-strip_prefix
returns-in_err-strip_prefix c =
    rw c.from_residual.ensures (no_node c.args.answering.now c.args.text.now c.in_default.ensures.refused.1
    (strip_prefix_char 58 c.args.text.now None c.in_err-strip_prefix.ensures.cases (lit< tt)))

pub returns-in_err-port : goal.returns-in_err-port
returns-in_err-port c =
    rw c.from_residual-in_err-port.ensures (no_port c.args.answering.now c.args.text.now c.in_ok-strip_prefix.field-0.now c.in_default.ensures.refused.1
    (strip_prefix_char 58 c.args.text.now (Some c.in_ok-strip_prefix.field-0) c.in_ok-strip_prefix.ensures.cases (lit< tt)) (c.in_err-port.ensures ∙ ap (number_in 16) c.as_bytes.ensures.value))

pub returns-then-eq : goal.returns-then-eq
returns-then-eq c =
    let same : c.in-Ok.host.now ≡ unknown_host = search (rules, c.if-eq.ensures) in
    no_host c.args.answering.now c.args.text.now c.in-Ok.host.now c.in-Ok.port c.in-Ok.ensures.read same

pub returns-then-is_empty : goal.returns-then-is_empty
returns-then-is_empty c =
    let none : length c.args.answering.now ≡ 0 = grind (arith, nat_tests) in
    let empty : c.args.answering.now ≡ [] = nil_from_length c.args.answering.now none in
    no_answering c.args.answering.now c.args.text.now c.in_default.ensures.refused.1 empty
