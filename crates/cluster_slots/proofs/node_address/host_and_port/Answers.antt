use Rattle.std.proofs.Common.{arith, ◌≡◌, length, Some, None, ◌<◌, ap}
use Rattle.std.proofs.lemmas.Bool.Decides.{nat_tests}
use Rattle.std.proofs.lemmas.List.{nil_from_length}
use Rattle.cluster_slots.proofs.AddressTexts.{at_colon, opens, closes, no_colon, no_host, no_port, reads}
use Rattle.cluster_slots.proofs.node_address.host_and_port.Goals as goal

pub returns-in_err-left : goal.returns-in_err-left
returns-in_err-left c = rw c.from_residual.ensures (no_colon c.args.text.now (at_colon c.args.text.now None c.in_err-left.ensures.cases))

pub returns-then-is_empty : goal.returns-then-is_empty
returns-then-is_empty c =
    let cut = at_colon c.args.text.now (Some (c.in_ok-left.left, c.in_ok-left.right)) c.in_ok-left.ensures.cases in
    let start = opens c.in_ok-left.left.now c.trim_start_matches.result.now c.trim_start_matches.ensures.matches in
    let end = closes c.trim_start_matches.result.now c.trim_end_matches-host.result.now c.trim_end_matches-host.ensures.matches in
    let empty : length c.trim_end_matches-host.result.now ≡ 0 = grind (arith, nat_tests, c.is_empty.ensures, c.if-is_empty.true) in
    no_host c.args.text.now c.in_ok-left.left.now c.in_ok-left.right.now c.trim_start_matches.result.now c.trim_end_matches-host.result.now start.0 end.0
    cut start.1 start.2 end.1 end.2 (nil_from_length c.trim_end_matches-host.result.now empty)

pub returns-in_err-port : goal.returns-in_err-port
returns-in_err-port c =
    let cut = at_colon c.args.text.now (Some (c.in_ok-left.left, c.in_ok-left.right)) c.in_ok-left.ensures.cases in
    rw c.from_residual-in_err-port.ensures (no_port c.args.text.now c.in_ok-left.left.now c.in_ok-left.right.now cut c.in_err-port.ensures)

pub returns : goal.returns
returns c =
    let cut = at_colon c.args.text.now (Some (c.in_ok-left.left, c.in_ok-left.right)) c.in_ok-left.ensures.cases in
    let start = opens c.in_ok-left.left.now c.trim_start_matches.result.now c.trim_start_matches.ensures.matches in
    let end = closes c.trim_start_matches.result.now c.trim_end_matches-host.result.now c.trim_end_matches-host.ensures.matches in
    let some : 0 < length c.trim_end_matches-host.result.now = grind (arith, nat_tests, c.is_empty.ensures, c.if-is_empty.false) in
    reads c.args.text.now c.in_ok-left.left.now c.in_ok-left.right.now c.trim_start_matches.result.now c.trim_end_matches-host.result.now start.0 end.0 c.in_ok-port.port
    cut start.1 start.2 end.1 end.2 (λ e. absurd (omega (arith, ap length e, some))) c.in_ok-port.ensures
