use Rattle.std.proofs.Common.{◌≡◌, List, ℕ, Some, Result, Ok, Err, IfOk, map, subst}
use Rattle.std.specs.Prelude.{IfErr, ⊤}
use Rattle.resp_core.specs.Reply.{Reply}
use Rattle.resp_core.specs.View.{view}
use Rattle.resp_core.specs.declared.value.Value.{Value}
use Rattle.redis_cluster.specs.Command.{Arguments}
use Rattle.redis_cluster.specs.Driven.{request}
use Rattle.redis_cluster.specs.State.{state}
use Rattle.redis_cluster.specs.Faults.{IsCut, IsFault}
use Rattle.redis_cluster.specs.Joined.{IsJoined, ReturnsJoined}
use Rattle.redis_cluster.specs.Names.{names_of}
use Rattle.redis_cluster.specs.Registry.{Registrations}
use Rattle.redis_cluster.specs.declared.driver.DriveError.{DriveError}
use Rattle.wire.specs.Commands.{entry_by, replay_commands, AreCommandsKept}
use Rattle.wire.specs.Said.{replies_in}
use Rattle.uses.specs.Client.{IsPrimary}
use Rattle.uses.proofs.client.drive_over.Goals as goal

pub returns-clause-cut : goal.returns-clause-cut
returns-clause-cut g c =
    let old = g.W.Wire.log c.args.client.now.wire in
    let new = g.W.Wire.log c.drive.new.nodes.wire in
    subst
    (λ (names : List (List ℕ)). IfErr c.drive.result (λ error. IsCut (IsPrimary c.args.slot_map.now) (request (map Some c.args.command.now) (names_of names c.args.client.now.registry) c.args.slot_map.now c.args.order.now)
    (state (replay_commands c.args.client.now.registry g.M.Meaning.step g.M.Meaning.took old g.M.Meaning.initial) (map entry_by old) c.args.client.now.mark)
    (state (replay_commands c.drive.new.nodes.registry g.M.Meaning.step g.M.Meaning.took new g.M.Meaning.initial) (map entry_by new) c.drive.new.nodes.mark) (λ count ending. ⊤) error.fault error.answered))
    c.new-none_only_reads.ensures c.drive.ensures.cut

pub returns-clause-fault : goal.returns-clause-fault
returns-clause-fault g c =
    let old = g.W.Wire.log c.args.client.now.wire in
    let new = g.W.Wire.log c.drive.new.nodes.wire in
    subst
    (λ (names : List (List ℕ)). IfErr c.drive.result (λ error. AreCommandsKept c.drive.new.nodes.registry g.M.Meaning.step g.M.Meaning.took new g.M.Meaning.initial
    → IsFault (IsPrimary c.args.slot_map.now) g.M.Meaning.step (request (map Some c.args.command.now) (names_of names c.args.client.now.registry) c.args.slot_map.now c.args.order.now)
    (state (replay_commands c.args.client.now.registry g.M.Meaning.step g.M.Meaning.took old g.M.Meaning.initial) (map entry_by old) c.args.client.now.mark)
    (state (replay_commands c.drive.new.nodes.registry g.M.Meaning.step g.M.Meaning.took new g.M.Meaning.initial) (map entry_by new) c.drive.new.nodes.mark) (λ count ending. ⊤) error.fault error.answered))
    c.new-none_only_reads.ensures c.drive.ensures.fault

-- a reply is what the replies make
of_reply : (registered : Registrations) (args : Arguments) (order : List ℕ) (old new : List Reply → Type 0) (r : Result Value DriveError) → ReturnsJoined registered args order old new r → IfOk r (λ value. IsJoined registered args order old new (Ok (view value)))
of_reply registered args order old new (Ok value) joined = joined
of_reply registered args order old new (Err e) joined = tt

pub returns-clause-joined : goal.returns-clause-joined
returns-clause-joined g c =
    let old = g.W.Wire.log c.args.client.now.wire in
    let new = g.W.Wire.log c.drive.new.nodes.wire in
    of_reply c.args.client.now.registry (map Some c.args.command.now) c.args.order.now (λ replies. replies ≡ replies_in old) (λ replies. replies ≡ replies_in new) c.drive.result c.drive.ensures.joined
