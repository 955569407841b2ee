use Rattle.std.proofs.Common.{◌≡◌, [], ◌∷◌, List, Bool, Ok, Option, None, Some, ap, map, subst, arith}
use Rattle.std.proofs.lemmas.Grind.{common_steps}
use Rattle.std.specs.Prelude.{IfSome, ⊤}
use Rattle.resp_core.specs.View.{view}
use Rattle.redis_cluster.specs.State.{State, state}
use Rattle.redis_cluster.specs.Faults.{IsCut, IsFault}
use Rattle.redis_cluster.specs.Joined.{IsJoined}
use Rattle.redis_cluster.specs.MultiKey.{MultiKey, multi_key}
use Rattle.redis_cluster.specs.Registry.{Registrations}
use Rattle.redis_cluster.specs.Trace.{Entry}
use Rattle.redis_cluster.specs.Unsplit.{Keyspace, keyspace_after, reply_to}
use Rattle.redis_cluster.specs.declared.driver.DriveError.{DriveError}
use Rattle.wire.specs.Commands.{SaidCommand, entry_by, replay_commands}
use Rattle.wire.specs.Said.{replies_in}
use Rattle.uses.specs.Client.{asked, IsPrimary}
use Rattle.uses.specs.declared.client.ClientFault.{ClientFault}
use Rattle.uses.specs.declared.client.ClientFault.TheVariants.{Write, Read}
use Rattle.uses.proofs.client.write_and_read.Goals as goal

pub returns-in-Ok-clause-once : goal.returns-in-Ok-clause-once
returns-in-Ok-clause-once g c = grind (arith, common_steps)

pub returns-in-Ok-clause-joined : goal.returns-in-Ok-clause-joined
returns-in-Ok-clause-joined g c =
    let before = replies_in (g.W.Wire.log c.drive_over.new.client.wire) in (
      before,
      subst (λ (registered : Registrations). IsJoined registered (map Some c.args.read.now) (1 ∷ 0 ∷ []) (λ replies. replies ≡ before) (λ replies. replies ≡ replies_in (g.W.Wire.log c.drive_over-2.new.client.wire)) (Ok (view c.in-Ok.value))) c.drive_over.ensures.registered c.in-Ok.ensures.joined,
    )

-- the error that a fault has
abbrev error_of : ClientFault → DriveError → DriveError
error_of (Write error) other = error
error_of (Read error) other = error

-- what follows from what is known of a value, where there is one
if_some : {X : Type 0} (found : Option X) (P Q : X → Type 0) → ((x : X) → P x → Q x) → IfSome found P → IfSome found Q
if_some None P Q so known = tt
if_some (Some x) P Q so known = so x known

pub returns-in-Err-clause-written_so_far : goal.returns-in-Err-clause-written_so_far
returns-in-Err-clause-written_so_far g c =
    λ error is kept.
    let slots = c.args.slot_map.now in
    let step = g.M.Meaning.step in
    let state_of : Registrations → List SaidCommand → Bool → State g.M.Meaning.Cell = λ registered log mark. state (replay_commands registered step g.M.Meaning.took log g.M.Meaning.initial) (map entry_by log) mark in
    let old = state_of c.args.client.now.registry (g.W.Wire.log c.args.client.now.wire) c.args.client.now.mark in
    let new = state_of c.drive_over.new.client.registry (g.W.Wire.log c.drive_over.new.client.wire) c.drive_over.new.client.mark in
    let stop = c.in-Err.error in
    let same : stop ≡ error = ap (λ fault. error_of fault error) is in
    subst (λ (e : DriveError). IsFault (IsPrimary slots) step (asked slots c.args.client.now.registry c.args.write.now (0 ∷ 1 ∷ [])) old new (λ count ending. ⊤) e.fault e.answered) same (c.in-Err.ensures.fault kept)

pub returns-in-Err-drive_over-clause-not_read : goal.returns-in-Err-drive_over-clause-not_read
returns-in-Err-drive_over-clause-not_read g c =
    λ error is.
    let slots = c.args.slot_map.now in
    let state_of : Registrations → List SaidCommand → Bool → State g.M.Meaning.Cell = λ registered log mark. state (replay_commands registered g.M.Meaning.step g.M.Meaning.took log g.M.Meaning.initial) (map entry_by log) mark in
    let between = state_of c.drive_over.new.client.registry (g.W.Wire.log c.drive_over.new.client.wire) c.drive_over.new.client.mark in
    let last = state_of c.drive_over-2.new.client.registry (g.W.Wire.log c.drive_over-2.new.client.wire) c.drive_over-2.new.client.mark in
    let stop = c.in-Err-drive_over.error in
    let same : stop ≡ error = ap (λ fault. error_of fault error) is in
    let cut =
    subst (λ (registered : Registrations). IsCut (IsPrimary slots) (asked slots registered c.args.read.now (1 ∷ 0 ∷ [])) between last (λ count ending. ⊤) stop.fault stop.answered) c.drive_over.ensures.registered c.in-Err-drive_over.ensures.cut in (
      between,
      c.in_default.ensures.once,
      subst (λ (e : DriveError). IsCut (IsPrimary slots) (asked slots c.args.client.now.registry c.args.read.now (1 ∷ 0 ∷ [])) between last (λ count ending. ⊤) e.fault e.answered) same cut,
    )

pub returns-in-Err-drive_over-clause-written : goal.returns-in-Err-drive_over-clause-written
returns-in-Err-drive_over-clause-written g c =
    λ error is kept.
    let slots = c.args.slot_map.now in
    let step = g.M.Meaning.step in
    let keys : List SaidCommand → Keyspace g.M.Meaning.Cell = λ log. replay_commands c.args.client.now.registry step g.M.Meaning.took log g.M.Meaning.initial in
    let old = keys (g.W.Wire.log c.args.client.now.wire) in
    let middle = keys (g.W.Wire.log c.drive_over.new.client.wire) in
    let between = map entry_by (g.W.Wire.log c.drive_over.new.client.wire) in
    let mark = c.drive_over.new.client.mark in
    let last = state (replay_commands c.drive_over-2.new.client.registry step g.M.Meaning.took (g.W.Wire.log c.drive_over-2.new.client.wire) g.M.Meaning.initial) (map entry_by (g.W.Wire.log c.drive_over-2.new.client.wire)) c.drive_over-2.new.client.mark in
    let stop = c.in-Err-drive_over.error in
    let same : stop ≡ error = ap (λ fault. error_of fault error) is in
    let Read : Registrations → Type 0 = λ registered.
    IsFault (IsPrimary slots) step (asked slots registered c.args.read.now (1 ∷ 0 ∷ []))
    (state (replay_commands registered step g.M.Meaning.took (g.W.Wire.log c.drive_over.new.client.wire) g.M.Meaning.initial) between mark)
    (state (replay_commands c.drive_over-2.new.client.registry step g.M.Meaning.took (g.W.Wire.log c.drive_over-2.new.client.wire) g.M.Meaning.initial) (map entry_by (g.W.Wire.log c.drive_over-2.new.client.wire)) c.drive_over-2.new.client.mark) (λ count ending. ⊤) stop.fault stop.answered in
    let of_read = subst Read c.drive_over.ensures.registered (c.in-Err-drive_over.ensures.fault kept) in
    let of_error =
    subst (λ (e : DriveError). IsFault (IsPrimary slots) step (asked slots c.args.client.now.registry c.args.read.now (1 ∷ 0 ∷ [])) (state middle between mark) last (λ count ending. ⊤) e.fault e.answered) same of_read in
    let Written : Registrations → MultiKey → Type 0 = λ registered whole. (view c.in_default.field-0 ≡ reply_to step whole old)
    × (replay_commands registered step g.M.Meaning.took (g.W.Wire.log c.drive_over.new.client.wire) g.M.Meaning.initial ≡ keyspace_after step whole old) in
    let written =
    subst (λ (registered : Registrations). IfSome (multi_key c.args.client.now.registry (map Some c.args.write.now)) (Written registered)) c.drive_over.ensures.registered (c.in_default.ensures.as_one (c.in-Err-drive_over.ensures.kept kept)) in
    let Left : MultiKey → Type 0 = λ set. (between : List Entry) × (mark : Bool) × IsFault (IsPrimary slots) step (asked slots c.args.client.now.registry c.args.read.now (1 ∷ 0 ∷ [])) (state (keyspace_after step set old) between mark) last (λ count ending. ⊤) error.fault error.answered in
    if_some (multi_key c.args.client.now.registry (map Some c.args.write.now)) (Written c.args.client.now.registry) Left
    (λ set both. (between, mark, subst (λ (ks : Keyspace g.M.Meaning.Cell). IsFault (IsPrimary slots) step (asked slots c.args.client.now.registry c.args.read.now (1 ∷ 0 ∷ [])) (state ks between mark) last (λ count ending. ⊤) error.fault error.answered) both.1 of_error)) written
