use Rattle.std.proofs.Common.{Result, Ok, Err, IfOk, IfErr, inr, map}
use Rattle.resp_core.specs.View.{view}
use Rattle.redis_routing.specs.Names.{names_of}
use Rattle.redis_cluster.specs.Driven.{request}
use Rattle.wire.specs.Commands.{entry_by}
use Rattle.wire.proofs.Amid.{served_at, leaves_in_order}
use Rattle.wire.proofs.AnsweredSends.{by_delivered, by_cut}
use Rattle.wire.proofs.over.drive_over.Goals as goal

both : {T E : Type 0} (A B P : T → Type 0) (r : Result T E) → ((x : T) → A x → B x → P x) → IfOk r A → IfOk r B → IfOk r P
both A B P (Ok x) f a b = f x a b
both A B P (Err e) f a b = tt

pub returns-clause-amid : goal.returns-clause-amid
returns-clause-amid g c =
    let asked = request (g.R.Routable.args c.args.command.now) (names_of c.args.read_only.now c.args.client.now.registry) c.args.slot_map.now c.args.order.now in
    both _ _ _ c.drive.result
    (λ value delivered amid. served_at g.M.Meaning.Cell asked _ (g.W.Wire.log c.args.client.now.wire) (g.W.Wire.log c.drive.new.nodes.wire) (view value) delivered amid)
    c.drive.ensures.delivered c.drive.ensures.amid

either : {T E : Type 0} (A : T → Type 0) (B : E → Type 0) (P : Type 0) (r : Result T E) → ((x : T) → A x → P) → ((e : E) → B e → P) → IfOk r A → IfErr r B → P
either A B P (Ok x) f g a b = f x a
either A B P (Err e) f g a b = g e b

pub returns-clause-left : goal.returns-clause-left
returns-clause-left g c =
    let asked = request (g.R.Routable.args c.args.command.now) (names_of c.args.read_only.now c.args.client.now.registry) c.args.slot_map.now c.args.order.now in
    let old = g.W.Wire.log c.args.client.now.wire in
    let new = g.W.Wire.log c.drive.new.nodes.wire in
    leaves_in_order g.M.Meaning.Cell asked old new
    (either _ _ _ c.drive.result
    (λ value delivered. inr (by_delivered _ asked (map entry_by old) (map entry_by new) delivered))
    (λ e cut. by_cut _ asked _ _ _ e.fault e.answered cut)
    c.drive.ensures.delivered c.drive.ensures.cut)
