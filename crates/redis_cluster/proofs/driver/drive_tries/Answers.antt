use Rattle.std.proofs.Common.{◌≡◌, ◌<◌, All, inl, inr, length, arith, ap, subst, sym, ◌∙◌, ⊎_elim, map, Err}
use Rattle.redis_cluster.specs.Orders.{in_order}
use Rattle.redis_cluster.proofs.Orders.{length-in_order}
use Rattle.std.proofs.lemmas.List.{length-map}
use Rattle.resp_core.specs.View.{view}
use Rattle.resp_core.specs.ErrorParts.{ErrorParts}
use Rattle.resp_core.specs.declared.error.ErrorKind.{ErrorKind}
use Rattle.redis_cluster.specs.MultiKey.{form_by_policy}
use Rattle.redis_cluster.specs.Unsplit.{results_of}
use Rattle.redis_cluster.proofs.Once.{length-names_once}
use Rattle.redis_routing.specs.Split.{Split}
use Rattle.redis_cluster.specs.Plan.{IsMadeOfParts}
use Rattle.redis_routing.specs.Split.{IsSplit}
use Rattle.redis_cluster.proofs.Amid.{joined_by_plan, served_amid}
use Rattle.redis_cluster.proofs.Ended.{no_reply_fault, memory_is_no_reply, same_reply}
use Rattle.redis_cluster.proofs.Joined.{arrays_make_lists, memory_makes_lists}
use Rattle.redis_cluster.proofs.driver.drive_tries.Goals as goal

pub returns-in-Err-clause-stopped : goal.returns-in-Err-clause-stopped
returns-in-Err-clause-stopped g c =
    let stopped = c.in-Err.ensures.stopped in
    let same : length c.args.order.now ≡ length c.args.plan.split.routes = length-names_once (length c.args.plan.split.routes) c.args.order.now c.requires.order in
    inl (record { error = stopped.0; fault_is = stopped.1; within = omega (arith, c.in-Err.ensures.within, same); stopped = stopped.2 })

pub returns-in-Err-combine-clause-stopped : goal.returns-in-Err-combine-clause-stopped
returns-in-Err-combine-clause-stopped g c =
    let told = c.in_default.ensures.told in
    let failed = c.in-Err-combine.ensures.joined told.values told.all_told in
    let routes : length c.send_all.new.plan.split.routes ≡ length c.args.plan.split.routes = ap (λ (s : Split). length s.routes) c.in_default.ensures.plan in
    ⊎_elim
    (λ memory. inr (inl (record {
      fault_is = memory.1;
      count_is = c.len-answered.ensures.len ∙ routes;
      trace = c.in_default.ensures.trace;
      keyspace = c.in_default.ensures.keyspace;
      form = λ command is.
          let form = ap (λ (s : Split). form_by_policy s.policy) c.in_default.ensures.plan ∙ is.form in
          ⊎_elim
          (λ arrays. arrays_make_lists c.send_all.new.plan.split command.form form arrays.1)
          (λ made. memory_makes_lists c.send_all.new.plan.split command.form (map view told.values) form (subst (λ (k : ErrorKind). IsMadeOfParts c.send_all.new.plan.split (map view told.values) (Err k)) memory.0 made))
          failed;
    })))
    (λ misfit. inr (inr (record {
      error = c.in-Err-combine.error;
      fault_is = misfit.1;
      count_is = c.len-answered.ensures.len ∙ routes;
      trace = c.in_default.ensures.trace;
      misfit = λ now.
          let command = c.requires.command.0 in
          let none = c.in-Err-combine.ensures.unsplit command.form (results_of g.N.Nodes.step command (g.N.Nodes.state c.args.nodes.now).keyspace) (c.in_default.ensures.replies command c.requires.command.1 now) in
          misfit.0 (ap (λ (e : ErrorParts). e.kind) none.0);
    })))
    c.of_combining.ensures

pub returns-in-Ok-clause-joined : goal.returns-in-Ok-clause-joined
returns-in-Ok-clause-joined g c = grind (arith, joined_by_plan, length-map)

pub returns-in-Err-clause-joined : goal.returns-in-Err-clause-joined
returns-in-Err-clause-joined g c = λ error is.
    let stopped = c.in-Err.ensures.stopped in
    absurd (no_reply_fault stopped.0 error (sym stopped.1 ∙ is))

pub returns-in-Err-combine-clause-joined : goal.returns-in-Err-combine-clause-joined
returns-in-Err-combine-clause-joined g c = λ error is.
    let told = c.in_default.ensures.told in
    let nodes = g.N.Nodes in
    let replies = map view told.values in
    let failed = c.in-Err-combine.ensures.joined told.values told.all_told in
    ⊎_elim
    (λ memory. absurd (memory_is_no_reply error (sym memory.1 ∙ is)))
    (λ misfit. joined_by_plan (nodes.registered c.args.nodes.now) c.args.plan c.requires.command.0 c.args.order.now (nodes.gave c.args.nodes.now) (nodes.gave c.send_all.new.nodes) replies c.requires.command.1
    (subst IsSplit c.in_default.ensures.plan c.len-answered.ensures.plan.split) c.requires.order (length-map told.values view ∙ told.each) told.gave (Err error.kind)
    (⊎_elim
    (λ arrays. absurd (misfit.0 (ap (λ (e : ErrorParts). e.kind) arrays.0)))
    (λ made. subst (λ (e : ErrorParts). IsMadeOfParts c.args.plan.split replies (Err e.kind)) (same_reply c.in-Err-combine.error error (sym misfit.1 ∙ is))
    (subst (λ (s : Split). IsMadeOfParts s replies (Err c.in-Err-combine.error.kind)) c.in_default.ensures.plan made))
    failed))
    c.of_combining.ensures

pub returns-in-Err-combine-clause-given : goal.returns-in-Err-combine-clause-given
returns-in-Err-combine-clause-given g c =
    let told = c.in_default.ensures.told in
    let routes : length c.send_all.new.plan.split.routes ≡ length c.args.plan.split.routes = ap (λ (s : Split). length s.routes) c.in_default.ensures.plan in
    let many : length (map view told.values) ≡ length c.args.plan.split.routes = length-map told.values view ∙ told.each in
    let same : length c.args.order.now ≡ length c.args.plan.split.routes = length-names_once (length c.args.plan.split.routes) c.args.order.now c.requires.order in
    let sent = in_order (map view told.values) c.args.order.now in
    let below : All (λ k. k < length (map view told.values)) c.args.order.now = subst (λ n. All (λ k. k < n) c.args.order.now) (sym many) c.requires.order.below in
    record {
      replies = sent;
      each = length-in_order (map view told.values) c.args.order.now below ∙ same ∙ sym routes ∙ sym c.len-answered.ensures.len;
      gave = told.gave;
    }

pub returns-in-Ok-clause-amid : goal.returns-in-Ok-clause-amid
returns-in-Ok-clause-amid g c = grind (arith, served_amid, length-map)
