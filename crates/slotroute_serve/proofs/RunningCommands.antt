-- What the driver says of a command, in the words of the program.
use Rattle.std.proofs.Common.{◌≡◌, inl, inr, ℕ, ◌-◌, ◌≤◌, Bool, List, ◌++◌, arith, length-append, Option, None, Some, IfSome, MatchOption, refl, sym, ap, ◌∙◌, subst, take, drop, length, map, is_some}
use Rattle.std.proofs.Math.Path.{fun_ext}
use Rattle.std.proofs.Math.Seq.{drop-append_seam}
use Rattle.std.proofs.lemmas.List.{drop-map, take_rest, length-map}
use Rattle.std.specs.List.{AllZip}
use Rattle.std.proofs.lemmas.Grind.{common_steps}
use Rattle.cluster_map.specs.Address.{Address}
use Rattle.cluster_map.specs.Candidates.{Candidates, IsCandidate}
use Rattle.cluster_map.specs.RangeMap as ranges
use Rattle.cluster_map.specs.RouteNode.{IsNodeOfRoute, IsPicked, IsPickedNode, IsRouteNode}
use Rattle.cluster_map.specs.SlotNodes.{SlotNodes}
use Rattle.cluster_map.specs.SlotRoute.{SlotRoute}
use Rattle.cluster_slots.specs.declared.slot.SlotAddr.{SlotAddr}
use Rattle.memory_nodes.specs.Cells.{Cell}
use Rattle.memory_nodes.specs.Steps.{step}
use Rattle.redis_cluster.specs.Driven.{Request, request, command_routes_by, AreSent, IsDriven}
use Rattle.redis_cluster.specs.State.{State}
use Rattle.redis_cluster.specs.Faults.{EndsOnce, IsFault, WereCutShort, up_to}
use Rattle.redis_cluster.specs.Orders.{NamesOnce}
use Rattle.redis_cluster.specs.Names.{Names, names_of}
use Rattle.redis_cluster.specs.Plan.{Plan}
use Rattle.redis_cluster.specs.Ready.{IsPlanNode}
use Rattle.redis_cluster.specs.Registry.{Registrations}
use Rattle.redis_cluster.specs.Trace.{Entry, Ending, refused, redirected, lost}
use Rattle.redis_cluster.specs.declared.fault.DriveFault.{DriveFault}
use Rattle.redis_cluster.specs.declared.fault.DriveFault.TheVariants as drive
use Rattle.redis_cluster.proofs.CommandParts.{covered_routes}
use Rattle.redis_cluster.proofs.Headline.{last_allowed}
use Rattle.redis_cluster.proofs.Wider.{driven_at, plan_node}
use Rattle.resp_core.specs.Reply.{Reply}
use Rattle.slotroute_serve.specs.Commands.{names_with, AreReadOnly, IsRunNode, IsCommandRun, LeavesAllIfRefused, WhyNotRun}
use Rattle.slotroute_serve.specs.Direction.{send_order}
use Rattle.slotroute_serve.specs.Inner.Direction.{IsOrderOf}
use Rattle.slotroute_serve.specs.Printed.{command_lines}
use Rattle.slotroute_serve.specs.Inner.Refusals.{fault_of_drive}
use Rattle.slotroute_serve.specs.declared.direction.Direction.{Direction}
use Rattle.slotroute_serve.proofs.Ordering.{names_once}

-- what a strategy picks is a candidate
any_pick : (picks : Candidates → Address → Type 0) (nodes : SlotNodes) (slot : ℕ) (addr : SlotAddr) (address : Address) → IsPicked picks nodes slot addr address → IsPicked IsCandidate nodes slot addr address
any_pick picks nodes slot addr address h1 = grind (arith)

pub node_by : {S : Type 0} (strategy : Option S) (picks : S → Candidates → Address → Type 0) (entries : List (ranges.RangeEntry SlotNodes)) (route : SlotRoute) (address : Address) →
    MatchOption strategy (IsNodeOfRoute entries route 0 address) (λ s. IsPickedNode (picks s) entries route address) → IsRunNode (is_some strategy) entries route address
node_by None picks entries route address h = h
node_by (Some s) picks entries route address (nodes, answers, picked) = (nodes, answers, any_pick (picks s) nodes route.slot route.addr address picked)

same_names : (names : List (List ℕ)) (registered : Registrations) → AreReadOnly names → names_of names registered ≡ names_with registered
same_names names registered are = ap (λ (reads : List ℕ → Bool). record { only_reads = reads; registered = registered }) (fun_ext are)

-- what the driver says of a plan that it drove
pub driven_by : {S : Type 0} (strategy : Option S) (picks : S → Candidates → Address → Type 0) (plan : Plan) (names : List (List ℕ)) (registered : Registrations) (words : List (List ℕ)) (entries : List (ranges.RangeEntry SlotNodes)) (order : List ℕ) (old new : State Cell) (value : Reply) → AreReadOnly names
    → AllZip (λ (route : SlotRoute × List ℕ) address. IsRouteNode strategy picks entries 0 route.0 address) plan.split.routes plan.nodes
    → IsDriven (IsPlanNode plan) step (request (map Some words) (names_of names registered) entries order) old new value
    → IsDriven (IsRunNode (is_some strategy) entries) step (request (map Some words) (names_with registered) entries order) old new value
driven_by strategy picks plan names registered words entries order old new value are nodes d =
    driven_at (IsPlanNode plan) (IsRunNode (is_some strategy) entries)
    (λ route address own. node_by strategy picks entries route address (plan_node (IsRouteNode strategy picks entries 0) plan nodes route address own)) step (request (map Some words) (names_with registered) entries order) old new value
    (subst (λ (ns : Names). IsDriven (IsPlanNode plan) step (request (map Some words) ns entries order) old new value) (same_names names registered are) d)

-- the order that is made for a plan's routes is that of the command's
pub plan_order : (direction : Direction) (names : Names) (words : List (List ℕ)) (order : List ℕ) (routes : List (SlotRoute × List ℕ)) → command_routes_by names (map Some words) ≡ Some (map (λ t. t.0) routes) → order ≡ send_order direction (length routes) → IsOrderOf direction names words order
plan_order direction names words order routes are is = grind (arith, common_steps)

-- the order of a command by the read-only names of the program
pub order_with : (direction : Direction) (names : List (List ℕ)) (registered : Registrations) (words : List (List ℕ)) (order : List ℕ) → AreReadOnly names → IsOrderOf direction (names_of names registered) words order → IsOrderOf direction (names_with registered) words order
order_with direction names registered words order are is = subst (λ (ns : Names). IsOrderOf direction ns words order) (same_names names registered are) is

module _ (IsNode : SlotRoute → Address → Type 0) (names : List (List ℕ)) (registered : Registrations) (words : List (List ℕ)) (entries : List (ranges.RangeEntry SlotNodes)) (order : List ℕ) (old new : State Cell) (may_refuse : ℕ → Ending → Type 0) where
  abbrev asked : Request
  asked = request (map Some words) (names_of names registered) entries order

  -- no send ends but with an answer
  no_end : ((count : ℕ) (ending : Ending) → ¬ (may_refuse count ending)) → (fault : DriveFault) (count : ℕ) (ending : Ending) (cut : WereCutShort (AreSent IsNode asked) (EndsOnce IsNode asked) asked old new may_refuse fault count) → ¬ (cut.reach ≡ up_to (Some ending))
  no_end willing fault count ending cut is = let last = last_allowed IsNode step asked old new may_refuse fault count ending cut is in willing last.0 ending last.1

  -- the driver's fault, by the read-only names of the program
  pub why_not_run : AreReadOnly names → ((count : ℕ) (ending : Ending) → ¬ (may_refuse count ending)) → (fault : DriveFault) (count : ℕ) → ¬ (fault ≡ drive.BadOrder)
      → IsFault IsNode step (request (map Some words) (names_of names registered) entries order) old new may_refuse fault count → WhyNotRun registered entries words (fault_of_drive fault)
  why_not_run are willing drive.NotMultiKey count other (inl f) = subst (λ (ns : Names). command_routes_by ns (map Some words) ≡ None) (same_names names registered are) f.0
  why_not_run are willing (drive.NotCovered slot) count other (inl f) = (f.0.0, subst (λ (ns : Names). command_routes_by ns (map Some words) ≡ Some f.0.0) (same_names names registered are) f.0.1, f.0.2)
  why_not_run are willing drive.BadOrder count other f = absurd (other refl)
  why_not_run are willing drive.Memory count other f = tt
  why_not_run are willing (drive.Node error) count other (inl f) = absurd f.0
  why_not_run are willing (drive.Redirected redirect) count other (inl f) = absurd f.0
  why_not_run are willing (drive.Lost error) count other (inl f) = absurd f.0
  why_not_run are willing (drive.Reply error) count other (inl f) = absurd f.0
  why_not_run are willing drive.NotMultiKey count other (inr f) = absurd f.0.reach_is
  why_not_run are willing (drive.NotCovered slot) count other (inr f) = absurd f.0.reach_is
  why_not_run are willing (drive.Node error) count other (inr f) = absurd (no_end willing (drive.Node error) count (refused error) f.0 f.0.reach_is)
  why_not_run are willing (drive.Redirected redirect) count other (inr f) = absurd (no_end willing (drive.Redirected redirect) count (redirected redirect) f.0 f.0.reach_is)
  why_not_run are willing (drive.Lost error) count other (inr f) = absurd (no_end willing (drive.Lost error) count (lost error) f.0 f.0.reach_is)
  why_not_run are willing (drive.Reply error) count other (inr f) = absurd (f.2 error refl)

  -- what the driver refuses before it sends leaves keys and trace, and no node refuses
  pub unsent : ((count : ℕ) (ending : Ending) → ¬ (may_refuse count ending)) → (fault : DriveFault) (count : ℕ)
      → IsFault IsNode step (request (map Some words) (names_of names registered) entries order) old new may_refuse fault count → LeavesAllIfRefused (fault_of_drive fault) old.keyspace new.keyspace old.trace new.trace
  unsent willing drive.NotMultiKey count (inl f) = (ap (λ (n : State Cell). n.keyspace) f.2, ap (λ (n : State Cell). n.trace) f.2)
  unsent willing (drive.NotCovered slot) count (inl f) = (ap (λ (n : State Cell). n.keyspace) f.2, ap (λ (n : State Cell). n.trace) f.2)
  unsent willing drive.BadOrder count (inl f) = (ap (λ (n : State Cell). n.keyspace) f.2, ap (λ (n : State Cell). n.trace) f.2)
  unsent willing drive.Memory count f = tt
  unsent willing (drive.Node error) count (inl f) = absurd f.0
  unsent willing (drive.Redirected redirect) count (inl f) = absurd f.0
  unsent willing (drive.Lost error) count (inl f) = absurd f.0
  unsent willing (drive.Reply error) count (inl f) = absurd f.0
  unsent willing drive.NotMultiKey count (inr f) = absurd f.0.reach_is
  unsent willing (drive.NotCovered slot) count (inr f) = absurd f.0.reach_is
  unsent willing drive.BadOrder count (inr f) = absurd f.0.reach_is
  unsent willing (drive.Node error) count (inr f) = absurd (no_end willing (drive.Node error) count (refused error) f.0 f.0.reach_is)
  unsent willing (drive.Redirected redirect) count (inr f) = absurd (no_end willing (drive.Redirected redirect) count (redirected redirect) f.0 f.0.reach_is)
  unsent willing (drive.Lost error) count (inr f) = absurd (no_end willing (drive.Lost error) count (lost error) f.0 f.0.reach_is)
  unsent willing (drive.Reply error) count (inr f) = absurd (f.2 error refl)

  -- an order of the direction is not refused
  pub good_order : (direction : Direction) (fault : DriveFault) (count : ℕ) → IsOrderOf direction (names_of names registered) words order
      → IsFault IsNode step (request (map Some words) (names_of names registered) entries order) old new may_refuse fault count → ¬ (fault ≡ drive.BadOrder)
  good_order direction fault count is f bad = by_cut (subst (λ (x : DriveFault). IsFault IsNode step asked old new may_refuse x count) bad f)
    where
      by_cut : IsFault IsNode step asked old new may_refuse drive.BadOrder count → ⊥
      by_cut (inr cut) = cut.0.reach_is
      by_cut (inl early) =
          let routes : List SlotRoute = early.0.0 in
          let ordered : order ≡ send_order direction (length routes) = subst (λ (found : Option (List SlotRoute)). IfSome found (λ rs. order ≡ send_order direction (length rs))) (covered_routes asked routes early.0.1 early.0.2) is in
          early.0.3 (subst (λ (o : List ℕ). NamesOnce (length routes) o) (sym ordered) (names_once direction (length routes)))

-- the routes of a driven command are those that its order was made for
order_is : (direction : Direction) (registered : Registrations) (words : List (List ℕ)) (order : List ℕ) (routes : List SlotRoute) → IsOrderOf direction (names_with registered) words order → command_routes_by (names_with registered) (map Some words) ≡ Some routes → order ≡ send_order direction (length routes)
order_is direction registered words order routes is are = subst (λ (found : Option (List SlotRoute)). IfSome found (λ rs. order ≡ send_order direction (length rs))) are is

-- A command that was driven, whose new entries and whose reply make the text, was run.
pub command_run : (handed : Bool) (direction : Direction) (registered : Registrations) (entries : List (ranges.RangeEntry SlotNodes)) (words : List (List ℕ)) (old new : State Cell) (order : List ℕ) (answer : Reply) (text : List ℕ) → IsOrderOf direction (names_with registered) words order
    → IsDriven (IsRunNode handed entries) step (request (map Some words) (names_with registered) entries order) old new answer → text ≡ command_lines (drop (length old.trace) new.trace) answer → IsCommandRun handed direction registered entries words old.keyspace new.keyspace text
command_run handed direction registered entries words old new order answer text ordered d lines =
    let was = d.delivered in
    record {
      order = order;
      sent = was.trace.entries;
      answer = answer;
      driven = record {
        delivered = record {
          routes = was.routes;
          command = was.command;
          drivable = was.drivable;
          trace = record { entries = was.trace.entries; grew = refl; each = was.trace.each };
        };
        keyspace = d.keyspace;
        reply = d.reply;
      };
      ordered = order_is direction registered words order was.routes ordered (covered_routes (request (map Some words) (names_with registered) entries order) was.routes was.command was.drivable.is_covered);
      printed = lines ∙ ap (λ sent. command_lines sent answer) (ap (drop (length old.trace)) was.trace.grew ∙ drop-append_seam old.trace was.trace.entries);
    }

-- What a trace got since is what follows its old entries.
pub since : {X Y : Type 0} (f : X → Y) (old new : List X) (was is : List Y) → map f old ≡ was → map f new ≡ is → map f (take (length new - length old) (drop (length old) new)) ≡ drop (length was) is
since f old new was is o n =
    ap (map f) (take_rest new (length old)) ∙ sym (drop-map f (length old) new) ∙ ap (drop (length old)) n ∙ ap (λ k. drop k is) (sym (length-map old f) ∙ ap length o)

-- A trace that grew is no shorter than before.
pub grown : {X : Type 0} (f : X → Entry) (before after : List X) (old new sent : List Entry) → map f before ≡ old → map f after ≡ new → new ≡ old ++ sent → length before ≤ length after
grown f before after old new sent b a g = omega (arith, length-map before f, length-map after f, ap length b, ap length a, ap length g, length-append old sent)

-- A command of these words that was driven was run.
pub words_run : (handed : Bool) (direction : Direction) (registered : Registrations) (entries : List (ranges.RangeEntry SlotNodes)) (words command : List (List ℕ)) (old new : State Cell) (order : List ℕ) (answer : Reply) (text : List ℕ) (sent : List Entry) → command ≡ words
    → IsOrderOf direction (names_with registered) command order → IsDriven (IsRunNode handed entries) step (request (map Some command) (names_with registered) entries order) old new answer → sent ≡ drop (length old.trace) new.trace → text ≡ command_lines sent answer
    → IsCommandRun handed direction registered entries words old.keyspace new.keyspace text
words_run handed direction registered entries words command old new order answer text sent same ordered d since-then lines =
    subst (λ (ws : List (List ℕ)). IsCommandRun handed direction registered entries ws old.keyspace new.keyspace text) same
    (command_run handed direction registered entries command old new order answer text ordered d (lines ∙ ap (λ s. command_lines s answer) since-then))
