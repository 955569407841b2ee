use Rattle.std.proofs.Common.{◌≡◌, ◌<◌, ◌+◌, ◌∷◌, [], ◌++◌, ◌∙◌, ℕ, List, Vec, Global, Some, arith, rules, ap, subst, sym, length, get_or, map, take}
use Rattle.std.proofs.lemmas.List.{get_or-map, length-map, map_more}
use Rattle.cluster_slots.specs.SlotRoute.{SlotRoute}
use Rattle.redis_routing.specs.RoutingInfo.{route_list, route_lists}
use Rattle.redis_routing.specs.Split.{slots_of, split_part}
use Rattle.redis_bytes.specs.Requests.{AreWritten}
use Rattle.redis_bytes.proofs.Ends.{at_slot, parts_more, written_more}
use Rattle.redis_bytes.proofs.splitting.parts_of.Goals as goal

-- the first routes, with the next
routes_more : (items : List (SlotRoute × Vec ℕ Global)) (routes : List (SlotRoute × List ℕ)) (n : ℕ) (next : SlotRoute × Vec ℕ Global) → route_lists items ≡ routes → n < length routes → next ≡ get_or items n next
    → map (λ r. r.0) (take n routes) ++ next.0 ∷ [] ≡ map (λ r. r.0) (take (n + 1) routes)
routes_more items routes n next are lt is =
    let inside : n < length items = omega (arith, lt, ap length are, length-map items route_list) in
    let here : get_or routes n (route_list next) ≡ route_list next = ap (λ l. get_or l n (route_list next)) (sym are) ∙ get_or-map route_list items n next (route_list next) inside ∙ ap route_list (sym is) in
    ap (λ r. map (λ r. r.0) (take n routes) ++ r.0 ∷ []) (sym here) ∙ sym (map_more (λ r. r.0) routes n (route_list next) lt)

pub loop-number-preserved : goal.loop-number-preserved
loop-number-preserved c =
    let split = c.args.split.now in
    let slots = slots_of split.routes in
    let n = c.loop-number.number in
    let whole = c.in_ok-push_part.ensures.part in
    let part = whole.0 in
    let more = c.push_part.new.out in
    let route = c.index-routes-number.result in
    let next = at_slot (λ r. r.0.slot) (split_part split) split.routes n _ whole.1 in
    let within : n < length split.routes = omega (arith, next.0, length-map split.routes (λ r. r.0.slot)) in
    let len : c.len-in-loop-number.result ≡ length more.items = search rules in
    let pushed : c.push-in-loop-number.new.self.items ≡ c.loop-number.ends.items ++ length more.items ∷ [] = rw len at c.in_ok-push-2.ensures.items in
    record {
      routes = c.in_ok-push.ensures.items ∙ ap (λ (r : SlotRoute × Vec ℕ Global). c.loop-number.routes.items ++ r.0 ∷ []) (sym c.index-routes-number.is)
          ∙ ap (λ rs. rs ++ route.0 ∷ []) c.loop-number.invariant.routes ∙ routes_more c.routes.result.now split.routes n route c.routes.ensures.routes within c.index-routes-number.is;
      written = subst (λ arguments. AreWritten arguments c.push-in-loop-number.new.self.items more.items) (parts_more (split_part split) slots n part next)
          (subst (λ ends. AreWritten (map (split_part split) (take n slots) ++ map Some part ∷ []) ends more.items) (sym pushed)
          (written_more (map (split_part split) (take n slots)) c.loop-number.ends.items c.loop-number.bytes.items more.items part c.loop-number.invariant.written whole.2));
    }
