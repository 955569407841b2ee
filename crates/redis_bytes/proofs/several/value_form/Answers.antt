use Rattle.std.proofs.Common.{◌≡◌, IfOk, ap, map, rules, subst, sym, ◌∙◌}
use Rattle.resp.specs.Forms.{form}
use Rattle.resp_core.specs.Reply.{Reply, array, pairs, pairs_of, replies_of}
use Rattle.resp_core.specs.View.{view, view_pair}
use Rattle.resp_core.specs.declared.value.Value.{Array, Map, the_lemmas}
use Rattle.redis_bytes.specs.Several.{flat_items, without_map}
use Rattle.redis_bytes.proofs.several.value_form.Goals as goal

pub returns-in_ok-flat_items-in-Map-clause-bytes : goal.returns-in_ok-flat_items-in-Map-clause-bytes
returns-in_ok-flat_items-in-Map-clause-bytes c =
    let items = c.in_ok-flat_items-in-Map.field-0 in
    let entries = c.in-Map.entries in
    let array_is : view (Array items) ≡ array (replies_of (map view items.items)) = search (rules, the_lemmas) in
    let map_is : view (Map entries) ≡ pairs (pairs_of (map view_pair entries.items)) = search (rules, the_lemmas) in
    let flat : map view items.items ≡ flat_items (pairs_of (map view_pair entries.items)) = c.in_ok-flat_items-in-Map.ensures ∙ ap (λ es. flat_items (pairs_of (map view_pair es))) c.deref.ensures.value in
    let whole : view (Array items) ≡ without_map (view c.args.value.now) = array_is ∙ ap (λ rs. array (replies_of rs)) flat ∙ ap without_map (sym (ap view c.in-Map.is ∙ map_is)) in
    subst (λ (reply : Reply). IfOk c.form_of.result (λ bytes. bytes.items ≡ form reply)) whole c.form_of.ensures.bytes
