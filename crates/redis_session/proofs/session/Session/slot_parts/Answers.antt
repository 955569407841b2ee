use Rattle.std.proofs.Common.{◌≡◌, ◌++◌, ◌∙◌, [], ◌∷◌, map, ap, refl, sym, subst, arith, rules}
use Rattle.std.proofs.lemmas.Grind.{common_steps}
use Rattle.std.proofs.lemmas.List.{append-nil, nil_from_length}
use Rattle.redis_session.specs.Begins.{CanBegin, new_slot_part}
use Rattle.redis_session.specs.SessionStates.{SessionState}
use Rattle.redis_session.proofs.Begins.{slots_begin}
use Rattle.redis_session.proofs.session.Session.slot_parts.Goals as goal

pub returns-clause-begins : goal.returns-clause-begins
returns-clause-begins c =
    let made = map (new_slot_part c.args.may_refuse c.self.inside.settings.retries) in
    let parts = c.loop-part.parts.items in
    let none : c.loop-part.part-iterator.rest.items ≡ [] = nil_from_length c.loop-part.part-iterator.rest.items (search rules) in
    let all : parts ≡ made c.args.slots.items = sym (append-nil parts) ∙ ap (λ rest. parts ++ made rest) (sym none) ∙ c.loop-part.invariant in
    subst CanBegin (sym all) (slots_begin c.args.may_refuse c.self.inside.settings.retries c.args.slots.items c.requires)

pub returns-clause-errand : goal.returns-clause-errand
returns-clause-errand c =
    let made = map (new_slot_part c.args.may_refuse c.self.inside.settings.retries) in
    let parts = c.loop-part.parts.items in
    let none : c.loop-part.part-iterator.rest.items ≡ [] = nil_from_length c.loop-part.part-iterator.rest.items (search rules) in
    let all : parts ≡ made c.args.slots.items = sym (append-nil parts) ∙ ap (λ rest. parts ++ made rest) (sym none) ∙ c.loop-part.invariant in
    ((c.in_ok-to_vec.field-0, refl, search rules), all ∙ ap (λ (s : SessionState). map (new_slot_part c.args.may_refuse s.settings.retries) c.args.slots.items) c.self.view_is)

pub loop-part-preserved : goal.loop-part-preserved
loop-part-preserved c =
    let part : c.new.result ≡ new_slot_part c.args.may_refuse c.self.inside.settings.retries c.in-Some.part = c.new.ensures in
    let took : c.loop-part.part-iterator.rest.items ≡ c.in-Some.part ∷ c.next.new.self.rest.items = search rules in
    grind (arith, common_steps, part, took, c.in_ok-push.ensures, c.loop-part.invariant)
