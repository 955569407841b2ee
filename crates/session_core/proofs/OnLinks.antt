-- What happens on a link in a session is a run of the link.
use Rattle.std.proofs.Common.{◌≡◌, ◌++◌, ℕ, zero, suc, true, eqb, List, [], ◌∷◌, length, Option, None, Some, refl, sym, ap, ◌∙◌, subst}
use Rattle.std.specs.List.{slice_get}
use Rattle.std.specs.Option.{option_map}
use Rattle.std.proofs.lemmas.Bool.{eqb-true}
use Rattle.std.proofs.lemmas.List.Sums.{fold-append}
use Rattle.std.proofs.lemmas.Option.{same_Some}
use Rattle.resp_core.proofs.Cases.{by_test}
use Rattle.session_core.specs.Channel.{Channel, fresh}
use Rattle.session_core.specs.LinkEvents as link
use Rattle.session_core.specs.State.{State, Event, Open, On, Forget, Begin, GiveUp, End, Finish, Leave, Trim, start, links_for, link_after, IsLink, May, after, Run}
use Rattle.session_core.specs.History.{with_event, on_link}
use Rattle.session_core.proofs.Runs.{always}
use Rattle.session_core.proofs.Waiting.{link_at, same_links, not_opened, happened_on}

-- The link has done this since it was opened.
abbrev pub HasRun : List link.Event → Channel → Type 0
HasRun since c = (most : ℕ) × link.Run (fresh most) since c

ran_more : (since : List link.Event) (event : link.Event) (old c : Channel) → link.Run old since c → link.May event c → link.Run old (since ++ event ∷ []) (link.after event c)
ran_more [] event old c run may = subst (λ x. link.Run x (event ∷ []) (link.after event c)) run (may, refl)
ran_more (first ∷ since) event old c run may = (run.0, ran_more since event (link.after first old) c run.1 may)

on_link_more : (number : ℕ) (es : List Event) (e : Event) → on_link number (es ++ e ∷ []) ≡ with_event number (on_link number es) e
on_link_more number es e = fold-append (with_event number) [] es (e ∷ [])

abbrev Ran : ℕ → List Event → State → Type 0
Ran number es s = (c : Channel) → IsLink s number c → HasRun (on_link number es) c

-- an event that leaves a link, and is none of it
same_run : (number : ℕ) (es : List Event) (e : Event) (s : State) → with_event number (on_link number es) e ≡ on_link number es
    → ((c : Channel) → IsLink (after e s) number c → IsLink s number c) → Ran number es s → Ran number (es ++ e ∷ []) (after e s)
same_run number es e s same back old = λ c is. subst (λ xs. HasRun xs c) (sym (on_link_more number es e ∙ same)) (old c (back c is))

placed_back : (links : List (Option Channel)) (n : ℕ) (c : Channel) → slice_get (links ++ None ∷ []) n ≡ Some (Some c) → slice_get links n ≡ Some (Some c)
placed_back [] zero c h = absurd (cc)
placed_back [] (suc n) c h = absurd (cc)
placed_back (x ∷ links) zero c h = h
placed_back (x ∷ links) (suc n) c h = placed_back links n c h

opened_as : (n number most : ℕ) (o : Option (Option Channel)) (c : Channel) → eqb number n ≡ true → option_map (link_after (Open number most) n) o ≡ Some (Some c) → c ≡ fresh most
opened_as n number most None c k h = absurd (cc)
opened_as n number most (Some x) c k h = let is : Some (Some (fresh most)) ≡ Some (Some c) = rw k at h in sym (same_Some _ c (same_Some _ (Some c) is))

forgotten_as : (n number : ℕ) (o : Option (Option Channel)) (c : Channel) → option_map (link_after (Forget number) n) o ≡ Some (Some c) → o ≡ Some (Some c)
forgotten_as n number None c h = absurd (cc)
forgotten_as n number (Some x) c h = by_test (eqb number n) (λ k. let none : Some None ≡ Some (Some c) = rw k at h in absurd (cc)) (λ k. rw k at h)

ran_after : (number : ℕ) (es : List Event) (e : Event) (s : State) → May e s → Ran number es s → Ran number (es ++ e ∷ []) (after e s)
ran_after n es (Open number most) s may old =
    let at = link_at (link_after (Open number most)) (links_for (Open number most) s.links) n in
    by_test (eqb number n)
    (λ k. λ c is.
    let new : c ≡ fresh most = opened_as n number most _ c k (sym at ∙ is) in
    let none : on_link n (es ++ Open number most ∷ []) ≡ [] = on_link_more n es (Open number most) ∙ rw k refl in
    subst (λ xs. HasRun xs c) (sym none) (most, new))
    (λ k. same_run n es (Open number most) s (rw k refl)
    (λ c is. let here = sym (not_opened n number most _ k) ∙ sym at ∙ is in
    by_test (eqb number (length s.links)) (λ q. placed_back s.links n c (rw q at here)) (λ q. rw q at here))
    old)
ran_after n es (On number event) s may old =
    let at = link_at (link_after (On number event)) s.links n in
    by_test (eqb number n)
    (λ k. λ c is.
    let there : slice_get s.links n ≡ Some (Some may.channel) = ap (slice_get s.links) (sym (eqb-true number n k)) ∙ may.link_is in
    let now : option_map (link_after (On number event) n) (Some (Some may.channel)) ≡ Some (Some c) = ap (option_map (link_after (On number event) n)) (sym there) ∙ sym at ∙ is in
    let both : Some (Some (link.after event may.channel)) ≡ Some (Some c) = rw k at now in
    let new : c ≡ link.after event may.channel = sym (same_Some _ c (same_Some _ (Some c) both)) in
    let before = old may.channel there in
    let more : on_link n (es ++ On number event ∷ []) ≡ on_link n es ++ event ∷ [] = on_link_more n es (On number event) ∙ rw k refl in
    subst (λ xs. HasRun xs c) (sym more) (before.0, subst (link.Run (fresh before.0) (on_link n es ++ event ∷ [])) (sym new) (ran_more (on_link n es) event (fresh before.0) may.channel before.1 may.may)))
    (λ k. same_run n es (On number event) s (rw k refl) (λ c is. sym (happened_on n number event _ k) ∙ sym at ∙ is) old)
ran_after n es (Forget number) s may old = same_run n es (Forget number) s refl
    (λ c is. forgotten_as n number (slice_get s.links n) c (sym (link_at (link_after (Forget number)) s.links n) ∙ is)) old
ran_after n es (Begin c caller parts) s may old = same_run n es (Begin c caller parts) s refl (λ d is. is) old
ran_after n es (GiveUp c) s may old = same_run n es (GiveUp c) s refl (λ d is. sym (same_links s.links n) ∙ is) old
ran_after n es (End c q cause) s may old = same_run n es (End c q cause) s refl (λ d is. sym (same_links s.links n) ∙ is) old
ran_after n es (Finish c state) s may old = same_run n es (Finish c state) s refl (λ d is. sym (same_links s.links n) ∙ is) old
ran_after n es (Leave c) s may old = same_run n es (Leave c) s refl (λ d is. sym (same_links s.links n) ∙ is) old
ran_after n es Trim s may old = same_run n es Trim s refl (λ d is. is) old

-- what happened on a link since it was opened is a run of the link
pub has_run : (number : ℕ) (events : List Event) (s : State) (c : Channel) → Run start events s → IsLink s number c → HasRun (on_link number events) c
has_run number events s c run is = always link.May (λ es t. Ran number es t) (λ d there. absurd (cc)) (λ es e t reached may old. ran_after number es e t may old) events s run c is
