-- One attempt more for a route.
use Rattle.std.proofs.Common.{◌≡◌, ℕ, zero, suc, ◌+◌, ◌≤◌, ◌⊎◌, List, [], ◌∷◌, ◌++◌, Option, Some, None, Bool, cond, inl, inr, refl, sym, ap, subst, ◌∙◌, arith, rules, length, take, drop, append_assoc}
use Rattle.std.specs.Prelude.{slice_get, IsSome}
use Rattle.std.specs.List.{All}
use Rattle.std.proofs.lemmas.List.{length_push}
use Rattle.std.proofs.lemmas.List.Elements.{All-cons, All-nil}
use Rattle.std.proofs.lemmas.List.Sums.{sum_by_push}
use Rattle.std.proofs.lemmas.Grind.{common_steps}
use Rattle.resp_core.specs.ErrorParts.{ErrorParts}
use Rattle.cluster_slots.specs.Address.{Address}
use Rattle.redis_cluster.specs.Trace.{Entry, Ending, answered, refused, redirected, lost, entry}
use Rattle.redis_routing.specs.declared.info.Redirect.{Redirect}
use Rattle.redis_cluster.specs.Retry.{RetryState, FollowsRedirect, FallsBack, Try, is_refusal, refusals, last_or, last_ending, next_place, next_address, AreBegun, AttemptsOf}
use Rattle.redis_cluster.specs.Sends.{IsUnanswered}
use Rattle.redis_cluster.specs.Ready.{try_once}
use Rattle.redis_cluster.proofs.Constructors.{same_some}

-- a part that is sent once, whatever comes of it
pub tried_alone : (node : Address) (part : List (List ℕ)) (x : Ending) (old new : List Entry) → new ≡ old ++ entry node part x ∷ [] → AttemptsOf (try_once node part) (Some x) old new
tried_alone node part x old new grew = record {
  attempts = entry node part x ∷ [];
  grew = grew;
  ended = (
    record {
      begun = record { part = All-cons (λ (e : Entry). e.args ≡ part) (entry node part x) [] refl (All-nil (λ (e : Entry). e.args ≡ part)); address = first; most = omega arith };
      done = inr refl;
    },
    refl,
  );
}
  where
    first : (number : ℕ) (e : Entry) → slice_get (entry node part x ∷ []) number ≡ Some e → next_address (node ∷ []) (take number (entry node part x ∷ [])) ≡ Some e.node
    first zero e at = ap (λ (f : Entry). Some f.node) (same_some (entry node part x) e at)
    first (suc number) e at = absurd (cc)

-- or whose send found no memory
pub tried_not : (node : Address) (part : List (List ℕ)) (old new : List Entry) → new ≡ old → AttemptsOf (try_once node part) None old new
tried_not node part old new same = grind (arith, common_steps)

pub tried_so : (may_refuse : ℕ → Ending → Type 0) (old new : List Entry) (mark : Bool) (node : Address) (part : List (List ℕ)) (ending : Option Ending) → IsUnanswered may_refuse old new mark node part ending → AttemptsOf (try_once node part) ending old new
tried_so may_refuse old new mark node part None h = tried_not node part old new h.0
tried_so may_refuse old new mark node part (Some x) h = tried_alone node part x old new h.1

-- what a retry knows between two attempts
pub record IsTrying (try : Try) (old now : List Entry) (retry : RetryState) : Type 0 where
  pub attempts : List Entry
  pub grew : now ≡ old ++ attempts
  pub begun : AreBegun try attempts
  pub target : retry.target ≡ next_address try.places attempts
  pub named : IsSome retry.target
  pub fallback : retry.fallback ≡ drop (refusals attempts + 1) try.places
  pub left : retry.left + length attempts ≡ try.retries

-- an element of a list with one more at its end
at_push : {X : Type 0} (es : List X) (s e : X) (k : ℕ) → slice_get (es ++ s ∷ []) k ≡ Some e → ((slice_get es k ≡ Some e) × (take k (es ++ s ∷ []) ≡ take k es)) ⊎ ((s ≡ e) × (take k (es ++ s ∷ []) ≡ es))
at_push [] s e zero h = inr (cc, refl)
at_push [] s e (suc k) h = absurd (cc)
at_push (x ∷ es) s e zero h = inl (h, refl)
at_push (x ∷ es) s e (suc k) h = elim (at_push es s e k h) [ inl w ↦ inl (w.0, ap (λ ys. x ∷ ys) w.1) | inr w ↦ inr (w.0, ap (λ ys. x ∷ ys) w.1) ]

-- what holds of each and of one more
all_push : (P : Entry → Type 0) (es : List Entry) (s : Entry) → All P es → P s → All P (es ++ s ∷ [])
all_push P [] s h here zero d l = here
all_push P [] s h here (suc k) d l = absurd (omega arith)
all_push P (e ∷ es) s h here zero d l = h 0 d (omega arith)
all_push P (e ∷ es) s h here (suc k) d l = all_push P es s (λ j d m. h (suc j) d (omega arith)) here k d (omega arith)

pub last_push : (was : Option Ending) (es : List Entry) (e : Entry) → last_or was (es ++ e ∷ []) ≡ Some e.ending
last_push was [] e = refl
last_push was (x ∷ es) e = last_push (Some x.ending) es e

refusals_push : (es : List Entry) (e : Entry) → refusals (es ++ e ∷ []) ≡ refusals es + cond (is_refusal e.ending) 1 0
refusals_push es e = sum_by_push (λ x. cond (is_refusal x.ending) 1 0) es e

drop_head : {X : Type 0} (n : ℕ) (xs : List X) (x : X) (ys : List X) → drop n xs ≡ x ∷ ys → (slice_get xs n ≡ Some x) × (ys ≡ drop (suc n) xs)
drop_head zero [] x ys h = absurd (cc)
drop_head zero (a ∷ xs) x ys h = (cc, cc)
drop_head (suc n) [] x ys h = absurd (cc)
drop_head (suc n) (a ∷ xs) x ys h = drop_head n xs x ys h

drop_none : {X : Type 0} (n : ℕ) (xs : List X) → drop n xs ≡ [] → slice_get xs n ≡ None
drop_none zero [] h = refl
drop_none zero (a ∷ xs) h = absurd (cc)
drop_none (suc n) [] h = refl
drop_none (suc n) (a ∷ xs) h = drop_none n xs h

begun_push : (try : Try) (es : List Entry) (node : Address) (x : Ending) → AreBegun try es → next_address try.places es ≡ Some node → length es ≤ try.retries → AreBegun try (es ++ entry node try.part x ∷ [])
begun_push try es node x b next few =
    let s : Entry = entry node try.part x in
    record {
      part = all_push (λ e. e.args ≡ try.part) es s b.part refl;
      address = λ k e at. elim (at_push es s e k at) [
        | inl w ↦ ap (next_address try.places) w.1 ∙ b.address k e w.0
        | inr w ↦ ap (next_address try.places) w.1 ∙ next ∙ ap (λ y. Some y.node) w.0
      ];
      most = omega (arith, length_push es s);
    }

module _ (try : Try) (old mid new : List Entry) (retry : RetryState) (node : Address) (h : IsTrying try old mid retry) (at : retry.target ≡ Some node) where
  comes : next_address try.places h.attempts ≡ Some node
  comes = sym h.target ∙ at

  more : (x : Ending) → AreBegun try (h.attempts ++ entry node try.part x ∷ [])
  more x = begun_push try h.attempts node x h.begun comes (omega (arith, h.left))

  grown : (x : Ending) → new ≡ mid ++ entry node try.part x ∷ [] → new ≡ old ++ (h.attempts ++ entry node try.part x ∷ [])
  grown x e = e ∙ ap (λ es. es ++ entry node try.part x ∷ []) h.grew ∙ append_assoc old h.attempts (entry node try.part x ∷ [])

  last : (x : Ending) → last_ending (h.attempts ++ entry node try.part x ∷ []) ≡ Some x
  last x = last_push None h.attempts (entry node try.part x)

  ends : (x : Ending) → new ≡ mid ++ entry node try.part x ∷ [] → ((next_address try.places (h.attempts ++ entry node try.part x ∷ []) ≡ None) ⊎ (retry.left ≡ 0)) → AttemptsOf try (Some x) old new
  ends x e done =
      record {
        attempts = h.attempts ++ entry node try.part x ∷ [];
        grew = grown x e;
        ended = (
          record {
            begun = more x;
            done = elim done [ inl w ↦ inl w | inr w ↦ inr (omega (arith, length_push h.attempts (entry node try.part x), h.left)) ];
          },
          last x,
        );
      }

  -- after an answer
  pub answers : new ≡ mid ++ entry node try.part answered ∷ [] → AttemptsOf try (Some answered) old new
  answers e = ends answered e (inl (ap (next_place try.places (refusals (h.attempts ++ entry node try.part answered ∷ []))) (last answered)))

  -- after a lost reply
  pub loses : (error : ErrorParts) → new ≡ mid ++ entry node try.part (lost error) ∷ [] → AttemptsOf try (Some (lost error)) old new
  loses error e = ends (lost error) e (inl (ap (next_place try.places (refusals (h.attempts ++ entry node try.part (lost error) ∷ []))) (last (lost error))))

  -- after a redirect that can't be followed
  pub redirects_last : (r : Redirect) → new ≡ mid ++ entry node try.part (redirected r) ∷ [] → retry.left ≡ 0 → AttemptsOf try (Some (redirected r)) old new
  redirects_last r e none = ends (redirected r) e (inr none)

  refused_next : (error : ErrorParts) → next_address try.places (h.attempts ++ entry node try.part (refused error) ∷ []) ≡ slice_get try.places (refusals h.attempts + 1)
  refused_next error = grind (arith, last, refusals_push)

  -- after a refusal with no target left
  pub refuses_last : (error : ErrorParts) → new ≡ mid ++ entry node try.part (refused error) ∷ [] → ((retry.left ≡ 0) ⊎ (retry.fallback ≡ [])) → AttemptsOf try (Some (refused error)) old new
  refuses_last error e none = grind (arith, ends, refused_next, drop_none)

  -- after a redirect that is followed
  pub redirects : (r : Redirect) (next : RetryState) → new ≡ mid ++ entry node try.part (redirected r) ∷ [] → FollowsRedirect retry next r → IsTrying try old new next
  redirects r next e follows = grind (arith, common_steps, grown (redirected r) e, more (redirected r), last (redirected r), refusals_push, length_push)

  -- after a refusal with a target left
  pub refuses : (error : ErrorParts) (next : RetryState) → new ≡ mid ++ entry node try.part (refused error) ∷ [] → FallsBack retry next → IsTrying try old new next
  refuses error next e falls =
      let s : Entry = entry node try.part (refused error) in
      let f : refusals (h.attempts ++ s ∷ []) ≡ refusals h.attempts + 1 = refusals_push h.attempts s in
      let again : suc (refusals h.attempts + 1) ≡ refusals (h.attempts ++ s ∷ []) + 1 = omega arith in
      let d = drop_head (refusals h.attempts + 1) try.places falls.0 next.fallback (sym h.fallback ∙ falls.2) in
      record {
        attempts = h.attempts ++ s ∷ [];
        grew = grown (refused error) e;
        begun = more (refused error);
        target = falls.1.target ∙ sym (refused_next error ∙ d.0);
        named = subst IsSome (sym falls.1.target) (search rules);
        fallback = d.1 ∙ ap (λ k. drop k try.places) again;
        left = omega (arith, length_push h.attempts s, h.left, falls.1.counted);
      }

-- where memory ran out before the next attempt
pub stays : (try : Try) (old mid new : List Entry) (retry : RetryState) → IsTrying try old mid retry → new ≡ mid → AttemptsOf try None old new
stays try old mid new retry h e = grind (arith, common_steps)
