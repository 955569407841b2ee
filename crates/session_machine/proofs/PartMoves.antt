-- What becomes of a part, in the order of its caller.
use Rattle.std.proofs.Common.{◌≡◌, ℕ, true, false, refl, sym, ◌∙◌, subst}
use Rattle.std.proofs.lemmas.Bool.{false≢true}
use Rattle.session_core.specs.declared.ordered_part.Status.{Status}
use Rattle.session_core.specs.declared.ordered_part.Status.TheVariants.{Waits, Asked, Settled, Unsent}
use Rattle.session_core.specs.declared.part.PartOrder.{PartOrder}
use Rattle.session_core.specs.Order.{Order, MayAsk, IsWaiting, IsOnItsWay, with_status, trimmed}
use Rattle.session_machine.specs.declared.callers.Callers.{Callers}
use Rattle.session_machine.specs.Callers.{order_of, OnlyOrder}
use Rattle.session_machine.specs.Ties.{OrderGoes, gets, given_up, is_ordered}
use Rattle.session_machine.proofs.Ties.Goes.{goes_to, goes_done, goes_refused}
use Rattle.session_machine.specs.Kept.{PartGoes, CallGoes}
use Rattle.session_machine.proofs.CallerMaps.{only_same}

pub part_goes : (caller place : ℕ) (order : PartOrder) (st : Status) (old new : Callers) → is_ordered order ≡ true → OrderGoes (gets place st) (order_of caller old) (order_of caller new)
    → OnlyOrder caller old new → PartGoes caller place order st old new
part_goes caller place order st old new o goes only = record { ordered = λ _. goes; free = λ f. absurd (false≢true (sym f ∙ o)); only = only }

pub part_stays : (caller place : ℕ) (order : PartOrder) (st : Status) (old : Callers) → is_ordered order ≡ false → PartGoes caller place order st old old
part_stays caller place order st old f = record { ordered = λ o. absurd (false≢true (sym f ∙ o)); free = λ _. refl; only = only_same caller old old (λ n. refl) }

pub goes_asked : (place link : ℕ) (old new : Order) → MayAsk place link old → new ≡ with_status place (Asked link) old → OrderGoes (gets place (Asked link)) old new
goes_asked place link old new may is = subst (λ (o : Order). OrderGoes (gets place (Asked link)) old o) (sym is) (goes_to place (Asked link) old may.it may.there)

pub goes_back : (place : ℕ) (old new : Order) → IsOnItsWay place old → new ≡ with_status place Waits old → OrderGoes (gets place Waits) old new
goes_back place old new way is = subst (λ (o : Order). OrderGoes (gets place Waits) old o) (sym is) (goes_to place Waits old way.0 way.2)

pub goes_settled : (place : ℕ) (old new : Order) → IsOnItsWay place old → new ≡ trimmed (with_status place Settled old) → OrderGoes (gets place Settled) old new
goes_settled place old new way is = subst (λ (o : Order). OrderGoes (gets place Settled) old o) (sym is) (goes_done place Settled old way.0 way.2)

pub goes_never : (place : ℕ) (old new : Order) → IsOnItsWay place old → new ≡ trimmed (with_status place Unsent (with_status place Waits old)) → OrderGoes (gets place Unsent) old new
goes_never place old new way is = subst (λ (o : Order). OrderGoes (gets place Unsent) old o) (sym is) (goes_refused place old way.0 way.2)

pub goes_unsent : (place : ℕ) (old new : Order) → IsWaiting place old → new ≡ trimmed (with_status place Unsent old) → OrderGoes (gets place Unsent) old new
goes_unsent place old new waits is = subst (λ (o : Order). OrderGoes (gets place Unsent) old o) (sym is) (goes_done place Unsent old waits.0 waits.1)

-- ---- a call that is given up

pub call_goes : (caller place count : ℕ) (order : PartOrder) (old new : Callers) → is_ordered order ≡ true → OrderGoes (given_up place count) (order_of caller old) (order_of caller new)
    → OnlyOrder caller old new → CallGoes caller place count order old new
call_goes caller place count order old new o goes only = record { ordered = λ _. goes; free = λ f. absurd (false≢true (sym f ∙ o)); only = only }

pub call_stays : (caller place count : ℕ) (order : PartOrder) (old : Callers) → is_ordered order ≡ false → CallGoes caller place count order old old
call_stays caller place count order old f = record { ordered = λ o. absurd (false≢true (sym f ∙ o)); free = λ _. refl; only = only_same caller old old (λ n. refl) }
