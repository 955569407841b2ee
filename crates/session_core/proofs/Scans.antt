-- A scan that can go on, and what stands at the front of what came.
use Rattle.std.proofs.Common.{◌≡◌, ◌≢◌, ◌++◌, ℕ, List, [], length, take, drop, sym, ap, subst, ◌∙◌, append_assoc, append-nil, refl}
use Rattle.std.proofs.lemmas.List.{take_at, take-append-drop}
use Rattle.resp.specs.declared.fault.Fault.{Fault}
use Rattle.resp.specs.declared.fault.Fault.TheVariants.{Incomplete, Malformed, TooDeep}
use Rattle.resp.specs.declared.scanning.Progress.{Progress}
use Rattle.resp.specs.Messages.{IsMessage, IsScanned}
use Rattle.resp.specs.Versions.{IsVersion2}
use Rattle.resp.proofs.Messages.{same_message}
use Rattle.session_core.specs.Reply.{BeginsNoReply}
use Rattle.session_core.specs.Inner.Ready.{IsReady}

-- It is right for the bytes as they are.
pub ready_now : (progress : Progress) (bytes : List ℕ) → IsReady progress bytes → IsScanned progress bytes
ready_now progress bytes h = subst (IsScanned progress) (append-nil bytes) (h [])

-- It stays so if more bytes come.
pub ready_more : (progress : Progress) (bytes more all : List ℕ) → IsReady progress bytes → all ≡ bytes ++ more → IsReady progress all
ready_more progress bytes more all h e rest =
    subst (IsScanned progress) (sym (append_assoc bytes more rest) ∙ ap (λ (x : List ℕ). x ++ rest) (sym e)) (h (more ++ rest))

-- An error leaves a scan that can go on.
pub ready_after : (fault : Fault) (old new : Progress) (bytes : List ℕ) → IsReady old bytes
    → (fault ≡ Incomplete → IsReady new bytes) → (fault ≢ Incomplete → new ≡ old) → IsReady new bytes
ready_after Incomplete old new bytes h kept same = kept refl
ready_after Malformed old new bytes h kept same = subst (λ (p : Progress). IsReady p bytes) (sym (same (λ e. cc))) h
ready_after TooDeep old new bytes h kept same = subst (λ (p : Progress). IsReady p bytes) (sym (same (λ e. cc))) h

-- A message of version 3 begins no reply.
pub newer : (message rest : List ℕ) → IsMessage message → (IsVersion2 message → ⊥) → BeginsNoReply (message ++ rest)
newer message rest is old more reply after r e =
    let same = same_message message (rest ++ more) reply after is r.0 (sym (append_assoc message rest more) ∙ e) in
    old (subst IsVersion2 (sym same) r.1)

-- what a scan found
pub front_is : (bytes message rest : List ℕ) (len : ℕ) → bytes ≡ message ++ rest → len ≡ length message → take len bytes ≡ message
front_is bytes message rest len e long = ap (take len) e ∙ take_at message rest len (sym long)

pub joined : (bytes front back : List ℕ) (len : ℕ) → front ≡ take len bytes → back ≡ drop len bytes → front ++ back ≡ bytes
joined bytes front back len e f = rw (e, f) (take-append-drop len bytes)
