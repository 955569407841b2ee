-- What calls of a link leave is what happens on it.
use Rattle.std.proofs.Common.{◌≡◌, ◌<◌, ◌≤◌, ◌+◌, ◌++◌, ℕ, List, [], ◌∷◌, length, take, drop, Some, Result, Ok, Err, OnErr, sym, ap, subst, ◌∙◌, refl, append_assoc, append-nil, length-append, length-take, arith}
use Rattle.std.specs.List.{slice_get}
use Rattle.std.specs.Fmt.{digits}
use Rattle.std.proofs.lemmas.List.{take-append-drop}
use Rattle.session_core.specs.declared.link.Ticket.TheVariants.{Asking, Part}
use Rattle.session_core.specs.declared.link.Wait.{Wait}
use Rattle.session_core.specs.declared.link.Standing.TheVariants.{Open}
use Rattle.session_core.specs.Channel.{Channel}
use Rattle.session_core.specs.Reply.{IsReply, IsFor, BeginsWith}
use Rattle.session_core.specs.LinkEvents.{Happens, IsAnswered, Put, Take, asking}
use Rattle.session_core.specs.Inner.Heard.{Heard}

-- ---- what came

at_front : (bytes : List ℕ) (len : ℕ) → BeginsWith bytes (take len bytes)
at_front bytes len = record { rest = drop len bytes; is = sym (take-append-drop len bytes) }

-- The link is `c`, whose inside is `inner`.
pub is_for : (inner c : Channel) (wait : Wait) (count : ℕ) → inner ≡ c → slice_get c.waits 0 ≡ Some wait → slice_get inner.written_before 0 ≡ Some count → wait.end ≤ count → IsFor inner wait
is_for inner c wait count view first before done = record { first = ap (λ (l : Channel). slice_get l.waits 0) view ∙ first; count = count; before = before; is = done }

abbrev without : ℕ → Channel → Heard
without count c = record { bytes = drop count c.heard; written_before = drop count c.written_before }

abbrev with_input : Channel → List Wait → Heard → Channel
with_input c waits input = record {
  waits = waits;
  given = c.given;
  unwritten = c.unwritten;
  heard = input.bytes;
  written_before = input.written_before;
  standing = c.standing;
  most = c.most;
}

-- a whole reply stands at the front, for the first that waits
pub answers : (c : Channel) (wait : Wait) (len : ℕ) → c.standing ≡ Open → IsFor c wait → IsReply (take len c.heard) × (len ≤ length c.heard) × (len ≤ c.most) → IsAnswered c wait.ticket (take len c.heard)
answers c wait len opened is_for front = record {
  wait = wait;
  is_for = is_for;
  ticket_is = refl;
  is_open = opened;
  came = at_front c.heard len;
  is = front.0;
  short = omega (arith, length-take len c.heard, front.1, front.2);
}

pub takes : (c : Channel) (wait : Wait) (len : ℕ) (waits : List Wait) (reply : List ℕ) (input : Heard) → c.standing ≡ Open → IsFor c wait → IsReply (take len c.heard) × (len ≤ length c.heard) × (len ≤ c.most) → reply ≡ take len c.heard
    → waits ≡ drop 1 c.waits → input ≡ without len c → Happens c (Take wait.ticket reply) (with_input c waits input)
takes c wait len waits reply input opened is_for front copy popped left =
    let long : length reply ≡ len = omega (arith, ap (length {A = ℕ}) copy, length-take len c.heard, front.1) in
    record {
      may = subst (IsAnswered c wait.ticket) (sym copy) (answers c wait len opened is_for front);
      is = ap (λ (ws : List Wait). with_input c ws input) popped ∙ ap (with_input c (drop 1 c.waits)) (left ∙ ap (λ (n : ℕ). without n c) (sym long));
    }

-- what holds anyway holds of an error
pub for_err : {A E P : Type 0} (r : Result A E) → P → OnErr r P
for_err (Ok a) p = tt
for_err (Err e) p = p

-- ---- what is asked

-- `ASKING` as the code writes it
abbrev pub asking_bytes : List ℕ
asking_bytes = 42 ∷ 49 ∷ 13 ∷ 10 ∷ 36 ∷ 54 ∷ 13 ∷ 10 ∷ 65 ∷ 83 ∷ 75 ∷ 73 ∷ 78 ∷ 71 ∷ 13 ∷ 10 ∷ []

asking_is : asking_bytes ≡ asking
unfolding digits
asking_is = refl

-- `ASKING` and a part wait after others.
abbrev both_wait : List Wait → ℕ → ℕ → ℕ → ℕ → ℕ → List Wait
both_wait waits given start end call part = waits ++ record { ticket = Asking; start = given; end = start } ∷ record { ticket = Part call part; start = start; end = end } ∷ []

abbrev with_both : Channel → List Wait → ℕ → List ℕ → Channel
with_both c waits given unwritten = record { waits = waits; given = given; unwritten = unwritten; heard = c.heard; written_before = c.written_before; standing = c.standing; most = c.most }

pub asks_both : (c : Channel) (call part : ℕ) (request : List ℕ) (start end : ℕ) (reserved first waits : List Wait) (unwritten : List ℕ) → c.standing ≡ Open → 0 < length request → start ≡ c.given + 16 → end ≡ start + length request
    → reserved ≡ c.waits → first ≡ reserved ++ record { ticket = Asking; start = c.given; end = start } ∷ [] → waits ≡ first ++ record { ticket = Part call part; start = start; end = end } ∷ [] → unwritten ≡ c.unwritten ++ (asking_bytes ++ request)
    → Happens c (Put ((Asking, asking) ∷ (Part call part, request) ∷ [])) (with_both c waits end unwritten)
asks_both c call part request start end reserved first waits unwritten opened some starts ends kept one two put =
    let sixteen : 16 ≡ length asking = ap (length {A = ℕ}) asking_is in
    let bytes : asking_bytes ++ request ≡ asking ++ (request ++ []) = ap (λ (b : List ℕ). b ++ request) asking_is ∙ ap (λ (b : List ℕ). asking ++ b) (sym (append-nil request)) in
    let starts_at : start ≡ c.given + length asking = starts ∙ ap (λ (n : ℕ). c.given + n) sixteen in
    let ends_at : end ≡ c.given + length asking + length request = ends ∙ ap (λ (n : ℕ). n + length request) starts_at in
    let total : end ≡ c.given + length (asking ++ (request ++ [])) = omega (arith, ends_at, length-append asking (request ++ []), length-append {A = ℕ} request []) in
    let both : waits ≡ both_wait c.waits c.given (c.given + length asking) (c.given + length asking + length request) call part =
    two ∙ ap (λ (ws : List Wait). ws ++ record { ticket = Part call part; start = start; end = end } ∷ []) (one ∙ ap (λ (ws : List Wait). ws ++ record { ticket = Asking; start = c.given; end = start } ∷ []) kept)
    ∙ append_assoc c.waits _ _ ∙ ap (λ (n : ℕ). both_wait c.waits c.given n end call part) starts_at ∙ ap (λ (n : ℕ). both_wait c.waits c.given (c.given + length asking) n call part) ends_at in
    record {
      may = (opened, (refl, tt, some));
      is = ap (λ (ws : List Wait). with_both c ws end unwritten) both
          ∙ ap (λ (n : ℕ). with_both c (both_wait c.waits c.given (c.given + length asking) (c.given + length asking + length request) call part) n unwritten) total
          ∙ ap (λ (b : List ℕ). with_both c (both_wait c.waits c.given (c.given + length asking) (c.given + length asking + length request) call part) (c.given + length (asking ++ (request ++ []))) b) (put ∙ ap (λ (b : List ℕ). c.unwritten ++ b) bytes);
    }
