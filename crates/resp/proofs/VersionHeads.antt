-- Messages of version 2: heads one after the other.
use Rattle.std.proofs.Common.{◌≡◌, ◌≢◌, ◌+◌, ◌-◌, ◌<◌, ◌≤◌, ◌++◌, ◌↔◌, ℕ, true, List, [], ◌∷◌, length, get_or, take, drop, Option, Some, None, Result, Ok, Err, sym, ap, subst, ◌∙◌, arith, length-append}
use Rattle.std.proofs.lemmas.Grind.{common_steps}
use Rattle.std.proofs.lemmas.List.{take_at, drop_at, drop-drop, take-append-drop}
use Rattle.std.proofs.lemmas.Bool.Decides.{nat_tests}
use Rattle.std.specs.List.{AllByRecursion, flat_map}
use Rattle.resp.specs.declared.fault.Fault.{Fault}
use Rattle.resp.specs.declared.heads.Kind.{Kind}
use Rattle.resp.specs.declared.heads.Kind.TheVariants.{Simple, Bulk, Array, Map, Attribute}
use Rattle.resp.specs.Reading.{text_until_line_end, after_text}
use Rattle.resp.specs.Messages.{kind_of, Announces, IsHead, AreHeads, IsMessage, head_at, head_of}
use Rattle.resp.specs.Versions.{is_mark, IsHeadOfVersion2, IsVersion2}
use Rattle.resp.proofs.Steps.{done, failed, ok_is}
use Rattle.resp.proofs.HeadGrammar.{head_takes, head_again, head_by_line}

-- ---- a head at the front

pub read_by_line : (bytes line after : List ℕ) (r : Result (ℕ × List ℕ) Fault) → (line ≡ text_until_line_end bytes) × (after ≡ after_text bytes) → head_of 0 line after ≡ r → head_at bytes ≡ r
read_by_line bytes line after r l e =
    sym (head_by_line bytes) ∙ ap (λ (t : List ℕ). head_of 0 t (after_text bytes)) (sym l.0) ∙ ap (λ (a : List ℕ). head_of 0 line a) (sym l.1) ∙ e

same_mark : (items : ℕ) (head rest : List ℕ) → IsHead items head → is_mark (head ++ rest) ≡ is_mark head
same_mark items head rest h = ap (λ (x : List ℕ). is_mark (x ++ rest)) h.4 ∙ sym (ap is_mark h.4)

some_bytes : (items : ℕ) (head : List ℕ) → IsHead items head → 0 < length head
some_bytes items head h = omega (arith, ap (length {A = ℕ}) h.4)

pub record Found (bytes rest : List ℕ) : Type 0 where
  pub is : IsHeadOfVersion2 (take (length bytes - length rest) bytes)
  pub within : length rest < length bytes

pub found : (bytes rest : List ℕ) (items : ℕ) → is_mark bytes ≡ true → head_at bytes ≡ Ok (items, rest) → Found bytes rest
found bytes rest items marked e =
    let t = head_takes bytes (items, rest) e in
    let total : length bytes ≡ length t.0 + length rest = ap (length {A = ℕ}) t.1 ∙ length-append t.0 rest in
    let front : take (length bytes - length rest) bytes ≡ t.0 = ap (take (length bytes - length rest)) t.1 ∙ take_at t.0 rest (length bytes - length rest) (omega (arith, total)) in
    record {
      is = subst IsHeadOfVersion2 (sym front) (sym (same_mark items t.0 rest t.2) ∙ ap is_mark (sym t.1) ∙ marked, items, t.2);
      within = omega (arith, total, some_bytes items t.0 t.2);
    }

pub only : (bytes left : List ℕ) (items : ℕ) → head_at bytes ≡ Ok (items, left) → (head rest : List ℕ) → IsHeadOfVersion2 head → bytes ≡ head ++ rest → length bytes - length left ≡ length head
only bytes left items e head rest h is =
    let same = ok_is (items, left) (h.1, rest) (sym e ∙ ap head_at is ∙ head_again h.1 head rest h.2) in
    omega (arith, ap (λ (p : ℕ × List ℕ). length p.1) same, ap (length {A = ℕ}) is, length-append head rest)

not_both : (x : ℕ × List ℕ) (fault : Fault) → done x ≡ failed fault → ⊥
not_both x fault e = absurd cc

pub no_head : (bytes : List ℕ) (fault : Fault) → head_at bytes ≡ Err fault → (head rest : List ℕ) → IsHeadOfVersion2 head → bytes ≡ head ++ rest → ⊥
no_head bytes fault e head rest h is = not_both (h.1, rest) fault (sym (head_again h.1 head rest h.2) ∙ ap head_at (sym is) ∙ e)

-- ---- heads one after the other

abbrev IsOnly : List ℕ → Option ℕ → Type 0
IsOnly bytes found = (head rest : List ℕ) → IsHeadOfVersion2 head → bytes ≡ head ++ rest → found ≡ Some (length head)

same_number : (n m : ℕ) → Some n ≡ Some m → n ≡ m
same_number n m e = cc

rest_of_heads : (bytes : List ℕ) (len : ℕ) → 0 < len → len ≤ length bytes → IsOnly bytes (Some len) → IsVersion2 bytes → IsVersion2 (drop len bytes)
rest_of_heads bytes len some within only h = by_heads h.0 h.1 h.2
  where
    by_heads : (heads : List (List ℕ)) → bytes ≡ flat_map (λ head. head) heads → AllByRecursion IsHeadOfVersion2 heads → IsVersion2 (drop len bytes)
    by_heads [] is all = absurd (omega (arith, some, within, ap (length {A = ℕ}) is))
    by_heads (head ∷ more) is all =
        let rest : List ℕ = flat_map (λ h. h) more in
        let long : length head ≡ len = sym (same_number len (length head) (only head rest all.0 is)) in
        (more, ap (drop len) is ∙ drop_at head rest len long, all.1)

pub head_on : (bytes rest : List ℕ) (at len : ℕ) → rest ≡ drop at bytes → IsHeadOfVersion2 (take len rest) → 0 < len → len ≤ length rest → IsOnly rest (Some len) → IsVersion2 bytes ↔ IsVersion2 (drop at bytes)
    → IsVersion2 bytes ↔ IsVersion2 (drop (at + len) bytes)
head_on bytes rest at len e head some within only so_far =
    let next : drop (at + len) bytes ≡ drop len rest = sym (drop-drop len at bytes) ∙ ap (drop len) (sym e) in (
      λ h. subst IsVersion2 (sym next) (rest_of_heads rest len some within only (subst IsVersion2 (sym e) (so_far.0 h))),
      λ h.
          let r = subst IsVersion2 next h in
          so_far.1 (subst IsVersion2 e (take len rest ∷ r.0, sym (take-append-drop len rest) ∙ ap (λ (b : List ℕ). take len rest ++ b) r.1, (head, r.2))),
    )

none_is : (n : ℕ) → None ≡ Some n → ⊥
none_is n e = absurd cc

pub no_heads : (bytes : List ℕ) → 0 < length bytes → IsOnly bytes None → IsVersion2 bytes → ⊥
no_heads bytes some only h = by_heads h.0 h.1 h.2
  where
    by_heads : (heads : List (List ℕ)) → bytes ≡ flat_map (λ head. head) heads → AllByRecursion IsHeadOfVersion2 heads → ⊥
    by_heads [] is all = absurd (omega (arith, some, ap (length {A = ℕ}) is))
    by_heads (head ∷ more) is all = none_is (length head) (only head (flat_map (λ h. h) more) all.0 is)

pub no_bytes : (bytes : List ℕ) → bytes ≡ [] → IsVersion2 bytes
no_bytes bytes e = ([], e, tt)

-- ---- a message of one head

no_items : (kind : Kind) (mark items : ℕ) (text body : List ℕ) → kind_of mark ≡ Some kind → is_mark (mark ∷ []) ≡ true → mark ≢ 42 → Announces kind text body items → items ≡ 0
unfolding kind_of
no_items Simple mark items text body k m apart h = h.1
no_items Bulk mark items text body k m apart h = h.1
no_items Array mark items text body k m apart h = absurd (grind (arith, common_steps, nat_tests))
no_items Map mark items text body k m apart h = absurd (grind (arith, common_steps, nat_tests))
no_items Attribute mark items text body k m apart h = absurd (grind (arith, common_steps, nat_tests))

one_head : (message : List ℕ) → IsMessage message → is_mark message ≡ true → get_or message 0 0 ≢ 42 → IsVersion2 message
one_head message is marked apart = by_heads is.0 is.1
  where
    alone : (items : ℕ) (more rest : List ℕ) → items ≡ 0 → AreHeads (1 - 1 + items) more 0 rest → rest ≡ []
    alone items [] rest e h = h.1
    alone items (n ∷ more) rest e h = absurd (omega (arith, e, h.4))

    by_heads : (items : List ℕ) → AreHeads 1 items 0 message → IsVersion2 message
    by_heads [] h = absurd (omega (arith, h.0))
    by_heads (n ∷ more) h =
        let marked_head : is_mark h.0 ≡ true = sym (same_mark n h.0 h.1 h.3) ∙ ap is_mark (sym h.2) ∙ marked in
        let first : is_mark (h.3.0 ∷ []) ≡ true = ap is_mark (sym h.3.4) ∙ marked_head in
        let apart_head : h.3.0 ≢ 42 = λ e. apart (ap (λ (b : List ℕ). get_or b 0 0) (h.2 ∙ ap (λ (b : List ℕ). b ++ h.1) h.3.4) ∙ e) in
        let none : n ≡ 0 = no_items h.3.3 h.3.0 n h.3.1 h.3.2 h.3.6 first apart_head h.3.7 in
        let rest : h.1 ≡ [] = alone n more h.1 none h.5 in
        (h.0 ∷ [], h.2 ∙ ap (λ (b : List ℕ). h.0 ++ b) rest, ((marked_head, n, h.3), tt))

some_message : (message : List ℕ) → IsMessage message → 0 < length message
some_message message is = by_heads is.0 is.1
  where
    by_heads : (items : List ℕ) → AreHeads 1 items 0 message → 0 < length message
    by_heads [] h = absurd (omega (arith, h.0))
    by_heads (n ∷ more) h = omega (arith, ap (length {A = ℕ}) h.2, length-append h.0 h.1, some_bytes n h.0 h.3)

marked : (message : List ℕ) → 0 < length message → IsVersion2 message → is_mark message ≡ true
marked message some h = by_heads h.0 h.1 h.2
  where
    by_heads : (heads : List (List ℕ)) → message ≡ flat_map (λ head. head) heads → AllByRecursion IsHeadOfVersion2 heads → is_mark message ≡ true
    by_heads [] is all = absurd (omega (arith, some, ap (length {A = ℕ}) is))
    by_heads (head ∷ more) is all = ap is_mark is ∙ same_mark all.0.1 head (flat_map (λ h. h) more) all.0.2 ∙ all.0.0

-- A message that is no array is one of version 2 exactly if its mark is.
pub by_mark : (message : List ℕ) → IsMessage message → get_or message 0 0 ≢ 42 → (is_mark message ≡ true) ↔ IsVersion2 message
by_mark message is apart = (λ m. one_head message is m apart, marked message (some_message message is))
