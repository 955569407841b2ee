-- Messages by their heads: a front of heads, and the message that goes on after it.
use Rattle.std.proofs.Common.{◌≡◌, ◌≢◌, ℕ, zero, suc, ◌+◌, ◌-◌, ◌<◌, ◌≤◌, ◌^◌, min, ltb, List, [], ◌∷◌, ◌++◌, length, take, drop, append_assoc, append-nil, Some, Result, Ok, Err, refl, sym, ap, subst, ◌∙◌, arith, ◌⊎◌, inl, inr}
use Rattle.std.proofs.lemmas.Grind.{common_steps}
use Rattle.std.specs.List.{AllByRecursion}
use Rattle.std.proofs.lemmas.Bool.{ltb-true, ltb-false}
use Rattle.std.proofs.lemmas.List.{length-append, take_at, drop_at, take-append-le, take-append-drop, length-take-le}
use Rattle.resp_core.proofs.Cases.{by_test}
use Rattle.resp.specs.declared.fault.Fault.{Fault}
use Rattle.resp.specs.declared.fault.Fault.TheVariants.{Incomplete, Malformed, TooDeep}
use Rattle.resp.specs.declared.heads.Kind.TheVariants.{Simple, Bulk, Array}
use Rattle.resp.specs.declared.scanning.Progress.{Progress}
use Rattle.resp.specs.Forms.{Answer, IsForm, IsInLine, IsUnnested, InOrder, crlf, line}
use Rattle.resp.specs.Reading.{text_until_line_end, after_text}
use Rattle.resp.specs.Messages.{kind_of, IsHead, AreHeads, IsMessage, Counts, IsScanned, IsSearched, HasNoMessage, CanBeMessage, BeginsNoMessage, MessageCause, head_at, head_of}
use Rattle.resp.proofs.Steps.{done, failed, ok_is}
use Rattle.resp.proofs.Lines.{text_in_line}
use Rattle.resp.proofs.Longer.{Continues}
use Rattle.resp.proofs.HeadGrammar.{head_takes, head_again, head_continues, head_completes, head_by_line, head_again_from, head_short, null_head, minus_one, number}

-- ---- heads one after another

pub heads_join : (wanted : ℕ) (items : List ℕ) (middle : ℕ) (front : List ℕ) (others : List ℕ) (left : ℕ) (more : List ℕ) → AreHeads wanted items middle front → AreHeads middle others left more
    → AreHeads wanted (items ++ others) left (front ++ more)
heads_join wanted [] middle front others left more h k = rw h.1 (subst (λ (n : ℕ). AreHeads n others left more) h.0 k)
heads_join wanted (n ∷ items) middle front others left more h k =
    (h.0, h.1 ++ more, ap (λ (b : List ℕ). b ++ more) h.2 ∙ append_assoc h.0 h.1 more, h.3, h.4, heads_join (wanted - 1 + n) items middle h.1 others left more h.5 k)

head_alone : (wanted items : ℕ) (head : List ℕ) → 0 < wanted → IsHead items head → AreHeads wanted (items ∷ []) (wanted - 1 + items) head
head_alone wanted items head some is = (head, [], sym (append-nil head), is, some, (refl, refl))

-- one head more
head_added : (after items n : ℕ) (all : List ℕ) (front head : List ℕ) → AreHeads 1 all (after + 1) front → IsHead items head → after + items ≡ n → AreHeads 1 (all ++ items ∷ []) n (front ++ head)
head_added after items n all front head h is e =
    let left : after + 1 - 1 + items ≡ n = omega (arith, e) in
    let some : 0 < after + 1 = omega arith in
    heads_join 1 all (after + 1) front (items ∷ []) n head h (subst (λ (k : ℕ). AreHeads (after + 1) (items ∷ []) k head) left (head_alone (after + 1) items head some is))

-- heads that stand at the front of what follows
record GoesOn (left : ℕ) (rest after : List ℕ) : Type 0 where
  items : List ℕ
  more : List ℕ
  heads : AreHeads left items 0 more
  rest_is : rest ≡ more ++ after

-- a message at the front goes on after each front of heads
goes_on : (wanted : ℕ) (items : List ℕ) (left : ℕ) (front rest : List ℕ) → AreHeads wanted items left front → (others message after : List ℕ) → AreHeads wanted others 0 message
    → front ++ rest ≡ message ++ after → GoesOn left rest after
goes_on wanted [] left front rest h others message after m e = record {
  items = others;
  more = message;
  heads = subst (λ (k : ℕ). AreHeads k others 0 message) (sym h.0) m;
  rest_is = ap (λ (f : List ℕ). f ++ rest) (sym h.1) ∙ e;
}
goes_on wanted (n ∷ items) left front rest h [] message after m e = absurd (omega (arith, m.0, h.4))
goes_on wanted (n ∷ items) left front rest h (k ∷ others) message after m e =
    let one : head_at (h.0 ++ (h.1 ++ rest)) ≡ Ok (n, h.1 ++ rest) = head_again n h.0 (h.1 ++ rest) h.3 in
    let two : head_at (m.0 ++ (m.1 ++ after)) ≡ Ok (k, m.1 ++ after) = head_again k m.0 (m.1 ++ after) m.3 in
    let here : front ++ rest ≡ h.0 ++ (h.1 ++ rest) = ap (λ (b : List ℕ). b ++ rest) h.2 ∙ append_assoc h.0 h.1 rest in
    let there : message ++ after ≡ m.0 ++ (m.1 ++ after) = ap (λ (b : List ℕ). b ++ after) m.2 ∙ append_assoc m.0 m.1 after in
    let same : h.0 ++ (h.1 ++ rest) ≡ m.0 ++ (m.1 ++ after) = sym here ∙ e ∙ there in
    let is = ok_is (n, h.1 ++ rest) (k, m.1 ++ after) (sym one ∙ ap head_at same ∙ two) in
    let items_is : k ≡ n = sym (ap (λ (p : ℕ × List ℕ). p.0) is) in
    goes_on (wanted - 1 + n) items left h.1 rest h.5 others m.1 after (subst (λ (i : ℕ). AreHeads (wanted - 1 + i) others 0 m.1) items_is m.5) (ap (λ (p : ℕ × List ℕ). p.1) is)

-- one message stands at the front
pub same_message : (message rest other after : List ℕ) → IsMessage message → IsMessage other → message ++ rest ≡ other ++ after → message ≡ other
same_message message rest other after is is_other e =
    let g = goes_on 1 is.0 0 message rest is.1 is_other.0 other after is_other.1 e in
    let long : length message ≡ length other = omega (arith, ap (length {A = ℕ}) (g.rest_is ∙ ended g.items g.more g.heads), ap (length {A = ℕ}) e, length-append message rest, length-append other after) in
    sym (take_at message rest (length message) refl) ∙ ap (take (length message)) e ∙ take_at other after (length message) (sym long)
  where
    ended : (items : List ℕ) (more : List ℕ) → AreHeads 0 items 0 more → more ++ after ≡ after
    ended [] more h = ap (λ (b : List ℕ). b ++ after) h.1
    ended (n ∷ items) more h = absurd (omega (arith, h.4))

-- ---- no message

no_head : (items : ℕ) (rest : List ℕ) (fault : Fault) → done {A = ℕ × List ℕ} (items, rest) ≡ failed fault → ⊥
no_head items rest fault e = absurd cc

stopped : (left : ℕ) → 0 < left → (items : List ℕ) (more after rest : List ℕ) (fault : Fault) → AreHeads left items 0 more → rest ≡ more ++ after → head_at rest ≡ Err fault → ⊥
stopped left some [] more after rest fault h is e = absurd (omega (arith, h.0, some))
stopped left some (n ∷ items) more after rest fault h is e =
    let whole : rest ≡ h.0 ++ (h.1 ++ after) = is ∙ ap (λ (b : List ℕ). b ++ after) h.2 ∙ append_assoc h.0 h.1 after in
    no_head n (h.1 ++ after) fault (sym (head_again n h.0 (h.1 ++ after) h.3) ∙ ap head_at (sym whole) ∙ e)

module _ (items : List ℕ) (left : ℕ) (front rest : List ℕ) (heads : AreHeads 1 items left front) (some : 0 < left) where
  none_stands : (fault : Fault) → head_at rest ≡ Err fault → HasNoMessage (front ++ rest)
  none_stands fault e = λ message after is same.
      let g = goes_on 1 items left front rest heads is.0 message after is.1 same in
      stopped left some g.items g.more after rest fault g.heads g.rest_is e

-- a message of nulls
nulls : ℕ → List ℕ
nulls zero = []
nulls (suc n) = (95 ∷ crlf) ++ nulls n

record Nulls (n : ℕ) : Type 0 where
  items : List ℕ
  heads : AreHeads n items 0 (nulls n)

are_nulls : (n : ℕ) → Nulls n
unfolding nulls
are_nulls zero = record { items = []; heads = (refl, refl) }
are_nulls (suc n) =
    let others = are_nulls n in
    let some : 0 < suc n = omega arith in
    let left : n ≡ suc n - 1 + 0 = omega arith in
    record {
      items = 0 ∷ others.items;
      heads = (95 ∷ crlf, nulls n, refl, null_head, some, subst (λ (k : ℕ). AreHeads k others.items 0 (nulls n)) left others.heads);
    }

regroup : (a b c d e : List ℕ) → b ++ c ≡ d → (a ++ d) ++ e ≡ (a ++ b) ++ (c ++ e)
regroup a b c d e h = grind (arith, common_steps)

module _ (items : List ℕ) (after : ℕ) (front rest : List ℕ) (heads : AreHeads 1 items (after + 1) front) where
  some : 0 < after + 1
  some = omega arith

  completed : head_at rest ≡ Err Incomplete → CanBeMessage (front ++ rest)
  completed e =
      let f = head_completes rest e in
      let t = head_takes (rest ++ f.0) (f.1, []) f.2 in
      let head_is : rest ++ f.0 ≡ t.0 = t.1 ∙ append-nil t.0 in
      let n = after + f.1 in
      let others = are_nulls n in
      let one = head_added after f.1 n items front t.0 heads t.2 refl in
      let all = heads_join 1 (items ++ f.1 ∷ []) n (front ++ t.0) others.items 0 (nulls n) one others.heads in
      (f.0 ++ nulls n, ((items ++ f.1 ∷ []) ++ others.items, subst (λ (b : List ℕ). AreHeads 1 ((items ++ f.1 ∷ []) ++ others.items) 0 b) (regroup front rest f.0 t.0 (nulls n) head_is) all))

  none_begins : (fault : Fault) → ((more : List ℕ) → head_at (rest ++ more) ≡ Err fault) → BeginsNoMessage (front ++ rest)
  none_begins fault stays = λ more. subst HasNoMessage (sym (append_assoc front rest more)) (none_stands items (after + 1) front (rest ++ more) heads some fault (stays more))

  pub incomplete : head_at rest ≡ Err Incomplete → MessageCause (front ++ rest) Incomplete
  incomplete e = (none_stands items (after + 1) front rest heads some Incomplete e, completed e)

  abbrev continued : Result (ℕ × List ℕ) Fault → List ℕ → Type 0
  continued r more = Continues r more (head_at (rest ++ more))

  pub malformed : (fault : Fault) → head_at rest ≡ Err fault → fault ≢ Incomplete → MessageCause (front ++ rest) Malformed
  malformed Incomplete e other = absurd (other refl)
  malformed Malformed e other = none_begins Malformed (λ more. subst (λ (r : Result (ℕ × List ℕ) Fault). continued r more) e (head_continues rest more))
  malformed TooDeep e other = none_begins TooDeep (λ more. subst (λ (r : Result (ℕ × List ℕ) Fault). continued r more) e (head_continues rest more))

  -- a message at the front is the front and the head, if these want no more items
  pub only_this : (items_of : ℕ) (left : List ℕ) → head_at rest ≡ Ok (items_of, left) → after + items_of ≡ 0 → (message others : List ℕ) → IsMessage message → front ++ rest ≡ message ++ others → left ≡ others
  only_this n left e none message others is same =
      let t = head_takes rest (n, left) e in
      let whole = head_added after n 0 items front t.0 heads t.2 none in
      let split : (front ++ t.0) ++ left ≡ message ++ others = append_assoc front t.0 left ∙ ap (λ (b : List ℕ). front ++ b) (sym t.1) ∙ same in
      let g = goes_on 1 (items ++ n ∷ []) 0 (front ++ t.0) left whole is.0 message others is.1 split in
      ended g.items g.more others left g.heads g.rest_is
    where
      ended : (items : List ℕ) (more others left : List ℕ) → AreHeads 0 items 0 more → left ≡ more ++ others → left ≡ others
      ended [] more others left h e = e ∙ ap (λ (b : List ℕ). b ++ others) h.1
      ended (n ∷ items) more others left h e = absurd (omega (arith, h.4))

-- ---- the progress of a scan

counts_on : (counted bytes items n wanted end : ℕ) → Counts counted bytes items → wanted ≡ min (counted + n) (2 ^ 64 - 1) → 0 < wanted → bytes < end → Counts (wanted - 1) end (items + n - 1)
counts_on counted bytes items n wanted end c sum wants grows = by_test (ltb counted items)
    (λ t.
    let many : 2 ^ 64 - 1 ≤ counted + bytes = c.1 (ltb-true _ _ t) in
    (omega (arith, c.0, sum, wants), λ fewer. omega (arith, c.0, sum, wants, many, grows)))
    (λ f.
    let all : items ≤ counted = ltb-false _ _ f in
    (omega (arith, c.0, sum, wants), λ fewer. omega (arith, all, sum, wants, grows, fewer)))

all_counted : (counted bytes items n : ℕ) → Counts counted bytes items → min (counted + n) (2 ^ 64 - 1) ≡ 0 → bytes < 2 ^ 63 → items + n ≡ 0
all_counted counted bytes items n c none fits = grind (arith, common_steps)

-- what is left of the bytes
abbrev pub left_of : Progress → List ℕ → List ℕ
left_of at bytes = drop at.bytes bytes

module _ (at : Progress) (bytes : List ℕ) (s : IsScanned at bytes) where
  pub rest_is : left_of at bytes ≡ s.text ++ s.rest
  rest_is = ap (λ (b : List ℕ). drop at.bytes b) s.bytes_are ∙ drop_at s.front (s.text ++ s.rest) at.bytes s.bytes_is

  -- no line ends in the bytes that were searched
  pub searched : AllByRecursion IsInLine (take at.searched (left_of at bytes))
  searched = subst (λ (t : List ℕ). AllByRecursion IsInLine t) (sym (ap (λ (b : List ℕ). take at.searched b) rest_is ∙ take_at s.text s.rest at.searched s.searched_is)) s.one_line

  pub bytes_are : bytes ≡ s.front ++ left_of at bytes
  bytes_are = s.bytes_are ∙ ap (λ (b : List ℕ). s.front ++ b) (sym rest_is)

  pub short : at.bytes + at.searched ≤ length bytes
  short = omega (arith, ap (length {A = ℕ}) s.bytes_are, length-append s.front (s.text ++ s.rest), length-append s.text s.rest, s.bytes_is, s.searched_is)

-- more bytes change nothing
pub scanned_longer : (at : Progress) (bytes more : List ℕ) → IsScanned at bytes → IsScanned at (bytes ++ more)
scanned_longer at bytes more s = grind (arith, common_steps)

in_line_take : (n : ℕ) (text : List ℕ) → AllByRecursion IsInLine text → AllByRecursion IsInLine (take n text)
in_line_take n text h1 = grind (arith, common_steps)

-- the line from the bytes that are left, by a search that goes on
pub record Line (at : Progress) (rest line after : List ℕ) : Type 0 where
  pub whole : rest ≡ line ++ after
  pub long : at.searched ≤ length line
  pub found : AllByRecursion IsInLine (take at.searched rest) → (line ≡ text_until_line_end rest) × (after ≡ after_text rest)

module _ (at : Progress) (bytes rest line after : List ℕ) (s : IsScanned at bytes) (left : rest ≡ left_of at bytes) (l : Line at rest line after) where
  line_found : (line ≡ text_until_line_end (left_of at bytes)) × (after ≡ after_text (left_of at bytes))
  line_found = subst (λ (r : List ℕ). AllByRecursion IsInLine (take at.searched r) → (line ≡ text_until_line_end r) × (after ≡ after_text r)) left l.found (searched at bytes s)

  -- what was searched is still what was searched
  pub searched_line : IsSearched (take at.searched line)
  searched_line =
      let whole : left_of at bytes ≡ line ++ after = sym left ∙ l.whole in
      let long : at.searched ≤ length line = l.long in
      let text : s.text ≡ take at.searched line = sym (take_at s.text s.rest at.searched s.searched_is) ∙ ap (take at.searched) (sym (rest_is at bytes s) ∙ whole) ∙ take-append-le at.searched line after long in
      subst IsSearched text s.zeros

  -- the next head, by its line
  pub head_is : head_at (left_of at bytes) ≡ head_of at.searched line after
  head_is =
      sym (head_by_line (left_of at bytes)) ∙ ap (λ (a : List ℕ). head_of 0 (text_until_line_end (left_of at bytes)) a) (sym line_found.1) ∙ ap (λ (t : List ℕ). head_of 0 t after) (sym line_found.0)
      ∙ sym (head_again_from at.searched line after l.long searched_line)

  -- the search goes on after what was searched
  pub scanned_stop : (further : ℕ) → further ≤ length line → IsSearched (take further line) → IsScanned (record { bytes = at.bytes; searched = further; after = at.after }) bytes
  scanned_stop further le known =
      let whole : left_of at bytes ≡ take further line ++ (drop further line ++ after) =
      sym left ∙ l.whole ∙ ap (λ (t : List ℕ). t ++ after) (sym (take-append-drop further line)) ∙ append_assoc (take further line) (drop further line) after in
      let clean : AllByRecursion IsInLine line = subst (AllByRecursion IsInLine) (sym line_found.0) (text_in_line (left_of at bytes)) in
      record {
        items = s.items;
        front = s.front;
        text = take further line;
        rest = drop further line ++ after;
        after = s.after;
        bytes_are = bytes_are at bytes s ∙ ap (λ (b : List ℕ). s.front ++ b) whole;
        heads = s.heads;
        bytes_is = s.bytes_is;
        after_is = s.after_is;
        searched_is = length-take-le further line le;
        one_line = in_line_take further line clean;
        zeros = known;
      }

-- what follows a head is shorter than what the head begins
pub left_short : (bytes rest line after left : List ℕ) (start searched items : ℕ) → rest ≡ line ++ after → length rest + start ≡ length bytes → head_of searched line after ≡ Ok (items, left) → length left + start < length bytes
left_short bytes rest line after left start searched items e total reads =
    omega (arith, head_short searched line after (items, left) reads, ap (length {A = ℕ}) e, length-append line after, total)

module _ (at : Progress) (bytes : List ℕ) (s : IsScanned at bytes) (items : ℕ) (left : List ℕ) (reads : head_at (left_of at bytes) ≡ Ok (items, left)) where
  -- the front with the head
  record Further : Type 0 where
    head : List ℕ
    is : IsHead items head
    bytes_are : bytes ≡ (s.front ++ head) ++ left
    grows : at.bytes < length (s.front ++ head)
    long : length (s.front ++ head) ≡ length bytes - length left
    long_of : length bytes ≡ length (s.front ++ head) + length left

  further : Further
  further =
      let t = head_takes (left_of at bytes) (items, left) reads in
      let whole : bytes ≡ (s.front ++ t.0) ++ left = bytes_are at bytes s ∙ ap (λ (b : List ℕ). s.front ++ b) t.1 ∙ sym (append_assoc s.front t.0 left) in
      let some : 0 < length t.0 = omega (arith, ap (length {A = ℕ}) t.2.4) in
      let total : length bytes ≡ length (s.front ++ t.0) + length left = ap (length {A = ℕ}) whole ∙ length-append (s.front ++ t.0) left in
      let sum : length (s.front ++ t.0) ≡ length s.front + length t.0 = length-append s.front t.0 in
      record { head = t.0; is = t.2; bytes_are = whole; grows = omega (arith, sum, some, s.bytes_is); long = omega (arith, total); long_of = total }

  pub scanned_on : (wanted : ℕ) → wanted ≡ min (at.after + items) (2 ^ 64 - 1) → 0 < wanted → IsScanned (record { bytes = length bytes - length left; searched = 0; after = wanted - 1 }) bytes
  scanned_on wanted sum wants =
      let f = further in
      let more : s.after + items ≡ s.after + items - 1 + 1 = omega (arith, sum, wants, s.after_is.0) in
      record {
        items = s.items ++ items ∷ [];
        front = s.front ++ f.head;
        text = [];
        rest = left;
        after = s.after + items - 1;
        bytes_are = f.bytes_are;
        heads = head_added s.after items (s.after + items - 1 + 1) s.items s.front f.head s.heads f.is more;
        bytes_is = f.long;
        after_is = counts_on at.after at.bytes s.after items wanted (length bytes - length left) s.after_is sum wants (omega (arith, f.grows, f.long));
        searched_is = refl;
        one_line = tt;
        zeros = tt;
      }

  module _ (none : min (at.after + items) (2 ^ 64 - 1) ≡ 0) (fits : length bytes < 2 ^ 63) where
    no_more : s.after + items ≡ 0
    no_more = all_counted at.after at.bytes s.after items s.after_is none (omega (arith, fits, short at bytes s))

    pub found : (message : List ℕ) × (rest : List ℕ) × (bytes ≡ message ++ rest) × IsMessage message × (length bytes - length left ≡ length message)
    found =
        let f = further in
        (s.front ++ f.head, left, f.bytes_are, (s.items ++ items ∷ [], head_added s.after items 0 s.items s.front f.head s.heads f.is no_more), sym f.long)

    pub found_only : (message rest : List ℕ) → IsMessage message → bytes ≡ message ++ rest → length bytes - length left ≡ length message
    found_only message rest is same = grind (arith, common_steps, only_this, no_more, bytes_are, length-append)

module _ (at : Progress) (bytes : List ℕ) (s : IsScanned at bytes) where
  pub incomplete_cause : head_at (left_of at bytes) ≡ Err Incomplete → MessageCause bytes Incomplete
  incomplete_cause e = subst (λ (b : List ℕ). MessageCause b Incomplete) (sym (bytes_are at bytes s)) (incomplete s.items s.after s.front (left_of at bytes) s.heads e)

  pub malformed_cause : (fault : Fault) → head_at (left_of at bytes) ≡ Err fault → fault ≢ Incomplete → MessageCause bytes Malformed
  malformed_cause fault e other = subst (λ (b : List ℕ). MessageCause b Malformed) (sym (bytes_are at bytes s)) (malformed s.items s.after s.front (left_of at bytes) s.heads fault e other)

pub not_found : (bytes : List ℕ) (fault : Fault) → MessageCause bytes fault → HasNoMessage bytes
not_found bytes Incomplete c = c.0
not_found bytes Malformed c = subst HasNoMessage (append-nil bytes) (c [])
not_found bytes TooDeep c = absurd c

pub scanned_none : (bytes : List ℕ) → IsScanned (record { bytes = 0; searched = 0; after = 0 }) bytes
scanned_none bytes = record {
  items = [];
  front = [];
  text = [];
  rest = bytes;
  after = 0;
  bytes_are = refl;
  heads = (refl, refl);
  bytes_is = refl;
  after_is = (omega arith, λ fewer. absurd (omega (arith, fewer)));
  searched_is = refl;
  one_line = tt;
  zeros = tt;
}

-- ---- each reply of version 2 is a message

record Items (wanted : ℕ) (left : ℕ) (bytes : List ℕ) : Type 0 where
  items : List ℕ
  heads : AreHeads wanted items left bytes

simple_kind : (mark : ℕ) → (mark ≡ 43) ⊎ (mark ≡ 45) ⊎ (mark ≡ 58) → kind_of mark ≡ Some Simple
unfolding kind_of
simple_kind mark h1 = grind (arith)

bulk_kind : (mark : ℕ) → mark ≡ 36 → kind_of mark ≡ Some Bulk
unfolding kind_of
bulk_kind mark e = rw e refl

array_kind : (mark : ℕ) → mark ≡ 42 → kind_of mark ≡ Some Array
unfolding kind_of
array_kind mark e = rw e refl

flat_head : (a : Answer) (mark : ℕ) (text body : List ℕ) → AllByRecursion IsInLine text → IsUnnested a mark text body → IsHead 0 (line mark text ++ body)
flat_head a mark text body h1 h2 = grind (arith, simple_kind, bulk_kind)

alone : (left : ℕ) (form head : List ℕ) → form ≡ head → IsHead 0 head → Items (left + 1) left form
alone left form head e is =
    let some : 0 < left + 1 = omega arith in
    let same : left ≡ left + 1 - 1 + 0 = omega arith in
    record { items = 0 ∷ []; heads = (head, [], e ∙ sym (append-nil head), is, some, (same, refl)) }

joined : (wanted middle left : ℕ) (front more bytes : List ℕ) → Items wanted middle front → Items middle left more → bytes ≡ front ++ more → Items wanted left bytes
joined wanted middle left front more bytes one two e =
    record { items = one.items ++ two.items; heads = subst (λ (b : List ℕ). AreHeads wanted (one.items ++ two.items) left b) (sym e) (heads_join wanted one.items middle front two.items left more one.heads two.heads) }

in_order : (Each : Answer → List ℕ → Type 0) → ((a : Answer) (form : List ℕ) → Each a form → (left : ℕ) → Items (left + 1) left form)
    → (answers : List Answer) (body : List ℕ) → InOrder Each answers body → (left : ℕ) → Items (left + length answers) left body
in_order Each each [] body h left =
    let same : left ≡ left + 0 = omega arith in
    record { items = []; heads = (same, h) }
in_order Each each (a ∷ answers) body h left =
    let wanted : left + length answers + 1 ≡ left + length (a ∷ answers) = omega arith in
    let one = subst (λ (n : ℕ). Items n (left + length answers) h.0) wanted (each a h.0 h.3 (left + length answers)) in
    joined (left + length (a ∷ answers)) (left + length answers) left h.0 h.1 body one (in_order Each each answers h.1 h.4 left) h.2

form_items : (levels : ℕ) (a : Answer) (form : List ℕ) → IsForm levels a form → (left : ℕ) → Items (left + 1) left form
unfolding IsForm
form_items zero a form h left = alone left form (line h.0 h.1 ++ h.2) h.3 (flat_head a h.0 h.1 h.2 h.4 h.5)
form_items (suc levels) a form h left = elim h.5 [
  | inl flat ↦ alone left form (line h.0 h.1 ++ h.2) h.3 (flat_head a h.0 h.1 h.2 h.4 flat)
  | inr nested ↦ elim nested [
    | inl n ↦ alone left form (line h.0 h.1 ++ h.2) h.3 (h.0, h.1, h.2, Array, refl, h.4, array_kind h.0 n.0, (n.1, minus_one h.1 n.2))
    | inr n ↦
        let count = length n.1 in
        let some : 0 < left + 1 = omega arith in
        let sum : left + count ≡ left + 1 - 1 + count = omega arith in
        let head : IsHead count (line h.0 h.1) = (h.0, h.1, [], Array, sym (append-nil (line h.0 h.1)), h.4, array_kind h.0 n.0, (refl, number h.1 count n.2)) in
        let one : AreHeads (left + 1) (count ∷ []) (left + count) (line h.0 h.1) = (line h.0 h.1, [], sym (append-nil (line h.0 h.1)), head, some, (sum, refl)) in
        joined (left + 1) (left + count) left (line h.0 h.1) h.2 form (record { items = count ∷ []; heads = one }) (in_order (IsForm levels) (form_items levels) n.1 h.2 n.3 left) h.3
  ]
]

pub form_message : (levels : ℕ) (a : Answer) (form : List ℕ) → IsForm levels a form → IsMessage form
form_message levels a form h =
    let is = form_items levels a form h 0 in
    (is.items, is.heads)
