-- Readers: each takes a front of the bytes, whatever follows; where more bytes are wanted some more are
-- read to the last; and where a byte stops it, what stands before that byte wants more, and nothing
-- that follows helps.
use Rattle.std.proofs.Common.{◌≡◌, ℕ, ◌+◌, ◌-◌, ◌<◌, Bool, true, false, cond, eqb, ltb, List, [], ◌∷◌, ◌++◌, length, take, drop, replicate, append_assoc, append-nil, Ok, Err, refl, sym, ap, ◌∙◌, arith, ◌⊎◌, inl, inr}
use Rattle.std.proofs.lemmas.Bool.{ltb-true}
use Rattle.std.proofs.lemmas.Bool.Decides.{nat_tests}
use Rattle.std.proofs.lemmas.List.{length-append, length-replicate}
use Rattle.std.proofs.lemmas.Grind.{common_steps}
use Rattle.resp.specs.declared.stop.Stop.{Stop}
use Rattle.resp.specs.declared.stop.Stop.TheVariants.{WantsMore, StopsAt}
use Rattle.resp.specs.Requests.{Read, and_then, byte_at, so_many_at}

abbrev pub read : {A : Type 0} → A → List ℕ → Read A
read x rest = Ok (x, rest)

abbrev pub stopped : {A : Type 0} → Stop → Read A
stopped stop = Err stop

-- which way a test went
pub went : {A : Type 0} (b : Bool) (x y z : Read A) → cond b x y ≡ z → ((b ≡ true) × (x ≡ z)) ⊎ ((b ≡ false) × (y ≡ z))
went true x y z e = inl (refl, e)
went false x y z e = inr (refl, e)

pub no_read : {A : Type 0} (stop : Stop) (x : A) (rest : List ℕ) → stopped stop ≡ read x rest → ⊥
no_read stop x rest e = absurd cc

pub no_stop : {A : Type 0} (stop : Stop) (x : A) (rest : List ℕ) → read x rest ≡ stopped stop → ⊥
no_stop stop x rest e = absurd cc

same_pair : {A : Type 0} (p q : A × List ℕ) → read p.0 p.1 ≡ read q.0 q.1 → p ≡ q
same_pair p q e = cc

pub same_value : {A : Type 0} (x y : A) (rest more : List ℕ) → read x rest ≡ read y more → x ≡ y
same_value {A = A} x y rest more e = ap (λ (p : A × List ℕ). p.0) (same_pair (x, rest) (y, more) e)

pub same_rest : {A : Type 0} (x y : A) (rest more : List ℕ) → read x rest ≡ read y more → rest ≡ more
same_rest {A = A} x y rest more e = ap (λ (p : A × List ℕ). p.1) (same_pair (x, rest) (y, more) e)

pub wants_no_stop : {A : Type 0} (n : ℕ) → stopped {A = A} WantsMore ≡ stopped (StopsAt n) → ⊥
wants_no_stop n e = absurd cc

pub stop_wants_no : {A : Type 0} (n : ℕ) → stopped {A = A} (StopsAt n) ≡ stopped WantsMore → ⊥
stop_wants_no n e = absurd cc

pub same_left : {A : Type 0} (n m : ℕ) → stopped {A = A} (StopsAt n) ≡ stopped (StopsAt m) → n ≡ m
same_left n m e = cc

same_stop : {A : Type 0} (s t : Stop) → stopped {A = A} s ≡ stopped t → s ≡ t
same_stop s t e = cc

-- some bytes more are read to the last
pub record Filled {A : Type 0} (F : List ℕ → Read A) (bytes : List ℕ) : Type 0 where
  pub more : List ℕ
  pub value : A
  pub reads : F (bytes ++ more) ≡ Ok (value, [])

pub record Takes {A : Type 0} (F : List ℕ → Read A) (bytes rest : List ℕ) (x : A) : Type 0 where
  pub front : List ℕ
  pub bytes_are : bytes ≡ front ++ rest
  pub reads : (other : List ℕ) → F (front ++ other) ≡ Ok (x, other)

pub record Stops {A : Type 0} (F : List ℕ → Read A) (bytes : List ℕ) (left : ℕ) : Type 0 where
  pub before : List ℕ
  pub byte : ℕ
  pub after : List ℕ
  pub bytes_are : bytes ≡ before ++ byte ∷ after
  pub left_is : left ≡ length after + 1
  pub wants : F before ≡ Err WantsMore
  pub stays : (other : List ℕ) → F (before ++ byte ∷ other) ≡ Err (StopsAt (length other + 1))

pub record IsReader {A : Type 0} (F : List ℕ → Read A) : Type 0 where
  pub takes : (bytes rest : List ℕ) (x : A) → F bytes ≡ Ok (x, rest) → Takes F bytes rest x
  pub fills : (bytes : List ℕ) → F bytes ≡ Err WantsMore → Filled F bytes
  pub stops : (bytes : List ℕ) (left : ℕ) → F bytes ≡ Err (StopsAt left) → Stops F bytes left

-- ---- one after the other

module _ {A B : Type 0} (F : List ℕ → Read A) (G : A → List ℕ → Read B) (f : IsReader F) (g : (x : A) → IsReader (G x)) where
  abbrev joint : List ℕ → Read B
  joint bytes = and_then (F bytes) G

  goes_on : (front : List ℕ) (x : A) → ((other : List ℕ) → F (front ++ other) ≡ Ok (x, other)) → (other : List ℕ) → joint (front ++ other) ≡ G x other
  goes_on front x reads other = ap (λ (r : Read A). and_then r G) (reads other)

  joint_takes : (bytes rest : List ℕ) (y : B) (r : Read A) → F bytes ≡ r → and_then r G ≡ Ok (y, rest) → Takes joint bytes rest y
  joint_takes bytes rest y (Err s) is e = absurd (no_read s y rest e)
  joint_takes bytes rest y (Ok x) is e =
      let one = f.takes bytes x.1 x.0 is in
      let two = (g x.0).takes x.1 rest y e in
      record {
        front = one.front ++ two.front;
        bytes_are = one.bytes_are ∙ ap (λ (t : List ℕ). one.front ++ t) two.bytes_are ∙ sym (append_assoc one.front two.front rest);
        reads = λ other. ap joint (append_assoc one.front two.front other) ∙ goes_on one.front x.0 one.reads (two.front ++ other) ∙ two.reads other;
      }

  joint_filled : (bytes : List ℕ) → Filled F bytes → ((x : A) → Filled (G x) []) → Filled joint bytes
  joint_filled bytes one begins =
      let l = f.takes (bytes ++ one.more) [] one.value one.reads in
      let two = begins one.value in
      let whole : bytes ++ one.more ≡ l.front = l.bytes_are ∙ append-nil l.front in
      record {
        more = one.more ++ two.more;
        value = two.value;
        reads = ap joint (sym (append_assoc bytes one.more two.more) ∙ ap (λ (t : List ℕ). t ++ two.more) whole) ∙ goes_on l.front one.value l.reads two.more ∙ two.reads;
      }

  joint_fills : (bytes : List ℕ) (r : Read A) → F bytes ≡ r → ((x : A) → Filled (G x) []) → and_then r G ≡ Err WantsMore → Filled joint bytes
  joint_fills bytes (Err WantsMore) is begins e = joint_filled bytes (f.fills bytes is) begins
  joint_fills bytes (Err (StopsAt n)) is begins e = absurd (stop_wants_no n e)
  joint_fills bytes (Ok x) is begins e =
      let one = f.takes bytes x.1 x.0 is in
      let two = (g x.0).fills x.1 e in
      record {
        more = two.more;
        value = two.value;
        reads = ap joint (ap (λ (t : List ℕ). t ++ two.more) one.bytes_are ∙ append_assoc one.front x.1 two.more) ∙ goes_on one.front x.0 one.reads (x.1 ++ two.more) ∙ two.reads;
      }

  joint_stops : (bytes : List ℕ) (left : ℕ) (r : Read A) → F bytes ≡ r → and_then r G ≡ Err (StopsAt left) → Stops joint bytes left
  joint_stops bytes left (Err s) is e =
      let same : s ≡ StopsAt left = same_stop s (StopsAt left) e in
      let one = f.stops bytes left (is ∙ ap (λ (t : Stop). stopped t) same) in
      record {
        before = one.before;
        byte = one.byte;
        after = one.after;
        bytes_are = one.bytes_are;
        left_is = one.left_is;
        wants = ap (λ (t : Read A). and_then t G) one.wants;
        stays = λ other. ap (λ (t : Read A). and_then t G) (one.stays other);
      }
  joint_stops bytes left (Ok x) is e =
      let one = f.takes bytes x.1 x.0 is in
      let two = (g x.0).stops x.1 left e in
      record {
        before = one.front ++ two.before;
        byte = two.byte;
        after = two.after;
        bytes_are = one.bytes_are ∙ ap (λ (t : List ℕ). one.front ++ t) two.bytes_are ∙ sym (append_assoc one.front two.before (two.byte ∷ two.after));
        left_is = two.left_is;
        wants = goes_on one.front x.0 one.reads two.before ∙ two.wants;
        stays = λ other. ap joint (append_assoc one.front two.before (two.byte ∷ other)) ∙ goes_on one.front x.0 one.reads (two.before ++ two.byte ∷ other) ∙ two.stays other;
      }

  pub joint_reader : ((x : A) → Filled (G x) []) → IsReader joint
  joint_reader begins = grind (arith, joint_takes, joint_fills, joint_stops)

pub nothing_reader : {A : Type 0} (y : A) → IsReader (λ rest. read y rest)
nothing_reader y = grind (arith, common_steps)

pub nothing_begins : {A : Type 0} (y : A) → Filled (λ rest. read y rest) []
nothing_begins y = record { more = []; value = y; reads = refl }

-- ---- one byte

module _ (byte : ℕ) where
  byte_takes : (bytes rest : List ℕ) (x : ℕ) → byte_at byte bytes ≡ Ok (x, rest) → Takes (byte_at byte) bytes rest x
  unfolding byte_at
  byte_takes [] rest x e = absurd (no_read WantsMore x rest e)
  byte_takes (b ∷ bytes) rest x e =
      elim (went (eqb b byte) (read byte bytes) (stopped (StopsAt (length bytes + 1))) (read x rest) e) [
        | inl p ↦ record {
          front = b ∷ [];
          bytes_are = ap (λ (t : List ℕ). b ∷ t) (same_rest byte x bytes rest p.1);
          reads = λ other. rw p.0 (ap (λ (z : ℕ). read z other) (same_value byte x bytes rest p.1));
        }
        | inr p ↦ absurd (no_read (StopsAt (length bytes + 1)) x rest p.1)
      ]

  byte_fills : (bytes : List ℕ) → byte_at byte bytes ≡ Err WantsMore → Filled (byte_at byte) bytes
  unfolding byte_at
  byte_fills [] e =
      let same : eqb byte byte ≡ true = grind (arith, nat_tests) in
      record { more = byte ∷ []; value = byte; reads = rw same refl }
  byte_fills (b ∷ bytes) e = grind (arith, common_steps)

  byte_stops : (bytes : List ℕ) (left : ℕ) → byte_at byte bytes ≡ Err (StopsAt left) → Stops (byte_at byte) bytes left
  unfolding byte_at
  byte_stops [] left e = absurd (wants_no_stop left e)
  byte_stops (b ∷ bytes) left e =
      elim (went (eqb b byte) (read byte bytes) (stopped (StopsAt (length bytes + 1))) (stopped (StopsAt left)) e) [
        | inl p ↦ absurd (no_stop (StopsAt left) byte bytes p.1)
        | inr p ↦ record {
          before = [];
          byte = b;
          after = bytes;
          bytes_are = refl;
          left_is = sym (same_left (length bytes + 1) left p.1);
          wants = refl;
          stays = λ other. rw p.0 refl;
        }
      ]

pub byte_reader : (byte : ℕ) → IsReader (byte_at byte)
byte_reader byte = record { takes = byte_takes byte; fills = byte_fills byte; stops = byte_stops byte }

pub byte_front : (byte : ℕ) (bytes rest : List ℕ) (x : ℕ) → byte_at byte bytes ≡ Ok (x, rest) → bytes ≡ byte ∷ rest
unfolding byte_at
byte_front byte [] rest x e = absurd (no_read WantsMore x rest e)
byte_front byte (b ∷ bytes) rest x e = grind (arith, common_steps)

pub byte_again : (byte : ℕ) (rest : List ℕ) → byte_at byte (byte ∷ rest) ≡ Ok (byte, rest)
unfolding byte_at
byte_again byte rest = grind (arith, common_steps)

pub byte_wants : (byte : ℕ) → byte_at byte [] ≡ Err WantsMore
unfolding byte_at
byte_wants byte = refl

-- ---- so many bytes

pub so_many_again : (word rest : List ℕ) (n : ℕ) → length word ≡ n → so_many_at n (word ++ rest) ≡ Ok (word, rest)
unfolding so_many_at
so_many_again word rest n is = grind (arith, common_steps)

pub so_many_front : (n : ℕ) (bytes rest word : List ℕ) → so_many_at n bytes ≡ Ok (word, rest) → (bytes ≡ word ++ rest) × (length word ≡ n)
unfolding so_many_at
so_many_front n bytes rest word e = grind (arith, common_steps)

so_many_fills : (n : ℕ) (bytes : List ℕ) → so_many_at n bytes ≡ Err WantsMore → Filled (so_many_at n) bytes
unfolding so_many_at
so_many_fills n bytes e =
    elim (went (ltb (length bytes) n) (stopped WantsMore) (read (take n bytes) (drop n bytes)) (stopped WantsMore) e) [
      | inl p ↦
          let few : length bytes < n = ltb-true _ _ p.0 in
          let more : List ℕ = replicate (n - length bytes) 0 in
          let long : length (bytes ++ more) ≡ n = omega (arith, few, length-append bytes more, length-replicate {A = ℕ} (n - length bytes) 0) in
          record { more = more; value = bytes ++ more; reads = ap (so_many_at n) (sym (append-nil (bytes ++ more))) ∙ so_many_again (bytes ++ more) [] n long }
      | inr p ↦ absurd (no_stop WantsMore (take n bytes) (drop n bytes) p.1)
    ]

so_many_no_stop : (n : ℕ) (bytes : List ℕ) (left : ℕ) → so_many_at n bytes ≡ Err (StopsAt left) → ⊥
unfolding so_many_at
so_many_no_stop n bytes left e = grind (arith, common_steps)

pub so_many_reader : (n : ℕ) → IsReader (so_many_at n)
so_many_reader n = record {
  takes = λ bytes rest word e.
      let is = so_many_front n bytes rest word e in
      record { front = word; bytes_are = is.0; reads = λ other. so_many_again word other n is.1 };
  fills = so_many_fills n;
  stops = λ bytes left e. absurd (so_many_no_stop n bytes left e);
}

pub so_many_begins : (n : ℕ) → Filled (so_many_at n) []
so_many_begins n = record { more = replicate n 0; value = replicate n 0; reads = ap (so_many_at n) (sym (append-nil (replicate n 0))) ∙ so_many_again (replicate n 0) [] n (length-replicate {A = ℕ} n 0) }
