-- What is read as a reply has a form, and so has the one reply that such replies make.
use Rattle.std.proofs.Common.{◌≡◌, ◌<◌, ◌≤◌, ◌+◌, ◌^◌, inl, inr, ℕ, zero, suc, ℤ, pos, negsuc, Bool, true, false, List, [], ◌∷◌, ◌++◌, Option, Some, None, Result, Ok, Err, cond, codes, length, refl, sym, ap, subst, ◌∙◌, arith}
use Rattle.std.specs.Prelude.{bytes_eq, nat_eq}
use Rattle.std.specs.List.{AllByRecursion}
use Rattle.std.specs.Str.{is_utf8}
use Rattle.std.proofs.lemmas.List.{length-append}
use Rattle.std.proofs.lemmas.Option.{same_Some}
use Rattle.std.proofs.lemmas.Slice.Eq.{bytes_eq-Decides}
use Rattle.std.proofs.lemmas.Str.{IsUtf8-from_is_utf8}
use Rattle.resp_core.specs.Reply.{Reply, Replies, nil, int, bulk, array, simple, okay, pairs, no_replies, reply, array_of, items_in, replies_of}
use Rattle.resp.specs.Forms.{Answer, all_of, answer_before, array_of_all, below_zero, crlf, depth, depth_items, HasForm, HaveForm, InOrder, int_in, IsForm, IsInLine, IsNested, IsShort, IsUnnested, line, not_below_zero, number_up_to, simple_of}
use Rattle.resp.proofs.Digits.{number_below}
use Rattle.resp.proofs.Written.{count_is}
use Rattle.resp.specs.declared.reading.TheConstants.{MAX_LEVELS}
use Rattle.redis_bytes.specs.Replies.{AreReplies, IsWritable}

-- a reply that has a form, with arrays nested at most so deep
abbrev pub IsFormed : ℕ → Reply → Type 0
IsFormed levels r = HasForm r × (depth r ≤ levels)

abbrev value_of : Reply → Answer
value_of r = Ok r

abbrev found_all : List Reply → Result (List Reply) (List ℕ)
found_all replies = Ok replies

same_value : (r s : Reply) → value_of r ≡ value_of s → r ≡ s
same_value r s e = cc

same_all : (rs ss : List Reply) → found_all rs ≡ found_all ss → rs ≡ ss
same_all rs ss e = cc

-- ---- numbers and lines

below_short : (o : Option ℕ) (n : ℤ) → ((m : ℕ) → Some m ≡ o → m < 2 ^ 63 + 1) → below_zero o ≡ Some n → IsShort n
below_short None n few e = absurd cc
below_short (Some zero) n few e = subst IsShort (same_Some (pos 0) n e) (omega arith)
below_short (Some (suc k)) n few e = subst IsShort (same_Some (negsuc k) n e) (omega (arith, few (suc k) refl))

above_short : (o : Option ℕ) (n : ℤ) → ((m : ℕ) → Some m ≡ o → m < 2 ^ 63) → not_below_zero o ≡ Some n → IsShort n
above_short None n few e = absurd cc
above_short (Some k) n few e = subst IsShort (same_Some (pos k) n e) (few k refl)

-- one of two numbers is short if each is
one_short : (b : Bool) (x y : Option ℤ) (n : ℤ) → (x ≡ Some n → IsShort n) → (y ≡ Some n → IsShort n) → cond b x y ≡ Some n → IsShort n
one_short true x y n f g e = f e
one_short false x y n f g e = g e

int_short : (text : List ℕ) (n : ℤ) → int_in text ≡ Some n → IsShort n
unfolding int_in
int_short [] n e = absurd cc
int_short (first ∷ more) n e =
    one_short (nat_eq first 45) (below_zero (number_up_to (2 ^ 63 + 1) more)) _ n
    (below_short (number_up_to (2 ^ 63 + 1) more) n (number_below (2 ^ 63 + 1) more))
    (one_short (nat_eq first 43) (not_below_zero (number_up_to (2 ^ 63) more)) (not_below_zero (number_up_to (2 ^ 63) (first ∷ more))) n
    (above_short (number_up_to (2 ^ 63) more) n (number_below (2 ^ 63) more))
    (above_short (number_up_to (2 ^ 63) (first ∷ more)) n (number_below (2 ^ 63) (first ∷ more))))
    e

-- one of two replies has a form if each has
one_formed : (levels : ℕ) (b : Bool) (x y : Reply) → (b ≡ true → IsFormed levels x) → (b ≡ false → IsFormed levels y) → IsFormed levels (cond b x y)
one_formed levels true x y f g = f refl
one_formed levels false x y f g = g refl

simple_formed : (levels : ℕ) (text : List ℕ) → AllByRecursion IsInLine text → length text < 2 ^ 63 → IsFormed levels (simple_of text)
simple_formed levels text lines few =
    one_formed levels (bytes_eq text (codes "OK")) okay (cond (is_utf8 text) (simple text) (bulk text))
    (λ ok. (tt, omega arith))
    (λ other. one_formed levels (is_utf8 text) (simple text) (bulk text)
    (λ utf. ((IsUtf8-from_is_utf8 text utf, lines, λ same. let ok : bytes_eq text (codes "OK") ≡ true = (bytes_eq-Decides text (codes "OK")).1 same in absurd cc), omega arith))
    (λ no. (few, omega arith)))

unnested_formed : (levels : ℕ) (r : Reply) (mark : ℕ) (text body : List ℕ) → AllByRecursion IsInLine text → length text < 2 ^ 63 → IsUnnested (value_of r) mark text body → IsFormed levels r
unnested_formed levels r mark text body lines few (inl p) = subst (IsFormed levels) (sym (same_value r (simple_of text) p.2)) (simple_formed levels text lines few)
unnested_formed levels r mark text body lines few (inr (inl p)) = let e = p.2 in absurd cc
unnested_formed levels r mark text body lines few (inr (inr (inl p))) = subst (IsFormed levels) (sym (same_value r (int p.2) p.4)) (int_short text p.2 p.3, omega arith)
unnested_formed levels r mark text body lines few (inr (inr (inr (inl p)))) = subst (IsFormed levels) (sym (same_value r nil p.3)) (tt, omega arith)
unnested_formed levels r mark text body lines few (inr (inr (inr (inr p)))) =
    subst (IsFormed levels) (sym (same_value r (bulk p.1) p.4)) (number_below (2 ^ 63) text (length p.1) (sym p.2), omega arith)

-- ---- arrays

pub all_formed : (levels : ℕ) (rs : List Reply) → AllByRecursion (IsFormed levels) rs → HaveForm (replies_of rs) × (depth_items (replies_of rs) ≤ levels)
all_formed levels [] are = (tt, omega arith)
all_formed levels (r ∷ rs) are =
    let more = all_formed levels rs are.1 in
    ((are.0.0, more.0), omega (arith, are.0.1, more.1))

pub array_formed : (levels limit : ℕ) (rs : List Reply) → levels < limit → length rs < 2 ^ 63 → AllByRecursion (IsFormed levels) rs → IsFormed limit (array (replies_of rs))
array_formed levels limit rs lower few are =
    let all = all_formed levels rs are in
    ((omega (arith, few, count_is rs), all.0), omega (arith, lower, all.1))

items_formed : (levels : ℕ) (rs : Replies) → HaveForm rs → depth_items rs ≤ levels → AllByRecursion (IsFormed levels) (items_in rs)
items_formed levels no_replies have low = tt
items_formed levels (reply r rs) have low = ((have.0, omega (arith, low)), items_formed levels rs have.1 (omega (arith, low)))

-- the items of an array that has a form
pub array_items : (levels limit : ℕ) (r : Reply) (items : List Reply) → limit ≤ levels + 1 → array_of r ≡ Some items → IsFormed limit r → AllByRecursion (IsFormed levels) items
array_items levels limit nil items lower e formed = absurd cc
array_items levels limit (int n) items lower e formed = absurd cc
array_items levels limit (bulk bytes) items lower e formed = absurd cc
array_items levels limit (array rs) items lower e formed = subst (AllByRecursion (IsFormed levels)) (same_Some (items_in rs) items e) (items_formed levels rs formed.0.1 (omega (arith, lower, formed.1)))
array_items levels limit (simple text) items lower e formed = absurd cc
array_items levels limit okay items lower e formed = absurd cc
array_items levels limit (pairs ps) items lower e formed = absurd cc

-- ---- what is read

before_ok : (r : Reply) (others : Result (List Reply) (List ℕ)) (rs : List Reply) → answer_before (Ok r) others ≡ Ok rs → (more : List Reply) × (others ≡ Ok more) × (r ∷ more ≡ rs)
before_ok r (Ok more) rs e = (more, refl, same_all (r ∷ more) rs e)
before_ok r (Err text) rs e = absurd cc

array_found : (found : Result (List Reply) (List ℕ)) (r : Reply) → value_of r ≡ array_of_all found → (rs : List Reply) × (found ≡ Ok rs) × (r ≡ array (replies_of rs))
array_found (Ok rs) r e = (rs, refl, same_value r (array (replies_of rs)) e)
array_found (Err text) r e = absurd cc

-- what is read at some level has a form
abbrev Reads : ℕ → Type 0
Reads levels = (r : Reply) (form : List ℕ) → IsForm levels (value_of r) form → length form < 2 ^ 63 → IsFormed levels r

each_formed : (levels : ℕ) → Reads levels → (answers : List Answer) (body : List ℕ) → length body < 2 ^ 63 → InOrder (IsForm levels) answers body
    → (rs : List Reply) → all_of answers ≡ Ok rs → AllByRecursion (IsFormed levels) rs × (length rs ≡ length answers)
each_formed levels reads [] body few are rs e =
    subst (λ (l : List Reply). AllByRecursion (IsFormed levels) l × (length l ≡ 0)) (same_all [] rs e) (tt, refl)
each_formed levels reads (Ok r ∷ answers) body few are rs e =
    let all = before_ok r (all_of answers) rs e in
    let long = ap (length {A = ℕ}) are.2 ∙ length-append are.0 are.1 in
    let first = reads r are.0 are.3 (omega (arith, few, long)) in
    let others = each_formed levels reads answers are.1 (omega (arith, few, long)) are.4 all.0 all.1 in
    subst (λ (l : List Reply). AllByRecursion (IsFormed levels) l × (length l ≡ suc (length answers))) all.2 ((first, others.0), omega (arith, others.1))
each_formed levels reads (Err text ∷ answers) body few are rs e = absurd cc

nested_formed : (levels : ℕ) → Reads levels → (r : Reply) (mark : ℕ) (text body : List ℕ) → length body < 2 ^ 63 → IsNested (IsForm levels) (value_of r) mark text body → IsFormed (suc levels) r
nested_formed levels reads r mark text body few (inl p) = subst (IsFormed (suc levels)) (sym (same_value r nil p.3)) (tt, omega arith)
nested_formed levels reads r mark text body few (inr p) =
    let found = array_found (all_of p.1) r p.4 in
    let each = each_formed levels reads p.1 body few p.3 found.0 found.1 in
    let count : length found.0 < 2 ^ 63 = omega (arith, each.1, number_below (2 ^ 63) text (length p.1) (sym p.2)) in
    subst (IsFormed (suc levels)) (sym found.2) (array_formed levels (suc levels) found.0 (omega arith) count each.0)

line_long : (mark : ℕ) (text body form : List ℕ) → form ≡ line mark text ++ body → (length text < length form) × (length body ≤ length form)
line_long mark text body form is =
    let long = ap (length {A = ℕ}) is ∙ length-append (line mark text) body in
    let own = length-append text crlf in
    (omega (arith, long, own), omega (arith, long))

pub read_formed : (levels : ℕ) → Reads levels
unfolding IsForm
read_formed zero = λ r form is few.
    let long = line_long is.0 is.1 is.2 form is.3 in
    unnested_formed zero r is.0 is.1 is.2 is.4 (omega (arith, few, long.0)) is.5
read_formed (suc levels) = λ r form is few.
    let long = line_long is.0 is.1 is.2 form is.3 in
    elim is.5 as (λ _. IsFormed (suc levels) r) [
      | inl flat ↦ unnested_formed (suc levels) r is.0 is.1 is.2 is.4 (omega (arith, few, long.0)) flat
      | inr deep ↦ nested_formed levels (read_formed levels) r is.0 is.1 is.2 (omega (arith, few, long.1)) deep
    ]

-- so have replies one after the other
pub replies_formed : (rs : List Reply) (bytes : List ℕ) → length bytes < 2 ^ 63 → AreReplies rs bytes → AllByRecursion IsWritable rs
replies_formed [] bytes few are = tt
replies_formed (r ∷ rs) bytes few are =
    let long = ap (length {A = ℕ}) are.2 ∙ length-append are.0 are.1 in
    (read_formed MAX_LEVELS r are.0 are.3 (omega (arith, few, long)), replies_formed rs are.1 (omega (arith, few, long)) are.4)
