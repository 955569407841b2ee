-- What the searches of a text find, and what an address text is made of.
use Rattle.std.proofs.Common.{◌≡◌, ◌≢◌, ◌<◌, ◌-◌, ℕ, zero, suc, IsTrue, nat_eq, eq-eqb, rules, List, [], ◌∷◌, ◌++◌, length, get_or, take, drop, Option, Some, None, MatchOption, IfSome, Bor, refl, ap, sym, ◌∙◌, subst, arith, lit<, replicate, append_assoc}
use Rattle.std.proofs.lemmas.Grind.{common_steps}
use Rattle.std.proofs.lemmas.List.{take-append-drop, append-nil}
use Rattle.std.proofs.Math.Seq.{drop-length}
use Rattle.std.proofs.lemmas.Str.Pattern.{drop_at_char, NoCharPasses-char}
use Rattle.std.proofs.lemmas.Bool.Decides.{nat_tests}
use Rattle.std.proofs.lemmas.Fmt.{decimal_by_steps, decimal_is_IsNumeral}
use Rattle.std.specs.Prelude.{◌≤◌, ◌+◌, ◌^◌, ◌%◌, ◌==◌, false, decimal}
use Rattle.std.specs.Str.Parse.{without_leading_plus}
use Rattle.cluster_slots.specs.Address.{Address, display_text}
use Rattle.std.specs.Str.Pattern.{CutsPrefixes, CutsSuffixes, FindsCharPrefix, FindsCharSuffix, IsTrimStartMatches, IsTrimEndMatches, RFindsChar, SplitsAroundMatch}
use Rattle.cluster_slots.specs.AddressText.{IsBracketed, IsPlainHost, ReadsAs, IsAddressText, IsNoAddress}
use Rattle.cluster_slots.specs.Number.{number_in}
use Rattle.cluster_slots.proofs.Numerals.{number-ok}
use Rattle.cluster_slots.proofs.Lists.{Lacks, lacks_from, free_from, has, last_cut}

-- xs does not begin with an opening bracket; xs does not end with a closing one
abbrev pub NoStart : List ℕ → Type 0
NoStart xs = (rest : List ℕ) → xs ≢ 91 ∷ rest

abbrev pub NoEnd : List ℕ → Type 0
NoEnd xs = (front : List ℕ) → xs ≢ front ++ 93 ∷ []

-- the last colon
pub lacks_each : (c : ℕ) (bs : List ℕ) → ((i : ℕ) → i < length bs → get_or bs i 0 ≢ c) → Lacks c bs
lacks_each c [] f = tt
lacks_each c (b ∷ bs) f = (f 0 (omega arith), lacks_each c bs (λ i h. f (suc i) (omega arith)))

-- the text is cut at its last colon
abbrev pub CutsAtColon : List ℕ → List ℕ → List ℕ → Type 0
CutsAtColon text left right = (text ≡ left ++ 58 ∷ right) × Lacks 58 right

pub at_colon : (text : List ℕ) (r : Option (Bor (List ℕ) × Bor (List ℕ))) → MatchOption r (RFindsChar 58 text None) (λ x. SplitsAroundMatch (RFindsChar 58) text x.0.now x.1.now)
    → MatchOption r (Lacks 58 text) (λ x. CutsAtColon text x.0.now x.1.now)
at_colon text None h = lacks_each 58 text (λ i l. NoCharPasses-char 58 text i h (lit< tt) l)
at_colon text (Some x) (i, j, (n, at), front, back, order, short, long) =
    let tail : drop i text ≡ 58 ∷ drop j text = drop_at_char 58 text i j at (lit< tt) in
    let none : Lacks 58 (drop j text) = lacks_each 58 (drop j text) (λ k l. NoCharPasses-char 58 (drop j text) k n (lit< tt) l) in
    rw (front, back) (sym (take-append-drop i text) ∙ ap (λ y. take i text ++ y) tail, none)

-- the opening brackets
replicate_more : (k b : ℕ) (xs : List ℕ) → replicate k b ++ b ∷ xs ≡ b ∷ (replicate k b ++ xs)
replicate_more zero b xs = refl
replicate_more (suc k) b xs = ap (λ y. b ∷ y) (replicate_more k b xs)

cut_starts : (s ns r : List ℕ) → CutsPrefixes (FindsCharPrefix 91) s ns r → (k : ℕ) × (s ≡ replicate k 91 ++ r)
cut_starts s [] r h = (0, sym h)
cut_starts s (n ∷ ns) r (m, h, p, e) =
    let w = cut_starts s ns m h in
    let whole : m ≡ 91 ∷ r = drop_at_char 91 m 0 n p (lit< tt) ∙ ap (λ y. 91 ∷ y) (sym e) in
    (suc w.0, w.1 ∙ ap (λ y. replicate w.0 91 ++ y) whole ∙ replicate_more w.0 91 r)

start_ended : (r : List ℕ) (o : Option ℕ) → FindsCharPrefix 91 r o → IfSome o (λ n. n ≡ 0) → NoStart r
unfolding lib.Utf8.encode
start_ended r None f z rest = f rest
start_ended r (Some n) f z rest = λ e. absurd (omega (arith, f.ends, z))

pub opens : (s r : List ℕ) → IsTrimStartMatches (FindsCharPrefix 91) s r → (k : ℕ) × (s ≡ replicate k 91 ++ r) × NoStart r
opens s r ((ns, h), (o, f, z)) = let w = cut_starts s ns r h in (w.0, w.1, start_ended r o f z)

-- the closing brackets
cut_ends : (s ns r : List ℕ) → CutsSuffixes (FindsCharSuffix 93) s ns r → (k : ℕ) × (s ≡ r ++ replicate k 93)
cut_ends s [] r h = (0, sym h ∙ sym (append-nil r))
cut_ends s (n ∷ ns) r (m, h, p, e) =
    let w = cut_ends s ns m h in
    let tail : drop (length m - n) m ≡ 93 ∷ [] = drop_at_char 93 m (length m - n) (length m) p.1 (lit< tt) ∙ ap (λ y. 93 ∷ y) (drop-length m) in
    let whole : m ≡ r ++ 93 ∷ [] = sym (take-append-drop (length m - n) m) ∙ ap (λ y. take (length m - n) m ++ y) tail ∙ ap (λ y. y ++ 93 ∷ []) (sym e) in
    (suc w.0, w.1 ∙ ap (λ y. y ++ replicate w.0 93) whole ∙ append_assoc r (93 ∷ []) (replicate w.0 93))

end_ended : (r : List ℕ) (o : Option ℕ) → FindsCharSuffix 93 r o → IfSome o (λ n. n ≡ 0) → NoEnd r
unfolding lib.Utf8.encode
end_ended r None f z front = f front
end_ended r (Some n) f z front = λ e. absurd (omega (arith, f.0, z))

pub closes : (s r : List ℕ) → IsTrimEndMatches (FindsCharSuffix 93) s r → (k : ℕ) × (s ≡ r ++ replicate k 93) × NoEnd r
closes s r ((ns, h), (o, f, z)) = let w = cut_ends s ns r h in (w.0, w.1, end_ended r o f z)

-- A text in brackets has one host.

-- what follows all the opening brackets is one list
after_opens : (k m : ℕ) (xs ys : List ℕ) → replicate k 91 ++ xs ≡ replicate m 91 ++ ys → NoStart xs → NoStart ys → xs ≡ ys
after_opens zero zero xs ys e f g = e
after_opens zero (suc m) xs ys e f g = absurd (f (replicate m 91 ++ ys) e)
after_opens (suc k) zero xs ys e f g = absurd (g (replicate k 91 ++ xs) (sym e))
after_opens (suc k) (suc m) xs ys e f g = let q : replicate k 91 ++ xs ≡ replicate m 91 ++ ys = cc in after_opens k m xs ys q f g

-- a front of closing brackets alone ends with one
all_closed : (c : ℕ) (cs back : List ℕ) (k : ℕ) → (c ∷ cs) ++ back ≡ replicate k 93 → (front : List ℕ) × (c ∷ cs ≡ front ++ 93 ∷ [])
all_closed c cs back zero e = cc
all_closed c [] back (suc k) e = let q : c ≡ 93 = cc in ([], ap (λ x. x ∷ []) q)
all_closed c (d ∷ ds) back (suc k) e =
    let r : (d ∷ ds) ++ back ≡ replicate k 93 = cc in
    let w = all_closed d ds back k r in
    (c ∷ w.0, ap (λ y. c ∷ y) w.1)

-- what stands before all the closing brackets is one list
before_closes : (xs ys : List ℕ) (k m : ℕ) → xs ++ replicate k 93 ≡ ys ++ replicate m 93 → NoEnd xs → NoEnd ys → xs ≡ ys
before_closes [] [] k m e f g = refl
before_closes [] (y ∷ ys) k m e f g = let w = all_closed y ys (replicate m 93) k (sym e) in absurd (g w.0 w.1)
before_closes (x ∷ xs) [] k m e f g = let w = all_closed x xs (replicate k 93) m e in absurd (f w.0 w.1)
before_closes (x ∷ xs) (y ∷ ys) k m e f g =
    let q : x ≡ y = cc in
    let r : xs ++ replicate k 93 ≡ ys ++ replicate m 93 = cc in
    let same = before_closes xs ys k m r (λ front p. f (x ∷ front) (ap (λ z. x ∷ z) p)) (λ front p. g (y ∷ front) (ap (λ z. y ∷ z) p)) in
    ap (λ z. z ∷ xs) q ∙ ap (λ z. y ∷ z) same

-- a host that is there does not begin with a bracket with something after it either
start_behind : (host back : List ℕ) → host ≢ [] → NoStart host → NoStart (host ++ back)
start_behind [] back n f rest e = absurd (n refl)
start_behind (c ∷ cs) back n f rest e = let q : c ≡ 91 = cc in f cs (ap (λ x. x ∷ cs) q)

-- the host of a bracketed text is what is left without its brackets
pub host_is : (left middle inner host : List ℕ) (k m o c : ℕ) → left ≡ replicate k 91 ++ middle → NoStart middle → middle ≡ inner ++ replicate m 93 → NoEnd inner → IsBracketed left host o c → host ≡ inner
host_is left middle inner host k m o c e start d end b = grind (arith, common_steps, append_assoc (replicate o 91) host (replicate c 93), after_opens, start_behind host (replicate c 93) b.some b.start, before_closes)

same_host : (left host other : List ℕ) (o c p d : ℕ) → IsBracketed left host o c → IsBracketed left other p d → host ≡ other
same_host left host other o c p d a b =
    host_is left (other ++ replicate d 93) other host p d o c (b.whole ∙ append_assoc (replicate p 91) other (replicate d 93)) (start_behind other (replicate d 93) b.some b.start) refl b.end a

-- The readings of a text.

-- a reading cuts the text at its last colon
pub cut_is : (text left right l r host : List ℕ) (port : ℕ) → CutsAtColon text left right → ReadsAs text l r host port → (l ≡ left) × (r ≡ right)
cut_is text left right l r host port c a = last_cut 58 l r left right (sym a.cut ∙ c.0) (lacks_from 58 r a.last) c.1

pub no_colon : (text : List ℕ) → Lacks 58 text → IsNoAddress text
no_colon text h host port (l, r, a) = has 58 l r (subst (Lacks 58) a.cut h)

pub no_port : (text left right : List ℕ) → CutsAtColon text left right → (None ≡ number_in 16 right) → IsNoAddress text
no_port text left right c f host port (l, r, a) = grind (arith, common_steps, cut_is text left right l r host port c a)

pub no_host : (text left right middle inner : List ℕ) (k m : ℕ) → CutsAtColon text left right → left ≡ replicate k 91 ++ middle → NoStart middle → middle ≡ inner ++ replicate m 93 → NoEnd inner → inner ≡ [] → IsNoAddress text
no_host text left right middle inner k m c e start d end empty host port (l, r, a) =
    let (o, n, b) = a.bracketed in
    let P : List ℕ → Type 0 = λ x. IsBracketed x host o n in
    b.some (host_is left middle inner host k m o n e start d end (subst P (cut_is text left right l r host port c a).0 b) ∙ empty)

pub reads : (text left right middle inner : List ℕ) (k m port : ℕ) → CutsAtColon text left right → left ≡ replicate k 91 ++ middle → NoStart middle → middle ≡ inner ++ replicate m 93 → NoEnd inner → inner ≢ [] → Some port ≡ number_in 16 right → IsAddressText text inner port
reads text left right middle inner k m port c e start d end some number = grind (arith, common_steps, free_from 58 right c.1, append_assoc (replicate k 91) inner (replicate m 93))

-- a text names one address at most
pub one_address : (text host other : List ℕ) (port number : ℕ) → IsAddressText text host port → IsAddressText text other number → (host ≡ other) × (port ≡ number)
one_address text host other port number (l, r, a) (left, right, b) =
    let w = cut_is text left right l r host port (b.cut, lacks_from 58 right b.last) a in
    let (o, c, inner) = a.bracketed in
    let (p, d, outer) = b.bracketed in
    let P : List ℕ → Type 0 = λ x. IsBracketed x host o c in
    let ports : Some port ≡ Some number = sym a.number ∙ ap (number_in 16) w.1 ∙ b.number in
    (same_host left host other o c p d (subst P w.0 inner) outer, cc)

-- a text that names the host names the address where it has the port too
pub names_port : (text host other : List ℕ) (port number : ℕ) → IsAddressText text host port → host ≡ other
    → (IsTrue (nat_eq port number) → IsAddressText text other number) × (IsAddressText text other number → IsTrue (nat_eq port number))
names_port text host other port number a e = (
  (λ t.
      let same : port ≡ number = search (rules, t) in
      let P : List ℕ → Type 0 = λ x. IsAddressText text x number in
      let Q : ℕ → Type 0 = λ x. IsAddressText text host x in
      subst P e (subst Q same a)),
  (λ b. eq-eqb port number (one_address text host other port number a b).1),
)

-- The printed form.

-- decimal digits alone
abbrev AreDigits : List ℕ → Type 0
AreDigits [] = Unit {0}
AreDigits (c ∷ cs) = ((48 ≤ c) × (c ≤ 57)) × AreDigits cs

digits_push : (cs : List ℕ) (c : ℕ) → AreDigits cs → (48 ≤ c) × (c ≤ 57) → AreDigits (cs ++ c ∷ [])
digits_push [] c h d = (d, tt)
digits_push (x ∷ cs) c h d = (h.0, digits_push cs c h.1 d)

decimal_digits : (n : ℕ) → n < 2 ^ 64 → AreDigits (decimal n)
decimal_digits = decimal_by_steps (λ n ds. AreDigits ds) (λ n small. ((omega arith, omega arith), tt)) (λ n ds large h. digits_push ds (48 + n % 10) h (omega arith, omega arith))

lacks_colon : (cs : List ℕ) → AreDigits cs → Lacks 58 cs
lacks_colon [] h = tt
lacks_colon (c ∷ cs) h = ((λ e. let most : c ≤ 57 = h.0.1 in absurd (omega arith)), lacks_colon cs h.1)

no_plus : (cs : List ℕ) → AreDigits cs → without_leading_plus cs ≡ cs
no_plus [] h = refl
no_plus (c ∷ cs) h = let least : 48 ≤ c = h.0.0 in let other : c == 43 ≡ false = grind (arith, nat_tests) in rw other refl

decimal_number : (n : ℕ) → n < 2 ^ 16 → number_in 16 (decimal n) ≡ Some n
decimal_number n small = grind (arith, common_steps, no_plus, decimal_digits, decimal_is_IsNumeral, number-ok)

pub printed_law : (text : List ℕ) (a : Address) → a.port < 2 ^ 16 → text ≡ display_text a → (IsAddressText text a.host a.port → IsPlainHost a.host) × (IsPlainHost a.host → IsAddressText text a.host a.port)
printed_law text a small e = grind (arith, free_from 58 (decimal a.port) (lacks_colon (decimal a.port) (decimal_digits a.port (omega arith))), decimal_digits a.port (omega arith), decimal_number a.port small, append-nil a.host)
