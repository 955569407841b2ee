-- Taking one line off the input, and what the lines so far say of its map.
use Rattle.std.proofs.Common.{◌≡◌, ◌≢◌, ℕ, ◌+◌, ◌-◌, ◌<◌, List, [], ◌∷◌, ◌++◌, map, length, refl, sym, ◌∙◌, ap, true, false, arith, rules, cond, take, drop, nat_lt, ◌==◌, get_or, suc, zero, Bor, append_assoc, subst, length-append, ◌≤◌}
use Rattle.std.specs.Prelude.{Option, Some, None, Result, Ok, Err, ⊤, IfSome, MatchResult}
use Rattle.std.specs.Result.{IsErrAnd}
use Rattle.std.specs.List.{AllZip}
use Rattle.std.specs.Io.BufRead.{take_through, drop_through, strip_last, first_piece, DropsThrough}
use Rattle.std.proofs.lemmas.List.{append-nil, length_push, take_more, take_rest, map-append}
use Rattle.std.proofs.lemmas.Grind.{common_steps}
use Rattle.cluster_map.specs.Address.{Address}
use Rattle.cluster_map.specs.SlotNodes.{RangeNodes}
use Rattle.redis_bytes.specs.NameLines.{fields_of}
use Rattle.slotroute_serve.specs.Lines.{onto_first_line, raw_lines, lines_of, line_of, until_blank, leading_lines, after_lines, after_map, StopsInLine, StopsInMap}
use Rattle.slotroute_serve.specs.MapLines.{Made, nothing_made, IsNodeField, IsRangeLine, IsMapLine, AreMapLines, IsMap, IsFirstBadLine}
use Rattle.slotroute_serve.specs.Output.{first_after_map}
use Rattle.slotroute_serve.specs.Faults.{IsInputLeft, map_unread}
use Rattle.slotroute_serve.specs.Streams.{Leaves}
use Rattle.slotroute_serve.specs.declared.fault.MapFault.{MapFault}
use Rattle.slotroute_serve.specs.declared.fault.MapFault.TheVariants as map_fault
use Rattle.slotroute_serve.specs.declared.fault.ReadFault.{ReadFault}
use Rattle.slotroute_serve.proofs.Leaving.{after_lines-more, line_read, not_read}

-- the bytes before the first line feed
abbrev before : List ℕ → List ℕ
before [] = []
before (x ∷ xs) = cond (x == 10) [] (x ∷ before xs)

pub positive : (n : ℕ) → nat_lt 0 (suc n) ≡ true
positive n = search (rules)

-- where something was read, something was left to read
pub something_there : (left : Option (List ℕ)) (line : List ℕ) → IfSome left (λ xs. line ≡ take_through 10 xs) → 0 < length line → IfSome left (λ xs. true ≡ nat_lt 0 (length xs))
something_there left line h1 h2 = grind (arith, common_steps, positive)

first_piece-before : (xs : List ℕ) → first_piece 10 xs ≡ before xs
first_piece-before [] = refl
first_piece-before (x ∷ xs) = grind (arith, common_steps, first_piece-before xs)

raw_lines-first : (x : ℕ) (xs : List ℕ) → raw_lines (x ∷ xs) ≡ before (x ∷ xs) ∷ raw_lines (drop_through 10 (x ∷ xs))
raw_lines-first x [] = elim (x == 10) as (λ v. cond v ([] ∷ []) (onto_first_line x []) ≡ cond v [] (x ∷ []) ∷ raw_lines (cond v [] [])) [ true ↦ refl | false ↦ refl ]
raw_lines-first x (y ∷ ys) =
    elim (x == 10) as (λ v. cond v ([] ∷ raw_lines (y ∷ ys)) (onto_first_line x (raw_lines (y ∷ ys))) ≡ cond v [] (x ∷ before (y ∷ ys)) ∷ raw_lines (cond v (y ∷ ys) (drop_through 10 (y ∷ ys)))) [ true ↦ refl | false ↦ ap (onto_first_line x) (raw_lines-first y ys) ]

-- an input that is there has its first line, and then the lines of what follows it
pub lines_of-first : (x : ℕ) (xs : List ℕ) → lines_of (x ∷ xs) ≡ line_of (x ∷ xs) ∷ lines_of (drop_through 10 (x ∷ xs))
lines_of-first x xs = ap (map (strip_last 13)) (raw_lines-first x xs) ∙ ap (λ p. strip_last 13 p ∷ lines_of (drop_through 10 (x ∷ xs))) (sym (first_piece-before (x ∷ xs)))

-- the leading lines go on after a first line with fields, and end at one with none
leading_lines-more : (x : ℕ) (xs : List ℕ) (f : List ℕ) (fs : List (List ℕ)) → f ∷ fs ≡ fields_of (line_of (x ∷ xs)) → leading_lines (x ∷ xs) ≡ (f ∷ fs) ∷ leading_lines (drop_through 10 (x ∷ xs))
leading_lines-more x xs f fs e =
    ap (λ ls. until_blank (map fields_of ls)) (lines_of-first x xs) ∙ ap (λ g. until_blank (g ∷ map fields_of (lines_of (drop_through 10 (x ∷ xs))))) (sym e)

leading_lines-none : (x : ℕ) (xs : List ℕ) → [] ≡ fields_of (line_of (x ∷ xs)) → leading_lines (x ∷ xs) ≡ []
leading_lines-none x xs e =
    ap (λ ls. until_blank (map fields_of ls)) (lines_of-first x xs) ∙ ap (λ g. until_blank (g ∷ map fields_of (lines_of (drop_through 10 (x ∷ xs))))) (sym e)

-- one more map line
lines_more : (lines : List (List (List ℕ))) (line : List (List ℕ)) (old mid new : Made) → AreMapLines lines old mid → IsMapLine line mid new → AreMapLines (lines ++ line ∷ []) old new
lines_more [] line old mid new same h = (new, subst (λ (m : Made). IsMapLine line m new) same h, refl)
lines_more (first ∷ lines) line old mid new (between, h, rest) more = (between, h, lines_more lines line between mid new rest more)

-- what is left of a known input, after map lines that make this, and the number of its first line
abbrev pub StillReads : Option (List ℕ) → Option (List ℕ) → Made → ℕ → Type 0
StillReads None left made number = ⊤
StillReads (Some input) None made number = ⊥
StillReads (Some input) (Some rest) made number =
    (front : List (List (List ℕ))) × (leading_lines input ≡ front ++ leading_lines rest) × IsMap front made × (rest ≡ after_lines (length front) input) × (number ≡ length front + 1)

-- what `next_line` says of what was left before it
pub record HasLine (left : Option (List ℕ)) (line : List ℕ) : Type 0 where
  pub there : IfSome left (λ xs. true ≡ nat_lt 0 (length xs))
  pub text : IfSome left (λ xs. line ≡ line_of xs)

-- the lines so far are all where nothing more leads
all_lead : (input : List ℕ) (front rest : List (List (List ℕ))) → leading_lines input ≡ front ++ rest → rest ≡ [] → leading_lines input ≡ front
all_lead input front rest e n = e ∙ ap (λ r. front ++ r) n ∙ append-nil front

ended : (input : List ℕ) (front rest : List (List (List ℕ))) (made : Made) → leading_lines input ≡ front ++ rest → rest ≡ [] → IsMap front made → IsMap (leading_lines input) made
ended input front rest made e n m = grind (arith, common_steps)

numbered : (input : List ℕ) (front rest : List (List (List ℕ))) (number : ℕ) → leading_lines input ≡ front ++ rest → rest ≡ [] → number ≡ length front + 1 → number + 1 ≡ first_after_map input
numbered input front rest number e n c = rw (all_lead input front rest e n, c) (omega arith)

pub true≢false : true ≢ false
true≢false = search rules

-- what follows the map, where the lines so far are all that lead
map_read : (input rest : List ℕ) (front more : List (List (List ℕ))) → leading_lines input ≡ front ++ more → more ≡ [] → rest ≡ after_lines (length front) input → drop_through 10 rest ≡ after_map input
map_read input rest front more e n r =
    ap (drop_through 10) r ∙ sym (after_lines-more (length front) input) ∙ ap (λ lines. after_lines (length lines + 1) input) (sym (all_lead input front more e n))

-- at the end of the input
pub at_end : (old left : Option (List ℕ)) (made : Made) (number : ℕ) → StillReads old left made number → IfSome left (λ xs. false ≡ nat_lt 0 (length xs)) → IfSome old (λ input. IsMap (leading_lines input) made)
at_end old left made number h1 h2 = grind (arith, common_steps, true≢false, positive)

pub next_at_end : (old left : Option (List ℕ)) (made : Made) (number : ℕ) → StillReads old left made number → IfSome left (λ xs. false ≡ nat_lt 0 (length xs)) → IfSome old (λ input. number + 1 ≡ first_after_map input)
next_at_end old left made number h1 h2 = grind (arith, common_steps, numbered, true≢false, positive)

pub left_at_end : (old left new : Option (List ℕ)) (made : Made) (number : ℕ) → StillReads old left made number → IfSome left (λ xs. false ≡ nat_lt 0 (length xs)) → DropsThrough left new 10 → Leaves old new (λ input rest. rest ≡ after_map input)
left_at_end old left new made number h1 h2 h3 = grind (arith, common_steps, map_read, true≢false, positive)

-- at a line with no field
pub at_blank : (old left : Option (List ℕ)) (made : Made) (number : ℕ) (line : List ℕ) (fields : List (List ℕ)) → StillReads old left made number → HasLine left line → fields ≡ fields_of line → fields ≡ []
    → IfSome old (λ input. IsMap (leading_lines input) made)
at_blank None left made number line fields s h e b = tt
at_blank (Some input) None made number line fields s h e b = absurd s
at_blank (Some input) (Some []) made number line fields s h e b = absurd (true≢false h.there)
at_blank (Some input) (Some (x ∷ xs)) made number line fields (front, split, m, r, c) h e b =
    ended input front (leading_lines (x ∷ xs)) made split (leading_lines-none x xs (sym b ∙ e ∙ ap fields_of h.text)) m

pub next_at_blank : (old left : Option (List ℕ)) (made : Made) (number : ℕ) (line : List ℕ) (fields : List (List ℕ)) → StillReads old left made number → HasLine left line → fields ≡ fields_of line → fields ≡ []
    → IfSome old (λ input. number + 1 ≡ first_after_map input)
next_at_blank None left made number line fields s h e b = tt
next_at_blank (Some input) None made number line fields s h e b = absurd s
next_at_blank (Some input) (Some []) made number line fields s h e b = absurd (true≢false h.there)
next_at_blank (Some input) (Some (x ∷ xs)) made number line fields (front, split, m, r, c) h e b =
    numbered input front (leading_lines (x ∷ xs)) number split (leading_lines-none x xs (sym b ∙ e ∙ ap fields_of h.text)) c

pub left_at_blank : (old left new : Option (List ℕ)) (made : Made) (number : ℕ) (line : List ℕ) (fields : List (List ℕ)) → StillReads old left made number → HasLine left line → fields ≡ fields_of line → fields ≡ []
    → DropsThrough left new 10 → Leaves old new (λ input rest. rest ≡ after_map input)
left_at_blank None left new made number line fields s h e b d = tt
left_at_blank (Some input) None new made number line fields s h e b d = absurd s
left_at_blank (Some input) (Some []) new made number line fields s h e b d = absurd (true≢false h.there)
left_at_blank (Some input) (Some (x ∷ xs)) new made number line fields (front, split, m, r, c) h e b d =
    rw d (map_read input (x ∷ xs) front (leading_lines (x ∷ xs)) split (leading_lines-none x xs (sym b ∙ e ∙ ap fields_of h.text)) r)

-- at a line with fields, of which the leading lines have the fields and go on
split_at_line : (input : List ℕ) (x : ℕ) (xs : List ℕ) (front : List (List (List ℕ))) (line f : List ℕ) (fs : List (List ℕ)) → leading_lines input ≡ front ++ leading_lines (x ∷ xs) → line ≡ line_of (x ∷ xs) → f ∷ fs ≡ fields_of line
    → leading_lines input ≡ front ++ (f ∷ fs) ∷ leading_lines (drop_through 10 (x ∷ xs))
split_at_line input x xs front line f fs split text e = split ∙ ap (λ ls. front ++ ls) (leading_lines-more x xs f fs (e ∙ ap fields_of text))

pub at_bad : (old left : Option (List ℕ)) (made : Made) (number : ℕ) (line : List ℕ) (fields : List (List ℕ)) → StillReads old left made number → HasLine left line → fields ≡ fields_of line → fields ≢ []
    → ((next : Made) → ¬ (IsMapLine fields made next)) → IfSome old (λ input. IsFirstBadLine (leading_lines input) number)
at_bad None left made number line fields s h e b lacks = tt
at_bad (Some input) None made number line fields s h e b lacks = absurd s
at_bad (Some input) (Some []) made number line fields s h e b lacks = absurd (true≢false h.there)
at_bad (Some input) (Some (x ∷ xs)) made number line [] s h e b lacks = absurd (b refl)
at_bad (Some input) (Some (x ∷ xs)) made number line (f ∷ fs) (front, split, m, r, c) h e b lacks = grind (arith, common_steps, split_at_line input x xs front line f fs split h.text e)

pub left_at_bad : (old left new : Option (List ℕ)) (made : Made) (number : ℕ) → StillReads old left made number → DropsThrough left new 10 → Leaves old new (λ input rest. rest ≡ after_lines number input)
left_at_bad old left new made number h1 h2 = grind (arith, after_lines-more)

-- where the reading stopped in a line, or after it, or before it
within : (input : List ℕ) (front more : List (List (List ℕ))) → leading_lines input ≡ front ++ more → length front ≤ length (leading_lines input)
within input front more e = rw (e, length-append) (omega arith)

pub left_in_line : (old left new : Option (List ℕ)) (made : Made) (number : ℕ) → StillReads old left made number → Leaves left new StopsInLine → Leaves old new StopsInMap
left_in_line None left new made number s h = tt
left_in_line (Some input) None new made number s h = absurd s
left_in_line (Some input) (Some xs) None made number s h = absurd h
left_in_line (Some input) (Some xs) (Some ys) made number (front, split, m, r, c) h =
    record { count = length front; within = within input front (leading_lines xs) split; stops = subst (λ zs. StopsInLine zs ys) r h }

pub left_after_line : (old left new : Option (List ℕ)) (made : Made) (number : ℕ) → StillReads old left made number → DropsThrough left new 10 → Leaves old new StopsInMap
left_after_line None left new made number s d = tt
left_after_line (Some input) None new made number s d = absurd s
left_after_line (Some input) (Some xs) new made number s d = rw d (left_in_line (Some input) (Some xs) (Some (drop_through 10 xs)) made number s (line_read xs))

pub left_before_line : (old left : Option (List ℕ)) (made : Made) (number : ℕ) → StillReads old left made number → Leaves old left StopsInMap
left_before_line None left made number s = tt
left_before_line (Some input) None made number s = absurd s
left_before_line (Some input) (Some xs) made number s = left_in_line (Some input) (Some xs) (Some xs) made number s (not_read xs)

-- out of memory after a line was read
pub no_memory_after_line : {T : Type 0} (r : Result T MapFault) (old left new : Option (List ℕ)) (made : Made) (number : ℕ) → IsErrAnd r (λ e. e ≡ map_fault.Memory) → StillReads old left made number → DropsThrough left new 10
    → Leaves old new (λ input rest. MatchResult r (λ _. rest ≡ after_map input) (IsInputLeft input rest))
no_memory_after_line (Ok x) old left new made number is s d = absurd is
no_memory_after_line (Err e) old left new made number is s d = rw is (left_after_line old left new made number s d)

-- a line that could not be read
pub unread_line : {T : Type 0} (r : Result T MapFault) (old left new : Option (List ℕ)) (made : Made) (number : ℕ) (unread : ReadFault) → IsErrAnd r (λ e. e ≡ map_unread unread) → StillReads old left made number → Leaves left new StopsInLine
    → Leaves old new (λ input rest. MatchResult r (λ _. rest ≡ after_map input) (IsInputLeft input rest))
unread_line r old left new made number unread h1 h2 h3 = grind (arith, common_steps)

-- one more pair at the end
pub AllZip-more : {A B : Type 0} (R : A → B → Type 0) (xs : List A) (ys : List B) (x : A) (y : B) → AllZip R xs ys → R x y → AllZip R (xs ++ x ∷ []) (ys ++ y ∷ [])
AllZip-more R [] [] x y h r = (r, tt)
AllZip-more R [] (b ∷ ys) x y h r = absurd h
AllZip-more R (a ∷ xs) [] x y h r = absurd h
AllZip-more R (a ∷ xs) (b ∷ ys) x y h r = (h.0, AllZip-more R xs ys x y h.1 r)

pub at_good : (old left new : Option (List ℕ)) (made next : Made) (number : ℕ) (line : List ℕ) (fields : List (List ℕ)) → StillReads old left made number → HasLine left line → fields ≡ fields_of line → fields ≢ []
    → IsMapLine fields made next → DropsThrough left new 10 → StillReads old new next (number + 1)
at_good None left new made next number line fields s h e b g d = tt
at_good (Some input) None new made next number line fields s h e b g d = absurd s
at_good (Some input) (Some []) new made next number line fields s h e b g d = absurd (true≢false h.there)
at_good (Some input) (Some (x ∷ xs)) new made next number line [] s h e b g d = absurd (b refl)
at_good (Some input) (Some (x ∷ xs)) new made next number line (f ∷ fs) (front, split, m, r, c) h e b g d =
    rw d (
      front ++ (f ∷ fs) ∷ [],
      split_at_line input x xs front line f fs split h.text e ∙ sym (append_assoc front ((f ∷ fs) ∷ []) (leading_lines (drop_through 10 (x ∷ xs)))),
      lines_more front (f ∷ fs) nothing_made made next m g,
      rw (length_push front (f ∷ fs)) (ap (drop_through 10) r ∙ sym (after_lines-more (length front) input)),
      rw (length_push front (f ∷ fs)) (omega (arith, c)),
    )

-- A pair of lists where one element has no partner.
pub unpaired : {B : Type 0} (R : List ℕ → B → Type 0) (xs : List (Bor (List ℕ))) (ys : List B) (i : ℕ) (d : Bor (List ℕ)) → i < length xs → ((y : B) → ¬ (R (get_or xs i d).now y)) → ¬ (AllZip R (map (λ x. x.now) xs) ys)
unpaired R [] ys i d l lacks h = absurd (omega arith)
unpaired R (x ∷ xs) [] i d l lacks h = h
unpaired R (x ∷ xs) (y ∷ ys) zero d l lacks h = lacks y h.0
unpaired R (x ∷ xs) (y ∷ ys) (suc i) d l lacks h = unpaired R xs ys i d (omega arith) lacks h.1

-- one more element and its partner
pub paired_more : {B : Type 0} (R : List ℕ → B → Type 0) (xs : List (Bor (List ℕ))) (ys : List B) (i : ℕ) (d : Bor (List ℕ)) (y : B) → i < length xs → AllZip R (map (λ x. x.now) (take i xs)) ys → R (get_or xs i d).now y
    → AllZip R (map (λ x. x.now) (take (i + 1) xs)) (ys ++ y ∷ [])
paired_more R xs ys i d y l h r =
    rw (take_more xs i d l, map-append) (AllZip-more R (map (λ x. x.now) (take i xs)) ys (get_or xs i d).now y h r)

-- Fields that are not a map line, because of the primary or of the replicas.
pub no_primary : (fields : List (Bor (List ℕ))) (d : Bor (List ℕ)) (range : RangeNodes) → ((a : Address) → ¬ (IsNodeField (get_or fields 2 d).now a)) → ¬ (IsRangeLine (map (λ x. x.now) fields) range)
no_primary [] d range lacks h = h
no_primary (a ∷ []) d range lacks h = h
no_primary (a ∷ b ∷ []) d range lacks h = h
no_primary (a ∷ b ∷ p ∷ rs) d range lacks h = lacks range.master h.2

pub no_replicas : (fields : List (Bor (List ℕ))) (range : RangeNodes) → ((nodes : List Address) → ¬ (AllZip IsNodeField (map (λ x. x.now) (take (length fields - 3) (drop 3 fields))) nodes)) → ¬ (IsRangeLine (map (λ x. x.now) fields) range)
no_replicas [] range lacks h = h
no_replicas (a ∷ []) range lacks h = h
no_replicas (a ∷ b ∷ []) range lacks h = h
no_replicas (a ∷ b ∷ p ∷ rs) range lacks h = lacks range.replicas (rw (take_rest (a ∷ b ∷ p ∷ rs) 3) h.3)

-- what the slices are that a list of no length, or of some, borrows
pub none_borrowed : (xs : List (Bor (List ℕ))) → length xs ≡ 0 → map (λ x. x.now) xs ≡ []
none_borrowed [] e = refl
none_borrowed (x ∷ xs) e = absurd (omega arith)

pub some_borrowed : (xs : List (Bor (List ℕ))) → 0 < length xs → map (λ x. x.now) xs ≢ []
some_borrowed [] l e = absurd (omega arith)
some_borrowed (x ∷ xs) l e = cc
