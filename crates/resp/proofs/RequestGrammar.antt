-- What is read of a request is one, each one is read, and why nothing is read.
use Rattle.std.proofs.Common.{◌≡◌, ℕ, zero, suc, ◌+◌, ◌-◌, ◌<◌, ◌≤◌, ◌^◌, false, List, [], ◌∷◌, ◌++◌, length, take, append_assoc, append-nil, Ok, Err, refl, sym, ap, subst, ◌∙◌, arith, decimal}
use Rattle.std.specs.List.{flat_map, AllByRecursion}
use Rattle.std.proofs.lemmas.List.{take_at, length-append}
use Rattle.std.proofs.lemmas.Grind.{common_steps}
use Rattle.resp.specs.declared.stop.Stop.{Stop}
use Rattle.resp.specs.declared.stop.Stop.TheVariants.{WantsMore, StopsAt}
use Rattle.resp.specs.declared.fault.RequestFault.TheVariants.{Malformed}
use Rattle.resp.specs.Forms.{crlf, line, IsRequest, bulk_form}
use Rattle.resp.specs.Reading.{rest_of}
use Rattle.resp.specs.Requests.{Read, and_then, byte_at, digits_at, line_at, so_many_at, word_at, bulk_at, bulks_at, request_at, IsStopIn, fault_at, CanBeRequest, BeginsNoRequest, RequestCause}
use Rattle.resp.proofs.NumberLines.{number_front, digits_again, digits_reader, digits_wants}
use Rattle.resp.proofs.Readers.{read, no_read, no_stop, same_value, same_rest, Filled, IsReader, joint_reader, nothing_reader, nothing_begins, byte_reader, byte_front, byte_again, byte_wants, so_many_again, so_many_front, so_many_reader, so_many_begins}

-- what two readers read was read by each
pub first_read : {A B : Type 0} (r : Read A) (f : A → List ℕ → Read B) (y : B) (rest : List ℕ) → and_then r f ≡ Ok (y, rest) → (x : A) × (after : List ℕ) × (r ≡ Ok (x, after)) × (f x after ≡ Ok (y, rest))
first_read (Ok x) f y rest e = (x.0, x.1, refl, e)
first_read (Err s) f y rest e = absurd (no_read s y rest e)

-- ---- a line

abbrev limit : ℕ
limit = 2 ^ 63

abbrev line_end : ℕ → List ℕ → Read ℕ
line_end n after = and_then (byte_at 10 after) λ _ rest. Ok (n, rest)

line_end_reader : (n : ℕ) → IsReader (line_end n)
line_end_reader n = joint_reader (byte_at 10) (λ _ rest. read n rest) (byte_reader 10) (λ _. nothing_reader n) (λ _. nothing_begins n)

line_end_begins : (n : ℕ) → Filled (line_end n) []
line_end_begins n = (line_end_reader n).fills [] (ap (λ (r : Read ℕ). and_then r (λ _ rest. read n rest)) (byte_wants 10))

abbrev number_line : List ℕ → Read ℕ
number_line text = and_then (digits_at limit false 0 text) line_end

some_room : 0 < limit
some_room = omega arith

few_bits : limit < 2 ^ 64
few_bits = omega arith

number_line_reader : IsReader number_line
number_line_reader = joint_reader (digits_at limit false 0) line_end (digits_reader limit some_room few_bits) line_end_reader line_end_begins

number_line_begins : Filled number_line []
number_line_begins = number_line_reader.fills [] (ap (λ (r : Read ℕ). and_then r line_end) (digits_wants limit))

line_reader : (mark : ℕ) → IsReader (line_at mark)
unfolding line_at
line_reader mark = joint_reader (byte_at mark) (λ _ text. number_line text) (byte_reader mark) (λ _. number_line_reader) (λ _. number_line_begins)

line_wants : (mark : ℕ) → line_at mark [] ≡ Err WantsMore
unfolding line_at
line_wants mark = ap (λ (r : Read ℕ). and_then r (λ _ text. number_line text)) (byte_wants mark)

pub line_front : (mark : ℕ) (bytes rest : List ℕ) (n : ℕ) → line_at mark bytes ≡ Ok (n, rest) → (bytes ≡ line mark (decimal n) ++ rest) × (n < limit)
unfolding line_at
line_front mark bytes rest n e =
    let a = first_read (byte_at mark bytes) (λ _ text. number_line text) n rest e in
    let b = first_read (digits_at limit false 0 a.1) line_end n rest a.3 in
    let c = first_read (byte_at 10 b.1) (λ _ rest. read b.0 rest) n rest b.3 in
    let d = number_front limit some_room few_bits a.1 b.1 b.0 b.2 in
    let same : b.0 ≡ n = same_value b.0 n c.1 rest c.3 in
    let last : c.1 ≡ rest = same_rest b.0 n c.1 rest c.3 in
    let ends : b.1 ≡ 10 ∷ rest = byte_front 10 b.1 c.1 c.0 c.2 ∙ ap (λ (t : List ℕ). 10 ∷ t) last in
    let is : a.1 ≡ (decimal n ++ crlf) ++ rest = d.0 ∙ ap (λ (t : List ℕ). decimal b.0 ++ 13 ∷ t) ends ∙ ap (λ (k : ℕ). decimal k ++ 13 ∷ 10 ∷ rest) same ∙ sym (append_assoc (decimal n) crlf rest) in
    (byte_front mark bytes a.1 a.0 a.2 ∙ ap (λ (t : List ℕ). mark ∷ t) is, omega (arith, d.1, same))

pub line_again : (mark n : ℕ) (rest : List ℕ) → n < limit → line_at mark (line mark (decimal n) ++ rest) ≡ Ok (n, rest)
unfolding line_at
line_again mark n rest low = grind (arith, append_assoc, digits_again, byte_again, read)

-- ---- a bulk string

abbrev line_feed : List ℕ → List ℕ → Read (List ℕ)
line_feed word last = and_then (byte_at 10 last) λ _ rest. Ok (word, rest)

abbrev word_end : List ℕ → List ℕ → Read (List ℕ)
word_end word after = and_then (byte_at 13 after) λ _ last. line_feed word last

line_feed_reader : (word : List ℕ) → IsReader (line_feed word)
line_feed_reader word = joint_reader (byte_at 10) (λ _ rest. read word rest) (byte_reader 10) (λ _. nothing_reader word) (λ _. nothing_begins word)

line_feed_begins : (word : List ℕ) → Filled (line_feed word) []
line_feed_begins word = (line_feed_reader word).fills [] (ap (λ (r : Read ℕ). and_then r (λ _ rest. read word rest)) (byte_wants 10))

word_end_reader : (word : List ℕ) → IsReader (word_end word)
word_end_reader word = joint_reader (byte_at 13) (λ _ last. line_feed word last) (byte_reader 13) (λ _. line_feed_reader word) (λ _. line_feed_begins word)

word_end_begins : (word : List ℕ) → Filled (word_end word) []
word_end_begins word = (word_end_reader word).fills [] (ap (λ (r : Read ℕ). and_then r (λ _ last. line_feed word last)) (byte_wants 13))

word_reader : (n : ℕ) → IsReader (word_at n)
unfolding word_at
word_reader n = joint_reader (so_many_at n) word_end (so_many_reader n) word_end_reader word_end_begins

word_begins : (n : ℕ) → Filled (word_at n) []
unfolding word_at
word_begins n =
    let one = so_many_begins n in
    let two = word_end_begins one.value in
    let whole : word_at n (one.value ++ two.more) ≡ Ok (two.value, []) = ap (λ (r : Read (List ℕ)). and_then r word_end) (so_many_again one.value two.more n (so_many_front n one.more [] one.value one.reads).1) ∙ two.reads in
    record { more = one.value ++ two.more; value = two.value; reads = whole }

bulk_reader : IsReader bulk_at
unfolding bulk_at
bulk_reader = joint_reader (line_at 36) word_at (line_reader 36) word_reader word_begins

bulk_wants : bulk_at [] ≡ Err WantsMore
unfolding bulk_at
bulk_wants = ap (λ (r : Read ℕ). and_then r word_at) (line_wants 36)

pub bulk_front : (bytes rest word : List ℕ) → bulk_at bytes ≡ Ok (word, rest) → (bytes ≡ bulk_form word ++ rest) × (length word < limit)
unfolding bulk_at word_at
bulk_front bytes rest word e =
    let a = first_read (line_at 36 bytes) word_at word rest e in
    let b = first_read (so_many_at a.0 a.1) word_end word rest a.3 in
    let c = first_read (byte_at 13 b.1) (λ _ last. line_feed b.0 last) word rest b.3 in
    let d = first_read (byte_at 10 c.1) (λ _ rest. read b.0 rest) word rest c.3 in
    let l = line_front 36 bytes a.1 a.0 a.2 in
    let m = so_many_front a.0 a.1 b.1 b.0 b.2 in
    let same : b.0 ≡ word = same_value b.0 word d.1 rest d.3 in
    let last : d.1 ≡ rest = same_rest b.0 word d.1 rest d.3 in
    let ends : b.1 ≡ crlf ++ rest = byte_front 13 b.1 c.1 c.0 c.2 ∙ ap (λ (t : List ℕ). 13 ∷ t) (byte_front 10 c.1 d.1 d.0 d.2 ∙ ap (λ (t : List ℕ). 10 ∷ t) last) in
    let is : a.1 ≡ (word ++ crlf) ++ rest = m.0 ∙ ap (λ (t : List ℕ). b.0 ++ t) ends ∙ ap (λ (w : List ℕ). w ++ (crlf ++ rest)) same ∙ sym (append_assoc word crlf rest) in
    let long : a.0 ≡ length word = sym m.1 ∙ ap (length {A = ℕ}) same in (
      l.0 ∙ ap (λ (t : List ℕ). line 36 (decimal a.0) ++ t) is ∙ ap (λ (k : ℕ). line 36 (decimal k) ++ ((word ++ crlf) ++ rest)) long ∙ sym (append_assoc (line 36 (decimal (length word))) (word ++ crlf) rest),
      omega (arith, long, l.1),
    )

pub bulk_again : (word rest : List ℕ) → length word < limit → bulk_at (bulk_form word ++ rest) ≡ Ok (word, rest)
unfolding bulk_at word_at
bulk_again word rest short = grind (arith, append_assoc, line_again, so_many_again, byte_again, read)

-- ---- so many

abbrev Words : Type 0
Words = List (List ℕ)

abbrev more_words : ℕ → List ℕ → List ℕ → Read Words
more_words n word after = and_then (bulks_at n after) λ words rest. Ok (word ∷ words, rest)

module _ (n : ℕ) (each : IsReader (bulks_at n)) (begins : Filled (bulks_at n) []) where
  more_reader : (word : List ℕ) → IsReader (more_words n word)
  more_reader word = joint_reader (bulks_at n) (λ words rest. read (word ∷ words) rest) each (λ words. nothing_reader (word ∷ words)) (λ words. nothing_begins (word ∷ words))

  more_begin : (word : List ℕ) → Filled (more_words n word) []
  more_begin word = record { more = begins.more; value = word ∷ begins.value; reads = ap (λ (r : Read Words). and_then r (λ words rest. read (word ∷ words) rest)) begins.reads }

abbrev BeginningReader : ℕ → Type 0
BeginningReader n = IsReader (bulks_at n) × Filled (bulks_at n) []

bulks_reader : (n : ℕ) → BeginningReader n
unfolding bulks_at
bulks_reader zero = (nothing_reader [], nothing_begins [])
bulks_reader (suc n) =
    let m = bulks_reader n in
    let r : IsReader (bulks_at (suc n)) = joint_reader bulk_at (more_words n) bulk_reader (more_reader n m.0 m.1) (more_begin n m.0 m.1) in
    (r, r.fills [] (ap (λ (r : Read (List ℕ)). and_then r (more_words n)) bulk_wants))

abbrev AreShort : Words → Type 0
AreShort words = AllByRecursion (λ w. length w < limit) words

bulks_front : (n : ℕ) (bytes rest : List ℕ) (words : Words) → bulks_at n bytes ≡ Ok (words, rest) → (bytes ≡ flat_map bulk_form words ++ rest) × AreShort words × (length words ≡ n)
unfolding bulks_at
bulks_front zero bytes rest words e = grind (arith, common_steps)
bulks_front (suc n) bytes rest words e =
    let a = first_read (bulk_at bytes) (more_words n) words rest e in
    let b = first_read (bulks_at n a.1) (λ ws rest. read (a.0 ∷ ws) rest) words rest a.3 in
    let one = bulk_front bytes a.1 a.0 a.2 in
    let two = bulks_front n a.1 b.1 b.0 b.2 in
    let same : a.0 ∷ b.0 ≡ words = same_value (a.0 ∷ b.0) words b.1 rest b.3 in
    let last : b.1 ≡ rest = same_rest (a.0 ∷ b.0) words b.1 rest b.3 in
    let is : bytes ≡ flat_map bulk_form (a.0 ∷ b.0) ++ rest = one.0 ∙ ap (λ (t : List ℕ). bulk_form a.0 ++ t) (two.0 ∙ ap (λ (t : List ℕ). flat_map bulk_form b.0 ++ t) last) ∙ sym (append_assoc (bulk_form a.0) (flat_map bulk_form b.0) rest) in
    subst (λ (ws : Words). (bytes ≡ flat_map bulk_form ws ++ rest) × AreShort ws × (length ws ≡ suc n)) same (is, (one.1, two.1), ap suc two.2)

bulks_again : (words : Words) (rest : List ℕ) → AreShort words → bulks_at (length words) (flat_map bulk_form words ++ rest) ≡ Ok (words, rest)
unfolding bulks_at
bulks_again [] rest short = refl
bulks_again (w ∷ ws) rest short = grind (arith, suc, append_assoc, bulk_again, read, bulks_again ws rest short.1)

-- ---- a request

pub request_reader : IsReader request_at
unfolding request_at
request_reader = joint_reader (line_at 42) bulks_at (line_reader 42) (λ n. (bulks_reader n).0) (λ n. (bulks_reader n).1)

pub request_front : (bytes rest : List ℕ) (args : Words) → request_at bytes ≡ Ok (args, rest) → (form : List ℕ) × (bytes ≡ form ++ rest) × IsRequest args form
unfolding request_at
request_front bytes rest args e = grind (arith, common_steps, first_read (line_at 42 bytes) bulks_at args rest e, line_front, bulks_front, append_assoc (line 42 (decimal (length args))) (flat_map bulk_form args) rest)

pub request_again : (args : Words) (form rest : List ℕ) → IsRequest args form → request_at (form ++ rest) ≡ Ok (args, rest)
unfolding request_at
request_again args form rest is = grind (arith, append_assoc, line_again, bulks_again)

-- ---- the causes

pub wants_more : (bytes : List ℕ) → request_at bytes ≡ Err WantsMore → CanBeRequest bytes
wants_more bytes e = grind (arith, request_reader, request_front, append-nil)

begins_none : (bytes : List ℕ) → ((more : List ℕ) → (left : ℕ) × (request_at (bytes ++ more) ≡ Err (StopsAt left))) → BeginsNoRequest bytes
begins_none bytes stays = λ more args form rest is e.
    let s = stays more in
    no_stop (StopsAt s.0) args rest (sym (request_again args form rest is) ∙ ap request_at (sym e) ∙ s.1)

pub stop_in : (bytes : List ℕ) (left : ℕ) → request_at bytes ≡ Err (StopsAt left) → left ≤ length bytes
stop_in bytes left e =
    let s = request_reader.stops bytes left e in
    omega (arith, ap (length {A = ℕ}) s.bytes_are, length-append s.before (s.byte ∷ s.after), s.left_is)

pub stops_there : (bytes : List ℕ) (left : ℕ) → request_at bytes ≡ Err (StopsAt left) → RequestCause bytes (Malformed (length bytes - left))
stops_there bytes left e =
    let s = request_reader.stops bytes left e in
    let long : length bytes ≡ length s.before + (length s.after + 1) = ap (length {A = ℕ}) s.bytes_are ∙ length-append s.before (s.byte ∷ s.after) ∙ omega arith in
    let index : length bytes - left ≡ length s.before = omega (arith, long, s.left_is) in
    let at : length s.before < length bytes = omega (arith, long) in
    let front : take (length s.before) bytes ≡ s.before = ap (take (length s.before)) s.bytes_are ∙ take_at s.before (s.byte ∷ s.after) (length s.before) refl in
    let longer : length (s.before ++ s.byte ∷ []) ≡ length s.before + 1 = length-append s.before (s.byte ∷ []) in
    let with_byte : take (length s.before + 1) bytes ≡ s.before ++ s.byte ∷ [] = ap (take (length s.before + 1)) (s.bytes_are ∙ sym (append_assoc s.before (s.byte ∷ []) s.after)) ∙ take_at (s.before ++ s.byte ∷ []) s.after (length s.before + 1) longer in
    let none : BeginsNoRequest (s.before ++ s.byte ∷ []) = begins_none (s.before ++ s.byte ∷ []) (λ more. (length more + 1, ap request_at (append_assoc s.before (s.byte ∷ []) more) ∙ s.stays more)) in
    subst (λ (i : ℕ). RequestCause bytes (Malformed i)) (sym index)
    (at, subst CanBeRequest (sym front) (wants_more s.before s.wants), subst BeginsNoRequest (sym with_byte) none)

pub stop_is_in : (bytes : List ℕ) (stop : Stop) → request_at bytes ≡ Err stop → IsStopIn bytes stop
stop_is_in bytes WantsMore e = tt
stop_is_in bytes (StopsAt left) e = stop_in bytes left e

pub only_none : (bytes : List ℕ) (stop : Stop) → request_at bytes ≡ Err stop → (others : Words) (form more : List ℕ) → IsRequest others form → bytes ≡ form ++ more → ⊥
only_none bytes stop e others form more is same = no_stop stop others more (sym (request_again others form more is) ∙ ap request_at (sym same) ∙ e)

pub cause_is : (bytes : List ℕ) (stop : Stop) → request_at bytes ≡ Err stop → RequestCause bytes (fault_at bytes stop)
cause_is bytes WantsMore e = (λ args form rest is same. only_none bytes WantsMore e args form rest is same, wants_more bytes e)
cause_is bytes (StopsAt left) e = stops_there bytes left e

pub only_this : (bytes rest : List ℕ) (args : Words) → request_at bytes ≡ Ok (args, rest) → (others : Words) (form more : List ℕ) → IsRequest others form → bytes ≡ form ++ more → (args ≡ others) × (rest ≡ more)
only_this bytes rest args e others form more is same = grind (arith, read, request_again, same_value, same_rest)

-- ---- the loops over the bulk strings

abbrev pub with_words : Words → Read Words → Read Words
with_words words (Ok x) = Ok (words ++ x.0, x.1)
with_words words (Err s) = Err s

pub words_begin : (count : ℕ) (bytes : List ℕ) → with_words [] (bulks_at (count - 0) bytes) ≡ bulks_at count bytes
words_begin count bytes = grind (arith, common_steps)

module _ (count counter : ℕ) (rest : List ℕ) (lt : counter < count) where
  one_more : count - counter ≡ suc (count - (counter + 1))
  one_more = omega (arith, lt)

  opened : bulks_at (count - counter) rest ≡ and_then (bulk_at rest) (more_words (count - (counter + 1)))
  unfolding bulks_at
  opened = ap (λ (n : ℕ). bulks_at n rest) one_more

  pub bulk_fails : (stop : Stop) → bulk_at rest ≡ Err stop → bulks_at (count - counter) rest ≡ Err stop
  bulk_fails stop e = opened ∙ ap (λ (r : Read (List ℕ)). and_then r (more_words (count - (counter + 1)))) e

  after_bulk : (word after : List ℕ) → bulk_at rest ≡ Ok (word, after) → bulks_at (count - counter) rest ≡ more_words (count - (counter + 1)) word after
  after_bulk word after e = opened ∙ ap (λ (r : Read (List ℕ)). and_then r (more_words (count - (counter + 1)))) e

  shifted : (words : Words) (word : List ℕ) (r : Read Words) → with_words words (and_then r (λ ws rest. Ok (word ∷ ws, rest))) ≡ with_words (words ++ word ∷ []) r
  shifted words word (Ok x) = ap (λ (ws : Words). read ws x.1) (sym (append_assoc words (word ∷ []) x.0))
  shifted words word (Err s) = refl

  pub words_more : (words : Words) (word after : List ℕ) → bulk_at rest ≡ Ok (word, after) → with_words words (bulks_at (count - counter) rest) ≡ with_words (words ++ word ∷ []) (bulks_at (count - (counter + 1)) after)
  words_more words word after e = ap (with_words words) (after_bulk word after e) ∙ shifted words word (bulks_at (count - (counter + 1)) after)

  skipped : (word : List ℕ) (r : Read Words) → rest_of (and_then r (λ ws rest. read (word ∷ ws) rest)) ≡ rest_of r
  skipped word (Ok x) = refl
  skipped word (Err s) = refl

  pub rest_more : (word after : List ℕ) → bulk_at rest ≡ Ok (word, after) → rest_of (bulks_at (count - counter) rest) ≡ rest_of (bulks_at (count - (counter + 1)) after)
  rest_more word after e = ap rest_of (after_bulk word after e) ∙ skipped word (bulks_at (count - (counter + 1)) after)

pub bulks_done : (count counter : ℕ) (rest : List ℕ) → count ≤ counter → bulks_at (count - counter) rest ≡ Ok ([], rest)
unfolding bulks_at
bulks_done count counter rest le = grind (arith, common_steps)
