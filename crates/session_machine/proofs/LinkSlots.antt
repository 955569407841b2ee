-- What happens to one link of those of a session.
use Rattle.std.proofs.Common.{◌≡◌, ◌≢◌, ◌<◌, ◌≤◌, ◌+◌, ◌++◌, ◌⊎◌, inl, inr, ℕ, zero, suc, true, false, eqb, List, [], ◌∷◌, length, length-append, length-set, get_or, set, Option, None, Some, refl, sym, ap, ◌∙◌, subst, arith}
use Rattle.std.specs.List.{slice_get}
use Rattle.std.proofs.lemmas.Option.{slice_get_read, slice_get_within, slice_get_past}
use Rattle.std.proofs.lemmas.Bool.{eq-eqb}
use Rattle.session_core.specs.declared.link.Taken.{Taken}
use Rattle.session_core.specs.declared.link.Ticket.{Ticket}
use Rattle.session_core.specs.declared.link.Taken.TheVariants.{Nothing, Reply, Broken}
use Rattle.session_core.specs.Taken.{IsTaken}
use Rattle.session_core.specs.Channel.{Channel, fresh}
use Rattle.session_core.specs.LinkEvents as link
use Rattle.session_core.specs.State.{Open, On, Forget, numbered, link_after, links_for}
use Rattle.session_core.proofs.AfterEvents.{numbered_one}
use Rattle.session_core.proofs.PlaceLists.{get_pushed_last, get_before}
use Rattle.session_machine.specs.Free.{AreFree, count_free}
use Rattle.session_machine.specs.Links.{HasLink, HasReply, HappensOn, IsTakenOn, Opens, Forgets}
use Rattle.session_machine.proofs.Numbers.{other_number}
use Rattle.session_machine.proofs.PartLists.{get_set_same}

abbrev Links : Type 0
Links = List (Option Channel)

-- ---- lists

get_set : {X : Type 0} (xs : List X) (i j : ℕ) (x : X) → j ≢ i → slice_get (set xs i x) j ≡ slice_get xs j
get_set [] i j x ne = refl
get_set (y ∷ xs) zero zero x ne = absurd (ne refl)
get_set (y ∷ xs) zero (suc j) x ne = refl
get_set (y ∷ xs) (suc i) zero x ne = refl
get_set (y ∷ xs) (suc i) (suc j) x ne = get_set xs i j x (λ e. ne (ap suc e))

set_pushed : {X : Type 0} (xs : List X) (x y : X) → set (xs ++ x ∷ []) (length xs) y ≡ xs ++ y ∷ []
set_pushed [] x y = refl
set_pushed (z ∷ xs) x y = ap (λ zs. z ∷ zs) (set_pushed xs x y)

set_same : {X : Type 0} (xs : List X) (i : ℕ) (x : X) → slice_get xs i ≡ Some x → set xs i x ≡ xs
set_same [] i x q = refl
set_same (y ∷ xs) zero x q = let w : y ≡ x = cc in ap (λ z. z ∷ xs) (sym w)
set_same (y ∷ xs) (suc i) x q = ap (λ ys. y ∷ ys) (set_same xs i x q)

-- ---- the link that the code reads

pub read_link : (slots now : Links) (number : ℕ) (item : Option Channel) (c d : Channel) → slots ≡ now → HasLink now number d → item ≡ get_or slots number item → item ≡ Some c → HasLink slots number c
read_link slots now number item c d e has read is =
    let within = slice_get_within slots number (Some d) (ap (λ xs. slice_get xs number) e ∙ has) in
    slice_get_read slots (length slots) number item refl within read ∙ ap Some is

pub happens_on : (slots now : Links) (number : ℕ) (item : Option Channel) (c d new : Channel) (event : link.Event) → slots ≡ now → HasLink now number d → item ≡ get_or slots number item → item ≡ Some c
    → link.Happens c event new → HappensOn number event now (set slots number (Some new))
happens_on slots now number item c d new event e has read is happens =
    let there = read_link slots now number item c d e has read is in
    let at : number ≡ 0 + number = omega arith in
    let own : link_after (On number event) (0 + number) (Some c) ≡ Some (link.after event c) = rw (eq-eqb number (0 + number) at) refl in
    let one = numbered_one (link_after (On number event)) 0 slots number (Some c) there (λ k y apart. rw (other_number number k (λ q. apart (q ∙ at))) refl) in
    record {
      channel = c;
      there = subst (λ (xs : Links). HasLink xs number c) e there;
      may = happens.may;
      is = ap (λ x. set slots number (Some x)) happens.is ∙ ap (set slots number) (sym own) ∙ sym one ∙ ap (numbered (link_after (On number event)) 0) e;
    }

-- the same link again
pub same_links : (slots now : Links) (number : ℕ) (item : Option Channel) (c d new : Channel) → slots ≡ now → HasLink now number d → item ≡ get_or slots number item → item ≡ Some c → new ≡ c → set slots number (Some new) ≡ now
same_links slots now number item c d new e has read is same =
    let there = read_link slots now number item c d e has read is in
    ap (λ x. set slots number (Some x)) same ∙ set_same slots number (Some c) there ∙ e

pub none_waits : (slots now : Links) (number : ℕ) (item : Option Channel) (c d : Channel) → slots ≡ now → HasLink now number d → item ≡ get_or slots number item → item ≡ Some c → c.waits ≡ []
    → (x : Channel) → HasLink now number x → x.waits ≡ []
none_waits slots now number item c d e has read is none = λ x there.
    let own : HasLink now number c = subst (λ (xs : Links). HasLink xs number c) e (read_link slots now number item c d e has read is) in
    let same : x ≡ c = cc in
    ap (λ (y : Channel). y.waits) same ∙ none

pub taken_on : (slots now : Links) (number : ℕ) (item : Option Channel) (c d new : Channel) (taken : Taken) → slots ≡ now → HasLink now number d → item ≡ get_or slots number item → item ≡ Some c
    → IsTaken c taken new → IsTakenOn number now taken (set slots number (Some new))
taken_on slots now number item c d new Nothing e has read is h = (
  record {
    channel = c;
    there = subst (λ (xs : Links). HasLink xs number c) e (read_link slots now number item c d e has read is);
    came = h.1;
  },
  same_links slots now number item c d new e has read is h.0,
)
taken_on slots now number item c d new (Reply ticket reply) e has read is h = happens_on slots now number item c d new _ e has read is h
taken_on slots now number item c d new (Broken cause) e has read is h = happens_on slots now number item c d new _ e has read is h

pub has_reply : (slots now : Links) (number : ℕ) (item : Option Channel) (c d : Channel) → slots ≡ now → HasLink now number d → item ≡ get_or slots number item → item ≡ Some c
    → (ticket : Ticket) × (reply : List ℕ) × link.IsAnswered c ticket reply → HasReply number now
has_reply slots now number item c d e has read is h = record {
  channel = c;
  there = subst (λ (xs : Links). HasLink xs number c) e (read_link slots now number item c d e has read is);
  ticket = h.0;
  reply = h.1;
  answered = h.2;
}

-- ---- how many numbers are free

count_kept : (links : Links) (n : ℕ) (c new : Channel) → slice_get links n ≡ Some (Some c) → count_free (set links n (Some new)) ≡ count_free links
count_kept [] n c new e = absurd (cc)
count_kept (None ∷ links) zero c new e = absurd (cc)
count_kept (Some x ∷ links) zero c new e = refl
count_kept (None ∷ links) (suc n) c new e = ap suc (count_kept links n c new e)
count_kept (Some x ∷ links) (suc n) c new e = count_kept links n c new e

count_more : (links : Links) (n : ℕ) (c : Channel) → slice_get links n ≡ Some (Some c) → count_free (set links n None) ≡ suc (count_free links)
count_more [] n c e = absurd (cc)
count_more (None ∷ links) zero c e = absurd (cc)
count_more (Some x ∷ links) zero c e = refl
count_more (None ∷ links) (suc n) c e = ap suc (count_more links n c e)
count_more (Some x ∷ links) (suc n) c e = count_more links n c e

count_less : (links : Links) (n : ℕ) (new : Channel) → slice_get links n ≡ Some None → suc (count_free (set links n (Some new))) ≡ count_free links
count_less [] n new e = absurd (cc)
count_less (None ∷ links) zero new e = refl
count_less (Some x ∷ links) zero new e = absurd (cc)
count_less (None ∷ links) (suc n) new e = ap suc (count_less links n new e)
count_less (Some x ∷ links) (suc n) new e = count_less links n new e

count_pushed : (links : Links) (new : Channel) → count_free (links ++ Some new ∷ []) ≡ count_free links
count_pushed [] new = refl
count_pushed (None ∷ links) new = ap suc (count_pushed links new)
count_pushed (Some x ∷ links) new = count_pushed links new

count_within : (links : Links) → count_free links ≤ length links
count_within [] = omega arith
count_within (None ∷ links) = let rest = count_within links in omega (arith, rest)
count_within (Some x ∷ links) = let rest = count_within links in omega (arith, rest)

count_some : (links : Links) (n : ℕ) → slice_get links n ≡ Some None → 0 < count_free links
count_some [] n e = absurd (cc)
count_some (None ∷ links) n e = omega arith
count_some (Some x ∷ links) zero e = absurd (cc)
count_some (Some x ∷ links) (suc n) e = count_some links n e

-- ---- free numbers

still_free : (free : List ℕ) (slots : Links) (number : ℕ) (c new : Channel) → AreFree free slots → HasLink slots number c → AreFree free (set slots number (Some new))
still_free free slots number c new f there = record {
  empty = λ i n e.
      let none = f.empty i n e in
      get_set slots number n (Some new) (λ same. let q : Some None ≡ Some (Some c) = sym none ∙ ap (slice_get slots) same ∙ there in absurd (cc)) ∙ none;
  apart = f.apart;
  count = f.count ∙ sym (count_kept slots number c new there);
}

pub still_kept : {room : ℕ} (free : List ℕ) (slots : Links) (number : ℕ) (c new : Channel) → AreFree free slots × (length slots ≤ room) → HasLink slots number c → AreFree free (set slots number (Some new)) × (length (set slots number (Some new)) ≤ room)
still_kept free slots number c new f there = (still_free free slots number c new f.0 there, omega (arith, f.1, length-set slots number (Some new)))

freed_at : (free : List ℕ) (number i n : ℕ) → slice_get (free ++ number ∷ []) i ≡ Some n → (slice_get free i ≡ Some n) ⊎ ((i ≡ length free) × (n ≡ number))
freed_at [] number zero n e = inr (refl, let q : n ≡ number = cc in q)
freed_at [] number (suc i) n e = absurd (cc)
freed_at (x ∷ free) number zero n e = inl e
freed_at (x ∷ free) number (suc i) n e = elim (freed_at free number i n e) [
  | inl q ↦ inl q
  | inr q ↦ inr (ap suc q.0, q.1)
]

one_more_free : (free : List ℕ) (slots : Links) (number : ℕ) (c : Channel) → AreFree free slots → HasLink slots number c → AreFree (free ++ number ∷ []) (set slots number None)
one_more_free free slots number c f there =
    let own : slice_get (set slots number None) number ≡ Some None = get_set_same slots number None (slice_get_within slots number (Some c) there) in
    let never : (i : ℕ) → slice_get free i ≡ Some number → ⊥ = λ i e. let q : Some None ≡ Some (Some c) = sym (f.empty i number e) ∙ there in absurd (cc) in
    record {
      empty = λ i n e. elim (freed_at free number i n e) [
        | inl q ↦ get_set slots number n None (λ same. never i (q ∙ ap Some same)) ∙ f.empty i n q
        | inr q ↦ ap (slice_get (set slots number None)) q.1 ∙ own
      ];
      apart = λ i j n e d. elim (freed_at free number i n e) [
        | inl q ↦ elim (freed_at free number j n d) [
          | inl w ↦ f.apart i j n q w
          | inr w ↦ absurd (never i (q ∙ ap Some w.1))
        ]
        | inr q ↦ elim (freed_at free number j n d) [
          | inl w ↦ absurd (never j (w ∙ ap Some q.1))
          | inr w ↦ q.0 ∙ sym w.0
        ]
      ];
      count = (let n : length (free ++ number ∷ []) ≡ suc (length free) = omega (arith, length-append free (number ∷ [])) in n) ∙ ap suc f.count ∙ sym (count_more slots number c there);
    }

pub freed : (free more : List ℕ) (slots : Links) (number : ℕ) (c : Channel) → more ≡ free ++ number ∷ [] → AreFree free slots → HasLink slots number c → AreFree more (set slots number None)
freed free more slots number c is f there = subst (λ (ns : List ℕ). AreFree ns (set slots number None)) (sym is) (one_more_free free slots number c f there)

-- a number that is not free has room among those that are
pub has_room : (free : List ℕ) (slots : Links) (number : ℕ) (c : Channel) → AreFree free slots → HasLink slots number c → length free < length slots
has_room free slots number c f there =
    let more = count_more slots number c there in
    let within = count_within (set slots number None) in
    omega (arith, f.count, more, within, length-set slots number None)

pub one_less_free : (free more : List ℕ) (slots : Links) (number : ℕ) (new : Channel) → AreFree more slots → more ≡ free ++ number ∷ [] → AreFree free (set slots number (Some new))
one_less_free free more slots number new g is =
    let f : AreFree (free ++ number ∷ []) slots = subst (λ (ns : List ℕ). AreFree ns slots) is g in
    let last = get_pushed_last free number in
    let old : (i n : ℕ) → slice_get free i ≡ Some n → slice_get (free ++ number ∷ []) i ≡ Some n = λ i n e. get_before free (number ∷ []) i (slice_get_within free i n e) ∙ e in
    let fewer = count_less slots number new (f.empty (length free) number last) in
    record {
      empty = λ i n e. get_set slots number n (Some new) (λ same.
          let at : i ≡ length free = f.apart i (length free) n (old i n e) (last ∙ ap Some (sym same)) in
          omega (arith, at, slice_get_within free i n e)) ∙ f.empty i n (old i n e);
      apart = λ i j n e d. f.apart i j n (old i n e) (old j n d);
      count = omega (arith, f.count, length-append free (number ∷ []), fewer);
    }

pub grown_free : (free : List ℕ) (slots more : Links) (new : Channel) → AreFree free slots → more ≡ slots ++ Some new ∷ [] → AreFree free more
grown_free free slots more new f is = subst (AreFree free) (sym is) (record {
  empty = λ i n e. get_before slots (Some new ∷ []) n (slice_get_within slots n None (f.empty i n e)) ∙ f.empty i n e;
  apart = f.apart;
  count = f.count ∙ sym (count_pushed slots new);
})

-- if no number stands among the free ones, none is free
pub none_free : (free : List ℕ) (slots now : Links) → AreFree free slots → slots ≡ now → length free ≡ 0 → (n : ℕ) → slice_get now n ≡ Some None → ⊥
none_free free slots now f e none n there = let some = count_some slots n (ap (λ xs. slice_get xs n) e ∙ there) in omega (arith, f.count, none, some)

-- ---- opened and forgotten

free_slot : (free more : List ℕ) (slots : Links) (number : ℕ) → AreFree more slots → more ≡ free ++ number ∷ [] → slice_get slots number ≡ Some None
free_slot free more slots number f is = f.empty (length free) number (ap (λ ns. slice_get ns (length free)) is ∙ get_pushed_last free number)

pub free_within : (free more : List ℕ) (slots : Links) (number : ℕ) → AreFree more slots → more ≡ free ++ number ∷ [] → number < length slots
free_within free more slots number f is = slice_get_within slots number None (free_slot free more slots number f is)

opened_at : (slots : Links) (number most : ℕ) → slice_get slots number ≡ Some None → set slots number (Some (fresh most)) ≡ numbered (link_after (Open number most)) 0 slots
opened_at slots number most there =
    let at : number ≡ 0 + number = omega arith in
    let own : link_after (Open number most) (0 + number) None ≡ Some (fresh most) = rw (eq-eqb number (0 + number) at) refl in
    ap (set slots number) (sym own) ∙ sym (numbered_one (link_after (Open number most)) 0 slots number None there (λ k y apart. rw (other_number number k (λ q. apart (q ∙ at))) refl))

pub opens_free : (free more : List ℕ) (slots now : Links) (number most : ℕ) (new : Channel) → slots ≡ now → AreFree more slots → more ≡ free ++ number ∷ [] → new ≡ fresh most → Opens number most now (set slots number (Some new))
opens_free free more slots now number most new e f is same =
    let there = free_slot free more slots number f is in
    let within = slice_get_within slots number None there in
    let t : eqb number (length slots) ≡ false = other_number number (length slots) (λ q. omega arith) in
    let at : links_for (Open number most) slots ≡ slots = rw t refl in
    subst (λ (xs : Links). Opens number most xs (set slots number (Some new))) e (record {
      within = omega (arith, within);
      empty = λ c has. let q : Some None ≡ Some (Some c) = sym there ∙ has in absurd (cc);
      is = ap (λ x. set slots number (Some x)) same ∙ opened_at slots number most there ∙ ap (numbered (link_after (Open number most)) 0) (sym at);
    })

pub opens_next : (slots now new : Links) (number most : ℕ) (c : Channel) → slots ≡ now → number ≡ length slots → c ≡ fresh most → new ≡ slots ++ Some c ∷ [] → Opens number most now new
opens_next slots now new number most c e at same is =
    let t : eqb number (length slots) ≡ true = eq-eqb number (length slots) at in
    let grown : links_for (Open number most) slots ≡ slots ++ None ∷ [] = rw t refl in
    let there : slice_get (slots ++ None ∷ []) number ≡ Some None = ap (slice_get (slots ++ None ∷ [])) at ∙ get_pushed_last slots None in
    subst (λ (xs : Links). Opens number most xs new) e (record {
      within = omega (arith, at);
      empty = λ d has. let q : None ≡ Some (Some d) = sym (slice_get_past slots number (omega (arith, at))) ∙ has in absurd (cc);
      is = is ∙ ap (λ x. slots ++ Some x ∷ []) same ∙ sym (set_pushed slots None (Some (fresh most)))
          ∙ ap (λ n. set (slots ++ None ∷ []) n (Some (fresh most))) (sym at)
          ∙ opened_at (slots ++ None ∷ []) number most there ∙ ap (numbered (link_after (Open number most)) 0) (sym grown);
    })

pub forgets_at : (slots now : Links) (number : ℕ) (c : Channel) → slots ≡ now → HasLink now number c → Forgets number now (set slots number None)
forgets_at slots now number c e has =
    let there : HasLink slots number c = ap (λ xs. slice_get xs number) e ∙ has in
    let at : number ≡ 0 + number = omega arith in
    let own : link_after (Forget number) (0 + number) (Some c) ≡ None = rw (eq-eqb number (0 + number) at) refl in
    ap (set slots number) (sym own) ∙ sym (numbered_one (link_after (Forget number)) 0 slots number (Some c) there (λ k y apart. rw (other_number number k (λ q. apart (q ∙ at))) refl))
    ∙ ap (numbered (link_after (Forget number)) 0) e
