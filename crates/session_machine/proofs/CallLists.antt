-- A call changes, by its number.
use Rattle.std.specs.List.{slice_get}
use Rattle.session_core.specs.Part.{PartState}
use Rattle.session_machine.specs.Part.{Keeps, Returns}
use Rattle.session_machine.proofs.PartLists.{get_set_same}
use Rattle.std.proofs.Common.{Some, Bool, subst, ◌≡◌, ◌<◌, ◌≤◌, ◌-◌, ◌⊎◌, inl, inr, ℕ, true, false, ltb, List, length, get_or, set, refl, sym, ap, ◌∙◌, arith}
use Rattle.std.proofs.lemmas.Option.{slice_get_read, same_Some}
use Rattle.std.proofs.lemmas.Bool.{cases_lt}
use Rattle.std.proofs.lemmas.Bool.Decides.{nat_tests}
use Rattle.session_core.specs.State.{CallState}
use Rattle.session_core.proofs.Places.{set_changed}
use Rattle.session_machine.specs.Calls.{KeepsAt, ReturnsAt, with_call}
use Rattle.session_machine.proofs.Numbers.{changed_past}

pub no_call : (call first count : ℕ) (change : CallState → CallState) (calls : List CallState) → count ≡ length calls → (call < first) ⊎ (count ≤ call - first) → calls ≡ with_call call first change calls
no_call call first count change calls many past = elim (cases_lt call first) [
  | inl lt ↦ let t : ltb call first ≡ true = grind (arith, nat_tests) in rw t refl
  | inr ge ↦
      let t : ltb call first ≡ false = grind (arith, nat_tests) in
      let over : length calls ≤ call - first = elim past [ inl lt ↦ absurd (omega arith) | inr h ↦ omega (arith, many, h) ] in
      rw t (sym (changed_past change (call - first) calls over))
]

pub with_item : (call first index : ℕ) (change : CallState → CallState) (calls : List CallState) (x y : CallState)
    → first ≤ call → index ≡ call - first → index < length calls → x ≡ get_or calls index x → y ≡ change x
    → set calls index y ≡ with_call call first change calls
with_item call first index change calls x y low at within read is =
    let t : ltb call first ≡ false = grind (arith, nat_tests) in
    ap (set calls index) is ∙ set_changed change index calls x (slice_get_read calls (length calls) index x refl within read)
    ∙ rw (t, at) refl

-- the part that changed keeps the reply
pub kept_item : (call first index part : ℕ) (calls : List CallState) (y : CallState) (reply : List ℕ) → first ≤ call → index ≡ call - first → index < length calls
    → ((p : PartState) → slice_get y.parts part ≡ Some p → Keeps reply p.phase) → KeepsAt call part reply first (set calls index y)
kept_item call first index part calls y reply low at within kept = λ state p is part_is.
    let t : ltb call first ≡ false = grind (arith, nat_tests) in
    let there : slice_get (set calls index y) (call - first) ≡ Some y = ap (slice_get (set calls index y)) (sym at) ∙ get_set_same calls index y within in
    let own : slice_get (set calls index y) (call - first) ≡ Some state = rw t at is in
    let same : state ≡ y = same_Some state y (sym own ∙ there) in
    kept p (ap (λ (c : CallState). slice_get c.parts part) (sym same) ∙ part_is)

-- the part that changed does not keep the reply
pub returned_item : (call first index part : ℕ) (calls : List CallState) (x : CallState) (reply : List ℕ) → first ≤ call → index ≡ call - first → index < length calls → x ≡ get_or calls index x
    → ((p : PartState) → slice_get x.parts part ≡ Some p → Returns reply x.is_wanted p) → ReturnsAt call part reply first calls
returned_item call first index part calls x reply low at within read returns = λ state p is part_is.
    let t : ltb call first ≡ false = grind (arith, nat_tests) in
    let there : slice_get calls (call - first) ≡ Some x = ap (slice_get calls) (sym at) ∙ slice_get_read calls (length calls) index x refl within read in
    let own : slice_get calls (call - first) ≡ Some state = rw t at is in
    let same : x ≡ state = same_Some x state (sym there ∙ own) in
    subst (λ (w : Bool). Returns reply w p) (ap (λ (c : CallState). c.is_wanted) same) (returns p (ap (λ (c : CallState). slice_get c.parts part) same ∙ part_is))
