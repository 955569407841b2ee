-- What a table of callers keeps after one of its slots was written.
use Rattle.std.proofs.Common.{inl, inr, ◌≡◌, ◌++◌, ◌∷◌, [], List, MutBor, ℕ, zero, suc, slice_get, Option, None, Some, refl, sym, ap, ◌∙◌, subst}
use Rattle.std.specs.Option.{option_and_then, option_map, option_copied_mut, OnSome, IsSome}
use Rattle.std.proofs.lemmas.Bool.{cases_eq, false≢true}
use Rattle.std.specs.declared.alloc.Global.{Global}
use Rattle.std.specs.declared.boxed.Box.{Box}
use Rattle.session_machine.specs.declared.caller.Caller.{Caller}
use Rattle.session_machine.specs.declared.caller_table.Slot.{Slot}
use Rattle.session_machine.specs.declared.caller_table.CallerTable.{CallerTable}
use Rattle.session_machine.specs.CallerTable.{in_slot, slot_of, kept_in, KeepsAll, IsPut, IsWritten}

pub put_there : (caller : ℕ) (old new : CallerTable) (slot : Slot) (entry : Option Caller) → IsWritten caller old new slot → in_slot slot ≡ entry → IsPut caller entry old new
put_there caller old new slot entry w is = (ap (option_and_then in_slot) w.0 ∙ is, λ other ne. ap (option_and_then in_slot) (w.1 other ne))

pub put_back : (caller : ℕ) (old new : CallerTable) (slot was : Slot) → Some was ≡ slot_of caller old → IsWritten caller old new slot → slot ≡ was → KeepsAll old new
put_back caller old new slot was there w same other = elim (cases_eq other caller) [
  | inl here ↦ subst (λ (n : ℕ). kept_in n new ≡ kept_in n old) (sym here) (ap (option_and_then in_slot) (w.0 ∙ ap Some same ∙ there))
  | inr ne ↦ ap (option_and_then in_slot) (w.1 other ne)
]

-- what a lent value ends at, if it was lent
pub on_there : {X P : Type 0} (r : Option X) (x : X) → r ≡ Some x → OnSome r P → P
on_there {P = P} r x e h = subst (λ o. OnSome o P) e h

pub on_copied : {X P : Type 0} (r : Option (MutBor X)) → IsSome (option_copied_mut r) → OnSome r P → P
on_copied None some h = absurd (false≢true some)
on_copied (Some x) some h = h

-- a slot where no caller stands is no caller more
pub none_more : (xs : List Slot) (x : Slot) (n : ℕ) → x.caller ≡ None → option_and_then in_slot (slice_get (xs ++ x ∷ []) n) ≡ option_and_then in_slot (slice_get xs n)
none_more [] x zero none = ap (option_map (λ (b : Box Caller Global). b.value)) none
none_more [] x (suc n) none = refl
none_more (y ∷ xs) x zero none = refl
none_more (y ∷ xs) x (suc n) none = none_more xs x n none
