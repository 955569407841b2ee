-- The callers of which something is kept, by their numbers.
use Rattle.std.specs.Prelude.{◌≡◌, ◌≢◌, ℕ, if◌then◌else◌, nat_lt, Option, Some, slice_get, IsSome, OnSome}
use Rattle.std.specs.Option.{option_map, option_and_then}
use Rattle.std.specs.Ordering.{nat_cmp}
use Rattle.std.specs.BTreeMap.{get}
use Rattle.std.specs.Borrow.{LendsSo, MutBor, Fml}
use Rattle.std.specs.declared.alloc.Global.{Global}
use Rattle.std.specs.declared.boxed.Box.{Box}
use Rattle.session_machine.specs.declared.caller.Caller.{Caller}
use Rattle.session_machine.specs.declared.caller_table.Slot.{Slot}
use Rattle.session_machine.specs.declared.caller_table.CallerTable.{CallerTable}
use Rattle.session_machine.specs.contracts.caller_table.CallerTable.{the_row}
use Rattle.session_machine.specs.contracts.caller_table.Slot as slot
use Rattle.session_machine.specs.contracts.caller.Caller as caller

-- the caller that stands there
abbrev pub in_slot : Slot → Option Caller
in_slot s = option_map (λ (b : Box Caller Global). b.value) s.caller

-- where the caller of a number stands
abbrev pub slot_of : ℕ → CallerTable → Option Slot
slot_of caller table = if nat_lt caller 16384 then slice_get table.near.items caller else get nat_cmp table.far caller

-- the caller of a number, if it is kept
abbrev pub kept_in : ℕ → CallerTable → Option Caller
kept_in caller table = option_and_then in_slot (slot_of caller table)

-- The same callers are kept.
abbrev pub KeepsAll : CallerTable → CallerTable → Type 0
KeepsAll old new = (caller : ℕ) → kept_in caller new ≡ kept_in caller old

-- The caller of this number is this one now, or is not kept. The others are as they were.
abbrev pub IsPut : ℕ → Option Caller → CallerTable → CallerTable → Type 0
IsPut caller entry old new = (kept_in caller new ≡ entry) × ((other : ℕ) → other ≢ caller → kept_in other new ≡ kept_in other old)

-- ---- what is lent

abbrev pub IsWritten : ℕ → CallerTable → CallerTable → Slot → Type 0
IsWritten caller old new slot = (slot_of caller new ≡ Some slot) × ((other : ℕ) → other ≢ caller → slot_of other new ≡ slot_of other old)

-- the slot of this number
abbrev pub LendsSlot : MutBor CallerTable → ℕ → Option (MutBor Slot) → Fml
LendsSlot s caller r = LendsSo the_row slot.the_row s r (λ n w. OnSome r (IsWritten caller s.now n w)) (λ n. n ≡ s.now)

-- the caller that stands there
abbrev pub LendsEntry : MutBor Slot → Option (MutBor Caller) → Fml
LendsEntry s r = LendsSo slot.the_row caller.the_row s r (λ n w. OnSome r (in_slot n ≡ Some w)) (λ n. n ≡ s.now)

-- the caller of this number
abbrev pub LendsCaller : MutBor CallerTable → ℕ → Option (MutBor Caller) → Fml
LendsCaller s number r = LendsSo the_row caller.the_row s r (λ n w. IsSome (kept_in number s.now) → IsPut number (Some w) s.now n) (KeepsAll s.now)
