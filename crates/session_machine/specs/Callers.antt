-- The callers of a session, by their numbers.
use Rattle.std.specs.Prelude.{◌≡◌, ◌≢◌, ◌⊎◌, ℕ, Option, None, Some, List}
use Rattle.std.specs.Option.{unwrap_or, option_map}
use Rattle.session_core.specs.Order.{Order, no_order}
use Rattle.session_machine.specs.Ties.{no_owed, is_owed}
use Rattle.session_machine.specs.Caller.{no_calls}
use Rattle.session_machine.specs.CallerTable.{kept_in}
use Rattle.session_machine.specs.declared.caller.Caller.{Caller}
use Rattle.session_machine.specs.declared.callers.Callers.{Callers}

-- a caller by its number, who made no calls if it is not known
abbrev pub caller_of : ℕ → Callers → Caller
caller_of caller callers = unwrap_or (kept_in caller callers.callers) no_calls

-- the parts of a caller, in the order of its calls
unfoldable pub order_of : ℕ → Callers → Order
order_of caller callers = (caller_of caller callers).order

-- which of its calls are owed a reply
unfoldable pub owed_of : ℕ → Callers → List ℕ
owed_of caller callers = (caller_of caller callers).owed

-- the number of its last call, if something is kept of it
unfoldable pub last_of : ℕ → Callers → Option ℕ
last_of caller callers = option_map (λ (c : Caller). c.last) (kept_in caller callers.callers)

-- Every other caller has the same order and the same last call, and is owed the same replies.
pub record OthersKept (caller : ℕ) (old new : Callers) : Type 0 where
  pub order : (other : ℕ) → other ≢ caller → order_of other new ≡ order_of other old
  pub owed : (other : ℕ) → other ≢ caller → owed_of other new ≡ owed_of other old
  pub last : (other : ℕ) → other ≢ caller → last_of other new ≡ last_of other old

-- Nothing but the order of this caller changes.
pub record OnlyOrder (caller : ℕ) (old new : Callers) : Type 0 where
  pub order : (other : ℕ) → other ≢ caller → order_of other new ≡ order_of other old
  pub owed : (other : ℕ) → owed_of other new ≡ owed_of other old
  pub last : (other : ℕ) → last_of other new ≡ last_of other old

-- Nothing but what replies this caller is owed changes.
pub record OnlyOwed (caller : ℕ) (old new : Callers) : Type 0 where
  pub order : (other : ℕ) → order_of other new ≡ order_of other old
  pub owed : (other : ℕ) → other ≢ caller → owed_of other new ≡ owed_of other old
  pub last : (other : ℕ) → last_of other new ≡ last_of other old

-- Each caller has the same parts and the same last call, and is owed the same replies.
pub record CallsKept (old new : Callers) : Type 0 where
  pub order : (caller : ℕ) → order_of caller new ≡ order_of caller old
  pub owed : (caller call : ℕ) → is_owed call (owed_of caller new) ≡ is_owed call (owed_of caller old)
  pub last : (caller : ℕ) → last_of caller new ≡ last_of caller old

-- Nothing is kept of this caller any more.
pub record IsForgotten (caller : ℕ) (old new : Callers) : Type 0 where
  pub order : order_of caller new ≡ no_order
  pub owed : owed_of caller new ≡ no_owed
  pub last : last_of caller new ≡ None
  pub others : OthersKept caller old new

-- The caller is forgotten, if this was its last call.
abbrev pub ForgetsAfter : (caller call : ℕ) → (old new : Callers) → Type 0
ForgetsAfter caller call old new = ((last_of caller old ≡ Some call) × IsForgotten caller old new)
    ⊎ ((last_of caller old ≡ Some call → ⊥) × (new ≡ old))
