-- One caller of a session.
use Rattle.std.specs.Prelude.{◌≡◌, ℕ}
use Rattle.session_core.specs.Order.{no_order}
use Rattle.session_machine.specs.Ties.{no_owed, is_owed}
use Rattle.session_machine.specs.declared.caller.Caller.{Caller}

-- a caller without calls
abbrev pub no_calls : Caller
no_calls = record { order = no_order; owed = no_owed; last = 0 }

-- The caller has the same parts and the same last call, and is owed the same replies.
pub record KeepsCalls (old new : Caller) : Type 0 where
  pub order : new.order ≡ old.order
  pub owed : (call : ℕ) → is_owed call new.owed ≡ is_owed call old.owed
  pub last : new.last ≡ old.last
