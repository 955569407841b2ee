-- Names that a shell adds to those that shared links take.
use Rattle.std.specs.Prelude.{ℕ, List, Bool, true, false}
use Rattle.redis_session.specs.declared.kind.CommandKind.{CommandKind}
use Rattle.redis_session.specs.declared.kind.CommandKind.TheVariants.{Plain, Script}

-- each name with its kind
abbrev pub Added : Type 0
Added = List (List ℕ × CommandKind)

-- The kind of an added name, by the word of the shell that nodes refuse it before they run it.
abbrev pub kind_added : Bool → CommandKind
kind_added true = Plain
kind_added false = Script
