-- What is put on a link for a part.
use Rattle.std.specs.Prelude.{◌∷◌, [], ℕ, Bool, true, false, List}
use Rattle.session_core.specs.declared.link.Ticket.TheVariants.{Asking, Part}
use Rattle.session_core.specs.Channel.{Ask}
use Rattle.session_core.specs.LinkEvents.{asking}

-- with `ASKING` before it or without
abbrev pub put_for : (asks : Bool) (call part : ℕ) → List ℕ → List Ask
put_for true call part request = (Asking, asking) ∷ (Part call part, request) ∷ []
put_for false call part request = (Part call part, request) ∷ []
