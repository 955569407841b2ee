-- A link as contracts see it: one connection to a node, what waits on it, and its bytes.
use Rattle.std.specs.Prelude.{◌+◌, ◌-◌, ℕ, Bool, nat_lt, List, [], ◌∷◌, length}
use Rattle.std.specs.List.{flat_map}
use Rattle.session_core.specs.declared.link.Ticket.{Ticket}
use Rattle.session_core.specs.declared.link.Wait.{Wait}
use Rattle.session_core.specs.declared.link.Standing.{Standing}
use Rattle.session_core.specs.declared.link.Standing.TheVariants.{Open}

-- What contracts see of a link.
pub record Channel : Type 0 where
  -- what was asked, in order, and is neither answered nor lost
  pub waits : List Wait
  -- how many bytes were given to be written since the connection began
  pub given : ℕ
  -- the last of these, which are not written
  pub unwritten : List ℕ
  -- what came, without the replies that were taken
  pub heard : List ℕ
  -- for each of these bytes, how many bytes were written before it came
  pub written_before : List ℕ
  pub standing : Standing
  -- the most bytes that a reply may have
  pub most : ℕ

-- how many bytes were written
abbrev pub written : Channel → ℕ
written c = c.given - length c.unwritten

-- a new connection
abbrev pub fresh : ℕ → Channel
fresh most =
    record { waits = []; given = 0; unwritten = []; heard = []; written_before = []; standing = Open; most = most }

-- what is to be written: on a link that is broken or ended, nothing
abbrev pub to_write : Standing → List ℕ → List ℕ
to_write Open unwritten = unwritten
to_write other unwritten = []

-- Some byte of what was asked was written. Its node may have run it.
abbrev pub is_begun : Channel → Wait → Bool
is_begun c wait = nat_lt wait.start (written c)

-- ---- requests

-- a ticket and the bytes of its request
abbrev pub Ask : Type 0
Ask = Ticket × List ℕ

-- the bytes of all requests, one after the other
abbrev pub bytes_of : List Ask → List ℕ
bytes_of asks = flat_map (λ ask. ask.1) asks

-- Where the bytes of each request stand among all that were given to the link, if so many were
-- given before.
abbrev pub placed : ℕ → List Ask → List Wait
placed start [] = []
placed start (ask ∷ more) = record { ticket = ask.0; start = start; end = start + length ask.1 }
    ∷ placed (start + length ask.1) more
