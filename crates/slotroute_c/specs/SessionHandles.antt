-- What a borrow of a session leaves behind its handle, and what opening one leaves behind a pointer.
use base.Fml.{Fml, feq}
use Prim.Native.Nat.{zero, suc}
use denote.RawPtr.{Ptr}
use Rattle.std.specs.Prelude.{ℕ, List, []}
use Rattle.std.specs.Borrow.{Lends, MutBor}
use Rattle.std.specs.Global.{Global}
use Rattle.redis_session.specs.SessionStates.{SessionState, new_session}
use Rattle.redis_session.specs.contracts.session.Session.{the_row as Inner}
use Rattle.slotroute_c.specs.declared.session_handle.SessionHandle.{SessionHandle}
use Rattle.slotroute_c.specs.declared.sessions.SessionSettings.{SessionSettings}
use Rattle.slotroute_c.specs.contracts.session_handle.SessionHandle.{the_row as Outer}
use Rattle.slotroute_c.specs.SessionBlocks.{block_owns}

-- the handle with another state in its block
abbrev pub holding : SessionHandle → SessionState → SessionHandle
holding handle state = record handle { value = state }

-- what is written through the borrow is what the handle holds in the end
abbrev pub writes_back : MutBor SessionHandle → MutBor SessionState → Fml
writes_back handle session = Lends Outer Inner handle session (holding handle.now)

-- a session of no links and no calls, with these settings, which knows no names but those of the tables
abbrev pub opened : SessionSettings → (login : List ℕ) → SessionState
opened settings login = new_session (record {
  login = login;
  most_reply_bytes = settings.most_reply_bytes;
  most_calls = settings.most_calls;
  most_bytes = settings.most_bytes;
  retries = settings.retries;
  read_only = [];
  registered = [];
  added = [];
})

-- An answer of 0 leaves a pointer to such a session. Another answer leaves the pointer as it was.
abbrev pub opens : Global → SessionSettings → (login : List ℕ) → ℕ → Ptr → Ptr → Fml
opens alloc settings login zero old new = block_owns alloc new (opened settings login)
opens alloc settings login (suc n) old new = feq Ptr new old
