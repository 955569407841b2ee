-- What a handle owns: a session in a block of its own.
use base.Fml.{Fml}
use base.Stored.{Coded}
use denote.RawPtr.{Ptr}
use Rattle.std.specs.Box.Ownership.{box_owns}
use Rattle.std.specs.Global.{Global}
use Rattle.std.specs.contracts.impls.GlobalAllocator.TheImpl.{ghosts}
use Rattle.redis_session.specs.contracts.session.Session.{the_row}

abbrev pub block_owns : Global → Ptr → the_row.Denot → Fml
block_owns alloc = box_owns (ghosts.dealloc_token alloc) the_row

abbrev pub session_coded : Coded the_row.Denot
session_coded = the_row.coded
