-- A handle may go to another thread, as a box of its value may.
use denote.Param.Send.{IsSend, sendable}
use Rattle.std.proofs.Crossing.{Box-send}
use Rattle.std.specs.contracts.alloc.Global.{the_row as Heap}
use Rattle.std.specs.contracts.impls.GlobalAllocator.TheImpl.{ghosts}
use Rattle.std.specs.contracts.boxed.Box as boxed
use Rattle.std.specs.declared.boxed.Box.{Box}
use Rattle.redis_session.specs.contracts.session.Session.{the_row as Inner}
use Rattle.redis_session.proofs.session.Session.TheSendSync.{the_send}
use Rattle.slotroute_c.specs.contracts.session_handle.SessionHandle.{the_row}

abbrev as_box : (the_row).Denot → (boxed.the_row Inner Heap ghosts).Denot
as_box h = record { ptr = h.at; alloc = h.alloc; value = h.value }

pub send : IsSend the_row
send = let sent : IsSend (boxed.the_row Inner Heap ghosts) = Box-send Inner the_send in record { owned = λ h. sent.owned (as_box h); leaving = λ k h. sent.leaving k (as_box h) }
