use Rattle.resp.proofs.Messages.{scanned_none}
use Rattle.slotroute_c.proofs.scans.slotroute_scan.Goals as goal

pub returns-in-Ok-clause-new : goal.returns-in-Ok-clause-new
returns-in-Ok-clause-new c = scanned_none

pub returns-in-Err-clause-new : goal.returns-in-Err-clause-new
returns-in-Err-clause-new c = scanned_none
