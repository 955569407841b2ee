-- The fault of a command by the fault of the driver.
use Rattle.redis_cluster.specs.declared.fault.DriveFault.{DriveFault}
use Rattle.redis_cluster.specs.declared.fault.DriveFault.TheVariants as drive
use Rattle.slotroute_serve.specs.declared.refusal.CommandFault.{CommandFault}
use Rattle.slotroute_serve.specs.declared.refusal.CommandFault.TheVariants.{Refused, Memory}
use Rattle.slotroute_serve.specs.declared.refusal.Refusal.TheVariants.{NotMultiKey, NotCovered, NodeRefused, ReplyLost, BadReply}

-- the program makes no order that the driver refuses, so any refusal does for BadOrder
abbrev pub fault_of_drive : DriveFault → CommandFault
fault_of_drive drive.NotMultiKey = Refused NotMultiKey
fault_of_drive (drive.NotCovered slot) = Refused (NotCovered slot)
fault_of_drive drive.BadOrder = Refused NotMultiKey
fault_of_drive drive.Memory = Memory
fault_of_drive (drive.Node error) = Refused NodeRefused
fault_of_drive (drive.Redirected redirect) = Refused NodeRefused
fault_of_drive (drive.Lost error) = Refused ReplyLost
fault_of_drive (drive.Reply error) = Refused BadReply
