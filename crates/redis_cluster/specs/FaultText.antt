-- What is printed of the faults of a plan and of the driver.
use Rattle.std.specs.Prelude.{ℕ, List, ◌++◌, codes, decimal}
use Rattle.resp_core.specs.ErrorParts.{error_text}
use Rattle.redis_cluster.specs.SendErrorText.{redirect_text}
use Rattle.redis_cluster.specs.declared.fault.DriveError.{DriveError}
use Rattle.redis_cluster.specs.declared.fault.DriveFault.{DriveFault}
use Rattle.redis_cluster.specs.declared.fault.DriveFault.TheVariants.{NotMultiKey, NotCovered, BadOrder, Memory, Node, Redirected, Lost, Reply}
use Rattle.redis_cluster.specs.declared.fault.PlanFault.{PlanFault}
use Rattle.redis_cluster.specs.Faults.{fault_of_plan}

abbrev pub drive_fault_text : DriveFault → List ℕ
drive_fault_text NotMultiKey = codes "not a multi-key command"
drive_fault_text (NotCovered slot) = codes "slot " ++ decimal slot ++ codes " not covered"
drive_fault_text BadOrder = codes "the order does not name each route once"
drive_fault_text Memory = codes "out of memory"
drive_fault_text (Node error) = codes "node refused: " ++ error_text error
drive_fault_text (Redirected redirect) = codes "node redirected: " ++ redirect_text redirect
drive_fault_text (Lost error) = codes "reply lost: " ++ error_text error
drive_fault_text (Reply error) = codes "bad reply: " ++ error_text error

-- that of the driver's fault for it
abbrev pub plan_fault_text : PlanFault → List ℕ
plan_fault_text fault = drive_fault_text (fault_of_plan fault)

-- the fault, and how many parts were answered before it
abbrev pub drive_error_text : DriveError → List ℕ
drive_error_text error =
    drive_fault_text error.fault ++ codes " (parts answered: " ++ decimal error.answered ++ codes ")"
