-- The fault of a plan for that of the plan of a split command.
use Rattle.redis_cluster.specs.declared.fault.PlanFault.{PlanFault}
use Rattle.redis_cluster.specs.declared.fault.PlanFault.TheVariants as split
use Rattle.redis_commands.specs.declared.fault.CommandPlanFault.{CommandPlanFault}
use Rattle.redis_commands.specs.declared.fault.CommandPlanFault.TheVariants.{NotRoutable, NotCovered, Memory}

abbrev pub fault_of_split : PlanFault → CommandPlanFault
fault_of_split split.NotMultiKey = NotRoutable
fault_of_split (split.NotCovered slot) = NotCovered slot
fault_of_split split.Memory = Memory
