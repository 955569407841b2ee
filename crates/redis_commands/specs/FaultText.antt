-- What is printed of the faults of a plan.
use Rattle.std.specs.Prelude.{ℕ, List, ◌++◌, codes, decimal}
use Rattle.redis_commands.specs.declared.fault.CommandPlanFault.{CommandPlanFault}
use Rattle.redis_commands.specs.declared.fault.CommandPlanFault.TheVariants.{NotRoutable, NotCovered, NoNode, Memory}

abbrev pub command_plan_fault_text : CommandPlanFault → List ℕ
command_plan_fault_text NotRoutable = codes "the command goes nowhere"
command_plan_fault_text (NotCovered slot) = codes "slot " ++ decimal slot ++ codes " not covered"
command_plan_fault_text NoNode = codes "the map has no node"
command_plan_fault_text Memory = codes "out of memory"
