-- What is printed of a refusal, and of a command that was not run.
use Rattle.std.specs.Prelude.{ℕ, List, ◌++◌, codes, decimal}
use Rattle.slotroute_serve.specs.declared.refusal.CommandFault.{CommandFault}
use Rattle.slotroute_serve.specs.declared.refusal.CommandFault.TheVariants.{Refused, Memory}
use Rattle.slotroute_serve.specs.declared.refusal.Refusal.{Refusal}
use Rattle.slotroute_serve.specs.declared.refusal.Refusal.TheVariants.{NotMultiKey, NotCovered, NodeRefused, ReplyLost, BadReply}

abbrev pub run_refusal_text : Refusal → List ℕ
run_refusal_text NotMultiKey = codes "not a multi-key command"
run_refusal_text (NotCovered slot) = codes "slot " ++ decimal slot ++ codes " not covered"
run_refusal_text NodeRefused = codes "node refused"
run_refusal_text ReplyLost = codes "reply lost"
run_refusal_text BadReply = codes "bad reply"

abbrev pub command_fault_text : CommandFault → List ℕ
command_fault_text (Refused refusal) = run_refusal_text refusal
command_fault_text Memory = codes "out of memory"
