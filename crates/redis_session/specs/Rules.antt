-- How the replies to calls are made.
use Rattle.std.specs.Prelude.{◌≡◌, ◌≢◌, ℕ, Bool, true, false, List, Option, None, Some, slice_get}
use Rattle.std.specs.BTreeMap.{is_at}
use Rattle.std.specs.Map.{lookup, remove_entry}
use Rattle.std.specs.Ordering.{nat_cmp}
use Rattle.redis_session.specs.declared.rules.ReplyRule.{ReplyRule}
use Rattle.redis_session.specs.declared.rules.ReplyRule.TheVariants.{One, Several}

-- the rules that are kept, by the numbers of their calls
abbrev pub KeptRules : Type 0
KeptRules = List (ℕ × ReplyRule)

-- the rule of a call: `One`, if none is kept
abbrev pub rule_or_one : Option ReplyRule → ReplyRule
rule_or_one None = One
rule_or_one (Some rule) = rule

abbrev pub rule_in : KeptRules → ℕ → ReplyRule
rule_in kept call = rule_or_one (lookup (is_at (nat_cmp call)) kept)

-- what is kept once that of a call is forgotten
abbrev pub without : ℕ → KeptRules → KeptRules
without call kept = remove_entry (is_at (nat_cmp call)) kept

-- the reply is made of those of several nodes
abbrev pub is_several : ReplyRule → Bool
is_several (Several policy nodes) = true
is_several other = false

-- the node that a call of this rule asks its part of this number at, if the map had one
abbrev pub node_in : ReplyRule → ℕ → Option ℕ
node_in (Several policy nodes) part = slice_get nodes.items part
node_in other part = None

-- each other call has the rule that it had
abbrev pub KeepOthers : ℕ → KeptRules → KeptRules → Type 0
KeepOthers call old new = (other : ℕ) → other ≢ call → rule_in new other ≡ rule_in old other
