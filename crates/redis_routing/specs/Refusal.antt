-- Why a name is not registered.
use Rattle.std.specs.Prelude.{ℕ, List, if◌then◌else◌, Option, None, Some, codes}
use Rattle.redis_routing.specs.Registry.{Registrations, is_bad_name, is_taken, is_bad_policy}
use Rattle.redis_routing.specs.declared.policy.ResponsePolicy.{ResponsePolicy}
use Rattle.redis_routing.specs.declared.registry.RegisterError.{RegisterError}
use Rattle.redis_routing.specs.declared.registry.RegisterError.TheVariants.{BadName, Taken, BadPolicy, Memory}

-- the first cause, memory aside. `FOO BAR` is a bad name whatever the policy, and `MGET` is taken.
-- `X` with the policy `Special` has a bad one.
abbrev pub register_error : Registrations → List ℕ → ResponsePolicy → Option RegisterError
register_error registry name policy =
    if is_bad_name name then Some BadName
    else if is_taken registry name then Some Taken
    else if is_bad_policy policy then Some BadPolicy
    else None

-- how a refusal is written
abbrev pub register_error_text : RegisterError → List ℕ
register_error_text BadName = codes "no name of a command"
register_error_text Taken = codes "the name is taken"
register_error_text BadPolicy = codes "not a policy of a split command"
register_error_text Memory = codes "out of memory"
