-- What tuples add to the reply, as it is kept until the reply is made.
use Rattle.std.specs.Prelude.{◌≡◌, ◌≢◌, ◌<◌, ◌≤◌, ◌+◌, ◌^◌, ℕ, List, map, count_by}
use Rattle.std.specs.Vec.{vec_len, vec_capacity}
use Rattle.resp_core.specs.View.{view}
use Rattle.redis_routing.specs.declared.policy.ResponsePolicy.{ResponsePolicy}
use Rattle.redis_routing.specs.declared.policy.ResponsePolicy.TheVariants.{CombineArrays}
use Rattle.redis_cluster.specs.Unsplit.{TupleResult}
use Rattle.memory_nodes.specs.declared.results.KeyResult.{KeyResult}
use Rattle.memory_nodes.specs.declared.results.Results.{Results}
use Rattle.memory_nodes.specs.declared.results.Results.TheVariants.{Values, Count}

-- what one tuple adds
abbrev pub result_of : KeyResult → TupleResult
result_of r = record { value = view r.value; counts = r.counts }

-- the values of these results are kept, or the number of those that count
unfoldable pub HoldResults : Results → List TupleResult → Type 0
HoldResults (Values values) results = map view values.items ≡ map (λ r. r.value) results
HoldResults (Count count) results = count ≡ count_by (λ r. r.counts) results

-- there is room for the results of this many tuples
unfoldable pub HaveRoom : Results → ℕ → Type 0
HaveRoom (Values values) tuples = vec_len values + tuples ≤ vec_capacity values
HaveRoom (Count count) tuples = count + tuples < 2 ^ 63

-- values are kept if the policy makes a list of them, and else a count
unfoldable pub FitPolicy : Results → ResponsePolicy → Type 0
FitPolicy (Values values) policy = policy ≡ CombineArrays
FitPolicy (Count count) policy = policy ≢ CombineArrays
