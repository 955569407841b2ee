-- The table of refused names in the code has the rows of that in specs/.
use Rattle.std.proofs.Common.{◌≡◌, ℕ, List, refl, map}
use Rattle.redis_routing.specs.Lookup.{has_name}
use Rattle.redis_cluster.specs.Refusals.{refused_names, is_refused}
use Rattle.redis_cluster.specs.declared.pipeline.refused_names.TheConstants.{REFUSED_NAMES}
use Rattle.redis_routing.proofs.Agree.{agree_names}

pub has_name-REFUSED_NAMES : (name : List ℕ) → has_name (map (λ n. n.now) REFUSED_NAMES) name ≡ is_refused name
unfolding is_refused
has_name-REFUSED_NAMES name = agree_names (map (λ n. n.now) REFUSED_NAMES) refused_names refl refl name
