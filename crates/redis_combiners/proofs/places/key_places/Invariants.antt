use Rattle.std.proofs.Common.{◌≡◌, length, map, drop, option_map}
use Rattle.cluster_slots.specs.Lists.{flatten}
use Rattle.redis_combiners.specs.KeyPlaces.{all_places}
use Rattle.redis_combiners.proofs.Ahead.{before}
use Rattle.redis_combiners.proofs.places.key_places.Given as goal

abbrev pub invariant-loop-list : goal.invariant-loop-list
invariant-loop-list l = record {
  all : before l.all.items (option_map flatten (all_places l.pattern (map (λ l. l.1.items) (drop l.list-index l.lists)))) ≡ option_map flatten (all_places l.pattern (map (λ l. l.1.items) l.lists));
  counts : before l.counts.items (option_map (map length) (all_places l.pattern (map (λ l. l.1.items) (drop l.list-index l.lists)))) ≡ option_map (map length) (all_places l.pattern (map (λ l. l.1.items) l.lists));
}
